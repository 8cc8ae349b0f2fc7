-- An image as 512-byte blocks (FORMAT, "The cartridge image"), and what a key shows of it.
use Rattle.std.specs.Prelude.{Bool, ◌&&◌, List, [], ◌∷◌, ℕ, suc, ◌*◌, ◌/◌, ◌%◌, eqb, leb, length, take, drop}
use Rattle.laws.specs.Choose.{first_of}
use Rattle.laws.specs.Lists.{splice}
use Rattle.aead.specs.Sealing.{key_ok}
use Rattle.block.specs.Content.{Content}
use Rattle.block.specs.Format.{seal_block, open_block}

-- capacity: the number of blocks
unfoldable pub capacity_of : List ℕ → ℕ
capacity_of image = length image / 512

-- 4 to 128 whole blocks
unfoldable pub size_ok : ℕ → Bool
size_ok n = eqb (n % 512) 0 && (leb 2048 n && leb n 65536)

unfoldable pub image_ok : List ℕ → Bool
image_ok image = size_ok (length image)

-- what every call on an image under a key asks first: 1 the image, 2 the key; then the rest
unfoldable pub image_then_key : List ℕ → List ℕ → ℕ → ℕ
image_then_key key image rest = first_of (image_ok image) 1 (first_of (key_ok key) 2 rest)

-- the bytes of block p
unfoldable pub block_at : List ℕ → ℕ → List ℕ
block_at image p = take 512 (drop (512 * p) image)

-- what a place shows: a view of the cartridge
abbrev pub View : Type 0
View = ℕ → Content

unfoldable pub view : List ℕ → ℕ → ℕ → List ℕ → View
view key id recording image p = open_block key id recording p (block_at image p)

-- ---- blocks laid
unfoldable pub set_block : List ℕ → ℕ → List ℕ → List ℕ
set_block image p b = splice image (512 * p) b

-- the blocks bs, sealed, at p and on
unfoldable pub lay : List ℕ → ℕ → ℕ → List ℕ → ℕ → List Content → List ℕ
lay key id recording image p [] = image
lay key id recording image p (b ∷ bs) = lay key id recording (set_block image p (seal_block key id recording p b)) (suc p) bs
