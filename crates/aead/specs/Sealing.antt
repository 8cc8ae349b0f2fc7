-- Sealing and opening (FORMAT, "Sealing and opening"; NUMBERS; the paper, 1.2.2); what a call promises.
use Rattle.std.specs.Prelude.{◌≡◌, Bool, ◌&&◌, List, ◌++◌, ℕ, ◌+◌, ◌-◌, eqb, leb, length, take, drop, replicate}
use Rattle.laws.specs.Choose.{pick, first_of}
use Rattle.laws.specs.Lists.{same}
use Rattle.sponge.specs.Blink.{put, enc, dec, after, out}

-- ---- the state that key, nonce and associated data leave: each goes in under its own domain byte
unfoldable pub keyed : List ℕ → List ℕ → List ℕ → List ℕ
keyed key nonce associated = after put 0x40 (after put 0x20 (after put 0x10 (replicate 64 0) key) nonce) associated

-- ---- sealing: the ciphertext, then the tag, which is the state's bytes 0 to 15 with no π run for it
unfoldable pub sealed_from : List ℕ → List ℕ → List ℕ
sealed_from v message = out enc 0x50 v message ++ take 16 (after enc 0x50 v message)

unfoldable pub sealed : List ℕ → List ℕ → List ℕ → List ℕ → List ℕ
sealed key nonce associated message = sealed_from (keyed key nonce associated) message

-- ---- opening: the same with dec; all 16 bytes of the tag are compared
unfoldable pub cipher_of : List ℕ → List ℕ
cipher_of text = take (length text - 16) text

unfoldable pub tag_of : List ℕ → List ℕ
tag_of text = drop (length text - 16) text

unfoldable pub opened_from : List ℕ → List ℕ → List ℕ
opened_from v text = out dec 0x50 v (cipher_of text)

unfoldable pub fits_from : List ℕ → List ℕ → Bool
fits_from v text = same (take 16 (after dec 0x50 v (cipher_of text))) (tag_of text)

unfoldable pub opened : List ℕ → List ℕ → List ℕ → List ℕ → List ℕ
opened key nonce associated text = opened_from (keyed key nonce associated) text

unfoldable pub fits : List ℕ → List ℕ → List ℕ → List ℕ → Bool
fits key nonce associated text = fits_from (keyed key nonce associated) text

-- ---- numbers. A key has 24 bytes
unfoldable pub key_ok : List ℕ → Bool
key_ok key = eqb (length key) 24

-- 2: key, nonce or receiving buffer of a wrong length, or a sealed text under 16 bytes, which no buffer fits
unfoldable pub sized : List ℕ → List ℕ → ℕ → ℕ → Bool
sized key nonce long short = key_ok key && (eqb (length nonce) 16 && eqb long (short + 16))

-- 9: associated data or message above its limit
unfoldable pub limited : List ℕ → ℕ → Bool
limited associated short = leb (length associated) 65536 && leb short 65520

unfoldable pub seal_number : List ℕ → List ℕ → List ℕ → List ℕ → List ℕ → ℕ
seal_number key nonce associated message o =
    first_of (sized key nonce (length o) (length message)) 2 (first_of (limited associated (length message)) 9 0)

-- 7: the tag does not fit
unfoldable pub open_number : List ℕ → List ℕ → List ℕ → List ℕ → List ℕ → ℕ
open_number key nonce associated text o =
    first_of (sized key nonce (length text) (length o)) 2
    (first_of (limited associated (length o)) 9 (first_of (fits key nonce associated text) 7 0))

-- ---- what a call leaves in the receiving buffer o, by its number
unfoldable pub seal_leaves : List ℕ → List ℕ → List ℕ → List ℕ → List ℕ → List ℕ
seal_leaves key nonce associated message o =
    pick (eqb (seal_number key nonce associated message o) 0) (sealed key nonce associated message) o

unfoldable pub open_leaves : List ℕ → List ℕ → List ℕ → List ℕ → List ℕ → List ℕ
open_leaves key nonce associated text o =
    pick (eqb (open_number key nonce associated text o) 0) (opened key nonce associated text)
    (pick (eqb (open_number key nonce associated text o) 7) (replicate (length o) 0) o)

pub record Sealed (key nonce associated message o : List ℕ) (r : ℕ) (o' : List ℕ) : Type 0 where
  pub code : r ≡ seal_number key nonce associated message o
  pub bytes : o' ≡ seal_leaves key nonce associated message o

pub record Opened (key nonce associated text o : List ℕ) (r : ℕ) (o' : List ℕ) : Type 0 where
  pub code : r ≡ open_number key nonce associated text o
  pub bytes : o' ≡ open_leaves key nonce associated text o
