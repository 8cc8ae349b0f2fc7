-- Cited by private contracts alone: what a lent cartridge shows, what a read asks that nothing refuses, and the rest of
-- a read behind its first block.
use Rattle.std.specs.Prelude.{◌≡◌, List, ℕ, ◌+◌, ◌-◌, ◌*◌, ◌≤◌, ◌<◌, min, length, take}
use Rattle.block.specs.declared.Cartridge.{Cartridge}
use Rattle.block.specs.Image.{View, capacity_of, view}
use Rattle.reader.specs.Walk.{Answer, gather}
use Rattle.reader.specs.Reading.{read_answer}

-- what the places of a lent cartridge show
abbrev pub shown : Cartridge → View
shown t = view t.key.now t.id t.recording t.image.now

pub record Readable (key image : List ℕ) (p room : ℕ) : Type 0 where
  pub key24 : length key ≡ 24
  pub place : p < capacity_of image
  pub blocks : capacity_of image * 512 ≤ length image
  pub most : capacity_of image ≤ 128
  pub enough : 31232 ≤ room

-- what a read of it at p answers
abbrev pub answer_of : Cartridge → ℕ → Answer
answer_of t p = read_answer t.key.now t.id t.recording t.image.now p

-- the record that begins at p, whose first block stands in the front of the buffer
abbrev pub rest_answer : Cartridge → ℕ → List ℕ → Answer
rest_answer t p buffer = gather (min (capacity_of t.image.now - (p + 1)) 63) (shown t) (p + 1) (take 488 buffer)
