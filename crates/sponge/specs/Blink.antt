-- The four BLNK block operations (FORMAT, "Block operations"; the paper, 1.2.1), by groups of 32 bytes; what a call promises.
use Rattle.std.specs.Prelude.{◌≡◌, ◌&&◌, List, [], ◌++◌, ℕ, zero, suc, ◌-◌, ◌*◌, ◌/◌, eqb, leb, ltb, length, get_or, set, take, drop}
use Rattle.laws.specs.Choose.{pick, first_of}
use Rattle.laws.specs.Lists.{splice}
use Rattle.laws.specs.Xor.{xor}
use Rattle.pi.specs.Permutation.{π, added, is_state}

pub data Op : Type 0 where
  put : Op
  get : Op
  enc : Op
  dec : Op

-- ---- a group: what it leaves in the state v, and what it gives
unfoldable pub kept : Op → List ℕ → List ℕ → List ℕ
kept put v g = added g v
kept get v g = v
kept enc v g = added g v
kept dec v g = splice v 0 g

unfoldable pub given : Op → List ℕ → List ℕ → List ℕ
given put v g = []
given get v g = take (length g) v
given enc v g = take (length g) (added g v)
given dec v g = take (length g) (added g v)

-- ---- the padding, one for all four: x into byte i by xor
unfoldable pub into : ℕ → ℕ → List ℕ → List ℕ
into i x v = set v i (xor (get_or v i 0) x)

-- between groups the domain byte alone into byte 32
unfoldable pub pad_between : ℕ → List ℕ → List ℕ
pad_between domain v = into 32 domain v

-- at the close 01 into byte n, which is 32 behind a full group, then 02 and the domain byte into byte 32
unfoldable pub pad_close : ℕ → ℕ → List ℕ → List ℕ
pad_close domain n v = into 32 (xor 0x02 domain) (into n 0x01 v)

-- ---- an operation on the bytes s: its groups, and one π for each; an operation of no bytes has one empty group
unfoldable pub group : List ℕ → ℕ → List ℕ
group s k = take 32 (drop (k * 32) s)

unfoldable pub runs : List ℕ → ℕ
runs s = suc ((length s - 1) / 32)

-- the state after k groups
unfoldable pub met : Op → ℕ → List ℕ → List ℕ → ℕ → List ℕ
met op domain v s zero = v
met op domain v s (suc k) =
    π
    (pick (ltb (suc k) (runs s)) (pad_between domain) (pad_close domain (length (group s k))) (kept op (met op domain v s k) (group s k)))

-- what k groups give
unfoldable pub gave : Op → ℕ → List ℕ → List ℕ → ℕ → List ℕ
gave op domain v s zero = []
gave op domain v s (suc k) = gave op domain v s k ++ given op (met op domain v s k) (group s k)

-- the state and the bytes at the end
unfoldable pub after : Op → ℕ → List ℕ → List ℕ → List ℕ
after op domain v s = met op domain v s (runs s)

unfoldable pub out : Op → ℕ → List ℕ → List ℕ → List ℕ
out op domain v s = gave op domain v s (runs s)

-- ---- what a call gives. 2: the state has not 64 bytes, or the buffer o not the length of s; 9: over 65,536 bytes
unfoldable pub number : List ℕ → List ℕ → List ℕ → ℕ
number v s o = first_of (is_state v && eqb (length o) (length s)) 2 (first_of (leb (length s) 65536) 9 0)

-- put: the state alone
pub record Put (domain : ℕ) (s v : List ℕ) (r : ℕ) (v' : List ℕ) : Type 0 where
  pub code : r ≡ number v s s
  pub state : v' ≡ pick (eqb (number v s s) 0) (after put domain v s) v

-- get, enc, dec: the state and the receiving buffer. Of get's s the length alone counts: it is the receiving buffer as it was
pub record Ran (op : Op) (domain : ℕ) (s v o : List ℕ) (r : ℕ) (v' o' : List ℕ) : Type 0 where
  pub code : r ≡ number v s o
  pub state : v' ≡ pick (eqb (number v s o) 0) (after op domain v s) v
  pub bytes : o' ≡ pick (eqb (number v s o) 0) (out op domain v s) o
