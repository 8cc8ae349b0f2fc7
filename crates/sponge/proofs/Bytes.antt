-- Bytes in, bytes out: what an operation leaves and gives is below 256 where what it takes is.
-- Assumes nothing.
use mathlib.Core.Path.{◌∙◌}
use mathlib.Core.Bool.{Bool, true, false}
use mathlib.Core.List.{List}
use mathlib.Core.Logic.{⊎_elim}
use Prim.Native.Nat.{ℕ, zero, suc, ◌*◌, ◌≤◌, ◌<◌}
use native.Mathlib.Omega.{arith}
use lib.Dec.{lit<, ltb}
use lib.ListN.{length, get_or, drop, length-set, get_or-eq_default}
use Rattle.laws.specs.Xor.{xor}
use Rattle.laws.specs.Choose.{pick}
use Rattle.laws.specs.Lists.{AllBytes}
use Rattle.laws.proofs.ByteLaws.{bytes_nil, bytes_take, bytes_drop, bytes_append, bytes_set, bytes_splice}
use Rattle.laws.proofs.OrderLaws.{lt_or_ge}
use Rattle.laws.proofs.XorLaws.{xor_byte}
use Rattle.pi.specs.Permutation.{added}
use Rattle.pi.proofs.Build.{state_at}
use Rattle.pi.proofs.RoundLaws.{π_full}
use Rattle.pi.proofs.StateLaws.{Full}
use Rattle.sponge.specs.Blink.{Op, put, get, enc, dec, kept, given, into, pad_between, pad_close, group, runs, met, gave, after, out}
use Rattle.sponge.proofs.Groups.{length_added}
use Rattle.sponge.proofs.Lengths.{length_kept, length_group}

-- ---- one group
module _ (v g : List ℕ) (w : Full v) (h : AllBytes g) where
  added_bytes : AllBytes (added g v)
  unfolding added
  added_bytes k =
      ⊎_elim (λ l. rw (state_at _ k l) (xor_byte (get_or v k 0) (get_or g k 0) (w.bytes k) (h k)))
      (λ l. rw (get_or-eq_default (added g v) 0 {n = k} (omega (arith, length_added g v))) (lit< tt)) (lt_or_ge k 64)

  kept_bytes : (op : Op) → AllBytes (kept op v g)
  unfolding kept
  kept_bytes put = added_bytes
  kept_bytes get = w.bytes
  kept_bytes enc = added_bytes
  kept_bytes dec = bytes_splice v 0 g w.bytes h

  given_bytes : (op : Op) → AllBytes (given op v g)
  unfolding given
  given_bytes put = bytes_nil
  given_bytes get = bytes_take (length g) v w.bytes
  given_bytes enc = bytes_take (length g) (added g v) added_bytes
  given_bytes dec = bytes_take (length g) (added g v) added_bytes

  kept_full : (op : Op) → length g ≤ 64 → Full (kept op v g)
  kept_full op b = record { long = length_kept op v g w.long b; bytes = kept_bytes op }

-- ---- the padding
into_full : (i x : ℕ) (v : List ℕ) → x < 256 → Full v → Full (into i x v)
unfolding into
into_full i x v h w =
    record {
      long = length-set v i (xor (get_or v i 0) x) ∙ w.long;
      bytes = bytes_set v i (xor (get_or v i 0) x) w.bytes (xor_byte (get_or v i 0) x (w.bytes i) h);
    }

padded_full : (more : Bool) (domain n : ℕ) (v : List ℕ) → domain < 256 → Full v → Full (pick more (pad_between domain) (pad_close domain n) v)
unfolding pad_between pad_close
padded_full true domain n v h w = into_full 32 domain v h w
padded_full false domain n v h w =
    into_full 32 (xor 0x02 domain) (into n 0x01 v) (xor_byte 0x02 domain (lit< tt) h) (into_full n 0x01 v (lit< tt) w)

-- ---- the groups of s
module _ (op : Op) (domain : ℕ) (v s : List ℕ) (small : domain < 256) (w : Full v) (h : AllBytes s) where
  group_bytes : (k : ℕ) → AllBytes (group s k)
  unfolding group
  group_bytes k = bytes_take 32 (drop (k * 32) s) (bytes_drop (k * 32) s h)

  pub met_full : (k : ℕ) → Full (met op domain v s k)
  unfolding met
  met_full zero = w
  met_full (suc k) =
      π_full _ (padded_full (ltb (suc k) (runs s)) domain (length (group s k)) _ small
      (kept_full (met op domain v s k) (group s k) (met_full k) (group_bytes k) op (omega (arith, length_group s k))))

  gave_bytes : (k : ℕ) → AllBytes (gave op domain v s k)
  unfolding gave
  gave_bytes zero = bytes_nil
  gave_bytes (suc k) =
      bytes_append (gave op domain v s k) _ (gave_bytes k) (given_bytes (met op domain v s k) (group s k) (met_full k) (group_bytes k) op)

  pub after_full : Full (after op domain v s)
  unfolding after
  after_full = met_full (runs s)

  pub out_bytes : (k : ℕ) → get_or (out op domain v s) k 0 < 256
  unfolding out
  out_bytes = gave_bytes (runs s)
