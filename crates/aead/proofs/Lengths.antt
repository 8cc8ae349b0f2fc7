-- What the tests of the numbers 2 and 9 say of lengths, and the lengths of what sealing and opening give.
-- Assumes nothing.
use borrow.Author.Tests.{eqb-true, leb-true, eq-eqb, le-leb}
use mathlib.Core.Path.{◌≡◌, ◌∙◌}
use mathlib.Core.Bool.{true, ◌&&◌}
use mathlib.Core.List.{List}
use Prim.Native.Nat.{ℕ, ◌+◌, ◌-◌, ◌≤◌}
use native.Mathlib.Omega.{arith}
use lib.Dec.{eqb, leb}
use lib.ListN.{length, length-append, length-take}
use Rattle.laws.proofs.ChooseLaws.{both_left, both_right}
use lib.Seq.{length-take-le}
use Rattle.sponge.specs.Blink.{put, enc, dec}
use Rattle.sponge.proofs.Lengths.{length_after, length_out}
use Rattle.aead.specs.Sealing.{keyed, cipher_of, sealed_from, sealed, opened_from, opened, key_ok, sized, limited}

pub key_ok_lem : (key : List ℕ) → length key ≡ 24 → key_ok key ≡ true
unfolding key_ok
key_ok_lem key h = eq-eqb (length key) 24 h

pub key_24 : (key : List ℕ) → key_ok key ≡ true → length key ≡ 24
unfolding key_ok
key_24 key e = eqb-true (length key) 24 e

pub record Sizes (key nonce : List ℕ) (long short : ℕ) : Type 0 where
  pub key24 : length key ≡ 24
  pub nonce16 : length nonce ≡ 16
  pub more16 : long ≡ short + 16

pub record Limits (associated : List ℕ) (short : ℕ) : Type 0 where
  pub associated_most : length associated ≤ 65536
  pub short_most : short ≤ 65520

pub sizes : (key nonce : List ℕ) (long short : ℕ) → sized key nonce long short ≡ true → Sizes key nonce long short
unfolding sized
sizes key nonce long short e =
    let f = both_right (key_ok key) (eqb (length nonce) 16 && eqb long (short + 16)) e in
    record {
      key24 = key_24 key (both_left (key_ok key) _ e);
      nonce16 = eqb-true (length nonce) 16 (both_left (eqb (length nonce) 16) (eqb long (short + 16)) f);
      more16 = eqb-true long (short + 16) (both_right (eqb (length nonce) 16) (eqb long (short + 16)) f);
    }

pub sized_holds : (key nonce : List ℕ) (long short : ℕ) → Sizes key nonce long short → sized key nonce long short ≡ true
unfolding sized
sized_holds key nonce long short s = rw (key_ok_lem key s.key24, eq-eqb (length nonce) 16 s.nonce16, eq-eqb long (short + 16) s.more16)

pub limits : (associated : List ℕ) (short : ℕ) → limited associated short ≡ true → Limits associated short
unfolding limited
limits associated short e =
    record {
      associated_most = leb-true (length associated) 65536 (both_left (leb (length associated) 65536) (leb short 65520) e);
      short_most = leb-true short 65520 (both_right (leb (length associated) 65536) (leb short 65520) e);
    }

pub limited_holds : (associated : List ℕ) (short : ℕ) → Limits associated short → limited associated short ≡ true
unfolding limited
limited_holds associated short l = rw (le-leb (length associated) 65536 l.associated_most, le-leb short 65520 l.short_most)

pub length_keyed : (key nonce associated : List ℕ) → length (keyed key nonce associated) ≡ 64
unfolding keyed
length_keyed key nonce associated = length_after put 0x40 _ associated

pub length_sealed_from : (v message : List ℕ) → length v ≡ 64 → length (sealed_from v message) ≡ length message + 16
unfolding sealed_from
length_sealed_from v message h = simp (length-append, length-take, length_after, length_out enc tt) (omega arith)

pub length_sealed : (key nonce associated message : List ℕ) → length (sealed key nonce associated message) ≡ length message + 16
unfolding sealed
length_sealed key nonce associated message = length_sealed_from (keyed key nonce associated) message (length_keyed key nonce associated)

pub length_opened : (key nonce associated text : List ℕ) → length (opened key nonce associated text) ≡ length text - 16
unfolding opened opened_from cipher_of
length_opened key nonce associated text =
    length_out dec tt 0x50 (keyed key nonce associated) (cipher_of text) (length_keyed key nonce associated)
    ∙ length-take-le (length text - 16) text (omega arith)
