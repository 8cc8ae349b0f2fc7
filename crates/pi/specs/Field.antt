-- GF(2^8) with x^8 + x^4 + x^3 + x^2 + 1: its sum is xor, and its products come from doubling.
use Rattle.std.specs.Prelude.{ℕ, zero, suc, ◌*◌, ◌/◌, ◌%◌}
use Rattle.laws.specs.Xor.{xor}

-- x where the bit b is set
unfoldable pub only : ℕ → ℕ → ℕ
only zero x = 0
only (suc b) x = x

-- shift left one bit, drop what leaves the byte, and xor 1D where bit 7 was set
unfoldable pub double : ℕ → ℕ
double x = xor (x * 2 % 256) (only (x / 128 % 2) 0x1D)

-- the n low bits of c, times x
unfoldable pub times_bits : ℕ → ℕ → ℕ → ℕ
times_bits zero c x = 0
times_bits (suc n) c x = xor (only (c % 2) x) (times_bits n (c / 2) (double x))

unfoldable pub times : ℕ → ℕ → ℕ
times c x = times_bits 8 c x
