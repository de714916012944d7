-- Document 02, request 5: "a comparison bit by bit", which same_prefix (Address.antt) is claimed to be equal to.
--   bit_at w i a      == the bit of a, a number of w bits, at place i from the most significant
--   same_bits w m a b == the first m bits of a and b are equal, compared one by one
-- Assumes nothing: these are definitions.
use Rattle.std.specs.Prelude.{ℕ, zero, suc, ◌-◌, ◌/◌, ◌%◌, ◌^◌, Bool, true, ◌&&◌, eqb}

abbrev pub bit_at : ℕ → ℕ → ℕ → ℕ
bit_at w i a = a / 2 ^ (w - suc i) % 2

unfoldable pub same_bits : ℕ → ℕ → ℕ → ℕ → Bool
same_bits w zero a b = true
same_bits w (suc m) a b = same_bits w m a b && eqb (bit_at w m a) (bit_at w m b)
