-- Laws of mapped addresses, shaped as the arms and tests of the code hand their facts over; and that none is left.
-- Assumes nothing.
use Prim.Native.Nat.{ℕ, ◌%◌}
use mathlib.Core.Bool.{Bool, true, false}
use mathlib.Core.Path.{◌≡◌, refl}
use Rattle.text.specs.Basics.{when◌then◌else◌}
use Rattle.address.specs.declared.Addr.{Addr}
use Rattle.address.specs.declared.Addr.TheVariants as A
use Rattle.address.specs.Mapped.{is_mapped, unmapped}

module _ (a : Addr) where
  pub unmapped_unknown : a ≡ A.Unknown → A.Unknown ≡ unmapped a
  unfolding unmapped
  unmapped_unknown e = rw e

  pub unmapped_v4 : (n : ℕ) → a ≡ A.V4 n → A.V4 n ≡ unmapped a
  unfolding unmapped
  unmapped_v4 n e = rw e

  module _ (high low : ℕ) (e : a ≡ A.V6 high low) (b : Bool) (is_b : b ≡ is_mapped (A.V6 high low)) where
    pub unmapped_mapped : b ≡ true → A.V4 (low % 4294967296) ≡ unmapped a
    unfolding unmapped
    unmapped_mapped f = rw (e, ← is_b, f)

    pub unmapped_other : b ≡ false → A.V6 high low ≡ unmapped a
    unfolding unmapped
    unmapped_other f = rw (e, ← is_b, f)

pub none_mapped : (a : Addr) → is_mapped (unmapped a) ≡ false
unfolding unmapped is_mapped
none_mapped A.Unknown = refl
none_mapped (A.V4 n) = refl
none_mapped (A.V6 high low) = by (is_mapped (A.V6 high low)) refl
  where
    by : (b : Bool) → is_mapped (A.V6 high low) ≡ b → is_mapped (when b then A.V4 (low % 4294967296) else A.V6 high low) ≡ false
    by true e = refl
    by false e = e
