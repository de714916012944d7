-- Laws of what was read, by what the code answers.
-- Assumes nothing.
use Rattle.std.specs.Prelude.{None, Option, Some}
use Prim.Native.Nat.{ℕ, ◌≤◌}
use mathlib.Core.Bool.{Bool, true, false, ◌&&◌}
use mathlib.Core.List.{List}
use mathlib.Core.Path.{◌≡◌, refl}
use native.Mathlib.Omega.{arith}
use borrow.Author.Tests.{leb-true}
use lib.Dec.{leb}
use Rattle.text.specs.Basics.{given}
use Rattle.text.specs.Text.{equal}
use Rattle.text.specs.Number.{read_decimal, decimal}
use Rattle.text.proofs.BasicLaws.{and_true}
use Rattle.text.proofs.Canonical.{value}

pub read_decimal_le : (m n : ℕ) (t : List ℕ) → read_decimal m t ≡ Some n → n ≤ m
unfolding read_decimal
read_decimal_le m n t e = by (leb (value t) m && equal t (decimal (value t))) refl e
  where
    by : (b : Bool) → (leb (value t) m && equal t (decimal (value t))) ≡ b → given b (value t) ≡ Some n → n ≤ m
    by true p q = let z : value t ≡ n = cc in omega (arith, leb-true (value t) m (and_true (leb (value t) m) (equal t (decimal (value t))) p).0)
    by false p q = let z : ◌≡◌ {A = ℕ} 0 1 = cc in absurd (omega arith)

-- what was read, by what the code answers
pub as_number_none : (o : Option ℕ) → o ≡ None → o ≡ None
as_number_none None e = refl
as_number_none (Some n) e = let z : ◌≡◌ {A = ℕ} 0 1 = cc in absurd (omega arith)

pub as_number_some : (o : Option ℕ) (n : ℕ) → o ≡ Some n → o ≡ Some n
as_number_some None n e = let z : ◌≡◌ {A = ℕ} 0 1 = cc in absurd (omega arith)
as_number_some (Some m) n e = cc
