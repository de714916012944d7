-- Laws of counts that stop at the largest number of 64 bits.
-- Assumes nothing.
use Prim.Native.Nat.{ℕ, ◌+◌, ◌-◌, ◌<◌, ◌≤◌}
use mathlib.Core.Bool.{Bool, true, false}
use mathlib.Core.Path.{◌≡◌, refl, sym, ap, ◌∙◌}
use native.Mathlib.Omega.{arith}
use borrow.Author.Tests.{ltb-true, ltb-false, lt-ltb, le-ltb}
use lib.Dec.{ltb}
use Rattle.text.specs.Basics.{when◌then◌else◌}
use Rattle.tables.specs.Tried.{capped}
use Rattle.elements.specs.Code.{counted}

pub add_over : (a b : ℕ) → 18446744073709551615 - a < b → 18446744073709551615 ≡ capped (a + b)
unfolding capped
add_over a b h = rw (le-ltb (a + b) 18446744073709551616 (omega arith))

pub add_within : (a b : ℕ) → b ≤ 18446744073709551615 - a → a < 18446744073709551616 → a + b ≡ capped (a + b)
unfolding capped
add_within a b h k = rw (lt-ltb (a + b) 18446744073709551616 (omega arith))

pub counted_looked : (look : Bool) → look ≡ true → (n r : ℕ) → r ≡ capped (1 + n) → r ≡ counted look (capped (1 + n))
counted_looked look e n r is-r = rw e is-r

pub counted_passed : (look : Bool) → look ≡ false → (n : ℕ) → 0 ≡ counted look (capped (1 + n))
counted_passed look e n = rw e

pub capped_lt : (n : ℕ) → capped n < 18446744073709551616
unfolding capped
capped_lt n = by (ltb n 18446744073709551616) refl
  where
    by : (b : Bool) → ltb n 18446744073709551616 ≡ b → (when b then n else 18446744073709551615) < 18446744073709551616
    by true e = ltb-true n 18446744073709551616 e
    by false e = omega arith

pub capped_small : (n : ℕ) → n < 18446744073709551616 → capped n ≡ n
unfolding capped
capped_small n h = rw (lt-ltb n 18446744073709551616 h)

capped_top : (n : ℕ) → 18446744073709551615 ≤ n → capped n ≡ 18446744073709551615
unfolding capped
capped_top n h = by (ltb n 18446744073709551616) refl
  where
    by : (b : Bool) → ltb n 18446744073709551616 ≡ b → (when b then n else 18446744073709551615) ≡ 18446744073709551615
    by true e = omega (arith, ltb-true n 18446744073709551616 e)
    by false e = refl

-- a count that was capped before
pub capped_add : (a b : ℕ) → capped (a + capped b) ≡ capped (a + b)
capped_add a b = by (ltb b 18446744073709551616) refl
  where
    by : (c : Bool) → ltb b 18446744073709551616 ≡ c → capped (a + capped b) ≡ capped (a + b)
    by true e = ap (λ (x : ℕ). capped (a + x)) (capped_small b (ltb-true b 18446744073709551616 e))
    by false e =
        let h : 18446744073709551616 ≤ b = ltb-false b 18446744073709551616 e in
        let k : capped b ≡ 18446744073709551615 = capped_top b (omega arith) in
        capped_top (a + capped b) (omega arith) ∙ sym (capped_top (a + b) (omega arith))

pub capped_twice : (n : ℕ) → capped (capped n) ≡ capped n
capped_twice n = capped_small (capped n) (capped_lt n)

swap : (a b : ℕ) → a + b ≡ b + a
swap a b = omega arith

pub capped_left : (a b : ℕ) → capped (capped a + b) ≡ capped (a + b)
capped_left a b = ap capped (swap (capped a) b) ∙ capped_add b a ∙ ap capped (swap b a)

pub capped_both : (a b x y : ℕ) → capped a ≡ capped x → capped b ≡ capped y → capped (a + b) ≡ capped (x + y)
capped_both a b x y e f =
    sym (capped_left a b) ∙ ap (λ (n : ℕ). capped (n + b)) e ∙ capped_left x b
    ∙ sym (capped_add x b) ∙ ap (λ (n : ℕ). capped (x + n)) f ∙ capped_add x y

-- a part of the sum that was capped, and then the rest of it
pub capped_then : (a b c : ℕ) → capped (capped (a + capped b) + c) ≡ capped (a + (b + c))
capped_then a b c =
    let f : (a + b) + c ≡ a + (b + c) = omega arith in
    capped_left (a + capped b) c ∙ capped_both (a + capped b) c (a + b) c (capped_add a b) refl ∙ ap capped f

pub capped_le : (n : ℕ) → capped n ≤ n
unfolding capped
capped_le n = by (ltb n 18446744073709551616) refl
  where
    by : (b : Bool) → ltb n 18446744073709551616 ≡ b → (when b then n else 18446744073709551615) ≤ n
    by true e = omega arith
    by false e = omega (arith, ltb-false n 18446744073709551616 e)
