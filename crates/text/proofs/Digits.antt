-- Laws of digits: a number from its digits, and the digits of a number, are each other's inverses.
-- Assumes nothing.
use Prim.Native.Nat.{ℕ, zero, suc, ◌+◌, ◌*◌, ◌/◌, ◌%◌, ◌^◌, ◌<◌, ◌≤◌}
use mathlib.Core.Bool.{Bool, true, false, ◌&&◌}
use mathlib.Core.List.{List, [], ◌∷◌, ◌++◌}
use mathlib.Core.Path.{◌≡◌, refl, sym, ap, ap₂, ◌∙◌}
use native.Mathlib.Omega.{arith}
use native.Mathlib.Nat.{div-add-mod', div-lt_iff_lt-mul, mul-add-div_right, mod-lt, mul-add-mod_self_right, div-eq_of_lt, mod-eq_of_lt, pow-zero, pow-suc}
use borrow.Author.Tests.{ltb-true, lt-ltb}
use lib.Dec.{ltb}
use lib.ListN.{length, take, get_or, length-append}
use lib.Seq.{take-suc, take_all}
use Rattle.text.specs.Basics.{all}
use Rattle.text.specs.Number.{from_digits, to_digits}
use Rattle.text.proofs.BasicLaws.{all_get_d, all_append}

pub from_digits_append : (b a : ℕ) (s t : List ℕ) → from_digits b a (s ++ t) ≡ from_digits b (from_digits b a s) t
unfolding from_digits
from_digits_append b a [] t = refl
from_digits_append b a (d ∷ s) t = from_digits_append b (a * b + d) s t

pub length_to_digits : (b k n : ℕ) → length (to_digits b k n) ≡ k
unfolding to_digits
length_to_digits b zero n = refl
length_to_digits b (suc k) n = simp (length-append, length_to_digits b k (n / b)) (omega arith)

-- a number's last digit, and what stands before it
pub div_last : (b x d : ℕ) → d < b → (x * b + d) / b ≡ x
div_last b x d h = mul-add-div_right (omega arith) x d ∙ ap (λ (q : ℕ). x + q) (div-eq_of_lt h) ∙ omega arith

pub mod_last : (b x d : ℕ) → d < b → (x * b + d) % b ≡ d
mod_last b x d h = mul-add-mod_self_right x b d ∙ mod-eq_of_lt h

-- every digit is below the base
pub to_digits_below : (b k n : ℕ) → 0 < b → all (λ d. ltb d b) (to_digits b k n) ≡ true
unfolding to_digits all
to_digits_below b zero n h = refl
to_digits_below b (suc k) n h =
    all_append (λ d. ltb d b) (to_digits b k (n / b)) (n % b ∷ []) (to_digits_below b k (n / b) h) (rw (lt-ltb (n % b) b (mod-lt n h)))

pub from_digits_to_digits : (b k n : ℕ) → 0 < b → n < b ^ k → from_digits b 0 (to_digits b k n) ≡ n
unfolding to_digits from_digits
from_digits_to_digits b zero n h lt = omega (arith, pow-zero b)
from_digits_to_digits b (suc k) n h lt =
    from_digits_append b 0 (to_digits b k (n / b)) (n % b ∷ [])
    ∙ ap (λ (x : ℕ). x * b + n % b) (from_digits_to_digits b k (n / b) h ((div-lt_iff_lt-mul h).1 (rw (pow-suc b k) at lt)))
    ∙ div-add-mod' n b

-- the digits of the number that the first k of ds write are those k, whatever stands before them
front : (b a : ℕ) (ds : List ℕ) → all (λ d. ltb d b) ds ≡ true → (k : ℕ) → k ≤ length ds → to_digits b k (from_digits b a (take k ds)) ≡ take k ds
unfolding to_digits from_digits
front b a ds e zero h = refl
front b a ds e (suc k) h =
    let small : get_or ds k 0 < b = ltb-true (get_or ds k 0) b (all_get_d (λ d. ltb d b) ds k 0 e (omega arith)) in
    let x : ℕ = from_digits b a (take k ds) in
    rw (
      take-suc ds k 0,
      from_digits_append b a (take k ds) (get_or ds k 0 ∷ []),
      div_last b x (get_or ds k 0),
      mod_last b x (get_or ds k 0),
      front b a ds e k (omega arith),
    )

pub to_digits_from_digits : (b a : ℕ) (ds : List ℕ) → all (λ d. ltb d b) ds ≡ true → to_digits b (length ds) (from_digits b a ds) ≡ ds
to_digits_from_digits b a ds e = rw (take_all (length ds) ds (omega arith)) at (front b a ds e (length ds) (omega arith))
