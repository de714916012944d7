-- Laws of numerals: the value, the length and the bytes of a numeral, over its base; and reading one gives its number back.
-- Assumes nothing.
use Rattle.std.specs.Prelude.{None, Some}
use Prim.Native.Nat.{ℕ, zero, suc, ◌+◌, ◌-◌, ◌/◌, ◌%◌, ◌^◌, ◌<◌, ◌≤◌}
use mathlib.Core.Bool.{Bool, true, false, ◌&&◌, true≢false}
use mathlib.Core.List.{List, [], ◌∷◌, ◌++◌, map, map-append}
use mathlib.Core.Path.{◌≡◌, refl, sym, ap, ◌∙◌}
use native.Mathlib.Omega.{arith}
use native.Mathlib.Nat.{div-add-mod', div-lt_iff_lt-mul, mod-lt, mod-eq_of_lt, pow-zero, pow-suc}
use borrow.Author.Tests.{ltb-true, ltb-false, lt-ltb, le-leb, lt-leb}
use lib.Dec.{leb, ltb}
use lib.ListN.{length, length-append}
use Rattle.text.specs.Basics.{when◌then◌else◌, given, all}
use Rattle.text.specs.Text.{equal, is_digit, lower}
use Rattle.text.specs.Number.{from_digits, digit_byte, digit_value, numeral, decimal, read_decimal}
use Rattle.text.proofs.BasicLaws.{and_true, all_append}
use Rattle.text.proofs.Digits.{from_digits_append}
use Rattle.text.proofs.ScanLaws.{equal_refl, eq_of_equal}

-- ## Digits and their bytes

-- either way to write a digit keeps what holds of both
pub digit_byte_cases : (P : ℕ → Type 0) (d : ℕ) → (d < 10 → P (48 + d)) → (10 ≤ d → P (97 + (d - 10))) → P (digit_byte d)
digit_byte_cases P d f g = by (ltb d 10) refl
  where
    by : (t : Bool) → ltb d 10 ≡ t → P (digit_byte d)
    by true e = rw e (f (ltb-true d 10 e))
    by false e = rw e (g (ltb-false d 10 e))

pub digit_value_digit_byte : (d : ℕ) → d < 16 → digit_value (digit_byte d) ≡ d
unfolding lower
digit_value_digit_byte d h =
    digit_byte_cases
    (λ (c : ℕ). digit_value c ≡ d)
    d
    (λ k. rw (le-leb 48 (48 + d) (omega arith), le-leb (48 + d) 57 (omega arith)) (omega arith))
    (λ k. rw (
      le-leb 48 (97 + (d - 10)) (omega arith),
      lt-leb (97 + (d - 10)) 57 (omega arith),
      le-leb 65 (97 + (d - 10)) (omega arith),
      lt-leb (97 + (d - 10)) 90 (omega arith),
    ) (omega arith))

pub is_digit_digit_byte : (d : ℕ) → d < 10 → is_digit (digit_byte d) ≡ true
is_digit_digit_byte d h = rw (lt-ltb d 10, le-leb 48 (48 + d) (omega arith), le-leb (48 + d) 57 (omega arith))

-- ## Numerals

-- what holds of no digits, of one digit, and with one digit more, holds of every numeral
numeral_ind : (b : ℕ) (P : ℕ → ℕ → List ℕ → Type 0) → ((n : ℕ) → P zero n [])
    → ((k n : ℕ) → n < b → P (suc k) n (digit_byte (n % b) ∷ []))
    → ((k n : ℕ) (t : List ℕ) → b ≤ n → P k (n / b) t → P (suc k) n (t ++ (digit_byte (n % b) ∷ [])))
    → (k n : ℕ) → P k n (numeral b k n)
unfolding numeral
numeral_ind b P nil one more zero n = nil n
numeral_ind b P nil one more (suc k) n = by (ltb n b) refl (numeral_ind b P nil one more k (n / b))
  where
    by : (t : Bool) → ltb n b ≡ t → P k (n / b) (numeral b k (n / b)) → P (suc k) n ((when ltb n b then [] else numeral b k (n / b)) ++ (digit_byte (n % b) ∷ []))
    by true e h = rw e (one k n (ltb-true n b e))
    by false e h = rw e (more k n (numeral b k (n / b)) (ltb-false n b e) h)

-- at least one digit, where one is allowed, and at most k
pub length_numeral : (b k n : ℕ) → (length (numeral b k n) ≤ k) × (0 < k → 0 < length (numeral b k n))
length_numeral b =
    numeral_ind
    b
    (λ k n t. (length t ≤ k) × (0 < k → 0 < length t))
    (λ n. omega arith)
    (λ k n h. omega arith)
    (λ k n t h ih. simp length-append (omega arith))

-- every byte is that of a digit
pub all_numeral : (p : ℕ → Bool) (b : ℕ) → 0 < b → ((d : ℕ) → d < b → p (digit_byte d) ≡ true) → (k n : ℕ) → all p (numeral b k n) ≡ true
unfolding all
all_numeral p b pos h =
    numeral_ind
    b
    (λ k n t. all p t ≡ true)
    (λ n. refl)
    (λ k n lt. rw (h (n % b) (mod-lt n pos)))
    (λ k n t le ih. all_append p t (digit_byte (n % b) ∷ []) ih (rw (h (n % b) (mod-lt n pos))))

-- the digits are those of the number
pub from_digits_numeral : (b : ℕ) → 0 < b → b ≤ 16 → (k n : ℕ) → n < b ^ k → from_digits b 0 (map digit_value (numeral b k n)) ≡ n
unfolding from_digits
from_digits_numeral b pos small =
    numeral_ind
    b
    (λ k n t. n < b ^ k → from_digits b 0 (map digit_value t) ≡ n)
    (λ n lt. omega (arith, pow-zero b))
    (λ k n h lt. rw (digit_value_digit_byte (n % b) (omega (arith, mod-lt n pos)), mod-eq_of_lt h) (omega arith))
    (λ k n t h ih lt. rw (map-append digit_value t (digit_byte (n % b) ∷ []))
    (from_digits_append b 0 (map digit_value t) (digit_value (digit_byte (n % b)) ∷ [])
    ∙ rw (digit_value_digit_byte (n % b) (omega (arith, mod-lt n pos)), ih ((div-lt_iff_lt-mul pos).1 (rw (pow-suc b k) at lt))) (div-add-mod' n b)))

-- ## Reading decimals

pub read_decimal_decimal : (m n : ℕ) → n ≤ m → m < 10 ^ 10 → read_decimal m (decimal n) ≡ Some n
unfolding read_decimal
read_decimal_decimal m n le lt = rw (from_digits_numeral 10 (omega arith) (omega arith) 10 n (omega arith), le-leb n m le, equal_refl (decimal n))

-- what is read is of digits alone
pub read_decimal_none : (m : ℕ) (t : List ℕ) → all is_digit t ≡ false → read_decimal m t ≡ None
unfolding read_decimal
read_decimal_none m t e = by (leb n m && equal t (decimal n)) refl
  where
    n : ℕ
    n = from_digits 10 0 (map digit_value t)

    by : (x : Bool) → (leb n m && equal t (decimal n)) ≡ x → given x n ≡ None
    by true f = absurd
        (true≢false
        (sym (ap (all is_digit) (eq_of_equal t (decimal n) (and_true (leb n m) (equal t (decimal n)) f).1)
        ∙ all_numeral is_digit 10 (omega arith) is_digit_digit_byte 10 n) ∙ e))
    by false f = refl
