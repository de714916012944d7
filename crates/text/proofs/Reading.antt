-- The loop that reads a decimal: what is known at place i, where the digits passed make n, and what each answer follows from.
-- Assumes nothing.
use Rattle.std.specs.Prelude.{None, Some}
use Prim.Native.Nat.{ℕ, suc, ◌+◌, ◌-◌, ◌*◌, ◌<◌, ◌≤◌}
use mathlib.Core.Bool.{true, false, ◌&&◌, true≢false}
use mathlib.Core.List.{List, map}
use mathlib.Core.Path.{◌≡◌, refl, sym, ap, ◌∙◌}
use native.Mathlib.Numerals.{add-one}
use native.Mathlib.Omega.{arith}
use borrow.Author.Tests.{le-leb, lt-leb, eq-eqb, lt-ltb, eqb-true, ltb-true}
use lib.Dec.{ltb, eqb}
use lib.ListN.{length, drop, get_or, drop_of_length-le}
use lib.Seq.{drop-cons}
use Rattle.text.specs.Basics.{all}
use Rattle.text.specs.Text.{is_digit}
use Rattle.text.specs.Number.{from_digits, digit_value, read_decimal}
use Rattle.text.proofs.BasicLaws.{and_true}
use Rattle.text.proofs.Canonical.{Canonical, value, from_digits_le, read_decimal_some, read_decimal_over, read_decimal_not}

-- the code's answers before the loop
module _ (m : ℕ) (s : List ℕ) (lt : m < 4294967296) where
  none_of : (Canonical s → ⊥) → None ≡ read_decimal m s
  none_of n = sym (read_decimal_not m s (omega arith) n)

  pub read_empty : length s ≡ 0 → None ≡ read_decimal m s
  read_empty e = none_of (λ c. omega (arith, c.some))

  pub read_zero : (eqb (get_or s 0 0) 48 && ltb 1 (length s)) ≡ true → None ≡ read_decimal m s
  read_zero e =
      let p : (eqb (get_or s 0 0) 48 ≡ true) × (ltb 1 (length s) ≡ true) = and_true (eqb (get_or s 0 0) 48) (ltb 1 (length s)) e in
      none_of (λ c. c.lead (ltb-true 1 (length s) p.1) (eqb-true (get_or s 0 0) 48 p.0))

-- what holds at place i
pub record Reading (m : ℕ) (s : List ℕ) (n i : ℕ) : Type 0 where
  pub within : i ≤ length s
  pub small : n ≤ m
  pub rest : value s ≡ from_digits 10 n (map digit_value (drop i s))
  pub digits : all is_digit s ≡ all is_digit (drop i s)

pub reading_start : (m : ℕ) (s : List ℕ) → Reading m s 0 0
reading_start m s = record { within = omega arith; small = omega arith; rest = refl; digits = refl }

module _ (m : ℕ) (s : List ℕ) (n i : ℕ) (r : Reading m s n i) where
  module _ (lt : m < 4294967296) (h : i < length s) where
    no_digit : is_digit (get_or s i 0) ≡ false → None ≡ read_decimal m s
    unfolding all
    no_digit e = none_of m s lt (λ c. true≢false (sym c.digits ∙ r.digits ∙ rw (drop-cons s i 0, e)))

    pub read_below : get_or s i 0 < 48 → None ≡ read_decimal m s
    read_below l = no_digit (rw (lt-leb 48 (get_or s i 0) l))

    pub read_above : 57 < get_or s i 0 → None ≡ read_decimal m s
    read_above l = no_digit (rw (le-leb 48 (get_or s i 0) (omega arith), lt-leb (get_or s i 0) 57 l))

  module _ (h : i < length s) (low : 48 ≤ get_or s i 0) (high : get_or s i 0 ≤ 57) where
    is_digit_lem : is_digit (get_or s i 0) ≡ true
    is_digit_lem = rw (le-leb 48 (get_or s i 0) low, le-leb (get_or s i 0) 57 high)

    step : value s ≡ from_digits 10 (n * 10 + (get_or s i 0 - 48)) (map digit_value (drop (suc i) s))
    unfolding from_digits
    step = r.rest ∙ rw (drop-cons s i 0, is_digit_lem)

    pub read_over : m < n * 10 + (get_or s i 0 - 48) → None ≡ read_decimal m s
    read_over l = sym
        (
        (read_decimal_over m s (omega (arith, step, from_digits_le 10 (n * 10 + (get_or s i 0 - 48)) (map digit_value (drop (suc i) s)) (omega arith)))))

    pub reading_step : n * 10 + (get_or s i 0 - 48) ≤ m → Reading m s (n * 10 + (get_or s i 0 - 48)) (i + 1)
    unfolding all
    reading_step l = record { within = omega arith; small = l; rest = step ∙ rw add-one; digits = r.digits ∙ rw (add-one, drop-cons s i 0, is_digit_lem) }

  pub read_done : m < 4294967296 → (length s ≡ 0 → ⊥) → (eqb (get_or s 0 0) 48 && ltb 1 (length s)) ≡ false → length s ≤ i → Some n ≡ read_decimal m s
  unfolding from_digits all
  read_done lt some lead h =
      let e : value s ≡ n = r.rest ∙ rw (drop_of_length-le s h) in
      let d : all is_digit s ≡ true = r.digits ∙ rw (drop_of_length-le s h) in
      let c : Canonical s = record {
        some = omega arith;
        digits = d;
        lead = λ l z. true≢false
            (sym (rw (eq-eqb (get_or s 0 0) 48 z, lt-ltb 1 (length s) l)) ∙ lead);
      } in
      sym ((read_decimal_some m s c (omega arith) (omega arith)) ∙ ap Some e)
