-- Laws of reading one group of hex digits.
-- Assumes nothing.
use Rattle.std.specs.Prelude.{None, Some}
use Prim.Native.Nat.{ℕ, ◌+◌, ◌-◌, ◌*◌, ◌^◌, ◌<◌, ◌≤◌}
use mathlib.Core.Bool.{Bool, true, false, ◌&&◌, true≢false}
use mathlib.Core.List.{List, [], ◌∷◌, map}
use mathlib.Core.Logic.{◌⊎◌, inl, inr, ⊎_elim}
use mathlib.Core.Path.{◌≡◌, refl, sym, ◌∙◌}
use native.Mathlib.Nat.{pow-suc, pow-le-pow_right}
use native.Mathlib.Numerals.{add-one}
use native.Mathlib.Omega.{arith}
use borrow.Author.Tests.{leb-true, leb-false, ltb-true, ltb-false, le-leb, lt-leb, lt-ltb}
use lib.Dec.{leb, ltb}
use lib.ListN.{length, drop, get_or, length-map, drop_of_length-le}
use lib.Seq.{drop-cons}
use Rattle.text.specs.Basics.{◌>>=◌, given, all}
use Rattle.text.specs.Text.{in_range, char_range, is_digit, lower}
use Rattle.text.specs.Number.{from_digits, digit_value}
use Rattle.text.proofs.BasicLaws.{and_true}
use Rattle.text.proofs.Canonical.{from_digits_lt}
use Rattle.address.specs.Address.{read_group}
use Rattle.address.specs.Code.{is_hex, hex_value, group_value}

-- ## A group

module _ (a z n : ℕ) where
  in_range_in : a ≤ n → n ≤ z → in_range a z n ≡ true
  in_range_in h l = rw (le-leb a n h, le-leb n z l)

  in_range_below : n < a → in_range a z n ≡ false
  in_range_below h = rw (lt-leb a n h)

  in_range_above : z < n → in_range a z n ≡ false
  in_range_above h = rw (lt-leb n z h) (by (leb a n))
    where
      by : (t : Bool) → (t && false) ≡ false
      by true = refl
      by false = refl

-- the value of a hex digit, as the code finds it
module _ (b : ℕ) (d : Bool) (is_d : d ≡ is_digit b) where
  pub digit_ge : d ≡ true → 48 ≤ b
  digit_ge e = leb-true 48 b (and_true (leb 48 b) (leb b 57) (sym is_d ∙ e)).0

  pub hex_value_digit : d ≡ true → b - 48 ≡ hex_value b
  unfolding hex_value
  hex_value_digit e = simp (sym is_d ∙ e)

  module _ (e : d ≡ false) (l : ℕ) (is-l : l ≡ lower b) where
    abbrev upper_case : Bool
    upper_case = char_range "A" "F" b

    abbrev lower_case : Bool
    lower_case = char_range "a" "f" b

    no_hex : upper_case ≡ false → lower_case ≡ false → is_hex b ≡ false
    no_hex p q = simp (sym is_d ∙ e, p, q)

    upper_hex : upper_case ≡ true → is_hex b ≡ true
    upper_hex p = simp (sym is_d ∙ e, p)

    lower_hex : upper_case ≡ false → lower_case ≡ true → is_hex b ≡ true
    lower_hex p q = simp (sym is_d ∙ e, p, q)

    -- by what b is
    by_case : {P : Type 0} → (65 ≤ b → b ≤ 90 → l ≡ b + 32 → P) → (b < 65 → l ≡ b → P) → (90 < b → l ≡ b → P) → P
    unfolding lower
    by_case {P} f g h = by (leb 65 b) (leb b 90) refl refl
      where
        by : (p q : Bool) → leb 65 b ≡ p → leb b 90 ≡ q → P
        by true true p q = f (leb-true 65 b p) (leb-true b 90 q) (is-l ∙ rw (p, q))
        by true false p q = h (leb-false b 90 q) (is-l ∙ rw (p, q))
        by false q p r = g (leb-false 65 b p) (is-l ∙ rw p)

    is_hex_below : l < 97 → is_hex b ≡ false
    is_hex_below h =
        by_case
        (λ p q r. absurd (omega arith))
        (λ p r. no_hex (in_range_below 65 70 b p) (in_range_below 97 102 b (omega arith)))
        (λ p r. no_hex (in_range_above 65 70 b (omega arith)) (in_range_below 97 102 b (omega arith)))

    is_hex_above : 102 < l → is_hex b ≡ false
    is_hex_above h =
        by_case
        (λ p q r. no_hex (in_range_above 65 70 b (omega arith)) (in_range_below 97 102 b (omega arith)))
        (λ p r. absurd (omega arith))
        (λ p r. no_hex (in_range_above 65 70 b (omega arith)) (in_range_above 97 102 b (omega arith)))

    is_hex_letter : 97 ≤ l → l ≤ 102 → is_hex b ≡ true
    is_hex_letter h k =
        by_case
        (λ p q r. upper_hex (in_range_in 65 70 b p (omega arith)))
        (λ p r. absurd (omega arith))
        (λ p r. lower_hex (in_range_above 65 70 b (omega arith)) (in_range_in 97 102 b (omega arith) (omega arith)))

    pub hex_value_below : l < 97 → 16 ≡ hex_value b
    unfolding hex_value
    hex_value_below h = sym (rw (is_hex_below h))

    pub hex_value_above : 102 < l → 16 ≡ hex_value b
    unfolding hex_value
    hex_value_above h = sym (rw (is_hex_above h))

    pub hex_value_letter : 97 ≤ l → l ≤ 102 → l - 87 ≡ hex_value b
    unfolding hex_value
    hex_value_letter h k = sym (rw (is_hex_letter h k, sym is_d ∙ e, ← is-l) (omega arith))

-- b is a hex digit, with its value below 16, or none, with 16
hex_cases : (b : ℕ) → ((is_hex b ≡ true) × (hex_value b < 16)) ⊎ ((is_hex b ≡ false) × (hex_value b ≡ 16))
hex_cases b = by (is_digit b) (ltb (lower b) 97) (ltb 102 (lower b)) refl refl refl
  where
    by : (d p q : Bool) → is_digit b ≡ d → ltb (lower b) 97 ≡ p → ltb 102 (lower b) ≡ q
        → ((is_hex b ≡ true) × (hex_value b < 16)) ⊎ ((is_hex b ≡ false) × (hex_value b ≡ 16))
    by true p q e f g = inl (rw e, omega (arith, hex_value_digit b (is_digit b) refl e, leb-true b 57 (and_true (leb 48 b) (leb b 57) e).1))
    by false true q e f g =
        let h : lower b < 97 = ltb-true (lower b) 97 f in
        inr (is_hex_below b (is_digit b) refl e (lower b) refl h, sym (hex_value_below b (is_digit b) refl e (lower b) refl h))
    by false false true e f g =
        let h : 102 < lower b = ltb-true 102 (lower b) g in
        inr (is_hex_above b (is_digit b) refl e (lower b) refl h, sym (hex_value_above b (is_digit b) refl e (lower b) refl h))
    by false false false e f g =
        let h : 97 ≤ lower b = ltb-false (lower b) 97 f in
        let k : lower b ≤ 102 = ltb-false 102 (lower b) g in
        inl (is_hex_letter b (is_digit b) refl e (lower b) refl h k, omega (arith, hex_value_letter b (is_digit b) refl e (lower b) refl h k))

hex_value_none : (b : ℕ) → hex_value b ≡ 16 → is_hex b ≡ false
hex_value_none b e = ⊎_elim (λ p. absurd (omega (arith, p.1))) (λ p. p.0) (hex_cases b)

hex_value_some : (b : ℕ) → (hex_value b ≡ 16 → ⊥) → (is_hex b ≡ true) × (hex_value b < 16)
hex_value_some b n = ⊎_elim (λ p. p) (λ p. absurd (n p.1)) (hex_cases b)

hex_value_le : (b : ℕ) → hex_value b ≤ 16
hex_value_le b = ⊎_elim (λ p. omega (arith, p.1)) (λ p. omega (arith, p.1)) (hex_cases b)

hex_value_is : (b : ℕ) → is_hex b ≡ true → hex_value b ≡ digit_value b
unfolding hex_value
hex_value_is b e = rw e

digit_value_lt : (b : ℕ) → is_hex b ≡ true → digit_value b < 16
digit_value_lt b e = rw (hex_value_is b e) at (⊎_elim (λ p. p.1) (λ p. absurd (true≢false (sym e ∙ p.0))) (hex_cases b))

-- the answers before the loop
module _ (s : List ℕ) where
  no_group : in_range 1 4 (length s) ≡ false → None ≡ group_value s
  unfolding group_value
  no_group e = sym (rw e (by (all is_hex s)))
    where
      by : (t : Bool) → given (t && false) (from_digits 16 0 (map digit_value s)) ≡ None
      by true = refl
      by false = refl

  pub group_empty : length s ≡ 0 → None ≡ group_value s
  group_empty e = no_group (in_range_below 1 4 (length s) (omega arith))

  pub group_long : 4 < length s → None ≡ group_value s
  group_long h = no_group (in_range_above 1 4 (length s) h)

-- the loop that reads a group, at i, where the digits passed make n
pub record HexDigits (s : List ℕ) (n i : ℕ) : Type 0 where
  pub within : i ≤ length s
  pub small : n < 16 ^ i
  pub digits : all is_hex s ≡ all is_hex (drop i s)
  pub rest : from_digits 16 0 (map digit_value s) ≡ from_digits 16 n (map digit_value (drop i s))

pub hex_start : (s : List ℕ) → HexDigits s 0 0
hex_start s = record { within = omega arith; small = omega arith; digits = refl; rest = refl }

module _ (s : List ℕ) (n i : ℕ) (r : HexDigits s n i) where
  pub hex_mul : i < length s → length s ≤ 4 → n * 16 < 65536
  hex_mul h l = omega (arith, r.small, pow-le-pow_right {n = 16} (omega arith) {i = i} {j = 3} (omega arith))

  module _ (h : i < length s) (d : ℕ) (is_d : d ≡ hex_value (get_or s i 0)) where
    pub hex_none : d ≡ 16 → None ≡ group_value s
    unfolding group_value all
    hex_none e =
        let f : all is_hex s ≡ false = r.digits ∙ rw (drop-cons s i 0, hex_value_none (get_or s i 0) (sym is_d ∙ e)) in
        sym (rw f)

    pub hex_add : length s ≤ 4 → n * 16 + d < 4294967296
    hex_add l = omega (arith, hex_mul h l, hex_value_le (get_or s i 0))

    pub hex_step : (d ≡ 16 → ⊥) → HexDigits s (n * 16 + d) (i + 1)
    unfolding all from_digits
    hex_step m =
        let p : (is_hex (get_or s i 0) ≡ true) × (hex_value (get_or s i 0) < 16) = hex_value_some (get_or s i 0) (λ q. m (is_d ∙ q)) in
        record {
          within = omega arith;
          small = rw (add-one, pow-suc) (omega (arith, r.small, p.1));
          digits = r.digits ∙ rw (add-one, drop-cons s i 0, p.0);
          rest = r.rest ∙ rw (add-one, drop-cons s i 0, is_d, hex_value_is (get_or s i 0) p.0);
        }

  pub hex_done : length s ≤ i → (length s ≡ 0 → ⊥) → length s ≤ 4 → Some n ≡ group_value s
  unfolding group_value all from_digits
  hex_done h m l =
      let e : all is_hex s ≡ true = r.digits ∙ rw (drop_of_length-le s h) in
      let v : from_digits 16 0 (map digit_value s) ≡ n = r.rest ∙ rw (drop_of_length-le s h) in
      sym (rw (e, in_range_in 1 4 (length s) (omega arith) l, v))

-- a group is below 65536
digits_below : (t : List ℕ) → all is_hex t ≡ true → all (λ d. ltb d 16) (map digit_value t) ≡ true
unfolding all
digits_below [] e = refl
digits_below (x ∷ t) e =
    let p : (is_hex x ≡ true) × (all is_hex t ≡ true) = and_true (is_hex x) (all is_hex t) e in
    rw (lt-ltb (digit_value x) 16 (digit_value_lt x p.0)) (digits_below t p.1)

pub group_value_lt : (t : List ℕ) (g : ℕ) → group_value t ≡ Some g → g < 65536
unfolding group_value
group_value_lt t g e = by (all is_hex t) (in_range 1 4 (length t)) refl refl e
  where
    by : (a b : Bool) → all is_hex t ≡ a → in_range 1 4 (length t) ≡ b → given (a && b) (from_digits 16 0 (map digit_value t)) ≡ Some g → g < 65536
    by true true p q r =
        let v : from_digits 16 0 (map digit_value t) ≡ g = cc in
        let l : length (map digit_value t) ≤ 4 = rw (length-map t digit_value) (leb-true (length t) 4 (and_true (leb 1 (length t)) (leb (length t) 4) q).1) in
        omega (
          arith,
          from_digits_lt 16 0 (map digit_value t) (digits_below t p),
          pow-le-pow_right {n = 16} (omega arith) {i = length (map digit_value t)} {j = 4} l,
        )
    by true false p q r = let z : ◌≡◌ {A = ℕ} 0 1 = cc in absurd (omega arith)
    by false b p q r = let z : ◌≡◌ {A = ℕ} 0 1 = cc in absurd (omega arith)

-- the definition's group is the code's
pub read_group_value : (t : List ℕ) → read_group t ≡ (group_value t >>= λ g. Some (g ∷ []))
unfolding read_group group_value
read_group_value t = by (all is_hex t && in_range 1 4 (length t))
  where
    by : (b : Bool) → given b (from_digits 16 0 (map digit_value t) ∷ []) ≡ (given b (from_digits 16 0 (map digit_value t)) >>= λ g. Some (g ∷ []))
    by true = refl
    by false = refl
