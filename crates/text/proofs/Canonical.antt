-- Numbers in fewest digits. The text of a number's digits, without a leading zero, is the writing of the number, and the writing of a
-- number is such a text.
-- Assumes nothing.
use Rattle.std.specs.Prelude.{None, Some}
use Prim.Native.Nat.{ℕ, zero, suc, ◌+◌, ◌-◌, ◌*◌, ◌/◌, ◌%◌, ◌^◌, ◌<◌, ◌≤◌}
use mathlib.Core.Bool.{Bool, true, false, ◌&&◌}
use mathlib.Core.List.{List, [], ◌∷◌, ◌++◌, map, map-append}
use mathlib.Core.Path.{◌≡◌, refl, ap₂, ◌∙◌}
use native.Mathlib.Omega.{arith}
use native.Mathlib.Nat.{one-le-pow, lt_of_lt_of_le, mul_assoc, add-mul, mul-le-mul_right, pow-succ', one-mul, pow-le-pow_right, div-lt_iff_lt-mul}
use native.Mathlib.Nat.{le-div_iff_mul-le, mod-eq_of_lt, pow-zero, pow-suc, le-mul_of_pos_right}
use borrow.Author.Tests.{ltb-true, ltb-false, lt-ltb, le-ltb, leb-true, le-leb, lt-leb}
use lib.Dec.{ltb, leb}
use lib.ListN.{length, take, get_or, length-append, length-map, get_or-append}
use lib.Seq.{take-suc, take_all}
use Rattle.text.specs.Basics.{given, all}
use Rattle.text.specs.Text.{equal, is_digit}
use Rattle.text.specs.Number.{from_digits, digit_byte, digit_value, numeral, decimal, read_decimal}
use Rattle.text.proofs.BasicLaws.{and_true, all_get_d}
use Rattle.text.proofs.Numeral.{digit_byte_cases, is_digit_digit_byte, length_numeral, all_numeral}
use Rattle.text.proofs.ScanLaws.{equal_refl, eq_of_equal}
use Rattle.text.proofs.Digits.{from_digits_append, div_last, mod_last}

-- more digits make no smaller number
pub from_digits_le : (b n : ℕ) (ds : List ℕ) → 0 < b → n ≤ from_digits b n ds
unfolding from_digits
from_digits_le b n [] h = omega arith
from_digits_le b n (d ∷ ds) h = omega (arith, le-mul_of_pos_right {m = b} n h, from_digits_le b (n * b + d) ds h)

-- ## From digits to the text

pub numeral_digit : (b j d : ℕ) → d < b → numeral b (suc j) d ≡ digit_byte d ∷ []
unfolding numeral
numeral_digit b j d h = rw (lt-ltb d b h, mod-eq_of_lt h)

pub numeral_last : (b j n d : ℕ) → d < b → 0 < n → numeral b (suc j) (n * b + d) ≡ numeral b j n ++ (digit_byte d ∷ [])
unfolding numeral
numeral_last b j n d h l =
    let more : b ≤ n * b + d = omega (arith, mul-le-mul_right b l) in
    rw (le-ltb (n * b + d) b more, div_last b n d h, mod_last b n d h)

from_digits_pos : (b : ℕ) (ds : List ℕ) (k : ℕ) → 0 < b → 0 < get_or ds 0 0 → 0 < from_digits b 0 (take (suc k) ds)
unfolding from_digits
from_digits_pos b [] k h l = absurd (omega arith)
from_digits_pos b (d ∷ ds) k h l = omega (arith, from_digits_le b (0 * b + d) (take k ds) h)

module _ (b : ℕ) (big : 1 < b) (ds : List ℕ) (below : all (λ d. ltb d b) ds ≡ true) (lead : 1 < length ds → 0 < get_or ds 0 0) where
  abbrev first : ℕ → ℕ
  first k = from_digits b 0 (take k ds)

  first_suc : (k : ℕ) → k < length ds → first (suc k) ≡ first k * b + get_or ds k 0
  unfolding from_digits
  first_suc k h = rw (take-suc ds k 0, from_digits_append b 0 (take k ds) (get_or ds k 0 ∷ []))

  small : (k : ℕ) → k < length ds → get_or ds k 0 < b
  small k h = ltb-true (get_or ds k 0) b (all_get_d (λ d. ltb d b) ds k 0 below h)

  -- the number before its last digit is below the next lower power
  shorter : (k j : ℕ) → k < length ds → first (suc k) < b ^ suc j → first k < b ^ j
  shorter k j h lt =
      rw (div_last b (first k) (get_or ds k 0) (small k h)) at
      ((div-lt_iff_lt-mul {k = b} {x = first k * b + get_or ds k 0} {y = b ^ j} (omega arith)).1 (rw (first_suc k h, pow-suc b j) at lt))

  numeral_take : (k : ℕ) → k < length ds → (j : ℕ) → first (suc k) < b ^ suc j → numeral b (suc j) (first (suc k)) ≡ map digit_byte (take (suc k) ds)
  unfolding from_digits
  numeral_take zero h j lt =
      let e : first 1 ≡ get_or ds 0 0 = omega (arith, first_suc 0 h) in
      rw (e, numeral_digit b j (get_or ds 0 0) (small 0 h), take-suc ds 0 0)
  numeral_take (suc k) h zero lt = absurd (omega (arith, pow-zero b, shorter (suc k) 0 h lt, from_digits_pos b ds k (omega arith) (lead (omega arith))))
  numeral_take (suc k) h (suc j) lt =
      let pos : 0 < first (suc k) = from_digits_pos b ds k (omega arith) (lead (omega arith)) in
      rw (
        first_suc (suc k) h,
        numeral_last b (suc j) (first (suc k)) (get_or ds (suc k) 0) (small (suc k) h) pos,
        take-suc ds (suc k) 0,
        map-append digit_byte (take (suc k) ds) (get_or ds (suc k) 0 ∷ []),
        numeral_take k (omega arith) j (shorter (suc k) (suc j) h lt),
      )

  -- the digits of a number, most significant first and with no zero before others, are its numeral
  pub numeral_from_digits : (j : ℕ) → 0 < length ds → from_digits b 0 ds < b ^ suc j → numeral b (suc j) (from_digits b 0 ds) ≡ map digit_byte ds
  numeral_from_digits j h lt = whole (length ds) refl h
    where
      whole : (n : ℕ) → length ds ≡ n → 0 < n → numeral b (suc j) (from_digits b 0 ds) ≡ map digit_byte ds
      whole zero e l = absurd (omega arith)
      whole (suc k) e l =
          let t : take (suc k) ds ≡ ds = take_all (suc k) ds (omega arith) in
          rw t at (numeral_take k (omega arith) j (rw t lt))

pub from_digits_lt : (b n : ℕ) (ds : List ℕ) → all (λ d. ltb d b) ds ≡ true → from_digits b n ds < (n + 1) * b ^ length ds
unfolding from_digits all
from_digits_lt b n [] e = rw (pow-zero b) (omega arith)
from_digits_lt b n (d ∷ ds) e =
    let p : (ltb d b ≡ true) × (all (λ d. ltb d b) ds ≡ true) = and_true (ltb d b) (all (λ d. ltb d b) ds) e in
    let small : d < b = ltb-true d b p.0 in
    let h : n * b + d + 1 ≤ (n + 1) * b = rw (add-mul n 1 b) (omega arith) in
    lt_of_lt_of_le (from_digits_lt b (n * b + d) ds p.1)
    (rw (pow-succ' b (length ds), ← (mul_assoc (n + 1) b (b ^ length ds))) (mul-le-mul_right (b ^ length ds) h))

-- ## Texts of digits

-- a text of digits without a leading zero
pub record Canonical (t : List ℕ) : Type 0 where
  pub some : 0 < length t
  pub digits : all is_digit t ≡ true
  pub lead : 1 < length t → get_or t 0 0 ≡ 48 → ⊥

-- the number that t writes
abbrev pub value : List ℕ → ℕ
value t = from_digits 10 0 (map digit_value t)

module _ (c : ℕ) (e : is_digit c ≡ true) where
  pub digit_low : 48 ≤ c
  digit_low = leb-true 48 c (and_true (leb 48 c) (leb c 57) e).0

  pub digit_high : c ≤ 57
  digit_high = leb-true c 57 (and_true (leb 48 c) (leb c 57) e).1

  pub digit_value_digit : digit_value c ≡ c - 48
  digit_value_digit = rw e

  pub digit_byte_digit_value : digit_byte (digit_value c) ≡ c
  digit_byte_digit_value =
      let l : 48 ≤ c = digit_low in
      let h : c ≤ 57 = digit_high in
      rw (digit_value_digit, lt-ltb (c - 48) 10 (omega arith)) (omega arith)

pub digits_below : (t : List ℕ) → all is_digit t ≡ true → all (λ d. ltb d 10) (map digit_value t) ≡ true
unfolding all
digits_below [] e = refl
digits_below (c ∷ t) e =
    let p : (is_digit c ≡ true) × (all is_digit t ≡ true) = and_true (is_digit c) (all is_digit t) e in
    let h : digit_value c < 10 = omega (arith, digit_high c p.0, digit_value_digit c p.0) in
    rw (lt-ltb (digit_value c) 10 h) (digits_below t p.1)

pub map_digit_byte_digit_value : (t : List ℕ) → all is_digit t ≡ true → map digit_byte (map digit_value t) ≡ t
unfolding all
map_digit_byte_digit_value [] e = refl
map_digit_byte_digit_value (c ∷ t) e =
    let p : (is_digit c ≡ true) × (all is_digit t ≡ true) = and_true (is_digit c) (all is_digit t) e in
    ap₂ (λ (x : ℕ) (l : List ℕ). x ∷ l) (digit_byte_digit_value c p.0) (map_digit_byte_digit_value t p.1)

-- a canonical text is the decimal of its value
pub decimal_value : (t : List ℕ) → Canonical t → value t < 10 ^ 10 → decimal (value t) ≡ t
decimal_value t c lt =
    numeral_from_digits 10 (omega arith) (map digit_value t) (digits_below t c.digits)
    (λ h. front t c.some (all_get_d is_digit t 0 0 c.digits c.some) (c.lead (rw (length-map t digit_value) at h))) 9
    (rw (length-map t digit_value) c.some) lt
    ∙ map_digit_byte_digit_value t c.digits
  where
    front : (t : List ℕ) → 0 < length t → is_digit (get_or t 0 0) ≡ true → (get_or t 0 0 ≡ 48 → ⊥) → 0 < get_or (map digit_value t) 0 0
    front [] l e n = absurd (omega arith)
    front (x ∷ t) l e n = rw e (omega (arith, digit_low x e))

pub value_lt : (t : List ℕ) → all is_digit t ≡ true → length t ≤ 10 → value t < 10 ^ 10
value_lt t e h =
    lt_of_lt_of_le (from_digits_lt 10 0 (map digit_value t) (digits_below t e))
    (rw (one-mul, length-map t digit_value) (pow-le-pow_right {n = 10} (omega arith) h))

-- ## The text of a number

numeral_some_pos : (b j n : ℕ) → 0 < n → n < b ^ j → 0 < length (numeral b j n)
numeral_some_pos b zero n h lt = absurd (omega (arith, pow-zero b))
numeral_some_pos b (suc j) n h lt = (length_numeral b (suc j) n).1 (omega arith)

length_numeral_suc : (b j n : ℕ) → b ≤ n → length (numeral b (suc j) n) ≡ length (numeral b j (n / b)) + 1
unfolding numeral
length_numeral_suc b j n h = rw (le-ltb n b h) (length-append (numeral b j (n / b)) (digit_byte (n % b) ∷ []))

-- a number below a power has at most as many digits, one from a power on has more
pub length_numeral_below : (b j k n : ℕ) → 1 < b → n < b ^ suc k → length (numeral b j n) ≤ suc k
unfolding numeral
length_numeral_below b zero k n big lt = omega arith
length_numeral_below b (suc j) k n big lt = by (ltb n b) refl k lt (λ (k : ℕ) (lt : n / b < b ^ suc k). length_numeral_below b j k (n / b) big lt)
  where
    by : (t : Bool) → ltb n b ≡ t → (k : ℕ) → n < b ^ suc k → ((k : ℕ) → n / b < b ^ suc k → length (numeral b j (n / b)) ≤ suc k)
        → length (numeral b (suc j) n) ≤ suc k
    by true e k lt ih = let l : n < b = ltb-true n b e in rw (numeral_digit b j n l) (omega arith)
    by false e zero lt ih = let l : n < 1 * b = rw (pow-suc b 0, pow-zero b) at lt in absurd (omega (arith, ltb-false n b e))
    by false e (suc k) lt ih =
        omega (
          arith,
          length_numeral_suc b j n (ltb-false n b e),
          ih k ((div-lt_iff_lt-mul {k = b} {x = n} {y = b ^ suc k} (omega arith)).1 (rw (pow-suc b (suc k)) at lt)),
        )

pub length_numeral_above : (b j k n : ℕ) → 1 < b → b ^ k ≤ n → k < j → k < length (numeral b j n)
length_numeral_above b zero k n big le h = absurd (omega arith)
length_numeral_above b (suc j) zero n big le h = (length_numeral b (suc j) n).1 (omega arith)
length_numeral_above b (suc j) (suc k) n big le h =
    let l : b ^ k * b ≤ n = rw (pow-suc b k) at le in
    let m : b ≤ b ^ k * b = rw (one-mul b) at (mul-le-mul_right b (one-le-pow k b (omega arith))) in
    let ih : k < length (numeral b j (n / b)) = length_numeral_above b j k (n / b) big ((le-div_iff_mul-le {k = b} {x = b ^ k} {y = n} (omega arith)).1 l)
    (omega arith) in
    omega (arith, length_numeral_suc b j n (omega arith))

digit_byte_pos : (d : ℕ) → 0 < d → digit_byte d ≡ 48 → ⊥
digit_byte_pos d h = digit_byte_cases (λ (c : ℕ). c ≡ 48 → ⊥) d (λ l e. omega arith) (λ l e. omega arith)

-- the first digit of a number that is not 0 is not 0
pub numeral_lead : (b j n : ℕ) → 1 < b → 0 < n → n < b ^ j → get_or (numeral b j n) 0 0 ≡ 48 → ⊥
unfolding numeral
numeral_lead b zero n big h lt = absurd (omega (arith, pow-zero b))
numeral_lead b (suc j) n big h lt = by (ltb n b) refl (numeral_lead b j (n / b) big)
  where
    by : (t : Bool) → ltb n b ≡ t → (0 < n / b → n / b < b ^ j → get_or (numeral b j (n / b)) 0 0 ≡ 48 → ⊥) → get_or (numeral b (suc j) n) 0 0 ≡ 48 → ⊥
    by true e ih = let l : n < b = ltb-true n b e in rw (e, mod-eq_of_lt l) (digit_byte_pos n h)
    by false e ih =
        let l : b ≤ n = ltb-false n b e in
        let pos : 0 < n / b = (le-div_iff_mul-le {k = b} {x = 1} {y = n} (omega arith)).1 (omega arith) in
        let low : n / b < b ^ j = (div-lt_iff_lt-mul {k = b} {x = n} {y = b ^ j} (omega arith)).1 (rw (pow-suc b j) at lt) in
        rw (e, get_or-append (numeral b j (n / b)) (digit_byte (n % b) ∷ []) 0 0 (numeral_some_pos b j (n / b) pos low)) (ih pos low)

pub decimal_lead : (n : ℕ) → n < 10 ^ 10 → 1 < length (decimal n) → get_or (decimal n) 0 0 ≡ 48 → ⊥
unfolding numeral
decimal_lead zero lt h = absurd (omega (arith, h))
decimal_lead (suc n) lt h = numeral_lead 10 10 (suc n) (omega arith) (omega arith) lt

pub canonical_decimal : (n : ℕ) → n < 10 ^ 10 → Canonical (decimal n)
canonical_decimal n lt = record {
  some = (length_numeral 10 10 n).1 (omega arith);
  digits = all_numeral is_digit 10
      (omega arith) is_digit_digit_byte 10 n;
  lead = decimal_lead n lt;
}

-- ## Reading

module _ (m : ℕ) (t : List ℕ) where
  pub read_decimal_some : Canonical t → value t ≤ m → m < 10 ^ 10 → read_decimal m t ≡ Some (value t)
  unfolding read_decimal
  read_decimal_some c h lt = rw (le-leb (value t) m h, decimal_value t c (omega arith), equal_refl t)

  pub read_decimal_over : m < value t → read_decimal m t ≡ None
  unfolding read_decimal
  read_decimal_over h = rw (lt-leb (value t) m h)

  pub read_decimal_not : m < 10 ^ 10 → (Canonical t → ⊥) → read_decimal m t ≡ None
  unfolding read_decimal
  read_decimal_not lt n = by (leb (value t) m && equal t (decimal (value t))) refl
    where
      by : (x : Bool) → (leb (value t) m && equal t (decimal (value t))) ≡ x → given x (value t) ≡ None
      by true e =
          let p : (leb (value t) m ≡ true) × (equal t (decimal (value t)) ≡ true) = and_true (leb (value t) m) (equal t (decimal (value t))) e in
          absurd (n (rw (eq_of_equal t (decimal (value t)) p.1) (canonical_decimal (value t) (omega (arith, leb-true (value t) m p.0)))))
      by false e = refl
