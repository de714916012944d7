-- Laws of words whose bits stand for tables, and of the loop over the tables of one depth.
-- Assumes nothing.
use Prim.Native.Nat.{ℕ, zero, suc, ◌+◌, ◌-◌, ◌*◌, ◌/◌, ◌%◌, ◌^◌, ◌≤◌, ◌<◌}
use native.Mathlib.Nat.{mod-lt, div-eq_of_lt, zero-div, pow-suc}
use native.Mathlib.Omega.{arith}
use mathlib.Core.Bool.{Bool, true, false, not, ◌&&◌, ◌||◌, true≢false, not-not, and-true, and-false, or-false}
use mathlib.Core.List.{List}
use mathlib.Core.Path.{◌≡◌, refl, sym, ap, ap₂, subst, ◌∙◌}
use lib.Bits.{bit_or, bit_and, and_le_r, or_shr, and_shr, or_mod, and_mod, and_mask, shifted_even}
use lib.Pow.{pow_pos, pow-lt, pow-add, shl_exact, shl-shr, shr_lt, split, high, ones_split, ones_lt}
use lib.Dec.{eqb, ltb}
use lib.ListN.{get_or}
use borrow.Author.Tests.{eqb-true, eqb-false, ltb-true, ltb-false, lt-ltb, le-ltb, eq-eqb, ne_eqb}
use Rattle.views.specs.View.{bit_at, Marks, any_below}

-- ## One bit

pub bit_shr : (m i : ℕ) → eqb (bit_and (m / 2 ^ i) 1) 1 ≡ bit_at i m
unfolding bit_at
bit_shr m i = ap (λ (x : ℕ). eqb x 1) (and_mask (m / 2 ^ i) 1)

pub bit_none : (i : ℕ) → bit_at i 0 ≡ false
unfolding bit_at
bit_none i = ap (λ (x : ℕ). eqb (x % 2) 1) (zero-div (2 ^ i))

low_or : (x y : ℕ) → x < 2 → y < 2 → eqb (bit_or x y) 1 ≡ (eqb x 1 || eqb y 1)
low_or zero zero h k = refl
low_or zero (suc zero) h k = refl
low_or (suc zero) zero h k = refl
low_or (suc zero) (suc zero) h k = refl
low_or (suc (suc x)) y h k = absurd (omega arith)
low_or zero (suc (suc y)) h k = absurd (omega arith)
low_or (suc zero) (suc (suc y)) h k = absurd (omega arith)

low_and : (x y : ℕ) → x < 2 → y < 2 → eqb (bit_and x y) 1 ≡ (eqb x 1 && eqb y 1)
low_and zero zero h k = refl
low_and zero (suc zero) h k = refl
low_and (suc zero) zero h k = refl
low_and (suc zero) (suc zero) h k = refl
low_and (suc (suc x)) y h k = absurd (omega arith)
low_and zero (suc (suc y)) h k = absurd (omega arith)
low_and (suc zero) (suc (suc y)) h k = absurd (omega arith)

module _ (i a b : ℕ) where
  abbrev x : ℕ
  x = a / 2 ^ i

  abbrev y : ℕ
  y = b / 2 ^ i

  pub bit_or_lem : bit_at i (bit_or a b) ≡ (bit_at i a || bit_at i b)
  unfolding bit_at
  bit_or_lem = ap (λ (z : ℕ). eqb (z % 2) 1) (or_shr a b i) ∙ ap (λ (z : ℕ). eqb z 1) (or_mod x y 1)
      ∙ low_or (x % 2) (y % 2) (mod-lt x (omega arith)) (mod-lt y (omega arith))

  pub bit_and_lem : bit_at i (bit_and a b) ≡ (bit_at i a && bit_at i b)
  unfolding bit_at
  bit_and_lem = ap (λ (z : ℕ). eqb (z % 2) 1) (and_shr a b i) ∙ ap (λ (z : ℕ). eqb z 1) (and_mod x y 1)
      ∙ low_and (x % 2) (y % 2) (mod-lt x (omega arith)) (mod-lt y (omega arith))

-- a power of two has one bit
module _ (k i : ℕ) where
  power_same : k ≡ i → bit_at k (1 * 2 ^ i) ≡ true
  unfolding bit_at
  power_same e = rw e (ap (λ (z : ℕ). eqb (z % 2) 1) (shl-shr 1 i))

  power_below : k < i → bit_at k (1 * 2 ^ i) ≡ false
  unfolding bit_at
  power_below h =
      let e : suc ((i - k) - 1) + k ≡ i = omega arith in
      let p : 1 * 2 ^ i ≡ 1 * 2 ^ suc ((i - k) - 1) * 2 ^ k =
      ap (λ (z : ℕ). 1 * z) (ap (λ (n : ℕ). 2 ^ n) (sym e) ∙ pow-add 2 (suc ((i - k) - 1)) k) ∙ omega arith in
      ap (λ (z : ℕ). eqb (z % 2) 1) (ap (λ (z : ℕ). z / 2 ^ k) p ∙ shl-shr (1 * 2 ^ suc ((i - k) - 1)) k)
      ∙ ap (λ (z : ℕ). eqb z 1) (shifted_even 1 ((i - k) - 1))

  power_above : i < k → bit_at k (1 * 2 ^ i) ≡ false
  unfolding bit_at
  power_above h =
      let l : 1 * 2 ^ i < 2 ^ k = omega (arith, pow-lt h) in
      ap (λ (z : ℕ). eqb (z % 2) 1) (div-eq_of_lt l)

  power_bit : bit_at k (1 * 2 ^ i) ≡ eqb k i
  power_bit = by (eqb k i) (ltb k i) refl refl
    where
      by : (s t : Bool) → eqb k i ≡ s → ltb k i ≡ t → bit_at k (1 * 2 ^ i) ≡ s
      by true t e f = power_same (eqb-true k i e)
      by false true e f = power_below (ltb-true k i f)
      by false false e f = power_above (let n : k ≡ i → ⊥ = eqb-false k i e in omega (arith, ltb-false k i f))

pub mark_on : (m i b : ℕ) (on : Bool) → on ≡ true → Marks b 64 (λ k. eqb k i) → Marks (bit_or m b) 64 (λ k. bit_at k m || (on && eqb k i))
unfolding Marks
mark_on m i b on e is_b k h = rw e (bit_or_lem k m b ∙ ap (λ (t : Bool). bit_at k m || t) (is_b k h))

pub mark_off : (m i : ℕ) (on : Bool) → on ≡ false → Marks m 64 (λ k. bit_at k m || (on && eqb k i))
unfolding Marks
mark_off m i on e k h = rw e (sym (or-false (bit_at k m)))

pub bit_marks : (i : ℕ) → i < 64 → Marks (1 * 2 ^ i % 2 ^ 64) 64 (λ k. eqb k i)
unfolding Marks
bit_marks i h k l = ap (bit_at k) (shl_exact 1 i 64 (omega arith) (omega arith)) ∙ power_bit k i

pub bit_far : (i : ℕ) → 64 ≤ i → Marks 0 64 (λ k. eqb k i)
unfolding Marks
bit_far i h k l = bit_none k ∙ sym (ne_eqb k i (λ e. omega arith))

-- all bits of a word
pub bit_ones : (i : ℕ) → i < 64 → bit_at i 18446744073709551615 ≡ true
unfolding bit_at
bit_ones i h =
    let e : suc (63 - i) + i ≡ 64 = omega arith in
    let p : 18446744073709551615 ≡ (2 ^ suc (63 - i) - 1) * 2 ^ i + (2 ^ i - 1) = ap (λ (n : ℕ). 2 ^ n - 1) (sym e) ∙ ones_split (suc (63 - i)) i in
    let q : (2 ^ suc (63 - i) - 1) % 2 ≡ 1 = omega (arith, pow-suc 2 (63 - i), pow_pos (63 - i)) in
    ap (λ (z : ℕ). eqb (z % 2) 1) (ap (λ (z : ℕ). z / 2 ^ i) p ∙ high (2 ^ suc (63 - i) - 1) i (ones_lt i))
    ∙ ap (λ (z : ℕ). eqb z 1) q

-- ## Any bit

pub any_below_same : (p q : ℕ → Bool) (n : ℕ) → ((j : ℕ) → j < n → p j ≡ q j) → any_below p n ≡ any_below q n
unfolding any_below
any_below_same p q zero e = refl
any_below_same p q (suc n) e = ap₂ ◌||◌ (e n (omega arith)) (any_below_same p q n (λ j h. e j (omega arith)))

-- a word whose highest bit is clear is shorter by one
top_clear : (n m : ℕ) → m < 2 ^ suc n → bit_at n m ≡ false → m < 2 ^ n
unfolding bit_at
top_clear n m h e =
    let w : suc n ≡ 1 + n = omega arith in
    let q : m / 2 ^ n < 2 = shr_lt 1 n (subst (λ (k : ℕ). m < 2 ^ k) w h) in
    let z : m / 2 ^ n ≡ 0 = omega (arith, eqb-false (m / 2 ^ n % 2) 1 e) in
    let p : m ≡ m % 2 ^ n = sym (split m n) ∙ ap (λ (x : ℕ). x * 2 ^ n + m % 2 ^ n) z ∙ omega arith in
    omega (arith, mod-lt m (pow_pos n))

-- a word without bits is 0
pub zero_bits : (n m : ℕ) → m < 2 ^ n → eqb m 0 ≡ not (any_below (λ i. bit_at i m) n)
unfolding any_below
zero_bits zero m h = eq-eqb m 0 (omega arith)
zero_bits (suc n) m h = by (bit_at n m) refl (zero_bits n m)
  where
    by : (t : Bool) → bit_at n m ≡ t → (m < 2 ^ n → eqb m 0 ≡ not (any_below (λ i. bit_at i m) n)) → eqb m 0 ≡ not (t || any_below (λ i. bit_at i m) n)
    by true e ih = ne_eqb m 0 (λ z. true≢false (sym e ∙ ap (bit_at n) z ∙ bit_none n))
    by false e ih = ih (top_clear n m h e)

-- two words have no bit in common where their bits together make 0
module _ (a b : ℕ) (h : b < 2 ^ 64) where
  common : eqb (bit_and a b) 0 ≡ not (any_below (λ j. bit_at j a && bit_at j b) 64)
  common =
      let l : bit_and a b < 2 ^ 64 = omega (arith, and_le_r a b) in
      zero_bits 64 (bit_and a b) l ∙ ap not (any_below_same (λ j. bit_at j (bit_and a b)) (λ j. bit_at j a && bit_at j b) 64 (λ j k. bit_and_lem j a b))

-- ## One depth: the loop over the tables

-- the table k names one that below marks
abbrev pub names_below : List ℕ → ℕ → ℕ → Bool
names_below names below k = any_below (λ j. bit_at j (get_or names k 0) && bit_at j below) 64

-- at the table i
pub record Stepped (names : List ℕ) (own below made i : ℕ) : Type 0 where
  pub within : i ≤ 64
  pub so_far : (k : ℕ) → k < 64 → bit_at k made ≡ (bit_at k own || (ltb k i && names_below names below k))

pub stepped_start : (names : List ℕ) (own below : ℕ) → Stepped names own below own 0
stepped_start names own below = record {
  within = omega arith;
  so_far = λ k h. sym (rw (le-ltb k 0 (omega arith)) (or-false (bit_at k own)));
}

-- a test of the places below i + 1 and one of those below i
ltb_next : (k i : ℕ) → (k ≡ i → ⊥) → ltb k i ≡ ltb k (i + 1)
ltb_next k i n = by (ltb k i) refl
  where
    by : (t : Bool) → ltb k i ≡ t → t ≡ ltb k (i + 1)
    by true e = sym (lt-ltb k (i + 1) (omega (arith, ltb-true k i e)))
    by false e = sym (le-ltb k (i + 1) (omega (arith, ltb-false k i e)))

-- the bit of the place i set where s says so: the places below i + 1
pub next_bit : (k i : ℕ) (o l s : Bool) → (k ≡ i → l ≡ s) → ((o || (ltb k i && l)) || (s && eqb k i)) ≡ (o || (ltb k (i + 1) && l))
next_bit k i o l s h = by (eqb k i) refl
  where
    by : (t : Bool) → eqb k i ≡ t → ((o || (ltb k i && l)) || (s && t)) ≡ (o || (ltb k (i + 1) && l))
    by true e =
        let q : k ≡ i = eqb-true k i e in
        rw (le-ltb k i (omega arith), lt-ltb k (i + 1) (omega arith), h q, and-true s, or-false o)
    by false e = rw (and-false s, or-false (o || (ltb k i && l))) (ap (λ (t : Bool). o || (t && l)) (ltb_next k i (eqb-false k i e)))

pub stepped_more : (names : List ℕ) (own below made i : ℕ) → Stepped names own below made i → i < 64 → below < 2 ^ 64 → (on : Bool)
    → on ≡ not (eqb (bit_and (get_or names i 0) below) 0) → (r : ℕ) → Marks r 64 (λ k. bit_at k made || (on && eqb k i)) → Stepped names own below r (i + 1)
unfolding Marks
stepped_more names own below made i s l small on is-on r is-r = record {
  within = omega arith;
  so_far = λ k h. is-r k h ∙ ap (λ (t : Bool). t || (on && eqb k i)) (s.so_far k h)
      ∙ next_bit k i (bit_at k own) (names_below names below k) on
      (λ e. ap (names_below names below) e ∙ sym (is-on ∙ ap not (common (get_or names i 0) below small) ∙ not-not (names_below names below i)));
}

pub stepped_end : (names : List ℕ) (own below made i : ℕ) → Stepped names own below made i → 64 ≤ i
    → Marks made 64 (λ k. bit_at k own || any_below (λ j. bit_at j (get_or names k 0) && bit_at j below) 64)
unfolding Marks
stepped_end names own below made i s l k h = s.so_far k h ∙ ap (λ (t : Bool). bit_at k own || (t && names_below names below k)) (lt-ltb k i (omega arith))
