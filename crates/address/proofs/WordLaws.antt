-- Laws of numbers of two words: bits pushed in at the low end, zero groups up to eight, and two numbers whose bits lie apart.
-- Assumes nothing.
use Rattle.std.specs.Prelude.{None, Some}
use Prim.Native.Nat.{ℕ, ◌+◌, ◌-◌, ◌*◌, ◌/◌, ◌%◌, ◌^◌, ◌<◌, ◌≤◌, suc}
use mathlib.Core.Bool.{Bool, true, false}
use mathlib.Core.Path.{◌≡◌, refl, sym, ap, ap₂, ◌∙◌}
use native.Mathlib.Nat.{div-add-mod', mod-lt, mul-mod_left, pow-suc, pow-le-pow_right, lt_of_lt_of_le, add-zero, mod-le, mul-div_cancel, mul-one}
use native.Mathlib.Nat.{mul_assoc, mul-lt-mul_of_pos_right, one-le-pow}
use native.Mathlib.Omega.{arith}
use borrow.Author.Tests.{leb-true, leb-false, lt-ltb, le-ltb}
use lib.Arith.{digits_lt, mod-mul}
use lib.Bits.{bit_or, or_shifted}
use lib.Dec.{leb, ltb}
use lib.Pow.{pow_pos, pow-add, split, high, low, shl_exact, shl-shr, shr_lt, mod-pow-add}
use Rattle.text.specs.Basics.{given}
use Rattle.address.specs.Code.{number_of, words, words_of, as_v6}
use Rattle.address.specs.declared.read.Words.{Words}

-- ## Numbers of two words

pub number_of_words_of : (n : ℕ) → number_of (words_of n) ≡ n
number_of_words_of n = div-add-mod' n (2 ^ 64)

-- k bits more, at words of j + k bits
module _ (j k a b g : ℕ) (ha : a < 2 ^ j) (hb : b < 2 ^ (j + k)) (hg : g < 2 ^ k) where
  abbrev w : ℕ
  w = j + k

  shl_low : b * 2 ^ k % 2 ^ w ≡ b % 2 ^ j * 2 ^ k
  shl_low =
      mod-pow-add (b * 2 ^ k) j k
      ∙ ap₂ (λ (x y : ℕ). x % 2 ^ j * 2 ^ k + y) (shl-shr b k) (mul-mod_left b (2 ^ k))
      ∙ omega arith

  pushed_high : bit_or (a * 2 ^ k % 2 ^ w) (b / 2 ^ j) ≡ a * 2 ^ k + b / 2 ^ j
  pushed_high =
      let e : k + j ≡ w = omega arith in
      let l : b < 2 ^ (k + j) = rw e hb in
      ap (λ (x : ℕ). bit_or x (b / 2 ^ j)) (shl_exact j k w ha (omega arith)) ∙ or_shifted a k (b / 2 ^ j) (shr_lt k j l)

  pushed_low : bit_or (b * 2 ^ k % 2 ^ w) g ≡ b % 2 ^ j * 2 ^ k + g
  pushed_low = ap (λ (x : ℕ). bit_or x g) shl_low ∙ or_shifted (b % 2 ^ j) k g hg

  abbrev up : ℕ
  up = a * 2 ^ k + b / 2 ^ j

  abbrev down : ℕ
  down = b % 2 ^ j * 2 ^ k + g

  down_lt : down < 2 ^ w
  down_lt = rw (pow-add 2 j k) (digits_lt (mod-lt b (pow_pos j)) hg)

  pushed_number : (a * 2 ^ w + b) * 2 ^ k + g ≡ up * 2 ^ w + down
  pushed_number = rw (pow-add 2 j k) (omega (arith, ap (λ (x : ℕ). x * 2 ^ k) (split b j)))

  pub pushed : words (bit_or (a * 2 ^ k % 2 ^ w) (b / 2 ^ j)) (bit_or (b * 2 ^ k % 2 ^ w) g)
      ≡ words (((a * 2 ^ w + b) * 2 ^ k + g) / 2 ^ w) (((a * 2 ^ w + b) * 2 ^ k + g) % 2 ^ w)
  pushed =
      ap₂ words
      (pushed_high ∙ sym (ap (λ (x : ℕ). x / 2 ^ w) pushed_number ∙ high up w down_lt))
      (pushed_low ∙ sym (ap (λ (x : ℕ). x % 2 ^ w) pushed_number ∙ low up w down_lt))

-- ## Zero groups up to eight

pub words_of_number_of : (w : Words) → w.low < 18446744073709551616 → words_of (number_of w) ≡ w
words_of_number_of w h = ap₂ words (high w.high 64 h) (low w.high 64 h)

-- the loop that adds them, at k groups, from the count groups of w on
pub record Padded (w : Words) (count : ℕ) (n : Words) (k : ℕ) : Type 0 where
  pub from : count ≤ k
  pub few : k ≤ 8
  pub small : number_of w < 65536 ^ count
  pub number : n ≡ words_of (number_of w * 65536 ^ (k - count))

pub padded_start : (w : Words) (count : ℕ) → w.low < 18446744073709551616 → count ≤ 8 → number_of w < 65536 ^ count → Padded w count w count
padded_start w count h l s =
    let e : count - count ≡ 0 = omega arith in
    record { from = omega arith; few = l; small = s; number = sym (rw (e, mul-one (number_of w)) (words_of_number_of w h)) }

module _ (w : Words) (count : ℕ) (n : Words) (k : ℕ) (r : Padded w count n k) where
  padded_number : number_of n ≡ number_of w * 65536 ^ (k - count)
  padded_number = ap number_of r.number ∙ number_of_words_of (number_of w * 65536 ^ (k - count))

  pub padded_room : k < 8 → number_of n < 5192296858534827628530496329220096
  padded_room h =
      let e : count + (k - count) ≡ k = omega (arith, r.from) in
      let p : 65536 ^ k ≡ 65536 ^ count * 65536 ^ (k - count) = ap (λ (j : ℕ). 65536 ^ j) (sym e) ∙ pow-add 65536 count (k - count) in
      let q : number_of w * 65536 ^ (k - count) < 65536 ^ count * 65536 ^ (k - count) = mul-lt-mul_of_pos_right r.small
      (one-le-pow (k - count) 65536 (omega arith)) in
      omega (arith, padded_number, pow-le-pow_right {n = 65536} (omega arith) {i = k} {j = 7} (omega arith))

  pub padded_step : k < 8 → (u : Words) → u ≡ words_of (number_of n * 65536 + 0) → Padded w count u (k + 1)
  padded_step h u is-u =
      let e : (k + 1) - count ≡ suc (k - count) = omega (arith, r.from) in
      record {
        from = omega (arith, r.from);
        few = omega arith;
        small = r.small;
        number = is-u
            ∙ ap words_of
            (add-zero (number_of n * 65536) ∙ rw (padded_number, e, pow-suc 65536 (k - count)) (mul_assoc (number_of w) (65536 ^ (k - count)) 65536));
      }

  pub padded_end : 8 ≤ k → n ≡ words_of (number_of w * 65536 ^ (8 - count))
  padded_end h = let e : k ≡ 8 = omega (arith, r.few) in rw e at r.number

-- ## Both sides of `::` as one number

-- two numbers whose bits lie apart, added word by word
apart : (k m n : ℕ) → n < 65536 ^ k → m * 65536 ^ k % 2 ^ 64 + n % 2 ^ 64 < 2 ^ 64
apart k m n h = by (leb k 4) refl
  where
    by : (b : Bool) → leb k 4 ≡ b → m * 65536 ^ k % 2 ^ 64 + n % 2 ^ 64 < 2 ^ 64
    by true e =
        let l : (4 - k) + k ≡ 4 = omega (arith, leb-true k 4 e) in
        let p : ℕ = 65536 ^ (4 - k) in
        let q : ℕ = 65536 ^ k in
        let hp : 0 < p = one-le-pow (4 - k) 65536 (omega arith) in
        let hq : 0 < q = one-le-pow k 65536 (omega arith) in
        let w : p * q ≡ 2 ^ 64 = sym (pow-add 65536 (4 - k) k) ∙ ap (λ (j : ℕ). 65536 ^ j) l in
        let x : m * q % 2 ^ 64 ≡ m % p * q = ap (λ (z : ℕ). m * q % z) (sym w) ∙ mod-mul (m * q) hp hq
        ∙ ap₂ (λ (y z : ℕ). y % p * q + z) (mul-div_cancel m hq) (mul-mod_left m q) ∙ add-zero (m % p * q) in
        omega (arith, x, w, mod-le n (2 ^ 64), digits_lt (mod-lt m hp) h)
    by false e =
        let l : (k - 4) + 4 ≡ k = omega (arith, leb-false k 4 e) in
        let x : m * 65536 ^ k % 2 ^ 64 ≡ 0 =
        ap (λ (z : ℕ). m * z % 2 ^ 64) (ap (λ (j : ℕ). 65536 ^ j) (sym l) ∙ pow-add 65536 (k - 4) 4)
        ∙ ap (λ (z : ℕ). z % 2 ^ 64) (sym (mul_assoc m (65536 ^ (k - 4)) (2 ^ 64))) ∙ mul-mod_left (m * 65536 ^ (k - 4)) (2 ^ 64) in
        omega (arith, x, mod-lt n {m = 2 ^ 64} (omega arith))

by_words : (x y : ℕ) → x % 18446744073709551616 + y % 18446744073709551616 < 18446744073709551616
    → ((x + y) / 18446744073709551616 ≡ x / 18446744073709551616 + y / 18446744073709551616)
    × ((x + y) % 18446744073709551616 ≡ x % 18446744073709551616 + y % 18446744073709551616)
by_words x y h = omega arith

module _ (l : Words) (a : ℕ) (r : Words) (b : ℕ) (ha : a ≤ 8) (hl : number_of l < 65536 ^ a) (hr : number_of r < 65536 ^ b) where
  abbrev joined : ℕ
  joined = number_of l * 65536 ^ (8 - a) + number_of r

  pub join_over : 8 ≤ a + b → None ≡ as_v6 (given (ltb (a + b) 8) joined)
  join_over h = sym (rw (le-ltb (a + b) 8 h))

  module _ (h : a + b < 8) (w : Words) (is-w : w ≡ words_of (number_of l * 65536 ^ (8 - a))) (fits : r.low < 18446744073709551616) where
    below : number_of r < 65536 ^ (8 - a)
    below = lt_of_lt_of_le hr (pow-le-pow_right {n = 65536} (omega arith) {i = b} {j = 8 - a} (omega arith))

    abbrev word_by_word : (joined / 2 ^ 64 ≡ number_of l * 65536 ^ (8 - a) / 2 ^ 64 + number_of r / 2 ^ 64)
        × (joined % 2 ^ 64 ≡ number_of l * 65536 ^ (8 - a) % 2 ^ 64 + number_of r % 2 ^ 64)
    word_by_word = by_words (number_of l * 65536 ^ (8 - a)) (number_of r) (apart (8 - a) (number_of l) (number_of r) below)

    is_high : w.high + r.high ≡ joined / 2 ^ 64
    is_high = sym (word_by_word.0 ∙ ap₂ (λ (x y : ℕ). x + y) (sym (ap (λ (u : Words). u.high) is-w)) (high r.high 64 fits))

    is_low : w.low + r.low ≡ joined % 2 ^ 64
    is_low = sym (word_by_word.1 ∙ ap₂ (λ (x y : ℕ). x + y) (sym (ap (λ (u : Words). u.low) is-w)) (low r.high 64 fits))

    joined_lt : joined < 2 ^ (64 + 64)
    joined_lt =
        let e : a + (8 - a) ≡ 8 = omega arith in
        let p : 65536 ^ a * 65536 ^ (8 - a) ≡ 2 ^ (64 + 64) = sym (pow-add 65536 a (8 - a)) ∙ ap (λ (j : ℕ). 65536 ^ j) e in
        rw p at (digits_lt hl below)

    pub join_high : w.high + r.high < 18446744073709551616
    join_high = rw is_high (shr_lt 64 64 joined_lt)

    pub join_low : w.low + r.low < 18446744073709551616
    join_low = rw is_low (mod-lt joined {m = 2 ^ 64} (omega arith))

    pub join_value : Some (w.high + r.high, w.low + r.low) ≡ as_v6 (given (ltb (a + b) 8) joined)
    join_value = ap₂ (λ (x y : ℕ). Some (x, y)) is_high is_low ∙ sym (rw (lt-ltb (a + b) 8 h))
