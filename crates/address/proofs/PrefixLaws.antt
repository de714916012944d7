-- Laws of leading bits, over the width w of a word: under a mask, in a number of two words, and bit by bit.
-- Assumes nothing.
use Prim.Native.Nat.{ℕ, zero, suc, ◌+◌, ◌-◌, ◌*◌, ◌/◌, ◌%◌, ◌^◌, ◌<◌, ◌≤◌}
use mathlib.Core.Bool.{Bool, true, false, ◌&&◌}
use mathlib.Core.Path.{◌≡◌, refl, sym, ap, ap₂, ◌∙◌}
use native.Mathlib.Omega.{arith}
use native.Mathlib.Nat.{div-eq_of_lt, mul_assoc, mul-add-div_right, mul-add-mod_self_right}
use borrow.Author.Tests.{eqb-true, eqb-false, eq-eqb, ne_eqb}
use lib.Dec.{eqb}
use lib.Bits.{bit_and, and_mask, and_high}
use lib.Pow.{pow_pos, pow-add, ones_lt, ones_split, high, low, shl-shr, shr-shr, shr_mod, shr_lt, mod-pow-add}
use Rattle.address.specs.Address.{same_prefix}
use Rattle.address.specs.Bits.{bit_at, same_bits}

-- two tests that hold at the same time
pub eqb_iff : (a b c d : ℕ) → (a ≡ b → c ≡ d) → (c ≡ d → a ≡ b) → eqb a b ≡ eqb c d
eqb_iff a b c d f g = by (eqb a b) refl
  where
    by : (t : Bool) → eqb a b ≡ t → eqb a b ≡ eqb c d
    by true e = e ∙ sym (eq-eqb c d (f (eqb-true a b e)))
    by false e = e ∙ sym (ne_eqb c d (λ q. eqb-false a b e (g q)))

shl_inj : (k x y : ℕ) → x * 2 ^ k ≡ y * 2 ^ k → x ≡ y
shl_inj k x y e = sym (shl-shr x k) ∙ ap (λ (z : ℕ). z / 2 ^ k) e ∙ shl-shr y k

-- ## Under a mask

-- the bits of a word beyond the first n: what is left of all ones when they are shifted by n
pub ones_shr : (w n : ℕ) → n ≤ w → (2 ^ w - 1) / 2 ^ n ≡ 2 ^ (w - n) - 1
ones_shr w n h =
    let e : w ≡ (w - n) + n = omega arith in
    ap (λ (v : ℕ). (2 ^ v - 1) / 2 ^ n) e ∙ ap (λ (x : ℕ). x / 2 ^ n) (ones_split (w - n) n) ∙ high (2 ^ (w - n) - 1) n (ones_lt n)

module _ (w n m : ℕ) (h : n ≤ w) (is_m : m ≡ 2 ^ (w - n) - 1) where
  -- the mask of a length: its leading ones
  pub leading_ones : (2 ^ w - 1) - m ≡ 2 ^ w - 2 ^ (w - n)
  leading_ones = omega (arith, is_m, pow_pos (w - n))

  -- under the other bits stand the first n
  pub and_leading : (a : ℕ) → a < 2 ^ w → bit_and a ((2 ^ w - 1) - m) ≡ a / 2 ^ (w - n) * 2 ^ (w - n)
  and_leading a l =
      let e : n + (w - n) ≡ w = omega arith in
      let k : a < 2 ^ (n + (w - n)) = rw e l in
      let q : (2 ^ w - 1) - m ≡ 2 ^ (n + (w - n)) - 2 ^ (w - n) = leading_ones ∙ ap (λ (v : ℕ). 2 ^ v - 2 ^ (w - n)) (sym e) in
      ap (bit_and a) q ∙ and_high a n (w - n) ∙ ap (λ (x : ℕ). x * 2 ^ (w - n)) (shr_mod n (w - n) k)

  pub same_prefix_mask : (a b : ℕ) → a < 2 ^ w → b < 2 ^ w → eqb (bit_and a ((2 ^ w - 1) - m)) (bit_and b ((2 ^ w - 1) - m)) ≡ same_prefix w n a b
  unfolding same_prefix
  same_prefix_mask a b k l =
      let p : ℕ = 2 ^ (w - n) in
      ap₂ eqb (and_leading a k) (and_leading b l)
      ∙ eqb_iff (a / p * p) (b / p * p) (a / p) (b / p) (shl_inj (w - n) (a / p) (b / p)) (ap (λ (x : ℕ). x * p))

  pub clear_mask : (a : ℕ) → eqb (bit_and a m) 0 ≡ eqb (a % 2 ^ (w - n)) 0
  clear_mask a = ap (λ (x : ℕ). eqb x 0) (ap (bit_and a) is_m ∙ and_mask a (w - n))

-- ## In a number of two words

module _ (w n : ℕ) where
  module _ (h : n ≤ w) where
    leading_high : (x y : ℕ) → y < 2 ^ w → (x * 2 ^ w + y) / 2 ^ ((w + w) - n) ≡ x / 2 ^ (w - n)
    leading_high x y l =
        let e : (w + w) - n ≡ w + (w - n) = omega arith in
        ap (λ (k : ℕ). (x * 2 ^ w + y) / 2 ^ k) e ∙ sym (shr-shr (x * 2 ^ w + y) w (w - n)) ∙ ap (λ (z : ℕ). z / 2 ^ (w - n)) (high x w l)

    pub same_prefix_high : (a b c d : ℕ) → b < 2 ^ w → d < 2 ^ w → same_prefix (w + w) n (a * 2 ^ w + b) (c * 2 ^ w + d) ≡ same_prefix w n a c
    unfolding same_prefix
    same_prefix_high a b c d k l = ap₂ eqb (leading_high a b k) (leading_high c d l)

    beyond_high : (x y : ℕ) → y < 2 ^ w → (x * 2 ^ w + y) % 2 ^ ((w + w) - n) ≡ (x % 2 ^ (w - n)) * 2 ^ w + y
    beyond_high x y l =
        let e : (w + w) - n ≡ (w - n) + w = omega arith in
        ap (λ (k : ℕ). (x * 2 ^ w + y) % 2 ^ k) e ∙ mod-pow-add (x * 2 ^ w + y) (w - n) w
        ∙ ap₂ (λ (p q : ℕ). p % 2 ^ (w - n) * 2 ^ w + q) (high x w l) (low x w l)

    pub clear_high : (x y : ℕ) → y < 2 ^ w → y ≡ 0 → eqb ((x * 2 ^ w + y) % 2 ^ ((w + w) - n)) 0 ≡ eqb (x % 2 ^ (w - n)) 0
    clear_high x y l e =
        let r : ℕ = x % 2 ^ (w - n) in
        ap (λ (z : ℕ). eqb z 0) (beyond_high x y l)
        ∙ eqb_iff (r * 2 ^ w + y) 0 r 0 (λ q. shl_inj w r 0 (omega arith)) (λ q. omega (arith, ap (λ (z : ℕ). z * 2 ^ w) q))

    pub set_low : (x y : ℕ) → y < 2 ^ w → (y ≡ 0 → ⊥) → eqb ((x * 2 ^ w + y) % 2 ^ ((w + w) - n)) 0 ≡ false
    set_low x y l m = ne_eqb ((x * 2 ^ w + y) % 2 ^ ((w + w) - n)) 0 (λ q. m (omega (arith, beyond_high x y l)))

  module _ (h : w ≤ n) (t : n ≤ w + w) where
    -- the word's own bits, and those of the low word that count
    abbrev own : ℕ
    own = n - w

    abbrev rest : ℕ
    rest = w - (n - w)

    low_place : (w + w) - n ≡ rest
    low_place = omega arith

    widen : (x : ℕ) → x * 2 ^ w ≡ x * 2 ^ own * 2 ^ rest
    widen x = let e : own + rest ≡ w = omega arith in ap (λ (k : ℕ). x * 2 ^ k) (sym e) ∙ ap (λ (z : ℕ). x * z) (pow-add 2 own rest)
        ∙ sym (mul_assoc x (2 ^ own) (2 ^ rest))

    leading_low : (x y : ℕ) → (x * 2 ^ w + y) / 2 ^ ((w + w) - n) ≡ x * 2 ^ own + y / 2 ^ rest
    leading_low x y = rw (low_place, widen x) (mul-add-div_right (pow_pos rest) (x * 2 ^ own) y)

    pub same_prefix_low : (a b c d : ℕ) → a ≡ c → same_prefix (w + w) n (a * 2 ^ w + b) (c * 2 ^ w + d) ≡ same_prefix w (n - w) b d
    unfolding same_prefix
    same_prefix_low a b c d e =
        ap₂ eqb (leading_low a b) (leading_low c d)
        ∙ eqb_iff (a * 2 ^ own + b / 2 ^ rest) (c * 2 ^ own + d / 2 ^ rest) (b / 2 ^ rest) (d / 2 ^ rest)
        (λ q. omega (arith, ap (λ (z : ℕ). z * 2 ^ own) e)) (λ q. omega (arith, ap (λ (z : ℕ). z * 2 ^ own) e))

    pub same_prefix_differ : (a b c d : ℕ) → b < 2 ^ w → d < 2 ^ w → (a ≡ c → ⊥) → same_prefix (w + w) n (a * 2 ^ w + b) (c * 2 ^ w + d) ≡ false
    unfolding same_prefix
    same_prefix_differ a b c d k l m =
        let e : own + rest ≡ w = omega arith in
        let k' : b < 2 ^ (own + rest) = rw e k in
        let l' : d < 2 ^ (own + rest) = rw e l in
        ne_eqb ((a * 2 ^ w + b) / 2 ^ ((w + w) - n)) ((c * 2 ^ w + d) / 2 ^ ((w + w) - n))
        (λ q. m (sym (high a own (shr_lt own rest k')) ∙ ap (λ (z : ℕ). z / 2 ^ own) (sym (leading_low a b) ∙ q ∙ leading_low c d)
        ∙ high c own (shr_lt own rest l')))

    pub clear_low : (x y : ℕ) → eqb ((x * 2 ^ w + y) % 2 ^ ((w + w) - n)) 0 ≡ eqb (y % 2 ^ (w - (n - w))) 0
    clear_low x y = rw (low_place, widen x) (ap (λ (z : ℕ). eqb z 0) (mul-add-mod_self_right (x * 2 ^ own) (2 ^ rest) y))

-- ## Bit by bit

half : (w n a : ℕ) → suc n ≤ w → a / 2 ^ (w - n) ≡ a / 2 ^ (w - suc n) / 2
half w n a h = let e : w - n ≡ (w - suc n) + 1 = omega arith in ap (λ (k : ℕ). a / 2 ^ k) e ∙ sym (shr-shr a (w - suc n) 1)

eqb_halves : (x y : ℕ) → eqb x y ≡ (eqb (x / 2) (y / 2) && eqb (x % 2) (y % 2))
eqb_halves x y = by (eqb (x / 2) (y / 2)) refl
  where
    by : (t : Bool) → eqb (x / 2) (y / 2) ≡ t → eqb x y ≡ (eqb (x / 2) (y / 2) && eqb (x % 2) (y % 2))
    by true e = let q : x / 2 ≡ y / 2 = eqb-true (x / 2) (y / 2) e in rw e (eqb_iff x y (x % 2) (y % 2) (ap (λ (z : ℕ). z % 2)) (λ r. omega arith))
    by false e = rw e (ne_eqb x y (λ q. eqb-false (x / 2) (y / 2) e (ap (λ (z : ℕ). z / 2) q)))

-- the first n bits are equal where a comparison bit by bit says so
pub same_prefix_bits : (w n a b : ℕ) → n ≤ w → a < 2 ^ w → b < 2 ^ w → same_prefix w n a b ≡ same_bits w n a b
unfolding same_prefix same_bits
same_prefix_bits w zero a b h k l =
    let e : w - 0 ≡ w = omega arith in
    eq-eqb (a / 2 ^ (w - 0)) (b / 2 ^ (w - 0)) (rw e (div-eq_of_lt k ∙ sym (div-eq_of_lt l)))
same_prefix_bits w (suc n) a b h k l =
    eqb_halves (a / 2 ^ (w - suc n)) (b / 2 ^ (w - suc n))
    ∙ ap (λ (t : Bool). t && eqb (bit_at w n a) (bit_at w n b))
    (sym (ap₂ eqb (half w n a h) (half w n b h)) ∙ same_prefix_bits w n a b (omega arith) k l)
