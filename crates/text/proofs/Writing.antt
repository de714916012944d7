-- How many digits a decimal has, and the loop that writes one, the last digit first: what is known at each turn, and what its answer follows from.
-- Assumes nothing.
use Prim.Native.Nat.{ℕ, zero, suc, ◌+◌, ◌-◌, ◌*◌, ◌/◌, ◌%◌, ◌^◌, ◌<◌, ◌≤◌}
use mathlib.Core.Bool.{Bool, true, false}
use mathlib.Core.List.{List, [], ◌∷◌, ◌++◌, append_assoc, append-nil}
use mathlib.Core.Path.{◌≡◌, refl, sym, ap, ◌∙◌}
use native.Mathlib.Omega.{arith}
use native.Mathlib.Nat.{mod-lt, pow-suc}
use borrow.Author.Tests.{lt-ltb}
use lib.Dec.{ltb}
use lib.ListN.{length, take, drop, get_or, set, length-append, length-set, take-append-drop}
use lib.Seq.{length-take-le, take_at, drop_at, take-length, drop-length, take-suc, drop-cons, set_at}
use Rattle.text.specs.Basics.{when◌then◌else◌}
use Rattle.text.specs.Number.{digit_byte, numeral, decimal}
use Rattle.text.specs.Scan.{put_at}
use Rattle.text.proofs.Canonical.{length_numeral_below, length_numeral_above}
use Rattle.text.proofs.Numeral.{length_numeral}

-- ## Measuring

-- one digit more than the power of 10 that fits
pub length_decimal : (n k : ℕ) → 10 ^ k ≤ n → n < 10 * 10 ^ k → k < 10 → k + 1 ≡ length (decimal n)
length_decimal n k low high few =
    let above : k < length (decimal n) = length_numeral_above 10 10 k n (omega arith) low few in
    let below : length (decimal n) ≤ suc k = length_numeral_below 10 10 k n (omega arith) (omega (arith, pow-suc 10 k)) in
    omega arith

-- ## Writing

-- the output o is d with the digits of n from the j-th on written from `at` + j on; m is left to be written before them
pub record Written (d o : List ℕ) (at n m j : ℕ) : Type 0 where
  pub within : j ≤ length (decimal n)
  pub long : length o ≡ length d
  pub text : o ≡ (take (at + j) d ++ drop j (decimal n)) ++ drop (at + length (decimal n)) d
  pub left : 0 < j → numeral 10 (10 - length (decimal n) + j) m ≡ take j (decimal n)

pub written_start : (d : List ℕ) (at n k : ℕ) → k ≡ length (decimal n) → Written d d at n n k
written_start d at n k e =
    let l : length (decimal n) ≤ 10 = (length_numeral 10 10 n).0 in
    let f : 10 - length (decimal n) + length (decimal n) ≡ 10 = omega arith in
    rw e
    (record {
      within = omega arith;
      long = refl;
      text = rw (drop-length (decimal n), append-nil (take (at + length (decimal n)) d)) (sym (take-append-drop (at + length (decimal n)) d));
      left = λ h. rw (f, take-length (decimal n));
    })

-- two lists with one more element each
snoc_inj : (xs ys : List ℕ) (a b : ℕ) → xs ++ (a ∷ []) ≡ ys ++ (b ∷ []) → (xs ≡ ys) × (a ≡ b)
snoc_inj xs ys a b e =
    let l : length xs ≡ length ys = omega (arith, simp length-append at (ap length e)) in
    let f : (a ∷ []) ≡ (b ∷ []) = sym (drop_at xs (a ∷ []) (length ys) l) ∙ ap (drop (length ys)) e ∙ drop_at ys (b ∷ []) (length ys) refl in
    (sym (take_at xs (a ∷ []) (length ys) l) ∙ ap (take (length ys)) e ∙ take_at ys (b ∷ []) (length ys) refl, cc)

-- the last digit that is left, and what is left before it
numeral_split : (f m i : ℕ) (t : List ℕ) → i < length t → numeral 10 (suc f) m ≡ take (suc i) t → (digit_byte (m % 10) ≡ get_or t i 0)
    × (0 < i → numeral 10 f (m / 10) ≡ take i t)
unfolding numeral
numeral_split f m i t h e =
    let s : ((when ltb m 10 then [] else numeral 10 f (m / 10)) ≡ take i t) × (digit_byte (m % 10) ≡ get_or t i 0) =
    snoc_inj (when ltb m 10 then [] else numeral 10 f (m / 10)) (take i t) (digit_byte (m % 10)) (get_or t i 0) (e ∙ take-suc t i 0 h) in
    (s.1, by (ltb m 10) s.0)
  where
    by : (b : Bool) → (when b then [] else numeral 10 f (m / 10)) ≡ take i t → 0 < i → numeral 10 f (m / 10) ≡ take i t
    by true q l = absurd (omega (arith, ap length q, length-take-le i t (omega arith)))
    by false q l = q

-- one digit more, before those that are written
digit_set : (d o t r : List ℕ) (at i x : ℕ) → o ≡ (take (at + suc i) d ++ drop (suc i) t) ++ r → at + i < length d → i < length t → x ≡ get_or t i 0
    → set o (at + i) x ≡ (take (at + i) d ++ drop i t) ++ r
digit_set d o t r at i x e h l q =
    let f : at + suc i ≡ suc (at + i) = omega arith in
    rw (e, f, take-suc d (at + i) 0, drop-cons t i 0, ← q)
    (simp append_assoc (set_at (take (at + i) d) (get_or d (at + i) 0) (drop (suc i) t ++ r) x (at + i) (length-take-le (at + i) d (omega arith))))

module _ (d o : List ℕ) (at n m : ℕ) (room : at + length (decimal n) ≤ length d) where
  written_suc : (i : ℕ) → Written d o at n m (suc i) → Written d (set o (at + i) (48 + m % 10)) at n (m / 10) i
  written_suc i w =
      let f : 10 - length (decimal n) + suc i ≡ suc (10 - length (decimal n) + i) = omega arith in
      let q = numeral_split (10 - length (decimal n) + i) m i (decimal n) w.within (rw f at (w.left (omega arith))) in
      record {
        within = omega (arith, w.within);
        long = length-set o (at + i) (48 + m % 10) ∙ w.long;
        text =
            digit_set d o (decimal n) (drop (at + length (decimal n)) d) at i (48 + m % 10) w.text (omega (arith, w.within)) w.within
            (rw (lt-ltb (m % 10) 10 (mod-lt m {m = 10} (omega arith))) at q.0);
        left = q.1;
      }

  pub written_step : (j : ℕ) → Written d o at n m j → 0 < j → Written d (set o (at + (j - 1)) (48 + m % 10)) at n (m / 10) (j - 1)
  written_step zero w h = absurd (omega arith)
  written_step (suc i) w h = let e : suc i - 1 ≡ i = omega arith in rw e (written_suc i w)

  pub written_all : (j : ℕ) → Written d o at n m j → j ≤ 0 → o ≡ put_at d at (decimal n)
  unfolding put_at
  written_all j w h =
      let e : j ≡ 0 = omega arith in
      let f : at + 0 ≡ at = omega arith in
      rw (take-length (decimal n)) (rw (e, f) at w.text)
