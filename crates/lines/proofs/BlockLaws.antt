-- Laws of bytes that are passed by blocks, over what holds of each byte that is passed.
-- Assumes nothing.
use Prim.Native.Nat.{ℕ, zero, suc, ◌+◌, ◌-◌, ◌<◌, ◌≤◌}
use mathlib.Core.Bool.{Bool, true, false, ◌&&◌, and-true as and_true_right, and-false as and-false-right, and_assoc, true≢false}
use mathlib.Core.List.{List, [], ◌∷◌}
use mathlib.Core.Path.{◌≡◌, refl, sym, ap, ◌∙◌}
use native.Mathlib.Nat.{zero-add, suc-add, sub_self, add-sub_cancel_left}
use native.Mathlib.Numerals.{add-one}
use native.Mathlib.Omega.{arith}
use borrow.Author.Tests.{ltb-true, ltb-false}
use lib.Dec.{ltb}
use lib.ListN.{length, take, drop, get_or, length-drop, drop_of_length-le}
use lib.Seq.{drop-cons, drop-drop}
use Rattle.text.specs.Basics.{all}
use Rattle.lines.specs.Block.{front_all, PassedTo}

module _ (p : ℕ → Bool) where
  -- ## The loop that looks at every byte of a block, at i

  pub record Passing (s : List ℕ) (i : ℕ) (c : Bool) : Type 0 where
    pub within : i ≤ length s
    pub so_far : all p s ≡ (c && all p (drop i s))

  module _ {s : List ℕ} {i : ℕ} {c : Bool} (inv : Passing s i c) where
    pub passing_more : i < length s → Passing s (i + 1) (c && p (get_or s i 0))
    unfolding all
    passing_more h = record {
      within = omega arith;
      so_far = inv.so_far ∙ rw (add-one i, drop-cons s i 0 h) (sym (and_assoc c (p (get_or s i 0)) (all p (drop (suc i) s))));
    }

    pub passing_end : length s ≤ i → c ≡ all p s
    unfolding all
    passing_end h = sym (inv.so_far ∙ rw (drop_of_length-le s h) (and_true_right c))

  -- ## A block at i

  front_all_lem : (n : ℕ) (l : List ℕ) → n ≤ length l → front_all p n l ≡ all p (take n l)
  unfolding front_all all
  front_all_lem zero l h = refl
  front_all_lem (suc n) [] h = absurd (omega arith)
  front_all_lem (suc n) (x ∷ l) h = rw (front_all_lem n l (omega arith))

  front_short : (n : ℕ) (l : List ℕ) → length l < n → front_all p n l ≡ false
  unfolding front_all
  front_short zero l h = absurd (omega arith)
  front_short (suc n) [] h = refl
  front_short (suc n) (x ∷ l) h = rw (front_short n l (omega arith)) (and-false-right (p x))

  pub front_within : (n : ℕ) (l : List ℕ) → front_all p n l ≡ true → n ≤ length l
  front_within n l e = by (ltb (length l) n) refl
    where
      by : (b : Bool) → ltb (length l) n ≡ b → n ≤ length l
      by true q = absurd (true≢false (sym e ∙ front_short n l (ltb-true (length l) n q)))
      by false q = ltb-false (length l) n q

  module _ (t : List ℕ) (i : ℕ) where
    pub block_none : length t < 16 → false ≡ front_all p 16 (drop i t)
    block_none h = sym (front_short 16 (drop i t) (omega (arith, length-drop i t)))

    pub block_short : 16 ≤ length t → length t - 16 < i → false ≡ front_all p 16 (drop i t)
    block_short h k = sym (front_short 16 (drop i t) (omega (arith, length-drop i t)))

    pub block_whole : 16 ≤ length t → i ≤ length t - 16 → (r : Bool) → r ≡ all p (take (i + 16 - i) (drop i t)) → r ≡ front_all p 16 (drop i t)
    block_whole h k r q =
        q ∙ ap (λ (n : ℕ). all p (take n (drop i t))) (add-sub_cancel_left i 16) ∙ sym (front_all_lem 16 (drop i t) (omega (arith, length-drop i t)))

    -- a block that is passed lies within the text
    module _ (x : Bool) (is_x : x ≡ front_all p 16 (drop i t)) (e : x ≡ true) where
      block_within : i + 16 ≤ length t
      block_within = omega (arith, front_within 16 (drop i t) (sym is_x ∙ e), length-drop i t)

      pub block_fits : length t < 18446744073709551616 → i + 16 < 18446744073709551616
      block_fits h = omega (arith, block_within)

      pub block_less : length t - (i + 16) < length t - i
      block_less = omega (arith, block_within)

  -- ## Blocks one after the other

  front_both : (a b : ℕ) (l : List ℕ) → front_all p (a + b) l ≡ (front_all p a l && front_all p b (drop a l))
  unfolding front_all
  front_both zero b l = rw (zero-add b)
  front_both (suc a) b [] = rw (suc-add a b)
  front_both (suc a) b (x ∷ l) = rw (suc-add a b, front_both a b l) (sym (and_assoc (p x) (front_all p a l) (front_all p b (drop a l))))

  pub passed_start : (t : List ℕ) (start : ℕ) → start ≤ length t → PassedTo p t start start
  unfolding front_all
  passed_start t start h = record { from = omega arith; within = h; front = rw (sub_self start) }

  pub passed_more : (t : List ℕ) (start i : ℕ) → PassedTo p t start i → (x : Bool) → x ≡ front_all p 16 (drop i t) → x ≡ true
      → PassedTo p t start (i + 16)
  passed_more t start i h x is_x e =
      let b : front_all p 16 (drop i t) ≡ true = sym is_x ∙ e in
      let k : start + (i - start) ≡ i = omega (arith, h.from) in
      let d : drop (i - start) (drop start t) ≡ drop i t = drop-drop (i - start) start t ∙ ap (λ (k : ℕ). drop k t) k in
      let n : i + 16 - start ≡ (i - start) + 16 = omega (arith, h.from) in
      record {
        from = omega (arith, h.from);
        within = omega (arith, h.within, front_within 16 (drop i t) b, length-drop i t);
        front = rw (n, front_both (i - start) 16 (drop start t), h.front, d) b;
      }
