-- Laws of comparing texts, of the first place of a byte, and of parting a text there.
-- Assumes nothing.
use Rattle.std.specs.Prelude.{None, Some}
use Prim.Native.Nat.{ℕ, suc, ◌+◌, ◌-◌, ◌<◌, ◌≤◌}
use Prim.Native.String.{String}
use mathlib.Core.Bool.{Bool, true, false, not, ◌&&◌, ◌||◌, true≢false}
use mathlib.Core.List.{List, [], ◌∷◌, map}
use mathlib.Core.Path.{◌≡◌, refl, sym, ap, ap₂, ◌∙◌}
use native.Mathlib.Numerals.{add-one}
use native.Mathlib.Omega.{arith}
use borrow.Author.Tests.{eqb-true, eqb-false, eq-eqb, ne_eqb}
use lib.Dec.{eqb}
use lib.Pointwise.{pointwise}
use Rattle.std.specs.List.{zip, list_all}
use lib.ListN.{length, take, drop, get_or, length-drop, length-map, drop_of_length-le}
use lib.Seq.{drop-cons, take_all}
use Rattle.text.specs.Basics.{any}
use Rattle.text.specs.Text.{bytes, among, equal, equal_fold, lower, split_once, split}
use Rattle.text.specs.Scan.{span_len, index_of}
use Rattle.text.proofs.BasicLaws.{and_true}

-- what the code's &s[a..] holds
pub take_rest : (s : List ℕ) (a : ℕ) → take (length s - a) (drop a s) ≡ drop a s
take_rest s a = take_all (length s - a) (drop a s) (rw (length-drop a s) (omega arith))

-- ## Comparing

pub equal_refl : (s : List ℕ) → equal s s ≡ true
unfolding equal
equal_refl [] = refl
equal_refl (x ∷ s) = rw (eq-eqb x x refl) (equal_refl s)

-- what the code's == of slices answers
pub pointwise_equal : (s t : List ℕ) → pointwise eqb s t ≡ equal s t
unfolding equal
pointwise_equal [] [] = refl
pointwise_equal [] (y ∷ t) = refl
pointwise_equal (x ∷ s) [] = refl
pointwise_equal (x ∷ s) (y ∷ t) = rw (pointwise_equal s t)

pub eq_of_equal : (s t : List ℕ) → equal s t ≡ true → s ≡ t
unfolding equal
eq_of_equal [] [] e = refl
eq_of_equal [] (y ∷ t) e = absurd (true≢false (sym e))
eq_of_equal (x ∷ s) [] e = absurd (true≢false (sym e))
eq_of_equal (x ∷ s) (y ∷ t) e =
    let p : (eqb x y ≡ true) × (equal s t ≡ true) = and_true (eqb x y) (equal s t) e in
    ap₂ (λ (a : ℕ) (l : List ℕ). a ∷ l) (eqb-true x y p.0) (eq_of_equal s t p.1)

pub equal_lengths : (s t : List ℕ) → (length s ≡ length t → ⊥) → equal s t ≡ false
unfolding equal
equal_lengths s t n = by (equal s t) refl
  where
    by : (b : Bool) → equal s t ≡ b → equal s t ≡ false
    by true e = absurd (n (ap length (eq_of_equal s t e)))
    by false e = e

pub equal_fold_lengths : (s t : List ℕ) → (length s ≡ length t → ⊥) → equal_fold s t ≡ false
unfolding equal_fold
equal_fold_lengths s t n = equal_lengths (map lower s) (map lower t) (λ e. n (sym (length-map s lower) ∙ e ∙ length-map t lower))

-- two bytes side by side that are equal but for case
abbrev pub same_folded : ℕ × ℕ → Bool
same_folded p = eqb (lower p.0) (lower p.1)

pub all_equal_fold : (s t : List ℕ) → length s ≡ length t → list_all same_folded (zip s t) ≡ equal_fold s t
unfolding equal equal_fold
all_equal_fold [] [] e = refl
all_equal_fold [] (y ∷ t) e = absurd (omega arith)
all_equal_fold (x ∷ s) [] e = absurd (omega arith)
all_equal_fold (x ∷ s) (y ∷ t) e = ap (λ b. eqb (lower x) (lower y) && b) (all_equal_fold s t (omega arith))

-- what a comparison e is that goes byte by byte, by k
pub record ByBytes (e : List ℕ → List ℕ → Bool) (k : ℕ → ℕ) : Type 0 where
  pub ended : e [] [] ≡ true
  pub more : (x y : ℕ) (s t : List ℕ) → e (x ∷ s) (y ∷ t) ≡ (eqb (k x) (k y) && e s t)

pub equal_fold_by : ByBytes equal_fold lower
unfolding equal equal_fold
equal_fold_by = record { ended = refl; more = λ x y s t. refl }

-- ## The leading bytes of a class

-- the loop that counts them, at i
module _ (p : ℕ → Bool) (s : List ℕ) (i : ℕ) (so_far : span_len p s ≡ i + span_len p (drop i s)) where
  module _ (h : i < length s) where
    pub span_len_stop : p (get_or s i 0) ≡ false → i ≡ span_len p s
    unfolding span_len
    span_len_stop e = sym (so_far ∙ rw (drop-cons s i 0, e) (omega arith))

    pub span_len_more : p (get_or s i 0) ≡ true → span_len p s ≡ (i + 1) + span_len p (drop (i + 1) s)
    unfolding span_len
    span_len_more e = so_far ∙ rw (add-one, drop-cons s i 0, e) (omega arith)

  pub span_len_end : length s ≤ i → i ≡ span_len p s
  unfolding span_len
  span_len_end h = sym (so_far ∙ rw (drop_of_length-le s h) (omega arith))

pub span_len_ext : (p q : ℕ → Bool) → ((x : ℕ) → p x ≡ q x) → (s : List ℕ) → span_len p s ≡ span_len q s
unfolding span_len
span_len_ext p q e [] = refl
span_len_ext p q e (x ∷ s) = rw (e x, span_len_ext p q e s)

-- ## The first place of a byte

module _ (b : ℕ) (s : List ℕ) (i : ℕ) (so_far : index_of b s ≡ i + index_of b (drop i s)) where
  pub index_of_stop : i < length s → get_or s i 0 ≡ b → i ≡ index_of b s
  unfolding index_of
  index_of_stop h e = span_len_stop (λ (x : ℕ). not (eqb x b)) s i so_far h (rw (eq-eqb (get_or s i 0) b e))

  pub index_of_more : i < length s → (get_or s i 0 ≡ b → ⊥) → index_of b s ≡ (i + 1) + index_of b (drop (i + 1) s)
  unfolding index_of
  index_of_more h n = span_len_more (λ (x : ℕ). not (eqb x b)) s i so_far h (rw (ne_eqb (get_or s i 0) b n))

  pub index_of_end : length s ≤ i → i ≡ index_of b s
  unfolding index_of
  index_of_end h = span_len_end (λ (x : ℕ). not (eqb x b)) s i so_far h

-- ## Parting

-- at the first mark, with p what is no mark
module _ (marks : String) (p : ℕ → Bool) (is-p : (x : ℕ) → p x ≡ not (among marks x)) where
  abbrev parted : List ℕ → ℕ → List (List ℕ)
  parted s i = take i s ∷ split marks (drop (suc i) s)

  split_some : (s : List ℕ) → span_len p s < length s → split marks s ≡ parted s (span_len p s)
  unfolding split span_len
  split_some [] h = absurd (omega arith)
  split_some (x ∷ s) h = by (among marks x) refl (split_some s)
    where
      by : (b : Bool) → among marks x ≡ b → (span_len p s < length s → split marks s ≡ parted s (span_len p s)) → split marks (x ∷ s)
          ≡ parted (x ∷ s) (span_len p (x ∷ s))
      by true e ih = rw (is-p x, e)
      by false e ih =
          let k : suc (span_len p s) < length (x ∷ s) = simp (is-p x, e) at h in
          simp (is-p x, e) (rw (ih (omega arith)))

  split_none : (s : List ℕ) → length s ≤ span_len p s → split marks s ≡ s ∷ []
  unfolding split span_len
  split_none [] h = refl
  split_none (x ∷ s) h = by (among marks x) refl (split_none s)
    where
      by : (b : Bool) → among marks x ≡ b → (length s ≤ span_len p s → split marks s ≡ s ∷ []) → split marks (x ∷ s) ≡ (x ∷ s) ∷ []
      by true e ih = let k : length (x ∷ s) ≤ 0 = simp (is-p x, e) at h in absurd (omega arith)
      by false e ih =
          let k : length (x ∷ s) ≤ suc (span_len p s) = simp (is-p x, e) at h in
          simp (is-p x, e) (rw (ih (omega arith)))

-- at the first of several marks
module _ (marks : String) (s : List ℕ) (i : ℕ) (is-i : i ≡ span_len (λ x. not (among marks x)) s) where
  pub split_marks : i < length s → split marks s ≡ take i s ∷ split marks (drop (i + 1) s)
  split_marks h = rw (add-one, is-i) (split_some marks (λ x. not (among marks x)) (λ x. refl) s (rw is-i at h))

  pub split_no_marks : length s ≤ i → split marks s ≡ s ∷ []
  split_no_marks h = split_none marks (λ x. not (among marks x)) (λ x. refl) s (rw is-i at h)

-- at the first b, the only mark
module _ (marks : String) (b : ℕ) (only : bytes marks ≡ b ∷ []) (s : List ℕ) (i : ℕ) (is-i : i ≡ index_of b s) where
  no_mark : (x : ℕ) → not (eqb x b) ≡ not (among marks x)
  unfolding any
  no_mark x = rw only (by (eqb x b))
    where
      by : (t : Bool) → not t ≡ not (t || false)
      by true = refl
      by false = refl

  pub split_mark : i < length s → split marks s ≡ take i s ∷ split marks (drop (i + 1) s)
  unfolding index_of
  split_mark h = rw (add-one, is-i) (split_some marks (λ x. not (eqb x b)) no_mark s (rw is-i at h))

  pub split_no_mark : length s ≤ i → split marks s ≡ s ∷ []
  unfolding index_of
  split_no_mark h = split_none marks (λ x. not (eqb x b)) no_mark s (rw is-i at h)

-- once, at the first b
pub split_once_some : (b : ℕ) (s : List ℕ) → index_of b s < length s → split_once (b ∷ []) s ≡ Some (take (index_of b s) s, drop (suc (index_of b s)) s)
unfolding split_once equal index_of span_len
split_once_some b [] h = absurd (omega arith)
split_once_some b (x ∷ s) h = by (eqb x b) refl (split_once_some b s)
  where
    by : (t : Bool) → eqb x b ≡ t → (index_of b s < length s → split_once (b ∷ []) s ≡ Some (take (index_of b s) s, drop (suc (index_of b s)) s))
        → split_once (b ∷ []) (x ∷ s) ≡ Some (take (index_of b (x ∷ s)) (x ∷ s), drop (suc (index_of b (x ∷ s))) (x ∷ s))
    by true e ih = simp (e, eq-eqb b x (sym (eqb-true x b e)))
    by false e ih =
        let k : suc (index_of b s) < length (x ∷ s) = simp e at h in
        simp (e, ne_eqb b x (λ q. eqb-false x b e (sym q))) (rw (ih (omega arith)))

split_once_none : (b : ℕ) (s : List ℕ) → length s ≤ index_of b s → split_once (b ∷ []) s ≡ None
unfolding split_once equal index_of span_len
split_once_none b [] h = refl
split_once_none b (x ∷ s) h = by (eqb x b) refl (split_once_none b s)
  where
    by : (t : Bool) → eqb x b ≡ t → (length s ≤ index_of b s → split_once (b ∷ []) s ≡ None) → split_once (b ∷ []) (x ∷ s) ≡ None
    by true e ih = let k : length (x ∷ s) ≤ 0 = simp e at h in absurd (omega arith)
    by false e ih =
        let k : length (x ∷ s) ≤ suc (index_of b s) = simp e at h in
        simp (e, ne_eqb b x (λ q. eqb-false x b e (sym q))) (rw (ih (omega arith)))

module _ (b : ℕ) (s : List ℕ) (i : ℕ) (is-i : i ≡ index_of b s) where
  pub split_once_mark : i < length s → split_once (b ∷ []) s ≡ Some (take i s, drop (i + 1) s)
  split_once_mark h = rw (add-one, is-i) (split_once_some b s (rw is-i at h))

  pub split_once_no_mark : length s ≤ i → split_once (b ∷ []) s ≡ None
  split_once_no_mark h = split_once_none b s (rw is-i at h)
