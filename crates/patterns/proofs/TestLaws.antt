-- Laws of tests over the bytes of a text: all of them, the first, the last, the length.
-- Assumes nothing.
use Prim.Native.Nat.{ℕ, zero, suc, ◌+◌, ◌-◌, min, ◌<◌, ◌≤◌}
use Prim.Native.String.{String}
use mathlib.Core.Bool.{Bool, true, false, not, ◌&&◌}
use mathlib.Core.Bool as Bool
use mathlib.Core.List.{List, [], ◌∷◌, reverse-append}
use mathlib.Core.Path.{◌≡◌, refl, sym, ap, ◌∙◌}
use native.Mathlib.Omega.{arith}
use borrow.Author.Tests.{eqb-true, eqb-false, eq-eqb, ne_eqb}
use lib.Dec.{eqb}
use lib.ListN.{length, take, drop, get_or, length-drop}
use lib.Seq.{take-suc, take_all, take-nil, get_or-drop}
use Rattle.std.specs.List.{list_all}
use Rattle.text.specs.Basics.{all, any}
use Rattle.text.specs.Text.{among, first_among, last_among}
use Rattle.text.specs.Scan.{span_len, index_of}

-- ## All bytes

-- as std's search over them says it
pub list_all_is_all : (p : ℕ → Bool) (s : List ℕ) → list_all p s ≡ all p s
unfolding all
list_all_is_all p [] = refl
list_all_is_all p (x ∷ s) = rw (list_all_is_all p s)

-- ## The first byte

pub first_among_head : (marks : String) (e : List ℕ) → (length e ≡ 0 → ⊥) → first_among marks e ≡ among marks (get_or e 0 0)
first_among_head marks [] n = absurd (n refl)
first_among_head marks (x ∷ e) n = refl

-- ## The last byte

pub last_among_last : (marks : String) (e : List ℕ) (n : ℕ) → (length e ≡ 0 → ⊥) → n ≡ length e - 1 → last_among marks e ≡ among marks (get_or e n 0)
last_among_last marks e n k q =
    ap (last_among marks) (sym (take_all (suc n) e (omega arith)) ∙ take-suc e n 0 (omega arith))
    ∙ ap (first_among marks) (reverse-append (take n e) (get_or e n 0 ∷ []))

-- ## No byte

eqb_suc : (a b : ℕ) → eqb (suc a) (suc b) ≡ eqb a b
eqb_suc a b = by (eqb a b) refl
  where
    by : (t : Bool) → eqb a b ≡ t → eqb (suc a) (suc b) ≡ eqb a b
    by true e = rw e (eq-eqb (suc a) (suc b) (ap suc (eqb-true a b e)))
    by false e = rw e (ne_eqb (suc a) (suc b) (λ q. eqb-false a b e (omega arith)))

-- the first dot stands at the end where there is none
pub no_dot : (s : List ℕ) → eqb (index_of 46 s) (length s) ≡ not (any (among ".") s)
unfolding index_of span_len any
no_dot [] = refl
no_dot (x ∷ s) = by (eqb x 46) refl (no_dot s)
  where
    by : (t : Bool) → eqb x 46 ≡ t → eqb (index_of 46 s) (length s) ≡ not (any (among ".") s) → eqb (index_of 46 (x ∷ s)) (length (x ∷ s))
        ≡ not (any (among ".") (x ∷ s))
    by true e ih = simp e (ne_eqb 0 (suc (length s)) (λ q. omega arith))
    by false e ih = simp e (eqb_suc (index_of 46 s) (length s) ∙ ih)

-- ## Parts of a text

pub drop_take : (a b : ℕ) (l : List ℕ) → drop a (take b l) ≡ take (b - a) (drop a l)
drop_take zero b l = let e : b ≡ b - 0 = omega arith in ap (λ (k : ℕ). take k l) e
drop_take (suc a) zero l = let e : 0 ≡ 0 - suc a = omega arith in ap (λ (k : ℕ). take k (drop (suc a) l)) e
drop_take (suc a) (suc b) [] = sym (take-nil (suc b - suc a))
drop_take (suc a) (suc b) (x ∷ l) = let e : b - a ≡ suc b - suc a = omega arith in drop_take a b l ∙ ap (λ (k : ℕ). take k (drop a l)) e

pub span_len_take : (p : ℕ → Bool) (n : ℕ) (s : List ℕ) → span_len p (take n s) ≡ min n (span_len p s)
unfolding span_len
span_len_take p zero s = omega arith
span_len_take p (suc n) [] = omega arith
span_len_take p (suc n) (x ∷ s) = by (p x) refl (span_len_take p n s)
  where
    by : (b : Bool) → p x ≡ b → span_len p (take n s) ≡ min n (span_len p s) → span_len p (x ∷ take n s) ≡ min (suc n) (span_len p (x ∷ s))
    by true e ih = simp e (omega arith)
    by false e ih = simp e (omega arith)

pub index_of_take : (b n : ℕ) (s : List ℕ) → index_of b (take n s) ≡ min n (index_of b s)
unfolding index_of
index_of_take b n s = span_len_take (λ (x : ℕ). not (eqb x b)) n s

pub get_d_index_of : (b : ℕ) (s : List ℕ) → index_of b s < length s → get_or s (index_of b s) 0 ≡ b
unfolding index_of span_len
get_d_index_of b [] h = absurd (omega arith)
get_d_index_of b (x ∷ s) h = by (eqb x b) refl (get_d_index_of b s)
  where
    by : (t : Bool) → eqb x b ≡ t → (index_of b s < length s → get_or s (index_of b s) 0 ≡ b) → get_or (x ∷ s) (index_of b (x ∷ s)) 0 ≡ b
    by true e ih = simp e (eqb-true x b e)
    by false e ih = let k : suc (index_of b s) < suc (length s) = simp e at h in simp e (ih (omega arith))

pub index_of_length : (b : ℕ) (s : List ℕ) → index_of b s ≤ length s
unfolding index_of span_len
index_of_length b [] = omega arith
index_of_length b (x ∷ s) = by (eqb x b) refl (index_of_length b s)
  where
    by : (t : Bool) → eqb x b ≡ t → index_of b s ≤ length s → index_of b (x ∷ s) ≤ length (x ∷ s)
    by true e ih = simp e (omega arith)
    by false e ih = simp e (omega arith)

pub index_of_le : (b : ℕ) (s : List ℕ) (k : ℕ) → k < length s → get_or s k 0 ≡ b → index_of b s ≤ k
unfolding index_of span_len
index_of_le b [] k h e = absurd (omega arith)
index_of_le b (x ∷ s) zero h e = simp (eq-eqb x b e) (omega arith)
index_of_le b (x ∷ s) (suc k) h e = by (eqb x b) refl (index_of_le b s k (omega arith) e)
  where
    by : (t : Bool) → eqb x b ≡ t → index_of b s ≤ k → index_of b (x ∷ s) ≤ suc k
    by true e ih = simp e (omega arith)
    by false e ih = simp e (omega arith)

-- ## A dot at the end

pub ends_in_dot : (t : List ℕ) → (length t ≡ 0 → ⊥) → last_among "." t ≡ eqb (get_or t (length t - 1) 0) 46
unfolding any
ends_in_dot t n = last_among_last "." t (length t - 1) n refl ∙ Bool.or-false (eqb (get_or t (length t - 1) 0) 46)

pub no_dot_at_end : (t : List ℕ) → length t ≤ index_of 46 t → last_among "." t ≡ false
no_dot_at_end [] h = refl
no_dot_at_end (x ∷ t) h = ends_in_dot (x ∷ t) (λ q. omega arith)
    ∙ ne_eqb (get_or (x ∷ t) (length (x ∷ t) - 1) 0) 46 (λ q. omega (arith, index_of_le 46 (x ∷ t) (length (x ∷ t) - 1) (omega arith) q))

pub dot_at_end : (t : List ℕ) → index_of 46 t + 1 ≡ length t → last_among "." t ≡ true
dot_at_end t e =
    let q : length t - 1 ≡ index_of 46 t = omega arith in
    ends_in_dot t (λ z. omega arith) ∙ rw q (eq-eqb (get_or t (index_of 46 t) 0) 46 (get_d_index_of 46 t (omega arith)))

pub last_among_drop : (t : List ℕ) (j : ℕ) → j < length t → last_among "." (drop j t) ≡ last_among "." t
last_among_drop t j h =
    let q : j + (length (drop j t) - 1) ≡ length t - 1 = rw (length-drop j t) (omega arith) in
    ends_in_dot (drop j t) (λ z. omega (arith, length-drop j t))
    ∙ ap (λ (x : ℕ). eqb x 46) (get_or-drop j t (length (drop j t) - 1) 0 ∙ ap (λ (k : ℕ). get_or t k 0) q)
    ∙ sym (ends_in_dot t (λ z. omega arith))
