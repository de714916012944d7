-- Laws of the functions that compare lists and take their fingerprints, shaped as the calls and tests of the code hand their facts over.
-- Assumes nothing.
use Prim.Native.Nat.{ℕ, suc, ◌+◌, ◌*◌, ◌%◌, ◌-◌, ◌<◌, ◌≤◌}
use native.Mathlib.Numerals.{add-one}
use native.Mathlib.Omega.{arith}
use mathlib.Core.Bool.{Bool, true, false, not, ◌&&◌, ◌||◌, true≢false}
use mathlib.Core.List.{List, [], ◌∷◌}
use mathlib.Core.Path.{◌≡◌, refl, sym, ap, ◌∙◌}
use borrow.Author.Tests.{eq-eqb, ne_eqb, eqb-true, eqb-false, not-true, not-false}
use lib.Dec.{eqb}
use lib.ListN.{length, take, drop, get_or, drop_of_length-le}
use lib.Seq.{drop-cons}
use Rattle.text.specs.Basics.{when◌then◌else◌, any}
use Rattle.text.specs.Text.{bytes, equal, equal_fold, is_word, lower}
use Rattle.text.proofs.ScanLaws.{equal_fold_lengths, take_rest}
use Rattle.lines.specs.declared.rule.ElementSpan.{ElementSpan}
use Rattle.lines.specs.Parts.{separator_index, after_separator, words, is_parting, is_element_byte, parting_length, element_length, element_span, first_element}
use Rattle.lines.specs.Parts.{after_element}
use Rattle.text.specs.Scan.{span_len}
use Rattle.lines.proofs.RuleLaws.{Passed, passed_stop, passed_more, words_none, words_more, rest_shorter}
use Rattle.tidy.specs.Tidy.{same_list, all_alone}
use Rattle.tidy.specs.Code.{daemons_part, clients_part, same_text, all_text, print_more, print_next, print_list, bucket_text}

-- ## Elements

pub parting_is : (b : ℕ) → ((eqb b 32 || eqb b 9) || eqb b 44) ≡ is_parting b
unfolding is_parting any
parting_is b = by (eqb b 32) (eqb b 9) (eqb b 44)
  where
    by : (x y z : Bool) → ((x || y) || z) ≡ (x || (y || (z || false)))
    by true y z = refl
    by false true z = refl
    by false false true = refl
    by false false false = refl

module _ (s : List ℕ) (i : ℕ) (h : Passed is_element_byte s i) (l : i < length s) (x : Bool) (is_x : x ≡ is_parting (get_or s i 0)) where
  element_is : not x ≡ is_element_byte (get_or s i 0)
  unfolding is_element_byte
  element_is = ap not is_x

  pub element_stop : x ≡ true → i ≡ span_len is_element_byte s
  element_stop e = passed_stop is_element_byte s i h l (not x) element_is (ap not e)

  pub element_more : x ≡ false → Passed is_element_byte s (i + 1)
  element_more e = passed_more is_element_byte s i h l (not x) element_is (ap not e)

pub span_is : (s : List ℕ) (a n : ℕ) → a ≡ span_len is_parting s → n ≡ span_len is_element_byte (take (length s - a) (drop a s))
    → ◌≡◌ {A = ElementSpan} (record { start = a; end = a + n }) (element_span s)
unfolding element_span
span_is s a n is-a is-n = rw (is-n, take_rest s a, is-a)

-- ## Two lists

module _ (a b s t w v : List ℕ) (so_far : same_list (words a) (words b) ≡ same_list (words s) (words t)) (is-w : w ≡ first_element s)
    (is_v : v ≡ first_element t) where
  pub same_ended : length w ≡ 0 → eqb (length v) 0 ≡ same_list (words a) (words b)
  unfolding same_list
  same_ended z = by (eqb (length v) 0) refl
    where
      by : (c : Bool) → eqb (length v) 0 ≡ c → c ≡ same_list (words a) (words b)
      by true e = sym (so_far ∙ rw (words_none s w is-w z, words_none t v is_v (eqb-true (length v) 0 e)))
      by false e = sym (so_far ∙ rw (words_none s w is-w z, words_more t v (after_element t) is_v (eqb-false (length v) 0 e) refl))

  module _ (full : length w ≡ 0 → ⊥) (x : Bool) (is_x : x ≡ equal_fold w v) where
    pub same_differ : not x ≡ true → false ≡ same_list (words a) (words b)
    unfolding same_list
    same_differ n = by (eqb (length v) 0) refl
      where
        by : (c : Bool) → eqb (length v) 0 ≡ c → false ≡ same_list (words a) (words b)
        by true e = sym (so_far ∙ rw (words_more s w (after_element s) is-w full refl, words_none t v is_v (eqb-true (length v) 0 e)))
        by false e =
            sym (so_far
            ∙ rw (words_more s w (after_element s) is-w full refl, words_more t v (after_element t) is_v (eqb-false (length v) 0 e) refl, ← is_x, not-true x n))

    pub same_more : not x ≡ false → (s' t' : List ℕ) → s' ≡ after_element s → t' ≡ after_element t → same_list (words a) (words b) ≡ same_list (words s') (words t')
    unfolding same_list
    same_more n s' t' is-s is-t = by (eqb (length v) 0) refl
      where
        by : (c : Bool) → eqb (length v) 0 ≡ c → same_list (words a) (words b) ≡ same_list (words s') (words t')
        by true e =
            absurd (true≢false (sym (not-false x n) ∙ (is_x ∙ equal_fold_lengths w v (λ q. full (q ∙ eqb-true (length v) 0 e)))))
        by false e =
            so_far
            ∙ rw (words_more s w s' is-w full is-s, words_more t v t' is_v (eqb-false (length v) 0 e) is-t, ← is_x, not-false x n)

-- ## ALL alone

word_empty : equal_fold (bytes "ALL") [] ≡ false
unfolding equal_fold equal
word_empty = refl

module _ (s w : List ℕ) (is-w : w ≡ first_element s) (x : Bool) (is_x : x ≡ equal_fold (bytes "ALL") w) where
  empty_not : (w : List ℕ) → length w ≡ 0 → equal_fold (bytes "ALL") w ≡ false
  empty_not [] z = word_empty
  empty_not (y ∷ w) z = absurd (omega arith)

  alone_by : (c : Bool) (vs : List (List ℕ)) → c ≡ false → false ≡ (when c then all_alone (w ∷ vs) else false)
  alone_by c vs e = rw e

  pub alone_other : not x ≡ true → false ≡ all_alone (words s)
  alone_other n = by (eqb (length w) 0) refl
    where
      head : (vs : List (List ℕ)) → false ≡ all_alone (w ∷ vs)
      head [] = sym (sym is_x ∙ not-true x n)
      head (v ∷ vs) = refl

      by : (c : Bool) → eqb (length w) 0 ≡ c → false ≡ all_alone (words s)
      by true e = rw (words_none s w is-w (eqb-true (length w) 0 e))
      by false e = rw (words_more s w (after_element s) is-w (eqb-false (length w) 0 e) refl) (head (words (after_element s)))

  pub alone_ended : not x ≡ false → (rest v : List ℕ) → rest ≡ after_element s → v ≡ first_element rest → eqb (length v) 0 ≡ all_alone (words s)
  alone_ended n rest v is-rest is_v =
      rw (words_more s w rest is-w (λ z. true≢false (sym (not-false x n) ∙ (is_x ∙ empty_not w z))) is-rest) (by (eqb (length v) 0) refl)
    where
      by : (c : Bool) → eqb (length v) 0 ≡ c → c ≡ all_alone (w ∷ words rest)
      by true e = rw (words_none rest v is_v (eqb-true (length v) 0 e)) (sym (sym is_x ∙ not-false x n))
      by false e = rw (words_more rest v (after_element rest) is_v (eqb-false (length v) 0 e) refl)

-- ## The parts of a rule

pub daemons_part_lem : (t : List ℕ) (i : ℕ) → i ≡ separator_index false t → take i t ≡ daemons_part t
unfolding daemons_part
daemons_part_lem t i e = rw e

pub clients_part_lem : (t : List ℕ) (i : ℕ) → i ≡ separator_index false t → (rest : List ℕ) → rest ≡ after_separator i t → (j : ℕ) → j ≡ separator_index false rest
    → take j rest ≡ clients_part t
unfolding clients_part
clients_part_lem t i e rest is-rest j is-j = rw (is-j, is-rest, e)

module _ (a t d e : List ℕ) (is_d : d ≡ daemons_part a) (is-e : e ≡ daemons_part t) (x : Bool) (is_x : x ≡ same_list (words d) (words e)) where
  pub rule_other : x ≡ false → false ≡ same_text a t
  unfolding same_text
  rule_other q = rw (← is_d, ← is-e, ← is_x, q)

  pub rule_same : x ≡ true → (c f : List ℕ) → c ≡ clients_part a → f ≡ clients_part t → (y : Bool) → y ≡ same_list (words c) (words f) → y ≡ same_text a t
  unfolding same_text
  rule_same q c f is_c is_f y is_y = is_y ∙ rw (← is_d, ← is-e, ← is_x, q, is_c, is_f)

module _ (t d : List ℕ) (is_d : d ≡ daemons_part t) (x : Bool) (is_x : x ≡ all_alone (words d)) where
  pub all_other : x ≡ false → false ≡ all_text t
  unfolding all_text
  all_other q = rw (← is_d, ← is_x, q)

  pub all_same : x ≡ true → (c : List ℕ) → c ≡ clients_part t → (y : Bool) → y ≡ all_alone (words c) → y ≡ all_text t
  unfolding all_text
  all_same q c is_c y is_y = is_y ∙ rw (← is_d, ← is_x, q, is_c)

-- ## Fingerprints

pub record Printing (start : ℕ) (s : List ℕ) (h i : ℕ) : Type 0 where
  pub within : i ≤ length s
  pub small : h < 16777216
  pub so_far : print_list start s ≡ print_list h (drop i s)

pub printing_start : (start : ℕ) (s : List ℕ) → start < 16777216 → Printing start s start 0
printing_start start s l = record { within = omega arith; small = l; so_far = refl }

print_cons : (h : ℕ) (s : List ℕ) (i : ℕ) → i < length s → print_list h (drop i s) ≡ print_list (print_next h (get_or s i 0)) (drop (i + 1) s)
unfolding print_list
print_cons h s i l = ap (print_list h) (drop-cons s i 0 l) ∙ rw (add-one i)

module _ (start : ℕ) (s : List ℕ) (h i : ℕ) (p : Printing start s h i) where
  pub printing_end : length s ≤ i → h ≡ print_list start s
  unfolding print_list
  printing_end l = sym (p.so_far ∙ ap (print_list h) (drop_of_length-le s l))

  pub printing_small : h < 16777216
  printing_small = p.small

  pub printing_more : i < length s → (z : ℕ) → z ≡ print_next h (get_or s i 0) → z < 16777216 → Printing start s z (i + 1)
  printing_more l z is-z k =
      record { within = omega arith; small = k; so_far = p.so_far ∙ (print_cons h s i l ∙ ap (λ (x : ℕ). print_list x (drop (i + 1) s)) (sym is-z)) }

module _ (h b : ℕ) (x : Bool) (is_x : x ≡ is_parting b) where
  pub next_parting : x ≡ true → h ≡ print_next h b
  unfolding print_next
  next_parting e = rw (← is_x, e)

  pub next_byte : x ≡ false → (y : ℕ) → y ≡ lower b → (h * 131 + y) % 16777216 ≡ print_next h b
  unfolding print_next
  next_byte e y is_y = rw (← is_x, e, is_y)

pub bucket_is : (t d : List ℕ) → d ≡ daemons_part t → (h : ℕ) → h ≡ print_list 0 d → (c : List ℕ) → c ≡ clients_part t → (k : ℕ) → k ≡ print_list h c
    → k % 2048 ≡ bucket_text t
unfolding bucket_text
bucket_is t d is_d h is-h c is_c k is-k = rw (is-k, is_c, is-h, is_d)
