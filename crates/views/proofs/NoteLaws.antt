-- Laws of notes: what their words say of a place, and of a name.
-- Assumes nothing.
use Rattle.std.specs.Prelude.{None, Option, Some, Err, Ok, Result, ⊤}
use Prim.Native.Nat.{ℕ, ◌+◌, ◌-◌, ◌*◌, ◌/◌, ◌%◌, ◌≤◌, ◌<◌}
use native.Mathlib.Omega.{arith}
use mathlib.Core.Bool.{Bool, true, false, true≢false, and-false}
use mathlib.Core.List.{List, [], ◌∷◌}
use mathlib.Core.Path.{◌≡◌, refl, sym, ap, ap₂, ◌∙◌}
use lib.Dec.{ltb}
use lib.ListN.{length, take, drop, get_or, get_or-eq_default}
use borrow.Author.Tests.{lt-ltb, le-ltb}
use Rattle.text.specs.Basics.{when◌then◌else◌, given, is_some, is_empty, holds, any}
use Rattle.text.specs.Text.{first_among}
use Rattle.text.proofs.ScanLaws.{take_rest}
use Rattle.tables.specs.Table.{Table, is_table_name, table_name}
use Rattle.tables.specs.Code.{place_named, first_word, after_word}
use Rattle.tables.proofs.WordLaws.{words_none, words_more}
use Rattle.views.specs.declared.NamingFault.{NamingFault}
use Rattle.views.specs.declared.NamingFault.TheVariants as NamingFault
use Rattle.views.specs.declared.Reference.{Reference}
use Rattle.views.specs.View.{bit_at, is_deep, naming_at, marked_at, placed_naming, naming_of, noted_match, reference_of, name_leads, word_leads, text_leads}
use Rattle.views.specs.Names.{noted_place}
use Rattle.views.specs.View.{counted_at, placed_count, noted_tried}
use Rattle.views.proofs.BitLaws.{bit_none}

-- ## At a place

module _ (notes : List ℕ) (i : ℕ) where
  module _ (k : ℕ) (is-k : k ≡ i / 64 + 2) where
    same_place : 2 + i / 64 ≡ k
    same_place = omega arith

    pub deep_outside : length notes ≤ k → false ≡ is_deep notes i
    unfolding is_deep
    deep_outside h = sym (rw (same_place, get_or-eq_default notes 0 h) (bit_none (i % 64)))

    pub deep_inside : (r : Bool) → r ≡ bit_at (i % 64) (get_or notes k 0) → r ≡ is_deep notes i
    unfolding is_deep
    deep_inside r e = rw same_place e

  module _ (x : Bool) (is_x : x ≡ is_deep notes i) where
    pub naming_deep : x ≡ true → Err NamingFault.Deep ≡ naming_at notes i
    naming_deep e = rw (← is_x, e)

    pub naming_sound : x ≡ false → Ok tt ≡ naming_at notes i
    naming_sound e = rw (← is_x, e)

  module _ (k : ℕ) where
    pub marked_far : 64 ≤ i → false ≡ marked_at k notes i
    marked_far h = sym (rw (le-ltb i 64 h))

    pub marked_outside : length notes ≤ k → false ≡ marked_at k notes i
    marked_outside h = sym (rw (get_or-eq_default notes 0 h, bit_none i) (and-false (ltb i 64)))

    pub marked_inside : i < 64 → (r : Bool) → r ≡ bit_at i (get_or notes k 0) → r ≡ marked_at k notes i
    marked_inside h r e = sym (rw (lt-ltb i 64 h) (sym e))

    pub counted_far : 64 ≤ i → 0 ≡ counted_at k notes i
    counted_far h = sym (rw (le-ltb i 64 h))

    module _ (h : i < 64) where
      pub counted_outside : length notes ≤ 3 + 64 * k + i → 0 ≡ counted_at k notes i
      counted_outside l = sym (rw (lt-ltb i 64 h, get_or-eq_default notes 0 l))

      pub counted_past : length notes / 64 < k → 0 ≡ counted_at k notes i
      counted_past l = counted_outside (omega arith)

      pub counted_inside : get_or notes (3 + 64 * k + i) 0 ≡ counted_at k notes i
      counted_inside = sym (rw (lt-ltb i 64 h))

-- ## Of a name

abbrev reference : Result ⊤ NamingFault → Bool → ℕ → Reference
reference n m t = record { naming = n; matches = m; tried = t }

pub no_match : (k : ℕ) (o : Option ℕ) → holds (marked_at k []) o ≡ false
no_match k None = refl
no_match k (Some i) = sym (marked_outside [] i k (omega arith))

pub no_count : (k : ℕ) (o : Option ℕ) → placed_count k [] o ≡ 0
no_count k None = refl
no_count k (Some i) = let l : length {A = ℕ} [] ≤ 3 + 64 * k + i = omega arith in by (ltb i 64) (get_or [] (3 + 64 * k + i) 0) (get_or-eq_default [] 0 l)
  where
    by : (b : Bool) (x : ℕ) → x ≡ 0 → (when b then x else 0) ≡ 0
    by true x e = e
    by false x e = refl

pub place_none : (o : Option ℕ) → None ≡ o → o ≡ None
place_none None e = refl
place_none (Some i) e = let z : ◌≡◌ {A = ℕ} 0 1 = cc in absurd (omega arith)

abbrev place_in : Option ℕ → ℕ
place_in None = 0
place_in (Some i) = i

pub place_some : (i : ℕ) (o : Option ℕ) → Some i ≡ o → o ≡ Some i
place_some i None e = let z : ◌≡◌ {A = ℕ} 0 1 = cc in absurd (omega arith)
place_some i (Some k) e = ap Some (sym (ap place_in e))

pub full_notes : (l : List ℕ) → (length l ≡ 0 → ⊥) → is_empty l ≡ false
full_notes [] h = absurd (h refl)
full_notes (x ∷ l) h = refl

module _ (k : ℕ) (t : List ℕ) (notes n : List ℕ) where
  pub look_unjudged : length notes ≡ 0 → reference (Ok tt) false 0 ≡ reference_of k t notes n
  unfolding reference_of naming_of noted_match noted_tried
  look_unjudged h = by notes h
    where
      by : (l : List ℕ) → length l ≡ 0
          → reference (Ok tt) false 0
          ≡ reference (when is_empty l then Ok tt else placed_naming l (noted_place t l n)) (holds (marked_at k l) (noted_place t l n))
          (placed_count k l (noted_place t l n))
      by [] h = ap₂ (reference (Ok tt)) (sym (no_match k (noted_place t [] n))) (sym (no_count k (noted_place t [] n)))
      by (x ∷ l) h = absurd (omega arith)

  module _ (full : length notes ≡ 0 → ⊥) where
    judged : (o : Option ℕ) → noted_place t notes n ≡ o
        → reference_of k t notes n ≡ reference (placed_naming notes o) (holds (marked_at k notes) o) (placed_count k notes o)
    unfolding reference_of naming_of noted_match noted_tried
    judged o e = rw (full_notes notes full, e)

    pub look_missing : (p : Option ℕ) → p ≡ noted_place t notes n → p ≡ None → reference (Err NamingFault.Missing) false 0 ≡ reference_of k t notes n
    look_missing p is-p e = sym (judged None (place_none (noted_place t notes n) (sym e ∙ is-p)))

    pub look_found : (p : Option ℕ) → p ≡ noted_place t notes n → (i : ℕ) → p ≡ Some i → (x : Result ⊤ NamingFault) → x ≡ naming_at notes i
        → (m : Bool) → m ≡ marked_at k notes i → (c : ℕ) → c ≡ counted_at k notes i → reference x m c ≡ reference_of k t notes n
    look_found p is-p i e x is_x m is_m c is_c =
        ap₂ (λ (y : Result ⊤ NamingFault) (b : Bool). reference y b c) is_x is_m ∙ ap (reference (naming_at notes i) (marked_at k notes i)) is_c
        ∙ sym (judged (Some i) (place_some i (noted_place t notes n) (sym e ∙ is-p)))

-- ## Of a text

-- a pattern that names a table holds its name after the slash
pub named_word : (w : List ℕ) (x : Bool) → x ≡ is_some (table_name w) → x ≡ true → table_name w ≡ Some (take (length w - 1) (drop 1 w))
unfolding table_name
named_word w x is_x e = rw (take_rest w 1) (by (first_among "/" w) (is_table_name (drop 1 w)) (sym is_x ∙ e))
  where
    by : (a b : Bool) → is_some (when a then given b (drop 1 w) else None) ≡ true → (when a then given b (drop 1 w) else None) ≡ Some (drop 1 w)
    by true true e = refl
    by true false e = absurd (true≢false (sym e))
    by false b e = absurd (true≢false (sym e))

pub unnamed_word : (w : List ℕ) (x : Bool) → x ≡ is_some (table_name w) → x ≡ false → table_name w ≡ None
unnamed_word w x is_x e = by (table_name w) (sym is_x ∙ e)
  where
    by : (o : Option (List ℕ)) → is_some o ≡ false → o ≡ None
    by None e = refl
    by (Some n) e = absurd (true≢false e)

pub named_full : (w : List ℕ) (x : Bool) → x ≡ is_some (table_name w) → x ≡ true → 1 ≤ length w
unfolding table_name
named_full [] x is_x e = absurd (true≢false (sym e ∙ is_x))
named_full (b ∷ w) x is_x e = omega arith

module _ (ts : List Table) (p : ℕ → Bool) where
  module _ (n : List ℕ) (q : Option ℕ) (is-q : q ≡ (place_named ts n)) where
    pub leads_missing : q ≡ None → false ≡ name_leads ts p n
    unfolding name_leads
    leads_missing f = rw (place_none (place_named ts n) (sym f ∙ is-q))

    pub leads_found : (i : ℕ) → q ≡ Some i → (r : Bool) → r ≡ p i → r ≡ name_leads ts p n
    unfolding name_leads
    leads_found i f r is-r = is-r ∙ rw (place_some i (place_named ts n) (sym f ∙ is-q))

  module _ (w : List ℕ) (x : Bool) (is_x : x ≡ is_some (table_name w)) where
    pub leads_unnamed : x ≡ false → false ≡ word_leads ts p w
    unfolding word_leads
    leads_unnamed e = rw (unnamed_word w x is_x e)

    pub leads_named : x ≡ true → (r : Bool) → r ≡ name_leads ts p (take (length w - 1) (drop 1 w)) → r ≡ word_leads ts p w
    unfolding word_leads
    leads_named e r is-r = is-r ∙ rw (named_word w x is_x e)

-- the loop over the words, at rest
module _ (ts : List Table) (p : ℕ → Bool) (t rest : List ℕ) (so_far : text_leads ts p t ≡ text_leads ts p rest) (w : List ℕ) (is-w : w ≡ first_word rest) where
  pub leads_end : length w ≡ 0 → false ≡ text_leads ts p t
  unfolding text_leads any
  leads_end z = sym (so_far ∙ ap (any (word_leads ts p)) (words_none rest w is-w z))

  module _ (full : length w ≡ 0 → ⊥) (x : Bool) (is_x : x ≡ word_leads ts p w) where
    pub leads_here : x ≡ true → true ≡ text_leads ts p t
    unfolding text_leads any
    leads_here e = sym (so_far ∙ ap (any (word_leads ts p)) (words_more rest w (after_word rest) is-w full refl) ∙ rw (← is_x, e))

    pub leads_next : x ≡ false → (next : List ℕ) → next ≡ after_word rest → text_leads ts p t ≡ text_leads ts p next
    unfolding text_leads any
    leads_next e next is-next = so_far ∙ ap (any (word_leads ts p)) (words_more rest w next is-w full is-next) ∙ rw (← is_x, e)
