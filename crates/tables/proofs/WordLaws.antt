-- Laws of the words of a table's text and of the names of tables, shaped as the calls and tests of the code hand their facts over.
-- Assumes nothing.
use Prim.Native.Nat.{ℕ, ◌+◌, ◌-◌, ◌≤◌, ◌<◌}
use mathlib.Core.Bool.{Bool, true, false, ◌&&◌, ◌||◌, true≢false}
use mathlib.Core.List.{List, [], ◌∷◌}
use mathlib.Core.Path.{◌≡◌, refl, sym, ap, ◌∙◌}
use native.Mathlib.Nat.{add-sub_cancel_left}
use native.Mathlib.Omega.{arith}
use borrow.Author.Tests.{le-leb, lt-leb}
use lib.Dec.{eqb}
use lib.ListN.{length, take, drop, get_or, length-drop}
use lib.Seq.{drop-drop}
use Rattle.text.specs.Basics.{given, is_some, any, all}
use Rattle.text.specs.Text.{among, first_among, split}
use Rattle.text.specs.Scan.{span_len}
use Rattle.text.proofs.ScanLaws.{take_rest, span_len_stop, span_len_more}
use Rattle.lines.specs.Rule.{non_empty}
use Rattle.lines.proofs.RuleLaws.{Passed, span_len_le}
use Rattle.patterns.specs.Pattern.{is_name_byte}
use Rattle.tables.specs.declared.word.WordSpan.{WordSpan}
use Rattle.tables.specs.Table.{is_table_name, table_name}
use Rattle.tables.specs.Code.{is_parting, is_word_byte, words, word_span, first_word, after_word}

-- ## Bytes

pub parting_is : (b : ℕ) → (eqb b 32 || (eqb b 9 || eqb b 10)) ≡ is_parting b
unfolding is_parting any
parting_is b = by (eqb b 32) (eqb b 9) (eqb b 10)
  where
    by : (x y z : Bool) → (x || (y || z)) ≡ (x || (y || (z || false)))
    by true y z = refl
    by false true z = refl
    by false false true = refl
    by false false false = refl

-- a byte that does not part belongs to a word
word_byte : (b : ℕ) (x : Bool) → x ≡ is_parting b → x ≡ false → is_word_byte b ≡ true
unfolding is_word_byte
word_byte b x e f = rw (← e, f)

word_stop : (b : ℕ) (x : Bool) → x ≡ is_parting b → x ≡ true → is_word_byte b ≡ false
unfolding is_word_byte
word_stop b x e f = rw (← e, f)

-- the loop over the bytes of a word, at i
module _ (s : List ℕ) (i : ℕ) (h : Passed is_word_byte s i) (l : i < length s) (x : Bool) (is_x : x ≡ is_parting (get_or s i 0)) where
  pub word_ended : x ≡ true → i ≡ span_len is_word_byte s
  word_ended e = span_len_stop is_word_byte s i h.count l (word_stop (get_or s i 0) x is_x e)

  pub word_passed : x ≡ false → Passed is_word_byte s (i + 1)
  word_passed e = record { within = omega arith; count = span_len_more is_word_byte s i h.count l (word_byte (get_or s i 0) x is_x e) }

-- ## Names

pub slash_none : (w : List ℕ) → length w ≡ 0 → false ≡ first_among "/" w
slash_none [] h = refl
slash_none (x ∷ w) h = absurd (omega arith)

pub slash_is : (w : List ℕ) → (length w ≡ 0 → ⊥) → eqb (get_or w 0 0) 47 ≡ first_among "/" w
unfolding any
slash_is [] h = absurd (h refl)
slash_is (x ∷ w) h = by (eqb x 47)
  where
    by : (b : Bool) → b ≡ (b || false)
    by true = refl
    by false = refl

pub slash_full : (w : List ℕ) (x : Bool) → x ≡ first_among "/" w → x ≡ true → 1 ≤ length w
slash_full [] x e f = absurd (true≢false (sym f ∙ e))
slash_full (y ∷ w) x e f = omega arith

and_false : (a : Bool) → (a && false) ≡ false
and_false true = refl
and_false false = refl

and_true_right : (a : Bool) → (a && true) ≡ a
and_true_right true = refl
and_true_right false = refl

module _ (n : List ℕ) where
  pub name_empty : length n ≡ 0 → false ≡ is_table_name n
  unfolding is_table_name
  name_empty h = sym (rw (h, lt-leb 1 0 (omega arith)) (and_false (all is_name_byte n)))

  pub name_over : 64 < length n → false ≡ is_table_name n
  unfolding is_table_name
  name_over h =
      let l : 1 ≤ length n = omega arith in
      sym (rw (le-leb 1 (length n) l, lt-leb (length n) 64 h) (and_false (all is_name_byte n)))

  pub name_is : (length n ≡ 0 → ⊥) → length n ≤ 64 → (r : Bool) → r ≡ all is_name_byte n → r ≡ is_table_name n
  unfolding is_table_name
  name_is f h r e =
      let l : 1 ≤ length n = omega arith in
      e ∙ sym (rw (le-leb 1 (length n) l, le-leb (length n) 64 h) (and_true_right (all is_name_byte n)))

module _ (w : List ℕ) (x : Bool) (is_x : x ≡ first_among "/" w) where
  pub table_name_none : x ≡ false → false ≡ is_some (table_name w)
  unfolding table_name
  table_name_none e = rw (← is_x, e)

  pub table_name_is : x ≡ true → (r : Bool) → r ≡ is_table_name (take (length w - 1) (drop 1 w)) → r ≡ is_some (table_name w)
  unfolding table_name
  table_name_is e r is-r = rw (← is_x, e) (is-r ∙ rw (take_rest w 1) (by (is_table_name (drop 1 w))))
    where
      by : (b : Bool) → b ≡ is_some (given b (drop 1 w))
      by true = refl
      by false = refl

-- ## The first word

pub span_is : (s : List ℕ) (a : ℕ) → a ≡ span_len is_parting s → (n : ℕ) → n ≡ span_len is_word_byte (take (length s - a) (drop a s))
    → record { start = a; end = a + n } ≡ word_span s
unfolding word_span
span_is s a is-a n is-n = rw (is-n, take_rest s a, is-a)

module _ (s : List ℕ) (p : WordSpan) (is-p : p ≡ word_span s) where
  pub word_start : p.start ≤ p.end
  unfolding word_span
  word_start = rw is-p (omega arith)

  pub word_end : p.end ≤ length s
  unfolding word_span
  word_end =
      rw is-p
      (omega (arith, span_len_le is_parting s, span_len_le is_word_byte (drop (span_len is_parting s) s), length-drop (span_len is_parting s) s))

  pub word_part : take (p.end - p.start) (drop p.start s) ≡ first_word s
  unfolding word_span first_word
  word_part = rw (is-p, add-sub_cancel_left)

  pub after_part : take (length s - p.end) (drop p.end s) ≡ after_word s
  unfolding word_span after_word
  after_part = take_rest s p.end ∙ rw (is-p, ← drop-drop (span_len is_word_byte (drop (span_len is_parting s) s)) (span_len is_parting s) s)

-- ## The words of a text

abbrev word_length : List ℕ → ℕ
word_length t = span_len is_word_byte t

-- the first part of a text is the word at its front; what follows it holds the words of the rest
record Split (t : List ℕ) : Type 0 where
  others : List (List ℕ)
  parts : split " \t\n" t ≡ take (word_length t) t ∷ others
  rest : non_empty others ≡ words (drop (word_length t) t)

split_word : (t : List ℕ) → Split t
unfolding split span_len is_word_byte is_parting words non_empty
split_word [] = record { others = []; parts = refl; rest = refl }
split_word (x ∷ t) = by (among " \t\n" x) refl (split_word t)
  where
    by : (b : Bool) → among " \t\n" x ≡ b → Split t → Split (x ∷ t)
    by true e h = record { others = split " \t\n" t; parts = rw e; rest = simp e }
    by false e h = record { others = h.others; parts = rw (e, h.parts); rest = rw e h.rest }

-- s read by its first word
pub record Step (s : List ℕ) : Type 0 where
  pub none : length (first_word s) ≡ 0 → words s ≡ []
  pub some : (length (first_word s) ≡ 0 → ⊥) → words s ≡ first_word s ∷ words (after_word s)
  pub less : (length (first_word s) ≡ 0 → ⊥) → length (after_word s) < length s

module _ (x : ℕ) (t : List ℕ) where
  module _ (e : among " \t\n" x ≡ true) where
    words_parting : words (x ∷ t) ≡ words t
    unfolding words split non_empty
    words_parting = rw e

    first_word_parting : first_word (x ∷ t) ≡ first_word t
    unfolding first_word span_len is_parting
    first_word_parting = rw e

    after_word_parting : after_word (x ∷ t) ≡ after_word t
    unfolding after_word span_len is_parting
    after_word_parting = rw e

    step_parting : Step t → Step (x ∷ t)
    step_parting h = record {
      none = λ z. words_parting ∙ h.none (rw (← first_word_parting) z);
      some = λ z. rw (words_parting, first_word_parting, after_word_parting) (h.some (λ y. z (rw first_word_parting y)));
      less = λ z. let l : length (after_word t) < length t = h.less (λ y. z (rw first_word_parting y)) in rw after_word_parting (omega arith);
    }

  module _ (e : among " \t\n" x ≡ false) where
    first_word_byte : first_word (x ∷ t) ≡ x ∷ take (word_length t) t
    unfolding first_word span_len is_parting is_word_byte
    first_word_byte = simp e

    after_word_byte : after_word (x ∷ t) ≡ drop (word_length t) t
    unfolding after_word span_len is_parting is_word_byte
    after_word_byte = simp e

    words_byte : Split t → words (x ∷ t) ≡ (x ∷ take (word_length t) t) ∷ words (drop (word_length t) t)
    unfolding words split non_empty
    words_byte h = rw (e, h.parts) (ap (λ (ws : List (List ℕ)). (x ∷ take (word_length t) t) ∷ ws) h.rest)

    step_byte : Step (x ∷ t)
    step_byte = record {
      none = λ z. absurd (omega (arith, rw first_word_byte at z));
      some = λ z. rw (first_word_byte, after_word_byte) (words_byte (split_word t));
      less = λ z. rw (after_word_byte, length-drop) (omega arith);
    }

pub step : (s : List ℕ) → Step s
unfolding first_word words split non_empty span_len
step [] = record { none = λ z. refl; some = λ z. absurd (z refl); less = λ z. absurd (z refl) }
step (x ∷ t) = by (among " \t\n" x) refl (step t)
  where
    by : (b : Bool) → among " \t\n" x ≡ b → Step t → Step (x ∷ t)
    by true e h = step_parting x t e h
    by false e h = step_byte x t e

pub words_none : (s w : List ℕ) → w ≡ first_word s → length w ≡ 0 → words s ≡ []
words_none s w is_first z = (step s).none (rw (← is_first) z)

module _ (s w rest : List ℕ) (is_first : w ≡ first_word s) (full : length w ≡ 0 → ⊥) (is-rest : rest ≡ after_word s) where
  pub words_more : words s ≡ w ∷ words rest
  words_more = rw (is_first, is-rest) ((step s).some (λ z. full (rw is_first z)))

  pub rest_shorter : (n : ℕ) → length s ≡ n → length rest < n
  rest_shorter n e = rw (← e, is-rest) ((step s).less (λ z. full (rw is_first z)))
