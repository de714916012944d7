-- Laws of the separators and of the elements of a list, shaped as the calls and tests of the code hand their facts over.
-- Assumes nothing.
use Rattle.std.specs.Prelude.{None, Option, Some}
use Prim.Native.Nat.{ℕ, zero, suc, ◌+◌, ◌-◌, ◌≤◌, ◌<◌}
use native.Mathlib.Nat.{add-zero, add-sub_cancel_left}
use native.Mathlib.Numerals.{add-one}
use native.Mathlib.Omega.{arith}
use mathlib.Core.Path.{◌≡◌, refl, sym, ap, ◌∙◌}
use mathlib.Core.Bool.{Bool, true, false, not, ◌&&◌}
use mathlib.Core.List.{List, [], ◌∷◌}
use lib.Dec.{ltb, eqb, leb-suc-suc}
use lib.ListN.{length, take, drop, get_or, length-drop, drop_of_length-le}
use lib.Seq.{drop-cons, drop-drop, drop-length, take_all}
use borrow.Author.Tests.{eqb-true, eqb-false, not-true, ltb-true, ltb-false, ne_eqb, lt-ltb, le-ltb}
use Rattle.text.specs.Basics.{when◌then◌else◌, given, any}
use Rattle.text.specs.Text.{among, split, cons_first}
use Rattle.text.specs.Scan.{span_len, index_of}
use Rattle.text.proofs.BasicLaws.{and_true}
use Rattle.text.proofs.ScanLaws.{take_rest, span_len_stop, span_len_more}
use Rattle.lines.specs.Block.{unmarked, front_all, PassedTo}
use Rattle.lines.specs.Line.{join}
use Rattle.lines.specs.Rule.{split_separator, non_empty, elements, Rule, parse_rule}
use Rattle.lines.specs.Parts.{is_separator, inside_after, separator_index, after_separator, words, is_parting, is_element_byte, parting_length, element_length}
use Rattle.lines.specs.Parts.{element_span, first_element, after_element}
use Rattle.lines.specs.declared.rule.ElementSpan.{ElementSpan}
use Rattle.lines.proofs.BlockLaws.{front_within}

-- ## The separators

-- inside brackets, up to the next `]`
separator_index_inside : (t : List ℕ) → separator_index true t ≡ index_of 93 t + separator_index false (drop (index_of 93 t) t)
unfolding separator_index index_of span_len any
separator_index_inside [] = refl
separator_index_inside (x ∷ t) = by (eqb x 93) refl (separator_index_inside t)
  where
    by : (b : Bool) → eqb x 93 ≡ b → separator_index true t ≡ index_of 93 t + separator_index false (drop (index_of 93 t) t)
        → separator_index true (x ∷ t) ≡ index_of 93 (x ∷ t) + separator_index false (drop (index_of 93 (x ∷ t)) (x ∷ t))
    by true e ih = simp (e, eqb-true x 93 e) (omega arith)
    by false e ih = rw e (omega (arith, ih))

-- the search has passed i bytes without a separator, and no bracket is open
pub record Searched (s : List ℕ) (i : ℕ) : Type 0 where
  pub within : i ≤ length s
  pub index : separator_index false s ≡ i + separator_index false (drop i s)

pub searched_none : (s : List ℕ) → Searched s 0
searched_none s = record { within = omega arith; index = omega arith }

module _ (s : List ℕ) (i : ℕ) (h : Searched s i) where
  pub separator_end : length s ≤ i → i ≡ separator_index false s
  unfolding separator_index
  separator_end l = sym (h.index ∙ rw (drop_of_length-le s l) (omega arith))

  module _ (l : i < length s) where
    pub separator_here : get_or s i 0 ≡ 58 → i ≡ separator_index false s
    unfolding separator_index any
    separator_here e = sym (h.index ∙ rw (drop-cons s i 0, e) (omega arith))

    pub searched_byte : (get_or s i 0 ≡ 58 → ⊥) → (get_or s i 0 ≡ 91 → ⊥) → Searched s (i + 1)
    unfolding separator_index any
    searched_byte e f = record {
      within = omega arith;
      index = h.index ∙ rw (add-one, drop-cons s i 0, ne_eqb (get_or s i 0) 58 e, ne_eqb (get_or s i 0) 91 f) (omega arith);
    }

    pub searched_bracket : (n : ℕ) → get_or s i 0 ≡ 91 → n ≡ index_of 93 (take (length s - (i + 1)) (drop (i + 1) s))
        → n ≤ length (take (length s - (i + 1)) (drop (i + 1) s))
        → Searched s (i + 1 + n)
    unfolding separator_index any
    searched_bracket n e is-n k =
        let r : take (length s - (i + 1)) (drop (i + 1) s) ≡ drop (i + 1) s = take_rest s (i + 1) in
        let f : separator_index false (drop i s) ≡ suc (separator_index true (drop (i + 1) s)) = rw (add-one, drop-cons s i 0, e) in
        let g : separator_index true (drop (i + 1) s) ≡ n + separator_index false (drop (i + 1 + n) s)
        = rw (is-n, r, ← (drop-drop (index_of 93 (drop (i + 1) s)) (i + 1) s)) (separator_index_inside (drop (i + 1) s)) in
        record { within = omega (arith, rw (r, length-drop) at k); index = omega (arith, h.index, f, g) }

-- the text s parted at the place i, none where that is its end
abbrev parted : List ℕ → ℕ → Option (List ℕ × List ℕ)
parted s i = given (ltb i (length s)) (take i s, drop (suc i) s)

parted_suc : (x : ℕ) (t : List ℕ) (i : ℕ) → cons_first x (parted t i) ≡ parted (x ∷ t) (suc i)
parted_suc x t i = rw leb-suc-suc (by (ltb i (length t)))
  where
    by : (b : Bool) → cons_first x (given b (take i t, drop (suc i) t)) ≡ given b (x ∷ take i t, drop (suc i) t)
    by true = refl
    by false = refl

split_separator_index : (inside : Bool) (s : List ℕ) → split_separator inside s ≡ parted s (separator_index inside s)
unfolding separator_index split_separator
split_separator_index inside [] = refl
split_separator_index inside (x ∷ t) = by (is_separator inside x) (split_separator_index (inside_after inside x) t)
  where
    by : (b : Bool) → split_separator (inside_after inside x) t ≡ parted t (separator_index (inside_after inside x) t)
        → (when b then Some ([], t) else cons_first x (split_separator (inside_after inside x) t))
        ≡ parted (x ∷ t) (when b then 0 else suc (separator_index (inside_after inside x) t))
    by true ih = rw (lt-ltb 0 (suc (length t)) (omega arith))
    by false ih = rw ih (parted_suc x t (separator_index (inside_after inside x) t))

module _ (s : List ℕ) (i : ℕ) (is-i : i ≡ separator_index false s) where
  pub split_separator_none : length s ≤ i → split_separator false s ≡ None
  split_separator_none l = rw (split_separator_index false s, ← is-i, le-ltb i (length s) l)

  pub split_separator_some : i < length s → split_separator false s ≡ Some (take i s, drop (i + 1) s)
  split_separator_some l = rw (split_separator_index false s, ← is-i, lt-ltb i (length s) l, add-one)

-- the search passes n bytes that are no mark
searched_front : (n : ℕ) (s : List ℕ) (i : ℕ) → Searched s i → front_all unmarked n (drop i s) ≡ true → Searched s (i + n)
unfolding front_all
searched_front zero s i h e = rw (add-zero i) h
searched_front (suc n) s i h e =
    let l : i < length s = omega (arith, front_within unmarked (suc n) (drop i s) e, length-drop i s) in
    let b : ℕ = get_or s i 0 in
    let f : (unmarked b && front_all unmarked n (drop (suc i) s)) ≡ true = rw (drop-cons s i 0 l) at e in
    let q : unmarked b ≡ true = (and_true (unmarked b) (front_all unmarked n (drop (suc i) s)) f).0 in
    let g : front_all unmarked n (drop (i + 1) s) ≡ true = rw (add-one i) (and_true (unmarked b) (front_all unmarked n (drop (suc i) s)) f).1 in
    let c : eqb b 58 ≡ false = not-true (eqb b 58) (and_true (not (eqb b 58)) (not (eqb b 91)) q).0 in
    let o : eqb b 91 ≡ false = not-true (eqb b 91) (and_true (not (eqb b 58)) (not (eqb b 91)) q).1 in
    let m : i + suc n ≡ i + 1 + n = omega arith in
    rw m (searched_front n s (i + 1) (searched_byte s i h l (eqb-false b 58 c) (eqb-false b 91 o)) g)

pub searched_after : (s : List ℕ) (i : ℕ) → PassedTo unmarked s 0 i → Searched s i
searched_after s i p =
    let n : 0 + (i - 0) ≡ i = omega arith in
    rw n at (searched_front (i - 0) s 0 (searched_none s) p.front)

-- ## The parts of a rule

abbrev pub rule : List (List ℕ) → List (List ℕ) → List ℕ → Rule
rule ds cs c = record { daemons = ds; clients = cs; command = c }

module _ (raw : List ℕ) (i : ℕ) (is-i : i ≡ separator_index false raw) where
  pub parse_rule_none : length raw ≤ i → parse_rule raw ≡ None
  unfolding parse_rule
  parse_rule_none l = rw (split_separator_none raw i is-i l)

  module _ (l : i < length raw) (rest : List ℕ) (is-rest : rest ≡ drop (i + 1) raw) (j : ℕ) (is-j : j ≡ separator_index false rest) where
    pub parse_rule_short : length rest ≤ j → parse_rule raw ≡ Some (rule (elements (take i raw)) (elements rest) [])
    unfolding parse_rule
    parse_rule_short k = rw (split_separator_some raw i is-i l, ← is-rest, split_separator_none rest j is-j k)

    pub parse_rule_long : j < length rest → parse_rule raw ≡ Some (rule (elements (take i raw)) (elements (take j rest)) (drop (j + 1) rest))
    unfolding parse_rule
    parse_rule_long k = rw (split_separator_some raw i is-i l, ← is-rest, split_separator_some rest j is-j k)

    -- both at once: where there is no second separator, j is the end of the rest
    pub parse_rule_some : parse_rule raw ≡ Some (rule (elements (take i raw)) (elements (take j rest)) (drop (j + 1) rest))
    parse_rule_some = by (ltb j (length rest)) refl
      where
        by : (b : Bool) → ltb j (length rest) ≡ b → parse_rule raw ≡ Some (rule (elements (take i raw)) (elements (take j rest)) (drop (j + 1) rest))
        by true e = parse_rule_long (ltb-true j (length rest) e)
        by false e =
            let k : length rest ≤ j = ltb-false j (length rest) e in
            let m : length rest ≤ j + 1 = omega arith in
            parse_rule_short k ∙ rw (take_all j rest k, drop_of_length-le rest m)

-- the same of the parts as they are lent
pub parse_rule_parts : (raw : List ℕ) (i : ℕ) → i ≡ separator_index false raw → i < length raw → (rest : List ℕ) → rest ≡ after_separator i raw
    → (j : ℕ) → j ≡ separator_index false rest → (command : List ℕ) → command ≡ after_separator j rest
    → parse_rule raw ≡ Some (rule (elements (take i raw)) (elements (take j rest)) command)
unfolding after_separator
parse_rule_parts raw i is-i l rest is-rest j is-j command is-command = rw is-command (parse_rule_some raw i is-i l rest is-rest j is-j)

module _ (s : List ℕ) (i : ℕ) where
  pub after_separator_end : length s ≤ i → take (length s - length s) (drop (length s) s) ≡ after_separator i s
  unfolding after_separator
  after_separator_end l =
      let m : length s ≤ i + 1 = omega arith in
      take_rest s (length s) ∙ rw (drop-length, drop_of_length-le s m)

  pub after_separator_part : take (length s - (i + 1)) (drop (i + 1) s) ≡ after_separator i s
  unfolding after_separator
  after_separator_part = take_rest s (i + 1)

-- ## Spans

-- the i bytes passed satisfy p
pub record Passed (p : ℕ → Bool) (s : List ℕ) (i : ℕ) : Type 0 where
  pub within : i ≤ length s
  pub count : span_len p s ≡ i + span_len p (drop i s)

module _ (p : ℕ → Bool) (s : List ℕ) (i : ℕ) (h : Passed p s i) (l : i < length s) (x : Bool) (is_x : x ≡ p (get_or s i 0)) where
  pub passed_stop : x ≡ false → i ≡ span_len p s
  passed_stop e = span_len_stop p s i h.count l (sym is_x ∙ e)

  pub passed_more : x ≡ true → Passed p s (i + 1)
  passed_more e = record { within = omega arith; count = span_len_more p s i h.count l (sym is_x ∙ e) }

pub span_len_le : (p : ℕ → Bool) (s : List ℕ) → span_len p s ≤ length s
unfolding span_len
span_len_le p [] = omega arith
span_len_le p (x ∷ t) = by (p x) (span_len_le p t)
  where
    by : (b : Bool) → span_len p t ≤ length t → (when b then suc (span_len p t) else 0) ≤ suc (length t)
    by true ih = omega arith
    by false ih = omega arith

-- ## The first element

module _ (s : List ℕ) (p : ElementSpan) (is-p : p ≡ element_span s) where
  pub element_start : p.start ≤ p.end
  unfolding element_span
  element_start = rw is-p (omega arith)

  pub element_end : p.end ≤ length s
  unfolding element_span
  element_end =
      rw is-p
      (omega (arith, span_len_le is_parting s, span_len_le is_element_byte (drop (parting_length s) s), length-drop (parting_length s) s))

  pub element_part : take (p.end - p.start) (drop p.start s) ≡ first_element s
  unfolding element_span first_element
  element_part = rw (is-p, add-sub_cancel_left)

  pub after_part : take (length s - p.end) (drop p.end s) ≡ after_element s
  unfolding element_span after_element
  after_part = take_rest s p.end ∙ rw (is-p, ← drop-drop (element_length (drop (parting_length s) s)) (parting_length s) s)

-- ## The elements of a list

-- the first part of a text is the element at its front; what follows it holds the elements of the rest
record Split (t : List ℕ) : Type 0 where
  others : List (List ℕ)
  parts : split " \t," t ≡ take (element_length t) t ∷ others
  rest : non_empty others ≡ words (drop (element_length t) t)

split_element : (t : List ℕ) → Split t
unfolding split span_len is_element_byte is_parting words non_empty
split_element [] = record { others = []; parts = refl; rest = refl }
split_element (x ∷ t) = by (among " \t," x) refl (split_element t)
  where
    by : (b : Bool) → among " \t," x ≡ b → Split t → Split (x ∷ t)
    by true e h = record { others = split " \t," t; parts = rw e; rest = simp e }
    by false e h = record { others = h.others; parts = rw (e, h.parts); rest = rw e h.rest }

-- s read by its first element
pub record Step (s : List ℕ) : Type 0 where
  pub none : length (first_element s) ≡ 0 → words s ≡ []
  pub some : (length (first_element s) ≡ 0 → ⊥) → words s ≡ first_element s ∷ words (after_element s)
  pub less : (length (first_element s) ≡ 0 → ⊥) → length (after_element s) < length s

module _ (x : ℕ) (t : List ℕ) where
  module _ (e : among " \t," x ≡ true) where
    words_parting : words (x ∷ t) ≡ words t
    unfolding words split non_empty
    words_parting = rw e

    first_element_parting : first_element (x ∷ t) ≡ first_element t
    unfolding first_element span_len is_parting
    first_element_parting = rw e

    after_element_parting : after_element (x ∷ t) ≡ after_element t
    unfolding after_element span_len is_parting
    after_element_parting = rw e

    step_parting : Step t → Step (x ∷ t)
    step_parting h = record {
      none = λ z. words_parting ∙ h.none (rw (← first_element_parting) z);
      some = λ z. rw (words_parting, first_element_parting, after_element_parting) (h.some (λ y. z (rw first_element_parting y)));
      less = λ z. let l : length (after_element t) < length t = h.less (λ y. z (rw first_element_parting y)) in rw after_element_parting (omega arith);
    }

  module _ (e : among " \t," x ≡ false) where
    first_element_byte : first_element (x ∷ t) ≡ x ∷ take (element_length t) t
    unfolding first_element span_len is_parting is_element_byte
    first_element_byte = simp e

    after_element_byte : after_element (x ∷ t) ≡ drop (element_length t) t
    unfolding after_element span_len is_parting is_element_byte
    after_element_byte = simp e

    words_byte : Split t → words (x ∷ t) ≡ (x ∷ take (element_length t) t) ∷ words (drop (element_length t) t)
    unfolding words split non_empty
    words_byte h = rw (e, h.parts) (ap (λ (ws : List (List ℕ)). (x ∷ take (element_length t) t) ∷ ws) h.rest)

    step_byte : Step (x ∷ t)
    step_byte = record {
      none = λ z. absurd (omega (arith, rw first_element_byte at z));
      some = λ z. rw (first_element_byte, after_element_byte) (words_byte (split_element t));
      less = λ z. rw (after_element_byte, length-drop) (omega arith);
    }

pub step : (s : List ℕ) → Step s
unfolding first_element words split non_empty span_len
step [] = record { none = λ z. refl; some = λ z. absurd (z refl); less = λ z. absurd (z refl) }
step (x ∷ t) = by (among " \t," x) refl (step t)
  where
    by : (b : Bool) → among " \t," x ≡ b → Step t → Step (x ∷ t)
    by true e h = step_parting x t e h
    by false e h = step_byte x t e

pub words_none : (s w : List ℕ) → w ≡ first_element s → length w ≡ 0 → words s ≡ []
words_none s w is_first z = (step s).none (rw (← is_first) z)

module _ (s w rest : List ℕ) (is_first : w ≡ first_element s) (full : length w ≡ 0 → ⊥) (is-rest : rest ≡ after_element s) where
  pub words_more : words s ≡ w ∷ words rest
  words_more = rw (is_first, is-rest) ((step s).some (λ z. full (rw is_first z)))

  pub rest_shorter : (n : ℕ) → length s ≡ n → length rest < n
  rest_shorter n e = rw (← e, is-rest) ((step s).less (λ z. full (rw is_first z)))

pub elements_words : (t : List ℕ) → elements t ≡ words (join t)
unfolding elements words
elements_words t = refl
