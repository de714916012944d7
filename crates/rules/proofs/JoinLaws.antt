-- A rule read from a line, and from the joined line: the same lists, and the command joined.
-- Joining commutes with parting at a separator, since no dropped pair holds a colon or a bracket; what holds no newline is its own join,
-- so that the parts of a joined line are joined already.
-- Assumes nothing.
use Rattle.std.specs.Prelude.{None, Option, Result, Some, unwrap_or}
use Prim.Native.Nat.{ℕ}
use mathlib.Core.Bool.{Bool, true, false, ◌&&◌, true≢false}
use mathlib.Core.List.{List, [], ◌∷◌, ◌++◌, reverse, reverse_aux, reverse-append}
use mathlib.Core.Path.{◌≡◌, refl, sym, ap, ◌∙◌}
use borrow.Author.Tests.{eqb-true}
use Rattle.text.specs.Basics.{when◌then◌else◌, is_empty, any, all}
use Rattle.text.specs.Text.{among, cons_first}
use Rattle.text.proofs.BasicLaws.{and_true}
use Rattle.lines.specs.Line.{join}
use Rattle.lines.specs.Rule.{split_separator, elements, Rule, parse_rule}
use Rattle.lines.specs.Parts.{is_separator, inside_after}
use Rattle.lines.specs.Command.{skip_blanks, trimmed, has_bad_percent}
use Rattle.lines.proofs.LineLaws.{any_one, join_pair, join_plain, is_no_newline, join_clean}
use Rattle.lines.proofs.RuleLaws.{rule}
use Rattle.tables.specs.Tried.{capped}
use Rattle.elements.specs.declared.Found.TheVariants.{No}
use Rattle.elements.specs.Code.{counted, looked_for}
use Rattle.lists.specs.Check.{rule_fault, rule_names}
use Rattle.lists.specs.Walk.{rule_found_by}
use Rattle.lists.specs.Looked.{rule_looked_by}
use Rattle.lists.specs.Code.{NoNewline, line_found, line_looked, judged_fault}
use Rattle.rules.specs.FileCode.{Query, query_found, query_looked, examined_as, rule_examined}
use Rattle.section.specs.declared.Fault.{Fault}
use Rattle.elements.specs.declared.Looked.{Looked}

-- ## Parting at a separator

abbrev pub join_parts : Option (List ℕ × List ℕ) → Option (List ℕ × List ℕ)
join_parts None = None
join_parts (Some p) = Some (join p.0, join p.1)

-- a backslash before a newline
abbrev is_pair : ℕ → ℕ → Bool
is_pair x y = among "\\" x && among "\n" y

join_kept : (x y : ℕ) (s : List ℕ) → is_pair x y ≡ false → join (x ∷ y ∷ s) ≡ x ∷ join (y ∷ s)
unfolding join
join_kept x y s e = rw e

pair_bytes : (x y : ℕ) → is_pair x y ≡ true → (x ≡ 92) × (y ≡ 10)
pair_bytes x y e =
    let f = and_true (among "\\" x) (among "\n" y) e in
    (eqb-true x 92 (sym (any_one x 92) ∙ f.0), eqb-true y 10 (sym (any_one y 10) ∙ f.1))

join_parts_pair : (o : Option (List ℕ × List ℕ)) → join_parts (cons_first 92 (cons_first 10 o)) ≡ join_parts o
join_parts_pair None = refl
join_parts_pair (Some p) = rw (join_pair p.0)

split_separator_pair : (b : Bool) (t : List ℕ) → split_separator b (92 ∷ 10 ∷ t) ≡ cons_first 92 (cons_first 10 (split_separator b t))
unfolding split_separator any
split_separator_pair true t = refl
split_separator_pair false t = refl

-- a byte that stays, before the parts of a text that begins with y
join_parts_byte : (x y : ℕ) (t : List ℕ) (b : Bool) → is_pair x y ≡ false
    → cons_first x (join_parts (split_separator b (y ∷ t))) ≡ join_parts (cons_first x (split_separator b (y ∷ t)))
unfolding split_separator
join_parts_byte x y t b e = by (is_separator b y) (split_separator (inside_after b y) t)
  where
    by : (c : Bool) (o : Option (List ℕ × List ℕ))
        → cons_first x (join_parts (when c then Some ([], t) else cons_first y o)) ≡ join_parts (cons_first x (when c then Some ([], t) else cons_first y o))
    by true o = rw (join_plain x [] refl)
    by false None = refl
    by false (Some p) = rw (join_kept x y p.0 e)

join_nil : ◌≡◌ {A = List ℕ} [] (join [])
unfolding join
join_nil = refl

parts_cons : (b : Bool) (x : ℕ) (t : List ℕ)
    → cons_first x (split_separator (inside_after b x) (join t)) ≡ join_parts (cons_first x (split_separator (inside_after b x) t))
    → split_separator b (x ∷ join t) ≡ join_parts (split_separator b (x ∷ t))
unfolding split_separator
parts_cons b x t h = by (is_separator b x)
  where
    by : (c : Bool)
        → (when c then Some ([], join t) else cons_first x (split_separator (inside_after b x) (join t)))
        ≡ join_parts (when c then Some ([], t) else cons_first x (split_separator (inside_after b x) t))
    by true = ap (λ (s : List ℕ). Some (s, join t)) join_nil
    by false = h

split_separator_one : (b : Bool) (x : ℕ) → split_separator b (join (x ∷ [])) ≡ join_parts (split_separator b (x ∷ []))
unfolding split_separator join
split_separator_one b x = ap (split_separator b) (join_plain x [] refl) ∙ parts_cons b x [] refl

split_separator_two : (b : Bool) (x y : ℕ) (t : List ℕ) (c : Bool) → is_pair x y ≡ c → split_separator b (join t) ≡ join_parts (split_separator b t)
    → split_separator (inside_after b x) (join (y ∷ t)) ≡ join_parts (split_separator (inside_after b x) (y ∷ t))
    → split_separator b (join (x ∷ y ∷ t)) ≡ join_parts (split_separator b (x ∷ y ∷ t))
split_separator_two b x y t true e h k =
    let p : (x ≡ 92) × (y ≡ 10) = pair_bytes x y e in
    rw (p.0, p.1)
    (ap (split_separator b) (join_pair t) ∙ h ∙ sym (join_parts_pair (split_separator b t)) ∙ ap join_parts (sym (split_separator_pair b t)))
split_separator_two b x y t false e h k =
    ap (split_separator b) (join_kept x y t e) ∙ parts_cons b x (y ∷ t) (ap (cons_first x) k ∙ join_parts_byte x y t (inside_after b x) e)

pub split_separator_join : (b : Bool) (t : List ℕ) → split_separator b (join t) ≡ join_parts (split_separator b t)
unfolding split_separator join
split_separator_join b [] = refl
split_separator_join b (x ∷ []) = split_separator_one b x
split_separator_join b (x ∷ y ∷ t) =
    split_separator_two b x y t (is_pair x y) refl (split_separator_join b t) (split_separator_join (inside_after b x) (y ∷ t))

-- ## What holds no newline

abbrev pub AllParts : (ℕ → Bool) → Option (List ℕ × List ℕ) → Type 0
AllParts q None = Unit {0}
AllParts q (Some p) = (all q p.0 ≡ true) × (all q p.1 ≡ true)

split_separator_all : (q : ℕ → Bool) (b : Bool) (t : List ℕ) → all q t ≡ true → AllParts q (split_separator b t)
unfolding split_separator all
split_separator_all q b [] e = tt
split_separator_all q b (x ∷ t) e =
    let f = and_true (q x) (all q t) e in
    by (is_separator b x) (split_separator (inside_after b x) t) f.0 f.1 (split_separator_all q (inside_after b x) t f.1)
  where
    by : (c : Bool) (o : Option (List ℕ × List ℕ)) → q x ≡ true → all q t ≡ true → AllParts q o → AllParts q (when c then Some ([], t) else cons_first x o)
    by true o f g h = (refl, g)
    by false None f g h = tt
    by false (Some p) f g h = (rw f h.0, h.1)

pub joined_all : (s : List ℕ) → NoNewline (join s) → AllParts is_no_newline (join_parts (split_separator false s))
joined_all s h = rw (← (split_separator_join false s)) (split_separator_all is_no_newline false (join s) h)

pub elements_join : (s : List ℕ) → NoNewline (join s) → elements (join s) ≡ elements s
unfolding elements
elements_join s h = rw (join_clean (join s) h)

has_bad_percent_join : (s : List ℕ) → NoNewline (join s) → has_bad_percent (join s) ≡ has_bad_percent s
unfolding has_bad_percent trimmed
has_bad_percent_join s h = rw (join_clean (join s) h)

-- ## A rule

-- the parts of a line, as a rule
abbrev pub rule_by : List ℕ × List ℕ → Option (List ℕ × List ℕ) → Rule
rule_by p o = let q : List ℕ × List ℕ = unwrap_or o (p.1, []) in rule (elements p.0) (elements q.0) q.1

module _ (b : Bool) (r : Query) where
  tells : Rule → Result Looked Fault
  unfolding rule_found_by rule_looked_by
  tells u = examined_as (judged_fault r.view (Some u)) (looked_for (when b then query_found r u else No) (counted b (capped (query_looked r u))))

  tells_command : (ds cs : List (List ℕ)) (c : List ℕ) → NoNewline (join c) → tells (rule ds cs (join c)) ≡ tells (rule ds cs c)
  unfolding tells judged_fault rule_fault rule_names rule_found_by rule_looked_by
  tells_command ds cs c h = rw (has_bad_percent_join c h)

  tells_rest : (d t : List ℕ) (o : Option (List ℕ × List ℕ)) → NoNewline (join d) → NoNewline (join t) → AllParts is_no_newline (join_parts o)
      → tells (rule_by (join d, join t) (join_parts o)) ≡ tells (rule_by (d, t) o)
  tells_rest d t None h k l = rw (elements_join d h, elements_join t k)
  tells_rest d t (Some q) h k l = rw (elements_join d h, elements_join q.0 l.0) (tells_command (elements d) (elements q.0) q.1 l.1)

  rule_examined_parts : (s : List ℕ) (o : Option (List ℕ × List ℕ)) → split_separator false s ≡ o → AllParts is_no_newline (join_parts o)
      → rule_examined b r (join s) ≡ rule_examined b r s
  unfolding rule_examined line_found line_looked parse_rule tells
  rule_examined_parts s None e h = rw (split_separator_join false s, e)
  rule_examined_parts s (Some p) e h =
      rw (split_separator_join false s, e)
      (ap (λ (o : Option (List ℕ × List ℕ)). tells (rule_by (join p.0, join p.1) o)) (split_separator_join false p.1)
      ∙ tells_rest p.0 p.1 (split_separator false p.1) h.0 h.1 (joined_all p.1 h.1))

  pub rule_examined_join : (s : List ℕ) → NoNewline (join s) → rule_examined b r (join s) ≡ rule_examined b r s
  rule_examined_join s h = rule_examined_parts s (split_separator false s) refl (joined_all s h)

-- ## The command

skip_blanks_all : (t : List ℕ) → all (among " \t") t ≡ true → skip_blanks t ≡ []
unfolding skip_blanks all
skip_blanks_all [] e = refl
skip_blanks_all (x ∷ t) e = let f = and_true (among " \t" x) (all (among " \t") t) e in rw f.0 (skip_blanks_all t f.1)

-- what is left where not all bytes are blank begins with one that is not
skip_blanks_some : (t : List ℕ) → all (among " \t") t ≡ false → (x : ℕ) × ((u : List ℕ) × ((skip_blanks t ≡ x ∷ u) × (among " \t" x ≡ false)))
unfolding skip_blanks all
skip_blanks_some [] e = absurd (true≢false e)
skip_blanks_some (x ∷ t) e = by (among " \t" x) refl e (skip_blanks_some t)
  where
    by : (b : Bool) → among " \t" x ≡ b → (b && all (among " \t") t) ≡ false
        → (all (among " \t") t ≡ false → (y : ℕ) × ((u : List ℕ) × ((skip_blanks t ≡ y ∷ u) × (among " \t" y ≡ false))))
        → (y : ℕ) × ((u : List ℕ) × ((skip_blanks (x ∷ t) ≡ y ∷ u) × (among " \t" y ≡ false)))
    by true f e ih = let h = ih e in (h.0, (h.1.0, (rw f h.1.1.0, h.1.1.1)))
    by false f e ih = (x, (t, (rw f, f)))

is_empty_reverse : (s : List ℕ) (x : ℕ) (r : List ℕ) → is_empty (reverse_aux s (x ∷ r)) ≡ false
is_empty_reverse [] x r = refl
is_empty_reverse (y ∷ s) x r = is_empty_reverse s y (x ∷ r)

-- a byte that is not blank stays, wherever it stands
skip_blanks_snoc : (s : List ℕ) (x : ℕ) → among " \t" x ≡ false → is_empty (reverse (skip_blanks (s ++ (x ∷ [])))) ≡ false
unfolding skip_blanks
skip_blanks_snoc [] x e = rw e
skip_blanks_snoc (y ∷ s) x e = by (among " \t" y) refl (skip_blanks_snoc s x e)
  where
    by : (b : Bool) → among " \t" y ≡ b → is_empty (reverse (skip_blanks (s ++ (x ∷ [])))) ≡ false
        → is_empty (reverse (skip_blanks ((y ∷ s) ++ (x ∷ [])))) ≡ false
    by true f h = rw f h
    by false f h = rw f (is_empty_reverse (s ++ (x ∷ [])) y [])

pub is_empty_trimmed : (t : List ℕ) → is_empty (trimmed t) ≡ all (among " \t") (join t)
unfolding trimmed skip_blanks
is_empty_trimmed t = by (all (among " \t") (join t)) refl
  where
    by : (b : Bool) → all (among " \t") (join t) ≡ b → is_empty (reverse (skip_blanks (reverse (skip_blanks (join t))))) ≡ b
    by true e = rw (skip_blanks_all (join t) e)
    by false e = let h = skip_blanks_some (join t) e in
        rw (h.1.1.0, reverse-append (h.0 ∷ []) h.1.0) (skip_blanks_snoc (reverse h.1.0) h.0 h.1.1.1)
