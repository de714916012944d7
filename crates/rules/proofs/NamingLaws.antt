-- The tables that lines name: one pass judges them line by line, the papers' numbers come in order.
--   judged_line_lem    == the fault of a line is that of its layout and its rule, and else of the tables that it names
--   first_some, first_skip == the first fault of two kinds, and of the second where there is none of the first
--   judged_plain, judged_missing, judged_deep, judged_some == what a pass over a text finds faulty, by what the view tells
-- Assumes nothing.
use Rattle.std.specs.Prelude.{None, Option, Some}
use Prim.Native.Nat.{ℕ}
use native.Mathlib.Omega.{arith}
use mathlib.Core.Bool.{Bool, true, false, not, ◌&&◌, ◌||◌}
use mathlib.Core.List.{List, [], ◌∷◌}
use mathlib.Core.Path.{◌≡◌, refl, sym, ap, ap₂, fun_ext, ◌∙◌}
use Rattle.text.specs.Basics.{when◌then◌else◌, ◌or_else◌, given, holds, is_some, any, first}
use Rattle.section.specs.declared.Fault.{Fault}
use Rattle.section.specs.declared.Fault.TheVariants as F
use Rattle.section.specs.declared.Refusal.{Refusal}
use Rattle.section.specs.Refusal.{lowest, at_place}
use Rattle.section.specs.Section.{Section}
use Rattle.lines.specs.Line.{Line, lines, join, is_comment, is_blank, has_bad_byte, is_too_long}
use Rattle.lines.specs.Rule.{Rule, parse_rule}
use Rattle.elements.specs.Element.{named_table}
use Rattle.elements.specs.Code.{View}
use Rattle.lists.specs.Check.{rule_fault, rule_names}
use Rattle.lists.specs.Code.{missing_by, deep_by, rules_naming, judged_fault}
use Rattle.rules.specs.Check.{line_fault_by, line_fault, hosts_fault, line_names, naming_fault}
use Rattle.rules.specs.FileCode.{judged_line, fault_at, hosts_fault_at}

-- ## Two kinds of faults

module _ {A : Type 0} where
  pub or_else_none : (o : Option A) → (o or_else None) ≡ o
  or_else_none None = refl
  or_else_none (Some a) = refl

  pub or_else_assoc : (a b c : Option A) → (a or_else b or_else c) ≡ (a or_else (b or_else c))
  or_else_assoc None b c = refl
  or_else_assoc (Some x) b c = refl

  pub or_else_nones : (a b : Option A) → (a or_else b) ≡ None → (a ≡ None) × (b ≡ None)
  or_else_nones None b e = (refl, e)
  or_else_nones (Some x) b e = let z : ◌≡◌ {A = ℕ} 0 1 = cc in absurd (omega arith)

  pub is_some_or_else : (a b : Option A) → is_some (a or_else b) ≡ (is_some a || is_some b)
  is_some_or_else None b = refl
  is_some_or_else (Some x) b = refl

or_swap : (a b c d : Bool) → (a || b || (c || d)) ≡ (a || c || (b || d))
or_swap true b c d = refl
or_swap false true true d = refl
or_swap false true false d = refl
or_swap false false c d = refl

module _ (f g h : Line → Option Refusal) (each : (l : Line) → f l ≡ (g l or_else h l)) where
  pub first_skip : (ls : List Line) → first g ls ≡ None → first f ls ≡ first h ls
  unfolding first
  first_skip [] n = refl
  first_skip (l ∷ ls) n =
      let k : (g l ≡ None) × (first g ls ≡ None) = or_else_nones (g l) (first g ls) n in
      ap₂ ◌or_else◌ (each l ∙ ap (λ (o : Option Refusal). o or_else h l) k.0) (first_skip ls k.1)

  pub first_some : (ls : List Line) → is_some (first f ls) ≡ (is_some (first g ls) || is_some (first h ls))
  unfolding first
  first_some [] = refl
  first_some (l ∷ ls) =
      is_some_or_else (f l) (first f ls)
      ∙ ap₂ ◌||◌ (ap (λ (o : Option Refusal). is_some o) (each l) ∙ is_some_or_else (g l) (h l)) (first_some ls)
      ∙ or_swap (is_some (g l)) (is_some (h l)) (is_some (first g ls)) (is_some (first h ls))
      ∙ sym (ap₂ ◌||◌ (is_some_or_else (g l) (first g ls)) (is_some_or_else (h l) (first h ls)))

first_none : (f : Line → Option Refusal) → ((l : Line) → f l ≡ None) → (ls : List Line) → first f ls ≡ None
unfolding first
first_none f e [] = refl
first_none f e (l ∷ ls) = ap₂ ◌or_else◌ (e l) (first_none f e ls)

-- ## A line

module _ (v : View) (l : Line) where
  judged_line_lem : judged_line v l
      ≡ (line_fault l or_else (given (line_names (missing_by v) l) F.TableName or_else given (line_names (deep_by v) l) F.TooDeep))
  unfolding line_fault_by line_names judged_fault rule_fault
  judged_line_lem = by
      (lowest
      ((F.Unended, not l.ended)
      ∷ (F.BadByte, not (is_comment l) && has_bad_byte (join l.raw))
      ∷ (F.LongLine, is_too_long (join l.raw)) ∷ []))
      (is_comment l || is_blank l) (parse_rule l.raw)
    where
      by : (lay : Option Fault) (c : Bool) (o : Option Rule)
          → (lay or_else (when c then None else (rule_fault o or_else rules_naming v o)))
          ≡ (lay or_else (when c then None else rule_fault o)
          or_else (given (when c then false else holds (rule_names (missing_by v)) o) F.TableName
          or_else given (when c then false else holds (rule_names (deep_by v)) o) F.TooDeep))
      by (Some f) c o = refl
      by None true o = refl
      by None false None = refl
      by None false (Some u) = refl

at_or_else : (s n : ℕ) (a b : Option Fault) → at_place s n (a or_else b) ≡ (at_place s n a or_else at_place s n b)
at_or_else s n None b = refl
at_or_else s n (Some f) b = refl

abbrev plain_at : Section → Line → Option Refusal
plain_at s l = at_place s.order l.number (line_fault l)

abbrev naming_at : Fault → (List ℕ → Bool) → Section → Line → Option Refusal
naming_at f p s l = at_place s.order l.number (given (line_names p l) f)

module _ (s : Section) (v : View) where
  naming : Line → Option Refusal
  naming l = naming_at F.TableName (missing_by v) s l or_else naming_at F.TooDeep (deep_by v) s l

  judged_at : (l : Line) → fault_at s.order v l ≡ (plain_at s l or_else naming l)
  unfolding naming
  judged_at l = ap (at_place s.order l.number) (judged_line_lem v l)
      ∙ at_or_else s.order l.number (line_fault l) (given (line_names (missing_by v) l) F.TableName or_else given (line_names (deep_by v) l) F.TooDeep)
      ∙ ap (λ (o : Option Refusal). plain_at s l or_else o)
      (at_or_else s.order l.number (given (line_names (missing_by v) l) F.TableName) (given (line_names (deep_by v) l) F.TooDeep))

-- ## A text

any_never : (ws : List (List ℕ)) → any (λ e. holds (λ n. false) (named_table e)) ws ≡ false
unfolding any
any_never [] = refl
any_never (w ∷ ws) = ap₂ ◌||◌ (by (named_table w)) (any_never ws)
  where
    by : (o : Option (List ℕ)) → holds (λ n. false) o ≡ false
    by None = refl
    by (Some n) = refl

line_never : (l : Line) → line_names (λ n. false) l ≡ false
unfolding line_names rule_names
line_never l = by (is_comment l || is_blank l) (parse_rule l.raw)
  where
    by : (c : Bool) (o : Option Rule) → (when c then false else holds (rule_names (λ n. false)) o) ≡ false
    by true o = refl
    by false None = refl
    by false (Some u) = ap₂ ◌||◌ (any_never u.daemons) (any_never u.clients)

module _ (f : Fault) (p : List ℕ → Bool) (s : Section) (t : List ℕ) where
  pub naming_never : ((n : List ℕ) → p n ≡ false) → naming_fault f p s t ≡ None
  unfolding naming_fault
  naming_never e = rw (fun_ext e) (first_none (naming_at f (λ n. false) s) (λ l. rw (line_never l)) (lines t))

  pub naming_same : (q : List ℕ → Bool) → ((n : List ℕ) → p n ≡ q n) → naming_fault f p s t ≡ naming_fault f q s t
  naming_same q e = ap (λ (x : List ℕ → Bool). naming_fault f x s t) (fun_ext e)

module _ (s : Section) (v : View) (t : List ℕ) where
  naming_some : is_some (first (naming s v) (lines t)) ≡ (is_some (naming_fault F.TableName (missing_by v) s t) || is_some (naming_fault F.TooDeep (deep_by v) s t))
  unfolding naming_fault naming
  naming_some = first_some (naming s v) (naming_at F.TableName (missing_by v) s) (naming_at F.TooDeep (deep_by v) s) (λ l. refl) (lines t)

  pub judged_some : is_some (hosts_fault_at s.order v t)
      ≡ (is_some (hosts_fault s t) || (is_some (naming_fault F.TableName (missing_by v) s t) || is_some (naming_fault F.TooDeep (deep_by v) s t)))
  unfolding hosts_fault_at hosts_fault
  judged_some = first_some (fault_at s.order v) (plain_at s) (naming s v) (judged_at s v) (lines t)
      ∙ ap (λ (b : Bool). is_some (first (plain_at s) (lines t)) || b) naming_some

  module _ (plain : hosts_fault s t ≡ None) where
    judged_naming : hosts_fault_at s.order v t ≡ first (naming s v) (lines t)
    unfolding hosts_fault_at hosts_fault
    judged_naming = first_skip (fault_at s.order v) (plain_at s) (naming s v) (judged_at s v) (lines t) plain

    pub judged_deep : naming_fault F.TableName (missing_by v) s t ≡ None → hosts_fault_at s.order v t ≡ naming_fault F.TooDeep (deep_by v) s t
    unfolding naming_fault naming
    judged_deep e = judged_naming
        ∙ first_skip (naming s v) (naming_at F.TableName (missing_by v) s) (naming_at F.TooDeep (deep_by v) s) (λ l. refl) (lines t) e

  -- where no table is told to be too deep, and where none is told to be missing either
  module _ (shallow : (n : List ℕ) → deep_by v n ≡ false) where
    shallow_at : (l : Line) → naming s v l ≡ naming_at F.TableName (missing_by v) s l
    unfolding naming
    shallow_at l =
        ap (λ (o : Option Refusal). naming_at F.TableName (missing_by v) s l or_else o)
        (rw (fun_ext shallow, line_never l)) ∙ or_else_none (naming_at F.TableName (missing_by v) s l)

    pub judged_missing : hosts_fault s t ≡ None → hosts_fault_at s.order v t ≡ naming_fault F.TableName (missing_by v) s t
    unfolding naming_fault
    judged_missing plain = judged_naming plain ∙ ap (λ (f : Line → Option Refusal). first f (lines t)) (fun_ext shallow_at)

    pub judged_plain : ((n : List ℕ) → missing_by v n ≡ false) → hosts_fault_at s.order v t ≡ hosts_fault s t
    unfolding hosts_fault_at hosts_fault
    judged_plain e = ap (λ (f : Line → Option Refusal). first f (lines t))
        (fun_ext (λ l. judged_at s v l ∙ ap (λ (o : Option Refusal). plain_at s l or_else o) (shallow_at l ∙ rw (fun_ext e, line_never l))
        ∙ or_else_none (plain_at s l)))
