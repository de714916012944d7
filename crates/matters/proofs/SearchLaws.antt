-- Request 14, of both files: the place that settles is the place that every user gets, and where none settles an unknown user and some
-- name get different ones. Lines ascend, so a user whom a line passes on gets a later line, another file, or none.
--   settled_same == every user gets the place that settles
--   unsettled    == where none does, two users get different places
-- Assumes nothing.
use Rattle.std.specs.Prelude.{None, Option, Some, unwrap_or}
use Prim.Native.Nat.{ℕ, ◌+◌, ◌≤◌, ◌<◌}
use mathlib.Core.Bool.{Bool, true, false, not, ◌&&◌, ◌||◌, true≢false}
use mathlib.Core.List.{List, [], ◌∷◌}
use mathlib.Core.Path.{◌≡◌, refl, sym, ap, ◌∙◌, subst}
use native.Mathlib.Omega.{arith}
use lib.ListN.{length}
use Rattle.text.specs.Basics.{when◌then◌else◌, ◌>>=◌, ◌or_else◌, is_empty, first}
use Rattle.text.specs.Text.{last_among, split, in_range}
use Rattle.section.specs.Section.{part}
use Rattle.lines.specs.Line.{Line, line, continued, logical_lines, lines, is_comment, is_blank}
use Rattle.lines.specs.Rule.{Rule, parse_rule}
use Rattle.tables.specs.Table.{Matcher}
use Rattle.elements.specs.declared.User.{User}
use Rattle.elements.specs.declared.User.TheVariants as U
use Rattle.elements.specs.declared.Found.{Found}
use Rattle.elements.specs.declared.Found.TheVariants.{No, Yes, Ask}
use Rattle.elements.specs.Request.{Request}
use Rattle.elements.specs.Code.{with_user}
use Rattle.lists.specs.Walk.{rule_found}
use Rattle.rules.specs.declared.Verdict.{Verdict}
use Rattle.rules.specs.declared.Verdict.TheVariants.{Granted, Denied}
use Rattle.rules.specs.declared.File.{File}
use Rattle.rules.specs.declared.File.TheVariants.{Neither, Allow, Deny}
use Rattle.rules.specs.declared.Answer.{Answer}
use Rattle.rules.specs.Search.{file_section, answer, raw_command, rule_answer, line_answer, search}
use Rattle.rules.proofs.UserLaws.{Quiet, Fetched, rule_quiet}
use Rattle.matters.specs.declared.Place.{Place}
use Rattle.matters.specs.declared.Told.{Told}
use Rattle.matters.specs.declared.Told.TheVariants as Told
use Rattle.matters.specs.Matters.{place, place_of, same_found, rule_told, parsed_told, line_told, told_at, text_told, settled}
use Rattle.matters.proofs.RuleLaws.{Stated, unknown, named, told_same, told_differs}

-- ## Lines ascend

unfoldable AllFrom : ℕ → List Line → Type 0
AllFrom n [] = Unit {0}
AllFrom n (l ∷ ls) = (n ≤ l.number) × AllFrom n ls

unfoldable Ascends : List Line → Type 0
Ascends [] = Unit {0}
Ascends (l ∷ ls) = AllFrom (l.number + 1) ls × Ascends ls

from_less : (n : ℕ) (ls : List Line) → AllFrom (n + 1) ls → AllFrom n ls
unfolding AllFrom
from_less n [] h = tt
from_less n (l ∷ ls) h = (omega (arith, h.0), from_less n ls h.1)

logical_ascends : (n at : ℕ) (ss : List (List ℕ)) → AllFrom n (logical_lines n at ss) × Ascends (logical_lines n at ss)
unfolding logical_lines AllFrom Ascends
logical_ascends n at [] = (tt, tt)
logical_ascends n at (s ∷ []) = by (is_empty s)
  where
    by : (b : Bool) → AllFrom n (when b then [] else line n at s false ∷ []) × Ascends (when b then [] else line n at s false ∷ [])
    by true = (tt, tt)
    by false = ((omega arith, tt), (tt, tt))
logical_ascends n at (s ∷ u ∷ ss) =
    by (last_among "\\" s) (logical_lines (n + 1) (at + length s + 1) (u ∷ ss)) (logical_ascends (n + 1) (at + length s + 1) (u ∷ ss))
  where
    by : (b : Bool) (rest : List Line) → AllFrom (n + 1) rest × Ascends rest
        → AllFrom n (when b then continued n at s rest else line n at s true ∷ rest) × Ascends (when b then continued n at s rest else line n at s true ∷ rest)
    by true [] h = ((omega arith, tt), (tt, tt))
    by true (l ∷ ls) h = ((omega arith, from_less n ls h.0.1), (h.0.1, h.1.1))
    by false rest h = ((omega arith, from_less n rest h.0), (h.0, h.1))

lines_from : (t : List ℕ) → AllFrom 1 (lines t)
unfolding lines
lines_from t = (logical_ascends 1 0 (split "\n" t)).0

lines_ascend : (t : List ℕ) → Ascends (lines t)
unfolding lines
lines_ascend t = (logical_ascends 1 0 (split "\n" t)).1

-- ## What a line answers

module _ (v : Verdict) (f : File) where
  -- an answer of this file, at this line
  pub record At (n : ℕ) (o : Option Answer) : Type 0 where
    pub given : Answer
    pub is : o ≡ Some given
    pub at_place : place_of given ≡ place v f n

  line_at : (g : Rule → Found) → ((x : Rule) → Quiet (g x)) → (l : Line) (a : Answer) → line_answer v f g l ≡ Some a → place_of a ≡ place v f l.number
  unfolding line_answer
  line_at g q l a = by (is_comment l || is_blank l) (parse_rule l.raw)
    where
      none_some : ◌≡◌ {A = Option Answer} None (Some a) → ⊥
      none_some e = true≢false (sym (ap (λ (o : Option Answer). elim o [ None ↦ false | Some x ↦ true ]) e))

      found : (x : Rule) (y : Found) → Quiet y → rule_answer v f l x y ≡ Some a → place_of a ≡ place v f l.number
      found x Yes h e = sym (ap (λ (o : Option Answer). place_of (unwrap_or o (answer v f l.number (part 0 0)))) e)
      found x No h e = absurd (none_some e)
      found x Ask h e = absurd h

      by : (b : Bool) (o : Option Rule) → (when b then None else (o >>= λ x. rule_answer v f l x (g x))) ≡ Some a → place_of a ≡ place v f l.number
      by true o e = absurd (none_some e)
      by false None e = absurd (none_some e)
      by false (Some x) e = found x (g x) (q x) e

  -- no answer, or one at a line after n
  abbrev Later : ℕ → Option Answer → Type 0
  Later n None = Unit {0}
  Later n (Some a) = (n < a.line) × (a.file ≡ f)

  later_first : (g : Rule → Found) → ((x : Rule) → Quiet (g x)) → (n : ℕ) (ls : List Line) → AllFrom (n + 1) ls → Later n (first (line_answer v f g) ls)
  unfolding AllFrom first
  later_first g q n [] h = tt
  later_first g q n (l ∷ ls) h = by (line_answer v f g l) refl (later_first g q n ls h.1)
    where
      by : (o : Option Answer) → line_answer v f g l ≡ o → Later n (first (line_answer v f g) ls) → Later n (o or_else first (line_answer v f g) ls)
      by None e ih = ih
      by (Some a) e ih =
          let k : place_of a ≡ place v f l.number = line_at g q l a e in
          (subst (λ (j : ℕ). n < j) (sym (ap (λ (p : Place). p.line) k)) (omega (arith, h.0)), ap (λ (p : Place). p.file) k)

  -- one of two users has an answer at a line, and the other none up to that line
  pub data Apart (o o' : Option Answer) : Type 0 where
    first_has : (n : ℕ) → At n o → Later n o' → Apart o o'
    second_has : (n : ℕ) → At n o' → Later n o → Apart o o'

  module _ (m : Matcher) (r : Request) where
    abbrev by_user : User → List ℕ → Line → Option Answer
    by_user u t = line_answer v f (rule_found m (with_user r u t))

    -- a line that passes users on answers nothing, one that decides answers at its number
    passes : (l : Line) → line_told m r l ≡ Told.Passes → (u : User) (t : List ℕ) → Stated u t → by_user u t l ≡ None
    unfolding line_told line_answer
    passes l e u t s = by (is_comment l || is_blank l) (parse_rule l.raw) e
      where
        by : (b : Bool) (o : Option Rule) → (when b then Told.Passes else parsed_told m r o) ≡ Told.Passes
            → (when b then None else (o >>= λ x. rule_answer v f l x (rule_found m (with_user r u t) x))) ≡ None
        by true o e = refl
        by false None e = refl
        by false (Some x) e = rw (told_same m r x No tt e u t s)

    decides : (l : Line) → line_told m r l ≡ Told.Decides → (u : User) (t : List ℕ) → Stated u t → At l.number (by_user u t l)
    unfolding line_told line_answer
    decides l e u t s = by (is_comment l || is_blank l) (parse_rule l.raw) e
      where
        other : Told.Passes ≡ Told.Decides → ⊥
        other e = true≢false (ap (λ (k : Told). elim k [ Told.Passes ↦ true | Told.Decides ↦ false | Told.Differs ↦ false ]) e)

        by : (b : Bool) (o : Option Rule) → (when b then Told.Passes else parsed_told m r o) ≡ Told.Decides
            → At l.number (when b then None else (o >>= λ x. rule_answer v f l x (rule_found m (with_user r u t) x)))
        by true o e = absurd (other e)
        by false None e = absurd (other e)
        by false (Some x) e = record {
          given = answer v f l.number (raw_command l x);
          is = rw (told_same m r x Yes tt e u t s);
          at_place = refl;
        }

    -- a line that differs answers one of an unknown user and some name, and not the other
    pub data Split (l : Line) (t : List ℕ) : Type 0 where
      unknown_has : At l.number (by_user U.Unknown [] l) → by_user U.Known t l ≡ None → Split l t
      name_has : At l.number (by_user U.Known t l) → by_user U.Unknown [] l ≡ None → Split l t

    differs : (l : Line) → line_told m r l ≡ Told.Differs → (t : List ℕ) × (in_range 1 64 (length t) ≡ true) × Split l t
    unfolding line_told line_answer
    differs l e = by (is_comment l || is_blank l) (parse_rule l.raw) refl refl e
      where
        other : Told.Passes ≡ Told.Differs → ⊥
        other e = true≢false (ap (λ (k : Told). elim k [ Told.Passes ↦ true | Told.Decides ↦ false | Told.Differs ↦ false ]) e)

        answers : (u : User) (t : List ℕ) (x : Rule) (y : Found) → is_comment l || is_blank l ≡ false → parse_rule l.raw ≡ Some x
            → rule_found m (with_user r u t) x ≡ y → by_user u t l ≡ rule_answer v f l x y
        answers u t x y b p k = rw (b, p, k)

        split : (x : Rule) (t : List ℕ) → is_comment l || is_blank l ≡ false → parse_rule l.raw ≡ Some x → (y z : Found) → Quiet y → Quiet z
            → rule_found m (with_user r U.Unknown []) x ≡ y → rule_found m (with_user r U.Known t) x ≡ z → same_found y z ≡ false → Split l t
        split x t b p Yes No q k a c e = unknown_has
            (record { given = answer v f l.number (raw_command l x); is = answers U.Unknown [] x Yes b p a; at_place = refl }) (answers U.Known t x No b p c)
        split x t b p No Yes q k a c e = name_has
            (record { given = answer v f l.number (raw_command l x); is = answers U.Known t x Yes b p c; at_place = refl }) (answers U.Unknown [] x No b p a)
        split x t b p Yes Yes q k a c e = absurd (true≢false e)
        split x t b p No No q k a c e = absurd (true≢false e)
        split x t b p Yes Ask q k a c e = absurd k
        split x t b p No Ask q k a c e = absurd k
        split x t b p Ask z q k a c e = absurd q

        by : (b : Bool) (o : Option Rule) → is_comment l || is_blank l ≡ b → parse_rule l.raw ≡ o → (when b then Told.Passes else parsed_told m r o) ≡ Told.Differs
            → (t : List ℕ) × (in_range 1 64 (length t) ≡ true) × Split l t
        by true o b p e = absurd (other e)
        by false None b p e = absurd (other e)
        by false (Some x) b p e =
            let w : (t : List ℕ) × (in_range 1 64 (length t) ≡ true) × (same_found (rule_found m (with_user r U.Unknown []) x)
            (rule_found m (with_user r U.Known t) x) ≡ false) =
            told_differs m r x e in (
              w.0,
              w.1,
              split x w.0 b p (rule_found m (with_user r U.Unknown []) x) (rule_found m (with_user r U.Known w.0) x)
                  (rule_quiet m (with_user r U.Unknown []) tt x) (rule_quiet m (with_user r U.Known w.0) tt x) refl refl w.2,
            )

    -- ## What a text answers

    abbrev along : List Line → Option (Option Place)
    along ls = first (λ l. told_at v f l.number (line_told m r l)) ls

    abbrev answered_by : User → List ℕ → List Line → Option Answer
    answered_by u t ls = first (by_user u t) ls

    along_passes : (ls : List Line) → along ls ≡ None → (u : User) (t : List ℕ) → Stated u t → answered_by u t ls ≡ None
    unfolding first
    along_passes [] e u t s = refl
    along_passes (l ∷ ls) e u t s = by (line_told m r l) refl e (λ k. along_passes ls k u t s)
      where
        by : (k : Told) → line_told m r l ≡ k → (told_at v f l.number k or_else along ls) ≡ None → (along ls ≡ None → answered_by u t ls ≡ None)
            → (by_user u t l or_else answered_by u t ls) ≡ None
        by Told.Passes h e ih = rw (passes l h u t s) (ih e)
        by Told.Decides h e ih = absurd (true≢false (ap (λ (o : Option (Option Place)). elim o [ None ↦ false | Some x ↦ true ]) e))
        by Told.Differs h e ih = absurd (true≢false (ap (λ (o : Option (Option Place)). elim o [ None ↦ false | Some x ↦ true ]) e))

    along_settled : (ls : List Line) (p : Place) → along ls ≡ Some (Some p) → (u : User) (t : List ℕ) → Stated u t
        → (a : Answer) × (answered_by u t ls ≡ Some a) × (place_of a ≡ p)
    unfolding first
    along_settled [] p e u t s = absurd (true≢false (sym (ap (λ (o : Option (Option Place)). elim o [ None ↦ false | Some x ↦ true ]) e)))
    along_settled (l ∷ ls) p e u t s = by (line_told m r l) refl e (λ k. along_settled ls p k u t s)
      where
        outer : Option (Option Place) → Place
        outer o = unwrap_or (unwrap_or o None) p

        by : (k : Told) → line_told m r l ≡ k → (told_at v f l.number k or_else along ls) ≡ Some (Some p)
            → (along ls ≡ Some (Some p) → (a : Answer) × (answered_by u t ls ≡ Some a) × (place_of a ≡ p))
            → (a : Answer) × ((by_user u t l or_else answered_by u t ls) ≡ Some a) × (place_of a ≡ p)
        by Told.Passes h e ih =
            let w : (a : Answer) × (answered_by u t ls ≡ Some a) × (place_of a ≡ p) = ih e in
            (w.0, rw (passes l h u t s) w.1, w.2)
        by Told.Decides h e ih =
            let w : At l.number (by_user u t l) = decides l h u t s in
            (w.given, rw w.is, w.at_place ∙ ap outer e)
        by Told.Differs h e ih =
            absurd (true≢false (sym (ap (λ (o : Option (Option Place)). elim (unwrap_or o (Some p)) [ None ↦ false | Some x ↦ true ]) e)))

    along_differs : (ls : List Line) → Ascends ls → along ls ≡ Some None
        → (t : List ℕ) × (in_range 1 64 (length t) ≡ true) × Apart (answered_by U.Unknown [] ls) (answered_by U.Known t ls)
    unfolding first Ascends
    along_differs [] h e = absurd (true≢false (sym (ap (λ (o : Option (Option Place)). elim o [ None ↦ false | Some x ↦ true ]) e)))
    along_differs (l ∷ ls) h e = by (line_told m r l) refl e (λ k. along_differs ls h.1 k)
      where
        had : {o : Option Answer} (q : Option Answer) → At l.number o → At l.number (o or_else q)
        had q w = record { given = w.given; is = rw w.is; at_place = w.at_place }

        later : (u : User) (t : List ℕ) → Stated u t → by_user u t l ≡ None → Later l.number (by_user u t l or_else answered_by u t ls)
        later u t s k = rw k (later_first (rule_found m (with_user r u t)) (rule_quiet m (with_user r u t) (fetched s)) l.number ls h.0)
          where
            fetched : {u : User} {t : List ℕ} → Stated u t → Fetched u
            fetched (unknown t) = tt
            fetched (named t e) = tt

        apart : (t : List ℕ) → in_range 1 64 (length t) ≡ true → Split l t
            → Apart (by_user U.Unknown [] l or_else answered_by U.Unknown [] ls) (by_user U.Known t l or_else answered_by U.Known t ls)
        apart t i (unknown_has w k) = first_has l.number (had (answered_by U.Unknown [] ls) w) (later U.Known t (named t i) k)
        apart t i (name_has w k) = second_has l.number (had (answered_by U.Known t ls) w) (later U.Unknown [] (unknown []) k)

        passed : (t : List ℕ) → in_range 1 64 (length t) ≡ true → line_told m r l ≡ Told.Passes → Apart (answered_by U.Unknown [] ls) (answered_by U.Known t ls)
            → Apart (by_user U.Unknown [] l or_else answered_by U.Unknown [] ls) (by_user U.Known t l or_else answered_by U.Known t ls)
        passed t i h w = rw (passes l h U.Unknown [] (unknown []), passes l h U.Known t (named t i)) w

        by : (k : Told) → line_told m r l ≡ k → (told_at v f l.number k or_else along ls) ≡ Some None
            → (along ls ≡ Some None → (t : List ℕ) × (in_range 1 64 (length t) ≡ true) × Apart (answered_by U.Unknown [] ls) (answered_by U.Known t ls))
            → (t : List ℕ) × (in_range 1 64 (length t) ≡ true)
            × Apart (by_user U.Unknown [] l or_else answered_by U.Unknown [] ls) (by_user U.Known t l or_else answered_by U.Known t ls)
        by Told.Passes k e ih =
            let w : (t : List ℕ) × (in_range 1 64 (length t) ≡ true) × Apart (answered_by U.Unknown [] ls) (answered_by U.Known t ls) = ih e in
            (w.0, w.1, passed w.0 w.1 k w.2)
        by Told.Decides k e ih = absurd (true≢false (ap (λ (o : Option (Option Place)). elim (unwrap_or o None) [ None ↦ false | Some x ↦ true ]) e))
        by Told.Differs k e ih =
            let w : (t : List ℕ) × (in_range 1 64 (length t) ≡ true) × Split l t = differs l k in
            (w.0, w.1, apart w.0 w.1 w.2)

-- ## Both files

module _ (m : Matcher) (allow deny : List ℕ) (r : Request) where
  abbrev gets : User → List ℕ → Place
  gets u t = place_of (search m allow deny (with_user r u t))

  abbrev nothing : Answer
  nothing = answer Granted Neither 0 (part 0 0)

  abbrev in_allow_lem : User → List ℕ → Option Answer
  in_allow_lem u t = first (line_answer Granted Allow (rule_found m (with_user r u t))) (lines allow)

  abbrev in_deny_lem : User → List ℕ → Option Answer
  in_deny_lem u t = first (line_answer Denied Deny (rule_found m (with_user r u t))) (lines deny)

  -- every user gets the place that settles
  pub settled_same : (p : Place) → settled m allow deny r ≡ Some p → (u : User) (t : List ℕ) → Stated u t → gets u t ≡ p
  unfolding settled text_told search
  settled_same p e u t s = by (text_told Granted Allow m r allow) refl (text_told Denied Deny m r deny) refl e
    where
      some_same : (x y : Place) → ◌≡◌ {A = Option Place} (Some x) (Some y) → x ≡ y
      some_same x y e = ap (λ (o : Option Place). unwrap_or o x) e

      unsettled_some : ◌≡◌ {A = Option Place} None (Some p) → ⊥
      unsettled_some e = true≢false (sym (ap (λ (o : Option Place). elim o [ None ↦ false | Some x ↦ true ]) e))

      by : (o : Option (Option Place)) → text_told Granted Allow m r allow ≡ o → (q : Option (Option Place)) → text_told Denied Deny m r deny ≡ q
          → unwrap_or (o or_else q) (Some (place Granted Neither 0)) ≡ Some p → place_of (unwrap_or (in_allow_lem u t or_else in_deny_lem u t) nothing) ≡ p
      by (Some (Some x)) h q k e =
          let w : (a : Answer) × (in_allow_lem u t ≡ Some a) × (place_of a ≡ x) = along_settled Granted Allow m r (lines allow) x h u t s in
          rw w.1 (w.2 ∙ some_same x p e)
      by (Some None) h q k e = absurd (unsettled_some e)
      by None h (Some (Some x)) k e =
          let w : (a : Answer) × (in_deny_lem u t ≡ Some a) × (place_of a ≡ x) = along_settled Denied Deny m r (lines deny) x k u t s in
          rw (along_passes Granted Allow m r (lines allow) h u t s, w.1) (w.2 ∙ some_same x p e)
      by None h (Some None) k e = absurd (unsettled_some e)
      by None h None k e =
          rw (along_passes Granted Allow m r (lines allow) h u t s, along_passes Denied Deny m r (lines deny) k u t s)
          (some_same (place Granted Neither 0) p e)

  -- an answer by the deny file is of that file
  deny_file : (u : User) (t : List ℕ) → Stated u t → (a : Answer) → in_deny_lem u t ≡ Some a → a.file ≡ Deny
  deny_file u t s a e = by (in_deny_lem u t) e
      (later_first Denied Deny (rule_found m (with_user r u t)) (rule_quiet m (with_user r u t) (fetched s)) 0 (lines deny) (from_one deny))
    where
      fetched : {u : User} {t : List ℕ} → Stated u t → Fetched u
      fetched (unknown t) = tt
      fetched (named t e) = tt

      from_one : (t : List ℕ) → AllFrom 1 (lines t)
      from_one t = lines_from t

      by : (o : Option Answer) → o ≡ Some a → Later Denied Deny 0 o → a.file ≡ Deny
      by None e h = absurd (true≢false (sym (ap (λ (o : Option Answer). elim o [ None ↦ false | Some x ↦ true ]) e)))
      by (Some b) e h = sym (ap (λ (o : Option Answer). (unwrap_or o b).file) e) ∙ h.1

  -- where none settles, an unknown user and some name get different places
  pub unsettled : settled m allow deny r ≡ None
      → (t : List ℕ) × (in_range 1 64 (length t) ≡ true) × (gets U.Unknown [] ≡ gets U.Known t → ⊥)
  unfolding settled text_told search
  unsettled e = by (text_told Granted Allow m r allow) refl (text_told Denied Deny m r deny) refl e
    where
      Other : Type 0
      Other = (t : List ℕ) × (in_range 1 64 (length t) ≡ true)
          × (place_of (unwrap_or (in_allow_lem U.Unknown [] or_else in_deny_lem U.Unknown []) nothing)
          ≡ place_of (unwrap_or (in_allow_lem U.Known t or_else in_deny_lem U.Known t) nothing) → ⊥)

      settles : {p : Place} → ◌≡◌ {A = Option Place} (Some p) None → ⊥
      settles e = true≢false (ap (λ (o : Option Place). elim o [ None ↦ false | Some x ↦ true ]) e)

      -- what stands for an answer where there is none in allow: of the deny file, or of neither
      else_file : (q : Option Answer) → ((a : Answer) → q ≡ Some a → a.file ≡ Deny) → file_section (unwrap_or q nothing).file ≡ 1 → ⊥
      else_file None h e = absurd (omega (arith, e))
      else_file (Some a) h e = absurd (omega (arith, sym (ap file_section (h a refl)) ∙ e))

      -- the user with an answer of allow at the line n, and the one without up to there
      allow_apart : (n : ℕ) (o o' q q' : Option Answer) → At Granted Allow n o → Later Granted Allow n o' → ((a : Answer) → q' ≡ Some a → a.file ≡ Deny)
          → place_of (unwrap_or (o or_else q) nothing) ≡ place_of (unwrap_or (o' or_else q') nothing) → ⊥
      allow_apart n o o' q q' w l d e = split o' l (sym w.at_place ∙ sym (ap (λ (x : Option Answer). place_of (unwrap_or (x or_else q) nothing)) w.is)
          ∙ e)
        where
          split : (o' : Option Answer) → Later Granted Allow n o' → place Granted Allow n ≡ place_of (unwrap_or (o' or_else q') nothing) → ⊥
          split None l e = else_file q' d (sym (ap (λ (p : Place). file_section p.file) e))
          split (Some b) l e = absurd (omega (arith, l.0, ap (λ (p : Place). p.line) e))

      deny_apart : (n : ℕ) (o o' : Option Answer) → At Denied Deny n o → Later Denied Deny n o'
          → place_of (unwrap_or o nothing) ≡ place_of (unwrap_or o' nothing) → ⊥
      deny_apart n o o' w l e = split o' l (sym w.at_place ∙ sym (ap (λ (x : Option Answer). place_of (unwrap_or x nothing)) w.is) ∙ e)
        where
          split : (o' : Option Answer) → Later Denied Deny n o' → place Denied Deny n ≡ place_of (unwrap_or o' nothing) → ⊥
          split None l e = absurd (omega (arith, ap (λ (p : Place). file_section p.file) e))
          split (Some b) l e = absurd (omega (arith, l.0, ap (λ (p : Place). p.line) e))

      allow_either : (t : List ℕ) → in_range 1 64 (length t) ≡ true → Apart Granted Allow (in_allow_lem U.Unknown []) (in_allow_lem U.Known t)
          → place_of (unwrap_or (in_allow_lem U.Unknown [] or_else in_deny_lem U.Unknown []) nothing)
          ≡ place_of (unwrap_or (in_allow_lem U.Known t or_else in_deny_lem U.Known t) nothing) → ⊥
      allow_either t i (first_has n w l) e =
          allow_apart n (in_allow_lem U.Unknown []) (in_allow_lem U.Known t) (in_deny_lem U.Unknown []) (in_deny_lem U.Known t) w l (deny_file U.Known t (named t i)) e
      allow_either t i (second_has n w l) e =
          allow_apart n (in_allow_lem U.Known t) (in_allow_lem U.Unknown []) (in_deny_lem U.Known t) (in_deny_lem U.Unknown []) w l (deny_file U.Unknown [] (unknown []))
          (sym e)

      deny_either : (t : List ℕ) → Apart Denied Deny (in_deny_lem U.Unknown []) (in_deny_lem U.Known t)
          → place_of (unwrap_or (in_deny_lem U.Unknown []) nothing) ≡ place_of (unwrap_or (in_deny_lem U.Known t) nothing) → ⊥
      deny_either t (first_has n w l) e = deny_apart n (in_deny_lem U.Unknown []) (in_deny_lem U.Known t) w l e
      deny_either t (second_has n w l) e = deny_apart n (in_deny_lem U.Known t) (in_deny_lem U.Unknown []) w l (sym e)

      by : (o : Option (Option Place)) → text_told Granted Allow m r allow ≡ o → (q : Option (Option Place)) → text_told Denied Deny m r deny ≡ q
          → unwrap_or (o or_else q) (Some (place Granted Neither 0)) ≡ None → Other
      by (Some (Some x)) h q k e = absurd (settles e)
      by (Some None) h q k e =
          let w : (t : List ℕ) × (in_range 1 64 (length t) ≡ true) × Apart Granted Allow (in_allow_lem U.Unknown []) (in_allow_lem U.Known t) =
          along_differs Granted Allow m r (lines allow) (lines_ascend allow) h in
          (w.0, w.1, allow_either w.0 w.1 w.2)
      by None h (Some (Some x)) k e = absurd (settles e)
      by None h (Some None) k e =
          let w : (t : List ℕ) × (in_range 1 64 (length t) ≡ true) × Apart Denied Deny (in_deny_lem U.Unknown []) (in_deny_lem U.Known t) =
          along_differs Denied Deny m r (lines deny) (lines_ascend deny) k in (
            w.0,
            w.1,
            rw (
              along_passes Granted Allow m r (lines allow) h U.Unknown [] (unknown []),
              along_passes Granted Allow m r (lines allow) h U.Known w.0 (named w.0 w.1),
            ) (deny_either w.0 w.2),
          )
      by None h None k e = absurd (settles e)
