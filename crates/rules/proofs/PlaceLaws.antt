-- The raw command of an answer stands within the file that decided.
--   Within f m a == the answer a is by the file f, and its command ends at most at m
--   text_within  == so it is with the answer of a text, m being its length
--   search_within == the same of the search over both texts
--   pass-search  == the pass over both texts finds what the search answers
-- Assumes nothing.
use Rattle.std.specs.Prelude.{None, Option, Some, unwrap_or}
use Prim.Native.Nat.{ℕ, ◌+◌, ◌-◌, ◌≤◌}
use native.Mathlib.Omega.{arith}
use mathlib.Core.Bool.{Bool, true, false, not, ◌&&◌, ◌||◌}
use mathlib.Core.List.{List, [], ◌∷◌, ◌++◌}
use mathlib.Core.Path.{◌≡◌, refl, subst, ◌∙◌}
use lib.ListN.{length, length-append}
use Rattle.text.specs.Basics.{when◌then◌else◌, ◌>>=◌, ◌or_else◌, is_empty, first}
use Rattle.text.specs.Text.{bytes, among, last_among, cons_first, cons_head, split}
use Rattle.section.specs.Section.{part}
use Rattle.lines.specs.Line.{Line, line, continued, logical_lines, lines, is_comment, is_blank}
use Rattle.lines.specs.Rule.{Rule, elements, split_separator, parse_rule}
use Rattle.lines.specs.Command.{trimmed}
use Rattle.elements.specs.declared.Found.{Found}
use Rattle.elements.specs.declared.Found.TheVariants.{No, Yes, Ask}
use Rattle.tables.specs.Table.{Matcher}
use Rattle.elements.specs.Request.{Request}
use Rattle.rules.specs.declared.Verdict.{Verdict}
use Rattle.rules.specs.declared.Verdict.TheVariants as Ver
use Rattle.rules.specs.declared.File.{File}
use Rattle.rules.specs.declared.File.TheVariants.{Neither, Allow, Deny}
use Rattle.rules.specs.declared.Answer.{Answer}
use Rattle.rules.specs.Search.{search, answer, raw_command, rule_answer, line_answer}
use Rattle.lists.specs.Walk.{rule_found}

pub record Within (f : File) (m : ℕ) (a : Answer) : Type 0 where
  pub file : a.file ≡ f
  pub end : a.command.place + a.command.len ≤ m

-- ## A rule's command

-- the rule of a daemon part and of what follows it
abbrev rule_by : List ℕ → (List ℕ × List ℕ) → Rule
rule_by d q = record { daemons = elements d; clients = elements q.0; command = q.1 }

cons_first_within : (o : Option (List ℕ × List ℕ)) (x m : ℕ) (p : List ℕ × List ℕ) → ((q : List ℕ × List ℕ) → o ≡ Some q → length q.1 ≤ m)
    → cons_first x o ≡ Some p → length p.1 ≤ m
cons_first_within None x m p h e = let z : ◌≡◌ {A = ℕ} 0 1 = cc in absurd (omega arith)
cons_first_within (Some q) x m p h e =
    let same : (x ∷ q.0, q.1) ≡ p = cc e in subst (λ (p : List ℕ × List ℕ). length p.1 ≤ m) same (h q refl)

split_separator_within : (b : Bool) (t : List ℕ) (p : List ℕ × List ℕ) → split_separator b t ≡ Some p → length p.1 ≤ length t
unfolding split_separator
split_separator_within b [] p e = let z : ◌≡◌ {A = ℕ} 0 1 = cc in absurd (omega arith)
split_separator_within b (x ∷ t) p e = by (not b && among ":" x) (split_separator_within (when b then not (among "]" x) else among "[" x) t) e
  where
    by : (c : Bool) → ((q : List ℕ × List ℕ) → split_separator (when b then not (among "]" x) else among "[" x) t ≡ Some q → length q.1 ≤ length t)
        → (when c then Some ([], t) else cons_first x (split_separator (when b then not (among "]" x) else among "[" x) t)) ≡ Some p
        → length p.1 ≤ length (x ∷ t)
    by true ih e = let same : ([], t) ≡ p = cc e in subst (λ (p : List ℕ × List ℕ). length p.1 ≤ length (x ∷ t)) same (omega arith)
    by false ih e =
        let h : length p.1 ≤ length t = cons_first_within (split_separator (when b then not (among "]" x) else among "[" x) t) x (length t) p ih e in
        omega arith

rest_within : (t : List ℕ) → length (unwrap_or (split_separator false t) (t, [])).1 ≤ length t
rest_within t = by (split_separator false t) refl
  where
    by : (o : Option (List ℕ × List ℕ)) → split_separator false t ≡ o → length (unwrap_or o (t, [])).1 ≤ length t
    by None e = omega arith
    by (Some p) e = split_separator_within false t p e

parse_rule_within : (t : List ℕ) (u : Rule) → parse_rule t ≡ Some u → length u.command ≤ length t
unfolding parse_rule
parse_rule_within t u e = by (split_separator false t) refl e
  where
    by : (o : Option (List ℕ × List ℕ)) → split_separator false t ≡ o
        → (o >>= λ p. Some (rule_by p.0 (unwrap_or (split_separator false p.1) (p.1, [])))) ≡ Some u → length u.command ≤ length t
    by None k e = let z : ◌≡◌ {A = ℕ} 0 1 = cc in absurd (omega arith)
    by (Some p) k e =
        let h = split_separator_within false t p k in
        let same : rule_by p.0 (unwrap_or (split_separator false p.1) (p.1, [])) ≡ u = cc e in
        subst (λ (u : Rule). length u.command ≤ length t) same (omega (arith, h, rest_within p.1))

-- ## A line's answer

command_end : (b : Bool) (at m n : ℕ) → n ≤ m → at + (m - n) + (when b then 0 else n) ≤ at + m
command_end true at m n h = omega arith
command_end false at m n h = omega arith

module _ (v : Verdict) (f : File) (r : Rule → Found) where
  rule_within : (l : Line) (u : Rule) (x : Found) (a : Answer) → length u.command ≤ length l.raw → rule_answer v f l u x ≡ Some a
      → Within f (l.place + length l.raw) a
  rule_within l u No a h e = let z : ◌≡◌ {A = ℕ} 0 1 = cc in absurd (omega arith)
  rule_within l u Yes a h e =
      let same : answer v f l.number (raw_command l u) ≡ a = cc e in
      subst (Within f (l.place + length l.raw)) same
      (record { file = refl; end = command_end (is_empty (trimmed u.command)) l.place (length l.raw) (length u.command) h })
  rule_within l u Ask a h e =
      let same : answer Ver.Ask f l.number (part 0 0) ≡ a = cc e in
      subst (Within f (l.place + length l.raw)) same (record { file = refl; end = omega arith })

  line_within : (l : Line) (a : Answer) → line_answer v f r l ≡ Some a → Within f (l.place + length l.raw) a
  unfolding line_answer
  line_within l a e = by (is_comment l || is_blank l) (parse_rule l.raw) refl e
    where
      by : (b : Bool) (o : Option Rule) → parse_rule l.raw ≡ o
          → (when b then None else (o >>= λ u. rule_answer v f l u (r u))) ≡ Some a → Within f (l.place + length l.raw) a
      by true o k e = let z : ◌≡◌ {A = ℕ} 0 1 = cc in absurd (omega arith)
      by false None k e = let z : ◌≡◌ {A = ℕ} 0 1 = cc in absurd (omega arith)
      by false (Some u) k e = rule_within l u (r u) a (parse_rule_within l.raw u k) e

-- ## A text's answer

abbrev AllWithin : ℕ → List Line → Type 0
AllWithin m [] = Unit {0}
AllWithin m (l ∷ ls) = (l.place + length l.raw ≤ m) × AllWithin m ls

abbrev StartsAt : ℕ → List Line → Type 0
StartsAt at [] = Unit {0}
StartsAt at (l ∷ ls) = l.place ≡ at

-- the bytes of physical lines, each with a newline
total : List (List ℕ) → ℕ
total [] = 0
total (s ∷ ss) = length s + 1 + total ss

split_total : (t : List ℕ) → total (split "\n" t) ≡ length t + 1
unfolding total split
split_total [] = refl
split_total (x ∷ t) = by (among "\n" x) (split "\n" t) (split_total t)
  where
    by : (b : Bool) (ss : List (List ℕ)) → total ss ≡ length t + 1 → total (when b then [] ∷ ss else cons_head x ss) ≡ length (x ∷ t) + 1
    by true ss ih = omega arith
    by false [] ih = absurd (omega arith)
    by false (s ∷ ss) ih = omega arith

continued_within : (m n at : ℕ) (s : List ℕ) (ls : List Line) → at + length s + 1 ≤ m → AllWithin m ls → StartsAt (at + length s + 1) ls
    → AllWithin m (continued n at s ls) × StartsAt at (continued n at s ls)
continued_within m n at s [] h w k = ((rw length-append (omega arith), tt), refl)
continued_within m n at s (l ∷ ls) h w k = ((rw (length-append (s ++ bytes "\n") l.raw, length-append s (bytes "\n")) (omega (arith, k, w.0)), w.1), refl)

lines_within : (m n at : ℕ) (ss : List (List ℕ)) → at + total ss ≤ m + 1 → AllWithin m (logical_lines n at ss) × StartsAt at (logical_lines n at ss)
unfolding total logical_lines
lines_within m n at [] h = (tt, tt)
lines_within m n at (s ∷ []) h = by (is_empty s)
  where
    by : (b : Bool) → AllWithin m (when b then [] else line n at s false ∷ []) × StartsAt at (when b then [] else line n at s false ∷ [])
    by true = (tt, tt)
    by false = ((omega arith, tt), refl)
lines_within m n at (s ∷ u ∷ ss) h =
    by (last_among "\\" s) (logical_lines (n + 1) (at + length s + 1) (u ∷ ss)) (lines_within m (n + 1) (at + length s + 1) (u ∷ ss) (omega arith))
  where
    by : (b : Bool) (ls : List Line) → AllWithin m ls × StartsAt (at + length s + 1) ls
        → AllWithin m (when b then continued n at s ls else line n at s true ∷ ls) × StartsAt at (when b then continued n at s ls else line n at s true ∷ ls)
    by true ls ih = continued_within m n at s ls (omega arith) ih.0 ih.1
    by false ls ih = ((omega arith, ih.0), refl)

module _ (v : Verdict) (f : File) (r : Rule → Found) where
  first_within : (m : ℕ) (ls : List Line) (a : Answer) → AllWithin m ls → first (line_answer v f r) ls ≡ Some a → Within f m a
  unfolding first
  first_within m [] a h e = let z : ◌≡◌ {A = ℕ} 0 1 = cc in absurd (omega arith)
  first_within m (l ∷ ls) a h e = by (line_answer v f r l) refl e (first_within m ls a h.1)
    where
      by : (o : Option Answer) → line_answer v f r l ≡ o → o or_else first (line_answer v f r) ls ≡ Some a
          → (first (line_answer v f r) ls ≡ Some a → Within f m a) → Within f m a
      by None k e ih = ih e
      by (Some c) k e ih =
          let w = line_within v f r l a (k ∙ e) in
          record { file = w.file; end = omega (arith, w.end, h.0) }

  pub text_within : (t : List ℕ) (a : Answer) → first (line_answer v f r) (lines t) ≡ Some a → Within f (length t) a
  unfolding lines
  text_within t a e =
      first_within (length t) (logical_lines 1 0 (split "\n" t)) a (lines_within (length t) 1 0 (split "\n" t) (omega (arith, split_total t))).0 e

-- ## Both texts

abbrev pub file_length : List ℕ → List ℕ → File → ℕ
file_length allow deny Neither = 0
file_length allow deny Allow = length allow
file_length allow deny Deny = length deny

module _ (m : Matcher) (allow deny : List ℕ) (r : Request) where
  pub search_within : (search m allow deny r).command.place + (search m allow deny r).command.len ≤ file_length allow deny (search m allow deny r).file
  unfolding search
  search_within = by (first (line_answer Ver.Granted Allow (rule_found m r)) (lines allow))
      (first (line_answer Ver.Denied Deny (rule_found m r)) (lines deny)) refl refl
    where
      by : (x y : Option Answer) → first (line_answer Ver.Granted Allow (rule_found m r)) (lines allow) ≡ x
          → first (line_answer Ver.Denied Deny (rule_found m r)) (lines deny) ≡ y
          → let a : Answer = unwrap_or (x or_else y) (answer Ver.Granted Neither 0 (part 0 0)) in
          a.command.place + a.command.len ≤ file_length allow deny a.file
      by (Some a) y e f = let w = text_within Ver.Granted Allow (rule_found m r) allow a e in rw w.file w.end
      by None (Some a) e f = let w = text_within Ver.Denied Deny (rule_found m r) deny a f in rw w.file w.end
      by None None e f = omega arith
