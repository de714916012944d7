-- Document 02, request 6, "Dropping rules that never fire".
--   rule_of l         == the rule of the line l, none where it is a comment or blank
--   covers u v       == the rule u, if it stands earlier, lets v never fire
--   accepts t ns     == the checker accepts the proposal to drop the lines ns
--   proposal t       == the numbers of the lines that the tidy program proposes to drop
--   dropped ns t     == the text t without the lines ns
--   removed_above ns n ls == how many physical lines of ls are removed above line n
--   file_fault s t five == the refusal of the text t of section s, and of the section five
--   propose, drop_rules == the calls
-- Assumes nothing: these are definitions.
use Rattle.std.specs.Prelude.{ℕ, ◌+◌, Bool, true, false, not, ◌&&◌, ◌||◌, List, [], ◌∷◌, ◌++◌, eqb, ltb, Err, None, Option, Some, unwrap_or}
use Rattle.text.specs.Basics.{when◌then◌else◌, ◌or_else◌, given, holds, any, all}
use Rattle.text.specs.Text.{equal_fold, is_word}
use Rattle.text.specs.Words.{word_bytes, read_words}
use Rattle.section.specs.declared.Fault.TheVariants as F
use Rattle.section.specs.declared.Refusal.{Refusal}
use Rattle.section.specs.Refusal.{Outcome, ◌>>=◌, placeless, refusing, within_room}
use Rattle.section.specs.Section as S
use Rattle.section.specs.Section.{Section, over_limit}
use Rattle.lines.specs.Line.{Line, lines, is_comment, is_blank}
use Rattle.lines.specs.Rewrite.{line_bytes, rewrite, line_count}
use Rattle.lines.specs.Rule.{Rule, parse_rule}
use Rattle.tables.specs.Table.{tables_of, tables_frame, table_name_fault, bad_table_fault}
use Rattle.rules.specs.Check.{hosts_fault, missing_fault, depth_fault}

-- ## Rules that never fire

abbrev pub rule_of : Line → Option Rule
rule_of l = when is_comment l || is_blank l then None else parse_rule l.raw

-- "the same elements and EXCEPTs in the same order .., ignoring case"
unfoldable pub same_list : List (List ℕ) → List (List ℕ) → Bool
same_list [] [] = true
same_list [] (y ∷ ys) = false
same_list (x ∷ xs) [] = false
same_list (x ∷ xs) (y ∷ ys) = equal_fold x y && same_list xs ys

-- "the single element ALL"
abbrev pub all_alone : List (List ℕ) → Bool
all_alone [] = false
all_alone (w ∷ []) = is_word "ALL" w
all_alone (w ∷ v ∷ ws) = false

-- "has the same elements and EXCEPTs in the same order in both lists"
abbrev pub same_lists : Rule → Rule → Bool
same_lists u v = same_list u.daemons v.daemons && same_list u.clients v.clients

-- "one whose lists are both the single element ALL"
abbrev pub matches_all : Rule → Bool
matches_all u = all_alone u.daemons && all_alone u.clients

-- "either has the same elements and EXCEPTs .., or is one whose lists are both the single element ALL"
unfoldable pub covers : Rule → Rule → Bool
covers u v = same_lists u v || matches_all u

-- a rule among us covers the rule of the line l
abbrev pub covered_by : List Rule → Line → Bool
covered_by us l = holds (λ v. any (λ u. covers u v) us) (rule_of l)

-- the rule of a line before the others
abbrev pub with_rule : Option Rule → List Rule → List Rule
with_rule None us = us
with_rule (Some u) us = u ∷ us

-- ## The checker

abbrev pub named : List ℕ → Line → Bool
named ns l = any (eqb l.number) ns

-- "each named line is a rule and an earlier kept rule of that file" covers it; kept: the kept rules before these lines
unfoldable pub witnessed : List ℕ → List Rule → List Line → Bool
witnessed ns kept [] = true
witnessed ns kept (l ∷ ls) =
    when named ns l then covered_by kept l && witnessed ns kept ls
    else witnessed ns (with_rule (rule_of l) kept) ls

-- every number is that of some line; that such a line is a rule is in witnessed
abbrev pub are_lines : List ℕ → List Line → Bool
are_lines ns ls = all (λ n. any (λ l. eqb l.number n) ls) ns

-- "accepts a proposal exactly if each named line is a rule and an earlier kept rule .."
unfoldable pub accepts : List ℕ → List ℕ → Bool
accepts t ns = are_lines ns (lines t) && witnessed ns [] (lines t)

-- ## The tidy program

-- "as many lines to drop as can be accepted, in order": those that any earlier rule covers; seen: the rules before these lines.
-- That this is accepted, and that an accepted proposal names none but these, is claimed.
unfoldable pub covered_lines : List Rule → List Line → List ℕ
covered_lines seen [] = []
covered_lines seen (l ∷ ls) =
    (when covered_by seen l then l.number ∷ [] else []) ++ covered_lines (with_rule (rule_of l) seen) ls

unfoldable pub proposal : List ℕ → List ℕ
proposal t = covered_lines [] (lines t)

-- ## The new file

-- "a new file with only those rules gone"
unfoldable pub dropped : List ℕ → List ℕ → List ℕ
dropped ns t = rewrite (λ l. when named ns l then [] else line_bytes l) t

-- "the line moves by the lines removed above it"
unfoldable pub removed_above : List ℕ → ℕ → List Line → ℕ
removed_above ns n [] = 0
removed_above ns n (l ∷ ls) = (when named ns l && ltb l.number n then line_count l else 0) + removed_above ns n ls

-- ## The calls

-- "Given a file and the tables": the section that a caller's number names
abbrev pub section_of : ℕ → Option Section
section_of n = when eqb n (S.allow).order then Some S.allow else when eqb n (S.deny).order then Some S.deny else None

-- 13 where it names neither of the two
abbrev pub with_section : Option Section → (Section → Outcome (List ℕ)) → Outcome (List ℕ)
with_section None f = Err (placeless F.BadRequest)
with_section (Some s) f = f s

-- "the file's own checks", and those of the tables, as in a verdict by that text and the section five
unfoldable pub file_fault : Section → List ℕ → List ℕ → Option Refusal
file_fault s t five =
    over_limit s t or_else tables_frame five or_else hosts_fault s t
    or_else missing_fault (tables_of five) s t or_else table_name_fault (tables_of five)
    or_else depth_fault (tables_of five) s t or_else bad_table_fault five

-- the proposal as bytes: each number in four
unfoldable pub propose : ℕ → List ℕ → List ℕ → ℕ → Outcome (List ℕ)
propose n t five room = with_section (section_of n) λ s. refusing (file_fault s t five) (word_bytes (proposal t)) >>= within_room room

-- bytes that can't be parted in fours are no proposal that is accepted
abbrev pub accepted_bytes : List ℕ → List ℕ → Bool
accepted_bytes t p = holds (accepts t) (read_words p)

abbrev pub numbers_of : List ℕ → List ℕ
numbers_of p = unwrap_or (read_words p) []

-- "20, line 0, for a proposal not accepted, after the file's own checks; then 14"
unfoldable pub drop_rules : ℕ → List ℕ → List ℕ → List ℕ → ℕ → Outcome (List ℕ)
drop_rules n t five p room = with_section (section_of n) λ s.
    refusing (file_fault s t five or_else given (not (accepted_bytes t p)) (placeless F.BadProposal)) (dropped (numbers_of p) t)
    >>= within_room room
