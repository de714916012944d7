-- Document 01, "Numbers the gate answers with": 4 to 6 and those of a rule, line by line; document 02, request 1: 15 to 17.
--   line_fault l    == the lowest number given to a logical line
--   hosts_fault s t == the refusal of the text t of section s, at its lowest faulty line
--   missing_fault ts s t, depth_fault ts s t == the same by 15 and by 16, over the tables ts
--   tables_fault allow deny t == the refusal of two texts and the section five t by 15, 16 and 17
-- Not here: the tests of 5 and 6 (lines, Line.antt), and 7 to 11 (lists, Check.antt).
-- Assumes nothing: these are definitions.
use Rattle.std.specs.Prelude.{ℕ, Bool, false, not, ◌&&◌, ◌||◌, List, [], ◌∷◌, None, Option}
use Rattle.text.specs.Basics.{when◌then◌else◌, ◌or_else◌, given, holds, first}
use Rattle.section.specs.declared.Fault.{Fault}
use Rattle.section.specs.declared.Fault.TheVariants as F
use Rattle.section.specs.declared.Refusal.{Refusal}
use Rattle.section.specs.Refusal.{lowest, at_place}
use Rattle.section.specs.Section as S
use Rattle.section.specs.Section.{Section}
use Rattle.lines.specs.Line.{Line, join, lines, is_comment, is_blank, has_bad_byte, is_too_long}
use Rattle.lines.specs.Rule.{Rule, parse_rule}
use Rattle.tables.specs.Table.{Table, tables_of, is_missing, depth, leads_past, table_name_fault, bad_table_fault}
use Rattle.lists.specs.Check.{rule_fault, rule_names}

-- 4: "the last logical line of allow or deny has no ending newline"; 5: "a line other than a comment";
-- "4 applies to any last line, 4 and 6 also to comments and blanks"
-- where j gives the fault of a rule
unfoldable pub line_fault_by : (Option Rule → Option Fault) → Line → Option Fault
line_fault_by j l =
    lowest
    ((F.Unended, not l.ended)
    ∷ (F.BadByte, not (is_comment l) && has_bad_byte (join l.raw))
    ∷ (F.LongLine, is_too_long (join l.raw)) ∷ [])
    or_else (when is_comment l || is_blank l then None else j (parse_rule l.raw))

abbrev pub line_fault : Line → Option Fault
line_fault l = line_fault_by rule_fault l

-- "Within a file the lowest line decides"
unfoldable pub hosts_fault : Section → List ℕ → Option Refusal
hosts_fault s t = first (λ l. at_place s.order l.number (line_fault l)) (lines t)

-- Document 02, request 1: a line names a table of whose name p holds
unfoldable pub line_names : (List ℕ → Bool) → Line → Bool
line_names p l = when is_comment l || is_blank l then false else holds (rule_names p) (parse_rule l.raw)

unfoldable pub naming_fault : Fault → (List ℕ → Bool) → Section → List ℕ → Option Refusal
naming_fault f p s t = first (λ l. at_place s.order l.number (given (line_names p l) f)) (lines t)

-- 15: "a table name missing"; 16: "a rule that leads more than four deep"; "with the rule's section and line"
abbrev pub missing_fault : List Table → Section → List ℕ → Option Refusal
missing_fault ts s t = naming_fault F.TableName (is_missing ts) s t

abbrev pub depth_fault : List Table → Section → List ℕ → Option Refusal
depth_fault ts s t = naming_fault F.TooDeep (leads_past ts depth) s t

-- 15, 16, 17: "these three follow 12 in that order, .. lowest section first, then lowest line"
unfoldable pub tables_fault : List ℕ → List ℕ → List ℕ → Option Refusal
tables_fault allow deny t =
    missing_fault (tables_of t) S.allow allow or_else missing_fault (tables_of t) S.deny deny or_else table_name_fault (tables_of t)
    or_else depth_fault (tables_of t) S.allow allow or_else depth_fault (tables_of t) S.deny deny
    or_else bad_table_fault t
