-- Document 02, request 12: how many elements a search looks at. What it answers is in Search.antt.
--   looked ts allow deny r     == what the search by two sound texts looks at, over the tables ts
--   looked_over ts allow deny o == the number that goes with the answer to the request in o
--   reported o n               == the outcome o as the call answers it, with that number
--   file_elements t             == the elements of all rules of the text t
-- Assumes nothing: these are definitions.
use Rattle.std.specs.Prelude.{ℕ, ◌+◌, ◌||◌, List, Err, None, Ok, Option, Some}
use Rattle.text.specs.Basics.{when◌then◌else◌, is_some, first, sum, sum_until}
use Rattle.section.specs.Refusal.{Outcome, fitting}
use Rattle.lines.specs.Line.{Line, lines, is_comment, is_blank}
use Rattle.lines.specs.Rule.{Rule, parse_rule}
use Rattle.tables.specs.Table.{Table, match_of}
use Rattle.tables.specs.Tried.{capped}
use Rattle.elements.specs.Request.{Request, well_formed, held}
use Rattle.lists.specs.Walk.{rule_found}
use Rattle.lists.specs.Looked.{rule_looked, rule_elements}
use Rattle.rules.specs.declared.Verdict.{Verdict}
use Rattle.rules.specs.declared.Verdict.TheVariants.{Granted, Denied}
use Rattle.rules.specs.declared.File.{File}
use Rattle.rules.specs.declared.File.TheVariants.{Allow, Deny}
use Rattle.rules.specs.declared.Answer.{Answer}
use Rattle.rules.specs.declared.Reported.{Reported}
use Rattle.rules.specs.Search.{line_answer}

-- what f counts of the rule in a line; a line that holds none counts nothing
abbrev pub of_rule : (Rule → ℕ) → Option Rule → ℕ
of_rule f None = 0
of_rule f (Some u) = f u

unfoldable pub line_count : (Rule → ℕ) → Line → ℕ
line_count f l = when is_comment l || is_blank l then 0 else of_rule f (parse_rule l.raw)

-- up to the first rule of a text that matches or asks, that one included
unfoldable pub file_looked : List Table → Verdict → File → Request → List ℕ → ℕ
file_looked ts v f r t = sum_until (λ l. is_some (line_answer v f (rule_found (match_of ts) r) l)) (line_count (rule_looked ts r)) (lines t)

-- "Report how many elements were looked at": in allow, and in deny where no rule of allow matched or asked
unfoldable pub looked : List Table → List ℕ → List ℕ → Request → ℕ
looked ts allow deny r =
    file_looked ts Granted Allow r allow
    + (when is_some (first (line_answer Granted Allow (rule_found (match_of ts) r)) (lines allow)) then 0 else file_looked ts Denied Deny r deny)

-- "(0 at a refusal)": 13 too
abbrev pub number_of : Outcome ℕ → ℕ
number_of (Err f) = 0
number_of (Ok n) = n

-- the number for the request in o by sound texts, over the tables ts, for the request as it is held
unfoldable pub looked_over : List Table → List ℕ → List ℕ → Option Request → ℕ
looked_over ts allow deny o = number_of (fitting well_formed o (λ r. Ok (capped (looked ts allow deny (held r)))))

abbrev pub reported : Outcome Answer → ℕ → Reported
reported (Err f) n = record { ruling = Err f; looked = 0 }
reported (Ok a) n = record { ruling = Ok a; looked = n }

-- "the elements in both files", of one of them
unfoldable pub file_elements : List ℕ → ℕ
file_elements t = sum (line_count rule_elements) (lines t)
