-- What the contract of pass_rule cites. Nothing here needs to be believed for the meaning of document 01: the verdict's promise, in rules,
-- is stated over Check, Walk and its own definitions alone.
--   checked_of o    == o as the code answers it
--   NoNewline t    == t holds no newline, as a joined line does
--   line_found v r t, line_looked v r t == what the rule in the joined line t finds of the request r, by the view v of the tables, and looks at
--   judged_fault v o == the lowest fault of the rule o, and else of the tables that it names
-- Assumes nothing: these are definitions.
use Rattle.std.specs.Prelude.{ℕ, Bool, not, true, false, List, ◌≡◌, eqb, Err, None, Ok, Option, Result, Some, ⊤}
use Rattle.text.specs.Basics.{when◌then◌else◌, ◌or_else◌, given, all}
use Rattle.section.specs.declared.Fault.{Fault}
use Rattle.section.specs.declared.Fault.TheVariants as F
use Rattle.lines.specs.Rule.{Rule, parse_rule}
use Rattle.views.specs.declared.NamingFault.{NamingFault}
use Rattle.views.specs.declared.NamingFault.TheVariants as NamingFault
use Rattle.elements.specs.declared.Found.{Found}
use Rattle.elements.specs.declared.Found.TheVariants.{No}
use Rattle.elements.specs.Request.{Request}
use Rattle.elements.specs.Code.{View}
use Rattle.lists.specs.Check.{rule_fault, rule_names}
use Rattle.lists.specs.Walk.{rule_found_by}
use Rattle.lists.specs.Looked.{rule_looked_by}

abbrev pub checked_of : Option Fault → Result ⊤ Fault
checked_of None = Ok tt
checked_of (Some f) = Err f

abbrev pub NoNewline : List ℕ → Type 0
NoNewline t = all (λ b. not (eqb b 10)) t ≡ true

-- what a rule finds, by a view of the tables
abbrev pub view_found : View → Request → Rule → Found
view_found v = rule_found_by v.server v.client

abbrev pub found_by : View → Request → Option Rule → Found
found_by v r None = No
found_by v r (Some u) = view_found v r u

unfoldable pub line_found : View → Request → List ℕ → Found
line_found v r t = found_by v r (parse_rule t)

-- what a rule looks at, by a view of the tables
abbrev pub view_looked : View → Request → Rule → ℕ
view_looked v = rule_looked_by v.server v.client v.server_tried v.client_tried

abbrev pub looked_of : View → Request → Option Rule → ℕ
looked_of v r None = 0
looked_of v r (Some u) = view_looked v r u

unfoldable pub line_looked : View → Request → List ℕ → ℕ
line_looked v r t = looked_of v r (parse_rule t)

-- a table may not be named: it is missing, it leads too deep
abbrev pub is_missing_name : Result ⊤ NamingFault → Bool
is_missing_name (Ok tt) = false
is_missing_name (Err NamingFault.Missing) = true
is_missing_name (Err NamingFault.Deep) = false

abbrev pub is_deep_name : Result ⊤ NamingFault → Bool
is_deep_name (Ok tt) = false
is_deep_name (Err NamingFault.Missing) = false
is_deep_name (Err NamingFault.Deep) = true

abbrev pub missing_by : View → List ℕ → Bool
missing_by v n = is_missing_name (v.naming n)

abbrev pub deep_by : View → List ℕ → Bool
deep_by v n = is_deep_name (v.naming n)

-- the faults of the tables that a rule names, after those of the rule itself
abbrev pub rules_naming : View → Option Rule → Option Fault
rules_naming v None = None
rules_naming v (Some u) = given (rule_names (missing_by v) u) F.TableName or_else given (rule_names (deep_by v) u) F.TooDeep

unfoldable pub judged_fault : View → Option Rule → Option Fault
judged_fault v o = rule_fault o or_else rules_naming v o
