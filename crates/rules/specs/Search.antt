-- Document 01, "Search": the verdict. What one rule finds is in lists, Walk.antt.
--   search m allow deny r == the answer on a request by two sound texts, where m says what a named table matches
--   decide allow deny o == the call without tables: every check, then the search for the request in o
--   decide_tables allow deny t o == the call with the tables of t
--   command_bytes allow deny a == the bytes of the raw command of the answer a
-- Assumes nothing: these are definitions.
use Rattle.std.specs.Prelude.{ℕ, ◌+◌, ◌-◌, ◌||◌, List, [], ◌∷◌, length, None, Ok, Option, Some, unwrap_or}
use Rattle.text.specs.Basics.{when◌then◌else◌, ◌>>=◌, ◌or_else◌, is_empty, first}
use Rattle.section.specs.declared.Part.{Part}
use Rattle.section.specs.Refusal.{Outcome, ◌before◌, fitting}
use Rattle.section.specs.Section as S
use Rattle.section.specs.Section.{part, bytes_at, over_limit}
use Rattle.lines.specs.Line.{Line, lines, is_comment, is_blank}
use Rattle.lines.specs.Rule.{Rule, parse_rule}
use Rattle.lines.specs.Command.{trimmed}
use Rattle.tables.specs.Table.{Table, Matcher, tables_of, tables_frame, match_of}
use Rattle.elements.specs.declared.Found.{Found}
use Rattle.elements.specs.declared.Found.TheVariants as Found
use Rattle.elements.specs.Request.{Request, well_formed, held}
use Rattle.lists.specs.Walk.{rule_found}
use Rattle.rules.specs.declared.Verdict.{Verdict}
use Rattle.rules.specs.declared.Verdict.TheVariants.{Granted, Denied, Ask}
use Rattle.rules.specs.declared.File.{File}
use Rattle.rules.specs.declared.File.TheVariants.{Neither, Allow, Deny}
use Rattle.rules.specs.declared.Answer.{Answer}
use Rattle.rules.specs.Check.{hosts_fault, tables_fault}

-- the section of a file
abbrev pub file_section : File → ℕ
file_section Neither = 0
file_section Allow = (S.allow).order
file_section Deny = (S.deny).order

-- "a part of the allow file or of the deny file, from after the second separator to before the ending newline; an empty
-- part where there is none"; "empty means none". The place of an empty part is free.
abbrev pub raw_command : Line → Rule → Part
raw_command l u =
    let n : ℕ = length u.command in part (l.place + (length l.raw - n)) (when is_empty (trimmed u.command) then 0 else n)

abbrev pub answer : Verdict → File → ℕ → Part → Answer
answer v f n p = record { verdict = v; file = f; line = n; command = p }

-- what the rule u of the line l answers: the verdict v of its file f where it matches
abbrev pub rule_answer : Verdict → File → Line → Rule → Found → Option Answer
rule_answer v f l u Found.Yes = Some (answer v f l.number (raw_command l u))
rule_answer v f l u Found.Ask = Some (answer Ask f l.number (part 0 0))
rule_answer v f l u Found.No = None

-- where found says what a rule finds
unfoldable pub line_answer : Verdict → File → (Rule → Found) → Line → Option Answer
line_answer v f found l =
    when is_comment l || is_blank l then None else (parse_rule l.raw >>= λ u. rule_answer v f l u (found u))

-- "First matching rule of allow grants; else first matching rule of deny denies; else granted with no file and line 0."
unfoldable pub search : Matcher → List ℕ → List ℕ → Request → Answer
search m allow deny r = unwrap_or
    (first (line_answer Granted Allow (rule_found m r)) (lines allow) or_else first (line_answer Denied Deny (rule_found m r)) (lines deny))
    (answer Granted Neither 0 (part 0 0))

-- the answer to the request in o by sound texts, over the tables ts; request 7: "Every verdict and expansion makes this change first"
abbrev pub decide_over : List Table → List ℕ → List ℕ → Option Request → Outcome Answer
decide_over ts allow deny o = fitting well_formed o (λ r. Ok (search (match_of ts) allow deny (held r)))

-- "per section in turn, .. limit (2) ..; then allow, deny ..; then 13"; "A call that takes only some texts makes only
-- their checks, over the whole of each text, before any verdict." Request 1: "any `/name` is missing in a call without tables"
unfoldable pub decide : List ℕ → List ℕ → Option Request → Outcome Answer
decide allow deny o =
    (over_limit S.allow allow or_else over_limit S.deny deny or_else hosts_fault S.allow allow or_else hosts_fault S.deny deny
    or_else tables_fault allow deny [])
    before decide_over [] allow deny o

-- the same with the text t of section five, "checked as in a sheet"
unfoldable pub decide_tables : List ℕ → List ℕ → List ℕ → Option Request → Outcome Answer
decide_tables allow deny t o =
    (over_limit S.allow allow or_else over_limit S.deny deny or_else tables_frame t
    or_else hosts_fault S.allow allow or_else hosts_fault S.deny deny or_else tables_fault allow deny t)
    before decide_over (tables_of t) allow deny o

-- "The verdict hands back the raw command as a part of the allow file or of the deny file"
abbrev pub command_bytes : List ℕ → List ℕ → Answer → List ℕ
command_bytes allow deny a = elim a.file [ Neither ↦ [] | Allow ↦ bytes_at allow a.command | Deny ↦ bytes_at deny a.command ]
