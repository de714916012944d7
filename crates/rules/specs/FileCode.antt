-- What the contracts of the pass over a text cite. Nothing here needs to be believed for the meaning of document 01: the public promise
-- is stated over Search alone.
--   hosts_fault_at s v t == the refusal of the text t of the section whose order is s, by its lines and, by the view v, the tables that they name
--   pass_of o a       == a refusal, else an answer, as the code answers them
--   pass_line .. l, pass_text .. t == the same of a line and of a text; the answer is looked for only if search holds
--   combined p q       == the pass p over some lines, then q over what follows
--   pass_both r allow deny == the pass over both texts
--   tallied p n      == the pass p, for which n elements were looked at; a fault counts nothing
--   refusing_request sound a n == the report of the answer a and the number n, on a request that is sound or not
--   line_kind l      == whether the line l is faulty by 4 to 6, passed over, or a rule
--   rule_examined .. t, line_examined .. l == the lowest fault of a rule and of a line, else what it finds and looks at
--   line_looks .. l, lines_looked .. ls, both_looked r allow deny == what a line, lines, and both texts look at
--   command_part at s o == the raw command of the rule o, which was read from the line s at a place
--   ScannedLine s l  == the bytes s are those of a line that was scanned as l
--   step_of .. t i n s == what the step over the line of t at i, of number n and scanned as s, answers
-- Assumes nothing: these are definitions.
use Rattle.std.specs.Prelude.{ℕ, ◌+◌, ◌-◌, ◌*◌, Bool, true, false, not, ◌&&◌, ◌||◌, List, [], ◌∷◌, ◌≡◌, length, take, drop, Err, None, Ok, Option, Result, Some}
use Rattle.text.specs.Basics.{when◌then◌else◌, ◌or_else◌, is_some, first, sum_until}
use Rattle.text.specs.Text.{bytes}
use Rattle.section.specs.declared.Fault.{Fault}
use Rattle.section.specs.declared.Fault.TheVariants as F
use Rattle.section.specs.declared.Part.{Part}
use Rattle.section.specs.declared.Refusal.{Refusal}
use Rattle.section.specs.Refusal.{at_place, placeless}
use Rattle.section.specs.Code.{first_holding}
use Rattle.section.specs.Section.{part}
use Rattle.lines.specs.declared.line.LineSpan.{LineSpan}
use Rattle.lines.specs.Line.{Line, line, join, lines, is_comment, is_blank, has_bad_byte, is_too_long}
use Rattle.lines.specs.Rule.{Rule, parse_rule}
use Rattle.elements.specs.declared.Found.{Found}
use Rattle.elements.specs.declared.Found.TheVariants.{No}
use Rattle.elements.specs.declared.Looked.{Looked}
use Rattle.elements.specs.declared.request.Request.{Request as Places}
use Rattle.elements.specs.Request.{Request}
use Rattle.elements.specs.Places.{request_at}
use Rattle.elements.specs.Code.{View, view_of, counted, looked_for}
use Rattle.tables.specs.Tried.{capped}
use Rattle.lists.specs.Code.{NoNewline, view_found, line_found, view_looked, line_looked, judged_fault}
use Rattle.rules.specs.declared.Verdict.{Verdict}
use Rattle.rules.specs.declared.Verdict.TheVariants.{Granted, Denied, Ask}
use Rattle.rules.specs.declared.File.{File}
use Rattle.rules.specs.declared.File.TheVariants.{Neither, Allow, Deny}
use Rattle.rules.specs.declared.Answer.{Answer}
use Rattle.rules.specs.declared.Reported.{Reported}
use Rattle.rules.specs.declared.hosts_file.Tally.{Tally}
use Rattle.rules.specs.declared.hosts_file.LineKind.{LineKind}
use Rattle.rules.specs.declared.hosts_file.LineKind.TheVariants as Kind
use Rattle.rules.specs.declared.hosts_file.Step.{Step}
use Rattle.rules.specs.Check.{line_fault_by}
use Rattle.rules.specs.Search.{answer, raw_command, line_answer}
use Rattle.rules.specs.Looked.{line_count}

-- the paper's words; no promise cites them
abbrev pub verdict_word : Verdict → List ℕ
verdict_word Granted = bytes "granted"
verdict_word Denied = bytes "denied"
verdict_word Ask = bytes "ask"

-- ## A text

-- a request, and what is known of the tables to it
pub record Query : Type 0 where
  pub view : View
  pub request : Request

abbrev pub query_at : List ℕ → List ℕ → List ℕ → Places → Query
query_at tables notes names q = record { view = view_of tables notes; request = request_at names q }

abbrev pub query_found : Query → Rule → Found
query_found q = view_found q.view q.request

-- the lowest fault of a line, and else of the tables that its rule names
abbrev pub judged_line : View → Line → Option Fault
judged_line v l = line_fault_by (judged_fault v) l

abbrev pub fault_at : ℕ → View → Line → Option Refusal
fault_at s v l = at_place s l.number (judged_line v l)

unfoldable pub hosts_fault_at : ℕ → View → List ℕ → Option Refusal
hosts_fault_at s v t = first (fault_at s v) (lines t)

abbrev pub pass_of : Option Refusal → Option Answer → Result (Option Answer) Refusal
pass_of None None = Ok None
pass_of None (Some a) = Ok (Some a)
pass_of (Some f) a = Err f

unfoldable pub pass_line : ℕ → Verdict → File → Bool → Query → Line → Result (Option Answer) Refusal
pass_line s v f search r l = pass_of (fault_at s r.view l) (when search then line_answer v f (query_found r) l else None)

unfoldable pub pass_text : ℕ → Verdict → File → Bool → Query → List ℕ → Result (Option Answer) Refusal
pass_text s v f search r t = pass_of (hosts_fault_at s r.view t) (when search then first (line_answer v f (query_found r)) (lines t) else None)

abbrev pub is_unmatched : Result (Option Answer) Refusal → Bool
is_unmatched (Err g) = false
is_unmatched (Ok None) = true
is_unmatched (Ok (Some a)) = false

-- a fault goes before every answer, and the first of each stays
abbrev pub combined : Result (Option Answer) Refusal → Result (Option Answer) Refusal → Result (Option Answer) Refusal
combined (Err f) q = Err f
combined (Ok None) q = q
combined (Ok (Some a)) (Err g) = Err g
combined (Ok (Some a)) (Ok None) = Ok (Some a)
combined (Ok (Some a)) (Ok (Some c)) = Ok (Some a)

unfoldable pub pass_both : Query → List ℕ → List ℕ → Result (Option Answer) Refusal
pass_both r allow deny = pass_of
    (hosts_fault_at 1 r.view allow or_else hosts_fault_at 2 r.view deny)
    (first (line_answer Granted Allow (query_found r)) (lines allow) or_else first (line_answer Denied Deny (query_found r)) (lines deny))

-- a fault counts nothing
abbrev pub tallied : Result (Option Answer) Refusal → ℕ → Tally
tallied (Err g) n = record { pass = Err g; looked = 0 }
tallied (Ok None) n = record { pass = Ok None; looked = n }
tallied (Ok (Some a)) n = record { pass = Ok (Some a); looked = n }

abbrev pub query_looked : Query → Rule → ℕ
query_looked q = view_looked q.view q.request

abbrev pub line_looks : Bool → Query → Line → ℕ
line_looks search r l = counted search (line_count (query_looked r) l)

unfoldable pub lines_looked : Verdict → File → Bool → Query → List Line → ℕ
lines_looked v f search r ls = counted search (sum_until (λ l. is_some (line_answer v f (query_found r) l)) (line_count (query_looked r)) ls)

unfoldable pub both_looked : Query → List ℕ → List ℕ → ℕ
both_looked r allow deny =
    lines_looked Granted Allow true r (lines allow)
    + (when is_some (first (line_answer Granted Allow (query_found r)) (lines allow)) then 0 else lines_looked Denied Deny true r (lines deny))

abbrev pub refused_report : Refusal → Reported
refused_report g = record { ruling = Err g; looked = 0 }

abbrev pub refusing_request : Bool → Answer → ℕ → Reported
refusing_request true a n = record { ruling = Ok a; looked = n }
refusing_request false a n = refused_report (placeless F.BadRequest)

-- ## A line

-- 4 to 6
abbrev pub layout_fault : Line → Option Fault
layout_fault l = first_holding
    ((F.Unended, not l.ended)
    ∷ (F.BadByte, not (is_comment l) && has_bad_byte (join l.raw))
    ∷ (F.LongLine, is_too_long (join l.raw)) ∷ [])

abbrev pub kind_as : Option Fault → Bool → LineKind
kind_as (Some f) passed = Kind.Faulty f
kind_as None true = Kind.Skipped
kind_as None false = Kind.HasRule

unfoldable pub line_kind : Line → LineKind
line_kind l = kind_as (layout_fault l) (is_comment l || is_blank l)

abbrev pub examined_as : Option Fault → Looked → Result Looked Fault
examined_as (Some f) x = Err f
examined_as None x = Ok x

-- what the rule in t finds and looks at, if it is searched
abbrev pub sought_in : Bool → Query → List ℕ → Looked
sought_in search r t =
    looked_for (when search then line_found r.view r.request t else No) (counted search (capped (line_looked r.view r.request t)))

-- whether what a rule tells is a fault
abbrev pub is_refused : Result Looked Fault → Bool
is_refused (Err f) = true
is_refused (Ok y) = false

unfoldable pub rule_examined : Bool → Query → List ℕ → Result Looked Fault
rule_examined search r t = examined_as (judged_fault r.view (parse_rule t)) (sought_in search r t)

unfoldable pub line_examined : Bool → Query → Line → Result Looked Fault
line_examined search r l = examined_as (judged_line r.view l) (when is_comment l || is_blank l then looked_for No 0 else sought_in search r l.raw)

unfoldable pub command_part : ℕ → List ℕ → Option Rule → Part
command_part at s None = part (at + length s) 0
command_part at s (Some u) = raw_command (line 0 at s true) u

pub record ScannedLine (s : List ℕ) (l : LineSpan) : Type 0 where
  pub lengths : length (join s) + 2 * l.joins ≡ length s
  pub bytes : has_bad_byte (join s) ≡ not l.clean
  pub plain : l.joins ≡ 0 → NoNewline s

abbrev pub step_of : ℕ → Verdict → File → Bool → Query → List ℕ → ℕ → ℕ → LineSpan → Step
step_of s v f search r t i n l = record {
  next = l.end + 1;
  number = n + l.joins + 1;
  tally =
      tallied (pass_line s v f search r (line n i (take (l.end - i) (drop i t)) l.ended))
      (capped (line_looks search r (line n i (take (l.end - i) (drop i t)) l.ended)));
}
