-- Document 02, request 8, "An index of rules": the forms that docs/FORMATS.md fixes, and the two calls.
--   index_bytes sheet p    == the index of the sheet whose texts stand at p
--   write_index sheet room == the call that writes it
--   read_requests t        == the requests that t writes; none where there are more than 32, or they can't be parted
--   answer_bytes a         == an answer as bytes
--   verdicts sheet index requests room == the call that answers them
-- Numbers have four bytes, most significant first, unless said.
-- Assumes nothing: these are definitions.
use Rattle.std.specs.Prelude.{ℕ, zero, suc, ◌+◌, ◌-◌, ◌/◌, Bool, false, not, ◌||◌, List, [], ◌∷◌, ◌++◌, length, take, drop, leb, Err, None, Ok, Option, Some, unwrap_or}
use Rattle.text.specs.Basics.{when◌then◌else◌, ◌>>=◌, given}
use Rattle.text.specs.Text.{equal}
use Rattle.text.specs.Number.{from_digits, to_digits}
use Rattle.section.specs.declared.Fault.TheVariants as F
use Rattle.section.specs.declared.Part.{Part}
use Rattle.section.specs.Refusal.{Outcome, ◌>>=◌ as ◌>>=ᴼ◌, ◌before◌, placeless, within_room}
use Rattle.section.specs.Section.{bytes_at}
use Rattle.lines.specs.Line.{Line, join, lines, is_comment, is_blank}
use Rattle.lines.specs.Rule.{split_separator}
use Rattle.sheet.specs.declared.Parts.{Parts}
use Rattle.sheet.specs.Sheet.{unpack}
use Rattle.station.specs.Station.{decide_sheet, looked_sheet}
use Rattle.codes.specs.declared.GateAnswer.{GateAnswer}
use Rattle.codes.specs.declared.request.HostNumbers.{HostNumbers}
use Rattle.codes.specs.Requests.{RequestNumbers, host_numbers, request_numbers, request}
use Rattle.codes.specs.Answers.{verdict_answer}
use Rattle.index.specs.declared.Range.{Range}
use Rattle.index.specs.declared.Entry.{Entry}

-- ## The index

abbrev pub range : ℕ → ℕ → Range
range a e = record { start = a; end = e }

-- the physical lines after the first: "A backslash and the newline after it are both dropped."
abbrev pub dropped_pairs : List ℕ → ℕ
dropped_pairs raw = (length raw - length (join raw)) / 2

-- "where each rule and its lists begin and end": its first and last physical line; then, as places in the sheet, where the rule, its
-- daemon list and its client list begin, and the place after each. base: the place of the text in the sheet.
unfoldable pub rule_entry : ℕ → Line → Option Entry
rule_entry base l = when is_comment l || is_blank l then None else do
  p ← split_separator false l.raw
  let start = base + l.place
  let clients = start + length p.0 + 1
  let q = unwrap_or (split_separator false p.1) (p.1, [])
  Some (record {
    lines = range l.number (l.number + dropped_pairs l.raw);
    rule = range start (start + length l.raw);
    daemons = range start (start + length p.0);
    clients = range clients (clients + length q.0);
  })

abbrev pub with_entry : Option Entry → List Entry → List Entry
with_entry None es = es
with_entry (Some e) es = e ∷ es

unfoldable pub rule_table : ℕ → List Line → List Entry
rule_table base [] = []
rule_table base (l ∷ ls) = with_entry (rule_entry base l) (rule_table base ls)

-- the rules of the text that stands at a part of the sheet
abbrev pub rules_at : List ℕ → Part → List Entry
rules_at sheet p = rule_table p.place (lines (bytes_at sheet p))

unfoldable pub two_bytes : ℕ → ℕ → List ℕ
two_bytes a b = to_digits 256 4 a ++ to_digits 256 4 b

abbrev pub range_bytes : Range → List ℕ
range_bytes r = two_bytes r.start r.end

unfoldable pub entry_bytes : Entry → List ℕ
entry_bytes e = range_bytes e.lines ++ range_bytes e.rule ++ range_bytes e.daemons ++ range_bytes e.clients

unfoldable pub table_bytes : List Entry → List ℕ
table_bytes [] = []
table_bytes (e ∷ es) = entry_bytes e ++ table_bytes es

-- how many rules allow has, and deny; then the rules of allow, then those of deny
unfoldable pub index_bytes : List ℕ → Parts → List ℕ
index_bytes sheet p =
    two_bytes (length (rules_at sheet p.allow)) (length (rules_at sheet p.deny))
    ++ table_bytes (rules_at sheet p.allow) ++ table_bytes (rules_at sheet p.deny)

-- "a call writes it for an accepted sheet, or refuses by 14"
unfoldable pub write_index : List ℕ → ℕ → Outcome (List ℕ)
write_index sheet room = unpack sheet >>=ᴼ λ p. within_room room (index_bytes sheet p)

-- ## Requests

-- the first k bytes of t, and what follows them
abbrev pub cut : ℕ → List ℕ → Option (List ℕ × List ℕ)
cut k t = given (leb k (length t)) (take k t, drop k t)

-- the number in the k bytes of t from a place on
abbrev pub number_at : ℕ → ℕ → List ℕ → ℕ
number_at at k t = from_digits 256 0 (take k (drop at t))

-- a text after its count in one byte, and what follows it
unfoldable pub read_text : List ℕ → Option (List ℕ × List ℕ)
read_text t = do
  n ← cut 1 t
  cut (number_at 0 1 n.0) n.1

-- a host: the state of its name, the kind of its address, the two halves of the address in eight bytes each, the name
unfoldable pub read_host : List ℕ → Option ((HostNumbers × List ℕ) × List ℕ)
read_host t = do
  h ← cut 18 t
  name ← read_text h.1
  Some ((host_numbers (number_at 0 1 h.0) (number_at 1 1 h.0) (number_at 2 8 h.0) (number_at 10 8 h.0), name.0), name.1)

-- a request: daemon, client, server, user, the user's name, by the numbers that C hands over
unfoldable pub read_request : List ℕ → Option (RequestNumbers × List ℕ)
read_request t = do
  daemon ← read_text t
  client ← read_host daemon.1
  server ← read_host client.1
  user ← cut 1 server.1
  name ← read_text user.1
  Some (request_numbers daemon.0 client.0.0 client.0.1 server.0.0 server.0.1 (number_at 0 1 user.0) name.0, name.1)

-- at most k requests, one after the other
unfoldable pub parted : ℕ → List ℕ → Option (List RequestNumbers)
parted zero [] = Some []
parted zero (x ∷ t) = None
parted (suc k) [] = Some []
parted (suc k) (x ∷ t) = do
  r ← read_request (x ∷ t)
  rs ← parted k r.1
  Some (r.0 ∷ rs)

-- "up to 32 requests"
unfoldable pub read_requests : List ℕ → Option (List RequestNumbers)
read_requests t = parted 32 t

-- ## Answers

-- the numbers of struct gate_answer in its order, the last in eight bytes
unfoldable pub answer_bytes : GateAnswer → List ℕ
answer_bytes a =
    two_bytes a.number a.section ++ two_bytes a.line a.word ++ two_bytes a.file a.place
    ++ to_digits 256 4 a.len ++ to_digits 256 8 a.looked

-- "Each answer is the one that the request gets alone without an index; a request with a bad field gets its own 13 in its place"
abbrev pub lone_answer : List ℕ → RequestNumbers → GateAnswer
lone_answer sheet n = verdict_answer (decide_sheet sheet (request n)) (looked_sheet sheet (request n))

-- "in their order"
unfoldable pub answers_to : List ℕ → List RequestNumbers → List ℕ
answers_to sheet [] = []
answers_to sheet (n ∷ ns) = answer_bytes (lone_answer sheet n) ++ answers_to sheet ns

-- "13 for the whole call if there are more than 32 requests or they can't be parted; then 14"
abbrev pub answer_all : List ℕ → ℕ → Option (List RequestNumbers) → Outcome (List ℕ)
answer_all sheet room None = Err (placeless F.BadRequest)
answer_all sheet room (Some ns) = within_room room (answers_to sheet ns)

-- "An index that isn't the one of this very sheet is refused": "21 for a wrong index, after all sheet checks"
unfoldable pub verdicts : List ℕ → List ℕ → List ℕ → ℕ → Outcome (List ℕ)
verdicts sheet index requests room = unpack sheet >>=ᴼ λ p.
    given (not (equal index (index_bytes sheet p))) (placeless F.WrongIndex) before answer_all sheet room (read_requests requests)
