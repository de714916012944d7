-- What the contracts of inner functions cite. Nothing here needs to be believed for the meaning of document 02, request 8: laws tie it to
-- Index and to what answers a lone request.
--   line_entry base t i n l == the line l of the text t that starts at i and has the number n, with the entry of its rule
--   entry_at t              == the entry that t begins with
--   entry_rule sheet e      == the rule at the places of the entry e
--   entry_answer .. e       == what that rule answers
--   seek_in .. es, seek_both sheet p q == what the entries of one text, and of both, find and look at
--   searched_at sheet p r   == the lone search, its answer in the sheet
--   text_at, host_at, fields_at == the fields of a request by their places
-- Assumes nothing: these are definitions.
use Rattle.std.specs.Prelude.{ℕ, ◌+◌, ◌-◌, ◌≤◌, ◌<◌, Bool, true, false, not, ◌&&◌, ◌||◌, List, [], ◌∷◌, ◌≡◌, length, take, drop, get_or, eqb, leb, ltb, None, Ok, Option, Some}
use Rattle.text.specs.Basics.{when◌then◌else◌, ◌>>=◌, is_some, all, first, sum_until}
use Rattle.text.specs.Text.{among, first_among, split, equal_fold}
use Rattle.section.specs.declared.Part.{Part}
use Rattle.section.specs.declared.Fault.TheVariants as F
use Rattle.section.specs.Refusal.{placeless}
use Rattle.section.specs.Section.{part, bytes_at}
use Rattle.lines.specs.declared.line.LineSpan.{LineSpan}
use Rattle.lines.specs.Line.{join, logical_lines}
use Rattle.lines.specs.Rule.{Rule}
use Rattle.lines.specs.Parts.{separator_index, after_separator, words}
use Rattle.patterns.specs.declared.Name.{Name}
use Rattle.patterns.specs.declared.Name.TheVariants as N
use Rattle.tables.specs.Table.{tables_of, match_of}
use Rattle.tables.specs.Tried.{capped}
use Rattle.elements.specs.declared.User.{User}
use Rattle.elements.specs.declared.User.TheVariants as U
use Rattle.elements.specs.declared.Found.{Found}
use Rattle.elements.specs.declared.Found.TheVariants as Found
use Rattle.elements.specs.declared.request.Request.{Request as Places}
use Rattle.elements.specs.Request.{Request}
use Rattle.rules.specs.declared.Verdict.{Verdict}
use Rattle.rules.specs.declared.Verdict.TheVariants.{Granted, Denied, Ask}
use Rattle.rules.specs.declared.File.{File}
use Rattle.rules.specs.declared.File.TheVariants.{Neither, Allow, Deny}
use Rattle.rules.specs.declared.Answer.{Answer}
use Rattle.rules.specs.declared.search.Searched.{Searched}
use Rattle.rules.specs.Search.{answer, search}
use Rattle.rules.specs.Looked.{looked}
use Rattle.rules.specs.Code.{searched}
use Rattle.rules.specs.FileCode.{Query, query_found, query_looked, refused_report, refusing_request}
use Rattle.sheet.specs.declared.Parts.{Parts}
use Rattle.sheet.specs.Sheet.{unpack, part_end}
use Rattle.station.specs.Station.{in_sheet}
use Rattle.codes.specs.declared.GateAnswer.{GateAnswer}
use Rattle.codes.specs.declared.request.HostNumbers.{HostNumbers}
use Rattle.codes.specs.declared.request.States.{States}
use Rattle.codes.specs.Requests.{RequestNumbers, host_numbers, request_numbers}
use Rattle.codes.specs.Code.{verdict_numbers}
use Rattle.index.specs.declared.Range.{Range}
use Rattle.index.specs.declared.Entry.{Entry}
use Rattle.index.specs.declared.table.LineEntry.{LineEntry}
use Rattle.index.specs.declared.search.Seeking.{Seeking}
use Rattle.index.specs.declared.requests.HostFields.{HostFields}
use Rattle.index.specs.declared.requests.Fields.{Fields}
use Rattle.index.specs.Index.{range, rule_table, rules_at, entry_bytes, table_bytes, number_at, answers_to}

-- ## The entries of a text

unfoldable pub has_rule : List ℕ → Bool
has_rule raw =
    when first_among "#" (join raw) then false
    else when all (among " \t") (join raw) then false
    else ltb (separator_index false raw) (length raw)

unfoldable pub entry_by : List ℕ → ℕ → ℕ → ℕ → Entry
entry_by raw at n joins = record {
  lines = range n (n + joins);
  rule = range at (at + length raw);
  daemons = range at (at + separator_index false raw);
  clients = range (at + separator_index false raw + 1)
      (at + separator_index false raw + 1 + separator_index false (after_separator (separator_index false raw) raw));
}

abbrev pub line_entry : ℕ → List ℕ → ℕ → ℕ → LineSpan → LineEntry
line_entry base t i n l = record {
  next = l.end + 1;
  number = n + l.joins + 1;
  ruled = has_rule (take (l.end - i) (drop i t));
  entry = entry_by (take (l.end - i) (drop i t)) (base + i) n l.joins;
}

-- the entries of a text from the line on that starts at i and has the number n
unfoldable pub table_from : ℕ → List ℕ → ℕ → ℕ → List Entry
table_from base t i n = rule_table base (logical_lines n i (split "\n" (drop i t)))

unfoldable pub rules_in : LineEntry → ℕ
rules_in x = when x.ruled then 1 else 0

unfoldable pub line_bytes : LineEntry → List ℕ
line_bytes x = when x.ruled then entry_bytes x.entry else []

-- ## The entries of an index

unfoldable pub number_from : ℕ → List ℕ → ℕ
number_from at t = number_at at 4 t

abbrev pub range_at : ℕ → List ℕ → Range
range_at at t = range (number_from at t) (number_from (at + 4) t)

unfoldable pub entry_at : List ℕ → Entry
entry_at t = record { lines = range_at 0 t; rule = range_at 8 t; daemons = range_at 16 t; clients = range_at 24 t }

-- every number of an entry has at most four bytes
pub record SmallRange (r : Range) : Type 0 where
  pub small_start : r.start < 4294967296
  pub small_end : r.end < 4294967296

pub record Small (e : Entry) : Type 0 where
  pub small_lines : SmallRange e.lines
  pub small_rule : SmallRange e.rule
  pub small_daemons : SmallRange e.daemons
  pub small_clients : SmallRange e.clients

abbrev pub AllSmall : List Entry → Type 0
AllSmall [] = Unit {0}
AllSmall (e ∷ es) = Small e × AllSmall es

pub record Table (bytes : List ℕ) (es : List Entry) : Type 0 where
  pub table_bytes_lem : bytes ≡ table_bytes es
  pub table_small : AllSmall es

-- ## The rule of an entry

unfoldable pub between : Range → List ℕ → List ℕ
between r t = take (r.end - r.start) (drop r.start t)

unfoldable pub joined_list : List ℕ → List ℕ
joined_list s = when ltb 2048 (length (join s)) then [] else join s

unfoldable pub list_at : Bool → List ℕ → List (List ℕ)
list_at joins s = words (when joins then joined_list s else s)

-- a byte that parts neither elements nor the halves of one, and begins no table's name
abbrev pub is_whole : ℕ → Bool
is_whole x = (not ((eqb x 32 || eqb x 9) || eqb x 44) && not (eqb x 64)) && not (eqb x 47)

-- s is one element, as long as neither ALL nor EXCEPT, and another name than d
unfoldable pub is_other : List ℕ → List ℕ → Bool
is_other s d = all is_whole s && (not ((eqb (length s) 0 || eqb (length s) 3) || eqb (length s) 6) && not (equal_fold s d))

-- after the separator that ends the client list, or at the end
unfoldable pub command_start : Entry → ℕ
command_start e = when ltb e.clients.end e.rule.end then e.clients.end + 1 else e.rule.end

abbrev pub command_text : List ℕ → Entry → List ℕ
command_text sheet e = between (range (command_start e) e.rule.end) sheet

unfoldable pub entry_command : List ℕ → Entry → Part
entry_command sheet e =
    part (command_start e) (when all (among " \t") (join (command_text sheet e)) then 0 else length (command_text sheet e))

-- pairs are dropped from the rule
abbrev pub joins_in : Entry → Bool
joins_in e = not (eqb e.lines.start e.lines.end)

abbrev pub entry_rule : List ℕ → Entry → Rule
entry_rule sheet e = record {
  daemons = list_at (joins_in e) (between e.daemons sheet);
  clients = list_at (joins_in e) (between e.clients sheet);
  command = command_text sheet e;
}

-- base: the place of its file
abbrev pub rule_answer_at : List ℕ → ℕ → Verdict → File → Entry → Found → Option Answer
rule_answer_at sheet base v f e Found.Yes = Some (answer v f e.lines.start (entry_command sheet e))
rule_answer_at sheet base v f e Found.Ask = Some (answer Ask f e.lines.start (part base 0))
rule_answer_at sheet base v f e Found.No = None

unfoldable pub entry_answer : List ℕ → ℕ → Verdict → File → Query → Entry → Option Answer
entry_answer sheet base v f q e = rule_answer_at sheet base v f e (query_found q (entry_rule sheet e))

unfoldable pub entry_looked : List ℕ → Query → Entry → ℕ
entry_looked sheet q e = query_looked q (entry_rule sheet e)

-- ## The search

abbrev pub seeking : Option Answer → ℕ → Seeking
seeking o n = record { sought = o; looked = n }

unfoldable pub seek_in : List ℕ → ℕ → Verdict → File → Query → List Entry → Seeking
seek_in sheet base v f q es =
    seeking (first (entry_answer sheet base v f q) es)
    (capped (sum_until (λ e. is_some (entry_answer sheet base v f q e)) (entry_looked sheet q) es))

abbrev pub last_answer : Option Answer → Answer
last_answer None = answer Granted Neither 0 (part 0 0)
last_answer (Some a) = a

abbrev pub ended_by : ℕ → Seeking → Searched
ended_by n x = searched (last_answer x.sought) (capped (n + x.looked))

abbrev pub seek_then : Option Answer → ℕ → Seeking → Searched
seek_then None n y = ended_by n y
seek_then (Some a) n y = searched a n

unfoldable pub seek_both : List ℕ → Parts → Query → Searched
seek_both sheet p q =
    let x : Seeking = seek_in sheet p.allow.place Granted Allow q (rules_at sheet p.allow) in
    seek_then x.sought x.looked (seek_in sheet p.deny.place Denied Deny q (rules_at sheet p.deny))

-- the search of a lone call, its answer as in the sheet
unfoldable pub searched_at : List ℕ → Parts → Request → Searched
searched_at sheet p r =
    searched (in_sheet p (search (match_of (tables_of (bytes_at sheet p.tables))) (bytes_at sheet p.allow) (bytes_at sheet p.deny) r))
    (capped (looked (tables_of (bytes_at sheet p.tables)) (bytes_at sheet p.allow) (bytes_at sheet p.deny) r))

-- an accepted sheet, and the tables of its index
pub record Ready (sheet : List ℕ) (p : Parts) (allow deny : List ℕ) : Type 0 where
  pub accepted : unpack sheet ≡ Ok p
  pub allow_table : Table allow (rules_at sheet p.allow)
  pub deny_table : Table deny (rules_at sheet p.deny)

-- ## The fields of a request

unfoldable pub text_at : ℕ → List ℕ → Option Part
text_at at t =
    when leb (length t) at then None
    else when leb (length t - at) (get_or t at 0) then None
    else Some (part (at + 1) (get_or t at 0))

unfoldable pub numbers_at : ℕ → List ℕ → HostNumbers
numbers_at at t = host_numbers (get_or t at 0) (get_or t (at + 1) 0) (number_at (at + 2) 8 t) (number_at (at + 10) 8 t)

abbrev pub host_fields : HostNumbers → Part → HostFields
host_fields n p = record { numbers = n; name = p }

unfoldable pub host_at : ℕ → List ℕ → Option HostFields
host_at at t = when ltb (length t - at) 18 then None else (text_at (at + 18) t >>= λ name. Some (host_fields (numbers_at at t) name))

abbrev pub fields_of : Part → HostFields → HostFields → ℕ → Part → Fields
fields_of d c s u n = record { daemon = d; client = c; server = s; user = u; user_name = n; end = part_end n }

unfoldable pub user_from : Part → HostFields → HostFields → List ℕ → Option Fields
user_from d c s t =
    when leb (length t) (part_end s.name) then None
    else (text_at (part_end s.name + 1) t >>= λ name. Some (fields_of d c s (get_or t (part_end s.name) 0) name))

unfoldable pub hosts_from : Part → List ℕ → Option Fields
hosts_from d t = do
  c ← host_at (part_end d) t
  s ← host_at (part_end c.name) t
  user_from d c s t

unfoldable pub fields_at : List ℕ → Option Fields
fields_at t = do
  d ← text_at 0 t
  hosts_from d t

abbrev pub counted_of : Option (List RequestNumbers) → Option ℕ
counted_of None = None
counted_of (Some ns) = Some (length ns)

abbrev pub numbers_in : List ℕ → Fields → RequestNumbers
numbers_in names f =
    request_numbers (bytes_at names f.daemon) f.client.numbers (bytes_at names f.client.name) f.server.numbers
    (bytes_at names f.server.name) f.user (bytes_at names f.user_name)

-- ## The answers

abbrev pub known_part : Name → Part → Part
known_part N.Unknown p = part 0 0
known_part N.Paranoid p = part 0 0
known_part N.Known p = p

abbrev pub user_part : User → Part → Part
user_part U.NotFetched p = part 0 0
user_part U.Unknown p = part 0 0
user_part U.Known p = p

unfoldable pub named_at : States → Fields → Places
named_at x f = record {
  daemon = f.daemon;
  client = x.client;
  client_name = known_part x.client.name f.client.name;
  server = x.server;
  server_name = known_part x.server.name f.server.name;
  user = x.user;
  user_name = user_part x.user f.user_name;
}

-- the answer of a search, and that to a request that does not fit
abbrev pub found_numbers : Searched → GateAnswer
found_numbers x = verdict_numbers (refusing_request true x.answer x.looked)

abbrev pub unfit_numbers : GateAnswer
unfit_numbers = verdict_numbers (refused_report (placeless F.BadRequest))

unfoldable pub all_answers : List ℕ → Option (List RequestNumbers) → List ℕ
all_answers sheet None = []
all_answers sheet (Some ns) = answers_to sheet ns

-- there are requests, and room for their answers
pub record Fitting (sheet : List ℕ) (o : Option (List RequestNumbers)) (room : ℕ) : Type 0 where
  pub asked : List RequestNumbers
  pub parts_asked : o ≡ Some asked
  pub room_asked : length (answers_to sheet asked) ≤ room
