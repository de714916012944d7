-- What the inner contracts cite. Nothing here needs to be believed for the meaning of document 02, request 14: laws tie it to Matters.
--   Finder            == what a request's lists find: its daemon list, its client list for a user, and whether an element asks
--   list_told F ws     == what the client list ws tells
--   kind_told F l      == what the line l tells; one that is refused tells nothing
--   text_told .. t, settled_by F allow deny == the same of a text, and of both files
--   telling_of o       == what a text tells, as the code answers it
--   unfetched_at q     == the request q by its places, with its user not fetched
--   Unasked m allow deny r p == the place that r gets with its user not fetched
--   refused_by x       == the refusal of a request that does not fit
--   ended_by t         == what both files tell, where the second tells t and the first nothing
--   asked_half F e     == the half before the `@` of an element that asks, empty where there is none
--   was_tried s ps n h == h is empty, or equal to one of n halves of s whose places are noted in ps
-- Assumes nothing: these are definitions.
use Rattle.std.specs.Prelude.{ℕ, zero, suc, ◌+◌, ◌*◌, ◌/◌, ◌%◌, Bool, true, false, not, ◌&&◌, ◌||◌, List, [], ◌≡◌, eqb, ltb, length, get_or, set, Err, None, Ok, Option, Result, Some, unwrap_or}
use Rattle.text.specs.Basics.{when◌then◌else◌, ◌or_else◌, all, first}
use Rattle.text.specs.Text.{in_range, equal_fold}
use Rattle.section.specs.declared.Fault.TheVariants as F
use Rattle.section.specs.declared.Refusal.{Refusal}
use Rattle.section.specs.Refusal.{placeless}
use Rattle.section.specs.Section.{part, bytes_at}
use Rattle.lines.specs.Line.{Line, lines}
use Rattle.lines.specs.Rule.{Rule, parse_rule}
use Rattle.lines.specs.Parts.{words}
use Rattle.tables.specs.Table.{Matcher}
use Rattle.elements.specs.declared.User.{User}
use Rattle.elements.specs.declared.User.TheVariants as U
use Rattle.elements.specs.declared.Found.{Found}
use Rattle.elements.specs.declared.Found.TheVariants as Found
use Rattle.elements.specs.declared.request.Request.{Request as Places}
use Rattle.elements.specs.Request.{Request}
use Rattle.elements.specs.Places.{request_at}
use Rattle.elements.specs.Code.{View, view_of, with_user}
use Rattle.elements.specs.Element.{halves}
use Rattle.lists.specs.Walk.{included}
use Rattle.lists.specs.ListCode.{daemon_finds, client_finds}
use Rattle.rules.specs.declared.Verdict.{Verdict}
use Rattle.rules.specs.declared.Verdict.TheVariants.{Granted, Denied}
use Rattle.rules.specs.declared.File.{File}
use Rattle.rules.specs.declared.File.TheVariants.{Neither, Allow, Deny}
use Rattle.rules.specs.declared.Answer.{Answer}
use Rattle.rules.specs.declared.hosts_file.LineKind.{LineKind}
use Rattle.rules.specs.declared.hosts_file.LineKind.TheVariants as Kind
use Rattle.rules.specs.Search.{search}
use Rattle.rules.specs.FileCode.{line_kind}
use Rattle.matters.specs.declared.Place.{Place}
use Rattle.matters.specs.declared.Told.{Told}
use Rattle.matters.specs.declared.Told.TheVariants as Told
use Rattle.matters.specs.declared.Telling.{Telling}
use Rattle.matters.specs.declared.Telling.TheVariants as T
use Rattle.matters.specs.Matters.{place, place_of, same_found, fresh_name, half_holds, told_by, told_at}
use Rattle.section.specs.declared.Refusal.{Refusal}
use Rattle.rules.specs.declared.Answer.{Answer}

pub record Finder : Type 0 where
  pub daemons : List (List ℕ) → Found
  pub clients : User → List ℕ → List (List ℕ) → Found
  pub asks : List ℕ → Bool

abbrev pub finder_by : View → Request → Finder
finder_by v r = record {
  daemons = included (daemon_finds v r.daemon r.server);
  clients = λ u t ws. included (client_finds v r.client u t) ws;
  asks = λ e. same_found Found.Ask (client_finds v r.client U.NotFetched [] e);
}

abbrev pub finder_at : List ℕ → List ℕ → List ℕ → Places → Finder
finder_at tables notes names q = finder_by (view_of tables notes) (request_at names q)

-- ## A client list

-- a name of 1 to 64 bytes finds f
unfoldable pub name_agrees : Finder → List (List ℕ) → Found → List ℕ → Bool
name_agrees F ws f t = not (in_range 1 64 (length t)) || same_found f (F.clients U.Known t ws)

-- the half of an element that asks finds f
unfoldable pub half_agrees : Finder → List (List ℕ) → Found → List ℕ → Bool
half_agrees F ws f e = not (F.asks e) || half_holds (name_agrees F ws f) (halves e)

unfoldable pub asked_list : Finder → List (List ℕ) → Found → Told
asked_list F ws f = told_by (name_agrees F ws f fresh_name && all (half_agrees F ws f) ws) f

abbrev pub list_told_on : Finder → List (List ℕ) → Found → Told
list_told_on F ws Found.No = Told.Passes
list_told_on F ws Found.Yes = Told.Decides
list_told_on F ws Found.Ask = asked_list F ws (F.clients U.Unknown [] ws)

unfoldable pub list_told : Finder → List (List ℕ) → Told
list_told F ws = list_told_on F ws (F.clients U.NotFetched [] ws)

-- ## Halves that were tried

abbrev pub half_of : Option (List ℕ × List ℕ) → List ℕ
half_of None = []
half_of (Some p) = p.0

unfoldable pub asked_half : Finder → List ℕ → List ℕ
asked_half F e = when F.asks e then half_of (halves e) else []

-- the place of n bytes from i on as one number, where both are below 65,536; the bytes at such a place
abbrev pub place_number : ℕ → ℕ → ℕ
place_number i n = i * 65536 + n

unfoldable pub noted : List ℕ → ℕ → List ℕ
noted s p = bytes_at s (part (p / 65536) (p % 65536))

-- h is equal, but for case, to a half at one of the first n places
unfoldable pub noted_below : List ℕ → List ℕ → List ℕ → ℕ → Bool
noted_below s ps h zero = false
noted_below s ps h (suc n) = equal_fold (noted s (get_or ps n 0)) h || noted_below s ps h n

unfoldable pub was_tried : List ℕ → List ℕ → ℕ → List ℕ → Bool
was_tried s ps n h = eqb (length h) 0 || noted_below s ps h n

-- one place more, and how many are noted then; none where there is no room
abbrev pub noted_room : List ℕ → ℕ → ℕ → ℕ → Bool
noted_room ps n i m = ltb n (length ps) && ltb i 65536 && ltb m 65536

abbrev pub noted_places : List ℕ → ℕ → ℕ → ℕ → List ℕ
noted_places ps n i m = when noted_room ps n i m then set ps n (place_number i m) else ps

abbrev pub noted_count : List ℕ → ℕ → ℕ → ℕ → ℕ
noted_count ps n i m = when noted_room ps n i m then n + 1 else n

-- what the half h of s finds, which stands from i on, and the places noted then
unfoldable pub tried_by : Finder → Found → List ℕ → List ℕ → ℕ → ℕ → List ℕ → Option ℕ
tried_by F f s ps n i h =
    when was_tried s ps n h then Some n
    else when name_agrees F (words s) f h then Some (noted_count ps n i (length h)) else None

unfoldable pub places_by : Finder → Found → List ℕ → List ℕ → ℕ → ℕ → List ℕ → List ℕ
places_by F f s ps n i h = when not (was_tried s ps n h) && name_agrees F (words s) f h then noted_places ps n i (length h) else ps

-- ## A rule, a line, both files

-- d is what the daemon list finds
abbrev pub clients_told : Finder → Found → List (List ℕ) → Told
clients_told F Found.No ws = Told.Passes
clients_told F Found.Yes ws = list_told F ws
clients_told F Found.Ask ws = Told.Passes

abbrev pub parsed_by : Finder → Option Rule → Told
parsed_by F None = Told.Passes
parsed_by F (Some x) = clients_told F (F.daemons x.daemons) x.clients

abbrev pub kind_told_as : LineKind → Told → Told
kind_told_as (Kind.Faulty f) k = Told.Passes
kind_told_as Kind.Skipped k = Told.Passes
kind_told_as Kind.HasRule k = k

unfoldable pub kind_told : Finder → Line → Told
kind_told F l = kind_told_as (line_kind l) (parsed_by F (parse_rule l.raw))

unfoldable pub text_told_by : Verdict → File → Finder → List ℕ → Option (Option Place)
text_told_by v f F t = first (λ l. told_at v f l.number (kind_told F l)) (lines t)

unfoldable pub settled_by : Finder → List ℕ → List ℕ → Option Place
settled_by F allow deny = unwrap_or (text_told_by Granted Allow F allow or_else text_told_by Denied Deny F deny) (Some (place Granted Neither 0))

abbrev pub telling_of : Option (Option Place) → Telling
telling_of None = T.Nothing
telling_of (Some None) = T.Matters
telling_of (Some (Some p)) = T.Settled p

abbrev pub ended_by : Telling → Result (Option Place) Refusal
ended_by T.Nothing = Ok (Some (place Granted Neither 0))
ended_by (T.Settled p) = Ok (Some p)
ended_by T.Matters = Ok None

-- ## The calls

unfoldable pub unfetched_at : Places → Places
unfetched_at q = record {
  daemon = q.daemon;
  client = q.client;
  client_name = q.client_name;
  server = q.server;
  server_name = q.server_name;
  user = U.NotFetched;
  user_name = q.user_name;
}

abbrev pub unfetched : Request → Request
unfetched r = with_user r U.NotFetched r.user_name

unfoldable pub Unasked : Matcher → List ℕ → List ℕ → Request → Place → Type 0
Unasked m allow deny r p = place_of (search m allow deny (unfetched r)) ≡ p

abbrev pub refused_by : Result Answer Refusal → Result (Option Place) Refusal
refused_by (Err f) = Err f
refused_by (Ok a) = Err (placeless F.BadRequest)
