-- What the contracts inside the crate are written in. Nothing here needs to be believed for the meaning of document 01: the call is stated
-- over Expand alone, and laws tie each of these to it.
--   Texts              == the texts that directives insert, and whether the user and the server are known
--   inserted_by x y     == what the byte y after a `%` inserts: a name and an `@` before a text, or a text alone
--   expansion_by x t    == what the joined and trimmed command t writes
--   expand_trimmed t .. == the call for a command t that is joined and trimmed
-- Assumes nothing: these are definitions.
use Rattle.std.specs.Prelude.{ℕ, ◌-◌, ◌≤◌, Bool, true, false, not, ◌&&◌, ◌||◌, eqb, length, Some}
use mathlib.Core.List.{List, [], ◌∷◌, ◌++◌, map, flat_map}
use Rattle.text.specs.Basics.{when◌then◌else◌}
use Rattle.text.specs.Text.{bytes}
use Rattle.text.specs.Number.{decimal}
use Rattle.section.specs.declared.Fault.TheVariants as F
use Rattle.section.specs.Refusal.{Outcome, lowest, at_place, ◌before◌, fitting, within_room}
use Rattle.section.specs.Section.{part, bytes_at}
use Rattle.address.specs.Address.{addr_text}
use Rattle.lines.specs.Command.{Piece, literal, directive, pieces}
use Rattle.lines.specs.Parts.{any_bad_percent}
use Rattle.elements.specs.declared.User.{User}
use Rattle.elements.specs.declared.User.TheVariants as U
use Rattle.patterns.specs.Host.{Endpoint, name_case, name_known, addr_known}
use Rattle.elements.specs.Request.{Request, well_formed}
use Rattle.elements.specs.Places.{request_at}
use Rattle.elements.specs.declared.request.Request.{Request as Places}
use Rattle.expansion.specs.declared.directive.Given.{Given}
use Rattle.expansion.specs.Expand.{piece_text, safe_byte}

pub record Texts : Type 0 where
  pub client_address : List ℕ
  pub client_name : List ℕ
  pub client_host : List ℕ
  pub server_address : List ℕ
  pub server_name : List ℕ
  pub server_host : List ℕ
  pub user_known : Bool
  pub user : List ℕ
  pub server_known : Bool
  pub daemon : List ℕ
  pub process : List ℕ
  pub percent : List ℕ

abbrev pub texts : List ℕ → List ℕ → List ℕ → List ℕ → List ℕ → List ℕ → Bool → List ℕ → Bool → List ℕ → List ℕ → List ℕ → Texts
texts ca cn ch sa sn sh uk u sk d p m = record {
  client_address = ca;
  client_name = cn;
  client_host = ch;
  server_address = sa;
  server_name = sn;
  server_host = sh;
  user_known = uk;
  user = u;
  server_known = sk;
  daemon = d;
  process = p;
  percent = m;
}

-- a value for a user who is known, or not
abbrev pub user_state {ℓ} : {B : Type ℓ} → User → B → B → B
user_state u other known = elim u [ U.NotFetched ↦ other | U.Unknown ↦ other | U.Known ↦ known ]

-- a host's name by the words for its states, and the host by the text of its address
abbrev pub name_with : List ℕ → List ℕ → Endpoint → List ℕ
name_with unknown paranoid h = name_case h unknown paranoid h.name

abbrev pub host_with : Endpoint → List ℕ → List ℕ
host_with h address = when name_known h then h.name else address

-- the texts of a request, by the three words, and the texts of its addresses and of the process number
abbrev pub texts_with : List ℕ → List ℕ → List ℕ → Request → List ℕ → List ℕ → List ℕ → Texts
texts_with unknown paranoid percent r client server process =
    texts client (name_with unknown paranoid r.client) (host_with r.client client)
    server (name_with unknown paranoid r.server) (host_with r.server server)
    (user_state r.user false true) (user_state r.user unknown r.user_name)
    (name_known r.server || addr_known r.server) r.daemon process percent

abbrev pub texts_of : Request → ℕ → Texts
texts_of r process =
    texts_with (bytes "unknown") (bytes "paranoid") (bytes "%") r (addr_text r.client.host.addr) (addr_text r.server.host.addr) (decimal process)

-- those of a request that stands at places of two blocks; the second begins with the words
unfoldable pub texts_at : List ℕ → List ℕ → Given → Texts
texts_at names block g =
    texts_with (bytes_at block (part 0 7)) (bytes_at block (part 7 8)) (bytes_at block (part 15 1)) (request_at names g.request)
    (bytes_at block g.client) (bytes_at block g.server) (bytes_at block g.process)

-- the texts of the numbers stand one after the other, and end at a, b and n
abbrev pub given_at : Places → ℕ → ℕ → ℕ → Given
given_at q a b n = record { request = q; client = part 16 (a - 16); server = part a (b - a); process = part b (n - b) }

-- whether y inserts an `@`, and the name before it
abbrev pub has_at : Texts → ℕ → Bool
has_at x y = (eqb y 99 && x.user_known) || (eqb y 115 && x.server_known)

abbrev pub before_at : Texts → ℕ → List ℕ
before_at x y = when eqb y 99 then x.user else x.daemon

abbrev pub service_text : Texts → List ℕ
service_text x = when x.server_known then x.server_host else x.daemon

-- the text after it, or alone
unfoldable pub after_at : Texts → ℕ → List ℕ
after_at x y =
    when eqb y 97 then x.client_address
    else when eqb y 65 then x.server_address
    else when eqb y 110 then x.client_name
    else when eqb y 78 then x.server_name
    else when eqb y 104 || eqb y 99 then x.client_host
    else when eqb y 72 then x.server_host
    else when eqb y 117 then x.user
    else when eqb y 100 then x.daemon
    else when eqb y 115 then service_text x
    else when eqb y 112 then x.process
    else when eqb y 37 then x.percent
    else []

unfoldable pub inserted_by : Texts → ℕ → List ℕ
inserted_by x y = when has_at x y then before_at x y ++ (bytes "@" ++ after_at x y) else after_at x y

unfoldable pub piece_by : Texts → Piece → List ℕ
piece_by x (literal b) = b ∷ []
piece_by x (directive y) = map safe_byte (inserted_by x y)

unfoldable pub expansion_by : Texts → List ℕ → List ℕ
expansion_by x t = flat_map (piece_by x) (pieces t)

-- the sizes that keep the sum of all lengths within a number
pub record Short (x : Texts) : Type 0 where
  pub client_address : length x.client_address ≤ 39
  pub client_name : length x.client_name ≤ 255
  pub client_host : length x.client_host ≤ 255
  pub server_address : length x.server_address ≤ 39
  pub server_name : length x.server_name ≤ 255
  pub server_host : length x.server_host ≤ 255
  pub user : length x.user ≤ 64
  pub daemon : length x.daemon ≤ 64
  pub process : length x.process ≤ 10
  pub percent : length x.percent ≤ 1

unfoldable pub expand_trimmed : List ℕ → Request → ℕ → ℕ → Outcome (List ℕ)
expand_trimmed t r process room =
    at_place 0 0 (lowest ((F.BadPercent, any_bad_percent t) ∷ []))
    before fitting well_formed (Some r) (λ r. within_room room (flat_map (piece_text r process) (pieces t)))
