-- Document 01, "Elements", "Asking" and "The words of demand 3": what a request is; document 02, request 7: as what it is held.
--   user_case r ..     == a value for each state of a user
--   well_formed r      == every field is within its size
--   held r            == the request that a verdict and an expansion work on
-- Assumes nothing: these are definitions.
use Rattle.std.specs.Prelude.{ℕ, Bool, true, ◌&&◌, List, length}
use Rattle.text.specs.Text.{in_range}
use Rattle.address.specs.Mapped.{unmapped}
use Rattle.patterns.specs.declared.Host.{Host}
use Rattle.patterns.specs.Host.{Endpoint, endpoint, name_case}
use Rattle.elements.specs.declared.User.{User}
use Rattle.elements.specs.declared.User.TheVariants as U

-- "A request for a verdict is daemon, client host, server host and user", the bytes of a known user beside it
pub record Request : Type 0 where
  pub daemon : List ℕ
  pub client : Endpoint
  pub server : Endpoint
  pub user : User
  pub user_name : List ℕ

abbrev pub request_of : List ℕ → Endpoint → Endpoint → User → List ℕ → Request
request_of d c s u name = record { daemon = d; client = c; server = s; user = u; user_name = name }

abbrev pub user_case {ℓ} : {B : Type ℓ} → Request → B → B → B → B
user_case r notFetched unknown known = elim r.user [ U.NotFetched ↦ notFetched | U.Unknown ↦ unknown | U.Known ↦ known ]

-- 13: "a request field outside its size or its kinds": "`%d` daemon (1 to 64 bytes)", a known name "(1 to 255 bytes,
-- any values)", a known user "(1 to 64 bytes, any values)"
unfoldable pub well_formed : Request → Bool
well_formed r =
    in_range 1 64 (length r.daemon) && name_fits r.client && name_fits r.server
    && user_case r true true (in_range 1 64 (length r.user_name))
  where
    name_fits : Endpoint → Bool
    name_fits h = name_case h true true (in_range 1 255 (length h.name))

-- Document 02, request 7: "Client and server addresses in a request are to be held as IPv4 when .."
abbrev pub held_host : Host → Host
held_host h = record { name = h.name; addr = unmapped h.addr }

abbrev pub held : Request → Request
held r =
    request_of r.daemon (endpoint (held_host r.client.host) r.client.name) (endpoint (held_host r.server.host) r.server.name)
    r.user r.user_name
