-- Laws of requests as they are held, shaped as the calls of the code hand their facts over.
--   held_at_lem   == a request by its places is held as the request at them is
--   held_fits == a request is within its sizes exactly if it is so as it is held
-- Assumes nothing.
use Prim.Native.Nat.{ℕ}
use mathlib.Core.List.{List}
use mathlib.Core.Path.{◌≡◌, refl, ap}
use Rattle.address.specs.declared.Addr.{Addr}
use Rattle.address.specs.Mapped.{unmapped}
use Rattle.patterns.specs.declared.Host.{Host}
use Rattle.elements.specs.declared.request.Request.{Request as Places}
use Rattle.elements.specs.Request.{Request, well_formed, held_host, held}
use Rattle.elements.specs.Places.{request_at}
use Rattle.elements.specs.Code.{held_at}

pub host_held : (h : Host) (a : Addr) → a ≡ unmapped h.addr → record { name = h.name; addr = a } ≡ held_host h
host_held h a e = rw e

pub request_held : (q : Places) (c s : Host) → c ≡ held_host q.client → s ≡ held_host q.server
    → record {
      daemon = q.daemon;
      client = c;
      client_name = q.client_name;
      server = s;
      server_name = q.server_name;
      user = q.user;
      user_name = q.user_name;
    }
    ≡ held_at q
unfolding held_at
request_held q c s e f = rw (e, f)

pub held_at_lem : (names : List ℕ) (q h : Places) → h ≡ held_at q → request_at names h ≡ held (request_at names q)
unfolding held_at
held_at_lem names q h e = ap (request_at names) e

pub held_fits : (r : Request) → well_formed (held r) ≡ well_formed r
unfolding well_formed
held_fits r = refl
