-- A request as the code hands it on: its names are places in one block of bytes.
--   request_at names q == the request whose names stand in the block at the places of q
-- Assumes nothing: these are definitions.
use Rattle.std.specs.Prelude.{ℕ, List}
use Rattle.section.specs.Section.{bytes_at}
use Rattle.patterns.specs.Host.{endpoint}
use Rattle.elements.specs.declared.request.Request.{Request as Places}
use Rattle.elements.specs.Request.{Request, request_of}

abbrev pub request_at : List ℕ → Places → Request
request_at names q =
    request_of (bytes_at names q.daemon) (endpoint q.client (bytes_at names q.client_name))
    (endpoint q.server (bytes_at names q.server_name)) q.user (bytes_at names q.user_name)
