-- Document 01, "Table of proved examples": "These eleven stand as one table under one claim."
-- Assumes nothing: these are statements.
use Rattle.std.specs.Prelude.{ℕ, Bool, true, false, List, [], ◌∷◌, ◌≡◌, replicate, Err, Ok, Some}
use Prim.Native.String.{String}
use Rattle.text.specs.Text.{bytes}
use Rattle.section.specs.declared.Fault.TheVariants as F
use Rattle.section.specs.Refusal.{◌>>=◌, refusal, placeless}
use Rattle.section.specs.Section.{part}
use Rattle.address.specs.declared.Addr.{Addr}
use Rattle.address.specs.declared.Addr.TheVariants.{Unknown, V4, V6}
use Rattle.address.specs.Address.{read_address, write_address}
use Rattle.lines.specs.Rule.{elements}
use Rattle.elements.specs.declared.Found.{Found}
use Rattle.elements.specs.declared.Found.TheVariants.{No, Yes}
use Rattle.patterns.specs.declared.Name.TheVariants as N
use Rattle.elements.specs.declared.User.TheVariants as U
use Rattle.patterns.specs.Host.{Endpoint}
use Rattle.elements.specs.Request.{Request, well_formed}
use Rattle.elements.specs.Element.{client_element, look_at}
use Rattle.lists.specs.Walk.{included}
use Rattle.rules.specs.declared.Verdict.TheVariants.{Granted, Denied}
use Rattle.rules.specs.declared.File.TheVariants.{Neither, Deny}
use Rattle.rules.specs.Search.{answer, decide}
use Rattle.expansion.specs.Expand.{expand}
use Rattle.byuid.specs.declared.Decision.TheVariants as B
use Rattle.byuid.specs.declared.Mark.TheVariants.{Plain}
use Rattle.byuid.specs.Byuid.{bind, file_bind, decide_byuid}
use Rattle.portacl.specs.declared.Decision.TheVariants as P
use Rattle.portacl.specs.declared.Protocol.TheVariants.{Tcp, Udp}
use Rattle.portacl.specs.declared.Settings.{Settings}
use Rattle.portacl.specs.Portacl.{Bind, decide_portacl}
use Rattle.sheet.specs.Sheet.{unpack}

-- a request by a client, and to a server, of one known name and address, with a known user
abbrev pub request_by : String → Addr → String → Request
request_by name addr user =
    let host : Endpoint = record { host = record { name = N.Known; addr = addr }; name = bytes name } in
    record { daemon = bytes "sshd"; client = host; server = host; user = U.Known; user_name = bytes user }

-- what a client list finds of a client with that name and address
abbrev pub list_finds : String → String → Addr → Found
list_finds list name addr = included (λ e. look_at (request_by name addr "fitter") (client_element (λ n h. false) e)) (elements (bytes list))

-- the settings of mac_portacl(4) as it starts
abbrev pub settings : Settings
settings = record { enabled = 1; port_high = 1023; suser_exempt = 1; autoport_exempt = 1 }

abbrev pub udp80 : Bind
udp80 = record { uid = 80; groups = []; protocol = Udp; port = 80 }

pub record Examples : Type 0 where
  pub p1 : (r : Request) → well_formed r ≡ true → decide [] [] (Some r) ≡ Ok (answer Granted Neither 0 (part 0 0))
  pub p2 : (r : Request) → well_formed r ≡ true → decide [] (bytes "ALL: ALL\n") (Some r) ≡ Ok (answer Denied Deny 1 (part 8 0))
  pub p3_yes : list_finds "ALL EXCEPT .x.example EXCEPT p.x.example" "p.x.example" Unknown ≡ Yes
  pub p3_no : list_finds "ALL EXCEPT .x.example EXCEPT p.x.example" "q.x.example" Unknown ≡ No
  pub p4_yes : list_finds "131.155.72.0/255.255.254.0" "x" (V4 0x839b49ff) ≡ Yes
  pub p4_no : list_finds "131.155.72.0/255.255.254.0" "x" (V4 0x839b4a00) ≡ No
  pub p5_yes : list_finds "[3ffe:505:2:1::]/64" "x" (V6 0x3ffe050500020001 9) ≡ Yes
  pub p5_no : list_finds "[3ffe:505:2:1::]/64" "x" (V6 0x3ffe050500020002 0) ≡ No
  pub p6_yes : list_finds ".tue.nl" "wzv.win.tue.nl" Unknown ≡ Yes
  pub p6_no : list_finds ".tue.nl" "tue.nl" Unknown ≡ No
  pub p7_no : decide_byuid (bytes "10.0.0.1/8,80") (Some (file_bind Plain (bind 80 (V4 0x0aff0001) 432))) ≡ Ok B.NoLine
  pub p7_yes : decide_byuid (bytes "10.0.0.0/8,80") (Some (file_bind Plain (bind 80 (V4 0x0aff0001) 432))) ≡ Ok B.Granted
  pub p8 : decide_portacl (bytes "uid:80:tcp:80") settings (Some udp80) ≡ Ok P.Denied
  pub p9 : expand (bytes "/bin/log %u") (Some (request_by "x" Unknown "a;b")) 1 99 ≡ Ok (bytes "/bin/log a_b")
  pub p10 : (read_address (bytes "2620:106:e002:f00f:0:0:0:21") >>= λ a. write_address a 99) ≡ Ok (bytes "2620:106:e002:f00f::21")
  -- document 02, request 1: "P11 reads 18, 17 and 19"
  pub p11_accepted : unpack (replicate 18 0)
      ≡ Ok (record { allow = part 4 0; deny = part 8 0; byuid = part 12 0; portacl = part 16 0; tables = part 16 2 })
  pub p11_short : unpack (replicate 17 0) ≡ Err (refusal F.CutShort 5 0)
  pub p11_long : unpack (replicate 19 0) ≡ Err (placeless F.TrailingBytes)
