-- What the contracts of inner functions cite: what was read, and rulings, as the code answers them. Nothing here needs to be believed:
-- laws tie each to Requests or Answers.
--   name_by, user_by, addr_by, protocol_by, mark_by == what is taken for a number; outside its kinds any does, as the request is refused
--   states_of, target_of == what was read of a request, and of a bind
--   with_names x ..     == the request of the states x, the names that are not known left out
--   placed .., unfit   == the places of four names one after the other; a request that is refused by 13
--   port_by, address_by, address_from, bind_by == a bind with what is taken for its numbers, and one that is refused by 13
-- Assumes nothing: these are definitions.
use Rattle.std.specs.Prelude.{ℕ, ◌+◌, Bool, ◌&&◌, List, [], replicate, Err, None, Ok, Option, Result, Some, unwrap_or}
use Rattle.text.specs.Basics.{when◌then◌else◌, is_some}
use Rattle.section.specs.declared.Refusal.{Refusal}
use Rattle.section.specs.Section.{part}
use Rattle.address.specs.declared.Addr.{Addr}
use Rattle.address.specs.declared.Addr.TheVariants as A
use Rattle.patterns.specs.declared.Name.{Name}
use Rattle.patterns.specs.declared.Name.TheVariants as N
use Rattle.patterns.specs.declared.Host.{Host}
use Rattle.patterns.specs.Host.{endpoint}
use Rattle.elements.specs.declared.User.{User}
use Rattle.elements.specs.declared.User.TheVariants as U
use Rattle.elements.specs.declared.request.Request.{Request as Places}
use Rattle.elements.specs.Request.{Request, request_of}
use Rattle.portacl.specs.declared.Decision.{Decision as PortaclDecision}
use Rattle.portacl.specs.declared.Protocol.{Protocol}
use Rattle.portacl.specs.declared.Protocol.TheVariants.{Tcp}
use Rattle.portacl.specs.Portacl.{Bind, bind}
use Rattle.codes.specs.declared.request.HostNumbers.{HostNumbers}
use Rattle.byuid.specs.declared.Decision.{Decision as ByuidDecision}
use Rattle.byuid.specs.declared.Mark.{Mark}
use Rattle.byuid.specs.declared.Mark.TheVariants.{Plain}
use Rattle.authbind.specs.declared.Next.{Next}
use Rattle.authbind.specs.declared.Next.TheVariants as Step
use Rattle.rules.specs.declared.Answer.{Answer}
use Rattle.rules.specs.declared.Reported.{Reported}
use Rattle.sheet.specs.declared.Parts.{Parts}
use Rattle.matters.specs.declared.Place.{Place}
use Rattle.codes.specs.declared.GateAnswer.{GateAnswer}
use Rattle.codes.specs.declared.GateCheck.{GateCheck}
use Rattle.codes.specs.declared.GateCommand.{GateCommand}
use Rattle.codes.specs.declared.GateNext.{GateNext}
use Rattle.codes.specs.declared.GateWrittenTwo.{GateWrittenTwo}
use Rattle.codes.specs.declared.GateParts.{GateParts}
use Rattle.codes.specs.declared.GateWritten.{GateWritten}
use Rattle.codes.specs.declared.GateAddress.{GateAddress}
use Rattle.codes.specs.declared.request.States.{States}
use Rattle.codes.specs.declared.request.Target.{Target}
use Rattle.codes.specs.Answers.{byuid_word, portacl_word, refusal_answer, word_answer, answer_numbers, refused_check, accepted, refused_parts, found_parts, refused_written, count_written}
use Rattle.codes.specs.Answers.{name_matters, place_numbers, refused_two, count_two, with_count, refused_next, next_with, granted, denied, not_ruled, test, read, refused_address, address_numbers}
use Rattle.codes.specs.Requests.{name_state, user_state, address_of, protocol_of, mark_of, is_port, RequestNumbers, known_name, known_user}
use Rattle.section.specs.declared.Refusal.{Refusal}
use Rattle.sheet.specs.declared.Parts.{Parts}
use Rattle.matters.specs.declared.Place.{Place}

-- ## Requests

abbrev pub name_by : ℕ → Name
name_by n = unwrap_or (name_state n) N.Unknown

abbrev pub user_by : ℕ → User
user_by n = unwrap_or (user_state n) U.Unknown

abbrev pub addr_by : ℕ → ℕ → ℕ → Addr
addr_by kind high low = unwrap_or (address_of kind high low) A.Unknown

abbrev pub host_fits : HostNumbers → Bool
host_fits h = is_some (name_state h.state) && is_some (address_of h.kind h.high h.low)

abbrev pub host_taken : HostNumbers → Host
host_taken h = record { name = name_by h.state; addr = addr_by h.kind h.high h.low }

-- every number is of its kinds
unfoldable pub numbers_fit : HostNumbers → HostNumbers → ℕ → Bool
numbers_fit client server user = host_fits client && host_fits server && is_some (user_state user)

abbrev pub states_of : HostNumbers → HostNumbers → ℕ → States
states_of client server user = record { fit = numbers_fit client server user; client = host_taken client; server = host_taken server; user = user_by user }

-- a request of these states, the names that are not known left out
abbrev pub with_names : States → List ℕ → List ℕ → List ℕ → List ℕ → Request
with_names x daemon client_name server_name user_name =
    request_of daemon (endpoint x.client (known_name x.client.name client_name)) (endpoint x.server (known_name x.server.name server_name))
    x.user (known_user x.user user_name)

-- four names of these lengths, one after the other
abbrev pub placed : ℕ → Host → ℕ → Host → ℕ → User → ℕ → Places
placed d client c server s user u = record {
  daemon = part 0 d;
  client = client;
  client_name = part d c;
  server = server;
  server_name = part (d + c) s;
  user = user;
  user_name = part (d + c + s) u;
}

-- it has no daemon: "`%d` daemon (1 to 64 bytes)"
abbrev pub nobody : Host
nobody = record { name = N.Unknown; addr = A.Unknown }

abbrev pub unfit : Places
unfit = placed 0 nobody 0 nobody 0 U.Unknown 0

-- ## Binds

abbrev pub protocol_by : ℕ → Protocol
protocol_by n = unwrap_or (protocol_of n) Tcp

abbrev pub mark_by : ℕ → Mark
mark_by n = unwrap_or (mark_of n) Plain

unfoldable pub port_by : ℕ → ℕ
port_by port = when is_port port then port else 0

-- with a port over 16 bits, or an address outside its kinds, an unknown address: "an unknown one is 13"
unfoldable pub address_by : ℕ → ℕ → ℕ → ℕ → Addr
address_by port kind high low = when is_port port then addr_by kind high low else A.Unknown

-- the same with a mark outside its kinds
unfoldable pub address_from : ℕ → ℕ → ℕ → ℕ → ℕ → Addr
address_from mark port kind high low = when is_some (mark_of mark) then address_by port kind high low else A.Unknown

abbrev pub target_of : ℕ → ℕ → Target
target_of protocol port = record { fit = is_some (protocol_of protocol) && is_port port; protocol = protocol_by protocol; port = port_by port }

-- with a port or protocol outside its kinds 17 group ids: "at most 16 group ids", else 13
abbrev pub bind_by : Target → ℕ → List ℕ → Bind
bind_by x uid groups = bind uid (when x.fit then groups else replicate 17 0) x.protocol x.port

-- ## Answers

unfoldable pub byuid_numbers : Result ByuidDecision Refusal → GateAnswer
byuid_numbers (Err r) = refusal_answer r
byuid_numbers (Ok d) = word_answer (byuid_word d).number

unfoldable pub portacl_numbers : Result PortaclDecision Refusal → GateAnswer
portacl_numbers (Err r) = refusal_answer r
portacl_numbers (Ok d) = word_answer (portacl_word d).number

abbrev pub ruling_numbers : Result Answer Refusal → ℕ → GateAnswer
ruling_numbers (Err r) n = refusal_answer r
ruling_numbers (Ok a) n = answer_numbers a n

unfoldable pub verdict_numbers : Reported → GateAnswer
verdict_numbers x = ruling_numbers x.ruling x.looked

unfoldable pub matter_numbers : Result (Option Place) Refusal → GateAnswer
matter_numbers (Err r) = refusal_answer r
matter_numbers (Ok None) = word_answer name_matters.number
matter_numbers (Ok (Some p)) = place_numbers p

unfoldable pub check_numbers : Result Parts Refusal → GateCheck
check_numbers (Err r) = refused_check r
check_numbers (Ok p) = accepted

unfoldable pub parts_numbers : Result Parts Refusal → GateParts
parts_numbers (Err r) = refused_parts r
parts_numbers (Ok p) = found_parts p

unfoldable pub written_numbers : Result ℕ Refusal → GateWritten
written_numbers (Err r) = refused_written r
written_numbers (Ok n) = count_written n

unfoldable pub command_written : Answer → ℕ → Result ℕ Refusal → GateCommand
command_written a k (Err r) = with_count (refusal_answer r) 0
command_written a k (Ok n) = with_count (answer_numbers a k) n

unfoldable pub written_two_numbers : Result (ℕ × ℕ) Refusal → GateWrittenTwo
written_two_numbers (Err r) = refused_two r
written_two_numbers (Ok p) = count_two p.0 p.1

unfoldable pub next_numbers : Next → GateNext
next_numbers (Step.Refused r) = refused_next r
next_numbers Step.Granted = next_with granted.number 0
next_numbers Step.Denied = next_with denied.number 0
next_numbers Step.NotRuled = next_with not_ruled.number 0
next_numbers (Step.Test n) = next_with test.number n
next_numbers (Step.Read n) = next_with read.number n

unfoldable pub read_numbers : Result Addr Refusal → GateAddress
read_numbers (Err r) = refused_address r
read_numbers (Ok a) = address_numbers a
