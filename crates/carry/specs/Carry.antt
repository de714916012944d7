-- Document 02, request 13, "Port lists for the other system".
--   carried t uid p        == the list t has both a tcp and a udp entry for that uid and port
--   plain_text, marked_text  == the byuid lines for ports 1 to 511, and for 512 to 1023
--   carry t uid room other == the call: the plain text into room bytes, the marked one into other
-- Assumes nothing: these are definitions.
use Rattle.std.specs.Prelude.{ℕ, zero, suc, Bool, ◌&&◌, List, [], ◌++◌, eqb}
use Rattle.text.specs.Basics.{when◌then◌else◌, ◌or_else◌, given, holds, any}
use Rattle.text.specs.Text.{bytes}
use Rattle.text.specs.Number.{decimal}
use Rattle.section.specs.declared.Fault.TheVariants as F
use Rattle.section.specs.Refusal.{Outcome, ◌>>=◌, placeless, refusing, within_rooms}
use Rattle.section.specs.Section as S
use Rattle.section.specs.Section.{over_limit}
use Rattle.portacl.specs.declared.Protocol.{Protocol}
use Rattle.portacl.specs.declared.Protocol.TheVariants.{Tcp, Udp}
use Rattle.portacl.specs.Portacl.{bind, entries, portacl_fault}

-- an entry "for that uid"; "group entries are not" carried over
abbrev pub has_entry : List ℕ → ℕ → Protocol → ℕ → Bool
has_entry t uid protocol port = any (holds λ grants. grants (bind uid [] protocol port)) (entries t)

-- "A port is carried over only if the list has both a tcp and a udp entry for that uid"
unfoldable pub carried : List ℕ → ℕ → ℕ → Bool
carried t uid p = has_entry t uid Tcp p && has_entry t uid Udp p

-- "as `0.0.0.0/0,p` then `::/0,p`, each with its newline"
abbrev pub port_lines : ℕ → List ℕ
port_lines p = bytes "0.0.0.0/0," ++ decimal p ++ bytes "\n" ++ bytes "::/0," ++ decimal p ++ bytes "\n"

-- of k ports from p on those of which f holds: "ascending, each port once"
unfoldable pub span_lines : (ℕ → Bool) → ℕ → ℕ → List ℕ
span_lines f zero p = []
span_lines f (suc k) p = (when f p then port_lines p else []) ++ span_lines f k (suc p)

-- "Ports 1 to 511 go to the plain text and 512 to 1023 to the marked one"
abbrev pub plain_text : (ℕ → Bool) → List ℕ
plain_text f = span_lines f 511 1

abbrev pub marked_text : (ℕ → Bool) → List ℕ
marked_text f = span_lines f 512 512

-- "Refusals: 2 and 12 for the list, then 13 for uid 0, then 14": "Root is never ruled by byuid, so uid 0 is turned away."
unfoldable pub carry : List ℕ → ℕ → ℕ → ℕ → Outcome (List ℕ × List ℕ)
carry t uid room other =
    refusing (over_limit S.portacl t or_else portacl_fault t or_else given (eqb uid 0) (placeless F.BadRequest))
    (plain_text (carried t uid), marked_text (carried t uid))
    >>= within_rooms room other
