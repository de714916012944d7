-- What the code computes on the way. Nothing here needs to be believed for the decision: decide is promised over Portacl alone, and the
-- other contracts cite these definitions.
--   entry_data e      == the entry that e writes, as a value, none where it is not of its form
--   grants_to x b     == the entry x grants the bind b
--   entries_data t    == the entries of t
--   walk b n g es    == the number of the first bad entry of es, numbered from n; else whether g, or an entry grants b
--   decision_of ..    == the decision, where it is known whether an entry grants
--   fault_in n es     == the refusal of the first bad entry of es, numbered from n
--   notes u p es m   == the bytes m, 1 at each port that an entry of es, up to the first bad one, grants the user id u over the protocol p
-- Assumes nothing: these are definitions.
use Rattle.std.specs.Prelude.{ℕ, ◌+◌, Bool, true, false, not, ◌&&◌, ◌||◌, List, [], ◌∷◌, map, length, set, ltb, eqb, Err, None, Ok, Option, Result, Some}
use Rattle.text.specs.Basics.{when◌then◌else◌, ◌>>=◌, is_empty, any}
use Rattle.text.specs.Text.{bytes, equal, split_once, split}
use Rattle.text.specs.Number.{read_decimal}
use Rattle.section.specs.declared.Fault.TheVariants as F
use Rattle.section.specs.declared.Refusal.{Refusal}
use Rattle.section.specs.Refusal.{refusal}
use Rattle.section.specs.Section as S
use Rattle.portacl.specs.declared.Decision.{Decision}
use Rattle.portacl.specs.declared.Decision.TheVariants.{NotRuled, Exempt, Granted, Denied}
use Rattle.portacl.specs.declared.Entry.{Entry}
use Rattle.portacl.specs.declared.Protocol.{Protocol}
use Rattle.portacl.specs.declared.Protocol.TheVariants.{Tcp, Udp}
use Rattle.portacl.specs.declared.Settings.{Settings}
use Rattle.portacl.specs.Portacl.{Bind, read_word, protocol_word}

-- the paper's words; no promise cites them
abbrev pub decision_word : Decision → List ℕ
decision_word NotRuled = bytes "not ruled"
decision_word Exempt = bytes "exempt"
decision_word Granted = bytes "granted"
decision_word Denied = bytes "denied"

-- ## An entry

abbrev pub entry : Bool → ℕ → Protocol → ℕ → Entry
entry group id protocol port = record { group = group; id = id; protocol = protocol; port = port }

-- an entry from its port on, from its protocol on, and from its id on
unfoldable pub port_data : Bool → ℕ → Protocol → List ℕ → Option Entry
port_data group id protocol t = do
  port ← read_decimal 65535 t
  Some (entry group id protocol port)

unfoldable pub protocol_data : Bool → ℕ → List ℕ → Option Entry
protocol_data group id t = do
  d ← split_once (bytes ":") t
  protocol ← read_word d.0 ("tcp", Tcp) ("udp", Udp)
  port_data group id protocol d.1

unfoldable pub id_data : Bool → List ℕ → Option Entry
id_data group t = do
  c ← split_once (bytes ":") t
  id ← read_decimal 4294967295 c.0
  protocol_data group id c.1

unfoldable pub entry_data : List ℕ → Option Entry
entry_data e = do
  a ← split_once (bytes ":") e
  group ← read_word a.0 ("uid", false) ("gid", true)
  id_data group a.1

unfoldable pub grants_to : Entry → Bind → Bool
grants_to x b = equal (protocol_word x.protocol) (protocol_word b.protocol) && eqb x.port b.port && any (eqb x.id)
    (when x.group then b.groups else b.uid ∷ [])

-- ## The entries

unfoldable pub entries_data : List ℕ → List (Option Entry)
entries_data t = when is_empty t then [] else map entry_data (split "," t)

unfoldable pub walk : Bind → ℕ → Bool → List (Option Entry) → Result Bool ℕ
walk b n g [] = Ok g
walk b n g (None ∷ es) = Err n
walk b n g (Some x ∷ es) = walk b (n + 1) (g || grants_to x b) es

unfoldable pub decision_of : Settings → ℕ → ℕ → Bool → Decision
decision_of s uid port granted =
    when eqb s.enabled 0 then NotRuled
    else when not (eqb s.autoport_exempt 0) && eqb port 0 then Exempt
    else when ltb s.port_high port then NotRuled
    else when not (eqb s.suser_exempt 0) && eqb uid 0 then Exempt
    else when granted then Granted
    else Denied

-- ## Ports noted

unfoldable pub fault_in : ℕ → List (Option Entry) → Option Refusal
fault_in n [] = None
fault_in n (None ∷ es) = Some (refusal F.BadEntry (S.portacl).order n)
fault_in n (Some x ∷ es) = fault_in (n + 1) es

-- the entry is the user id's own, over the protocol
abbrev pub is_for : ℕ → Protocol → Entry → Bool
is_for uid protocol x = equal (protocol_word x.protocol) (protocol_word protocol) && not x.group && eqb x.id uid

unfoldable pub noted : ℕ → Protocol → Entry → List ℕ → List ℕ
noted uid protocol x m = when is_for uid protocol x && ltb x.port (length m) then set m x.port 1 else m

unfoldable pub notes : ℕ → Protocol → List (Option Entry) → List ℕ → List ℕ
notes uid protocol [] m = m
notes uid protocol (None ∷ es) m = m
notes uid protocol (Some x ∷ es) m = notes uid protocol es (noted uid protocol x m)
