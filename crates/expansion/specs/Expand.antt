-- Document 01, "Expansion".
--   expansion r p c    == what the command c writes for the request r and the process number p
--   uses_user c         == c uses %u or %c
--   expand c o p room  == the call: every check, then the expansion for the request in o, into room bytes
-- Assumes nothing: these are definitions.
use Rattle.std.specs.Prelude.{ℕ, Bool, ◌||◌, eqb, Option, unwrap_or}
use Prim.Native.Char.{Char, code}
use mathlib.Core.List.{List, [], ◌∷◌, ◌++◌, map, flat_map}
use Rattle.text.specs.Basics.{when◌then◌else◌, given, any, first}
use Rattle.text.specs.Text.{bytes, among, is_digit, is_letter}
use Rattle.text.specs.Number.{decimal}
use Rattle.section.specs.declared.Fault.TheVariants as F
use Rattle.section.specs.Refusal.{Outcome, lowest, at_place, ◌before◌, fitting, within_room}
use Rattle.address.specs.Address.{addr_text}
use Rattle.lines.specs.Line.{join, has_bad_byte, is_too_long}
use Rattle.lines.specs.Command.{Piece, literal, directive, pieces, is_directive, trimmed, has_bad_percent}
use Rattle.patterns.specs.Host.{Endpoint, name_case, name_known, addr_known}
use Rattle.elements.specs.Request.{Request, user_case, well_formed, held}

-- "`%n %N` name, or `unknown`, or `paranoid`; `%h %H` the known name, else the address"
abbrev pub name_text : Endpoint → List ℕ
name_text h = name_case h (bytes "unknown") (bytes "paranoid") h.name

abbrev pub host_text : Endpoint → List ℕ
host_text h = when name_known h then h.name else addr_text h.host.addr

-- what the byte y after a `%` stands for: the eleven letters and `%%`
unfoldable pub inserted : Request → ℕ → ℕ → List ℕ
inserted r process y = unwrap_or (first listed
    (("a", addr_text r.client.host.addr) ∷ ("A", addr_text r.server.host.addr)
    ∷ ("n", name_text r.client) ∷ ("N", name_text r.server)
    ∷ ("h", host_text r.client) ∷ ("H", host_text r.server)
    ∷ ("u", user_case r (bytes "unknown") (bytes "unknown") r.user_name)
    ∷ ("c", user_case r [] [] (r.user_name ++ bytes "@") ++ host_text r.client)
    ∷ ("d", r.daemon)
    ∷ ("s", r.daemon ++ (when name_known r.server || addr_known r.server then bytes "@" ++ host_text r.server else []))
    ∷ ("p", decimal process)
    ∷ ("%", bytes "%") ∷ [])) []
  where
    listed : Char × List ℕ → Option (List ℕ)
    listed e = given (eqb y (code e.0)) e.1

-- "Every inserted byte outside letters, digits and `@%-_=+:,./` becomes `_` (house set)."
unfoldable pub safe_byte : ℕ → ℕ
safe_byte b = when is_letter b || is_digit b || among "@%-_=+:,./" b then b else code "_"

-- "Nothing inserted is expanded again."
unfoldable pub piece_text : Request → ℕ → Piece → List ℕ
piece_text r process (literal x) = x ∷ []
piece_text r process (directive y) = map safe_byte (inserted r process y)

unfoldable pub expansion : Request → ℕ → List ℕ → List ℕ
expansion r process command = flat_map (piece_text r process) (pieces (trimmed command))

-- "it uses %u or %c when some `%` so takes `u` or `c`"
unfoldable pub uses_user : List ℕ → Bool
uses_user command = any (is_directive (among "uc")) (pieces (trimmed command))

-- "A command handed in directly is joined and trimmed too, and checked for 5, 6 and 11, section and line 0, then 13, then 14."
-- Document 02, request 7: "Every .. expansion makes this change first, whoever built the request"
unfoldable pub expand : List ℕ → Option Request → ℕ → ℕ → Outcome (List ℕ)
expand c o process room =
    at_place 0 0 (lowest ((F.BadByte, has_bad_byte (join c)) ∷ (F.LongLine, is_too_long (join c)) ∷ (F.BadPercent, has_bad_percent c) ∷ []))
    before fitting well_formed o (λ r. within_room room (expansion (held r) process c))
