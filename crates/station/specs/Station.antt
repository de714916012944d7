-- Document 01, "The station sheet" and the order of refusals: the decisions by a whole sheet.
--   decide_sheet, decide_byuid_sheet, decide_portacl_sheet == every check of the sheet, then the decision by its texts
--   looked_sheet sheet o == how many elements were looked at for decide_sheet
-- Assumes nothing: these are definitions.
use Rattle.std.specs.Prelude.{ℕ, ◌+◌, List, Err, Ok, Option}
use Rattle.section.specs.Refusal.{Outcome, ◌>>=◌}
use Rattle.section.specs.Section.{bytes_at, part}
use Rattle.elements.specs.Request.{Request}
use Rattle.rules.specs.declared.Answer.{Answer}
use Rattle.rules.specs.declared.File.{File}
use Rattle.rules.specs.declared.File.TheVariants.{Neither, Allow, Deny}
use Rattle.tables.specs.Table.{tables_of}
use Rattle.rules.specs.Search.{answer, decide_over}
use Rattle.rules.specs.Looked.{looked_over}
use Rattle.byuid.specs.declared.Decision.{Decision as ByuidDecision}
use Rattle.byuid.specs.declared.Mark.TheVariants.{Plain}
use Rattle.byuid.specs.Byuid.{Bind as ByuidBind, from_file, decide_byuid}
use Rattle.portacl.specs.declared.Decision.{Decision as PortaclDecision}
use Rattle.portacl.specs.declared.Settings.{Settings}
use Rattle.portacl.specs.Portacl.{Bind as PortaclBind, decide_portacl}
use Rattle.sheet.specs.declared.Parts.{Parts}
use Rattle.sheet.specs.Sheet.{unpack}

abbrev pub file_place : Parts → File → ℕ
file_place p Neither = 0
file_place p Allow = p.allow.place
file_place p Deny = p.deny.place

-- "The verdict hands back the raw command as a part of the allow file or of the deny file": as that part of the sheet, so
-- that its bytes are found by bytes_at
abbrev pub in_sheet : Parts → Answer → Answer
in_sheet p a = answer a.verdict a.file a.line (part (file_place p a.file + a.command.place) a.command.len)

unfoldable pub decide_sheet : List ℕ → Option Request → Outcome Answer
decide_sheet sheet o = do
  p ← unpack sheet
  a ← decide_over (tables_of (bytes_at sheet p.tables)) (bytes_at sheet p.allow) (bytes_at sheet p.deny) o
  Ok (in_sheet p a)

-- document 02, request 12: how many elements were looked at, "(0 at a refusal)"
abbrev pub looked_in : List ℕ → Option Request → Outcome Parts → ℕ
looked_in sheet o (Err f) = 0
looked_in sheet o (Ok p) = looked_over (tables_of (bytes_at sheet p.tables)) (bytes_at sheet p.allow) (bytes_at sheet p.deny) o

unfoldable pub looked_sheet : List ℕ → Option Request → ℕ
looked_sheet sheet o = looked_in sheet o (unpack sheet)

-- document 02, request 3: "The sheet's byuid section is the plain file."
unfoldable pub decide_byuid_sheet : List ℕ → Option ByuidBind → Outcome ByuidDecision
decide_byuid_sheet sheet o = do
  p ← unpack sheet
  decide_byuid (bytes_at sheet p.byuid) (from_file Plain o)

unfoldable pub decide_portacl_sheet : List ℕ → Settings → Option PortaclBind → Outcome PortaclDecision
decide_portacl_sheet sheet s o = do
  p ← unpack sheet
  decide_portacl (bytes_at sheet p.portacl) s o
