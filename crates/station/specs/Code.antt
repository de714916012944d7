-- What the contracts of inner functions cite. Nothing here needs to be believed for the meaning of the papers.
--   refused_by o == the refusal of a sheet that is unpacked as o
--   framed_fault allow deny byuid portacl t == the refusal of texts that are within their limits, from the frame of the tables on
--   without_list ts == the texts with an empty portacl text
-- Assumes nothing: these are definitions.
use Rattle.std.specs.Prelude.{ℕ, List, [], Err, Ok, Option}
use Rattle.text.specs.Basics.{◌or_else◌}
use Rattle.section.specs.declared.Fault.TheVariants as F
use Rattle.section.specs.declared.Refusal.{Refusal}
use Rattle.section.specs.Refusal.{Outcome, placeless}
use Rattle.tables.specs.Table.{tables_frame}
use Rattle.rules.specs.declared.Reported.{Reported}
use Rattle.rules.specs.FileCode.{refused_report}
use Rattle.sheet.specs.declared.Parts.{Parts}
use Rattle.sheet.specs.Code.{contents_fault}
use Rattle.sheet.specs.Sheet.{Texts, texts}

unfoldable pub framed_fault : List ℕ → List ℕ → List ℕ → List ℕ → List ℕ → Option Refusal
framed_fault allow deny byuid portacl t = tables_frame t or_else contents_fault allow deny byuid portacl t

abbrev pub refused_by : Outcome Parts → Reported
refused_by (Err g) = refused_report g
refused_by (Ok p) = refused_report (placeless F.BadRequest)

abbrev pub without_list : Texts → Texts
without_list ts = texts ts.allow ts.deny ts.byuid [] ts.tables
