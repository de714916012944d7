-- What the contracts of inner functions cite. Nothing here needs to be believed for the meaning of documents 01
-- and 02.
--   checked_by p      == a pass that looks for nothing, as a check
--   limits_fault allow deny byuid portacl, contents_fault allow deny byuid portacl tables == texts_fault before, and after, the frame of the tables
--   section_of c      == the section of a cursor
--   from_deny sheet a, from_byuid sheet a d, from_portacl sheet a d b == what is left of frame, once the parts before are read
-- Assumes nothing: these are definitions.
use Rattle.std.specs.Prelude.{ℕ, List, Err, None, Ok, Option, Result, Some, ⊤}
use Rattle.text.specs.Basics.{◌or_else◌}
use Rattle.section.specs.declared.Cursor.{Cursor}
use Rattle.section.specs.declared.Part.{Part}
use Rattle.section.specs.declared.Refusal.{Refusal}
use Rattle.section.specs.Refusal.{Outcome, ◌>>=◌}
use Rattle.section.specs.Section as S
use Rattle.section.specs.Section.{Section, over_limit}
use Rattle.rules.specs.declared.Answer.{Answer}
use Rattle.rules.specs.Check.{tables_fault}
use Rattle.rules.specs.Code.{lines_fault}
use Rattle.byuid.specs.Byuid.{byuid_fault}
use Rattle.portacl.specs.Portacl.{portacl_fault}
use Rattle.sheet.specs.declared.Parts.{Parts}
use Rattle.sheet.specs.Sheet.{section_at, part_end, rest_after}
use Rattle.rules.specs.declared.Answer.{Answer}

-- ## Texts

abbrev pub checked_by : Result (Option Answer) Refusal → Result ⊤ Refusal
checked_by (Err r) = Err r
checked_by (Ok None) = Ok tt
checked_by (Ok (Some a)) = Ok tt

unfoldable pub limits_fault : List ℕ → List ℕ → List ℕ → List ℕ → Option Refusal
limits_fault allow deny byuid portacl =
    over_limit S.allow allow or_else over_limit S.deny deny or_else over_limit S.byuid byuid or_else over_limit S.portacl portacl

unfoldable pub contents_fault : List ℕ → List ℕ → List ℕ → List ℕ → List ℕ → Option Refusal
contents_fault allow deny byuid portacl tables =
    lines_fault allow deny or_else portacl_fault portacl or_else tables_fault allow deny tables or_else byuid_fault byuid

-- ## The frame

abbrev pub section_of : Cursor → Section
section_of c = record { order = c.order; limit = c.limit }

unfoldable pub from_portacl : List ℕ → Part → Part → Part → Outcome Parts
from_portacl sheet a d b = do
  p ← section_at S.portacl (part_end b) sheet
  Ok (record { allow = a; deny = d; byuid = b; portacl = p; tables = rest_after sheet p })

unfoldable pub from_byuid : List ℕ → Part → Part → Outcome Parts
from_byuid sheet a d = do
  b ← section_at S.byuid (part_end d) sheet
  from_portacl sheet a d b

unfoldable pub from_deny : List ℕ → Part → Outcome Parts
from_deny sheet a = do
  d ← section_at S.deny (part_end a) sheet
  from_byuid sheet a d
