-- Document 01, "The station sheet" and the order of refusals over it; document 02, requests 1: the fifth section, and 11: the retired form.
--   frame sheet       == the places of the five texts: of four by their counts, and of the tables, which are all that follows
--   unpack sheet      == the same for an accepted sheet; every other one is refused
--   pack ts room      == the sheet of five texts, into room bytes
--   four_frame sheet   == the refusal of a sheet of document 01 by its frame
--   upgrade sheet room == such a sheet with an empty fifth section, into room bytes
-- Assumes nothing: these are definitions.
use Rattle.std.specs.Prelude.{ℕ, ◌+◌, ◌-◌, List, [], ◌∷◌, ◌++◌, length, take, drop, ltb, Err, Ok, Option, Some}
use Rattle.text.specs.Basics.{when◌then◌else◌, ◌or_else◌, given}
use Rattle.text.specs.Number.{from_digits, to_digits}
use Rattle.section.specs.declared.Fault.TheVariants as F
use Rattle.section.specs.declared.Part.{Part}
use Rattle.section.specs.declared.Refusal.{Refusal}
use Rattle.section.specs.Refusal.{Outcome, ◌>>=◌, refusal, placeless, refusing, within_room}
use Rattle.section.specs.Section as S
use Rattle.section.specs.Section.{bytes_at, Section, part, over_limit}
use Rattle.tables.specs.Table.{tables_frame}
use Rattle.rules.specs.Check.{hosts_fault, tables_fault}
use Rattle.byuid.specs.Byuid.{byuid_fault}
use Rattle.portacl.specs.Portacl.{portacl_fault}
use Rattle.sheet.specs.declared.Parts.{Parts}

-- ## Five texts

pub record Texts : Type 0 where
  pub allow : List ℕ
  pub deny : List ℕ
  pub byuid : List ℕ
  pub portacl : List ℕ
  pub tables : List ℕ

abbrev pub texts : List ℕ → List ℕ → List ℕ → List ℕ → List ℕ → Texts
texts a d b p t = record { allow = a; deny = d; byuid = b; portacl = p; tables = t }

abbrev pub texts_at : List ℕ → Parts → Texts
texts_at sheet p = record {
  allow = bytes_at sheet p.allow;
  deny = bytes_at sheet p.deny;
  byuid = bytes_at sheet p.byuid;
  portacl = bytes_at sheet p.portacl;
  tables = bytes_at sheet p.tables;
}

-- "per section in turn, .. limit (2) ..; then 3; then allow, deny and portacl". Of the tables, which are "checked as in a sheet, so bytes
-- after its last table are 3 there too": "a cut in section five is 1, before 3"; 15, 16, 17, the last for "its limits included": "these
-- three follow 12 in that order". Request 11: "A sheet with a line that this form used to accept is now refused": "22 .., after 17 and
-- before 13". This replaces document 01's "Byuid lines are never refused."
unfoldable pub texts_fault : Texts → Option Refusal
texts_fault ts =
    over_limit S.allow ts.allow or_else over_limit S.deny ts.deny
    or_else over_limit S.byuid ts.byuid or_else over_limit S.portacl ts.portacl
    or_else tables_frame ts.tables
    or_else hosts_fault S.allow ts.allow or_else hosts_fault S.deny ts.deny or_else portacl_fault ts.portacl
    or_else tables_fault ts.allow ts.deny ts.tables
    or_else byuid_fault ts.byuid

-- ## The frame

-- "Each follows its count of bytes, four bytes, most significant first." "its count present (1), limit (2), bytes present
-- (1)"; 1: "a count or its bytes run past the end of the sheet"
unfoldable pub section_at : Section → ℕ → List ℕ → Outcome Part
section_at s at sheet =
    let rest : List ℕ = drop at sheet in
    let n : ℕ = from_digits 256 0 (take 4 rest) in
    when ltb (length rest) 4 then Err (refusal F.CutShort s.order 0)
    else when ltb s.limit n then Err (refusal F.OverLimit s.order 0)
    else when ltb (length rest) (4 + n) then Err (refusal F.CutShort s.order 0)
    else Ok (part (at + 4) n)

abbrev pub part_end : Part → ℕ
part_end p = p.place + p.len

-- what follows a part, to the end of the sheet
abbrev pub rest_after : List ℕ → Part → Part
rest_after sheet p = part (part_end p) (length sheet - part_end p)

-- "per section in turn"; "Tables travel in a fifth section", which has no count of bytes: its own counts say where it ends, so
-- whether it is cut (1) and whether bytes follow it (3) is told by tables_frame
unfoldable pub frame : List ℕ → Outcome Parts
frame sheet = do
  a ← section_at S.allow 0 sheet
  d ← section_at S.deny (part_end a) sheet
  b ← section_at S.byuid (part_end d) sheet
  p ← section_at S.portacl (part_end b) sheet
  Ok (record { allow = a; deny = d; byuid = b; portacl = p; tables = rest_after sheet p })

-- ## The calls

-- "Unpacking gives the place and length of each text."
unfoldable pub unpack : List ℕ → Outcome Parts
unpack sheet = do
  p ← frame sheet
  refusing (texts_fault (texts_at sheet p)) p

abbrev pub counted : List ℕ → List ℕ
counted t = to_digits 256 4 (length t) ++ t

unfoldable pub sheet_of : Texts → List ℕ
sheet_of ts = counted ts.allow ++ counted ts.deny ++ counted ts.byuid ++ counted ts.portacl ++ ts.tables

-- "Packing checks all four, then room."; "demand 2 packs this section as a fifth text, checked as in a sheet"
unfoldable pub pack : Texts → ℕ → Outcome (List ℕ)
pack ts room = refusing (texts_fault ts) (sheet_of ts) >>= within_room room

-- ## Sheets of four sections

-- document 01: "per section in turn ..; then 3": "bytes follow the last section"
abbrev pub nothing_after : Outcome Parts → Option Refusal
nothing_after (Err r) = Some r
nothing_after (Ok p) = given (ltb 0 p.tables.len) (placeless F.TrailingBytes)

unfoldable pub four_frame : List ℕ → Option Refusal
four_frame sheet = nothing_after (frame sheet)

-- "Four-section sheets are now cut short; a small program appends the two zero bytes of an empty count." Its lines need not be sound.
unfoldable pub upgrade : List ℕ → ℕ → Outcome (List ℕ)
upgrade sheet room = refusing (four_frame sheet) (sheet ++ 0 ∷ 0 ∷ []) >>= within_room room
