-- Document 02, request 10: what a box that is not yet updated makes of a sheet. It has every definition of this one, but for portacl's section.
--   frame_by s sheet, unpack_by s sheet == the frame and the unpacking of a box whose section of portacl is s
--   old_unpack sheet                   == what gate_unpack answers on a box that is not yet updated
-- Assumes nothing: these are statements.
use Rattle.std.specs.Prelude.{ℕ, ◌<◌, List, ◌≡◌, Ok}
use Rattle.section.specs.declared.Fault.TheVariants as F
use Rattle.section.specs.declared.Refusal.{Refusal}
use Rattle.section.specs.Refusal.{Outcome, ◌>>=◌, refusal, refusing}
use Rattle.section.specs.Section as S
use Rattle.section.specs.Section.{Section}
use Rattle.sheet.specs.declared.Parts.{Parts}
use Rattle.sheet.specs.Sheet.{texts_at, texts_fault, section_at, part_end, rest_after}
use Rattle.codes.specs.declared.GateParts.{GateParts}
use Rattle.codes.specs.Answers.{parts_answer, refused_parts}
use Rattle.gate.specs.Calls.{gate_unpack}

-- "portacl from 1,024 bytes": the section as it was
abbrev pub old_portacl : Section
old_portacl = record { order = 4; limit = 1024 }

abbrev pub frame_by : Section → List ℕ → Outcome Parts
frame_by s sheet = do
  a ← section_at S.allow 0 sheet
  d ← section_at S.deny (part_end a) sheet
  b ← section_at S.byuid (part_end d) sheet
  p ← section_at s (part_end b) sheet
  Ok (record { allow = a; deny = d; byuid = b; portacl = p; tables = rest_after sheet p })

-- the checks behind the frame are the same: in a sheet the limits of the four texts are told by their counts
abbrev pub unpack_by : Section → List ℕ → Outcome Parts
unpack_by s sheet = do
  p ← frame_by s sheet
  refusing (texts_fault (texts_at sheet p)) p

abbrev pub old_unpack : List ℕ → GateParts
old_unpack sheet = parts_answer (unpack_by old_portacl sheet)

abbrev pub too_long : Refusal
too_long = refusal F.OverLimit 4 0

-- all that a box not yet updated answers
pub data OldAnswer (sheet : List ℕ) : Type 0 where
  too_long_lem : old_unpack sheet ≡ refused_parts too_long → OldAnswer sheet
  as_here : old_unpack sheet ≡ gate_unpack sheet → OldAnswer sheet

pub record OldBoxes : Type 0 where
  -- with this box's section these are this box's definitions
  pub this_box : (sheet : List ℕ) → parts_answer (unpack_by S.portacl sheet) ≡ gate_unpack sheet
  -- "Boxes not yet updated refuse a longer one by 2"
  pub longer : (sheet : List ℕ) → (gate_unpack sheet).number ≡ 0 → 1024 < (gate_unpack sheet).portacl_len → old_unpack sheet ≡ refused_parts too_long
  -- "and misread nothing"
  pub nothing_misread : (sheet : List ℕ) → OldAnswer sheet
  -- "so stored sheets keep their bytes and meaning": what such a box accepted is accepted here, with the same parts
  pub stored : (sheet : List ℕ) → (old_unpack sheet).number ≡ 0 → gate_unpack sheet ≡ old_unpack sheet
