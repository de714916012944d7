-- What holds of every accepted sheet: the laws that the demands on the gate rest on.
--   cut_short   == an accepted sheet cut short anywhere is refused by 1, at the section that is cut
--   at_most     == it has at most 57,360 bytes
--   whole       == so what is accepted of the first 57,361 bytes of some is all of them
--   unpack_pack == the sheet of packed texts is accepted, and its texts are those
--   pack_unpack == the texts of an accepted sheet, given room, are packed to that sheet
-- Assumes nothing.
use Rattle.std.specs.Prelude.{Err, None, Ok, Some}
use Prim.Native.Nat.{ℕ, ◌-◌, ◌≤◌, ◌<◌}
use native.Mathlib.Omega.{arith}
use mathlib.Core.Bool.{Bool, true, false}
use mathlib.Core.List.{List}
use mathlib.Core.Path.{◌≡◌, refl, sym, ap, ◌∙◌}
use borrow.Author.Tests.{ltb-true, ltb-false}
use lib.ListN.{length, take, drop}
use lib.Seq.{take_all, length-take-le}
use lib.Dec.{ltb}
use Rattle.text.specs.Basics.{all}
use Rattle.section.specs.declared.Fault.TheVariants as F
use Rattle.section.specs.declared.Part.{Part}
use Rattle.section.specs.declared.Refusal.{Refusal}
use Rattle.section.specs.Refusal.{Outcome, ◌>>=◌, refusal}
use Rattle.section.specs.Section.{Section, bytes_at}
use Rattle.tables.specs.Table.{tables_of, framed, tables_frame}
use Rattle.tables.proofs.TableLaws.{tables_whole, frame_none, tables_cut}
use Rattle.sheet.specs.declared.Parts.{Parts}
use Rattle.sheet.specs.Sheet.{Texts, texts, texts_at, texts_fault, section_at, part_end, rest_after, frame, unpack, pack}
use Rattle.sheet.specs.Code.{limits_fault}
use Rattle.sheet.proofs.TextsLaws.{texts_fault_parts}
use Rattle.sheet.proofs.FrameLaws.{take_drop_take, SectionAt, section_at_kept, section_at_cut, answered_section_at, Framed, answered_frame}
use Rattle.sheet.proofs.FrameLaws.{with_tables, portacl_end, tables_rest}
use Rattle.sheet.proofs.FrameLaws.{tables_length, limits_framed, texts_fault_none, tables_frame_none, parts_of, sheet_of_in_turn, framed_parts_of}
use Rattle.sheet.proofs.FrameLaws.{texts_at_parts_of}
use Rattle.sheet.proofs.FrameLaws.{sheet_of_texts_at, unpack_answered, answered_unpack, pack_answered, answered_pack}

-- ## Cut short

-- what is refused by 1 at one of the five sections
abbrev pub Short : {A : Type 0} → Outcome A → Type 0
Short o = (s : ℕ) × (1 ≤ s) × (s ≤ 5) × (o ≡ Err (refusal F.CutShort s 0))

-- a text that is not refused by its limits, with a cut section five
limits_pass : (a d b p t : List ℕ) (g : Refusal) → limits_fault a d b p ≡ None → tables_frame t ≡ Some g → texts_fault (texts a d b p t) ≡ Some g
limits_pass a d b p t g e f = rw (texts_fault_parts a d b p t, e, f)

module _ (sheet : List ℕ) (k : ℕ) (less : k < length sheet) where
  -- a cut in a section, or after its end
  section_at_short : {A : Type 0} {s : Section} {at : ℕ} {p : Part} (f : Part → Outcome A) → 1 ≤ s.order → s.order ≤ 5 → SectionAt s at sheet p
      → (part_end p ≤ k → Short (f p)) → Short (section_at s at (take k sheet) >>= f)
  section_at_short {s = s} {at} {p} f low high h after = by (ltb k (part_end p)) refl
    where
      by : (b : Bool) → ltb k (part_end p) ≡ b → Short (section_at s at (take k sheet) >>= f)
      by true e = rw (section_at_cut h k (omega arith) (ltb-true k (part_end p) e)) (s.order, low, high, refl)
      by false e =
          let on : part_end p ≤ k = ltb-false k (part_end p) e in
          rw (answered_section_at (section_at_kept h k (omega arith) on)) (after on)

  module _ {p : Parts} (f : Framed sheet p) where
    -- in one of the first four
    frame_short : k < part_end p.portacl → Short (frame (take k sheet))
    unfolding frame
    frame_short before =
        section_at_short _ (omega arith) (omega arith) f.allow λ _.
        section_at_short _ (omega arith) (omega arith) f.deny λ _.
        section_at_short _ (omega arith) (omega arith) f.byuid λ _.
        section_at_short _ (omega arith) (omega arith) f.portacl λ h.
        absurd (omega arith)

    -- in the tables
    module _ (after : part_end p.portacl ≤ k) where
      abbrev cut_parts : Parts
      cut_parts = with_tables p (rest_after (take k sheet) p.portacl)

      framed_cut : Framed (take k sheet) cut_parts
      framed_cut =
          let q : part_end p.byuid ≤ part_end p.portacl = omega (arith, f.portacl.place) in
          let b : part_end p.deny ≤ part_end p.byuid = omega (arith, f.byuid.place) in
          let d : part_end p.allow ≤ part_end p.deny = omega (arith, f.deny.place) in
          record {
            allow = section_at_kept f.allow k (omega arith) (omega arith);
            deny = section_at_kept f.deny k (omega arith) (omega arith);
            byuid = section_at_kept f.byuid k (omega arith) (omega arith);
            portacl = section_at_kept f.portacl k (omega arith) after;
            tables = refl;
          }

      -- what is left of section five
      tables_left : bytes_at (take k sheet) cut_parts.tables ≡ take (k - part_end p.portacl) (bytes_at sheet p.tables)
      tables_left =
          let e : ℕ = part_end p.portacl in
          ap (λ (m : ℕ). take (m - e) (drop e (take k sheet))) (length-take-le k sheet (omega arith))
          ∙ take_drop_take (k - e) e k sheet (omega arith) ∙ ap (take (k - e)) (sym (tables_rest f))

      tables_short : tables_frame (bytes_at sheet p.tables) ≡ None
          → tables_frame (bytes_at (take k sheet) cut_parts.tables) ≡ Some (refusal F.CutShort 5 0)
      unfolding tables_frame
      tables_short e =
          let t : List ℕ = bytes_at sheet p.tables in
          let fewer : k - part_end p.portacl < length t = omega (arith, tables_length f, portacl_end f) in
          rw tables_left
          (ap framed (tables_cut t (k - part_end p.portacl) (tables_of t) (tables_whole t (frame_none t e)) fewer))

      unpack_short : tables_frame (bytes_at sheet p.tables) ≡ None → Short (unpack (take k sheet))
      unfolding unpack
      unpack_short e =
          rw (answered_frame framed_cut, limits_pass _ _ _ _ _ (refusal F.CutShort 5 0) (limits_framed framed_cut) (tables_short e))
          (5, omega arith, omega arith, refl)

pub cut_short : (sheet : List ℕ) (n : ℕ) (p : Parts) → unpack sheet ≡ Ok p → n < length sheet → Short (unpack (take n sheet))
unfolding unpack
cut_short sheet n p e less = by (ltb n (part_end p.portacl)) refl
  where
    accepted : Framed sheet p × (texts_fault (texts_at sheet p) ≡ None)
    accepted = unpack_answered sheet p e

    by : (b : Bool) → ltb n (part_end p.portacl) ≡ b → Short (unpack (take n sheet))
    by true f =
        let h = frame_short sheet n less accepted.0 (ltb-true n (part_end p.portacl) f) in
        rw h.3 (h.0, h.1, h.2, refl)
    by false f =
        unpack_short sheet n less accepted.0 (ltb-false n (part_end p.portacl) f) (tables_frame_none (texts_at sheet p) accepted.1)

-- ## The longest sheet

-- "the longest sheet is 57,360 bytes"
pub at_most : (sheet : List ℕ) (p : Parts) → unpack sheet ≡ Ok p → length sheet ≤ 57360
at_most sheet p e =
    let accepted = unpack_answered sheet p e in
    let f = accepted.0 in
    let w = texts_fault_none (texts_at sheet p) accepted.1 in
    omega (
      arith,
      f.allow.place,
      f.allow.limit,
      f.deny.place,
      f.deny.limit,
      f.byuid.place,
      f.byuid.limit,
      f.portacl.place,
      f.portacl.limit,
      w.tables,
      tables_length f,
    )

pub whole : (sheet : List ℕ) (p : Parts) → unpack (take 57361 sheet) ≡ Ok p → take 57361 sheet ≡ sheet
whole sheet p e = by (ltb 57361 (length sheet)) refl
  where
    by : (b : Bool) → ltb 57361 (length sheet) ≡ b → take 57361 sheet ≡ sheet
    by true f =
        let long : 57361 < length sheet = ltb-true 57361 (length sheet) f in
        absurd (omega (arith, at_most (take 57361 sheet) p e, length-take-le 57361 sheet (omega arith)))
    by false f = take_all 57361 sheet (ltb-false 57361 (length sheet) f)

-- ## Packing and unpacking

pub unpack_pack : (ts : Texts) (room : ℕ) (sheet : List ℕ) → pack ts room ≡ Ok sheet → (unpack sheet ≡ Ok (parts_of ts))
    × (texts_at sheet (parts_of ts) ≡ ts)
unpack_pack ts room sheet e =
    let a = pack_answered ts room sheet e in
    let is = sym a.1 ∙ sheet_of_in_turn ts in
    let same = texts_at_parts_of ts sheet is in
    (answered_unpack (framed_parts_of ts sheet is (texts_fault_none ts a.0)) (ap texts_fault same ∙ a.0), same)

pub pack_unpack : (sheet : List ℕ) (p : Parts) (room : ℕ) → all (λ b. ltb b 256) sheet ≡ true → unpack sheet ≡ Ok p → length sheet ≤ room
    → pack (texts_at sheet p) room ≡ Ok sheet
pack_unpack sheet p room bytes e h =
    let a = unpack_answered sheet p e in
    let same = sheet_of_texts_at bytes a.0 in
    answered_pack (texts_at sheet p) room a.1 (rw same h) ∙ ap Ok same
