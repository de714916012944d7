-- Demands 1 and 2 of the station sheet: each follows from what an accepted sheet is, by the laws of `sheet`.
-- Assumes nothing.
use Rattle.std.specs.Prelude.{Err, None, Ok, Option, Some}
use Prim.Native.Nat.{ℕ}
use native.Mathlib.Omega.{arith}
use mathlib.Core.Bool.{Bool, true, false}
use mathlib.Core.List.{List, [], ◌∷◌, ◌++◌}
use mathlib.Core.Path.{◌≡◌, refl, sym, ap, ◌∙◌}
use lib.Dec.{ltb}
use lib.ListN.{length, take}
use Rattle.text.specs.Basics.{◌or_else◌, given}
use Rattle.section.specs.declared.Fault.TheVariants as F
use Rattle.section.specs.declared.Refusal.{Refusal}
use Rattle.section.specs.Refusal.{Outcome, ◌>>=◌, ◌before◌, placeless, refusing, within_room}
use Rattle.section.specs.Section as S
use Rattle.section.specs.Section.{bytes_at, over_limit}
use Rattle.tables.specs.Table.{tables_of, tables_frame}
use Rattle.elements.specs.Request.{Request}
use Rattle.rules.specs.declared.Answer.{Answer}
use Rattle.rules.specs.declared.File.{File}
use Rattle.rules.specs.declared.File.TheVariants.{Neither, Allow, Deny}
use Rattle.rules.specs.Check.{hosts_fault, tables_fault}
use Rattle.rules.specs.Search.{answer, decide_over, decide_tables}
use Rattle.byuid.specs.Byuid.{byuid_fault}
use Rattle.rules.specs.Looked.{looked_over}
use Rattle.portacl.specs.Portacl.{portacl_fault}
use Rattle.sheet.specs.declared.Parts.{Parts}
use Rattle.sheet.specs.Sheet.{Texts, texts_at, texts_fault, unpack, sheet_of, pack, four_frame, upgrade}
use Rattle.sheet.proofs.FrameLaws.{parts_of, unpack_answered, answered_same}
use Rattle.sheet.proofs.SheetLaws as Laws
use Rattle.sheet.proofs.LongestLaws as Long
use Rattle.station.specs.Station.{in_sheet, decide_sheet, looked_sheet, decide_byuid_sheet, decide_portacl_sheet}
use Rattle.codes.specs.Requests.{RequestNumbers, request, mark_of, byuid_file_bind}
use Rattle.codes.specs.Answers.{answer_numbers, found_parts, verdict_answer, byuid_answer, portacl_answer, check_answer, parts_answer, written_answer}
use Rattle.gate.specs.Calls.{gate_tables_verdict, gate_sheet_verdict, gate_unpack}
use Rattle.claims.specs.Claims.{AreBytes, Accepted, CutShort, Longest, UnpackPack, PackUnpack, texts_of, placed_in, SheetAsTexts, Upgraded}
use Rattle.claims.proofs.AnswerLaws.{accepted_parts, parts_accepted, written_answered, front_answered}

pub cut_short : CutShort
unfolding decide_sheet decide_byuid_sheet decide_portacl_sheet check_answer parts_answer verdict_answer byuid_answer portacl_answer
cut_short sheet n e less =
    let p = accepted_parts sheet e in
    let h = Laws.cut_short sheet n p.0 p.1 less in (
      h.0,
      h.1,
      h.2,
      record {
        check = rw h.3;
        unpacked = rw h.3;
        verdict = λ r. rw h.3;
        byuid = λ port kind high low uid. rw h.3;
        portacl = λ s uid groups protocol port. rw h.3;
      },
    )

-- the texts that gate_unpack finds
texts_found : (sheet : List ℕ) (p : Parts) → unpack sheet ≡ Ok p → texts_of sheet ≡ texts_at sheet p
unfolding parts_answer
texts_found sheet p e = rw e

pub unpack_pack : UnpackPack
unpack_pack ts out e =
    let w = written_answered out (pack ts (length out)) e in
    let h = Laws.unpack_pack ts (length out) w.0 w.1 in
    rw w.2 (parts_accepted w.0 (parts_of ts) h.0, texts_found w.0 (parts_of ts) h.0 ∙ h.1)

pub pack_unpack : PackUnpack
unfolding written_answer
pack_unpack sheet out b e h =
    let p = accepted_parts sheet e in
    let packed : pack (texts_of sheet) (length out) ≡ Ok sheet =
    ap (λ ts. pack ts (length out)) (texts_found sheet p.0 p.1) ∙ Laws.pack_unpack sheet p.0 (length out) b p.1 h in
    (ap written_answer packed, front_answered out (pack (texts_of sheet) (length out)) sheet packed)

pub longest : Longest
longest = record {
  at_most = λ sheet e. let p = accepted_parts sheet e in Laws.at_most sheet p.0 p.1;
  reached = (sheet_of Long.longest, Long.longest_bytes, parts_accepted (sheet_of Long.longest) (parts_of Long.longest) Long.reached, Long.longest_length);
  enough = λ sheet e. let p = accepted_parts (take 57361 sheet) e in Laws.whole sheet p.0 p.1;
}

-- ## Request 1: the upgrade

pub upgraded : Upgraded
unfolding upgrade
upgraded sheet out e =
    let w = written_answered out (upgrade sheet (length out)) e in
    w.2 ∙ by (four_frame sheet) w.0 w.1
  where
    room : (b : Bool) (x t : List ℕ) → refusing (given b (placeless F.NoRoom)) x ≡ Ok t → t ≡ x
    room true x t k = let z : ◌≡◌ {A = ℕ} 0 1 = cc in absurd (omega arith)
    room false x t k = sym (answered_same x t k)

    by : (o : Option Refusal) (t : List ℕ) → (refusing o (sheet ++ 0 ∷ 0 ∷ []) >>= within_room (length out)) ≡ Ok t → t ≡ sheet ++ 0 ∷ 0 ∷ []
    by None t k = room (ltb (length out) (length (sheet ++ 0 ∷ 0 ∷ []))) (sheet ++ 0 ∷ 0 ∷ []) t k
    by (Some g) t k = let z : ◌≡◌ {A = ℕ} 0 1 = cc in absurd (omega arith)

-- ## By a sheet as by its texts

-- texts without a fault are decided over their tables
pub sound_texts : (ts : Texts) (o : Option Request) → texts_fault ts ≡ None
    → decide_tables ts.allow ts.deny ts.tables o ≡ decide_over (tables_of ts.tables) ts.allow ts.deny o
unfolding texts_fault decide_tables
sound_texts ts o e = by (over_limit S.allow ts.allow) (over_limit S.deny ts.deny) (over_limit S.byuid ts.byuid) (over_limit S.portacl ts.portacl)
    (tables_frame ts.tables) (hosts_fault S.allow ts.allow) (hosts_fault S.deny ts.deny) (portacl_fault ts.portacl)
    (tables_fault ts.allow ts.deny ts.tables) (byuid_fault ts.byuid) e
  where
    x : Outcome Answer
    x = decide_over (tables_of ts.tables) ts.allow ts.deny o

    none_some : (g : Refusal) → Some g ≡ None → ⊥
    none_some g k = let z : ◌≡◌ {A = ℕ} 0 1 = cc in omega arith

    by : (a b c d f g h i j l : Option Refusal) → (a or_else b or_else c or_else d or_else f or_else g or_else h or_else i or_else j or_else l) ≡ None
        → ((a or_else b or_else f or_else g or_else h or_else j) before x) ≡ x
    by (Some r) b c d f g h i j l k = absurd (none_some r k)
    by None (Some r) c d f g h i j l k = absurd (none_some r k)
    by None None (Some r) d f g h i j l k = absurd (none_some r k)
    by None None None (Some r) f g h i j l k = absurd (none_some r k)
    by None None None None (Some r) g h i j l k = absurd (none_some r k)
    by None None None None None (Some r) h i j l k = absurd (none_some r k)
    by None None None None None None (Some r) i j l k = absurd (none_some r k)
    by None None None None None None None (Some r) j l k = absurd (none_some r k)
    by None None None None None None None None (Some r) l k = absurd (none_some r k)
    by None None None None None None None None None l k = refl

sheet_verdict : (sheet : List ℕ) (n : RequestNumbers) → Accepted sheet
    → gate_sheet_verdict sheet n
    ≡ placed_in (gate_unpack sheet) (gate_tables_verdict (texts_of sheet).allow (texts_of sheet).deny (texts_of sheet).tables n)
unfolding decide_sheet looked_sheet parts_answer verdict_answer
sheet_verdict sheet n e =
    let p = accepted_parts sheet e in
    let t : Texts = texts_at sheet p.0 in
    rw (p.1, sound_texts t (request n) (unpack_answered sheet p.0 p.1).1)
    (by p.0 (decide_over (tables_of t.tables) t.allow t.deny (request n)) (looked_over (tables_of t.tables) t.allow t.deny (request n)))
  where
    file : (p : Parts) (a : Answer) (k : ℕ) (f : File) → answer_numbers (in_sheet p (answer a.verdict f a.line a.command)) k
        ≡ placed_in (found_parts p) (answer_numbers (answer a.verdict f a.line a.command) k)
    file p a k Neither = refl
    file p a k Allow = refl
    file p a k Deny = refl

    by : (p : Parts) (o : Outcome Answer) (k : ℕ) → verdict_answer (o >>= λ a. Ok (in_sheet p a)) k ≡ placed_in (found_parts p) (verdict_answer o k)
    by p (Err r) k = refl
    by p (Ok a) k = file p a k a.file

pub sheet_as_texts : SheetAsTexts
unfolding decide_byuid_sheet decide_portacl_sheet parts_answer mark_of byuid_file_bind
sheet_as_texts = record {
  same_verdict = sheet_verdict;
  same_byuid = λ sheet port kind high low uid e. rw (accepted_parts sheet e).1;
  same_portacl = λ sheet s uid groups protocol port e. rw (accepted_parts sheet e).1;
}
