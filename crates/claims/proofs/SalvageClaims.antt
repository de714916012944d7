-- Request 9: the outcome of gate_salvage is accepted, salvaging it again changes nothing, its lines are the damaged sheet's but for the bad ones, and it
-- grants none but whom the good lines grant.
-- Assumes nothing.
use Rattle.std.specs.Prelude.{Err, None, Ok, Option, Some}
use Prim.Native.Nat.{ℕ, ◌≤◌}
use mathlib.Core.Bool.{Bool, true, false, true≢false}
use mathlib.Core.List.{List, []}
use mathlib.Core.Path.{◌≡◌, refl, sym, ap, subst, ◌∙◌}
use native.Mathlib.Omega.{arith}
use lib.ListN.{length, take, drop}
use lib.Dec.{ltb}
use lib.Seq.{take_at}
use Rattle.text.specs.Basics.{when◌then◌else◌}
use Rattle.section.specs.declared.Fault.TheVariants as F
use Rattle.section.specs.Refusal.{Outcome, ◌>>=◌, placeless, first_after, second_after}
use Rattle.tables.specs.Table.{tables_of, match_of}
use Rattle.elements.specs.Request.{Request, well_formed, held}
use Rattle.rules.specs.declared.Verdict.{Verdict}
use Rattle.rules.specs.declared.Verdict.TheVariants as Ver
use Rattle.rules.specs.declared.Answer.{Answer}
use Rattle.rules.specs.Search.{search, decide_over}
use Rattle.rules.specs.Looked.{looked_over}
use Rattle.sheet.specs.declared.Parts.{Parts}
use Rattle.sheet.specs.Sheet.{Texts, texts_at, frame, sheet_of, unpack}
use Rattle.sheet.proofs.FrameLaws.{parts_of}
use Rattle.salvage.specs.Salvage.{salvaged_by, salvaged, changes, list_bytes, salvage}
use Rattle.salvage.proofs.ListedLaws.{lists_allow, lists_deny}
use Rattle.salvage.proofs.SheetLaws.{Answered, allow_lines, deny_lines, sheet_framed, sheet_accepted, at_parts}
use Rattle.salvage.proofs.SheetLaws.{salvage_answered, salvage_accepted, salvage_again, salvage_sound}
use Rattle.salvage.proofs.VerdictLaws.{grants, good_grants, good_checks}
use Rattle.station.specs.Station.{in_sheet, decide_sheet, looked_sheet}
use Rattle.codes.specs.Requests.{RequestNumbers, request}
use Rattle.codes.specs.Answers.{granted, verdict_word, verdict_answer, accepted, check_answer, count_two, written_two_answer}
use Rattle.gate.specs.Calls.{gate_sheet_verdict, gate_check, gate_salvage}
use Rattle.claims.specs.Salvaged.{new_sheet, changes_listed, Unchanged, raw_lines, Mended, good_text, good_verdict, SalvagedSheets}
use Rattle.claims.proofs.AnswerLaws.{check_answered, two_answered}

-- ## What was written into two outputs

module _ (o : Outcome (List ℕ × List ℕ)) (new list : List ℕ) (e : o ≡ Ok (new, list)) where
  two_counts : written_two_answer o ≡ count_two (length new) (length list)
  unfolding written_two_answer
  two_counts = rw e

  first_front : (out : List ℕ) → take (written_two_answer o).count (first_after out o) ≡ new
  unfolding written_two_answer
  first_front out = rw e (take_at new (drop (length new) out) (length new) refl)

  second_front : (out : List ℕ) → take (written_two_answer o).other_count (second_after out o) ≡ list
  unfolding written_two_answer
  second_front out = rw e (take_at list (drop (length list) out) (length list) refl)

unchanged : (sheet out list : List ℕ) → salvage sheet (length out) (length list) ≡ Ok (sheet, []) → Unchanged sheet out list
unchanged sheet out list e = record {
  nothing_listed = two_counts (salvage sheet (length out) (length list)) sheet [] e;
  same_bytes = first_front (salvage sheet (length out) (length list)) sheet [] e out;
}

-- ## A sheet that was salvaged

module _ (sheet out list : List ℕ) (e : (gate_salvage sheet out list).answer.number ≡ 0) where
  found : (p : List ℕ × List ℕ) × (salvage sheet (length out) (length list) ≡ Ok p)
  found = two_answered (salvage sheet (length out) (length list)) e

  new_is : new_sheet (gate_salvage sheet out list) ≡ found.0.0
  new_is = first_front (salvage sheet (length out) (length list)) found.0.0 found.0.1 found.1 out

  list_is : changes_listed (gate_salvage sheet out list) ≡ found.0.1
  list_is = second_front (salvage sheet (length out) (length list)) found.0.0 found.0.1 found.1 list

  count_is : (gate_salvage sheet out list).answer.count ≡ length found.0.0
  unfolding written_two_answer
  count_is = rw found.1

  is_accepted : gate_check (new_sheet (gate_salvage sheet out list)) ≡ accepted
  unfolding check_answer
  is_accepted =
      let a = salvage_accepted sheet found.0.0 found.0.1 (length out) (length list) found.1 in
      ap gate_check new_is ∙ ap check_answer a.1

  is_unchanged : (other-out other_list : List ℕ) → (gate_salvage sheet out list).answer.count ≤ length other-out
      → Unchanged (new_sheet (gate_salvage sheet out list)) other-out other_list
  is_unchanged other-out other_list h =
      subst (λ (s : List ℕ). Unchanged s other-out other_list) (sym new_is)
      (unchanged found.0.0 other-out other_list
      (salvage_again sheet found.0.0 found.0.1 (length out) (length list) found.1 (length other-out) (length other_list)
      (subst (λ (n : ℕ). n ≤ length other-out) count_is h)))

-- what was made of sound texts
mended : (ts : Texts) (room : ℕ) (new list : List ℕ) → Answered ts room new list → Mended ts new list
unfolding salvaged_by
mended ts room new list a =
    let stand : texts_at new (parts_of (salvaged ts)) ≡ salvaged ts =
    subst (λ (s : List ℕ). texts_at s (parts_of (salvaged ts)) ≡ salvaged ts) a.sheet (at_parts (salvaged ts) a.sound) in
    record {
      made_parts = parts_of (salvaged ts);
      made_framed = subst (λ (s : List ℕ). frame s ≡ Ok (parts_of (salvaged ts))) a.sheet (sheet_framed (salvaged ts) a.sound);
      allow_lines = ap (λ (t : Texts). raw_lines t.allow) stand ∙ allow_lines ts;
      deny_lines = ap (λ (t : Texts). raw_lines t.deny) stand ∙ deny_lines ts;
      tables_stay = ap (λ (t : Texts). t.tables) stand;
      all_listed = sym a.listed;
      allow_listed = lists_allow ts;
      deny_listed = lists_deny ts;
    }

lines_mended : (sheet out list : List ℕ) → (gate_salvage sheet out list).answer.number ≡ 0
    → (p : Parts) × (frame sheet ≡ Ok p)
    × Mended (texts_at sheet p) (new_sheet (gate_salvage sheet out list)) (changes_listed (gate_salvage sheet out list))
lines_mended sheet out list e =
    let a = salvage_answered sheet (found sheet out list e).0.0 (found sheet out list e).0.1 (length out) (length list) (found sheet out list e).1 in (
      a.0,
      a.1,
      subst (λ (l : List ℕ). Mended (texts_at sheet a.0) (new_sheet (gate_salvage sheet out list)) l) (sym (list_is sheet out list e))
          (subst (λ (s : List ℕ). Mended (texts_at sheet a.0) s (found sheet out list e).0.1) (sym (new_is sheet out list e))
          (mended (texts_at sheet a.0) (length out) (found sheet out list e).0.0 (found sheet out list e).0.1 a.2)),
    )

-- ## Whom the new sheet grants

word_grants : (v : Verdict) → (verdict_word v).number ≡ granted.number → grants v ≡ true
word_grants Ver.Granted e = refl
word_grants Ver.Denied e = absurd (omega arith)
word_grants Ver.Ask e = absurd (omega arith)

grants_word : (v : Verdict) → grants v ≡ true → (verdict_word v).number ≡ granted.number
grants_word Ver.Granted e = refl
grants_word Ver.Denied e = absurd (true≢false (sym e))
grants_word Ver.Ask e = absurd (true≢false (sym e))

module _ (ts : Texts) where
  -- the verdict by the new texts, whose command has its place in a sheet, and the verdict by the good lines
  abbrev new_outcome : Parts → Option Request → Outcome Answer
  new_outcome p o = decide_over (tables_of ts.tables) (salvaged ts).allow (salvaged ts).deny o >>= λ a. Ok (in_sheet p a)

  abbrev good_outcome : Option Request → Outcome Answer
  good_outcome o = decide_over (tables_of ts.tables) (good_text ts.tables ts.allow) (good_text ts.tables ts.deny) o

  good_word : (p : Parts) (o : Option Request) (j k : ℕ) → (verdict_answer (new_outcome p o) j).word ≡ granted.number
      → (verdict_answer (good_outcome o) k).word ≡ granted.number
  unfolding verdict_answer
  good_word p None j k e = absurd (omega arith)
  good_word p (Some r) j k e = by (well_formed r) e
    where
      new : Answer
      new = search (match_of (tables_of ts.tables)) (salvaged ts).allow (salvaged ts).deny (held r)

      good : Answer
      good = search (match_of (tables_of ts.tables)) (good_text ts.tables ts.allow) (good_text ts.tables ts.deny) (held r)

      by : (b : Bool) → (verdict_answer ((when b then Ok new else Err (placeless F.BadRequest)) >>= λ a. Ok (in_sheet p a)) j).word ≡ granted.number
          → (verdict_answer (when b then Ok good else Err (placeless F.BadRequest)) k).word ≡ granted.number
      by true h = grants_word good.verdict (good_grants ts (match_of (tables_of ts.tables)) (held r) (word_grants new.verdict h))
      by false h = absurd (omega arith)

  module _ (room : ℕ) (new list : List ℕ) (a : Answered ts room new list) where
    new_outcome_lem : (o : Option Request) → decide_sheet new o ≡ new_outcome (parts_of (salvaged ts)) o
    unfolding decide_sheet salvaged_by
    new_outcome_lem o =
        let p : Parts = parts_of (salvaged ts) in
        let u : unpack new ≡ Ok p = subst (λ (s : List ℕ). unpack s ≡ Ok p) a.sheet (sheet_accepted (salvaged ts) a.sound) in
        let stand : texts_at new p ≡ salvaged ts = subst (λ (s : List ℕ). texts_at s p ≡ salvaged ts) a.sheet (at_parts (salvaged ts) a.sound) in
        rw u (ap (λ (t : Texts). decide_over (tables_of t.tables) t.allow t.deny o >>= λ x. Ok (in_sheet p x)) stand)

    good_granted : (n : RequestNumbers) → (gate_sheet_verdict new n).word ≡ granted.number → (good_verdict ts n).word ≡ granted.number
    good_granted n e =
        let tables = tables_of ts.tables in
        let k : ℕ = looked_over tables (good_text ts.tables ts.allow) (good_text ts.tables ts.deny) (request n) in
        ap (λ (o : Outcome Answer). (verdict_answer o k).word) (good_checks ts (request n) a.sound)
        ∙ good_word (parts_of (salvaged ts)) (request n) (looked_sheet new (request n)) k
        (ap (λ (o : Outcome Answer). (verdict_answer o (looked_sheet new (request n))).word) (sym (new_outcome_lem (request n))) ∙ e)

no_more : (sheet out list : List ℕ) (n : RequestNumbers) → (gate_salvage sheet out list).answer.number ≡ 0
    → (gate_sheet_verdict (new_sheet (gate_salvage sheet out list)) n).word ≡ granted.number
    → (p : Parts) × (frame sheet ≡ Ok p) × ((good_verdict (texts_at sheet p) n).word ≡ granted.number)
no_more sheet out list n e g =
    let f = found sheet out list e in
    let a = salvage_answered sheet f.0.0 f.0.1 (length out) (length list) f.1 in (
      a.0,
      a.1,
      good_granted (texts_at sheet a.0) (length out) f.0.0 f.0.1 a.2 n
          (subst (λ (s : List ℕ). (gate_sheet_verdict s n).word ≡ granted.number) (new_is sheet out list e) g),
    )

pub salvaged_sheets : SalvagedSheets
salvaged_sheets = record {
  salvaged_accepted = is_accepted;
  salvaged_again = λ sheet out list other-out other_list e h. is_unchanged sheet out list e other-out other_list h;
  sound_unchanged = λ sheet out list b e h.
      let u = check_answered (unpack sheet) e in
      unchanged sheet out list (salvage_sound sheet u.0 (length out) (length list) b u.1 h);
  salvaged_lines = lines_mended;
  grants_no_more = no_more;
}
