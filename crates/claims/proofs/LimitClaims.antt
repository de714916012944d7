-- Request 10: boxes whose limit of portacl is the old one, beside this box.
-- Assumes nothing.
use Rattle.std.specs.Prelude.{Err, Ok}
use Prim.Native.Nat.{ℕ, ◌<◌, ◌≤◌}
use native.Mathlib.Omega.{arith}
use mathlib.Core.Bool.{Bool, true, false}
use mathlib.Core.List.{List}
use mathlib.Core.Path.{◌≡◌, refl, sym, ap, subst, ◌∙◌}
use borrow.Author.Tests.{le-ltb, ltb-false}
use lib.Dec.{ltb}
use lib.ListN.{length, take, drop}
use Rattle.text.specs.Number.{from_digits}
use Rattle.section.specs.Refusal.{Outcome, ◌>>=◌, refusing}
use Rattle.section.specs.Section as S
use Rattle.sheet.specs.declared.Parts.{Parts}
use Rattle.sheet.specs.Sheet.{texts_at, texts_fault, section_at, part_end, frame, unpack}
use Rattle.sheet.proofs.FrameLaws.{answered_same, bind_answered, refusing_answered, section_at_answered}
use Rattle.codes.specs.Answers.{parts_answer, refused_parts}
use Rattle.gate.specs.Calls.{gate_unpack}
use Rattle.claims.specs.OldBoxes.{old_portacl, frame_by, unpack_by, old_unpack, too_long, OldAnswer, too_long_lem, as_here, OldBoxes}
use Rattle.claims.proofs.AnswerLaws.{fault_nonzero}

-- the outcome x of an old box beside the outcome y of this one
data Beside {A : Type 0} (x y : Outcome A) : Type 0 where
  long : x ≡ Err too_long → Beside x y
  same : x ≡ y → Beside x y

module _ {A B : Type 0} (f g : A → Outcome B) (each : (a : A) → Beside (f a) (g a)) where
  beside_bind : (o : Outcome A) → Beside (o >>= f) (o >>= g)
  beside_bind (Err r) = same refl
  beside_bind (Ok a) = each a

  beside_then : (x y : Outcome A) → Beside x y → Beside (x >>= f) (y >>= g)
  beside_then x y (long e) = long (rw e)
  beside_then x y (same e) = rw e (beside_bind y)

section_beside : (at : ℕ) (sheet : List ℕ) → Beside (section_at old_portacl at sheet) (section_at S.portacl at sheet)
unfolding section_at
section_beside at sheet = by (ltb (length (drop at sheet)) 4) refl (ltb 1024 (from_digits 256 0 (take 4 (drop at sheet)))) refl
  where
    n : ℕ
    n = from_digits 256 0 (take 4 (drop at sheet))

    by : (b : Bool) → ltb (length (drop at sheet)) 4 ≡ b → (c : Bool) → ltb 1024 n ≡ c → Beside (section_at old_portacl at sheet) (section_at S.portacl at sheet)
    by true e c f = same (rw e)
    by false e true f = long (rw (e, f))
    by false e false f = same (rw (e, f, le-ltb 4096 n (let k : n ≤ 1024 = ltb-false 1024 n f in omega arith)))

frame_beside : (sheet : List ℕ) → Beside (frame_by old_portacl sheet) (frame sheet)
unfolding frame
frame_beside sheet =
    beside_bind _ _ (λ a. beside_bind _ _ (λ d. beside_bind _ _ (λ b.
    beside_then _ _ (λ p. same refl) (section_at old_portacl (part_end b) sheet) (section_at S.portacl (part_end b) sheet) (section_beside (part_end b) sheet))
    (section_at S.byuid (part_end d) sheet)) (section_at S.deny (part_end a) sheet)) (section_at S.allow 0 sheet)

unpack_beside : (sheet : List ℕ) → Beside (unpack_by old_portacl sheet) (unpack sheet)
unfolding unpack
unpack_beside sheet = beside_then _ _ (λ p. same refl) (frame_by old_portacl sheet) (frame sheet) (frame_beside sheet)

-- a list that an old box finds is within its limit
old_within : (sheet : List ℕ) (p : Parts) → unpack_by old_portacl sheet ≡ Ok p → p.portacl.len ≤ 1024
old_within sheet q e =
    let f = bind_answered (frame_by old_portacl sheet) (λ p. refusing (texts_fault (texts_at sheet p)) p) q e in
    let r = refusing_answered (texts_fault (texts_at sheet f.0)) f.0 q f.2 in
    let a = bind_answered (section_at S.allow 0 sheet) _ f.0 f.1 in
    let d = bind_answered (section_at S.deny (part_end a.0) sheet) _ f.0 a.2 in
    let b = bind_answered (section_at S.byuid (part_end d.0) sheet) _ f.0 d.2 in
    let p = bind_answered (section_at old_portacl (part_end b.0) sheet) _ f.0 b.2 in
    let few = (section_at_answered old_portacl (part_end b.0) sheet p.0 p.1).limit in
    subst (λ (q : Parts). q.portacl.len ≤ 1024) r.1 (subst (λ (q : Parts). q.portacl.len ≤ 1024) (answered_same _ f.0 p.2) few)

parts_answered : (o : Outcome Parts) → (parts_answer o).number ≡ 0 → (p : Parts) × (o ≡ Ok p)
unfolding parts_answer
parts_answered (Err r) e = absurd (fault_nonzero r.fault e)
parts_answered (Ok p) e = (p, refl)

old_answer : (sheet : List ℕ) → OldAnswer sheet
unfolding parts_answer
old_answer sheet = by (unpack_beside sheet)
  where
    by : Beside (unpack_by old_portacl sheet) (unpack sheet) → OldAnswer sheet
    by (long e) = too_long_lem (ap parts_answer e)
    by (same e) = as_here (ap parts_answer e)

longer : (sheet : List ℕ) → (gate_unpack sheet).number ≡ 0 → 1024 < (gate_unpack sheet).portacl_len → old_unpack sheet ≡ refused_parts too_long
unfolding parts_answer
longer sheet e more = by (unpack_beside sheet)
  where
    found : (p : Parts) × (unpack sheet ≡ Ok p)
    found = parts_answered (unpack sheet) e

    by : Beside (unpack_by old_portacl sheet) (unpack sheet) → old_unpack sheet ≡ refused_parts too_long
    by (long q) = ap parts_answer q
    by (same q) =
        let few = old_within sheet found.0 (q ∙ found.1) in
        let many : 1024 < found.0.portacl.len = rw found.1 at more in
        absurd (omega arith)

stored : (sheet : List ℕ) → (old_unpack sheet).number ≡ 0 → gate_unpack sheet ≡ old_unpack sheet
unfolding parts_answer
stored sheet e = by (unpack_beside sheet)
  where
    by : Beside (unpack_by old_portacl sheet) (unpack sheet) → gate_unpack sheet ≡ old_unpack sheet
    by (long q) = let z : ◌≡◌ {A = ℕ} 2 0 = sym (ap (λ (o : Outcome Parts). (parts_answer o).number) q) ∙ e in absurd (omega arith)
    by (same q) = ap parts_answer (sym q)

pub old_boxes : OldBoxes
unfolding frame unpack
old_boxes = record { this_box = λ sheet. refl; longer = longer; nothing_misread = old_answer; stored = stored }
