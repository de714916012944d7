-- The two calls where they are answered, and what they then wrote.
--   Dropped, drop_answered == an accepted proposal, and the new file
--   answered_drop          == the call is answered where the checks pass, the proposal is accepted and there is room
--   Proposed, propose_answered, answered_propose == the same of the tidy program
--   read_proposal          == its bytes are read as the numbers that it proposes
--   lines_dropped          == the lines of the new file are those that are not named
--   nothing_dropped        == where nothing is named the file stays as it is
-- Assumes nothing.
use Rattle.std.specs.Prelude.{None, Ok, Option, Some, unwrap_or}
use Prim.Native.Nat.{ℕ, zero, suc, ◌+◌, ◌*◌, ◌^◌, ◌≤◌, ◌<◌}
use mathlib.Core.Bool.{Bool, true, false, not, ◌&&◌, ◌||◌, true≢false, or-true}
use mathlib.Core.List.{List, [], ◌∷◌, ◌++◌, map, flat_map, append_assoc}
use mathlib.Core.Path.{◌≡◌, refl, sym, ap, ap₂, subst, ◌∙◌}
use native.Mathlib.Numerals.{add-one}
use native.Mathlib.Omega.{arith}
use borrow.Author.Tests.{eq-eqb, eqb-true, le-ltb, ltb-false}
use lib.Dec.{eqb, ltb}
use lib.ListN.{length, take, drop, length-append}
use lib.Seq.{take_at, drop_at}
use Rattle.text.specs.Basics.{when◌then◌else◌, ◌or_else◌, given, holds, is_some, any, all, first}
use Rattle.text.specs.Text.{split}
use Rattle.text.specs.Number.{from_digits, to_digits}
use Rattle.text.specs.Words.{word_bytes, read_words}
use Rattle.text.proofs.BasicLaws.{and_true}
use Rattle.text.proofs.Digits.{length_to_digits, from_digits_to_digits}
use Rattle.section.specs.declared.Fault.TheVariants as F
use Rattle.section.specs.declared.Refusal.{Refusal}
use Rattle.section.specs.Refusal.{Outcome, ◌>>=◌, refusal, placeless, refusing, within_room}
use Rattle.section.specs.Section as S
use Rattle.section.specs.Section.{Section}
use Rattle.lines.specs.Line.{Line, line, logical_lines, lines}
use Rattle.lines.specs.Rewrite.{line_bytes, rewrite}
use Rattle.lines.specs.Rule.{Rule}
use Rattle.lines.specs.Scan.{scan_line}
use Rattle.lines.proofs.LineLaws.{logical_lines_cons, logical_lines_nil}
use Rattle.lines.proofs.RewriteLaws.{whole_cons, scan_whole, scan_text, scan_length, line_ind}
use Rattle.rules.specs.Check.{line_fault}
use Rattle.tidy.specs.Tidy.{rule_of, covers, covered_by, with_rule, named, witnessed, are_lines, accepts, proposal, dropped}
use Rattle.tidy.specs.Tidy.{section_of, with_section, file_fault, propose, accepted_bytes, numbers_of, drop_rules}
use Rattle.tidy.specs.Code.{Sound}
use Rattle.tidy.proofs.CheckLaws.{none_both, file_parts, hosts_sound}
use Rattle.tidy.proofs.ProposalLaws.{lines_ascend, lines_under, lines_within, within_accepted}
use Rattle.tidy.proofs.NumberLaws.{Rises, covered_rises, read_four}
use Rattle.tidy.proofs.NewFileLaws.{rest_of, sound_ended}

-- ## Answers

-- a call that was answered had room for what it wrote
room_for : (b : Bool) (x s : List ℕ) → refusing (given b (placeless F.NoRoom)) x ≡ Ok s → s ≡ x
room_for true x s k = let z : ◌≡◌ {A = ℕ} 0 1 = cc in absurd (omega arith)
room_for false x s k = let z : x ≡ s = cc k in sym z

passed : (o : Option Refusal) (x s : List ℕ) (room : ℕ) → (refusing o x >>= within_room room) ≡ Ok s → (o ≡ None) × (s ≡ x)
passed None x s room k = (refl, room_for (ltb room (length x)) x s k)
passed (Some g) x s room k = let z : ◌≡◌ {A = ℕ} 0 1 = cc in absurd (omega arith)

pub record Dropped (n : ℕ) (t five p s : List ℕ) : Type 0 where
  pub section : Section
  pub is_section : section_of n ≡ Some section
  pub sound : file_fault section t five ≡ None
  pub good : accepts t (numbers_of p) ≡ true
  pub bytes : s ≡ dropped (numbers_of p) t

accepted_numbers : (t : List ℕ) (o : Option (List ℕ)) → given (not (holds (accepts t) o)) (placeless F.BadProposal) ≡ None
    → accepts t (unwrap_or o []) ≡ true
accepted_numbers t None e = let z : ◌≡◌ {A = ℕ} 0 1 = cc in absurd (omega arith)
accepted_numbers t (Some ns) e = by (accepts t ns) e
  where
    by : (b : Bool) → given (not b) (placeless F.BadProposal) ≡ None → b ≡ true
    by true k = refl
    by false k = let z : ◌≡◌ {A = ℕ} 0 1 = cc in absurd (omega arith)

pub drop_answered : (n : ℕ) (t five p : List ℕ) (room : ℕ) (s : List ℕ) → drop_rules n t five p room ≡ Ok s → Dropped n t five p s
unfolding drop_rules
drop_answered n t five p room s e = by (section_of n) refl e
  where
    by : (o : Option Section) → section_of n ≡ o
        → with_section o (λ x. refusing (file_fault x t five or_else given (not (accepted_bytes t p)) (placeless F.BadProposal)) (dropped (numbers_of p) t)
        >>= within_room room) ≡ Ok s → Dropped n t five p s
    by None q k = let z : ◌≡◌ {A = ℕ} 0 1 = cc k in absurd (omega arith)
    by (Some x) q k =
        let a = passed (file_fault x t five or_else given (not (accepted_bytes t p)) (placeless F.BadProposal)) (dropped (numbers_of p) t) s room k in
        let b = none_both (file_fault x t five) (given (not (accepted_bytes t p)) (placeless F.BadProposal)) a.0 in
        record { section = x; is_section = q; sound = b.0; good = accepted_numbers t (read_words p) b.1; bytes = a.1 }

pub answered_drop : (n : ℕ) (t five p : List ℕ) (room : ℕ) (ns : List ℕ) (x : Section) → section_of n ≡ Some x → file_fault x t five ≡ None
    → read_words p ≡ Some ns → accepts t ns ≡ true → length (dropped ns t) ≤ room → drop_rules n t five p room ≡ Ok (dropped ns t)
unfolding drop_rules
answered_drop n t five p room ns x q e r a h = rw (q, e, r, a, le-ltb room (length (dropped ns t)) h)

pub record Proposed (n : ℕ) (t five s : List ℕ) : Type 0 where
  pub section : Section
  pub is_section : section_of n ≡ Some section
  pub sound : file_fault section t five ≡ None
  pub bytes : s ≡ word_bytes (proposal t)

pub propose_answered : (n : ℕ) (t five : List ℕ) (room : ℕ) (s : List ℕ) → propose n t five room ≡ Ok s → Proposed n t five s
unfolding propose
propose_answered n t five room s e = by (section_of n) refl e
  where
    by : (o : Option Section) → section_of n ≡ o → with_section o (λ x. refusing (file_fault x t five) (word_bytes (proposal t)) >>= within_room room) ≡ Ok s
        → Proposed n t five s
    by None q k = let z : ◌≡◌ {A = ℕ} 0 1 = cc k in absurd (omega arith)
    by (Some x) q k =
        let a = passed (file_fault x t five) (word_bytes (proposal t)) s room k in
        record { section = x; is_section = q; sound = a.0; bytes = a.1 }

pub answered_propose : (n : ℕ) (t five : List ℕ) (room : ℕ) (x : Section) → section_of n ≡ Some x → file_fault x t five ≡ None
    → length (word_bytes (proposal t)) ≤ room → propose n t five room ≡ Ok (word_bytes (proposal t))
unfolding propose
answered_propose n t five room x q e h = rw (q, e, le-ltb room (length (word_bytes (proposal t))) h)

-- ## The lines of the new file

module _ (ns : List ℕ) where
  -- the bytes of a line, unless it is named
  abbrev pub stays : Line → List (List ℕ)
  stays l = when named ns l then [] else line_bytes l ∷ []

  unfoldable Stay : List ℕ → Type 0
  Stay t = (n at m pl : ℕ) → first line_fault (logical_lines n at (split "\n" t)) ≡ None
      → map line_bytes (logical_lines m pl (split "\n" (flat_map (rest_of ns) (logical_lines n at (split "\n" t)))))
      ≡ flat_map stays (logical_lines n at (split "\n" t))

  stay_nil : Stay []
  unfolding Stay flat_map
  stay_nil n at m pl h = rw (logical_lines_nil n at, logical_lines_nil m pl)

  module _ (t : List ℕ) (ih : Stay (drop ((scan_line t).end + 1) t)) (n at m pl : ℕ) where
    abbrev own : Line
    own = line n at (take (scan_line t).end t) (scan_line t).ended

    abbrev others : List Line
    others = logical_lines (n + (scan_line t).joins + 1) (at + (scan_line t).end + 1) (split "\n" (drop ((scan_line t).end + 1) t))

    abbrev rest : List ℕ
    rest = flat_map (rest_of ns) others

    stay_line : line_fault own ≡ None → first line_fault others ≡ None → (c : Bool) → named ns own ≡ c
        → map line_bytes (logical_lines m pl (split "\n" (rest_of ns own ++ rest))) ≡ stays own ++ flat_map stays others
    unfolding Stay
    stay_line f h true q = rw q (ih (n + (scan_line t).joins + 1) (at + (scan_line t).end + 1) m pl h)
    stay_line f h false q =
        let b : (scan_line t).ended ≡ true = sound_ended n at (take (scan_line t).end t) (scan_line t).ended f in
        rw (
          q,
          b,
          append_assoc (take (scan_line t).end t) (10 ∷ []) rest,
          whole_cons (take (scan_line t).end t) (scan_line t).joins (scan_whole t b (scan_line t).end refl (scan_length t b)) rest m pl,
        )
        (ap (λ (ls : List (List ℕ)). (take (scan_line t).end t ++ (10 ∷ [])) ∷ ls)
        (ih (n + (scan_line t).joins + 1) (at + (scan_line t).end + 1) (m + (scan_line t).joins + 1) (pl + length (take (scan_line t).end t) + 1) h))

  stay_more : (t : List ℕ) → 0 < length t → Stay (drop ((scan_line t).end + 1) t) → Stay t
  unfolding Stay flat_map first
  stay_more t k ih n at m pl = rw (logical_lines_cons t n at k) (λ h.
      let a = none_both (line_fault (own t ih n at m pl)) (first line_fault (others t ih n at m pl)) h in
      stay_line t ih n at m pl a.0 a.1 (named ns (own t ih n at m pl)) refl)

  pub lines_dropped : (t : List ℕ) → first line_fault (lines t) ≡ None → map line_bytes (lines (dropped ns t)) ≡ flat_map stays (lines t)
  unfolding Stay lines dropped rewrite
  lines_dropped t h = line_ind Stay stay_nil stay_more t 1 0 1 0 h

-- ## Named lines are rules

abbrev pub is_rule_line : ℕ → Line → Bool
is_rule_line n l = eqb l.number n && is_some (rule_of l)

covered_rule : (us : List Rule) (l : Line) → covered_by us l ≡ true → is_some (rule_of l) ≡ true
covered_rule us l e = by (rule_of l) e
  where
    by : (o : Option Rule) → holds (λ v. any (λ u. covers u v) us) o ≡ true → is_some o ≡ true
    by None k = k
    by (Some v) k = refl

witnessed_rules : (ns : List ℕ) (kept : List Rule) (ls : List Line) → witnessed ns kept ls ≡ true → (n : ℕ) → any (eqb n) ns ≡ true
    → any (λ (l : Line). eqb l.number n) ls ≡ true → any (is_rule_line n) ls ≡ true
unfolding witnessed any
witnessed_rules ns kept [] w n k e = e
witnessed_rules ns kept (l ∷ ls) w n k e =
    by (eqb l.number n) refl e (named ns l) refl w (λ us z. witnessed_rules ns us ls z n k)
  where
    by : (b : Bool) → eqb l.number n ≡ b → (b || any (λ (l : Line). eqb l.number n) ls) ≡ true → (c : Bool) → named ns l ≡ c
        → (when c then covered_by kept l && witnessed ns kept ls else witnessed ns (with_rule (rule_of l) kept) ls) ≡ true
        → ((us : List Rule) → witnessed ns us ls ≡ true → any (λ (l : Line). eqb l.number n) ls ≡ true → any (is_rule_line n) ls ≡ true)
        → (is_rule_line n l || any (is_rule_line n) ls) ≡ true
    by true q z true p w ih =
        rw (q, covered_rule kept l (and_true (covered_by kept l) (witnessed ns kept ls) w).0)
    by true q z false p w ih = absurd (true≢false (sym (rw (eqb-true l.number n q) k) ∙ p))
    by false q z true p w ih =
        rw q (ih kept (and_true (covered_by kept l) (witnessed ns kept ls) w).1 z)
    by false q z false p w ih = rw q (ih (with_rule (rule_of l) kept) w z)

-- "each named line is a rule"
pub accepted_rules : (t ns : List ℕ) → accepts t ns ≡ true → all (λ n. any (is_rule_line n) (lines t)) ns ≡ true
unfolding accepts any all
accepted_rules t ns e =
    let a = and_true (are_lines ns (lines t)) (witnessed ns [] (lines t)) e in
    by ns (λ n k. witnessed_rules ns [] (lines t) a.1 n k (lines_within (lines t) ns a.0 n k))
  where
    by : (ms : List ℕ) → ((n : ℕ) → any (eqb n) ms ≡ true → any (is_rule_line n) (lines t) ≡ true) → all (λ n. any (is_rule_line n) (lines t)) ms ≡ true
    by [] h = refl
    by (m ∷ ms) h = rw (h m (rw (eq-eqb m m refl)), by ms (λ n k. h n (rw k (or-true (eqb n m)))))

-- ## The proposal as numbers

pub proposal_rises : (t : List ℕ) → length t ≤ 16384 → Rises 1 16385 (proposal t)
unfolding proposal
proposal_rises t h = covered_rises 1 16385 [] (lines t) (lines_ascend t) (lines_under t h)

read_numbers_lem : (ns : List ℕ) (n : ℕ) → Rises n 16385 ns → read_words (word_bytes ns) ≡ Some ns
unfolding word_bytes read_words
read_numbers_lem [] n r = refl
read_numbers_lem (k ∷ ns) n r =
    read_four (to_digits 256 4 k ++ word_bytes ns) (omega (arith, length-append (to_digits 256 4 k) (word_bytes ns), length_to_digits 256 4 k))
    ∙ rw (
      take_at (to_digits 256 4 k) (word_bytes ns) 4 (length_to_digits 256 4 k),
      drop_at (to_digits 256 4 k) (word_bytes ns) 4 (length_to_digits 256 4 k),
      from_digits_to_digits 256 4 k (omega arith) (omega (arith, r.1.0)),
      read_numbers_lem ns (suc k) r.1.1,
    )

pub read_proposal : (t : List ℕ) → length t ≤ 16384 → read_words (word_bytes (proposal t)) ≡ Some (proposal t)
read_proposal t h = read_numbers_lem (proposal t) 1 (proposal_rises t h)

-- ## A file that passed its checks

limit_of : (n : ℕ) (x : Section) → section_of n ≡ Some x → x.limit ≡ 16384
limit_of n x e = by (eqb n 1) (eqb n 2) e
  where
    by : (b c : Bool) → (when b then Some S.allow else when c then Some S.deny else None) ≡ Some x → x.limit ≡ 16384
    by true c k = let z : S.allow ≡ x = cc k in sym (ap (λ (y : Section). y.limit) z)
    by false true k = let z : S.deny ≡ x = cc k in sym (ap (λ (y : Section). y.limit) z)
    by false false k = let z : ◌≡◌ {A = ℕ} 0 1 = cc k in absurd (omega arith)

pub text_limit : (n : ℕ) (t five : List ℕ) (x : Section) → section_of n ≡ Some x → file_fault x t five ≡ None → length t ≤ 16384
text_limit n t five x q e = by (ltb x.limit (length t)) refl (file_parts x t five e).0
  where
    by : (b : Bool) → ltb x.limit (length t) ≡ b → given b (refusal F.OverLimit x.order 0) ≡ None → length t ≤ 16384
    by true p k = let z : ◌≡◌ {A = ℕ} 0 1 = cc k in absurd (omega arith)
    by false p k = omega (arith, ltb-false x.limit (length t) p, limit_of n x q)

-- its lines, one after the other, are the file
unfoldable Whole : List ℕ → Type 0
Whole t = (n at : ℕ) → first line_fault (logical_lines n at (split "\n" t)) ≡ None → flat_map (rest_of []) (logical_lines n at (split "\n" t)) ≡ t

whole_nil : Whole []
unfolding Whole flat_map
whole_nil n at h = rw (logical_lines_nil n at)

whole_line : (t : List ℕ) (n at : ℕ) → line_fault (line n at (take (scan_line t).end t) (scan_line t).ended) ≡ None
    → (rest : List ℕ) → rest ≡ drop ((scan_line t).end + 1) t → rest_of [] (line n at (take (scan_line t).end t) (scan_line t).ended) ++ rest ≡ t
unfolding any
whole_line t n at f rest e =
    let b : (scan_line t).ended ≡ true = sound_ended n at (take (scan_line t).end t) (scan_line t).ended f in
    rw b
    (append_assoc (take (scan_line t).end t) (10 ∷ []) rest
    ∙ (ap (λ (r : List ℕ). take (scan_line t).end t ++ (10 ∷ r)) (e ∙ ap (λ (k : ℕ). drop k t) (add-one (scan_line t).end)) ∙ sym (scan_text t b)))

whole_more : (t : List ℕ) → 0 < length t → Whole (drop ((scan_line t).end + 1) t) → Whole t
unfolding Whole flat_map first
whole_more t k ih n at = rw (logical_lines_cons t n at k) (λ h.
    let a = none_both (line_fault (line n at (take (scan_line t).end t) (scan_line t).ended))
    (first line_fault (logical_lines (n + (scan_line t).joins + 1) (at + (scan_line t).end + 1) (split "\n" (drop ((scan_line t).end + 1) t)))) h in
    whole_line t n at a.0
    (flat_map (rest_of []) (logical_lines (n + (scan_line t).joins + 1) (at + (scan_line t).end + 1) (split "\n" (drop ((scan_line t).end + 1) t))))
    (ih (n + (scan_line t).joins + 1) (at + (scan_line t).end + 1) a.1))

pub nothing_dropped : (x : Section) (t five : List ℕ) → file_fault x t five ≡ None → (accepts t [] ≡ true) × (dropped [] t ≡ t)
unfolding Whole lines dropped rewrite any Sound
nothing_dropped x t five e = (
  within_accepted t [] (λ m k. absurd (true≢false (sym k))),
  line_ind Whole whole_nil whole_more t 1 0 (hosts_sound x t (file_parts x t five e).1.1.0),
)
