-- The new file: each of its lines is one of the old file, it is accepted where the old one is, and tidying it again proposes nothing.
--   every_kept    == what holds of every line of a sound text by its bytes holds of every line of the new one
--   length_dropped == the new file is no longer than the old one
--   file_stays    == the new file passes the checks that the old one passed
--   again         == after what the tidy program proposes is dropped, it proposes nothing
-- Assumes nothing.
use Rattle.std.specs.Prelude.{None, Option, Some}
use Prim.Native.Nat.{ℕ, zero, suc, ◌+◌, ◌≤◌, ◌<◌}
use native.Mathlib.Numerals.{add-one}
use native.Mathlib.Omega.{arith}
use mathlib.Core.Bool.{Bool, true, false, not, ◌&&◌, ◌||◌, true≢false}
use mathlib.Core.List.{List, [], ◌∷◌, ◌++◌, flat_map, append_assoc}
use mathlib.Core.Path.{◌≡◌, refl, sym, ap, ◌∙◌}
use borrow.Author.Tests.{le-ltb, ltb-false, not-false}
use lib.Dec.{eqb, ltb}
use lib.ListN.{length, take, drop, length-append, length-drop}
use Rattle.text.specs.Basics.{when◌then◌else◌, ◌or_else◌, given, holds, any, first}
use Rattle.text.specs.Text.{split}
use Rattle.section.specs.declared.Fault.{Fault}
use Rattle.section.specs.declared.Fault.TheVariants as F
use Rattle.section.specs.declared.Refusal.{Refusal}
use Rattle.section.specs.Refusal.{lowest, at_place, refusal}
use Rattle.section.specs.Section.{Section, over_limit}
use Rattle.lines.specs.Line.{Line, line, logical_lines, lines, is_comment, is_blank}
use Rattle.lines.specs.Rewrite.{line_bytes, rewrite}
use Rattle.lines.specs.Rule.{Rule}
use Rattle.lines.specs.Scan.{scan_line}
use Rattle.lines.proofs.LineLaws.{logical_lines_cons, logical_lines_nil}
use Rattle.lines.proofs.RewriteLaws.{whole_cons, scan_whole, scan_length, scan_text, line_ind}
use Rattle.tables.specs.Table.{is_missing, leads_past, depth, tables_of, tables_frame, table_name_fault, bad_table_fault}
use Rattle.rules.specs.Check.{line_fault_by, line_fault, hosts_fault, line_names, naming_fault, missing_fault, depth_fault}
use Rattle.tidy.specs.Tidy.{rule_of, covers, covered_by, with_rule, named, covered_lines, proposal, dropped, file_fault}
use Rattle.tidy.proofs.ProposalLaws.{CoverLess, less_both, less_right, less_covered, Ascend, ascend_from, Ascending, ascending, lines_ascend}
use Rattle.tidy.proofs.ProposalLaws.{named_covered, Below, below_more}
use Rattle.tidy.proofs.CheckLaws.{none_both, file_parts}

-- ## Lines by their bytes

-- a line without a fault has its newline
pub sound_ended : (n at : ℕ) (r : List ℕ) (b : Bool) → line_fault (line n at r b) ≡ None → b ≡ true
unfolding line_fault_by lowest
sound_ended n at r true e = refl
sound_ended n at r false e = let z : ◌≡◌ {A = ℕ} 0 1 = cc in absurd (omega arith)

parts_ended : (t : List ℕ) → (scan_line t).ended ≡ true → length (take (scan_line t).end t) + suc (length (drop ((scan_line t).end + 1) t)) ≡ length t
parts_ended t e =
    rw (add-one (scan_line t).end)
    (omega (arith, ap length (scan_text t e), length-append (take (scan_line t).end t) (10 ∷ drop (suc (scan_line t).end) t)))

parts_few : (e : ℕ) (t : List ℕ) → length (take e t) + length (drop (e + 1) t) ≤ length t
parts_few e t = rw (add-one e) (by e t)
  where
    by : (e : ℕ) (t : List ℕ) → length (take e t) + length (drop (suc e) t) ≤ length t
    by zero [] = omega arith
    by zero (x ∷ t) = omega arith
    by (suc e) [] = omega arith
    by (suc e) (x ∷ t) = omega (arith, by e t)

abbrev pub Every : (List ℕ → Bool → Type 0) → List Line → Type 0
Every P [] = Unit {0}
Every P (l ∷ ls) = P l.raw l.ended × Every P ls

pub every_map : (P Q : List ℕ → Bool → Type 0) → ((r : List ℕ) (b : Bool) → P r b → Q r b) → (ls : List Line) → Every P ls → Every Q ls
every_map P Q f [] h = tt
every_map P Q f (l ∷ ls) h = (f l.raw l.ended h.0, every_map P Q f ls h.1)

every_both : (P Q : List ℕ → Bool → Type 0) (ls : List Line) → Every P ls → Every Q ls → Every (λ r b. P r b × Q r b) ls
every_both P Q [] h k = tt
every_both P Q (l ∷ ls) h k = ((h.0, k.0), every_both P Q ls h.1 k.1)

module _ (q : Line → Option Fault) (same : (n at m pl : ℕ) (r : List ℕ) (b : Bool) → q (line n at r b) ≡ q (line m pl r b)) (k : ℕ) where
  abbrev Free : List ℕ → Bool → Type 0
  Free r b = q (line 0 0 r b) ≡ None

  placed_none : (n : ℕ) (o : Option Fault) → at_place k n o ≡ None → o ≡ None
  placed_none n None e = refl
  placed_none n (Some f) e = let z : ◌≡◌ {A = ℕ} 0 1 = cc e in absurd (omega arith)

  pub first_every : (ls : List Line) → first (λ l. at_place k l.number (q l)) ls ≡ None → Every Free ls
  unfolding first
  first_every [] e = tt
  first_every (l ∷ ls) e =
      let a = none_both (at_place k l.number (q l)) (first (λ l. at_place k l.number (q l)) ls) e in
      (same 0 0 l.number l.place l.raw l.ended ∙ placed_none l.number (q l) a.0, first_every ls a.1)

  pub every_first : (ls : List Line) → Every Free ls → first (λ l. at_place k l.number (q l)) ls ≡ None
  unfolding first
  every_first [] h = refl
  every_first (l ∷ ls) h =
      let a : q l ≡ None = same l.number l.place 0 0 l.raw l.ended ∙ h.0 in
      rw a (every_first ls h.1)

abbrev pub rest_of : List ℕ → Line → List ℕ
rest_of ns l = when named ns l then [] else line_bytes l

module _ (ns : List ℕ) where
  module _ (P : List ℕ → Bool → Type 0) (ended : (r : List ℕ) (b : Bool) → P r b → b ≡ true) where
    unfoldable Kept : List ℕ → Type 0
    Kept t = (n at m pl : ℕ) → Every P (logical_lines n at (split "\n" t))
        → Every P (logical_lines m pl (split "\n" (flat_map (rest_of ns) (logical_lines n at (split "\n" t)))))

    kept_nil : Kept []
    unfolding Kept flat_map
    kept_nil n at m pl = rw (logical_lines_nil n at, logical_lines_nil m pl) (λ h. tt)

    kept_more : (t : List ℕ) → 0 < length t → Kept (drop ((scan_line t).end + 1) t) → Kept t
    unfolding Kept flat_map
    kept_more t k ih n at m pl = rw (logical_lines_cons t n at k) (λ h. by (named ns (line n at (take (scan_line t).end t) (scan_line t).ended)) refl h)
      where
        r : List ℕ
        r = take (scan_line t).end t

        ls : List Line
        ls = logical_lines (n + (scan_line t).joins + 1) (at + (scan_line t).end + 1) (split "\n" (drop ((scan_line t).end + 1) t))

        by : (c : Bool) → named ns (line n at (take (scan_line t).end t) (scan_line t).ended) ≡ c
            → P (take (scan_line t).end t) (scan_line t).ended
            × Every P (logical_lines (n + (scan_line t).joins + 1) (at + (scan_line t).end + 1) (split "\n" (drop ((scan_line t).end + 1) t)))
            → Every P (logical_lines m pl (split "\n" (rest_of ns (line n at (take (scan_line t).end t) (scan_line t).ended)
            ++ flat_map (rest_of ns) (logical_lines (n + (scan_line t).joins + 1) (at + (scan_line t).end + 1) (split "\n" (drop ((scan_line t).end + 1) t))))))
        by true q h = rw q (ih (n + (scan_line t).joins + 1) (at + (scan_line t).end + 1) m pl h.1)
        by false q h =
            let b : (scan_line t).ended ≡ true = ended (take (scan_line t).end t) (scan_line t).ended h.0 in
            rw (
              q,
              b,
              append_assoc (take (scan_line t).end t) (10 ∷ []) (flat_map (rest_of ns) ls),
              whole_cons (take (scan_line t).end t) (scan_line t).joins (scan_whole t b (scan_line t).end refl (scan_length t b))
                  (flat_map (rest_of ns) ls) m pl,
            ) (
              rw b at h.0,
              ih (n + (scan_line t).joins + 1) (at + (scan_line t).end + 1) (m + (scan_line t).joins + 1) (pl + length (take (scan_line t).end t) + 1)
                  h.1,
            )

    pub every_kept : (t : List ℕ) → Every P (lines t) → Every P (lines (dropped ns t))
    unfolding Kept lines dropped rewrite
    every_kept t h = line_ind Kept kept_nil kept_more t 1 0 1 0 h

  -- ## No longer

  unfoldable NoLonger : List ℕ → Type 0
  NoLonger t = (n at : ℕ) → length (flat_map (rest_of ns) (logical_lines n at (split "\n" t))) ≤ length t

  no_longer_nil : NoLonger []
  unfolding NoLonger flat_map
  no_longer_nil n at = rw (logical_lines_nil n at) (omega arith)

  no_longer_more : (t : List ℕ) → 0 < length t → NoLonger (drop ((scan_line t).end + 1) t) → NoLonger t
  unfolding NoLonger flat_map
  no_longer_more t k ih n at =
      rw (logical_lines_cons t n at k)
      (by (named ns (line n at (take (scan_line t).end t) (scan_line t).ended)) (scan_line t).ended refl
      (ih (n + (scan_line t).joins + 1) (at + (scan_line t).end + 1)))
    where
      tail : List ℕ
      tail = flat_map (rest_of ns) (logical_lines (n + (scan_line t).joins + 1) (at + (scan_line t).end + 1) (split "\n" (drop ((scan_line t).end + 1) t)))

      by : (c b : Bool) → (scan_line t).ended ≡ b
          → length (flat_map (rest_of ns) (logical_lines (n + (scan_line t).joins + 1) (at + (scan_line t).end + 1) (split "\n" (drop ((scan_line t).end + 1) t)))) ≤
          length (drop ((scan_line t).end + 1) t)
          → length ((when c then [] else (take (scan_line t).end t ++ (when b then 10 ∷ [] else [])))
          ++ flat_map (rest_of ns) (logical_lines (n + (scan_line t).joins + 1) (at + (scan_line t).end + 1) (split "\n" (drop ((scan_line t).end + 1) t)))) ≤ length t
      by true b e h = omega (arith, h, length-drop ((scan_line t).end + 1) t)
      by false true e h =
          omega (arith, h, parts_ended t e, length-append (take (scan_line t).end t ++ (10 ∷ [])) tail, length-append (take (scan_line t).end t) (10 ∷ []))
      by false false e h =
          omega (arith, h, parts_few (scan_line t).end t, length-append (take (scan_line t).end t ++ []) tail, length-append (take (scan_line t).end t) [])

  pub length_dropped : (t : List ℕ) → length (dropped ns t) ≤ length t
  unfolding NoLonger lines dropped rewrite
  length_dropped t = line_ind NoLonger no_longer_nil no_longer_more t 1 0

  -- ## It is accepted

  line_same : (n at m pl : ℕ) (r : List ℕ) (b : Bool) → line_fault (line n at r b) ≡ line_fault (line m pl r b)
  unfolding line_fault_by
  line_same n at m pl r b = refl

  names_same : (f : Fault) (p : List ℕ → Bool) (n at m pl : ℕ) (r : List ℕ) (b : Bool)
      → given (line_names p (line n at r b)) f ≡ given (line_names p (line m pl r b)) f
  unfolding line_names
  names_same f p n at m pl r b = refl

  module _ (s : Section) (t : List ℕ) (h : hosts_fault s t ≡ None) where
    every_sound : Every (λ r b. line_fault (line 0 0 r b) ≡ None) (lines t)
    unfolding hosts_fault
    every_sound = first_every line_fault line_same s.order (lines t) h

    pub hosts_stays : hosts_fault s (dropped ns t) ≡ None
    unfolding hosts_fault
    hosts_stays =
        every_first line_fault line_same s.order (lines (dropped ns t))
        (every_kept (λ r b. line_fault (line 0 0 r b) ≡ None) (λ r b. sound_ended 0 0 r b) t every_sound)

    pub naming_stays : (f : Fault) (p : List ℕ → Bool) → naming_fault f p s t ≡ None → naming_fault f p s (dropped ns t) ≡ None
    unfolding naming_fault
    naming_stays f p e =
        every_first (λ l. given (line_names p l) f) (names_same f p) s.order (lines (dropped ns t))
        (every_map (λ r b. (line_fault (line 0 0 r b) ≡ None) × (given (line_names p (line 0 0 r b)) f ≡ None))
        (λ r b. given (line_names p (line 0 0 r b)) f ≡ None) (λ r b x. x.1)
        (lines (dropped ns t))
        (every_kept (λ r b. (line_fault (line 0 0 r b) ≡ None) × (given (line_names p (line 0 0 r b)) f ≡ None)) (λ r b x. sound_ended 0 0 r b x.0) t
        (every_both (λ r b. line_fault (line 0 0 r b) ≡ None) (λ r b. given (line_names p (line 0 0 r b)) f ≡ None) (lines t) every_sound
        (first_every (λ l. given (line_names p l) f) (names_same f p) s.order (lines t) e))))

  limit_stays : (s : Section) (t : List ℕ) → over_limit s t ≡ None → over_limit s (dropped ns t) ≡ None
  limit_stays s t e = by (ltb s.limit (length t)) refl e
    where
      by : (b : Bool) → ltb s.limit (length t) ≡ b → given b (refusal F.OverLimit s.order 0) ≡ None → over_limit s (dropped ns t) ≡ None
      by true q k = let z : ◌≡◌ {A = ℕ} 0 1 = cc k in absurd (omega arith)
      by false q k =
          rw (le-ltb s.limit (length (dropped ns t)) (omega (arith, ltb-false s.limit (length t) q, length_dropped t)))

  -- the new file passes the checks that the old one passed
  pub file_stays : (s : Section) (t five : List ℕ) → file_fault s t five ≡ None → file_fault s (dropped ns t) five ≡ None
  unfolding file_fault
  file_stays s t five e =
      let p = file_parts s t five e in
      let h = p.1.1.0 in
      rw (
        limit_stays s t p.0,
        p.1.0,
        hosts_stays s t h,
        naming_stays s t h F.TableName (is_missing (tables_of five)) p.1.1.1.0,
        p.1.1.1.1.0,
        naming_stays s t h F.TooDeep (leads_past (tables_of five) depth) p.1.1.1.1.1.0,
        p.1.1.1.1.1.1,
      )

-- ## Again

unfoldable Again : List ℕ → Type 0
Again t = (n at m pl : ℕ) (pre : List ℕ) (seen kept : List Rule) → Below n pre → CoverLess kept seen → first line_fault (logical_lines n at (split "\n" t)) ≡ None
    → covered_lines kept (logical_lines m pl (split "\n" (flat_map (rest_of (pre ++ covered_lines seen (logical_lines n at (split "\n" t))))
    (logical_lines n at (split "\n" t))))) ≡ []

again_nil : Again []
unfolding Again flat_map covered_lines
again_nil n at m pl pre seen kept p c h = rw (logical_lines_nil n at, logical_lines_nil m pl)

kept_cons : (kept : List Rule) (l : Line) (ls : List Line) → covered_by kept l ≡ false → covered_lines (with_rule (rule_of l) kept) ls ≡ []
    → covered_lines kept (l ∷ ls) ≡ []
unfolding covered_lines
kept_cons kept l ls e h = rw e h

-- one line, the numbers of whose proposal are parted
module _ (t : List ℕ) (n at m pl : ℕ) (pre : List ℕ) (seen kept : List Rule) (p : Below n pre) (c : CoverLess kept seen)
    (ih : Again (drop ((scan_line t).end + 1) t)) where
  abbrev own : Line
  own = line n at (take (scan_line t).end t) (scan_line t).ended

  abbrev others : List Line
  others = logical_lines (n + (scan_line t).joins + 1) (at + (scan_line t).end + 1) (split "\n" (drop ((scan_line t).end + 1) t))

  abbrev proposed : List ℕ
  proposed = pre ++ covered_lines seen (own ∷ others)

  up : Ascend (suc n) others
  unfolding Ascending
  up =
      ascend_from (suc n) (n + (scan_line t).joins + 1) others (omega arith)
      (ascending (drop ((scan_line t).end + 1) t) (n + (scan_line t).joins + 1) (at + (scan_line t).end + 1))

  regrouped : (b : Bool) → covered_by seen own ≡ b → (pre ++ (when b then n ∷ [] else [])) ++ covered_lines (with_rule (rule_of own) seen) others ≡ proposed
  unfolding covered_lines
  regrouped b q = append_assoc pre (when b then n ∷ [] else []) (covered_lines (with_rule (rule_of own) seen) others) ∙ rw q

  later : (b : Bool) → covered_by seen own ≡ b → (m' pl' : ℕ) (kept' : List Rule) → CoverLess kept' (with_rule (rule_of own) seen) → first line_fault others ≡ None
      → covered_lines kept' (logical_lines m' pl' (split "\n" (flat_map (rest_of proposed) others))) ≡ []
  unfolding Again
  later b q m' pl' kept' less h =
      ap (λ (ns : List ℕ). covered_lines kept' (logical_lines m' pl' (split "\n" (flat_map (rest_of ns) others)))) (sym (regrouped b q))
      ∙ ih (n + (scan_line t).joins + 1) (at + (scan_line t).end + 1) m' pl' (pre ++ (when b then n ∷ [] else [])) (with_rule (rule_of own) seen) kept'
      (λ k e. below_more b n n pre (omega arith) p k (omega arith)) less h

  again_line : line_fault own ≡ None → first line_fault others ≡ None → (b : Bool) → covered_by seen own ≡ b
      → covered_lines kept (logical_lines m pl (split "\n" (rest_of proposed own ++ flat_map (rest_of proposed) others))) ≡ []
  again_line f h true q =
      let is-named : named proposed own ≡ true = named_covered pre seen own others up (p n (omega arith)) ∙ q in
      rw is-named (later true q m pl kept (less_right (rule_of own) kept seen c) h)
  again_line f h false q =
      let is-named : named proposed own ≡ false = named_covered pre seen own others up (p n (omega arith)) ∙ q in
      let b : (scan_line t).ended ≡ true = sound_ended n at (take (scan_line t).end t) (scan_line t).ended f in
      rw is-named
      (ap (λ (x : Bool). covered_lines kept (logical_lines m pl (split "\n"
      ((take (scan_line t).end t ++ (when x then 10 ∷ [] else [])) ++ flat_map (rest_of proposed) others)))) b
      ∙ (ap (λ (s : List ℕ). covered_lines kept (logical_lines m pl (split "\n" s)))
      (append_assoc (take (scan_line t).end t) (10 ∷ []) (flat_map (rest_of proposed) others))
      ∙ (ap (covered_lines kept)
      (whole_cons (take (scan_line t).end t) (scan_line t).joins (scan_whole t b (scan_line t).end refl (scan_length t b))
      (flat_map (rest_of proposed) others) m pl)
      ∙ first_kept)))
    where
      first_kept : covered_lines kept (line m pl (take (scan_line t).end t) true
          ∷ logical_lines (m + (scan_line t).joins + 1) (pl + length (take (scan_line t).end t) + 1) (split "\n" (flat_map (rest_of proposed) others))) ≡ []
      first_kept =
          kept_cons kept (line m pl (take (scan_line t).end t) true)
          (logical_lines (m + (scan_line t).joins + 1) (pl + length (take (scan_line t).end t) + 1) (split "\n" (flat_map (rest_of proposed) others)))
          (uncovered (covered_by kept own) refl)
          (later false q (m + (scan_line t).joins + 1) (pl + length (take (scan_line t).end t) + 1) (with_rule (rule_of own) kept)
          (less_both (rule_of own) kept seen c) h)
        where
          uncovered : (x : Bool) → covered_by kept own ≡ x → covered_by kept own ≡ false
          uncovered true e = absurd (true≢false (sym (less_covered kept seen own c e) ∙ q))
          uncovered false e = e

again_more : (t : List ℕ) → 0 < length t → Again (drop ((scan_line t).end + 1) t) → Again t
unfolding Again flat_map first
again_more t k ih n at m pl pre seen kept p c = rw (logical_lines_cons t n at k) (λ h.
    let a = none_both (line_fault (own t n at m pl pre seen kept p c ih)) (first line_fault (others t n at m pl pre seen kept p c ih)) h in
    again_line t n at m pl pre seen kept p c ih a.0 a.1 (covered_by seen (own t n at m pl pre seen kept p c ih)) refl)

-- "tidying it again proposes nothing"
pub again : (t : List ℕ) → first line_fault (lines t) ≡ None → proposal (dropped (proposal t) t) ≡ []
unfolding Again lines proposal dropped rewrite any
again t h = line_ind Again again_nil again_more t 1 0 1 0 [] [] [] (λ m e. refl) (λ v e. e) h
