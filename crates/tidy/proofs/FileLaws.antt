-- The new file: its lines are the kept lines of the old one, and what decides is the same but for its line.
--   dropped_search == by the new file the same verdict and file, "the line moves by the lines removed above it"
-- Assumes nothing.
use Rattle.std.specs.Prelude.{None, Option, Some}
use Prim.Native.Nat.{ℕ, zero, suc, ◌+◌, ◌<◌, ◌≤◌}
use mathlib.Core.Bool.{Bool, true, false, not, ◌&&◌, ◌||◌, true≢false}
use mathlib.Core.List.{List, [], ◌∷◌, ◌++◌, flat_map, append_assoc}
use mathlib.Core.Path.{◌≡◌, refl, sym, ap, ◌∙◌}
use native.Mathlib.Numerals.{add-one}
use native.Mathlib.Omega.{arith}
use borrow.Author.Tests.{ne_eqb, lt-ltb, le-ltb}
use lib.Dec.{eqb, ltb}
use lib.ListN.{length, take, drop}
use Rattle.text.specs.Basics.{when◌then◌else◌, ◌>>=◌, ◌or_else◌, any, first}
use Rattle.text.specs.Text.{bytes, cons_head, split}
use Rattle.section.specs.declared.Fault.{Fault}
use Rattle.section.specs.declared.Refusal.{Refusal}
use Rattle.section.specs.Refusal.{lowest, at_place}
use Rattle.section.specs.Section.{Section}
use Rattle.lines.specs.Line.{Line, line, logical_lines, lines, is_comment, is_blank}
use Rattle.lines.specs.Rewrite.{line_bytes, rewrite, line_count}
use Rattle.lines.specs.Rule.{Rule, parse_rule}
use Rattle.lines.specs.Scan.{scan, scan_line}
use Rattle.lines.proofs.LineLaws.{any_one, scan_ind, scan_byte, logical_lines_cons, logical_lines_nil}
use Rattle.lines.proofs.RewriteLaws.{Whole, whole_cons, scan_whole, scan_length, line_ind}
use Rattle.elements.specs.declared.Found.{Found}
use Rattle.elements.specs.declared.Found.TheVariants as Found
use Rattle.elements.specs.Request.{Request}
use Rattle.tables.specs.Table.{Table, match_of}
use Rattle.lists.specs.Walk.{rule_found}
use Rattle.rules.specs.declared.Verdict.{Verdict}
use Rattle.rules.specs.declared.File.{File}
use Rattle.rules.specs.declared.Answer.{Answer}
use Rattle.rules.specs.Check.{line_fault_by, line_fault, hosts_fault}
use Rattle.rules.specs.Search.{rule_answer, line_answer}
use Rattle.tidy.specs.Tidy.{named, accepts, dropped, removed_above}
use Rattle.tidy.proofs.SearchLaws.{kept_lines, accepted_search}
use Rattle.tidy.proofs.ProposalLaws.{Ascend, ascend_from, Ascending, ascending}

-- a line without a fault has its newline
sound_ended : (n at : ℕ) (r : List ℕ) (b : Bool) → line_fault (line n at r b) ≡ None → b ≡ true
unfolding line_fault_by lowest
sound_ended n at r true e = refl
sound_ended n at r false e = let z : ◌≡◌ {A = ℕ} 0 1 = cc in absurd (omega arith)

-- ## Physical lines

-- a scanned line has one physical line more than dropped pairs
Counted : Bool → List ℕ → Type 0
Counted b t = length (split "\n" (take (scan b t).end t)) ≡ suc (scan b t).joins

head_length : (x : ℕ) (ws : List (List ℕ)) (n : ℕ) → length ws ≡ suc n → length (cons_head x ws) ≡ suc n
head_length x [] n e = absurd (omega arith)
head_length x (w ∷ ws) n e = e

byte : (x : ℕ) (s : List ℕ) (j : ℕ) → (x ≡ 10 → ⊥) → length (split "\n" s) ≡ suc j → length (split "\n" (x ∷ s)) ≡ suc j
unfolding split
byte x s j n h = rw (any_one x 10, ne_eqb x 10 n) (head_length x (split "\n" s) j h)

counted : (b : Bool) (t : List ℕ) → Counted b t
unfolding Counted scan split any
counted = scan_ind Counted
    (λ b. refl)
    (λ t. refl)
    (λ t h. ap suc h)
    (λ b x t n h. rw (scan_byte b x t n) (byte x (take (scan (eqb x 92) t).end t) (scan (eqb x 92) t).joins n h))

pub line_count_joins : (t : List ℕ) (n at : ℕ) (b : Bool) → line_count (line n at (take (scan_line t).end t) b) ≡ suc (scan_line t).joins
unfolding Counted scan_line
line_count_joins t n at b = counted false t

-- ## A line that is moved

-- both answer nothing, or the same but for the line (and the place of the command)
abbrev pub MovedLine : ℕ → ℕ → Option Answer → Option Answer → Type 0
MovedLine n m None None = Unit {0}
MovedLine n m None (Some b) = ⊥
MovedLine n m (Some a) None = ⊥
MovedLine n m (Some a) (Some b) = (b.verdict ≡ a.verdict) × (b.file ≡ a.file) × (a.line ≡ n) × (b.line ≡ m)

module _ (v : Verdict) (f : File) (found : Rule → Found) where
  moved_line : (n at m pl : ℕ) (s : List ℕ) (b : Bool) → MovedLine n m (line_answer v f found (line n at s b)) (line_answer v f found (line m pl s b))
  unfolding line_answer
  moved_line n at m pl s b = by (is_comment (line n at s b) || is_blank (line n at s b)) (parse_rule s)
    where
      by_found : (u : Rule) (x : Found) → MovedLine n m (rule_answer v f (line n at s b) u x) (rule_answer v f (line m pl s b) u x)
      by_found u Found.No = tt
      by_found u Found.Yes = (refl, refl, refl, refl)
      by_found u Found.Ask = (refl, refl, refl, refl)

      by : (c : Bool) (o : Option Rule)
          → MovedLine n m (when c then None else (o >>= λ u. rule_answer v f (line n at s b) u (found u)))
          (when c then None else (o >>= λ u. rule_answer v f (line m pl s b) u (found u)))
      by true o = tt
      by false None = tt
      by false (Some u) = by_found u (found u)

-- ## The new file

-- nothing is removed above a line by lines that follow it
removed_none : (ns : List ℕ) (n : ℕ) (ls : List Line) → Ascend n ls → removed_above ns n ls ≡ 0
unfolding removed_above
removed_none ns n [] a = refl
removed_none ns n (l ∷ ls) a =
    rw (le-ltb l.number n a.0, removed_none ns n ls (ascend_from n (suc l.number) ls (omega (arith, a.0)) a.1)) (by (named ns l))
  where
    by : (b : Bool) → (when b && false then line_count l else 0) + 0 ≡ 0
    by true = refl
    by false = refl

above_none : (ns : List ℕ) (n : ℕ) (l : Line) (ls : List Line) → named ns l ≡ false → Ascend (suc n) ls → removed_above ns n (l ∷ ls) ≡ 0
unfolding removed_above
above_none ns n l ls q a = rw (q, removed_none ns n ls (ascend_from n (suc n) ls (omega arith) a))

module _ (v : Verdict) (f : File) (ts : List Table) (r : Request) (s : Section) (ns : List ℕ) where
  abbrev found : Rule → Found
  found = rule_found (match_of ts) r

  abbrev fault_of : Line → Option Refusal
  fault_of l = at_place s.order l.number (line_fault l)

  abbrev answer_of : Line → Option Answer
  answer_of l = line_answer v f found l

  abbrev rest_of : Line → List ℕ
  rest_of l = when named ns l then [] else line_bytes l

  -- the answers of old lines, the first of which has the number k, and of new ones, where d lines were removed before them
  abbrev pub Moved : ℕ → ℕ → List Line → Option Answer → Option Answer → Type 0
  Moved k d ls None None = Unit {0}
  Moved k d ls None (Some b) = ⊥
  Moved k d ls (Some a) None = ⊥
  Moved k d ls (Some a) (Some b) = (b.verdict ≡ a.verdict) × (b.file ≡ a.file) × (k ≤ a.line) × (b.line + (d + removed_above ns a.line ls) ≡ a.line)

  -- after a line that is dropped, and after one that answers nothing
  moved_dropped : (l : Line) (k d j : ℕ) (ls : List Line) → named ns l ≡ true → line_count l ≡ j → l.number + j ≡ k
      → (x y : Option Answer) → l.number < k → Moved k (d + j) ls x y → Moved l.number d (l ∷ ls) x y
  unfolding removed_above
  moved_dropped l k d j ls q c e None None h m = tt
  moved_dropped l k d j ls q c e None (Some b) h m = absurd m
  moved_dropped l k d j ls q c e (Some a) None h m = absurd m
  moved_dropped l k d j ls q c e (Some a) (Some b) h m =
      (m.0, m.1, omega (arith, m.2), rw (q, lt-ltb l.number a.line (omega (arith, m.2)), c) (omega (arith, m.3)))

  moved_kept : (l : Line) (k d : ℕ) (ls : List Line) → named ns l ≡ false → l.number < k
      → (x y : Option Answer) → Moved k d ls x y → Moved l.number d (l ∷ ls) x y
  unfolding removed_above
  moved_kept l k d ls q h None None m = tt
  moved_kept l k d ls q h None (Some b) m = absurd m
  moved_kept l k d ls q h (Some a) None m = absurd m
  moved_kept l k d ls q h (Some a) (Some b) m = (m.0, m.1, omega (arith, m.2), rw q (omega (arith, m.3)))

  -- a kept line, then the others
  moved_first : (l : Line) (n m d k : ℕ) (ls : List Line) → l.number ≡ n → n ≡ m + d → n < k → named ns l ≡ false → Ascend (suc n) ls
      → (x y xs ys : Option Answer) → MovedLine n m x y → Moved k d ls xs ys → Moved n d (l ∷ ls) (x or_else xs) (y or_else ys)
  moved_first l n m d k ls e g h q a None None xs ys p w = rw (← e) (moved_kept l k d ls q (rw e h) xs ys w)
  moved_first l n m d k ls e g h q a None (Some b) xs ys p w = absurd p
  moved_first l n m d k ls e g h q a (Some c) None xs ys p w = absurd p
  moved_first l n m d k ls e g h q a (Some c) (Some b) xs ys p w =
      (p.0, p.1, omega (arith, p.2), rw (p.2, above_none ns n l ls q a) (omega (arith, p.3, g)))

  -- line by line
  Moves : List ℕ → Type 0
  Moves t = (n at m pl d : ℕ) → n ≡ m + d → first fault_of (logical_lines n at (split "\n" t)) ≡ None
      → Moved n d (logical_lines n at (split "\n" t)) (first answer_of (kept_lines ns (logical_lines n at (split "\n" t))))
      (first answer_of (logical_lines m pl (split "\n" (flat_map rest_of (logical_lines n at (split "\n" t))))))

  moves_nil : Moves []
  unfolding Moves flat_map first kept_lines
  moves_nil n at m pl d e h = rw (logical_lines_nil n at, logical_lines_nil m pl) tt

  moves_more : (t : List ℕ) → 0 < length t → Moves (drop ((scan_line t).end + 1) t) → Moves t
  unfolding Moves flat_map first kept_lines Ascending
  moves_more t k ih n at m pl d e = rw (logical_lines_cons t n at k) (by (line_fault l) refl (named ns l) refl)
    where
      j : ℕ
      j = (scan_line t).joins

      l : Line
      l = line n at (take (scan_line t).end t) (scan_line t).ended

      ls : List Line
      ls = logical_lines (n + (scan_line t).joins + 1) (at + (scan_line t).end + 1) (split "\n" (drop ((scan_line t).end + 1) t))

      new : List ℕ
      new = flat_map rest_of (logical_lines (n + (scan_line t).joins + 1) (at + (scan_line t).end + 1) (split "\n" (drop ((scan_line t).end + 1) t)))

      by : (o : Option Fault) → line_fault l ≡ o → (c : Bool) → named ns l ≡ c → fault_of l or_else first fault_of ls ≡ None
          → Moved n d (l ∷ ls) (first answer_of (when named ns l then kept_lines ns ls else l ∷ kept_lines ns ls))
          (first answer_of (logical_lines m pl (split "\n" (rest_of l ++ new))))
      by (Some g) p c q h = let z : ◌≡◌ {A = ℕ} 0 1 = cc (rw p at h) in absurd (omega arith)
      by None p true q h =
          rw q
          (moved_dropped l (n + (scan_line t).joins + 1) d (suc (scan_line t).joins) ls q (line_count_joins t n at (scan_line t).ended) (omega arith)
          (first answer_of (kept_lines ns ls)) (first answer_of (logical_lines m pl (split "\n" new))) (omega arith)
          (ih (n + (scan_line t).joins + 1) (at + (scan_line t).end + 1) m pl (d + suc (scan_line t).joins) (omega arith) (rw p at h)))
      by None p false q h =
          let b : (scan_line t).ended ≡ true = sound_ended n at (take (scan_line t).end t) (scan_line t).ended p in
          rw (
            q,
            b,
            append_assoc (take (scan_line t).end t) (10 ∷ []) new,
            whole_cons (take (scan_line t).end t) (scan_line t).joins (scan_whole t b (scan_line t).end refl (scan_length t b)) new m pl,
          )
          (moved_first (line n at (take (scan_line t).end t) true) n m d (n + (scan_line t).joins + 1) ls refl e (omega arith) q
          (ascend_from (suc n) (n + (scan_line t).joins + 1) ls (omega arith)
          (ascending (drop ((scan_line t).end + 1) t) (n + (scan_line t).joins + 1) (at + (scan_line t).end + 1)))
          (answer_of (line n at (take (scan_line t).end t) true)) (answer_of (line m pl (take (scan_line t).end t) true))
          (first answer_of (kept_lines ns ls)) (first answer_of (logical_lines (m + (scan_line t).joins + 1) (pl + length (take (scan_line t).end t) + 1)
          (split "\n" new)))
          (moved_line v f found n at m pl (take (scan_line t).end t) true)
          (ih (n + (scan_line t).joins + 1) (at + (scan_line t).end + 1) (m + (scan_line t).joins + 1) (pl + length (take (scan_line t).end t) + 1) d (omega arith)
          (rw p at h)))

  under_lines : (t : List ℕ) → first fault_of (lines t) ≡ None
      → Moved 1 0 (lines t) (first answer_of (kept_lines ns (lines t))) (first answer_of (lines (flat_map rest_of (lines t))))
  unfolding Moves lines
  under_lines t h = line_ind Moves moves_nil moves_more t 1 0 1 0 0 (omega arith) h

  -- "Every request then gets the same verdict or ask, file ..; the line moves by the lines removed above it."
  pub dropped_search : (t : List ℕ) → hosts_fault s t ≡ None → accepts t ns ≡ true
      → Moved 1 0 (lines t) (first answer_of (lines t)) (first answer_of (lines (dropped ns t)))
  unfolding Moves dropped rewrite hosts_fault
  dropped_search t h a = rw (accepted_search v f ts r t ns a) (under_lines t h)
