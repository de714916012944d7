-- The new file's answers have the same command bytes.
--   dropped_command == along the lines of the new file the command's bytes are the same
-- Assumes nothing.
use Rattle.std.specs.Prelude.{None, Option, Some}
use Prim.Native.Nat.{ℕ, zero, suc, ◌+◌, ◌-◌, ◌≤◌, ◌<◌}
use native.Mathlib.Nat.{add-zero}
use native.Mathlib.Numerals.{add-one}
use native.Mathlib.Omega.{arith}
use mathlib.Core.Bool.{Bool, true, false, not, ◌&&◌, ◌||◌}
use mathlib.Core.List.{List, [], ◌∷◌, ◌++◌, flat_map, append_assoc}
use mathlib.Core.Path.{◌≡◌, refl, sym, ap, ◌∙◌}
use borrow.Author.Tests.{ltb-true, ltb-false}
use lib.Dec.{eqb, ltb}
use lib.ListN.{length, take, drop, length-append, length-drop, take-append-drop}
use lib.Seq.{drop-drop, drop_at}
use Rattle.text.specs.Basics.{when◌then◌else◌, ◌>>=◌, ◌or_else◌, is_empty, first}
use Rattle.text.specs.Text.{split}
use Rattle.section.specs.declared.Part.{Part}
use Rattle.section.specs.Section.{part, bytes_at}
use Rattle.lines.specs.Line.{Line, line, logical_lines, lines, is_comment, is_blank}
use Rattle.lines.specs.Rewrite.{line_bytes, rewrite}
use Rattle.lines.specs.Rule.{Rule, parse_rule}
use Rattle.lines.specs.Parts.{separator_index, after_separator}
use Rattle.lines.specs.Command.{trimmed}
use Rattle.lines.specs.Scan.{scan_line}
use Rattle.lines.proofs.LineLaws.{logical_lines_cons, logical_lines_nil}
use Rattle.lines.proofs.RuleLaws.{parse_rule_none, parse_rule_parts}
use Rattle.lines.proofs.RewriteLaws.{whole_cons, scan_whole, scan_length, line_ind}
use Rattle.elements.specs.declared.Found.{Found}
use Rattle.elements.specs.declared.Found.TheVariants as Found
use Rattle.rules.specs.declared.Verdict.{Verdict}
use Rattle.rules.specs.declared.File.{File}
use Rattle.rules.specs.declared.Answer.{Answer}
use Rattle.rules.specs.Check.{line_fault}
use Rattle.rules.specs.Search.{raw_command, rule_answer, line_answer}
use Rattle.tidy.specs.Tidy.{named, dropped}
use Rattle.tidy.proofs.SearchLaws.{kept_lines}
use Rattle.tidy.proofs.NewFileLaws.{rest_of, sound_ended}
use Rattle.tidy.proofs.CheckLaws.{none_both}

-- ## The command within its line

after_few : (i : ℕ) (s : List ℕ) → length (after_separator i s) ≤ length s
unfolding after_separator
after_few i s = omega (arith, length-drop (i + 1) s)

command_few : (raw : List ℕ) (u : Rule) → parse_rule raw ≡ Some u → length u.command ≤ length raw
command_few raw u e = by (ltb (separator_index false raw) (length raw)) refl
  where
    i : ℕ
    i = separator_index false raw

    by : (b : Bool) → ltb (separator_index false raw) (length raw) ≡ b → length u.command ≤ length raw
    by true q =
        let rest : List ℕ = after_separator (separator_index false raw) raw in
        let p = parse_rule_parts raw (separator_index false raw) refl (ltb-true (separator_index false raw) (length raw) q)
        (after_separator (separator_index false raw) raw) refl
        (separator_index false (after_separator (separator_index false raw) raw)) refl
        (after_separator (separator_index false (after_separator (separator_index false raw) raw)) (after_separator (separator_index false raw) raw)) refl in
        let c : u.command ≡ after_separator (separator_index false (after_separator (separator_index false raw) raw))
        (after_separator (separator_index false raw) raw) = cc (sym e ∙ p) in
        omega (
          arith,
          ap length c,
          after_few (separator_index false (after_separator (separator_index false raw) raw))
              (after_separator (separator_index false raw) raw),
          after_few (separator_index false raw) raw,
        )
    by false q =
        let p = parse_rule_none raw (separator_index false raw) refl (ltb-false (separator_index false raw) (length raw) q) in
        let z : ◌≡◌ {A = ℕ} 0 1 = cc (sym e ∙ p) in absurd (omega arith)

-- a part of s is the same, whatever follows s
front : (s x : List ℕ) (k c : ℕ) → k + c ≤ length s → take c (drop k (s ++ x)) ≡ take c (drop k s)
front s x k zero h = refl
front [] x zero (suc c) h = absurd (omega arith)
front [] x (suc k) (suc c) h = absurd (omega arith)
front (y ∷ s) x zero (suc c) h = ap (λ (t : List ℕ). y ∷ t) (front s x zero c (omega arith))
front (y ∷ s) x (suc k) (suc c) h = front s x k (suc c) (omega arith)

part_there : (t s x : List ℕ) (at k c : ℕ) → drop at t ≡ s ++ x → k + c ≤ length s → bytes_at t (part (at + k) c) ≡ take c (drop k s)
part_there t s x at k c e h = ap (take c) (sym (drop-drop k at t) ∙ ap (drop k) e) ∙ front s x k c h

-- ## Answers

module _ (v : Verdict) (f : File) (found : Rule → Found) (ns old new : List ℕ) where
  abbrev pub SameCommand : Option Answer → Option Answer → Type 0
  SameCommand None None = Unit {0}
  SameCommand None (Some b) = ⊥
  SameCommand (Some a) None = ⊥
  SameCommand (Some a) (Some b) = (a.file ≡ f) × ((b.file ≡ f) × (bytes_at new b.command ≡ bytes_at old a.command))

  same_line : (n at m pl : ℕ) (s x y : List ℕ) (b : Bool) → drop at old ≡ s ++ x → drop pl new ≡ s ++ y
      → SameCommand (line_answer v f found (line n at s b)) (line_answer v f found (line m pl s b))
  unfolding line_answer
  same_line n at m pl s x y b p q = by (is_comment (line n at s b) || is_blank (line n at s b)) (parse_rule s) refl
    where
      command : (u : Rule) → parse_rule s ≡ Some u → bytes_at new (raw_command (line m pl s b) u) ≡ bytes_at old (raw_command (line n at s b) u)
      command u e = sized (is_empty (trimmed u.command))
        where
          few : length u.command ≤ length s
          few = command_few s u e

          sized : (z : Bool) → bytes_at new (part (pl + (length s - length u.command)) (when z then 0 else length u.command))
              ≡ bytes_at old (part (at + (length s - length u.command)) (when z then 0 else length u.command))
          sized true = refl
          sized false =
              part_there new s y pl (length s - length u.command) (length u.command) q (omega (arith, few))
              ∙ sym (part_there old s x at (length s - length u.command) (length u.command) p (omega (arith, few)))

      by_found : (u : Rule) → parse_rule s ≡ Some u → (z : Found) → SameCommand (rule_answer v f (line n at s b) u z) (rule_answer v f (line m pl s b) u z)
      by_found u e Found.No = tt
      by_found u e Found.Yes = (refl, (refl, command u e))
      by_found u e Found.Ask = (refl, (refl, refl))

      by : (c : Bool) (o : Option Rule) → parse_rule s ≡ o
          → SameCommand (when c then None else (o >>= λ u. rule_answer v f (line n at s b) u (found u)))
          (when c then None else (o >>= λ u. rule_answer v f (line m pl s b) u (found u)))
      by true o e = tt
      by false None e = tt
      by false (Some u) e = by_found u e (found u)

  same_else : (x y xs ys : Option Answer) → SameCommand x y → SameCommand xs ys → SameCommand (x or_else xs) (y or_else ys)
  same_else None None xs ys p q = q
  same_else None (Some b) xs ys p q = absurd p
  same_else (Some a) None xs ys p q = absurd p
  same_else (Some a) (Some b) xs ys p q = p

  abbrev answer_of : Line → Option Answer
  answer_of l = line_answer v f found l

  unfoldable Commands : List ℕ → Type 0
  Commands t = (n at m pl : ℕ) → drop at old ≡ t → drop pl new ≡ flat_map (rest_of ns) (logical_lines n at (split "\n" t))
      → first line_fault (logical_lines n at (split "\n" t)) ≡ None
      → SameCommand (first answer_of (kept_lines ns (logical_lines n at (split "\n" t))))
      (first answer_of (logical_lines m pl (split "\n" (flat_map (rest_of ns) (logical_lines n at (split "\n" t))))))

  commands_nil : Commands []
  unfolding Commands flat_map first kept_lines
  commands_nil n at m pl p q h = rw (logical_lines_nil n at, logical_lines_nil m pl) tt

  module _ (t : List ℕ) (ih : Commands (drop ((scan_line t).end + 1) t)) (n at m pl : ℕ) (p : drop at old ≡ t) where
    abbrev own : Line
    own = line n at (take (scan_line t).end t) (scan_line t).ended

    abbrev others : List Line
    others = logical_lines (n + (scan_line t).joins + 1) (at + (scan_line t).end + 1) (split "\n" (drop ((scan_line t).end + 1) t))

    abbrev rest : List ℕ
    rest = flat_map (rest_of ns) others

    old_next : drop (at + (scan_line t).end + 1) old ≡ drop ((scan_line t).end + 1) t
    old_next =
        let same : at + (scan_line t).end + 1 ≡ at + ((scan_line t).end + 1) = omega arith in
        ap (λ (k : ℕ). drop k old) same ∙ (sym (drop-drop ((scan_line t).end + 1) at old) ∙ ap (drop ((scan_line t).end + 1)) p)

    commands_line : (c : Bool) → named ns own ≡ c → drop pl new ≡ rest_of ns own ++ rest → line_fault own ≡ None → first line_fault others ≡ None
        → SameCommand (first answer_of (when named ns own then kept_lines ns others else own ∷ kept_lines ns others))
        (first answer_of (logical_lines m pl (split "\n" (rest_of ns own ++ rest))))
    unfolding Commands first
    commands_line true q d g h =
        rw q (ih (n + (scan_line t).joins + 1) (at + (scan_line t).end + 1) m pl old_next (rw q at d) h)
    commands_line false q d g h =
        let b : (scan_line t).ended ≡ true = sound_ended n at (take (scan_line t).end t) (scan_line t).ended g in
        let e : drop pl new ≡ take (scan_line t).end t ++ (10 ∷ rest) = (rw (q, b) at d) ∙ append_assoc (take (scan_line t).end t) (10 ∷ []) rest in
        rw (
          q,
          b,
          append_assoc (take (scan_line t).end t) (10 ∷ []) rest,
          whole_cons (take (scan_line t).end t) (scan_line t).joins (scan_whole t b (scan_line t).end refl (scan_length t b)) rest m pl,
        )
        (same_else (answer_of (line n at (take (scan_line t).end t) true)) (answer_of (line m pl (take (scan_line t).end t) true))
        (first answer_of (kept_lines ns others)) (first answer_of (logical_lines (m + (scan_line t).joins + 1) (pl + length (take (scan_line t).end t) + 1)
        (split "\n" rest)))
        (same_line n at m pl (take (scan_line t).end t) (drop (scan_line t).end t) (10 ∷ rest) true (p ∙ sym (take-append-drop (scan_line t).end t)) e)
        (ih (n + (scan_line t).joins + 1) (at + (scan_line t).end + 1) (m + (scan_line t).joins + 1) (pl + length (take (scan_line t).end t) + 1) old_next
        (new_next e) h))
      where
        new_next : drop pl new ≡ take (scan_line t).end t ++ (10 ∷ rest) → drop (pl + length (take (scan_line t).end t) + 1) new ≡ rest
        new_next e =
            let k : ℕ = length (take (scan_line t).end t) in
            sym (drop-drop 1 (pl + length (take (scan_line t).end t)) new)
            ∙ ap (drop 1) (sym (drop-drop (length (take (scan_line t).end t)) pl new)
            ∙ (ap (drop (length (take (scan_line t).end t))) e ∙ drop_at (take (scan_line t).end t) (10 ∷ rest) (length (take (scan_line t).end t)) refl))

  commands_more : (t : List ℕ) → 0 < length t → Commands (drop ((scan_line t).end + 1) t) → Commands t
  unfolding Commands flat_map first kept_lines
  commands_more t k ih n at m pl p = rw (logical_lines_cons t n at k) (λ d h.
      let a = none_both (line_fault (own t ih n at m pl p)) (first line_fault (others t ih n at m pl p)) h in
      commands_line t ih n at m pl p (named ns (own t ih n at m pl p)) refl d a.0 a.1)

-- the command's bytes are the same along the kept lines and along those of the new file
pub dropped_command : (v : Verdict) (f : File) (found : Rule → Found) (ns t : List ℕ) → first line_fault (lines t) ≡ None
    → SameCommand v f found ns t (dropped ns t) (first (line_answer v f found) (kept_lines ns (lines t))) (first (line_answer v f found) (lines (dropped ns t)))
unfolding Commands lines dropped rewrite
dropped_command v f found ns t h =
    line_ind (Commands v f found ns t (dropped ns t)) (commands_nil v f found ns t (dropped ns t))
    (commands_more v f found ns t (dropped ns t)) t 1 0 1 0 refl refl h
