-- Laws of the new file, shaped as the calls and tests of the code hand their facts over.
--   Measuring, Keeping == the loops' invariants
-- Assumes nothing.
use Prim.Native.Nat.{ℕ, zero, suc, ◌+◌, ◌*◌, ◌-◌, ◌<◌, ◌≤◌}
use native.Mathlib.Nat.{add-sub_cancel_left}
use native.Mathlib.Numerals.{add-one}
use native.Mathlib.Omega.{arith}
use mathlib.Core.Bool.{Bool, true, false, not}
use mathlib.Core.List.{List, [], ◌∷◌, ◌++◌, flat_map, append_assoc, append-nil}
use mathlib.Core.Path.{◌≡◌, refl, sym, ap, ap₂, ◌∙◌}
use borrow.Author.Tests.{eq-eqb, ne_eqb}
use lib.Dec.{eqb}
use lib.ListN.{length, take, drop, get_or, length-append, length-drop}
use lib.Seq.{length-take-le}
use Rattle.text.specs.Basics.{when◌then◌else◌}
use Rattle.text.specs.Text.{split}
use Rattle.text.specs.Scan.{put_at, after}
use Rattle.text.proofs.PasteLaws.{put_more, length_put_at, after_nil}
use Rattle.lines.specs.declared.line.LineSpan.{LineSpan}
use Rattle.lines.specs.Line.{Line, line, logical_lines, lines}
use Rattle.lines.specs.Rewrite.{line_bytes}
use Rattle.lines.specs.Scan.{span_at, scan_line}
use Rattle.lines.proofs.LineLaws.{logical_lines_drop, logical_lines_end, lines_start}
use Rattle.lines.proofs.RewriteLaws.{scan_text}
use Rattle.tidy.specs.Code.{Sound, size_here, kept_here, kept_line, kept_bytes}
use Rattle.tidy.proofs.NumberLaws.{put_at_nil}
use Rattle.tidy.proofs.WalkLaws.{At, at_start, at_next, at_ended, at_below, at_from, at_number}

-- ## One line

module _ (marks : List ℕ) (n size : ℕ) where
  pub size_none : get_or marks n 0 ≡ 2 → 0 ≡ size_here marks n size
  unfolding size_here
  size_none e = rw (eq-eqb (get_or marks n 0) 2 e)

  pub size_all : (get_or marks n 0 ≡ 2 → ⊥) → size ≡ size_here marks n size
  unfolding size_here
  size_all e = rw (ne_eqb (get_or marks n 0) 2 e)

length_here : (marks : List ℕ) (n : ℕ) (s : List ℕ) → length (kept_here marks n s) ≡ size_here marks n (length s)
unfolding kept_here size_here
length_here marks n s = by (eqb (get_or marks n 0) 2)
  where
    by : (b : Bool) → length (when b then [] else s) ≡ (when b then 0 else length s)
    by true = refl
    by false = refl

size_few : (marks : List ℕ) (n k : ℕ) → size_here marks n k ≤ k
unfolding size_here
size_few marks n k = by (eqb (get_or marks n 0) 2)
  where
    by : (b : Bool) → (when b then 0 else k) ≤ k
    by true = omega arith
    by false = omega arith

module _ (d marks s : List ℕ) (at n : ℕ) where
  module _ (e : get_or marks n 0 ≡ 2) where
    here_none : kept_here marks n s ≡ []
    unfolding kept_here
    here_none = rw (eq-eqb (get_or marks n 0) 2 e)

    pub line_none : at ≡ at + length (kept_here marks n s)
    line_none = omega (arith, ap length here_none)

    pub line_none_kept : d ≡ put_at d at (kept_here marks n s)
    line_none_kept = sym (ap (put_at d at) here_none ∙ put_at_nil d at)

  module _ (e : get_or marks n 0 ≡ 2 → ⊥) where
    here_all : kept_here marks n s ≡ s
    unfolding kept_here
    here_all = rw (ne_eqb (get_or marks n 0) 2 e)

    pub line_room : at + length (kept_here marks n s) ≤ length d → at + length s ≤ length d
    line_room r = omega (arith, r, ap length here_all)

    pub line_all : (m : ℕ) → m ≡ at + length s → m ≡ at + length (kept_here marks n s)
    line_all m w = omega (arith, w, ap length here_all)

    pub line_all_kept : (o : List ℕ) → o ≡ put_at d at s → o ≡ put_at d at (kept_here marks n s)
    line_all_kept o w = w ∙ ap (put_at d at) (sym here_all)

-- ## The lines of a text

kept_nil : (marks : List ℕ) → kept_bytes marks [] ≡ []
unfolding kept_bytes flat_map
kept_nil marks = refl

kept_cons : (marks : List ℕ) (l : Line) (ls : List Line) → kept_bytes marks (l ∷ ls) ≡ kept_line marks l ++ kept_bytes marks ls
unfolding kept_bytes flat_map
kept_cons marks l ls = refl

whole_line : (t : List ℕ) → (scan_line t).ended ≡ true → take (scan_line t).end t ++ (10 ∷ []) ≡ take (suc (scan_line t).end) t
whole_line t e = by (scan_line t).end t (scan_text t e)
  where
    by : (k : ℕ) (s : List ℕ) → s ≡ take k s ++ (10 ∷ drop (suc k) s) → take k s ++ (10 ∷ []) ≡ take (suc k) s
    by zero [] q = let z : ◌≡◌ {A = ℕ} 0 (suc 0) = ap length q in absurd (omega arith)
    by zero (x ∷ s) q = ap (λ (y : ℕ). y ∷ []) (sym (ap (λ (l : List ℕ). get_or l 0 0) q))
    by (suc k) [] q = let z : ◌≡◌ {A = ℕ} 0 (suc 0) = ap length q in absurd (omega arith)
    by (suc k) (x ∷ s) q = ap (λ (l : List ℕ). x ∷ l) (by k s (ap (drop 1) q))

module _ (text marks : List ℕ) (i n : ℕ) (h : At text i n) (l : i < length text) (r : LineSpan) (is-r : r ≡ span_at i (scan_line (drop i text))) where
  abbrev rest : List Line
  rest = logical_lines (n + r.joins + 1) (r.end + 1) (split "\n" (drop (r.end + 1) text))

  -- the line and its newline
  whole : line_bytes (line n i (take (r.end - i) (drop i text)) r.ended) ≡ take (r.end + 1 - i) (drop i text)
  whole =
      rw (at_ended text i n h l r is-r)
      (rw (is-r, add-sub_cancel_left i (scan_line (drop i text)).end, next)
      (whole_line (drop i text) (sym (ap (λ (x : LineSpan). x.ended) is-r) ∙ at_ended text i n h l r is-r)))
    where
      next : i + (scan_line (drop i text)).end + 1 - i ≡ suc (scan_line (drop i text)).end
      next = omega arith

  pub kept_step : kept_bytes marks (logical_lines n i (split "\n" (drop i text))) ≡ kept_here marks n (take (r.end + 1 - i) (drop i text)) ++ kept_bytes marks rest
  kept_step =
      ap (kept_bytes marks) (logical_lines_drop text i r is-r n l)
      ∙ (kept_cons marks (line n i (take (r.end - i) (drop i text)) r.ended) rest
      ∙ ap (λ (s : List ℕ). kept_here marks n s ++ kept_bytes marks rest) whole)

  length_whole : length (take (r.end + 1 - i) (drop i text)) ≡ r.end + 1 - i
  length_whole =
      length-take-le (r.end + 1 - i) (drop i text) (omega (arith, at_below text i n h l r is-r, at_from text i n h l r is-r, length-drop i text))

  pub length_step : length (kept_bytes marks (logical_lines n i (split "\n" (drop i text)))) ≡ size_here marks n (r.end + 1 - i) + length (kept_bytes marks rest)
  length_step =
      ap length kept_step
      ∙ (length-append (kept_here marks n (take (r.end + 1 - i) (drop i text))) (kept_bytes marks rest)
      ∙ ap (λ (k : ℕ). k + length (kept_bytes marks rest)) (length_here marks n (take (r.end + 1 - i) (drop i text)) ∙ ap (size_here marks n) length_whole))

-- ## Measuring

pub record Measuring (text marks : List ℕ) (len i n : ℕ) : Type 0 where
  pub at : At text i n
  pub short : length text ≤ 16384
  pub few : len ≤ i
  pub so_far : length (kept_bytes marks (lines text)) ≡ len + length (kept_bytes marks (logical_lines n i (split "\n" (drop i text))))

pub measuring_start : (text marks : List ℕ) → length text ≤ 16384 → Sound text → Measuring text marks 0 0 1
measuring_start text marks l s =
    record {
      at = at_start text s;
      short = l;
      few = omega arith;
      so_far =
          omega (arith, ap (λ (ls : List Line). length (kept_bytes marks ls)) (lines_start text));
    }

module _ (text marks : List ℕ) (len i n : ℕ) (h : Measuring text marks len i n) where
  pub measuring_end : length text ≤ i → len ≡ length (kept_bytes marks (lines text))
  measuring_end l =
      omega (arith, h.so_far, ap length (ap (kept_bytes marks) (logical_lines_end text i n i l) ∙ kept_nil marks))

  module _ (l : i < length text) (r : LineSpan) (is-r : r ≡ span_at i (scan_line (drop i text))) where
    pub measuring_number : n < 16385
    measuring_number = at_number text i n h.at l r is-r h.short

    pub measuring_fits : (k : ℕ) → k ≡ size_here marks n (r.end + 1 - i) → len + k < 18446744073709551616
    measuring_fits k is-k =
        omega (arith, h.few, h.short, at_below text i n h.at l r is-r, at_from text i n h.at l r is-r, size_few marks n (r.end + 1 - i), is-k)

    pub measuring_more : (k : ℕ) → k ≡ size_here marks n (r.end + 1 - i) → Measuring text marks (len + k) (r.end + 1) (n + (r.joins + 1))
    measuring_more k is-k =
        let same : n + (r.joins + 1) ≡ n + r.joins + 1 = omega arith in
        rw same (record {
          at = at_next text i n h.at l r is-r;
          short = h.short;
          few = omega (arith, h.few, size_few marks n (r.end + 1 - i), at_from text i n h.at l r is-r, is-k);
          so_far = omega (arith, h.so_far, length_step text marks i n h.at l r is-r, is-k);
        })

-- ## Writing

pub record Keeping (d text marks out : List ℕ) (at i n : ℕ) : Type 0 where
  pub done : List ℕ
  pub stands : At text i n
  pub short : length text ≤ 16384
  pub place : at ≡ length done
  pub long : length out ≡ length d
  pub written : out ≡ after done d
  pub rest : kept_bytes marks (lines text) ≡ done ++ kept_bytes marks (logical_lines n i (split "\n" (drop i text)))
  pub room : length (kept_bytes marks (lines text)) ≤ length d

pub keeping_start : (d text marks : List ℕ) → length text ≤ 16384 → Sound text → length (kept_bytes marks (lines text)) ≤ length d → Keeping d text marks d 0 0 1
keeping_start d text marks l s r = record {
  done = [];
  stands = at_start text s;
  short = l;
  place = refl;
  long = refl;
  written = sym (after_nil d);
  rest = ap (kept_bytes marks) (lines_start text);
  room = r;
}

module _ (d text marks out : List ℕ) (at i n : ℕ) (h : Keeping d text marks out at i n) where
  pub keeping_end : length text ≤ i → out ≡ after (kept_bytes marks (lines text)) d
  keeping_end l =
      h.written
      ∙ ap (λ (s : List ℕ). after s d)
      (sym (h.rest ∙ (ap (λ (s : List ℕ). h.done ++ s) (ap (kept_bytes marks) (logical_lines_end text i n i l) ∙ kept_nil marks) ∙ append-nil h.done)))

  module _ (l : i < length text) (r : LineSpan) (is-r : r ≡ span_at i (scan_line (drop i text))) where
    abbrev own : List ℕ
    own = kept_here marks n (take (r.end + 1 - i) (drop i text))

    abbrev others : List ℕ
    others = kept_bytes marks (logical_lines (n + r.joins + 1) (r.end + 1) (split "\n" (drop (r.end + 1) text)))

    parted : kept_bytes marks (lines text) ≡ (h.done ++ own) ++ others
    parted =
        h.rest
        ∙ (ap (λ (s : List ℕ). h.done ++ s) (kept_step text marks i n h.stands l r is-r) ∙ sym (append_assoc h.done own others))

    pub keeping_number : n < 16385
    keeping_number = at_number text i n h.stands l r is-r h.short

    pub keeping_below : r.end + 1 ≤ length text
    keeping_below = omega (arith, at_below text i n h.stands l r is-r)

    pub keeping_room : at + length (kept_here marks n (take (r.end + 1 - i) (drop i text))) ≤ length out
    keeping_room = omega (arith, h.place, h.long, h.room, ap length parted, length-append (h.done ++ own) others, length-append h.done own)

    pub keeping_more : (o : List ℕ) (m : ℕ)
        → (m ≡ at + length (kept_here marks n (take (r.end + 1 - i) (drop i text))))
        × (o ≡ put_at out at (kept_here marks n (take (r.end + 1 - i) (drop i text))))
        → Keeping d text marks o m (r.end + 1) (n + (r.joins + 1))
    keeping_more o m w =
        let same : n + (r.joins + 1) ≡ n + r.joins + 1 = omega arith in
        rw same (record {
          done = h.done ++ own;
          stands = at_next text i n h.stands l r is-r;
          short = h.short;
          place = omega (arith, w.0, h.place, length-append h.done own);
          long = ap length w.1 ∙ (length_put_at out own at keeping_room ∙ h.long);
          written = put_more d out o h.done own at w.1 h.written h.place;
          rest = parted;
          room = h.room;
        })
