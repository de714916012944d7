-- Laws of the pass that marks covered lines. The rules that were seen and not covered hang in chains, each in the chain of its bucket.
--   Chain, Hung   == a chain holds these rules; each bucket's chain holds those of the seen rules that are in it
--   Marking       == the loop's invariant: what is marked, what hangs in the chains, and what is left to do
-- Assumes nothing.
use Rattle.std.specs.Prelude.{None, Option, Some}
use Prim.Native.Nat.{ℕ, zero, suc, ◌+◌, ◌*◌, ◌-◌, ◌<◌, ◌≤◌, ◌/◌}
use native.Mathlib.Nat.{add-sub_cancel_left}
use native.Mathlib.Numerals.{add-one}
use native.Mathlib.Omega.{arith}
use mathlib.Core.Bool.{Bool, true, false, not, ◌&&◌, ◌||◌, true≢false, or-true}
use mathlib.Core.List.{List, [], ◌∷◌, ◌++◌, append_assoc, append-nil}
use mathlib.Core.Path.{◌≡◌, refl, sym, ap, ap₂, ◌∙◌}
use borrow.Author.Tests.{eq-eqb, ne_eqb, eqb-true, eqb-false, lt-ltb, le-ltb, le-leb, lt-leb, ltb-true, ltb-false, not-true, not-false}
use lib.Dec.{eqb, ltb, leb}
use lib.ListN.{length, take, drop, get_or, set, replicate, length-set, length-replicate, get_or-replicate}
use lib.Seq.{take_at, get_or-set_same, get_or-set_other}
use Rattle.text.specs.Basics.{when◌then◌else◌, ◌or_else◌, holds, is_some, any, all, first}
use Rattle.text.specs.Text.{among, first_among, split}
use Rattle.text.proofs.BasicLaws.{and_true, or_false}
use Rattle.text.proofs.Intercalate.{any_append}
use Rattle.section.specs.declared.Fault.{Fault}
use Rattle.lines.specs.declared.line.LineSpan.{LineSpan}
use Rattle.lines.specs.Line.{Line, line, join, logical_lines, lines, is_comment, is_blank}
use Rattle.lines.specs.Rule.{Rule, parse_rule}
use Rattle.lines.specs.Parts.{separator_index, after_separator}
use Rattle.lines.specs.Scan.{span_at, scan_line}
use Rattle.lines.proofs.LineLaws.{logical_lines_drop, logical_lines_end, lines_start, length_join_line, join_line}
use Rattle.lines.proofs.RuleLaws.{parse_rule_none, parse_rule_parts}
use Rattle.rules.specs.Check.{line_fault}
use Rattle.tidy.specs.Tidy.{rule_of, same_lists, matches_all, covers, covered_by, with_rule, covered_lines, proposal}
use Rattle.tidy.specs.Code.{same_text, all_text, bucket_text, raw_at, same_at, link_at, repeats, beginning, is_repeat, linked, rule_all, rule_marks, rule_links}
use Rattle.tidy.specs.Code.{has_rule, step_all, step_marks, step_links, Sound, flag, Marked}
use Rattle.tidy.proofs.RuleLaws.{same_of, all_of, bucket_of, bucket_of_lem, bucket_same, bucket_small}
use Rattle.tidy.proofs.ProposalLaws.{covered_lines_same, covered_adds}
use Rattle.tidy.proofs.WalkLaws.{At, at_start, at_next, at_short, at_raw, at_from, at_number, at_rule}

-- ## A line

module _ (raw : List ℕ) (x : Bool) (is_x : x ≡ first_among "#" (join raw)) where
  pub has_comment : x ≡ true → false ≡ has_rule raw
  has_comment e = rw (← is_x, e)

  module _ (e : x ≡ false) (y : Bool) (is_y : y ≡ all (among " \t") (join raw)) where
    pub has_blank : y ≡ true → false ≡ has_rule raw
    has_blank f = rw (← is_x, e, ← is_y, f)

    pub has_separator : y ≡ false → (i : ℕ) → i ≡ separator_index false raw → ltb i (length raw) ≡ has_rule raw
    has_separator f i is-i = rw (← is_x, e, ← is_y, f) (by (ltb i (length raw)) refl)
      where
        by : (b : Bool) → ltb i (length raw) ≡ b → b ≡ is_some (parse_rule raw)
        by true q = rw (parse_rule_parts raw i is-i (ltb-true i (length raw) q) (after_separator i raw) refl (separator_index false (after_separator i raw)) refl
            (after_separator (separator_index false (after_separator i raw)) (after_separator i raw)) refl)
        by false q = rw (parse_rule_none raw i is-i (ltb-false i (length raw) q))

module _ (s o o₀ : List ℕ) (n : ℕ) (is-n : n ≡ length (join s)) (is-o : o ≡ join s ++ drop (length (join s)) o₀) where
  joined_part : take n o ≡ join s
  joined_part = rw (is-o, is-n) (take_at (join s) (drop (length (join s)) o₀) (length (join s)) refl)

  pub joined_length : n ≡ length (take n o)
  joined_length = rw joined_part is-n

  pub joined_same : (t : List ℕ) (x : Bool) → x ≡ same_text (take n o) t → x ≡ same_text (join s) t
  joined_same t x e = e ∙ ap (λ (a : List ℕ). same_text a t) joined_part

  module _ (text links marks : List ℕ) (i k : ℕ) where
    pub joined_all : (r : Bool) → r ≡ rule_all text links (take n o) → r ≡ rule_all text links (join s)
    joined_all r e = e ∙ ap (rule_all text links) joined_part

    pub joined_marks : (m : List ℕ) → m ≡ rule_marks text links k (take n o) marks → m ≡ rule_marks text links k (join s) marks
    joined_marks m e = e ∙ ap (λ (t : List ℕ). rule_marks text links k t marks) joined_part

    pub joined_links : (l : List ℕ) → l ≡ rule_links text links i (take n o) → l ≡ rule_links text links i (join s)
    joined_links l e = e ∙ ap (rule_links text links i) joined_part

-- ## The place of a rule

module _ (text t : List ℕ) (p : ℕ) (within : p ≤ length text) (r : LineSpan) (is-r : r ≡ span_at p (scan_line (drop p text))) where
  raw_at_lem : take (r.end - p) (drop p text) ≡ raw_at text p
  unfolding raw_at
  raw_at_lem = rw (is-r, add-sub_cancel_left p (scan_line (drop p text)).end)

  size_at : length (join (raw_at text p)) ≡ r.end - p - 2 * r.joins
  size_at = ap (λ (s : List ℕ). length (join s)) (sym raw_at_lem) ∙ length_join_line text p r is-r within

  pub at_long : 2048 < r.end - p - 2 * r.joins → false ≡ same_at text p t
  unfolding same_at
  at_long l = rw (lt-leb (length (join (raw_at text p))) 2048 (omega (arith, size_at)))

  pub at_fits : r.end - p - 2 * r.joins ≤ 2048 → length (join (take (r.end - p) (drop p text))) ≤ 2048
  at_fits l = omega (arith, length_join_line text p r is-r within)

  pub at_joined : r.end - p - 2 * r.joins ≤ 2048 → (x : Bool) → x ≡ same_text (join (take (r.end - p) (drop p text))) t → x ≡ same_at text p t
  unfolding same_at
  at_joined l x is_x = is_x ∙ rw (raw_at_lem, le-leb (length (join (raw_at text p))) 2048 (omega (arith, size_at)))

  pub at_long_plain : r.joins ≡ 0 → 2048 < r.end - p → false ≡ same_at text p t
  at_long_plain e l = at_long (omega arith)

  pub at_plain : r.joins ≡ 0 → r.end - p ≤ 2048 → (x : Bool) → x ≡ same_text (take (r.end - p) (drop p text)) t → x ≡ same_at text p t
  at_plain e l x is_x = at_joined (omega arith) x (is_x ∙ ap (λ (a : List ℕ). same_text a t) (sym (join_line text p r is-r e)))

-- ## The walk along a chain

pub record Seeking (text links t : List ℕ) (first at left : ℕ) : Type 0 where
  pub so_far : repeats text links 16384 first t ≡ repeats text links left at t

pub seeking_start : (text links t : List ℕ) (first : ℕ) → Seeking text links t first first 16384
seeking_start text links t first = record { so_far = refl }

module _ (text links t : List ℕ) (first at left : ℕ) (h : Seeking text links t first at left) where
  pub seeking_end : left ≤ 0 → false ≡ repeats text links 16384 first t
  unfolding repeats
  seeking_end l = let z : left ≡ 0 = omega arith in sym (h.so_far ∙ ap (λ (k : ℕ). repeats text links k at t) z)

  module _ (l : 0 < left) where
    one_more : (k : ℕ) → left ≡ suc k
        → repeats text links 16384 first t
        ≡ (when eqb at 0 || ltb (length text) at then false else (same_at text (at - 1) t || repeats text links k (link_at links ((at - 1) / 4)) t))
    unfolding repeats
    one_more k e = h.so_far ∙ ap (λ (k : ℕ). repeats text links k at t) e

    is_suc : left ≡ suc (left - 1)
    is_suc = omega arith

    pub seeking_ended : at ≡ 0 → false ≡ repeats text links 16384 first t
    seeking_ended e = sym (one_more (left - 1) is_suc ∙ rw (eq-eqb at 0 e))

    module _ (some-place : at ≡ 0 → ⊥) where
      pub seeking_past : length text < at → false ≡ repeats text links 16384 first t
      seeking_past e = sym (one_more (left - 1) is_suc ∙ rw (ne_eqb at 0 some-place, lt-ltb (length text) at e))

      module _ (within : at ≤ length text) (x : Bool) (is_x : x ≡ same_at text (at - 1) t) where
        pub seeking_found : x ≡ true → true ≡ repeats text links 16384 first t
        seeking_found f = sym (one_more (left - 1) is_suc ∙ rw (ne_eqb at 0 some-place, le-ltb (length text) at within, ← is_x, f))

        pub seeking_on : x ≡ false → (k : ℕ) → k ≡ link_at links ((at - 1) / 4) → Seeking text links t first k (left - 1)
        seeking_on f k is-k =
            record { so_far = one_more (left - 1) is_suc ∙ rw (ne_eqb at 0 some-place, le-ltb (length text) at within, ← is_x, f, ← is-k) }

module _ (text links : List ℕ) (at : ℕ) (some-place : at ≡ 0 → ⊥) where
  pub place_some : 1 ≤ at
  place_some = by at some-place
    where
      by : (k : ℕ) → (k ≡ 0 → ⊥) → 1 ≤ k
      by zero n = absurd (n refl)
      by (suc k) n = omega arith

  pub place_within : at ≤ length text → at - 1 ≤ length text
  place_within l = omega arith

  pub place_link : at ≤ length text → (length text ≤ 16384) × (4096 ≤ length links) → (at - 1) / 4 < length links
  place_link l k = omega (arith, place_some, k.0, k.1)

-- ## Links

module _ (links : List ℕ) where
  pub link_past : (i : ℕ) → 16384 < get_or links i 0 → 0 ≡ link_at links i
  unfolding link_at
  link_past i l = rw (lt-ltb 16384 (get_or links i 0) l)

  pub link_some : (i : ℕ) → get_or links i 0 ≤ 16384 → get_or links i 0 ≡ link_at links i
  unfolding link_at
  link_some i l = rw (le-ltb 16384 (get_or links i 0) l)

  link_same : (i x : ℕ) → i < length links → x ≤ 16384 → link_at (set links i x) i ≡ x
  unfolding link_at
  link_same i x l k = rw (get_or-set_same links i x 0 l, le-ltb 16384 x k)

  link_other : (i j x : ℕ) → (j ≡ i → ⊥) → link_at (set links i x) j ≡ link_at links j
  unfolding link_at
  link_other i j x n = rw (get_or-set_other links i j x 0 n)

  link_few : (i : ℕ) → link_at links i ≤ 16384
  unfolding link_at
  link_few i = by (ltb 16384 (get_or links i 0)) refl
    where
      by : (b : Bool) → ltb 16384 (get_or links i 0) ≡ b → (when b then 0 else get_or links i 0) ≤ 16384
      by true e = omega arith
      by false e = ltb-false 16384 (get_or links i 0) e

-- ## Chains

-- from h on the chain holds the rules us, at places that fall from below top
abbrev pub Chain : List ℕ → List ℕ → ℕ → ℕ → List Rule → Type 0
Chain text links top h [] = h ≡ 0
Chain text links top h (u ∷ us) =
    (p : ℕ) × ((h ≡ suc p) × ((p + 4 ≤ top) × ((parse_rule (raw_at text p) ≡ Some u)
    × ((length (join (raw_at text p)) ≤ 2048) × Chain text links p (link_at links (p / 4)) us))))

chain_set : (text links : List ℕ) (top h : ℕ) (us : List Rule) (a x : ℕ) → top / 4 ≤ a → Chain text links top h us
    → Chain text (set links a x) top h us
chain_set text links top h [] a x l c = c
chain_set text links top h (u ∷ us) a x l (p, (e, (k, (r, (s, c))))) =
    (p, (e, (k, (r, (s, rw (link_other links a (p / 4) x (λ q. omega arith)) (chain_set text links p (link_at links (p / 4)) us a x (omega arith) c))))))

chain_top : (text links : List ℕ) (top wide h : ℕ) (us : List Rule) → top ≤ wide → Chain text links top h us → Chain text links wide h us
chain_top text links top wide h [] l c = c
chain_top text links top wide h (u ∷ us) l (p, (e, (k, (r, (s, c))))) = (p, (e, (omega arith, (r, (s, c)))))

repeats_cons : (text links t : List ℕ) (k p : ℕ) → suc p ≤ length text
    → repeats text links (suc k) (suc p) t ≡ (same_at text p t || repeats text links k (link_at links (p / 4)) t)
unfolding repeats
repeats_cons text links t k p l = let same : suc p - 1 ≡ p = omega arith in rw (le-ltb (length text) (suc p) l, ne_eqb (suc p) 0 (λ q. omega arith), same)

module _ (text links raw : List ℕ) (v : Rule) (is_v : parse_rule raw ≡ Some v) where
  same_at_lem : (p : ℕ) (u : Rule) → parse_rule (raw_at text p) ≡ Some u → length (join (raw_at text p)) ≤ 2048 → same_at text p (join raw) ≡ same_lists u v
  unfolding same_at
  same_at_lem p u r s = rw (le-leb (length (join (raw_at text p))) 2048 s) (same_of (raw_at text p) raw u v r is_v)

  chain_repeats : (k top h : ℕ) (us : List Rule) → top ≤ k → top ≤ length text → Chain text links top h us
      → repeats text links k h (join raw) ≡ any (λ u. same_lists u v) us
  unfolding repeats any
  chain_repeats zero top h [] l m c = refl
  chain_repeats zero top h (u ∷ us) l m (p, (e, (f, (r, (s, c))))) = absurd (omega arith)
  chain_repeats (suc k) top h [] l m c = rw (eq-eqb h 0 c)
  chain_repeats (suc k) top h (u ∷ us) l m (p, (e, (f, (r, (s, c))))) =
      ap (λ (x : ℕ). repeats text links (suc k) x (join raw)) e
      ∙ (repeats_cons text links (join raw) k p (omega arith)
      ∙ ap₂ (λ (x y : Bool). x || y) (same_at_lem p u r s) (chain_repeats k p (link_at links (p / 4)) us (omega arith) (omega arith) c))

-- ## The chains of all buckets

unfoldable pub in_bucket : ℕ → List Rule → List Rule
in_bucket b [] = []
in_bucket b (u ∷ us) = when eqb (bucket_of u) b then u ∷ in_bucket b us else in_bucket b us

pub Hung : List ℕ → List ℕ → ℕ → List Rule → Type 0
Hung text links i us = (b : ℕ) → b < 2048 → Chain text links i (link_at links (4096 + b)) (in_bucket b us)

any_bucket : (v : Rule) (us : List Rule) → any (λ u. same_lists u v) (in_bucket (bucket_of v) us) ≡ any (λ u. same_lists u v) us
unfolding any in_bucket
any_bucket v [] = refl
any_bucket v (u ∷ us) = by (eqb (bucket_of u) (bucket_of v)) refl (same_lists u v) refl (any_bucket v us)
  where
    by : (b : Bool) → eqb (bucket_of u) (bucket_of v) ≡ b → (c : Bool) → same_lists u v ≡ c
        → any (λ u. same_lists u v) (in_bucket (bucket_of v) us) ≡ any (λ u. same_lists u v) us
        → any (λ u. same_lists u v) (when b then u ∷ in_bucket (bucket_of v) us else in_bucket (bucket_of v) us) ≡ (same_lists u v || any (λ u. same_lists u v) us)
    by true e c f ih = ap (λ (x : Bool). same_lists u v || x) ih
    by false e true f ih = absurd (eqb-false (bucket_of u) (bucket_of v) e (bucket_same u v f))
    by false e false f ih = rw f ih

module _ (text links : List ℕ) (i : ℕ) (us : List Rule) (short : length text ≤ 16384) (within : i ≤ length text) (hung : Hung text links i us)
    (raw : List ℕ) (v : Rule) (is_v : parse_rule raw ≡ Some v) where
  pub repeat_is : is_repeat text links (join raw) ≡ any (λ u. same_lists u v) us
  unfolding is_repeat Hung
  repeat_is =
      rw (bucket_of_lem raw v is_v)
      (chain_repeats text links raw v is_v 16384 i (link_at links (4096 + bucket_of v)) (in_bucket (bucket_of v) us) (omega arith) within
      (hung (bucket_of v) (bucket_small v))
      ∙ any_bucket v us)

  pub hung_more : length links ≡ 6144 → i < length text → raw_at text i ≡ raw → length (join raw) ≤ 2048
      → Hung text (linked links i (join raw)) (i + 4) (v ∷ us)
  unfolding Hung linked in_bucket
  hung_more long l is-raw fits b k = rw (bucket_of_lem raw v is_v) (by (eqb (bucket_of v) b) refl)
    where
      below : bucket_of v < 2048
      below = bucket_small v

      by : (x : Bool) → eqb (bucket_of v) b ≡ x
          → Chain text (set (set links (i / 4) (link_at links (4096 + bucket_of v))) (4096 + bucket_of v) (i + 1)) (i + 4)
          (link_at (set (set links (i / 4) (link_at links (4096 + bucket_of v))) (4096 + bucket_of v) (i + 1)) (4096 + b))
          (when x then v ∷ in_bucket b us else in_bucket b us)
      by true e =
          let same : bucket_of v ≡ b = eqb-true (bucket_of v) b e in
          let room : 4096 + bucket_of v < length (set links (i / 4) (link_at links (4096 + bucket_of v))) =
          rw (length-set links (i / 4) (link_at links (4096 + bucket_of v)), long) (omega arith) in
          let mine : link_at (set (set links (i / 4) (link_at links (4096 + bucket_of v))) (4096 + bucket_of v) (i + 1)) (i / 4) ≡ link_at links (4096 + b) =
          link_other (set links (i / 4) (link_at links (4096 + bucket_of v))) (4096 + bucket_of v) (i / 4) (i + 1) (λ q. omega arith)
          ∙ (link_same links (i / 4) (link_at links (4096 + bucket_of v)) (omega arith) (link_few links (4096 + bucket_of v)) ∙ rw same) in (
            i,
            (
              rw (← same) (link_same (set links (i / 4) (link_at links (4096 + bucket_of v))) (4096 + bucket_of v) (i + 1) room (omega arith) ∙ add-one i),
              (
                omega arith,
                (
                  rw is-raw is_v,
                  (
                    rw is-raw fits,
                    rw mine
                        (chain_set text (set links (i / 4) (link_at links (4096 + bucket_of v))) i (link_at links (4096 + b)) (in_bucket b us) (4096 + bucket_of v)
                        (i + 1) (omega arith)
                        (chain_set text links i (link_at links (4096 + b)) (in_bucket b us) (i / 4) (link_at links (4096 + bucket_of v)) (omega arith) (hung b k))),
                  ),
                ),
              ),
            ),
          )
      by false e =
          rw (
            link_other (set links (i / 4) (link_at links (4096 + bucket_of v))) (4096 + bucket_of v) (4096 + b) (i + 1)
                (λ q. eqb-false (bucket_of v) b e (omega arith)),
            link_other links (i / 4) (4096 + b) (link_at links (4096 + bucket_of v)) (λ q. omega arith),
          )
          (chain_top text (set (set links (i / 4) (link_at links (4096 + bucket_of v))) (4096 + bucket_of v) (i + 1)) i (i + 4) (link_at links (4096 + b))
          (in_bucket b us) (omega arith)
          (chain_set text (set links (i / 4) (link_at links (4096 + bucket_of v))) i (link_at links (4096 + b)) (in_bucket b us) (4096 + bucket_of v) (i + 1)
          (omega arith)
          (chain_set text links i (link_at links (4096 + b)) (in_bucket b us) (i / 4) (link_at links (4096 + bucket_of v)) (omega arith) (hung b k))))

pub hung_on : (text links : List ℕ) (i j : ℕ) (us : List Rule) → i ≤ j → Hung text links i us → Hung text links j us
unfolding Hung
hung_on text links i j us l h b k = chain_top text links i j (link_at links (4096 + b)) (in_bucket b us) l (h b k)

-- ## What covers

or_swap : (a b c d : Bool) → ((a || b) || (c || d)) ≡ ((a || c) || (b || d))
or_swap true b c d = refl
or_swap false true true d = refl
or_swap false true false d = refl
or_swap false false c d = refl

any_covers : (v : Rule) (us : List Rule) → any (λ u. covers u v) us ≡ (any (λ u. same_lists u v) us || any matches_all us)
unfolding any covers
any_covers v [] = refl
any_covers v (u ∷ us) = rw (any_covers v us) (or_swap (same_lists u v) (matches_all u) (any (λ u. same_lists u v) us) (any matches_all us))

-- ## Marks

pub marked_start : Marked (replicate 16385 0) []
unfolding any
marked_start = record { long = length-replicate {A = ℕ} 16385 0; marks_of = zeros 16385 }
  where
    zeros : (k m : ℕ) → ◌≡◌ {A = ℕ} (get_or (replicate k 0) m 0) 0
    zeros zero m = refl
    zeros (suc k) zero = refl
    zeros (suc k) (suc m) = zeros k m

any_snoc : (m n : ℕ) (ns : List ℕ) → any (eqb m) (ns ++ (n ∷ [])) ≡ (any (eqb m) ns || eqb m n)
unfolding any
any_snoc m n ns = any_append (eqb m) ns (n ∷ []) ∙ ap (λ (b : Bool). any (eqb m) ns || b) (or_false_right (eqb m n))
  where
    or_false_right : (b : Bool) → (b || false) ≡ b
    or_false_right true = refl
    or_false_right false = refl

pub marked_more : (marks ns : List ℕ) (n : ℕ) → Marked marks ns → n < 16385 → Marked (set marks n 1) (ns ++ (n ∷ []))
marked_more marks ns n h l = record { long = length-set marks n 1 ∙ h.long; marks_of = λ m. rw (any_snoc m n ns) (by m (eqb m n) refl) }
  where
    by : (m : ℕ) (b : Bool) → eqb m n ≡ b → get_or (set marks n 1) m 0 ≡ flag (any (eqb m) ns || b)
    by m true e = rw (eqb-true m n e) (get_or-set_same marks n 1 0 (rw h.long l) ∙ sym (ap flag (or-true (any (eqb n) ns))))
    by m false e =
        get_or-set_other marks n m 1 0 (eqb-false m n e) ∙ (h.marks_of m ∙ ap flag (right (any (eqb m) ns)))
      where
        right : (b : Bool) → b ≡ (b || false)
        right true = refl
        right false = refl

length_linked : (links : List ℕ) (i : ℕ) (t : List ℕ) → length (linked links i t) ≡ length links
unfolding linked
length_linked links i t =
    length-set (set links (i / 4) (link_at links (beginning t))) (beginning t) (i + 1) ∙ length-set links (i / 4) (link_at links (beginning t))

-- ## The loop

pub record Marking (text marks links : List ℕ) (all : Bool) (i n : ℕ) : Type 0 where
  pub seen : List Rule
  pub done : List ℕ
  pub at : At text i n
  pub short : length text ≤ 16384
  pub marked : Marked marks done
  pub long : length links ≡ 6144
  pub rest : proposal text ≡ done ++ covered_lines seen (logical_lines n i (split "\n" (drop i text)))
  pub hung : all ≡ false → Hung text links i seen
  pub all_is : all ≡ any matches_all seen

pub marking_start : (text : List ℕ) → length text ≤ 16384 → Sound text → Marking text (replicate 16385 0) (replicate 6144 0) false 0 1
unfolding proposal Hung in_bucket any
marking_start text l s = record {
  seen = [];
  done = [];
  at = at_start text s;
  short = l;
  marked = marked_start;
  long = length-replicate {A = ℕ} 6144 0;
  rest = ap (covered_lines []) (lines_start text);
  hung = λ e b k. sym (link_some (replicate 6144 0) (4096 + b) (omega (arith, zero_there b k))) ∙ zero_there b k;
  all_is = refl;
}
  where
    zero_there : (b : ℕ) → b < 2048 → ◌≡◌ {A = ℕ} (get_or (replicate 6144 0) (4096 + b) 0) 0
    zero_there b k = get_or-replicate {A = ℕ} 6144 (4096 + b) 0 0 (omega arith)

rule_some : (raw : List ℕ) (v : Rule) → rule_of (line 0 0 raw true) ≡ Some v → parse_rule raw ≡ Some v
rule_some raw v e = by (is_comment (line 0 0 raw true) || is_blank (line 0 0 raw true)) e
  where
    by : (b : Bool) → (when b then None else parse_rule raw) ≡ Some v → parse_rule raw ≡ Some v
    by true k = let z : ◌≡◌ {A = ℕ} 0 1 = cc in absurd (omega arith)
    by false k = k

module _ (text marks links : List ℕ) (all : Bool) (i n : ℕ) (h : Marking text marks links all i n) where
  pub marking_end : length text ≤ i → Marked marks (proposal text)
  unfolding covered_lines
  marking_end l = rw (h.rest, logical_lines_end text i n i l, append-nil h.done) h.marked

  module _ (l : i < length text) (r : LineSpan) (is-r : r ≡ span_at i (scan_line (drop i text))) where
    abbrev raw : List ℕ
    raw = take (r.end - i) (drop i text)

    abbrev after : List Line
    after = logical_lines (n + r.joins + 1) (r.end + 1) (split "\n" (drop (r.end + 1) text))

    next : At text (r.end + 1) (n + r.joins + 1)
    next = at_next text i n h.at l r is-r

    split_off : (b : Bool) → covered_by h.seen (line n i raw r.ended) ≡ b
        → proposal text ≡ (h.done ++ (when b then n ∷ [] else [])) ++ covered_lines (with_rule (rule_of (line 0 0 raw true)) h.seen) after
    unfolding covered_lines
    split_off b e =
        h.rest
        ∙ (ap (λ (ls : List Line). h.done ++ covered_lines h.seen ls) (logical_lines_drop text i r is-r n l)
        ∙ rw e (sym (append_assoc h.done (when b then n ∷ [] else []) (covered_lines (with_rule (rule_of (line 0 0 raw true)) h.seen) after))))

    fits : length (join raw) ≤ 2048
    fits = at_short text i n h.at l r is-r

    -- no rule
    skipped : rule_of (line 0 0 raw true) ≡ None → Marking text marks links all (r.end + 1) (n + r.joins + 1)
    skipped e = record {
      seen = h.seen;
      done = h.done ++ [];
      at = next;
      short = h.short;
      marked = rw (append-nil h.done) h.marked;
      long = h.long;
      rest = rw e at (split_off false (rw e));
      hung = λ f. hung_on text links i (r.end + 1) h.seen (omega (arith, at_from text i n h.at l r is-r)) (h.hung f);
      all_is = h.all_is;
    }

    module _ (v : Rule) (e : rule_of (line 0 0 raw true) ≡ Some v) where
      is_v : parse_rule raw ≡ Some v
      is_v = rule_some raw v e

      covered_is : covered_by h.seen (line n i raw r.ended) ≡ any (λ u. covers u v) h.seen
      covered_is = ap (holds (λ v. any (λ u. covers u v) h.seen)) e

      -- covered
      repeated : any (λ u. covers u v) h.seen ≡ true → Marking text (set marks n 1) links all (r.end + 1) (n + r.joins + 1)
      repeated c = record {
        seen = h.seen;
        done = h.done ++ (n ∷ []);
        at = next;
        short = h.short;
        marked = marked_more marks h.done n h.marked (at_number text i n h.at l r is-r h.short);
        long = h.long;
        rest =
            (rw e at (split_off true (covered_is ∙ c)))
            ∙ ap (λ (ns : List ℕ). (h.done ++ (n ∷ [])) ++ ns) (covered_lines_same (v ∷ h.seen) h.seen (covered_adds h.seen v c) after);
        hung = λ f. hung_on text links i (r.end + 1) h.seen (omega (arith, at_from text i n h.at l r is-r)) (h.hung f);
        all_is = h.all_is;
      }

      -- not covered
      kept : all ≡ false → any (λ u. covers u v) h.seen ≡ false → Marking text marks (linked links i (join raw)) (all_text (join raw)) (r.end + 1)
          (n + r.joins + 1)
      unfolding any
      kept f c = record {
        seen = v ∷ h.seen;
        done = h.done ++ [];
        at = next;
        short = h.short;
        marked = rw (append-nil h.done) h.marked;
        long = length_linked links i (join raw) ∙ h.long;
        rest = rw e at (split_off false (covered_is ∙ c));
        hung = λ g.
            hung_on text (linked links i (join raw)) (i + 4) (r.end + 1) (v ∷ h.seen) (omega (arith, at_rule text i n h.at l r is-r v e))
            (hung_more text links i h.seen h.short (omega arith) (h.hung f) raw v is_v h.long l (at_raw text i n h.at l r is-r) fits);
        all_is = all_of raw v is_v ∙ (right (matches_all v) ∙ ap (λ (b : Bool). matches_all v || b) (sym f ∙ h.all_is));
      }
        where
          right : (b : Bool) → b ≡ (b || false)
          right true = refl
          right false = refl

      ruled : Marking text (when all then set marks n 1 else rule_marks text links n (join raw) marks)
          (when all then links else rule_links text links i (join raw)) (when all then true else rule_all text links (join raw)) (r.end + 1) (n + r.joins + 1)
      unfolding rule_marks rule_links rule_all
      ruled = by all refl (is_repeat text links (join raw)) refl
        where
          every : all ≡ true → any (λ u. covers u v) h.seen ≡ true
          every f = any_covers v h.seen ∙ rw (← h.all_is, f) (or-true (any (λ u. same_lists u v) h.seen))

          same : all ≡ false → any (λ u. covers u v) h.seen ≡ is_repeat text links (join raw)
          same f =
              any_covers v h.seen
              ∙ (rw (← h.all_is, f) (right (any (λ u. same_lists u v) h.seen))
              ∙ sym (repeat_is text links i h.seen h.short (omega arith) (h.hung f) raw v is_v))
            where
              right : (b : Bool) → (b || false) ≡ b
              right true = refl
              right false = refl

          by : (x : Bool) → all ≡ x → (y : Bool) → is_repeat text links (join raw) ≡ y
              → Marking text (when x then set marks n 1 else (when y then set marks n 1 else marks))
              (when x then links else (when y then links else linked links i (join raw)))
              (when x then true else (when y then false else all_text (join raw))) (r.end + 1) (n + r.joins + 1)
          by true f y g = rw f at (repeated (every f))
          by false f true g = rw f at (repeated (same f ∙ g))
          by false f false g = kept f (same f ∙ g)

    pub marking_number : n < 16385
    marking_number = at_number text i n h.at l r is-r h.short

    pub marking_short : length (join (take (r.end - i) (drop i text))) ≤ 2048
    marking_short = fits

    pub marking_plain : r.joins ≡ 0 → join (take (r.end - i) (drop i text)) ≡ take (r.end - i) (drop i text)
    marking_plain e = join_line text i r is-r e

    pub marking_long : (length marks ≡ 16385) × (length links ≡ 6144)
    marking_long = (h.marked.long, h.long)

    module _ (a : Bool) (m k : List ℕ) (is-a : a ≡ step_all text links all raw) (is_m : m ≡ step_marks text links all n raw marks)
        (is-k : k ≡ step_links text links all i raw) where
      stepped : Marking text m k a (r.end + 1) (n + r.joins + 1)
      unfolding step_all step_marks step_links
      stepped = rw (is-a, is_m, is-k) (by (rule_of (line 0 0 raw true)) refl)
        where
          by : (o : Option Rule) → rule_of (line 0 0 raw true) ≡ o
              → Marking text (when is_some o then (when all then set marks n 1 else rule_marks text links n (join raw) marks) else marks)
              (when is_some o then (when all then links else rule_links text links i (join raw)) else links)
              (when is_some o then (when all then true else rule_all text links (join raw)) else all) (r.end + 1) (n + r.joins + 1)
          by None e = skipped e
          by (Some v) e = ruled v e

      pub marking_step : Marking text m k a (r.end + 1) (n + (r.joins + 1))
      marking_step = let same : n + (r.joins + 1) ≡ n + r.joins + 1 = omega arith in rw same stepped

-- ## One rule

pub second_write : (links : List ℕ) (i x b : ℕ) → length links ≡ 6144 → b < 2048 → 4096 + b < length (set links i x)
second_write links i x b e l = rw (length-set links i x, e) (omega arith)

module _ (text links marks t : List ℕ) (i n b : ℕ) (is_b : b ≡ bucket_text t) (f : ℕ) (is_f : f ≡ link_at links (4096 + b)) (x : Bool)
    (is_x : x ≡ repeats text links 16384 f t) where
  repeat_by : x ≡ is_repeat text links t
  unfolding is_repeat
  repeat_by = is_x ∙ ap (λ (k : ℕ). repeats text links 16384 k t) (is_f ∙ ap (λ (k : ℕ). link_at links (4096 + k)) is_b)

  module _ (e : x ≡ true) where
    pub repeat_all : false ≡ rule_all text links t
    unfolding rule_all
    repeat_all = rw (← repeat_by, e)

    pub repeat_marks : set marks n 1 ≡ rule_marks text links n t marks
    unfolding rule_marks
    repeat_marks = rw (← repeat_by, e)

    pub repeat_links : links ≡ rule_links text links i t
    unfolding rule_links
    repeat_links = rw (← repeat_by, e)

  module _ (e : x ≡ false) where
    pub new_all : (y : Bool) → y ≡ all_text t → y ≡ rule_all text links t
    unfolding rule_all
    new_all y is_y = is_y ∙ rw (← repeat_by, e)

    pub new_marks : marks ≡ rule_marks text links n t marks
    unfolding rule_marks
    new_marks = rw (← repeat_by, e)

    pub new_links : set (set links (i / 4) f) (4096 + b) (i + 1) ≡ rule_links text links i t
    unfolding rule_links linked
    new_links = rw (← repeat_by, e, is_f, is_b)

-- ## One line

module _ (text links marks raw : List ℕ) (i n : ℕ) (all : Bool) (x : Bool) (is_x : x ≡ has_rule raw) where
  module _ (e : not x ≡ true) where
    pub none_all : all ≡ step_all text links all raw
    unfolding step_all
    none_all = rw (← is_x, not-true x e)

    pub none_marks : marks ≡ step_marks text links all n raw marks
    unfolding step_marks
    none_marks = rw (← is_x, not-true x e)

    pub none_links : links ≡ step_links text links all i raw
    unfolding step_links
    none_links = rw (← is_x, not-true x e)

  module _ (e : not x ≡ false) where
    module _ (a : all ≡ true) where
      pub all_all : true ≡ step_all text links all raw
      unfolding step_all
      all_all = rw (← is_x, not-false x e, a)

      pub all_marks : set marks n 1 ≡ step_marks text links all n raw marks
      unfolding step_marks
      all_marks = rw (← is_x, not-false x e, a)

      pub all_links : links ≡ step_links text links all i raw
      unfolding step_links
      all_links = rw (← is_x, not-false x e, a)

    module _ (a : all ≡ false) where
      pub rule_all_lem : (r : Bool) → r ≡ rule_all text links (join raw) → r ≡ step_all text links all raw
      unfolding step_all
      rule_all_lem r h = h ∙ rw (← is_x, not-false x e, a)

      pub rule_marks_lem : (m : List ℕ) → m ≡ rule_marks text links n (join raw) marks → m ≡ step_marks text links all n raw marks
      unfolding step_marks
      rule_marks_lem m h = h ∙ rw (← is_x, not-false x e, a)

      pub rule_links_lem : (l : List ℕ) → l ≡ rule_links text links i (join raw) → l ≡ step_links text links all i raw
      unfolding step_links
      rule_links_lem l h = h ∙ rw (← is_x, not-false x e, a)

      module _ (k : ℕ) (z : k ≡ 0) (p : k ≡ 0 → join raw ≡ raw) where
        pub plain_all : (r : Bool) → r ≡ rule_all text links raw → r ≡ step_all text links all raw
        plain_all r h = rule_all_lem r (h ∙ ap (rule_all text links) (sym (p z)))

        pub plain_marks : (m : List ℕ) → m ≡ rule_marks text links n raw marks → m ≡ step_marks text links all n raw marks
        plain_marks m h = rule_marks_lem m (h ∙ ap (λ (t : List ℕ). rule_marks text links n t marks) (sym (p z)))

        pub plain_links : (l : List ℕ) → l ≡ rule_links text links i raw → l ≡ step_links text links all i raw
        plain_links l h = rule_links_lem l (h ∙ ap (rule_links text links i) (sym (p z)))
