-- Salvaged texts of allow and deny, where bad says which lines are bad.
--   salvage_hosts_good  == no line of a salvaged text is bad
--   salvage_hosts_same  == a text without a bad line stays as it is
--   salvage_hosts_lines == the lines of a salvaged text are those of the text, in their order, each bad one replaced
--   none_first, first_none == no line is bad just where no fault is found along the lines
-- Assumes nothing.
use Rattle.std.specs.Prelude.{None, Option}
use Prim.Native.Nat.{ℕ, suc, ◌+◌, ◌<◌}
use mathlib.Core.Bool.{Bool, true, false, true≢false}
use mathlib.Core.List.{List, [], ◌∷◌, ◌++◌, map, flat_map, append_assoc}
use mathlib.Core.Path.{◌≡◌, refl, sym, ap, ap₂, ◌∙◌}
use native.Mathlib.Numerals.{add-one}
use native.Mathlib.Omega.{arith}
use lib.ListN.{length, take, drop}
use Rattle.text.specs.Basics.{when◌then◌else◌, ◌or_else◌, is_some, first}
use Rattle.text.specs.Text.{bytes, split}
use Rattle.lines.specs.Line.{Line, line, logical_lines, lines}
use Rattle.lines.specs.Rewrite.{line_bytes}
use Rattle.lines.specs.Scan.{scan_line}
use Rattle.lines.proofs.LineLaws.{logical_lines_cons, logical_lines_nil}
use Rattle.lines.proofs.RewriteLaws.{Whole, whole_cons, scan_whole, scan_text, scan_length, line_ind}
use Rattle.rules.proofs.NamingLaws.{or_else_nones}
use Rattle.salvage.specs.Salvage.{keep, salvage_line, salvage_hosts, bad_lines}

cons_empty : {A : Type 0} {x : A} {xs : List A} {B : Type 1} → x ∷ xs ≡ [] → B
cons_empty e = let z : ◌≡◌ {A = ℕ} 0 1 = cc in absurd (omega arith)

-- ## Lines and faults

module _ (bad : Line → Bool) where
  -- what keep leaves of a list without a bad line
  pub keep_none : (l : Line) (ls : List Line) → keep bad (l ∷ ls) ≡ [] → (bad l ≡ false) × (keep bad ls ≡ [])
  unfolding keep
  keep_none l ls e = by (bad l) e
    where
      by : (b : Bool) → (when b then l ∷ keep bad ls else keep bad ls) ≡ [] → (b ≡ false) × (keep bad ls ≡ [])
      by true k = let z : ◌≡◌ {A = ℕ} 0 1 = cc in absurd (omega arith)
      by false k = (refl, k)

  pub keep_good : (l : Line) (ls : List Line) → bad l ≡ false → keep bad ls ≡ [] → keep bad (l ∷ ls) ≡ []
  unfolding keep
  keep_good l ls e k = rw (e, k)

  pub none_first : {B : Type 0} (f : Line → Option B) → ((l : Line) → bad l ≡ false → f l ≡ None) → (ls : List Line) → keep bad ls ≡ [] → first f ls ≡ None
  unfolding first
  none_first f h [] e = refl
  none_first f h (l ∷ ls) e = let k = keep_none l ls e in rw (h l k.0) (none_first f h ls k.1)

  pub first_none : {B : Type 0} (f g h : Line → Option B) → ((l : Line) → f l ≡ None → g l ≡ None → h l ≡ None → bad l ≡ false)
      → (ls : List Line) → first f ls ≡ None → first g ls ≡ None → first h ls ≡ None → keep bad ls ≡ []
  unfolding first keep
  first_none f g h j [] a b c = refl
  first_none f g h j (l ∷ ls) a b c =
      let x = or_else_nones (f l) (first f ls) a in
      let y = or_else_nones (g l) (first g ls) b in
      let z = or_else_nones (h l) (first h ls) c in
      keep_good l ls (j l x.0 y.0 z.0) (first_none f g h j ls x.1 y.1 z.1)

-- ## The outcome

-- whether a line is bad is told by its bytes and its end alone, and one that is not bad has its newline
pub record Judge (bad : Line → Bool) : Type 0 where
  pub moved : (n at m pl : ℕ) (r : List ℕ) (b : Bool) → bad (line n at r b) ≡ bad (line m pl r b)
  pub ends : (n at : ℕ) (r : List ℕ) (b : Bool) → bad (line n at r b) ≡ false → b ≡ true

-- what stands instead of a bad line: a line by itself, and not bad
pub record Stands (bad : Line → Bool) (instead : List ℕ) : Type 0 where
  pub joins : ℕ
  pub whole : Whole instead joins
  pub good : (n at : ℕ) → bad (line n at instead true) ≡ false

module _ (bad : Line → Bool) (judge : Judge bad) (instead : List ℕ) (stands : Stands bad instead) where
  -- the lines of a text, salvaged
  abbrev made : ℕ → ℕ → List ℕ → List ℕ
  made n at t = flat_map (salvage_line bad instead) (logical_lines n at (split "\n" t))

  -- the next line, and what follows it
  abbrev this : ℕ → ℕ → List ℕ → Line
  this n at t = line n at (take (scan_line t).end t) (scan_line t).ended

  abbrev rest : ℕ → ℕ → List ℕ → List Line
  rest n at t = logical_lines (n + (scan_line t).joins + 1) (at + (scan_line t).end + 1) (split "\n" (drop ((scan_line t).end + 1) t))

  -- a bad line gives a whole one, and so does a good one
  record Put (l : Line) : Type 0 where
    pub raw : List ℕ
    pub joins : ℕ
    pub whole : Whole raw joins
    pub bytes : salvage_line bad instead l ≡ raw ++ (10 ∷ [])
    pub good : (m pl : ℕ) → bad (line m pl raw true) ≡ false
    pub is : raw ≡ (when bad l then instead else l.raw)

  put_line : (n at : ℕ) (t : List ℕ) → Put (this n at t)
  put_line n at t = by (bad (this n at t)) refl
    where
      by : (b : Bool) → bad (this n at t) ≡ b → Put (this n at t)
      by true e = record {
        raw = instead;
        joins = stands.joins;
        whole = stands.whole;
        bytes = rw e;
        good = stands.good;
        is = rw e;
      }
      by false e =
          let b : (scan_line t).ended ≡ true = judge.ends n at (take (scan_line t).end t) (scan_line t).ended e in
          record {
            raw = take (scan_line t).end t;
            joins = (scan_line t).joins;
            whole = scan_whole t b (scan_line t).end refl (scan_length t b);
            bytes = rw (e, b);
            good = λ m pl. judge.moved m pl n at (take (scan_line t).end t) true
                ∙ ap (λ (x : Bool). bad (line n at (take (scan_line t).end t) x)) (sym b) ∙ e;
            is = rw e;
          }

  -- the lines of a text that begins with such a line
  put_lines : (l : Line) (p : Put l) (others : List ℕ) (m pl : ℕ)
      → logical_lines m pl (split "\n" (salvage_line bad instead l ++ others))
      ≡ line m pl p.raw true ∷ logical_lines (m + p.joins + 1) (pl + length p.raw + 1) (split "\n" others)
  put_lines l p others m pl =
      rw (p.bytes, append_assoc p.raw (10 ∷ []) others) (whole_cons p.raw p.joins p.whole others m pl)

  -- no line is bad
  Good : List ℕ → Type 0
  Good t = (n at m pl : ℕ) → keep bad (logical_lines m pl (split "\n" (made n at t))) ≡ []

  good_nil : Good []
  unfolding Good flat_map keep
  good_nil n at m pl = rw (logical_lines_nil n at, logical_lines_nil m pl)

  good_more : (t : List ℕ) → 0 < length t → Good (drop ((scan_line t).end + 1) t) → Good t
  unfolding Good flat_map
  good_more t k ih n at m pl =
      let p : Put (this n at t) = put_line n at t in
      let others : List ℕ = flat_map (salvage_line bad instead) (rest n at t) in
      rw (logical_lines_cons t n at k, put_lines (this n at t) p others m pl)
      (keep_good bad _ _ (p.good m pl)
      (ih (n + (scan_line t).joins + 1) (at + (scan_line t).end + 1) (m + p.joins + 1) (pl + length p.raw + 1)))

  pub salvage_hosts_good : (t : List ℕ) → keep bad (lines (salvage_hosts bad instead t)) ≡ []
  unfolding Good salvage_hosts lines
  salvage_hosts_good t = line_ind Good good_nil good_more t 1 0 1 0

  -- the lines one by one
  abbrev new_raw : Line → List ℕ
  new_raw l = when bad l then instead else l.raw

  Lined : List ℕ → Type 0
  Lined t = (n at m pl : ℕ) → map (λ (l : Line). l.raw) (logical_lines m pl (split "\n" (made n at t))) ≡ map new_raw (logical_lines n at (split "\n" t))

  lined_nil : Lined []
  unfolding Lined flat_map
  lined_nil n at m pl = rw (logical_lines_nil n at, logical_lines_nil m pl)

  lined_more : (t : List ℕ) → 0 < length t → Lined (drop ((scan_line t).end + 1) t) → Lined t
  unfolding Lined flat_map
  lined_more t k ih n at m pl =
      let p : Put (this n at t) = put_line n at t in
      let others : List ℕ = flat_map (salvage_line bad instead) (rest n at t) in
      rw (logical_lines_cons t n at k, put_lines (this n at t) p others m pl)
      (ap₂ (λ (x : List ℕ) (xs : List (List ℕ)). x ∷ xs) p.is
      (ih (n + (scan_line t).joins + 1) (at + (scan_line t).end + 1) (m + p.joins + 1) (pl + length p.raw + 1)))

  pub salvage_hosts_lines : (t : List ℕ) → map (λ (l : Line). l.raw) (lines (salvage_hosts bad instead t)) ≡ map new_raw (lines t)
  unfolding Lined salvage_hosts lines
  salvage_hosts_lines t = line_ind Lined lined_nil lined_more t 1 0 1 0

  -- a text without a bad line
  Same : List ℕ → Type 0
  Same t = (n at : ℕ) → keep bad (logical_lines n at (split "\n" t)) ≡ [] → made n at t ≡ t

  same_nil : Same []
  unfolding Same flat_map
  same_nil n at e = rw (logical_lines_nil n at)

  same_more : (t : List ℕ) → 0 < length t → Same (drop ((scan_line t).end + 1) t) → Same t
  unfolding Same flat_map
  same_more t k ih n at = rw (logical_lines_cons t n at k) kept
    where
      kept : keep bad (this n at t ∷ rest n at t) ≡ [] → salvage_line bad instead (this n at t) ++ flat_map (salvage_line bad instead) (rest n at t) ≡ t
      kept e =
          let f = keep_none bad (this n at t) (rest n at t) e in
          let b : (scan_line t).ended ≡ true = judge.ends n at (take (scan_line t).end t) (scan_line t).ended f.0 in
          rw (f.0, b, ih (n + (scan_line t).joins + 1) (at + (scan_line t).end + 1) f.1)
          (append_assoc (take (scan_line t).end t) (10 ∷ []) (drop ((scan_line t).end + 1) t)
          ∙ rw (add-one (scan_line t).end) (sym (scan_text t b)))

  pub salvage_hosts_same : (t : List ℕ) → keep bad (lines t) ≡ [] → salvage_hosts bad instead t ≡ t
  unfolding Same salvage_hosts lines
  salvage_hosts_same t e = line_ind Same same_nil same_more t 1 0 e
