-- Laws of joining, and of the scan of a logical line.
--   join_clean, join_part   a text with no newline, and a part of one, is its own join
--   join_skip, join_keep    the join of what stands from i on, by whether a dropped pair stands at i
--   logical_lines_cons       the first line of a text is the scanned one, and the other lines are those of what follows it
--   logical_lines_drop, logical_lines_end, first_logical_lines_drop, first_logical_lines_end   the same at a place of a text, for a loop
--   length_join_line, line_no_newline, join_line, has_bad_byte_line   what the scan tells of the line
-- Assumes nothing.
use Rattle.std.specs.Prelude.{None, Option}
use Prim.Native.Nat.{ℕ, zero, suc, ◌+◌, ◌-◌, ◌*◌, ◌<◌, ◌≤◌}
use mathlib.Core.Bool.{Bool, true, false, not, ◌&&◌, ◌||◌, or-false, or-true, and-true as and_true_right, and_assoc, true≢false}
use mathlib.Core.List.{List, [], ◌∷◌, ◌++◌, append-nil, append_assoc, reverse-append}
use mathlib.Core.Path.{◌≡◌, refl, sym, ap, ap₂, ◌∙◌}
use native.Mathlib.Nat.{add-zero, zero-add, add_assoc, add-sub_cancel, add-sub_cancel_left}
use native.Mathlib.Numerals.{add-one, add-two}
use native.Mathlib.Omega.{arith}
use borrow.Author.Tests.{eqb-true, eq-eqb, ne_eqb, not-true, ltb-true, ltb-false, leb-true, lt-ltb, le-ltb}
use lib.Dec.{eqb, ltb, leb}
use lib.ListN.{length, take, drop, get_or, set, length-append, length-drop, length-set, take-append-drop}
use lib.ListN.{get_or-eq_default, drop_of_length-le}
use lib.Seq.{drop-cons, append_snoc, get_or-drop, length-take-le, take-suc-set, drop-set-lt, drop-drop}
use Rattle.text.specs.Basics.{when◌then◌else◌, any, all, first, ◌or_else◌}
use Rattle.text.specs.Text.{among, first_among, last_among, split, cons_head}
use Rattle.text.proofs.BasicLaws.{and_true, all_take, all_drop}
use Rattle.lines.specs.Line.{join, Line, line, continued, logical_lines, lines, has_bad_byte}
use Rattle.lines.specs.Scan.{span, is_line_byte, scan, scan_line, span_at, SpanBounds, slash_before, pair_at}
use Rattle.lines.specs.Block.{printable, front_all, PassedTo}
use Rattle.lines.specs.declared.line.JoinedText.{JoinedText}
use Rattle.lines.specs.declared.line.LineSpan.{LineSpan}
use Rattle.lines.proofs.BlockLaws.{front_within}

-- ## Joining

pub any_one : (x m : ℕ) → any (eqb x) (m ∷ []) ≡ eqb x m
unfolding any
any_one x m = or-false (eqb x m)

pub join_pair : (t : List ℕ) → join (92 ∷ 10 ∷ t) ≡ join t
unfolding join any
join_pair t = refl

pub join_plain : (x : ℕ) (t : List ℕ) → first_among "\n" t ≡ false → join (x ∷ t) ≡ x ∷ join t
unfolding join
join_plain x t e = by (among "\\" x) refl
  where
    by : (b : Bool) → among "\\" x ≡ b → join (x ∷ t) ≡ x ∷ join t
    by true f = rw (f, e)
    by false f = rw f

pub join_other : (x : ℕ) (t : List ℕ) → eqb x 92 ≡ false → join (x ∷ t) ≡ x ∷ join t
unfolding join
join_other x t e = rw (any_one x 92, e)

abbrev pub is_no_newline : ℕ → Bool
is_no_newline b = not (eqb b 10)

pub join_clean : (s : List ℕ) → all is_no_newline s ≡ true → join s ≡ s
unfolding join all
join_clean [] e = refl
join_clean (x ∷ []) e = join_plain x [] refl
join_clean (x ∷ y ∷ s) e =
    let f = (and_true (is_no_newline x) (all is_no_newline (y ∷ s)) e).1 in
    join_plain x (y ∷ s) (any_one y 10 ∙ not-true (eqb y 10) (and_true (is_no_newline y) (all is_no_newline s) f).0)
    ∙ ap (λ (l : List ℕ). x ∷ l) (join_clean (y ∷ s) f)

pub join_part : (s : List ℕ) (i n : ℕ) → all is_no_newline s ≡ true → join (take n (drop i s)) ≡ take n (drop i s)
join_part s i n e = join_clean (take n (drop i s)) (all_take is_no_newline n (drop i s) (all_drop is_no_newline i s e))

first_among_get_d : (t : List ℕ) → first_among "\n" t ≡ eqb (get_or t 0 0) 10
first_among_get_d [] = refl
first_among_get_d (x ∷ t) = any_one x 10

drop_two : (s : List ℕ) (i : ℕ) → suc i < length s → drop i s ≡ get_or s i 0 ∷ get_or s (i + 1) 0 ∷ drop (i + 2) s
drop_two s i h =
    rw (add-two i, add-one i) (drop-cons s i 0 (omega arith) ∙ ap (λ (l : List ℕ). get_or s i 0 ∷ l) (drop-cons s (suc i) 0 h))

-- what stands from i on, x saying whether a dropped pair stands there
module _ (s : List ℕ) (i : ℕ) (h : i < length s) (x : Bool) (is_x : x ≡ pair_at s i) where
  pub pair_at_within : x ≡ true → i + 2 ≤ length s
  unfolding pair_at
  pair_at_within e =
      let f : eqb (get_or s (i + 1) 0) 10 ≡ true = (and_true (eqb (get_or s i 0) 92) (eqb (get_or s (i + 1) 0) 10) (sym is_x ∙ e)).1 in
      by (ltb (i + 1) (length s)) refl f
    where
      by : (b : Bool) → ltb (i + 1) (length s) ≡ b → eqb (get_or s (i + 1) 0) 10 ≡ true → i + 2 ≤ length s
      by true q f = omega (arith, ltb-true (i + 1) (length s) q)
      by false q f =
          let k : length s ≤ i + 1 = ltb-false (i + 1) (length s) q in
          absurd (true≢false (sym f ∙ rw (get_or-eq_default s 0 k)))

  pub join_skip : x ≡ true → join (drop i s) ≡ join (drop (i + 2) s)
  unfolding pair_at
  join_skip e =
      let f = and_true (eqb (get_or s i 0) 92) (eqb (get_or s (i + 1) 0) 10) (sym is_x ∙ e) in
      ap join (drop_two s i (omega (arith, pair_at_within e)))
      ∙ rw (eqb-true (get_or s i 0) 92 f.0, eqb-true (get_or s (i + 1) 0) 10 f.1) (join_pair (drop (i + 2) s))

  pub join_keep : x ≡ false → join (drop i s) ≡ get_or s i 0 ∷ join (drop (i + 1) s)
  unfolding pair_at
  join_keep e = rw (drop-cons s i 0 h, add-one i) (by (eqb (get_or s i 0) 92) refl (sym is_x ∙ e))
    where
      by : (b : Bool) → eqb (get_or s i 0) 92 ≡ b → (eqb (get_or s i 0) 92 && eqb (get_or s (i + 1) 0) 10) ≡ false
          → join (get_or s i 0 ∷ drop (suc i) s) ≡ get_or s i 0 ∷ join (drop (suc i) s)
      by true q f =
          join_plain (get_or s i 0) (drop (suc i) s)
          (first_among_get_d (drop (suc i) s) ∙ rw (get_or-drop (suc i) s 0 0, add-zero, ← (add-one i)) (rw q at f))
      by false q f = join_other (get_or s i 0) (drop (suc i) s) q

-- ## The scan, byte by byte

module _ (P : Bool → List ℕ → Type 0)
    (at_end : (b : Bool) → P b [])
    (stop : (t : List ℕ) → P false (10 ∷ t))
    (pair : (t : List ℕ) → P false t → P true (10 ∷ t))
    (byte : (b : Bool) (x : ℕ) (t : List ℕ) → (x ≡ 10 → ⊥) → P (eqb x 92) t → P b (x ∷ t))
  where
    newline : (b : Bool) (t : List ℕ) → P false t → P b (10 ∷ t)
    newline true t h = pair t h
    newline false t h = stop t

    pub scan_ind : (b : Bool) (t : List ℕ) → P b t
    scan_ind b [] = at_end b
    scan_ind b (x ∷ t) = by (eqb x 10) refl (scan_ind false t) (scan_ind (eqb x 92) t)
      where
        by : (c : Bool) → eqb x 10 ≡ c → P false t → P (eqb x 92) t → P b (x ∷ t)
        by true e h k = rw (eqb-true x 10 e) (newline b t h)
        by false e h k = byte b x t (λ q. true≢false (sym (eq-eqb x 10 q) ∙ e)) k

pub scan_byte : (b : Bool) (x : ℕ) (t : List ℕ) → (x ≡ 10 → ⊥)
    → scan b (x ∷ t) ≡ (let l : LineSpan = scan (eqb x 92) t in span (suc l.end) l.ended l.joins (is_line_byte x && l.clean))
unfolding scan
scan_byte b x t n = rw (ne_eqb x 10 n)

pub scan_pair : (t : List ℕ)
    → scan true (10 ∷ t) ≡ (let l : LineSpan = scan false t in span (suc l.end) l.ended (suc l.joins) l.clean)
unfolding scan
scan_pair t = refl

-- ## Bounds

-- the line l of a text of n bytes, where o is 1 after a backslash
record Bounds (n o : ℕ) (l : LineSpan) : Type 0 where
  pub within : l.end ≤ n
  pub below : l.ended ≡ true → l.end < n
  pub pairs : 2 * l.joins ≤ l.end + o

abbrev as_one : Bool → ℕ
as_one true = 1
as_one false = 0

as_one_le : (b : Bool) → as_one b ≤ 1
as_one_le true = omega arith
as_one_le false = omega arith

scan_bounds : (b : Bool) (t : List ℕ) → Bounds (length t) (as_one b) (scan b t)
unfolding scan
scan_bounds =
    scan_ind (λ b t. Bounds (length t) (as_one b) (scan b t))
    (λ b. record { within = omega arith; below = λ e. absurd (true≢false (sym e)); pairs = omega arith })
    (λ t. record { within = omega arith; below = λ e. omega arith; pairs = omega arith })
    (λ t h. record { within = omega arith; below = λ e. omega (arith, h.below e); pairs = omega arith })
    (λ b x t n h.
    let o : as_one (eqb x 92) ≤ 1 = as_one_le (eqb x 92) in
    rw (scan_byte b x t n) (record { within = omega arith; below = λ e. omega (arith, h.below e); pairs = omega arith }))

pub scan_line_bounds : (t : List ℕ) (i : ℕ) (r : LineSpan) → i ≤ length t → r ≡ span_at i (scan_line (drop i t)) → SpanBounds (length t) i r
unfolding scan_line
scan_line_bounds t i r h e =
    let b : Bounds (length (drop i t)) 0 (scan false (drop i t)) = scan_bounds false (drop i t) in
    let l : length (drop i t) ≡ length t - i = length-drop i t in
    rw e (record { from = omega arith; within = omega arith; below = λ q. omega (arith, b.below q); pairs = omega arith })

-- ## A scanned line and its join

-- what the scan tells of the line s: j dropped pairs, and c, that every byte that remains is one that a line may hold
pub record Joined (s : List ℕ) (j : ℕ) (c : Bool) : Type 0 where
  pub lengths : length s ≡ length (join s) + 2 * j
  pub bytes : all is_line_byte (join s) ≡ c
  pub plain : j ≡ 0 → all is_no_newline s ≡ true

joined_nil : Joined [] 0 true
unfolding join all
joined_nil = record { lengths = omega arith; bytes = refl; plain = λ e. refl }

joined_pair : {s : List ℕ} {j : ℕ} {c : Bool} → Joined s j c → Joined (92 ∷ 10 ∷ s) (suc j) c
joined_pair {s} h = record { lengths = rw (join_pair s) (omega arith); bytes = rw (join_pair s) h.bytes; plain = λ e. absurd (omega arith) }

joined_cons : {x : ℕ} {s : List ℕ} {j : ℕ} {c : Bool} → (x ≡ 10 → ⊥) → join (x ∷ s) ≡ x ∷ join s → Joined s j c
    → Joined (x ∷ s) j (is_line_byte x && c)
unfolding all
joined_cons {x} n e h = record { lengths = rw e (omega arith); bytes = rw (e, ← h.bytes); plain = λ z. rw (ne_eqb x 10 n) (h.plain z) }

-- s, after the backslash that stands before it
abbrev behind : Bool → List ℕ → List ℕ
behind true s = 92 ∷ s
behind false s = s

-- a byte that is no newline, before what is left of the line
joined_byte : (c : Bool) (x : ℕ) (s : List ℕ) {j : ℕ} {k : Bool} → eqb x 92 ≡ c → (x ≡ 10 → ⊥) → Joined (behind c s) j k
    → Joined (x ∷ s) j (is_line_byte x && k)
joined_byte true x s e n h = rw (eqb-true x 92 e) h
joined_byte false x s e n h = joined_cons n (join_other x s e) h

joined_behind : (b : Bool) (x : ℕ) (s : List ℕ) {j : ℕ} {k : Bool} → (x ≡ 10 → ⊥) → Joined (x ∷ s) j k → Joined (behind b (x ∷ s)) j k
joined_behind true x s n h = joined_cons (λ e. absurd (omega arith)) (join_plain 92 (x ∷ s) (any_one x 10 ∙ ne_eqb x 10 n)) h
joined_behind false x s n h = h

scan_joined : (b : Bool) (t : List ℕ) → Joined (behind b (take (scan b t).end t)) (scan b t).joins (scan b t).clean
unfolding scan
scan_joined =
    scan_ind (λ b t. Joined (behind b (take (scan b t).end t)) (scan b t).joins (scan b t).clean)
    ended
    (λ t. joined_nil)
    (λ t h. joined_pair h)
    (λ b x t n h.
    let s : List ℕ = take (scan (eqb x 92) t).end t in
    rw (scan_byte b x t n) (joined_behind b x s n (joined_byte (eqb x 92) x s refl n h)))
  where
    ended : (b : Bool) → Joined (behind b []) 0 true
    ended true = joined_cons (λ e. absurd (omega arith)) (join_plain 92 [] refl) joined_nil
    ended false = joined_nil

pub scan_line_joined : (t : List ℕ) → Joined (take (scan_line t).end t) (scan_line t).joins (scan_line t).clean
unfolding scan_line
scan_line_joined t = scan_joined false t

-- ## A scanned line among the logical lines

-- the text p before the first of several parts
abbrev prepend : List ℕ → List (List ℕ) → List (List ℕ)
prepend p [] = p ∷ []
prepend p (w ∷ ws) = (p ++ w) ∷ ws

prepend_cons_head : (p : List ℕ) (x : ℕ) (ws : List (List ℕ)) → prepend p (cons_head x ws) ≡ prepend (p ++ (x ∷ [])) ws
prepend_cons_head p x [] = refl
prepend_cons_head p x (w ∷ ws) = ap (λ (l : List ℕ). l ∷ ws) (sym (append_assoc p (x ∷ []) w))

split_byte : (x : ℕ) (t : List ℕ) → (x ≡ 10 → ⊥) → split "\n" (x ∷ t) ≡ cons_head x (split "\n" t)
unfolding split
split_byte x t n = rw (any_one x 10, ne_eqb x 10 n)

split_newline : (t : List ℕ) → split "\n" (10 ∷ t) ≡ [] ∷ split "\n" t
unfolding split any
split_newline t = refl

cons_head_some : (x : ℕ) (ws : List (List ℕ)) → (v : List ℕ) × ((vs : List (List ℕ)) × (cons_head x ws ≡ v ∷ vs))
cons_head_some x [] = (x ∷ [], ([], refl))
cons_head_some x (w ∷ ws) = (x ∷ w, (ws, refl))

split_some : (t : List ℕ) → (v : List ℕ) × ((vs : List (List ℕ)) × (split "\n" t ≡ v ∷ vs))
unfolding split
split_some [] = ([], ([], refl))
split_some (x ∷ t) = by (among "\n" x) refl
  where
    by : (b : Bool) → among "\n" x ≡ b → (v : List ℕ) × ((vs : List (List ℕ)) × (split "\n" (x ∷ t) ≡ v ∷ vs))
    by true e = ([], (split "\n" t, rw e))
    by false e = let s = cons_head_some x (split "\n" t) in (s.0, (s.1.0, rw e s.1.1))

last_among_snoc : (p : List ℕ) (x : ℕ) → last_among "\\" (p ++ (x ∷ [])) ≡ eqb x 92
last_among_snoc p x = rw (reverse-append p (x ∷ [])) (any_one x 92)

-- the lines from a line on of which p is read, and t is left
First : Bool → List ℕ → Type 0
First b t =
    (p : List ℕ) (n at : ℕ) → last_among "\\" p ≡ b → 0 < length p + length t
    → logical_lines n at (prepend p (split "\n" t))
    ≡ line n at (p ++ take (scan b t).end t) (scan b t).ended
    ∷ logical_lines (n + (scan b t).joins + 1) (at + (length p + (scan b t).end) + 1) (split "\n" (drop (suc (scan b t).end) t))

first_byte : (b : Bool) (x : ℕ) (t : List ℕ) → (x ≡ 10 → ⊥) → First (eqb x 92) t → First b (x ∷ t)
unfolding First
first_byte b x t n h p m at e k =
    let q : List ℕ = p ++ (x ∷ []) in
    let f : ℕ = (scan (eqb x 92) t).end in
    let l : length p + suc f ≡ length q + f = omega (arith, length-append p (x ∷ [])) in
    rw (split_byte x t n, scan_byte b x t n, prepend_cons_head p x (split "\n" t), ← (append_snoc p x (take f t)), l)
    (h q m at (last_among_snoc p x) (omega (arith, length-append p (x ∷ []))))

pub logical_lines_nil : (n at : ℕ) → logical_lines n at (split "\n" []) ≡ []
unfolding logical_lines split
logical_lines_nil n at = refl

logical_lines_newline : (n at : ℕ) (s t : List ℕ)
    → logical_lines n at (s ∷ split "\n" t)
    ≡ (let rest : List Line = logical_lines (n + 1) (at + length s + 1) (split "\n" t) in
    when last_among "\\" s then continued n at s rest else line n at s true ∷ rest)
unfolding logical_lines
logical_lines_newline n at s t = let v = split_some t in rw v.1.1

first_end : (b : Bool) → First b []
unfolding First logical_lines split scan
first_end b [] n at e k = absurd (omega arith)
first_end b (x ∷ p) n at e k = refl

first_stop : (t : List ℕ) → First false (10 ∷ t)
unfolding First scan
first_stop t p n at e k = rw (split_newline t, append-nil p, logical_lines_newline n at p t, e, add-zero n, add-zero (length p))

prepend_nil : (t : List ℕ) → prepend [] (split "\n" t) ≡ split "\n" t
prepend_nil t = let v = split_some t in rw v.1.1

first_more : (t : List ℕ) → 0 < length t → First false t → First true (10 ∷ t)
unfolding First
first_more t k h p n at e _ =
    let j : ℕ = (scan false t).joins in
    let f : ℕ = (scan false t).end in
    let m : n + suc j + 1 ≡ n + 1 + j + 1 = omega arith in
    let l : at + (length p + suc f) + 1 ≡ at + length p + 1 + (0 + f) + 1 = omega arith in
    rw (split_newline t, append-nil p, logical_lines_newline n at p t, e, scan_pair t, ← (append_snoc p 10 (take f t)), m, l, ← (prepend_nil t))
    (rw (h [] (n + 1) (at + length p + 1) refl (omega arith)))

first_pair : (t : List ℕ) → First false t → First true (10 ∷ t)
unfolding First scan logical_lines split
first_pair [] h p n at e k = rw (split_newline [], append-nil p, e)
first_pair (x ∷ t) h p n at e k = first_more (x ∷ t) (omega arith) h p n at e k

pub logical_lines_cons : (t : List ℕ) (n at : ℕ) → 0 < length t
    → logical_lines n at (split "\n" t)
    ≡ line n at (take (scan_line t).end t) (scan_line t).ended
    ∷ logical_lines (n + (scan_line t).joins + 1) (at + (scan_line t).end + 1) (split "\n" (drop ((scan_line t).end + 1) t))
unfolding First scan_line
logical_lines_cons t n at k =
    let f : ℕ = (scan false t).end in
    let l : at + f + 1 ≡ at + (0 + f) + 1 = omega arith in
    rw (← (prepend_nil t), add-one f, l)
    (scan_ind First first_end first_stop first_pair first_byte false t [] n at refl (omega arith))

-- ## The line that was scanned from i, a part of the text t

module _ (t : List ℕ) (i : ℕ) (r : LineSpan) (is-r : r ≡ span_at i (scan_line (drop i t))) where
  pub logical_lines_drop : (n : ℕ) → i < length t
      → logical_lines n i (split "\n" (drop i t))
      ≡ line n i (take (r.end - i) (drop i t)) r.ended
      ∷ logical_lines (n + r.joins + 1) (r.end + 1) (split "\n" (drop (r.end + 1) t))
  logical_lines_drop n h =
      let e : ℕ = (scan_line (drop i t)).end in
      let k : 0 < length (drop i t) = omega (arith, length-drop i t) in
      rw (is-r, add-sub_cancel_left i e) (logical_lines_cons (drop i t) n i k ∙ rw (drop-drop (e + 1) i t, add_assoc i e 1))

  pub first_logical_lines_drop : {B : Type 0} (f : Line → Option B) (n : ℕ) → i < length t
      → first f (logical_lines n i (split "\n" (drop i t)))
      ≡ f (line n i (take (r.end - i) (drop i t)) r.ended)
      or_else first f (logical_lines (n + r.joins + 1) (r.end + 1) (split "\n" (drop (r.end + 1) t)))
  unfolding first
  first_logical_lines_drop f n h = ap (first f) (logical_lines_drop n h)

  pub line_joined : Joined (take (r.end - i) (drop i t)) r.joins r.clean
  line_joined = rw (is-r, add-sub_cancel_left i (scan_line (drop i t)).end) (scan_line_joined (drop i t))

  pub length_line : i ≤ length t → length (take (r.end - i) (drop i t)) ≡ r.end - i
  length_line h =
      length-take-le (r.end - i) (drop i t) (omega (arith, (scan_line_bounds t i r h is-r).within, length-drop i t))

  pub length_join_line : i ≤ length t → length (join (take (r.end - i) (drop i t))) ≡ r.end - i - 2 * r.joins
  length_join_line h = omega (arith, line_joined.lengths, length_line h)

  pub line_no_newline : r.joins ≡ 0 → all is_no_newline (take (r.end - i) (drop i t)) ≡ true
  line_no_newline e = line_joined.plain e

  pub join_line : r.joins ≡ 0 → join (take (r.end - i) (drop i t)) ≡ take (r.end - i) (drop i t)
  join_line e = join_clean (take (r.end - i) (drop i t)) (line_no_newline e)

  pub has_bad_byte_line : has_bad_byte (join (take (r.end - i) (drop i t))) ≡ not r.clean
  unfolding has_bad_byte
  has_bad_byte_line = ap not line_joined.bytes

pub lines_start : (t : List ℕ) → lines t ≡ logical_lines 1 0 (split "\n" (drop 0 t))
unfolding lines
lines_start t = refl

pub logical_lines_end : (t : List ℕ) (i n at : ℕ) → length t ≤ i → logical_lines n at (split "\n" (drop i t)) ≡ []
logical_lines_end t i n at h = rw (drop_of_length-le t h) (logical_lines_nil n at)

pub first_logical_lines_end : {B : Type 0} (f : Line → Option B) (t : List ℕ) (i n at : ℕ) → length t ≤ i
    → first f (logical_lines n at (split "\n" (drop i t))) ≡ None
unfolding first
first_logical_lines_end f t i n at h = ap (first f) (logical_lines_end t i n at h)

-- ## The loop that scans

-- l, after a part of the line that ends at i, with j dropped pairs, c saying whether the part is clean
abbrev pub advance : ℕ → ℕ → Bool → LineSpan → LineSpan
advance i j c l = span (i + l.end) l.ended (j + l.joins) (c && l.clean)

-- the loop that scans the line from start, at i
pub record Scanning (t : List ℕ) (start i j : ℕ) (c : Bool) : Type 0 where
  pub from : start ≤ i
  pub within : i ≤ length t
  pub few : j ≤ i
  pub so_far : span_at start (scan_line (drop start t)) ≡ advance i j c (scan (slash_before t start i) (drop i t))

pub scanning_start : (t : List ℕ) (start : ℕ) → start ≤ length t → Scanning t start start 0 true
unfolding scan_line slash_before
scanning_start t start h =
    record { from = omega arith; within = h; few = omega arith; so_far = rw (le-ltb start start (omega arith), zero-add) }

slash_next : (t : List ℕ) (start i : ℕ) → start ≤ i → slash_before t start (i + 1) ≡ eqb (get_or t i 0) 92
unfolding slash_before
slash_next t start i h = rw (lt-ltb start (i + 1) (omega arith), add-sub_cancel i 1)

module _ {t : List ℕ} {start i j : ℕ} {c : Bool} (inv : Scanning t start i j c) where
  pub scanning_end : length t ≤ i → span (length t) false j c ≡ span_at start (scan_line (drop start t))
  unfolding scan
  scanning_end h =
      let n : length t ≡ i = omega (arith, inv.within) in
      rw n (sym (inv.so_far ∙ rw (drop_of_length-le t h, add-zero i, add-zero j, and_true_right c)))

  module _ (h : i < length t) where
    pub scanning_stop : get_or t i 0 ≡ 10 → (x : Bool) → x ≡ slash_before t start i → x ≡ false
        → span i true j c ≡ span_at start (scan_line (drop start t))
    unfolding scan
    scanning_stop e x is_x f = sym (inv.so_far ∙ rw (drop-cons t i 0 h, e, ← is_x, f, add-zero i, add-zero j, and_true_right c))

    pub scanning_pair : get_or t i 0 ≡ 10 → (x : Bool) → x ≡ slash_before t start i → x ≡ true → Scanning t start (i + 1) (j + 1) c
    scanning_pair e x is_x f =
        let l : LineSpan = scan false (drop (suc i) t) in
        let p : i + suc l.end ≡ suc i + l.end = omega arith in
        let q : j + suc l.joins ≡ j + 1 + l.joins = omega arith in
        record {
          from = omega (arith, inv.from);
          within = omega arith;
          few = omega (arith, inv.few);
          so_far =
              inv.so_far
              ∙ rw (slash_next t start i inv.from, drop-cons t i 0 h, e, ← is_x, f, scan_pair (drop (suc i) t), add-one i, p, q);
        }

    scanning_byte : (get_or t i 0 ≡ 10 → ⊥) → Scanning t start (i + 1) j (c && is_line_byte (get_or t i 0))
    scanning_byte n =
        let x : ℕ = get_or t i 0 in
        let l : LineSpan = scan (eqb x 92) (drop (suc i) t) in
        let p : i + suc l.end ≡ suc i + l.end = omega arith in
        record {
          from = omega (arith, inv.from);
          within = omega arith;
          few = omega (arith, inv.few);
          so_far =
              inv.so_far
              ∙ rw (slash_next t start i inv.from, drop-cons t i 0 h, scan_byte (slash_before t start i) x (drop (suc i) t) n)
              (rw (add-one i, p, and_assoc c (is_line_byte x) l.clean));
        }

    pub scanning_plain : (leb 32 (get_or t i 0) && leb (get_or t i 0) 126) ≡ true → Scanning t start (i + 1) j c
    scanning_plain e =
        let k : 32 ≤ get_or t i 0 = leb-true 32 (get_or t i 0) (and_true (leb 32 (get_or t i 0)) (leb (get_or t i 0) 126) e).0 in
        rw (e, or-true (eqb (get_or t i 0) 9), and_true_right c) at (scanning_byte (λ q. omega arith))

    pub scanning_other : (leb 32 (get_or t i 0) && leb (get_or t i 0) 126) ≡ false → (get_or t i 0 ≡ 10 → ⊥)
        → Scanning t start (i + 1) j (c && eqb (get_or t i 0) 9)
    scanning_other e n = rw (e, or-false) at (scanning_byte n)

-- ## Blocks of printable bytes

-- a scan that passes n printable bytes
scanning_front : (n : ℕ) (t : List ℕ) (start i j : ℕ) (c : Bool) → Scanning t start i j c → front_all printable n (drop i t) ≡ true
    → Scanning t start (i + n) j c
unfolding front_all
scanning_front zero t start i j c inv e = rw (add-zero i) inv
scanning_front (suc n) t start i j c inv e =
    let h : i < length t = omega (arith, front_within printable (suc n) (drop i t) e, length-drop i t) in
    let f : (printable (get_or t i 0) && front_all printable n (drop (suc i) t)) ≡ true = rw (drop-cons t i 0 h) at e in
    let g : front_all printable n (drop (i + 1) t) ≡ true = rw (add-one i) (and_true (printable (get_or t i 0)) (front_all printable n (drop (suc i) t)) f).1 in
    let m : i + suc n ≡ i + 1 + n = omega arith in
    rw m (scanning_front n t start (i + 1) j c (scanning_plain inv h (and_true (printable (get_or t i 0)) (front_all printable n (drop (suc i) t)) f).0) g)

pub scanning_after : (t : List ℕ) (start i : ℕ) → start ≤ length t → PassedTo printable t start i → Scanning t start i 0 true
scanning_after t start i h p =
    let n : start + (i - start) ≡ i = omega (arith, p.from) in
    rw n at (scanning_front (i - start) t start start 0 true (scanning_start t start h) p.front)

-- ## The loop that measures the join

abbrev joined_text : ℕ → Bool → JoinedText
joined_text n c = record { len = n; clean = c }

not_not : (b : Bool) → not (not b) ≡ b
not_not true = refl
not_not false = refl

-- s is read up to i: the join of that is n bytes long, and c says whether a line may hold all of them
pub record Measuring (s : List ℕ) (i n : ℕ) (c : Bool) : Type 0 where
  pub within : i ≤ length s
  pub few : n ≤ i
  pub lengths : length (join s) ≡ n + length (join (drop i s))
  pub bytes : all is_line_byte (join s) ≡ (c && all is_line_byte (join (drop i s)))

pub measuring_start : (s : List ℕ) → Measuring s 0 0 true
measuring_start s = record { within = omega arith; few = omega arith; lengths = omega arith; bytes = refl }

module _ {s : List ℕ} {i n : ℕ} {c : Bool} (inv : Measuring s i n c) where
  pub measuring_end : length s ≤ i → joined_text n c ≡ joined_text (length (join s)) (not (has_bad_byte (join s)))
  unfolding join all has_bad_byte
  measuring_end h = rw (inv.lengths, inv.bytes, drop_of_length-le s h, add-zero n, and_true_right c, not_not c)

  module _ (h : i < length s) (x : Bool) (is_x : x ≡ pair_at s i) where
    pub measuring_pair : x ≡ true → Measuring s (i + 2) n c
    measuring_pair e =
        record {
          within = pair_at_within s i h x is_x e;
          few = omega (arith, inv.few);
          lengths = rw (← (join_skip s i h x is_x e)) inv.lengths;
          bytes = rw (← (join_skip s i h x is_x e)) inv.bytes;
        }

    pub measuring_byte : x ≡ false → Measuring s (i + 1) (n + 1) (c && is_line_byte (get_or s i 0))
    unfolding all
    measuring_byte e =
        let k : join (drop i s) ≡ get_or s i 0 ∷ join (drop (i + 1) s) = join_keep s i h x is_x e in
        record {
          within = omega arith;
          few = omega (arith, inv.few);
          lengths = omega (arith, inv.lengths, ap length k);
          bytes = inv.bytes ∙ rw (k, and_assoc c (is_line_byte (get_or s i 0)) (all is_line_byte (join (drop (i + 1) s))));
        }

-- ## The loop that writes the join

-- o₀ is the output at entry, o is written up to n, and s is read up to i
pub record Joining (s o₀ o : List ℕ) (i n : ℕ) : Type 0 where
  pub within : i ≤ length s
  pub room : n ≤ length o
  pub long : length o ≡ length o₀
  pub text : join s ≡ take n o ++ join (drop i s)
  pub rest : drop n o ≡ drop n o₀

module _ {s o₀ o : List ℕ} {i n : ℕ} (inv : Joining s o₀ o i n) where
  pub joining_end : length s ≤ i → (n ≡ length (join s)) × (o ≡ join s ++ drop (length (join s)) o₀)
  unfolding join
  joining_end h =
      let t : join s ≡ take n o = inv.text ∙ rw (drop_of_length-le s h) (append-nil (take n o)) in
      let m : length (join s) ≡ n = ap length t ∙ length-take-le n o inv.room in
      (sym m, rw (m, t, ← inv.rest) (sym (take-append-drop n o)))

  module _ (h : i < length s) (x : Bool) (is_x : x ≡ pair_at s i) where
    pub joining_pair : x ≡ true → Joining s o₀ o (i + 2) n
    joining_pair e =
        record {
          within = pair_at_within s i h x is_x e;
          room = inv.room;
          long = inv.long;
          text = rw (← (join_skip s i h x is_x e)) inv.text;
          rest = inv.rest;
        }

    pub joining_room : x ≡ false → length (join s) ≤ length o₀ → n < length o
    joining_room e k =
        let t : length (join s) ≡ length (take n o) + length (join (drop i s)) = ap length inv.text ∙ length-append (take n o) (join (drop i s)) in
        omega (arith, length-take-le n o inv.room, ap length (join_keep s i h x is_x e))

    pub joining_byte : x ≡ false → length (join s) ≤ length o₀ → Joining s o₀ (set o n (get_or s i 0)) (i + 1) (n + 1)
    joining_byte e k =
        let b : ℕ = get_or s i 0 in
        let r : n < length o = joining_room e k in
        record {
          within = omega arith;
          room = rw (length-set o n b) (omega arith);
          long = length-set o n b ∙ inv.long;
          text =
              rw (add-one n, take-suc-set o n b r, append_snoc (take n o) b (join (drop (i + 1) s)), ← (join_keep s i h x is_x e))
              inv.text;
          rest = drop-set-lt (n + 1) o n b (omega arith) ∙ sym (drop-drop 1 n o) ∙ ap (drop 1) inv.rest ∙ drop-drop 1 n o₀;
        }

-- ## The loops that look for a comment and for a byte that is not blank

-- all before i are dropped pairs
module _ (s : List ℕ) (i : ℕ) (so_far : join s ≡ join (drop i s)) where
  module _ (h : i < length s) (x : Bool) (is_x : x ≡ pair_at s i) where
    pub comment_skip : x ≡ true → join s ≡ join (drop (i + 2) s)
    comment_skip e = so_far ∙ join_skip s i h x is_x e

    pub comment_here : x ≡ false → eqb (get_or s i 0) 35 ≡ first_among "#" (join s)
    comment_here e = rw (so_far, join_keep s i h x is_x e) (sym (any_one (get_or s i 0) 35))

  pub comment_none : length s ≤ i → false ≡ first_among "#" (join s)
  unfolding join
  comment_none h = rw (so_far, drop_of_length-le s h)

blank_slash : (b : ℕ) → (eqb b 32 || eqb b 9) ≡ true → eqb b 92 ≡ false
blank_slash b e = by (eqb b 32) refl e
  where
    by : (c : Bool) → eqb b 32 ≡ c → (c || eqb b 9) ≡ true → eqb b 92 ≡ false
    by true f e = rw (eqb-true b 32 f)
    by false f e = rw (eqb-true b 9 e)

-- all before i are blanks and dropped pairs
module _ (s : List ℕ) (i : ℕ) (so_far : all (among " \t") (join s) ≡ all (among " \t") (join (drop i s))) where
  module _ (h : i < length s) where
    pub blank_byte : (eqb (get_or s i 0) 32 || eqb (get_or s i 0) 9) ≡ true
        → all (among " \t") (join s) ≡ all (among " \t") (join (drop (i + 1) s))
    unfolding all any
    blank_byte e =
        so_far
        ∙ rw (drop-cons s i 0 h, add-one i, join_other (get_or s i 0) (drop (suc i) s) (blank_slash (get_or s i 0) e))
        (rw (or-false (eqb (get_or s i 0) 9), e))

    module _ (x : Bool) (is_x : x ≡ pair_at s i) where
      pub blank_pair : x ≡ true → all (among " \t") (join s) ≡ all (among " \t") (join (drop (i + 2) s))
      blank_pair e = so_far ∙ ap (all (among " \t")) (join_skip s i h x is_x e)

      pub blank_stop : x ≡ false → (eqb (get_or s i 0) 32 || eqb (get_or s i 0) 9) ≡ false → false ≡ all (among " \t") (join s)
      unfolding all any
      blank_stop e f = rw (so_far, join_keep s i h x is_x e, or-false (eqb (get_or s i 0) 9), f)

  pub blank_end : length s ≤ i → true ≡ all (among " \t") (join s)
  unfolding all join
  blank_end h = rw (so_far, drop_of_length-le s h)
