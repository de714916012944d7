-- Laws of one piece of a text: where it ends, whether it is bad, and what is written of it.
-- Assumes nothing.
use Prim.Native.Nat.{ℕ, zero, suc, ◌+◌, ◌-◌, ◌*◌, ◌<◌, ◌≤◌}
use Prim.Native.Char.{Char, code}
use Prim.Native.String.{String, [] as end, ◌∷◌ as ◌then◌}
use mathlib.Core.Bool.{Bool, true, false, not, ◌&&◌, true≢false}
use mathlib.Core.List.{List, [], ◌∷◌, ◌++◌}
use mathlib.Core.Path.{◌≡◌, refl, sym, ap, ap₂, ◌∙◌}
use native.Mathlib.Omega.{arith}
use borrow.Author.Tests.{eq-eqb, ne_eqb, lt-ltb, le-ltb, ltb-true, ltb-false}
use lib.Dec.{ltb, eqb}
use lib.ListN.{length, take, drop, length-append, length-drop}
use lib.Seq.{take_all, drop-drop, length-take-le}
use Rattle.text.specs.Basics.{when◌then◌else◌, is_some}
use Rattle.text.specs.Text.{bytes, split}
use Rattle.text.specs.Number.{to_digits}
use Rattle.text.specs.Scan.{index_of, put_at}
use Rattle.text.proofs.Digits.{length_to_digits}
use Rattle.text.proofs.PasteLaws.{length_put_at}
use Rattle.text.proofs.ScanLaws.{take_rest, split_mark, split_no_mark}
use Rattle.address_format.proofs.WriteText.{Wrote, wrote_nil, front_room, rest_room, rest_all}
use Rattle.section.specs.Section as S
use Rattle.lines.specs.declared.line.LineSpan.{LineSpan}
use Rattle.lines.specs.Line.{Line, line, logical_lines}
use Rattle.lines.specs.Scan.{span_at, scan_line, SpanBounds}
use Rattle.lines.proofs.LineLaws.{scan_line_bounds, logical_lines_drop, logical_lines_end}
use Rattle.elements.specs.Code.{View}
use Rattle.rules.specs.FileCode.{judged_line}
use Rattle.byuid.specs.Byuid.{is_retired}
use Rattle.byuid.specs.Convert.{convert_line}
use Rattle.byuid.proofs.ConvertLaws.{length_convert_line}
use Rattle.byuid.proofs.SplitLaws.{split_some}
use Rattle.portacl.specs.Portacl.{read_entry}
use Rattle.salvage.specs.declared.piece.Kind.{Kind}
use Rattle.salvage.specs.declared.piece.Kind.TheVariants as K
use Rattle.salvage.specs.declared.piece.Piece.{Piece}
use Rattle.salvage.specs.Salvage.{good_entry, change_bytes}
use Rattle.salvage.specs.Code.{plain_lines, stop_of, parts_from, lines_from, is_bad, piece, Found, section_of, rule_bytes, bind_bytes, entry_bytes}
use Rattle.salvage.specs.Code.{text_bytes, listed_bytes, written_for}

-- ## Where pieces stop

module _ (k : Kind) (n : ℕ) where
  pub stop_allow : k ≡ K.Allow → n ≡ stop_of k n
  unfolding stop_of
  stop_allow e = rw e

  pub stop_deny : k ≡ K.Deny → n ≡ stop_of k n
  unfolding stop_of
  stop_deny e = rw e

  pub stop_byuid : k ≡ K.Byuid → n + 1 ≡ stop_of k n
  unfolding stop_of
  stop_byuid e = rw e

  pub stop_empty : k ≡ K.Portacl → n ≡ 0 → 0 ≡ stop_of k n
  unfolding stop_of
  stop_empty e z = rw (e, eq-eqb n 0 z)

  pub stop_portacl : k ≡ K.Portacl → (n ≡ 0 → ⊥) → n + 1 ≡ stop_of k n
  unfolding stop_of
  stop_portacl e z = rw (e, ne_eqb n 0 z)

pub stop_within : (k : Kind) (n : ℕ) → stop_of k n ≤ n + 1
unfolding stop_of
stop_within K.Allow n = omega arith
stop_within K.Deny n = omega arith
stop_within K.Byuid n = omega arith
stop_within K.Portacl n = by (eqb n 0)
  where
    by : (b : Bool) → (when b then 0 else n + 1) ≤ n + 1
    by true = omega arith
    by false = omega arith

-- past the stop there is no piece
pub lines_stop : (k : Kind) (t : List ℕ) (at n : ℕ) → stop_of k (length t) ≤ at → lines_from k t at n ≡ []
unfolding stop_of lines_from
lines_stop K.Allow t at n h = logical_lines_end t at n at h
lines_stop K.Deny t at n h = logical_lines_end t at n at h
lines_stop K.Byuid t at n h = rw (le-ltb at (length t + 1) h)
lines_stop K.Portacl t at n h = rw (le-ltb at (when eqb (length t) 0 then 0 else length t + 1) h)

-- ## The logical line at a place

module _ (v : View) (t : List ℕ) (at n : ℕ) (h : at < length t) (l : LineSpan) (is-l : l ≡ span_at at (scan_line (drop at t)))
    (x : Bool) (is_x : x ≡ is_some (judged_line v (line 0 0 (take (l.end - at) (drop at t)) l.ended))) where
  bounds : SpanBounds (length t) at l
  bounds = scan_line_bounds t at l (omega arith) is-l

  pub rule_found_lem : Found K.Allow v t at n (piece l.end l.ended (n + l.joins + 1) x) × Found K.Deny v t at n (piece l.end l.ended
      (n + l.joins + 1) x)
  unfolding is_bad lines_from
  rule_found_lem = (
    record {
      from = bounds.from;
      within = bounds.within;
      numbered = omega (arith, bounds.pairs);
      bad = is_x;
      lines = logical_lines_drop t at l is-l n h;
    },
    record {
      from = bounds.from;
      within = bounds.within;
      numbered = omega (arith, bounds.pairs);
      bad = is_x;
      lines = logical_lines_drop t at l is-l n h;
    },
  )

-- ## The part at a place

plain_lines_cons : (n at : ℕ) (s : List ℕ) (ws : List (List ℕ)) → 0 < length ws → plain_lines n at (s ∷ ws) ≡ line n at s true ∷ plain_lines (n + 1)
    (at + length s + 1) ws
unfolding plain_lines
plain_lines_cons n at s [] h = absurd (omega arith)
plain_lines_cons n at s (w ∷ ws) h = refl

module _ (c : Char) (t : List ℕ) (at n i : ℕ) (h : at ≤ length t) (is-i : i ≡ index_of (code c) (drop at t)) where
  abbrev mark : String
  mark = c then end

  abbrev stop : ℕ
  stop = length t + 1

  parts_next : i ≤ length t - at
      → parts_from mark stop t at n ≡ line n at (take i (drop at t)) (ltb (at + i) (length t)) ∷ parts_from mark stop t (at + i + 1) (n + 1)
  unfolding plain_lines
  parts_next within = by (ltb (at + i) (length t)) refl
    where
      by : (b : Bool) → ltb (at + i) (length t) ≡ b
          → parts_from mark stop t at n ≡ line n at (take i (drop at t)) b ∷ parts_from mark stop t (at + i + 1) (n + 1)
      by true e =
          let k : at + i < length t = ltb-true (at + i) (length t) e in
          let q : at + (i + 1) ≡ at + i + 1 = omega arith in
          let inside : i < length (drop at t) = rw (length-drop at t) (omega arith) in
          let long : length (take i (drop at t)) ≡ i = length-take-le i (drop at t) (omega arith) in
          rw (
            lt-ltb at (length t + 1) (omega arith),
            lt-ltb (at + i + 1) (length t + 1) (omega arith),
            split_mark mark (code c) refl (drop at t) i is-i inside,
            drop-drop (i + 1) at t,
            q,
          )
          (plain_lines_cons n at (take i (drop at t)) (split mark (drop (at + i + 1) t)) (split_some c (drop (at + i + 1) t))
          ∙ rw long)
      by false e =
          let k : length t ≤ at + i = ltb-false (at + i) (length t) e in
          let all : length (drop at t) ≤ i = rw (length-drop at t) (omega arith) in
          rw (
            lt-ltb at (length t + 1) (omega arith),
            le-ltb (at + i + 1) (length t + 1) (omega arith),
            split_no_mark mark (code c) refl (drop at t) i is-i all,
            take_all i (drop at t) all,
          )

module _ (v : View) (t : List ℕ) (at n i : ℕ) where
  same_end : at + i - at ≡ i
  same_end = omega arith

  pub bind_found : at ≤ length t → i ≡ index_of 10 (take (length t - at) (drop at t)) → i ≤ length (take (length t - at) (drop at t))
      → (x : Bool) → x ≡ is_retired (take (at + i - at) (drop at t)) → Found K.Byuid v t at n (piece (at + i) (ltb (at + i) (length t)) (n + 1) x)
  unfolding is_bad lines_from stop_of
  bind_found h is-i within x is_x =
      let k : i ≤ length t - at = rw (take_rest t at, length-drop at t) at within in
      record {
        from = omega arith;
        within = omega arith;
        numbered = omega arith;
        bad = is_x;
        lines = rw same_end (parts_next "\n" t at n i h (rw (take_rest t at) at is-i) k);
      }

  pub entry_found : 0 < length t → at ≤ length t → i ≡ index_of 44 (take (length t - at) (drop at t)) → i ≤ length (take (length t - at) (drop at t))
      → (x : Bool) → x ≡ is_some (read_entry (take (at + i - at) (drop at t))) → Found K.Portacl v t at n (piece (at + i) (ltb (at + i) (length t)) (n + 1)
      (not x))
  unfolding is_bad lines_from stop_of
  entry_found some j is-i within x is_x =
      let k : i ≤ length t - at = rw (take_rest t at, length-drop at t) at within in
      record {
        from = omega arith;
        within = omega arith;
        numbered = omega arith;
        bad = ap not is_x;
        lines = rw (ne_eqb (length t) 0 (λ z. omega arith), same_end) (parts_next "," t at n i j (rw (take_rest t at) at is-i) k);
      }

-- ## By the kind of text

module _ (k : Kind) (m at : ℕ) (h : at < stop_of k m) where
  pub at_allow : k ≡ K.Allow → at < m
  unfolding stop_of
  at_allow e = rw e at h

  pub at_deny : k ≡ K.Deny → at < m
  unfolding stop_of
  at_deny e = rw e at h

  pub at_byuid : k ≡ K.Byuid → at ≤ m
  unfolding stop_of
  at_byuid e = let q : at < m + 1 = rw e at h in omega arith

  entry_at : k ≡ K.Portacl → (0 < m) × (at ≤ m)
  unfolding stop_of
  entry_at e = by (eqb m 0) refl (rw e at h)
    where
      by : (b : Bool) → eqb m 0 ≡ b → at < (when b then 0 else m + 1) → (0 < m) × (at ≤ m)
      by true q l = absurd (omega arith)
      by false q l = (some m q, omega arith)
        where
          some : (m : ℕ) → eqb m 0 ≡ false → 0 < m
          some zero q = absurd (true≢false q)
          some (suc m) q = omega arith

  pub at_some : k ≡ K.Portacl → 0 < m
  at_some e = (entry_at e).0

  pub at_portacl : k ≡ K.Portacl → at ≤ m
  at_portacl e = (entry_at e).1

module _ (k : Kind) (v : View) (t : List ℕ) (at n : ℕ) (p : Piece) where
  pub found_allow : k ≡ K.Allow → Found K.Allow v t at n p × Found K.Deny v t at n p → Found k v t at n p
  found_allow e f = rw e f.0

  pub found_deny : k ≡ K.Deny → Found K.Allow v t at n p × Found K.Deny v t at n p → Found k v t at n p
  found_deny e f = rw e f.1

  pub found_byuid : k ≡ K.Byuid → Found K.Byuid v t at n p → Found k v t at n p
  found_byuid e f = rw e f

  pub found_portacl : k ≡ K.Portacl → Found K.Portacl v t at n p → Found k v t at n p
  found_portacl e f = rw e f

-- ## How many bytes

length_change : (c : ℕ × ℕ) → length (change_bytes c) ≡ 8
length_change c = length-append (to_digits 256 4 c.0) (to_digits 256 4 c.1) ∙ ap₂ ◌+◌ (length_to_digits 256 4 c.0) (length_to_digits 256 4 c.1)

-- so many bytes of the new text are written
abbrev pub Long : Kind → Bool → Bool → List ℕ → Bool → ℕ → Type 0
Long k bad alone s ended n = (n ≡ length (text_bytes k bad alone s ended)) × (n ≤ 9 * (length s + 1))

length_ended : (s : List ℕ) → length (s ++ (10 ∷ [])) ≡ length s + 1
length_ended s = length-append s (10 ∷ [])

module _ (k : Kind) (bad alone : Bool) (s : List ℕ) (ended : Bool) where
  pub long_allow_bad : k ≡ K.Allow → bad ≡ true → Long k bad alone s ended 1
  unfolding text_bytes rule_bytes
  long_allow_bad e b = (rw (e, b), omega arith)

  pub long_allow : k ≡ K.Allow → bad ≡ false → Long k bad alone s ended (length s + 1)
  unfolding text_bytes rule_bytes
  long_allow e b = (rw (e, b) (sym (length_ended s)), omega arith)

  pub long_deny_bad : k ≡ K.Deny → bad ≡ true → Long k bad alone s ended 9
  unfolding text_bytes rule_bytes
  long_deny_bad e b = (rw (e, b), omega arith)

  pub long_deny : k ≡ K.Deny → bad ≡ false → Long k bad alone s ended (length s + 1)
  unfolding text_bytes rule_bytes
  long_deny e b = (rw (e, b) (sym (length_ended s)), omega arith)

  pub long_byuid : k ≡ K.Byuid → ended ≡ true → Long k bad alone s ended (length s + 1)
  unfolding text_bytes bind_bytes
  long_byuid e b = (rw (e, b) (sym (length_ended (convert_line s) ∙ ap (λ (n : ℕ). n + 1) (length_convert_line s))), omega arith)

  pub long_byuid_last : k ≡ K.Byuid → ended ≡ false → Long k bad alone s ended (length s)
  unfolding text_bytes bind_bytes
  long_byuid_last e b =
      (rw (e, b) (sym (length-append (convert_line s) [] ∙ omega (arith, length_convert_line s))), omega arith)

  pub long_entry_bad : k ≡ K.Portacl → bad ≡ true → Long k bad alone s ended 0
  unfolding text_bytes entry_bytes
  long_entry_bad e b = (rw (e, b), omega arith)

  pub long_entry_first : k ≡ K.Portacl → bad ≡ false → alone ≡ true → Long k bad alone s ended (length s)
  unfolding text_bytes entry_bytes
  long_entry_first e b a = (rw (e, b, a), omega arith)

  pub long_entry : k ≡ K.Portacl → bad ≡ false → alone ≡ false → Long k bad alone s ended (length s + 1)
  unfolding text_bytes entry_bytes
  long_entry e b a = (rw (e, b, a) (omega arith), omega arith)

-- the same, into the list or into the new text
module _ (k : Kind) (listing bad alone : Bool) (number : ℕ) (s : List ℕ) (ended : Bool) where
  abbrev pub LongFor : ℕ → Type 0
  LongFor n = (n ≡ length (written_for k listing bad alone number s ended)) × (n ≤ 9 * (length s + 1))

  pub long_text : not listing ≡ true → (n : ℕ) → Long k bad alone s ended n → LongFor n
  unfolding written_for
  long_text e n l = by listing e
    where
      by : (b : Bool) → not b ≡ true → (n ≡ length (written_for k b bad alone number s ended)) × (n ≤ 9 * (length s + 1))
      by true q = absurd (true≢false (sym q))
      by false q = l

  module _ (e : not listing ≡ false) where
    pub long_listed : bad ≡ true → LongFor 8
    unfolding written_for listed_bytes
    long_listed b = by listing e
      where
        by : (x : Bool) → not x ≡ false → (8 ≡ length (written_for k x bad alone number s ended)) × (8 ≤ 9 * (length s + 1))
        by true q = (rw b (sym (length_change ((section_of k).order, number))), omega arith)
        by false q = absurd (true≢false q)

    pub long_unlisted : bad ≡ false → LongFor 0
    unfolding written_for listed_bytes
    long_unlisted b = by listing e
      where
        by : (x : Bool) → not x ≡ false → (0 ≡ length (written_for k x bad alone number s ended)) × (0 ≤ 9 * (length s + 1))
        by true q = (rw b, omega arith)
        by false q = absurd (true≢false q)

-- ## What is written

module _ (s d : List ℕ) (at : ℕ) (room : at + length (rule_bytes [] false s) ≤ length d) where
  pub ended_room : at + length s ≤ length d
  unfolding rule_bytes
  ended_room = front_room d (rule_bytes [] false s) s (10 ∷ []) at refl room

  module _ (o : List ℕ) (m : ℕ) (w : Wrote d o s at m) where
    pub ended_room_2 : m + 1 ≤ length o
    unfolding rule_bytes
    ended_room_2 = rest_room d (rule_bytes [] false s) s (10 ∷ []) at refl room o m w

    pub ended_all : (q : List ℕ) (n : ℕ) → Wrote o q (10 ∷ []) m n → Wrote d q (rule_bytes [] false s) at n
    unfolding rule_bytes
    ended_all = rest_all d (rule_bytes [] false s) s (10 ∷ []) at refl room o m w

module _ (instead : List ℕ) (bad : Bool) (s d : List ℕ) (at : ℕ) where
  module _ (e : bad ≡ true) where
    pub bad_room : at + length (rule_bytes instead bad s) ≤ length d → at + length (rule_bytes [] false instead) ≤ length d
    unfolding rule_bytes
    bad_room h = rw e at h

    pub bad_all : (o : List ℕ) (n : ℕ) → Wrote d o (rule_bytes [] false instead) at n → Wrote d o (rule_bytes instead bad s) at n
    unfolding rule_bytes
    bad_all o n w = rw e w

  module _ (e : bad ≡ false) where
    pub good_room : at + length (rule_bytes instead bad s) ≤ length d → at + length (rule_bytes [] false s) ≤ length d
    unfolding rule_bytes
    good_room h = rw e at h

    pub good_all : (o : List ℕ) (n : ℕ) → Wrote d o (rule_bytes [] false s) at n → Wrote d o (rule_bytes instead bad s) at n
    unfolding rule_bytes
    good_all o n w = rw e w

-- a line of byuid
module _ (s d : List ℕ) (at : ℕ) (ended : Bool) (room : at + length (bind_bytes s ended) ≤ length d) where
  pub bind_room : at + length s ≤ length d
  unfolding bind_bytes
  bind_room = omega (arith, length-append (convert_line s) (when ended then bytes "\n" else []), length_convert_line s)

  module _ (o : List ℕ) (is-o : o ≡ put_at d at (convert_line s)) where
    wrote : Wrote d o (convert_line s) at (at + length s)
    wrote = (omega (arith, length_convert_line s), is-o)

    pub bind_room_2 : ended ≡ true → at + length s + 1 ≤ length o
    unfolding bind_bytes
    bind_room_2 e = rest_room d (bind_bytes s ended) (convert_line s) (10 ∷ []) at (rw e) room o (at + length s) wrote

    pub bind_all : ended ≡ true → (q : List ℕ) (n : ℕ) → Wrote o q (10 ∷ []) (at + length s) n → Wrote d q (bind_bytes s ended) at n
    unfolding bind_bytes
    bind_all e = rest_all d (bind_bytes s ended) (convert_line s) (10 ∷ []) at (rw e) room o (at + length s) wrote

    pub bind_last : ended ≡ false → Wrote d o (bind_bytes s ended) at (at + length s)
    unfolding bind_bytes
    bind_last e = rest_all d (bind_bytes s ended) (convert_line s) [] at (rw e) room o (at + length s) wrote o (at + length s) (wrote_nil o (at + length s))

-- an entry
module _ (bad alone : Bool) (s d : List ℕ) (at : ℕ) where
  pub entry_none : bad ≡ true → Wrote d d (entry_bytes bad alone s) at at
  unfolding entry_bytes
  entry_none e = rw e (wrote_nil d at)

  module _ (e : bad ≡ false) where
    pub first_room : alone ≡ true → at + length (entry_bytes bad alone s) ≤ length d → at + length s ≤ length d
    unfolding entry_bytes
    first_room a h = rw (e, a) at h

    pub first_all : alone ≡ true → (o : List ℕ) (n : ℕ) → Wrote d o s at n → Wrote d o (entry_bytes bad alone s) at n
    unfolding entry_bytes
    first_all a o n w = rw (e, a) w

    module _ (a : alone ≡ false) (room : at + length (entry_bytes bad alone s) ≤ length d) where
      pub comma_room : at + 1 ≤ length d
      unfolding entry_bytes
      comma_room = front_room d (entry_bytes bad alone s) (44 ∷ []) s at (rw (e, a)) room

      module _ (o : List ℕ) (m : ℕ) (w : Wrote d o (44 ∷ []) at m) where
        pub entry_room : m + length s ≤ length o
        unfolding entry_bytes
        entry_room = rest_room d (entry_bytes bad alone s) (44 ∷ []) s at (rw (e, a)) room o m w

        pub entry_all : (q : List ℕ) (n : ℕ) → Wrote o q s m n → Wrote d q (entry_bytes bad alone s) at n
        unfolding entry_bytes
        entry_all = rest_all d (entry_bytes bad alone s) (44 ∷ []) s at (rw (e, a)) room o m w

-- by the kind of text
module _ (k : Kind) (bad alone : Bool) (s : List ℕ) (ended : Bool) (d : List ℕ) (at : ℕ) where
  pub kept_room_allow : k ≡ K.Allow → at + length (text_bytes k bad alone s ended) ≤ length d → at + length (rule_bytes [] bad s) ≤ length d
  unfolding text_bytes
  kept_room_allow e h = rw e at h

  pub kept_all_allow : k ≡ K.Allow → (o : List ℕ) (n : ℕ) → Wrote d o (rule_bytes [] bad s) at n → Wrote d o (text_bytes k bad alone s ended) at n
  unfolding text_bytes
  kept_all_allow e o n w = rw e w

  pub kept_room_deny : k ≡ K.Deny → at + length (text_bytes k bad alone s ended) ≤ length d → at + length (rule_bytes (bytes "ALL: ALL") bad s) ≤ length d
  unfolding text_bytes
  kept_room_deny e h = rw e at h

  pub kept_all_deny : k ≡ K.Deny → (o : List ℕ) (n : ℕ) → Wrote d o (rule_bytes (bytes "ALL: ALL") bad s) at n → Wrote d o (text_bytes k bad alone s ended) at n
  unfolding text_bytes
  kept_all_deny e o n w = rw e w

  pub kept_room_byuid : k ≡ K.Byuid → at + length (text_bytes k bad alone s ended) ≤ length d → at + length (bind_bytes s ended) ≤ length d
  unfolding text_bytes
  kept_room_byuid e h = rw e at h

  pub kept_all_byuid : k ≡ K.Byuid → (o : List ℕ) (n : ℕ) → Wrote d o (bind_bytes s ended) at n → Wrote d o (text_bytes k bad alone s ended) at n
  unfolding text_bytes
  kept_all_byuid e o n w = rw e w

  pub kept_room_portacl : k ≡ K.Portacl → at + length (text_bytes k bad alone s ended) ≤ length d → at + length (entry_bytes bad alone s) ≤ length d
  unfolding text_bytes
  kept_room_portacl e h = rw e at h

  pub kept_all_portacl : k ≡ K.Portacl → (o : List ℕ) (n : ℕ) → Wrote d o (entry_bytes bad alone s) at n → Wrote d o (text_bytes k bad alone s ended) at n
  unfolding text_bytes
  kept_all_portacl e o n w = rw e w

-- a change
module _ (k : Kind) (bad : Bool) (number : ℕ) (d : List ℕ) (at : ℕ) where
  pub change_none : not bad ≡ true → Wrote d d (listed_bytes k bad number) at at
  unfolding listed_bytes
  change_none e = by bad e
    where
      by : (b : Bool) → not b ≡ true → Wrote d d (when b then change_bytes ((section_of k).order, number) else []) at at
      by true q = absurd (true≢false (sym q))
      by false q = wrote_nil d at

  module _ (e : not bad ≡ false) (room : at + length (listed_bytes k bad number) ≤ length d) where
    parts : listed_bytes k bad number ≡ to_digits 256 4 (section_of k).order ++ to_digits 256 4 number
    unfolding listed_bytes
    parts = by bad e
      where
        by : (b : Bool) → not b ≡ false → (when b then change_bytes ((section_of k).order, number) else []) ≡ to_digits 256 4
            (section_of k).order ++ to_digits 256 4 number
        by true q = refl
        by false q = absurd (true≢false q)

    front : List ℕ
    front = to_digits 256 4 (section_of k).order

    pub change_room : at + 4 ≤ length d
    change_room =
        omega (
          arith,
          front_room d (listed_bytes k bad number) (to_digits 256 4 (section_of k).order) (to_digits 256 4 number) at parts room,
          length_to_digits 256 4 (section_of k).order,
        )

    module _ (x : ℕ) (is_x : x ≡ (section_of k).order) (o : List ℕ) (m : ℕ) (w : (m ≡ at + 4) × (o ≡ put_at d at (to_digits 256 4 x))) where
      first_put : Wrote d o (to_digits 256 4 (section_of k).order) at m
      first_put = (omega (arith, w.0, length_to_digits 256 4 (section_of k).order), w.1 ∙ ap (λ (y : ℕ). put_at d at (to_digits 256 4 y)) is_x)

      pub change_room_2 : m + 4 ≤ length o
      change_room_2 =
          omega (
            arith,
            rest_room d (listed_bytes k bad number) (to_digits 256 4 (section_of k).order) (to_digits 256 4 number) at parts room o m first_put,
            length_to_digits 256 4 number,
          )

      pub change_all : (q : List ℕ) (n : ℕ) → (n ≡ m + 4) × (q ≡ put_at o m (to_digits 256 4 number)) → Wrote d q (listed_bytes k bad number) at n
      change_all q n v =
          rest_all d (listed_bytes k bad number) (to_digits 256 4 (section_of k).order) (to_digits 256 4 number) at parts room o m first_put q n
          (omega (arith, v.0, length_to_digits 256 4 number), v.1)

-- into the list, or into the new text
module _ (k : Kind) (listing bad alone : Bool) (number : ℕ) (s : List ℕ) (ended : Bool) (d : List ℕ) (at : ℕ) where
  module _ (e : listing ≡ true) where
    pub listing_room : at + length (written_for k listing bad alone number s ended) ≤ length d → at + length (listed_bytes k bad number) ≤ length d
    unfolding written_for
    listing_room h = rw e at h

    pub listing_all : (o : List ℕ) (n : ℕ) → Wrote d o (listed_bytes k bad number) at n → Wrote d o (written_for k listing bad alone number s ended) at n
    unfolding written_for
    listing_all o n w = rw e w

  module _ (e : listing ≡ false) where
    pub text_room : at + length (written_for k listing bad alone number s ended) ≤ length d → at + length (text_bytes k bad alone s ended) ≤ length d
    unfolding written_for
    text_room h = rw e at h

    pub text_all : (o : List ℕ) (n : ℕ) → Wrote d o (text_bytes k bad alone s ended) at n → Wrote d o (written_for k listing bad alone number s ended) at n
    unfolding written_for
    text_all o n w = rw e w
