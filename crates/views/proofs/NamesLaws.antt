-- Laws of names that notes tell, shaped as the calls and tests of the code hand their facts over.
--   noted_place_lem == notes that tell the names of all tables find the place that place_named finds
-- Assumes nothing.
use Rattle.std.specs.Prelude.{None, Option, Some}
use Prim.Native.Nat.{ℕ, zero, suc, ◌+◌, ◌-◌, ◌*◌, ◌%◌, ◌≤◌, ◌<◌}
use native.Mathlib.Numerals.{add-one}
use native.Mathlib.Omega.{arith}
use mathlib.Core.Bool.{Bool, true, false, ◌&&◌, ◌||◌, true≢false, and-false}
use mathlib.Core.List.{List, [], ◌∷◌, map}
use mathlib.Core.Path.{◌≡◌, refl, sym, ap, ap₂, ◌∙◌, subst}
use borrow.Author.Tests.{eqb-true, eqb-false, ltb-true, ltb-false, leb-true, leb-false, eq-eqb, ne_eqb, le-leb, lt-leb}
use lib.Dec.{eqb, ltb, leb}
use lib.ListN.{length, take, drop, get_or, set, replicate, get_or-replicate, length-replicate, length-set, length-drop, drop_of_length-le}
use lib.Seq.{take_all, drop-cons, drop-drop, get_or-drop, get_or-set_same, get_or-set_other}
use Rattle.text.specs.Basics.{when◌then◌else◌, ◌>>=◌}
use Rattle.text.specs.Text.{lower, equal, equal_fold}
use Rattle.text.proofs.BasicLaws.{or_false as or_none}
use Rattle.text.proofs.ScanLaws.{eq_of_equal, equal_fold_lengths, take_rest}
use Rattle.tables.specs.declared.entry.EntrySpan.{EntrySpan}
use Rattle.tables.specs.Table.{Table, table, read_table}
use Rattle.tables.specs.Code.{table_count, tables_in, entries, entry_span, entry_table, after_entry, place_named, shifted}
use Rattle.tables.proofs.EntryLaws.{table_count_none, Whole, read_whole, read_count, Entry, entry_of}
use Rattle.tables.proofs.EntryLaws.{Reached, reached_start, reached_cut, reached_end, reached_here, reached_more, count_all, shifted_none}
use Rattle.tables.proofs.StartLaws.{EndOf, end_at, end_more, entry_rest_is}
use Rattle.views.proofs.DeepLaws.{table_here, place_here}
use Rattle.views.specs.Names.{hash_from, hash_of, is_named_at, is_hit, hashed_from, noted_place, near_by, Skipped, NameAt, NamesNoted, Told}

abbrev no_table : Table
no_table = table [] []

-- ## The number of a name

pub record Hashing (name : List ℕ) (made i : ℕ) : Type 0 where
  pub small : made < 72057594037927936
  pub so_far : hash_of name ≡ hash_from made (drop i name)

pub hashing_start : (name : List ℕ) → Hashing name 0 0
unfolding hash_of
hashing_start name = record { small = omega arith; so_far = refl }

module _ (name : List ℕ) (made i : ℕ) (h : Hashing name made i) where
  pub hashing_more : i < length name → (b : ℕ) → b ≡ lower (get_or name i 0) → Hashing name ((made * 131 + b) % 72057594037927936) (i + 1)
  unfolding hash_from
  hashing_more l b is_b = record {
    small = omega arith;
    so_far = h.so_far ∙ ap (hash_from made) (drop-cons name i 0 l) ∙ rw (add-one i, is_b);
  }

  pub hashing_small : made < 72057594037927936
  hashing_small = h.small

  pub hashing_end : length name ≤ i → made ≡ hash_of name
  unfolding hash_from
  hashing_end l = sym (h.so_far ∙ ap (hash_from made) (drop_of_length-le name l))

mix_from : ℕ → List ℕ → ℕ
mix_from h [] = h
mix_from h (b ∷ s) = mix_from ((h * 131 + b) % 72057594037927936) s

mixed : (s : List ℕ) (h : ℕ) → hash_from h s ≡ mix_from h (map lower s)
unfolding hash_from mix_from
mixed [] h = refl
mixed (x ∷ s) h = mixed s ((h * 131 + lower x) % 72057594037927936)

-- names that are equal but for case have one number
hash_same : (a b : List ℕ) → equal_fold a b ≡ true → hash_of a ≡ hash_of b
unfolding hash_of equal_fold
hash_same a b e = mixed a 0 ∙ ap (mix_from 0) (eq_of_equal (map lower a) (map lower b) e) ∙ sym (mixed b 0)

-- ## The table at a byte

module _ (t n : List ℕ) (b : ℕ) where
  pub at_none : b ≡ 0 → false ≡ is_named_at t n b
  unfolding is_named_at
  at_none e = rw (eq-eqb b 0 e)

  pub at_past : (b ≡ 0 → ⊥) → length t ≤ b → false ≡ is_named_at t n b
  unfolding is_named_at
  at_past d l = rw (ne_eqb b 0 d, le-leb (length t) b l)

  module _ (some_byte : b ≡ 0 → ⊥) (within : b < length t) where
    inside : (eqb b 0 || leb (length t) b) ≡ false
    inside = rw (ne_eqb b 0 some_byte, lt-leb (length t) b within)

    pub at_other : (x : Bool) → x ≡ eqb (get_or t b 0) (length n) → x ≡ false → false ≡ is_named_at t n b
    unfolding is_named_at
    at_other x is_x e = rw (inside, ← is_x, e)

    module _ (x : Bool) (is_x : x ≡ eqb (get_or t b 0) (length n)) (long : x ≡ true) where
      pub at_short : length (take (length t - (b + 1)) (drop (b + 1) t)) < length n → false ≡ is_named_at t n b
      unfolding is_named_at
      at_short l =
          let m : length (drop (b + 1) t) ≤ length n = omega (arith, ap length (take_rest t (b + 1))) in
          let z : length n ≡ length (take (length n) (drop (b + 1) t)) → ⊥ = λ e.
          omega (arith, ap length (take_rest t (b + 1)), ap length (take_all (length n) (drop (b + 1) t) m)) in
          rw (inside, ← is_x, long) (sym (equal_fold_lengths n (take (length n) (drop (b + 1) t)) z))

      pub at_long : (r : Bool) → r ≡ equal_fold n (take (length n) (take (length t - (b + 1)) (drop (b + 1) t))) → r ≡ is_named_at t n b
      unfolding is_named_at
      at_long r is-r =
          is-r
          ∙ rw (inside, ← is_x, long) (ap (λ (u : List ℕ). equal_fold n (take (length n) u)) (take_rest t (b + 1)))

-- the name of a whole entry
module _ (s : List ℕ) (span : EntrySpan) (is-span : span ≡ entry_span s) (whole : span.cut ≡ false) where
  entry_read : read_table s ≡ Some (entry_table s, after_entry s)
  entry_read = (entry_of s span is-span whole).read

  -- what is at a byte is what the entry there tells
  pub at_entry : (t : List ℕ) (b : ℕ) → s ≡ drop b t → (b ≡ 0 → ⊥) → (n : List ℕ) → is_named_at t n b ≡ equal_fold n (entry_table s).name
  unfolding is_named_at
  at_entry t b is-s d n =
      rw (ne_eqb b 0 d, lt-leb (length t) b within, byte)
      (by (eqb (length (entry_table s).name) (length n)) refl)
    where
      w : Whole s (entry_table s, after_entry s)
      w = read_whole s (entry_table s, after_entry s) entry_read

      within : b < length t
      within = omega (arith, w.within, ap length is-s, length-drop b t)

      byte : get_or t b 0 ≡ length (entry_table s).name
      byte =
          let z : b ≡ b + 0 = omega arith in
          ap (λ (k : ℕ). get_or t k 0) z ∙ sym (get_or-drop b t 0 0) ∙ ap (λ (u : List ℕ). get_or u 0 0) (sym is-s)
          ∙ read_count s (entry_table s, after_entry s) entry_read

      named : take (length (entry_table s).name) (drop (b + 1) t) ≡ (entry_table s).name
      named =
          let z : b + 1 ≡ 1 + b = omega arith in
          ap (λ (u : List ℕ). take (length (entry_table s).name) u) (sym (drop-drop 1 b t) ∙ ap (drop 1) (sym is-s)) ∙ w.name_is

      by : (x : Bool) → eqb (length (entry_table s).name) (length n) ≡ x
          → (when x then equal_fold n (take (length n) (drop (b + 1) t)) else false) ≡ equal_fold n (entry_table s).name
      by true e =
          let q : length n ≡ length (entry_table s).name = sym (eqb-true (length (entry_table s).name) (length n) e) in
          ap (equal_fold n) (ap (λ (k : ℕ). take k (drop (b + 1) t)) q ∙ named)
      by false e =
          let q : length (entry_table s).name ≡ length n → ⊥ = eqb-false (length (entry_table s).name) (length n) e in
          sym (equal_fold_lengths n (entry_table s).name (λ z. q (sym z)))

-- ## Names noted

-- the loop has passed i of the n counted tables of t, and the notes tell their names
pub record Noting (t : List ℕ) (n : ℕ) (rest : List ℕ) (i : ℕ) (notes : List ℕ) : Type 0 where
  pub counted : n ≡ table_count t
  pub reached : Reached t n rest i
  pub ends : EndOf t rest
  pub behind : length rest ≤ length t - 2
  pub few : length (tables_in t) ≤ 64
  pub long : length notes ≡ 259
  pub noted : (j : ℕ) → j < i → NameAt t j (get_or notes (131 + j) 0) (get_or notes (195 + j) 0)
  pub ahead : (j : ℕ) → i ≤ j → j < 64 → get_or notes (195 + j) 0 ≡ 0

pub noting_start : (t : List ℕ) (n : ℕ) → length (tables_in t) ≤ 64 → n ≡ table_count t → (rest : List ℕ) → rest ≡ drop 2 t
    → (notes : List ℕ) → notes ≡ replicate 259 0 → Noting t n rest 0 notes
noting_start t n l is-n rest is-rest notes is-notes = rw is-notes record {
  counted = is-n;
  reached = reached_start t n is-n rest is-rest;
  ends = end_at t 2 rest is-rest;
  behind = omega (arith, ap length is-rest, length-drop 2 t);
  few = l;
  long = refl;
  noted = λ j k. absurd (omega arith);
  ahead = λ j k m. let z : 195 + j < 259 = omega arith in get_or-replicate {A = ℕ} 259 (195 + j) 0 0 z;
}

module _ (t : List ℕ) (n : ℕ) (rest : List ℕ) (i : ℕ) (notes : List ℕ) (h : Noting t n rest i notes) where
  all_noted : drop i (tables_in t) ≡ [] → NamesNoted t notes
  all_noted e =
      let z : i ≡ length (tables_in t) = count_all t n rest i h.reached e in
      record {
        names_long = h.long;
        names_few = h.few;
        names_told = λ j l. h.noted j (omega arith);
        names_past = λ j l m. h.ahead j (omega arith) m;
      }

  pub noting_end : n ≤ i → NamesNoted t notes
  noting_end l = all_noted (reached_end t n rest i h.reached l)

  pub noting_within : length rest ≤ length t
  noting_within = h.ends.end_within

  module _ (more : i < n) (span : EntrySpan) (is-span : span ≡ entry_span rest) where
    pub noting_cut : span.cut ≡ true → NamesNoted t notes
    noting_cut e = all_noted (reached_cut t n rest i h.reached more span is-span e)

    module _ (whole : span.cut ≡ false) where
      place : i < 64
      place = omega (arith, h.few, place_here t n rest i h.reached more span is-span whole)

      pub noting_place : 131 + i < 259
      noting_place = omega (arith, place)

      pub noting_byte_place : 195 + i < 259
      noting_byte_place = omega (arith, place)

      noting_room : 131 + i < length notes
      noting_room = omega (arith, place, h.long)

      noting_byte_room : (x : ℕ) → 195 + i < length (set notes (131 + i) x)
      noting_byte_room x = omega (arith, place, h.long, length-set notes (131 + i) x)

      -- a table that is counted stands behind the count
      counted_byte : length t - length rest ≡ 0 → ⊥
      counted_byte e = by (ltb (length t) 2) refl
        where
          by : (x : Bool) → ltb (length t) 2 ≡ x → ⊥
          by true q = omega (arith, h.counted, table_count_none t (ltb-true (length t) 2 q))
          by false q = omega (arith, h.behind, ltb-false (length t) 2 q)

      here : (hash : ℕ) → hash ≡ hash_of (entry_table rest).name → NameAt t i hash (length t - length rest)
      here hash is-hash = record {
        name_hash = is-hash ∙ ap (λ (x : Table). hash_of x.name) (sym (table_here t n rest i h.reached more span is-span whole));
        name_byte = λ m. at_entry rest span is-span whole t (length t - length rest) h.ends.end_is counted_byte m
            ∙ ap (λ (x : Table). equal_fold m x.name) (sym (table_here t n rest i h.reached more span is-span whole));
      }

      module _ (name : List ℕ) (is_name : name ≡ (entry_table rest).name) (x : ℕ) (is_x : x ≡ hash_of name) (next : List ℕ) (is-next : next ≡ after_entry rest)
        where
          abbrev new : List ℕ
          new = set (set notes (131 + i) x) (195 + i) (length t - length rest)

          other_hash : (j : ℕ) → j < 64 → (j ≡ i → ⊥) → get_or new (131 + j) 0 ≡ get_or notes (131 + j) 0
          other_hash j l d =
              get_or-set_other (set notes (131 + i) x) (195 + i) (131 + j) (length t - length rest) 0 (λ z. omega (arith, place))
              ∙ get_or-set_other notes (131 + i) (131 + j) x 0 (λ z. d (omega arith))

          other_byte : (j : ℕ) → (j ≡ i → ⊥) → get_or new (195 + j) 0 ≡ get_or notes (195 + j) 0
          other_byte j d =
              get_or-set_other (set notes (131 + i) x) (195 + i) (195 + j) (length t - length rest) 0 (λ z. d (omega arith))
              ∙ get_or-set_other notes (131 + i) (195 + j) x 0 (λ z. omega (arith, place))

          this_hash : get_or new (131 + i) 0 ≡ x
          this_hash =
              get_or-set_other (set notes (131 + i) x) (195 + i) (131 + i) (length t - length rest) 0 (λ z. omega arith)
              ∙ get_or-set_same notes (131 + i) x 0 noting_room

          this_byte : get_or new (195 + i) 0 ≡ length t - length rest
          this_byte = get_or-set_same (set notes (131 + i) x) (195 + i) (length t - length rest) 0 (noting_byte_room x)

          told : (j : ℕ) → j < i + 1 → (b : Bool) → eqb j i ≡ b → NameAt t j (get_or new (131 + j) 0) (get_or new (195 + j) 0)
          told j l true e =
              subst (λ (m : ℕ). NameAt t m (get_or new (131 + m) 0) (get_or new (195 + m) 0)) (sym (eqb-true j i e))
              (rw (this_hash, this_byte) (here x (is_x ∙ ap hash_of is_name)))
          told j l false e =
              let d : j ≡ i → ⊥ = eqb-false j i e in
              let m : j < i = omega arith in
              rw (other_hash j (omega (arith, place)) d, other_byte j d) (h.noted j m)

          pub noting_more : (r : List ℕ) → r ≡ set (set notes (131 + i) x) (195 + i) (length t - length rest) → Noting t n next (i + 1) r
          noting_more r is-r = rw is-r record {
            counted = h.counted;
            reached = reached_more t n rest i h.reached more span is-span whole next is-next;
            ends = rw is-next (subst (EndOf t) after (end_more t rest h.ends span.end));
            behind = omega (arith, h.behind, ap length is-next, ap length (sym after), length-drop span.end rest);
            few = h.few;
            long = length-set (set notes (131 + i) x) (195 + i) (length t - length rest) ∙ length-set notes (131 + i) x ∙ h.long;
            noted = λ j l. told j l (eqb j i) refl;
            ahead = λ j l m. let d : j ≡ i → ⊥ = λ e. omega arith in other_byte j d ∙ h.ahead j (omega arith) m;
          }
            where
              after : drop span.end rest ≡ after_entry rest
              after = entry_rest_is rest span is-span whole

-- ## Names found

shifted_more : (i : ℕ) (o : Option ℕ) → shifted (suc i) o ≡ shifted i (o >>= λ k. Some (suc k))
shifted_more i None = refl
shifted_more i (Some k) = let z : suc i + k ≡ i + suc k = omega arith in ap Some z

module _ (t notes n : List ℕ) (h : NamesNoted t notes) where
  hit_here : (i : ℕ) → i < length (tables_in t) → is_hit t notes n i ≡ equal_fold n (get_or (tables_in t) i no_table).name
  hit_here i l = ap (λ (b : Bool). eqb (get_or notes (131 + i) 0) (hash_of n) && b) ((h.names_told i l).name_byte n)
      ∙ by (equal_fold n (get_or (tables_in t) i no_table).name) refl
    where
      by : (b : Bool) → equal_fold n (get_or (tables_in t) i no_table).name ≡ b → (eqb (get_or notes (131 + i) 0) (hash_of n) && b) ≡ b
      by true e =
          let q : get_or notes (131 + i) 0 ≡ hash_of n = (h.names_told i l).name_hash ∙ sym (hash_same n (get_or (tables_in t) i no_table).name e) in
          rw (eq-eqb (get_or notes (131 + i) 0) (hash_of n) q)
      by false e = and-false (eqb (get_or notes (131 + i) 0) (hash_of n))

  hit_past : (i : ℕ) → length (tables_in t) ≤ i → i < 64 → is_hit t notes n i ≡ false
  unfolding is_named_at
  hit_past i l m = rw (h.names_past i l m) (and-false (eqb (get_or notes (131 + i) 0) (hash_of n)))

  none_past : (k i : ℕ) → k + i ≤ 64 → length (tables_in t) ≤ i → hashed_from t notes n k i ≡ None
  unfolding hashed_from
  none_past zero i s l = refl
  none_past (suc k) i s l = rw (hit_past i l (omega arith)) (none_past k (suc i) (omega arith) (omega arith))

  found_from : (k i : ℕ) → k + i ≡ 64 → hashed_from t notes n k i ≡ shifted i (place_named (drop i (tables_in t)) n)
  unfolding hashed_from place_named
  found_from zero i s =
      let l : length (tables_in t) ≤ i = omega (arith, h.names_few) in
      sym (rw (drop_of_length-le (tables_in t) l))
  found_from (suc k) i s = by (ltb i (length (tables_in t))) refl (found_from k (suc i) (omega arith))
    where
      by : (x : Bool) → ltb i (length (tables_in t)) ≡ x
          → hashed_from t notes n k (suc i) ≡ shifted (suc i) (place_named (drop (suc i) (tables_in t)) n)
          → hashed_from t notes n (suc k) i ≡ shifted i (place_named (drop i (tables_in t)) n)
      by false e ih =
          let l : length (tables_in t) ≤ i = ltb-false i (length (tables_in t)) e in
          none_past (suc k) i (omega arith) l ∙ sym (rw (drop_of_length-le (tables_in t) l))
      by true e ih =
          let l : i < length (tables_in t) = ltb-true i (length (tables_in t)) e in
          rw (drop-cons (tables_in t) i no_table l, hit_here i l)
          (told (equal_fold n (get_or (tables_in t) i no_table).name))
        where
          told : (b : Bool)
              → (when b then Some i else hashed_from t notes n k (suc i))
              ≡ shifted i (when b then Some 0 else (place_named (drop (suc i) (tables_in t)) n >>= λ m. Some (suc m)))
          told true = let z : i ≡ i + 0 = omega arith in ap Some z
          told false = ih ∙ shifted_more i (place_named (drop (suc i) (tables_in t)) n)

  pub noted_place_lem : noted_place t notes n ≡ place_named (tables_in t) n
  unfolding noted_place
  noted_place_lem = rw (eq-eqb (length notes) 259 h.names_long) (found_from 64 0 refl ∙ sym (shifted_none (place_named (tables_in t) n)))

  pub named_place_is : (p : Option ℕ) → p ≡ noted_place t notes n → p ≡ place_named (tables_in t) n
  named_place_is p is-p = is-p ∙ noted_place_lem

-- notes of another length tell no names
pub other_place : (t notes n : List ℕ) → (length notes ≡ 259 → ⊥) → noted_place t notes n ≡ place_named (tables_in t) n
unfolding noted_place
other_place t notes n d = rw (ne_eqb (length notes) 259 d)

pub other_found : (t notes n : List ℕ) → (length notes ≡ 259 → ⊥) → (p : Option ℕ) → p ≡ place_named (tables_in t) n → p ≡ noted_place t notes n
other_found t notes n d p is-p = is-p ∙ (sym (other_place t notes n d))

-- ## Places skipped

pub near_is : (notes : List ℕ) (h i : ℕ) → near_by notes h i ≡ false → (j : ℕ) → i ≤ j → j < i + 4 → get_or notes (131 + j) 0 ≡ h → ⊥
near_is notes h i e j l m = λ q. by (eqb j i) refl (eqb j (1 + i)) refl (eqb j (2 + i)) refl q
  where
    first : (eqb (get_or notes (131 + i) 0) h ≡ false)
        × ((eqb (get_or notes (132 + i) 0) h || (eqb (get_or notes (133 + i) 0) h || eqb (get_or notes (134 + i) 0) h)) ≡ false)
    first = or_none (eqb (get_or notes (131 + i) 0) h) (eqb (get_or notes (132 + i) 0) h || (eqb (get_or notes (133 + i) 0) h || eqb (get_or notes (134 + i) 0) h)) e

    second : (eqb (get_or notes (132 + i) 0) h ≡ false) × ((eqb (get_or notes (133 + i) 0) h || eqb (get_or notes (134 + i) 0) h) ≡ false)
    second = or_none (eqb (get_or notes (132 + i) 0) h) (eqb (get_or notes (133 + i) 0) h || eqb (get_or notes (134 + i) 0) h) first.1

    third : (eqb (get_or notes (133 + i) 0) h ≡ false) × (eqb (get_or notes (134 + i) 0) h ≡ false)
    third = or_none (eqb (get_or notes (133 + i) 0) h) (eqb (get_or notes (134 + i) 0) h) second.1

    at : (k : ℕ) → eqb (get_or notes k 0) h ≡ false → 131 + j ≡ k → get_or notes (131 + j) 0 ≡ h → ⊥
    at k f z q = eqb-false (get_or notes k 0) h f (ap (λ (x : ℕ). get_or notes x 0) (sym z) ∙ q)

    by : (a : Bool) → eqb j i ≡ a → (b : Bool) → eqb j (1 + i) ≡ b → (c : Bool) → eqb j (2 + i) ≡ c → get_or notes (131 + j) 0 ≡ h → ⊥
    by true f b g c k q = at (131 + i) first.0 (omega (arith, eqb-true j i f)) q
    by false f true g c k q = at (132 + i) second.0 (omega (arith, eqb-true j (1 + i) g)) q
    by false f false g true k q = at (133 + i) third.0 (omega (arith, eqb-true j (2 + i) k)) q
    by false f false g false k q =
        let x : j ≡ i → ⊥ = eqb-false j i f in
        let y : j ≡ 1 + i → ⊥ = eqb-false j (1 + i) g in
        let z : j ≡ 2 + i → ⊥ = eqb-false j (2 + i) k in
        at (134 + i) third.1 (omega arith) q

pub skip_start : (notes : List ℕ) (h start : ℕ) → start ≤ 64 → Skipped notes h start start
skip_start notes h start l = record { skipped_from = omega arith; skipped_upto = l; skipped_over = λ j a b e. omega arith }

module _ (notes : List ℕ) (h start i : ℕ) (s : Skipped notes h start i) where
  further : (k : ℕ) → i ≤ k → k ≤ 64 → ((j : ℕ) → i ≤ j → j < k → get_or notes (131 + j) 0 ≡ h → ⊥) → Skipped notes h start k
  further k l m f = record {
    skipped_from = omega (arith, s.skipped_from);
    skipped_upto = m;
    skipped_over = λ j a b e. by j a b e (ltb j i) refl;
  }
    where
      by : (j : ℕ) → start ≤ j → j < k → get_or notes (131 + j) 0 ≡ h → (x : Bool) → ltb j i ≡ x → ⊥
      by j a b e true q = s.skipped_over j a (ltb-true j i q) e
      by j a b e false q = f j (ltb-false j i q) b e

  pub skip_four : i ≤ 60 → (x : Bool) → x ≡ near_by notes h i → x ≡ false → Skipped notes h start (i + 4)
  skip_four l x is_x e = further (i + 4) (omega arith) (omega arith) (near_is notes h i (sym is_x ∙ e))

  pub skip_one : i < 64 → (get_or notes (131 + i) 0 ≡ h → ⊥) → Skipped notes h start (i + 1)
  skip_one l d = further (i + 1) (omega arith) (omega arith)
      (λ j a b e. let z : j ≡ i = omega arith in d (ap (λ (m : ℕ). get_or notes (131 + m) 0) (sym z) ∙ e))

  pub found_none : 64 ≤ i → i < 64 → get_or notes (131 + i) 0 ≡ h
  found_none l m = absurd (omega arith)

-- a place with the number
pub found_here : (notes : List ℕ) (h i : ℕ) → get_or notes (131 + i) 0 ≡ h → i < 64 → get_or notes (131 + i) 0 ≡ h
found_here notes h i e l = e

-- ## The search by notes

-- the places before i are not that of the name, and i has its number
pub record Seeking (t notes n : List ℕ) (sought i : ℕ) : Type 0 where
  pub seeking_long : length notes ≡ 259
  pub seeking_hash : sought ≡ hash_of n
  pub seeking_upto : i ≤ 64
  pub seeking_here : i < 64 → get_or notes (131 + i) 0 ≡ sought
  pub seeking_left : noted_place t notes n ≡ hashed_from t notes n (64 - i) i

module _ (t notes n : List ℕ) (sought : ℕ) (is-sought : sought ≡ hash_of n) where
  skipped_hits : (k start i : ℕ) → k + start ≡ i → i ≤ 64 → ((j : ℕ) → start ≤ j → j < i → get_or notes (131 + j) 0 ≡ sought → ⊥)
      → hashed_from t notes n (64 - start) start ≡ hashed_from t notes n (64 - i) i
  unfolding hashed_from
  skipped_hits zero start i s l f = let z : start ≡ i = omega arith in rw z
  skipped_hits (suc k) start i s l f =
      let z : 64 - start ≡ suc (64 - suc start) = omega arith in
      let d : get_or notes (131 + start) 0 ≡ hash_of n → ⊥ = λ e. f start (omega arith) (omega arith) (e ∙ sym is-sought) in
      rw (z, ne_eqb (get_or notes (131 + start) 0) (hash_of n) d)
      (skipped_hits k (suc start) i (omega arith) l (λ j a b. f j (omega arith) b))

  pub seeking_start : length notes ≡ 259 → (r : ℕ) → Skipped notes sought 0 r → (r < 64 → get_or notes (131 + r) 0 ≡ sought) → Seeking t notes n sought r
  unfolding noted_place
  seeking_start l r s f = record {
    seeking_long = l;
    seeking_hash = is-sought;
    seeking_upto = s.skipped_upto;
    seeking_here = f;
    seeking_left = rw (eq-eqb (length notes) 259 l)
        (let z : r + 0 ≡ r = omega arith in skipped_hits r 0 r z s.skipped_upto s.skipped_over);
  }

module _ (t notes n : List ℕ) (sought i : ℕ) (s : Seeking t notes n sought i) where
  pub seeking_end : 64 ≤ i → None ≡ noted_place t notes n
  unfolding hashed_from
  seeking_end l =
      let z : 64 - i ≡ 0 = omega arith in
      let e : noted_place t notes n ≡ None = s.seeking_left ∙ rw z in
      sym (e)

  module _ (more : i < 64) (x : Bool) (is_x : x ≡ is_named_at t n (get_or notes (195 + i) 0)) where
    here_left : noted_place t notes n ≡ (when x then Some i else hashed_from t notes n (64 - suc i) (suc i))
    unfolding hashed_from
    here_left =
        let z : 64 - i ≡ suc (64 - suc i) = omega arith in
        s.seeking_left ∙ rw (z, eq-eqb (get_or notes (131 + i) 0) (hash_of n) (s.seeking_here more ∙ s.seeking_hash), ← is_x)

    pub seeking_found : x ≡ true → Some i ≡ noted_place t notes n
    seeking_found e = let z : noted_place t notes n ≡ Some i = here_left ∙ rw e in sym (z)

    pub seeking_more : x ≡ false → (r : ℕ) → Skipped notes sought (i + 1) r → (r < 64 → get_or notes (131 + r) 0 ≡ sought) → Seeking t notes n sought r
    seeking_more e r k f = record {
      seeking_long = s.seeking_long;
      seeking_hash = s.seeking_hash;
      seeking_upto = k.skipped_upto;
      seeking_here = f;
      seeking_left =
          let z : (r - suc i) + suc i ≡ r = omega (arith, k.skipped_from) in
          here_left ∙ rw e (skipped_hits t notes n sought s.seeking_hash (r - suc i) (suc i) r z k.skipped_upto
          (λ j a b. k.skipped_over j (omega arith) b));
    }

  pub seeking_less : i < 64 → (r : ℕ) → Skipped notes sought (i + 1) r → 64 - r < 64 - i
  seeking_less more r k = omega (arith, k.skipped_from)

-- ## What is told, over the front of the notes

pub record Telling (before told notes : List ℕ) (i : ℕ) : Type 0 where
  pub telling_size : length before ≡ 259
  pub telling_long : length notes ≡ length before
  pub telling_upto : i ≤ 131
  pub telling_front : (j : ℕ) → j < i → get_or notes j 0 ≡ get_or told j 0
  pub telling_behind : (j : ℕ) → i ≤ j → get_or notes j 0 ≡ get_or before j 0

pub telling_start : (before told : List ℕ) → length before ≡ 259 → Telling before told before 0
telling_start before told e = record {
  telling_size = e;
  telling_long = refl;
  telling_upto = omega arith;
  telling_front = λ j l. absurd (omega arith);
  telling_behind = λ j l. refl;
}

module _ (before told notes : List ℕ) (i : ℕ) (h : Telling before told notes i) where
  pub telling_more : i < 131 → (r : List ℕ) → r ≡ set notes i (get_or told i 0) → Telling before told r (i + 1)
  telling_more l r is-r = rw is-r record {
    telling_size = h.telling_size;
    telling_long = length-set notes i (get_or told i 0) ∙ h.telling_long;
    telling_upto = omega arith;
    telling_front = λ j m. by j m (eqb j i) refl;
    telling_behind = λ j m. get_or-set_other notes i j (get_or told i 0) 0 (λ e. omega arith) ∙ h.telling_behind j (omega arith);
  }
    where
      by : (j : ℕ) → j < i + 1 → (b : Bool) → eqb j i ≡ b → get_or (set notes i (get_or told i 0)) j 0 ≡ get_or told j 0
      by j m true e = let z : j ≡ i = eqb-true j i e in rw z (get_or-set_same notes i (get_or told i 0) 0 (omega (arith, h.telling_size, h.telling_long)))
      by j m false e =
          let d : j ≡ i → ⊥ = eqb-false j i e in
          get_or-set_other notes i j (get_or told i 0) 0 d ∙ h.telling_front j (omega arith)

  pub telling_end : 131 ≤ i → Told before told notes
  telling_end l = record {
    told_long = h.telling_long;
    told_front = λ j m. h.telling_front j (omega arith);
    told_behind = λ j m. h.telling_behind j (omega (arith, h.telling_upto));
  }

pub names_length : (t notes : List ℕ) → NamesNoted t notes → length notes ≡ 259
names_length t notes h = h.names_long

pub names_kept : (t made told notes : List ℕ) → NamesNoted t made → Told made told notes → NamesNoted t notes
names_kept t made told notes h k = record {
  names_long = k.told_long ∙ h.names_long;
  names_few = h.names_few;
  names_told = λ i l. rw (k.told_behind (131 + i) (omega arith), k.told_behind (195 + i) (omega arith)) (h.names_told i l);
  names_past = λ i l m. k.told_behind (195 + i) (omega arith) ∙ h.names_past i l m;
}
