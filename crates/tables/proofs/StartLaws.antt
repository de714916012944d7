-- Laws of the numbers of names, and of where to begin to look for one, shaped as the calls and tests of the code hand their facts over.
-- Assumes nothing.
use Rattle.std.specs.Prelude.{None, Option, Some}
use Prim.Native.Nat.{ℕ, zero, suc, ◌+◌, ◌-◌, ◌*◌, ◌%◌, ◌≤◌, ◌<◌}
use native.Mathlib.Nat.{mod-lt}
use native.Mathlib.Numerals.{add-one}
use native.Mathlib.Omega.{arith}
use mathlib.Core.Bool.{Bool, true, false}
use mathlib.Core.List.{List, [], ◌∷◌, map}
use mathlib.Core.Path.{◌≡◌, refl, sym, ap, ◌∙◌, subst}
use borrow.Author.Tests.{eqb-true, eqb-false, ltb-true, ltb-false, leb-true, leb-false}
use lib.Dec.{eqb, ltb, leb}
use lib.ListN.{length, take, drop, get_or, set, replicate, get_or-replicate, length-set, length-drop, drop_of_length-le}
use lib.Seq.{drop-cons, drop-drop, get_or-drop, get_or-set_same, get_or-set_other}
use Rattle.text.specs.Basics.{when◌then◌else◌, ◌>>=◌}
use Rattle.text.specs.Text.{lower, equal, equal_fold}
use Rattle.text.proofs.ScanLaws.{eq_of_equal, take_rest}
use Rattle.tables.specs.declared.entry.EntrySpan.{EntrySpan}
use Rattle.tables.specs.Table.{Table, table, read_table}
use Rattle.tables.specs.Code.{entries, table_count, tables_in, entry_span, entry_table, after_entry, followed}
use Rattle.tables.specs.Code.{place_named, shifted, SoughtFrom, key_from, key_of, StartOf, Starts}
use Rattle.tables.proofs.NameLaws.{lower_rest}
use Rattle.tables.proofs.EntryLaws.{Reached, reached_start, reached_cut, reached_end, reached_here, reached_more, count_all, shifted_none}
use Rattle.tables.proofs.EntryLaws.{rest_part}

-- ## The number of a name

pub record Keyed (name : List ℕ) (made i : ℕ) : Type 0 where
  pub small : made < 256
  pub so_far : key_of name ≡ key_from made (drop i name)

pub keyed_start : (name : List ℕ) → Keyed name 0 0
unfolding key_of
keyed_start name = record { small = omega arith; so_far = refl }

module _ (name : List ℕ) (made i : ℕ) (h : Keyed name made i) where
  pub keyed_more : i < length name → Keyed name ((made * 27 + get_or name i 0 % 32) % 256) (i + 1)
  unfolding key_from
  keyed_more l = record {
    small = omega arith;
    so_far = h.so_far ∙ ap (key_from made) (drop-cons name i 0 l) ∙ rw (add-one i);
  }

  pub keyed_small : made < 256
  keyed_small = h.small

  pub keyed_end : length name ≤ i → made ≡ key_of name
  unfolding key_from
  keyed_end l = sym (h.so_far ∙ ap (key_from made) (drop_of_length-le name l))

key_lower : (s : List ℕ) (h : ℕ) → key_from h (map lower s) ≡ key_from h s
unfolding key_from
key_lower [] h = refl
key_lower (x ∷ s) h =
    ap (λ (y : ℕ). key_from ((h * 27 + y) % 256) (map lower s)) (lower_rest x) ∙ key_lower s ((h * 27 + x % 32) % 256)

-- names that are equal but for case have one number
pub key_same : (a b : List ℕ) → equal_fold a b ≡ true → key_of a ≡ key_of b
unfolding key_of equal_fold
key_same a b e = sym (key_lower a 0) ∙ ap (key_from 0) (eq_of_equal (map lower a) (map lower b) e) ∙ key_lower b 0

key_other : (a b : List ℕ) → (key_of b ≡ key_of a → ⊥) → equal_fold a b ≡ false
key_other a b n = by (equal_fold a b) refl
  where
    by : (x : Bool) → equal_fold a b ≡ x → x ≡ false
    by true e = absurd (n (sym (key_same a b e)))
    by false e = refl

-- ## Tables that are passed over

abbrev no_table : Table
no_table = table [] []

shifted_suc : (p : ℕ) (o : Option ℕ) → (shifted p o >>= λ k. Some (suc k)) ≡ shifted (suc p) o
shifted_suc p None = refl
shifted_suc p (Some k) = let z : suc (p + k) ≡ suc p + k = omega arith in ap Some z

passed_over : (p : ℕ) (ts : List Table) (name : List ℕ)
    → ((j : ℕ) → j < p → j < length ts → equal_fold name (get_or ts j no_table).name ≡ false)
    → place_named ts name ≡ shifted p (place_named (drop p ts) name)
unfolding place_named
passed_over zero ts name h = shifted_none (place_named ts name)
passed_over (suc p) [] name h = refl
passed_over (suc p) (x ∷ ts) name h =
    rw (h 0 (omega arith) (omega arith))
    (ap (λ (o : Option ℕ). o >>= λ k. Some (suc k)) (passed_over p ts name (λ j l m. h (suc j) (omega arith) (omega arith)))
    ∙ shifted_suc p (place_named (drop p ts) name))

entries_length : (n : ℕ) (t : List ℕ) → length (entries n t) ≤ n
unfolding entries
entries_length zero t = omega arith
entries_length (suc n) t = by (read_table t) (entries_length n)
  where
    by : (o : Option (Table × List ℕ)) → ((u : List ℕ) → length (entries n u) ≤ n) → length (followed (entries n) o) ≤ suc n
    by None h = omega arith
    by (Some p) h = omega (arith, h p.1)

tables_length : (t : List ℕ) → length (tables_in t) ≤ table_count t
unfolding tables_in
tables_length t = entries_length (table_count t) (drop 2 t)

-- ## The end of a text

pub record EndOf (t rest : List ℕ) : Type 0 where
  pub end_within : length rest ≤ length t
  pub end_is : rest ≡ drop (length t - length rest) t

pub end_at : (t : List ℕ) (b : ℕ) (rest : List ℕ) → rest ≡ drop b t → EndOf t rest
end_at t b rest e = by (leb b (length t)) refl
  where
    long : length rest ≡ length t - b
    long = ap length e ∙ length-drop b t

    by : (x : Bool) → leb b (length t) ≡ x → EndOf t rest
    by true l =
        let m : b ≤ length t = leb-true b (length t) l in
        let z : length t - length rest ≡ b = omega (arith, long) in
        record { end_within = omega (arith, long); end_is = e ∙ ap (λ (k : ℕ). drop k t) (sym z) }
    by false l =
        let m : length t < b = leb-false b (length t) l in
        let z : length t ≤ length t - length rest = omega (arith, long) in
        let y : length t ≤ b = omega arith in
        record { end_within = omega (arith, long); end_is = e ∙ drop_of_length-le t y ∙ sym (drop_of_length-le t z) }

pub end_more : (t rest : List ℕ) → EndOf t rest → (e : ℕ) → EndOf t (drop e rest)
end_more t rest h e =
    end_at t (length t - length rest + e) (drop e rest) (ap (drop e) h.end_is ∙ drop-drop e (length t - length rest) t)

pub entry_rest_is : (s : List ℕ) (span : EntrySpan) → span ≡ entry_span s → span.cut ≡ false → drop span.end s ≡ after_entry s
entry_rest_is s span is-span whole = sym (take_rest s span.end) ∙ rest_part s span is-span whole

-- ## Starts

-- the loop has passed i of the n counted tables of t, and made says of these where those of each number start
pub record Starting (t : List ℕ) (n : ℕ) (rest : List ℕ) (i : ℕ) (made : List ℕ) : Type 0 where
  pub counted : n ≡ table_count t
  pub reached : Reached t n rest i
  pub ends : EndOf t rest
  pub long : length made ≡ 512
  pub begun : (k : ℕ) → k < 256 → StartOf t i k (get_or made k 0) (get_or made (256 + k) 0)

no_start : (t : List ℕ) (i k : ℕ) → i ≡ 0 → StartOf t i k 0 0
unfolding entries
no_start t i k z =
    let l : length (tables_in t) ≤ table_count t - 0 = omega (arith, tables_length t) in
    record {
      start_upto = omega arith;
      start_passed = λ h. absurd (omega arith);
      start_within = omega arith;
      start_left = drop_of_length-le (tables_in t) l;
      start_first = λ j h m e. absurd (omega arith);
    }

pub starting_start : (t : List ℕ) (n : ℕ) → n ≡ table_count t → (rest : List ℕ) → rest ≡ drop 2 t → (made : List ℕ) → made ≡ replicate 512 0
    → Starting t n rest 0 made
starting_start t n is-n rest is-rest made is_made = rw is_made record {
  counted = is-n;
  reached = reached_start t n is-n rest is-rest;
  ends = end_at t 2 rest is-rest;
  long = refl;
  begun = λ k h.
      let a : k < 512 = omega arith in
      let b : 256 + k < 512 = omega arith in
      rw (get_or-replicate {A = ℕ} 512 k 0 0 a, get_or-replicate {A = ℕ} 512 (256 + k) 0 0 b) (no_start t 0 k refl);
}

module _ (t : List ℕ) (n : ℕ) (rest : List ℕ) (i : ℕ) (made : List ℕ) (h : Starting t n rest i made) where
  all_begun : drop i (tables_in t) ≡ [] → Starts t made
  unfolding Starts
  all_begun e = subst (λ (m : ℕ). (k : ℕ) → k < 256 → StartOf t m k (get_or made k 0) (get_or made (256 + k) 0))
      (count_all t n rest i h.reached e) h.begun

  pub starting_end : n ≤ i → Starts t made
  starting_end l = all_begun (reached_end t n rest i h.reached l)

  pub starting_room : (k : ℕ) → k < 256 → k < length made
  starting_room k l = omega (arith, h.long)

  pub starting_byte_room : (k : ℕ) → k < 256 → (x : ℕ) → 256 + k < length (set made k x)
  starting_byte_room k l x = omega (arith, h.long, length-set made k x)

  pub starting_within : length rest ≤ length t
  starting_within = h.ends.end_within

  module _ (more : i < n) (span : EntrySpan) (is-span : span ≡ entry_span rest) where
    pub starting_cut : span.cut ≡ true → Starts t made
    starting_cut e = all_begun (reached_cut t n rest i h.reached more span is-span e)

    module _ (whole : span.cut ≡ false) (name : List ℕ) (is_name : name ≡ (entry_table rest).name) (k : ℕ) (is-k : k ≡ key_of name) (small : k < 256)
      where
        here : get_or (tables_in t) i no_table ≡ entry_table rest
        here =
            let z : i + 0 ≡ i = omega arith in
            ap (λ (j : ℕ). get_or (tables_in t) j no_table) (sym z) ∙ sym (get_or-drop i (tables_in t) 0 no_table)
            ∙ ap (λ (l : List Table). get_or l 0 no_table) (reached_here t n rest i h.reached more span is-span whole)

        here_key : key_of (get_or (tables_in t) i no_table).name ≡ k
        here_key = rw (here, is-k, is_name)

        -- a start that stays, one table further
        kept : (m left b : ℕ) → StartOf t i m left b → (i < table_count t - left → m ≡ k → ⊥) → StartOf t (i + 1) m left b
        kept m left b s f = record {
          start_upto = s.start_upto;
          start_passed = s.start_passed;
          start_within = s.start_within;
          start_left = s.start_left;
          start_first = λ j l u e. by j l u e (ltb j i) refl;
        }
          where
            by : (j : ℕ) → j < table_count t - left → j < i + 1 → key_of (get_or (tables_in t) j no_table).name ≡ m → (x : Bool) → ltb j i ≡ x → ⊥
            by j l u e true q = s.start_first j l (ltb-true j i q) e
            by j l u e false q =
                let z : j ≡ i = omega (arith, ltb-false j i q) in
                f (omega arith) (sym e ∙ ap (λ (y : ℕ). key_of (get_or (tables_in t) y no_table).name) z ∙ here_key)

        fresh : get_or made k 0 < n - i → StartOf t (i + 1) k (n - i) (length t - length rest)
        fresh l =
            let u : table_count t - (n - i) ≡ i = omega (arith, h.counted, h.reached.upto) in
            record {
              start_upto = omega (arith, h.counted);
              start_passed = λ z. rw u h.reached.passed;
              start_within = omega arith;
              start_left = rw u (h.reached.left ∙ ap (entries (n - i)) h.ends.end_is);
              start_first = λ j a b e. (h.begun k small).start_first j (omega (arith, h.counted, u)) (omega (arith, u)) e;
            }

        module _ (next : List ℕ) (is-next : next ≡ after_entry rest) where
          ends_next : EndOf t next
          ends_next = rw is-next (subst (EndOf t) (entry_rest_is rest span is-span whole) (end_more t rest h.ends span.end))

          starting : (made' : List ℕ) → length made' ≡ 512
              → ((m : ℕ) → m < 256 → StartOf t (i + 1) m (get_or made' m 0) (get_or made' (256 + m) 0)) → Starting t n next (i + 1) made'
          starting made' l b = record {
            counted = h.counted;
            reached = reached_more t n rest i h.reached more span is-span whole next is-next;
            ends = ends_next;
            long = l;
            begun = b;
          }

          pub starting_kept : n - i ≤ get_or made k 0 → (r : List ℕ) → r ≡ made → Starting t n next (i + 1) r
          starting_kept l r is-r =
              rw is-r (starting made h.long (λ m b. kept m (get_or made m 0) (get_or made (256 + m) 0) (h.begun m b) (λ u e. over m u e)))
            where
              over : (m : ℕ) → i < table_count t - get_or made m 0 → m ≡ k → ⊥
              over m u e =
                  let z : get_or made m 0 ≡ get_or made k 0 = ap (λ (y : ℕ). get_or made y 0) e in
                  omega (arith, h.counted, z)

          pub starting_new : get_or made k 0 < n - i → (r : List ℕ) → r ≡ set (set made k (n - i)) (256 + k) (length t - length rest)
              → Starting t n next (i + 1) r
          starting_new l r is-r =
              let z : length new ≡ 512 = length-set (set made k (n - i)) (256 + k) at ∙ length-set made k (n - i) ∙ h.long in
              rw is-r (starting new z (λ m b. by m b (eqb m k) refl))
            where
              at : ℕ
              at = length t - length rest

              new : List ℕ
              new = set (set made k (n - i)) (256 + k) at

              by : (m : ℕ) → m < 256 → (x : Bool) → eqb m k ≡ x → StartOf t (i + 1) m (get_or new m 0) (get_or new (256 + m) 0)
              by m b true q =
                  let e : m ≡ k = eqb-true m k q in
                  rw (
                    e,
                    get_or-set_other (set made k (n - i)) (256 + k) k at 0 (λ z. omega arith),
                    get_or-set_same made k (n - i) 0 (starting_room k small),
                    get_or-set_same (set made k (n - i)) (256 + k) at 0 (starting_byte_room k small (n - i)),
                  ) (fresh l)
              by m b false q =
                  let e : m ≡ k → ⊥ = eqb-false m k q in
                  rw (
                    get_or-set_other (set made k (n - i)) (256 + k) m at 0 (λ z. omega arith),
                    get_or-set_other made k m (n - i) 0 e,
                    get_or-set_other (set made k (n - i)) (256 + k) (256 + m) at 0 (λ z. e (omega arith)),
                    get_or-set_other made k (256 + m) (n - i) 0 (λ z. omega arith),
                  )
                  (kept m (get_or made m 0) (get_or made (256 + m) 0) (h.begun m b) (λ u z. e z))

-- ## A name sought from its start on

module _ (t s : List ℕ) (are : Starts t s) (k : ℕ) (small : k < 256) where
  start : StartOf t (length (tables_in t)) k (get_or s k 0) (get_or s (256 + k) 0)
  unfolding Starts
  start = are k small

  pub start_counted : (n : ℕ) → n ≡ table_count t → get_or s k 0 ≤ n
  start_counted n is-n = rw is-n start.start_upto

  pub start_at_within : get_or s (256 + k) 0 ≤ length t
  start_at_within = start.start_within

  module _ (name : List ℕ) (is-k : k ≡ key_of name) where
    over : place_named (tables_in t) name
        ≡ shifted (table_count t - get_or s k 0) (place_named (drop (table_count t - get_or s k 0) (tables_in t)) name)
    over = passed_over (table_count t - get_or s k 0) (tables_in t) name
        (λ j l m. key_other name (get_or (tables_in t) j no_table).name (λ e. start.start_first j l m (e ∙ sym is-k)))

    pub start_none : get_or s k 0 ≡ 0 → None ≡ place_named (tables_in t) name
    unfolding place_named entries
    start_none z =
        let d : drop (table_count t - get_or s k 0) (tables_in t) ≡ [] = start.start_left ∙ rw z in
        let e : place_named (tables_in t) name ≡ None = over ∙ rw d in
        sym (e)

    pub start_sought : (get_or s k 0 ≡ 0 → ⊥) → (n : ℕ) → n ≡ table_count t
        → SoughtFrom t name (take (length t - get_or s (256 + k) 0) (drop (get_or s (256 + k) 0) t)) (n - get_or s k 0)
    start_sought z n is-n =
        let p : 0 < get_or s k 0 = omega arith in
        let m : table_count t - (table_count t - get_or s k 0) ≡ get_or s k 0 = omega (arith, start.start_upto) in
        rw (is-n, take_rest t (get_or s (256 + k) 0)) record {
          sought_upto = omega arith;
          sought_passed = start.start_passed p;
          sought_left = rw m start.start_left;
          sought_place = over;
        }
