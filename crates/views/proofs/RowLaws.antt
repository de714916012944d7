-- Laws of the rows of tables: what a pattern, a text and all texts name, and what they match.
-- Assumes nothing.
use Rattle.std.specs.Prelude.{None, Option, Some}
use Prim.Native.Nat.{ℕ, zero, suc, ◌+◌, ◌-◌, ◌*◌, ◌^◌, ◌≤◌, ◌<◌}
use native.Mathlib.Omega.{arith}
use mathlib.Core.Bool.{Bool, true, false, not, ◌&&◌, ◌||◌, or-false, or_assoc, true≢false}
use mathlib.Core.List.{List, [], ◌∷◌}
use mathlib.Core.Path.{◌≡◌, refl, sym, ap, subst, ◌∙◌}
use lib.Bits.{bit_or}
use lib.Dec.{eqb, ltb}
use lib.ListN.{length, take, drop, get_or, set, replicate, length-set}
use lib.Seq.{get_or-set_same, get_or-set_other}
use borrow.Author.Tests.{eqb-true, eqb-false, lt-ltb, le-ltb, ne_eqb}
use Rattle.text.specs.Basics.{when◌then◌else◌, is_some, holds, any, sum_until}
use Rattle.text.specs.Text.{first_among, is_word}
use Rattle.patterns.specs.Host.{Endpoint}
use Rattle.patterns.specs.Pattern.{host_pattern}
use Rattle.patterns.specs.Code.{matches_pattern, pattern_seen, host_matches}
use Rattle.patterns.specs.declared.HostSeen.{HostSeen}
use Rattle.tables.specs.Table.{Table, table_name}
use Rattle.tables.specs.Code.{table_count, tables_in, entry_span, entry_table, after_entry, place_named, words, first_word, after_word}
use Rattle.tables.specs.Code.{text_checked, words_checked, CleanWords, CleanTexts}
use Rattle.tables.specs.declared.entry.EntrySpan.{EntrySpan}
use Rattle.tables.proofs.EntryLaws.{Reached, reached_start, reached_cut, reached_end, reached_more, count_all}
use Rattle.tables.proofs.WordLaws.{words_none, words_more, rest_shorter}
use Rattle.tables.proofs.CheckLaws.{clean_none, clean_more, clean_plain, clean_named}
use Rattle.views.specs.declared.Row.{Row}
use Rattle.views.specs.declared.Rows.{Rows}
use Rattle.views.specs.View.{bit_at, Marks, any_below, table_at, is_named, word_names, words_name, text_names, is_own, own_match}
use Rattle.views.specs.View.{WordCount, RowOf, OwnOf, NamesOf, RowsOf, joined_row}
use Rattle.views.proofs.BitLaws.{bit_none, bit_or_lem, next_bit, zero_bits, any_below_same}
use Rattle.views.proofs.NoteLaws.{place_none, place_some, named_word, unnamed_word}
use Rattle.views.proofs.DeepLaws.{table_here, place_here, place_below}

-- ## A pattern

module _ (ts : List Table) (n : List ℕ) (q : Option ℕ) (is-q : q ≡ (place_named ts n)) where
  pub bit_missing : q ≡ None → Marks 0 64 (is_named ts n)
  unfolding Marks is_named
  bit_missing f j h = bit_none j ∙ rw (place_none (place_named ts n) (sym f ∙ is-q))

  pub bit_placed : (i : ℕ) → q ≡ Some i → (b : ℕ) → Marks b 64 (λ k. eqb k i) → Marks b 64 (is_named ts n)
  unfolding Marks is_named
  bit_placed i f b is_b j h = is_b j h ∙ rw (place_some i (place_named ts n) (sym f ∙ is-q))

module _ (ts : List Table) (w : List ℕ) (x : Bool) (is_x : x ≡ is_some (table_name w)) where
  pub bit_unnamed : x ≡ false → Marks 0 64 (word_names ts w)
  unfolding Marks word_names
  bit_unnamed e j h = bit_none j ∙ rw (unnamed_word w x is_x e)

  pub bit_named : x ≡ true → (b : ℕ) → Marks b 64 (is_named ts (take (length w - 1) (drop 1 w))) → Marks b 64 (word_names ts w)
  unfolding Marks word_names
  bit_named e b is_b j h = is_b j h ∙ rw (named_word w x is_x e)

abbrev row : ℕ → Bool → Bool → ℕ → ℕ → Bool → Row
row n c s ct st x = record { names = n; client = c; server = s; client_tried = ct; server_tried = st; clean = x }

and_left : (a b : Bool) → (a && b) ≡ true → a ≡ true
and_left true b e = refl
and_left false b e = e

and_right : (a b : Bool) → (a && b) ≡ true → b ≡ true
and_right true b e = e
and_right false b e = absurd (true≢false (sym e))

not_true : (a : Bool) → not a ≡ true → a ≡ false
not_true true e = sym e
not_true false e = refl

not_back : (a : Bool) → not (not a) ≡ true → a ≡ true
not_back true e = refl
not_back false e = e

one_word : (p : List ℕ → Bool) (w : List ℕ) → WordCount p (w ∷ []) 1
unfolding sum_until
one_word p w = record { count = by (p w); fits = omega arith }
  where
    by : (b : Bool) → ◌≡◌ {A = ℕ} 1 (1 + (when b then 0 else 0))
    by true = refl
    by false = refl

none_below : (n : ℕ) → any_below (λ j. false) n ≡ false
unfolding any_below
none_below zero = refl
none_below (suc n) = none_below n

-- a word with a bit for the table that w names
clean_bit : (ts : List Table) (w : List ℕ) (b : ℕ) → b < 2 ^ 64 → Marks b 64 (word_names ts w) → CleanWords (not (eqb b 0)) ts (w ∷ [])
unfolding CleanWords Marks word_names is_named
clean_bit ts w b small is_b e = by (table_name w) refl
  where
    some_named : (p : ℕ → Bool) → ((j : ℕ) → j < 64 → word_names ts w j ≡ p j) → any_below p 64 ≡ true
    some_named p same =
        sym (any_below_same (λ j. bit_at j b) p 64 (λ j l. is_b j l ∙ same j l))
        ∙ not_back (any_below (λ j. bit_at j b) 64) (ap not (sym (zero_bits 64 b small)) ∙ e)

    at : (n : List ℕ) → table_name w ≡ Some n → (o : Option ℕ) → place_named ts n ≡ o → words_checked ts (w ∷ []) ≡ text_checked false false
    at n f None g = absurd (true≢false (sym (some_named (λ j. false) (λ j l. rw (f, g))) ∙ none_below 64))
    at n f (Some i) g = clean_named ts w n i f g

    by : (o : Option (List ℕ)) → table_name w ≡ o → words_checked ts (w ∷ []) ≡ text_checked false false
    by None f = absurd (true≢false (sym (some_named (λ j. false) (λ j l. rw f)) ∙ none_below 64))
    by (Some n) f = at n f (place_named ts n) refl

module _ (ts : List Table) (client server : Endpoint) (w : List ℕ) (x : Bool) (is_x : x ≡ first_among "/" w) where
  pub row_slash : x ≡ true → (b : ℕ) → b < 2 ^ 64 → Marks b 64 (word_names ts w)
      → RowOf ts client server (w ∷ []) (row b false false 1 1 (not (eqb b 0)))
  unfolding Marks words_name any
  row_slash e b small is_b = record {
    row_names = λ j h. is_b j h ∙ sym (or-false (word_names ts w j));
    row_client = rw (← is_x, e);
    row_server = rw (← is_x, e);
    row_client_tried = one_word (is_own client) w;
    row_server_tried = one_word (is_own server) w;
    row_clean = clean_bit ts w b small is_b;
  }

  module _ (e : x ≡ false) where
    plain_name : table_name w ≡ None
    unfolding table_name
    plain_name = rw (← is_x, e)

    own_seen : (h : Endpoint) (c : HostSeen) → c ≡ pattern_seen true (host_pattern w) h → c.matches ≡ any (is_own h) (w ∷ [])
    unfolding pattern_seen host_matches any
    own_seen h c is_c = ap (λ (z : HostSeen). z.matches) is_c ∙ rw (← is_x, e) (sym (or-false (matches_pattern (host_pattern w) h)))

    clean_seen : (h : Endpoint) (c : HostSeen) → c ≡ pattern_seen true (host_pattern w) h → (y : Bool) → y ≡ is_word "EXCEPT" w
        → CleanWords (c.sound && not y) ts (w ∷ [])
    unfolding CleanWords pattern_seen
    clean_seen h c is_c y is_y f =
        clean_plain ts w (sym is_x ∙ e) (sym is_y ∙ not_true y (and_right c.sound (not y) f))
        (ap (λ (z : HostSeen). z.sound) (sym is_c) ∙ and_left c.sound (not y) f)

    pub row_plain : (c : HostSeen) → c ≡ pattern_seen true (host_pattern w) client → (s : HostSeen) → s ≡ pattern_seen true (host_pattern w) server
        → (y : Bool) → y ≡ is_word "EXCEPT" w → RowOf ts client server (w ∷ []) (row 0 c.matches s.matches 1 1 (c.sound && not y))
    unfolding Marks words_name word_names any
    row_plain c is_c s is-s y is_y = record {
      row_names = λ j h. bit_none j ∙ rw plain_name;
      row_client = own_seen client c is_c;
      row_server = own_seen server s is-s;
      row_client_tried = one_word (is_own client) w;
      row_server_tried = one_word (is_own server) w;
      row_clean = clean_seen client c is_c y is_y;
    }

-- ## A text

module _ (n : ℕ) (ended : Bool) where
  pub count_ended : ended ≡ true → n ≡ n + (when ended then 0 else 1)
  count_ended e = let z : n ≡ n + 0 = omega arith in z ∙ sym (ap (λ (b : Bool). n + (when b then 0 else 1)) e)

  pub count_more : ended ≡ false → n + 1 ≡ n + (when ended then 0 else 1)
  count_more e = sym (ap (λ (b : Bool). n + (when b then 0 else 1)) e)

pub rows_joined : (r s : Row) (c : ℕ) → c ≡ r.client_tried + (when r.client then 0 else 1) → (d : ℕ) → d ≡ r.server_tried + (when r.server then 0 else 1)
    → row (bit_or r.names s.names) (r.client || s.client) (r.server || s.server) c d (r.clean && s.clean) ≡ joined_row r s
rows_joined r s c is_c d is_d = rw (is_c, is_d)

-- the words counted so far, and those of the rest unless the count has ended
abbrev running : (List ℕ → Bool) → List (List ℕ) → Bool → ℕ → ℕ
running p ws ended n = n + (when ended then 0 else sum_until p (λ w. 1) ws)

-- the loop over the words, at rest
pub record Rowed (ts : List Table) (client server : Endpoint) (t rest : List ℕ) (r : Row) : Type 0 where
  pub rowed_short : length t < 2 ^ 64
  pub rowed_names : (j : ℕ) → j < 64 → words_name ts (words t) j ≡ (bit_at j r.names || words_name ts (words rest) j)
  pub rowed_client : any (is_own client) (words t) ≡ (r.client || any (is_own client) (words rest))
  pub rowed_server : any (is_own server) (words t) ≡ (r.server || any (is_own server) (words rest))
  pub rowed_client_tried : sum_until (is_own client) (λ w. 1) (words t) ≡ running (is_own client) (words rest) r.client r.client_tried
  pub rowed_server_tried : sum_until (is_own server) (λ w. 1) (words t) ≡ running (is_own server) (words rest) r.server r.server_tried
  pub rowed_client_room : r.client_tried + length rest ≤ length t
  pub rowed_server_room : r.server_tried + length rest ≤ length t
  pub rowed_clean : r.clean ≡ true → words_checked ts (words rest) ≡ text_checked false false → words_checked ts (words t) ≡ text_checked false false

none_yet : (n : ℕ) → n ≡ 0 + n
none_yet n = omega arith

pub rowed_start : (ts : List Table) (client server : Endpoint) (t : List ℕ) → length t < 2 ^ 64 → Rowed ts client server t t (row 0 false false 0 0 true)
rowed_start ts client server t h = record {
  rowed_short = h;
  rowed_names = λ j h. sym (ap (λ (b : Bool). b || words_name ts (words t) j) (bit_none j));
  rowed_client = refl;
  rowed_server = refl;
  rowed_client_tried = none_yet (sum_until (is_own client) (λ w. 1) (words t));
  rowed_server_tried = none_yet (sum_until (is_own server) (λ w. 1) (words t));
  rowed_client_room = omega arith;
  rowed_server_room = omega arith;
  rowed_clean = λ e h. h;
}

any_more : (p : List ℕ → Bool) (w : List ℕ) (ws : List (List ℕ)) (a b : Bool) → b ≡ any p (w ∷ []) → (a || any p (w ∷ ws)) ≡ ((a || b) || any p ws)
unfolding any
any_more p w ws a b is_b = rw (is_b, or-false (p w)) (sym (or_assoc a (p w) (any p ws)))

running_end : (p : List ℕ → Bool) (ended : Bool) (n : ℕ) → running p [] ended n ≡ n
unfolding sum_until
running_end p true n = omega arith
running_end p false n = omega arith

running_more : (p : List ℕ → Bool) (w : List ℕ) (ws : List (List ℕ)) (ended b : Bool) (n c : ℕ) → b ≡ any p (w ∷ []) → c ≡ n + (when ended then 0 else 1)
    → running p (w ∷ ws) ended n ≡ running p ws (ended || b) c
unfolding any sum_until
running_more p w ws true b n c is_b is_c = omega arith
running_more p w ws false b n c is_b is_c = rw (is_b, or-false (p w), is_c) (by (p w) (sum_until p (λ w. 1) ws))
  where
    by : (b : Bool) (s : ℕ) → n + (1 + (when b then 0 else s)) ≡ n + 1 + (when b then 0 else s)
    by true s = omega arith
    by false s = omega arith

room_more : (ended : Bool) (n c rest next t : ℕ) → c ≡ n + (when ended then 0 else 1) → n + rest ≤ t → next < rest → c + next ≤ t
room_more true n c rest next t e h l = omega arith
room_more false n c rest next t e h l = omega arith

module _ (ts : List Table) (client server : Endpoint) (t rest : List ℕ) (r : Row) (so_far : Rowed ts client server t rest r)
    (w : List ℕ) (is-w : w ≡ first_word rest) where
  pub rowed_end : length w ≡ 0 → RowOf ts client server (words t) r
  unfolding Marks words_name any CleanWords
  rowed_end z =
      let e : words rest ≡ [] = words_none rest w is-w z in
      record {
        row_names = λ j h. sym (so_far.rowed_names j h ∙ rw e (or-false (bit_at j r.names)));
        row_client = sym (so_far.rowed_client ∙ rw e (or-false r.client));
        row_server = sym (so_far.rowed_server ∙ rw e (or-false r.server));
        row_client_tried = record {
          count = sym (so_far.rowed_client_tried ∙ rw e (running_end (is_own client) r.client r.client_tried));
          fits = omega (arith, so_far.rowed_client_room, so_far.rowed_short);
        };
        row_server_tried = record {
          count = sym (so_far.rowed_server_tried ∙ rw e (running_end (is_own server) r.server r.server_tried));
          fits = omega (arith, so_far.rowed_server_room, so_far.rowed_short);
        };
        row_clean = λ c. so_far.rowed_clean c (ap (words_checked ts) e ∙ clean_none ts);
      }

  module _ (full : length w ≡ 0 → ⊥) where
    pub rowed_client_fits : r.client_tried < 18446744073709551615
    rowed_client_fits = omega (arith, so_far.rowed_client_room, so_far.rowed_short, rest_shorter rest w (after_word rest) is-w full refl (length rest) refl)

    pub rowed_server_fits : r.server_tried < 18446744073709551615
    rowed_server_fits = omega (arith, so_far.rowed_server_room, so_far.rowed_short, rest_shorter rest w (after_word rest) is-w full refl (length rest) refl)

    rowed_by : (s : Row) → RowOf ts client server (w ∷ []) s → (c : ℕ) → c ≡ r.client_tried + (when r.client then 0 else 1)
        → (d : ℕ) → d ≡ r.server_tried + (when r.server then 0 else 1) → (next : List ℕ) → next ≡ after_word rest
        → Rowed ts client server t next (row (bit_or r.names s.names) (r.client || s.client) (r.server || s.server) c d (r.clean && s.clean))
    unfolding Marks words_name CleanWords
    rowed_by s is-s c is_c d is_d next is-next =
        let e : words rest ≡ w ∷ words next = words_more rest w next is-w full is-next in
        let l : length next < length rest = rest_shorter rest w next is-w full is-next (length rest) refl in
        record {
          rowed_short = so_far.rowed_short;
          rowed_names = λ j h. so_far.rowed_names j h
              ∙ rw (e, bit_or_lem j r.names s.names)
              (any_more (λ v. word_names ts v j) w (words next) (bit_at j r.names) (bit_at j s.names) (is-s.row_names j h));
          rowed_client = so_far.rowed_client ∙ rw e (any_more (is_own client) w (words next) r.client s.client is-s.row_client);
          rowed_server = so_far.rowed_server ∙ rw e (any_more (is_own server) w (words next) r.server s.server is-s.row_server);
          rowed_client_tried = so_far.rowed_client_tried
              ∙ rw e (running_more (is_own client) w (words next) r.client s.client r.client_tried c is-s.row_client is_c);
          rowed_server_tried = so_far.rowed_server_tried
              ∙ rw e (running_more (is_own server) w (words next) r.server s.server r.server_tried d is-s.row_server is_d);
          rowed_client_room = room_more r.client r.client_tried c (length rest) (length next) (length t) is_c so_far.rowed_client_room l;
          rowed_server_room = room_more r.server r.server_tried d (length rest) (length next) (length t) is_d so_far.rowed_server_room l;
          rowed_clean = λ f h. so_far.rowed_clean (and_left r.clean s.clean f)
              (ap (words_checked ts) e ∙ clean_more ts w (words next) (is-s.row_clean (and_right r.clean s.clean f)) h);
        }

    pub rowed_more : (s : Row) → RowOf ts client server (w ∷ []) s → (j : Row) → j ≡ joined_row r s → (next : List ℕ) → next ≡ after_word rest
        → Rowed ts client server t next j
    rowed_more s is-s j is-j next is-next =
        subst (λ (x : Row). Rowed ts client server t next x) (sym is-j)
        (rowed_by s is-s (r.client_tried + (when r.client then 0 else 1)) refl (r.server_tried + (when r.server then 0 else 1)) refl next is-next)

-- ## All texts

-- notes with what the table i gives
module _ (notes : List ℕ) (c s i x y : ℕ) (long : length notes ≡ 131) (l : i < 64) where
  abbrev pub put : List ℕ
  put = set (set (set (set notes 0 c) 1 s) (3 + i) x) (67 + i) y

  put_long : length put ≡ 131
  put_long =
      length-set (set (set (set notes 0 c) 1 s) (3 + i) x) (67 + i) y ∙ length-set (set (set notes 0 c) 1 s) (3 + i) x
      ∙ length-set (set notes 0 c) 1 s ∙ length-set notes 0 c ∙ long

  put_first : get_or put 0 0 ≡ c
  put_first =
      get_or-set_other (set (set (set notes 0 c) 1 s) (3 + i) x) (67 + i) 0 y 0 (λ e. omega arith)
      ∙ get_or-set_other (set (set notes 0 c) 1 s) (3 + i) 0 x 0 (λ e. omega arith)
      ∙ get_or-set_other (set notes 0 c) 1 0 s 0 (λ e. omega arith) ∙ get_or-set_same notes 0 c 0 (omega arith)

  put_second : get_or put 1 0 ≡ s
  put_second =
      get_or-set_other (set (set (set notes 0 c) 1 s) (3 + i) x) (67 + i) 1 y 0 (λ e. omega arith)
      ∙ get_or-set_other (set (set notes 0 c) 1 s) (3 + i) 1 x 0 (λ e. omega arith)
      ∙ get_or-set_same (set notes 0 c) 1 s 0 (omega (arith, length-set notes 0 c))

  -- the words after the first two
  put_rest : (m : ℕ) → 3 ≤ m → (m ≡ 3 + i → ⊥) → (m ≡ 67 + i → ⊥) → get_or put m 0 ≡ get_or notes m 0
  put_rest m h n k =
      get_or-set_other (set (set (set notes 0 c) 1 s) (3 + i) x) (67 + i) m y 0 k
      ∙ get_or-set_other (set (set notes 0 c) 1 s) (3 + i) m x 0 n
      ∙ get_or-set_other (set notes 0 c) 1 m s 0 (λ e. omega arith) ∙ get_or-set_other notes 0 m c 0 (λ e. omega arith)

  put_client : get_or put (3 + i) 0 ≡ x
  put_client =
      get_or-set_other (set (set (set notes 0 c) 1 s) (3 + i) x) (67 + i) (3 + i) y 0 (λ e. omega arith)
      ∙ get_or-set_same (set (set notes 0 c) 1 s) (3 + i) x 0 (omega (arith, length-set notes 0 c, length-set (set notes 0 c) 1 s))

  put_server : get_or put (67 + i) 0 ≡ y
  put_server =
      get_or-set_same (set (set (set notes 0 c) 1 s) (3 + i) x) (67 + i) y 0
      (omega (arith, length-set notes 0 c, length-set (set notes 0 c) 1 s, length-set (set (set notes 0 c) 1 s) (3 + i) x))

-- what the texts before the table i tell of a host, k its number
pub record OwnBefore (ts : List Table) (h : Endpoint) (k : ℕ) (notes : List ℕ) (i : ℕ) : Type 0 where
  pub before_bits : (j : ℕ) → j < 64 → bit_at j (get_or notes k 0) ≡ (ltb j i && own_match h (table_at ts j).text)
  pub before_tried : (j : ℕ) → j < i → WordCount (is_own h) (words (table_at ts j).text) (get_or notes (3 + 64 * k + j) 0)

-- the loop over the tables, at i
pub record Gathered (t : List ℕ) (client server : Endpoint) (n : ℕ) (rest : List ℕ) (r : Rows) (i : ℕ) : Type 0 where
  pub so_far : Reached t n rest i
  pub long : length r.names ≡ 64
  pub notes_long : length r.notes ≡ 131
  pub few : length (tables_in t) ≤ 64
  pub gathered_names : (k : ℕ) → k < i → Marks (get_or r.names k 0) 64 (text_names (tables_in t) (table_at (tables_in t) k).text)
  pub gathered_client : OwnBefore (tables_in t) client 0 r.notes i
  pub gathered_server : OwnBefore (tables_in t) server 1 r.notes i
  pub gathered_clean : (k : ℕ) → k < i → CleanWords r.clean (tables_in t) (words (table_at (tables_in t) k).text)

abbrev rows : List ℕ → List ℕ → Bool → Rows
rows names notes x = record { names = names; notes = notes; clean = x }

-- notes without a bit
abbrev blank : List ℕ
blank = replicate 131 0

own_start : (ts : List Table) (h : Endpoint) (k : ℕ) → get_or blank k 0 ≡ 0 → OwnBefore ts h k blank 0
own_start ts h k e = record {
  before_bits = λ j l. ap (bit_at j) e ∙ bit_none j ∙ sym (rw (le-ltb j 0 (omega arith)));
  before_tried = λ j l. absurd (omega arith);
}

-- one table further
own_more : (ts : List Table) (h : Endpoint) (k : ℕ) (notes made : List ℕ) (i b : ℕ) (on : Bool) (text : List ℕ) → (table_at ts i).text ≡ text
    → on ≡ any (is_own h) (words text) → Marks b 64 (λ j. bit_at j (get_or notes k 0) || on && eqb j i) → get_or made k 0 ≡ b
    → WordCount (is_own h) (words text) (get_or made (3 + 64 * k + i) 0)
    → ((j : ℕ) → j < i → get_or made (3 + 64 * k + j) 0 ≡ get_or notes (3 + 64 * k + j) 0)
    → OwnBefore ts h k notes i → OwnBefore ts h k made (i + 1)
unfolding Marks
own_more ts h k notes made i b on text here is-on is_b bits tried kept o = record {
  before_bits = λ j l.
      ap (bit_at j) bits ∙ is_b j l ∙ ap (λ (z : Bool). z || on && eqb j i) (o.before_bits j l)
      ∙ next_bit j i false (own_match h (table_at ts j).text) on
      (λ e. ap (λ (m : ℕ). own_match h (table_at ts m).text) e ∙ ap (own_match h) here ∙ sym is-on);
  before_tried = λ j l. by j l (eqb j i) refl;
}
  where
    by : (j : ℕ) → j < i + 1 → (e : Bool) → eqb j i ≡ e → WordCount (is_own h) (words (table_at ts j).text) (get_or made (3 + 64 * k + j) 0)
    by j l true e =
        subst (λ (m : ℕ). WordCount (is_own h) (words (table_at ts m).text) (get_or made (3 + 64 * k + m) 0)) (sym (eqb-true j i e))
        (subst (λ (u : List ℕ). WordCount (is_own h) (words u) (get_or made (3 + 64 * k + i) 0)) (sym here) tried)
    by j l false e =
        let n : j ≡ i → ⊥ = eqb-false j i e in
        let q : j < i = omega arith in
        subst (λ (m : ℕ). WordCount (is_own h) (words (table_at ts j).text) m) (sym (kept j q)) (o.before_tried j q)

module _ (t : List ℕ) (client server : Endpoint) (n : ℕ) (rest : List ℕ) where
  pub gathered_start : length (tables_in t) ≤ 64 → n ≡ table_count t → rest ≡ drop 2 t
      → Gathered t client server n rest (rows (replicate 64 0) (replicate 131 0) true) 0
  gathered_start h is-n is-rest = record {
    so_far = reached_start t n is-n rest is-rest;
    long = refl;
    notes_long = refl;
    few = h;
    gathered_names = λ k l. absurd (omega arith);
    gathered_client = own_start (tables_in t) client 0 refl;
    gathered_server = own_start (tables_in t) server 1 refl;
    gathered_clean = λ k l. absurd (omega arith);
  }

  module _ (r : Rows) (i : ℕ) (g : Gathered t client server n rest r i) where
    own_all : (h : Endpoint) (k : ℕ) → i ≡ length (tables_in t) → OwnBefore (tables_in t) h k r.notes i → OwnOf (tables_in t) h k r.notes
    unfolding Marks
    own_all h k z o = record {
      own_bits = λ j l. o.before_bits j (omega (arith, g.few)) ∙ rw (lt-ltb j i (omega arith));
      own_tried = λ j l. o.before_tried j (omega arith);
    }

    gathered_all : drop i (tables_in t) ≡ [] → RowsOf (tables_in t) client server r
    unfolding NamesOf CleanTexts
    gathered_all e =
        let z : i ≡ length (tables_in t) = count_all t n rest i g.so_far e in
        record {
          rows_names = λ k l. g.gathered_names k (omega arith);
          rows_client = own_all client 0 z g.gathered_client;
          rows_server = own_all server 1 z g.gathered_server;
          rows_clean = λ k l. g.gathered_clean k (omega arith);
        }

    pub gathered_end : n ≤ i → RowsOf (tables_in t) client server r
    gathered_end l = gathered_all (reached_end t n rest i g.so_far l)

    module _ (more : i < n) (span : EntrySpan) (is-span : span ≡ entry_span rest) where
      pub gathered_cut : span.cut ≡ true → RowsOf (tables_in t) client server r
      gathered_cut e = gathered_all (reached_cut t n rest i g.so_far more span is-span e)

      module _ (whole : span.cut ≡ false) where
        pub gathered_place : i < 64
        gathered_place = omega (arith, g.few, place_here t n rest i g.so_far more span is-span whole)

        pub client_place : 3 + i < 131
        client_place = omega (arith, gathered_place)

        pub server_place : 67 + i < 131
        server_place = omega (arith, gathered_place)

        module _ (text : List ℕ) (is-text : text ≡ (entry_table rest).text) (s : Row) (is-s : RowOf (tables_in t) client server (words text) s)
            (c : ℕ) (is_c : Marks c 64 (λ k. bit_at k (get_or r.notes 0 0) || s.client && eqb k i))
            (d : ℕ) (is_d : Marks d 64 (λ k. bit_at k (get_or r.notes 1 0) || s.server && eqb k i)) where
          text_here : (table_at (tables_in t) i).text ≡ text
          text_here = ap (λ (x : Table). x.text) (table_here t n rest i g.so_far more span is-span whole) ∙ sym is-text

          names_next : (k : ℕ) → k < i + 1 → Marks (get_or (set r.names i s.names) k 0) 64 (text_names (tables_in t) (table_at (tables_in t) k).text)
          unfolding Marks
          names_next k l j h = by (eqb k i) refl
            where
              by : (b : Bool) → eqb k i ≡ b → bit_at j (get_or (set r.names i s.names) k 0) ≡ text_names (tables_in t) (table_at (tables_in t) k).text j
              by true e =
                  let q : k ≡ i = eqb-true k i e in
                  rw (q, get_or-set_same r.names i s.names 0 (omega (arith, gathered_place, g.long)), text_here) (is-s.row_names j h)
              by false e =
                  let q : k ≡ i → ⊥ = eqb-false k i e in
                  rw (get_or-set_other r.names i k s.names 0 q) (g.gathered_names k (omega arith) j h)

          abbrev made : List ℕ
          made = put r.notes c d i s.client_tried s.server_tried g.notes_long gathered_place

          client_next : OwnBefore (tables_in t) client 0 made (i + 1)
          client_next =
              own_more (tables_in t) client 0 r.notes made i c s.client text text_here is-s.row_client is_c
              (put_first r.notes c d i s.client_tried s.server_tried g.notes_long gathered_place)
              (subst (λ (m : ℕ). WordCount (is_own client) (words text) m)
              (sym (put_client r.notes c d i s.client_tried s.server_tried g.notes_long gathered_place)) is-s.row_client_tried)
              (λ j l. put_rest r.notes c d i s.client_tried s.server_tried g.notes_long gathered_place (3 + j)
              (omega arith) (λ e. omega arith) (λ e. omega (arith, gathered_place)))
              g.gathered_client

          server_next : OwnBefore (tables_in t) server 1 made (i + 1)
          server_next =
              own_more (tables_in t) server 1 r.notes made i d s.server text text_here is-s.row_server is_d
              (put_second r.notes c d i s.client_tried s.server_tried g.notes_long gathered_place)
              (subst (λ (m : ℕ). WordCount (is_own server) (words text) m)
              (sym (put_server r.notes c d i s.client_tried s.server_tried g.notes_long gathered_place)) is-s.row_server_tried)
              (λ j l. put_rest r.notes c d i s.client_tried s.server_tried g.notes_long gathered_place (67 + j)
              (omega arith) (λ e. omega (arith, gathered_place)) (λ e. omega arith))
              g.gathered_server

          clean_next : (k : ℕ) → k < i + 1 → CleanWords (r.clean && s.clean) (tables_in t) (words (table_at (tables_in t) k).text)
          unfolding CleanWords
          clean_next k l f = by (eqb k i) refl
            where
              by : (b : Bool) → eqb k i ≡ b → words_checked (tables_in t) (words (table_at (tables_in t) k).text) ≡ text_checked false false
              by true e =
                  let q : k ≡ i = eqb-true k i e in
                  rw (q, text_here) (is-s.row_clean (and_right r.clean s.clean f))
              by false e =
                  let q : k ≡ i → ⊥ = eqb-false k i e in
                  g.gathered_clean k (omega arith) (and_left r.clean s.clean f)

          pub gathered_more : (next : List ℕ) → next ≡ after_entry rest
              → Gathered t client server n next
              (rows (set r.names i s.names) (set (set (set (set r.notes 0 c) 1 d) (3 + i) s.client_tried) (67 + i) s.server_tried)
              (r.clean && s.clean)) (i + 1)
          gathered_more next is-next = record {
            so_far = reached_more t n rest i g.so_far more span is-span whole next is-next;
            long = length-set r.names i s.names ∙ g.long;
            notes_long = put_long r.notes c d i s.client_tried s.server_tried g.notes_long gathered_place;
            few = g.few;
            gathered_names = names_next;
            gathered_client = client_next;
            gathered_server = server_next;
            gathered_clean = clean_next;
          }

-- ## What no table names

module _ (ts : List Table) (j : ℕ) (h : length ts ≤ j) where
  none_named : (n : List ℕ) → is_named ts n j ≡ false
  unfolding is_named
  none_named n = by (place_named ts n) refl
    where
      by : (o : Option ℕ) → place_named ts n ≡ o → holds (eqb j) o ≡ false
      by None e = refl
      by (Some i) e = ne_eqb j i (λ z. let l : i < length ts = place_below ts n i e in omega arith)

  none_by_word : (w : List ℕ) → word_names ts w j ≡ false
  unfolding word_names
  none_by_word w = by (table_name w)
    where
      by : (o : Option (List ℕ)) → holds (λ n. is_named ts n j) o ≡ false
      by None = refl
      by (Some n) = none_named n

  pub none_by_words : (ws : List (List ℕ)) → words_name ts ws j ≡ false
  unfolding words_name any
  none_by_words [] = refl
  none_by_words (w ∷ ws) = rw (none_by_word w) (none_by_words ws)
