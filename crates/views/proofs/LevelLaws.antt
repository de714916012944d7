-- Laws of one depth after the other: what notes tell of tables that may be entered so deep is what in_table and tried_in say.
--   noted_match_lem, noted_tried_lem  == what such notes tell of a name
--   first_level               == what the texts by themselves tell is what is told where no table that they name may be entered
--   lift_right, level_stays   == one depth more, and where no table leads on
-- Assumes nothing.
use Rattle.std.specs.Prelude.{None, Option, Some}
use Prim.Native.Nat.{ℕ, zero, suc, ◌+◌, ◌-◌, ◌*◌, ◌^◌, ◌≤◌, ◌<◌}
use native.Mathlib.Omega.{arith}
use mathlib.Core.Bool.{Bool, true, false, not, ◌&&◌, ◌||◌, true≢false, or-false, and-or_distrib_right}
use mathlib.Core.List.{List, [], ◌∷◌}
use mathlib.Core.Path.{◌≡◌, refl, sym, ap, ap₂, subst, ◌∙◌}
use lib.Dec.{eqb, ltb}
use lib.ListN.{length, drop, get_or, set, length-set}
use lib.Seq.{get_or-set_same, get_or-set_other}
use borrow.Author.Tests.{eqb-true, eqb-false, ltb-true, ltb-false, ne_eqb, lt-ltb}
use Rattle.text.specs.Basics.{when◌then◌else◌, ◌>>=◌, given, holds, any, sum_until}
use Rattle.text.specs.Text.{first_among}
use Rattle.text.proofs.BasicLaws.{or_false as or_none}
use Rattle.patterns.specs.Host.{Endpoint}
use Rattle.patterns.specs.Pattern.{host_pattern}
use Rattle.patterns.specs.Code.{matches_pattern, host_matches}
use Rattle.tables.specs.Table.{Table, is_table_name, table_name, table_named, patterns_of, pattern_with, in_table}
use Rattle.tables.specs.Tried.{looked_with, tried_in, capped}
use Rattle.tables.specs.Code.{tables_in, place_named, words}
use Rattle.tables.proofs.EntryLaws.{none_some}
use Rattle.tables.proofs.TableLaws.{patterns_words, named_none, named_place}
use Rattle.views.specs.declared.Rows.{Rows}
use Rattle.views.specs.Names.{NamesNoted, Told}
use Rattle.views.specs.View.{bit_at, Marks, any_below, no_table, table_at, is_named, word_names, words_name, text_names, is_own, own_match}
use Rattle.views.specs.View.{WordCount, OwnOf, NamesOf, RowsOf}
use Rattle.views.specs.View.{name_leads, word_leads, text_leads, past_at, marked_at, counted_at, placed_count, noted_match, noted_tried}
use Rattle.views.specs.Level.{word_matches, word_count, matches_at, tried_at, HostLevel, Level, ViewedBy, FirstOf, Risen, Lifted}
use Rattle.views.specs.Level.{word_place, sum_within, text_tried, tried_above, AllAbove}
use Rattle.views.proofs.NamesLaws.{names_kept}
use Rattle.views.proofs.BitLaws.{bit_none, bit_ones, any_below_same}
use Rattle.views.proofs.CountLaws.{capped_small, capped_add, sum_same, sum_same_where, within_same, sum_within_lem}
use Rattle.views.proofs.DeepLaws.{any_same, place_below, text_same}
use Rattle.views.proofs.RowLaws.{none_by_words}

-- ## Any place

any_below_none : (n : ℕ) → any_below (λ j. false) n ≡ false
unfolding any_below
any_below_none zero = refl
any_below_none (suc n) = any_below_none n

middle : (a b c d : Bool) → ((a || b) || (c || d)) ≡ ((a || c) || (b || d))
middle true b c d = refl
middle false true true d = refl
middle false true false d = refl
middle false false c d = refl

any_below_or : (p q : ℕ → Bool) (n : ℕ) → any_below (λ j. p j || q j) n ≡ (any_below p n || any_below q n)
unfolding any_below
any_below_or p q zero = refl
any_below_or p q (suc n) = ap (λ (b : Bool). (p n || q n) || b) (any_below_or p q n) ∙ middle (p n) (q n) (any_below p n) (any_below q n)

none_else : (p : ℕ → Bool) (k n : ℕ) → n ≤ k → any_below (λ j. eqb j k && p j) n ≡ false
none_else p k n h =
    any_below_same (λ j. eqb j k && p j) (λ j. false) n (λ j l. ap (λ (b : Bool). b && p j) (ne_eqb j k (λ e. omega arith))) ∙ any_below_none n

-- p holds of the one place k
any_below_one : (p : ℕ → Bool) (k n : ℕ) → k < n → any_below (λ j. eqb j k && p j) n ≡ p k
unfolding any_below
any_below_one p k zero h = absurd (omega arith)
any_below_one p k (suc n) h = by (eqb n k) refl (any_below_one p k n)
  where
    by : (b : Bool) → eqb n k ≡ b → (k < n → any_below (λ j. eqb j k && p j) n ≡ p k) → ((b && p n) || any_below (λ j. eqb j k && p j) n) ≡ p k
    by true e ih =
        let q : n ≡ k = eqb-true n k e in
        rw (none_else p k n (omega arith)) (or-false (p n) ∙ ap p q)
    by false e ih = let q : n ≡ k → ⊥ = eqb-false n k e in ih (omega arith)

-- ## Any word

any_or : (p q : List ℕ → Bool) (ws : List (List ℕ)) → any (λ w. p w || q w) ws ≡ (any p ws || any q ws)
unfolding any
any_or p q [] = refl
any_or p q (w ∷ ws) = ap (λ (b : Bool). (p w || q w) || b) (any_or p q ws) ∙ middle (p w) (q w) (any p ws) (any q ws)

-- the same of each word of which q does not hold
pub any_same_where : (p r q : List ℕ → Bool) → ((w : List ℕ) → q w ≡ false → p w ≡ r w) → (ws : List (List ℕ)) → any q ws ≡ false → any p ws ≡ any r ws
unfolding any
any_same_where p r q e [] h = refl
any_same_where p r q e (w ∷ ws) h = let f : (q w ≡ false) × (any q ws ≡ false) = or_none (q w) (any q ws) h in
    ap₂ ◌||◌ (e w f.0) (any_same_where p r q e ws f.1)

-- ## Of at most 64 tables: the bits of what a text names

module _ (ts : List Table) (few : length ts ≤ 64) (p : ℕ → Bool) where
  name_leads_bits : (n : List ℕ) → any_below (λ j. is_named ts n j && p j) 64 ≡ name_leads ts p n
  unfolding is_named name_leads
  name_leads_bits n = by (place_named ts n) refl
    where
      by : (o : Option ℕ) → place_named ts n ≡ o → any_below (λ j. holds (eqb j) o && p j) 64 ≡ holds p o
      by None e = any_below_none 64
      by (Some k) e = any_below_one p k 64 (let l : k < length ts = place_below ts n k e in omega arith)

  word_leads_bits : (w : List ℕ) → any_below (λ j. word_names ts w j && p j) 64 ≡ word_leads ts p w
  unfolding word_names word_leads
  word_leads_bits w = by (table_name w)
    where
      by : (o : Option (List ℕ)) → any_below (λ j. holds (λ n. is_named ts n j) o && p j) 64 ≡ holds (name_leads ts p) o
      by None = any_below_none 64
      by (Some n) = name_leads_bits n

  words_lead_bits : (ws : List (List ℕ)) → any_below (λ j. words_name ts ws j && p j) 64 ≡ any (word_leads ts p) ws
  unfolding words_name any
  words_lead_bits [] = any_below_none 64
  words_lead_bits (w ∷ ws) =
      any_below_same
      (λ j. (word_names ts w j || any (λ v. word_names ts v j) ws) && p j)
      (λ j. word_names ts w j && p j || any (λ v. word_names ts v j) ws && p j)
      64
      (λ j h. and-or_distrib_right (word_names ts w j) (any (λ v. word_names ts v j) ws) (p j))
      ∙ any_below_or (λ j. word_names ts w j && p j) (λ j. any (λ v. word_names ts v j) ws && p j) 64
      ∙ ap₂ ◌||◌ (word_leads_bits w) (words_lead_bits ws)

  text_leads_bits : (t : List ℕ) → any_below (λ j. text_names ts t j && p j) 64 ≡ text_leads ts p t
  unfolding text_leads
  text_leads_bits t = words_lead_bits (words t)

-- ## A name, a pattern

-- a number of the table at a place, 0 where there is none
abbrev number_at : (ℕ → ℕ) → Option ℕ → ℕ
number_at c None = 0
number_at c (Some i) = c i

lead_place : (ts : List Table) (p : ℕ → Bool) (w : List ℕ) → word_leads ts p w ≡ holds p (word_place ts w)
unfolding word_leads name_leads word_place
lead_place ts p w = by (table_name w)
  where
    by : (o : Option (List ℕ)) → holds (λ n. holds p (place_named ts n)) o ≡ holds p (o >>= place_named ts)
    by None = refl
    by (Some n) = refl

module _ (ts : List Table) (h : Endpoint) (d : ℕ) where
  name_matches : (n : List ℕ) → in_table ts (suc d) n h ≡ holds (matches_at ts h d) (place_named ts n)
  unfolding in_table matches_at any
  name_matches n = by (place_named ts n) refl
    where
      by : (o : Option ℕ) → place_named ts n ≡ o → any (word_matches ts h d) (patterns_of (table_named ts n)) ≡ holds (matches_at ts h d) o
      by None e = rw (named_none ts n e)
      by (Some i) e = rw ((named_place ts n i no_table e).named, patterns_words (table_at ts i))

  name_tried : (n : List ℕ) → tried_in ts (suc d) n h ≡ number_at (tried_at ts h d) (place_named ts n)
  unfolding tried_in tried_at sum_until
  name_tried n = by (place_named ts n) refl
    where
      by : (o : Option ℕ) → place_named ts n ≡ o
          → sum_until (word_matches ts h d) (word_count ts h d) (patterns_of (table_named ts n)) ≡ number_at (tried_at ts h d) o
      by None e = rw (named_none ts n e)
      by (Some i) e = rw ((named_place ts n i no_table e).named, patterns_words (table_at ts i))

  word_matches_lem : (w : List ℕ) → word_matches ts h d w ≡ (is_own h w || holds (λ n. in_table ts d n h) (table_name w))
  unfolding pattern_with table_name host_matches
  word_matches_lem w = by (first_among "/" w) (given (is_table_name (drop 1 w)) (drop 1 w))
    where
      by : (b : Bool) (o : Option (List ℕ))
          → holds (λ f. f h) (when b then ((when b then o else None) >>= λ n. Some (in_table ts d n)) else host_pattern w)
          ≡ (not b && matches_pattern (host_pattern w) h || holds (λ n. in_table ts d n h) (when b then o else None))
      by true None = refl
      by true (Some n) = refl
      by false o = sym (or-false (matches_pattern (host_pattern w) h))

module _ (ts : List Table) (h : Endpoint) (d : ℕ) (w : List ℕ) where
  word_at : word_matches ts h (suc d) w ≡ (is_own h w || holds (matches_at ts h d) (word_place ts w))
  unfolding word_place
  word_at = word_matches_lem ts h (suc d) w ∙ ap (λ (b : Bool). is_own h w || b) (by (table_name w))
    where
      by : (o : Option (List ℕ)) → holds (λ n. in_table ts (suc d) n h) o ≡ holds (matches_at ts h d) (o >>= place_named ts)
      by None = refl
      by (Some n) = name_matches ts h d n

  count_at_lem : word_count ts h (suc d) w ≡ 1 + number_at (tried_at ts h d) (word_place ts w)
  unfolding word_place
  count_at_lem = by (table_name w)
    where
      by : (o : Option (List ℕ)) → looked_with (λ n. tried_in ts (suc d) n h) o ≡ 1 + number_at (tried_at ts h d) (o >>= place_named ts)
      by None = refl
      by (Some n) = ap (λ (x : ℕ). 1 + x) (name_tried ts h d n)

-- ## What notes tell of a place, of a name

module _ (ts : List Table) (few : length ts ≤ 64) (h : Endpoint) (k d : ℕ) (notes : List ℕ) (level : HostLevel ts h k d notes) where
  marked_right : (o : Option ℕ) → ((i : ℕ) → o ≡ Some i → i < length ts) → holds (marked_at k notes) o ≡ holds (matches_at ts h d) o
  unfolding Marks
  marked_right None within = refl
  marked_right (Some i) within = let l : i < length ts = within i refl in rw (lt-ltb i 64 (omega arith)) (level.level_bits i l)

  counted_right : (o : Option ℕ) → ((i : ℕ) → o ≡ Some i → i < length ts) → placed_count k notes o ≡ capped (number_at (tried_at ts h d) o)
  unfolding capped
  counted_right None within = refl
  counted_right (Some i) within = let l : i < length ts = within i refl in rw (lt-ltb i 64 (omega arith)) (level.level_tried i l)

  pub noted_match_lem : (n : List ℕ) → holds (marked_at k notes) (place_named ts n) ≡ in_table ts (suc d) n h
  noted_match_lem n = marked_right (place_named ts n) (place_below ts n) ∙ sym (name_matches ts h d n)

  pub noted_tried_lem : (n : List ℕ) → placed_count k notes (place_named ts n) ≡ capped (tried_in ts (suc d) n h)
  noted_tried_lem n = counted_right (place_named ts n) (place_below ts n) ∙ ap capped (sym (name_tried ts h d n))

-- ## The texts by themselves

module _ (ts : List Table) (h : Endpoint) where
  word_alone : (w : List ℕ) → word_matches ts h 0 w ≡ is_own h w
  unfolding in_table
  word_alone w = word_matches_lem ts h 0 w ∙ by (is_own h w) (table_name w)
    where
      by : (b : Bool) (o : Option (List ℕ)) → (b || holds (λ (n : List ℕ). false) o) ≡ b
      by b None = or-false b
      by b (Some n) = or-false b

  count_alone : (w : List ℕ) → word_count ts h 0 w ≡ 1
  unfolding tried_in
  count_alone w = by (table_name w)
    where
      by : (o : Option (List ℕ)) → looked_with (λ n. tried_in ts 0 n h) o ≡ 1
      by None = refl
      by (Some n) = refl

  module _ (k : ℕ) (notes : List ℕ) (own : OwnOf ts h k notes) where
    own_level : HostLevel ts h k 0 notes
    unfolding Marks matches_at tried_at
    own_level = record {
      level_bits = λ i l. own.own_bits i l ∙ sym (any_same (word_matches ts h 0) (is_own h) word_alone (words (table_at ts i).text));
      level_tried = λ i l.
          sym (ap capped (sum_same (word_matches ts h 0) (is_own h) (word_count ts h 0) (λ w. 1) word_alone count_alone (words (table_at ts i).text)
          ∙ sym (own.own_tried i l).count) ∙ capped_small (get_or notes (3 + 64 * k + i) 0) (own.own_tried i l).fits);
    }

pub first_level : (ts : List Table) (client server : Endpoint) (notes : List ℕ) → FirstOf ts client server notes → Level ts client server 0 notes
first_level ts client server notes first = record {
  level_client = own_level ts client 0 notes first.first_client;
  level_server = own_level ts server 1 notes first.first_server;
  level_deep = first.first_deep;
}

-- ## A table that does not lead on

module _ (ts : List Table) (h : Endpoint) where
  -- what is told of a name at two depths is the same
  pub record Stays (d : ℕ) (n : List ℕ) : Type 0 where
    pub stays_match : in_table ts (suc d) n h ≡ in_table ts d n h
    pub stays_tried : tried_in ts (suc d) n h ≡ tried_in ts d n h

  module _ (d : ℕ) (stays : (n : List ℕ) → name_leads ts (past_at ts d) n ≡ false → Stays d n) where
    word_stays : (w : List ℕ) → word_leads ts (past_at ts d) w ≡ false → word_matches ts h (suc d) w ≡ word_matches ts h d w
    unfolding word_leads
    word_stays w e = word_matches_lem ts h (suc d) w ∙ ap (λ (b : Bool). is_own h w || b) (by (table_name w) e) ∙ sym (word_matches_lem ts h d w)
      where
        by : (o : Option (List ℕ)) → holds (name_leads ts (past_at ts d)) o ≡ false → holds (λ n. in_table ts (suc d) n h) o ≡ holds (λ n. in_table ts d n h) o
        by None f = refl
        by (Some n) f = (stays n f).stays_match

    count_stays : (w : List ℕ) → word_leads ts (past_at ts d) w ≡ false → word_count ts h (suc d) w ≡ word_count ts h d w
    unfolding word_leads
    count_stays w e = by (table_name w) e
      where
        by : (o : Option (List ℕ)) → holds (name_leads ts (past_at ts d)) o ≡ false
            → looked_with (λ n. tried_in ts (suc d) n h) o ≡ looked_with (λ n. tried_in ts d n h) o
        by None f = refl
        by (Some n) f = ap (λ (x : ℕ). 1 + x) (stays n f).stays_tried

    match_at_stays : (i : ℕ) → past_at ts (suc d) i ≡ false → matches_at ts h (suc d) i ≡ matches_at ts h d i
    unfolding past_at text_leads matches_at
    match_at_stays i e =
        any_same_where (word_matches ts h (suc d)) (word_matches ts h d) (word_leads ts (past_at ts d)) word_stays (words (table_at ts i).text) e

    tried_at_stays : (i : ℕ) → past_at ts (suc d) i ≡ false → tried_at ts h (suc d) i ≡ tried_at ts h d i
    unfolding past_at text_leads tried_at
    tried_at_stays i e =
        sum_same_where (word_matches ts h (suc d)) (word_matches ts h d) (word_count ts h (suc d)) (word_count ts h d) (word_leads ts (past_at ts d))
        word_stays count_stays (words (table_at ts i).text) e

  name_stays : (d : ℕ) (n : List ℕ) → name_leads ts (past_at ts d) n ≡ false → Stays d n
  unfolding name_leads past_at in_table tried_in
  name_stays zero n e = by (place_named ts n) refl e
    where
      by : (o : Option ℕ) → place_named ts n ≡ o → holds (λ (i : ℕ). true) o ≡ false → Stays 0 n
      by None q f = record { stays_match = name_matches ts h 0 n ∙ rw q; stays_tried = name_tried ts h 0 n ∙ rw q }
      by (Some i) q f = absurd (true≢false f)
  name_stays (suc d) n e = by (place_named ts n) refl e (name_stays d)
    where
      by : (o : Option ℕ) → place_named ts n ≡ o → holds (past_at ts (suc d)) o ≡ false
          → ((m : List ℕ) → name_leads ts (past_at ts d) m ≡ false → Stays d m) → Stays (suc d) n
      by None q f ih = record {
        stays_match = name_matches ts h (suc d) n ∙ rw q (sym (name_matches ts h d n ∙ rw q));
        stays_tried = name_tried ts h (suc d) n ∙ rw q (sym (name_tried ts h d n ∙ rw q));
      }
      by (Some i) q f ih = record {
        stays_match = name_matches ts h (suc d) n ∙ rw q (match_at_stays d ih i f ∙ sym (name_matches ts h d n ∙ rw q));
        stays_tried = name_tried ts h (suc d) n ∙ rw q (tried_at_stays d ih i f ∙ sym (name_tried ts h d n ∙ rw q));
      }

-- ## One depth more

-- the bits of those that own marks, and of those that name one that below marks
module _ (ts : List Table) (few : length ts ≤ 64) (names : List ℕ) (is-names : NamesOf ts names) (own below : ℕ) (q : ℕ → Bool)
    (is_below : Marks below (length ts) q) (r : ℕ)
    (is-r : Marks r 64 (λ i. bit_at i own || any_below (λ j. bit_at j (get_or names i 0) && bit_at j below) 64)) where
  bits_above : (i : ℕ) → i < length ts → bit_at i r ≡ (bit_at i own || text_leads ts q (table_at ts i).text)
  unfolding Marks NamesOf
  bits_above i l =
      is-r i (omega arith)
      ∙ ap (λ (b : Bool). bit_at i own || b)
      (any_below_same (λ j. bit_at j (get_or names i 0) && bit_at j below) (λ j. text_names ts (table_at ts i).text j && q j) 64
      (λ j h. ap (λ (b : Bool). b && bit_at j below) (is-names i l j h) ∙ by j (ltb j (length ts)) refl)
      ∙ text_leads_bits ts few q (table_at ts i).text)
    where
      by : (j : ℕ) (b : Bool) → ltb j (length ts) ≡ b
          → (text_names ts (table_at ts i).text j && bit_at j below) ≡ (text_names ts (table_at ts i).text j && q j)
      by j true e = ap (λ (b : Bool). text_names ts (table_at ts i).text j && b) (is_below j (ltb-true j (length ts) e))
      by j false e = rw (none_by_words ts j (ltb-false j (length ts) e) (words (table_at ts i).text))

  deep_above : (d : ℕ) → ((i : ℕ) → q i ≡ past_at ts d i) → own ≡ 0 → Marks r (length ts) (past_at ts (suc d))
  unfolding Marks past_at
  deep_above d is-q e i l =
      bits_above i l ∙ ap (λ (b : Bool). b || text_leads ts q (table_at ts i).text) (ap (bit_at i) e ∙ bit_none i)
      ∙ text_same ts q (past_at ts d) (λ j h. is-q j) (table_at ts i).text

  match_above : (h : Endpoint) (d : ℕ) → ((i : ℕ) → q i ≡ matches_at ts h d i) → Marks own (length ts) (λ i. own_match h (table_at ts i).text)
      → Marks r (length ts) (matches_at ts h (suc d))
  unfolding Marks matches_at text_leads
  match_above h d is-q is_own_lem i l =
      bits_above i l ∙ ap (λ (b : Bool). b || text_leads ts q (table_at ts i).text) (is_own_lem i l)
      ∙ ap (λ (b : Bool). own_match h (table_at ts i).text || b) (text_same ts q (matches_at ts h d) (λ j h. is-q j) (table_at ts i).text)
      ∙ sym (any_same (word_matches ts h (suc d)) (λ w. is_own h w || word_leads ts (matches_at ts h d) w)
      (λ w. word_at ts h d w ∙ ap (λ (b : Bool). is_own h w || b) (sym (lead_place ts (matches_at ts h d) w))) (words (table_at ts i).text)
      ∙ any_or (is_own h) (word_leads ts (matches_at ts h d)) (words (table_at ts i).text))

-- a word's place is that of a table
word_below : (ts : List Table) (w : List ℕ) (i : ℕ) → word_place ts w ≡ Some i → i < length ts
unfolding word_place
word_below ts w i e = by (table_name w) e
  where
    by : (o : Option (List ℕ)) → (o >>= place_named ts) ≡ Some i → i < length ts
    by None f = absurd (none_some f)
    by (Some n) f = place_below ts n i f

-- what is tried in one table
module _ (ts : List Table) (few : length ts ≤ 64) (h : Endpoint) (k d : ℕ) (first below : List ℕ) (own : OwnOf ts h k first) (level : HostLevel ts h k d below)
    (deep : Marks (get_or below 2 0) (length ts) (past_at ts (suc d))) (i : ℕ) (l : i < length ts) where
  abbrev ws : List (List ℕ)
  ws = words (table_at ts i).text

  -- of the words that notes tell of
  noted_sum : text_tried k ts below (get_or first (3 + 64 * k + i) 0) ws ≡ capped (tried_at ts h (suc d) i)
  unfolding text_tried tried_at
  noted_sum =
      within_same (λ w. holds (marked_at k below) (word_place ts w)) (λ w. holds (matches_at ts h d) (word_place ts w))
      (λ w. 1 + placed_count k below (word_place ts w)) (λ w. 1 + number_at (tried_at ts h d) (word_place ts w))
      (λ w. marked_right ts few h k d below level (word_place ts w) (word_below ts w))
      (λ w. ap (λ (x : ℕ). capped (1 + x)) (counted_right ts few h k d below level (word_place ts w) (word_below ts w))
      ∙ capped_add 1 (number_at (tried_at ts h d) (word_place ts w)))
      (get_or first (3 + 64 * k + i) 0) ws
      ∙ ap (λ (n : ℕ). capped (sum_within n (λ w. holds (matches_at ts h d) (word_place ts w)) (λ w. 1 + number_at (tried_at ts h d) (word_place ts w)) ws))
      (own.own_tried i l).count
      ∙ ap capped (sym (sum_within_lem (is_own h) (λ w. holds (matches_at ts h d) (word_place ts w)) (λ w. 1 + number_at (tried_at ts h d) (word_place ts w)) ws)
      ∙ sym (sum_same (word_matches ts h (suc d)) (λ w. is_own h w || holds (matches_at ts h d) (word_place ts w)) (word_count ts h (suc d))
      (λ w. 1 + number_at (tried_at ts h d) (word_place ts w)) (word_at ts h d) (count_at_lem ts h d) ws))

  above_right : tried_above k ts first below i (table_at ts i).text ≡ capped (tried_at ts h (suc d) i)
  unfolding Marks
  above_right = by (bit_at i (get_or below 2 0)) refl
    where
      by : (b : Bool) → bit_at i (get_or below 2 0) ≡ b
          → (when b then text_tried k ts below (get_or first (3 + 64 * k + i) 0) ws else get_or below (3 + 64 * k + i) 0) ≡ capped (tried_at ts h (suc d) i)
      by true e = noted_sum
      by false e = level.level_tried i l ∙ ap capped (sym (tried_at_stays ts h d (name_stays ts h d) i (sym (deep i l) ∙ e)))

-- notes with the bits of one depth
module _ (notes : List ℕ) (c s d : ℕ) (long : length notes ≡ 131) where
  abbrev made : List ℕ
  made = set (set (set notes 0 c) 1 s) 2 d

  made_first : get_or made 0 0 ≡ c
  made_first =
      get_or-set_other (set (set notes 0 c) 1 s) 2 0 d 0 (λ e. omega arith) ∙ get_or-set_other (set notes 0 c) 1 0 s 0 (λ e. omega arith)
      ∙ get_or-set_same notes 0 c 0 (omega arith)

  made_second : get_or made 1 0 ≡ s
  made_second =
      get_or-set_other (set (set notes 0 c) 1 s) 2 1 d 0 (λ e. omega arith) ∙ get_or-set_same (set notes 0 c) 1 s 0 (omega (arith, length-set notes 0 c))

  made_third : get_or made 2 0 ≡ d
  made_third = get_or-set_same (set (set notes 0 c) 1 s) 2 d 0 (omega (arith, length-set notes 0 c, length-set (set notes 0 c) 1 s))

  made_rest : (m : ℕ) → 3 ≤ m → get_or made m 0 ≡ get_or notes m 0
  made_rest m h =
      get_or-set_other (set (set notes 0 c) 1 s) 2 m d 0 (λ e. omega arith) ∙ get_or-set_other (set notes 0 c) 1 m s 0 (λ e. omega arith)
      ∙ get_or-set_other notes 0 m c 0 (λ e. omega arith)

module _ (ts : List Table) (few : length ts ≤ 64) (names : List ℕ) (is-names : NamesOf ts names) (first below notes : List ℕ) (long : length notes ≡ 131)
    (is-notes : AllAbove ts first below notes)
    (c : ℕ) (is_c : Marks c 64 (λ i. bit_at i (get_or first 0 0) || any_below (λ j. bit_at j (get_or names i 0) && bit_at j (get_or below 0 0)) 64))
    (s : ℕ) (is-s : Marks s 64 (λ i. bit_at i (get_or first 1 0) || any_below (λ j. bit_at j (get_or names i 0) && bit_at j (get_or below 1 0)) 64))
    (d : ℕ) (is_d : Marks d 64 (λ i. bit_at i 0 || any_below (λ j. bit_at j (get_or names i 0) && bit_at j (get_or below 2 0)) 64)) where
  pub lift_right : Lifted ts first below (set (set (set notes 0 c) 1 s) 2 d)
  unfolding Lifted AllAbove
  lift_right client server e f level = record {
    level_client = record {
      level_bits = subst (λ (m : ℕ). Marks m (length ts) (matches_at ts client (suc e))) (sym (made_first notes c s d long))
          (match_above ts few names is-names (get_or first 0 0) (get_or below 0 0) (matches_at ts client e) level.level_client.level_bits c is_c client e
          (λ i. refl) f.first_client.own_bits);
      level_tried = λ i l. made_rest notes c s d long (3 + i) (omega arith) ∙ is-notes 0 i (omega arith) l
          ∙ above_right ts few client 0 e first below f.first_client level.level_client level.level_deep i l;
    };
    level_server = record {
      level_bits = subst (λ (m : ℕ). Marks m (length ts) (matches_at ts server (suc e))) (sym (made_second notes c s d long))
          (match_above ts few names is-names (get_or first 1 0) (get_or below 1 0) (matches_at ts server e) level.level_server.level_bits s is-s server e
          (λ i. refl) f.first_server.own_bits);
      level_tried = λ i l. made_rest notes c s d long (67 + i) (omega arith) ∙ is-notes 1 i (omega arith) l
          ∙ above_right ts few server 1 e first below f.first_server level.level_server level.level_deep i l;
    };
    level_deep = subst (λ (m : ℕ). Marks m (length ts) (past_at ts (suc (suc e)))) (sym (made_third notes c s d long))
        (deep_above ts few names is-names 0 (get_or below 2 0) (past_at ts (suc e)) level.level_deep d is_d (suc e) (λ i. refl) refl);
  }

-- ## Where no table leads on

past_more : (ts : List Table) (d i : ℕ) → past_at ts (suc d) i ≡ text_leads ts (past_at ts d) (table_at ts i).text
unfolding past_at
past_more ts d i = refl

no_leads : (ts : List Table) (t : List ℕ) → text_leads ts (λ i. false) t ≡ false
unfolding text_leads any
no_leads ts t = any_same (word_leads ts (λ i. false)) (λ w. false) word_leads_none (words t) ∙ any_none (words t)
  where
    any_none : (ws : List (List ℕ)) → any (λ w. false) ws ≡ false
    any_none [] = refl
    any_none (w ∷ ws) = any_none ws

    word_leads_none : (w : List ℕ) → word_leads ts (λ i. false) w ≡ false
    word_leads_none w = lead_place ts (λ i. false) w ∙ by (word_place ts w)
      where
        by : (o : Option ℕ) → holds (λ (i : ℕ). false) o ≡ false
        by None = refl
        by (Some i) = refl

module _ (ts : List Table) (notes : List ℕ) (e : get_or notes 2 0 ≡ 0) where
  host_stays : (h : Endpoint) (k d : ℕ) → ((i : ℕ) → i < length ts → past_at ts (suc d) i ≡ false) → HostLevel ts h k d notes → HostLevel ts h k (suc d) notes
  unfolding Marks
  host_stays h k d ends level = record {
    level_bits = λ i l. level.level_bits i l ∙ sym (match_at_stays ts h d (name_stays ts h d) i (ends i l));
    level_tried = λ i l. level.level_tried i l ∙ ap capped (sym (tried_at_stays ts h d (name_stays ts h d) i (ends i l)));
  }

  level_stays : (client server : Endpoint) (d : ℕ) → Level ts client server d notes → Level ts client server (suc d) notes
  unfolding Marks
  level_stays client server d level = record {
    level_client = host_stays client 0 d ends level.level_client;
    level_server = host_stays server 1 d ends level.level_server;
    level_deep = λ i l. ap (bit_at i) e ∙ bit_none i ∙ sym (past i);
  }
    where
      ends : (i : ℕ) → i < length ts → past_at ts (suc d) i ≡ false
      ends i l = sym (level.level_deep i l) ∙ ap (bit_at i) e ∙ bit_none i

      past : (i : ℕ) → past_at ts (suc (suc d)) i ≡ false
      past i = past_more ts (suc d) i ∙ text_same ts (past_at ts (suc d)) (λ j. false) ends (table_at ts i).text ∙ no_leads ts (table_at ts i).text

-- ## The recursion over the depth

module _ (ts : List Table) (first : List ℕ) (depth : ℕ) where
  pub risen_start : depth ≡ 0 → Risen ts first depth first
  unfolding Risen
  risen_start e client server f = rw e (first_level ts client server first f)

  module _ (more : depth ≡ 0 → ⊥) (below : List ℕ) (is_below : Risen ts first (depth - 1) below) where
    risen_next : (r : List ℕ) → ((client server : Endpoint) → FirstOf ts client server first → Level ts client server (suc (depth - 1)) r)
        → Risen ts first depth r
    unfolding Risen
    risen_next r f client server g =
        let z : suc (depth - 1) ≡ depth = omega arith in
        subst (λ (d : ℕ). Level ts client server d r) z (f client server g)

    pub risen_stays : get_or below 2 0 ≡ 0 → Risen ts first depth below
    unfolding Risen
    risen_stays e = risen_next below (λ client server f. level_stays ts below e client server (depth - 1) (is_below client server f))

    pub risen_more : (r : List ℕ) → Lifted ts first below r → Risen ts first depth r
    unfolding Risen Lifted
    risen_more r is-r = risen_next r (λ client server f. is-r client server (depth - 1) f (is_below client server f))

-- ## All

-- the notes that the texts by themselves tell, with those that lead on
risen_first : (ts : List Table) (client server : Endpoint) → length ts ≤ 64 → (x : Rows) → RowsOf ts client server x → length x.notes ≡ 131 → (d : ℕ)
    → Marks d 64 (λ i. bit_at i 0 || any_below (λ j. bit_at j (get_or x.names i 0) && bit_at j 18446744073709551615) 64)
    → (r : List ℕ) → Risen ts (set x.notes 2 d) 3 r → Level ts client server 3 r
unfolding Risen Marks past_at
risen_first ts client server few x is_x long d is_d r is-r = is-r client server (record {
  first_client = own_kept client 0 (λ e. omega arith) is_x.rows_client;
  first_server = own_kept server 1 (λ e. omega arith) is_x.rows_server;
  first_deep = subst (λ (m : ℕ). Marks m (length ts) (past_at ts 1)) (sym (get_or-set_same x.notes 2 d 0 (omega arith)))
      (deep_above ts few x.names is_x.rows_names 0 18446744073709551615 (λ i. true) (λ j l. bit_ones j (omega arith)) d is_d 0 (λ i. refl) refl);
})
  where
    own_kept : (h : Endpoint) (k : ℕ) → (k ≡ 2 → ⊥) → OwnOf ts h k x.notes → OwnOf ts h k (set x.notes 2 d)
    own_kept h k n own = record {
      own_bits = subst (λ (m : ℕ). Marks m (length ts) (λ i. own_match h (table_at ts i).text)) (sym (get_or-set_other x.notes 2 k d 0 n)) own.own_bits;
      own_tried = λ i l. subst (λ (m : ℕ). WordCount (is_own h) (words (table_at ts i).text) m)
          (sym (get_or-set_other x.notes 2 (3 + 64 * k + i) d 0 (λ e. omega arith))) (own.own_tried i l);
    }

-- what is told stays told where it is written over the front of other notes
module _ (ts : List Table) (few : length ts ≤ 64) (made told notes : List ℕ) (k : Told made told notes) where
  host_told : (h : Endpoint) (m d : ℕ) → m < 2 → HostLevel ts h m d told → HostLevel ts h m d notes
  host_told h m d l x = record {
    level_bits = subst (λ (w : ℕ). Marks w (length ts) (matches_at ts h d)) (sym (k.told_front m (omega arith))) x.level_bits;
    level_tried = λ i j. k.told_front (3 + 64 * m + i) (omega arith) ∙ x.level_tried i j;
  }

  level_told : (client server : Endpoint) (d : ℕ) → Level ts client server d told → Level ts client server d notes
  level_told client server d x = record {
    level_client = host_told client 0 d (omega arith) x.level_client;
    level_server = host_told server 1 d (omega arith) x.level_server;
    level_deep = subst (λ (w : ℕ). Marks w (length ts) (past_at ts (suc d))) (sym (k.told_front 2 (omega arith))) x.level_deep;
  }

pub view_right : (t : List ℕ) (client server : Endpoint) → length (tables_in t) ≤ 64 → (made : List ℕ) → NamesNoted t made
    → (x : Rows) → RowsOf (tables_in t) client server x → length x.notes ≡ 131 → (d : ℕ)
    → Marks d 64 (λ i. bit_at i 0 || any_below (λ j. bit_at j (get_or x.names i 0) && bit_at j 18446744073709551615) 64)
    → (told : List ℕ) → Risen (tables_in t) (set x.notes 2 d) 3 told → (notes : List ℕ) → Told made told notes
    → ViewedBy t client server (record { notes = notes; clean = x.clean })
view_right t client server few made is_made x is_x long d is_d told is-told notes is-notes = record {
  viewed_notes = record {
    viewed_level = level_told (tables_in t) few made told notes is-notes client server 3
        (risen_first (tables_in t) client server few x is_x long d is_d told is-told);
    viewed_names = names_kept t made told notes is_made is-notes;
  };
  viewed_clean = is_x.rows_clean;
}
