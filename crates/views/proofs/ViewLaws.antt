-- What a view and what notes tell, in the words of document 02, request 1: the laws that callers need.
--   match_client, match_server == the notes of a view mark just the tables that match the client, the server
--   tried_client, tried_server == they count what is tried in each
--   view_notes                 == they mark, too, just those that lead more than four deep
--   deep_right                 == notes that do so tell it of a name as leads_past does, where no table names one that is missing
--   naming_right               == what such notes say of a name
--   names_only; unjudged, unmatched == what notes of two words say; what no notes say
-- Assumes nothing.
use Rattle.std.specs.Prelude.{None, Option, Some, Err, Ok}
use Prim.Native.Nat.{ℕ, zero, suc, ◌+◌, ◌/◌, ◌%◌, ◌≤◌, ◌<◌}
use native.Mathlib.Omega.{arith}
use mathlib.Core.Bool.{Bool, true, false, not, true≢false}
use mathlib.Core.List.{List, [], ◌∷◌}
use mathlib.Core.Path.{◌≡◌, refl, sym, ap, ◌∙◌}
use lib.ListN.{length}
use Rattle.text.specs.Basics.{when◌then◌else◌, ◌or_else◌, given, is_some, holds, any}
use Rattle.text.proofs.BasicLaws.{or_false as or_none}
use Rattle.patterns.specs.Host.{Endpoint}
use Rattle.tables.specs.Table.{Table, table_name, is_missing, patterns, match_of, leads_past, first_table, is_misnamed, table_name_fault}
use Rattle.tables.specs.Tried.{capped, tried_of}
use Rattle.tables.specs.Code.{tables_in, place_named, tables_checked}
use Rattle.tables.proofs.EntryLaws.{none_some}
use Rattle.tables.proofs.TableLaws.{patterns_words, missing_place, named_place, numbered, first_numbered, names_zero}
use Rattle.views.specs.declared.NamingFault.{NamingFault}
use Rattle.views.specs.declared.NamingFault.TheVariants as NamingFault
use Rattle.views.specs.View.{Marks, no_table, table_at, name_leads, word_leads, text_leads, past_at, is_deep, Deep, placed_naming, naming_of}
use Rattle.views.specs.Names.{noted_place}
use Rattle.views.specs.View.{marked_at, placed_count, noted_match, noted_tried}
use Rattle.views.specs.Level.{Viewed}
use Rattle.views.proofs.NamesLaws.{noted_place_lem, other_place}
use Rattle.views.proofs.NoteLaws.{full_notes, no_match, deep_outside}
use Rattle.views.proofs.DeepLaws.{place_below}
use Rattle.views.proofs.LevelLaws.{any_same_where, noted_match_lem, noted_tried_lem}

-- ## What the notes of a view tell of a name

module _ (t : List ℕ) (client server : Endpoint) (notes : List ℕ) (is_v : Viewed t client server notes) (n : List ℕ) where
  few : length (tables_in t) ≤ 64
  few = is_v.viewed_names.names_few

  pub view_place : noted_place t notes n ≡ place_named (tables_in t) n
  view_place = noted_place_lem t notes n is_v.viewed_names

  pub match_client : noted_match 0 t notes n ≡ match_of (tables_in t) n client
  unfolding noted_match
  match_client = ap (holds (marked_at 0 notes)) view_place ∙ noted_match_lem (tables_in t) few client 0 3 notes is_v.viewed_level.level_client n

  pub match_server : noted_match 1 t notes n ≡ match_of (tables_in t) n server
  unfolding noted_match
  match_server = ap (holds (marked_at 1 notes)) view_place ∙ noted_match_lem (tables_in t) few server 1 3 notes is_v.viewed_level.level_server n

  pub tried_client : noted_tried 0 t notes n ≡ capped (tried_of (tables_in t) n client)
  unfolding noted_tried
  tried_client = ap (placed_count 0 notes) view_place ∙ noted_tried_lem (tables_in t) few client 0 3 notes is_v.viewed_level.level_client n

  pub tried_server : noted_tried 1 t notes n ≡ capped (tried_of (tables_in t) n server)
  unfolding noted_tried
  tried_server = ap (placed_count 1 notes) view_place ∙ noted_tried_lem (tables_in t) few server 1 3 notes is_v.viewed_level.level_server n

pub view_notes : (t : List ℕ) (client server : Endpoint) (notes : List ℕ) → Viewed t client server notes → Deep (tables_in t) 4 notes
unfolding Deep is_deep Marks
view_notes t client server notes is_v i l =
    let q : i % 64 ≡ i = omega (arith, is_v.viewed_names.names_few) in
    let z : i / 64 ≡ 0 = omega (arith, is_v.viewed_names.names_few) in
    rw (q, z) (is_v.viewed_level.level_deep i l)

-- ## What leads too deep

-- no table names one that is missing
unfoldable pub Closed : List Table → Type 0
Closed ts = (i : ℕ) → i < length ts → any (λ w. holds (is_missing ts) (table_name w)) (patterns (table_at ts i)) ≡ false

first_none : (p : List Table → Table → Bool) (n : ℕ) (before ts : List Table) → first_table p n before ts ≡ None → (i : ℕ) → i < length ts
    → (b : List Table) × (p b (table_at ts i) ≡ false)
unfolding first_table
first_none p n before [] e i h = absurd (omega arith)
first_none p n before (t ∷ ts) e i h = by (p before t) refl e (first_none p (n + 1) (t ∷ before) ts) i h
  where
    by : (b : Bool) → p before t ≡ b → (given b n or_else first_table p (n + 1) (t ∷ before) ts) ≡ None
        → (first_table p (n + 1) (t ∷ before) ts ≡ None → (k : ℕ) → k < length ts → (c : List Table) × (p c (table_at ts k) ≡ false))
        → (k : ℕ) → k < suc (length ts) → (c : List Table) × (p c (table_at (t ∷ ts) k) ≡ false)
    by true f g ih k l = absurd (none_some (sym g))
    by false f g ih zero l = (before, f)
    by false f g ih (suc k) l = ih g k (omega arith)

-- "15 for a table name missing": where that is not told of the tables, none names a missing one
pub closed : (ts : List Table) → table_name_fault ts ≡ None → Closed ts
unfolding Closed tables_checked is_misnamed
closed ts e i h =
    let f : first_table (is_misnamed ts) 1 [] ts ≡ None = first_numbered (is_misnamed ts) ts ∙ ap numbered (names_zero ts e) in
    let q : (b : List Table) × (is_misnamed ts b (table_at ts i) ≡ false) = first_none (is_misnamed ts) 1 [] ts f i h in
    (or_none (not (is_missing q.0 (table_at ts i).name)) (any (λ w. holds (is_missing ts) (table_name w)) (patterns (table_at ts i))) q.1).1

module _ (ts : List Table) (sound : Closed ts) where
  -- a name that is not missing has a place
  placed : (n : List ℕ) → is_missing ts n ≡ false → (i : ℕ) × (place_named ts n ≡ Some i)
  placed n e = by (place_named ts n) (sym (missing_place ts n) ∙ e)
    where
      by : (o : Option ℕ) → not (is_some o) ≡ false → (i : ℕ) × (o ≡ Some i)
      by None f = absurd (true≢false f)
      by (Some i) f = (i, refl)

  word_past : (d : ℕ) → ((n : List ℕ) (i : ℕ) → place_named ts n ≡ Some i → past_at ts d i ≡ leads_past ts d n)
      → (w : List ℕ) → holds (is_missing ts) (table_name w) ≡ false → word_leads ts (past_at ts d) w ≡ holds (leads_past ts d) (table_name w)
  unfolding word_leads name_leads
  word_past d ih w f = by (table_name w) f
    where
      by : (o : Option (List ℕ)) → holds (is_missing ts) o ≡ false → holds (name_leads ts (past_at ts d)) o ≡ holds (leads_past ts d) o
      by None f = refl
      by (Some n) f = let p : (i : ℕ) × (place_named ts n ≡ Some i) = placed n f in rw p.1 (ih n p.0 p.1)

  past_right : (d : ℕ) (n : List ℕ) (i : ℕ) → place_named ts n ≡ Some i → past_at ts d i ≡ leads_past ts d n
  unfolding Closed past_at leads_past text_leads
  past_right zero n i e = refl
  past_right (suc d) n i e =
      rw ((named_place ts n i no_table e).named, ← (patterns_words (table_at ts i)))
      (any_same_where (word_leads ts (past_at ts d)) (λ w. holds (leads_past ts d) (table_name w)) (λ w. holds (is_missing ts) (table_name w))
      (word_past d (past_right d)) (patterns (table_at ts i)) (sound i (place_below ts n i e)))

  module _ (notes : List ℕ) (deep : Deep ts 4 notes) where
    pub deep_right : (n : List ℕ) (i : ℕ) → place_named ts n ≡ Some i → is_deep notes i ≡ leads_past ts 4 n
    unfolding Deep
    deep_right n i e = deep i (place_below ts n i e) ∙ past_right 4 n i e

    -- what the notes say of a name, where they find its place
    pub naming_right : (t : List ℕ) (n : List ℕ) → noted_place t notes n ≡ place_named ts n → (length notes ≡ 0 → ⊥)
        → naming_of t notes n ≡ (when is_missing ts n then Err NamingFault.Missing else when leads_past ts 4 n then Err NamingFault.Deep else Ok tt)
    unfolding naming_of
    naming_right t n is-place full = rw (full_notes notes full, missing_place ts n, is-place) (by (place_named ts n) refl)
      where
        by : (o : Option ℕ) → place_named ts n ≡ o
            → placed_naming notes o ≡ (when not (is_some o) then Err NamingFault.Missing else when leads_past ts 4 n then Err NamingFault.Deep else Ok tt)
        by None e = refl
        by (Some i) e = ap (λ (b : Bool). when b then Err NamingFault.Deep else Ok tt) (deep_right n i e)

-- ## Where depth is not judged, and where nothing is

module _ (t : List ℕ) (n : List ℕ) where
  -- notes of two words tell a missing name and no more
  pub names_only : naming_of t (0 ∷ 0 ∷ []) n ≡ (when is_missing (tables_in t) n then Err NamingFault.Missing else Ok tt)
  unfolding naming_of
  names_only = rw (missing_place (tables_in t) n, other_place t (0 ∷ 0 ∷ []) n (λ e. omega arith)) (by (place_named (tables_in t) n))
    where
      by : (o : Option ℕ) → placed_naming (0 ∷ 0 ∷ []) o ≡ (when not (is_some o) then Err NamingFault.Missing else Ok tt)
      by None = refl
      by (Some i) = ap (λ (b : Bool). when b then Err NamingFault.Deep else Ok tt) (sym (deep_outside (0 ∷ 0 ∷ []) i (i / 64 + 2) refl (omega arith)))

  -- no notes say that a table may be named and matches nothing
  pub unjudged : naming_of t [] n ≡ Ok tt
  unfolding naming_of
  unjudged = refl

  pub unmatched : (k : ℕ) → noted_match k t [] n ≡ false
  unfolding noted_match
  unmatched k = no_match k (noted_place t [] n)
