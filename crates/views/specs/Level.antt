-- What the tables are to the hosts of a request, where the tables that they name may be entered so deep: what inner contracts cite. Laws tie it
-- to in_table and tried_in.
--   matches_at, tried_at ts h d i == whether the table at the place i matches h, and how many patterns are tried for that
--   Level ts c s d notes        == notes of all tables for a client and a server
--   sum_within n p f ws          == the sum of f along the first n words, up to the first of which p holds
-- Assumes nothing: these are definitions.
use Rattle.std.specs.Prelude.{ℕ, zero, suc, ◌+◌, ◌-◌, ◌*◌, ◌<◌, Bool, true, false, List, [], ◌∷◌, ◌≡◌, length, get_or, eqb, None, Option, Some}
use Rattle.text.specs.Basics.{when◌then◌else◌, ◌>>=◌, holds, any, sum_until}
use Rattle.patterns.specs.Host.{Endpoint}
use Rattle.tables.specs.Table.{Table, table_name, pattern_with, in_table}
use Rattle.tables.specs.Tried.{looked_with, tried_in, capped}
use Rattle.tables.specs.Code.{tables_in, words, place_named, CleanTexts}
use Rattle.views.specs.Names.{NamesNoted}
use Rattle.views.specs.declared.Viewing.{Viewing}
use Rattle.views.specs.declared.level.Tally.{Tally}
use Rattle.views.specs.declared.level.Counts.{Counts}
use Rattle.views.specs.View.{bit_at, Marks, table_at, OwnOf, past_at, marked_at, counted_at, placed_count}

-- ## One depth

-- a pattern matches h, and what it counts, where the table that it names may be entered d deep
abbrev pub word_matches : List Table → Endpoint → ℕ → List ℕ → Bool
word_matches ts h d w = holds (λ f. f h) (pattern_with (in_table ts d) w)

abbrev pub word_count : List Table → Endpoint → ℕ → List ℕ → ℕ
word_count ts h d w = looked_with (λ n. tried_in ts d n h) (table_name w)

-- the table at the place i does, and what is tried in it
unfoldable pub matches_at : List Table → Endpoint → ℕ → ℕ → Bool
matches_at ts h d i = any (word_matches ts h d) (words (table_at ts i).text)

unfoldable pub tried_at : List Table → Endpoint → ℕ → ℕ → ℕ
tried_at ts h d i = sum_until (word_matches ts h d) (word_count ts h d) (words (table_at ts i).text)

-- what notes tell of a host, k its number
pub record HostLevel (ts : List Table) (h : Endpoint) (k d : ℕ) (notes : List ℕ) : Type 0 where
  pub level_bits : Marks (get_or notes k 0) (length ts) (matches_at ts h d)
  pub level_tried : (i : ℕ) → i < length ts → get_or notes (3 + 64 * k + i) 0 ≡ capped (tried_at ts h d i)

pub record Level (ts : List Table) (client server : Endpoint) (d : ℕ) (notes : List ℕ) : Type 0 where
  pub level_client : HostLevel ts client 0 d notes
  pub level_server : HostLevel ts server 1 d notes
  pub level_deep : Marks (get_or notes 2 0) (length ts) (past_at ts (suc d))

-- four deep from a rule: a table that it names, and three more
pub record Viewed (t : List ℕ) (client server : Endpoint) (notes : List ℕ) : Type 0 where
  pub viewed_level : Level (tables_in t) client server 3 notes
  pub viewed_names : NamesNoted t notes

pub record ViewedBy (t : List ℕ) (client server : Endpoint) (r : Viewing) : Type 0 where
  pub viewed_notes : Viewed t client server r.notes
  pub viewed_clean : CleanTexts r.clean (tables_in t)

-- the notes that the texts by themselves tell
pub record FirstOf (ts : List Table) (client server : Endpoint) (notes : List ℕ) : Type 0 where
  pub first_client : OwnOf ts client 0 notes
  pub first_server : OwnOf ts server 1 notes
  pub first_deep : Marks (get_or notes 2 0) (length ts) (past_at ts 1)

-- the notes r tell d deep what the first tell of the texts by themselves
unfoldable pub Risen : List Table → List ℕ → ℕ → List ℕ → Type 0
Risen ts first d r = (client server : Endpoint) → FirstOf ts client server first → Level ts client server d r

-- the notes r tell one deeper what those below tell
unfoldable pub Lifted : List Table → List ℕ → List ℕ → List ℕ → Type 0
Lifted ts first below r =
    (client server : Endpoint) (d : ℕ) → FirstOf ts client server first → Level ts client server d below → Level ts client server (suc d) r

-- ## One text

-- the place of the table that a pattern names
unfoldable pub word_place : List Table → List ℕ → Option ℕ
word_place ts w = table_name w >>= place_named ts

-- f along the first k words, up to the first of which p holds, that one included
unfoldable pub sum_within : ℕ → (List ℕ → Bool) → (List ℕ → ℕ) → List (List ℕ) → ℕ
sum_within zero p f ws = 0
sum_within (suc k) p f [] = 0
sum_within (suc k) p f (w ∷ ws) = f w + (when p w then 0 else sum_within k p f ws)

-- what notes say of the table at a place
abbrev pub marked_by : ℕ → List ℕ → Option ℕ → Bool
marked_by k notes None = false
marked_by k notes (Some i) = marked_at k notes i

abbrev pub counted_by : ℕ → List ℕ → Option ℕ → ℕ
counted_by k notes None = 0
counted_by k notes (Some i) = counted_at k notes i

-- what is tried of the first n words of a text, where notes tell of the tables that it names
unfoldable pub text_tried : ℕ → List Table → List ℕ → ℕ → List (List ℕ) → ℕ
text_tried k ts notes n ws =
    capped (sum_within n (λ w. holds (marked_at k notes) (word_place ts w)) (λ w. 1 + placed_count k notes (word_place ts w)) ws)

-- a tally after a word that names a table, or none, of which m says whether it matches and c what is tried in it
unfoldable pub tallied : Bool → ℕ → Tally → Tally
tallied m c t =
    when eqb t.left 0 then t else record { left = when m then 0 else t.left - 1; tried = capped (t.tried + capped (1 + c)) }

-- what is tried in the table at the place i, one deeper than the notes below tell: where it does not lead on, what they tell
abbrev pub tried_above : ℕ → List Table → List ℕ → List ℕ → ℕ → List ℕ → ℕ
tried_above k ts first below i text =
    when bit_at i (get_or below 2 0) then text_tried k ts below (get_or first (3 + 64 * k + i) 0) (words text) else get_or below (3 + 64 * k + i) 0

unfoldable pub AllAbove : List Table → List ℕ → List ℕ → List ℕ → Type 0
AllAbove ts first below r = (k i : ℕ) → k < 2 → i < length ts → get_or r (3 + 64 * k + i) 0 ≡ tried_above k ts first below i (table_at ts i).text

abbrev pub counts : ℕ → ℕ → Counts
counts c s = record { client = c; server = s }
