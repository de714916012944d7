-- What the tables are to one request, as the code finds it: what inner contracts cite. Nothing here needs to be believed for the meaning of
-- document 02, request 1: laws tie it to inTable and leads_past.
--   bit_at i m            == bit i of the word m
--   past_at ts d i        == the table at the place i leads more than d deep
--   naming_of, noted_match, noted_tried == what notes say of a named table: whether it may be named, whether it matches, what is tried in it
-- Notes are words: a bit for each table that matches the client in the first, for each that matches the server in the second, and
-- from the third on for each that leads too deep. Where there are at most 64 tables, the third is the last of these, and after it
-- stand the counts of what is tried, 64 for the client, 64 for the server, and what tells their names. Where there are no notes at all, names are
-- not judged and nothing matches.
-- Assumes nothing: these are definitions.
use Rattle.std.specs.Prelude.{ℕ, zero, suc, ◌+◌, ◌*◌, ◌/◌, ◌%◌, ◌^◌, ◌<◌, Bool, true, false, not, ◌&&◌, ◌||◌, List, [], ◌≡◌, length, get_or, eqb, ltb, None, Option, Some, Err, Ok, Result, ⊤}
use Rattle.std.specs.Int.Bits.{bit_or}
use Rattle.text.specs.Basics.{when◌then◌else◌, holds, is_empty, any, sum_until}
use Rattle.text.specs.Text.{first_among}
use Rattle.patterns.specs.Host.{Endpoint}
use Rattle.patterns.specs.Code.{host_matches}
use Rattle.tables.specs.Table.{Table, table, table_name}
use Rattle.tables.specs.Code.{words, place_named, CleanWords, CleanTexts}
use Rattle.views.specs.Names.{noted_place}
use Rattle.views.specs.declared.NamingFault.{NamingFault}
use Rattle.views.specs.declared.NamingFault.TheVariants as NamingFault
use Rattle.views.specs.declared.Reference.{Reference}
use Rattle.views.specs.declared.Row.{Row}
use Rattle.views.specs.declared.Rows.{Rows}

-- ## Bits

unfoldable pub bit_at : ℕ → ℕ → Bool
bit_at i m = eqb ((m / 2 ^ i) % 2) 1

-- a word whose bits below n are told by p
unfoldable pub Marks : ℕ → ℕ → (ℕ → Bool) → Type 0
Marks m n p = (i : ℕ) → i < n → bit_at i m ≡ p i

unfoldable pub any_below : (ℕ → Bool) → ℕ → Bool
any_below p zero = false
any_below p (suc n) = p n || any_below p n

-- ## One pass over all tables

abbrev pub no_table : Table
no_table = table [] []

-- the table at the place i
abbrev pub table_at : List Table → ℕ → Table
table_at ts i = get_or ts i no_table

-- a name is that of the table at the place j; a pattern, the words of a text name it
unfoldable pub is_named : List Table → List ℕ → ℕ → Bool
is_named ts n j = holds (eqb j) (place_named ts n)

unfoldable pub word_names : List Table → List ℕ → ℕ → Bool
word_names ts w j = holds (λ n. is_named ts n j) (table_name w)

unfoldable pub words_name : List Table → List (List ℕ) → ℕ → Bool
words_name ts ws j = any (λ w. word_names ts w j) ws

abbrev pub text_names : List Table → List ℕ → ℕ → Bool
text_names ts t j = words_name ts (words t) j

-- a pattern that names no table matches h
abbrev pub is_own : Endpoint → List ℕ → Bool
is_own h w = not (first_among "/" w) && host_matches w h

abbrev pub own_match : Endpoint → List ℕ → Bool
own_match h t = any (is_own h) (words t)

-- how many words stand up to the first of which p holds, that one included: as 64 bits hold it
pub record WordCount (p : List ℕ → Bool) (ws : List (List ℕ)) (n : ℕ) : Type 0 where
  pub count : n ≡ sum_until p (λ w. 1) ws
  pub fits : n < 2 ^ 64

-- what the words of a text give as a row
pub record RowOf (ts : List Table) (client server : Endpoint) (ws : List (List ℕ)) (r : Row) : Type 0 where
  pub row_names : Marks r.names 64 (words_name ts ws)
  pub row_client : r.client ≡ any (is_own client) ws
  pub row_server : r.server ≡ any (is_own server) ws
  pub row_client_tried : WordCount (is_own client) ws r.client_tried
  pub row_server_tried : WordCount (is_own server) ws r.server_tried
  pub row_clean : CleanWords r.clean ts ws

-- what the words of a row and one more give
abbrev pub joined_row : Row → Row → Row
joined_row r s = record {
  names = bit_or r.names s.names;
  client = r.client || s.client;
  server = r.server || s.server;
  client_tried = r.client_tried + (when r.client then 0 else 1);
  server_tried = r.server_tried + (when r.server then 0 else 1);
  clean = r.clean && s.clean;
}

-- what the texts by themselves tell of a host, k its number: a bit for each that matches, and the count of each
pub record OwnOf (ts : List Table) (h : Endpoint) (k : ℕ) (notes : List ℕ) : Type 0 where
  pub own_bits : Marks (get_or notes k 0) (length ts) (λ i. own_match h (table_at ts i).text)
  pub own_tried : (i : ℕ) → i < length ts → WordCount (is_own h) (words (table_at ts i).text) (get_or notes (3 + 64 * k + i) 0)

unfoldable pub NamesOf : List Table → List ℕ → Type 0
NamesOf ts names = (i : ℕ) → i < length ts → Marks (get_or names i 0) 64 (text_names ts (table_at ts i).text)

pub record RowsOf (ts : List Table) (client server : Endpoint) (r : Rows) : Type 0 where
  pub rows_names : NamesOf ts r.names
  pub rows_client : OwnOf ts client 0 r.notes
  pub rows_server : OwnOf ts server 1 r.notes
  pub rows_clean : CleanTexts r.clean ts

-- a name is of a table of which p holds; a pattern, a text, names one
unfoldable pub name_leads : List Table → (ℕ → Bool) → List ℕ → Bool
name_leads ts p n = holds p (place_named ts n)

unfoldable pub word_leads : List Table → (ℕ → Bool) → List ℕ → Bool
word_leads ts p w = holds (name_leads ts p) (table_name w)

unfoldable pub text_leads : List Table → (ℕ → Bool) → List ℕ → Bool
text_leads ts p t = any (word_leads ts p) (words t)

-- a table leads more than d deep; a name that is missing leads nowhere
unfoldable pub past_at : List Table → ℕ → ℕ → Bool
past_at ts zero i = true
past_at ts (suc d) i = text_leads ts (past_at ts d) (table_at ts i).text

-- ## Notes of a place

-- the word k of the notes marks the table at the place i
abbrev pub marked_at : ℕ → List ℕ → ℕ → Bool
marked_at k notes i = ltb i 64 && bit_at i (get_or notes k 0)

-- how many patterns the notes say are tried in the table at the place i
abbrev pub counted_at : ℕ → List ℕ → ℕ → ℕ
counted_at k notes i = when ltb i 64 then get_or notes (3 + 64 * k + i) 0 else 0

abbrev pub placed_count : ℕ → List ℕ → Option ℕ → ℕ
placed_count k notes None = 0
placed_count k notes (Some i) = counted_at k notes i

-- ## Notes

-- the notes mark the table at the place i as too deep
unfoldable pub is_deep : List ℕ → ℕ → Bool
is_deep notes i = bit_at (i % 64) (get_or notes (2 + i / 64) 0)

-- q marks just the tables that name one that p marks
unfoldable pub Above : List Table → (ℕ → Bool) → (ℕ → Bool) → Type 0
Above ts p q = (i : ℕ) → i < length ts → q i ≡ text_leads ts p (table_at ts i).text

-- the notes mark just the tables that lead more than d deep
unfoldable pub Deep : List Table → ℕ → List ℕ → Type 0
Deep ts d notes = (i : ℕ) → i < length ts → is_deep notes i ≡ past_at ts d i

-- what the notes say of the table at the place i
abbrev pub naming_at : List ℕ → ℕ → Result ⊤ NamingFault
naming_at notes i = when is_deep notes i then Err NamingFault.Deep else Ok tt

abbrev pub placed_naming : List ℕ → Option ℕ → Result ⊤ NamingFault
placed_naming notes None = Err NamingFault.Missing
placed_naming notes (Some i) = naming_at notes i

unfoldable pub naming_of : List ℕ → List ℕ → List ℕ → Result ⊤ NamingFault
naming_of t notes n = when is_empty notes then Ok tt else placed_naming notes (noted_place t notes n)

-- what the notes say of a named table: whether it matches
unfoldable pub noted_match : ℕ → List ℕ → List ℕ → List ℕ → Bool
noted_match k t notes n = holds (marked_at k notes) (noted_place t notes n)

-- how many patterns the notes say are tried in a named table; k: 0 for the client, 1 for the server; 0 where there is no such table, or its place is 64 or more
unfoldable pub noted_tried : ℕ → List ℕ → List ℕ → List ℕ → ℕ
noted_tried k t notes n = placed_count k notes (noted_place t notes n)

unfoldable pub reference_of : ℕ → List ℕ → List ℕ → List ℕ → Reference
reference_of k t notes n = record { naming = naming_of t notes n; matches = noted_match k t notes n; tried = noted_tried k t notes n }
