-- Tables as the code reads them: what inner contracts cite. Nothing here needs to be believed for the meaning of document 02, request 1: its
-- words are those of Table, and laws tie these to them.
--   tables_in t           == the tables of t, as far as its bytes go
--   place_named ts n      == the place among ts of the first table named n
-- Assumes nothing: these are definitions.
use Rattle.std.specs.Prelude.{ℕ, zero, suc, ◌+◌, ◌-◌, ◌*◌, ◌%◌, ◌≤◌, ◌<◌, Bool, true, false, not, ◌&&◌, ◌||◌, List, [], ◌∷◌, ◌≡◌, length, take, drop, get_or, eqb, ltb, None, Option, Some, unwrap_or, Err, Ok, Result, ⊤}
use Rattle.text.specs.Basics.{when◌then◌else◌, ◌>>=◌, holds, is_some, is_empty, any}
use Rattle.text.specs.Text.{among, split, equal_fold}
use Rattle.text.specs.Number.{from_digits}
use Rattle.text.specs.Scan.{span_len}
use Rattle.lines.specs.Rule.{non_empty, is_except}
use Rattle.patterns.specs.Pattern.{host_pattern}
use Rattle.tables.specs.declared.entry.EntrySpan.{EntrySpan}
use Rattle.tables.specs.declared.entry.FrameFault.{FrameFault}
use Rattle.tables.specs.declared.entry.FrameFault.TheVariants as FrameFault
use Rattle.tables.specs.declared.word.WordSpan.{WordSpan}
use Rattle.tables.specs.declared.check.TextCheck.{TextCheck}
use Rattle.tables.specs.declared.check.TablesCheck.{TablesCheck}
use Rattle.tables.specs.Table.{Table, table, read_table, table_name, is_missing, first_table, is_misnamed, is_bad_pattern, is_unsound}

-- ## Entries

abbrev pub followed : (List ℕ → List Table) → Option (Table × List ℕ) → List Table
followed f None = []
followed f (Some p) = p.0 ∷ f p.1

unfoldable pub entries : ℕ → List ℕ → List Table
entries zero t = []
entries (suc k) t = followed (entries k) (read_table t)

-- the count of tables, 0 where its two bytes are not there
unfoldable pub table_count : List ℕ → ℕ
table_count t = when ltb (length t) 2 then 0 else from_digits 256 0 (take 2 t)

unfoldable pub tables_in : List ℕ → List Table
tables_in t = entries (table_count t) (drop 2 t)

-- where the name and the text of the entry at the front of t end; cut: it is not whole
abbrev pub cut_entry : EntrySpan
cut_entry = record { cut = true; name_end = 0; end = 0 }

abbrev pub span_of : Option (Table × List ℕ) → EntrySpan
span_of None = cut_entry
span_of (Some p) = let n : ℕ = 1 + length p.0.name in record { cut = false; name_end = n; end = n + 4 + length p.0.text }

unfoldable pub entry_span : List ℕ → EntrySpan
entry_span t = span_of (read_table t)

abbrev pub entry_or : Option (Table × List ℕ) → Table × List ℕ
entry_or o = unwrap_or o (table [] [], [])

unfoldable pub entry_table : List ℕ → Table
entry_table t = (entry_or (read_table t)).0

unfoldable pub after_entry : List ℕ → List ℕ
after_entry t = (entry_or (read_table t)).1

abbrev pub frame_of : Option (List Table × List ℕ) → Result ⊤ FrameFault
frame_of None = Err FrameFault.Cut
frame_of (Some p) = when is_empty p.1 then Ok tt else Err FrameFault.Trailing

-- the place of the first table so named
unfoldable pub place_named : List Table → List ℕ → Option ℕ
place_named [] n = None
place_named (t ∷ ts) n = when equal_fold n t.name then Some 0 else (place_named ts n >>= λ i. Some (suc i))

-- how many places further, a place found
abbrev pub shifted : ℕ → Option ℕ → Option ℕ
shifted i o = o >>= λ k. Some (i + k)

-- rest holds the tables of t from the place i on, and none before is named n
pub record SoughtFrom (t n rest : List ℕ) (i : ℕ) : Type 0 where
  pub sought_upto : i ≤ table_count t
  pub sought_passed : i ≤ length (tables_in t)
  pub sought_left : drop i (tables_in t) ≡ entries (table_count t - i) rest
  pub sought_place : place_named (tables_in t) n ≡ shifted i (place_named (drop i (tables_in t)) n)

-- ## Starts

-- a number of a name below 256, the same whatever its case
unfoldable pub key_from : ℕ → List ℕ → ℕ
key_from h [] = h
key_from h (b ∷ s) = key_from ((h * 27 + b % 32) % 256) s

unfoldable pub key_of : List ℕ → ℕ
key_of n = key_from 0 n

-- the last `left` tables of those counted in t stand at the byte b, and of the first i none before them has a name of the number k
pub record StartOf (t : List ℕ) (i k left b : ℕ) : Type 0 where
  pub start_upto : left ≤ table_count t
  pub start_passed : 0 < left → table_count t - left ≤ length (tables_in t)
  pub start_within : b ≤ length t
  pub start_left : drop (table_count t - left) (tables_in t) ≡ entries left (drop b t)
  pub start_first : (j : ℕ) → j < table_count t - left → j < i → key_of (get_or (tables_in t) j (table [] [])).name ≡ k → ⊥

-- s tells of each number how many tables are left from the first on whose name has it, and behind that at which byte they stand
unfoldable pub Starts : List ℕ → List ℕ → Type 0
Starts t s = (k : ℕ) → k < 256 → StartOf t (length (tables_in t)) k (get_or s k 0) (get_or s (256 + k) 0)

-- ## Words

unfoldable pub is_parting : ℕ → Bool
is_parting x = among " \t\n" x

unfoldable pub is_word_byte : ℕ → Bool
is_word_byte x = not (is_parting x)

unfoldable pub words : List ℕ → List (List ℕ)
words t = non_empty (split " \t\n" t)

unfoldable pub word_span : List ℕ → WordSpan
word_span t = let a : ℕ = span_len is_parting t in record { start = a; end = a + span_len is_word_byte (drop a t) }

-- the first word, empty where there is none, and what follows it
unfoldable pub first_word : List ℕ → List ℕ
first_word t = let u : List ℕ = drop (span_len is_parting t) t in take (span_len is_word_byte u) u

unfoldable pub after_word : List ℕ → List ℕ
after_word t = let u : List ℕ = drop (span_len is_parting t) t in drop (span_len is_word_byte u) u

-- ## Checks

abbrev pub text_checked : Bool → Bool → TextCheck
text_checked m b = record { missing = m; bad = b }

abbrev pub word_missing : List Table → List ℕ → Bool
word_missing ts w = holds (is_missing ts) (table_name w)

-- what is found of the words of a text
unfoldable pub words_checked : List Table → List (List ℕ) → TextCheck
words_checked ts ws = text_checked (any (word_missing ts) ws) (any is_bad_pattern ws)

-- where b holds, nothing is found of these words; of the words of any text
unfoldable pub CleanWords : Bool → List Table → List (List ℕ) → Type 0
CleanWords b ts ws = b ≡ true → words_checked ts ws ≡ text_checked false false

unfoldable pub CleanTexts : Bool → List Table → Type 0
CleanTexts b ts = (i : ℕ) → i < length ts → CleanWords b ts (words (get_or ts i (table [] [])).text)

-- of a word that does not begin with a slash
abbrev pub plain_bad : List ℕ → Bool
plain_bad w = is_except w || not (is_some (host_pattern w))

abbrev pub named_before : List Table → List ℕ → ℕ → Bool
named_before ts n i = holds (λ k. ltb k i) (place_named ts n)

abbrev pub first_number : ℕ → Bool → ℕ → ℕ
first_number before b n = when eqb before 0 && b then n else before

-- a number of a table, 0 for none
abbrev pub number_or : Option ℕ → ℕ
number_or o = unwrap_or o 0

unfoldable pub tables_checked : List Table → TablesCheck
tables_checked ts = record {
  misnamed = number_or (first_table (is_misnamed ts) 1 [] ts);
  unsound = number_or (first_table (λ before x. is_unsound x) 1 [] ts);
}
