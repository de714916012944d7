-- Where a name stands among at most 64 tables, as notes tell it: what inner contracts cite. Laws tie it to place_named.
--   hash_of n              == a number of a name, the same whatever its case
--   is_named_at t n b       == the table that stands at the byte b of t has the name n
--   noted_place t notes n  == the place of the first table of that name, by the notes where they tell names
-- In notes of 259 words each table has, from the word 131 on, the number of its name, and from the word 195 on the byte that it stands at.
-- Assumes nothing: these are definitions.
use Rattle.std.specs.Prelude.{ℕ, zero, suc, ◌+◌, ◌*◌, ◌%◌, ◌≤◌, ◌<◌, Bool, true, false, ◌&&◌, ◌||◌, List, [], ◌∷◌, ◌≡◌, length, take, drop, get_or, eqb, leb, None, Option, Some}
use Rattle.text.specs.Basics.{when◌then◌else◌}
use Rattle.text.specs.Text.{lower, equal_fold}
use Rattle.tables.specs.Table.{Table, table}
use Rattle.tables.specs.Code.{tables_in, place_named}

-- a number of a name below 2 ^ 56, the same whatever its case
unfoldable pub hash_from : ℕ → List ℕ → ℕ
hash_from h [] = h
hash_from h (b ∷ s) = hash_from ((h * 131 + lower b) % 72057594037927936) s

unfoldable pub hash_of : List ℕ → ℕ
hash_of n = hash_from 0 n

-- the table that stands at the byte b of t has the name n; at 0 there is none
unfoldable pub is_named_at : List ℕ → List ℕ → ℕ → Bool
is_named_at t n b =
    when eqb b 0 || leb (length t) b then false else
    when eqb (get_or t b 0) (length n) then equal_fold n (take (length n) (drop (b + 1) t)) else false

-- the name of the table at the place i is n, as the notes tell
abbrev pub is_hit : List ℕ → List ℕ → List ℕ → ℕ → Bool
is_hit t notes n i = eqb (get_or notes (131 + i) 0) (hash_of n) && is_named_at t n (get_or notes (195 + i) 0)

-- the first such place of k from i on
unfoldable pub hashed_from : List ℕ → List ℕ → List ℕ → ℕ → ℕ → Option ℕ
hashed_from t notes n zero i = None
hashed_from t notes n (suc k) i = when is_hit t notes n i then Some i else hashed_from t notes n k (suc i)

unfoldable pub noted_place : List ℕ → List ℕ → List ℕ → Option ℕ
noted_place t notes n = when eqb (length notes) 259 then hashed_from t notes n 64 0 else place_named (tables_in t) n

-- one of four places from i on has the number h
abbrev pub near_by : List ℕ → ℕ → ℕ → Bool
near_by notes h i =
    eqb (get_or notes (131 + i) 0) h || (eqb (get_or notes (132 + i) 0) h || (eqb (get_or notes (133 + i) 0) h || eqb (get_or notes (134 + i) 0) h))

-- no place from start on, up to i, has the number h
pub record Skipped (notes : List ℕ) (h start i : ℕ) : Type 0 where
  pub skipped_from : start ≤ i
  pub skipped_upto : i ≤ 64
  pub skipped_over : (j : ℕ) → start ≤ j → j < i → get_or notes (131 + j) 0 ≡ h → ⊥

-- h and b tell the name of the table at the place i
pub record NameAt (t : List ℕ) (i h b : ℕ) : Type 0 where
  pub name_hash : h ≡ hash_of (get_or (tables_in t) i (table [] [])).name
  pub name_byte : (n : List ℕ) → is_named_at t n b ≡ equal_fold n (get_or (tables_in t) i (table [] [])).name

-- the notes tell the names of all tables, which are at most 64
pub record NamesNoted (t notes : List ℕ) : Type 0 where
  pub names_long : length notes ≡ 259
  pub names_few : length (tables_in t) ≤ 64
  pub names_told : (i : ℕ) → i < length (tables_in t) → NameAt t i (get_or notes (131 + i) 0) (get_or notes (195 + i) 0)
  pub names_past : (i : ℕ) → length (tables_in t) ≤ i → i < 64 → get_or notes (195 + i) 0 ≡ 0

-- the first 131 words of the notes are now those told
pub record Told (notes told notes' : List ℕ) : Type 0 where
  pub told_long : length notes' ≡ length notes
  pub told_front : (i : ℕ) → i < 131 → get_or notes' i 0 ≡ get_or told i 0
  pub told_behind : (i : ℕ) → 131 ≤ i → get_or notes' i 0 ≡ get_or notes i 0
