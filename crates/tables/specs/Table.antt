-- Document 02, request 1: pattern tables.
--   read_tables t        == the tables that t, a section five, begins with, and what follows the last; none where t is cut short
--   tables_of t          == the tables of t, none at all where it is cut short
--   table_name e         == the name in `/name`, none where e is of another form
--   table_patterns ts n  == the patterns of the table named n, none where it is missing
--   pattern_with m e     == the host pattern that e writes, where m says what a named table matches
--   in_table ts d n h    == a pattern of the table named n matches h, where tables may be entered d deep
--   leads_past ts d n    == the table named n leads more than d deep
--   tables_frame t, table_name_fault ts, bad_table_fault t == the refusals of a section five by 1 and 3, by 15, by 17
-- Assumes nothing: these are definitions.
use Rattle.std.specs.Prelude.{ℕ, zero, suc, ◌+◌, Bool, true, false, not, ◌&&◌, ◌||◌, List, [], ◌∷◌, length, take, drop, leb, ltb, None, Option, Some}
use Rattle.text.specs.Basics.{when◌then◌else◌, ◌>>=◌, ◌or_else◌, given, holds, is_some, is_empty, any, all, first}
use Rattle.text.specs.Text.{first_among, split, in_range, equal_fold}
use Rattle.text.specs.Number.{from_digits}
use Rattle.section.specs.declared.Fault.TheVariants as F
use Rattle.section.specs.declared.Refusal.{Refusal}
use Rattle.section.specs.Refusal.{refusal, placeless}
use Rattle.section.specs.Section as S
use Rattle.lines.specs.Rule.{non_empty, is_except}
use Rattle.patterns.specs.Host.{Endpoint}
use Rattle.patterns.specs.Pattern.{Pattern, is_name_byte, host_pattern}

-- ## Reading

pub record Table : Type 0 where
  pub name : List ℕ
  pub text : List ℕ

abbrev pub table : List ℕ → List ℕ → Table
table n t = record { name = n; text = t }

-- the bytes that follow their count of w bytes, and what follows them
unfoldable pub after_count : ℕ → List ℕ → Option (List ℕ × List ℕ)
after_count w t = let n : ℕ = from_digits 256 0 (take w t) in given (leb (w + n) (length t)) (take n (drop w t), drop (w + n) t)

-- "for each its name after a one-byte count .. and its text after a four-byte count"
unfoldable pub read_table : List ℕ → Option (Table × List ℕ)
read_table t = do
  n ← after_count 1 t
  x ← after_count 4 n.1
  Some (table n.0 x.0, x.1)

unfoldable pub read_each : ℕ → List ℕ → Option (List Table × List ℕ)
read_each zero t = Some ([], t)
read_each (suc k) t = do
  x ← read_table t
  r ← read_each k x.1
  Some (x.0 ∷ r.0, r.1)

-- "a two-byte count of tables, most significant first"
unfoldable pub read_tables : List ℕ → Option (List Table × List ℕ)
read_tables t = when ltb (length t) 2 then None else read_each (from_digits 256 0 (take 2 t)) (drop 2 t)

abbrev pub tables_read : Option (List Table × List ℕ) → List Table
tables_read None = []
tables_read (Some p) = p.0

abbrev pub tables_of : List ℕ → List Table
tables_of t = tables_read (read_tables t)

-- ## Names

-- "1 to 64 bytes, of those that pattern names may use"
unfoldable pub is_table_name : List ℕ → Bool
is_table_name n = all is_name_byte n && in_range 1 64 (length n)

unfoldable pub table_name : List ℕ → Option (List ℕ)
table_name e = when first_among "/" e then given (is_table_name (drop 1 e)) (drop 1 e) else None

-- "All comparison ignores ASCII case"
unfoldable pub table_named : List Table → List ℕ → Option Table
table_named ts n = first (λ t. given (equal_fold n t.name) t) ts

abbrev pub is_missing : List Table → List ℕ → Bool
is_missing ts n = not (is_some (table_named ts n))

-- "A table holds host patterns, or none, parted by spaces, tabs and newlines"
unfoldable pub patterns : Table → List (List ℕ)
patterns t = non_empty (split " \t\n" t.text)

abbrev pub patterns_of : Option Table → List (List ℕ)
patterns_of None = []
patterns_of (Some t) = patterns t

abbrev pub table_patterns : List Table → List ℕ → List (List ℕ)
table_patterns ts n = patterns_of (table_named ts n)

-- ## Matching

-- what the table of a name matches
abbrev pub Matcher : Type 0
Matcher = List ℕ → Endpoint → Bool

-- "Let `/name`, tried first of the kinds, work": the pattern that e writes
unfoldable pub pattern_with : Matcher → List ℕ → Pattern
pattern_with m e = when first_among "/" e then (table_name e >>= λ n. Some (m n)) else host_pattern e

-- "a host matches if any pattern in that table matches"; "tables may name tables"
unfoldable pub in_table : List Table → ℕ → Matcher
in_table ts zero n h = false
in_table ts (suc d) n h = any (λ w. holds (λ f. f h) (pattern_with (in_table ts d) w)) (table_patterns ts n)

-- "four deep at most, counted from the rule"
abbrev pub depth : ℕ
depth = 4

-- what a table that a rule names matches
abbrev pub match_of : List Table → Matcher
match_of ts = in_table ts depth

-- ## Refusals

-- 16: "leads more than four deep"
unfoldable pub leads_past : List Table → ℕ → List ℕ → Bool
leads_past ts zero n = true
leads_past ts (suc d) n = any (λ w. holds (leads_past ts d) (table_name w)) (table_patterns ts n)

-- "a cut in section five is 1, before 3"; "bytes after its last table are 3"
abbrev pub framed : Option (List Table × List ℕ) → Option Refusal
framed None = Some (refusal F.CutShort (S.tables).order 0)
framed (Some p) = given (not (is_empty p.1)) (placeless F.TrailingBytes)

unfoldable pub tables_frame : List ℕ → Option Refusal
tables_frame t = framed (read_tables t)

-- the number of the first table of which p holds with those before it; n is the first one's
unfoldable pub first_table : (List Table → Table → Bool) → ℕ → List Table → List Table → Option ℕ
first_table p n before [] = None
first_table p n before (t ∷ ts) = given (p before t) n or_else first_table p (n + 1) (t ∷ before) ts

-- 15: "a table name missing or given twice (the later's place ..)", "section 5 and the table's number from 1"
unfoldable pub is_misnamed : List Table → List Table → Table → Bool
is_misnamed ts before t = not (is_missing before t.name) || any (λ w. holds (is_missing ts) (table_name w)) (patterns t)

unfoldable pub table_name_fault : List Table → Option Refusal
table_name_fault ts = first_table (is_misnamed ts) 1 [] ts >>= λ n. Some (refusal F.TableName (S.tables).order n)

-- "no EXCEPT, no users": what a pattern of a table may not be
unfoldable pub is_bad_pattern : List ℕ → Bool
is_bad_pattern w = is_except w || not (is_some (pattern_with (λ n h. false) w))

unfoldable pub is_unsound : Table → Bool
is_unsound t = not (is_table_name t.name) || any is_bad_pattern (patterns t)

-- 17: "another fault in section five, its limits included"; "(0 for the limits of 64 tables and of the whole section)"
unfoldable pub bad_table_fault : List ℕ → Option Refusal
bad_table_fault t =
    (given (ltb 64 (length (tables_of t)) || ltb (S.tables).limit (length t)) 0
    or_else first_table (λ before x. is_unsound x) 1 [] (tables_of t))
    >>= λ n. Some (refusal F.BadTable (S.tables).order n)
