-- Document 02, request 12: what is tried in a table.
--   looked_with c o   == what an element or pattern counts that names the table o, where c says what is tried in a table
--   tried_in ts d n h == how many patterns are tried when h is matched against the table named n, by the recursion of in_table
--   capped n         == n as 64 bits say it: a larger number stops at the largest
-- Assumes nothing: these are definitions.
use Rattle.std.specs.Prelude.{ℕ, zero, suc, ◌+◌, ◌-◌, ◌^◌, List, ltb, None, Option, Some}
use Rattle.text.specs.Basics.{when◌then◌else◌, holds, sum_until}
use Rattle.patterns.specs.Host.{Endpoint}
use Rattle.tables.specs.Table.{Table, table_name, table_patterns, pattern_with, in_table, depth}

-- "counts as well as the element that named it"
abbrev pub looked_with : (List ℕ → ℕ) → Option (List ℕ) → ℕ
looked_with c None = 1
looked_with c (Some n) = 1 + c n

-- "each pattern tried in a table, in order until one matches"
unfoldable pub tried_in : List Table → ℕ → List ℕ → Endpoint → ℕ
tried_in ts zero n h = 0
tried_in ts (suc d) n h =
    sum_until (λ w. holds (λ f. f h) (pattern_with (in_table ts d) w)) (λ w. looked_with (λ m. tried_in ts d m h) (table_name w)) (table_patterns ts n)

-- what is tried in a table that a rule names
abbrev pub tried_of : List Table → List ℕ → Endpoint → ℕ
tried_of ts n h = tried_in ts depth n h

unfoldable pub capped : ℕ → ℕ
capped n = when ltb n (2 ^ 64) then n else 2 ^ 64 - 1
