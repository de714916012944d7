-- The groups of an IPv6 address as the code writes them, and the longest run of zeros among them as it finds it. Nothing here needs to be
-- believed for the meaning of document 01: the public promises are stated over Address alone, and only inner contracts cite these definitions.
--   colon_groups gs  == the hex groups gs, a colon before each
--   leading_zeros gs == how many groups at the front of gs are 0
--   longest_run gs   == the first of the longest runs of zeros in gs
-- Assumes nothing: these are definitions.
use Rattle.std.specs.Prelude.{ℕ, suc, ◌+◌, List, [], ◌∷◌, ◌++◌, leb, eqb}
use Rattle.text.specs.Basics.{when◌then◌else◌}
use Rattle.text.specs.Text.{bytes}
use Rattle.text.specs.Number.{numeral}
use Rattle.address_format.specs.declared.Run.{Run}

unfoldable pub colon_groups : List ℕ → List ℕ
colon_groups [] = []
colon_groups (g ∷ gs) = bytes ":" ++ numeral 16 4 g ++ colon_groups gs

abbrev pub run_at : ℕ → ℕ → Run
run_at p n = record { place = p; len = n }

-- the zeros from a group on, where there are n after it
abbrev pub longer_zeros : ℕ → ℕ → ℕ
longer_zeros n g = when eqb g 0 then n + 1 else 0

unfoldable pub leading_zeros : List ℕ → ℕ
leading_zeros [] = 0
leading_zeros (g ∷ gs) = longer_zeros (leading_zeros gs) g

-- the longer of a run and an earlier one, the earlier of equals
abbrev pub longer_run : Run → ℕ → ℕ → Run
longer_run r place len = when leb r.len len then run_at place len else r

-- the first of the longest runs in gs, where gs stands from the place p on
unfoldable pub longest_from : ℕ → List ℕ → Run
longest_from p [] = run_at p 0
longest_from p (g ∷ gs) = longer_run (longest_from (suc p) gs) p (leading_zeros (g ∷ gs))

abbrev pub longest_run : List ℕ → Run
longest_run gs = longest_from 0 gs
