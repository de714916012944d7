-- Bytes that are passed by blocks, many compared at once. Nothing here needs to be believed for the meaning of document 01: only inner
-- contracts cite these definitions.
--   printable b     == b is passed by the scan of a line without a look at what stands before it
--   unmarked b      == b is passed by the search for a separator: it is none, and opens no bracket
--   front_all p n t  == n bytes stand at the front of t, and p holds of each
--   PassedTo p t start i == p holds of all bytes of t from start up to i
-- Assumes nothing: these are definitions.
use Rattle.std.specs.Prelude.{ℕ, zero, suc, ◌-◌, ◌≤◌, Bool, true, false, not, ◌&&◌, List, [], ◌∷◌, ◌≡◌, eqb, length, drop}
use Rattle.text.specs.Text.{in_range}

abbrev pub printable : ℕ → Bool
printable b = in_range 32 126 b

abbrev pub unmarked : ℕ → Bool
unmarked b = not (eqb b 58) && not (eqb b 91)

unfoldable pub front_all : (ℕ → Bool) → ℕ → List ℕ → Bool
front_all p zero t = true
front_all p (suc n) [] = false
front_all p (suc n) (x ∷ t) = p x && front_all p n t

pub record PassedTo (p : ℕ → Bool) (t : List ℕ) (start i : ℕ) : Type 0 where
  pub from : start ≤ i
  pub within : i ≤ length t
  pub front : front_all p (i - start) (drop start t) ≡ true
