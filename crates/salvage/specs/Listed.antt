-- For claims alone: what a list of changes names.
--   lists cs s n == the changes cs name the line n of the section s
-- Assumes nothing: these are definitions.
use Rattle.std.specs.Prelude.{ℕ, Bool, ◌&&◌, List, eqb}
use Rattle.text.specs.Basics.{any}

unfoldable pub lists : List (ℕ × ℕ) → ℕ → ℕ → Bool
lists cs s n = any (λ c. eqb c.0 s && eqb c.1 n) cs
