-- What the contracts of inner functions cite. Nothing here needs to be believed for the meaning of the papers.
--   in_both tcp udp p == the port p is noted in both sets
--   lines_if f p      == the lines of the port p, where f holds of it
--   address_line net p == one line, of the net and its comma
-- Assumes nothing: these are definitions.
use Rattle.std.specs.Prelude.{ℕ, Bool, ◌&&◌, List, [], ◌++◌, get_or, eqb}
use Rattle.text.specs.Basics.{when◌then◌else◌}
use Rattle.text.specs.Text.{bytes}
use Rattle.text.specs.Number.{decimal}
use Rattle.carry.specs.Carry.{port_lines}

unfoldable pub in_both : List ℕ → List ℕ → ℕ → Bool
in_both tcp udp p = eqb (get_or tcp p 0) 1 && eqb (get_or udp p 0) 1

unfoldable pub lines_if : (ℕ → Bool) → ℕ → List ℕ
lines_if f p = when f p then port_lines p else []

unfoldable pub address_line : List ℕ → ℕ → List ℕ
address_line net p = net ++ decimal p ++ bytes "\n"
