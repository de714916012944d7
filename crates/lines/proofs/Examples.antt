-- Examples, computed from the definitions: a definition that answers otherwise is refused here.
-- Assumes nothing.
use mathlib.Core.Bool.{true, false}
use mathlib.Core.List.{[], ◌∷◌}
use mathlib.Core.Path.{◌≡◌, refl}
use Rattle.text.specs.Basics.{any}
use Rattle.text.specs.Text.{bytes, split}
use Rattle.lines.specs.Line.{line, lines, logical_lines}

pub record Examples : Type 0 where
  -- "Any bytes after the last ending newline, dropped ones too, make a last line without one"
  pub dropped_last : lines (bytes "#\n\\\n") ≡ (line 1 0 (bytes "#") true ∷ line 2 2 (bytes "\\\n") false ∷ [])
  -- "its number is that of its first physical line, from 1"
  pub first_number_lem : lines (bytes "a\\\nb\nc\n") ≡ (line 1 0 (bytes "a\\\nb") true ∷ line 3 5 (bytes "c") true ∷ [])

pub examples : Examples
unfolding lines logical_lines split any
examples = record {
  dropped_last = refl;
  first_number_lem = refl;
}
