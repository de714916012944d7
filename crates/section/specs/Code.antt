-- What the contracts of the section types, and of checks one after the other, cite. Nothing here needs to be believed for the meaning of
-- document 01.
--   cursor_at s at   == where the count of the section s stands, with that section's limit and order
--   first_holding cs == the first fault of cs whose test holds: the lowest, where the numbers rise (RefusalLaws)
-- Assumes nothing: these are definitions.
use Rattle.std.specs.Prelude.{ℕ, Bool, List, [], ◌∷◌, None, Option, Some}
use Rattle.text.specs.Basics.{when◌then◌else◌}
use Rattle.section.specs.declared.Cursor.{Cursor}
use Rattle.section.specs.declared.Fault.{Fault}
use Rattle.section.specs.Section.{Section}

abbrev pub cursor_at : Section → ℕ → Cursor
cursor_at s at = record { at = at; limit = s.limit; order = s.order }

unfoldable pub first_holding : List (Fault × Bool) → Option Fault
first_holding [] = None
first_holding (c ∷ cs) = when c.1 then Some c.0 else first_holding cs
