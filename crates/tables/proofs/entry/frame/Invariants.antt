-- `entry::frame` meets its contract. The invariant: what the tables left tell is what all of them do.
-- The measure is their number. Assumes nothing.
use mathlib.Core.Path.{◌≡◌}
use Rattle.tables.specs.Table.{read_each, read_tables}
use Rattle.tables.specs.Code.{frame_of}
use Rattle.tables.proofs.entry.frame.Given as goal

abbrev pub invariant-loop-left : goal.invariant-loop-left
invariant-loop-left l = frame_of (read_tables l.tables) ≡ frame_of (read_each l.left l.rest)

abbrev pub decreases-loop-left : goal.decreases-loop-left
decreases-loop-left l = l.left
