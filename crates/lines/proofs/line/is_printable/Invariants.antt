-- `lines::line::is_printable` meets its contract. The loop's invariant, Passing: what was passed and what is left say it together.
-- Assumes nothing.
use Rattle.lines.specs.Block.{printable}
use Rattle.lines.proofs.BlockLaws.{Passing}
use Rattle.lines.proofs.line.is_printable.Given as goal

abbrev pub invariant-loop-b : goal.invariant-loop-b
invariant-loop-b l = Passing printable l.s l.b-index l.all
