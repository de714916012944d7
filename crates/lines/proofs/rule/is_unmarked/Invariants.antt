-- `lines::rule::is_unmarked` meets its contract. The loop's invariant, Passing: what was passed and what is left say it together.
-- Assumes nothing.
use Rattle.lines.specs.Block.{unmarked}
use Rattle.lines.proofs.BlockLaws.{Passing}
use Rattle.lines.proofs.rule.is_unmarked.Given as goal

abbrev pub invariant-loop-b : goal.invariant-loop-b
invariant-loop-b l = Passing unmarked l.s l.b-index l.all
