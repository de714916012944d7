-- `command::unblanked_length` meets its contract. The loop's invariant is `Trimmed`: the bytes from k on are blank. Assumes nothing.
use Rattle.lines.proofs.CommandLaws.{Trimmed}
use Rattle.lines.proofs.command.unblanked_length.Given as goal

abbrev pub invariant-loop-k : goal.invariant-loop-k
invariant-loop-k l = Trimmed l.s l.k
