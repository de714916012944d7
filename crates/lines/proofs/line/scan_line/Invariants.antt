-- `lines::line::scan_line` meets its contract. The loop's invariant, Scanning: the line from start is what was passed, with the pairs
-- and the bytes found in it, before the scan of what is left. Assumes nothing.
use Rattle.lines.proofs.LineLaws.{Scanning}
use Rattle.lines.proofs.line.scan_line.Given as goal

abbrev pub invariant-loop-i : goal.invariant-loop-i
invariant-loop-i l = Scanning l.text l.start l.i l.joins l.clean
