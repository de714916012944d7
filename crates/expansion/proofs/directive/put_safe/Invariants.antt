-- `directive::put_safe` meets its contract. The loop's invariant is Pasted: the first j bytes of s are written, the unsafe ones as underscores.
-- Assumes nothing.
use mathlib.Core.List.{map}
use Rattle.text.proofs.PasteLaws.{Pasted}
use Rattle.expansion.specs.Expand.{safe_byte}
use Rattle.expansion.proofs.directive.put_safe.Given as goal

abbrev pub invariant-loop-j : goal.invariant-loop-j
invariant-loop-j l = Pasted l.initial.out (map safe_byte l.s) l.out l.at l.j
