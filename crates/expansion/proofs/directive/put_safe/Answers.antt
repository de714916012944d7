use borrow.Author.Rules.{rules}
use Rattle.text.proofs.PasteLaws.{pasted_start}
use Rattle.text.proofs.Search.{outright}
use Rattle.expansion.proofs.TextLaws.{safe_step, safe_room, safe_all}
use Rattle.expansion.proofs.directive.put_safe.Goals as goal

pub loop-j-init : goal.loop-j-init
loop-j-init c = outright (search (pasted_start, rules))

pub bounds-out-at : goal.bounds-out-at
bounds-out-at c = outright (search (safe_room, rules))

pub loop-j-preserved : goal.loop-j-preserved
loop-j-preserved c = outright (search (safe_step, rules))

pub returns : goal.returns
returns c = let both = safe_all _ c.args.s.now _ _ _ c.loop-j.invariant c.loop-j-test.false in record { next = both.0; written = both.1 }
