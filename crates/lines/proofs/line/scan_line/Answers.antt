use borrow.Author.Rules.{rules}
use Rattle.text.proofs.Search.{outright}
use Rattle.lines.proofs.LineLaws.{scanning_after, scanning_plain, scanning_pair, scanning_stop, scanning_other, scanning_end, scan_line_bounds}
use Rattle.lines.proofs.line.scan_line.Goals as goal
use Rattle.lines.proofs.line.scan_line.Goals.{then-b-eq10+then-follows_slash, else-b-eq10}

pub loop-i-init : goal.loop-i-init
loop-i-init c = outright (search (scanning_after, rules))

pub loop-i-preserved-then-b : goal.loop-i-preserved-then-b
loop-i-preserved-then-b c = outright (search (scanning_plain, rules))

pub returns-else-follows_slash : goal.returns-else-follows_slash
returns-else-follows_slash c = outright (search (scanning_stop, scan_line_bounds, rules))

pub loop-i-preserved : goal.loop-i-preserved
loop-i-preserved c =
    elim c.if-b-eq10.branch [
      | then-b-eq10+then-follows_slash w ↦
          rw (w.joins-is, w.clean-is)
          (scanning_pair c.loop-i.invariant c.loop-i-test.true w.if-b-eq10.true w.follows_slash.result w.follows_slash.ensures w.if-follows_slash.true)
      | else-b-eq10 w ↦ rw (w.joins-is, w.clean-is) (scanning_other c.loop-i.invariant c.loop-i-test.true c.if-b.false w.if-b-eq10.false)
    ]

pub returns : goal.returns
returns c = outright (search (scanning_end, scan_line_bounds, rules))
