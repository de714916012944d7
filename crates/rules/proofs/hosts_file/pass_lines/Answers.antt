use Rattle.std.specs.Prelude.{None, Ok, Some}
use mathlib.Core.Path.{◌≡◌, ◌∙◌, ap}
use borrow.Author.Rules.{rules}
use Rattle.text.proofs.Search.{outright}
use Rattle.rules.proofs.FileLaws.{passing_start, passing_more, passing_found, passing_end, pass_stop, step_less}
use Rattle.rules.proofs.hosts_file.pass_lines.Goals as goal

pub loop-i-init : goal.loop-i-init
loop-i-init c = outright (search (passing_start, rules))

pub returns-in-Err : goal.returns-in-Err
returns-in-Err c = outright (search (pass_stop, rules))

pub loop-i-smaller-in-None : goal.loop-i-smaller-in-None
loop-i-smaller-in-None c = outright (search (step_less, rules))

pub loop-i-preserved-in-None : goal.loop-i-preserved-in-None
loop-i-preserved-in-None c = let e : c.step_over-step.result.tally.pass ≡ Ok None = c.in-Ok.is ∙ ap Ok c.in-None.is in
    outright (search (passing_more, rules))

pub loop-i-smaller : goal.loop-i-smaller
loop-i-smaller c = outright (search (step_less, rules))

pub loop-i-preserved : goal.loop-i-preserved
loop-i-preserved c = let e : c.step_over-step.result.tally.pass ≡ Ok (Some c.in-Some.a) = c.in-Ok.is ∙ ap Ok c.in-Some.is in
    outright (search (passing_found, rules))

pub returns : goal.returns
returns c = outright (search (passing_end, rules))
