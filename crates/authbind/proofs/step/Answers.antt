-- `authbind::step` meets its contract, by where the answers lead. Assumes nothing.
use borrow.Author.Rules.{rules}
use Rattle.authbind.proofs.StepLaws.{step_test, step_read, step_granted, step_denied, step_late}
use Rattle.authbind.proofs.step.Goals as goal

pub returns-in-Test : goal.returns-in-Test
returns-in-Test c = let both = step_test _ _ _ _ c.args.out.now c.in-Test.test
    (search rules) _ c.file_of.ensures _ _ (c.write_name.ensures.answer, c.write_name.ensures.holds) _ c.as_test.ensures in
    record { answer = both.0; holds = both.1 }

pub returns-in-Byuid : goal.returns-in-Byuid
returns-in-Byuid c = let both = step_read _ _ _ _ c.args.out.now (search rules) _ _
    (c.write_name-in-Byuid.ensures.answer, c.write_name-in-Byuid.ensures.holds) _ c.as_read.ensures in record { answer = both.0; holds = both.1 }

pub returns-in-Allowed : goal.returns-in-Allowed
returns-in-Allowed c = let both = step_granted _ _ _ _ _ (search rules) in record { answer = both.0; holds = both.1 }

pub returns-in-Other : goal.returns-in-Other
returns-in-Other c = let both = step_denied _ _ _ _ _ (search rules) in record { answer = both.0; holds = both.1 }

pub returns-in-Late : goal.returns-in-Late
returns-in-Late c = let both = step_late _ _ _ _ _ (search rules) _ c.placeless.ensures in record { answer = both.0; holds = both.1 }
