-- `authbind::all_kinds` meets its contract: each answer is tested, by std's `all`.
-- Assumes nothing.
use Rattle.std.proofs.Common.{◌∙◌, rules, tests}
use Rattle.std.proofs.lemmas.Iterator.{YieldsList-from_slice}
use Rattle.std.proofs.lemmas.Iterator.Search.{all_from_yields_List}
use Rattle.authbind.specs.Code.{is_access}
use Rattle.authbind.proofs.AnswerLaws.{kinds_all}
use Rattle.authbind.proofs.all_kinds.Goals as goal

pub returns : goal.returns
returns c =
    all_from_yields_List is_access _ _ _ c.all.ensures.ran (YieldsList-from_slice c.args.answers.now cc) (λ x b q k. search (rules, tests))
    ∙ kinds_all c.args.answers.now
