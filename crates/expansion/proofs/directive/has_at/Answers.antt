-- `directive::has_at` meets its contract, by the states. Assumes nothing.
use Rattle.expansion.specs.Code.{texts_at}
use Rattle.expansion.proofs.directive.has_at.Goals as goal

pub returns : goal.returns
unfolding texts_at
returns c = cc
