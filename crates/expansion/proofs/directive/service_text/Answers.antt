-- `directive::service_text` meets its contract, by whether the server is known. Assumes nothing.
use Rattle.expansion.specs.Code.{texts_at}
use Rattle.expansion.proofs.directive.service_text.Goals as goal

pub returns-then-host_known : goal.returns-then-host_known
unfolding texts_at
returns-then-host_known c = rw (← c.host_known.ensures, c.if-host_known.true) c.host_text.ensures

pub returns : goal.returns
unfolding texts_at
returns c = rw (← c.host_known.ensures, c.if-host_known.false) c.part_of.ensures
