-- `net::read_dotted` meets its contract: the pass over the fields ends the pattern, or stops at its slash. Assumes nothing.
use borrow.Author.Rules.{rules}
use Rattle.text.proofs.Search.{outright}
use Rattle.patterns.proofs.DottedLaws.{dotted_failed, dotted_number, dotted_field, dotted_few, dotted_small, dotted_ended, dotted_stopped, dotted_slash}
use Rattle.patterns.proofs.net.read_dotted.Goals as goal

pub ended_net-requires : goal.ended_net-requires
ended_net-requires c = outright (search (dotted_number, dotted_field, dotted_few, dotted_small, rules))

pub returns-then-e-j : goal.returns-then-e-j
returns-then-e-j c = outright (search (dotted_ended, rules))

pub returns-then-e-j-ne47 : goal.returns-then-e-j-ne47
returns-then-e-j-ne47 c = outright (search (dotted_stopped, rules))

pub ended_address-requires : goal.ended_address-requires
ended_address-requires c = outright (search (dotted_number, dotted_field, rules))

pub returns-in-Failed : goal.returns-in-Failed
returns-in-Failed c = outright (search (dotted_failed, rules))

pub returns-else-e-j-ne47 : goal.returns-else-e-j-ne47
returns-else-e-j-ne47 c = outright (search (dotted_slash, rules))
