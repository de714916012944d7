-- What the calls answered, together. Assumes nothing.
use borrow.Author.Rules.{rules}
use Rattle.text.proofs.Search.{outright}
use Rattle.codes.proofs.RequestLaws.{states_read}
use Rattle.codes.proofs.request.read_states.Goals as goal

pub returns : goal.returns
returns c = outright (search (states_read, rules))
