-- Each answer by the tests that led there. Assumes nothing.
use borrow.Author.Rules.{rules}
use Rattle.text.proofs.Search.{outright}
use Rattle.codes.proofs.RequestLaws.{protocol_udp, protocol_else}
use Rattle.codes.proofs.request.protocol_of.Goals as goal

pub returns-then-n-eq17 : goal.returns-then-n-eq17
returns-then-n-eq17 c = outright (search (protocol_udp, rules))

pub returns : goal.returns
returns c = outright (search (protocol_else, rules))
