-- `patterns::net::read_length` meets its contract. By the first byte. Assumes nothing.
use borrow.Author.Rules.{rules}
use Rattle.text.proofs.Search.{outright}
use Rattle.patterns.proofs.NetLaws.{prefix_length_none, prefix_length_bad, prefix_length_read}
use Rattle.patterns.proofs.net.read_length.Goals as goal

pub returns-then-s-eq0 : goal.returns-then-s-eq0
returns-then-s-eq0 c = outright (search (prefix_length_none, rules))

pub returns-then-s-ne47 : goal.returns-then-s-ne47
returns-then-s-ne47 c = outright (search (prefix_length_bad, rules))

pub returns : goal.returns
returns c = outright (search (prefix_length_read, rules))
