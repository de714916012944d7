-- `patterns::net::bracket_seen` meets its contract. The length of a prefix that is read is at most 128. Assumes nothing.
use borrow.Author.Rules.{rules}
use Rattle.text.proofs.Search.{outright}
use Rattle.patterns.proofs.CoverLaws.{bracket_prefix_fits}
use Rattle.patterns.proofs.SeenLaws.{bracket_unread, bracket_read}
use Rattle.patterns.proofs.net.bracket_seen.Goals as goal

pub prefix_matches-requires : goal.prefix_matches-requires
prefix_matches-requires c = outright (search (bracket_prefix_fits, rules))

pub returns-in-None : goal.returns-in-None
returns-in-None c = outright (search (bracket_unread, rules))

pub returns-in-Some : goal.returns-in-Some
returns-in-Some c = outright (search (bracket_read, rules))
