-- `address::read::read_v4` meets its contract: the pass over the fields ends at the end of the text. Assumes nothing.
use borrow.Author.Rules.{rules}
use Rattle.text.proofs.Search.{outright}
use Rattle.address.proofs.FieldLaws.{landed_number, landed_field, v4_failed, v4_stopped, v4_ended}
use Rattle.address.proofs.read.read_v4.Goals as goal

pub returns-then-j-s : goal.returns-then-j-s
returns-then-j-s c = outright (search (v4_stopped, rules))

pub ended_address-requires : goal.ended_address-requires
ended_address-requires c = outright (search (landed_number, landed_field, rules))

pub returns-in-Failed : goal.returns-in-Failed
returns-in-Failed c = outright (search (v4_failed, rules))

pub returns-else-j-s : goal.returns-else-j-s
returns-else-j-s c = outright (search (v4_ended, rules))
