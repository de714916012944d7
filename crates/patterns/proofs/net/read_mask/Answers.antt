-- `net::read_mask` meets its contract: a mask as an address, else by its length, which is at most 32. Assumes nothing.
use borrow.Author.Rules.{rules}
use Rattle.text.proofs.Search.{outright}
use Rattle.patterns.proofs.NetLaws.{mask_written, mask_none, mask_length, mask_ones}
use Rattle.patterns.proofs.net.read_mask.Goals as goal

pub leading_ones_v4-requires : goal.leading_ones_v4-requires
leading_ones_v4-requires c = outright (search (mask_length, rules))

pub returns-in-Some : goal.returns-in-Some
returns-in-Some c = outright (search (mask_written, rules))

pub returns-in_err-m-in-None : goal.returns-in_err-m-in-None
returns-in_err-m-in-None c = outright (search (mask_none, rules))

pub returns-in_ok-m-in-None : goal.returns-in_ok-m-in-None
returns-in_ok-m-in-None c = outright (search (mask_ones, rules))
