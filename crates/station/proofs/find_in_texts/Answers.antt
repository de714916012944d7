-- `find_in_texts` meets its contract. Assumes nothing.
use borrow.Author.Rules.{rules}
use Rattle.text.proofs.Search.{outright}
use Rattle.station.proofs.DecideLaws.{find_whole, find_cut, find_trailing, find_sound}
use Rattle.station.proofs.find_in_texts.Goals as goal

pub find_framed-requires : goal.find_framed-requires
find_framed-requires c = outright (search (find_whole, rules))

pub returns-in-Err-Cut : goal.returns-in-Err-Cut
returns-in-Err-Cut c = outright (search (find_cut, rules))

pub returns-in-Err-Trailing : goal.returns-in-Err-Trailing
returns-in-Err-Trailing c = outright (search (find_trailing, rules))

pub returns-in-Ok : goal.returns-in-Ok
returns-in-Ok c = outright (search (find_sound, rules))
