-- `station::decide` meets its contract.
-- Assumes nothing.
use borrow.Author.Rules.{rules}
use Rattle.text.proofs.Search.{outright}
use Rattle.sheet.proofs.UnpackLaws.{is_framed}
use Rattle.station.proofs.DecideLaws.{decide_unframed}
use Rattle.station.proofs.decide.Goals as goal

pub decide_by_parts-requires : goal.decide_by_parts-requires
decide_by_parts-requires c = outright (search (is_framed, rules))

pub returns-in-Err : goal.returns-in-Err
returns-in-Err c = outright (search (decide_unframed, rules))
