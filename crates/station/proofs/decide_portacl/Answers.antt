-- The frame comes first. Assumes nothing.
use borrow.Author.Rules.{rules}
use Rattle.text.proofs.Search.{outright}
use Rattle.sheet.proofs.UnpackLaws.{is_framed}
use Rattle.station.proofs.ListLaws.{list_unframed}
use Rattle.station.proofs.decide_portacl.Goals as goal

pub decide_framed-requires : goal.decide_framed-requires
decide_framed-requires c = outright (search (is_framed, rules))

pub returns-in_err-parts : goal.returns-in_err-parts
returns-in_err-parts c = outright (search (list_unframed, rules))
