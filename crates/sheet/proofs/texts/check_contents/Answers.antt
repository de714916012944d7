-- `sheet::texts::check_contents` meets its contract.
-- Assumes nothing.
use borrow.Author.Rules.{rules}
use Rattle.text.proofs.Search.{outright}
use Rattle.sheet.proofs.TextsLaws.{tables_read_lem, contents_ports}
use Rattle.sheet.proofs.texts.check_contents.Goals as goal

pub are_sound-requires : goal.are_sound-requires
are_sound-requires c = outright (search (tables_read_lem, rules))

pub returns-then-are_sound : goal.returns-then-are_sound
returns-then-are_sound c = outright (search (contents_ports, rules))
