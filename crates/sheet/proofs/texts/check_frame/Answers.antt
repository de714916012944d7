-- `sheet::texts::check_frame` meets its contract.
-- Assumes nothing.
use borrow.Author.Rules.{rules}
use Rattle.text.proofs.Search.{outright}
use Rattle.sheet.proofs.TextsLaws.{tables_framed, tables_cut_short, tables_trailing}
use Rattle.sheet.proofs.texts.check_frame.Goals as goal

pub returns-in-Ok : goal.returns-in-Ok
returns-in-Ok c = outright (search (tables_framed, rules))

pub returns-in-Err-Cut : goal.returns-in-Err-Cut
returns-in-Err-Cut c = outright (search (tables_cut_short, rules))

pub returns-in-Err-Trailing : goal.returns-in-Err-Trailing
returns-in-Err-Trailing c = outright (search (tables_trailing, rules))
