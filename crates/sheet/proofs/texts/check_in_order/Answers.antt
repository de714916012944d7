-- `sheet::texts::check_in_order` meets its contract.
-- Assumes nothing.
use borrow.Author.Rules.{rules}
use Rattle.text.proofs.Search.{outright}
use Rattle.sheet.proofs.TextsLaws.{lines_sound, tables_read_lem, contents_lines, contents_portacl, contents_naming, contents_byuid}
use Rattle.sheet.proofs.texts.check_in_order.Goals as goal

pub check_naming-requires : goal.check_naming-requires
check_naming-requires c = outright (search (lines_sound, tables_read_lem, rules))

pub returns-in_err-checked_by : goal.returns-in_err-checked_by
returns-in_err-checked_by c = outright (search (contents_lines, rules))

pub returns-in_err-check_portacl : goal.returns-in_err-check_portacl
returns-in_err-check_portacl c = outright (search (contents_portacl, rules))

pub returns-in_err-checked_by-2 : goal.returns-in_err-checked_by-2
returns-in_err-checked_by-2 c = outright (search (contents_naming, rules))

pub returns : goal.returns
returns c = outright (search (contents_byuid, rules))
