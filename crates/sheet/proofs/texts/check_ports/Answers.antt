-- `sheet::texts::check_ports` meets its contract.
-- Assumes nothing.
use borrow.Author.Rules.{rules}
use Rattle.text.proofs.Search.{outright}
use Rattle.sheet.proofs.TextsLaws.{ports_portacl, ports_byuid}
use Rattle.sheet.proofs.texts.check_ports.Goals as goal

pub returns-in_err-check_portacl : goal.returns-in_err-check_portacl
returns-in_err-check_portacl c = outright (search (ports_portacl, rules))

pub returns : goal.returns
returns c = outright (search (ports_byuid, rules))
