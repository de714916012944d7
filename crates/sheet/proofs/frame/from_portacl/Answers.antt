-- `sheet::frame::from_portacl` meets its contract.
-- Assumes nothing.
use borrow.Author.Rules.{rules}
use Rattle.text.proofs.Search.{outright}
use Rattle.sheet.proofs.ReadLaws.{found_within, portacl_refused, portacl_found}
use Rattle.sheet.proofs.frame.from_portacl.Goals as goal

pub rest_after-requires : goal.rest_after-requires
rest_after-requires c = outright (search (found_within, rules))

pub returns-in_err-portacl : goal.returns-in_err-portacl
returns-in_err-portacl c = outright (search (portacl_refused, rules))

pub returns : goal.returns
returns c = portacl_found _ _ _ c.section_at.ensures _ _ _ (search rules) _ (search rules) _ c.rest_after.ensures
