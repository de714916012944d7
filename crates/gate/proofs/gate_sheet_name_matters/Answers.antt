-- What the calls answered, together. Assumes nothing.
use borrow.Author.Rules.{rules}
use Rattle.text.proofs.Search.{outright}
use Rattle.gate.proofs.Laws.{sheet_matters_by}
use Rattle.gate.proofs.gate_sheet_name_matters.Goals as goal

pub returns : goal.returns
returns c = outright (search (sheet_matters_by, rules))
