-- What the calls answered, together. Assumes nothing.
use borrow.Author.Rules.{rules}
use Rattle.text.proofs.Search.{outright}
use Rattle.gate.proofs.Laws.{sheet_byuid_by}
use Rattle.gate.proofs.gate_sheet_byuid.Goals as goal

pub returns : goal.returns
returns c = outright (search (sheet_byuid_by, rules))
