-- `search::are_over` meets its contract. Assumes nothing.
use Rattle.rules.proofs.search.are_over.Goals as goal

pub returns : goal.returns
returns c = cc
