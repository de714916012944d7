-- `pass::pass_start` meets its contract. Assumes nothing.
use mathlib.Core.Bool.{false}
use mathlib.Core.Path.{ap₂}
use borrow.Author.Rules.{rules}
use Rattle.lists.specs.PassCode.{list_pass}
use Rattle.lists.proofs.pass.pass_start.Goals as goal

pub returns : goal.returns
returns c = ap₂ (λ x y. list_pass x false y 0) (search rules) (search rules)
