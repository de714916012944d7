-- `patterns::pattern::is_dotted` meets its contract: what `all` answers of the bytes is what the definition says of them. Assumes nothing.
use borrow.Author.Rules.{rules}
use borrow.Author.Tests.{tests}
use mathlib.Core.Path.{◌∙◌}
use Rattle.std.proofs.lemmas.Iterator.{YieldsList-from_slice}
use Rattle.std.proofs.lemmas.Iterator.Search.{all_from_yields_List}
use Rattle.patterns.specs.Code.{is_dotted_byte}
use Rattle.patterns.proofs.TestLaws.{list_all_is_all}
use Rattle.patterns.proofs.pattern.is_dotted.Goals as goal

pub returns : goal.returns
returns c =
    all_from_yields_List is_dotted_byte _ _ c.all.result c.all.ensures.ran (YieldsList-from_slice c.args.s.now cc) (λ x b q k. search (rules, tests))
    ∙ list_all_is_all is_dotted_byte c.args.s.now
