-- `text::equal_fold` meets its contract: texts of one length are equal but for case if all of their bytes side by side are.
-- Assumes nothing.
use mathlib.Core.Path.{sym, ◌∙◌}
use borrow.Author.Rules.{rules}
use borrow.Author.Tests.{tests, ne_eqb}
use Rattle.std.proofs.lemmas.Iterator.{YieldsList-from_slice, YieldsList-from_zip}
use Rattle.std.proofs.lemmas.Iterator.Search.{all_from_yields_List}
use Rattle.text.proofs.ScanLaws.{equal_fold_lengths, all_equal_fold, same_folded}
use Rattle.text.proofs.equal_fold.Goals as goal

pub returns-then-a-b : goal.returns-then-a-b
returns-then-a-b c = let a = c.args.a.now in let b = c.args.b.now in
    all_from_yields_List same_folded c.all.new.self _ c.all.result c.all.ensures.ran (YieldsList-from_zip (YieldsList-from_slice a cc) (YieldsList-from_slice b cc))
    (λ x q f k. search (rules, tests)) ∙ all_equal_fold a b c.if-a-b.true

pub returns-else-a-b : goal.returns-else-a-b
returns-else-a-b c = ne_eqb _ _ c.if-a-b.false ∙ sym (equal_fold_lengths _ _ c.if-a-b.false)
