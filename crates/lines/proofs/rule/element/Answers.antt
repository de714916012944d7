-- `rule::element` meets its contract, by the laws of a span. Assumes nothing.
use borrow.Author.Rules.{rules}
use Rattle.text.proofs.Search.{outright}
use Rattle.lines.proofs.RuleLaws.{element_start, element_end, element_part}
use Rattle.lines.proofs.rule.element.Goals as goal

pub slice_bounds-result-count : goal.slice_bounds-result-count
slice_bounds-result-count c = outright (search (element_start, rules))

pub slice_bounds-result-start : goal.slice_bounds-result-start
slice_bounds-result-start c = outright (search (element_start, rules))

pub slice_bounds-result-end : goal.slice_bounds-result-end
slice_bounds-result-end c = outright (search (element_end, rules))

pub returns : goal.returns
returns c = outright (search (element_part, rules))
