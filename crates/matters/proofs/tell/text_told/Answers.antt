use borrow.Author.Rules.{rules}
use Rattle.text.proofs.Search.{outright}
use Rattle.rules.proofs.FileLaws.{scanned_line}
use Rattle.matters.proofs.TellLaws.{telling_start, telling_end, telling_less, number_fits, telling_decides, telling_differs}
use Rattle.matters.proofs.TellLaws.{telling_more}
use Rattle.matters.proofs.tell.text_told.Goals as goal

pub loop-i-init : goal.loop-i-init
loop-i-init c = outright (search (telling_start, rules))

pub line_told-requires : goal.line_told-requires
line_told-requires c = outright (search (scanned_line, rules))

pub returns-in-Decides : goal.returns-in-Decides
returns-in-Decides c = outright (search (telling_decides, rules))

pub returns-in-Differs : goal.returns-in-Differs
returns-in-Differs c = outright (search (telling_differs, rules))

pub overflow_add-n : goal.overflow_add-n
overflow_add-n c = outright (search (number_fits, rules))

pub overflow_add-n-in-loop-i : goal.overflow_add-n-in-loop-i
overflow_add-n-in-loop-i c = outright (search (number_fits, rules))

pub loop-i-smaller : goal.loop-i-smaller
loop-i-smaller c = outright (search (telling_less, rules))

pub loop-i-preserved : goal.loop-i-preserved
loop-i-preserved c = outright (search (telling_more, rules))

pub returns : goal.returns
returns c = outright (search (telling_end, rules))
