use borrow.Author.Rules.{rules}
use Rattle.text.proofs.Search.{outright}
use Rattle.tidy.proofs.NumberLaws.{naming_start, naming_short, naming_outside, naming_unmarked, naming_more, naming_end, naming_names}
use Rattle.tidy.proofs.NumberLaws.{refused_names}
use Rattle.tidy.proofs.numbers.name_lines.Goals as goal

pub loop-i-init : goal.loop-i-init
loop-i-init c = outright (search (naming_start, rules))

pub returns-then-proposal-i-lt4 : goal.returns-then-proposal-i-lt4
returns-then-proposal-i-lt4 c = record { answer = search (naming_short, rules); names = refused_names _ _ _ }

pub returns-then-marks-n : goal.returns-then-marks-n
returns-then-marks-n c = record { answer = search (naming_outside, rules); names = refused_names _ _ _ }

pub returns-then-marks-n-eq0 : goal.returns-then-marks-n-eq0
returns-then-marks-n-eq0 c = record { answer = search (naming_unmarked, rules); names = refused_names _ _ _ }

pub loop-i-preserved : goal.loop-i-preserved
loop-i-preserved c = outright (search (naming_more, rules))

pub returns : goal.returns
returns c = record { answer = search (naming_end, rules); names = search (naming_names, rules) }
