use borrow.Author.Rules.{rules}
use Rattle.text.proofs.Search.{outright}
use Rattle.tidy.proofs.RepeatLaws.{marking_start, marking_number, marking_short, marking_plain, marking_step, marking_end}
use Rattle.tidy.proofs.repeats.covered_lines.Goals as goal

pub loop-i-init : goal.loop-i-init
loop-i-init c = outright (search (marking_start, rules))

pub step-all-requires : goal.step-all-requires
step-all-requires c = record {
  marks_len = (search rules, search (marking_number, rules));
  links_len = (
    search rules,
    (search rules, search rules),
  );
  raw_len_bound = (search (marking_short, rules), search (marking_plain, rules));
}

pub loop-i-preserved : goal.loop-i-preserved
loop-i-preserved c = outright (search (marking_step, rules))

pub returns : goal.returns
returns c = outright (search (marking_end, rules))
