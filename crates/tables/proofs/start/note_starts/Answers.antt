use borrow.Author.Rules.{rules}
use Rattle.text.proofs.Search.{outright}
use Rattle.tables.proofs.StartLaws.{starting_start, starting_cut, starting_within, starting_kept, starting_new, starting_end}
use Rattle.tables.proofs.start.note_starts.Goals as goal
use Rattle.tables.proofs.start.note_starts.Goals.{then-made-k, else-made-k}

pub loop-i-init : goal.loop-i-init
loop-i-init c = outright (search (starting_start, rules))

pub returns-then-span : goal.returns-then-span
returns-then-span c = outright (search (starting_cut, rules))

pub overflow_sub-made-then-made-k : goal.overflow_sub-made-then-made-k
overflow_sub-made-then-made-k c = outright (search (starting_within, rules))

pub loop-i-preserved : goal.loop-i-preserved
loop-i-preserved c =
    elim c.if-made-k.branch [
      | then-made-k w ↦ outright (search (starting_new, w, rules))
      | else-made-k w ↦ outright
          (search (starting_kept, w, rules))
    ]

pub returns : goal.returns
returns c = outright (search (starting_end, rules))
