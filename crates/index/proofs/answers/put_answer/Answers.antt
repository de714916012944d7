-- `answers::put_answer` meets its contract: the numbers in their order. Assumes nothing.
use Rattle.index.proofs.AnswerLaws.{put_answer}
use Rattle.index.proofs.answers.put_answer.Goals as goal

pub returns : goal.returns
returns c = let both = put_answer _ _ _ _ _ _ _ _ _ _ _ _ _ _ _ _ _ _ _ _ c.requires (
  c.put_two-line.ensures.next,
  c.put_two-line.ensures.written,
) (c.put_two-file.ensures.next, c.put_two-file.ensures.written)
    (c.put_two-len.ensures.next, c.put_two-len.ensures.written)
    (c.put_two-last.ensures.next, c.put_two-last.ensures.written) (c.put_count.ensures.next, c.put_count.ensures.written) in
    record { next = both.0; written = both.1 }
