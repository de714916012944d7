-- `answers::answer_to` meets its contract: a request that fits is searched for, any other is refused. Assumes nothing.
use Rattle.index.proofs.AnswerLaws.{answer_fits, answer_unfit}
use Rattle.index.proofs.answers.answer_to.Goals as goal

pub found_answer-requires : goal.found_answer-requires
found_answer-requires c = record { classes = c.requires.classes; ready = c.requires.ready }

pub returns-then-states-fits : goal.returns-then-states-fits
returns-then-states-fits c = answer_fits _ _ _ _ c.requires.ready _ _ _ c.read_states-states.ensures _
    c.named.ensures _ c.held-request.ensures _ c.fits.ensures
    c.if-states-fits.true _ c.found_answer.ensures

pub returns : goal.returns
returns c = answer_unfit _ _ _ _ c.requires.ready _ _ _ c.read_states-states.ensures _
    c.named.ensures _ c.held-request.ensures _ c.fits.ensures
    c.if-states-fits.false _ c.unfit_answer.ensures
