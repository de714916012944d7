-- `expand_trimmed` meets its contract, by its two checks. Assumes nothing.
use mathlib.Core.Path.{sym, ◌∙◌}
use Rattle.expansion.proofs.CallLaws.{percent_refused, request_refused, request_written}
use Rattle.expansion.proofs.expand_trimmed.Goals as goal

pub returns-then-has_bad_percent : goal.returns-then-has_bad_percent
returns-then-has_bad_percent c = let both = percent_refused _ _ _ _ _ c.has_bad_percent.ensures c.if-has_bad_percent.true _ c.placeless.ensures in
    record { answer = both.0; holds = both.1 }

pub expand_request-requires : goal.expand_request-requires
expand_request-requires c = (c.requires, sym c.fits.ensures ∙ c.if-fits.true)

pub returns-then-fits : goal.returns-then-fits
returns-then-fits c = let both = request_written _ _ _ c.args.out.now _
    c.has_bad_percent.ensures
    c.if-has_bad_percent.false _ c.fits.ensures
    c.if-fits.true _ _ (c.expand_request.ensures.answer, c.expand_request.ensures.holds) in record { answer = both.0; holds = both.1 }

pub returns : goal.returns
returns c = let both = request_refused _ _ _ _ _ c.has_bad_percent.ensures
    c.if-has_bad_percent.false _ c.fits.ensures c.if-fits.false _ c.placeless-2.ensures in record { answer = both.0; holds = both.1 }
