-- `expand` meets its contract, by its two checks of the joined command. Assumes nothing.
use native.Mathlib.Omega.{arith}
use Rattle.elements.specs.Places.{request_at}
use Rattle.expansion.proofs.CallLaws.{byte_refused, line_length, length_refused, line_written}
use Rattle.expansion.proofs.expand.Goals as goal

pub expand_line-requires : goal.expand_line-requires
expand_line-requires c = let a = c.args in
    line_length a.command.now (request_at a.names.now a.request) a.process a.out.now _ c.joined-measured.ensures
    (omega (arith, c.if-len-le2047.true))

pub returns-then-len-le2047 : goal.returns-then-len-le2047
returns-then-len-le2047 c = let both = line_written _ _ _ c.args.out.now _
    c.joined-measured.ensures c.if-clean.true
    (omega (arith, c.if-len-le2047.true)) _ _ (c.expand_line.ensures.answer, c.expand_line.ensures.holds) in
    record { answer = both.0; holds = both.1 }

pub returns-then-clean : goal.returns-then-clean
returns-then-clean c = let both = length_refused _ _ _ _ _ c.joined-measured.ensures c.if-clean.true
    (omega (arith, c.if-len-le2047.false)) _ c.placeless.ensures in record { answer = both.0; holds = both.1 }

pub returns : goal.returns
returns c = let both = byte_refused _ _ _ _ _ c.joined-measured.ensures c.if-clean.false _ c.placeless-2.ensures in
    record { answer = both.0; holds = both.1 }
