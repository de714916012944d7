use borrow.Author.Rules.{rules}
use mathlib.Core.Path.{refl}
use lib.ListN.{length}
use Rattle.text.proofs.Search.{outright}
use Rattle.lines.proofs.RuleLaws.{rest_shorter}
use Rattle.classes.proofs.ClassLaws.{element_place, element_described}
use Rattle.elements.specs.Code.{view_of}
use Rattle.elements.specs.Places.{request_at}
use Rattle.matters.proofs.HalfLaws.{trying_start, trying_within, trying_shorter, trying_fits, trying_end, trying_differs, trying_more}
use Rattle.matters.proofs.tell.halves_agree.Goals as goal

pub loop-rest-init : goal.loop-rest-init
loop-rest-init c = outright (search (trying_start, rules))

pub element-e-requires : goal.element-e-requires
element-e-requires c = outright (search (element_place, rules))

pub returns-then-e-eq0 : goal.returns-then-e-eq0
returns-then-e-eq0 c = outright (search (trying_end, rules))

pub after_element-next-requires : goal.after_element-next-requires
after_element-next-requires c = outright (search (element_place, rules))

pub overflow_sub-from : goal.overflow_sub-from
overflow_sub-from c = outright (search (trying_shorter, rules))

pub overflow_add-from : goal.overflow_add-from
overflow_add-from c = outright (search (trying_fits, rules))

pub asked_half-h-requires : goal.asked_half-h-requires
asked_half-h-requires c = outright (search (element_described, rules))

pub try_half-requires : goal.try_half-requires
try_half-requires c = outright (search (trying_within, rules))

pub returns-in-None : goal.returns-in-None
returns-in-None c = let a = c.args in
    let l = c.loop-rest in
    let at = c.element_at-at in
    let first = c.element-e in
    let full = c.if-e-eq0.false in
    let half = c.asked_half-h in
    let tried = c.try_half in
    trying_differs (view_of a.tables.now a.notes.now) (request_at a.names.now a.request) a.f a.s.now l.rest.now l.places l.n
    l.invariant
    first.result.now first.ensures full half.result.now half.ensures at.result at.ensures tried.result tried.ensures.answer
    (search rules)

pub loop-rest-smaller : goal.loop-rest-smaller
loop-rest-smaller c = let l = c.loop-rest in
    let first = c.element-e in
    let next = c.after_element-next in
    rest_shorter l.rest.now first.result.now next.result.now first.ensures
    c.if-e-eq0.false next.ensures (length l.rest.now) refl

pub loop-rest-preserved : goal.loop-rest-preserved
loop-rest-preserved c = let a = c.args in
    let l = c.loop-rest in
    let at = c.element_at-at in
    let first = c.element-e in
    let full = c.if-e-eq0.false in
    let half = c.asked_half-h in
    let tried = c.try_half in
    let next = c.after_element-next in
    trying_more (view_of a.tables.now a.notes.now) (request_at a.names.now a.request) a.f a.s.now l.rest.now l.places l.n l.invariant
    first.result.now first.ensures full half.result.now half.ensures at.result at.ensures tried.result tried.ensures.answer
    c.in-Some.count (search rules) tried.new.places tried.ensures.holds next.result.now next.ensures
