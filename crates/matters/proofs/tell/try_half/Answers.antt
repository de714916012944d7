-- `tell::try_half` meets its contract. Assumes nothing.
use Rattle.matters.specs.Code.{finder_at}
use Rattle.matters.proofs.HalfLaws.{try_known, try_differs, try_agrees}
use Rattle.matters.proofs.tell.try_half.Goals as goal

pub returns-then-was_tried : goal.returns-then-was_tried
returns-then-was_tried c = let a = c.args in
    let was = c.was_tried in
    let both = try_known (finder_at a.tables.now a.notes.now a.names.now a.request) a.f a.s.now a.places.now a.n a.at a.h.now
    was.result was.ensures c.if-was_tried.true in record { answer = both.0; holds = both.1 }

pub returns-then-not-name_agrees : goal.returns-then-not-name_agrees
returns-then-not-name_agrees c = let a = c.args in
    let was = c.was_tried in
    let name = c.name_agrees in
    let both = try_differs (finder_at a.tables.now a.notes.now a.names.now a.request) a.f a.s.now a.places.now a.n a.at a.h.now
    was.result was.ensures c.if-was_tried.false name.result name.ensures c.if-not-name_agrees.true-raw in record { answer = both.0; holds = both.1 }

pub returns : goal.returns
returns c = let a = c.args in
    let was = c.was_tried in
    let name = c.name_agrees in
    let note = c.note-count in
    let both = try_agrees (finder_at a.tables.now a.notes.now a.names.now a.request) a.f a.s.now a.places.now a.n a.at a.h.now
    was.result was.ensures c.if-was_tried.false name.result name.ensures
    c.if-not-name_agrees.false-raw note.result note.new.places (note.ensures.count, note.ensures.holds) in record { answer = both.0; holds = both.1 }
