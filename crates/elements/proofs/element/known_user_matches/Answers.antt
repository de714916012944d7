-- `elements::element::known_user_matches` meets its contract. By the wildcard that was read. Assumes nothing.
use mathlib.Core.Path.{refl, sym, ◌∙◌}
use Rattle.elements.proofs.ElementLaws.{user_test_at, user_at_equals}
use Rattle.elements.proofs.element.known_user_matches.Goals as goal

pub returns-in-Nothing : goal.returns-in-Nothing
returns-in-Nothing c = user_test_at _ _ _ c.read_wildcard-w.ensures
    c.in-Nothing.is _ _ _ (c.name_equals.ensures ∙ sym (user_at_equals _ _))

pub returns-in-All : goal.returns-in-All
returns-in-All c = user_test_at _ _ _ c.read_wildcard-w.ensures c.in-All.is _ _ _ refl

pub returns-in-Local : goal.returns-in-Local
returns-in-Local c = user_test_at _ _ _ c.read_wildcard-w.ensures c.in-Local.is _ _ _ refl

pub returns-in-Known : goal.returns-in-Known
returns-in-Known c = user_test_at _ _ _ c.read_wildcard-w.ensures c.in-Known.is _ _ _ refl

pub returns-in-Unknown : goal.returns-in-Unknown
returns-in-Unknown c = user_test_at _ _ _ c.read_wildcard-w.ensures c.in-Unknown.is _ _ _ refl

pub returns-in-Paranoid : goal.returns-in-Paranoid
returns-in-Paranoid c = user_test_at _ _ _ c.read_wildcard-w.ensures c.in-Paranoid.is _ _ _ refl
