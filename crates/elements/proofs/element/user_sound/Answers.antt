-- `elements::element::user_sound` meets its contract. By the wildcard that was read. Assumes nothing.
use mathlib.Core.Path.{refl, sym, ◌∙◌}
use Rattle.elements.proofs.ElementLaws.{user_half_sound, is_some_user_at}
use Rattle.elements.proofs.element.user_sound.Goals as goal

pub returns-in-Nothing : goal.returns-in-Nothing
returns-in-Nothing c = user_half_sound _ _ _ c.read_wildcard-w.ensures
    c.in-Nothing.is _ (c.name_fits.ensures ∙ sym (is_some_user_at _))

pub returns-in-All : goal.returns-in-All
returns-in-All c = user_half_sound _ _ _ c.read_wildcard-w.ensures c.in-All.is _ refl

pub returns-in-Local : goal.returns-in-Local
returns-in-Local c = user_half_sound _ _ _ c.read_wildcard-w.ensures c.in-Local.is _ refl

pub returns-in-Known : goal.returns-in-Known
returns-in-Known c = user_half_sound _ _ _ c.read_wildcard-w.ensures c.in-Known.is _ refl

pub returns-in-Unknown : goal.returns-in-Unknown
returns-in-Unknown c = user_half_sound _ _ _ c.read_wildcard-w.ensures c.in-Unknown.is _ refl

pub returns-in-Paranoid : goal.returns-in-Paranoid
returns-in-Paranoid c = user_half_sound _ _ _ c.read_wildcard-w.ensures c.in-Paranoid.is _ refl
