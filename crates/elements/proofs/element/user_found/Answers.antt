-- `elements::element::user_found` meets its contract. By what is known of the user. Assumes nothing.
use Rattle.elements.proofs.ElementLaws.{user_found_ask, user_found_unknown, user_found_known}
use Rattle.elements.proofs.element.user_found.Goals as goal

pub returns-in-NotFetched : goal.returns-in-NotFetched
returns-in-NotFetched c = user_found_ask _ _ _ _ _ c.in-NotFetched.is c.user_sound.ensures c.ask_if.ensures

pub returns-in-Unknown : goal.returns-in-Unknown
returns-in-Unknown c = user_found_unknown _ _ _ _ _ c.in-Unknown.is c.unknown_user_matches.ensures c.found_if.ensures

pub returns-in-Known : goal.returns-in-Known
returns-in-Known c = user_found_known _ _ _ _ _ c.in-Known.is c.known_user_matches.ensures c.found_if-in-Known.ensures
