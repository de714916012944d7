-- Searches that end sooner where there is nothing to find.
--   outright (search (law, needs)) == what the search proves by its lemmas and by what is known
-- Under a binder a search does not go on to congruence closure, which takes long where there is nothing to find.
-- Assumes nothing.
use Prim.Native.Nat.{ℕ}

pub outright : {A : Type 0} → (ℕ → A) → A
outright found = found 0
