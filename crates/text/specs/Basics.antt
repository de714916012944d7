-- Choosing, optional values, and lists: the words that the other definitions are written in.
--   given b a   == some a where b holds, else none
--   holds p o   == o is some a, and p holds of a
--   first f l   == the first answer that f gives along l
--   each f l    == every answer of f along l, none where one is missing
--   sum f l     == the sum of f along l
--   sum_until p f l == the same up to the first of which p holds, that one included
-- Assumes nothing: these are definitions.
use Rattle.std.specs.Prelude.{ℕ, ◌+◌, Bool, true, false, ◌&&◌, ◌||◌, List, [], ◌∷◌, None, Option, Some}

infixr 5 when◌then◌else◌
infixl 20 ◌>>=◌
infixl 25 ◌or_else◌
abbrev pub when◌then◌else◌ {ℓ} : {A : Type ℓ} → Bool → A → A → A
when true then a else b = a
when false then a else b = b

abbrev pub ◌>>=◌ : {A B : Type 0} → Option A → (A → Option B) → Option B
None >>= f = None
Some a >>= f = f a

abbrev pub ◌or_else◌ : {A : Type 0} → Option A → Option A → Option A
None or_else o = o
Some a or_else o = Some a

abbrev pub given : {A : Type 0} → Bool → A → Option A
given b a = when b then Some a else None

abbrev pub holds : {A : Type 0} → (A → Bool) → Option A → Bool
holds p None = false
holds p (Some a) = p a

abbrev pub is_some : {A : Type 0} → Option A → Bool
is_some o = holds (λ a. true) o

module _ {A : Type 0} where
  unfoldable pub any : (A → Bool) → List A → Bool
  any p [] = false
  any p (x ∷ xs) = p x || any p xs

  unfoldable pub all : (A → Bool) → List A → Bool
  all p [] = true
  all p (x ∷ xs) = p x && all p xs

  unfoldable pub sum : (A → ℕ) → List A → ℕ
  sum f [] = 0
  sum f (x ∷ xs) = f x + sum f xs

  unfoldable pub sum_until : (A → Bool) → (A → ℕ) → List A → ℕ
  sum_until p f [] = 0
  sum_until p f (x ∷ xs) = f x + (when p x then 0 else sum_until p f xs)

  abbrev pub is_empty : List A → Bool
  is_empty [] = true
  is_empty (x ∷ xs) = false

module _ {A B : Type 0} where
  unfoldable pub first : (A → Option B) → List A → Option B
  first f [] = None
  first f (x ∷ xs) = f x or_else first f xs

  unfoldable pub each : (A → Option B) → List A → Option (List B)
  each f [] = Some []
  each f (x ∷ xs) = do
    y ← f x
    ys ← each f xs
    Some (y ∷ ys)
