-- Laws of texts parted at a mark: split undoes intercalate, and the first double mark is not inside such a text.
--   free c w    == no byte of w is c
--   is_field c w == w is free of c and not empty
-- Assumes nothing.
use Rattle.std.specs.Prelude.{None, Option, Some}
use Prim.Native.Nat.{ℕ, ◌<◌}
use Prim.Native.Char.{Char, code}
use Prim.Native.String.{String, [] as end, ◌∷◌ as ◌then◌}
use mathlib.Core.Bool.{Bool, true, false, not, ◌&&◌, ◌||◌, true≢false, or_assoc, or-false, or-true, and-false}
use mathlib.Core.List.{List, [], ◌∷◌, ◌++◌, map, append_assoc}
use mathlib.Core.Path.{◌≡◌, refl, sym, ap, subst, ◌∙◌}
use native.Mathlib.Omega.{arith}
use borrow.Author.Tests.{eqb-false, eq-eqb, ne_eqb, not-true}
use lib.Dec.{eqb}
use lib.ListN.{length, take, drop, take-append-drop}
use Rattle.text.specs.Basics.{when◌then◌else◌, ◌>>=◌, any, all, each, is_empty}
use Rattle.text.specs.Text.{among, equal, starts_with, cons_first, split_once, cons_head, split, intercalate}
use Rattle.text.proofs.BasicLaws.{and_true}
use Rattle.text.proofs.ScanLaws.{eq_of_equal}

-- ## Tests and answers along a list

module _ {A : Type 0} (p : A → Bool) where
  pub any_append : (s t : List A) → any p (s ++ t) ≡ (any p s || any p t)
  unfolding any
  any_append [] t = refl
  any_append (x ∷ s) t = rw (any_append s t) (sym (or_assoc (p x) (any p s) (any p t)))

  pub any_between : (s m t : List A) → any p m ≡ true → any p (s ++ m ++ t) ≡ true
  any_between s m t e = any_append (s ++ m) t ∙ ap (λ (b : Bool). b || any p t) (any_append s m ∙ ap (λ (b : Bool). any p s || b) e ∙ or-true (any p s))

  pub all_append_left : (s t : List A) → all p (s ++ t) ≡ true → all p s ≡ true
  unfolding all
  all_append_left [] t e = refl
  all_append_left (x ∷ s) t e = rw (and_true (p x) (all p (s ++ t)) e).0 (all_append_left s t (and_true (p x) (all p (s ++ t)) e).1)

  pub all_append_right : (s t : List A) → all p (s ++ t) ≡ true → all p t ≡ true
  unfolding all
  all_append_right [] t e = e
  all_append_right (x ∷ s) t e = all_append_right s t (and_true (p x) (all p (s ++ t)) e).1

  -- where some element passes a test that rules p out
  pub all_false : (q : A → Bool) → ((x : A) → q x ≡ true → p x ≡ false) → (l : List A) → any q l ≡ true → all p l ≡ false
  unfolding any all
  all_false q h [] e = sym e
  all_false q h (x ∷ l) e = by (q x) refl (all_false q h l)
    where
      by : (t : Bool) → q x ≡ t → (any q l ≡ true → all p l ≡ false) → (p x && all p l) ≡ false
      by true d ih = rw (h x d)
      by false d ih = rw (ih (rw d at e)) (and-false (p x))

  pub all_map : {B : Type 0} (f : B → A) → ((b : B) → p (f b) ≡ true) → (l : List B) → all p (map f l) ≡ true
  unfolding all
  all_map f h [] = refl
  all_map f h (x ∷ l) = rw (h x) (all_map f h l)

module _ {A B : Type 0} (f : A → Option B) where
  -- where f undoes g, so does each f undo map g
  pub each_map : (g : B → A) (p : B → Bool) → ((b : B) → p b ≡ true → f (g b) ≡ Some b) → (l : List B) → all p l ≡ true → each f (map g l) ≡ Some l
  unfolding each all
  each_map g p h [] e = refl
  each_map g p h (x ∷ l) e = let a = and_true (p x) (all p l) e in rw (h x a.0, each_map g p h l a.1)

  -- where f answers none, each f does
  pub each_none : (q : A → Bool) → ((a : A) → q a ≡ true → f a ≡ None) → (l : List A) → any q l ≡ true → each f l ≡ None
  unfolding each any
  each_none q h [] e = absurd (true≢false (sym e))
  each_none q h (x ∷ l) e = by (q x) refl (each_none q h l)
    where
      skip : (o : Option B) (r : Option (List B)) → r ≡ None → (o >>= λ y. r >>= λ ys. Some (y ∷ ys)) ≡ None
      skip None r n = refl
      skip (Some y) r n = rw n

      by : (t : Bool) → q x ≡ t → (any q l ≡ true → each f l ≡ None) → (f x >>= λ y. each f l >>= λ ys. Some (y ∷ ys)) ≡ None
      by true d ih = rw (h x d)
      by false d ih = skip (f x) (each f l) (ih (rw d at e))

-- ## The parts between marks

-- a byte that is no mark is in the parts where it is in the text
pub any_split : (marks : String) (p : ℕ → Bool) → ((x : ℕ) → among marks x ≡ true → p x ≡ false) → (t : List ℕ) → any (any p) (split marks t) ≡ any p t
unfolding split any
any_split marks p h [] = refl
any_split marks p h (x ∷ t) = by (among marks x) refl (any_split marks p h t)
  where
    head : (ws : List (List ℕ)) → any (any p) (cons_head x ws) ≡ (p x || any (any p) ws)
    head [] = or-false (p x || false)
    head (w ∷ ws) = or_assoc (p x) (any p w) (any (any p) ws)

    by : (m : Bool) → among marks x ≡ m → any (any p) (split marks t) ≡ any p t
        → any (any p) (when among marks x then [] ∷ split marks t else cons_head x (split marks t)) ≡ (p x || any p t)
    by true e ih = rw (e, h x e) ih
    by false e ih = rw e (head (split marks t) ∙ ap (λ (b : Bool). p x || b) ih)

abbrev pub free : ℕ → List ℕ → Bool
free c w = all (λ b. not (eqb b c)) w

abbrev pub is_field : ℕ → List ℕ → Bool
is_field c w = not (is_empty w) && free c w

-- where p holds of every byte and not of the mark
pub free_all : (p : ℕ → Bool) (c : ℕ) → p c ≡ false → (w : List ℕ) → all p w ≡ true → free c w ≡ true
unfolding all
free_all p c n [] e = refl
free_all p c n (x ∷ w) e =
    let a = and_true (p x) (all p w) e in
    rw (ne_eqb x c (λ q. true≢false (sym a.0 ∙ ap p q ∙ n))) (free_all p c n w a.1)

pub is_field_free : (c : ℕ) (w : List ℕ) → 0 < length w → free c w ≡ true → is_field c w ≡ true
is_field_free c [] pos e = absurd (omega arith)
is_field_free c (x ∷ w) pos e = e

intercalate_cons : (m : List ℕ) (y : ℕ) (v : List ℕ) (ws : List (List ℕ)) → intercalate m ((y ∷ v) ∷ ws) ≡ y ∷ intercalate m (v ∷ ws)
unfolding intercalate
intercalate_cons m y v [] = refl
intercalate_cons m y v (u ∷ ws) = refl

pub is_empty_intercalate : (c : ℕ) (m w : List ℕ) (ws : List (List ℕ)) → is_field c w ≡ true → is_empty (intercalate m (w ∷ ws)) ≡ false
is_empty_intercalate c m [] ws e = absurd (true≢false (sym e))
is_empty_intercalate c m (y ∷ v) ws e = rw (intercalate_cons m y v ws)

module _ (c : Char) where
  pub among_one : (b : ℕ) → among (c then end) b ≡ eqb b (code c)
  unfolding any
  among_one b = or-false (eqb b (code c))

  pub split_free : (w : List ℕ) → free (code c) w ≡ true → split (c then end) w ≡ w ∷ []
  unfolding split all
  split_free [] e = refl
  split_free (x ∷ w) e = let a = and_true (not (eqb x (code c))) (free (code c) w) e in
      rw (among_one x, not-true (eqb x (code c)) a.0, split_free w a.1)

  pub split_append : (w t : List ℕ) → free (code c) w ≡ true → split (c then end) (w ++ code c ∷ t) ≡ w ∷ split (c then end) t
  unfolding split all
  split_append [] t e = rw (among_one (code c), eq-eqb (code c) (code c) refl)
  split_append (x ∷ w) t e = let a = and_true (not (eqb x (code c))) (free (code c) w) e in
      rw (among_one x, not-true (eqb x (code c)) a.0, split_append w t a.1)

  pub split_intercalate : (ws : List (List ℕ)) → 0 < length ws → all (free (code c)) ws ≡ true → split (c then end) (intercalate (code c ∷ []) ws) ≡ ws
  unfolding intercalate all
  split_intercalate [] pos e = absurd (omega arith)
  split_intercalate (w ∷ []) pos e = split_free w (and_true (free (code c) w) true e).0
  split_intercalate (w ∷ v ∷ ws) pos e =
      let a = and_true (free (code c) w) (all (free (code c)) (v ∷ ws)) e in
      rw (append_assoc w (code c ∷ []) (intercalate (code c ∷ []) (v ∷ ws)))
      (split_append w (intercalate (code c ∷ []) (v ∷ ws)) a.0 ∙ ap (λ (r : List (List ℕ)). w ∷ r) (split_intercalate (v ∷ ws) (omega arith) a.1))

-- ## The first of a mark of several bytes

-- what split_once answers is there
abbrev Parts : List ℕ → List ℕ → Option (List ℕ × List ℕ) → Type 0
Parts m t None = Unit
Parts m t (Some p) = t ≡ p.0 ++ (m ++ p.1)

parts : (m t : List ℕ) → Parts m t (split_once m t)
unfolding split_once
parts m [] = tt
parts m (x ∷ t) = by (starts_with m (x ∷ t)) refl (parts m t)
  where
    cons : (o : Option (List ℕ × List ℕ)) → Parts m t o → Parts m (x ∷ t) (cons_first x o)
    cons None h = tt
    cons (Some p) h = ap (λ (l : List ℕ). x ∷ l) h

    by : (b : Bool) → starts_with m (x ∷ t) ≡ b → Parts m t (split_once m t)
        → Parts m (x ∷ t) (when starts_with m (x ∷ t) then Some ([], drop (length m) (x ∷ t)) else cons_first x (split_once m t))
    by true e ih = rw e
        (sym (take-append-drop (length m) (x ∷ t)) ∙ ap (λ (l : List ℕ). l ++ drop (length m) (x ∷ t)) (sym (eq_of_equal m (take (length m) (x ∷ t)) e)))
    by false e ih = rw e (cons (split_once m t) ih)

pub split_once_some : (m t : List ℕ) (p : List ℕ × List ℕ) → split_once m t ≡ Some p → t ≡ p.0 ++ (m ++ p.1)
split_once_some m t p e = subst (Parts m t) e (parts m t)

-- w before the first of two parts
abbrev pub append_first : List ℕ → Option (List ℕ × List ℕ) → Option (List ℕ × List ℕ)
append_first w None = None
append_first w (Some p) = Some (w ++ p.0, p.1)

append_first_nil : (o : Option (List ℕ × List ℕ)) → append_first [] o ≡ o
append_first_nil None = refl
append_first_nil (Some p) = refl

append_first_cons : (x : ℕ) (w : List ℕ) (o : Option (List ℕ × List ℕ)) → cons_first x (append_first w o) ≡ append_first (x ∷ w) o
append_first_cons x w None = refl
append_first_cons x w (Some p) = refl

append_first_append : (v w : List ℕ) (o : Option (List ℕ × List ℕ)) → append_first v (append_first w o) ≡ append_first (v ++ w) o
append_first_append v w None = refl
append_first_append v w (Some p) = simp append_assoc

module _ (c : ℕ) where
  split_once_free : (m w t : List ℕ) → free c w ≡ true → split_once (c ∷ m) (w ++ t) ≡ append_first w (split_once (c ∷ m) t)
  unfolding split_once equal all
  split_once_free m [] t e = sym (append_first_nil (split_once (c ∷ m) t))
  split_once_free m (x ∷ w) t e =
      let a = and_true (not (eqb x c)) (free c w) e in
      rw (ne_eqb c x (λ q. eqb-false x c (not-true (eqb x c) a.0) (sym q)), split_once_free m w t a.1) (append_first_cons x w (split_once (c ∷ m) t))

  -- one mark before a text u that begins with none
  split_once_lone : (u v t : List ℕ) (y : ℕ) → u ≡ y ∷ v → eqb y c ≡ false → split_once (c ∷ c ∷ []) (c ∷ (u ++ t))
      ≡ cons_first c (split_once (c ∷ c ∷ []) (u ++ t))
  unfolding split_once equal
  split_once_lone u v t y e n = rw (e, eq-eqb c c refl, ne_eqb c y (λ q. eqb-false y c n (sym q)))

  -- the same after a text free of marks
  split_once_next : (w u v t : List ℕ) (y : ℕ) (o : Option (List ℕ × List ℕ)) → free c w ≡ true → u ≡ y ∷ v → eqb y c ≡ false
      → split_once (c ∷ c ∷ []) (u ++ t) ≡ append_first u o → split_once (c ∷ c ∷ []) (w ++ (c ∷ []) ++ u ++ t) ≡ append_first (w ++ (c ∷ []) ++ u) o
  split_once_next w u v t y o f e n h =
      rw (append_assoc (w ++ (c ∷ [])) u t, append_assoc w (c ∷ []) (u ++ t), append_assoc w (c ∷ []) u)
      (split_once_free (c ∷ []) w (c ∷ (u ++ t)) f
      ∙ ap (append_first w) (split_once_lone u v t y e n ∙ ap (cons_first c) h ∙ append_first_cons c u o)
      ∙ append_first_append w (c ∷ u) o)

  -- a text of fields holds no double mark, and none begins in it
  pub split_once_intercalate : (ws : List (List ℕ)) (t : List ℕ) → all (is_field c) ws ≡ true
      → split_once (c ∷ c ∷ []) (intercalate (c ∷ []) ws ++ t) ≡ append_first (intercalate (c ∷ []) ws) (split_once (c ∷ c ∷ []) t)
  unfolding intercalate all
  split_once_intercalate [] t e = sym (append_first_nil (split_once (c ∷ c ∷ []) t))
  split_once_intercalate (w ∷ []) t e = split_once_free (c ∷ []) w t (and_true (not (is_empty w)) (free c w) (and_true (is_field c w) true e).0).1
  split_once_intercalate (w ∷ [] ∷ ws) t e = absurd (true≢false (sym (and_true (is_field c w) false e).1))
  split_once_intercalate (w ∷ (y ∷ v) ∷ ws) t e =
      let a = and_true (is_field c w) (all (is_field c) ((y ∷ v) ∷ ws)) e in
      let n = not-true (eqb y c) (and_true (not (eqb y c)) (free c v) (and_true (free c (y ∷ v)) (all (is_field c) ws) a.1).0).0 in
      split_once_next
      w
      (intercalate (c ∷ []) ((y ∷ v) ∷ ws))
      (intercalate (c ∷ []) (v ∷ ws))
      t
      y
      (split_once (c ∷ c ∷ []) t)
      (and_true (not (is_empty w)) (free c w) a.0).1
      (intercalate_cons (c ∷ []) y v ws)
      n
      (split_once_intercalate ((y ∷ v) ∷ ws) t a.1)
