-- EXCEPT is no element, and as one it would be sound: its bytes are those of a name. So a check may look at it like at the others.
--   no_element, any_element == tests of the elements of a list, as tests of all its words
-- Assumes nothing.
use Prim.Native.Nat.{ℕ, ◌+◌}
use native.Mathlib.Omega.{arith}
use mathlib.Core.Bool.{Bool, true, false, not, ◌&&◌, ◌||◌, true≢false}
use mathlib.Core.List.{List, [], ◌∷◌, map}
use mathlib.Core.Path.{◌≡◌, refl, sym, ap, subst}
use lib.Dec.{eqb}
use borrow.Author.Tests.{eqb-true}
use Rattle.text.specs.Basics.{when◌then◌else◌, is_some, any, all, first, is_empty}
use Rattle.text.specs.Text.{bytes, split_once, char_range, lower, equal, equal_fold}
use Rattle.text.proofs.BasicLaws.{and_true}
use Rattle.lines.specs.Rule.{is_except}
use Rattle.patterns.specs.Pattern.{wildcard, is_name_byte, name_pattern, host_pattern}
use Rattle.tables.specs.Table.{pattern_with}
use Rattle.elements.specs.Element.{halves, client_reserved, daemon_reserved, is_plain_name, daemon_name, daemon_parts, client_parts, daemon_element, client_element}
use Rattle.lists.specs.Check.{without_except}

-- ## Every way to write a word

-- the test holds of every word that is written in these capitals or their small letters
unfoldable holds_of : (List ℕ → Bool) → List ℕ → Bool
holds_of p [] = p []
holds_of p (x ∷ t) = char_range "A" "Z" x && (holds_of (λ w. p (x ∷ w)) t && holds_of (λ w. p ((x + 32) ∷ w)) t)

same_or_small : (x y : ℕ) → char_range "A" "Z" x ≡ true → lower x ≡ lower y → (P : ℕ → Type 0) → P x → P (x + 32) → P y
unfolding lower
same_or_small x y e h P a b = by (char_range "A" "Z" y) (sym (rw e at h))
  where
    by : (c : Bool) → (when c then y + 32 else y) ≡ x + 32 → P y
    by true k = let z : x ≡ y = omega (arith, k) in subst P z a
    by false k = subst P (sym k) b

fold_holds : (p : List ℕ → Bool) (t w : List ℕ) → holds_of p t ≡ true → equal (map lower t) (map lower w) ≡ true → p w ≡ true
unfolding holds_of equal
fold_holds p [] [] h e = h
fold_holds p [] (y ∷ w) h e = absurd (true≢false (sym e))
fold_holds p (x ∷ t) [] h e = absurd (true≢false (sym e))
fold_holds p (x ∷ t) (y ∷ w) h e =
    let c = and_true (char_range "A" "Z" x) (holds_of (λ w. p (x ∷ w)) t && holds_of (λ w. p ((x + 32) ∷ w)) t) h in
    let d = and_true (holds_of (λ w. p (x ∷ w)) t) (holds_of (λ w. p ((x + 32) ∷ w)) t) c.1 in
    let s = and_true (eqb (lower x) (lower y)) (equal (map lower t) (map lower w)) e in
    same_or_small x y c.0 (eqb-true (lower x) (lower y) s.0) (λ z. p (z ∷ w) ≡ true)
    (fold_holds (λ w. p (x ∷ w)) t w d.0 s.1)
    (fold_holds (λ w. p ((x + 32) ∷ w)) t w d.1 s.1)

-- ## EXCEPT

-- what is not a fault of a word: its start, its kind in either list, and that it names no table
abbrev sound_element : List ℕ → Bool
sound_element w =
    not (daemon_reserved w) && (not (client_reserved w) && (is_some (daemon_element (λ n h. false) w) && is_some (client_element (λ n h. false) w)))

every_case : holds_of sound_element (bytes "EXCEPT") ≡ true
unfolding holds_of any all first split_once equal lower equal_fold is_name_byte wildcard name_pattern host_pattern pattern_with halves client_reserved daemon_reserved
    is_plain_name daemon_name daemon_parts client_parts daemon_element client_element
every_case = refl

not_false : (b : Bool) → not b ≡ true → b ≡ false
not_false true k = sym k
not_false false k = refl

module _ (w : List ℕ) (e : is_except w ≡ true) where
  except_sound : sound_element w ≡ true
  unfolding equal_fold
  except_sound = fold_holds sound_element (bytes "EXCEPT") w every_case e

  abbrev kinds : Bool
  kinds = is_some (daemon_element (λ n h. false) w) && is_some (client_element (λ n h. false) w)

  first_two : (daemon_reserved w ≡ false) × ((not (client_reserved w) && kinds) ≡ true)
  first_two =
      let h = and_true (not (daemon_reserved w)) (not (client_reserved w) && kinds) except_sound in
      (not_false (daemon_reserved w) h.0, h.1)

  last_two : (client_reserved w ≡ false) × (kinds ≡ true)
  last_two =
      let h = and_true (not (client_reserved w)) kinds first_two.1 in
      (not_false (client_reserved w) h.0, h.1)

  pub except_daemon_start : daemon_reserved w ≡ false
  except_daemon_start = first_two.0

  pub except_client_start : client_reserved w ≡ false
  except_client_start = last_two.0

  pub except_daemon : not (is_some (daemon_element (λ n h. false) w)) ≡ false
  except_daemon = ap not (and_true (is_some (daemon_element (λ n h. false) w)) (is_some (client_element (λ n h. false) w)) last_two.1).0

  pub except_client : not (is_some (client_element (λ n h. false) w)) ≡ false
  except_client = ap not (and_true (is_some (daemon_element (λ n h. false) w)) (is_some (client_element (λ n h. false) w)) last_two.1).1

-- ## The words of a list

pub no_element : (ws : List (List ℕ)) → is_empty (without_except ws) ≡ all is_except ws
unfolding without_except all
no_element [] = refl
no_element (w ∷ ws) = by (is_except w) (no_element ws)
  where
    by : (b : Bool) → is_empty (without_except ws) ≡ all is_except ws → is_empty (when b then without_except ws else w ∷ without_except ws) ≡ (b && all is_except ws)
    by true i = i
    by false i = refl

pub any_element : (p : List ℕ → Bool) → ((w : List ℕ) → is_except w ≡ true → p w ≡ false) → (ws : List (List ℕ)) → any p (without_except ws) ≡ any p ws
unfolding without_except any
any_element p h [] = refl
any_element p h (w ∷ ws) = by (is_except w) refl (any_element p h ws)
  where
    by : (b : Bool) → is_except w ≡ b → any p (without_except ws) ≡ any p ws → any p (when b then without_except ws else w ∷ without_except ws) ≡ (p w || any p ws)
    by true e i = rw (h w e) i
    by false e i = rw i
