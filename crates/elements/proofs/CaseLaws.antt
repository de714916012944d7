-- Elements do not see the case of their letters: "All comparison ignores ASCII case".
--   daemon_element_case, client_element_case == equal but for case, an element finds the same, where the tables are blind to the case of a name
--   match_of_case == tables are
-- Assumes nothing.
use Rattle.std.specs.Prelude.{None, Option, Some}
use Prim.Native.Nat.{ℕ}
use mathlib.Core.Bool.{Bool, true, false, not, ◌&&◌, ◌||◌, true≢false}
use mathlib.Core.List.{List, [], ◌∷◌, map}
use mathlib.Core.Path.{◌≡◌, refl, sym, ap, ap₂, ◌∙◌}
use borrow.Author.Tests.{eqb-true}
use lib.Dec.{eqb}
use lib.ListN.{length, drop}
use Rattle.text.specs.Basics.{when◌then◌else◌, ◌>>=◌, ◌or_else◌, given, holds, is_some, any, all, first}
use Rattle.text.specs.Text.{bytes, among, first_among, equal, cons_first, split_once, in_range, lower, equal_fold}
use Rattle.text.proofs.CaseLaws.{Blindly, blind_test, test_blindly, Alike, AlikePair, fold_alike, alike_fold, alike_length, alike_all, alike_drop}
use Rattle.text.proofs.CaseLaws.{alike_split_once}
use Rattle.patterns.specs.Host.{Endpoint}
use Rattle.patterns.specs.Pattern.{wildcard, is_name_byte, host_pattern}
use Rattle.patterns.proofs.CaseLaws.{name_blind, alike_first_among, alike_wildcard, alike_host_pattern}
use Rattle.tables.specs.Table.{Table, Matcher, is_table_name, table_name, table_named, patterns, patterns_of, table_patterns, pattern_with, in_table, match_of}
use Rattle.elements.specs.Element.{Element, halves, is_plain_name, daemon_name, user_half, daemon_parts, client_parts, daemon_element, client_element}

-- ## The halves

at_byte : blind_test (λ x. eqb 64 x) 26 ≡ true
unfolding blind_test
at_byte = refl

at_clear : (c : ℕ) → any (eqb c) (bytes "@") ≡ true → Blindly (λ x. eqb c x) 26
unfolding any
at_clear c e = by (eqb c 64) refl e
  where
    by : (b : Bool) → eqb c 64 ≡ b → (b || false) ≡ true → Blindly (λ x. eqb c x) 26
    by true q h = rw (eqb-true c 64 q) (test_blindly (λ x. eqb 64 x) 26 at_byte)
    by false q h = absurd (true≢false (sym h))

alike_halves : (xs ys : List ℕ) → Alike xs ys → AlikePair (halves xs) (halves ys)
unfolding halves
alike_halves [] [] a = tt
alike_halves [] (y ∷ ys) a = absurd a
alike_halves (x ∷ xs) [] a = absurd a
alike_halves (x ∷ xs) (y ∷ ys) a = by (split_once (bytes "@") xs) (split_once (bytes "@") ys) (alike_split_once (bytes "@") at_clear xs ys a.1)
  where
    by : (o u : Option (List ℕ × List ℕ)) → AlikePair o u → AlikePair (cons_first x o) (cons_first y u)
    by None None h = tt
    by None (Some q) h = absurd h
    by (Some p) None h = absurd h
    by (Some p) (Some q) h = ((a.0, h.0), h.1)

-- ## Names and users

module _ (xs ys : List ℕ) (a : Alike xs ys) where
  alike_plain_name : is_plain_name xs ≡ is_plain_name ys
  unfolding is_plain_name
  alike_plain_name = rw (alike_all is_name_byte name_blind xs ys a, alike_length xs ys a, alike_wildcard xs ys a)

  alike_equal_fold : equal_fold xs ≡ equal_fold ys
  unfolding equal_fold
  alike_equal_fold = let f : List ℕ → List ℕ → Bool = λ m t. equal m (map lower t) in ap f (alike_fold xs ys a)

  alike_word : (w : List ℕ) → equal_fold w xs ≡ equal_fold w ys
  unfolding equal_fold
  alike_word w = rw (alike_fold xs ys a)

  alike_daemon_name : daemon_name xs ≡ daemon_name ys
  unfolding daemon_name
  alike_daemon_name = rw (alike_plain_name, alike_word (bytes "ALL"), alike_equal_fold)

  alike_user_half : user_half xs ≡ user_half ys
  unfolding user_half equal_fold
  alike_user_half = rw (alike_plain_name, alike_fold xs ys a)

-- ## Tables

-- the tables do not see the case of a name
abbrev pub Unseen : Matcher → Type 0
Unseen m = (n k : List ℕ) → Alike n k → m n ≡ m k

alike_table_named : (ts : List Table) (n k : List ℕ) → Alike n k → table_named ts n ≡ table_named ts k
unfolding table_named
alike_table_named ts n k a = ap (λ (f : List ℕ → Bool). first (λ (t : Table). given (f t.name) t) ts) (alike_equal_fold n k a)

pub match_of_case : (ts : List Table) → Unseen (match_of ts)
unfolding in_table
match_of_case ts n k a =
    ap (λ (ws : List (List ℕ)). λ (h : Endpoint). any (λ w. holds (λ f. f h) (pattern_with (in_table ts 3) w)) ws) (ap patterns_of (alike_table_named ts n k a))

slash_test : blind_test (among "/") 26 ≡ true
unfolding blind_test any
slash_test = refl

module _ (m : Matcher) (unseen : Unseen m) where
  alike_pattern_with : (xs ys : List ℕ) → Alike xs ys → pattern_with m xs ≡ pattern_with m ys
  unfolding pattern_with table_name is_table_name
  alike_pattern_with xs ys a =
      rw (
        alike_first_among "/" slash_test xs ys a,
        alike_host_pattern xs ys a,
        alike_all is_name_byte name_blind (drop 1 xs) (drop 1 ys) tail,
        alike_length (drop 1 xs) (drop 1 ys) tail,
      )
      (by (first_among "/" ys) (all is_name_byte (drop 1 ys) && in_range 1 64 (length (drop 1 ys))))
    where
      tail : Alike (drop 1 xs) (drop 1 ys)
      tail = alike_drop 1 xs ys a

      by : (b c : Bool)
          → (when b then ((when b then given c (drop 1 xs) else None) >>= λ n. Some (m n)) else host_pattern ys)
          ≡ (when b then ((when b then given c (drop 1 ys) else None) >>= λ n. Some (m n)) else host_pattern ys)
      by true true = ap Some (unseen (drop 1 xs) (drop 1 ys) tail)
      by true false = refl
      by false c = refl

  -- ## Elements

  daemon_parts_lem : (xs ys : List ℕ) → Alike xs ys → (o u : Option (List ℕ × List ℕ)) → AlikePair o u → daemon_parts m xs o ≡ daemon_parts m ys u
  unfolding daemon_parts
  daemon_parts_lem xs ys a None None h = rw (alike_daemon_name xs ys a)
  daemon_parts_lem xs ys a None (Some q) h = absurd h
  daemon_parts_lem xs ys a (Some p) None h = absurd h
  daemon_parts_lem xs ys a (Some p) (Some q) h = rw (alike_daemon_name p.0 q.0 h.0, alike_pattern_with p.1 q.1 h.1)

  client_parts_lem : (xs ys : List ℕ) → Alike xs ys → (o u : Option (List ℕ × List ℕ)) → AlikePair o u → client_parts m xs o ≡ client_parts m ys u
  unfolding client_parts
  client_parts_lem xs ys a None None h = rw (alike_pattern_with xs ys a)
  client_parts_lem xs ys a None (Some q) h = absurd h
  client_parts_lem xs ys a (Some p) None h = absurd h
  client_parts_lem xs ys a (Some p) (Some q) h = rw (alike_user_half p.0 q.0 h.0, alike_pattern_with p.1 q.1 h.1)

  pub daemon_element_case : (x y : List ℕ) → equal_fold x y ≡ true → daemon_element m x ≡ daemon_element m y
  unfolding daemon_element
  daemon_element_case x y e = let a = fold_alike x y e in daemon_parts_lem x y a (halves x) (halves y) (alike_halves x y a)

  pub client_element_case : (x y : List ℕ) → equal_fold x y ≡ true → client_element m x ≡ client_element m y
  unfolding client_element
  client_element_case x y e = let a = fold_alike x y e in client_parts_lem x y a (halves x) (halves y) (alike_halves x y a)
