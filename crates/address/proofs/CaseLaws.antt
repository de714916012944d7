-- Reading addresses does not see the case of letters.
-- Assumes nothing.
use Rattle.std.specs.Prelude.{None, Option, Some}
use Prim.Native.Nat.{ℕ, ◌-◌}
use Prim.Native.Char.{code}
use mathlib.Core.Bool.{Bool, true, false, ◌&&◌, ◌||◌, true≢false}
use mathlib.Core.List.{List, [], ◌∷◌, ◌++◌, map}
use mathlib.Core.Path.{◌≡◌, refl, sym, ap, ap₂, ◌∙◌}
use native.Mathlib.Omega.{arith}
use borrow.Author.Tests.{eqb-true}
use lib.Dec.{eqb, ltb}
use lib.ListN.{length, replicate}
use Rattle.text.specs.Basics.{when◌then◌else◌, ◌>>=◌, ◌or_else◌, given, is_empty, any, all, each}
use Rattle.text.specs.Text.{bytes, among, split_once, split, in_range, char_range, is_digit, lower}
use Rattle.text.specs.Number.{from_digits, to_digits, digit_value, read_decimal}
use Rattle.text.proofs.CaseLaws.{Blindly, blind_test, test_blindly, blind_number, number_blindly, Alike, AlikePair, AlikeList, alike_length, alike_all}
use Rattle.text.proofs.CaseLaws.{alike_map, alike_split_once, alike_split, alike_read_decimal}
use Rattle.address.specs.Address.{read_v4, read_group, read_last_group, read_groups, read_compressed, read_v6}

-- ## Marks

dot_test : blind_test (among ".") 26 ≡ true
unfolding blind_test any
dot_test = refl

colon_test : blind_test (among ":") 26 ≡ true
unfolding blind_test any
colon_test = refl

colon_byte : blind_test (λ x. eqb 58 x) 26 ≡ true
unfolding blind_test
colon_byte = refl

colon_clear : (c : ℕ) → any (eqb c) (bytes "::") ≡ true → Blindly (λ x. eqb c x) 26
unfolding any
colon_clear c e = by (eqb c 58) refl e
  where
    by : (b : Bool) → eqb c 58 ≡ b → (b || (b || false)) ≡ true → Blindly (λ x. eqb c x) 26
    by true q h = rw (eqb-true c 58 q) (test_blindly (λ x. eqb 58 x) 26 colon_byte)
    by false q h = absurd (true≢false (sym h))

-- ## Fields and groups

alike_each : (m : ℕ) (vs ws : List (List ℕ)) → AlikeList vs ws → each (read_decimal m) vs ≡ each (read_decimal m) ws
unfolding each
alike_each m [] [] a = refl
alike_each m [] (w ∷ ws) a = absurd a
alike_each m (v ∷ vs) [] a = absurd a
alike_each m (v ∷ vs) (w ∷ ws) a = rw (alike_read_decimal m v w a.0, alike_each m vs ws a.1)

pub alike_read_v4 : (xs ys : List ℕ) → Alike xs ys → read_v4 xs ≡ read_v4 ys
unfolding read_v4
alike_read_v4 xs ys a = rw (alike_each 255 (split "." xs) (split "." ys) (alike_split "." (test_blindly (among ".") 26 dot_test) xs ys a))

abbrev is_hex : ℕ → Bool
is_hex c = is_digit c || char_range "A" "F" c || char_range "a" "f" c

hex_test : blind_test is_hex 26 ≡ true
unfolding blind_test
hex_test = refl

value_test : blind_number digit_value 26 ≡ true
unfolding blind_number lower
value_test = refl

pub alike_read_group : (xs ys : List ℕ) → Alike xs ys → read_group xs ≡ read_group ys
unfolding read_group
alike_read_group xs ys a =
    rw (alike_all is_hex (test_blindly is_hex 26 hex_test) xs ys a, alike_length xs ys a, alike_map digit_value (number_blindly digit_value 26 value_test) xs ys a)

alike_read_last_group : (xs ys : List ℕ) → Alike xs ys → read_last_group xs ≡ read_last_group ys
unfolding read_last_group
alike_read_last_group xs ys a = rw (alike_read_group xs ys a, alike_read_v4 xs ys a)

module _ (f : List ℕ → Option (List ℕ)) (h : (xs ys : List ℕ) → Alike xs ys → f xs ≡ f ys) where
  alike_read_groups : (vs ws : List (List ℕ)) → AlikeList vs ws → read_groups f vs ≡ read_groups f ws
  unfolding read_groups
  alike_read_groups [] [] a = refl
  alike_read_groups [] (w ∷ ws) a = absurd a
  alike_read_groups (v ∷ vs) [] a = absurd a
  alike_read_groups (v ∷ []) (w ∷ []) a = h v w a.0
  alike_read_groups (v ∷ []) (w ∷ w' ∷ ws) a = absurd a.1
  alike_read_groups (v ∷ v' ∷ vs) (w ∷ []) a = absurd a.1
  alike_read_groups (v ∷ v' ∷ vs) (w ∷ w' ∷ ws) a = rw (alike_read_group v w a.0, alike_read_groups (v' ∷ vs) (w' ∷ ws) a.1)

-- the groups of one side of `::`
alike_side : (xs ys : List ℕ) → Alike xs ys → AlikeList (when is_empty xs then [] else split ":" xs) (when is_empty ys then [] else split ":" ys)
alike_side [] [] a = tt
alike_side [] (y ∷ ys) a = absurd a
alike_side (x ∷ xs) [] a = absurd a
alike_side (x ∷ xs) (y ∷ ys) a = alike_split ":" (test_blindly (among ":") 26 colon_test) (x ∷ xs) (y ∷ ys) a

alike_read_compressed : (p q : List ℕ × List ℕ) → Alike p.0 q.0 → Alike p.1 q.1 → read_compressed p ≡ read_compressed q
unfolding read_compressed
alike_read_compressed p q a b =
    rw (
      alike_read_groups read_group alike_read_group _ _ (alike_side p.0 q.0 a),
      alike_read_groups read_last_group alike_read_last_group _ _ (alike_side p.1 q.1 b),
    )

-- ## An address

pub alike_read_v6 : (xs ys : List ℕ) → Alike xs ys → read_v6 xs ≡ read_v6 ys
unfolding read_v6
alike_read_v6 xs ys a =
    rw (
      double (split_once (bytes "::") xs) (split_once (bytes "::") ys) (alike_split_once (bytes "::") colon_clear xs ys a),
      alike_read_groups read_last_group alike_read_last_group (split ":" xs) (split ":" ys) (alike_split ":" (test_blindly (among ":") 26 colon_test) xs ys a),
    )
  where
    double : (o u : Option (List ℕ × List ℕ)) → AlikePair o u → (o >>= read_compressed) ≡ (u >>= read_compressed)
    double None None h = refl
    double None (Some q) h = absurd h
    double (Some p) None h = absurd h
    double (Some p) (Some q) h = alike_read_compressed p q h.0 h.1
