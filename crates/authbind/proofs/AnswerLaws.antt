-- Laws of the answers: their kinds, and where they lead.
-- Assumes nothing.
use Rattle.std.specs.Prelude.{Some}
use Prim.Native.Nat.{ℕ, zero, suc, ◌+◌, ◌<◌, ◌≤◌}
use mathlib.Core.Bool.{Bool, true, false, ◌&&◌}
use mathlib.Core.List.{List, [], ◌∷◌, map}
use mathlib.Core.Path.{◌≡◌, refl, sym, ap, ◌∙◌}
use native.Mathlib.Numerals.{add-one}
use native.Mathlib.Omega.{arith}
use borrow.Author.Tests.{lt-ltb, le-ltb, le-leb, lt-leb, eqb-true, eqb-false, eq-eqb, ne_eqb}
use lib.Dec.{eqb}
use lib.ListN.{length, drop, get_or, length-drop, drop_of_length-le}
use lib.Seq.{drop-cons}
use Rattle.std.specs.List.{list_all}
use Rattle.text.specs.Basics.{◌>>=◌, given, all, each}
use Rattle.authbind.specs.declared.Turn.{Turn}
use Rattle.authbind.specs.declared.Turn.TheVariants as T
use Rattle.authbind.specs.Authbind.{access_of}
use Rattle.authbind.specs.Code.{is_access, access_by, settled_by, turn_at}

-- ## Kinds

access_of_lem : (b : ℕ) → access_of b ≡ given (is_access b) (access_by b)
access_of_lem zero = refl
access_of_lem (suc zero) = refl
access_of_lem (suc (suc zero)) = refl
access_of_lem (suc (suc (suc n))) = rw (
  ne_eqb (suc (suc (suc n))) 0 (λ e. omega (arith, e)),
  ne_eqb (suc (suc (suc n))) 1 (λ e. omega (arith, e)),
  ne_eqb (suc (suc (suc n))) 2 (λ e. omega (arith, e)),
  lt-leb (suc (suc (suc n))) 2 (omega arith),
)

pub each_access : (s : List ℕ) → each access_of s ≡ given (all is_access s) (map access_by s)
unfolding each all
each_access [] = refl
each_access (b ∷ s) = rw (access_of_lem b, each_access s) (by (is_access b) (all is_access s))
  where
    by : (t u : Bool) → (given t (access_by b) >>= λ y. given u (map access_by s) >>= λ ys. Some (y ∷ ys)) ≡ given (t && u) (access_by b ∷ map access_by s)
    by true true = refl
    by true false = refl
    by false u = refl

-- as std's `all` answers it
pub kinds_all : (s : List ℕ) → list_all is_access s ≡ all is_access s
unfolding all
kinds_all [] = refl
kinds_all (b ∷ s) = ap (λ (t : Bool). is_access b && t) (kinds_all s)

-- ## Where they lead

pub settled_allowed : (x : ℕ) (last : Bool) → last ≡ true → x ≡ 1 → T.Allowed ≡ settled_by x last
settled_allowed x last e f = rw (e, eq-eqb x 1 f)

pub settled_other : (x : ℕ) (last : Bool) → last ≡ true → (x ≡ 1 → ⊥) → T.Other ≡ settled_by x last
settled_other x last e f = rw (e, ne_eqb x 1 f)

pub settled_late : (x : ℕ) (last : Bool) → last ≡ false → T.Late ≡ settled_by x last
settled_late x last e = rw e

-- the loop over the answers, of n tests, at the place i
pub record Turns (s : List ℕ) (n i : ℕ) : Type 0 where
  pub within : i ≤ length s
  pub left : turn_at 0 s n ≡ turn_at i (drop i s) n

pub turns_start : (s : List ℕ) (n : ℕ) → Turns s n 0
turns_start s n = record { within = omega arith; left = refl }

module _ (s : List ℕ) (n i : ℕ) (k : Turns s n i) where
  module _ (h : i < length s) where
    pub turns_late : n ≤ i → T.Late ≡ turn_at 0 s n
    unfolding turn_at
    turns_late l = sym (k.left ∙ rw (drop-cons s i 0, le-leb n i l))

    module _ (l : i < n) where
      pub turns_settled : (get_or s i 0 ≡ 0 → ⊥) → (t : Turn) → t ≡ settled_by (get_or s i 0) (eqb (i + 1) (length s)) → t ≡ turn_at 0 s n
      unfolding turn_at
      turns_settled z t e =
          e ∙ ap (settled_by (get_or s i 0)) (same (eqb (i + 1) (length s)) refl)
          ∙ sym (k.left ∙ rw (drop-cons s i 0, lt-leb n i l, ne_eqb (get_or s i 0) 0 z))
        where
          same : (b : Bool) → eqb (i + 1) (length s) ≡ b → eqb (i + 1) (length s) ≡ eqb (length (drop (suc i) s)) 0
          same true q = rw (q, eq-eqb (length (drop (suc i) s)) 0 (omega (arith, length-drop (suc i) s, eqb-true (i + 1) (length s) q)))
          same false q = rw (q, ne_eqb (length (drop (suc i) s)) 0 (λ z. eqb-false (i + 1) (length s) q (omega (arith, z, length-drop (suc i) s))))

      pub turns_more : get_or s i 0 ≡ 0 → Turns s n (i + 1)
      unfolding turn_at
      turns_more z = record { within = omega arith; left = k.left ∙ rw (drop-cons s i 0, lt-leb n i l, eq-eqb (get_or s i 0) 0 z, add-one) }

  module _ (h : length s ≤ i) where
    at_end : i ≡ length s
    at_end = omega (arith, k.within)

    pub turns_test : length s < n → T.Test (length s) ≡ turn_at 0 s n
    unfolding turn_at
    turns_test l = sym (k.left ∙ rw (drop_of_length-le s h, at_end, lt-ltb (length s) n l))

    pub turns_byuid : n ≤ length s → T.Byuid ≡ turn_at 0 s n
    unfolding turn_at
    turns_byuid l = sym (k.left ∙ rw (drop_of_length-le s h, at_end, le-ltb (length s) n l))
