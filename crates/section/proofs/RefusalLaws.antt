-- Laws of outcomes, and of the lowest number.
--   lowest_first == where the numbers rise, the lowest is the first whose test holds
--   fitting_same == optional requests that are refused alike, or hold the same request, are answered alike
-- Assumes nothing.
use Rattle.std.specs.Prelude.{Err, None, Ok, Option, Some}
use Prim.Native.Nat.{ℕ, ◌<◌}
use native.Mathlib.Omega.{arith}
use mathlib.Core.Bool.{Bool, true, false, ◌&&◌}
use mathlib.Core.List.{List, [], ◌∷◌}
use mathlib.Core.Path.{◌≡◌, refl, sym, ap, ◌∙◌}
use borrow.Author.Tests.{ltb-true, le-ltb}
use lib.Dec.{ltb}
use Rattle.text.specs.Basics.{when◌then◌else◌}
use Rattle.text.proofs.BasicLaws.{and_true}
use Rattle.section.specs.declared.Fault.{Fault}
use Rattle.section.specs.declared.Fault.TheVariants as F
use Rattle.section.specs.Refusal.{fault_number, lower_fault, lowest, Outcome, placeless, ◌>>=◌, fitting}
use Rattle.section.specs.Code.{first_holding}

-- ## The lowest number

-- the numbers rise, from over n on
unfoldable pub rising : ℕ → List (Fault × Bool) → Bool
rising n [] = true
rising n (c ∷ cs) = ltb n (fault_number c.0) && rising (fault_number c.0) cs

abbrev Above : ℕ → Option Fault → Type 0
Above n None = Unit {0}
Above n (Some f) = n < fault_number f

above_less : (m n : ℕ) → m < n → (o : Option Fault) → Above n o → Above m o
above_less m n h None a = tt
above_less m n h (Some f) a = omega (arith, h, a)

first_above : (n : ℕ) (cs : List (Fault × Bool)) → rising n cs ≡ true → Above n (first_holding cs)
unfolding rising first_holding
first_above n [] e = tt
first_above n (c ∷ cs) e =
    let p = and_true (ltb n (fault_number c.0)) (rising (fault_number c.0) cs) e in
    let h : n < fault_number c.0 = ltb-true n (fault_number c.0) p.0 in
    by h c.1 (above_less n (fault_number c.0) h (first_holding cs) (first_above (fault_number c.0) cs p.1))
  where
    by : n < fault_number c.0 → (b : Bool) → Above n (first_holding cs) → Above n (when b then Some c.0 else first_holding cs)
    by h true a = h
    by h false a = a

lower_above : (f : Fault) (o : Option Fault) → Above (fault_number f) o → lower_fault f o ≡ f
lower_above f None a = refl
lower_above f (Some g) a = rw (le-ltb (fault_number g) (fault_number f) (omega (arith, a)))

lowest_rising : (n : ℕ) (cs : List (Fault × Bool)) → rising n cs ≡ true → lowest cs ≡ first_holding cs
unfolding rising lowest first_holding
lowest_rising n [] e = refl
lowest_rising n (c ∷ cs) e =
    let p = and_true (ltb n (fault_number c.0)) (rising (fault_number c.0) cs) e in
    by c.1 (lowest_rising (fault_number c.0) cs p.1) (first_above (fault_number c.0) cs p.1)
  where
    by : (b : Bool) → lowest cs ≡ first_holding cs → Above (fault_number c.0) (first_holding cs)
        → (when b then Some (lower_fault c.0 (lowest cs)) else lowest cs) ≡ (when b then Some c.0 else first_holding cs)
    by true h a = ap Some (ap (lower_fault c.0) h ∙ lower_above c.0 (first_holding cs) a)
    by false h a = h

pub lowest_first : (cs : List (Fault × Bool)) → rising 0 cs ≡ true → lowest cs ≡ first_holding cs
lowest_first cs e = lowest_rising 0 cs e

-- ## Requests

module _ {A B : Type 0} (p : A → Bool) (f : A → Outcome B) where
  fitting_bind : (o : Option A) → fitting p o f ≡ (fitting p o Ok >>= f)
  fitting_bind None = refl
  fitting_bind (Some a) = by (p a)
    where
      by : (b : Bool) → (when b then f a else Err (placeless F.BadRequest)) ≡ ((when b then Ok a else Err (placeless F.BadRequest)) >>= f)
      by true = refl
      by false = refl

  pub fitting_same : (o q : Option A) → fitting p o Ok ≡ fitting p q Ok → fitting p o f ≡ fitting p q f
  fitting_same o q e = fitting_bind o ∙ ap (λ (x : Outcome A). x >>= f) e ∙ sym (fitting_bind q)
