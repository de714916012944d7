-- Laws of the call: where the answers lead along the tests, and what each check follows from.
-- Assumes nothing.
use Rattle.std.specs.Prelude.{Err, Ok, Result, Some}
use Prim.Native.Nat.{ℕ, suc, ◌+◌, ◌*◌, ◌/◌, ◌^◌, ◌<◌, ◌≤◌}
use mathlib.Core.Bool.{Bool, true, false, not, ◌&&◌, ◌||◌}
use mathlib.Core.List.{List, [], ◌∷◌, map}
use mathlib.Core.Path.{◌≡◌, refl, sym, ap, ◌∙◌}
use native.Mathlib.Omega.{arith}
use borrow.Author.Tests.{le-ltb, ltb-true, ltb-false, leb-true, leb-false, eqb-true, eqb-false, ne_eqb}
use lib.Dec.{leb, ltb, eqb}
use lib.ListN.{length, drop, drop_of_length-le}
use lib.Seq.{drop-cons}
use Rattle.text.specs.Basics.{when◌then◌else◌, given, all}
use Rattle.text.specs.Basics.{◌>>=◌ as ◌and_then◌}
use Rattle.section.specs.declared.Fault.TheVariants as F
use Rattle.section.specs.declared.Refusal.{Refusal}
use Rattle.section.specs.Refusal.{Outcome, placeless, ◌>>=◌, fitting, within_room, written_of, lent_after}
use Rattle.address.specs.declared.Addr.{Addr}
use Rattle.address.specs.declared.Addr.TheVariants as A
use Rattle.address.specs.Address.{addr_case}
use Rattle.byuid.specs.Byuid.{bind, is_ruled}
use Rattle.authbind.specs.declared.File.{File}
use Rattle.authbind.specs.declared.Next.{Next}
use Rattle.authbind.specs.declared.Next.TheVariants as N
use Rattle.authbind.specs.declared.Turn.{Turn}
use Rattle.authbind.specs.declared.Turn.TheVariants as T
use Rattle.authbind.specs.Authbind.{tests, by_uid, Step, test, read, granted, denied, not_ruled, walk, Asked, asked, asking, address_known, dotted, left_out}
use Rattle.authbind.specs.Authbind.{with_room, next_step, name_written, next_of}
use Rattle.authbind.specs.Code.{is_access, access_by, turn_at, count_tests, file_of, name_for, test_of, read_of, step_at}
use Rattle.authbind.proofs.AnswerLaws.{each_access}
use Rattle.authbind.proofs.NameLaws.{test_name, byuid_name, count_tests_lem}

-- ## The addresses left out

pub is_dotted_lem : (high low : ℕ) → low < 2 ^ 64
    → (eqb high 0 && (eqb (low / 2 ^ 32) 65535 || eqb (low / 2 ^ 32) 0 && not (eqb (low / 2 ^ 16) 0))) ≡ dotted (high * 2 ^ 64 + low)
unfolding dotted
is_dotted_lem high low l = by (eqb high 0) refl
  where
    by : (t : Bool) → eqb high 0 ≡ t
        → (eqb high 0 && (eqb (low / 2 ^ 32) 65535 || eqb (low / 2 ^ 32) 0 && not (eqb (low / 2 ^ 16) 0))) ≡ dotted (high * 2 ^ 64 + low)
    by true e =
        let z : high * 2 ^ 64 + low ≡ low = omega (arith, eqb-true high 0 e) in
        rw (e, z)
    by false e =
        let n : high ≡ 0 → ⊥ = eqb-false high 0 e in
        let a : (high * 2 ^ 64 + low) / 2 ^ 32 ≡ 65535 → ⊥ = λ q. omega (arith, n, q) in
        let b : (high * 2 ^ 64 + low) / 2 ^ 32 ≡ 0 → ⊥ = λ q. omega (arith, n, q) in
        rw (e, ne_eqb ((high * 2 ^ 64 + low) / 2 ^ 32) 65535 a, ne_eqb ((high * 2 ^ 64 + low) / 2 ^ 32) 0 b)

pub left_out_v6 : (a : Addr) (high low : ℕ) → a ≡ A.V6 high low → (x : Bool) → x ≡ dotted (high * 2 ^ 64 + low) → x ≡ left_out a
left_out_v6 a high low e x is_x = is_x ∙ rw e

-- ## Along the tests

more_left : (y : ℕ) (s : List ℕ) → eqb (length (y ∷ s)) 0 ≡ false
more_left y s = ne_eqb (length (y ∷ s)) 0 (λ e. omega (arith, e))

module _ (p : ℕ) (a : Addr) (uid room : ℕ) where
  -- an outcome fits any room
  granted_fits : with_room room granted ≡ Ok granted
  granted_fits = rw (le-ltb room 0 (omega arith))

  denied_fits : with_room room denied ≡ Ok denied
  denied_fits = rw (le-ltb room 0 (omega arith))

  -- the answers s, from the test i on
  abbrev Along : List ℕ → ℕ → Type 0
  Along s i = (walk (by_uid p uid) (map access_by s) (drop i (tests p a)) >>= with_room room) ≡ step_at (turn_at i s (length (tests p a))) p a uid room

  walk_turn : (s : List ℕ) (i : ℕ) → i ≤ length (tests p a) → Along s i
  unfolding walk turn_at step_at
  walk_turn [] i h = by (ltb i (length (tests p a))) refl
    where
      by : (t : Bool) → ltb i (length (tests p a)) ≡ t → Along [] i
      by true e =
          let l = ltb-true i (length (tests p a)) e in
          rw (e, drop-cons (tests p a) i [] l) (ap (λ (n : List ℕ). with_room room (test n)) (test_name p uid a i l))
      by false e =
          rw (e, drop_of_length-le (tests p a) (ltb-false i (length (tests p a)) e)) (ap (λ (n : List ℕ). with_room room (read n)) (byuid_name p uid a))
  walk_turn (x ∷ s) i h = by (leb (length (tests p a)) i) refl (walk_turn s (suc i))
    where
      settles : (t : Bool) → eqb x 1 ≡ t → leb (length (tests p a)) i ≡ false → eqb x 0 ≡ false → (r : List ℕ) → s ≡ r → Along (x ∷ s) i
      settles true f e z [] q = rw (e, drop-cons (tests p a) i [] (leb-false (length (tests p a)) i e), z, f, q) granted_fits
      settles true f e z (y ∷ r) q = rw (e, drop-cons (tests p a) i [] (leb-false (length (tests p a)) i e), z, f, q, more_left y r)
      settles false f e z [] q = rw (e, drop-cons (tests p a) i [] (leb-false (length (tests p a)) i e), z, f, q) denied_fits
      settles false f e z (y ∷ r) q = rw (e, drop-cons (tests p a) i [] (leb-false (length (tests p a)) i e), z, f, q, more_left y r)

      goes : (t : Bool) → eqb x 0 ≡ t → leb (length (tests p a)) i ≡ false → (suc i ≤ length (tests p a) → Along s (suc i)) → Along (x ∷ s) i
      goes true z e more = let l = leb-false (length (tests p a)) i e in rw (e, drop-cons (tests p a) i [] l, z) (more (omega arith))
      goes false z e more = settles (eqb x 1) refl e z s refl

      by : (t : Bool) → leb (length (tests p a)) i ≡ t → (suc i ≤ length (tests p a) → Along s (suc i)) → Along (x ∷ s) i
      by true e more = rw (e, drop_of_length-le (tests p a) (leb-true (length (tests p a)) i e))
      by false e more = goes (eqb x 0) refl e more

  pub walk_step : (s : List ℕ) (n : ℕ) → n ≡ count_tests a → (t : Turn) → t ≡ turn_at 0 s n
      → step_at t p a uid room ≡ (walk (by_uid p uid) (map access_by s) (tests p a) >>= with_room room)
  walk_step s n is-n t is-t = rw (is-t, is-n, count_tests_lem p a) (sym (walk_turn s 0 (omega arith)))

-- ## What a name becomes

pub is_test : (w : Result ℕ Refusal) (r : Refusal) → w ≡ Err r → N.Refused r ≡ test_of w
is_test w r e = rw e

pub is_test_count : (w : Result ℕ Refusal) (n : ℕ) → w ≡ Ok n → N.Test n ≡ test_of w
is_test_count w n e = rw e

pub is_read : (w : Result ℕ Refusal) (r : Refusal) → w ≡ Err r → N.Refused r ≡ read_of w
is_read w r e = rw e

pub is_read_count : (w : Result ℕ Refusal) (n : ℕ) → w ≡ Ok n → N.Read n ≡ read_of w
is_read_count w n e = rw e

-- a name t that was written into d, as the test and as the byuid file
module _ (d d' t : List ℕ) (w : Result ℕ Refusal) (is-w : w ≡ written_of (within_room (length d) t)) (holds : d' ≡ lent_after d (within_room (length d) t)) (x : Next) where
  abbrev Becomes : Outcome Step → Type 0
  Becomes o = (x ≡ next_of o) × (d' ≡ lent_after d (name_written o))

  becomes_test : x ≡ test_of w → Becomes (with_room (length d) (test t))
  becomes_test e = by (ltb (length d) (length t)) refl
    where
      by : (b : Bool) → ltb (length d) (length t) ≡ b → Becomes (with_room (length d) (test t))
      by true q = (e ∙ rw (is-w, q), holds ∙ rw q)
      by false q = (e ∙ rw (is-w, q), holds ∙ rw q)

  becomes_read : x ≡ read_of w → Becomes (with_room (length d) (read t))
  becomes_read e = by (ltb (length d) (length t)) refl
    where
      by : (b : Bool) → ltb (length d) (length t) ≡ b → Becomes (with_room (length d) (read t))
      by true q = (e ∙ rw (is-w, q), holds ∙ rw q)
      by false q = (e ∙ rw (is-w, q), holds ∙ rw q)

-- ## Where the answers lead to

module _ (t : Turn) (p : ℕ) (a : Addr) (uid : ℕ) (d : List ℕ) where
  abbrev Next_is : Next → List ℕ → Type 0
  Next_is x d' = (x ≡ next_of (step_at t p a uid (length d))) × (d' ≡ lent_after d (name_written (step_at t p a uid (length d))))

  pub step_test : (k : ℕ) → t ≡ T.Test k → (f : File) → f ≡ file_of k → (d' : List ℕ) (w : Result ℕ Refusal)
      → (w ≡ written_of (within_room (length d) (name_for f p a uid))) × (d' ≡ lent_after d (within_room (length d) (name_for f p a uid)))
      → (x : Next) → x ≡ test_of w → Next_is x d'
  unfolding step_at
  step_test k e f is_f d' w h x is_x = rw (e, ← is_f) (becomes_test d d' (name_for f p a uid) w h.0 h.1 x is_x)

  pub step_read : t ≡ T.Byuid → (d' : List ℕ) (w : Result ℕ Refusal)
      → (w ≡ written_of (within_room (length d) (name_for File.Uid p a uid))) × (d' ≡ lent_after d (within_room (length d) (name_for File.Uid p a uid)))
      → (x : Next) → x ≡ read_of w → Next_is x d'
  unfolding step_at
  step_read e d' w h x is_x = rw e (becomes_read d d' (name_for File.Uid p a uid) w h.0 h.1 x is_x)

  pub step_granted : t ≡ T.Allowed → Next_is N.Granted d
  unfolding step_at
  step_granted e = rw e (refl, refl)

  pub step_denied : t ≡ T.Other → Next_is N.Denied d
  unfolding step_at
  step_denied e = rw e (refl, refl)

  pub step_late : t ≡ T.Late → (r : Refusal) → r ≡ placeless F.LateAnswer → Next_is (N.Refused r) d
  unfolding step_at
  step_late e r f = rw (e, f) (refl, refl)

-- ## The checks

not_true : (b : Bool) → not b ≡ true → b ≡ false
not_true true e = sym e
not_true false e = refl

not_false : (b : Bool) → not b ≡ false → b ≡ true
not_false true e = refl
not_false false e = sym e

module _ (s : List ℕ) (p : ℕ) (a : Addr) (uid : ℕ) where
  abbrev known : Bool
  known = addr_case a false (λ n. true) (λ n. true)

  -- what follows the checks of 13
  abbrev further : ℕ → Outcome Step
  further room =
      when not (is_ruled p uid) then Ok not_ruled
      else when left_out a then Err (placeless F.DottedAddress)
      else (walk (by_uid p uid) (map access_by s) (tests p a) >>= with_room room)

  abbrev after_fit : ℕ → Asked → Outcome Step
  after_fit room q =
      when not (is_ruled q.wanted.port q.wanted.uid) then Ok not_ruled
      else when left_out q.wanted.address then Err (placeless F.DottedAddress)
      else (walk (by_uid q.wanted.port q.wanted.uid) q.answers (tests q.wanted.port q.wanted.address) >>= with_room room)

  checked : (room : ℕ) → next_step (asking s (bind p a uid)) room ≡ (when all is_access s && known then further room else Err (placeless F.BadRequest))
  unfolding next_step
  checked room = rw (each_access s) (by (all is_access s))
    where
      by : (t : Bool) → fitting address_known (given t (map access_by s) and_then λ xs. Some (asked (bind p a uid) xs)) (after_fit room)
          ≡ (when t && known then further room else Err (placeless F.BadRequest))
      by true = refl
      by false = refl

module _ (s : List ℕ) (p : ℕ) (a : Addr) (uid : ℕ) (d : List ℕ) (x y : Bool) (is_x : x ≡ all is_access s)
    (is_y : y ≡ addr_case a false (λ n. true) (λ n. true)) where
  abbrev Answers : Next → List ℕ → Type 0
  Answers n d' = (n ≡ next_of (next_step (asking s (bind p a uid)) (length d))) × (d' ≡ lent_after d (name_written (next_step (asking s (bind p a uid)) (length d))))

  pub unfit : not (x && y) ≡ true → (r : Refusal) → r ≡ placeless F.BadRequest → Answers (N.Refused r) d
  unfit e r f = rw (checked s p a uid (length d), ← is_x, ← is_y, not_true (x && y) e, f) (refl, refl)

  module _ (fit : not (x && y) ≡ false) (z : Bool) (is-z : z ≡ is_ruled p uid) where
    further_is : next_step (asking s (bind p a uid)) (length d) ≡ further s p a uid (length d)
    further_is = checked s p a uid (length d) ∙ rw (← is_x, ← is_y, not_false (x && y) fit)

    pub not_ruled_lem : not z ≡ true → Answers N.NotRuled d
    not_ruled_lem e = rw (further_is, ← is-z, e) (refl, refl)

    module _ (ruled : not z ≡ false) (v : Bool) (is_v : v ≡ left_out a) where
      pub left_out_lem : v ≡ true → (r : Refusal) → r ≡ placeless F.DottedAddress → Answers (N.Refused r) d
      left_out_lem e r f = rw (further_is, ← is-z, ruled, ← is_v, e, f) (refl, refl)

      pub goes_on : v ≡ false → (k : ℕ) → k ≡ count_tests a → (t : Turn) → t ≡ turn_at 0 s k → (n : Next) (d' : List ℕ)
          → (n ≡ next_of (step_at t p a uid (length d))) × (d' ≡ lent_after d (name_written (step_at t p a uid (length d)))) → Answers n d'
      goes_on e k is-k t is-t n d' h =
          let same : step_at t p a uid (length d) ≡ next_step (asking s (bind p a uid)) (length d) =
          walk_step p a uid (length d) s k is-k t is-t ∙ sym (further_is ∙ rw (← is-z, ruled, ← is_v, e)) in
          (h.0 ∙ ap next_of same, h.1 ∙ ap (λ (o : Outcome Step). lent_after d (name_written o)) same)
