-- Fields read byte by byte are the fields that the definitions read; what a pass over them tells.
-- Assumes nothing.
use Rattle.std.specs.Prelude.{None, Option, Some}
use Prim.Native.Nat.{ℕ, zero, suc, ◌+◌, ◌-◌, ◌*◌, ◌^◌, ◌<◌, ◌≤◌}
use native.Mathlib.Nat.{pow-suc, pow-le-pow_right}
use native.Mathlib.Numerals.{add-one}
use native.Mathlib.Omega.{arith}
use mathlib.Core.Bool.{Bool, true, false, not, ◌&&◌, true≢false}
use mathlib.Core.List.{List, [], ◌∷◌, map}
use mathlib.Core.Path.{◌≡◌, refl, sym, ap, subst, ◌∙◌}
use borrow.Author.Tests.{eqb-true, eqb-false, eq-eqb, ne_eqb, le-leb, lt-leb, leb-true, leb-false, ltb-false, ltb-true}
use lib.Dec.{leb, ltb, eqb}
use lib.ListN.{length, take, drop, get_or, drop_of_length-le}
use lib.Seq.{drop-cons}
use Rattle.text.specs.Basics.{when◌then◌else◌, ◌>>=◌, given, all, any, each}
use Rattle.text.specs.Text.{among, equal, split, cons_head, is_digit}
use Rattle.text.specs.Number.{from_digits, digit_value, numeral, read_decimal}
use Rattle.text.proofs.BasicLaws.{and_true}
use Rattle.text.proofs.Canonical.{Canonical, value, from_digits_le, read_decimal_some, read_decimal_over, read_decimal_not, digit_value_digit, digit_low, digit_high}
use Rattle.address.specs.Address.{read_v4}
use Rattle.address.specs.Fields.{field_more, field_fits, digits_from, run_fields, address_from, ended_address, step_of, on_step, run_from}
use Rattle.address.specs.declared.fields.Run.{Run}
use Rattle.address.specs.declared.fields.Run.TheVariants as R
use Rattle.address.specs.declared.fields.Step.{Step}
use Rattle.address.specs.declared.fields.Step.TheVariants as S

clash : {A : Type 0} → true ≡ false → A
clash e = absurd (true≢false e)

-- ## One field

abbrev rest : ℕ → List ℕ → ℕ
rest v t = from_digits 10 v (map digit_value t)

-- after a first digit that is not zero: every byte is a digit, and the number is at most 255
started : (v : ℕ) (t : List ℕ) → 0 < v → v ≤ 255 → digits_from v true t ≡ given (all is_digit t && leb (rest v t) 255) (rest v t)
unfolding digits_from from_digits all
started v [] p h = rw (le-leb v 255 h)
started v (b ∷ t) p h = by (is_digit b) (leb (field_more v b) 255) refl refl (λ k. started (field_more v b) t (omega arith) k)
  where
    by : (x y : Bool) → is_digit b ≡ x → leb (field_more v b) 255 ≡ y
        → (field_more v b ≤ 255 → digits_from (field_more v b) true t ≡ given (all is_digit t && leb (rest (field_more v b) t) 255) (rest (field_more v b) t))
        → digits_from v true (b ∷ t) ≡ given (all is_digit (b ∷ t) && leb (rest v (b ∷ t)) 255) (rest v (b ∷ t))
    by false y e f ih = simp e
    by true true e f ih = simp (e, f, ne_eqb v 0 (λ z. omega arith)) (ih (leb-true (field_more v b) 255 f))
    by true false e f ih =
        let m : field_more v b ≤ rest (field_more v b) t = from_digits_le 10 (field_more v b) (map digit_value t) (omega arith) in
        let l : 255 < rest (field_more v b) t = omega (arith, leb-false (field_more v b) 255 f) in
        simp (e, f, lt-leb (rest (field_more v b) t) 255 l) (dead (all is_digit t) (not (eqb v 0)) (rest (field_more v b) t))
      where
        dead : (x y : Bool) (n : ℕ) → (when y && false then digits_from (field_more v b) true t else None) ≡ given (x && false) n
        dead true true n = refl
        dead true false n = refl
        dead false true n = refl
        dead false false n = refl

zero_read : (t : List ℕ) → read_decimal 255 (48 ∷ t) ≡ digits_from 0 true t
unfolding digits_from all read_decimal from_digits numeral equal
zero_read [] = refl
zero_read (c ∷ t) =
    read_decimal_not 255 (48 ∷ c ∷ t) (omega arith) (λ k. k.lead (omega arith) refl) ∙ sym (by (is_digit c) (leb (field_more 0 c) 255))
  where
    by : (x y : Bool) → (when x && (not (true && true) && y) then digits_from (field_more 0 c) true t else None) ≡ None
    by true y = refl
    by false y = refl

digit_read : (b : ℕ) (t : List ℕ) → is_digit b ≡ true → (b ≡ 48 → ⊥) → read_decimal 255 (b ∷ t) ≡ digits_from (field_more 0 b) true t
unfolding all from_digits
digit_read b t e n =
    sym (started (field_more 0 b) t (omega (arith, digit_low b e)) (omega (arith, digit_high b e))
    ∙ by (all is_digit t) (leb (rest (field_more 0 b) t) 255) refl refl)
  where
    is_value : value (b ∷ t) ≡ rest (field_more 0 b) t
    is_value = ap (λ (x : ℕ). from_digits 10 (0 * 10 + x) (map digit_value t)) (digit_value_digit b e)

    by : (x y : Bool) → all is_digit t ≡ x → leb (rest (field_more 0 b) t) 255 ≡ y → given (x && y) (rest (field_more 0 b) t) ≡ read_decimal 255 (b ∷ t)
    by true true f g =
        let c : Canonical (b ∷ t) = record { some = omega arith; digits = rw (e, f); lead = λ l z. n z } in
        let h : value (b ∷ t) ≤ 255 = omega (arith, is_value, leb-true (rest (field_more 0 b) t) 255 g) in
        sym (read_decimal_some 255 (b ∷ t) c h (omega arith) ∙ ap Some is_value)
    by true false f g = sym (read_decimal_over 255 (b ∷ t) (omega (arith, is_value, leb-false (rest (field_more 0 b) t) 255 g)))
    by false y f g = sym (read_decimal_not 255 (b ∷ t) (omega arith) (λ c. clash (sym (and_true (is_digit b) (all is_digit t) c.digits).1 ∙ f)))

-- a field read byte by byte
pub field_read : (t : List ℕ) → read_decimal 255 t ≡ digits_from 0 false t
unfolding digits_from all
field_read [] = read_decimal_not 255 [] (omega arith) (λ c. omega (arith, c.some))
field_read (b ∷ t) = by (is_digit b) (eqb b 48) refl refl
  where
    by : (x y : Bool) → is_digit b ≡ x → eqb b 48 ≡ y → read_decimal 255 (b ∷ t) ≡ digits_from 0 false (b ∷ t)
    by false y e f = read_decimal_not 255 (b ∷ t) (omega arith) (λ c. clash (sym (and_true (is_digit b) (all is_digit t) c.digits).0 ∙ e)) ∙ simp e
    by true true e f = rw (eqb-true b 48 f) (zero_read t)
    by true false e f =
        let h : field_more 0 b ≤ 255 = omega (arith, digit_high b e) in
        simp (e, le-leb (field_more 0 b) 255 h) (digit_read b t e (eqb-false b 48 f))

-- ## The fields of a text

-- the parts ws, of the first of which digits that write v were read before
abbrev pub each_from : ℕ → Bool → List (List ℕ) → Option (List ℕ)
each_from v d [] = None
each_from v d (w ∷ ws) = digits_from v d w >>= λ y. each (read_decimal 255) ws >>= λ ys. Some (y ∷ ys)

each_from_lem : (w : List ℕ) (ws : List (List ℕ)) → each (read_decimal 255) (w ∷ ws) ≡ each_from 0 false (w ∷ ws)
unfolding each
each_from_lem w ws = rw (field_read w)

pub split_cons : (s : List ℕ) → (w : List ℕ) × (ws : List (List ℕ)) × (split "." s ≡ w ∷ ws)
unfolding split
split_cons [] = ([], [], refl)
split_cons (x ∷ s) = by (among "." x) (split "." s)
  where
    by : (b : Bool) (l : List (List ℕ)) → (w : List ℕ) × (ws : List (List ℕ)) × ((when b then [] ∷ l else cons_head x l) ≡ w ∷ ws)
    by true l = ([], l, refl)
    by false [] = (x ∷ [], [], refl)
    by false (w ∷ ws) = (x ∷ w, ws, refl)

pub each_split : (t : List ℕ) → each_from 0 false (split "." t) ≡ each (read_decimal 255) (split "." t)
each_split t = let q = split_cons t in rw q.2 (sym (each_from_lem q.0 q.1))

module _ (v : ℕ) (d : Bool) where
  -- one part, and what follows a dot
  pub dot_after : (o p : Option (List ℕ)) → o ≡ p → (x : Bool)
      → (when x then (o >>= λ fs. Some (v ∷ fs)) else None) ≡ (given x v >>= λ y. p >>= λ ys. Some (y ∷ ys))
  dot_after o p e true = rw e
  dot_after o p e false = refl

  pub digit_after : (o : Option (List ℕ)) (w : List ℕ) (ws : List (List ℕ)) → o ≡ each_from v d (w ∷ ws) → (x : Bool)
      → (when x then o else None) ≡ ((when x then digits_from v d w else None) >>= λ y. each (read_decimal 255) ws >>= λ ys. Some (y ∷ ys))
  digit_after o w ws e true = e
  digit_after o w ws e false = refl

pub run_fields_lem : (v : ℕ) (d : Bool) (t : List ℕ) → run_fields v d t ≡ each_from v d (split "." t)
unfolding run_fields digits_from split each any
run_fields_lem v true [] = refl
run_fields_lem v false [] = refl
run_fields_lem v d (b ∷ t) = by (eqb b 46) refl (split_cons t) (λ u x. run_fields_lem u x t)
  where
    by : (p : Bool) → eqb b 46 ≡ p → (w : List ℕ) × (ws : List (List ℕ)) × (split "." t ≡ w ∷ ws)
        → ((u : ℕ) (x : Bool) → run_fields u x t ≡ each_from u x (split "." t))
        → run_fields v d (b ∷ t) ≡ each_from v d (split "." (b ∷ t))
    by true e q ih = simp e (dot_after v d (run_fields 0 false t) (each (read_decimal 255) (split "." t)) (ih 0 false ∙ each_split t) d)
    by false e q ih =
        let g : run_fields (field_more v b) true t ≡ each_from (field_more v b) true (q.0 ∷ q.1) =
        ih (field_more v b) true ∙ ap (each_from (field_more v b) true) q.2 in
        simp (e, q.2) (digit_after (field_more v b) true (run_fields (field_more v b) true t) q.0 q.1 g (field_fits v d b))

-- an address, as one pass reads its fields
pub fields_run : (t : List ℕ) → each (read_decimal 255) (split "." t) ≡ run_fields 0 false t
fields_run t = sym (run_fields_lem 0 false t ∙ each_split t)

-- ## One byte, by the state of the pass

-- a field more
address_cons : (k n v : ℕ) (o : Option (List ℕ)) → ((o >>= λ fs. Some (v ∷ fs)) >>= λ fs. given (eqb (k + length fs) 4) (from_digits 256 n fs))
    ≡ (o >>= λ fs. given (eqb (k + 1 + length fs) 4) (from_digits 256 (n * 256 + v) fs))
unfolding from_digits
address_cons k n v None = refl
address_cons k n v (Some fs) =
    let e : k + suc (length fs) ≡ k + 1 + length fs = omega arith in
    ap (λ (j : ℕ). given (eqb j 4) (from_digits 256 (n * 256 + v) fs)) e

-- a text has at least one field
pub each_pos : (v : ℕ) (d : Bool) (l : List (List ℕ)) (fs : List ℕ) → each_from v d l ≡ Some fs → 0 < length fs
each_pos v d [] fs e = let z : ◌≡◌ {A = ℕ} 0 1 = cc in absurd (omega arith)
each_pos v d (w ∷ ws) fs e = by (digits_from v d w) (each (read_decimal 255) ws) fs e
  where
    by : (o : Option ℕ) (r : Option (List ℕ)) (fs : List ℕ) → (o >>= λ y. r >>= λ ys. Some (y ∷ ys)) ≡ Some fs → 0 < length fs
    by None r fs e = let z : ◌≡◌ {A = ℕ} 0 1 = cc in absurd (omega arith)
    by (Some y) None fs e = let z : ◌≡◌ {A = ℕ} 0 1 = cc in absurd (omega arith)
    by (Some y) (Some ys) [] e = let z : ◌≡◌ {A = ℕ} 0 1 = cc in absurd (omega arith)
    by (Some y) (Some ys) (v ∷ fs) e = omega arith

-- no field more after three that a dot ended
address_full : (k n v : ℕ) (t : List ℕ) → 3 ≤ k
    → ((run_fields 0 false t >>= λ fs. Some (v ∷ fs)) >>= λ fs. given (eqb (k + length fs) 4) (from_digits 256 n fs)) ≡ None
address_full k n v t h = by (run_fields 0 false t) refl
  where
    by : (o : Option (List ℕ)) → run_fields 0 false t ≡ o → ((o >>= λ fs. Some (v ∷ fs)) >>= λ fs. given (eqb (k + length fs) 4) (from_digits 256 n fs)) ≡ None
    by None e = refl
    by (Some fs) e =
        let p : 0 < length fs = each_pos 0 false (split "." t) fs (sym (run_fields_lem 0 false t) ∙ e) in
        rw (ne_eqb (k + suc (length fs)) 4 (λ z. omega arith))

module _ (n k v : ℕ) (d : Bool) (b : ℕ) (t : List ℕ) where
  abbrev AddressSteps : Step → Type 0
  AddressSteps S.Nothing = address_from n k v d (b ∷ t) ≡ None
  AddressSteps S.Stop = address_from n k v d (b ∷ t) ≡ None
  AddressSteps (S.Go m j u x) = address_from n k v d (b ∷ t) ≡ address_from m j u x t

  dead : (g : Bool) → eqb b 46 ≡ false → field_fits v d b ≡ false → AddressSteps (when g then S.Nothing else S.Stop)
  unfolding run_fields
  dead true e f = simp (e, f)
  dead false e f = simp (e, f)

  address_step : AddressSteps (step_of n k v d b)
  unfolding run_fields step_of
  address_step = by (eqb b 46) d (ltb k 3) (field_fits v d b) refl refl refl refl
    where
      by : (p x l f : Bool) → eqb b 46 ≡ p → d ≡ x → ltb k 3 ≡ l → field_fits v d b ≡ f → AddressSteps (step_of n k v d b)
      by true true true f e1 e2 e3 e4 = simp (e1, e2, e3) (address_cons k n v (run_fields 0 false t))
      by true true false f e1 e2 e3 e4 = simp (e1, e2, e3) (address_full k n v t (ltb-false k 3 e3))
      by true false l f e1 e2 e3 e4 = simp (e1, e2)
      by false x l true e1 e2 e3 e4 = simp (e1, e4)
      by false x l false e1 e2 e3 e4 = simp (e1, e4) (dead (is_digit b) e1 e4)

  pub address_stops : step_of n k v d b ≡ S.Stop → address_from n k v d (b ∷ t) ≡ None
  address_stops q = subst AddressSteps q address_step

pub address_end_lem : (n k v : ℕ) (d : Bool) → address_from n k v d [] ≡ ended_address n k v d
unfolding run_fields from_digits
address_end_lem n k v true = by (eqb k 3) refl
  where
    by : (x : Bool) → eqb k 3 ≡ x → given (eqb (k + 1) 4) (n * 256 + v) ≡ given x (n * 256 + v)
    by true e = rw (eq-eqb (k + 1) 4 (omega (arith, eqb-true k 3 e)))
    by false e = rw (ne_eqb (k + 1) 4 (λ q. eqb-false k 3 e (omega arith)))
address_end_lem n k v false = refl

pub address_start : (t : List ℕ) → read_v4 t ≡ address_from 0 0 0 false t
unfolding read_v4
address_start t = rw (fields_run t) (by (run_fields 0 false t))
  where
    by : (o : Option (List ℕ))
        → (o >>= λ fs. given (eqb (length fs) 4) (from_digits 256 0 fs)) ≡ (o >>= λ fs. given (eqb (0 + length fs) 4) (from_digits 256 0 fs))
    by None = refl
    by (Some fs) = let e : length fs ≡ 0 + length fs = omega arith in ap (λ (k : ℕ). given (eqb k 4) (from_digits 256 0 fs)) e

-- ## The code's tests of one byte

module _ (n k v : ℕ) (d : Bool) (b : ℕ) where
  pub step_dot : b ≡ 46 → (d && ltb k 3) ≡ true → S.Go (n * 256 + v) (k + 1) 0 false ≡ step_of n k v d b
  unfolding step_of
  step_dot e f = simp (eq-eqb b 46 e, f)

  pub step_dots : b ≡ 46 → (d && ltb k 3) ≡ false → S.Nothing ≡ step_of n k v d b
  unfolding step_of
  step_dots e f = simp (eq-eqb b 46 e, f)

  module _ (e : b ≡ 46 → ⊥) where
    pub step_below : b < 48 → S.Stop ≡ step_of n k v d b
    unfolding step_of
    step_below l = simp (ne_eqb b 46 e, lt-leb 48 b l)

    pub step_above : 57 < b → S.Stop ≡ step_of n k v d b
    unfolding step_of
    step_above l = let h : 48 ≤ b = omega arith in simp (ne_eqb b 46 e, le-leb 48 b h, lt-leb b 57 l)

    module _ (l : 48 ≤ b) (h : b ≤ 57) where
      pub step_zero : (d && eqb v 0) ≡ true → S.Nothing ≡ step_of n k v d b
      unfolding step_of
      step_zero f = simp (ne_eqb b 46 e, le-leb 48 b l, le-leb b 57 h, f)

      pub step_beyond : (d && eqb v 0) ≡ false → 255 < field_more v b → S.Nothing ≡ step_of n k v d b
      unfolding step_of
      step_beyond f g = simp (ne_eqb b 46 e, le-leb 48 b l, le-leb b 57 h, f, lt-leb (field_more v b) 255 g)

      pub step_digit : (d && eqb v 0) ≡ false → field_more v b ≤ 255 → S.Go n k (field_more v b) true ≡ step_of n k v d b
      unfolding step_of
      step_digit f g = simp (ne_eqb b 46 e, le-leb 48 b l, le-leb b 57 h, f, le-leb (field_more v b) 255 g)

-- ## The loop over the fields from i on, at j

pub record Running (e : List ℕ) (i j n k v : ℕ) (d : Bool) : Type 0 where
  pub from : i ≤ j
  pub within : j ≤ length e
  pub few : k ≤ 3
  pub small : n < 256 ^ k
  pub field : v ≤ 255
  pub number : n < 16777216
  pub so_far : run_from i 0 0 0 false (drop i e) ≡ run_from j n k v d (drop j e)

pub running_start : (e : List ℕ) (i : ℕ) → i ≤ length e → Running e i i 0 0 0 false
running_start e i h =
    record { from = omega arith; within = h; few = omega arith; small = omega arith; field = omega arith; number = omega arith; so_far = refl }

step_bounds : (n k v : ℕ) (d : Bool) (b m l u : ℕ) (x : Bool) → k ≤ 3 → n < 256 ^ k → v ≤ 255 → step_of n k v d b ≡ S.Go m l u x
    → (m < 256 ^ l) × ((l ≤ 3) × (u ≤ 255))
unfolding step_of
step_bounds n k v d b m l u x few small field h = by (eqb b 46) (d && ltb k 3) (leb (field_more v b) 255) (is_digit b) (not (d && eqb v 0)) refl refl h
  where
    by : (p q f g o : Bool) → (d && ltb k 3) ≡ q → leb (field_more v b) 255 ≡ f
        → (when p then (when q then S.Go (n * 256 + v) (k + 1) 0 false else S.Nothing) else when g && (o && f) then S.Go n k (field_more v b) true
        else when g then S.Nothing else S.Stop)
        ≡ S.Go m l u x
        → (m < 256 ^ l) × ((l ≤ 3) × (u ≤ 255))
    by true true f g o e1 e2 h =
        let z : k < 3 = ltb-true k 3 (and_true d (ltb k 3) e1).1 in
        let em : n * 256 + v ≡ m = cc in
        let el : k + 1 ≡ l = cc in
        let eu : 0 ≡ u = cc in
        (rw (← em, ← el, add-one k, pow-suc 256 k) (omega arith), (omega arith, omega arith))
    by true false f g o e1 e2 h = let z : ◌≡◌ {A = ℕ} 0 1 = cc in absurd (omega arith)
    by false q true true true e1 e2 h =
        let em : n ≡ m = cc in
        let el : k ≡ l = cc in
        let eu : field_more v b ≡ u = cc in
        (rw (← em, ← el) small, (omega arith, omega (arith, leb-true (field_more v b) 255 e2)))
    by false q true true false e1 e2 h = let z : ◌≡◌ {A = ℕ} 0 1 = cc in absurd (omega arith)
    by false q false true true e1 e2 h = let z : ◌≡◌ {A = ℕ} 0 1 = cc in absurd (omega arith)
    by false q false true false e1 e2 h = let z : ◌≡◌ {A = ℕ} 0 1 = cc in absurd (omega arith)
    by false q f false o e1 e2 h = let z : ◌≡◌ {A = ℕ} 0 1 = cc in absurd (omega arith)

module _ (e : List ℕ) (i j n k v : ℕ) (d : Bool) (h : Running e i j n k v d) where
  pub running_end : length e ≤ j → R.At j n k v d ≡ run_from i 0 0 0 false (drop i e)
  unfolding run_from
  running_end l = sym (h.so_far ∙ rw (drop_of_length-le e l))

  module _ (lt : j < length e) (s : Step) (is-s : s ≡ step_of n k v d (get_or e j 0)) where
    run_step : run_from i 0 0 0 false (drop i e) ≡ on_step s (R.At j n k v d) (λ m l u x. run_from (suc j) m l u x (drop (suc j) e))
    unfolding run_from
    run_step = h.so_far ∙ rw (drop-cons e j 0, is-s)

    pub running_fails : s ≡ S.Nothing → R.Failed ≡ run_from i 0 0 0 false (drop i e)
    running_fails q = sym (run_step ∙ rw q)

    pub running_stops : s ≡ S.Stop → R.At j n k v d ≡ run_from i 0 0 0 false (drop i e)
    running_stops q = sym (run_step ∙ rw q)

    pub running_goes : (m l u : ℕ) (x : Bool) → s ≡ S.Go m l u x → Running e i (j + 1) m l u x
    running_goes m l u x q =
        let b = step_bounds n k v d (get_or e j 0) m l u x h.few h.small h.field (sym is-s ∙ q) in
        record {
          from = omega (arith, h.from);
          within = omega arith;
          few = b.1.0;
          small = b.0;
          field = b.1.1;
          number = omega (arith, b.0, pow-le-pow_right {n = 256} (omega arith) b.1.0);
          so_far = run_step ∙ rw (q, add-one j);
        }

-- ## What a pass tells

-- what is read of a text in a state, so that a byte that the pass fails at makes it bad, and any other only moves the state
pub record Follows {X : Type 0} (f : ℕ → ℕ → ℕ → Bool → List ℕ → X) (bad : X) : Type 0 where
  pub fails : (n k v : ℕ) (d : Bool) (b : ℕ) (t : List ℕ) → step_of n k v d b ≡ S.Nothing → f n k v d (b ∷ t) ≡ bad
  pub goes : (n k v : ℕ) (d : Bool) (b : ℕ) (t : List ℕ) (m l u : ℕ) (x : Bool) → step_of n k v d b ≡ S.Go m l u x → f n k v d (b ∷ t) ≡ f m l u x t

-- the pass came to i of e, with the state there
pub record Landed (e : List ℕ) (i n k v : ℕ) (d : Bool) : Type 0 where
  pub within : i ≤ length e
  pub few : k ≤ 3
  pub small : n < 256 ^ k
  pub number : n < 16777216
  pub field : v ≤ 255
  pub stops : i < length e → step_of n k v d (get_or e i 0) ≡ S.Stop

module _ {X : Type 0} (f : ℕ → ℕ → ℕ → Bool → List ℕ → X) (bad : X) (follows : Follows f bad) (e : List ℕ) where
  abbrev Agrees : X → Run → Type 0
  Agrees y R.Failed = y ≡ bad
  Agrees y (R.At i m l u x) = (y ≡ f m l u x (drop i e)) × Landed e i m l u x

  told : (t : List ℕ) (j n k v : ℕ) (d : Bool) → drop j e ≡ t → j + length t ≡ length e → k ≤ 3 → n < 256 ^ k → v ≤ 255
      → Agrees (f n k v d t) (run_from j n k v d t)
  unfolding run_from
  told [] j n k v d q l few small field = (
    ap (f n k v d) (sym q),
    record {
      within = omega arith;
      few = few;
      small = small;
      number = omega (arith, pow-le-pow_right {n = 256} (omega arith) few);
      field = field;
      stops = λ h. absurd (omega arith);
    },
  )
  told (b ∷ t) j n k v d q l few small field = by (step_of n k v d b) refl (λ m o u x h. told t (suc j) m o u x (tail q) (omega arith))
    where
      inside : j < length e
      inside = omega arith

      tail : drop j e ≡ b ∷ t → drop (suc j) e ≡ t
      tail q = let z : get_or e j 0 ∷ drop (suc j) e ≡ b ∷ t = sym (drop-cons e j 0 inside) ∙ q in cc

      head : drop j e ≡ b ∷ t → get_or e j 0 ≡ b
      head q = let z : get_or e j 0 ∷ drop (suc j) e ≡ b ∷ t = sym (drop-cons e j 0 inside) ∙ q in cc

      by : (s : Step) → step_of n k v d b ≡ s
          → ((m o u : ℕ) (x : Bool) → step_of n k v d b ≡ S.Go m o u x → o ≤ 3 → m < 256 ^ o → u ≤ 255 → Agrees (f m o u x t) (run_from (suc j) m o u x t))
          → Agrees (f n k v d (b ∷ t)) (on_step s (R.At j n k v d) (λ m l u x. run_from (suc j) m l u x t))
      by S.Nothing h ih = follows.fails n k v d b t h
      by S.Stop h ih = (
        ap (f n k v d) (sym q),
        record {
          within = omega arith;
          few = few;
          small = small;
          number = omega (arith, pow-le-pow_right {n = 256} (omega arith) few);
          field = field;
          stops = λ i. ap (step_of n k v d) (head q) ∙ h;
        },
      )
      by (S.Go m o u x) h ih =
          let g = step_bounds n k v d b m o u x few small field h in
          subst (λ (y : X). Agrees y (run_from (suc j) m o u x t)) (sym (follows.goes n k v d b t m o u x h)) (ih m o u x h g.1.0 g.0 g.1.1)

  module _ (r : Run) (is-r : r ≡ run_from 0 0 0 0 false e) where
    whole : Agrees (f 0 0 0 false e) r
    whole = rw is-r (told e 0 0 0 0 false refl (omega arith) (omega arith) (omega arith) (omega arith))

    pub run_failed : r ≡ R.Failed → f 0 0 0 false e ≡ bad
    run_failed q = subst (Agrees (f 0 0 0 false e)) q whole

    module _ (i n k v : ℕ) (d : Bool) (q : r ≡ R.At i n k v d) where
      pub run_at : (f 0 0 0 false e ≡ f n k v d (drop i e)) × Landed e i n k v d
      run_at = subst (Agrees (f 0 0 0 false e)) q whole

-- ## An address, by a pass over the whole text

pub follows_address : Follows address_from None
follows_address = record {
  fails = λ n k v d b t q. subst (AddressSteps n k v d b t) q (address_step n k v d b t);
  goes = λ n k v d b t m l u x q. subst (AddressSteps n k v d b t) q (address_step n k v d b t);
}

module _ (s : List ℕ) (r : Run) (is-r : r ≡ run_from 0 0 0 0 false s) where
  pub v4_failed : r ≡ R.Failed → None ≡ read_v4 s
  v4_failed q = sym (address_start s ∙ run_failed address_from None follows_address s r is-r q)

  module _ (i n k v : ℕ) (d : Bool) (q : r ≡ R.At i n k v d) where
    at : (address_from 0 0 0 false s ≡ address_from n k v d (drop i s)) × Landed s i n k v d
    at = run_at address_from None follows_address s r is-r i n k v d q

    pub landed : Landed s i n k v d
    landed = at.1

    pub landed_number : n < 16777216
    landed_number = landed.number

    pub landed_field : v ≤ 255
    landed_field = landed.field

    -- what address_from finds where the pass stopped before the end
    pub v4_stopped : i < length s → None ≡ read_v4 s
    v4_stopped h =
        let g : address_from n k v d (drop i s) ≡ None = rw (drop-cons s i 0 h) (address_stops n k v d (get_or s i 0) (drop (suc i) s) (landed.stops h)) in
        sym (address_start s ∙ at.0 ∙ g)

    pub v4_ended : length s ≤ i → (x : Option ℕ) → x ≡ ended_address n k v d → x ≡ read_v4 s
    v4_ended h x e =
        e ∙ sym (address_start s ∙ at.0 ∙ ap (address_from n k v d) (drop_of_length-le s h) ∙ address_end_lem n k v d)
