-- Texts that differ in the case of letters alone: what does not see the difference.
--   Alike x y      x and y are equal but for case, byte by byte
--   Blind p        the test p does not see the case of a byte; computed for the letters, blind-by
-- Assumes nothing.
use Rattle.std.specs.Prelude.{None, Option, Some}
use Prim.Native.Nat.{ℕ, zero, suc, ◌+◌, ◌-◌, ◌≤◌, ◌<◌}
use Prim.Native.Char.{Char, code}
use Prim.Native.String.{String, [] as end, ◌∷◌ as ◌then◌}
use mathlib.Core.Bool.{Bool, true, false, not, ◌&&◌, ◌||◌, true≢false, or-true}
use mathlib.Core.List.{List, [], ◌∷◌, ◌++◌, map, reverse}
use mathlib.Core.Path.{◌≡◌, refl, sym, ap, ap₂, ◌∙◌}
use native.Mathlib.Omega.{arith}
use borrow.Author.Tests.{eqb-true, eqb-false, eq-eqb, leb-true, not-true}
use lib.Dec.{eqb, leb}
use lib.ListN.{length, take, drop}
use Rattle.text.specs.Basics.{when◌then◌else◌, any, all}
use Rattle.text.specs.Text.{bytes, among, equal, starts_with, first_among, last_among, cons_first, split_once, cons_head, split, in_range, is_digit}
use Rattle.text.specs.Text.{lower, equal_fold}
use Rattle.text.specs.Number.{from_digits, digit_value, decimal, read_decimal}
use Rattle.text.proofs.BasicLaws.{and_true}
use Rattle.text.proofs.ScanLaws.{eq_of_equal}
use Rattle.text.proofs.Numeral.{read_decimal_none}

-- ## Bytes

-- two bytes equal but for case: the same, or the two cases of the k-th letter
pub data Cased : ℕ → ℕ → Type 0 where
  same : (x : ℕ) → Cased x x
  up : (k : ℕ) → k < 26 → Cased (65 + k) (97 + k)
  down : (k : ℕ) → k < 26 → Cased (97 + k) (65 + k)

cased_at : (x y k : ℕ) → x ≡ 65 + k → y ≡ 97 + k → k < 26 → Cased x y
cased_at x y k e f h = rw (e, f) (up k h)

cased_down : (x y k : ℕ) → x ≡ 97 + k → y ≡ 65 + k → k < 26 → Cased x y
cased_down x y k e f h = rw (e, f) (down k h)

pub cased : (x y : ℕ) → lower x ≡ lower y → Cased x y
unfolding lower
cased x y = by (leb 65 x) refl (leb x 90) refl (leb 65 y) refl (leb y 90) refl
  where
    by : (a : Bool) → leb 65 x ≡ a → (b : Bool) → leb x 90 ≡ b → (c : Bool) → leb 65 y ≡ c → (d : Bool) → leb y 90 ≡ d
        → (when a && b then x + 32 else x) ≡ (when c && d then y + 32 else y) → Cased x y
    by true p true q true r true s e = let z : x ≡ y = omega arith in rw z (same y)
    by true p true q true r false s e =
        cased_at x y (x - 65) (omega (arith, leb-true 65 x p)) (omega (arith, leb-true 65 x p)) (omega (arith, leb-true x 90 q, leb-true 65 x p))
    by true p true q false r d s e =
        cased_at x y (x - 65) (omega (arith, leb-true 65 x p)) (omega (arith, leb-true 65 x p)) (omega (arith, leb-true x 90 q, leb-true 65 x p))
    by true p false q true r true s e =
        cased_down x y (y - 65) (omega (arith, leb-true 65 y r)) (omega (arith, leb-true 65 y r)) (omega (arith, leb-true y 90 s, leb-true 65 y r))
    by true p false q true r false s e = let z : x ≡ y = e in rw z (same y)
    by true p false q false r d s e = let z : x ≡ y = e in rw z (same y)
    by false p b q true r true s e =
        cased_down x y (y - 65) (omega (arith, leb-true 65 y r)) (omega (arith, leb-true 65 y r)) (omega (arith, leb-true y 90 s, leb-true 65 y r))
    by false p b q true r false s e = let z : x ≡ y = e in rw z (same y)
    by false p b q false r d s e = let z : x ≡ y = e in rw z (same y)

-- ## Tests that are blind to case

module _ {A : Type 0} (p : ℕ → A) where
  -- for the letters below the k-th
  pub Blindly : ℕ → Type 0
  Blindly zero = Unit {0}
  Blindly (suc k) = (p (65 + k) ≡ p (97 + k)) × Blindly k

  letter : (n k : ℕ) → Blindly n → k < n → p (65 + k) ≡ p (97 + k)
  unfolding Blindly
  letter zero k b h = absurd (omega arith)
  letter (suc n) k b h = by (eqb k n) refl (λ q. letter n k b.1 q)
    where
      by : (c : Bool) → eqb k n ≡ c → (k < n → p (65 + k) ≡ p (97 + k)) → p (65 + k) ≡ p (97 + k)
      by true e ih = rw (eqb-true k n e) b.0
      by false e ih = ih (omega (arith, eqb-false k n e))

  pub blind : Blindly 26 → (x y : ℕ) → Cased x y → p x ≡ p y
  blind b x y (same z) = refl
  blind b x y (up k h) = letter 26 k b h
  blind b x y (down k h) = sym (letter 26 k b h)

-- the same as computed tests
unfoldable pub blind_number : (ℕ → ℕ) → ℕ → Bool
blind_number p zero = true
blind_number p (suc k) = eqb (p (65 + k)) (p (97 + k)) && blind_number p k

pub number_blindly : (p : ℕ → ℕ) (k : ℕ) → blind_number p k ≡ true → Blindly p k
unfolding Blindly blind_number
number_blindly p zero e = tt
number_blindly p (suc k) e =
    let a = and_true (eqb (p (65 + k)) (p (97 + k))) (blind_number p k) e in (eqb-true (p (65 + k)) (p (97 + k)) a.0, number_blindly p k a.1)

abbrev pub agree : Bool → Bool → Bool
agree true b = b
agree false b = not b

agree_true : (a b : Bool) → agree a b ≡ true → a ≡ b
agree_true true b e = sym e
agree_true false true e = e
agree_true false false e = refl

unfoldable pub blind_test : (ℕ → Bool) → ℕ → Bool
blind_test p zero = true
blind_test p (suc k) = agree (p (65 + k)) (p (97 + k)) && blind_test p k

pub test_blindly : (p : ℕ → Bool) (k : ℕ) → blind_test p k ≡ true → Blindly p k
unfolding Blindly blind_test
test_blindly p zero e = tt
test_blindly p (suc k) e =
    let a = and_true (agree (p (65 + k)) (p (97 + k))) (blind_test p k) e in (agree_true (p (65 + k)) (p (97 + k)) a.0, test_blindly p k a.1)

-- no letter below the k-th passes
unfoldable pub no_letter : (ℕ → Bool) → ℕ → Bool
no_letter p zero = true
no_letter p (suc k) = not (p (65 + k)) && not (p (97 + k)) && no_letter p k

no_letter_lem : (p : ℕ → Bool) (n k : ℕ) → no_letter p n ≡ true → k < n → (p (65 + k) ≡ false) × (p (97 + k) ≡ false)
unfolding no_letter
no_letter_lem p zero k e h = absurd (omega arith)
no_letter_lem p (suc n) k e h =
    let a = and_true (not (p (65 + n)) && not (p (97 + n))) (no_letter p n) e in
    let b = and_true (not (p (65 + n))) (not (p (97 + n))) a.0 in
    by (eqb k n) refl b.0 b.1 (λ q. no_letter_lem p n k a.1 q)
  where
    by : (c : Bool) → eqb k n ≡ c → not (p (65 + n)) ≡ true → not (p (97 + n)) ≡ true
        → (k < n → (p (65 + k) ≡ false) × (p (97 + k) ≡ false)) → (p (65 + k) ≡ false) × (p (97 + k) ≡ false)
    by true f u v ih = rw (eqb-true k n f) (not-true (p (65 + n)) u, not-true (p (97 + n)) v)
    by false f u v ih = ih (omega (arith, eqb-false k n f))

-- ## Texts

abbrev pub Alike : List ℕ → List ℕ → Type 0
Alike [] [] = Unit {0}
Alike [] (y ∷ ys) = ⊥
Alike (x ∷ xs) [] = ⊥
Alike (x ∷ xs) (y ∷ ys) = Cased x y × Alike xs ys

pub fold_alike : (xs ys : List ℕ) → equal_fold xs ys ≡ true → Alike xs ys
unfolding equal_fold equal
fold_alike [] [] e = tt
fold_alike [] (y ∷ ys) e = absurd (true≢false (sym e))
fold_alike (x ∷ xs) [] e = absurd (true≢false (sym e))
fold_alike (x ∷ xs) (y ∷ ys) e =
    let a = and_true (eqb (lower x) (lower y)) (equal (map lower xs) (map lower ys)) e in
    (cased x y (eqb-true (lower x) (lower y) a.0), fold_alike xs ys a.1)

computed : blind_number lower 26 ≡ true
unfolding blind_number lower
computed = refl

lower_cased : (x y : ℕ) → Cased x y → lower x ≡ lower y
lower_cased = blind lower (number_blindly lower 26 computed)

pub alike_fold : (xs ys : List ℕ) → Alike xs ys → map lower xs ≡ map lower ys
alike_fold [] [] a = refl
alike_fold [] (y ∷ ys) a = absurd a
alike_fold (x ∷ xs) [] a = absurd a
alike_fold (x ∷ xs) (y ∷ ys) a = rw (lower_cased x y a.0, alike_fold xs ys a.1)

pub alike_length : (xs ys : List ℕ) → Alike xs ys → length xs ≡ length ys
alike_length [] [] a = refl
alike_length [] (y ∷ ys) a = absurd a
alike_length (x ∷ xs) [] a = absurd a
alike_length (x ∷ xs) (y ∷ ys) a = ap suc (alike_length xs ys a.1)

pub alike_all : (p : ℕ → Bool) → Blindly p 26 → (xs ys : List ℕ) → Alike xs ys → all p xs ≡ all p ys
unfolding all
alike_all p b [] [] a = refl
alike_all p b [] (y ∷ ys) a = absurd a
alike_all p b (x ∷ xs) [] a = absurd a
alike_all p b (x ∷ xs) (y ∷ ys) a = rw (blind p b x y a.0, alike_all p b xs ys a.1)

pub alike_map : {A : Type 0} (p : ℕ → A) → Blindly p 26 → (xs ys : List ℕ) → Alike xs ys → map p xs ≡ map p ys
alike_map p b [] [] a = refl
alike_map p b [] (y ∷ ys) a = absurd a
alike_map p b (x ∷ xs) [] a = absurd a
alike_map p b (x ∷ xs) (y ∷ ys) a = rw (blind p b x y a.0, alike_map p b xs ys a.1)

pub alike_drop : (n : ℕ) (xs ys : List ℕ) → Alike xs ys → Alike (drop n xs) (drop n ys)
alike_drop zero xs ys a = a
alike_drop (suc n) [] [] a = tt
alike_drop (suc n) [] (y ∷ ys) a = absurd a
alike_drop (suc n) (x ∷ xs) [] a = absurd a
alike_drop (suc n) (x ∷ xs) (y ∷ ys) a = alike_drop n xs ys a.1

-- a text that a blind test rules letters out of is the same
pub alike_same : (p : ℕ → Bool) → no_letter p 26 ≡ true → (xs ys : List ℕ) → Alike xs ys → all p xs ≡ true → xs ≡ ys
unfolding all
alike_same p n [] [] a e = refl
alike_same p n [] (y ∷ ys) a e = absurd a
alike_same p n (x ∷ xs) [] a e = absurd a
alike_same p n (x ∷ xs) (y ∷ ys) a e =
    let b = and_true (p x) (all p xs) e in
    rw (byte x y a.0 b.0, alike_same p n xs ys a.1 b.1)
  where
    byte : (x y : ℕ) → Cased x y → p x ≡ true → x ≡ y
    byte x y (same z) h = refl
    byte x y (up k l) h = absurd (true≢false (sym h ∙ (no_letter_lem p 26 k n l).0))
    byte x y (down k l) h = absurd (true≢false (sym h ∙ (no_letter_lem p 26 k n l).1))

-- ## Parts

abbrev pub AlikePair : Option (List ℕ × List ℕ) → Option (List ℕ × List ℕ) → Type 0
AlikePair None None = Unit {0}
AlikePair None (Some q) = ⊥
AlikePair (Some p) None = ⊥
AlikePair (Some p) (Some q) = Alike p.0 q.0 × Alike p.1 q.1

-- a mark none of whose bytes is a letter
module _ (m : List ℕ) (clear : (c : ℕ) → any (eqb c) m ≡ true → Blindly (λ x. eqb c x) 26) where
  starts : (k : List ℕ) → ((c : ℕ) → any (eqb c) k ≡ true → any (eqb c) m ≡ true) → (xs ys : List ℕ) → Alike xs ys
      → equal k (take (length k) xs) ≡ equal k (take (length k) ys)
  unfolding equal any
  starts [] h xs ys a = refl
  starts (c ∷ k) h [] [] a = refl
  starts (c ∷ k) h [] (y ∷ ys) a = absurd a
  starts (c ∷ k) h (x ∷ xs) [] a = absurd a
  starts (c ∷ k) h (x ∷ xs) (y ∷ ys) a =
      rw (
        blind (λ z. eqb c z) (clear c (h c (rw (eq-eqb c c refl)))) x y a.0,
        starts k (λ b e. h b (rw e (or-true (eqb b c)))) xs ys a.1,
      )

  pub alike_split_once : (xs ys : List ℕ) → Alike xs ys → AlikePair (split_once m xs) (split_once m ys)
  unfolding split_once
  alike_split_once [] [] a = tt
  alike_split_once [] (y ∷ ys) a = absurd a
  alike_split_once (x ∷ xs) [] a = absurd a
  alike_split_once (x ∷ xs) (y ∷ ys) a =
      rw (starts m (λ c e. e) (x ∷ xs) (y ∷ ys) a)
      (by (starts_with m (y ∷ ys)) (split_once m xs) (split_once m ys) (alike_split_once xs ys a.1))
    where
      by : (b : Bool) (o u : Option (List ℕ × List ℕ)) → AlikePair o u
          → AlikePair (when b then Some ([], drop (length m) (x ∷ xs)) else cons_first x o) (when b then Some ([], drop (length m) (y ∷ ys)) else cons_first y u)
      by true o u h = (tt, alike_drop (length m) (x ∷ xs) (y ∷ ys) a)
      by false None None h = tt
      by false None (Some q) h = absurd h
      by false (Some p) None h = absurd h
      by false (Some p) (Some q) h = ((a.0, h.0), h.1)

abbrev pub AlikeList : List (List ℕ) → List (List ℕ) → Type 0
AlikeList [] [] = Unit {0}
AlikeList [] (w ∷ ws) = ⊥
AlikeList (v ∷ vs) [] = ⊥
AlikeList (v ∷ vs) (w ∷ ws) = Alike v w × AlikeList vs ws

pub alike_split : (marks : String) → Blindly (among marks) 26 → (xs ys : List ℕ) → Alike xs ys → AlikeList (split marks xs) (split marks ys)
unfolding split
alike_split marks b [] [] a = (tt, tt)
alike_split marks b [] (y ∷ ys) a = absurd a
alike_split marks b (x ∷ xs) [] a = absurd a
alike_split marks b (x ∷ xs) (y ∷ ys) a =
    rw (blind (among marks) b x y a.0) (by (among marks y) (split marks xs) (split marks ys) (alike_split marks b xs ys a.1))
  where
    by : (c : Bool) (vs ws : List (List ℕ)) → AlikeList vs ws → AlikeList (when c then [] ∷ vs else cons_head x vs) (when c then [] ∷ ws else cons_head y ws)
    by true vs ws h = (tt, h)
    by false [] [] h = ((a.0, tt), tt)
    by false [] (w ∷ ws) h = absurd h
    by false (v ∷ vs) [] h = absurd h
    by false (v ∷ vs) (w ∷ ws) h = ((a.0, h.0), h.1)

-- ## Numbers

digits_computed : no_letter is_digit 26 ≡ true
unfolding no_letter
digits_computed = refl

digits_test : blind_test is_digit 26 ≡ true
unfolding blind_test
digits_test = refl

digits_blind : Blindly is_digit 26
digits_blind = test_blindly is_digit 26 digits_test

pub alike_read_decimal : (m : ℕ) (xs ys : List ℕ) → Alike xs ys → read_decimal m xs ≡ read_decimal m ys
alike_read_decimal m xs ys a = by (all is_digit xs) refl
  where
    by : (b : Bool) → all is_digit xs ≡ b → read_decimal m xs ≡ read_decimal m ys
    by true e = ap (read_decimal m) (alike_same is_digit digits_computed xs ys a e)
    by false e = read_decimal_none m xs e ∙ sym (read_decimal_none m ys (sym (alike_all is_digit digits_blind xs ys a) ∙ e))
