-- Laws of the classes of bytes: the table, the loop over an element, and what a mask tells.
-- Assumes nothing.
use Prim.Native.Nat.{ℕ, zero, suc, ◌+◌, ◌*◌, ◌/◌, ◌%◌, ◌^◌, ◌≤◌, ◌<◌, min, max}
use native.Mathlib.Nat.{add-zero, add-suc, suc-add, mod-lt}
use native.Mathlib.Numerals.{add-one}
use native.Mathlib.Omega.{arith}
use mathlib.Core.Bool.{Bool, true, false, not, ◌&&◌, ◌||◌, true≢false, and_assoc, and-true as and-true_r, or-true}
use mathlib.Core.List.{List, [], ◌∷◌}
use mathlib.Core.Path.{◌≡◌, refl, sym, ap, ap₂, ◌∙◌}
use lib.Arith.{bin_ind}
use lib.Bits.{bit_or, bit_and, or_lt, or_add_and, and_le_l, and_le_r, or_zero_l, and_zero_l, and_step, or_step, or_shr, and_shr, or_mod, and_mod}
use lib.Dec.{T, eqb, ltb, leb, eqb→eq}
use lib.ListN.{length, take, drop, get_or, drop_of_length-le}
use lib.Seq.{drop-cons}
use borrow.Author.Tests.{eqb-true, ne_eqb, le-leb, lt-leb, ltb-true, ltb-false, lt-ltb, le-ltb, not-true}
use Rattle.text.specs.Basics.{when◌then◌else◌, any, all}
use Rattle.text.specs.Text.{is_digit, is_letter}
use Rattle.text.specs.Scan.{span_len}
use Rattle.text.proofs.BasicLaws.{and_true}
use Rattle.lines.specs.Parts.{is_parting, is_element_byte, parting_length, element_length, element_span, first_element}
use Rattle.patterns.specs.Pattern.{is_name_byte}
use Rattle.patterns.specs.Code.{is_dotted_byte}
use Rattle.classes.specs.declared.ClassSpan.{ClassSpan}
use Rattle.classes.specs.Class.{class_of, Classes, class_span, mask_from, span_from, element_at, Describes, only_names, only_dotted, no_sign}
use Rattle.classes.proofs.Table.{every, at}

-- ## The table

abbrev pub right : ℕ → ℕ → Bool
right b x = eqb x (class_of b)

pub classes_right : (l : List ℕ) → length l ≡ 256 → T (every right 0 l) → Classes l
classes_right l e t = record { long = e; each = λ b h. eqb→eq (get_or l b 0) (class_of b) (at right l t b (omega arith)) }

-- ## One byte

-- the class of a byte that parts no elements, by its tests: whether it is a name byte, a digit, a dot, a slash, `@`
abbrev code : Bool → Bool → Bool → Bool → Bool → ℕ
code n d p q a = when n then (when d then 2 else when p then 4 else 1) else when q then 8 else when a then 16 else 32

code_small : (n d p q a : Bool) → code n d p q a < 128
code_small true true p q a = omega arith
code_small true false true q a = omega arith
code_small true false false q a = omega arith
code_small false d p true a = omega arith
code_small false d p false true = omega arith
code_small false d p false false = omega arith

module _ (b : ℕ) (e : is_parting b ≡ false) where
  class_code : class_of b ≡ code (is_name_byte b) (is_digit b) (eqb b 46) (eqb b 47) (eqb b 64)
  unfolding class_of
  class_code = rw e

  inner_small : class_of b < 128
  inner_small = rw class_code (code_small (is_name_byte b) (is_digit b) (eqb b 46) (eqb b 47) (eqb b 64))

class_parting : (b : ℕ) → is_parting b ≡ true → class_of b ≡ 128
unfolding class_of
class_parting b e = rw e

pub parting_class : (b c : ℕ) → c ≡ class_of b → leb 128 c ≡ is_parting b
parting_class b c is_c = by (is_parting b) refl
  where
    by : (s : Bool) → is_parting b ≡ s → leb 128 c ≡ s
    by true e = le-leb 128 c (let k : c ≡ 128 = is_c ∙ class_parting b e in omega arith)
    by false e = lt-leb 128 c (rw is_c (inner_small b e))

module _ (b c : ℕ) (is_c : c ≡ class_of b) where
  class_stop : 128 ≤ c → is_parting b ≡ true
  class_stop h = sym (parting_class b c is_c) ∙ le-leb 128 c h

  class_inner : c < 128 → is_parting b ≡ false
  class_inner h = sym (parting_class b c is_c) ∙ lt-leb 128 c h

-- ## The loop over the element at i, at j

-- the element at the front of t, from i on, its end counted from j, its classes added to m
unfoldable pub scan_classes : ℕ → ℕ → ℕ → List ℕ → ClassSpan
scan_classes i j m [] = class_span i j m
scan_classes i j m (b ∷ t) = when is_parting b then class_span i j m else scan_classes i (suc j) (bit_or m (class_of b)) t

scan_span : (i j m : ℕ) (t : List ℕ) → scan_classes i j m t ≡ class_span i (j + element_length t) (mask_from m (take (element_length t) t))
unfolding scan_classes mask_from span_len is_element_byte
scan_span i j m [] = rw (add-zero j)
scan_span i j m (b ∷ t) = by (is_parting b) refl (λ k n. scan_span i k n t)
  where
    by : (s : Bool) → is_parting b ≡ s → ((k n : ℕ) → scan_classes i k n t ≡ class_span i (k + element_length t) (mask_from n (take (element_length t) t)))
        → scan_classes i j m (b ∷ t) ≡ class_span i (j + element_length (b ∷ t)) (mask_from m (take (element_length (b ∷ t)) (b ∷ t)))
    by true e ih = simp (e, add-zero j)
    by false e ih = simp e (ih (suc j) (bit_or m (class_of b)) ∙ rw (suc-add j (element_length t), add-suc j (element_length t)))

pub record Scanned (s : List ℕ) (i j m : ℕ) : Type 0 where
  pub within : j ≤ length s
  pub small : m < 128
  pub so_far : scan_classes i i 0 (drop i s) ≡ scan_classes i j m (drop j s)

pub scanned_none : (s : List ℕ) (i : ℕ) → i ≤ length s → Scanned s i i 0
scanned_none s i h = record { within = h; small = omega arith; so_far = refl }

module _ (s : List ℕ) (i j m : ℕ) (h : Scanned s i j m) where
  scanned_is : class_span i j m ≡ scan_classes i j m (drop j s) → class_span i j m ≡ span_from i (drop i s)
  unfolding span_from
  scanned_is e = e ∙ sym h.so_far ∙ scan_span i i 0 (drop i s)

  pub scanned_end : length s ≤ j → class_span i j m ≡ span_from i (drop i s)
  unfolding scan_classes
  scanned_end l = scanned_is (rw (drop_of_length-le s l))

  module _ (l : j < length s) (c : ℕ) (is_c : c ≡ class_of (get_or s j 0)) where
    pub scanned_stop : 128 ≤ c → class_span i j m ≡ span_from i (drop i s)
    unfolding scan_classes
    scanned_stop k = scanned_is (rw (drop-cons s j 0, class_stop (get_or s j 0) c is_c k))

    pub scanned_more : c < 128 → Scanned s i (j + 1) (bit_or m c)
    unfolding scan_classes
    scanned_more k = record {
      within = omega arith;
      small = or_lt 7 m c h.small k;
      so_far = h.so_far ∙ rw (add-one, drop-cons s j 0, class_inner (get_or s j 0) c is_c k, is_c);
    }

-- ## The first element

pub element_at_is : (s : List ℕ) (a : ℕ) (r : ClassSpan) → a ≡ parting_length s → r ≡ span_from a (drop a s) → r ≡ element_at s
unfolding element_at
element_at_is s a r is-a is-r = is-r ∙ ap (λ (k : ℕ). span_from k (drop k s)) is-a

module _ (s : List ℕ) (r : ClassSpan) (is-r : r ≡ element_at s) where
  pub element_place : r.span ≡ element_span s
  unfolding element_at span_from element_span
  element_place = ap (λ (x : ClassSpan). x.span) is-r

-- ## What a mask tells

-- a test of masks that both parts of a mask pass where the whole does
module _ (p : ℕ → Bool) (parts : (m c : ℕ) → m < 128 → c < 128 → p (bit_or m c) ≡ (p m && p c)) where
  mask_test : (q : ℕ → Bool) → ((b : ℕ) → is_parting b ≡ false → p (class_of b) ≡ q b)
      → (m : ℕ) (w : List ℕ) → m < 128 → all is_element_byte w ≡ true → p (mask_from m w) ≡ (p m && all q w)
  unfolding mask_from all is_element_byte
  mask_test q is-q m [] h k = sym (and-true_r (p m))
  mask_test q is-q m (b ∷ w) h k =
      let e : is_parting b ≡ false = not-true (is_parting b) (and_true (not (is_parting b)) (all is_element_byte w) k).0 in
      let l : class_of b < 128 = inner_small b e in
      mask_test q is-q (bit_or m (class_of b)) w (or_lt 7 m (class_of b) h l) (and_true (not (is_parting b)) (all is_element_byte w) k).1
      ∙ rw (parts m (class_of b) h l, is-q b e) (and_assoc (p m) (q b) (all q w))

or_le : (a b : ℕ) → a ≤ bit_or a b
or_le a b = omega (arith, or_add_and a b, and_le_r a b)

or_le_r : (a b : ℕ) → b ≤ bit_or a b
or_le_r a b = omega (arith, or_add_and a b, and_le_l a b)

below_parts : (k m c : ℕ) → ltb (bit_or m c) (2 ^ k) ≡ (ltb m (2 ^ k) && ltb c (2 ^ k))
below_parts k m c = by (ltb m (2 ^ k)) (ltb c (2 ^ k)) refl refl
  where
    by : (s t : Bool) → ltb m (2 ^ k) ≡ s → ltb c (2 ^ k) ≡ t → ltb (bit_or m c) (2 ^ k) ≡ (s && t)
    by true true e f = lt-ltb (bit_or m c) (2 ^ k) (or_lt k m c (ltb-true m (2 ^ k) e) (ltb-true c (2 ^ k) f))
    by true false e f = le-ltb (bit_or m c) (2 ^ k) (omega (arith, or_le_r m c, ltb-false c (2 ^ k) f))
    by false t e f = le-ltb (bit_or m c) (2 ^ k) (omega (arith, or_le m c, ltb-false m (2 ^ k) e))

bits : (x y z : ℕ) → x < 2 → y < 2 → z < 2 → min (bit_or x y) z ≡ max (bit_and x z) (bit_and y z)
bits zero zero zero h k l = refl
bits zero zero (suc zero) h k l = refl
bits zero (suc zero) zero h k l = refl
bits zero (suc zero) (suc zero) h k l = refl
bits (suc zero) zero zero h k l = refl
bits (suc zero) zero (suc zero) h k l = refl
bits (suc zero) (suc zero) zero h k l = refl
bits (suc zero) (suc zero) (suc zero) h k l = refl
bits (suc (suc x)) y z h k l = absurd (omega arith)
bits zero (suc (suc y)) z h k l = absurd (omega arith)
bits (suc zero) (suc (suc y)) z h k l = absurd (omega arith)
bits zero zero (suc (suc z)) h k l = absurd (omega arith)
bits zero (suc zero) (suc (suc z)) h k l = absurd (omega arith)
bits (suc zero) zero (suc (suc z)) h k l = absurd (omega arith)
bits (suc zero) (suc zero) (suc (suc z)) h k l = absurd (omega arith)

and_or : (a b c : ℕ) → bit_and (bit_or a b) c ≡ bit_or (bit_and a c) (bit_and b c)
and_or a =
    bin_ind (λ (n : ℕ). (b c : ℕ) → bit_and (bit_or n b) c ≡ bit_or (bit_and n c) (bit_and b c)) (λ b c. ap (λ (x : ℕ). bit_and x c) (or_zero_l b) ∙ sym (ap (λ (x : ℕ). bit_or x (bit_and b c)) (and_zero_l c) ∙ or_zero_l (bit_and b c)))
    (λ n ih b c.
    and_step (bit_or n b) c
    ∙ ap₂ (λ (x y : ℕ). x * 2 + y)
    (ap (λ (x : ℕ). bit_and x (c / 2)) (or_shr n b 1) ∙ ih (b / 2) (c / 2) ∙ sym (ap₂ bit_or (and_shr n c 1) (and_shr b c 1)))
    (ap (λ (x : ℕ). min x (c % 2)) (or_mod n b 1) ∙ bits (n % 2) (b % 2) (c % 2) (mod-lt n (omega arith)) (mod-lt b (omega arith)) (mod-lt c (omega arith))
    ∙ sym (ap₂ max (and_mod n c 1) (and_mod b c 1)))
    ∙ sym (or_step (bit_and n c) (bit_and b c)))
    a

-- a mask has none of the bits of z where neither part has
without_parts : (z m c : ℕ) → eqb (bit_and (bit_or m c) z) 0 ≡ (eqb (bit_and m z) 0 && eqb (bit_and c z) 0)
without_parts z m c = ap (λ (x : ℕ). eqb x 0) (and_or m c z) ∙ by (bit_and m z) (bit_and c z)
  where
    by : (x y : ℕ) → eqb (bit_or x y) 0 ≡ (eqb x 0 && eqb y 0)
    by zero y = rw (or_zero_l y)
    by (suc x) y =
        ne_eqb (bit_or (suc x) y) 0 (λ e. let h : suc x ≤ bit_or (suc x) y = or_le (suc x) y in omega arith)
        ∙ sym (ap (λ (t : Bool). t && eqb y 0) (ne_eqb (suc x) 0 (λ e. omega arith)))

-- what the tests of a byte say of each other: whether it is a name byte, a digit, a dot, a slash, `@`
record Tests (n d p q a : Bool) : Type 0 where
  digit : d ≡ true → n ≡ true
  dot : p ≡ true → n ≡ true
  slash : q ≡ true → n ≡ false
  sign : a ≡ true → (n ≡ false) × (q ≡ false)

tests : (b : ℕ) → Tests (is_name_byte b) (is_digit b) (eqb b 46) (eqb b 47) (eqb b 64)
unfolding is_name_byte any
tests b = record {
  digit = λ e. rw (e, or-true (is_letter b));
  dot = λ e. ap is_name_byte (eqb-true b 46 e);
  slash = λ e. ap is_name_byte (eqb-true b 47 e);
  sign = λ e. (ap is_name_byte (eqb-true b 64 e), ap (λ x. eqb x 47) (eqb-true b 64 e));
}

clash : {A : Type 0} → true ≡ false → A
clash e = absurd (true≢false e)

module _ (b : ℕ) (e : is_parting b ≡ false) where
  class_names : only_names (class_of b) ≡ is_name_byte b
  class_names = ap only_names (class_code b e) ∙ by (is_name_byte b) (is_digit b) (eqb b 46) (eqb b 47) (eqb b 64)
    where
      by : (n d p q a : Bool) → only_names (code n d p q a) ≡ n
      by true true p q a = refl
      by true false true q a = refl
      by true false false q a = refl
      by false d p true a = refl
      by false d p false true = refl
      by false d p false false = refl

  class_dotted : only_dotted (class_of b) ≡ is_dotted_byte b
  unfolding any
  class_dotted = ap only_dotted (class_code b e) ∙ by (is_name_byte b) (is_digit b) (eqb b 46) (eqb b 47) (eqb b 64) (tests b)
    where
      by : (n d p q a : Bool) → Tests n d p q a → only_dotted (code n d p q a) ≡ (d || (p || (q || false)))
      by true true p q a t = refl
      by true false true q a t = refl
      by true false false true a t = clash (t.slash refl)
      by true false false false a t = refl
      by false true p q a t = clash (sym (t.digit refl))
      by false false true q a t = clash (sym (t.dot refl))
      by false false false true a t = refl
      by false false false false true t = refl
      by false false false false false t = refl

  class_sign : no_sign (class_of b) ≡ not (eqb b 64)
  class_sign = ap no_sign (class_code b e) ∙ by (is_name_byte b) (is_digit b) (eqb b 46) (eqb b 47) (eqb b 64) (tests b)
    where
      by : (n d p q a : Bool) → Tests n d p q a → no_sign (code n d p q a) ≡ not a
      by true d p q true t = clash (t.sign refl).0
      by true true p q false t = refl
      by true false true q false t = refl
      by true false false q false t = refl
      by false d p true true t = clash (t.sign refl).1
      by false d p true false t = refl
      by false d p false true t = refl
      by false d p false false t = refl

-- ## What the mask of an element tells

described : (w : List ℕ) → all is_element_byte w ≡ true → Describes (mask_from 0 w) w
described w h = record {
  names = mask_test only_names (λ m c k l. below_parts 3 m c) is_name_byte class_names 0 w (omega arith) h;
  dotted = mask_test only_dotted (λ m c k l. without_parts 241 m c) is_dotted_byte class_dotted 0 w (omega arith) h;
  no_sign_lem = mask_test no_sign (λ m c k l. without_parts 16 m c) (λ b. not (eqb b 64)) class_sign 0 w (omega arith) h;
}

all_span : (p : ℕ → Bool) (t : List ℕ) → all p (take (span_len p t) t) ≡ true
unfolding all span_len
all_span p [] = refl
all_span p (x ∷ t) = by (p x) refl (all_span p t)
  where
    by : (b : Bool) → p x ≡ b → all p (take (span_len p t) t) ≡ true → all p (take (span_len p (x ∷ t)) (x ∷ t)) ≡ true
    by true e ih = simp e ih
    by false e ih = simp e

pub element_described : (s : List ℕ) (r : ClassSpan) → r ≡ element_at s → (w : List ℕ) → w ≡ first_element s → Describes r.mask w
unfolding element_at span_from first_element
element_described s r is-r w is-w =
    let u : List ℕ = drop (parting_length s) s in
    rw (is-r, is-w) (described (take (element_length u) u) (all_span is_element_byte u))
