-- Laws of reading IPv6 text: `::`, its two sides, and addresses of either kind.
-- Assumes nothing.
use Rattle.std.specs.Prelude.{Err, None, Ok, Option, Some, unwrap_or}
use Prim.Native.Nat.{ℕ, ◌+◌, ◌-◌, ◌*◌, ◌/◌, ◌%◌, ◌^◌, ◌<◌, ◌≤◌, zero, suc}
use mathlib.Core.Bool.{Bool, true, false, ◌&&◌, true≢false}
use mathlib.Core.List.{List, [], ◌∷◌, ◌++◌}
use mathlib.Core.Path.{◌≡◌, refl, sym, ap, ap₂, ◌∙◌}
use native.Mathlib.Nat.{pow-suc, zero-add, mul_assoc, pow-zero}
use native.Mathlib.Numerals.{add-one}
use native.Mathlib.Omega.{arith}
use borrow.Author.Tests.{leb-true, leb-false, ltb-true, le-ltb, eq-eqb, ne_eqb, eqb-true}
use lib.Dec.{leb, ltb, eqb}
use lib.ListN.{length, drop, get_or, replicate, take, length-append, length-replicate, length-drop}
use lib.Pow.{pow-add, high, low}
use lib.Seq.{drop-cons}
use Rattle.text.specs.Basics.{◌>>=◌, given, all, when◌then◌else◌, ◌or_else◌, any, each}
use Rattle.text.specs.Text.{bytes, among, equal, starts_with, cons_head, split_once, split}
use Rattle.text.specs.Number.{from_digits, numeral, read_decimal}
use Rattle.text.proofs.BasicLaws.{and_true}
use Rattle.text.proofs.Canonical.{from_digits_lt}
use Rattle.address.specs.Address.{read_group, read_v4, read_last_group, read_groups, read_compressed, read_v6, read_address}
use Rattle.address.specs.Code.{number_of, words_of, groups_from, reads_last, side_parts, place_of, of_groups, as_v6}
use Rattle.text.proofs.Digits.{from_digits_append}
use Rattle.text.proofs.ScanLaws.{take_rest}
use Rattle.section.specs.declared.Fault.TheVariants as F
use Rattle.section.specs.declared.Refusal.{Refusal}
use Rattle.section.specs.Refusal.{placeless}
use Rattle.address.specs.declared.Addr.TheVariants as A
use Rattle.address.specs.declared.read.Words.{Words}
use Rattle.address.proofs.PrefixLaws.{eqb_iff}
use Rattle.address.proofs.ReadLaws.{as_number_none, as_number_some}
use Rattle.address.proofs.WordLaws.{number_of_words_of}
use Rattle.address.proofs.RowLaws.{split_some, read_groups_more, read_groups_below}

-- ## The place of `::`

pub place_of_le : (m t : List ℕ) → place_of m t ≤ length t
unfolding place_of
place_of_le m [] = omega arith
place_of_le m (x ∷ t) = by (starts_with m (x ∷ t)) (place_of_le m t)
  where
    by : (b : Bool) → place_of m t ≤ length t → (when b then 0 else suc (place_of m t)) ≤ suc (length t)
    by true h = omega arith
    by false h = omega arith

-- parting a text once, at that place
split_once_place : (m t : List ℕ) → place_of m t < length t → split_once m t ≡ Some (take (place_of m t) t, drop (place_of m t + length m) t)
unfolding place_of split_once
split_once_place m [] h = absurd (omega arith)
split_once_place m (x ∷ t) h = by (starts_with m (x ∷ t)) refl (split_once_place m t)
  where
    by : (b : Bool) → starts_with m (x ∷ t) ≡ b → (place_of m t < length t → split_once m t ≡ Some (take (place_of m t) t, drop (place_of m t + length m) t))
        → split_once m (x ∷ t) ≡ Some (take (place_of m (x ∷ t)) (x ∷ t), drop (place_of m (x ∷ t) + length m) (x ∷ t))
    by true e ih = rw (e, zero-add (length m))
    by false e ih =
        let k : suc (place_of m t) < length (x ∷ t) = rw e at h in
        let q : suc (place_of m t) + length m ≡ suc (place_of m t + length m) = omega arith in
        rw (e, q, ih (omega arith))

split_once_no_place : (m t : List ℕ) → length t ≤ place_of m t → split_once m t ≡ None
unfolding place_of split_once
split_once_no_place m [] h = refl
split_once_no_place m (x ∷ t) h = by (starts_with m (x ∷ t)) refl (split_once_no_place m t)
  where
    by : (b : Bool) → starts_with m (x ∷ t) ≡ b → (length t ≤ place_of m t → split_once m t ≡ None) → split_once m (x ∷ t) ≡ None
    by true e ih = let k : length (x ∷ t) ≤ 0 = rw e at h in absurd (omega arith)
    by false e ih = let k : length (x ∷ t) ≤ suc (place_of m t) = rw e at h in rw (e, ih (omega arith))

-- the loop that looks for it, at i
starts : (x y : ℕ) (t : List ℕ) → starts_with (bytes "::") (x ∷ y ∷ t) ≡ (eqb x 58 && eqb y 58)
unfolding equal
starts x y t = rw (eqb_iff 58 x x 58 sym sym, eqb_iff 58 y y 58 sym sym) (by (eqb x 58) (eqb y 58))
  where
    by : (a b : Bool) → (a && (b && true)) ≡ (a && b)
    by true true = refl
    by true false = refl
    by false b = refl

place_short : (t : List ℕ) → length t ≤ 1 → place_of (bytes "::") t ≡ length t
unfolding place_of equal
place_short [] h = refl
place_short (x ∷ []) h = by (eqb 58 x)
  where
    by : (b : Bool) → ◌≡◌ {A = ℕ} (when b && false then 0 else 1) 1
    by true = refl
    by false = refl
place_short (x ∷ y ∷ t) h = absurd (omega arith)

-- the loop that looks for it, at j, the place after i
module _ (s : List ℕ) (i j : ℕ) (next : j ≡ i + 1) (so_far : place_of (bytes "::") s ≡ i + place_of (bytes "::") (drop i s)) where
  module _ (h : j < length s) where
    place_pair : place_of (bytes "::") (drop i s) ≡ (when eqb (get_or s i 0) 58 && eqb (get_or s j 0) 58 then 0 else suc (place_of (bytes "::") (drop j s)))
    unfolding place_of
    place_pair =
        let l : i < length s = omega arith in
        let u : List ℕ = drop (suc j) s in
        let p : drop j s ≡ get_or s j 0 ∷ u = drop-cons s j 0 h in
        let q : drop i s ≡ get_or s i 0 ∷ drop j s = rw (next, add-one, drop-cons s i 0) in
        ap (place_of (bytes "::")) (q ∙ ap (λ (r : List ℕ). get_or s i 0 ∷ r) p)
        ∙ rw (starts (get_or s i 0) (get_or s j 0) u, p)

    pub place_found : (eqb (get_or s i 0) 58 && eqb (get_or s j 0) 58) ≡ true → i ≡ place_of (bytes "::") s
    place_found e = sym (so_far ∙ rw (place_pair, e) (omega arith))

    pub place_more : (eqb (get_or s i 0) 58 && eqb (get_or s j 0) 58) ≡ false → place_of (bytes "::") s ≡ j + place_of (bytes "::") (drop j s)
    place_more e = so_far ∙ rw (place_pair, e) (omega arith)

  pub place_none : length s ≤ j → i ≤ length s → length s ≡ place_of (bytes "::") s
  place_none h l = omega (arith, so_far, length-drop i s, place_short (drop i s) (rw (length-drop i s) (omega arith)))

-- what the code's answer says of the groups o: a of them, at most eight, that make l
record AreGroups (o : Option (List ℕ)) (a : ℕ) (l : Words) : Type 0 where
  pub groups : List ℕ
  pub read : o ≡ Some groups
  pub count : a ≡ length groups
  pub few : length groups ≤ 8
  pub number : l ≡ words_of (from_digits 65536 0 groups)

groups_are : (o : Option (List ℕ)) (a : ℕ) (l : Words) → groups_from 0 0 o ≡ Some (a, l) → AreGroups o a l
groups_are None a l e = let z : ◌≡◌ {A = ℕ} 0 1 = cc in absurd (omega arith)
groups_are (Some gs) a l e = by (leb (0 + length gs) 8) refl e
  where
    by : (b : Bool) → leb (0 + length gs) 8 ≡ b → when◌then◌else◌ {A = Option (ℕ × Words)} b (Some (0 + length gs, words_of (from_digits 65536 0 gs))) None ≡ Some (a, l)
        → AreGroups (Some gs) a l
    by true p q =
        let r : ◌≡◌ {A = ℕ × Words} (0 + length gs, words_of (from_digits 65536 0 gs)) (a, l) = ap (λ o. unwrap_or o (0, l)) q in
        record {
          groups = gs;
          read = refl;
          count = omega (arith, ap (λ (p : ℕ × Words). p.0) r);
          few = omega (arith, leb-true (0 + length gs) 8 p);
          number = sym (ap (λ (p : ℕ × Words). p.1) r);
        }
    by false p q = let z : ◌≡◌ {A = ℕ} 0 1 = cc in absurd (omega arith)

number_of_groups : (o : Option (List ℕ)) (a : ℕ) (l : Words) (r : AreGroups o a l) → number_of l ≡ from_digits 65536 0 r.groups
number_of_groups o a l r = ap number_of r.number ∙ number_of_words_of (from_digits 65536 0 r.groups)

-- where it is none, no eight groups are
groups_none : (o : Option (List ℕ)) → groups_from 0 0 o ≡ None → (gs : List ℕ) → o ≡ Some gs → 8 < length gs
groups_none None e gs q = let z : ◌≡◌ {A = ℕ} 0 1 = cc in absurd (omega arith)
groups_none (Some hs) e gs q = let r : hs ≡ gs = cc in omega (arith, ap length r, by (leb (0 + length hs) 8) refl e)
  where
    by : (b : Bool) → leb (0 + length hs) 8 ≡ b → when◌then◌else◌ {A = Option (ℕ × Words)} b (Some (0 + length hs, words_of (from_digits 65536 0 hs))) None ≡ None
        → 8 < length hs
    by true p q = let z : ◌≡◌ {A = ℕ} 0 1 = cc in absurd (omega arith)
    by false p q = omega (arith, leb-false (0 + length hs) 8 p)

-- ## The sides of `::`

from_digits_shift : (b n : ℕ) (ds : List ℕ) → from_digits b n ds ≡ n * b ^ length ds + from_digits b 0 ds
unfolding from_digits
from_digits_shift b n [] = rw (pow-zero b) (omega arith)
from_digits_shift b n (d ∷ ds) = rw (pow-suc b (length ds)) (omega (arith, from_digits_shift b (n * b + d) ds, from_digits_shift b (0 * b + d) ds))

from_digits_zeros : (b n k : ℕ) → from_digits b n (replicate k 0) ≡ n * b ^ k
unfolding from_digits
from_digits_zeros b n zero = rw (pow-zero b) (omega arith)
from_digits_zeros b n (suc k) = rw (pow-suc b k) (omega (arith, from_digits_zeros b (n * b + 0) k))

-- the groups gs and hs with zeros between them
abbrev compressed : Option (List ℕ) → Option (List ℕ) → Option ℕ
compressed o p = of_groups (o >>= λ gs. p >>= λ hs. given (ltb (length (gs ++ hs)) 8) (gs ++ replicate (8 - length (gs ++ hs)) 0 ++ hs))

compressed_is : (t u : List ℕ) → of_groups (read_compressed (t, u)) ≡ compressed (read_groups read_group (side_parts t)) (read_groups read_last_group (side_parts u))
unfolding read_compressed
compressed_is t u = refl

-- none where either side has more than eight
compressed_none : (o p : Option (List ℕ)) → ((gs hs : List ℕ) → o ≡ Some gs → p ≡ Some hs → 8 ≤ length gs + length hs) → compressed o p ≡ None
compressed_none None p f = refl
compressed_none (Some gs) None f = refl
compressed_none (Some gs) (Some hs) f = rw (le-ltb (length (gs ++ hs)) 8 (omega (arith, length-append gs hs, f gs hs refl refl)))

module _ (gs hs : List ℕ) where
  abbrev total : ℕ
  total = from_digits 65536 0 gs * 65536 ^ (8 - length gs) + from_digits 65536 0 hs

  length_joined : (z : ℕ) → length gs + (z + length hs) ≡ 8 → length (gs ++ replicate z 0 ++ hs) ≡ 8
  length_joined z e = rw (length-append (gs ++ replicate z 0) hs, length-append gs (replicate z 0), length-replicate {A = ℕ} z 0) (omega arith)

  from_digits_joined : (z : ℕ) → length gs + (z + length hs) ≡ 8 → from_digits 65536 0 (gs ++ replicate z 0 ++ hs) ≡ total
  from_digits_joined z e =
      let g : ℕ = from_digits 65536 0 gs in
      let q : z + length hs ≡ 8 - length gs = omega arith in
      from_digits_append 65536 0 (gs ++ replicate z 0) hs
      ∙ ap (λ (x : ℕ). from_digits 65536 x hs) (from_digits_append 65536 0 gs (replicate z 0) ∙ from_digits_zeros 65536 g z)
      ∙ from_digits_shift 65536 (g * 65536 ^ z) hs
      ∙ ap (λ (x : ℕ). x + from_digits 65536 0 hs)
      (mul_assoc g (65536 ^ z) (65536 ^ length hs) ∙ ap (λ (x : ℕ). g * x) (sym (pow-add 65536 z (length hs)) ∙ ap (λ (k : ℕ). 65536 ^ k) q))

  compressed_some : compressed (Some gs) (Some hs) ≡ given (ltb (length gs + length hs) 8) total
  compressed_some = rw (length-append gs hs) (by (ltb (length gs + length hs) 8) refl)
    where
      by : (b : Bool) → ltb (length gs + length hs) 8 ≡ b → of_groups (given b (gs ++ replicate (8 - (length gs + length hs)) 0 ++ hs)) ≡ given b total
      by true e =
          let z : ℕ = 8 - (length gs + length hs) in
          let q : length gs + (z + length hs) ≡ 8 = omega (arith, ltb-true (length gs + length hs) 8 e) in
          rw (length_joined z q, from_digits_joined z q)
      by false e = refl

pub groups_fit_lem : (tail : Bool) (ws : List (List ℕ)) (a : ℕ) (l : Words) → groups_from 0 0 (read_groups (reads_last tail) ws) ≡ Some (a, l) → (a ≤ 8)
    × (number_of l < 65536 ^ a)
groups_fit_lem tail ws a l e =
    let o : Option (List ℕ) = read_groups (reads_last tail) ws in
    let r : AreGroups o a l = groups_are o a l e in
    let p : 65536 ^ a ≡ 65536 ^ length r.groups = ap (λ (k : ℕ). 65536 ^ k) r.count in (
      omega (arith, r.count, r.few),
      omega (arith, p, number_of_groups o a l r, from_digits_lt 65536 0 r.groups (read_groups_below tail ws r.groups r.read)),
    )

compressed_both : (o p : Option (List ℕ)) (a : ℕ) (l : Words) (b : ℕ) (r : Words) → groups_from 0 0 o ≡ Some (a, l) → groups_from 0 0 p ≡ Some (b, r)
    → compressed o p ≡ given (ltb (a + b) 8) (number_of l * 65536 ^ (8 - a) + number_of r)
compressed_both o p a l b r e f =
    let x : AreGroups o a l = groups_are o a l e in
    let y : AreGroups p b r = groups_are p b r f in
    by x.groups y.groups x.read y.read x.count y.count (number_of_groups o a l x) (number_of_groups p b r y)
  where
    by : (gs hs : List ℕ) → o ≡ Some gs → p ≡ Some hs → a ≡ length gs → b ≡ length hs → number_of l ≡ from_digits 65536 0 gs → number_of r ≡ from_digits 65536 0 hs
        → compressed o p ≡ given (ltb (a + b) 8) (number_of l * 65536 ^ (8 - a) + number_of r)
    by gs hs x x' y y' n n' = rw (x, x', y, y', n, n') (compressed_some gs hs)

-- the answers about the two sides
module _ (s : List ℕ) (i : ℕ) where
  abbrev whole : Option ℕ
  whole = of_groups (read_compressed (take i s, drop (i + 2) s))

  abbrev part : List ℕ
  part = take (length s - (i + 2)) (drop (i + 2) s)

  abbrev left : Option (List ℕ)
  left = read_groups read_group (side_parts (take i s))

  abbrev right : Option (List ℕ)
  right = read_groups read_last_group (side_parts (drop (i + 2) s))

  right_part : read_groups (reads_last true) (side_parts part) ≡ right
  right_part = ap (λ (t : List ℕ). read_groups read_last_group (side_parts t)) (take_rest s (i + 2))

  module _ (l : Option (ℕ × Words)) (is-l : l ≡ groups_from 0 0 (read_groups (reads_last false) (side_parts (take i s)))) where
    pub sides_left : l ≡ None → None ≡ as_v6 whole
    sides_left e =
        sym (ap as_v6 (compressed_is (take i s) (drop (i + 2) s)
        ∙ compressed_none left right (λ gs hs p q. omega (arith, groups_none left (sym is-l ∙ e) gs p))))

    module _ (r : Option (ℕ × Words)) (is-r : r ≡ groups_from 0 0 (read_groups (reads_last true) (side_parts part))) where
      right_is : groups_from 0 0 right ≡ r
      right_is = ap (groups_from 0 0) (sym right_part) ∙ sym is-r

      pub sides_right : r ≡ None → None ≡ as_v6 whole
      sides_right e =
          sym (ap as_v6 (compressed_is (take i s) (drop (i + 2) s)
          ∙ compressed_none left right (λ gs hs p q. omega (arith, groups_none right (right_is ∙ e) hs q))))

      module _ (a : ℕ) (x : Words) (e : l ≡ Some (a, x)) (b : ℕ) (y : Words) (f : r ≡ Some (b, y)) where
        pub sides_join : (v : Option (ℕ × ℕ)) → v ≡ as_v6 (given (ltb (a + b) 8) (number_of x * 65536 ^ (8 - a) + number_of y)) → v ≡ as_v6 whole
        sides_join v h =
            h ∙ sym (ap as_v6 (compressed_is (take i s) (drop (i + 2) s)
            ∙ compressed_both left right a x b y (sym is-l ∙ e) (right_is ∙ f)))

-- ## IPv6 text

-- a row with a part that can't be read
read_groups_none : (f : List ℕ → Option (List ℕ)) (w : List ℕ) (ws : List (List ℕ)) → read_groups f ws ≡ None → read_groups f (w ∷ ws) ≡ None
unfolding read_groups
read_groups_none f w [] e = let z : ◌≡◌ {A = ℕ} 0 1 = cc in absurd (omega arith)
read_groups_none f w (v ∷ ws) e = rw e (by (read_group w))
  where
    by : (o : Option (List ℕ)) → ◌≡◌ {A = Option (List ℕ)} (o >>= λ g. None) None
    by None = refl
    by (Some g) = refl

-- the mark at the front
starts_with_lem : (x : ℕ) (t : List ℕ) → starts_with (bytes "::") (x ∷ t) ≡ true → (x ≡ 58) × ((u : List ℕ) × (t ≡ 58 ∷ u))
unfolding equal
starts_with_lem x [] e = absurd (true≢false (sym (and_true (eqb 58 x) false e).1))
starts_with_lem x (y ∷ u) e =
    let p : (eqb 58 x ≡ true) × ((eqb 58 y && true) ≡ true) = and_true (eqb 58 x) (eqb 58 y && true) e in
    (sym (eqb-true 58 x p.0), (u, ap (λ (z : ℕ). z ∷ u) (sym (eqb-true 58 y (and_true (eqb 58 y) true p.1).0))))

-- the parts after the first cannot be read where `::` stands: a part of no bytes is among them, and is not the last
abbrev others : List (List ℕ) → List (List ℕ)
others [] = []
others (w ∷ ws) = ws

others_cons : (x : ℕ) (ws : List (List ℕ)) → (ws ≡ [] → ⊥) → others (cons_head x ws) ≡ others ws
others_cons x [] n = absurd (n refl)
others_cons x (w ∷ ws) n = refl

read_groups_others : (f : List ℕ → Option (List ℕ)) (ws : List (List ℕ)) → (ws ≡ [] → ⊥) → read_groups f (others ws) ≡ None → read_groups f ws ≡ None
read_groups_others f [] n e = absurd (n refl)
read_groups_others f (w ∷ ws) n e = read_groups_none f w ws e

read_groups_empty : (f : List ℕ → Option (List ℕ)) (t : List ℕ) → read_groups f ([] ∷ split ":" t) ≡ None
unfolding read_group all
read_groups_empty f t = read_groups_more f [] t

split_colon : (t : List ℕ) → split ":" (58 ∷ t) ≡ [] ∷ split ":" t
unfolding split any
split_colon t = refl

others_none : (f : List ℕ → Option (List ℕ)) (t : List ℕ) → place_of (bytes "::") t < length t → read_groups f (others (split ":" t)) ≡ None
unfolding place_of split any
others_none f [] h = absurd (omega arith)
others_none f (x ∷ t) h = by (starts_with (bytes "::") (x ∷ t)) refl (among ":" x) refl (others_none f t)
  where
    by : (a : Bool) → starts_with (bytes "::") (x ∷ t) ≡ a → (b : Bool) → among ":" x ≡ b
        → (place_of (bytes "::") t < length t → read_groups f (others (split ":" t)) ≡ None) → read_groups f (others (split ":" (x ∷ t))) ≡ None
    by true p true q ih = rw q (rw ((starts_with_lem x t p).1.1, split_colon (starts_with_lem x t p).1.0) (read_groups_empty f (starts_with_lem x t p).1.0))
    by true p false q ih = absurd (true≢false (sym (rw (eq-eqb x 58 (starts_with_lem x t p).0)) ∙ q))
    by false p true q ih =
        let k : suc (place_of (bytes "::") t) < length (x ∷ t) = rw p at h in
        rw q (read_groups_others f (split ":" t) (split_some t) (ih (omega arith)))
    by false p false q ih =
        let k : suc (place_of (bytes "::") t) < length (x ∷ t) = rw p at h in
        rw (q, others_cons x (split ":" t) (split_some t)) (ih (omega arith))

or_else_none : (o : Option (List ℕ)) → (o or_else None) ≡ o
or_else_none None = refl
or_else_none (Some gs) = refl

place_two : (t : List ℕ) → place_of (bytes "::") t < length t → place_of (bytes "::") t + 2 ≤ length t
unfolding place_of
place_two [] h = absurd (omega arith)
place_two (x ∷ t) h = by (starts_with (bytes "::") (x ∷ t)) refl (place_two t)
  where
    by : (b : Bool) → starts_with (bytes "::") (x ∷ t) ≡ b → (place_of (bytes "::") t < length t → place_of (bytes "::") t + 2 ≤ length t)
        → place_of (bytes "::") (x ∷ t) + 2 ≤ length (x ∷ t)
    by true e ih = rw e (omega (arith, ap length (starts_with_lem x t e).1.1))
    by false e ih = let k : suc (place_of (bytes "::") t) < length (x ∷ t) = rw e at h in rw e (omega (arith, ih (omega arith)))

-- a text of no bytes has no group either way
plain_side : (t : List ℕ) → of_groups (read_groups read_last_group (split ":" t)) ≡ of_groups (read_groups read_last_group (side_parts t))
unfolding split read_groups read_last_group read_group all read_v4 each read_decimal from_digits equal numeral
plain_side [] = refl
plain_side (x ∷ t) = refl

-- eight groups, by the code's answer
of_groups_nothing : (o : Option (List ℕ)) → groups_from 0 0 o ≡ None → of_groups o ≡ None
of_groups_nothing None e = refl
of_groups_nothing (Some gs) e = rw (ne_eqb (length gs) 8 (λ q. omega (arith, groups_none (Some gs) e gs refl)))

of_groups_are : (o : Option (List ℕ)) (c : ℕ) (w : Words) → groups_from 0 0 o ≡ Some (c, w) → as_v6 (of_groups o)
    ≡ (when eqb c 8 then Some (w.high, w.low) else None)
of_groups_are o c w e = let r : AreGroups o c w = groups_are o c w e in by r.groups r.read r.count r.number
  where
    if_given : (b : Bool) (n : ℕ) → as_v6 (given b n) ≡ (when b then Some ((n / 2 ^ 64), (n % 2 ^ 64)) else None)
    if_given true n = refl
    if_given false n = refl

    by : (gs : List ℕ) → o ≡ Some gs → c ≡ length gs → w ≡ words_of (from_digits 65536 0 gs) → as_v6 (of_groups o)
        ≡ (when eqb c 8 then Some (w.high, w.low) else None)
    by gs x y n = rw (x, y, n) (if_given (eqb (length gs) 8) (from_digits 65536 0 gs))

-- with `::` in it
module _ (t : List ℕ) (i : ℕ) (is-i : i ≡ place_of (bytes "::") t) where
  module _ (h : i < length t) where
    pub v6_two : i + 2 ≤ length t
    v6_two = rw is-i (place_two t (rw is-i at h))

    read_v6_compressed : read_v6 t ≡ of_groups (read_compressed (take i t, drop (i + 2) t))
    unfolding read_v6
    read_v6_compressed =
        let k : place_of (bytes "::") t < length t = rw is-i at h in
        rw (
          split_once_place (bytes "::") t k,
          read_groups_others read_last_group (split ":" t) (split_some t) (others_none read_last_group t k),
          ← is-i,
          or_else_none (read_compressed (take i t, drop (i + 2) t)),
        )

    pub v6_compressed : (v : Option (ℕ × ℕ)) → v ≡ as_v6 (of_groups (read_compressed (take i t, drop (i + 2) t))) → v ≡ as_v6 (read_v6 t)
    v6_compressed v e = e ∙ sym (ap as_v6 read_v6_compressed)

  -- without
  module _ (h : length t ≤ i) where
    read_v6_plain : read_v6 t ≡ of_groups (read_groups read_last_group (side_parts t))
    unfolding read_v6
    read_v6_plain = rw (split_once_no_place (bytes "::") t (rw is-i at h)) (plain_side t)

    module _ (g : Option (ℕ × Words)) (is-g : g ≡ groups_from 0 0 (read_groups (reads_last true) (side_parts t))) where
      pub v6_nothing : g ≡ None → None ≡ as_v6 (read_v6 t)
      v6_nothing e = sym (ap as_v6 (read_v6_plain ∙ of_groups_nothing (read_groups read_last_group (side_parts t)) (sym is-g ∙ e)))

      module _ (c : ℕ) (w : Words) (e : g ≡ Some (c, w)) where
        pub v6_eight : c ≡ 8 → Some (w.high, w.low) ≡ as_v6 (read_v6 t)
        v6_eight k = sym (ap as_v6 read_v6_plain ∙ of_groups_are (read_groups read_last_group (side_parts t)) c w (sym is-g ∙ e) ∙ rw (eq-eqb c 8 k))

        pub v6_fewer : (c ≡ 8 → ⊥) → None ≡ as_v6 (read_v6 t)
        v6_fewer k = sym (ap as_v6 read_v6_plain ∙ of_groups_are (read_groups read_last_group (side_parts t)) c w (sym is-g ∙ e) ∙ rw (ne_eqb c 8 k))

-- ## An address of either kind

-- what was read, by what the code answers
pub as_v6_none : (o : Option ℕ) → as_v6 o ≡ None → o ≡ None
as_v6_none None e = refl
as_v6_none (Some n) e = let z : ◌≡◌ {A = ℕ} 0 1 = cc in absurd (omega arith)

pub as_v6_some : (o : Option ℕ) (a b : ℕ) → as_v6 o ≡ Some (a, b) → o ≡ Some (a * 2 ^ 64 + b)
as_v6_some None a b e = let z : ◌≡◌ {A = ℕ} 0 1 = cc in absurd (omega arith)
as_v6_some (Some n) a b e =
    let p : n / 2 ^ 64 ≡ a = ap (λ (o : Option (ℕ × ℕ)). (unwrap_or {T = ℕ × ℕ} o (0, 0)).0) e in
    let q : n % 2 ^ 64 ≡ b = ap (λ (o : Option (ℕ × ℕ)). (unwrap_or {T = ℕ × ℕ} o (0, 0)).1) e in
    ap Some (sym (number_of_words_of n) ∙ ap₂ (λ (x y : ℕ). x * 2 ^ 64 + y) p q)

module _ (t : List ℕ) (v : Option ℕ) (is_v : v ≡ read_v4 t) where
  pub address_v4 : (n : ℕ) → v ≡ Some n → Ok (A.V4 n) ≡ read_address t
  unfolding read_address
  address_v4 n e = sym (rw (as_number_some (read_v4 t) n (sym is_v ∙ e)))

  module _ (e : v ≡ None) (w : Option (ℕ × ℕ)) (is-w : w ≡ as_v6 (read_v6 t)) where
    pub address_none : w ≡ None → (r : Refusal) → r ≡ placeless F.BadRequest → Err r ≡ read_address t
    unfolding read_address
    address_none f r is-r = ap Err is-r ∙ sym (rw (as_number_none (read_v4 t) (sym is_v ∙ e), as_v6_none (read_v6 t) (sym is-w ∙ f)))

    pub address_v6 : (a b : ℕ) → w ≡ Some (a, b) → b < 18446744073709551616 → Ok (A.V6 a b) ≡ read_address t
    unfolding read_address
    address_v6 a b f h = sym (rw (as_number_none (read_v4 t) (sym is_v ∙ e), as_v6_some (read_v6 t) a b (sym is-w ∙ f), high a 64 h, low a 64 h))
