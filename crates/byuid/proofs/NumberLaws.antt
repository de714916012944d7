-- Laws of numbers: those of two words, ranges of them, and nets, over the width.
-- Assumes nothing.
use Rattle.std.specs.Prelude.{None, Option, Some, unwrap_or}
use Prim.Native.Nat.{ℕ, suc, ◌+◌, ◌-◌, ◌*◌, ◌/◌, ◌%◌, ◌^◌, ◌<◌, ◌≤◌}
use mathlib.Core.Bool.{Bool, true, false, ◌&&◌, and-false}
use mathlib.Core.List.{List}
use mathlib.Core.Path.{◌≡◌, refl, sym, ap, ◌∙◌}
use native.Mathlib.Nat.{div-add-mod', mod-lt, mul-le-mul_right, add-mul}
use native.Mathlib.Omega.{arith}
use borrow.Author.Tests.{leb-true, leb-false, le-leb, lt-leb, eqb-true, eq-eqb, ne_eqb}
use lib.Dec.{leb, ltb, eqb}
use lib.Pow.{pow_pos}
use Rattle.text.specs.Basics.{◌>>=◌}
use Rattle.text.specs.Text.{in_range}
use Rattle.text.specs.Number.{read_decimal}
use Rattle.address.specs.Address.{same_prefix}
use Rattle.address.specs.Code.{as_v6}
use Rattle.address.proofs.ReadLaws.{read_decimal_le}
use Rattle.byuid.specs.Byuid.{Range}
use Rattle.byuid.specs.Code.{inside, membership, between_of, ends_of, net_from}

-- the parts of a pair that was read
module _ {a b x y : ℕ} (e : ◌≡◌ {A = Option (ℕ × ℕ)} (Some (a, b)) (Some (x, y))) where
  pub pair_first : a ≡ x
  pair_first = ap (λ (o : Option (ℕ × ℕ)). (unwrap_or {T = ℕ × ℕ} o (0, 0)).0) e

  pub pair_second : b ≡ y
  pair_second = ap (λ (o : Option (ℕ × ℕ)). (unwrap_or {T = ℕ × ℕ} o (0, 0)).1) e

-- ## Two words

-- two tests that hold at the same time
leb_iff : (a b c d : ℕ) → (a ≤ b → c ≤ d) → (c ≤ d → a ≤ b) → leb a b ≡ leb c d
leb_iff a b c d f g = by (leb a b) (leb c d) refl refl
  where
    by : (t u : Bool) → leb a b ≡ t → leb c d ≡ u → leb a b ≡ leb c d
    by true u p q = p ∙ sym (le-leb c d (f (leb-true a b p)))
    by false true p q = absurd (omega (arith, g (leb-true c d q), leb-false a b p))
    by false false p q = p ∙ sym q

module _ (a b c d : ℕ) where
  pub words_same : a ≡ c → leb b d ≡ leb (a * 2 ^ 64 + b) (c * 2 ^ 64 + d)
  words_same e = leb_iff b d (a * 2 ^ 64 + b) (c * 2 ^ 64 + d) (λ h. omega arith) (λ h. omega arith)

  pub words_differ : (a ≡ c → ⊥) → b < 2 ^ 64 → d < 2 ^ 64 → ltb a c ≡ leb (a * 2 ^ 64 + b) (c * 2 ^ 64 + d)
  words_differ n k l = leb_iff (suc a) c (a * 2 ^ 64 + b) (c * 2 ^ 64 + d) (λ h. omega arith) (λ h. omega arith)

-- what was read, by the words of the answer
pub as_v6_none : (o : Option ℕ) → as_v6 o ≡ None → o ≡ None
as_v6_none None e = refl
as_v6_none (Some n) e = let z : ◌≡◌ {A = ℕ} 0 1 = cc in absurd (omega arith)

pub as_v6_some : (o : Option ℕ) (a b : ℕ) → as_v6 o ≡ Some (a, b) → o ≡ Some (a * 2 ^ 64 + b)
as_v6_some None a b e = let z : ◌≡◌ {A = ℕ} 0 1 = cc in absurd (omega arith)
as_v6_some (Some n) a b e =
    let p : n / 2 ^ 64 ≡ a = pair_first e in
    let q : n % 2 ^ 64 ≡ b = pair_second e in
    ap Some (sym (div-add-mod' n (2 ^ 64)) ∙ rw (p, q))

-- ## Ranges

pub between_value : (min max : Option (ℕ × ℕ)) (a b c d n : ℕ) (x y : Bool) → min ≡ Some (a, b) → max ≡ Some (c, d)
    → x ≡ leb (a * 2 ^ 64 + b) n → y ≡ leb n (c * 2 ^ 64 + d) → Some (x && y) ≡ between_of min max n
between_value min max a b c d n x y p q h k = rw (p, q, h, k)

abbrev pub range : ℕ → ℕ → Option Range
range low high = Some (low, high)

-- between what two texts write
between_read : (o p : Option ℕ) (n : ℕ) → between_of (as_v6 o) (as_v6 p) n ≡ membership (inside n) (o >>= λ l. p >>= λ h. range l h)
unfolding membership inside
between_read None p n = refl
between_read (Some l) None n = refl
between_read (Some l) (Some h) n = rw (div-add-mod' l (2 ^ 64), div-add-mod' h (2 ^ 64))

pub ends_held : (f : List ℕ → Option ℕ) (x y : List ℕ) (n : ℕ) (min max : Option (ℕ × ℕ)) (r : Option Bool) → min ≡ as_v6 (f x) → max ≡ as_v6 (f y) → r
    ≡ between_of min max n
    → r ≡ membership (inside n) (ends_of f x y)
unfolding ends_of
ends_held f x y n min max r p q e = e ∙ rw (p, q) (between_read (f x) (f y) n)

pub alone_held : (f : List ℕ → Option ℕ) (t : List ℕ) (n : ℕ) (v : Option (ℕ × ℕ)) (r : Option Bool) → v ≡ as_v6 (f t) → r ≡ between_of v v n
    → r ≡ membership (inside n) (f t >>= λ m. range m m)
unfolding ends_of
alone_held f t n v r p e = ends_held f t t n v v r p p e ∙ ap (membership (inside n)) (twice (f t))
  where
    twice : (o : Option ℕ) → (o >>= λ l. o >>= λ h. range l h) ≡ (o >>= λ m. range m m)
    twice None = refl
    twice (Some m) = refl

eqb_range : (m n : ℕ) → eqb m n ≡ (leb m n && leb n m)
eqb_range m n = by (leb m n) (leb n m) refl refl
  where
    by : (x y : Bool) → leb m n ≡ x → leb n m ≡ y → eqb m n ≡ (leb m n && leb n m)
    by true true e f = rw (e, f) (eq-eqb m n (omega (arith, leb-true m n e, leb-true n m f)))
    by true false e f = rw (e, f) (ne_eqb m n (λ q. omega (arith, leb-false n m f)))
    by false y e f = rw e (ne_eqb m n (λ q. omega (arith, leb-false m n e)))

-- a range of one number
pub inside_one : (m n : ℕ) → Some (eqb m n) ≡ membership (inside n) (range m m)
unfolding membership inside
inside_one m n = ap Some (eqb_range m n)

-- the same of numbers of one word
module _ (f : List ℕ → Option ℕ) (x y : List ℕ) (n : ℕ) (v : Option ℕ) (is_v : v ≡ f x) where
  pub ends_no_min : v ≡ None → None ≡ membership (inside n) (ends_of f x y)
  unfolding membership ends_of
  ends_no_min e = rw (sym is_v ∙ e)

  module _ (min : ℕ) (e : v ≡ Some min) (w : Option ℕ) (is-w : w ≡ f y) where
    pub ends_no_max : w ≡ None → None ≡ membership (inside n) (ends_of f x y)
    unfolding membership ends_of
    ends_no_max q = rw (sym is_v ∙ e, sym is-w ∙ q)

    pub ends_two : (max : ℕ) → w ≡ Some max → Some (leb min n && leb n max) ≡ membership (inside n) (ends_of f x y)
    unfolding membership ends_of inside
    ends_two max q = rw (sym is_v ∙ e, sym is-w ∙ q)

-- ## Nets

-- a net of 2 ^ k numbers is the numbers that agree with its first in all but the last k bits
module _ (k n a : ℕ) (clear : n % 2 ^ k ≡ 0) where
  abbrev size : ℕ
  size = 2 ^ k

  first : n ≡ n / size * size
  first = omega (arith, div-add-mod' n size)

  split_at : (a / size * size ≤ a) × (a < a / size * size + size)
  split_at = let h : a % size < size = mod-lt a (pow_pos k) in (omega (arith, div-add-mod' a size), omega (arith, div-add-mod' a size))

  next : (x y : ℕ) → x < y → x * size + size ≤ y * size
  next x y h = omega (arith, mul-le-mul_right size h, add-mul x 1 size)

  pub in_range_prefix : in_range n (n + size - 1) a ≡ eqb (n / size) (a / size)
  in_range_prefix = by (leb (n / size) (a / size)) (leb (a / size) (n / size)) refl refl
    where
      by : (t u : Bool) → leb (n / size) (a / size) ≡ t → leb (a / size) (n / size) ≡ u → in_range n (n + size - 1) a ≡ eqb (n / size) (a / size)
      by true true p q =
          let e : n / size ≡ a / size = omega (arith, leb-true (n / size) (a / size) p, leb-true (a / size) (n / size) q) in
          let m : n / size * size ≡ a / size * size = ap (λ (x : ℕ). x * size) e in
          rw (eq-eqb (n / size) (a / size) e, le-leb n a (omega (arith, first, split_at.0)), le-leb a (n + size - 1) (omega (arith, first, split_at.1)))
      by true false p q =
          let h : n / size < a / size = leb-false (a / size) (n / size) q in
          rw (
            ne_eqb (n / size) (a / size) (λ e. omega arith),
            lt-leb a (n + size - 1) (omega (arith, first, split_at.0, next (n / size) (a / size) h, pow_pos k)),
          )
          (and-false (leb n a))
      by false u p q =
          let h : a / size < n / size = leb-false (n / size) (a / size) p in
          rw (ne_eqb (n / size) (a / size) (λ e. omega arith), lt-leb n a (omega (arith, first, split_at.1, next (a / size) (n / size) h)))

-- a length that was read
pub len_le : (w : ℕ) (t : List ℕ) (v : Option ℕ) → v ≡ read_decimal w t → (m : ℕ) → v ≡ Some m → m ≤ w
len_le w t v is_v m e = read_decimal_le w m t (sym is_v ∙ e)

-- the net of n, of w bits, with its length in t
module _ (w n a : ℕ) (t : List ℕ) (v : Option ℕ) (is_v : v ≡ read_decimal w t) where
  pub len_nothing : v ≡ None → None ≡ membership (inside a) (net_from w n t)
  unfolding net_from membership
  len_nothing e = rw (sym is_v ∙ e)

  module _ (m : ℕ) (e : v ≡ Some m) where
    is_read : read_decimal w t ≡ Some m
    is_read = sym is_v ∙ e

    module _ (x : Bool) (is_x : x ≡ eqb (n % 2 ^ (w - m)) 0) where
      pub len_set : x ≡ false → None ≡ membership (inside a) (net_from w n t)
      unfolding net_from membership
      len_set f = rw (is_read, ← is_x, f)

      pub len_clear : x ≡ true → (y : Bool) → y ≡ same_prefix w m n a → Some y ≡ membership (inside a) (net_from w n t)
      unfolding net_from membership inside same_prefix
      len_clear f y is_y =
          rw (is_read, ← is_x, f) (ap Some (is_y ∙ sym (in_range_prefix (w - m) n a (eqb-true (n % 2 ^ (w - m)) 0 (sym is_x ∙ f)))))
