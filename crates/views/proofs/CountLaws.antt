-- Laws of counts: as 64 bits hold them, and of sums along words.
--   capped_add, capped_same == a sum may be capped before or after
--   sum_within_lem              == a sum up to the first word of which own or p holds, by the count of the words up to the first of which own holds
-- Assumes nothing.
use Prim.Native.Nat.{ℕ, zero, suc, ◌+◌, ◌-◌, ◌^◌, ◌≤◌, ◌<◌}
use native.Mathlib.Omega.{arith}
use mathlib.Core.Bool.{Bool, true, false, ◌||◌}
use mathlib.Core.List.{List, [], ◌∷◌}
use mathlib.Core.Path.{◌≡◌, refl, sym, ap, ap₂, ◌∙◌}
use lib.Dec.{ltb}
use borrow.Author.Tests.{ltb-true, ltb-false, lt-ltb, le-ltb}
use Rattle.text.specs.Basics.{when◌then◌else◌, any, sum_until}
use Rattle.text.proofs.BasicLaws.{or_false as or_none}
use Rattle.tables.specs.Tried.{capped}
use Rattle.views.specs.Level.{sum_within}

-- ## As 64 bits hold them

pub add_over : (a b : ℕ) → 18446744073709551615 - a < b → 18446744073709551615 ≡ capped (a + b)
unfolding capped
add_over a b h = rw (le-ltb (a + b) 18446744073709551616 (omega arith))

pub add_within : (a b : ℕ) → b ≤ 18446744073709551615 - a → a < 18446744073709551616 → a + b ≡ capped (a + b)
unfolding capped
add_within a b h k = rw (lt-ltb (a + b) 18446744073709551616 (omega arith))

pub capped_lt : (n : ℕ) → capped n < 2 ^ 64
unfolding capped
capped_lt n = by (ltb n 18446744073709551616) refl
  where
    by : (b : Bool) → ltb n 18446744073709551616 ≡ b → (when b then n else 18446744073709551615) < 18446744073709551616
    by true e = ltb-true n 18446744073709551616 e
    by false e = omega arith

capped_top : (n : ℕ) → 18446744073709551615 ≤ n → capped n ≡ 18446744073709551615
unfolding capped
capped_top n h = by (ltb n 18446744073709551616) refl
  where
    by : (b : Bool) → ltb n 18446744073709551616 ≡ b → (when b then n else 18446744073709551615) ≡ 18446744073709551615
    by true e = omega (arith, ltb-true n 18446744073709551616 e)
    by false e = refl

pub capped_small : (n : ℕ) → n < 2 ^ 64 → capped n ≡ n
unfolding capped
capped_small n h = rw (lt-ltb n 18446744073709551616 h)

-- a count that was capped before
pub capped_add : (a b : ℕ) → capped (a + capped b) ≡ capped (a + b)
capped_add a b = by (ltb b 18446744073709551616) refl
  where
    by : (c : Bool) → ltb b 18446744073709551616 ≡ c → capped (a + capped b) ≡ capped (a + b)
    by true e = ap (λ (x : ℕ). capped (a + x)) (capped_small b (ltb-true b 18446744073709551616 e))
    by false e =
        let h : 18446744073709551616 ≤ b = ltb-false b 18446744073709551616 e in
        let k : capped b ≡ 18446744073709551615 = capped_top b (omega arith) in
        capped_top (a + capped b) (omega arith) ∙ sym (capped_top (a + b) (omega arith))

swap : (a b : ℕ) → a + b ≡ b + a
swap a b = omega arith

pub capped_same : (a b c d : ℕ) → capped a ≡ capped c → capped b ≡ capped d → capped (a + b) ≡ capped (c + d)
capped_same a b c d e f =
    sym (capped_add a b) ∙ ap (λ (x : ℕ). capped (a + x)) f ∙ capped_add a d ∙ ap capped (swap a d) ∙ sym (capped_add d a)
    ∙ ap (λ (x : ℕ). capped (d + x)) e ∙ capped_add d c ∙ ap capped (swap d c)

pub capped_then : (a b c : ℕ) → capped (capped (a + capped b) + c) ≡ capped (a + (b + c))
capped_then a b c =
    let e : capped (a + capped b) + c ≡ c + capped (a + capped b) = omega arith in
    let f : c + (a + b) ≡ a + (b + c) = omega arith in
    rw (e, capped_add a b, capped_add c (a + b), f)

-- ## Along words

-- the same of each word of which r does not hold
pub sum_same_where : (p q : List ℕ → Bool) (f g : List ℕ → ℕ) (r : List ℕ → Bool) → ((w : List ℕ) → r w ≡ false → p w ≡ q w)
    → ((w : List ℕ) → r w ≡ false → f w ≡ g w) → (ws : List (List ℕ)) → any r ws ≡ false → sum_until p f ws ≡ sum_until q g ws
unfolding any sum_until
sum_same_where p q f g r e k [] h = refl
sum_same_where p q f g r e k (w ∷ ws) h =
    let n : (r w ≡ false) × (any r ws ≡ false) = or_none (r w) (any r ws) h in
    ap₂ ◌+◌ (k w n.0)
    (ap₂ (λ (b : Bool) (s : ℕ). when b then 0 else s) (e w n.0) (sum_same_where p q f g r e k ws n.1))

pub sum_same : (p q : List ℕ → Bool) (f g : List ℕ → ℕ) → ((w : List ℕ) → p w ≡ q w) → ((w : List ℕ) → f w ≡ g w) → (ws : List (List ℕ))
    → sum_until p f ws ≡ sum_until q g ws
unfolding sum_until
sum_same p q f g e k [] = refl
sum_same p q f g e k (w ∷ ws) = ap₂ ◌+◌ (k w) (ap₂ (λ (b : Bool) (s : ℕ). when b then 0 else s) (e w) (sum_same p q f g e k ws))

pub within_same : (p q : List ℕ → Bool) (f g : List ℕ → ℕ) → ((w : List ℕ) → p w ≡ q w) → ((w : List ℕ) → capped (f w) ≡ capped (g w))
    → (n : ℕ) (ws : List (List ℕ)) → capped (sum_within n p f ws) ≡ capped (sum_within n q g ws)
unfolding sum_within
within_same p q f g e k zero ws = refl
within_same p q f g e k (suc n) [] = refl
within_same p q f g e k (suc n) (w ∷ ws) =
    ap (λ (b : Bool). capped (f w + (when b then 0 else sum_within n p f ws))) (e w)
    ∙ capped_same (f w) (when q w then 0 else sum_within n p f ws) (g w) (when q w then 0 else sum_within n q g ws) (k w)
    (by (q w) (within_same p q f g e k n ws))
  where
    by : (b : Bool) → capped (sum_within n p f ws) ≡ capped (sum_within n q g ws)
        → capped (when b then 0 else sum_within n p f ws) ≡ capped (when b then 0 else sum_within n q g ws)
    by true h = refl
    by false h = h

pub within_none : (n : ℕ) (p : List ℕ → Bool) (f : List ℕ → ℕ) → sum_within n p f [] ≡ 0
unfolding sum_within
within_none zero p f = refl
within_none (suc n) p f = refl

pub sum_within_lem : (own p : List ℕ → Bool) (f : List ℕ → ℕ) (ws : List (List ℕ))
    → sum_until (λ w. own w || p w) f ws ≡ sum_within (sum_until own (λ w. 1) ws) p f ws
unfolding sum_until sum_within
sum_within_lem own p f [] = sym (within_none 0 p f)
sum_within_lem own p f (w ∷ ws) = by (own w) (sum_within_lem own p f ws)
  where
    if_none : (b : Bool) → ◌≡◌ {A = ℕ} 0 (when b then 0 else 0)
    if_none true = refl
    if_none false = refl

    by : (b : Bool) → sum_until (λ v. own v || p v) f ws ≡ sum_within (sum_until own (λ v. 1) ws) p f ws
        → f w + (when (b || p w) then 0 else sum_until (λ v. own v || p v) f ws) ≡ sum_within (1 + (when b then 0 else sum_until own (λ v. 1) ws)) p f (w ∷ ws)
    by true ih = ap (λ (s : ℕ). f w + s) (if_none (p w))
    by false ih =
        let z : suc (sum_until own (λ v. 1) ws) ≡ 1 + sum_until own (λ v. 1) ws = omega arith in
        ap (λ (s : ℕ). f w + (when p w then 0 else s)) ih ∙ ap (λ (n : ℕ). sum_within n p f (w ∷ ws)) z
