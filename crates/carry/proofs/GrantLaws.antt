-- What the written lines grant: a port of the span, at every address, exactly if it is carried over.
--   span_grants == some line of a span's lines grants the port p, exactly if f holds of it
--   span-no-colon == no such line is of the form `addr4/len:pmin,pmax`
-- Assumes nothing.
use Rattle.std.specs.Prelude.{None, Option, Some}
use Prim.Native.Nat.{ℕ, zero, suc, ◌+◌, ◌-◌, ◌*◌, ◌^◌, ◌<◌, ◌≤◌}
use mathlib.Core.Bool.{Bool, true, false, not, ◌&&◌, ◌||◌, or-false, or_assoc}
use mathlib.Core.List.{List, [], ◌∷◌, ◌++◌}
use mathlib.Core.Path.{◌≡◌, refl, sym, ap, ap₂, ◌∙◌}
use native.Mathlib.Omega.{arith}
use borrow.Author.Tests.{le-leb, lt-leb, leb-true, ne_eqb, eqb-true, eqb-false, not-true}
use lib.Arith.{digits_lt}
use lib.Dec.{leb, eqb}
use Rattle.text.specs.Basics.{when◌then◌else◌, ◌>>=◌, ◌or_else◌, any, all, each}
use Rattle.text.specs.Text.{bytes, equal, lower, split, split_once, in_range, is_digit}
use Rattle.text.specs.Number.{from_digits, to_digits, numeral, decimal, read_decimal}
use Rattle.text.proofs.BasicLaws.{all_append, and_true}
use Rattle.text.proofs.Intercalate.{free, free_all, split_append}
use Rattle.text.proofs.Numeral.{all_numeral, is_digit_digit_byte, read_decimal_decimal}
use Rattle.address.specs.declared.Addr.{Addr}
use Rattle.address.specs.declared.Addr.TheVariants as A
use Rattle.address.specs.Address.{read_v4, read_v6, read_group, read_groups, read_compressed, read_last_group}
use Rattle.byuid.specs.Byuid.{read_range, read_net, read_port, read_comma_form, read_colon_form, line_grants, is_retired, retired_fault, byuid_fault}
use Rattle.carry.specs.Carry.{port_lines, span_lines}

digits : (q : ℕ) → all is_digit (decimal q) ≡ true
digits q = all_numeral is_digit 10 (omega arith) is_digit_digit_byte 10 q

-- digits hold no such mark
unmarked : (c : ℕ) → is_digit c ≡ false → (q : ℕ) → free c (decimal q) ≡ true
unmarked c n q = free_all is_digit c n (decimal q) (digits q)

no_split : (c : ℕ) (w : List ℕ) → free c w ≡ true → split_once (c ∷ []) w ≡ None
unfolding split_once equal all
no_split c [] e = refl
no_split c (x ∷ w) e =
    let a = and_true (not (eqb x c)) (free c w) e in
    rw (ne_eqb c x (λ q. eqb-false x c (not-true (eqb x c) a.0) (sym q)), no_split c w a.1)

ports_read : (q : ℕ) → q ≤ 65535 → read_range read_port (decimal q) ≡ Some (q, q)
unfolding read_range
ports_read q h = rw (no_split 45 (decimal q) (unmarked 45 refl q), read_decimal_decimal 65535 q h (omega arith))

-- the line of every IPv4 address, and of every IPv6 address
abbrev pub line_v4 : ℕ → List ℕ
line_v4 q = bytes "0.0.0.0/0," ++ decimal q

abbrev pub line_v6 : ℕ → List ℕ
line_v6 q = bytes "::/0," ++ decimal q

-- the addresses of each line, as either kind
v4_line_v4 : (read_range read_v4 (bytes "0.0.0.0/0") or_else read_net 32 read_v4 (bytes "0.0.0.0/0")) ≡ Some (0, 2 ^ 32 - 1)
unfolding any each equal lower split split_once from_digits numeral read_decimal read_v4 read_range read_net
v4_line_v4 = refl

v4_line_v6 : (read_range read_v6 (bytes "0.0.0.0/0") or_else read_net 128 read_v6 (bytes "0.0.0.0/0")) ≡ None
unfolding any all each equal lower split split_once from_digits to_digits numeral read_decimal read_v4 read_v6 read_group read_groups read_compressed read_last_group
    read_range read_net
v4_line_v6 = refl

v6_line_v4 : (read_range read_v4 (bytes "::/0") or_else read_net 32 read_v4 (bytes "::/0")) ≡ None
unfolding any each equal lower split split_once from_digits numeral read_decimal read_v4 read_range read_net
v6_line_v4 = refl

v6_line_v6 : (read_range read_v6 (bytes "::/0") or_else read_net 128 read_v6 (bytes "::/0")) ≡ Some (0, 2 ^ 128 - 1)
unfolding any all each equal lower split split_once from_digits to_digits numeral read_decimal read_v4 read_v6 read_group read_groups read_compressed read_last_group
    read_range read_net
v6_line_v6 = refl

module _ (w : ℕ) (f : List ℕ → Option ℕ) (q : ℕ) where
  comma_form_v4 : read_comma_form w f (line_v4 q)
      ≡ ((read_range f (bytes "0.0.0.0/0") or_else read_net w f (bytes "0.0.0.0/0")) >>= λ a. read_range read_port (decimal q) >>= λ b. Some (a, b))
  unfolding read_comma_form split_once equal
  comma_form_v4 = refl

  comma_form_v6 : read_comma_form w f (line_v6 q)
      ≡ ((read_range f (bytes "::/0") or_else read_net w f (bytes "::/0")) >>= λ a. read_range read_port (decimal q) >>= λ b. Some (a, b))
  unfolding read_comma_form split_once equal
  comma_form_v6 = refl

-- neither line is of the form `addr4/len:pmin,pmax`
free_line : (c : ℕ) → is_digit c ≡ false → (net : List ℕ) → free c net ≡ true → (q : ℕ) → free c (net ++ decimal q) ≡ true
free_line c n net h q = all_append (λ b. not (eqb b c)) net (decimal q) h (unmarked c n q)

pub colon_v4 : (q : ℕ) → read_colon_form (line_v4 q) ≡ None
unfolding read_colon_form all
colon_v4 q = rw (no_split 58 (line_v4 q) (free_line 58 refl (bytes "0.0.0.0/0,") refl q))

pub colon_v6 : (q : ℕ) → read_colon_form (line_v6 q) ≡ None
unfolding read_colon_form split_once equal read_net
colon_v6 q = refl

-- ## What a line grants

same_port : (q p : ℕ) → in_range q q p ≡ eqb q p
same_port q p = by (eqb q p) refl (leb q p) refl
  where
    by : (b : Bool) → eqb q p ≡ b → (c : Bool) → leb q p ≡ c → in_range q q p ≡ eqb q p
    by true e c f = let s : q ≡ p = eqb-true q p e in rw (e, le-leb q p (omega arith), le-leb p q (omega arith))
    by false e true f =
        let l : q ≤ p = leb-true q p f in
        let n : q ≡ p → ⊥ = eqb-false q p e in
        rw (e, f, lt-leb p q (omega arith))
    by false e false f = rw (e, f)

from_zero : (n : ℕ) → leb 0 n ≡ true
from_zero n = le-leb 0 n (omega arith)

below : (n m : ℕ) → n < m → n ≤ m - 1
below n m h = omega arith

-- an address that a caller can have
pub data Somewhere : Addr → Type 0 where
  at_v4 : (n : ℕ) → n < 2 ^ 32 → Somewhere (A.V4 n)
  at_v6 : (high low : ℕ) → high < 2 ^ 64 → low < 2 ^ 64 → Somewhere (A.V6 high low)

module _ (p q : ℕ) (h : q ≤ 65535) where
  v4_grants : (n : ℕ) → n < 2 ^ 32 → line_grants (A.V4 n) p (line_v4 q) ≡ eqb q p
  unfolding line_grants
  v4_grants n l = rw (comma_form_v4 32 read_v4 q, v4_line_v4, ports_read q h, le-leb 0 n (omega arith), le-leb n (2 ^ 32 - 1) (omega arith)) (same_port q p)

  v4_other : (n : ℕ) → line_grants (A.V4 n) p (line_v6 q) ≡ false
  unfolding line_grants
  v4_other n = rw (comma_form_v6 32 read_v4 q, v6_line_v4)

  v6_grants : (high low : ℕ) → high < 2 ^ 64 → low < 2 ^ 64 → line_grants (A.V6 high low) p (line_v6 q) ≡ eqb q p
  unfolding line_grants
  v6_grants high low k l =
      let n : ℕ = high * 2 ^ 64 + low in
      rw (comma_form_v6 128 read_v6 q, v6_line_v6, ports_read q h, from_zero n, le-leb n (2 ^ 128 - 1) (below n (2 ^ 128) (digits_lt k l))) (same_port q p)

  v6_other : (high low : ℕ) → line_grants (A.V6 high low) p (line_v4 q) ≡ false
  unfolding line_grants
  v6_other high low = rw (comma_form_v4 128 read_v6 q, v4_line_v6)

  both_lines : (a : Addr) → Somewhere a → (line_grants a p (line_v4 q) || line_grants a p (line_v6 q)) ≡ eqb q p
  both_lines A.Unknown x' = elim x' [ ]
  both_lines (A.V4 n) (at_v4 m l) = rw (v4_grants n l, v4_other n) (or-false (eqb q p))
  both_lines (A.V6 high low) (at_v6 x y k l) = rw (v6_other high low, v6_grants high low k l)

-- so a written text is never refused by 22
retired_v4 : (q : ℕ) → is_retired (line_v4 q) ≡ false
unfolding is_retired
retired_v4 q = rw (colon_v4 q)

retired_v6 : (q : ℕ) → is_retired (line_v6 q) ≡ false
unfolding is_retired
retired_v6 q = rw (colon_v6 q)

empty_line : (a : Addr) (p : ℕ) → line_grants a p [] ≡ false
unfolding line_grants read_comma_form split_once
empty_line A.Unknown p = refl
empty_line (A.V4 n) p = refl
empty_line (A.V6 high low) p = refl

-- ## The lines of a span

append_assoc : (s t u : List ℕ) → (s ++ t) ++ u ≡ s ++ (t ++ u)
append_assoc [] t u = refl
append_assoc (x ∷ s) t u = ap (λ (t : List ℕ). x ∷ t) (append_assoc s t u)

lines_before : (q : ℕ) (rest : List ℕ) → port_lines q ++ rest ≡ line_v4 q ++ (10 ∷ (line_v6 q ++ (10 ∷ rest)))
lines_before q rest =
    let x : List ℕ = line_v4 q ++ bytes "\n" in
    append_assoc (x ++ bytes "::/0," ++ decimal q) (bytes "\n") rest
    ∙ ap (λ (t : List ℕ). t ++ (10 ∷ rest)) (append_assoc x (bytes "::/0,") (decimal q))
    ∙ append_assoc x (line_v6 q) (10 ∷ rest)
    ∙ append_assoc (line_v4 q) (bytes "\n") (line_v6 q ++ (10 ∷ rest))

split_lines : (q : ℕ) (rest : List ℕ) → split "\n" (port_lines q ++ rest) ≡ line_v4 q ∷ line_v6 q ∷ split "\n" rest
unfolding all
split_lines q rest =
    ap (λ (t : List ℕ). split "\n" t) (lines_before q rest)
    ∙ split_append "\n" (line_v4 q) (line_v6 q ++ (10 ∷ rest)) (free_line 10 refl (bytes "0.0.0.0/0,") refl q)
    ∙ ap (λ (ls : List (List ℕ)). line_v4 q ∷ ls) (split_append "\n" (line_v6 q) rest (free_line 10 refl (bytes "::/0,") refl q))

-- p is one of k ports from q on, and f holds of it
span_has : (ℕ → Bool) → ℕ → ℕ → ℕ → Bool
span_has f zero q p = false
span_has f (suc k) q p = (f q && eqb q p) || span_has f k (suc q) p

span_any : (f : ℕ → Bool) (k q p : ℕ) (a : Addr) → Somewhere a → q + k ≤ 65536 → any (line_grants a p) (split "\n" (span_lines f k q)) ≡ span_has f k q p
unfolding span_lines span_has any split
span_any f zero q p a s h = rw (empty_line a p)
span_any f (suc k) q p a s h = by (f q) (span_any f k (suc q) p a s (omega arith))
  where
    by : (b : Bool) → any (line_grants a p) (split "\n" (span_lines f k (suc q))) ≡ span_has f k (suc q) p
        → any (line_grants a p) (split "\n" ((when b then port_lines q else []) ++ span_lines f k (suc q))) ≡ ((b && eqb q p) || span_has f k (suc q) p)
    by true ih =
        ap (any (line_grants a p)) (split_lines q (span_lines f k (suc q)))
        ∙ sym (or_assoc (line_grants a p (line_v4 q)) (line_grants a p (line_v6 q)) (any (line_grants a p) (split "\n" (span_lines f k (suc q)))))
        ∙ ap₂ (λ (x y : Bool). x || y) (both_lines p q (omega arith) a s) ih
    by false ih = ih

has_past : (f : ℕ → Bool) (k q p : ℕ) → p < q → span_has f k q p ≡ false
unfolding span_has
has_past f zero q p h = refl
has_past f (suc k) q p h = by (f q) (has_past f k (suc q) p (omega arith))
  where
    by : (b : Bool) → span_has f k (suc q) p ≡ false → ((b && eqb q p) || span_has f k (suc q) p) ≡ false
    by true ih = rw (ne_eqb q p (λ e. omega arith)) ih
    by false ih = ih

has_in : (f : ℕ → Bool) (k q p : ℕ) → q ≤ p → p < q + k → span_has f k q p ≡ f p
unfolding span_has
has_in f zero q p h l = absurd (omega arith)
has_in f (suc k) q p h l = by (eqb q p) refl (f q) refl (λ n. has_in f k (suc q) p (omega (arith, n)) (omega arith))
  where
    by : (b : Bool) → eqb q p ≡ b → (c : Bool) → f q ≡ c → ((q ≡ p → ⊥) → span_has f k (suc q) p ≡ f p)
        → ((f q && eqb q p) || span_has f k (suc q) p) ≡ f p
    by true e true g ih = let s : q ≡ p = eqb-true q p e in rw (e, g) (sym (ap f (sym s) ∙ g))
    by true e false g ih = let s : q ≡ p = eqb-true q p e in rw (e, g, has_past f k (suc q) p (omega arith)) (sym (ap f (sym s) ∙ g))
    by false e true g ih = rw (e, g) (ih (eqb-false q p e))
    by false e false g ih = rw (e, g) (ih (eqb-false q p e))

pub span_grants : (f : ℕ → Bool) (k q p : ℕ) (a : Addr) → Somewhere a → q + k ≤ 1024 → q ≤ p → p < q + k
    → any (line_grants a p) (split "\n" (span_lines f k q)) ≡ f p
span_grants f k q p a s h l m = span_any f k q p a s (omega arith) ∙ has_in f k q p l m

span_unretired : (f : ℕ → Bool) (k q n : ℕ) → retired_fault n (split "\n" (span_lines f k q)) ≡ None
unfolding span_lines retired_fault split is_retired read_colon_form split_once
span_unretired f zero q n = refl
span_unretired f (suc k) q n = by (f q) (span_unretired f k (suc q))
  where
    by : (b : Bool) → ((n : ℕ) → retired_fault n (split "\n" (span_lines f k (suc q))) ≡ None)
        → retired_fault n (split "\n" ((when b then port_lines q else []) ++ span_lines f k (suc q))) ≡ None
    by true ih = ap (retired_fault n) (split_lines q (span_lines f k (suc q))) ∙ passed
      where
        passed : retired_fault n (line_v4 q ∷ line_v6 q ∷ split "\n" (span_lines f k (suc q))) ≡ None
        passed = rw (retired_v4 q, retired_v6 q) (ih (n + 1 + 1))
    by false ih = ih n

pub never_retired : (f : ℕ → Bool) (k q : ℕ) → byuid_fault (span_lines f k q) ≡ None
unfolding byuid_fault
never_retired f k q = span_unretired f k q 1
