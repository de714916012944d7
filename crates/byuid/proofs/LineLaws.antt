-- Laws of a line's forms: what is found at its first mark, and what each answer follows from.
-- Assumes nothing.
use Rattle.std.specs.Prelude.{None, Option, Some}
use Prim.Native.Nat.{ℕ, ◌+◌, ◌-◌, ◌*◌, ◌^◌, ◌<◌, ◌≤◌}
use mathlib.Core.Bool.{Bool, true, false, ◌&&◌}
use mathlib.Core.List.{List, [], ◌∷◌}
use mathlib.Core.Path.{◌≡◌, refl, sym, ap, ◌∙◌}
use native.Mathlib.Omega.{arith}
use borrow.Author.Tests.{lt-ltb, le-ltb, ltb-false}
use lib.Dec.{eqb, leb, ltb}
use lib.ListN.{length, take, drop}
use Rattle.text.specs.Basics.{when◌then◌else◌, ◌>>=◌, ◌or_else◌, holds, is_some, any}
use Rattle.text.specs.Text.{bytes, split_once}
use Rattle.text.specs.Number.{read_decimal}
use Rattle.text.specs.Scan.{index_of}
use Rattle.text.proofs.ScanLaws.{take_rest, split_once_mark, split_once_no_mark}
use Rattle.address.specs.Address.{read_v4, read_v6}
use Rattle.address.specs.Code.{as_v6}
use Rattle.address.specs.declared.Addr.{Addr}
use Rattle.address.specs.declared.Addr.TheVariants as A
use Rattle.byuid.specs.Byuid.{Range, read_range, read_net, read_port, read_comma_form, read_colon_form, within, line_grants, is_retired}
use Rattle.byuid.specs.Code.{inside, inside_both, membership, both_of, between_of, ends_of, net_from, ports_of, in_order, form_of, held_v6, held_of, look_of}
use Rattle.byuid.proofs.FormLaws.{v6_none, slash_range, index_free, colon_comma_form, retired_no_comma_v4, retired_no_comma_v6}
use Rattle.byuid.proofs.NumberLaws.{as_v6_none, as_v6_some, range, alone_held, inside_one}

-- what the code lends of a text around a mark at i
abbrev pub rest : List ℕ → ℕ → List ℕ
rest s i = take (length s - (i + 1)) (drop (i + 1) s)

-- ## Answers

pub both_is : (x y : Option Bool) (a b : Bool) → x ≡ Some a → y ≡ Some b → Some (a && b) ≡ both_of x y
both_is x y a b e f = rw (e, f)

abbrev ranges : Range → Range → Option (Range × Range)
ranges x y = Some (x, y)

-- two ranges, both read
pub both_held : (a p : ℕ) (o q : Option Range) → both_of (membership (inside a) o) (membership (inside p) q)
    ≡ membership (inside_both a p) (o >>= λ x. q >>= λ y. ranges x y)
unfolding membership inside_both
both_held a p None q = refl
both_held a p (Some x) None = refl
both_held a p (Some x) (Some y) = refl

-- ## Ranges and nets

module _ (f : List ℕ → Option ℕ) (s : List ℕ) (i : ℕ) (is-i : i ≡ index_of 45 s) (n : ℕ) (r : Option Bool) where
  pub range_mark : i < length s → r ≡ membership (inside n) (ends_of f (take i s) (rest s i)) → r ≡ membership (inside n) (read_range f s)
  unfolding read_range ends_of
  range_mark h e = e ∙ rw (take_rest s (i + 1), split_once_mark 45 s i is-i h)

  pub range_alone : length s ≤ i → (v : Option (ℕ × ℕ)) → v ≡ as_v6 (f s) → r ≡ between_of v v n → r ≡ membership (inside n) (read_range f s)
  unfolding read_range
  range_alone h v is_v e = rw (split_once_no_mark 45 s i is-i h) (alone_held f s n v r is_v e)

-- one number of one word
module _ (f : List ℕ → Option ℕ) (s : List ℕ) (i : ℕ) (is-i : i ≡ index_of 45 s) (n : ℕ) (h : length s ≤ i) (v : Option ℕ) (is_v : v ≡ f s) where
  pub one_nothing : v ≡ None → None ≡ membership (inside n) (read_range f s)
  unfolding read_range membership
  one_nothing e = rw (split_once_no_mark 45 s i is-i h, sym is_v ∙ e)

  pub one_value : (m : ℕ) → v ≡ Some m → Some (eqb m n) ≡ membership (inside n) (read_range f s)
  unfolding read_range
  one_value m e = rw (split_once_no_mark 45 s i is-i h, sym is_v ∙ e) (inside_one m n)

module _ (w : ℕ) (f : List ℕ → Option ℕ) (s : List ℕ) (i : ℕ) (is-i : i ≡ index_of 47 s) (n : ℕ) where
  pub net_no_mark : length s ≤ i → None ≡ membership (inside n) (read_net w f s)
  unfolding read_net membership
  net_no_mark h = rw (split_once_no_mark 47 s i is-i h)

  module _ (h : i < length s) (v : Option (ℕ × ℕ)) (is_v : v ≡ as_v6 (f (take i s))) where
    pub net_nothing : v ≡ None → None ≡ membership (inside n) (read_net w f s)
    unfolding read_net membership
    net_nothing e = rw (split_once_mark 47 s i is-i h, as_v6_none (f (take i s)) (sym is_v ∙ e))

    pub net_mark : (a b : ℕ) → v ≡ Some (a, b) → (r : Option Bool) → r ≡ membership (inside n) (net_from w (a * 2 ^ 64 + b) (rest s i)) → r
        ≡ membership (inside n) (read_net w f s)
    unfolding read_net net_from
    net_mark a b e r q = q ∙ rw (take_rest s (i + 1), split_once_mark 47 s i is-i h, as_v6_some (f (take i s)) a b (sym is_v ∙ e))

  -- the same where the address was read as one word
  module _ (h : i < length s) (v : Option ℕ) (is_v : v ≡ f (take i s)) where
    pub word_nothing : v ≡ None → None ≡ membership (inside n) (read_net w f s)
    unfolding read_net membership
    word_nothing e = rw (split_once_mark 47 s i is-i h, sym is_v ∙ e)

    pub word_mark : (a : ℕ) → v ≡ Some a → (r : Option Bool) → r ≡ membership (inside n) (net_from w a (rest s i)) → r ≡ membership (inside n) (read_net w f s)
    unfolding read_net net_from
    word_mark a e r q = q ∙ rw (take_rest s (i + 1), split_once_mark 47 s i is-i h, sym is_v ∙ e)

-- of addresses with a slash only a net is read, and of others only a range
module _ (s : List ℕ) (i : ℕ) (is-i : i ≡ index_of 47 s) (n : ℕ) where
  pub range_v6 : length s ≤ i → (r : Option Bool) → r ≡ membership (inside n) (read_range read_v6 s)
      → r ≡ membership (inside n) (read_range read_v6 s or_else read_net 128 read_v6 s)
  unfolding read_net
  range_v6 h r e = e ∙ rw (split_once_no_mark 47 s i is-i h) (by (read_range read_v6 s))
    where
      by : (o : Option Range) → membership (inside n) o ≡ membership (inside n) (o or_else None)
      by None = refl
      by (Some g) = refl

  module _ (h : i < length s) (v : Option (ℕ × ℕ)) (is_v : v ≡ as_v6 (read_v6 (take i s))) where
    only_net : read_range read_v6 s ≡ None
    only_net = slash_range read_v6 v6_none s (take i s) (drop (i + 1) s) (split_once_mark 47 s i is-i h)

    pub net_v6_nothing : v ≡ None → None ≡ membership (inside n) (read_range read_v6 s or_else read_net 128 read_v6 s)
    net_v6_nothing e = rw only_net (net_nothing 128 read_v6 s i is-i n h v is_v e)

    pub net_v6 : (a b : ℕ) → v ≡ Some (a, b) → (r : Option Bool) → r ≡ membership (inside n) (net_from 128 (a * 2 ^ 64 + b) (rest s i))
        → r ≡ membership (inside n) (read_range read_v6 s or_else read_net 128 read_v6 s)
    net_v6 a b e r q = rw only_net (net_mark 128 read_v6 s i is-i n h v is_v a b e r q)

-- ## Forms

abbrev pub addresses_of : ℕ → (List ℕ → Option ℕ) → List ℕ → Option Range
addresses_of w f t = read_range f t or_else read_net w f t

pub comma_form : (w : ℕ) (f : List ℕ → Option ℕ) (l : List ℕ) → form_of (addresses_of w f) l ≡ read_comma_form w f l
unfolding form_of read_comma_form
comma_form w f l = refl

module _ (l : List ℕ) (i : ℕ) (is-i : i ≡ index_of 44 l) (a p : ℕ) where
  module _ (f : List ℕ → Option Range) where
    pub form_no_mark : length l ≤ i → None ≡ membership (inside_both a p) (form_of f l)
    unfolding form_of membership
    form_no_mark h = rw (split_once_no_mark 44 l i is-i h)

    pub form_mark : i < length l → (x y r : Option Bool) → x ≡ membership (inside a) (f (take i l))
        → y ≡ membership (inside p) (read_range read_port (rest l i)) → r ≡ both_of x y → r ≡ membership (inside_both a p) (form_of f l)
    unfolding form_of
    form_mark h x y r is_x is_y e =
        e ∙ rw (is_x, is_y, take_rest l (i + 1), split_once_mark 44 l i is-i h) (both_held a p (f (take i l)) (read_range read_port (drop (i + 1) l)))

  module _ (w : ℕ) (f : List ℕ → Option ℕ) where
    pub comma_no_mark : length l ≤ i → None ≡ membership (inside_both a p) (read_comma_form w f l)
    comma_no_mark h = form_no_mark (addresses_of w f) h ∙ ap (membership (inside_both a p)) (comma_form w f l)

    pub comma_mark : i < length l → (x y r : Option Bool) → x ≡ membership (inside a) (read_range f (take i l) or_else read_net w f (take i l))
        → y ≡ membership (inside p) (read_range read_port (rest l i)) → r ≡ both_of x y → r
        ≡ membership (inside_both a p) (read_comma_form w f l)
    comma_mark h x y r is_x is_y e = form_mark (addresses_of w f) h x y r is_x is_y e ∙ ap (membership (inside_both a p)) (comma_form w f l)

-- ## The retired form

-- two numbers around the first comma, in order
module _ (s : List ℕ) (i : ℕ) (is-i : i ≡ index_of 44 s) where
  pub ports_no_mark : length s ≤ i → false ≡ holds in_order (ports_of s)
  unfolding ports_of
  ports_no_mark h = rw (split_once_no_mark 44 s i is-i h)

  module _ (h : i < length s) (x : Option ℕ) (is_x : x ≡ read_decimal 65535 (take i s)) where
    pub ports_no_min : x ≡ None → false ≡ holds in_order (ports_of s)
    unfolding ports_of ends_of
    ports_no_min e = rw (split_once_mark 44 s i is-i h, sym is_x ∙ e)

    module _ (low : ℕ) (e : x ≡ Some low) (y : Option ℕ) (is_y : y ≡ read_decimal 65535 (rest s i)) where
      after_mark : y ≡ read_port (drop (i + 1) s)
      after_mark = is_y ∙ rw (take_rest s (i + 1))

      pub ports_no_max : y ≡ None → false ≡ holds in_order (ports_of s)
      unfolding ports_of ends_of
      ports_no_max f =
          rw (
            split_once_mark 44 s i is-i h,
            sym is_x ∙ e,
            sym after_mark ∙ f,
          )

      pub ports_two : (high : ℕ) → y ≡ Some high → leb low high ≡ holds in_order (ports_of s)
      unfolding ports_of ends_of in_order
      ports_two high f =
          rw (
            split_once_mark 44 s i is-i h,
            sym is_x ∙ e,
            sym after_mark ∙ f,
          )

-- a net and the ports after it, in order
in_order_lem : (o : Option Range) (s : List ℕ)
    → holds (λ g. leb g.1.0 g.1.1)
    (o >>= λ a. split_once (bytes ",") s >>= λ q. read_port q.0 >>= λ low. read_port q.1 >>= λ high. ranges a (low, high))
    ≡ (is_some o && holds in_order (ports_of s))
unfolding ports_of ends_of in_order
in_order_lem None s = refl
in_order_lem (Some a) s = by (split_once (bytes ",") s)
  where
    ends : (o p : Option ℕ) → holds (λ (g : Range × Range). leb g.1.0 g.1.1) (o >>= λ low. p >>= λ high. ranges a (low, high))
        ≡ holds (λ (g : Range). leb g.0 g.1) (o >>= λ low. p >>= λ high. range low high)
    ends None p = refl
    ends (Some low) None = refl
    ends (Some low) (Some high) = refl

    by : (m : Option (List ℕ × List ℕ))
        → holds (λ (g : Range × Range). leb g.1.0 g.1.1) (m >>= λ q. read_port q.0 >>= λ low. read_port q.1 >>= λ high. ranges a (low, high))
        ≡ holds (λ (g : Range). leb g.0 g.1) (m >>= λ q. read_port q.0 >>= λ low. read_port q.1 >>= λ high. range low high)
    by None = refl
    by (Some q) = ends (read_port q.0) (read_port q.1)

module _ (l : List ℕ) (i : ℕ) (is-i : i ≡ index_of 58 l) where
  pub retired_no_mark : length l ≤ i → false ≡ is_retired l
  unfolding is_retired read_colon_form
  retired_no_mark h = rw (split_once_no_mark 58 l i is-i h)

  module _ (h : i < length l) (x : Option Bool) (is_x : x ≡ membership (inside 0) (read_net 32 read_v4 (take i l))) where
    by_parts : is_retired l ≡ (is_some (read_net 32 read_v4 (take i l)) && holds in_order (ports_of (drop (i + 1) l)))
    unfolding is_retired read_colon_form
    by_parts = rw (split_once_mark 58 l i is-i h) (in_order_lem (read_net 32 read_v4 (take i l)) (drop (i + 1) l))

    pub retired_no_net : x ≡ None → false ≡ is_retired l
    unfolding membership
    retired_no_net e = sym (by_parts ∙ by (read_net 32 read_v4 (take i l)) (sym is_x ∙ e))
      where
        by : (o : Option Range) → membership (inside 0) o ≡ None → (is_some o && holds in_order (ports_of (drop (i + 1) l))) ≡ false
        by None k = refl
        by (Some g) k = let z : ◌≡◌ {A = ℕ} 0 1 = cc in absurd (omega arith)

    pub retired_ports : (b : Bool) → x ≡ Some b → (y : Bool) → y ≡ holds in_order (ports_of (rest l i)) → y ≡ is_retired l
    unfolding membership
    retired_ports b e y is_y = is_y ∙ rw (take_rest l (i + 1)) (sym (by_parts ∙ by (read_net 32 read_v4 (take i l)) (sym is_x ∙ e)))
      where
        by : (o : Option Range) → membership (inside 0) o ≡ Some b
            → (is_some o && holds in_order (ports_of (drop (i + 1) l))) ≡ holds in_order (ports_of (drop (i + 1) l))
        by None k = let z : ◌≡◌ {A = ℕ} 0 1 = cc in absurd (omega arith)
        by (Some g) k = refl

-- ## Lines

module _ (addr : Addr) (p : ℕ) (l : List ℕ) where
  pub held_unknown : addr ≡ A.Unknown → None ≡ held_of addr p l
  unfolding held_of
  held_unknown e = rw e

  module _ (r : Option Bool) where
    pub held_v4 : (n : ℕ) → addr ≡ A.V4 n → r ≡ membership (inside_both n p) (read_comma_form 32 read_v4 l) → r ≡ held_of addr p l
    unfolding held_of
    held_v4 n e f = f ∙ rw e

    pub held_v6_lem : (a b : ℕ) → addr ≡ A.V6 a b → r ≡ held_v6 (a * 2 ^ 64 + b) p l → r ≡ held_of addr p l
    unfolding held_of
    held_v6_lem a b e f = f ∙ rw e

module _ (n p : ℕ) (l : List ℕ) (i : ℕ) (is-i : i ≡ index_of 58 l) where
  pub held_colon : i < length l → (r : Option Bool) → r ≡ membership (inside_both n p) (read_comma_form 128 read_v6 l) → r ≡ held_v6 n p l
  unfolding held_v6
  held_colon h r e = e ∙ rw (lt-ltb (index_of 58 l) (length l) (rw is-i at h))

  pub held_no_colon : length l ≤ i → Some false ≡ held_v6 n p l
  unfolding held_v6
  held_no_colon h = rw (le-ltb (index_of 58 l) (length l) (rw is-i at h))

-- what a form that was read says of the request
within_is : (p n : ℕ) (o : Option (Range × Range)) (b : Bool) → membership (inside_both n p) o ≡ Some b → b ≡ within p o n
unfolding membership inside_both inside
within_is p n None b e = let z : ◌≡◌ {A = ℕ} 0 1 = cc in absurd (omega arith)
within_is p n (Some g) b e = cc

not_retired : (l : List ℕ) → (is_retired l ≡ true → ⊥) → is_retired l ≡ false
not_retired l n = by (is_retired l) n
  where
    by : (b : Bool) → (b ≡ true → ⊥) → b ≡ false
    by true n = absurd (n refl)
    by false n = refl

-- what a line says, by what it holds as one of a form that grants
abbrev said : Option Bool → List ℕ → Option Bool
said (Some b) l = Some b
said None l = when is_retired l then None else Some false

-- a line of such a form is not of the retired one
said_read : (p n : ℕ) (l : List ℕ) (o : Option (Range × Range)) → (is_retired l ≡ true → o ≡ None)
    → said (membership (inside_both n p) o) l ≡ (when is_retired l then None else Some (within p o n))
unfolding membership
said_read p n l None f = refl
said_read p n l (Some g) f =
    rw (not_retired l (λ t. let z : ◌≡◌ {A = ℕ} 0 1 = cc (f t) in omega arith)) (ap Some (within_is p n (Some g) (inside_both n p g) refl))

said_held : (a : Addr) (p : ℕ) (l : List ℕ) → said (held_of a p l) l ≡ look_of a p l
unfolding held_of held_v6 look_of line_grants
said_held A.Unknown p l = refl
said_held (A.V4 n) p l = said_read p n l (read_comma_form 32 read_v4 l) (retired_no_comma_v4 l)
said_held (A.V6 x y) p l = by (ltb (index_of 58 l) (length l)) refl
  where
    by : (b : Bool) → ltb (index_of 58 l) (length l) ≡ b
        → said (held_v6 (x * 2 ^ 64 + y) p l) l ≡ (when is_retired l then None else Some (within p (read_comma_form 128 read_v6 l) (x * 2 ^ 64 + y)))
    by true e = simp e (said_read p (x * 2 ^ 64 + y) l (read_comma_form 128 read_v6 l) (retired_no_comma_v6 l))
    by false e =
        let h : length l ≤ index_of 58 l = ltb-false (index_of 58 l) (length l) e in
        simp e (rw (← (retired_no_mark l (index_of 58 l) refl h), colon_comma_form l (index_free 58 l h)))

module _ (a : Addr) (p : ℕ) (l : List ℕ) (h : Option Bool) (is-h : h ≡ held_of a p l) where
  pub look_is : (b : Bool) → h ≡ Some b → Some b ≡ look_of a p l
  look_is b e = ap (λ (m : Option Bool). said m l) (sym e ∙ is-h) ∙ said_held a p l

  module _ (e : h ≡ None) (x : Bool) (is_x : x ≡ is_retired l) where
    is_said : (when x then None else Some false) ≡ look_of a p l
    is_said = rw is_x (ap (λ (m : Option Bool). said m l) (sym e ∙ is-h) ∙ said_held a p l)

    pub look_retired : x ≡ true → None ≡ look_of a p l
    look_retired f = rw f at is_said

    pub look_nothing : x ≡ false → Some false ≡ look_of a p l
    look_nothing f = rw f at is_said

-- a line of no bytes
pub grants_nil : (addr : Addr) (p : ℕ) → line_grants addr p [] ≡ false
unfolding line_grants read_comma_form split_once
grants_nil A.Unknown p = refl
grants_nil (A.V4 n) p = refl
grants_nil (A.V6 a b) p = refl

pub retired_nil : is_retired [] ≡ false
unfolding is_retired read_colon_form split_once
retired_nil = refl

-- no line grants where no address is asked for
pub grants_unknown : (p : ℕ) (ls : List (List ℕ)) → any (line_grants A.Unknown p) ls ≡ false
unfolding any line_grants
grants_unknown p [] = refl
grants_unknown p (l ∷ ls) = grants_unknown p ls
