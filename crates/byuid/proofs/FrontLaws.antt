-- Laws of an IPv4 address at the front of a text: what a pass over the text tells of it, and which form the byte after it makes.
--   front_failed, front_nothing, front_value == what a pass over the fields tells of the front
--   Parted s x c t == s is x, of digits and dots alone, then the byte c, which is neither, then t
--   comma_unread, comma_end, comma_slash, comma_hyphen, comma_alone, comma_other == a line by the front and the byte after it
--   range_unread, range_end, range_comma, range_other == the same of a range whose min was read
-- Assumes nothing.
use Rattle.std.specs.Prelude.{None, Option, Some}
use Prim.Native.Nat.{ℕ, suc, ◌+◌, ◌*◌, ◌<◌, ◌≤◌}
use mathlib.Core.Bool.{Bool, true, false, not, ◌&&◌, ◌||◌}
use mathlib.Core.List.{List, [], ◌∷◌, ◌++◌, append_assoc}
use mathlib.Core.Path.{◌≡◌, refl, sym, ap, subst, ◌∙◌}
use native.Mathlib.Numerals.{add-one}
use native.Mathlib.Omega.{arith}
use borrow.Author.Tests.{eqb-true, eqb-false, eq-eqb, ne_eqb, ltb-true, ltb-false, not-true}
use lib.Dec.{eqb, leb, ltb}
use lib.ListN.{length, take, drop, get_or, take-append-drop}
use lib.Seq.{drop-cons, take_all}
use Rattle.text.specs.Basics.{◌>>=◌, ◌or_else◌, any, all}
use Rattle.text.specs.Text.{bytes, equal, is_digit, cons_first, split_once}
use Rattle.text.specs.Scan.{span_len}
use Rattle.text.proofs.ScanLaws.{take_rest}
use Rattle.text.proofs.BasicLaws.{and_true, or_false}
use Rattle.text.proofs.Intercalate.{any_between, free, free_all, append_first}
use Rattle.address.specs.Address.{read_v4}
use Rattle.address.specs.Fields.{field_fits, field_more, address_from, ended_address, step_of, on_step, run_from}
use Rattle.address.specs.declared.fields.Run.{Run}
use Rattle.address.specs.declared.fields.Run.TheVariants as R
use Rattle.address.specs.declared.fields.Step.{Step}
use Rattle.address.specs.declared.fields.Step.TheVariants as S
use Rattle.address.proofs.FieldLaws.{follows_address, address_start, address_end_lem}
use Rattle.byuid.specs.Byuid.{Range, read_range, read_net, read_port, read_comma_form}
use Rattle.byuid.specs.Code.{inside, inside_both, membership, both_of, net_from, field_byte, address_end, as_front, front_v4, range_from, form_of}
use Rattle.byuid.proofs.FormLaws.{no_mark, first_mark, free_append, v4_none}
use Rattle.byuid.proofs.NumberLaws.{pair_first, pair_second, inside_one}
use Rattle.byuid.proofs.LineLaws.{rest, both_held, addresses_of, comma_form}

abbrev ranges : Range → Range → Option (Range × Range)
ranges x y = Some (x, y)

abbrev ends : ℕ → ℕ → Option Range
ends low high = Some (low, high)

abbrev nothing : Option Range
nothing = None

-- ## The pass

-- only a byte that is neither digit nor dot stops the pass
module _ (n k v : ℕ) (d : Bool) (b : ℕ) where
  goes_field : (s : Step) → step_of n k v d b ≡ s → (s ≡ S.Stop → ⊥) → field_byte b ≡ true
  unfolding step_of field_byte
  goes_field s e n = by (eqb b 46) (is_digit b) refl refl
    where
      by : (x y : Bool) → eqb b 46 ≡ x → is_digit b ≡ y → (is_digit b || eqb b 46) ≡ true
      by x true p q = rw q
      by true false p q = rw (p, q)
      by false false p q = absurd (n (sym e ∙ simp (p, q)))

  stops_field : step_of n k v d b ≡ S.Stop → field_byte b ≡ false
  unfolding step_of field_byte
  stops_field e = by (eqb b 46) (is_digit b) (d && ltb k 3) (field_fits v d b) refl refl refl refl
    where
      by : (x y f g : Bool) → eqb b 46 ≡ x → is_digit b ≡ y → (d && ltb k 3) ≡ f → field_fits v d b ≡ g → (is_digit b || eqb b 46) ≡ false
      by true y true g p q o u =
          let s : step_of n k v d b ≡ S.Go (n * 256 + v) (k + 1) 0 false = simp (p, o) in
          let z : ◌≡◌ {A = ℕ} 0 1 = cc (sym s ∙ e) in absurd (omega arith)
      by true y false g p q o u =
          let s : step_of n k v d b ≡ S.Nothing = simp (p, o) in
          let z : ◌≡◌ {A = ℕ} 0 1 = cc (sym s ∙ e) in absurd (omega arith)
      by false true f true p q o u =
          let s : step_of n k v d b ≡ S.Go n k (field_more v b) true = simp (p, u) in
          let z : ◌≡◌ {A = ℕ} 0 1 = cc (sym s ∙ e) in absurd (omega arith)
      by false true f false p q o u =
          let s : step_of n k v d b ≡ S.Nothing = rw (p, u, q) in
          let z : ◌≡◌ {A = ℕ} 0 1 = cc (sym s ∙ e) in absurd (omega arith)
      by false false f g p q o u = rw (p, q)

-- the place that a pass comes to, and the address that its state makes there
abbrev Lands : ℕ → ℕ → Option ℕ → Run → Type 0
Lands i e o R.Failed = o ≡ None
Lands i e o (R.At j n k v d) = (j ≡ i + e) × (o ≡ ended_address n k v d)

one_back : (i e : ℕ) (o q : Option ℕ) (r : Run) → q ≡ o → Lands (suc i) e o r → Lands i (suc e) q r
one_back i e o q R.Failed f h = f ∙ h
one_back i e o q (R.At j n k v d) f h = (omega (arith, h.0), f ∙ h.1)

abbrev front : List ℕ → List ℕ
front t = take (span_len field_byte t) t

lands : (t : List ℕ) (i n k v : ℕ) (d : Bool)
    → Lands i (span_len field_byte t) (address_from n k v d (front t)) (run_from i n k v d t)
unfolding run_from span_len
lands [] i n k v d = (omega arith, address_end_lem n k v d)
lands (b ∷ t) i n k v d = by (step_of n k v d b) refl (λ m l u x. lands t (suc i) m l u x)
  where
    by : (s : Step) → step_of n k v d b ≡ s
        → ((m l u : ℕ) (x : Bool) → Lands (suc i) (span_len field_byte t) (address_from m l u x (front t)) (run_from (suc i) m l u x t))
        → Lands i (span_len field_byte (b ∷ t)) (address_from n k v d (front (b ∷ t)))
        (on_step s (R.At i n k v d) (λ m l u x. run_from (suc i) m l u x t))
    by S.Nothing e ih =
        simp (goes_field n k v d b S.Nothing e (λ q. let z : ◌≡◌ {A = ℕ} 0 1 = cc in omega arith)) (follows_address.fails n k v d b (front t) e)
    by S.Stop e ih = simp (stops_field n k v d b e) (omega arith, address_end_lem n k v d)
    by (S.Go m l u x) e ih =
        simp (goes_field n k v d b (S.Go m l u x) e (λ q. let z : ◌≡◌ {A = ℕ} 0 1 = cc in omega arith))
        (one_back i (span_len field_byte t) (address_from m l u x (front t)) (address_from n k v d (b ∷ (front t))) (run_from (suc i) m l u x t)
        (follows_address.goes n k v d b (front t) m l u x e) (ih m l u x))

module _ (s : List ℕ) (r : Run) (is-r : r ≡ run_from 0 0 0 0 false s) where
  landed_front : Lands 0 (address_end s) (read_v4 (take (address_end s) s)) r
  unfolding address_end
  landed_front = rw (is-r, address_start (take (span_len field_byte s) s)) (lands s 0 0 0 0 false)

  pub front_failed : r ≡ R.Failed → None ≡ front_v4 s
  unfolding front_v4
  front_failed q = let e : read_v4 (take (address_end s) s) ≡ None = subst (Lands 0 (address_end s) (read_v4 (take (address_end s) s))) q landed_front in rw e

  module _ (i n k v : ℕ) (d : Bool) (q : r ≡ R.At i n k v d) (a : Option ℕ) (is-a : a ≡ ended_address n k v d) where
    ended : (i ≡ 0 + address_end s) × (read_v4 (take (address_end s) s) ≡ ended_address n k v d)
    ended = subst (Lands 0 (address_end s) (read_v4 (take (address_end s) s))) q landed_front

    pub front_nothing : a ≡ None → None ≡ front_v4 s
    unfolding front_v4
    front_nothing e = rw (ended.1 ∙ sym is-a ∙ e)

    pub front_value : (m : ℕ) → a ≡ Some m → Some (m, i) ≡ front_v4 s
    unfolding front_v4
    front_value m e =
        let f : i ≡ address_end s = omega (arith, ended.0) in
        rw (ended.1 ∙ sym is-a ∙ e) (ap (λ (j : ℕ). Some (m, j)) f)

-- ## The text around the byte after an address

span_all : (p : ℕ → Bool) (s : List ℕ) → all p (take (span_len p s) s) ≡ true
unfolding span_len all
span_all p [] = refl
span_all p (x ∷ s) = by (p x) refl (span_all p s)
  where
    by : (b : Bool) → p x ≡ b → all p (take (span_len p s) s) ≡ true → all p (take (span_len p (x ∷ s)) (x ∷ s)) ≡ true
    by true e ih = simp e ih
    by false e ih = simp e

span_stop : (p : ℕ → Bool) (s : List ℕ) → span_len p s < length s → p (get_or s (span_len p s) 0) ≡ false
unfolding span_len
span_stop p [] h = absurd (omega arith)
span_stop p (x ∷ s) h = by (p x) refl (λ k. span_stop p s k)
  where
    by : (b : Bool) → p x ≡ b → (span_len p s < length s → p (get_or s (span_len p s) 0) ≡ false) → p (get_or (x ∷ s) (span_len p (x ∷ s)) 0) ≡ false
    by true e ih = let k : suc (span_len p s) < length (x ∷ s) = simp e at h in simp e (ih (omega arith))
    by false e ih = simp e

pub record Parted (s x : List ℕ) (c : ℕ) (t : List ℕ) : Type 0 where
  pub whole : s ≡ x ++ (c ∷ []) ++ t
  pub before : all field_byte x ≡ true
  pub stops : field_byte c ≡ false

parted : (s : List ℕ) (i : ℕ) → i ≡ address_end s → i < length s → Parted s (take i s) (get_or s i 0) (drop (i + 1) s)
unfolding address_end
parted s i is-i h = record {
  whole = sym (take-append-drop i s) ∙ ap (λ (t : List ℕ). take i s ++ t) (drop-cons s i 0 h ∙ rw (add-one i))
      ∙ sym (append_assoc (take i s) (get_or s i 0 ∷ []) (drop (i + 1) s));
  before = rw is-i (span_all field_byte s);
  stops = rw is-i (span_stop field_byte s (rw is-i at h));
}

-- what is left after a front that is free of the mark
past_mark : (m : ℕ) (w t : List ℕ) → free m w ≡ true → split_once (m ∷ []) (w ++ t) ≡ append_first w (split_once (m ∷ []) t)
unfolding split_once equal all
past_mark m [] t e = by (split_once (m ∷ []) t)
  where
    by : (o : Option (List ℕ × List ℕ)) → o ≡ append_first [] o
    by None = refl
    by (Some p) = refl
past_mark m (x ∷ w) t e =
    let a = and_true (not (eqb x m)) (free m w) e in
    rw (ne_eqb m x (λ q. eqb-false x m (not-true (eqb x m) a.0) (sym q)), past_mark m w t a.1) (by (split_once (m ∷ []) t))
  where
    by : (o : Option (List ℕ × List ℕ)) → cons_first x (append_first w o) ≡ append_first (x ∷ w) o
    by None = refl
    by (Some p) = refl

-- ## Forms by what stands before a comma

at_comma : (f : List ℕ → Option Range) (x t : List ℕ) → free 44 x ≡ true
    → form_of f (x ++ bytes "," ++ t) ≡ (f x >>= λ a. read_range read_port t >>= λ b. ranges a b)
unfolding form_of
at_comma f x t e = rw (first_mark 44 x t e)

past_comma : (f g : List ℕ → Option Range) (w t : List ℕ) → free 44 w ≡ true → ((u : List ℕ) → f (w ++ u) ≡ g u) → form_of f (w ++ t) ≡ form_of g t
unfolding form_of
past_comma f g w t e h = rw (past_mark 44 w t e) (by (split_once (bytes ",") t))
  where
    by : (o : Option (List ℕ × List ℕ)) → (append_first w o >>= λ p. f p.0 >>= λ a. read_range read_port p.1 >>= λ b. ranges a b)
        ≡ (o >>= λ p. g p.0 >>= λ a. read_range read_port p.1 >>= λ b. ranges a b)
    by None = refl
    by (Some p) = ap (λ (r : Option Range). r >>= λ a. read_range read_port p.1 >>= λ b. ranges a b) (h p.0)

form_none : (t : List ℕ) → form_of (λ u. None) t ≡ None
unfolding form_of
form_none t = by (split_once (bytes ",") t)
  where
    by : (o : Option (List ℕ × List ℕ)) → (o >>= λ p. nothing >>= λ a. read_range read_port p.1 >>= λ b. ranges a b) ≡ None
    by None = refl
    by (Some p) = refl

no_comma : (f : List ℕ → Option Range) (t : List ℕ) → free 44 t ≡ true → form_of f t ≡ None
unfolding form_of
no_comma f t e = rw (no_mark 44 [] t e)

-- ## Addresses before the byte c, which is in none

-- a text with that byte in it
module _ (f : List ℕ → Option ℕ) (x : List ℕ) (c : ℕ) (bad : (t : List ℕ) → any (λ b. eqb b c) t ≡ true → f t ≡ None) where
  reads_none : (u : List ℕ) → f (x ++ (c ∷ []) ++ u) ≡ None
  unfolding any
  reads_none u = bad (x ++ (c ∷ []) ++ u) (any_between (λ b. eqb b c) x (c ∷ []) u (rw (eq-eqb c c refl)))

  free_both : (m : ℕ) → free m x ≡ true → (c ≡ m → ⊥) → free m (x ++ (c ∷ [])) ≡ true
  unfolding all
  free_both m e n = free_append m x (c ∷ []) e (rw (ne_eqb c m n))

  range_none : (u : List ℕ) → free 45 x ≡ true → (c ≡ 45 → ⊥) → read_range f (x ++ (c ∷ []) ++ u) ≡ None
  unfolding read_range
  range_none u e n = by (split_once (bytes "-") u) refl
    where
      by : (o : Option (List ℕ × List ℕ)) → split_once (bytes "-") u ≡ o → read_range f (x ++ (c ∷ []) ++ u) ≡ None
      by None q = rw (past_mark 45 (x ++ (c ∷ [])) u (free_both 45 e n), q, reads_none u)
      by (Some p) q = rw (past_mark 45 (x ++ (c ∷ [])) u (free_both 45 e n), q, reads_none p.0)

  net_none : (w : ℕ) (u : List ℕ) → free 47 x ≡ true → (c ≡ 47 → ⊥) → read_net w f (x ++ (c ∷ []) ++ u) ≡ None
  unfolding read_net
  net_none w u e n = by (split_once (bytes "/") u) refl
    where
      by : (o : Option (List ℕ × List ℕ)) → split_once (bytes "/") u ≡ o → read_net w f (x ++ (c ∷ []) ++ u) ≡ None
      by None q = rw (past_mark 47 (x ++ (c ∷ [])) u (free_both 47 e n), q)
      by (Some p) q = rw (past_mark 47 (x ++ (c ∷ [])) u (free_both 47 e n), q, reads_none p.0)

-- a byte that is neither digit nor dot is in no IPv4 address
other_byte : (c : ℕ) → field_byte c ≡ false → (t : List ℕ) → any (λ b. eqb b c) t ≡ true → read_v4 t ≡ None
unfolding field_byte
other_byte c e t h = let a = or_false (is_digit c) (eqb c 46) e in v4_none c a.0 a.1 t h

module _ (x : List ℕ) (before : all field_byte x ≡ true) where
  free_of : (m : ℕ) → field_byte m ≡ false → free m x ≡ true
  free_of m e = free_all field_byte m e x before

  free_comma : free 44 x ≡ true
  unfolding field_byte
  free_comma = free_of 44 refl

  free_hyphen : free 45 x ≡ true
  unfolding field_byte
  free_hyphen = free_of 45 refl

  free_slash : free 47 x ≡ true
  unfolding field_byte
  free_slash = free_of 47 refl

  slash_other : (t : List ℕ) → any (λ b. eqb b 47) t ≡ true → read_v4 t ≡ None
  slash_other t h = v4_none 47 refl refl t h

  hyphen_other : (t : List ℕ) → any (λ b. eqb b 45) t ≡ true → read_v4 t ≡ None
  hyphen_other t h = v4_none 45 refl refl t h

  abbrev addresses : List ℕ → Option Range
  addresses t = addresses_of 32 read_v4 t

  -- the net or the range that begins with x
  net_is : (u : List ℕ) → read_net 32 read_v4 (x ++ bytes "/" ++ u) ≡ (read_v4 x >>= λ n. net_from 32 n u)
  unfolding read_net net_from
  net_is u = rw (first_mark 47 x u free_slash)

  net_after : (u : List ℕ) → addresses (x ++ bytes "/" ++ u) ≡ (read_v4 x >>= λ n. net_from 32 n u)
  net_after u = rw (range_none read_v4 x 47 slash_other u free_hyphen (λ e. omega arith)) (net_is u)

  range_after : (u : List ℕ) → addresses (x ++ bytes "-" ++ u) ≡ (read_v4 x >>= λ n. range_from read_v4 n u)
  unfolding read_range range_from
  range_after u = rw (first_mark 45 x u free_hyphen, net_none read_v4 x 45 hyphen_other 32 u free_slash (λ e. omega arith)) (by (read_v4 x) (read_v4 u))
    where
      by : (o q : Option ℕ) → ((o >>= λ l. q >>= λ h. ends l h) or_else None) ≡ (o >>= λ l. q >>= λ h. ends l h)
      by None q = refl
      by (Some l) None = refl
      by (Some l) (Some h) = refl

  alone : addresses x ≡ (read_v4 x >>= λ n. ends n n)
  unfolding read_range read_net
  alone = rw (no_mark 45 [] x free_hyphen, no_mark 47 [] x free_slash) (by (read_v4 x))
    where
      by : (o : Option ℕ) → ((o >>= λ n. ends n n) or_else None) ≡ (o >>= λ n. ends n n)
      by None = refl
      by (Some n) = refl

  -- a line of which nothing before the comma is read
  module _ (c : ℕ) (t : List ℕ) (stops : field_byte c ≡ false) (n : c ≡ 44 → ⊥) where
    free_front : free 44 (x ++ (c ∷ [])) ≡ true
    free_front = free_both read_v4 x c (other_byte c stops) 44 free_comma n

    form_skipped : (f : List ℕ → Option Range) → ((u : List ℕ) → f (x ++ (c ∷ []) ++ u) ≡ None) → form_of f (x ++ (c ∷ []) ++ t) ≡ None
    form_skipped f h = past_comma f (λ u. None) (x ++ (c ∷ [])) t free_front h ∙ form_none t

    form_other : (c ≡ 47 → ⊥) → (c ≡ 45 → ⊥) → form_of addresses (x ++ (c ∷ []) ++ t) ≡ None
    form_other k h =
        form_skipped addresses
        (λ u. rw (range_none read_v4 x c (other_byte c stops) u free_hyphen h, net_none read_v4 x c (other_byte c stops) 32 u free_slash k))

  module _ (e : read_v4 x ≡ None) where
    form_unread : (c : ℕ) (t : List ℕ) → field_byte c ≡ false → form_of addresses (x ++ (c ∷ []) ++ t) ≡ None
    form_unread c t stops = by (eqb c 44) (eqb c 45) (eqb c 47) refl refl refl
      where
        by : (p q r : Bool) → eqb c 44 ≡ p → eqb c 45 ≡ q → eqb c 47 ≡ r → form_of addresses (x ++ (c ∷ []) ++ t) ≡ None
        by true q r f g h = rw (eqb-true c 44 f) (at_comma addresses x t free_comma ∙ rw (alone, e))
        by false true r f g h = form_skipped c t stops (eqb-false c 44 f) addresses (λ u. rw (eqb-true c 45 g) (range_after u ∙ rw e))
        by false false true f g h = form_skipped c t stops (eqb-false c 44 f) addresses (λ u. rw (eqb-true c 47 h) (net_after u ∙ rw e))
        by false false false f g h = form_other c t stops (eqb-false c 44 f) (eqb-false c 47 h) (eqb-false c 45 g)

  module _ (n : ℕ) (e : read_v4 x ≡ Some n) (t : List ℕ) where
    form_slash : form_of addresses (x ++ bytes "/" ++ t) ≡ form_of (net_from 32 n) t
    unfolding all
    form_slash = past_comma addresses (net_from 32 n) (x ++ bytes "/") t (free_append 44 x (bytes "/") free_comma refl) (λ u. net_after u ∙ rw e)

    form_hyphen : form_of addresses (x ++ bytes "-" ++ t) ≡ form_of (range_from read_v4 n) t
    unfolding all
    form_hyphen = past_comma addresses (range_from read_v4 n) (x ++ bytes "-") t (free_append 44 x (bytes "-") free_comma refl) (λ u. range_after u ∙ rw e)

    form_alone : form_of addresses (x ++ bytes "," ++ t) ≡ (ends n n >>= λ a. read_range read_port t >>= λ b. ranges a b)
    form_alone = at_comma addresses x t free_comma ∙ rw (alone, e)

  -- the same where a range has begun with n
  module _ (n : ℕ) where
    rest_none : (c : ℕ) → field_byte c ≡ false → (u : List ℕ) → range_from read_v4 n (x ++ (c ∷ []) ++ u) ≡ None
    unfolding range_from
    rest_none c stops u = rw (reads_none read_v4 x c (other_byte c stops) u)

    max_other : (c : ℕ) (t : List ℕ) → field_byte c ≡ false → (c ≡ 44 → ⊥) → form_of (range_from read_v4 n) (x ++ (c ∷ []) ++ t) ≡ None
    max_other c t stops k = form_skipped c t stops k (range_from read_v4 n) (rest_none c stops)

    max_unread : read_v4 x ≡ None → (c : ℕ) (t : List ℕ) → field_byte c ≡ false → form_of (range_from read_v4 n) (x ++ (c ∷ []) ++ t) ≡ None
    unfolding range_from
    max_unread e c t stops = by (eqb c 44) refl
      where
        by : (p : Bool) → eqb c 44 ≡ p → form_of (range_from read_v4 n) (x ++ (c ∷ []) ++ t) ≡ None
        by true f = rw (eqb-true c 44 f) (at_comma (range_from read_v4 n) x t free_comma ∙ rw e)
        by false f = max_other c t stops (eqb-false c 44 f)

    max_comma : (m : ℕ) → read_v4 x ≡ Some m → (t : List ℕ) → form_of (range_from read_v4 n) (x ++ bytes "," ++ t)
        ≡ (ends n m >>= λ a. read_range read_port t >>= λ b. ranges a b)
    unfolding range_from
    max_comma m e t = at_comma (range_from read_v4 n) x t free_comma ∙ rw e

-- ## The code's answers

-- what is asked where no range was read, and of ports after a range
module _ (a p : ℕ) where
  unheld : (o : Option (Range × Range)) → o ≡ None → None ≡ membership (inside_both a p) o
  unfolding membership
  unheld o e = rw e

  with_ports : (low high : ℕ) (l : List ℕ) (i : ℕ) (x y r : Option Bool) → x ≡ membership (inside a) (ends low high)
      → y ≡ membership (inside p) (read_range read_port (rest l i)) → r ≡ both_of x y
      → r ≡ membership (inside_both a p) (ends low high >>= λ g. read_range read_port (drop (i + 1) l) >>= λ b. ranges g b)
  with_ports low high l i x y r is_x is_y e =
      e ∙ rw (is_x, is_y, take_rest l (i + 1)) (both_held a p (ends low high) (read_range read_port (drop (i + 1) l)))

-- a text of digits and dots alone has no comma
whole_none : (f : List ℕ → Option Range) (l : List ℕ) → length l ≤ address_end l → form_of f l ≡ None
unfolding address_end
whole_none f l h = no_comma f l (free_comma l (ap (all field_byte) (sym (take_all (span_len field_byte l) l h)) ∙ span_all field_byte l))

-- by the byte after the front, whichever it is
any_mark : (f : List ℕ → Option Range) (l : List ℕ)
    → ((c : ℕ) (t : List ℕ) → field_byte c ≡ false → form_of f (take (address_end l) l ++ (c ∷ []) ++ t) ≡ None) → form_of f l ≡ None
any_mark f l k = by (ltb (address_end l) (length l)) refl
  where
    by : (b : Bool) → ltb (address_end l) (length l) ≡ b → form_of f l ≡ None
    by true e =
        let w = parted l (address_end l) refl (ltb-true (address_end l) (length l) e) in
        ap (form_of f) w.whole ∙ k (get_or l (address_end l) 0) (drop (address_end l + 1) l) w.stops
    by false e = whole_none f l (ltb-false (address_end l) (length l) e)

module _ (l : List ℕ) (front : Option (ℕ × ℕ)) (is_front : front ≡ front_v4 l) (a p : ℕ) where
  -- where no address stands at the front
  module _ (q : front ≡ None) where
    front_unread : read_v4 (take (address_end l) l) ≡ None
    unfolding front_v4
    front_unread = by (read_v4 (take (address_end l) l)) (sym is_front ∙ q)
      where
        by : (o : Option ℕ) → as_front (address_end l) o ≡ None → o ≡ None
        by None h = refl
        by (Some n) h = let z : ◌≡◌ {A = ℕ} 0 1 = cc in absurd (omega arith)

    front_field : all field_byte (take (address_end l) l) ≡ true
    unfolding address_end
    front_field = span_all field_byte l

    pub comma_unread : None ≡ membership (inside_both a p) (read_comma_form 32 read_v4 l)
    comma_unread =
        unheld a p (read_comma_form 32 read_v4 l)
        (sym (comma_form 32 read_v4 l) ∙ any_mark (addresses_of 32 read_v4) l (form_unread (take (address_end l) l) front_field front_unread))

    pub range_unread : (min : ℕ) → None ≡ membership (inside_both a p) (form_of (range_from read_v4 min) l)
    range_unread min =
        unheld a p (form_of (range_from read_v4 min) l)
        (any_mark (range_from read_v4 min) l (max_unread (take (address_end l) l) front_field min front_unread))

  -- the address n, with i the place after it
  module _ (n i : ℕ) (q : front ≡ Some (n, i)) where
    front_read : (i ≡ address_end l) × (read_v4 (take i l) ≡ Some n)
    unfolding front_v4
    front_read = by (read_v4 (take (address_end l) l)) refl (sym is_front ∙ q)
      where
        by : (o : Option ℕ) → read_v4 (take (address_end l) l) ≡ o → as_front (address_end l) o ≡ Some (n, i) → (i ≡ address_end l) × (read_v4 (take i l) ≡ Some n)
        by None k h = let z : ◌≡◌ {A = ℕ} 0 1 = cc in absurd (omega arith)
        by (Some m) k h =
            let e : address_end l ≡ i = pair_second h in
            let f : m ≡ n = pair_first h in
            (sym e, rw (← e, ← f) k)

    module _ (h : length l ≤ i) where
      at_end : length l ≤ address_end l
      at_end = rw front_read.0 at h

      pub comma_end : None ≡ membership (inside_both a p) (read_comma_form 32 read_v4 l)
      comma_end = unheld a p (read_comma_form 32 read_v4 l) (sym (comma_form 32 read_v4 l) ∙ whole_none (addresses_of 32 read_v4) l at_end)

      pub range_end : (min : ℕ) → None ≡ membership (inside_both a p) (form_of (range_from read_v4 min) l)
      range_end min = unheld a p (form_of (range_from read_v4 min) l) (whole_none (range_from read_v4 min) l at_end)

    module _ (h : i < length l) where
      around : Parted l (take i l) (get_or l i 0) (drop (i + 1) l)
      around = parted l i front_read.0 h

      around_byte : (c : ℕ) → get_or l i 0 ≡ c → l ≡ take i l ++ (c ∷ []) ++ drop (i + 1) l
      around_byte c e = around.whole ∙ ap (λ (b : ℕ). take i l ++ (b ∷ []) ++ drop (i + 1) l) e

      as_form : (o : Option (Range × Range)) → form_of (addresses_of 32 read_v4) l ≡ o → o ≡ read_comma_form 32 read_v4 l
      as_form o e = sym e ∙ comma_form 32 read_v4 l

      pub comma_slash : get_or l i 0 ≡ 47 → (r : Option Bool) → r ≡ membership (inside_both a p) (form_of (net_from 32 n) (rest l i))
          → r ≡ membership (inside_both a p) (read_comma_form 32 read_v4 l)
      comma_slash e r f =
          f ∙ rw (take_rest l (i + 1))
          (ap (membership (inside_both a p))
          (as_form (form_of (net_from 32 n) (drop (i + 1) l))
          (ap (form_of (addresses_of 32 read_v4)) (around_byte 47 e) ∙ form_slash (take i l) around.before n front_read.1 (drop (i + 1) l))))

      pub comma_hyphen : get_or l i 0 ≡ 45 → (r : Option Bool) → r ≡ membership (inside_both a p) (form_of (range_from read_v4 n) (rest l i))
          → r ≡ membership (inside_both a p) (read_comma_form 32 read_v4 l)
      comma_hyphen e r f =
          f ∙ rw (take_rest l (i + 1))
          (ap (membership (inside_both a p))
          (as_form (form_of (range_from read_v4 n) (drop (i + 1) l))
          (ap (form_of (addresses_of 32 read_v4)) (around_byte 45 e) ∙ form_hyphen (take i l) around.before n front_read.1 (drop (i + 1) l))))

      pub comma_alone : get_or l i 0 ≡ 44 → (y r : Option Bool) → y ≡ membership (inside p) (read_range read_port (rest l i))
          → r ≡ both_of (Some (eqb n a)) y → r ≡ membership (inside_both a p) (read_comma_form 32 read_v4 l)
      comma_alone e y r is_y f =
          with_ports a p n n l i (Some (eqb n a)) y r (inside_one n a) is_y f
          ∙ ap (membership (inside_both a p))
          (as_form (ends n n >>= λ g. read_range read_port (drop (i + 1) l) >>= λ b. ranges g b)
          (ap (form_of (addresses_of 32 read_v4)) (around_byte 44 e) ∙ form_alone (take i l) around.before n front_read.1 (drop (i + 1) l)))

      pub comma_other : (get_or l i 0 ≡ 47 → ⊥) → (get_or l i 0 ≡ 45 → ⊥) → (get_or l i 0 ≡ 44 → ⊥)
          → None ≡ membership (inside_both a p) (read_comma_form 32 read_v4 l)
      comma_other x y z =
          unheld a p (read_comma_form 32 read_v4 l)
          (sym (comma_form 32 read_v4 l) ∙ ap (form_of (addresses_of 32 read_v4)) around.whole
          ∙ form_other (take i l) around.before (get_or l i 0) (drop (i + 1) l) around.stops z x y)

      -- the same of the max of a range
      module _ (min : ℕ) where
        pub range_comma : get_or l i 0 ≡ 44 → (y r : Option Bool) → y ≡ membership (inside p) (read_range read_port (rest l i))
            → r ≡ both_of (Some (leb min a && leb a n)) y → r ≡ membership (inside_both a p) (form_of (range_from read_v4 min) l)
        unfolding membership inside
        range_comma e y r is_y f =
            with_ports a p min n l i (Some (leb min a && leb a n)) y r refl is_y f
            ∙ ap (membership (inside_both a p))
            (sym (ap (form_of (range_from read_v4 min)) (around_byte 44 e) ∙ max_comma (take i l) around.before min n front_read.1 (drop (i + 1) l)))

        pub range_other : (get_or l i 0 ≡ 44 → ⊥) → None ≡ membership (inside_both a p) (form_of (range_from read_v4 min) l)
        range_other z =
            unheld a p (form_of (range_from read_v4 min) l)
            (ap (form_of (range_from read_v4 min)) around.whole
            ∙ max_other (take i l) around.before min (get_or l i 0) (drop (i + 1) l) around.stops z)
