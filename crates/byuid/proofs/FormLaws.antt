-- Laws of the forms of a line: what bytes they are made of, and that a line of the retired form is of no other.
--   free c w             == no byte of w is c
--   Form l               == the parts of a line of the retired form, and what they read as; new_form f == its new form
--   slash_range          == a text with a slash is no range; colon_comma_form == a line without a colon is none of IPv6
--   retired-no-comma     == a line of the retired form is not read as one that grants
--   new_form_v4, new_form_v6 == the new form is read as the retired one was, and as no line of IPv6
-- Assumes nothing.
use Rattle.std.specs.Prelude.{None, Option, Some}
use Prim.Native.Nat.{ℕ, suc, ◌<◌, ◌≤◌}
use mathlib.Core.Bool.{Bool, true, false, not, ◌&&◌, ◌||◌, true≢false, or-true}
use mathlib.Core.List.{List, [], ◌∷◌, ◌++◌, append_assoc}
use mathlib.Core.Path.{◌≡◌, refl, sym, ap, ap₂, ◌∙◌}
use native.Mathlib.Omega.{arith}
use borrow.Author.Tests.{eqb-true, eqb-false, eq-eqb, ne_eqb, not-true}
use lib.Dec.{eqb}
use lib.ListN.{length}
use Rattle.text.specs.Basics.{when◌then◌else◌, ◌>>=◌, ◌or_else◌, given, any, all, is_empty}
use Rattle.text.specs.Text.{bytes, equal, is_digit, char_range, in_range, cons_first, split_once, split, among}
use Rattle.text.specs.Number.{from_digits, to_digits, read_decimal}
use Rattle.text.proofs.BasicLaws.{and_true, all_append}
use Rattle.text.proofs.Digits.{length_to_digits}
use Rattle.text.specs.Scan.{span_len, index_of}
use Rattle.text.proofs.Intercalate.{any_append, any_between, all_append_left, all_false, each_none, any_split, among_one, free, split_free, split_once_some}
use Rattle.text.proofs.Numeral.{read_decimal_none}
use Rattle.address.specs.Address.{read_v4, read_group, read_last_group, read_groups, read_compressed, read_v6}
use Rattle.byuid.specs.Byuid.{Range, read_range, read_net, read_port, read_comma_form, read_colon_form, is_retired}

-- what is read in two steps, of which the second answers none
pub skip : {A B C : Type 0} (o : Option A) (q : Option B) (f : A → B → Option C) → q ≡ None → (o >>= λ l. q >>= λ r. f l r) ≡ None
skip None q f n = refl
skip (Some g) q f n = rw n

-- ## Marks of one byte

-- what split_once answers has no mark before it
pub free_before : (c : ℕ) (t : List ℕ) (p : List ℕ × List ℕ) → split_once (c ∷ []) t ≡ Some p → free c p.0 ≡ true
unfolding split_once equal all
free_before c [] p e = let z : ◌≡◌ {A = ℕ} 0 1 = cc in absurd (omega arith)
free_before c (x ∷ t) p e = by (eqb c x) refl (split_once (c ∷ []) t) refl (λ q h. free_before c t q h) e
  where
    by : (b : Bool) → eqb c x ≡ b → (o : Option (List ℕ × List ℕ)) → split_once (c ∷ []) t ≡ o
        → ((q : List ℕ × List ℕ) → split_once (c ∷ []) t ≡ Some q → free c q.0 ≡ true)
        → (when b && true then Some ([], t) else cons_first x o) ≡ Some p → free c p.0 ≡ true
    by true q o k ih h = let same : ([], t) ≡ p = cc h in sym (ap (λ (r : List ℕ × List ℕ). free c r.0) same)
    by false q None k ih h = let z : ◌≡◌ {A = ℕ} 0 1 = cc in absurd (omega arith)
    by false q (Some r) k ih h =
        let same : (x ∷ r.0, r.1) ≡ p = cc h in
        sym (ap (λ (r : List ℕ × List ℕ). free c r.0) same) ∙ rw (ne_eqb x c (λ e. eqb-false c x q (sym e))) (ih r k)

-- a mark that is not there, alone or before others
pub no_mark : (c : ℕ) (m t : List ℕ) → free c t ≡ true → split_once (c ∷ m) t ≡ None
unfolding split_once equal all
no_mark c m [] e = refl
no_mark c m (x ∷ t) e =
    let a = and_true (not (eqb x c)) (free c t) e in
    rw (ne_eqb c x (λ q. eqb-false x c (not-true (eqb x c) a.0) (sym q)), no_mark c m t a.1)

-- the first mark stands after a text that is free of it
pub first_mark : (c : ℕ) (s t : List ℕ) → free c s ≡ true → split_once (c ∷ []) (s ++ (c ∷ []) ++ t) ≡ Some (s, t)
unfolding split_once equal all
first_mark c [] t e = rw (eq-eqb c c refl)
first_mark c (x ∷ s) t e =
    let a = and_true (not (eqb x c)) (free c s) e in
    rw (ne_eqb c x (λ q. eqb-false x c (not-true (eqb x c) a.0) (sym q)), first_mark c s t a.1)

pub free_append : (c : ℕ) (s t : List ℕ) → free c s ≡ true → free c t ≡ true → free c (s ++ t) ≡ true
free_append c s t e f = all_append (λ b. not (eqb b c)) s t e f

not_free : (c : ℕ) (t : List ℕ) → free c t ≡ false → any (λ b. eqb b c) t ≡ true
unfolding all any
not_free c [] e = sym e
not_free c (x ∷ t) e = by (eqb x c) refl (λ h. not_free c t h)
  where
    by : (b : Bool) → eqb x c ≡ b → (free c t ≡ false → any (λ b. eqb b c) t ≡ true) → (eqb x c || any (λ b. eqb b c) t) ≡ true
    by true q ih = rw q
    by false q ih = rw q (ih (rw q at e))

-- ## Bytes of what was read

-- a byte that is no digit
module _ (c : ℕ) (no_digit : is_digit c ≡ false) where
  digits_none : (m : ℕ) (t : List ℕ) → any (λ b. eqb b c) t ≡ true → read_decimal m t ≡ None
  digits_none m t e =
      read_decimal_none m t (all_false is_digit (λ b. eqb b c) (λ x h. ap is_digit (eqb-true x c h) ∙ no_digit) t e)

  pub digits_free : (m : ℕ) (t : List ℕ) (n : ℕ) → read_decimal m t ≡ Some n → free c t ≡ true
  digits_free m t n e = by (free c t) refl
    where
      by : (b : Bool) → free c t ≡ b → free c t ≡ true
      by true q = q
      by false q = let z : ◌≡◌ {A = ℕ} 0 1 = cc (sym (digits_none m t (not_free c t q)) ∙ e) in absurd (omega arith)

  -- and no dot
  module _ (no_dot : eqb c 46 ≡ false) where
    pub v4_none : (t : List ℕ) → any (λ b. eqb b c) t ≡ true → read_v4 t ≡ None
    unfolding read_v4
    v4_none t e =
        let fields : any (any (λ b. eqb b c)) (split "." t) ≡ true = any_split "." (λ b. eqb b c) dot t ∙ e in
        rw (each_none (read_decimal 255) (any (λ b. eqb b c)) (λ w h. digits_none 255 w h) (split "." t) fields)
      where
        dot : (x : ℕ) → among "." x ≡ true → eqb x c ≡ false
        dot x h = ap (λ (y : ℕ). eqb y c) (eqb-true x 46 (sym (among_one "." x) ∙ h)) ∙ ne_eqb 46 c (λ q. eqb-false c 46 no_dot (sym q))

    pub v4_free : (t : List ℕ) (n : ℕ) → read_v4 t ≡ Some n → free c t ≡ true
    v4_free t n e = by (free c t) refl
      where
        by : (b : Bool) → free c t ≡ b → free c t ≡ true
        by true q = q
        by false q = let z : ◌≡◌ {A = ℕ} 0 1 = cc (sym (v4_none t (not_free c t q)) ∙ e) in absurd (omega arith)

-- ## A slash is in no address

slash : ℕ → Bool
slash b = eqb b 47

slashed : List ℕ → Bool
slashed t = any slash t

hex : ℕ → Bool
hex c = is_digit c || char_range "A" "F" c || char_range "a" "f" c

group_none : (w : List ℕ) → slashed w ≡ true → read_group w ≡ None
unfolding read_group slash slashed hex
group_none w e = rw (all_false hex slash (λ x h. ap hex (eqb-true x 47 h)) w e)

last_none : (w : List ℕ) → slashed w ≡ true → read_last_group w ≡ None
unfolding read_last_group slash slashed
last_none w e = rw (group_none w e, v4_none 47 refl refl w e)

module _ (f : List ℕ → Option (List ℕ)) (last : (w : List ℕ) → slashed w ≡ true → f w ≡ None) where
  groups_none : (ws : List (List ℕ)) → any slashed ws ≡ true → read_groups f ws ≡ None
  unfolding read_groups any
  groups_none [] e = absurd (true≢false (sym e))
  groups_none (w ∷ []) e = last w (or_nil (slashed w) e)
    where
      or_nil : (b : Bool) → (b || false) ≡ true → b ≡ true
      or_nil true h = refl
      or_nil false h = h
  groups_none (w ∷ v ∷ ws) e = by (slashed w) refl (λ h. groups_none (v ∷ ws) h)
    where
      skip : (o q : Option (List ℕ)) → q ≡ None → (o >>= λ g. q >>= λ gs. Some (g ++ gs)) ≡ None
      skip None q n = refl
      skip (Some g) q n = rw n

      by : (b : Bool) → slashed w ≡ b → (any slashed (v ∷ ws) ≡ true → read_groups f (v ∷ ws) ≡ None)
          → (read_group w >>= λ g. read_groups f (v ∷ ws) >>= λ gs. Some (g ++ gs)) ≡ None
      by true q ih = rw (group_none w q)
      by false q ih = skip (read_group w) (read_groups f (v ∷ ws)) (ih (rw q at e))

abbrev side : List ℕ → List (List ℕ)
side t = when is_empty t then [] else split ":" t

slashed_split : (t : List ℕ) → any slashed (split ":" t) ≡ slashed t
unfolding slashed slash
slashed_split t = any_split ":" slash (λ x h. ap slash (eqb-true x 58 (sym (among_one ":" x) ∙ h))) t

slashed_side : (t : List ℕ) → slashed t ≡ true → any slashed (side t) ≡ true
unfolding slashed any
slashed_side [] e = e
slashed_side (x ∷ t) e = slashed_split (x ∷ t) ∙ e

compressed_none : (p : List ℕ × List ℕ) → (slashed p.0 || slashed p.1) ≡ true → read_compressed p ≡ None
unfolding read_compressed
compressed_none p e = by (slashed p.0) refl
  where
    by : (b : Bool) → slashed p.0 ≡ b → read_compressed p ≡ None
    by true q = rw (groups_none read_group group_none (side p.0) (slashed_side p.0 q))
    by false q = skip (read_groups read_group (side p.0)) (read_groups read_last_group (side p.1)) _
        (groups_none read_last_group last_none (side p.1) (slashed_side p.1 (rw q at e)))

is_slashed : (t : List ℕ) → any (λ b. eqb b 47) t ≡ true → slashed t ≡ true
unfolding slashed slash
is_slashed t e = e

slashed_sides : (s t : List ℕ) → slashed (s ++ (bytes "::" ++ t)) ≡ (slashed s || slashed t)
unfolding slashed slash any
slashed_sides s t = any_append slash s (bytes "::" ++ t)

pub v6_none : (t : List ℕ) → any (λ b. eqb b 47) t ≡ true → read_v6 t ≡ None
unfolding read_v6
v6_none t e = rw (by (split_once (bytes "::") t) refl, groups_none read_last_group last_none (split ":" t) (slashed_split t ∙ is_slashed t e))
  where
    parted : (p : List ℕ × List ℕ) → t ≡ p.0 ++ (bytes "::" ++ p.1) → (slashed p.0 || slashed p.1) ≡ true
    parted p h = sym (ap slashed h ∙ slashed_sides p.0 p.1) ∙ is_slashed t e

    by : (o : Option (List ℕ × List ℕ)) → split_once (bytes "::") t ≡ o → (split_once (bytes "::") t >>= read_compressed) ≡ None
    by None q = rw q
    by (Some p) q = rw q (compressed_none p (parted p (split_once_some (bytes "::") t p q)))

-- an address of IPv6 has a colon: one text between colons writes two groups at most
last_few : (t gs : List ℕ) → read_last_group t ≡ Some gs → length gs < 8
unfolding read_last_group read_group hex
last_few t gs e = by (all hex t && in_range 1 4 (length t)) _ (read_v4 t) e
  where
    by : (c : Bool) (x : ℕ) (v : Option ℕ) → (given c (x ∷ []) or_else (v >>= λ n. Some (to_digits 65536 2 n))) ≡ Some gs → length gs < 8
    by true x v h = let q : (x ∷ []) ≡ gs = cc in omega (arith, ap length q)
    by false x None h = let z : ◌≡◌ {A = ℕ} 0 1 = cc in absurd (omega arith)
    by false x (Some n) h = let q : to_digits 65536 2 n ≡ gs = cc in omega (arith, ap length q, length_to_digits 65536 2 n)

pub v6_colon : (t : List ℕ) → free 58 t ≡ true → read_v6 t ≡ None
unfolding read_v6 read_groups
v6_colon t e = rw (no_mark 58 (bytes ":") t e, split_free ":" t e) (by (read_last_group t) (λ gs h. last_few t gs h))
  where
    by : (o : Option (List ℕ)) → ((gs : List ℕ) → o ≡ Some gs → length gs < 8) → (o >>= λ gs. given (eqb (length gs) 8) (from_digits 65536 0 gs)) ≡ None
    by None h = refl
    by (Some gs) h = rw (ne_eqb (length gs) 8 (λ q. let k = h gs refl in omega arith))

-- ## Addresses by their marks

abbrev ends_at : ℕ → ℕ → Option Range
ends_at low high = Some (low, high)

-- a text with a slash is no range of addresses
pub slash_range : (f : List ℕ → Option ℕ) → ((t : List ℕ) → any (λ b. eqb b 47) t ≡ true → f t ≡ None) → (s x y : List ℕ)
    → split_once (bytes "/") s ≡ Some (x, y) → read_range f s ≡ None
unfolding read_range any
slash_range f bad s x y e = by (split_once (bytes "-") s) refl
  where
    slashed_whole : any (λ b. eqb b 47) s ≡ true
    slashed_whole = ap (any (λ b. eqb b 47)) (split_once_some (bytes "/") s (x, y) e) ∙ any_append (λ b. eqb b 47) x (bytes "/" ++ y)
        ∙ or-true (any (λ b. eqb b 47) x)

    ends : (p : List ℕ × List ℕ) (b : Bool) → any (λ b. eqb b 47) p.0 ≡ b → (b || any (λ b. eqb b 47) p.1) ≡ true
        → (f p.0 >>= λ l. f p.1 >>= λ h. ends_at l h) ≡ None
    ends p true q h = rw (bad p.0 q)
    ends p false q h = skip (f p.0) (f p.1) ends_at (bad p.1 h)

    sides : (p : List ℕ × List ℕ) → s ≡ p.0 ++ (bytes "-" ++ p.1) → (any (λ b. eqb b 47) p.0 || any (λ b. eqb b 47) p.1) ≡ true
    sides p h = sym (ap (any (λ b. eqb b 47)) h ∙ any_append (λ b. eqb b 47) p.0 (bytes "-" ++ p.1)) ∙ slashed_whole

    by : (o : Option (List ℕ × List ℕ)) → split_once (bytes "-") s ≡ o → read_range f s ≡ None
    by None q = rw (q, bad s slashed_whole)
    by (Some p) q = rw q (ends p (any (λ b. eqb b 47) p.0) refl (sides p (split_once_some (bytes "-") s p q)))

-- a mark that was not found is nowhere
pub index_free : (c : ℕ) (s : List ℕ) → length s ≤ index_of c s → free c s ≡ true
unfolding index_of span_len all
index_free c [] h = refl
index_free c (x ∷ s) h = by (eqb x c) refl (λ k. index_free c s k)
  where
    by : (b : Bool) → eqb x c ≡ b → (length s ≤ index_of c s → free c s ≡ true) → free c (x ∷ s) ≡ true
    by true e ih = let k : length (x ∷ s) ≤ 0 = simp e at h in absurd (omega arith)
    by false e ih = let k : length (x ∷ s) ≤ suc (index_of c s) = simp e at h in simp e (ih (omega arith))

-- what stands before a mark is as free of a byte as the whole
free_part_before : (c : ℕ) (m t : List ℕ) (p : List ℕ × List ℕ) → split_once m t ≡ Some p → free c t ≡ true → free c p.0 ≡ true
free_part_before c m t p e h = all_append_left (λ b. not (eqb b c)) p.0 (m ++ p.1) (ap (free c) (sym (split_once_some m t p e)) ∙ h)

-- addresses that are nowhere without a byte
module _ (c w : ℕ) (f : List ℕ → Option ℕ) (bad : (t : List ℕ) → free c t ≡ true → f t ≡ None) where
  range_without : (t : List ℕ) → free c t ≡ true → read_range f t ≡ None
  unfolding read_range
  range_without t h = by (split_once (bytes "-") t) refl
    where
      by : (o : Option (List ℕ × List ℕ)) → split_once (bytes "-") t ≡ o → read_range f t ≡ None
      by None q = rw (q, bad t h)
      by (Some p) q = rw (q, bad p.0 (free_part_before c (bytes "-") t p q h))

  net_without : (t : List ℕ) → free c t ≡ true → read_net w f t ≡ None
  unfolding read_net
  net_without t h = by (split_once (bytes "/") t) refl
    where
      by : (o : Option (List ℕ × List ℕ)) → split_once (bytes "/") t ≡ o → read_net w f t ≡ None
      by None q = rw q
      by (Some p) q = rw (q, bad p.0 (free_part_before c (bytes "/") t p q h))

  comma_without : (l : List ℕ) → free c l ≡ true → read_comma_form w f l ≡ None
  unfolding read_comma_form
  comma_without l h = by (split_once (bytes ",") l) refl
    where
      by : (o : Option (List ℕ × List ℕ)) → split_once (bytes ",") l ≡ o → read_comma_form w f l ≡ None
      by None q = rw q
      by (Some p) q = let k = free_part_before c (bytes ",") l p q h in rw (q, range_without p.0 k, net_without p.0 k)

pub colon_comma_form : (l : List ℕ) → free 58 l ≡ true → read_comma_form 128 read_v6 l ≡ None
colon_comma_form l h = comma_without 58 128 read_v6 v6_colon l h

-- ## A line of the retired form

bind_some : {A B : Type 0} (o : Option A) (f : A → Option B) (b : B) → (o >>= f) ≡ Some b → (a : A) × (o ≡ Some a) × (f a ≡ Some b)
bind_some None f b e = let z : ◌≡◌ {A = ℕ} 0 1 = cc in absurd (omega arith)
bind_some (Some a) f b e = (a, refl, e)

-- the parts of such a line
pub record Form (l : List ℕ) : Type 0 where
  pub address : List ℕ
  pub len : List ℕ
  pub low : List ℕ
  pub high : List ℕ
  pub net : Range
  pub number : ℕ
  pub bits : ℕ
  pub from : ℕ
  pub to : ℕ
  pub whole : l ≡ (address ++ bytes "/" ++ len) ++ bytes ":" ++ (low ++ bytes "," ++ high)
  pub reads_net : read_net 32 read_v4 (address ++ bytes "/" ++ len) ≡ Some net
  pub reads_address : read_v4 address ≡ Some number
  pub reads_len : read_decimal 32 len ≡ Some bits
  pub reads_low : read_port low ≡ Some from
  pub reads_high : read_port high ≡ Some to
  pub reads : read_colon_form l ≡ Some (net, (from, to))
  pub first : split_once (bytes ":") l ≡ Some (address ++ bytes "/" ++ len, low ++ bytes "," ++ high)
  pub second : split_once (bytes ",") (low ++ bytes "," ++ high) ≡ Some (low, high)

-- the text around a first mark
around : (m t : List ℕ) (p : List ℕ × List ℕ) → split_once m t ≡ Some p → t ≡ p.0 ++ m ++ p.1
around m t p e = split_once_some m t p e ∙ sym (append_assoc p.0 m p.1)

net_parts : (t : List ℕ) (g : Range) → read_net 32 read_v4 t ≡ Some g
    → (p : List ℕ × List ℕ) × (n : ℕ) × (m : ℕ) × (split_once (bytes "/") t ≡ Some p) × (read_v4 p.0 ≡ Some n) × (read_decimal 32 p.1 ≡ Some m)
unfolding read_net
net_parts t g e =
    let a = bind_some (split_once (bytes "/") t) _ g e in
    let b = bind_some (read_v4 a.0.0) _ g a.2 in
    let c = bind_some (read_decimal 32 a.0.1) _ g b.2 in
    (a.0, b.0, c.0, a.1, b.1, c.1)

pub form : (l : List ℕ) (g : Range × Range) → read_colon_form l ≡ Some g → Form l
unfolding read_colon_form
form l g e =
    let a = bind_some (split_once (bytes ":") l) _ g e in
    let p : List ℕ × List ℕ = a.0 in
    let b = bind_some (read_net 32 read_v4 p.0) _ g a.2 in
    let c = bind_some (split_once (bytes ",") p.1) _ g b.2 in
    let q : List ℕ × List ℕ = c.0 in
    let d = bind_some (read_port q.0) _ g c.2 in
    let f = bind_some (read_port q.1) _ g d.2 in
    let n = net_parts p.0 b.0 b.1 in
    let x : List ℕ × List ℕ = n.0 in
    let s : p.0 ≡ x.0 ++ bytes "/" ++ x.1 = around (bytes "/") p.0 x n.3 in
    let t : p.1 ≡ q.0 ++ bytes "," ++ q.1 = around (bytes ",") p.1 q c.1 in
    let u : split_once (bytes ":") l ≡ Some (x.0 ++ bytes "/" ++ x.1, q.0 ++ bytes "," ++ q.1) =
    a.1 ∙ ap₂ (λ (y z : List ℕ). Some (y, z)) s t in
    record {
      address = x.0;
      len = x.1;
      low = q.0;
      high = q.1;
      net = b.0;
      number = n.1;
      bits = n.2;
      from = d.0;
      to = f.0;
      whole = around (bytes ":") l (x.0 ++ bytes "/" ++ x.1, q.0 ++ bytes "," ++ q.1) u;
      reads_net = ap (read_net 32 read_v4) (sym s) ∙ b.1;
      reads_address = n.4;
      reads_len = n.5;
      reads_low = d.1;
      reads_high = f.1;
      reads = e ∙ sym f.2;
      first = u;
      second = ap (split_once (bytes ",")) (sym t) ∙ c.1;
    }

pub unread : (l : List ℕ) → read_colon_form l ≡ None → is_retired l ≡ false
unfolding is_retired
unread l e = rw e

pub retired_form : (l : List ℕ) → is_retired l ≡ true → Form l
retired_form l e = by (read_colon_form l) refl
  where
    by : (o : Option (Range × Range)) → read_colon_form l ≡ o → Form l
    by None q = absurd (true≢false (sym e ∙ unread l q))
    by (Some g) q = form l g q

abbrev pub new_form : {l : List ℕ} → Form l → List ℕ
new_form f = (f.address ++ bytes "/" ++ f.len) ++ bytes "," ++ f.low ++ bytes "-" ++ f.high

module _ (l : List ℕ) (f : Form l) where
  abbrev before : List ℕ
  before = f.address ++ bytes "/" ++ f.len

  -- a byte that is no digit, no dot and no slash
  pub before_free : (c : ℕ) → is_digit c ≡ false → eqb c 46 ≡ false → free c (bytes "/") ≡ true → free c before ≡ true
  before_free c d e s =
      free_append c (f.address ++ bytes "/") f.len (free_append c f.address (bytes "/") (v4_free c d e f.address f.number f.reads_address) s)
      (digits_free c d 32 f.len f.bits f.reads_len)

  has_slash : (s : List ℕ) → any (λ b. eqb b 47) (before ++ s) ≡ true
  unfolding any
  has_slash s = any_append (λ b. eqb b 47) before s ∙ ap (λ (b : Bool). b || any (λ b. eqb b 47) s)
      (any_between (λ b. eqb b 47) f.address (bytes "/") f.len refl)

  alone_range : (g : List ℕ → Option ℕ) (s : List ℕ) → free 45 s ≡ true → g s ≡ None → read_range g s ≡ None
  unfolding read_range
  alone_range g s e n = rw (no_mark 45 [] s e, n)

  -- no line that a form which grants reads: the text before its first comma has a slash, and a colon after that
  module _ (w : ℕ) (g : List ℕ → Option ℕ) (no_slash : (t : List ℕ) → any (λ b. eqb b 47) t ≡ true → g t ≡ None) where
    abbrev part : List ℕ
    part = before ++ (bytes ":" ++ f.low)

    line_part : l ≡ part ++ bytes "," ++ f.high
    line_part = f.whole ∙ simp append_assoc

    free_part : (c : ℕ) → is_digit c ≡ false → eqb c 46 ≡ false → free c (bytes "/") ≡ true → free c (bytes ":") ≡ true → free c part ≡ true
    free_part c d e s k =
        free_append c before (bytes ":" ++ f.low) (before_free c d e s)
        (free_append c (bytes ":") f.low k (digits_free c d 65535 f.low f.from f.reads_low))

    part_net : read_net w g part ≡ None
    unfolding read_net any
    part_net =
        rw (ap (split_once (bytes "/")) shape ∙ first_mark 47 f.address (f.len ++ (bytes ":" ++ f.low))
        (v4_free 47 refl refl f.address f.number f.reads_address))
        (skip (g f.address) (read_decimal w (f.len ++ (bytes ":" ++ f.low))) _ no_len)
      where
        shape : part ≡ f.address ++ bytes "/" ++ (f.len ++ (bytes ":" ++ f.low))
        shape = append_assoc (f.address ++ bytes "/") f.len (bytes ":" ++ f.low)

        no_len : read_decimal w (f.len ++ (bytes ":" ++ f.low)) ≡ None
        no_len = digits_none 58 refl w (f.len ++ (bytes ":" ++ f.low))
            (any_append (λ b. eqb b 58) f.len (bytes ":" ++ f.low) ∙ or-true (any (λ b. eqb b 58) f.len))

    no_comma_form : read_comma_form w g l ≡ None
    unfolding read_comma_form all
    no_comma_form =
        rw (
          ap (split_once (bytes ",")) line_part ∙ first_mark 44 part f.high (free_part 44 refl refl refl refl),
          alone_range g part (free_part 45 refl refl refl refl) (no_slash part (has_slash (bytes ":" ++ f.low))),
          part_net,
        )

  -- the new form is read as the retired one was
  new_ports : read_range read_port (f.low ++ bytes "-" ++ f.high) ≡ Some (f.from, f.to)
  unfolding read_range
  new_ports = rw (first_mark 45 f.low f.high (digits_free 45 refl 65535 f.low f.from f.reads_low), f.reads_low, f.reads_high)

  new_split : split_once (bytes ",") (new_form f) ≡ Some (before, f.low ++ bytes "-" ++ f.high)
  unfolding all
  new_split = ap (split_once (bytes ",")) shape ∙ first_mark 44 before (f.low ++ bytes "-" ++ f.high) (before_free 44 refl refl refl)
    where
      shape : new_form f ≡ before ++ bytes "," ++ (f.low ++ bytes "-" ++ f.high)
      shape = simp append_assoc

  no_range : (g : List ℕ → Option ℕ) → ((t : List ℕ) → any (λ b. eqb b 47) t ≡ true → g t ≡ None) → read_range g before ≡ None
  unfolding all any
  no_range g n = alone_range g before (before_free 45 refl refl refl) (n before (any_between (λ b. eqb b 47) f.address (bytes "/") f.len refl))

  pub new_form_v4 : read_comma_form 32 read_v4 (new_form f) ≡ read_colon_form l
  unfolding read_comma_form
  new_form_v4 = rw (new_split, no_range read_v4 (v4_none 47 refl refl), f.reads_net, new_ports) (sym f.reads)

  pub new_form_v6 : read_comma_form 128 read_v6 (new_form f) ≡ None
  unfolding read_comma_form read_net
  new_form_v6 =
      rw (
        new_split,
        no_range read_v6 v6_none,
        first_mark 47 f.address f.len (v4_free 47 refl refl f.address f.number f.reads_address),
        v6_colon f.address (v4_free 58 refl refl f.address f.number f.reads_address),
      )

pub retired_no_comma_v4 : (l : List ℕ) → is_retired l ≡ true → read_comma_form 32 read_v4 l ≡ None
retired_no_comma_v4 l e = no_comma_form l (retired_form l e) 32 read_v4 (v4_none 47 refl refl)

pub retired_no_comma_v6 : (l : List ℕ) → is_retired l ≡ true → read_comma_form 128 read_v6 l ≡ None
retired_no_comma_v6 l e = no_comma_form l (retired_form l e) 128 read_v6 v6_none
