-- Laws of host patterns, by what the code reads a pattern as.
-- Assumes nothing.
use Prim.Native.Nat.{ℕ, ◌-◌, ◌<◌, ◌≤◌}
use Prim.Native.String.{String}
use mathlib.Core.Bool.{Bool, true, false, not, ◌&&◌, ◌||◌, true≢false}
use mathlib.Core.Bool as Bool
use mathlib.Core.List.{List, [], ◌∷◌}
use mathlib.Core.Path.{◌≡◌, refl, sym, ap₂, ◌∙◌}
use native.Mathlib.Omega.{arith}
use borrow.Author.Tests.{eq-eqb, ne_eqb, le-leb, lt-leb, not-true}
use lib.Dec.{eqb, leb, ltb}
use lib.ListN.{length, drop, get_or}
use Rattle.text.specs.Basics.{when◌then◌else◌, ◌or_else◌, given, is_some, first, all, any}
use Rattle.text.proofs.BasicLaws.{or_false}
use Rattle.text.specs.Text.{bytes, is_word, among, first_among, last_among, in_range, equal_fold}
use Rattle.text.proofs.ScanLaws.{equal_fold_lengths}
use Rattle.patterns.specs.declared.pattern.Wildcard.{Wildcard}
use Rattle.patterns.specs.declared.pattern.Wildcard.TheVariants as W
use Rattle.patterns.specs.declared.pattern.Form.TheVariants as F
use Rattle.patterns.specs.Pattern.{wildcard, is_name_byte, domain_pattern, bracket_pattern, dotted_pattern, name_pattern, host_pattern}
use Rattle.patterns.specs.Code.{word_size, wildcard_of, form_of, is_dotted_byte, wildcard_pattern, form_pattern, matches_pattern, domain_covers, plain_covers}
use Rattle.patterns.specs.Host.{Endpoint, endpoint, name_known}
use Rattle.patterns.specs.declared.Host.{Host}
use Rattle.patterns.proofs.TestLaws.{first_among_head, last_among_last}

-- ## Wildcards

not_word : (w : String) (e : List ℕ) → eqb (length e) (length (bytes w)) ≡ false → is_word w e ≡ false
not_word w e h = equal_fold_lengths (bytes w) e (λ q. true≢false (sym (eq-eqb (length e) (length (bytes w)) (sym q)) ∙ h))

pub wildcard_of_size : (e : List ℕ) → word_size (length e) ≡ false → W.Nothing ≡ wildcard_of e
unfolding wildcard_of
wildcard_of_size e h =
    let three : (eqb (length e) 3 ≡ false)
    × ((eqb (length e) 5 || (eqb (length e) 7 || eqb (length e) 8)) ≡ false) = or_false (eqb (length e) 3)
    (eqb (length e) 5 || (eqb (length e) 7 || eqb (length e) 8)) h in
    let five : (eqb (length e) 5 ≡ false)
    × ((eqb (length e) 7 || eqb (length e) 8) ≡ false) = or_false (eqb (length e) 5) (eqb (length e) 7 || eqb (length e) 8) three.1 in
    let seven : (eqb (length e) 7 ≡ false) × (eqb (length e) 8 ≡ false) = or_false (eqb (length e) 7) (eqb (length e) 8) five.1 in
    rw (
      not_word "ALL" e three.0,
      not_word "LOCAL" e five.0,
      not_word "KNOWN" e five.0,
      not_word "UNKNOWN" e seven.0,
      not_word "PARANOID" e seven.1,
    )

pub wildcard_of_sized : (e : List ℕ) (x : Bool) → x ≡ word_size (length e) → not x ≡ true → W.Nothing ≡ wildcard_of e
wildcard_of_sized e x is_x n = wildcard_of_size e (sym is_x ∙ not-true x n)

module _ (e : List ℕ) (a : Bool) (is-a : a ≡ is_word "ALL" e) where
  pub wildcard_of_all : a ≡ true → W.All ≡ wildcard_of e
  unfolding wildcard_of
  wildcard_of_all y = rw (← is-a, y)

  module _ (na : a ≡ false) (l : Bool) (is-l : l ≡ is_word "LOCAL" e) where
    pub wildcard_of_local : l ≡ true → W.Local ≡ wildcard_of e
    unfolding wildcard_of
    wildcard_of_local y = rw (← is-a, na, ← is-l, y)

    module _ (nl : l ≡ false) (k : Bool) (is-k : k ≡ is_word "KNOWN" e) where
      pub wildcard_of_known : k ≡ true → W.Known ≡ wildcard_of e
      unfolding wildcard_of
      wildcard_of_known y = rw (← is-a, na, ← is-l, nl, ← is-k, y)

      module _ (nk : k ≡ false) (u : Bool) (is-u : u ≡ is_word "UNKNOWN" e) where
        pub wildcard_of_unknown : u ≡ true → W.Unknown ≡ wildcard_of e
        unfolding wildcard_of
        wildcard_of_unknown y = rw (← is-a, na, ← is-l, nl, ← is-k, nk, ← is-u, y)

        module _ (nu : u ≡ false) (p : Bool) (is-p : p ≡ is_word "PARANOID" e) where
          pub wildcard_of_paranoid : p ≡ true → W.Paranoid ≡ wildcard_of e
          unfolding wildcard_of
          wildcard_of_paranoid y = rw (← is-a, na, ← is-l, nl, ← is-k, nk, ← is-u, nu, ← is-p, y)

          pub wildcard_of_nothing : p ≡ false → W.Nothing ≡ wildcard_of e
          unfolding wildcard_of
          wildcard_of_nothing y = rw (← is-a, na, ← is-l, nl, ← is-k, nk, ← is-u, nu, ← is-p, y)

pub wildcard_of_lem : (e : List ℕ) → wildcard e ≡ wildcard_pattern (wildcard_of e)
unfolding wildcard wildcard_of first
wildcard_of_lem e = by (is_word "ALL" e) (is_word "LOCAL" e) (is_word "KNOWN" e) (is_word "UNKNOWN" e) (is_word "PARANOID" e) refl refl refl refl refl
  where
    by : (a l k u p : Bool) → is_word "ALL" e ≡ a → is_word "LOCAL" e ≡ l → is_word "KNOWN" e ≡ k → is_word "UNKNOWN" e ≡ u → is_word "PARANOID" e ≡ p
        → wildcard e ≡ wildcard_pattern (wildcard_of e)
    by true l k u p ea el ek eu ep = rw ea
    by false true k u p ea el ek eu ep = rw (ea, el)
    by false false true u p ea el ek eu ep = rw (ea, el, ek)
    by false false false true p ea el ek eu ep = rw (ea, el, ek, eu)
    by false false false false true ea el ek eu ep = rw (ea, el, ek, eu, ep)
    by false false false false false ea el ek eu ep = rw (ea, el, ek, eu, ep)

-- ## Forms

module _ (e : List ℕ) where
  pub form_of_nil : length e ≡ 0 → F.Dotted ≡ form_of e
  unfolding form_of all
  form_of_nil h = by e h
    where
      by : (e : List ℕ) → length e ≡ 0 → F.Dotted ≡ form_of e
      by [] h = refl
      by (x ∷ e) h = absurd (omega arith)

  module _ (n : length e ≡ 0 → ⊥) where
    head_among : (marks : String) → first_among marks e ≡ among marks (get_or e 0 0)
    head_among marks = first_among_head marks e n

    pub form_of_domain : get_or e 0 0 ≡ 46 → F.Domain ≡ form_of e
    unfolding form_of any
    form_of_domain q = rw (head_among ".", q)

    module _ (nd : get_or e 0 0 ≡ 46 → ⊥) where
      pub form_of_bracket : get_or e 0 0 ≡ 91 → F.Bracket ≡ form_of e
      unfolding form_of any
      form_of_bracket q = rw (head_among ".", head_among "[", q)

      module _ (nb : get_or e 0 0 ≡ 91 → ⊥) (d : Bool) (is_d : d ≡ all is_dotted_byte e) where
        pub form_of_dotted : d ≡ true → F.Dotted ≡ form_of e
        unfolding form_of any
        form_of_dotted y = rw (head_among ".", head_among "[", ne_eqb (get_or e 0 0) 46 nd, ne_eqb (get_or e 0 0) 91 nb, ← is_d, y)

        pub form_of_plain : d ≡ false → F.Plain ≡ form_of e
        unfolding form_of any
        form_of_plain y = rw (head_among ".", head_among "[", ne_eqb (get_or e 0 0) 46 nd, ne_eqb (get_or e 0 0) 91 nb, ← is_d, y)

-- ## Domains and names

pub is_some_given : {A : Type 0} (b : Bool) (a : A) → is_some (given b a) ≡ b
is_some_given true a = refl
is_some_given false a = refl

is_some_domain_pattern : (e : List ℕ) → is_some (domain_pattern e) ≡ (all is_name_byte e && in_range 2 255 (length e))
unfolding domain_pattern
is_some_domain_pattern e = is_some_given (all is_name_byte e && in_range 2 255 (length e)) _

is_some_name_pattern : (e : List ℕ) → is_some (name_pattern e) ≡ (all is_name_byte e && in_range 1 255 (length e) && not (last_among "." e))
unfolding name_pattern
is_some_name_pattern e = is_some_given (all is_name_byte e && in_range 1 255 (length e) && not (last_among "." e)) _

module _ (e : List ℕ) where
  pub domain_pattern_short : length e < 2 → false ≡ is_some (domain_pattern e)
  domain_pattern_short h = rw (is_some_domain_pattern e, lt-leb 2 (length e) h, Bool.and-false (all is_name_byte e))

  pub domain_pattern_long : 255 < length e → false ≡ is_some (domain_pattern e)
  domain_pattern_long h = rw (is_some_domain_pattern e, lt-leb (length e) 255 h, Bool.and-false (leb 2 (length e)), Bool.and-false (all is_name_byte e))

  pub domain_pattern_fits : 2 ≤ length e → length e ≤ 255 → (r : Bool) → r ≡ all is_name_byte e → r ≡ is_some (domain_pattern e)
  domain_pattern_fits h k r q = q ∙ sym (rw (is_some_domain_pattern e, le-leb 2 (length e) h, le-leb (length e) 255 k, Bool.and-true (all is_name_byte e)))

  pub domain_covers_ends : (n : List ℕ) (x : Bool) → x ≡ (ltb (length e) (length n) && equal_fold e (drop (length n - length e) n)) → x ≡ true
      → (r : Bool) → r ≡ is_some (domain_pattern e) → r ≡ domain_covers e n
  unfolding domain_covers
  domain_covers_ends n x q y r k = rw (← q, y) k

  pub domain_covers_differs : (n : List ℕ) (x : Bool) → x ≡ (ltb (length e) (length n) && equal_fold e (drop (length n - length e) n)) → x ≡ false → false
      ≡ domain_covers e n
  unfolding domain_covers
  domain_covers_differs n x q y = rw (← q, y)

  pub name_pattern_empty : length e ≡ 0 → false ≡ is_some (name_pattern e)
  name_pattern_empty h = rw (is_some_name_pattern e, lt-leb 1 (length e) (omega arith), Bool.and-false (all is_name_byte e))

  pub name_pattern_long : 255 < length e → false ≡ is_some (name_pattern e)
  name_pattern_long h = rw (is_some_name_pattern e, lt-leb (length e) 255 h, Bool.and-false (leb 1 (length e)), Bool.and-false (all is_name_byte e))

  module _ (k : length e ≡ 0 → ⊥) where
    pub name_pattern_dot : get_or e (length e - 1) 0 ≡ 46 → false ≡ is_some (name_pattern e)
    unfolding any
    name_pattern_dot q = rw (is_some_name_pattern e, last_among_last "." e (length e - 1) k refl, q, Bool.and-false (all is_name_byte e && in_range 1 255 (length e)))

    pub name_pattern_fits : length e ≤ 255 → (get_or e (length e - 1) 0 ≡ 46 → ⊥) → (r : Bool) → r ≡ all is_name_byte e → r ≡ is_some (name_pattern e)
    unfolding any
    name_pattern_fits h n r q =
        let p : 1 ≤ length e = omega arith in
        q ∙ sym (rw (
          is_some_name_pattern e,
          last_among_last "." e (length e - 1) k refl,
          ne_eqb (get_or e (length e - 1) 0) 46 n,
          le-leb 1 (length e) p,
          le-leb (length e) 255 h,
          Bool.and-true (all is_name_byte e),
          Bool.and-true (all is_name_byte e),
        ))

  pub plain_covers_same : (n : List ℕ) (x : Bool) → x ≡ equal_fold e n → x ≡ true → (r : Bool) → r ≡ is_some (name_pattern e) → r ≡ plain_covers e n
  unfolding plain_covers
  plain_covers_same n x q y r k = rw (← q, y) k

  pub plain_covers_differs : (n : List ℕ) (x : Bool) → x ≡ equal_fold e n → x ≡ false → false ≡ plain_covers e n
  unfolding plain_covers
  plain_covers_differs n x q y = rw (← q, y)

-- a pattern is met where its test holds and it is one
met : (b : Bool) (f : Endpoint → Bool) (h : Endpoint) → (f h && is_some (given b f)) ≡ matches_pattern (given b f) h
met true f h = Bool.and-true (f h)
met false f h = Bool.and-false (f h)

module _ (e : List ℕ) (host : Host) (name : List ℕ) (x : Bool) (is_x : x ≡ name_known (endpoint host [])) (y : Bool) where
  pub domain_pattern_matches : y ≡ domain_covers e name → (x && y) ≡ matches_pattern (domain_pattern e) (endpoint host name)
  unfolding domain_pattern domain_covers
  domain_pattern_matches is_y =
      ap₂ ◌&&◌ is_x is_y
      ∙ by (name_known (endpoint host name)) (ltb (length e) (length name)) (equal_fold e (drop (length name - length e) name)) (is_some (domain_pattern e))
      ∙ met (all is_name_byte e && in_range 2 255 (length e))
      (λ h. name_known h && ltb (length e) (length h.name) && equal_fold e (drop (length h.name - length e) h.name)) (endpoint host name)
    where
      by : (k l q s : Bool) → (k && (l && q && s)) ≡ (k && l && q && s)
      by true l q s = refl
      by false l q s = refl

  pub name_pattern_matches : y ≡ plain_covers e name → (x && y) ≡ matches_pattern (name_pattern e) (endpoint host name)
  unfolding name_pattern plain_covers
  name_pattern_matches is_y =
      ap₂ ◌&&◌ is_x is_y ∙ by (name_known (endpoint host name)) (equal_fold e name) (is_some (name_pattern e))
      ∙ met (all is_name_byte e && in_range 1 255 (length e) && not (last_among "." e)) (λ h. name_known h && equal_fold e h.name) (endpoint host name)
    where
      by : (k q s : Bool) → (k && (q && s)) ≡ (k && q && s)
      by true q s = refl
      by false q s = refl

-- ## A pattern, by what it is read as

host_pattern_is : (e : List ℕ) → host_pattern e ≡ wildcard_pattern (wildcard_of e) or_else form_pattern (form_of e) e
unfolding host_pattern form_of
host_pattern_is e = rw (wildcard_of_lem e) (by (first_among "." e) (first_among "[" e) (all is_dotted_byte e))
  where
    by : (a b c : Bool)
        → (wildcard_pattern (wildcard_of e) or_else (when a then domain_pattern e else when b then bracket_pattern e else when c then dotted_pattern e else name_pattern e))
        ≡ (wildcard_pattern (wildcard_of e) or_else form_pattern (when a then F.Domain else when b then F.Bracket else when c then F.Dotted else F.Plain) e)
    by true b c = refl
    by false true c = refl
    by false false true = refl
    by false false false = refl

module _ (e : List ℕ) (w v : Wildcard) (is-w : w ≡ wildcard_of e) (is_v : w ≡ v) where
  pub host_pattern_at : host_pattern e ≡ wildcard_pattern v or_else form_pattern (form_of e) e
  host_pattern_at = host_pattern_is e ∙ rw (← is-w, is_v)
