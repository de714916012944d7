-- Laws of the elements of daemon and client lists, as the code reads them; and what elements look at:
-- `daemon_element_request`, `client_element_request`.
-- Assumes nothing.
use Rattle.std.specs.Prelude.{None, Option, Some, unwrap_or, Ok, Result, ⊤}
use Prim.Native.Nat.{ℕ, suc, ◌+◌, ◌-◌, ◌<◌, ◌≤◌}
use Prim.Native.String.{String}
use mathlib.Core.Bool.{Bool, true, false, not, ◌&&◌, ◌||◌}
use mathlib.Core.Bool as Bool
use mathlib.Core.List.{List, [], ◌∷◌, map}
use mathlib.Core.Path.{◌≡◌, refl, sym, ap, ◌∙◌}
use native.Mathlib.Numerals.{add-one}
use native.Mathlib.Omega.{arith}
use borrow.Author.Tests.{le-leb, lt-leb}
use lib.Dec.{eqb, leb}
use lib.ListN.{length, take, drop, get_or}
use Rattle.text.specs.Basics.{when◌then◌else◌, ◌>>=◌, ◌or_else◌, given, holds, is_some, any, all}
use Rattle.text.specs.Text.{bytes, first_among, in_range, lower, equal, equal_fold, is_word}
use Rattle.text.specs.Scan.{index_of}
use Rattle.text.proofs.ScanLaws.{take_rest, split_once_mark, split_once_no_mark, eq_of_equal}
use Rattle.patterns.specs.declared.pattern.Wildcard.{Wildcard}
use Rattle.patterns.specs.declared.pattern.Wildcard.TheVariants as W
use Rattle.patterns.specs.Host.{Endpoint, name_case}
use Rattle.patterns.specs.Pattern.{Pattern, is_name_byte, host_pattern}
use Rattle.tables.specs.Table.{Matcher, is_table_name, table_name, pattern_with}
use Rattle.tables.specs.Tried.{looked_with}
use Rattle.views.specs.declared.NamingFault.{NamingFault}
use Rattle.views.specs.declared.NamingFault.TheVariants as N
use Rattle.views.specs.declared.Reference.{Reference}
use Rattle.views.specs.View.{naming_of, noted_tried, reference_of}
use Rattle.patterns.specs.Code.{wildcard_of, wildcard_pattern, matches_pattern}
use Rattle.patterns.proofs.TestLaws.{first_among_head, index_of_length}
use Rattle.patterns.proofs.PatternLaws.{wildcard_of_lem, is_some_given}
use Rattle.elements.specs.declared.User.{User}
use Rattle.elements.specs.declared.User.TheVariants as U
use Rattle.elements.specs.declared.Found.{Found}
use Rattle.elements.specs.declared.Found.TheVariants.{No, Ask}
use Rattle.elements.specs.Request.{Request, request_of, user_case, well_formed}
use Rattle.elements.specs.Element.{halves, client_reserved, daemon_reserved, named_table, is_plain_name, daemon_name, user_half, found_if, daemon_parts}
use Rattle.elements.specs.Element.{client_parts, daemon_element, client_element, look_at, element_looked}
use Rattle.elements.specs.Code.{noted, no_reference, reference_with, element_reference, saying, naming_with, element_naming, user_fits, at_sign, name_fits}
use Rattle.elements.specs.Code.{name_equals, user_test, user_found, ask_if, nobody, daemon_request, client_request}

-- ## Halves

pub at_sign_nil : (e : List ℕ) → length e ≡ 0 → (0 ≡ at_sign e) × (0 ≤ length e)
unfolding at_sign
at_sign_nil [] h = (refl, omega arith)
at_sign_nil (x ∷ t) h = absurd (omega arith)

pub at_sign_cons : (e : List ℕ) → (length e ≡ 0 → ⊥) → (i : ℕ) → i ≡ index_of 64 (take (length e - 1) (drop 1 e)) → (i + 1 ≡ at_sign e) × (i + 1 ≤ length e)
unfolding at_sign
at_sign_cons [] h i q = absurd (h refl)
at_sign_cons (x ∷ t) h i q =
    let k : i ≡ index_of 64 t = q ∙ ap (index_of 64) (take_rest (x ∷ t) 1) in
    (ap (λ (n : ℕ). n + 1) k, omega (arith, index_of_length 64 t))

module _ (e : List ℕ) (at : ℕ) (is_at : at ≡ at_sign e) where
  pub halves_none : at ≡ length e → halves e ≡ None
  unfolding at_sign halves
  halves_none h = by e (sym is_at ∙ h)
    where
      by : (e : List ℕ) → at_sign e ≡ length e → halves e ≡ None
      by [] h = refl
      by (x ∷ t) h = rw (split_once_no_mark 64 t (index_of 64 t) refl (omega arith))

  pub halves_some : (at ≡ length e → ⊥) → halves e ≡ Some (take at e, drop (at + 1) e)
  unfolding at_sign halves
  halves_some h = rw is_at (by e (λ q. h (is_at ∙ q)))
    where
      by : (e : List ℕ) → (at_sign e ≡ length e → ⊥) → halves e ≡ Some (take (at_sign e) e, drop (at_sign e + 1) e)
      by [] n = absurd (n refl)
      by (x ∷ t) n = rw (split_once_mark 64 t (index_of 64 t) refl (omega (arith, index_of_length 64 t)), add-one (index_of 64 t), add-one (suc (index_of 64 t)))

-- ## Reserved marks

pub sign_nil : (s : List ℕ) → length s ≡ 0 → false ≡ first_among "@" s
sign_nil [] h = refl
sign_nil (x ∷ s) h = absurd (omega arith)

pub sign_head : (s : List ℕ) → (length s ≡ 0 → ⊥) → eqb (get_or s 0 0) 64 ≡ first_among "@" s
unfolding any
sign_head s h = sym (first_among_head "@" s h ∙ Bool.or-false (eqb (get_or s 0 0) 64))

module _ (e : List ℕ) (x : Bool) (is_x : x ≡ first_among "@" e) where
  pub client_reserved_first : x ≡ true → true ≡ client_reserved e
  unfolding client_reserved
  client_reserved_first q = rw (← is_x, q)

  module _ (nx : x ≡ false) (at : ℕ) (is_at : at ≡ at_sign e) where
    pub client_reserved_whole : at ≡ length e → false ≡ client_reserved e
    unfolding client_reserved
    client_reserved_whole h = rw (← is_x, nx, halves_none e at is_at h)

    pub client_reserved_half : (at ≡ length e → ⊥) → (r : Bool) → r ≡ first_among "@" (take (length e - (at + 1)) (drop (at + 1) e)) → r ≡ client_reserved e
    unfolding client_reserved
    client_reserved_half h r q = rw (← is_x, nx, halves_some e at is_at h) (q ∙ ap (first_among "@") (take_rest e (at + 1)))

module _ (e : List ℕ) (x : Bool) (is_x : x ≡ first_among "/" e) where
  pub daemon_reserved_slash : x ≡ true → true ≡ daemon_reserved e
  unfolding daemon_reserved
  daemon_reserved_slash q = rw (← is_x, q)

  pub daemon_reserved_client : x ≡ false → (r : Bool) → r ≡ client_reserved e → r ≡ daemon_reserved e
  unfolding daemon_reserved
  daemon_reserved_client q r k = rw (← is_x, q) k

-- ## Tables

pub slash_some : (t : List ℕ) (x : Bool) → x ≡ first_among "/" t → x ≡ true → 1 ≤ length t
slash_some [] x is_x q = absurd (Bool.true≢false (sym q ∙ is_x))
slash_some (y ∷ t) x is_x q = omega arith

module _ (k : ℕ) (tables notes t : List ℕ) (r : Reference) where
  pub reference_plain : (x : Bool) → x ≡ first_among "/" t → x ≡ false → r ≡ no_reference → r ≡ reference_with k tables notes (table_name t)
  unfolding table_name
  reference_plain x is_x q is-r = rw (← is_x, q) is-r

  pub reference_slash : (x : Bool) → x ≡ first_among "/" t → x ≡ true → (n : List ℕ) → n ≡ take (length t - 1) (drop 1 t)
      → r ≡ reference_with k tables notes (given (is_table_name n) n) → r ≡ reference_with k tables notes (table_name t)
  unfolding table_name
  reference_slash x is_x q n is-n is-r = rw (← is_x, q, ← (take_rest t 1), ← is-n) is-r

module _ (k : ℕ) (tables notes n : List ℕ) (y : Bool) (is_y : y ≡ is_table_name n) (r : Reference) where
  pub reference_named : y ≡ true → r ≡ reference_of k tables notes n → r ≡ reference_with k tables notes (given (is_table_name n) n)
  reference_named q is-r = rw (← is_y, q) is-r

  pub reference_unnamed : y ≡ false → r ≡ no_reference → r ≡ reference_with k tables notes (given (is_table_name n) n)
  reference_unnamed q is-r = rw (← is_y, q) is-r

module _ (k : ℕ) (tables notes e : List ℕ) (at : ℕ) (is_at : at ≡ at_sign e) (r : Reference) where
  pub reference_whole : at ≡ length e → r ≡ reference_with k tables notes (table_name e) → r ≡ element_reference k tables notes e
  unfolding element_reference named_table
  reference_whole h q = rw (halves_none e at is_at h) q

  pub reference_half : (at ≡ length e → ⊥) → r ≡ reference_with k tables notes (table_name (take (length e - (at + 1)) (drop (at + 1) e)))
      → r ≡ element_reference k tables notes e
  unfolding element_reference named_table
  reference_half h q = rw (halves_some e at is_at h) (q ∙ ap (λ (t : List ℕ). reference_with k tables notes (table_name t)) (take_rest e (at + 1)))

-- what a reference tells of the element that it was found for
module _ (k : ℕ) (tables notes e : List ℕ) (r : Reference) (is-r : r ≡ element_reference k tables notes e) where
  pub reference_naming : r.naming ≡ element_naming (naming_of tables notes) e
  unfolding element_reference element_naming reference_of
  reference_naming = ap (λ (x : Reference). x.naming) is-r ∙ by (named_table e)
    where
      by : (o : Option (List ℕ)) → (reference_with k tables notes o).naming ≡ naming_with (naming_of tables notes) o
      by None = refl
      by (Some n) = refl

  pub reference_matches : (h : Endpoint) → r.matches ≡ holds (λ n. noted k tables notes n h) (named_table e)
  unfolding element_reference reference_of noted
  reference_matches h = ap (λ (x : Reference). x.matches) is-r ∙ by (named_table e)
    where
      by : (o : Option (List ℕ)) → (reference_with k tables notes o).matches ≡ holds (λ n. noted k tables notes n h) o
      by None = refl
      by (Some n) = refl

  pub reference_looked : 1 + r.tried ≡ element_looked (noted_tried k tables notes) e
  unfolding element_reference element_looked reference_of
  reference_looked = ap (λ (x : Reference). 1 + x.tried) is-r ∙ by (named_table e)
    where
      by : (o : Option (List ℕ)) → 1 + (reference_with k tables notes o).tried ≡ looked_with (noted_tried k tables notes) o
      by None = refl
      by (Some n) = refl

-- a whole element that begins with no slash names no table
module _ (e : List ℕ) (whole : length e ≡ at_sign e) (slashless : first_among "/" e ≡ false) where
  unnamed : named_table e ≡ None
  unfolding named_table table_name
  unnamed = rw (halves_none e (length e) whole refl, slashless)

  pub naming_none : (f : List ℕ → Result ⊤ NamingFault) → Ok tt ≡ element_naming f e
  unfolding element_naming
  naming_none f = rw unnamed

  pub looked_none : (c : List ℕ → ℕ) → 1 ≡ element_looked c e
  unfolding element_looked
  looked_none c = rw unnamed

-- ## Names

module _ (t : List ℕ) where
  name_fits_is : name_fits t ≡ (all is_name_byte t && in_range 1 64 (length t))
  unfolding name_fits
  name_fits_is = refl

  pub name_fits_empty : length t ≡ 0 → false ≡ name_fits t
  name_fits_empty h = rw (name_fits_is, lt-leb 1 (length t) (omega arith), Bool.and-false (all is_name_byte t))

  pub name_fits_long : 64 < length t → false ≡ name_fits t
  name_fits_long h = rw (name_fits_is, lt-leb (length t) 64 h, Bool.and-false (leb 1 (length t)), Bool.and-false (all is_name_byte t))

  pub name_fits_name : (length t ≡ 0 → ⊥) → length t ≤ 64 → (r : Bool) → r ≡ all is_name_byte t → r ≡ name_fits t
  name_fits_name n h r q =
      let k : 1 ≤ length t = omega arith in
      q ∙ sym (rw (name_fits_is, le-leb 1 (length t) k, le-leb (length t) 64 h, Bool.and-true (all is_name_byte t)))

  pub name_equals_same : (n : List ℕ) (x : Bool) → x ≡ equal_fold t n → x ≡ true → (r : Bool) → r ≡ name_fits t → r ≡ name_equals t n
  name_equals_same n x q y r k = rw (← q, y) k

  pub name_equals_differ : (n : List ℕ) (x : Bool) → x ≡ equal_fold t n → x ≡ false → false ≡ name_equals t n
  name_equals_differ n x q y = rw (← q, y)

-- a word is no other
is_word_other : (v w : String) (t : List ℕ) → is_word v t ≡ true → equal (map lower (bytes w)) (map lower (bytes v)) ≡ false → is_word w t ≡ false
unfolding equal_fold
is_word_other v w t e n = rw (← (eq_of_equal (map lower (bytes v)) (map lower t) e)) n

-- what the words say of a text, one after the other
pub wildcard_of_cases : (t : List ℕ) (P : Wildcard → Type 0)
    → (is_word "ALL" t ≡ true → P W.All)
    → (is_word "ALL" t ≡ false → is_word "LOCAL" t ≡ true → P W.Local)
    → (is_word "ALL" t ≡ false → is_word "KNOWN" t ≡ true → P W.Known)
    → (is_word "ALL" t ≡ false → is_word "KNOWN" t ≡ false → is_word "UNKNOWN" t ≡ true → P W.Unknown)
    → (is_word "ALL" t ≡ false → is_word "KNOWN" t ≡ false → is_word "UNKNOWN" t ≡ false → P W.Paranoid)
    → (is_word "ALL" t ≡ false → is_word "KNOWN" t ≡ false → is_word "UNKNOWN" t ≡ false → P W.Nothing)
    → P (wildcard_of t)
unfolding wildcard_of
wildcard_of_cases t P all local known unknown paranoid nothing = by (is_word "ALL" t) (is_word "LOCAL" t) (is_word "KNOWN" t) (is_word "UNKNOWN" t)
    (is_word "PARANOID" t) refl refl refl refl
  where
    by : (a l k u p : Bool) → is_word "ALL" t ≡ a → is_word "LOCAL" t ≡ l → is_word "KNOWN" t ≡ k → is_word "UNKNOWN" t ≡ u
        → P (when a then W.All else when l then W.Local else when k then W.Known else when u then W.Unknown else when p then W.Paranoid else W.Nothing)
    by true l k u p ea el ek eu = all ea
    by false true k u p ea el ek eu = local ea el
    by false false true u p ea el ek eu = known ea ek
    by false false false true p ea el ek eu = unknown ea ek eu
    by false false false false true ea el ek eu = paranoid ea ek eu
    by false false false false false ea el ek eu = nothing ea ek eu

-- a daemon's name and a user half, by the wildcard that they are
abbrev pub daemon_at : Wildcard → List ℕ → Option (List ℕ → Bool)
daemon_at W.Nothing t = given (name_fits t) (equal_fold t)
daemon_at W.All t = Some (λ d. true)
daemon_at W.Local t = None
daemon_at W.Known t = None
daemon_at W.Unknown t = None
daemon_at W.Paranoid t = None

abbrev pub user_at : Wildcard → List ℕ → Option (Request → Bool)
user_at W.Nothing t = given (name_fits t) (λ r. user_case r false false (equal_fold t r.user_name))
user_at W.All t = Some (λ r. true)
user_at W.Local t = None
user_at W.Known t = Some (λ r. user_case r false false true)
user_at W.Unknown t = Some (λ r. user_case r false true false)
user_at W.Paranoid t = None

is_plain_name_at : (t : List ℕ) → is_plain_name t ≡ (name_fits t && not (is_some (wildcard_pattern (wildcard_of t))))
unfolding is_plain_name name_fits
is_plain_name_at t = rw (wildcard_of_lem t)

daemon_name_at : (t : List ℕ) → daemon_name t ≡ daemon_at (wildcard_of t) t
unfolding daemon_name
daemon_name_at t = rw (is_plain_name_at t)
    (wildcard_of_cases t (λ w. (given (is_word "ALL" t) (λ d. true) or_else given (name_fits t && not (is_some (wildcard_pattern w))) (equal_fold t)) ≡ daemon_at w t)
    (λ a. rw a)
    (λ a l. rw (a, none_fits))
    (λ a k. rw (a, none_fits))
    (λ a k u. rw (a, none_fits))
    (λ a k u. rw (a, none_fits))
    (λ a k u. rw (a, Bool.and-true (name_fits t))))
  where
    none_fits : (name_fits t && false) ≡ false
    none_fits = Bool.and-false (name_fits t)

user_half_at : (t : List ℕ) → user_half t ≡ user_at (wildcard_of t) t
unfolding user_half equal lower
user_half_at t = rw (is_plain_name_at t) (wildcard_of_cases t (λ w. half_as w ≡ user_at w t)
    (λ a. rw a)
    (λ a l. rw (a, is_word_other "LOCAL" "KNOWN" t l refl, is_word_other "LOCAL" "UNKNOWN" t l refl, none_fits))
    (λ a k. rw (a, k))
    (λ a k u. rw (a, k, u))
    (λ a k u. rw (a, k, u, none_fits))
    (λ a k u. rw (a, k, u, Bool.and-true (name_fits t))))
  where
    none_fits : (name_fits t && false) ≡ false
    none_fits = Bool.and-false (name_fits t)

    half_as : Wildcard → Option (Request → Bool)
    half_as w =
        given (is_word "ALL" t) (λ r. true)
        or_else given (is_word "KNOWN" t) (λ r. user_case r false false true)
        or_else given (is_word "UNKNOWN" t) (λ r. user_case r false true false)
        or_else given (name_fits t && not (is_some (wildcard_pattern w))) (λ r. user_case r false false (equal_fold t r.user_name))

holds_given : {A : Type 0} (p : A → Bool) (b : Bool) (a : A) → holds p (given b a) ≡ (p a && b)
holds_given p true a = sym (Bool.and-true (p a))
holds_given p false a = sym (Bool.and-false (p a))

-- as the code finds them, w the wildcard that t is
module _ (t : List ℕ) (w v : Wildcard) (is-w : w ≡ wildcard_of t) (is_v : w ≡ v) where
  pub daemon_name_is : daemon_name t ≡ daemon_at v t
  daemon_name_is = daemon_name_at t ∙ rw (← is-w, is_v)

  pub user_half_is : user_half t ≡ user_at v t
  user_half_is = user_half_at t ∙ rw (← is-w, is_v)

  pub user_half_sound : (r : Bool) → r ≡ is_some (user_at v t) → r ≡ is_some (user_half t)
  user_half_sound r q = rw user_half_is q

  pub user_test_at : (u : User) (name : List ℕ) (r : Bool) → r ≡ holds (λ f. f (client_request nobody u name)) (user_at v t) → r ≡ user_test t u name
  unfolding user_test
  user_test_at u name r q = rw user_half_is q

-- a name that is no wildcard
module _ (t : List ℕ) where
  pub is_some_daemon_at : is_some (daemon_at W.Nothing t) ≡ name_fits t
  is_some_daemon_at = is_some_given (name_fits t) (equal_fold t)

  pub is_some_user_at : is_some (user_at W.Nothing t) ≡ name_fits t
  is_some_user_at = is_some_given (name_fits t) (λ (r : Request). user_case r false false (equal_fold t r.user_name))

  pub daemon_at_equals : (d : List ℕ) → holds (λ f. f d) (daemon_at W.Nothing t) ≡ name_equals t d
  daemon_at_equals d = holds_given (λ (f : List ℕ → Bool). f d) (name_fits t) (equal_fold t)

  pub user_at_equals : (name : List ℕ) → holds (λ f. f (client_request nobody U.Known name)) (user_at W.Nothing t) ≡ name_equals t name
  user_at_equals name = holds_given (λ (f : Request → Bool). f (client_request nobody U.Known name)) (name_fits t)
      (λ r. user_case r false false (equal_fold t r.user_name))

  pub user_at_unknown : holds (λ f. f (client_request nobody U.Unknown [])) (user_at W.Nothing t) ≡ false
  user_at_unknown = holds_given (λ (f : Request → Bool). f (client_request nobody U.Unknown [])) (name_fits t)
      (λ r. user_case r false false (equal_fold t r.user_name))

-- ## What a user half finds

-- of a request, where the host half matches
abbrev finds : Option (Request → Bool) → Request → Found
finds None r = No
finds (Some f) r = user_case r Ask (found_if (f r)) (found_if (f r))

-- no user half looks at more than the user
user_same : (v : Wildcard) (t : List ℕ) (r : Request) → finds (user_at v t) r ≡ finds (user_at v t) (client_request nobody r.user r.user_name)
user_same W.Nothing t r = by (name_fits t)
  where
    by : (b : Bool) → finds (given b (λ r. user_case r false false (equal_fold t r.user_name))) r
        ≡ finds (given b (λ r. user_case r false false (equal_fold t r.user_name))) (client_request nobody r.user r.user_name)
    by true = refl
    by false = refl
user_same W.All t r = refl
user_same W.Local t r = refl
user_same W.Known t r = refl
user_same W.Unknown t r = refl
user_same W.Paranoid t r = refl

-- the name of an unknown user is not looked at
unknown_same : (v : Wildcard) (t name : List ℕ) → finds (user_at v t) (client_request nobody U.Unknown name)
    ≡ finds (user_at v t) (client_request nobody U.Unknown [])
unknown_same W.Nothing t name = by (name_fits t)
  where
    by : (b : Bool) → finds (given b (λ r. user_case r false false (equal_fold t r.user_name))) (client_request nobody U.Unknown name)
        ≡ finds (given b (λ r. user_case r false false (equal_fold t r.user_name))) (client_request nobody U.Unknown [])
    by true = refl
    by false = refl
unknown_same W.All t name = refl
unknown_same W.Local t name = refl
unknown_same W.Known t name = refl
unknown_same W.Unknown t name = refl
unknown_same W.Paranoid t name = refl

finds_same : (t : List ℕ) (r : Request) → finds (user_half t) r ≡ finds (user_half t) (client_request nobody r.user r.user_name)
finds_same t r = rw (user_half_at t) (user_same (wildcard_of t) t r)

user_found_is : (t : List ℕ) (u : User) (name : List ℕ) → user_found t u name ≡ finds (user_half t) (client_request nobody u name)
unfolding user_found user_test
user_found_is t U.NotFetched name = by (user_half t)
  where
    by : (o : Option (Request → Bool)) → ask_if (is_some o) ≡ finds o (client_request nobody U.NotFetched name)
    by None = refl
    by (Some f) = refl
user_found_is t U.Unknown name = by (user_half t) ∙ sym (rw (user_half_at t) (unknown_same (wildcard_of t) t name))
  where
    by : (o : Option (Request → Bool)) → found_if (holds (λ f. f (client_request nobody U.Unknown [])) o) ≡ finds o (client_request nobody U.Unknown [])
    by None = refl
    by (Some f) = refl
user_found_is t U.Known name = by (user_half t)
  where
    by : (o : Option (Request → Bool)) → found_if (holds (λ f. f (client_request nobody U.Known name)) o) ≡ finds o (client_request nobody U.Known name)
    by None = refl
    by (Some f) = refl

module _ (t : List ℕ) (u : User) (name : List ℕ) (r : Found) (x : Bool) where
  pub user_found_ask : u ≡ U.NotFetched → x ≡ is_some (user_half t) → r ≡ ask_if x → r ≡ user_found t u name
  unfolding user_found
  user_found_ask e q k = rw (e, ← q) k

  pub user_found_unknown : u ≡ U.Unknown → x ≡ user_test t U.Unknown [] → r ≡ found_if x → r ≡ user_found t u name
  unfolding user_found
  user_found_unknown e q k = rw (e, ← q) k

  pub user_found_known : u ≡ U.Known → x ≡ user_test t U.Known name → r ≡ found_if x → r ≡ user_found t u name
  unfolding user_found
  user_found_known e q k = rw (e, ← q) k

-- ## Elements of either list, whole or parted

one_sound : {A B : Type 0} (o : Option A) (f : A → B) → is_some (o >>= λ a. Some (f a)) ≡ is_some o
one_sound None f = refl
one_sound (Some a) f = refl

two_sound : {A B C : Type 0} (o : Option A) (p : Option B) (f : A → B → C) → is_some (o >>= λ a. p >>= λ b. Some (f a b)) ≡ (is_some o && is_some p)
two_sound None p f = refl
two_sound (Some a) None f = refl
two_sound (Some a) (Some b) f = refl

-- what stands after the `@`, as the code has it
abbrev pub after : List ℕ → ℕ → List ℕ
after e at = take (length e - (at + 1)) (drop (at + 1) e)

module _ (m : Matcher) (e : List ℕ) (at : ℕ) (is_at : at ≡ at_sign e) where
  module _ (h : at ≡ length e) where
    pub daemon_element_whole : (r : Bool) → r ≡ is_some (daemon_name e) → r ≡ is_some (daemon_element m e)
    unfolding daemon_element daemon_parts
    daemon_element_whole r q = rw (halves_none e at is_at h) (q ∙ sym (one_sound (daemon_name e) _))

    pub client_element_whole : (r : Bool) → r ≡ is_some (pattern_with m e) → r ≡ is_some (client_element m e)
    unfolding client_element client_parts
    client_element_whole r q = rw (halves_none e at is_at h) (q ∙ sym (one_sound (pattern_with m e) _))

  module _ (h : at ≡ length e → ⊥) (x : Bool) where
    parted : halves e ≡ Some (take at e, after e at)
    parted = halves_some e at is_at h ∙ ap (λ (s : List ℕ). Some (take at e, s)) (sym (take_rest e (at + 1)))

    pub daemon_element_both : is_some (daemon_element m e) ≡ (is_some (daemon_name (take at e)) && is_some (pattern_with m (after e at)))
    unfolding daemon_element daemon_parts
    daemon_element_both = rw parted (two_sound (daemon_name (take at e)) (pattern_with m (after e at)) _)

    pub client_element_both : is_some (client_element m e) ≡ (is_some (user_half (take at e)) && is_some (pattern_with m (after e at)))
    unfolding client_element client_parts
    client_element_both = rw parted (two_sound (user_half (take at e)) (pattern_with m (after e at)) _)

-- whether a text is an element needs no tables
pattern_sound : (m k : Matcher) (e : List ℕ) → is_some (pattern_with m e) ≡ is_some (pattern_with k e)
unfolding pattern_with
pattern_sound m k e = by (first_among "/" e) (table_name e)
  where
    by : (b : Bool) (o : Option (List ℕ)) → is_some (when b then (o >>= λ n. Some (m n)) else host_pattern e)
        ≡ is_some (when b then (o >>= λ n. Some (k n)) else host_pattern e)
    by true None = refl
    by true (Some n) = refl
    by false o = refl

pub daemon_sound : (m k : Matcher) (e : List ℕ) → is_some (daemon_element m e) ≡ is_some (daemon_element k e)
unfolding daemon_element daemon_parts
daemon_sound m k e = by (halves e)
  where
    by : (h : Option (List ℕ × List ℕ)) → is_some (daemon_parts m e h) ≡ is_some (daemon_parts k e h)
    by None = refl
    by (Some p) = two_sound (daemon_name p.0) (pattern_with m p.1) _ ∙ ap (λ (b : Bool). is_some (daemon_name p.0) && b) (pattern_sound m k p.1)
        ∙ sym (two_sound (daemon_name p.0) (pattern_with k p.1) _)

pub client_sound : (m k : Matcher) (e : List ℕ) → is_some (client_element m e) ≡ is_some (client_element k e)
unfolding client_element client_parts
client_sound m k e = by (halves e)
  where
    by : (h : Option (List ℕ × List ℕ)) → is_some (client_parts m e h) ≡ is_some (client_parts k e h)
    by None = one_sound (pattern_with m e) _ ∙ pattern_sound m k e ∙ sym (one_sound (pattern_with k e) _)
    by (Some p) = two_sound (user_half p.0) (pattern_with m p.1) _ ∙ ap (λ (b : Bool). is_some (user_half p.0) && b) (pattern_sound m k p.1)
        ∙ sym (two_sound (user_half p.0) (pattern_with k p.1) _)

-- ## What an element finds

module _ (m : Matcher) (e : List ℕ) (at : ℕ) (is_at : at ≡ at_sign e) (d : List ℕ) (s : Endpoint) where
  pub daemon_found_whole : at ≡ length e → (x : Bool) → x ≡ holds (λ f. f d) (daemon_name e) → (r : Found) → r ≡ found_if x → r
      ≡ look_at (daemon_request d s) (daemon_element m e)
  unfolding daemon_element daemon_parts
  daemon_found_whole h x q r k = rw (halves_none e at is_at h) (k ∙ ap found_if q ∙ by (daemon_name e))
    where
      by : (o : Option (List ℕ → Bool)) → found_if (holds (λ f. f d) o) ≡ look_at (daemon_request d s) (o >>= λ f. Some (λ r. found_if (f r.daemon)))
      by None = refl
      by (Some f) = refl

  module _ (h : at ≡ length e → ⊥) (x : Bool) (is_x : x ≡ holds (λ f. f d) (daemon_name (take at e))) where
    pub daemon_found_both : look_at (daemon_request d s) (daemon_element m e) ≡ found_if (x && matches_pattern (pattern_with m (after e at)) s)
    unfolding daemon_element daemon_parts
    daemon_found_both = rw (parted m e at is_at h x, is_x) (by (daemon_name (take at e)) (pattern_with m (after e at)))
      where
        by : (o : Option (List ℕ → Bool)) (p : Pattern)
            → look_at (daemon_request d s) (o >>= λ f. p >>= λ g. Some (λ r. found_if (f r.daemon && g r.server)))
            ≡ found_if (holds (λ f. f d) o && matches_pattern p s)
        by None p = refl
        by (Some f) None = ap found_if (sym (Bool.and-false (f d)))
        by (Some f) (Some g) = refl

module _ (m : Matcher) (e : List ℕ) (at : ℕ) (is_at : at ≡ at_sign e) (c : Endpoint) (u : User) (name : List ℕ) where
  pub client_found_whole : at ≡ length e → (x : Bool) → x ≡ matches_pattern (pattern_with m e) c → (r : Found) → r ≡ found_if x → r
      ≡ look_at (client_request c u name) (client_element m e)
  unfolding client_element client_parts
  client_found_whole h x q r k = rw (halves_none e at is_at h) (k ∙ ap found_if q ∙ by (pattern_with m e))
    where
      by : (p : Pattern) → found_if (matches_pattern p c) ≡ look_at (client_request c u name) (p >>= λ g. Some (λ r. found_if (g r.client)))
      by None = refl
      by (Some g) = refl

  module _ (h : at ≡ length e → ⊥) (x : Bool) (is_x : x ≡ matches_pattern (pattern_with m (after e at)) c) where
    pub client_found_both : look_at (client_request c u name) (client_element m e) ≡ (when x then user_found (take at e) u name else No)
    unfolding client_element client_parts
    client_found_both =
        rw (parted m e at is_at h x, is_x, user_found_is (take at e) u name, ← (finds_same (take at e) (client_request c u name)))
        (by (user_half (take at e)) (pattern_with m (after e at)))
      where
        by : (o : Option (Request → Bool)) (p : Pattern)
            → look_at (client_request c u name) (o >>= λ f. p >>= λ g. Some (λ r. when g r.client then user_case r Ask (found_if (f r)) (found_if (f r)) else No))
            ≡ (when matches_pattern p c then finds o (client_request c u name) else No)
        by None None = refl
        by None (Some g) = neither (g c)
          where
            neither : (b : Bool) → No ≡ (when b then No else No)
            neither true = refl
            neither false = refl
        by (Some f) None = refl
        by (Some f) (Some g) = refl

-- ## A table that is looked up before the element is read

module _ (m : Matcher) (b : Bool) where
  pattern_once : (h : Endpoint) (t : List ℕ) → b ≡ holds (λ n. m n h) (table_name t)
      → matches_pattern (pattern_with (saying b) t) h ≡ matches_pattern (pattern_with m t) h
  unfolding pattern_with saying
  pattern_once h t is_b = by (first_among "/" t) (table_name t) is_b
    where
      by : (x : Bool) (o : Option (List ℕ)) → b ≡ holds (λ n. m n h) o
          → matches_pattern (when x then (o >>= λ n. Some (saying b n)) else host_pattern t) h
          ≡ matches_pattern (when x then (o >>= λ n. Some (m n)) else host_pattern t) h
      by true None q = refl
      by true (Some n) q = q
      by false o q = refl

  pub daemon_once : (q : Request) (e : List ℕ) → b ≡ holds (λ n. m n q.server) (named_table e)
      → look_at q (daemon_element (saying b) e) ≡ look_at q (daemon_element m e)
  unfolding daemon_element daemon_parts named_table
  daemon_once q e is_b = by (halves e) is_b
    where
      through : (f : List ℕ → Bool) (p : Pattern) → look_at q (p >>= λ g. Some (λ r. found_if (f r.daemon && g r.server)))
          ≡ found_if (f q.daemon && matches_pattern p q.server)
      through f None = ap found_if (sym (Bool.and-false (f q.daemon)))
      through f (Some g) = refl

      both : (o : Option (List ℕ → Bool)) (p k : Pattern) → matches_pattern p q.server ≡ matches_pattern k q.server
          → look_at q (o >>= λ f. p >>= λ g. Some (λ r. found_if (f r.daemon && g r.server)))
          ≡ look_at q (o >>= λ f. k >>= λ g. Some (λ r. found_if (f r.daemon && g r.server)))
      both None p k z = refl
      both (Some f) p k z = through f p ∙ ap (λ (x : Bool). found_if (f q.daemon && x)) z ∙ sym (through f k)

      by : (h : Option (List ℕ × List ℕ)) → b ≡ holds (λ n. m n q.server) (table_name (unwrap_or (h >>= λ p. Some p.1) e))
          → look_at q (daemon_parts (saying b) e h) ≡ look_at q (daemon_parts m e h)
      by None z = refl
      by (Some p) z = both (daemon_name p.0) (pattern_with (saying b) p.1) (pattern_with m p.1) (pattern_once q.server p.1 z)

  pub client_once : (q : Request) (e : List ℕ) → b ≡ holds (λ n. m n q.client) (named_table e)
      → look_at q (client_element (saying b) e) ≡ look_at q (client_element m e)
  unfolding client_element client_parts named_table
  client_once q e is_b = by (halves e) is_b
    where
      whole : (p : Pattern) → look_at q (p >>= λ g. Some (λ r. found_if (g r.client))) ≡ found_if (matches_pattern p q.client)
      whole None = refl
      whole (Some g) = refl

      through : (f : Request → Bool) (p : Pattern)
          → look_at q (p >>= λ g. Some (λ r. when g r.client then user_case r Ask (found_if (f r)) (found_if (f r)) else No))
          ≡ (when matches_pattern p q.client then user_case q Ask (found_if (f q)) (found_if (f q)) else No)
      through f None = refl
      through f (Some g) = refl

      both : (o : Option (Request → Bool)) (p k : Pattern) → matches_pattern p q.client ≡ matches_pattern k q.client
          → look_at q (o >>= λ f. p >>= λ g. Some (λ r. when g r.client then user_case r Ask (found_if (f r)) (found_if (f r)) else No))
          ≡ look_at q (o >>= λ f. k >>= λ g. Some (λ r. when g r.client then user_case r Ask (found_if (f r)) (found_if (f r)) else No))
      both None p k z = refl
      both (Some f) p k z = through f p ∙ ap (λ (x : Bool). when x then user_case q Ask (found_if (f q)) (found_if (f q)) else No) z ∙ sym (through f k)

      by : (h : Option (List ℕ × List ℕ)) → b ≡ holds (λ n. m n q.client) (table_name (unwrap_or (h >>= λ p. Some p.1) e))
          → look_at q (client_parts (saying b) e h) ≡ look_at q (client_parts m e h)
      by None z = whole (pattern_with (saying b) e) ∙ ap found_if (pattern_once q.client e z) ∙ sym (whole (pattern_with m e))
      by (Some p) z = both (user_half p.0) (pattern_with (saying b) p.1) (pattern_with m p.1) (pattern_once q.client p.1 z)

-- ## What elements look at

-- a daemon element looks at the daemon and the server alone
pub daemon_element_request : (m : Matcher) (q : Request) (e : List ℕ) → look_at q (daemon_element m e)
    ≡ look_at (daemon_request q.daemon q.server) (daemon_element m e)
unfolding daemon_element daemon_parts
daemon_element_request m q e = by (halves e)
  where
    whole : (o : Option (List ℕ → Bool)) → look_at q (o >>= λ f. Some (λ r. found_if (f r.daemon)))
        ≡ look_at (daemon_request q.daemon q.server) (o >>= λ f. Some (λ r. found_if (f r.daemon)))
    whole None = refl
    whole (Some f) = refl

    both : (o : Option (List ℕ → Bool)) (p : Pattern) → look_at q (o >>= λ f. p >>= λ g. Some (λ r. found_if (f r.daemon && g r.server)))
        ≡ look_at (daemon_request q.daemon q.server) (o >>= λ f. p >>= λ g. Some (λ r. found_if (f r.daemon && g r.server)))
    both None p = refl
    both (Some f) None = refl
    both (Some f) (Some g) = refl

    by : (h : Option (List ℕ × List ℕ)) → look_at q (daemon_parts m e h) ≡ look_at (daemon_request q.daemon q.server) (daemon_parts m e h)
    by None = whole (daemon_name e)
    by (Some p) = both (daemon_name p.0) (pattern_with m p.1)

-- a client element looks at the client and the user alone
pub client_element_request : (m : Matcher) (q : Request) (e : List ℕ) → look_at q (client_element m e)
    ≡ look_at (client_request q.client q.user q.user_name) (client_element m e)
unfolding client_element client_parts
client_element_request m q e = by (halves e)
  where
    r : Request
    r = client_request q.client q.user q.user_name

    whole : (p : Pattern) → look_at q (p >>= λ g. Some (λ r. found_if (g r.client))) ≡ look_at r (p >>= λ g. Some (λ r. found_if (g r.client)))
    whole None = refl
    whole (Some g) = refl

    both : (o : Option (Request → Bool)) (p : Pattern) → finds o q ≡ finds o r
        → look_at q (o >>= λ f. p >>= λ g. Some (λ r. when g r.client then user_case r Ask (found_if (f r)) (found_if (f r)) else No))
        ≡ look_at r (o >>= λ f. p >>= λ g. Some (λ r. when g r.client then user_case r Ask (found_if (f r)) (found_if (f r)) else No))
    both None p k = refl
    both (Some f) None k = refl
    both (Some f) (Some g) k = ap (λ (z : Found). when g q.client then z else No) k

    by : (h : Option (List ℕ × List ℕ)) → look_at q (client_parts m e h) ≡ look_at r (client_parts m e h)
    by None = whole (pattern_with m e)
    by (Some p) = both (user_half p.0) (pattern_with m p.1) (finds_same p.0 q ∙ sym (finds_same p.0 r))

-- ## Sizes

pub well_formed_fits : (d : List ℕ) (c s : Endpoint) (u : User) (name : List ℕ) (a b k l : Bool) → a ≡ in_range 1 64 (length d)
    → b ≡ name_case c true true (in_range 1 255 (length c.name)) → k ≡ name_case s true true (in_range 1 255 (length s.name)) → l ≡ user_fits u name
    → (a && b && k && l) ≡ well_formed (request_of d c s u name)
unfolding well_formed
well_formed_fits d c s u name a b k l p q r t = rw (p, q, r, t)
