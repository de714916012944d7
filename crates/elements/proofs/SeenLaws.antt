-- Laws of an element that is checked and looked at in one reading, shaped as the calls and tests of the code hand their facts over.
-- Assumes nothing.
use Rattle.std.specs.Prelude.{None, Some, Ok, Result, ⊤}
use Prim.Native.Nat.{ℕ, suc, ◌+◌, ◌-◌, ◌<◌, ◌≤◌}
use mathlib.Core.Bool.{Bool, true, false, not, ◌&&◌, and_assoc, and-false, and-true as and-true_r, true≢false}
use mathlib.Core.List.{List, [], ◌∷◌}
use mathlib.Core.Path.{◌≡◌, refl, sym, ap, ap₂, ◌∙◌}
use native.Mathlib.Numerals.{add-one}
use native.Mathlib.Omega.{arith}
use borrow.Author.Tests.{eqb-true, eq-eqb}
use lib.Bits.{bit_and}
use lib.Dec.{eqb, leb, ltb}
use lib.ListN.{length, take, drop}
use Rattle.text.specs.Basics.{when◌then◌else◌, ◌>>=◌, given, holds, is_some, any, all}
use Rattle.text.specs.Text.{first_among, equal_fold}
use Rattle.text.specs.Scan.{span_len, index_of}
use Rattle.text.proofs.BasicLaws.{and_true}
use Rattle.text.proofs.ScanLaws.{take_rest}
use Rattle.patterns.specs.declared.HostSeen.{HostSeen}
use Rattle.patterns.specs.declared.pattern.Wildcard.{Wildcard}
use Rattle.patterns.specs.declared.pattern.Wildcard.TheVariants as W
use Rattle.patterns.specs.Host.{Endpoint}
use Rattle.patterns.specs.Pattern.{Pattern, is_name_byte, host_pattern}
use Rattle.tables.specs.Table.{Matcher, is_table_name, table_name, pattern_with}
use Rattle.tables.specs.Tried.{capped}
use Rattle.views.specs.declared.NamingFault.{NamingFault}
use Rattle.views.specs.declared.NamingFault.TheVariants as N
use Rattle.views.specs.declared.Reference.{Reference}
use Rattle.patterns.specs.Code.{word_size, wildcard_of, matches_pattern, host_seen, pattern_seen}
use Rattle.patterns.proofs.PatternLaws.{wildcard_of_sized}
use Rattle.classes.specs.Class.{Describes}
use Rattle.elements.specs.declared.User.{User}
use Rattle.elements.specs.declared.Found.{Found}
use Rattle.elements.specs.declared.Found.TheVariants.{No}
use Rattle.elements.specs.declared.element.ElementFault.{ElementFault}
use Rattle.elements.specs.declared.element.ElementSeen.{ElementSeen}
use Rattle.elements.specs.declared.element.KindSeen.{KindSeen}
use Rattle.elements.specs.Request.{Request}
use Rattle.elements.specs.Element.{Element, client_reserved, daemon_reserved, daemon_name, user_half, found_if, daemon_element, client_element, look_at}
use Rattle.elements.specs.Element.{element_looked}
use Rattle.elements.specs.Code.{View, Kind, view_of, noted, element_reference, saying, table_seen, daemon_kind, client_kind, counted, looked_for}
use Rattle.elements.specs.Code.{at_sign, name_fits, name_equals, daemon_seen, user_found, daemon_request, client_request, fault_of, element_fault, sought}
use Rattle.elements.specs.Code.{kind_seen, element_seen}
use Rattle.elements.proofs.ElementLaws.{client_reserved_whole, daemon_reserved_client, naming_none, looked_none}
use Rattle.elements.proofs.ElementLaws.{reference_naming, reference_matches, reference_looked, daemon_sound, client_sound, daemon_once, client_once}
use Rattle.elements.proofs.ElementLaws.{daemon_at, daemon_name_is, is_some_daemon_at, daemon_at_equals, after}
use Rattle.elements.proofs.ElementLaws.{daemon_element_whole, client_element_whole, daemon_element_both, client_element_both}
use Rattle.elements.proofs.ElementLaws.{daemon_found_whole, client_found_whole, daemon_found_both, client_found_both}

-- ## The place of the `@`, by a mask

index_of_none : (b : ℕ) (t : List ℕ) → all (λ (x : ℕ). not (eqb x b)) t ≡ true → index_of b t ≡ length t
unfolding index_of span_len all
index_of_none b [] h = refl
index_of_none b (x ∷ t) h = rw (and_true (not (eqb x b)) (all (λ (x : ℕ). not (eqb x b)) t) h).0
    (ap suc (index_of_none b t (and_true (not (eqb x b)) (all (λ (x : ℕ). not (eqb x b)) t) h).1))

at_sign_none : (e : List ℕ) → all (λ (x : ℕ). not (eqb x 64)) e ≡ true → length e ≡ at_sign e
unfolding at_sign all
at_sign_none [] h = refl
at_sign_none (x ∷ t) h = sym (add-one (index_of 64 t) ∙ ap suc (index_of_none 64 t (and_true (not (eqb x 64)) (all (λ (x : ℕ). not (eqb x 64)) t) h).1))

pub sign_none : (m : ℕ) (e : List ℕ) → Describes m e → bit_and m 16 ≡ 0 → (length e ≡ at_sign e) × (length e ≤ length e)
sign_none m e h z = (at_sign_none e (sym h.no_sign_lem ∙ eq-eqb (bit_and m 16) 0 z), omega arith)

-- ## Names

module _ (t n : List ℕ) (names look : Bool) (is-names : names ≡ all is_name_byte t) where
  fits : (names && (leb 1 (length t) && leb (length t) 64)) ≡ name_fits t
  unfolding name_fits
  fits = rw is-names

  pub name_seen_looked : (look && (names && (leb 1 (length t) && leb (length t) 64))) ≡ true → (x : Bool) → x ≡ equal_fold t n
      → host_seen (names && (leb 1 (length t) && leb (length t) 64)) x ≡ host_seen (name_fits t) (look && name_equals t n)
  name_seen_looked h x is_x =
      let both : (look ≡ true) × ((names && (leb 1 (length t) && leb (length t) 64)) ≡ true) = and_true look _ h in
      let sound : name_fits t ≡ true = sym fits ∙ both.1 in
      ap₂ host_seen fits (is_x ∙ sym (rw (both.0, sound) (and-true_r (equal_fold t n))))

  pub name_seen_passed : (look && (names && (leb 1 (length t) && leb (length t) 64))) ≡ false
      → host_seen (names && (leb 1 (length t) && leb (length t) 64)) false ≡ host_seen (name_fits t) (look && name_equals t n)
  name_seen_passed h = ap₂ host_seen fits (by look (name_fits t) (equal_fold t n) (sym (ap (λ (b : Bool). look && b) fits) ∙ h))
    where
      by : (l s q : Bool) → (l && s) ≡ false → false ≡ (l && (q && s))
      by false s q k = refl
      by true true q k = absurd (true≢false k)
      by true false q k = sym (and-false q)

-- w the wildcard that t is
module _ (t d : List ℕ) (look : Bool) (w v : Wildcard) (is-w : w ≡ wildcard_of t) (is_v : w ≡ v) where
  pub daemon_name_seen : (r : HostSeen) → r ≡ host_seen (is_some (daemon_at v t)) (look && holds (λ f. f d) (daemon_at v t)) → r ≡ daemon_seen look (daemon_name t) d
  unfolding daemon_seen
  daemon_name_seen r q = rw (daemon_name_is t w v is-w is_v) q

module _ (t d : List ℕ) (look : Bool) (w : Wildcard) (is-w : w ≡ wildcard_of t) (r : HostSeen) where
  pub daemon_seen_name : w ≡ W.Nothing → r ≡ host_seen (name_fits t) (look && name_equals t d) → r ≡ daemon_seen look (daemon_name t) d
  daemon_seen_name e q = daemon_name_seen t d look w W.Nothing is-w e r
      (q ∙ sym (ap₂ (λ (a b : Bool). host_seen a (look && b)) (is_some_daemon_at t) (daemon_at_equals t d)))

  pub daemon_seen_all : w ≡ W.All → r ≡ host_seen true look → r ≡ daemon_seen look (daemon_name t) d
  daemon_seen_all e q = daemon_name_seen t d look w W.All is-w e r (q ∙ ap (host_seen true) (sym (and-true_r look)))

  none_seen : (v : Wildcard) → daemon_at v t ≡ None → w ≡ v → r ≡ host_seen false false → r ≡ daemon_seen look (daemon_name t) d
  none_seen v n e q =
      daemon_name_seen t d look w v is-w e r (q ∙ sym (rw n (ap (host_seen false) (and-false look))))

  pub daemon_seen_local : w ≡ W.Local → r ≡ host_seen false false → r ≡ daemon_seen look (daemon_name t) d
  daemon_seen_local e q = none_seen W.Local refl e q

  pub daemon_seen_known : w ≡ W.Known → r ≡ host_seen false false → r ≡ daemon_seen look (daemon_name t) d
  daemon_seen_known e q = none_seen W.Known refl e q

  pub daemon_seen_unknown : w ≡ W.Unknown → r ≡ host_seen false false → r ≡ daemon_seen look (daemon_name t) d
  daemon_seen_unknown e q = none_seen W.Unknown refl e q

  pub daemon_seen_paranoid : w ≡ W.Paranoid → r ≡ host_seen false false → r ≡ daemon_seen look (daemon_name t) d
  daemon_seen_paranoid e q = none_seen W.Paranoid refl e q

-- ## Whether a text is an element, and what it finds

abbrev kind : Bool → Found → KindSeen
kind s f = record { sound = s; found = f }

found_if_sought : (look x : Bool) → found_if (look && x) ≡ sought look (found_if x)
found_if_sought true x = refl
found_if_sought false x = refl

module _ (m : Matcher) (e : List ℕ) (at : ℕ) (is_at : at ≡ at_sign e) (look : Bool) (d : List ℕ) (s : Endpoint) (n : HostSeen) where
  pub daemon_kind_whole : at ≡ length e → n ≡ daemon_seen look (daemon_name e) d → (f : Found) → f ≡ found_if n.matches
      → kind n.sound f ≡ kind_seen look (daemon_request d s) (daemon_element m e)
  unfolding daemon_seen kind_seen
  daemon_kind_whole h is-n f is_f = ap₂ kind
      (daemon_element_whole m e at is_at h n.sound (ap (λ (x : HostSeen). x.sound) is-n))
      (is_f ∙ ap (λ (x : HostSeen). found_if x.matches) is-n ∙ found_if_sought look (holds (λ f. f d) (daemon_name e))
      ∙ ap (sought look) (daemon_found_whole m e at is_at d s h (holds (λ f. f d) (daemon_name e)) refl (found_if (holds (λ f. f d) (daemon_name e))) refl))

  pub daemon_kind_halves : at < length e → n ≡ daemon_seen look (daemon_name (take at e)) d → (g : HostSeen) → g
      ≡ pattern_seen n.matches (pattern_with m (after e at)) s
      → (f : Found) → f ≡ found_if g.matches → kind (n.sound && g.sound) f ≡ kind_seen look (daemon_request d s) (daemon_element m e)
  unfolding daemon_seen kind_seen pattern_seen
  daemon_kind_halves h is-n g is-g f is_f =
      let parted : at ≡ length e → ⊥ = λ q. omega arith in
      let x : Bool = holds (λ f. f d) (daemon_name (take at e)) in
      let y : Bool = matches_pattern (pattern_with m (after e at)) s in
      ap₂ kind
      (ap₂ ◌&&◌ (ap (λ (z : HostSeen). z.sound) is-n) (ap (λ (z : HostSeen). z.sound) is-g) ∙ sym (daemon_element_both m e at is_at parted x))
      (is_f ∙ ap (λ (z : HostSeen). found_if z.matches) is-g ∙ ap (λ (z : HostSeen). found_if (z.matches && y)) is-n ∙ ap found_if (and_assoc look x y)
      ∙ found_if_sought look (x && y) ∙ ap (sought look) (sym (daemon_found_both m e at is_at d s parted x refl)))

module _ (m : Matcher) (e : List ℕ) (at : ℕ) (is_at : at ≡ at_sign e) (look : Bool) (c : Endpoint) (u : User) (name : List ℕ) (g : HostSeen) where
  pub client_kind_whole : at ≡ length e → g ≡ pattern_seen look (pattern_with m e) c → (f : Found) → f ≡ found_if g.matches
      → kind g.sound f ≡ kind_seen look (client_request c u name) (client_element m e)
  unfolding pattern_seen kind_seen
  client_kind_whole h is-g f is_f = ap₂ kind
      (client_element_whole m e at is_at h g.sound (ap (λ (x : HostSeen). x.sound) is-g))
      (is_f ∙ ap (λ (x : HostSeen). found_if x.matches) is-g ∙ found_if_sought look (matches_pattern (pattern_with m e) c)
      ∙ ap (sought look) (client_found_whole m e at is_at c u name h (matches_pattern (pattern_with m e) c) refl
      (found_if (matches_pattern (pattern_with m e) c)) refl))

  module _ (h : at < length e) (is-g : g ≡ pattern_seen look (pattern_with m (after e at)) c) (x : Bool) (is_x : x ≡ is_some (user_half (take at e))) where
    parted : at ≡ length e → ⊥
    parted q = omega arith

    sound : (x && g.sound) ≡ is_some (client_element m e)
    unfolding pattern_seen
    sound = ap₂ ◌&&◌ is_x (ap (λ (z : HostSeen). z.sound) is-g) ∙ sym (client_element_both m e at is_at parted x)

    found : sought look (look_at (client_request c u name) (client_element m e)) ≡ (when g.matches then user_found (take at e) u name else No)
    unfolding pattern_seen
    found =
        ap (sought look) (client_found_both m e at is_at c u name parted (matches_pattern (pattern_with m (after e at)) c) refl)
        ∙ by look (matches_pattern (pattern_with m (after e at)) c) ∙ sym (ap (λ (z : HostSeen). when z.matches then user_found (take at e) u name else No) is-g)
      where
        by : (l m : Bool) → sought l (when m then user_found (take at e) u name else No) ≡ (when l && m then user_found (take at e) u name else No)
        by true m = refl
        by false m = refl

    pub client_kind_matched : g.matches ≡ true → (f : Found) → f ≡ user_found (take at e) u name
        → kind (x && g.sound) f ≡ kind_seen look (client_request c u name) (client_element m e)
    unfolding kind_seen
    client_kind_matched m f is_f = ap₂ kind sound (is_f ∙ sym (found ∙ rw m))

    pub client_kind_missed : g.matches ≡ false → kind (x && g.sound) No ≡ kind_seen look (client_request c u name) (client_element m e)
    unfolding kind_seen
    client_kind_missed m = ap₂ kind sound (sym (found ∙ rw m))

pub element_seen_is : (look : Bool) (q : Request) (of : Kind) (e : List ℕ) (k : KindSeen) → k ≡ kind_seen look q (of.element e)
    → (x : Bool) → x ≡ of.reserved e → (n : Result ⊤ NamingFault) → n ≡ of.naming e → (f : Result ⊤ ElementFault) → f ≡ fault_of x k.sound n
    → (c : ℕ) → c ≡ counted look (capped (of.looked e)) → record { fault = f; found = k.found; looked = c } ≡ element_seen look q of e
unfolding element_seen element_fault kind_seen
element_seen_is look q of e k is-k x is_x n is-n f is_f c is_c = rw (is_f, is_x, is-n, is-k, is_c)

-- r the reference of e
module _ (tables notes e : List ℕ) (look : Bool) (r : Reference) (c : ℕ) (is_c : c ≡ counted look (capped (1 + r.tried))) (k : KindSeen) where
  module _ (is-r : r ≡ element_reference 1 tables notes e) (d : List ℕ) (s : Endpoint)
      (is-k : k ≡ kind_seen look (daemon_request d s) (daemon_element (saying r.matches) e))
    where
      daemon_kind_lem : k ≡ kind_seen look (daemon_request d s) (daemon_element (noted 1 tables notes) e)
      unfolding kind_seen
      daemon_kind_lem = is-k ∙ ap₂ kind (daemon_sound (saying r.matches) (noted 1 tables notes) e)
          (ap (sought look) (daemon_once (noted 1 tables notes) r.matches (daemon_request d s) e (reference_matches 1 tables notes e r is-r s)))

      daemon_count : c ≡ counted look (capped (element_looked (view_of tables notes).server_tried e))
      daemon_count = is_c ∙ ap (λ (n : ℕ). counted look (capped n)) (reference_looked 1 tables notes e r is-r)

      pub daemon_any_is : (x : Bool) → x ≡ daemon_reserved e → (f : Result ⊤ ElementFault) → f ≡ fault_of x k.sound r.naming
          → record { fault = f; found = k.found; looked = c } ≡ element_seen look (daemon_request d s) (daemon_kind (view_of tables notes)) e
      daemon_any_is x is_x f is_f = element_seen_is look (daemon_request d s) (daemon_kind (view_of tables notes)) e k daemon_kind_lem x is_x
          r.naming (reference_naming 1 tables notes e r is-r) f is_f c daemon_count

      pub daemon_found_is : look ≡ true
          → looked_for k.found c
          ≡ looked_for (look_at (daemon_request d s) (daemon_element (noted 1 tables notes) e)) (capped (element_looked (view_of tables notes).server_tried e))
      unfolding kind_seen
      daemon_found_is l = ap₂ looked_for (ap (λ (x : KindSeen). x.found) daemon_kind_lem ∙ rw l) (daemon_count ∙ rw l)

  module _ (is-r : r ≡ element_reference 0 tables notes e) (h : Endpoint) (u : User) (name : List ℕ)
      (is-k : k ≡ kind_seen look (client_request h u name) (client_element (saying r.matches) e))
    where
      client_kind_lem : k ≡ kind_seen look (client_request h u name) (client_element (noted 0 tables notes) e)
      unfolding kind_seen
      client_kind_lem = is-k ∙ ap₂ kind (client_sound (saying r.matches) (noted 0 tables notes) e)
          (ap (sought look) (client_once (noted 0 tables notes) r.matches (client_request h u name) e (reference_matches 0 tables notes e r is-r h)))

      client_count : c ≡ counted look (capped (element_looked (view_of tables notes).client_tried e))
      client_count = is_c ∙ ap (λ (n : ℕ). counted look (capped n)) (reference_looked 0 tables notes e r is-r)

      pub client_any_is : (x : Bool) → x ≡ client_reserved e → (f : Result ⊤ ElementFault) → f ≡ fault_of x k.sound r.naming
          → record { fault = f; found = k.found; looked = c } ≡ element_seen look (client_request h u name) (client_kind (view_of tables notes)) e
      client_any_is x is_x f is_f = element_seen_is look (client_request h u name) (client_kind (view_of tables notes)) e k client_kind_lem x is_x
          r.naming (reference_naming 0 tables notes e r is-r) f is_f c client_count

      pub client_found_is : look ≡ true
          → looked_for k.found c
          ≡ looked_for (look_at (client_request h u name) (client_element (noted 0 tables notes) e)) (capped (element_looked (view_of tables notes).client_tried e))
      unfolding kind_seen
      client_found_is l = ap₂ looked_for (ap (λ (x : KindSeen). x.found) client_kind_lem ∙ rw l) (client_count ∙ rw l)

-- ## Elements of name bytes

-- a name byte is none that no name has
name_other : (b k : ℕ) → is_name_byte k ≡ false → is_name_byte b ≡ true → eqb b k ≡ false
name_other b k n y = by (eqb b k) refl
  where
    by : (x : Bool) → eqb b k ≡ x → x ≡ false
    by true q = absurd (true≢false (sym y ∙ ap is_name_byte (eqb-true b k q) ∙ n))
    by false q = refl

names_signless : (e : List ℕ) → all is_name_byte e ≡ true → all (λ (x : ℕ). not (eqb x 64)) e ≡ true
unfolding all is_name_byte any
names_signless [] h = refl
names_signless (x ∷ t) h =
    rw (name_other x 64 refl (and_true (is_name_byte x) (all is_name_byte t) h).0) (names_signless t (and_true (is_name_byte x) (all is_name_byte t) h).1)

-- an element of name bytes is whole, begins with no slash, and is not reserved
module _ (e : List ℕ) (h : all is_name_byte e ≡ true) where
  whole : length e ≡ at_sign e
  whole = at_sign_none e (names_signless e h)

  slashless : first_among "/" e ≡ false
  unfolding all any is_name_byte
  slashless = by e h
    where
      by : (e : List ℕ) → all is_name_byte e ≡ true → first_among "/" e ≡ false
      by [] h = refl
      by (x ∷ t) h = rw (name_other x 47 refl (and_true (is_name_byte x) (all is_name_byte t) h).0)

  client_unreserved : false ≡ client_reserved e
  unfolding all any is_name_byte
  client_unreserved = client_reserved_whole e false (by e h) refl (length e) whole refl
    where
      by : (e : List ℕ) → all is_name_byte e ≡ true → false ≡ first_among "@" e
      by [] h = refl
      by (x ∷ t) h = sym (rw (name_other x 64 refl (and_true (is_name_byte x) (all is_name_byte t) h).0))

  daemon_unreserved : false ≡ daemon_reserved e
  daemon_unreserved = daemon_reserved_client e false (sym slashless) refl false client_unreserved

  plain_pattern : (m : Matcher) → pattern_with m e ≡ host_pattern e
  unfolding pattern_with
  plain_pattern m = rw slashless

pub named_client : (v : View) (e : List ℕ) → true ≡ all is_name_byte e → (look : Bool) (c : Endpoint) (u : User) (name : List ℕ) (g : HostSeen)
    → g ≡ pattern_seen look (host_pattern e) c → (f : Result ⊤ ElementFault) → f ≡ fault_of false g.sound (Ok tt) → (x : Found) → x ≡ found_if g.matches
    → (n : ℕ) → n ≡ counted look (capped (1 + 0)) → record { fault = f; found = x; looked = n } ≡ element_seen look (client_request c u name) (client_kind v) e
named_client v e h look c u name g is-g f is_f x is_x n is-n =
    let names : all is_name_byte e ≡ true = sym h in
    let plain : host_pattern e ≡ pattern_with v.client e = sym (plain_pattern e names v.client) in
    let is-with : g ≡ pattern_seen look (pattern_with v.client e) c = is-g ∙ ap (λ (p : Pattern). pattern_seen look p c) plain in
    element_seen_is look (client_request c u name) (client_kind v) e (kind g.sound x)
    (client_kind_whole v.client e (length e) (whole e names) look c u name g refl is-with x is_x) false (client_unreserved e names)
    (Ok tt) (naming_none e (whole e names) (slashless e names) v.naming) f is_f
    n (is-n ∙ ap (λ (k : ℕ). counted look (capped k)) (looked_none e (whole e names) (slashless e names) v.client_tried))

-- what such an element finds and counts where it is looked at
pub named_found : (tables notes e : List ℕ) → true ≡ all is_name_byte e → (c : Endpoint) (u : User) (name : List ℕ) (g : HostSeen)
    → g ≡ pattern_seen true (host_pattern e) c → (x : Found) → x ≡ found_if g.matches → (n : ℕ) → n ≡ counted true (capped (1 + 0))
    → looked_for x n
    ≡ looked_for (look_at (client_request c u name) (client_element (noted 0 tables notes) e)) (capped (element_looked (view_of tables notes).client_tried e))
unfolding element_seen
named_found tables notes e h c u name g is-g x is_x n is-n =
    ap (λ (s : ElementSeen). looked_for s.found s.looked)
    (named_client (view_of tables notes) e h true c u name g is-g (fault_of false g.sound (Ok tt)) refl x is_x n is-n)

-- a daemon element that is told to be a name: x says whether it is as long as a wildcard
module _ (k : ℕ) (e : List ℕ) (h : Describes k e) (x : Bool) (is_x : x ≡ word_size (length e)) (t : (not x && ltb k 8) ≡ true) where
  pub names_described : true ≡ all is_name_byte e
  names_described = sym (and_true (not x) (ltb k 8) t).1 ∙ h.names

  pub named_daemon : (v : View) (look : Bool) (d : List ℕ) (s : Endpoint) (g : HostSeen) → g ≡ host_seen (name_fits e) (look && name_equals e d)
      → (f : Result ⊤ ElementFault) → f ≡ fault_of false g.sound (Ok tt) → (y : Found) → y ≡ found_if g.matches
      → (n : ℕ) → n ≡ counted look (capped (1 + 0)) → record { fault = f; found = y; looked = n } ≡ element_seen look (daemon_request d s) (daemon_kind v) e
  named_daemon v look d s g is-g f is_f y is_y n is-n =
      let nothing : wildcard_of e ≡ W.Nothing = sym (wildcard_of_sized e x is_x (and_true (not x) (ltb k 8) t).0) in
      let names : all is_name_byte e ≡ true = sym names_described in
      element_seen_is look (daemon_request d s) (daemon_kind v) e (kind g.sound y)
      (daemon_kind_whole v.server e (length e) (whole e names) look d s g refl (daemon_seen_name e d look (wildcard_of e) refl g nothing is-g) y is_y)
      false (daemon_unreserved e names) (Ok tt) (naming_none e (whole e names) (slashless e names) v.naming) f is_f
      n (is-n ∙ ap (λ (k : ℕ). counted look (capped k)) (looked_none e (whole e names) (slashless e names) v.server_tried))

-- ## Host halves

pub table_is : (look matched : Bool) (e : List ℕ) (y : Bool) → y ≡ is_table_name (take (length e - 1) (drop 1 e))
    → host_seen y (look && (y && matched)) ≡ table_seen look matched e
table_is look matched e y is_y = ap (λ (b : Bool). host_seen b (look && (b && matched))) (is_y ∙ ap is_table_name (take_rest e 1))

module _ (look matched : Bool) (e : List ℕ) (h : Endpoint) (x : Bool) (is_x : x ≡ first_among "/" e) (r : HostSeen) where
  pub half_table : x ≡ true → r ≡ table_seen look matched e → r ≡ pattern_seen look (pattern_with (saying matched) e) h
  unfolding pattern_seen pattern_with table_name saying
  half_table q is-r = is-r ∙ sym (rw (← is_x, q) (by (is_table_name (drop 1 e))))
    where
      by : (b : Bool) → pattern_seen look (given b (drop 1 e) >>= λ n. Some (saying matched n)) h ≡ host_seen b (look && (b && matched))
      by true = refl
      by false = refl

  pub half_plain : x ≡ false → r ≡ pattern_seen look (host_pattern e) h → r ≡ pattern_seen look (pattern_with (saying matched) e) h
  unfolding pattern_with
  half_plain q is-r = is-r ∙ sym (rw (← is_x, q))
