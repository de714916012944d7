-- Laws of a pattern that is checked and matched at once.
-- Assumes nothing.
use Rattle.std.specs.Prelude.{None, Option, Some}
use Prim.Native.Nat.{ℕ, ◌+◌, ◌*◌, ◌^◌, ◌<◌}
use mathlib.Core.Bool.{Bool, true, false, not, ◌&&◌, ◌||◌, true≢false}
use mathlib.Core.Bool as Bool
use mathlib.Core.List.{List, [], ◌∷◌}
use mathlib.Core.Path.{◌≡◌, refl, sym, ap, ap₂, ◌∙◌}
use lib.Bits.{bit_and}
use lib.Dec.{eqb}
use lib.ListN.{length, get_or}
use native.Mathlib.Omega.{arith}
use Rattle.text.specs.Basics.{◌or_else◌, is_some, any, all}
use Rattle.text.specs.Text.{among}
use Rattle.text.proofs.BasicLaws.{and_true, all_get_d}
use Rattle.address.specs.Address.{same_prefix, addr_case}
use Rattle.address.specs.declared.Addr.{Addr}
use Rattle.address.specs.declared.Addr.TheVariants as A
use Rattle.patterns.specs.declared.Host.{Host}
use Rattle.patterns.specs.declared.HostSeen.{HostSeen}
use Rattle.patterns.specs.declared.pattern.Form.{Form}
use Rattle.patterns.specs.declared.pattern.Form.TheVariants as F
use Rattle.patterns.specs.declared.pattern.Wildcard.{Wildcard}
use Rattle.patterns.specs.declared.pattern.Wildcard.TheVariants as W
use Rattle.patterns.specs.Host.{Endpoint, endpoint, name_case, name_known, addr_known}
use Rattle.patterns.specs.Pattern.{Pattern, is_name_byte, domain_pattern, bracket_pattern, dotted_pattern, name_pattern, host_pattern}
use Rattle.patterns.specs.Code.{is_dotted_byte, Named, host_seen, pattern_seen, matches_pattern, wildcard_of, wildcard_pattern, form_of, form_pattern}
use Rattle.patterns.specs.Code.{domain_covers, plain_covers}
use Rattle.patterns.specs.Code.{dotted_net, net_sound, net_covers, dotted_covers, as_prefix, bracket_prefix, prefix_holds, prefix_covers, bracket_covers}
use Rattle.patterns.proofs.PatternLaws.{wildcard_of_size, form_of_domain, form_of_plain, domain_pattern_matches, name_pattern_matches, host_pattern_at}
use Rattle.patterns.proofs.CoverLaws.{dotted_test_net, dotted_pattern_sound, dotted_pattern_matches, bracket_pattern_matches}
use Rattle.patterns.proofs.CoverLaws.{bracket_pattern_nothing, bracket_pattern_prefix, prefix_covers_nothing, prefix_covers_prefix}

-- ## Domains and names: a name is read only where it is known

module _ (e : List ℕ) (look : Bool) (host : Host) (name : List ℕ) (x : Bool) (is_x : x ≡ name_known (endpoint host [])) where
  known : (look && x) ≡ true → (m y : Bool) → (x && y) ≡ m → y ≡ (look && m)
  known t m y q = sym (rw ((and_true look x t).0, ← q, (and_true look x t).1))

  unknown : (look && x) ≡ false → (m y : Bool) → (x && y) ≡ m → false ≡ (look && m)
  unknown t m y q = rw (← q) (by look x t)
    where
      by : (l k : Bool) → (l && k) ≡ false → false ≡ (l && (k && y))
      by true true t = absurd (true≢false t)
      by true false t = refl
      by false k t = refl

  pub domain_known : (look && x) ≡ true → (y : Bool) → y ≡ domain_covers e name → y ≡ (look && matches_pattern (domain_pattern e) (endpoint host name))
  domain_known t y is_y = known t (matches_pattern (domain_pattern e) (endpoint host name)) y (domain_pattern_matches e host name x is_x y is_y)

  pub domain_unknown : (look && x) ≡ false → false ≡ (look && matches_pattern (domain_pattern e) (endpoint host name))
  domain_unknown t =
      unknown t (matches_pattern (domain_pattern e) (endpoint host name)) (domain_covers e name)
      (domain_pattern_matches e host name x is_x (domain_covers e name) refl)

  pub plain_known : (look && x) ≡ true → (y : Bool) → y ≡ plain_covers e name → y ≡ (look && matches_pattern (name_pattern e) (endpoint host name))
  plain_known t y is_y = known t (matches_pattern (name_pattern e) (endpoint host name)) y (name_pattern_matches e host name x is_x y is_y)

  pub plain_unknown : (look && x) ≡ false → false ≡ (look && matches_pattern (name_pattern e) (endpoint host name))
  plain_unknown t =
      unknown t (matches_pattern (name_pattern e) (endpoint host name)) (plain_covers e name) (name_pattern_matches e host name x is_x (plain_covers e name) refl)

-- ## Dotted patterns

module _ (r : Option (ℕ × ℕ)) where
  pub net_none : r ≡ None → host_seen false false ≡ host_seen (net_sound r) false
  net_none q = rw q

  pub net_some : (n m : ℕ) → r ≡ Some (n, m) → host_seen true false ≡ host_seen (net_sound r) false
  net_some n m q = rw q

  module _ (look : Bool) (a : ℕ) where
    pub net_unread : r ≡ None → host_seen false false ≡ host_seen (net_sound r) (look && net_covers r a)
    net_unread q = rw q (ap (host_seen false) (sym (Bool.and-false look)))

    pub net_read : (n m : ℕ) → r ≡ Some (n, m) → (x : Bool) → x ≡ eqb n (bit_and a m) → host_seen true (look && x) ≡ host_seen (net_sound r) (look && net_covers r a)
    net_read n m q x is_x = rw (q, is_x)

module _ (e : List ℕ) (look : Bool) (host : Host) (r : Option (ℕ × ℕ)) (is-r : r ≡ (dotted_net e)) (x : HostSeen) where
  net_is : net_sound r ≡ is_some (dotted_pattern e)
  net_is = ap net_sound is-r ∙ by (dotted_net e) ∙ sym (dotted_pattern_sound e)
    where
      by : (o : Option (ℕ × ℕ)) → net_sound (o) ≡ is_some o
      by None = refl
      by (Some p) = refl

  unmatched : dotted_covers e host ≡ false → x ≡ host_seen (net_sound r) false → x ≡ host_seen (is_some (dotted_pattern e)) (look && dotted_covers e host)
  unmatched q is_x = is_x ∙ ap₂ host_seen net_is (sym (ap (λ (m : Bool). look && m) q ∙ Bool.and-false look))

  pub dotted_nowhere : host.addr ≡ A.Unknown → x ≡ host_seen (net_sound r) false → x ≡ host_seen (is_some (dotted_pattern e)) (look && dotted_covers e host)
  dotted_nowhere q = unmatched (rw q)

  pub dotted_v6 : (h l : ℕ) → host.addr ≡ A.V6 h l → x ≡ host_seen (net_sound r) false → x ≡ host_seen (is_some (dotted_pattern e)) (look && dotted_covers e host)
  dotted_v6 h l q = unmatched (rw q)

  pub dotted_v4 : (a : ℕ) → host.addr ≡ A.V4 a → a < 4294967296 → x ≡ host_seen (net_sound r) (look && net_covers r a)
      → x ≡ host_seen (is_some (dotted_pattern e)) (look && dotted_covers e host)
  dotted_v4 a q small is_x =
      let c : net_covers r a ≡ dotted_covers e host = rw q (dotted_test_net e a small r is-r (net_covers r a) refl) in
      is_x ∙ ap₂ host_seen net_is (ap (λ (m : Bool). look && m) c)

-- ## Bracketed patterns

module _ (e : List ℕ) (look : Bool) (host : Host) (r : Option (ℕ × ℕ × ℕ)) (is-r : r ≡ as_prefix (bracket_prefix e)) where
  pub bracket_unread : r ≡ None → host_seen false false ≡ host_seen (is_some (bracket_pattern e)) (look && bracket_covers e host)
  bracket_unread q = ap₂ host_seen (bracket_pattern_nothing e r is-r q) (sym (ap (λ (m : Bool). look && m) (by host.addr) ∙ Bool.and-false look))
    where
      by : (a : Addr) → addr_case a false (λ n. false) (prefix_covers e) ≡ false
      by A.Unknown = refl
      by (A.V4 a) = refl
      by (A.V6 h l) = sym (prefix_covers_nothing e r is-r q (h * 2 ^ 64 + l))

  pub bracket_read : (h l m : ℕ) → r ≡ Some (h, l, m) → (x : Bool) → x ≡ prefix_holds (h * 2 ^ 64 + l) m host
      → host_seen true (look && x) ≡ host_seen (is_some (bracket_pattern e)) (look && bracket_covers e host)
  bracket_read h l m q x is_x = ap₂ host_seen (bracket_pattern_prefix e r is-r h l m q) (ap (λ (m : Bool). look && m) (is_x ∙ by host.addr))
    where
      by : (a : Addr) → addr_case a false (λ n. false) (same_prefix 128 m (h * 2 ^ 64 + l)) ≡ addr_case a false (λ n. false) (prefix_covers e)
      by A.Unknown = refl
      by (A.V4 a) = refl
      by (A.V6 u v) = prefix_covers_prefix e r is-r h l m q (u * 2 ^ 64 + v) (same_prefix 128 m (h * 2 ^ 64 + l) (u * 2 ^ 64 + v)) refl

-- ## A pattern, by what it is read as

seen_by : (look : Bool) (p : Pattern) (h : Endpoint) (s m : Bool) → s ≡ is_some p → m ≡ (look && matches_pattern p h) → host_seen s m ≡ pattern_seen look p h
unfolding pattern_seen
seen_by look p h s m is-s is_m = ap₂ host_seen is-s is_m

module _ (e : List ℕ) (f : Form) (is_f : f ≡ form_of e) (look : Bool) (host : Host) (name : List ℕ) where
  abbrev Seen : HostSeen → Type 0
  Seen x = x ≡ pattern_seen look (form_pattern (form_of e) e) (endpoint host name)

  at : (v : Form) → f ≡ v → (x : HostSeen) → x ≡ pattern_seen look (form_pattern v e) (endpoint host name) → Seen x
  at v q x is_x = rw (← is_f, q) is_x

  pub seen_domain : f ≡ F.Domain → (s m : Bool) → s ≡ is_some (domain_pattern e) → m ≡ (look && matches_pattern (domain_pattern e) (endpoint host name))
      → Seen (host_seen s m)
  seen_domain q s m is-s is_m = at F.Domain q (host_seen s m) (seen_by look (domain_pattern e) (endpoint host name) s m is-s is_m)

  pub seen_plain : f ≡ F.Plain → (s m : Bool) → s ≡ is_some (name_pattern e) → m ≡ (look && matches_pattern (name_pattern e) (endpoint host name))
      → Seen (host_seen s m)
  seen_plain q s m is-s is_m = at F.Plain q (host_seen s m) (seen_by look (name_pattern e) (endpoint host name) s m is-s is_m)

  pub seen_bracket : f ≡ F.Bracket → (x : HostSeen) → x ≡ host_seen (is_some (bracket_pattern e)) (look && bracket_covers e host) → Seen x
  seen_bracket q x is_x =
      at F.Bracket q x
      (is_x ∙ seen_by look (bracket_pattern e) (endpoint host name) (is_some (bracket_pattern e)) (look && bracket_covers e host) refl
      (ap (λ (m : Bool). look && m) (sym (bracket_pattern_matches e (endpoint host name)))))

  pub seen_dotted : f ≡ F.Dotted → (x : HostSeen) → x ≡ host_seen (is_some (dotted_pattern e)) (look && dotted_covers e host) → Seen x
  seen_dotted q x is_x =
      at F.Dotted q x
      (is_x ∙ seen_by look (dotted_pattern e) (endpoint host name) (is_some (dotted_pattern e)) (look && dotted_covers e host) refl
      (ap (λ (m : Bool). look && m) (sym (dotted_pattern_matches e (endpoint host name)))))

module _ (e : List ℕ) (w : Wildcard) (is-w : w ≡ wildcard_of e) (look : Bool) (host : Host) (name : List ℕ) where
  abbrev Found : HostSeen → Type 0
  Found x = x ≡ pattern_seen look (host_pattern e) (endpoint host name)

  found : (v : Wildcard) → w ≡ v → (x : HostSeen) → x ≡ pattern_seen look (wildcard_pattern v or_else form_pattern (form_of e) e) (endpoint host name) → Found x
  found v q x is_x = rw (host_pattern_at e w v is-w q) is_x

  wildcard_seen : (v : Wildcard) (f : Endpoint → Bool) → wildcard_pattern v ≡ Some f → w ≡ v → (x : Bool) → x ≡ f (endpoint host name)
      → Found (host_seen true (look && x))
  unfolding pattern_seen
  wildcard_seen v f p q x is_x = found v q (host_seen true (look && x)) (rw (p, is_x))

  pub seen_form : w ≡ W.Nothing → (x : HostSeen) → x ≡ pattern_seen look (form_pattern (form_of e) e) (endpoint host name) → Found x
  seen_form q x is_x = found W.Nothing q x is_x

  pub seen_all : w ≡ W.All → Found (host_seen true look)
  seen_all q = ap (host_seen true) (sym (Bool.and-true look)) ∙ wildcard_seen W.All (λ h. true) refl q true refl

  pub seen_local : w ≡ W.Local → (x : Bool) → x ≡ (name_known (endpoint host []) && not (any (among ".") name)) → Found (host_seen true (look && x))
  seen_local q x is_x = wildcard_seen W.Local (λ h. name_known h && not (any (among ".") h.name)) refl q x is_x

  pub seen_known : w ≡ W.Known → (x : Bool) → x ≡ (name_known (endpoint host []) && addr_known (endpoint host [])) → Found (host_seen true (look && x))
  seen_known q x is_x = wildcard_seen W.Known (λ h. name_known h && addr_known h) refl q x is_x

  pub seen_unknown : w ≡ W.Unknown → (x : Bool) → x ≡ (name_case (endpoint host []) true false false || not (addr_known (endpoint host [])))
      → Found (host_seen true (look && x))
  seen_unknown q x is_x = wildcard_seen W.Unknown (λ h. name_case h true false false || not (addr_known h)) refl q x is_x

  pub seen_paranoid : w ≡ W.Paranoid → (x : Bool) → x ≡ name_case (endpoint host []) false true false → Found (host_seen true (look && x))
  seen_paranoid q x is_x = wildcard_seen W.Paranoid (λ h. name_case h false true false) refl q x is_x

-- ## A text that is told to be a domain or a name

pub named_names : (e : List ℕ) → Named e → true ≡ all is_name_byte e
named_names e h = sym h.names

pub named_full : (e : List ℕ) → Named e → 0 < length e
unfolding all
named_full [] h = absurd (true≢false h.not_dotted)
named_full (x ∷ t) h = omega arith

module _ (e : List ℕ) (h : Named e) (look : Bool) (host : Host) (name : List ℕ) (s m : Bool) where
  full : length e ≡ 0 → ⊥
  full z = omega (arith, named_full e h)

  seen_named : (x : HostSeen) → x ≡ pattern_seen look (form_pattern (form_of e) e) (endpoint host name) → x ≡ pattern_seen look (host_pattern e) (endpoint host name)
  seen_named = seen_form e (wildcard_of e) refl look host name (sym (wildcard_of_size e h.size))

  pub named_domain : get_or e 0 0 ≡ 46 → s ≡ is_some (domain_pattern e) → m ≡ (look && matches_pattern (domain_pattern e) (endpoint host name))
      → host_seen s m ≡ pattern_seen look (host_pattern e) (endpoint host name)
  named_domain q is-s is_m = seen_named (host_seen s m) (seen_domain e (form_of e) refl look host name (sym (form_of_domain e full q)) s m is-s is_m)

  no_bracket : get_or e 0 0 ≡ 91 → ⊥
  unfolding is_name_byte any
  no_bracket q = true≢false (sym (all_get_d is_name_byte e 0 0 h.names (named_full e h)) ∙ ap is_name_byte q)

  pub named_plain : (get_or e 0 0 ≡ 46 → ⊥) → s ≡ is_some (name_pattern e) → m ≡ (look && matches_pattern (name_pattern e) (endpoint host name))
      → host_seen s m ≡ pattern_seen look (host_pattern e) (endpoint host name)
  named_plain n is-s is_m =
      seen_named (host_seen s m)
      (seen_plain e (form_of e) refl look host name (sym (form_of_plain e full n no_bracket (all is_dotted_byte e) refl h.not_dotted)) s m is-s is_m)
