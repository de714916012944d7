-- Laws of a client element that its mask tells to be of name bytes: a domain, a name, or dotted.
-- Assumes nothing.
use Prim.Native.Nat.{ℕ, ◌<◌}
use Prim.Native.String.{String}
use mathlib.Core.Bool.{Bool, true, false, ◌&&◌, true≢false}
use mathlib.Core.List.{List}
use mathlib.Core.Path.{◌≡◌, refl, sym, ap, ◌∙◌}
use native.Mathlib.Omega.{arith}
use borrow.Author.Tests.{lt-ltb, eq-eqb, ne_eqb}
use lib.Bits.{bit_and}
use lib.ListN.{length, get_or}
use Rattle.text.specs.Basics.{is_some, any, all}
use Rattle.text.specs.Text.{bytes, is_word}
use Rattle.text.proofs.BasicLaws.{all_get_d}
use Rattle.text.proofs.CaseLaws.{blind_test, test_blindly, fold_alike, alike_all}
use Rattle.patterns.specs.declared.Host.{Host}
use Rattle.patterns.specs.declared.HostSeen.{HostSeen}
use Rattle.patterns.specs.declared.pattern.Wildcard.TheVariants as W
use Rattle.patterns.specs.Host.{endpoint}
use Rattle.patterns.specs.Pattern.{is_name_byte, dotted_pattern, host_pattern}
use Rattle.patterns.specs.Code.{Named, word_size, wildcard_of, form_of, is_dotted_byte, host_seen, pattern_seen, dotted_covers}
use Rattle.patterns.proofs.PatternLaws.{form_of_dotted}
use Rattle.patterns.proofs.SeenLaws.{seen_form, seen_dotted}
use Rattle.classes.specs.Class.{Describes}

-- ## What the mask tells

module _ (m : ℕ) (e : List ℕ) (h : Describes m e) where
  pub names_told : m < 8 → true ≡ all is_name_byte e
  names_told l = sym (lt-ltb m 8 l) ∙ h.names

  pub dotted_told : bit_and m 241 ≡ 0 → true ≡ all is_dotted_byte e
  dotted_told z = sym (eq-eqb (bit_and m 241) 0 z) ∙ h.dotted

  pub undotted_told : (bit_and m 241 ≡ 0 → ⊥) → false ≡ all is_dotted_byte e
  undotted_told n = sym (ne_eqb (bit_and m 241) 0 n) ∙ h.dotted

  pub named_told : m < 8 → (bit_and m 241 ≡ 0 → ⊥) → (x : Bool) → x ≡ word_size (length e) → x ≡ false → Named e
  named_told l n x is_x q = record { size = sym is_x ∙ q; names = sym (names_told l); not_dotted = sym (undotted_told n) }

-- ## A dotted text is no wildcard

dotted_test_lem : blind_test is_dotted_byte 26 ≡ true
unfolding blind_test any
dotted_test_lem = refl

module _ (e : List ℕ) (h : all is_dotted_byte e ≡ true) where
  not_word : (w : String) → all is_dotted_byte (bytes w) ≡ false → is_word w e ≡ false
  not_word w n = by (is_word w e) refl
    where
      by : (x : Bool) → is_word w e ≡ x → x ≡ false
      by true q =
          absurd
          (true≢false (sym h ∙ sym (alike_all is_dotted_byte (test_blindly is_dotted_byte 26 dotted_test_lem) (bytes w) e (fold_alike (bytes w) e q)) ∙ n))
      by false q = refl

  no_wildcard : wildcard_of e ≡ W.Nothing
  unfolding wildcard_of all any
  no_wildcard = rw (not_word "ALL" refl, not_word "LOCAL" refl, not_word "KNOWN" refl, not_word "UNKNOWN" refl, not_word "PARANOID" refl)

  no_bracket : (length e ≡ 0 → ⊥) → get_or e 0 0 ≡ 91 → ⊥
  unfolding any
  no_bracket full q = true≢false (sym (all_get_d is_dotted_byte e 0 0 h (omega arith)) ∙ ap is_dotted_byte q)

-- it is a dotted pattern where it does not begin with a dot
pub dotted_seen : (m : ℕ) (e : List ℕ) → Describes m e → bit_and m 241 ≡ 0 → (length e ≡ 0 → ⊥) → (get_or e 0 0 ≡ 46 → ⊥)
    → (look : Bool) (host : Host) (name : List ℕ) (x : HostSeen) → x ≡ host_seen (is_some (dotted_pattern e)) (look && dotted_covers e host)
    → x ≡ pattern_seen look (host_pattern e) (endpoint host name)
dotted_seen m e d z full undotted look host name x is_x =
    let h : all is_dotted_byte e ≡ true = sym (dotted_told m e d z) in
    seen_form e (wildcard_of e) refl look host name (no_wildcard e h) x
    (seen_dotted e (form_of e) refl look host name (sym (form_of_dotted e full undotted (no_bracket e h full) (all is_dotted_byte e) refl h)) x is_x)
