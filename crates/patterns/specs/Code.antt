-- Patterns as the code reads them: what the contracts of functions that are called by others cite. Nothing here needs to be believed for
-- the meaning of document 01: its words are those of Host and Pattern.
--   host_matches e h              == e is a host pattern that matches h
--   pattern_seen look p h         == whether p is a pattern and, if it is looked at, matches h
--   wildcard_of e, form_of e       == the wildcard that e is; what e is read as where it is none
--   dotted_net e, bracket_prefix e == the net and mask, or the address and prefix length, that a pattern of addresses writes
-- Assumes nothing: these are definitions.
use Rattle.std.specs.Prelude.{ℕ, ◌-◌, ◌*◌, ◌/◌, ◌%◌, ◌^◌, Bool, true, false, not, ◌&&◌, ◌||◌, List, [], ◌∷◌, ◌≡◌, leb, ltb, eqb, length, take, drop, None, Option, Some}
use Rattle.std.specs.Int.Bits.{bit_and}
use Rattle.text.specs.Basics.{when◌then◌else◌, ◌>>=◌, ◌or_else◌, given, holds, is_some, any, all, each}
use Rattle.text.specs.Text.{bytes, among, first_among, last_among, split_once, split, is_digit, equal_fold, is_word}
use Rattle.text.specs.Number.{from_digits, read_decimal}
use Rattle.address.specs.Address.{same_prefix, addr_case, read_v4, read_v6}
use Rattle.patterns.specs.declared.Host.{Host}
use Rattle.patterns.specs.declared.HostSeen.{HostSeen}
use Rattle.patterns.specs.declared.pattern.Wildcard.{Wildcard}
use Rattle.patterns.specs.declared.pattern.Wildcard.TheVariants as W
use Rattle.patterns.specs.declared.pattern.Form.{Form}
use Rattle.patterns.specs.declared.pattern.Form.TheVariants as F
use Rattle.patterns.specs.Host.{Endpoint, name_case, name_known, addr_known}
use Rattle.patterns.specs.Pattern.{Pattern, is_name_byte, domain_pattern, leading_fields, read_mask, net_mask, bracket_pattern, dotted_pattern, name_pattern, host_pattern}

-- ## Wildcards and forms

unfoldable pub wildcard_of : List ℕ → Wildcard
wildcard_of e =
    when is_word "ALL" e then W.All
    else when is_word "LOCAL" e then W.Local
    else when is_word "KNOWN" e then W.Known
    else when is_word "UNKNOWN" e then W.Unknown
    else when is_word "PARANOID" e then W.Paranoid
    else W.Nothing

-- the lengths of the wildcards
abbrev pub word_size : ℕ → Bool
word_size n = eqb n 3 || (eqb n 5 || (eqb n 7 || eqb n 8))

abbrev pub is_dotted_byte : ℕ → Bool
is_dotted_byte b = is_digit b || among "./" b

unfoldable pub form_of : List ℕ → Form
form_of e =
    when first_among "." e then F.Domain
    else when first_among "[" e then F.Bracket
    else when all is_dotted_byte e then F.Dotted
    else F.Plain

-- a text that its bytes and its length tell to be a domain or a name
pub record Named (e : List ℕ) : Type 0 where
  pub size : word_size (length e) ≡ false
  pub names : all is_name_byte e ≡ true
  pub not_dotted : all is_dotted_byte e ≡ false

-- what a wildcard matches
abbrev pub wildcard_pattern : Wildcard → Pattern
wildcard_pattern W.Nothing = None
wildcard_pattern W.All = Some λ h. true
wildcard_pattern W.Local = Some λ h. name_known h && not (any (among ".") h.name)
wildcard_pattern W.Known = Some λ h. name_known h && addr_known h
wildcard_pattern W.Unknown = Some λ h. name_case h true false false || not (addr_known h)
wildcard_pattern W.Paranoid = Some λ h. name_case h false true false

-- ## Matching

abbrev pub matches_pattern : Pattern → Endpoint → Bool
matches_pattern p h = holds (λ f. f h) p

-- whether a text is a pattern and, if it is looked at, matches
abbrev pub host_seen : Bool → Bool → HostSeen
host_seen sound matches = record { sound = sound; matches = matches }

unfoldable pub pattern_seen : Bool → Pattern → Endpoint → HostSeen
pattern_seen look p h = host_seen (is_some p) (look && matches_pattern p h)

-- a domain pattern, a name pattern, is one and matches a known name
unfoldable pub domain_covers : List ℕ → List ℕ → Bool
domain_covers e n = (ltb (length e) (length n) && equal_fold e (drop (length n - length e) n)) && is_some (domain_pattern e)

unfoldable pub plain_covers : List ℕ → List ℕ → Bool
plain_covers e n = equal_fold e n && is_some (name_pattern e)

-- what a pattern that is no wildcard means, by what it is read as
abbrev pub form_pattern : Form → List ℕ → Pattern
form_pattern F.Domain e = domain_pattern e
form_pattern F.Bracket e = bracket_pattern e
form_pattern F.Dotted e = dotted_pattern e
form_pattern F.Plain e = name_pattern e

unfoldable pub host_matches : List ℕ → Endpoint → Bool
host_matches e h = matches_pattern (host_pattern e) h

-- ## Nets and prefixes

-- the net of the k leading fields that write n
abbrev pub leading_net : ℕ → ℕ → ℕ × ℕ
leading_net k n = (n * 2 ^ (32 - 8 * k), 2 ^ 32 - 2 ^ (32 - 8 * k))

-- the fields of t, each followed by a dot
unfoldable pub dotted_fields : List ℕ → Option (List ℕ)
dotted_fields t = when last_among "." t then each (read_decimal 255) (split "." (take (length t - 1) t)) else None

-- the net of one to three such fields
unfoldable pub fields_net : List ℕ → Option (ℕ × ℕ)
fields_net t = do
  fs ← dotted_fields t
  given (leb (length fs) 3) (leading_net (length fs) (from_digits 256 0 fs))

abbrev pub pair_net : Option ℕ → Option ℕ → Option (ℕ × ℕ)
pair_net None m = None
pair_net (Some n) None = None
pair_net (Some n) (Some m) = Some (n, m)

unfoldable pub mask_net : List ℕ → Option (ℕ × ℕ)
mask_net e = do
  p ← split_once (bytes "/") e
  net ← read_v4 p.0
  mask ← read_mask p.1
  Some (net, mask)

unfoldable pub dotted_net : List ℕ → Option (ℕ × ℕ)
dotted_net e = (read_v4 e >>= λ n. Some (n, 4294967295)) or_else fields_net e or_else mask_net e

-- an address of 128 bits, and the number of leading bits to compare
abbrev pub as_prefix : Option (ℕ × ℕ) → Option (ℕ × ℕ × ℕ)
as_prefix None = None
as_prefix (Some p) = Some ((p.0 / 2 ^ 64), (p.0 % 2 ^ 64), p.1)

abbrev pub prefix_with : Option (ℕ × ℕ) → Option ℕ → Option (ℕ × ℕ × ℕ)
prefix_with None m = None
prefix_with (Some (h, l)) None = None
prefix_with (Some (h, l)) (Some m) = Some (h, l, m)

unfoldable pub prefix_length : List ℕ → Option ℕ
prefix_length [] = Some 128
prefix_length (x ∷ t) = when among "/" x then read_decimal 128 t else None

unfoldable pub bracket_prefix : List ℕ → Option (ℕ × ℕ)
bracket_prefix e = do
  p ← split_once (bytes "]") (drop 1 e)
  n ← read_v6 p.0
  m ← prefix_length p.1
  Some (n, m)

-- ## What patterns of addresses cover

abbrev pub net_sound : Option (ℕ × ℕ) → Bool
net_sound None = false
net_sound (Some (n, m)) = true

abbrev pub net_covers : Option (ℕ × ℕ) → ℕ → Bool
net_covers None a = false
net_covers (Some (n, m)) a = eqb n (bit_and a m)

-- what a dotted pattern tests of an IPv4 address
unfoldable pub dotted_test : List ℕ → Option (ℕ → Bool)
dotted_test e = (read_v4 e >>= λ n. Some (eqb n)) or_else leading_fields e or_else net_mask e

abbrev pub dotted_covers : List ℕ → Host → Bool
dotted_covers e h = addr_case h.addr false (λ a. holds (λ f. f a) (dotted_test e)) (λ a. false)

abbrev pub prefix_holds : ℕ → ℕ → Host → Bool
prefix_holds n m h = addr_case h.addr false (λ a. false) (same_prefix 128 m n)

unfoldable pub prefix_covers : List ℕ → ℕ → Bool
prefix_covers e a = holds (λ q. same_prefix 128 q.1 q.0 a) (bracket_prefix e)

abbrev pub bracket_covers : List ℕ → Host → Bool
bracket_covers e h = addr_case h.addr false (λ a. false) (prefix_covers e)
