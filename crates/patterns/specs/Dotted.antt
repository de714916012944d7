-- A dotted pattern read byte by byte, in one pass over its fields (address, Fields). Nothing here needs to be believed for the meaning of
-- document 01: laws tie each to dotted_fields and mask_net.
--   run_dotted v d t       == the fields of t, each followed by a dot, where d says that digits that write v stand before t
--   leading_from n k v d t == the net of leading fields of which k fields that write n were read, and of the next, where d says so, v
--   mask_from n k v d t    == the net and mask of net/mask, of whose net so much was read
--   ended_net n k v d      == the net that such a state makes where nothing follows
-- Assumes nothing: these are definitions.
use Rattle.std.specs.Prelude.{ℕ, ◌+◌, Bool, true, false, not, ◌&&◌, List, [], ◌∷◌, leb, eqb, length, None, Option, Some}
use Rattle.text.specs.Basics.{when◌then◌else◌, ◌>>=◌, given}
use Rattle.text.specs.Text.{bytes, split_once}
use Rattle.text.specs.Number.{from_digits}
use Rattle.address.specs.Fields.{field_more, field_fits, address_from, ended_address}
use Rattle.patterns.specs.Pattern.{read_mask}
use Rattle.patterns.specs.Code.{leading_net}

unfoldable pub run_dotted : ℕ → Bool → List ℕ → Option (List ℕ)
run_dotted v d [] = given (not d) []
run_dotted v d (b ∷ t) =
    when eqb b 46 then (when d then (run_dotted 0 false t >>= λ fs. Some (v ∷ fs)) else None)
    else when field_fits v d b then run_dotted (field_more v b) true t
    else None

abbrev pub leading_from : ℕ → ℕ → ℕ → Bool → List ℕ → Option (ℕ × ℕ)
leading_from n k v d t = run_dotted v d t >>= λ fs. given (leb (k + length fs) 3 && leb 1 (k + length fs)) (leading_net (k + length fs) (from_digits 256 n fs))

-- what stands before a slash is an address, and what follows it a mask
abbrev pub mask_after : Option ℕ → List ℕ → Option (ℕ × ℕ)
mask_after net t = net >>= λ n. read_mask t >>= λ m. Some (n, m)

unfoldable pub mask_from : ℕ → ℕ → ℕ → Bool → List ℕ → Option (ℕ × ℕ)
mask_from n k v d t = split_once (bytes "/") t >>= λ p. mask_after (address_from n k v d p.0) p.1

-- one to three fields, each with its dot, or an address
abbrev pub ended_net : ℕ → ℕ → ℕ → Bool → Option (ℕ × ℕ)
ended_net n k v true = ended_address n k v true >>= λ a. Some (a, 4294967295)
ended_net n k v false = given (not (eqb k 0)) (leading_net k n)
