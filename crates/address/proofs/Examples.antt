-- Examples, computed from the definitions: a definition that answers otherwise is refused here.
-- Assumes nothing.
use mathlib.Core.Path.{◌≡◌, refl}
use Rattle.text.specs.Text.{bytes, equal, split_once, intercalate}
use Rattle.text.specs.Number.{to_digits, numeral}
use Rattle.address.specs.declared.Addr.TheVariants.{V6}
use Rattle.address.specs.Address.{compress, addr_text}

pub record Examples : Type 0 where
  -- RFC 5952 4.2: `::` stands for zeros, and for two groups at least
  pub zeros : addr_text (V6 0 1) ≡ bytes "::1"
  pub one_zero : addr_text (V6 0x0001000000020003 0x0004000500060007) ≡ bytes "1:0:2:3:4:5:6:7"

pub examples : Examples
unfolding addr_text compress to_digits numeral intercalate split_once equal
examples = record { zeros = refl; one_zero = refl }
