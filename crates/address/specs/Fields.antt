-- The fields of IPv4 text read byte by byte, in one pass. Nothing here needs to be believed for the meaning of document 01: laws tie each to
-- read_decimal and read_v4.
--   digits_from v d t == the field that t ends; d: whether digits stand before t, which write v
--   run_fields v d t  == the fields of t, parted by dots, the first of which is so begun
--   address_from n k v d t == the address of which k fields that write n were read, each with its dot, and of the next, where d says that it
--                       has begun, v; t is left
--   step_of n k v d b == what one byte does to that state
--   run_from j n k v d t == the pass over t from the place j on, up to a byte that is neither digit nor dot
-- Assumes nothing: these are definitions.
use Rattle.std.specs.Prelude.{ℕ, suc, ◌+◌, ◌-◌, ◌*◌, Bool, true, false, not, ◌&&◌, List, [], ◌∷◌, leb, ltb, eqb, length, None, Option, Some}
use Rattle.text.specs.Basics.{when◌then◌else◌, ◌>>=◌, given}
use Rattle.text.specs.Text.{is_digit}
use Rattle.text.specs.Number.{from_digits}
use Rattle.address.specs.declared.fields.Step.{Step}
use Rattle.address.specs.declared.fields.Step.TheVariants as S
use Rattle.address.specs.declared.fields.Run.{Run}
use Rattle.address.specs.declared.fields.Run.TheVariants as R

-- the number v with one digit more; whether b is a digit that may follow: not after a zero in first place, and not beyond 255
abbrev pub field_more : ℕ → ℕ → ℕ
field_more v b = v * 10 + (b - 48)

abbrev pub field_fits : ℕ → Bool → ℕ → Bool
field_fits v d b = is_digit b && (not (d && eqb v 0) && leb (field_more v b) 255)

unfoldable pub digits_from : ℕ → Bool → List ℕ → Option ℕ
digits_from v d [] = given d v
digits_from v d (b ∷ t) = when field_fits v d b then digits_from (field_more v b) true t else None

unfoldable pub run_fields : ℕ → Bool → List ℕ → Option (List ℕ)
run_fields v d [] = given d (v ∷ [])
run_fields v d (b ∷ t) =
    when eqb b 46 then (when d then (run_fields 0 false t >>= λ fs. Some (v ∷ fs)) else None)
    else when field_fits v d b then run_fields (field_more v b) true t
    else None

abbrev pub address_from : ℕ → ℕ → ℕ → Bool → List ℕ → Option ℕ
address_from n k v d t = run_fields v d t >>= λ fs. given (eqb (k + length fs) 4) (from_digits 256 n fs)

-- the address that such a state makes where nothing follows
abbrev pub ended_address : ℕ → ℕ → ℕ → Bool → Option ℕ
ended_address n k v d = given (d && eqb k 3) (n * 256 + v)

-- the pass fails, stops before a byte that is neither digit nor dot, or goes on
unfoldable pub step_of : ℕ → ℕ → ℕ → Bool → ℕ → Step
step_of n k v d b =
    when eqb b 46 then (when d && ltb k 3 then S.Go (n * 256 + v) (k + 1) 0 false else S.Nothing)
    else when field_fits v d b then S.Go n k (field_more v b) true
    else when is_digit b then S.Nothing
    else S.Stop

abbrev pub on_step : Step → Run → (ℕ → ℕ → ℕ → Bool → Run) → Run
on_step S.Nothing r f = R.Failed
on_step S.Stop r f = r
on_step (S.Go m l u x) r f = f m l u x

unfoldable pub run_from : ℕ → ℕ → ℕ → ℕ → Bool → List ℕ → Run
run_from j n k v d [] = R.At j n k v d
run_from j n k v d (b ∷ t) = on_step (step_of n k v d b) (R.At j n k v d) (λ m l u x. run_from (suc j) m l u x t)
