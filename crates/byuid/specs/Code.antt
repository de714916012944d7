-- What the contracts inside the crate cite. Nothing here needs to be believed for the meaning of document 01: the public promise is stated
-- over Byuid alone.
--   inside a g           == the range g holds a; inside_both a p g == the two ranges of a line hold a and p
--   membership p o           == whether p holds of o, as the code answers it
--   between_of l h n      == whether n is between two numbers that were read
--   ends_of f x y         == the range from what x writes to what y writes
--   net_from w n t        == the net of n, of w bits, whose length t writes
--   ports_of t            == the ports `pmin,pmax`; in_order g == a range whose min is not over its max
--   front_v4 s            == the IPv4 address that the digits and dots at the front of s write; address_end s == the place after them
--   range_from f n t      == the range from n to what t writes
--   form_of f t           == what f reads before the first comma of t, and the ports after it
--   held_v6 n p l         == whether the line l, of a form that grants, holds the port p at the IPv6 address n; held_of a p l == the same of any address
--   look_of a p l         == what the line l says of the port p at the address a
--   walk a p n g ls      == what the walk over the lines ls, the first of number n, finds, where g says whether a line before grants
--   searched_for m p a uid == the address that the lines of a file are held against
--   decision_by, answer_by == the decision, and the answer, where it is known whether a line grants
-- Assumes nothing: these are definitions.
use Rattle.std.specs.Prelude.{ℕ, ◌+◌, ◌-◌, ◌*◌, ◌%◌, ◌^◌, Bool, false, not, ◌&&◌, ◌||◌, List, [], ◌∷◌, eqb, leb, ltb, length, take, Err, None, Ok, Option, Result, Some}
use Rattle.text.specs.Basics.{when◌then◌else◌, ◌>>=◌, given}
use Rattle.text.specs.Text.{bytes, split_once, in_range, is_digit}
use Rattle.text.specs.Number.{read_decimal}
use Rattle.text.specs.Scan.{span_len, index_of}
use Rattle.section.specs.declared.Fault.TheVariants as F
use Rattle.section.specs.declared.Refusal.{Refusal}
use Rattle.section.specs.Refusal.{placeless}
use Rattle.address.specs.declared.Addr.{Addr}
use Rattle.address.specs.declared.Addr.TheVariants as A
use Rattle.address.specs.Address.{addr_case, read_v4, read_v6}
use Rattle.byuid.specs.Byuid.{Range, read_range, read_port, read_comma_form, line_grants, is_retired, is_ruled, in_span}
use Rattle.byuid.specs.declared.Decision.{Decision}
use Rattle.byuid.specs.declared.Decision.TheVariants.{NotRuled, Granted, NoLine}
use Rattle.byuid.specs.declared.Mark.{Mark}

-- the paper's words; no promise cites them
abbrev pub decision_word : Decision → List ℕ
decision_word NotRuled = bytes "not ruled"
decision_word Granted = bytes "granted"
decision_word NoLine = bytes "no line"

-- ## Ranges

unfoldable pub inside : ℕ → Range → Bool
inside a g = in_range g.0 g.1 a

unfoldable pub inside_both : ℕ → ℕ → Range × Range → Bool
inside_both a p g = inside a g.0 && inside p g.1

module _ {A : Type 0} where
  unfoldable pub membership : (A → Bool) → Option A → Option Bool
  membership p None = None
  membership p (Some x) = Some (p x)

abbrev pub both_of : Option Bool → Option Bool → Option Bool
both_of None h = None
both_of (Some x) None = None
both_of (Some x) (Some y) = Some (x && y)

abbrev pub between_of : Option (ℕ × ℕ) → Option (ℕ × ℕ) → ℕ → Option Bool
between_of None m n = None
between_of (Some (a, b)) None n = None
between_of (Some (a, b)) (Some (c, d)) n = Some (in_range (a * 2 ^ 64 + b) (c * 2 ^ 64 + d) n)

unfoldable pub ends_of : (List ℕ → Option ℕ) → List ℕ → List ℕ → Option Range
ends_of f x y = do
  low ← f x
  high ← f y
  Some (low, high)

unfoldable pub net_from : ℕ → ℕ → List ℕ → Option Range
net_from w n t = do
  m ← read_decimal w t
  given (eqb (n % 2 ^ (w - m)) 0) (n, n + 2 ^ (w - m) - 1)

unfoldable pub ports_of : List ℕ → Option Range
ports_of t = do
  q ← split_once (bytes ",") t
  ends_of read_port q.0 q.1

unfoldable pub in_order : Range → Bool
in_order g = leb g.0 g.1

-- ## The address at the front of a text

unfoldable pub field_byte : ℕ → Bool
field_byte b = is_digit b || eqb b 46

unfoldable pub address_end : List ℕ → ℕ
address_end s = span_len field_byte s

abbrev pub as_front : ℕ → Option ℕ → Option (ℕ × ℕ)
as_front i None = None
as_front i (Some n) = Some (n, i)

unfoldable pub front_v4 : List ℕ → Option (ℕ × ℕ)
front_v4 s = as_front (address_end s) (read_v4 (take (address_end s) s))

-- ## Lines

unfoldable pub range_from : (List ℕ → Option ℕ) → ℕ → List ℕ → Option Range
range_from f n t = f t >>= λ m. Some (n, m)

unfoldable pub form_of : (List ℕ → Option Range) → List ℕ → Option (Range × Range)
form_of f t = do
  p ← split_once (bytes ",") t
  a ← f p.0
  b ← read_range read_port p.1
  Some (a, b)

-- without a colon a line holds no request at an IPv6 address, and is not of the retired form either
unfoldable pub held_v6 : ℕ → ℕ → List ℕ → Option Bool
held_v6 n p l = when ltb (index_of 58 l) (length l) then membership (inside_both n p) (read_comma_form 128 read_v6 l) else Some false

unfoldable pub held_of : Addr → ℕ → List ℕ → Option Bool
held_of a p l = addr_case a None (λ n. membership (inside_both n p) (read_comma_form 32 read_v4 l)) (λ n. held_v6 n p l)

unfoldable pub look_of : Addr → ℕ → List ℕ → Option Bool
look_of a p l = when is_retired l then None else Some (line_grants a p l)

unfoldable pub walk : Addr → ℕ → ℕ → Bool → List (List ℕ) → Result Bool ℕ
walk a p n g [] = Ok g
walk a p n g (l ∷ ls) = when is_retired l then Err n else walk a p (n + 1) (g || line_grants a p l) ls

-- ## The decision

unfoldable pub searched_for : Mark → ℕ → Addr → ℕ → Addr
searched_for m p a uid = when is_ruled p uid && in_span m p then a else A.Unknown

unfoldable pub decision_by : ℕ → ℕ → Bool → Decision
decision_by p uid granted = when not (is_ruled p uid) then NotRuled else when granted then Granted else NoLine

abbrev pub answer_by : ℕ → Addr → ℕ → Bool → Result Decision Refusal
answer_by p a uid granted =
    addr_case a (Err (placeless F.BadRequest)) (λ n. Ok (decision_by p uid granted)) (λ n. Ok (decision_by p uid granted))
