-- Lines as the code finds them. Nothing here needs to be believed for the meaning of document 01: the public promises are stated over
-- Line alone, and only inner contracts cite these definitions.
--   scan slash t    == the rest t of a logical line, slash saying whether a backslash stands before it
--   scan_line t      == the first logical line of t, its end counted from the start of t
--   span_at i l      == l with its end counted from i bytes further to the left
--   slash_before t start i == a backslash stands in t before i, at start or after it
--   pair_at t i      == a backslash stands in t at i, and a newline after it
-- Assumes nothing: these are definitions.
use Rattle.std.specs.Prelude.{ℕ, suc, ◌+◌, ◌-◌, ◌*◌, ◌≤◌, ◌<◌, Bool, true, false, not, ◌&&◌, ◌||◌, List, [], ◌∷◌, ◌≡◌, eqb, ltb, get_or}
use Rattle.text.specs.Basics.{when◌then◌else◌}
use Rattle.text.specs.Text.{in_range}
use Rattle.lines.specs.declared.line.LineSpan.{LineSpan}

abbrev pub span : ℕ → Bool → ℕ → Bool → LineSpan
span e b j c = record { end = e; ended = b; joins = j; clean = c }

-- a byte that a line other than a comment may hold
abbrev pub is_line_byte : ℕ → Bool
is_line_byte b = eqb b 9 || in_range 32 126 b

-- the byte x, which does not end the line, before the rest of it; a newline is that of a dropped pair
abbrev pub cons_byte : ℕ → LineSpan → LineSpan
cons_byte x l =
    when eqb x 10 then span (suc l.end) l.ended (suc l.joins) l.clean
    else span (suc l.end) l.ended l.joins (is_line_byte x && l.clean)

unfoldable pub scan : Bool → List ℕ → LineSpan
scan slash [] = span 0 false 0 true
scan slash (x ∷ t) = when eqb x 10 && not slash then span 0 true 0 true else cons_byte x (scan (eqb x 92) t)

unfoldable pub scan_line : List ℕ → LineSpan
scan_line t = scan false t

abbrev pub span_at : ℕ → LineSpan → LineSpan
span_at i l = span (i + l.end) l.ended l.joins l.clean

-- what the caller of the scan may build on
pub record SpanBounds (n i : ℕ) (l : LineSpan) : Type 0 where
  pub from : i ≤ l.end
  pub within : l.end ≤ n
  pub below : l.ended ≡ true → l.end < n
  pub pairs : 2 * l.joins ≤ l.end - i

unfoldable pub slash_before : List ℕ → ℕ → ℕ → Bool
slash_before t start i = ltb start i && eqb (get_or t (i - 1) 0) 92

unfoldable pub pair_at : List ℕ → ℕ → Bool
pair_at t i = eqb (get_or t i 0) 92 && eqb (get_or t (i + 1) 0) 10
