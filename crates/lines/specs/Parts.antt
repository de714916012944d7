-- What the contracts of single steps cite: places in a line, elements, trimming.
-- Nothing here needs to be believed for document 01's meaning: laws tie each to Rule.antt or Command.antt.
--   separator_index inside t == the place of the first separator, the length where there is none
--   words t                 == the elements of the joined list t
--   element_span t           == where the first element of t starts and ends
--   trim_blanks t            == t without the spaces and tabs at either end
-- Assumes nothing: these are definitions.
use Rattle.std.specs.Prelude.{ℕ, suc, ◌+◌, Bool, not, ◌&&◌, List, [], ◌∷◌, reverse, length, take, drop}
use Rattle.text.specs.Basics.{when◌then◌else◌, any}
use Rattle.text.specs.Text.{among, split}
use Rattle.text.specs.Scan.{span_len}
use Rattle.lines.specs.Rule.{non_empty}
use Rattle.lines.specs.Command.{skip_blanks, is_directive, pieces}
use Rattle.lines.specs.declared.rule.ElementSpan.{ElementSpan}

-- ## The separators of a rule

-- a colon separates where no bracket is open; whether one is open after the byte x
abbrev pub is_separator : Bool → ℕ → Bool
is_separator inside x = not inside && among ":" x

abbrev pub inside_after : Bool → ℕ → Bool
inside_after inside x = when inside then not (among "]" x) else among "[" x

unfoldable pub separator_index : Bool → List ℕ → ℕ
separator_index inside [] = 0
separator_index inside (x ∷ t) = when is_separator inside x then 0 else suc (separator_index (inside_after inside x) t)

-- what follows the separator at i; nothing where that is the end
unfoldable pub after_separator : ℕ → List ℕ → List ℕ
after_separator i t = drop (i + 1) t

-- ## The elements of a list

unfoldable pub words : List ℕ → List (List ℕ)
words t = non_empty (split " \t," t)

-- a byte that parts elements, or belongs to one
unfoldable pub is_parting : ℕ → Bool
is_parting x = among " \t," x

unfoldable pub is_element_byte : ℕ → Bool
is_element_byte x = not (is_parting x)

-- what parts the elements, at the front of t; the element at the front of t
abbrev pub parting_length : List ℕ → ℕ
parting_length t = span_len is_parting t

abbrev pub element_length : List ℕ → ℕ
element_length t = span_len is_element_byte t

unfoldable pub element_span : List ℕ → ElementSpan
element_span t = let a : ℕ = parting_length t in record { start = a; end = a + element_length (drop a t) }

-- the first element, empty where there is none, and what follows it
unfoldable pub first_element : List ℕ → List ℕ
first_element t = let u : List ℕ = drop (parting_length t) t in take (element_length u) u

unfoldable pub after_element : List ℕ → List ℕ
after_element t = let u : List ℕ = drop (parting_length t) t in drop (element_length u) u

-- ## The command

unfoldable pub is_blank_byte : ℕ → Bool
is_blank_byte x = among " \t" x

-- how many bytes remain of t without the blanks at its end
unfoldable pub unblanked_length : List ℕ → ℕ
unblanked_length t = length (skip_blanks (reverse t))

unfoldable pub trim_blanks : List ℕ → List ℕ
trim_blanks t = reverse (skip_blanks (reverse (skip_blanks t)))

-- a `%` of the joined and trimmed command t takes a byte that is not listed
unfoldable pub any_bad_percent : List ℕ → Bool
any_bad_percent t = any (is_directive (λ y. not (among "aAnNhHucdsp%" y))) (pieces t)
