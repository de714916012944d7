-- Document 02, request 9, "Salvage"; with request 11's lines of byuid.
--   bad_line ts l                 == the logical line l of allow or deny is a bad one, over the tables ts
--   salvaged ts                  == the texts that the tool makes of the texts ts
--   changes ts                   == the section and line of each change
--   salvage sheet room other     == the call: the new sheet into room bytes, the list of changes into other
-- Assumes nothing: these are definitions.
use Rattle.std.specs.Prelude.{ℕ, ◌+◌, Bool, not, ◌||◌, length, Ok, Option}
use mathlib.Core.List.{List, [], ◌∷◌, ◌++◌, map, flat_map}
use Rattle.text.specs.Basics.{when◌then◌else◌, ◌or_else◌, is_some, is_empty}
use Rattle.text.specs.Text.{bytes, split, intercalate}
use Rattle.text.specs.Number.{to_digits}
use Rattle.section.specs.declared.Refusal.{Refusal}
use Rattle.section.specs.Refusal.{Outcome, ◌>>=◌, refusing, ◌before◌, within_room}
use Rattle.section.specs.Section as S
use Rattle.section.specs.Section.{Section, over_limit}
use Rattle.lines.specs.Line.{Line, lines}
use Rattle.lines.specs.Rewrite.{line_bytes}
use Rattle.tables.specs.Table.{Table, tables_of, is_missing, leads_past, depth, tables_frame, table_name_fault, bad_table_fault}
use Rattle.rules.specs.Check.{line_fault, line_names}
use Rattle.byuid.specs.Byuid.{is_retired}
use Rattle.byuid.specs.Convert.{convert_text}
use Rattle.portacl.specs.Portacl.{read_entry}
use Rattle.sheet.specs.Sheet.{Texts, texts, texts_at, frame, sheet_of}

module _ {A : Type 0} where
  -- what is chosen of a list
  unfoldable pub keep : (A → Bool) → List A → List A
  keep p [] = []
  keep p (x ∷ xs) = when p x then x ∷ keep p xs else keep p xs

  -- the numbers, from n on, of what is chosen
  unfoldable pub places : (A → Bool) → ℕ → List A → List ℕ
  places p n [] = []
  places p n (x ∷ xs) = when p x then n ∷ places p (n + 1) xs else places p (n + 1) xs

-- ## The texts

-- a "bad logical line" is one that is refused; "a rule refused by 15 or 16 is a bad line"
unfoldable pub bad_line : List Table → Line → Bool
bad_line ts l = is_some (line_fault l) || line_names (is_missing ts) l || line_names (leads_past ts depth) l

-- "into nothing", or into a rule, "both ended by a newline where the bad one had none, and leaves every other byte"
abbrev pub salvage_line : (Line → Bool) → List ℕ → Line → List ℕ
salvage_line bad instead l = when bad l then instead ++ bytes "\n" else line_bytes l

unfoldable pub salvage_hosts : (Line → Bool) → List ℕ → List ℕ → List ℕ
salvage_hosts bad instead t = flat_map (salvage_line bad instead) (lines t)

-- "It drops bad portacl entries, and rejoins the rest with commas."
abbrev pub good_entry : List ℕ → Bool
good_entry e = is_some (read_entry e)

unfoldable pub salvage_portacl : List ℕ → List ℕ
salvage_portacl t = intercalate (bytes ",") (keep good_entry (split "," t))

-- "each bad logical line of allow into nothing and each bad one of deny into `ALL: ALL`"; request 11: "Salvage rewrites such
-- lines the same way"; where bad says which lines are bad
unfoldable pub salvaged_by : (Line → Bool) → Texts → Texts
salvaged_by bad ts = texts
    (salvage_hosts bad [] ts.allow)
    (salvage_hosts bad (bytes "ALL: ALL") ts.deny)
    (convert_text ts.byuid)
    (salvage_portacl ts.portacl)
    ts.tables

abbrev pub salvaged : Texts → Texts
salvaged ts = salvaged_by (bad_line (tables_of ts.tables)) ts

-- ## The list

-- the section with the number of each line
abbrev pub in_section : Section → List ℕ → List (ℕ × ℕ)
in_section s ns = map (λ n. (s.order, n)) ns

abbrev pub bad_lines : (Line → Bool) → List ℕ → List ℕ
bad_lines bad t = map (λ (l : Line). l.number) (keep bad (lines t))

-- "Empty text has no entries."
abbrev pub bad_entries : List ℕ → List ℕ
bad_entries t = when is_empty t then [] else places (λ e. not (good_entry e)) 1 (split "," t)

-- "It lists section and line of each change, as the damaged sheet numbers them and in its order, and lists nothing else."
unfoldable pub changes_by : (Line → Bool) → Texts → List (ℕ × ℕ)
changes_by bad ts =
    in_section S.allow (bad_lines bad ts.allow) ++ in_section S.deny (bad_lines bad ts.deny)
    ++ in_section S.byuid (places is_retired 1 (split "\n" ts.byuid)) ++ in_section S.portacl (bad_entries ts.portacl)

abbrev pub changes : Texts → List (ℕ × ℕ)
changes ts = changes_by (bad_line (tables_of ts.tables)) ts

-- each number as four bytes, most significant first
abbrev pub change_bytes : ℕ × ℕ → List ℕ
change_bytes c = to_digits 256 4 c.0 ++ to_digits 256 4 c.1

unfoldable pub list_bytes : List (ℕ × ℕ) → List ℕ
list_bytes cs = flat_map change_bytes cs

-- ## The call

-- "The frame, and section five, must already be sound": what section five is refused by, whoever names its tables
unfoldable pub five_fault : List ℕ → Option Refusal
five_fault t = tables_frame t or_else table_name_fault (tables_of t) or_else bad_table_fault t

-- "2 if a section grows past its limit"
unfoldable pub grown : Texts → Option Refusal
grown ts =
    over_limit S.allow ts.allow or_else over_limit S.deny ts.deny
    or_else over_limit S.byuid ts.byuid or_else over_limit S.portacl ts.portacl

-- "14 if sheet or list doesn't fit"
unfoldable pub handed_out : Texts → List ℕ → ℕ → ℕ → Outcome (List ℕ × List ℕ)
handed_out new list room other = do
  s ← refusing (grown new) (sheet_of new)
  t ← within_room room s
  l ← within_room other list
  Ok (t, l)

unfoldable pub salvage_texts : Texts → ℕ → ℕ → Outcome (List ℕ × List ℕ)
salvage_texts ts room other = five_fault ts.tables before handed_out (salvaged ts) (list_bytes (changes ts)) room other

unfoldable pub salvage : List ℕ → ℕ → ℕ → Outcome (List ℕ × List ℕ)
salvage sheet room other = do
  p ← frame sheet
  salvage_texts (texts_at sheet p) room other
