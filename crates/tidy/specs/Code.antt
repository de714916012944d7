-- What the contracts of inner functions cite. Nothing here needs to be believed for the meaning of the papers.
--   daemons_part t, clients_part t == the lists in the joined line t
--   same_text a t, all_text t  == the rules of the joined lines have the same lists; the rule of t matches all
--   bucket_text t             == the bucket of the rule in the joined line t: rules with the same lists are in one
--   raw_at t p                == the line of the text t at the place p
--   same_at, repeats          == the rule at a place has the lists of t; one of a chain of places has them
--   step_all, step_marks, step_links == what the step over a line leaves
--   Sound t                  == no line of t is faulty
--   Marked marks ns          == the lines ns, and they alone, are marked
--   kept_bytes marks ls       == the bytes of the lines that are not named
-- Assumes nothing: these are definitions.
use Rattle.std.specs.Prelude.{ℕ, zero, suc, ◌+◌, ◌-◌, ◌*◌, ◌%◌, ◌≤◌, ◌<◌, ◌/◌, Bool, true, false, not, ◌&&◌, ◌||◌, ◌≡◌, eqb, ltb, leb, length, take, drop, get_or, set, Err, None, Ok, Option, Result, Some, ⊤}
use mathlib.Core.List.{List, [], ◌∷◌, ◌++◌, flat_map}
use Rattle.text.specs.Basics.{when◌then◌else◌, ◌or_else◌, given, holds, is_some, any, all, first}
use Rattle.text.specs.Text.{lower, split}
use Rattle.text.specs.Words.{word_bytes, read_words}
use Rattle.section.specs.declared.Fault.{Fault}
use Rattle.section.specs.declared.Fault.TheVariants as F
use Rattle.section.specs.declared.Refusal.{Refusal}
use Rattle.section.specs.Refusal.{Outcome, ◌>>=◌, placeless, refusing, within_room}
use Rattle.section.specs.Section as S
use Rattle.section.specs.Section.{over_limit}
use Rattle.lines.specs.Line.{Line, line, join, logical_lines, lines}
use Rattle.lines.specs.Rewrite.{line_bytes}
use Rattle.lines.specs.Rule.{Rule, parse_rule}
use Rattle.lines.specs.Parts.{separator_index, after_separator, words, is_parting}
use Rattle.lines.specs.Scan.{scan_line}
use Rattle.tables.specs.Table.{tables_frame}
use Rattle.rules.specs.Check.{line_fault}
use Rattle.rules.specs.Code.{contents_fault}
use Rattle.tidy.specs.Tidy.{same_list, all_alone, rule_of, dropped, accepted_bytes, numbers_of}
use Rattle.rules.specs.declared.Answer.{Answer}

-- ## The checks

unfoldable pub texts_fault : List ℕ → List ℕ → List ℕ → Option Refusal
texts_fault allow deny five = over_limit S.allow allow or_else over_limit S.deny deny or_else tables_frame five or_else contents_fault allow deny five

unfoldable pub section_fault : ℕ → List ℕ → List ℕ → Option Refusal
section_fault n t five =
    when eqb n 1 then texts_fault t [] five else when eqb n 2 then texts_fault [] t five else Some (placeless F.BadRequest)

abbrev pub checked_by : Result (Option Answer) Refusal → Result ⊤ Refusal
checked_by (Err f) = Err f
checked_by (Ok None) = Ok tt
checked_by (Ok (Some a)) = Ok tt

-- the new file, of a text that passed its checks
unfoldable pub drop_sound : List ℕ → List ℕ → ℕ → Outcome (List ℕ)
drop_sound t p room = refusing (given (not (accepted_bytes t p)) (placeless F.BadProposal)) (dropped (numbers_of p) t) >>= within_room room

unfoldable pub Sound : List ℕ → Type 0
Sound t = first line_fault (lines t) ≡ None

-- ## A rule

unfoldable pub daemons_part : List ℕ → List ℕ
daemons_part t = take (separator_index false t) t

unfoldable pub clients_part : List ℕ → List ℕ
clients_part t = let rest : List ℕ = after_separator (separator_index false t) t in take (separator_index false rest) rest

unfoldable pub same_text : List ℕ → List ℕ → Bool
same_text a t = same_list (words (daemons_part a)) (words (daemons_part t)) && same_list (words (clients_part a)) (words (clients_part t))

unfoldable pub all_text : List ℕ → Bool
all_text t = all_alone (words (daemons_part t)) && all_alone (words (clients_part t))

-- a fingerprint of the bytes of a list, without those that part its elements
abbrev pub print_more : ℕ → ℕ → ℕ
print_more h x = (h * 131 + lower x) % 16777216

unfoldable pub print_next : ℕ → ℕ → ℕ
print_next h x = when is_parting x then h else print_more h x

unfoldable pub print_list : ℕ → List ℕ → ℕ
print_list h [] = h
print_list h (x ∷ t) = print_list (print_next h x) t

unfoldable pub bucket_text : List ℕ → ℕ
bucket_text t = print_list (print_list 0 (daemons_part t)) (clients_part t) % 2048

-- ## The rules that were seen

unfoldable pub raw_at : List ℕ → ℕ → List ℕ
raw_at t p = take (scan_line (drop p t)).end (drop p t)

unfoldable pub same_at : List ℕ → ℕ → List ℕ → Bool
same_at text p t = leb (length (join (raw_at text p))) 2048 && same_text (join (raw_at text p)) t

-- a place and 1, or 0
unfoldable pub link_at : List ℕ → ℕ → ℕ
link_at links i = when ltb 16384 (get_or links i 0) then 0 else get_or links i 0

-- a chain ends at 0; what follows a place stands in links at its quarter, as no two rules stand nearer than four bytes
unfoldable pub repeats : List ℕ → List ℕ → ℕ → ℕ → List ℕ → Bool
repeats text links zero h t = false
repeats text links (suc k) h t =
    when eqb h 0 || ltb (length text) h then false
    else (same_at text (h - 1) t || repeats text links k (link_at links ((h - 1) / 4)) t)

-- behind the places stand the chains' beginnings, one for each bucket
abbrev pub beginning : List ℕ → ℕ
beginning t = 4096 + bucket_text t

unfoldable pub is_repeat : List ℕ → List ℕ → List ℕ → Bool
is_repeat text links t = repeats text links 16384 (link_at links (beginning t)) t

unfoldable pub linked : List ℕ → ℕ → List ℕ → List ℕ
linked links i t = set (set links (i / 4) (link_at links (beginning t))) (beginning t) (i + 1)

-- ## A step

unfoldable pub rule_all : List ℕ → List ℕ → List ℕ → Bool
rule_all text links t = when is_repeat text links t then false else all_text t

unfoldable pub rule_marks : List ℕ → List ℕ → ℕ → List ℕ → List ℕ → List ℕ
rule_marks text links n t marks = when is_repeat text links t then set marks n 1 else marks

unfoldable pub rule_links : List ℕ → List ℕ → ℕ → List ℕ → List ℕ
rule_links text links i t = when is_repeat text links t then links else linked links i t

abbrev pub has_rule : List ℕ → Bool
has_rule raw = is_some (rule_of (line 0 0 raw true))

unfoldable pub step_all : List ℕ → List ℕ → Bool → List ℕ → Bool
step_all text links all raw = when has_rule raw then (when all then true else rule_all text links (join raw)) else all

unfoldable pub step_marks : List ℕ → List ℕ → Bool → ℕ → List ℕ → List ℕ → List ℕ
step_marks text links all n raw marks = when has_rule raw then (when all then set marks n 1 else rule_marks text links n (join raw) marks) else marks

unfoldable pub step_links : List ℕ → List ℕ → Bool → ℕ → List ℕ → List ℕ
step_links text links all i raw = when has_rule raw then (when all then links else rule_links text links i (join raw)) else links

-- ## Marks

abbrev pub flag : Bool → ℕ
flag b = when b then 1 else 0

pub record Marked (marks ns : List ℕ) : Type 0 where
  pub long : length marks ≡ 16385
  pub marks_of : (m : ℕ) → get_or marks m 0 ≡ flag (any (eqb m) ns)

-- n, if it is marked; the numbers below n + k, from n on, that are marked
unfoldable pub marked_here : List ℕ → ℕ → List ℕ
marked_here marks n = when eqb (get_or marks n 0) 1 then n ∷ [] else []

unfoldable pub marked_from : List ℕ → ℕ → ℕ → List ℕ
marked_from marks zero n = []
marked_from marks (suc k) n = marked_here marks n ++ marked_from marks k (suc n)

unfoldable pub marked_bytes : List ℕ → List ℕ
marked_bytes marks = word_bytes (marked_from marks (length marks) 0)

-- the bytes name marked lines alone
unfoldable pub names_marked : List ℕ → List ℕ → Bool
names_marked marks p = holds (all (λ n. not (eqb (get_or marks n 0) 0))) (read_words p)

unfoldable pub set_named : List ℕ → List ℕ → List ℕ
set_named marks [] = marks
set_named marks (n ∷ ns) = set_named (set marks n 2) ns

-- the lines ns are named, and they alone
pub record Named (marks ns : List ℕ) : Type 0 where
  pub names_long : length marks ≡ 16385
  pub names_of : (m : ℕ) → eqb (get_or marks m 0) 2 ≡ any (eqb m) ns

-- the bytes s of line n, unless it is named
unfoldable pub kept_here : List ℕ → ℕ → List ℕ → List ℕ
kept_here marks n s = when eqb (get_or marks n 0) 2 then [] else s

unfoldable pub size_here : List ℕ → ℕ → ℕ → ℕ
size_here marks n size = when eqb (get_or marks n 0) 2 then 0 else size

abbrev pub kept_line : List ℕ → Line → List ℕ
kept_line marks l = kept_here marks l.number (line_bytes l)

unfoldable pub kept_bytes : List ℕ → List Line → List ℕ
kept_bytes marks ls = flat_map (kept_line marks) ls
