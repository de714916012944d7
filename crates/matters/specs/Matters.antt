-- Document 02, request 14: does the name matter? The claim NameMatters, in claims, says over all names what the answer means, and leaves
-- one answer; nothing here needs to be believed for it.
--   place_of a          == verdict, file and line of an answer
--   rule_told m r x     == whether the rule x finds the same for all users, and then what
--   settled m allow deny r == the place that all users get, none where two get different ones
--   name_matters allow deny o, name_matters_tables allow deny t o, name_matters_sheet sheet o == the calls: every refusal of the verdict, else what settles
-- A user that is not fetched asks wherever a user can be told from another; where a rule does not ask, it finds the same for all. Where it
-- does, a half that is a name matches a user by equality alone: so every user finds what one of these does, unknown, a name that no half
-- can be, or one of the rule's own halves whose host matches.
-- Assumes nothing: these are definitions.
use Rattle.std.specs.Prelude.{ℕ, Bool, true, false, not, ◌&&◌, ◌||◌, List, [], length, Err, None, Ok, Option, Result, Some, unwrap_or}
use Rattle.text.specs.Basics.{when◌then◌else◌, ◌or_else◌, all, first}
use Rattle.text.specs.Text.{bytes, in_range}
use Rattle.section.specs.Refusal.{Outcome, ◌>>=◌, fitting}
use Rattle.section.specs.Section.{bytes_at}
use Rattle.lines.specs.Line.{Line, lines, is_comment, is_blank}
use Rattle.lines.specs.Rule.{Rule, parse_rule}
use Rattle.tables.specs.Table.{Table, Matcher, tables_of, match_of}
use Rattle.elements.specs.declared.User.TheVariants as U
use Rattle.elements.specs.declared.Found.{Found}
use Rattle.elements.specs.declared.Found.TheVariants as Found
use Rattle.elements.specs.Request.{Request, well_formed, held}
use Rattle.elements.specs.Code.{with_user}
use Rattle.elements.specs.Element.{halves, client_element, look_at}
use Rattle.lists.specs.Walk.{rule_found}
use Rattle.rules.specs.declared.Verdict.{Verdict}
use Rattle.rules.specs.declared.Verdict.TheVariants.{Granted, Denied}
use Rattle.rules.specs.declared.File.{File}
use Rattle.rules.specs.declared.File.TheVariants.{Neither, Allow, Deny}
use Rattle.rules.specs.declared.Answer.{Answer}
use Rattle.rules.specs.Search.{decide, decide_tables}
use Rattle.sheet.specs.Sheet.{unpack}
use Rattle.station.specs.Station.{decide_sheet}
use Rattle.matters.specs.declared.Place.{Place}
use Rattle.matters.specs.declared.Told.{Told}
use Rattle.matters.specs.declared.Told.TheVariants as Told

-- "verdict, file or line"
abbrev pub place : Verdict → File → ℕ → Place
place v f n = record { verdict = v; file = f; line = n }

abbrev pub place_of : Answer → Place
place_of a = place a.verdict a.file a.line

-- ## One rule

abbrev pub same_found : Found → Found → Bool
same_found Found.No f = elim f [ Found.No ↦ true | Found.Yes ↦ false | Found.Ask ↦ false ]
same_found Found.Yes f = elim f [ Found.No ↦ false | Found.Yes ↦ true | Found.Ask ↦ false ]
same_found Found.Ask f = elim f [ Found.No ↦ false | Found.Yes ↦ false | Found.Ask ↦ true ]

-- "a named user half matches an equal known user", and no half has this byte
abbrev pub fresh_name : List ℕ
fresh_name = bytes "!"

-- a name "of 1 to 64 bytes" finds f of the rule x
unfoldable pub name_finds : Matcher → Request → Rule → Found → List ℕ → Bool
name_finds m r x f t = not (in_range 1 64 (length t)) || same_found f (rule_found m (with_user r U.Known t) x)

-- an element asks a user not fetched: its host half matches
abbrev pub asks_at : Matcher → Request → List ℕ → Bool
asks_at m r e = same_found Found.Ask (look_at (with_user r U.NotFetched []) (client_element m e))

-- q holds of the half before the `@` of an element that asks
abbrev pub half_holds : (List ℕ → Bool) → Option (List ℕ × List ℕ) → Bool
half_holds q None = true
half_holds q (Some p) = q p.0

unfoldable pub asker_holds : Matcher → Request → (List ℕ → Bool) → List ℕ → Bool
asker_holds m r q e = not (asks_at m r e) || half_holds q (halves e)

-- a rule passes a user on, or decides, or that depends on the user
abbrev pub told_of : Found → Told
told_of Found.No = Told.Passes
told_of Found.Yes = Told.Decides
told_of Found.Ask = Told.Differs

abbrev pub told_by : Bool → Found → Told
told_by b f = when b then told_of f else Told.Differs

-- what an asking rule tells: f is what an unknown user finds
unfoldable pub asked_told : Matcher → Request → Rule → Found → Told
asked_told m r x f = told_by (name_finds m r x f fresh_name && all (asker_holds m r (name_finds m r x f)) x.clients) f

abbrev pub found_told : Matcher → Request → Rule → Found → Told
found_told m r x Found.No = Told.Passes
found_told m r x Found.Yes = Told.Decides
found_told m r x Found.Ask = asked_told m r x (rule_found m (with_user r U.Unknown []) x)

unfoldable pub rule_told : Matcher → Request → Rule → Told
rule_told m r x = found_told m r x (rule_found m (with_user r U.NotFetched []) x)

-- ## Both files

abbrev pub parsed_told : Matcher → Request → Option Rule → Told
parsed_told m r None = Told.Passes
parsed_told m r (Some x) = rule_told m r x

unfoldable pub line_told : Matcher → Request → Line → Told
line_told m r l = when is_comment l || is_blank l then Told.Passes else parsed_told m r (parse_rule l.raw)

-- the place that settles, none where two users get different ones; nothing where the line passes all users on
abbrev pub told_at : Verdict → File → ℕ → Told → Option (Option Place)
told_at v f n Told.Passes = None
told_at v f n Told.Decides = Some (Some (place v f n))
told_at v f n Told.Differs = Some None

unfoldable pub text_told : Verdict → File → Matcher → Request → List ℕ → Option (Option Place)
text_told v f m r t = first (λ l. told_at v f l.number (line_told m r l)) (lines t)

unfoldable pub settled : Matcher → List ℕ → List ℕ → Request → Option Place
settled m allow deny r =
    unwrap_or (text_told Granted Allow m r allow or_else text_told Denied Deny m r deny) (Some (place Granted Neither 0))

-- ## The calls

-- the answer to the request in o by sound texts, over the tables ts; request 7: "Every verdict .. makes this change first"
abbrev pub matters_over : List Table → List ℕ → List ℕ → Option Request → Outcome (Option Place)
matters_over ts allow deny o = fitting well_formed o (λ r. Ok (settled (match_of ts) allow deny (held r)))

-- "Refusals: as for the verdict.": by two texts, and over the tables of a section five
unfoldable pub name_matters : List ℕ → List ℕ → Option Request → Outcome (Option Place)
name_matters allow deny o = decide allow deny o >>= λ a. matters_over [] allow deny o

unfoldable pub name_matters_tables : List ℕ → List ℕ → List ℕ → Option Request → Outcome (Option Place)
name_matters_tables allow deny t o = decide_tables allow deny t o >>= λ a. matters_over (tables_of t) allow deny o

-- by a sheet
unfoldable pub name_matters_sheet : List ℕ → Option Request → Outcome (Option Place)
name_matters_sheet sheet o = do
  a ← decide_sheet sheet o
  p ← unpack sheet
  matters_over (tables_of (bytes_at sheet p.tables)) (bytes_at sheet p.allow) (bytes_at sheet p.deny) o
