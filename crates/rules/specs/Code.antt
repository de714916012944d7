-- What the inner contracts of the search and of the checks in order cite. Nothing here needs to be believed for the meaning of the papers.
--   lines_fault allow deny      == the refusal of both files by their lines
--   lines_fault_by v allow deny  == the same, and by the tables that they name, as the view v has them
--   contents_fault allow deny t == the refusal of both files and of the tables of t
--   from_tables, from_depth      == what is left of tables_fault once no file names a table that is missing, and once no table does
--   Noted t r notes            == the notes say of each table whether it matches the hosts of r, what is tried in it, and whether it may be named
--   finding_of o s, finding_by p == what a search finds
-- Assumes nothing: these are definitions.
use Rattle.std.specs.Prelude.{ℕ, Bool, not, ◌||◌, List, ◌≡◌, eqb, ltb, length, Err, None, Ok, Option, Result, Some}
use Rattle.text.specs.Basics.{when◌then◌else◌, ◌>>=◌, ◌or_else◌, given}
use Rattle.section.specs.declared.Fault.TheVariants as F
use Rattle.section.specs.declared.Refusal.{Refusal}
use Rattle.section.specs.Refusal.{refusal, placeless}
use Rattle.section.specs.Section as S
use Rattle.section.specs.Section.{part}
use Rattle.tables.specs.Table.{Table, tables_of, is_missing, leads_past, depth, match_of, table_name_fault, bad_table_fault}
use Rattle.tables.specs.Tried.{capped, tried_of}
use Rattle.tables.specs.Code.{tables_in, tables_checked, CleanTexts}
use Rattle.views.specs.declared.Viewing.{Viewing}
use Rattle.views.specs.View.{naming_of, noted_match, noted_tried}
use Rattle.elements.specs.Request.{Request}
use Rattle.elements.specs.Code.{View}
use Rattle.lists.specs.Code.{is_missing_name, is_deep_name}
use Rattle.rules.specs.declared.Answer.{Answer}
use Rattle.rules.specs.declared.Reported.{Reported}
use Rattle.rules.specs.declared.Verdict.TheVariants.{Granted}
use Rattle.rules.specs.declared.File.TheVariants.{Neither}
use Rattle.rules.specs.declared.hosts_file.Tally.{Tally}
use Rattle.rules.specs.declared.search.Searched.{Searched}
use Rattle.rules.specs.Check.{hosts_fault, missing_fault, depth_fault, tables_fault}
use Rattle.rules.specs.Search.{answer}
use Rattle.rules.specs.FileCode.{hosts_fault_at, refused_report}

-- ## In order

unfoldable pub lines_fault : List ℕ → List ℕ → Option Refusal
lines_fault allow deny = hosts_fault S.allow allow or_else hosts_fault S.deny deny

unfoldable pub lines_fault_by : View → List ℕ → List ℕ → Option Refusal
lines_fault_by v allow deny = hosts_fault_at 1 v allow or_else hosts_fault_at 2 v deny

unfoldable pub contents_fault : List ℕ → List ℕ → List ℕ → Option Refusal
contents_fault allow deny t = lines_fault allow deny or_else tables_fault allow deny t

unfoldable pub missing_both : List Table → List ℕ → List ℕ → Option Refusal
missing_both ts allow deny = missing_fault ts S.allow allow or_else missing_fault ts S.deny deny

unfoldable pub depth_both : List Table → List ℕ → List ℕ → Option Refusal
depth_both ts allow deny = depth_fault ts S.allow allow or_else depth_fault ts S.deny deny

-- the refusal of a table by its number, 0 for none
abbrev pub numbered : ℕ → Option ℕ
numbered n = when eqb n 0 then None else Some n

unfoldable pub bad_table_by : List ℕ → ℕ → Option Refusal
bad_table_by t unsound =
    (given (ltb 64 (length (tables_in t)) || ltb (S.tables).limit (length t)) 0 or_else numbered unsound)
    >>= λ n. Some (refusal F.BadTable (S.tables).order n)

unfoldable pub from_depth : List ℕ → List ℕ → List ℕ → ℕ → Option Refusal
from_depth allow deny t unsound = depth_both (tables_of t) allow deny or_else bad_table_by t unsound

unfoldable pub from_tables : List ℕ → List ℕ → List ℕ → Option Refusal
from_tables allow deny t = table_name_fault (tables_of t) or_else (depth_both (tables_of t) allow deny or_else bad_table_fault t)

-- the lines are sound, and name no table that is missing
pub record Named (allow deny t : List ℕ) : Type 0 where
  pub named_whole : tables_in t ≡ tables_of t
  pub named_lines : lines_fault allow deny ≡ None
  pub named_missing : missing_both (tables_of t) allow deny ≡ None

-- ## The search

pub record Noted (t : List ℕ) (r : Request) (notes : List ℕ) : Type 0 where
  pub noted_client : (n : List ℕ) → noted_match 0 t notes n ≡ match_of (tables_in t) n r.client
  pub noted_server : (n : List ℕ) → noted_match 1 t notes n ≡ match_of (tables_in t) n r.server
  pub noted_client_tried : (n : List ℕ) → noted_tried 0 t notes n ≡ capped (tried_of (tables_in t) n r.client)
  pub noted_server_tried : (n : List ℕ) → noted_tried 1 t notes n ≡ capped (tried_of (tables_in t) n r.server)
  pub noted_missing : (n : List ℕ) → is_missing_name (naming_of t notes n) ≡ is_missing (tables_in t) n
  pub noted_deep : table_name_fault (tables_in t) ≡ None → (n : List ℕ) → is_deep_name (naming_of t notes n) ≡ leads_past (tables_in t) depth n

-- the same of names alone
-- the same of what is found of the tables, which tells too whether their texts are known to be sound
pub record NotedBy (t : List ℕ) (r : Request) (v : Viewing) : Type 0 where
  pub by_notes : Noted t r v.notes
  pub by_clean : CleanTexts v.clean (tables_in t)

pub record NamingNoted (t notes : List ℕ) : Type 0 where
  pub naming_missing : (n : List ℕ) → is_missing_name (naming_of t notes n) ≡ is_missing (tables_in t) n
  pub naming_deep : table_name_fault (tables_in t) ≡ None → (n : List ℕ) → is_deep_name (naming_of t notes n) ≡ leads_past (tables_in t) depth n

abbrev pub tables_over : List ℕ → Bool
tables_over t = ltb 64 (length (tables_in t)) || ltb (S.tables).limit (length t)

unfoldable pub tables_doubtful : List ℕ → Bool
tables_doubtful t =
    tables_over t
    || (not (eqb (tables_checked (tables_in t)).misnamed 0) || not (eqb (tables_checked (tables_in t)).unsound 0))

abbrev pub searched : Answer → ℕ → Searched
searched a n = record { answer = a; looked = n }

abbrev pub finding_of : Option Refusal → Searched → Option Searched
finding_of None x = Some x
finding_of (Some f) x = None

abbrev pub pass_finding : Result (Option Answer) Refusal → ℕ → Option Searched
pass_finding (Err g) n = None
pass_finding (Ok None) n = Some (searched (answer Granted Neither 0 (part 0 0)) n)
pass_finding (Ok (Some a)) n = Some (searched a n)

abbrev pub finding_by : Tally → Option Searched
finding_by t = pass_finding t.pass t.looked

abbrev pub refused_by : Result (Option Answer) Refusal → Reported
refused_by (Err g) = refused_report g
refused_by (Ok None) = refused_report (placeless F.BadRequest)
refused_by (Ok (Some a)) = refused_report (placeless F.BadRequest)
