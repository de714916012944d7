-- Document 02, request 1: examples, computed.
-- Assumes nothing: these are statements.
use Rattle.std.specs.Prelude.{ℕ, zero, suc, Bool, true, false, ◌≡◌, length, Err, None, Ok, Option, Some}
use Prim.Native.String.{String}
use mathlib.Core.List.{List, [], ◌∷◌, ◌++◌, map, flat_map}
use Rattle.text.specs.Text.{bytes}
use Rattle.text.specs.Number.{to_digits, decimal}
use Rattle.section.specs.declared.Fault.{Fault}
use Rattle.section.specs.declared.Fault.TheVariants as F
use Rattle.section.specs.declared.Refusal.{Refusal}
use Rattle.section.specs.Refusal.{Outcome, refusal, placeless, ◌>>=◌}
use Rattle.address.specs.declared.Addr.TheVariants.{V4, V6}
use Rattle.patterns.specs.declared.Name.TheVariants as N
use Rattle.patterns.specs.Host.{Endpoint}
use Rattle.elements.specs.declared.User.{User}
use Rattle.elements.specs.declared.User.TheVariants as U
use Rattle.elements.specs.Request.{Request}
use Rattle.address.specs.declared.Addr.{Addr}
use Rattle.rules.specs.declared.Verdict.{Verdict}
use Rattle.rules.specs.declared.Verdict.TheVariants.{Granted, Denied, Ask}
use Rattle.rules.specs.declared.File.{File}
use Rattle.rules.specs.declared.File.TheVariants.{Neither, Allow, Deny}
use Rattle.rules.specs.declared.Answer.{Answer}
use Rattle.rules.specs.Search.{decide}
use Rattle.sheet.specs.Sheet.{texts, texts_fault, sheet_of, pack}
use Rattle.station.specs.Station.{decide_sheet}

-- the section five of tables, each a name and a text
abbrev pub entry_of : List ℕ × List ℕ → List ℕ
entry_of e = length e.0 ∷ e.0 ++ to_digits 256 4 (length e.1) ++ e.1

unfoldable pub entries_of : List (List ℕ × List ℕ) → List ℕ
entries_of [] = []
entries_of (e ∷ es) = entry_of e ++ entries_of es

unfoldable pub five : List (String × String) → List ℕ
five es = to_digits 256 2 (length es) ++ entries_of (map (λ e. (bytes e.0, bytes e.1)) es)

-- as many tables of no patterns, named by numbers
unfoldable pub many_entries : ℕ → List (List ℕ × List ℕ)
many_entries zero = []
many_entries (suc n) = (decimal n, []) ∷ many_entries n

unfoldable pub many : ℕ → List ℕ
many n = to_digits 256 2 n ++ entries_of (many_entries n)

abbrev pub sheet_by : String → String → List ℕ → List ℕ
sheet_by allow deny tables = sheet_of (texts (bytes allow) (bytes deny) [] [] tables)

abbrev pub fault_by : String → String → List ℕ → Option Refusal
fault_by allow deny tables = texts_fault (texts (bytes allow) (bytes deny) [] [] tables)

abbrev pub client_of : Addr → User → Request
client_of a u =
    let host : Endpoint = record { host = record { name = N.Known; addr = a }; name = bytes "van7.depot.example" } in
    record { daemon = bytes "sshd"; client = host; server = host; user = u; user_name = bytes "fitter" }

-- verdict, file and line
abbrev pub place_of : Outcome Answer → Outcome (Verdict × File × ℕ)
place_of o = o >>= λ a. Ok (a.verdict, a.file, a.line)

abbrev pub four_deep : List ℕ
four_deep = five (("fleet", "x.example /depot") ∷ ("depot", "\t/bay\n") ∷ ("bay", "/vans .y.example") ∷ ("vans", "10.1.2.4\n10.1.2.3\n") ∷ [])

pub record TableExamples : Type 0 where
  -- "four deep at most, counted from the rule"
  pub four_deep_lem : place_of (decide_sheet (sheet_by "ALL: /fleet\n" "ALL: ALL\n" four_deep) (Some (client_of (V4 0x0a010203) U.Unknown))) ≡ Ok (Granted, Allow, 1)
  pub four_deep_other : place_of (decide_sheet (sheet_by "ALL: /fleet\n" "ALL: ALL\n" four_deep) (Some (client_of (V4 0x0a010205) U.Unknown))) ≡ Ok (Denied, Deny, 1)
  pub five_deep : fault_by "\nALL: /a\n" "" (five (("a", "/b") ∷ ("b", "/c") ∷ ("c", "/d") ∷ ("d", "/e") ∷ ("e", "10.1.2.3") ∷ [])) ≡ Some (refusal F.TooDeep 1 2)
  pub ring : fault_by "" "ALL: ALL@/a\n" (five (("a", "/b") ∷ ("b", "/a") ∷ [])) ≡ Some (refusal F.TooDeep 2 1)
  pub ring_unreached : fault_by "" "ALL: ALL\n" (five (("a", "/b") ∷ ("b", "/a") ∷ [])) ≡ None
  -- "15 for a table name missing or given twice (the later's place ..)", "lowest section first, then lowest line"
  pub missing : fault_by "" "ALL: 10. /b\n" (five (("a", "") ∷ [])) ≡ Some (refusal F.TableName 2 1)
  pub missing_in_table : fault_by "" "" (five (("a", "") ∷ ("b", "/A /c") ∷ [])) ≡ Some (refusal F.TableName 5 2)
  pub twice : fault_by "" "" (five (("a", "") ∷ ("b", "") ∷ ("A", "") ∷ [])) ≡ Some (refusal F.TableName 5 3)
  pub missing_first : fault_by "ALL: /a\n" "ALL: /z\n" (five (("a", "/b") ∷ ("b", "/a") ∷ ("c", "a,b") ∷ [])) ≡ Some (refusal F.TableName 2 1)
  pub without_tables : place_of (decide (bytes "ALL: /a\n") [] (Some (client_of (V4 1) U.Unknown))) ≡ Err (refusal F.TableName 1 1)
  -- "9 stays, in rules, for netgroups and for `/` at the start of a daemon element; `/` before no such name is 10 there"
  pub daemon_slash : fault_by "/a: ALL\n" "" (five []) ≡ Some (refusal F.ReservedStart 1 1)
  pub daemon_table : fault_by "sshd@/a: ALL\n" "" (five (("a", "") ∷ [])) ≡ None
  pub netgroup : fault_by "ALL: x@@y\n" "" (five []) ≡ Some (refusal F.ReservedStart 1 1)
  pub no_name : fault_by "ALL: x@/\n" "" (five []) ≡ Some (refusal F.UnknownElement 1 1)
  pub slash_before_at : fault_by "ALL: /a@ALL\n" "" (five (("a", "") ∷ [])) ≡ Some (refusal F.UnknownElement 1 1)
  -- "`user@/name` with the user not fetched asks when the table matches"
  pub asks : place_of (decide_sheet (sheet_by "ALL: nobody@/a\n" "ALL: ALL\n" (five (("a", "10.") ∷ []))) (Some (client_of (V4 0x0a010203) U.NotFetched))) ≡ Ok (Ask, Allow, 1)
  pub asks_not : place_of (decide_sheet (sheet_by "ALL: nobody@/a\n" "ALL: ALL\n" (five (("a", "11.") ∷ []))) (Some (client_of (V4 0x0a010203) U.NotFetched))) ≡ Ok (Denied, Deny, 1)
  -- "17 for another fault in section five, its limits included"; "no EXCEPT, no users"
  pub bad_except : fault_by "" "" (five (("a", "ALL EXCEPT x") ∷ [])) ≡ Some (refusal F.BadTable 5 1)
  pub bad_comma : fault_by "" "" (five (("b", "x") ∷ ("a", "x,y") ∷ [])) ≡ Some (refusal F.BadTable 5 2)
  pub bad_user : fault_by "" "" (five (("a", "x@y") ∷ [])) ≡ Some (refusal F.BadTable 5 1)
  pub bad_name : fault_by "" "" (five (("a b", "") ∷ [])) ≡ Some (refusal F.BadTable 5 1)
  pub most_tables : fault_by "" "" (many 64) ≡ None
  pub too_many : fault_by "" "" (many 65) ≡ Some (refusal F.BadTable 5 0)
  -- "bytes after its last table are 3 there too"; "a cut in section five is 1, before 3"
  pub after_last : pack (texts [] [] [] [] (0 ∷ 0 ∷ 0 ∷ [])) 99 ≡ Err (placeless F.TrailingBytes)
  pub cut : pack (texts (bytes "@: x\n") [] [] [] (0 ∷ 1 ∷ 1 ∷ [])) 99 ≡ Err (refusal F.CutShort 5 0)
