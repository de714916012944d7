-- Document 02, request 12: examples, computed.
-- Assumes nothing: these are statements.
use Rattle.std.specs.Prelude.{ℕ, List, [], ◌∷◌, ◌≡◌, Some}
use Prim.Native.String.{String}
use Rattle.text.specs.Text.{bytes}
use Rattle.address.specs.declared.Addr.TheVariants.{V4}
use Rattle.elements.specs.declared.User.{User}
use Rattle.elements.specs.declared.User.TheVariants as U
use Rattle.station.specs.Station.{looked_sheet}
use Rattle.rules.specs.Looked.{file_elements}
use Rattle.claims.specs.TableExamples.{five, four_deep, sheet_by, client_of}

-- how many elements are looked at for the client at 10.1.2.3, whose user, where known, is fitter
abbrev pub elements_for : String → String → List ℕ → User → ℕ
elements_for allow deny tables u = looked_sheet (sheet_by allow deny tables) (Some (client_of (V4 0x0a010203) u))

pub record LookedExamples : Type 0 where
  pub no_rules : elements_for "" "" (five []) U.Unknown ≡ 0
  pub one_rule : elements_for "" "ALL: ALL\n" (five []) U.Unknown ≡ 2
  -- daemon elements of rules that fail count; their client lists are not looked at
  pub failing_daemons : elements_for "ftpd telnetd: ALL\n" "ALL: 11. 10. 12.\n" (five []) U.Unknown ≡ 5
  -- the elements between a match and its EXCEPT are not looked at; EXCEPT itself is no element
  pub with_except : elements_for "ALL: 10. 11. 12. EXCEPT 13. 10.1. 14.\n" "" (five []) U.Unknown ≡ 4
  -- the right side is looked at only after the left matched, elements only until one matches, and deny only where allow does not decide
  pub left_missed : elements_for "ALL: 11. EXCEPT 10. 12.\n" "" (five []) U.Unknown ≡ 2
  pub until_match : elements_for "ALL: 10. 11. 12.\n" "" (five []) U.Unknown ≡ 2
  pub allow_decides : elements_for "ALL: 10.\n" "ALL: ALL\n" (five []) U.Unknown ≡ 2
  -- "an element with `@` elements_for once, the one that asks included"
  pub asking_counted : elements_for "ALL: 11. fitter@10. 12.\n" "ALL: ALL\n" (five []) U.NotFetched ≡ 3
  pub known_user_lem : elements_for "ALL: 11. fitter@10. 12.\n" "ALL: ALL\n" (five []) U.Known ≡ 3
  pub other_user : elements_for "ALL: nobody@10. 12.\n" "ALL: ALL\n" (five []) U.Known ≡ 5
  -- "each pattern tried in a table, in order until one matches, elements_for as well as the element that named it"
  pub tried_in_table : elements_for "ALL: /a\n" "" (five (("a", "x.example 10.1.2.4 10.1.2.3 10.") ∷ [])) U.Unknown ≡ 5
  pub tried_four_deep : elements_for "ALL: /fleet\n" "ALL: ALL\n" four_deep U.Unknown ≡ 8
  -- "a table after an `@` is always tried"
  pub tried_for_daemon : elements_for "ftpd@/a: ALL\n" "" (five (("a", "11. 12.") ∷ [])) U.Unknown ≡ 3
  pub tried_for_user : elements_for "ALL: nobody@/a\n" "" (five (("a", "11. 10. 12.") ∷ [])) U.Unknown ≡ 4
  -- a table named twice is tried twice, and a missed one whole
  pub tried_twice : elements_for "ALL: /a /a\n" "" (five (("a", "11. 12.") ∷ [])) U.Unknown ≡ 7
  -- "(0 at a refusal)"
  pub none_at_refusal : elements_for "ALL: ALL\n" "x" (five []) U.Unknown ≡ 0
  -- "the elements in both files"
  pub elements_of_file : file_elements (bytes "# ALL: ALL\nsshd ftpd: 10. EXCEPT 10.1. : /bin/x y z\n") ≡ 4
