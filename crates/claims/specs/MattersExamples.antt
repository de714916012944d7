-- Document 02, request 14: examples, computed.
-- Assumes nothing: these are statements.
use Prim.Native.String.{String}
use Rattle.std.specs.Prelude.{List, [], ◌∷◌, ℕ, ◌≡◌, Err, None, Ok, Option, Some}
use Rattle.section.specs.declared.Fault.TheVariants as F
use Rattle.section.specs.Refusal.{Outcome, refusal, ◌>>=◌}
use Rattle.address.specs.declared.Addr.TheVariants.{V4}
use Rattle.elements.specs.declared.User.TheVariants as U
use Rattle.rules.specs.declared.Verdict.TheVariants.{Granted, Denied}
use Rattle.rules.specs.declared.File.TheVariants.{Neither, Allow, Deny}
use Rattle.rules.specs.declared.Answer.{Answer}
use Rattle.station.specs.Station.{decide_sheet}
use Rattle.matters.specs.declared.Place.{Place}
use Rattle.matters.specs.Matters.{place, place_of, name_matters_sheet}
use Rattle.claims.specs.TableExamples.{five, sheet_by, client_of}

-- what is told of the client at 10.1.2.3: the place that all users get, none where the name matters
abbrev pub told_for : String → String → List ℕ → Outcome (Option Place)
told_for allow deny tables = name_matters_sheet (sheet_by allow deny tables) (Some (client_of (V4 0x0a010203) U.NotFetched))

abbrev pub verdict_for : String → String → List ℕ → Outcome Answer
verdict_for allow deny tables = decide_sheet (sheet_by allow deny tables) (Some (client_of (V4 0x0a010203) U.NotFetched))

pub record MattersExamples : Type 0 where
  pub one_name : told_for "ALL: fitter@10.\n" "ALL: ALL\n" (five []) ≡ Ok None
  -- where the verdict does not ask, all users get what it says
  pub unasked : told_for "ALL: 11.\n" "ALL: 10.: log\n" (five []) ≡ (verdict_for "ALL: 11.\n" "ALL: 10.: log\n" (five []) >>= λ a. Ok (Some (place_of a)))
  pub other_host : told_for "ALL: fitter@11.\n" "ALL: ALL\n" (five []) ≡ Ok (Some (place Denied Deny 1))
  -- ""ask" may come where this says no"
  pub every_user : told_for "ALL: ALL@10.\n" "ALL: ALL\n" (five []) ≡ Ok (Some (place Granted Allow 1))
  pub named_or_not : told_for "\nALL: fitter@10. ALL\n" "" (five []) ≡ Ok (Some (place Granted Allow 2))
  -- unknown is a user too, and KNOWN is every name
  pub known_alone : told_for "ALL: KNOWN@10.\n" "ALL: ALL\n" (five []) ≡ Ok None
  pub known_or_unknown : told_for "ALL: KNOWN@10. UNKNOWN@10.\n" "ALL: ALL\n" (five []) ≡ Ok (Some (place Granted Allow 1))
  -- names are compared without case
  pub taken_out_again : told_for "ALL: fitter@10. EXCEPT FITTER@10.\n" "ALL: ALL\n" (five []) ≡ Ok (Some (place Denied Deny 1))
  pub other_taken_out : told_for "ALL: fitter@10. EXCEPT driver@10.\n" "ALL: ALL\n" (five []) ≡ Ok None
  -- "different verdict, file or line"
  pub other_line : told_for "ALL: fitter@10.\nALL: ALL\n" "" (five []) ≡ Ok None
  pub no_rule : told_for "ALL: fitter@10. EXCEPT ALL\n" "" (five []) ≡ Ok (Some (place Granted Neither 0))
  pub in_a_table : told_for "ALL: fitter@/a\n" "" (five (("a", "11. 10.") ∷ [])) ≡ Ok None
  -- "Refusals: as for the verdict."
  pub fault : told_for "ALL: fitter@10.\n" "x\n" (five []) ≡ Err (refusal F.NoElement 2 1)
