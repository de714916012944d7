-- One call decides and expands as two do.
-- Assumes nothing.
use Rattle.std.specs.Prelude.{Err, None, Ok, Option, Some}
use Prim.Native.Nat.{ℕ, ◌+◌, ◌≤◌}
use native.Mathlib.Omega.{arith}
use mathlib.Core.List.{List, []}
use mathlib.Core.Path.{◌≡◌, refl, ap, subst, ◌∙◌}
use borrow.Author.Tests.{ne_eqb}
use lib.ListN.{length}
use Rattle.text.specs.Basics.{◌or_else◌}
use Rattle.section.specs.declared.Fault.TheVariants as F
use Rattle.section.specs.declared.Refusal.{Refusal}
use Rattle.section.specs.Section as S
use Rattle.section.specs.Section.{bytes_at, part, over_limit}
use Rattle.section.specs.Refusal.{Outcome, ◌>>=◌, fault_number, placeless, ◌before◌}
use Rattle.elements.specs.Request.{Request, held}
use Rattle.rules.specs.declared.Answer.{Answer}
use Rattle.rules.specs.declared.File.{File}
use Rattle.rules.specs.declared.File.TheVariants.{Neither, Allow, Deny}
use Rattle.tables.specs.Table.{match_of}
use Rattle.rules.specs.Check.{hosts_fault, tables_fault}
use Rattle.rules.specs.Search.{answer, search, decide_over, decide, command_bytes}
use Rattle.rules.specs.Looked.{looked_over}
use Rattle.rules.proofs.PlaceLaws.{file_length, search_within}
use Rattle.expansion.specs.Expand.{expand}
use Rattle.station.specs.Station.{decide_sheet, looked_sheet}
use Rattle.station.proofs.DecideLaws.{over_search}
use Rattle.codes.specs.declared.GateAnswer.{GateAnswer}
use Rattle.codes.specs.Requests.{request}
use Rattle.codes.specs.Answers.{answer_numbers, verdict_answer, written_answer, command, together, command_answer}
use Rattle.gate.specs.Calls.{wrote, wrote_command}
use Rattle.claims.specs.Claims.{deciding, command_in, in_turn, CommandInTurn}
use Rattle.claims.proofs.AnswerLaws.{fault_nonzero}

module _ (out : List ℕ) where
  -- the command's half
  written_turn : (a : Answer) (k : ℕ) (o : Outcome (List ℕ)) → wrote_command out (o >>= λ t. Ok (command a t)) k
      ≡ in_turn (answer_numbers a k) (wrote out o) out
  unfolding command_answer written_answer
  written_turn a k (Err r) = rw (ne_eqb (fault_number r.fault) 0 (fault_nonzero r.fault))
  written_turn a k (Ok t) = refl

  -- raw is the command of an answer, and s finds it from the answer's numbers
  module _ (raw : Answer → List ℕ) (s : GateAnswer → List ℕ) (f : List ℕ → Outcome (List ℕ)) where
    turn : (d : Outcome Answer) (k : ℕ) → ((a : Answer) → d ≡ Ok a → raw a ≡ s (answer_numbers a k))
        → wrote_command out (together d (λ a. f (raw a))) k ≡ in_turn (verdict_answer d k) (wrote out (f (s (verdict_answer d k)))) out
    unfolding verdict_answer command_answer
    turn (Err r) k h = rw (ne_eqb (fault_number r.fault) 0 (fault_nonzero r.fault))
    turn (Ok a) k h = rw (h a refl) (written_turn a k (f (s (answer_numbers a k))))

-- the command of the file that decided, by the answer's numbers
unanswered : (allow deny : List ℕ) (b : Answer) → decide allow deny None ≡ Ok b → ⊥
unfolding decide
unanswered allow deny b e =
    by (over_limit S.allow allow or_else over_limit S.deny deny or_else hosts_fault S.allow allow or_else hosts_fault S.deny deny or_else tables_fault allow deny []) e
  where
    by : (o : Option Refusal) → (o before Err (placeless F.BadRequest)) ≡ Ok b → ⊥
    by (Some g) k = let z : ◌≡◌ {A = ℕ} 0 1 = cc in omega arith
    by None k = let z : ◌≡◌ {A = ℕ} 0 1 = cc in omega arith

answered_search : (allow deny : List ℕ) (r : Request) (b : Answer) → decide allow deny (Some r) ≡ Ok b → search (match_of []) allow deny (held r) ≡ b
unfolding decide
answered_search allow deny r b e =
    by (over_limit S.allow allow or_else over_limit S.deny deny or_else hosts_fault S.allow allow or_else hosts_fault S.deny deny or_else tables_fault allow deny []) e
  where
    by : (o : Option Refusal) → (o before decide_over [] allow deny (Some r)) ≡ Ok b → search (match_of []) allow deny (held r) ≡ b
    by (Some g) k = let z : ◌≡◌ {A = ℕ} 0 1 = cc in absurd (omega arith)
    by None k = over_search [] allow deny r b k

command_deciding : (allow deny : List ℕ) (o : Option Request) (k : ℕ) (b : Answer) → decide allow deny o ≡ Ok b
    → command_bytes allow deny b ≡ command_in (deciding allow deny (answer_numbers b k)) (answer_numbers b k)
command_deciding allow deny None k b e = absurd (unanswered allow deny b e)
command_deciding allow deny (Some r) k b e =
    by b.file
    (subst (λ (x : Answer). x.command.place + x.command.len ≤ file_length allow deny x.file) (answered_search allow deny r b e)
    (search_within (match_of []) allow deny (held r)))
  where
    by : (f : File) → b.command.place + b.command.len ≤ file_length allow deny f
        → command_bytes allow deny (answer b.verdict f b.line b.command)
        ≡ command_in (deciding allow deny (answer_numbers (answer b.verdict f b.line b.command) k))
        (answer_numbers (answer b.verdict f b.line b.command) k)
    by Neither w = let h : b.command.len ≡ 0 = omega arith in rw h
    by Allow w = refl
    by Deny w = refl

pub command_in_turn : CommandInTurn
command_in_turn = record {
  command_by_texts = λ allow deny n process out.
      turn out (command_bytes allow deny) (λ v. command_in (deciding allow deny v) v) (λ c. expand c (request n) process (length out))
      (decide allow deny (request n)) (looked_over [] allow deny (request n)) (command_deciding allow deny (request n) (looked_over [] allow deny (request n)));
  command_by_sheet = λ sheet n process out.
      turn out (λ a. bytes_at sheet a.command) (command_in sheet) (λ c. expand c (request n) process (length out)) (decide_sheet sheet (request n))
      (looked_sheet sheet (request n)) (λ a e. refl);
}
