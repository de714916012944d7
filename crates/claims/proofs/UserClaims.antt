-- Demand 3 whole: the walk's half from rules, the expansion's half from expansion; and that who has fetched is never asked.
-- Assumes nothing.
use Rattle.std.specs.Prelude.{Err, None, Ok, Option, Some}
use Prim.Native.Nat.{ℕ, ◌<◌}
use native.Mathlib.Omega.{arith}
use mathlib.Core.Bool.{Bool, true, false}
use mathlib.Core.List.{List, []}
use mathlib.Core.Path.{◌≡◌, refl, sym, ap, subst, ◌∙◌}
use borrow.Author.Tests.{le-leb, eqb-true, eqb-false}
use lib.Dec.{eqb}
use lib.ListN.{length}
use Rattle.text.specs.Basics.{when◌then◌else◌, ◌>>=◌, ◌or_else◌, given}
use Rattle.text.specs.Text.{in_range}
use Rattle.section.specs.Refusal.{◌>>=◌ as ◌and_then◌}
use Rattle.section.specs.Refusal.{Outcome}
use Rattle.section.specs.Section as S
use Rattle.section.specs.Section.{bytes_at, over_limit}
use Rattle.patterns.specs.Host.{Endpoint}
use Rattle.elements.specs.declared.User.{User}
use Rattle.elements.specs.declared.User.TheVariants as U
use Rattle.elements.specs.Request.{Request, request_of, well_formed}
use Rattle.elements.specs.Code as R
use Rattle.rules.specs.declared.Answer.{Answer}
use Rattle.rules.specs.declared.Verdict.{Verdict}
use Rattle.rules.specs.declared.Verdict.TheVariants.{Granted, Denied, Ask}
use Rattle.tables.specs.Table.{Table, tables_of, tables_frame}
use Rattle.rules.specs.Check.{hosts_fault, tables_fault}
use Rattle.rules.specs.Looked.{looked_over}
use Rattle.rules.proofs.LookedUserLaws.{unless_refused, over_looked_same}
use Rattle.rules.specs.Search.{decide_over, decide, decide_tables}
use Rattle.rules.proofs.UserLaws.{QuietVerdict, QuietOutcome, over_same, decide_same, decide_tables_same, Fetched}
use Rattle.rules.proofs.UserLaws.{over_quiet, over_none_quiet, decide_quiet, decide_none_quiet, decide_tables_quiet, decide_tables_none_quiet}
use Rattle.expansion.specs.Expand.{uses_user, expand}
use Rattle.expansion.proofs.UserLaws.{expand_same}
use Rattle.sheet.specs.declared.Parts.{Parts}
use Rattle.sheet.specs.Sheet.{unpack}
use Rattle.station.specs.Station.{in_sheet, decide_sheet, looked_in, looked_sheet}
use Rattle.codes.specs.declared.GateAnswer.{GateAnswer}
use Rattle.codes.specs.declared.request.HostNumbers.{HostNumbers}
use Rattle.codes.specs.Requests.{user_state, RequestNumbers, request_numbers, host_by, known_user, request}
use Rattle.codes.specs.Answers.{verdict_word, verdict_answer}
use Rattle.gate.specs.Calls.{wrote, gate_verdict, gate_tables_verdict, gate_sheet_verdict}
use Rattle.claims.specs.Claims.{as_user, Permitted, named, unknown, Decided, is_granted, is_denied, SameFor, deciding, command_in, NameCannotMatter}
use Rattle.claims.specs.Claims.{AskOnlyUnfetched}

-- ## The request

-- a permitted user is unknown, or known by a name within its size
state_permitted : {u : ℕ} {t : List ℕ} → Permitted u t → (u ≡ 1 → ⊥) → u ≡ 2
state_permitted (named t h k) n = refl
state_permitted (unknown t) n = absurd (n refl)

name_permitted : {u : ℕ} {t : List ℕ} → Permitted u t → u ≡ 2 → in_range 1 64 (length t) ≡ true
name_permitted (named t h k) e = rw (le-leb 1 (length t) h, le-leb (length t) 64 k)
name_permitted (unknown t) e = absurd (omega arith)

-- so it fits exactly if one that was not fetched does
user_alike : (P : Option Request → Option Request → Type 0)
    → ((r : Request) (u : User) (t : List ℕ) → well_formed (R.with_user r u t) ≡ well_formed (R.with_user r U.NotFetched [])
    → P (Some (R.with_user r u t)) (Some (R.with_user r U.NotFetched [])))
    → (daemon : List ℕ) (client server : Endpoint) (name : List ℕ) (u : ℕ) (t : List ℕ) → Permitted u t
    → P (user_state u >>= λ v. Some (request_of daemon client server v (known_user v t)))
    (user_state 0 >>= λ v. Some (request_of daemon client server v (known_user v name)))
unfolding user_state well_formed
user_alike P f daemon client server name u t p = by (eqb u 1) refl
  where
    by : (b : Bool) → eqb u 1 ≡ b
        → P ((when eqb u 0 then Some U.NotFetched else when eqb u 1 then Some U.Unknown else given (eqb u 2) U.Known) >>= λ v. Some
        (request_of daemon client server v (known_user v t)))
        (Some (request_of daemon client server U.NotFetched []))
    by true e = rw (eqb-true u 1 e) (f (request_of daemon client server U.NotFetched []) U.Unknown [] refl)
    by false e =
        let z : u ≡ 2 = state_permitted p (eqb-false u 1 e) in
        rw z (f (request_of daemon client server U.NotFetched []) U.Known t (rw (name_permitted p z)))

-- both requests are none, or alike but for a user that fits exactly if none does
module _ (n : RequestNumbers) (user : ℕ) (name : List ℕ) (permitted : Permitted user name) (e : n.user ≡ 0) where
  alike : (P : Option Request → Option Request → Type 0) → P None None
      → ((r : Request) (u : User) (t : List ℕ) → well_formed (R.with_user r u t) ≡ well_formed (R.with_user r U.NotFetched [])
      → P (Some (R.with_user r u t)) (Some (R.with_user r U.NotFetched [])))
      → P (request (as_user n user name)) (request n)
  unfolding request
  alike P z f = by (host_by n.client n.client_name) (host_by n.server n.server_name) permitted
    where
      by : (c s : Option Endpoint) → Permitted user name
          → P (c >>= λ x. s >>= λ y. user_state user >>= λ v. Some (request_of n.daemon x y v (known_user v name)))
          (c >>= λ x. s >>= λ y. user_state n.user >>= λ v. Some (request_of n.daemon x y v (known_user v n.user_name)))
      by None s p = z
      by (Some x) None p = z
      by (Some x) (Some y) p = rw e (user_alike P f n.daemon x y n.user_name user name p)

-- ## The answer

decided_word : {n w : ℕ} → Decided n w → w < 3
decided_word is_granted = omega arith
decided_word is_denied = omega arith

decided_quiet : (o : Outcome Answer) (k : ℕ) → Decided (verdict_answer o k).number (verdict_answer o k).word → QuietOutcome o
unfolding verdict_answer
decided_quiet (Err r) k d = tt
decided_quiet (Ok a) k d = by a.verdict (decided_word d)
  where
    by : (v : Verdict) → (verdict_word v).number < 3 → QuietVerdict v
    by Granted h = tt
    by Denied h = tt
    by Ask h = omega arith

-- a call that gives every user that fits the same outcome, unless it asks
abbrev Same : (Option Request → Outcome Answer) → Type 0
Same call = (r : Request) (t : List ℕ) (u : User) (name : List ℕ) → well_formed (R.with_user r u name) ≡ well_formed (R.with_user r U.NotFetched t)
    → QuietOutcome (call (Some (R.with_user r U.NotFetched t))) → call (Some (R.with_user r u name)) ≡ call (Some (R.with_user r U.NotFetched t))

-- and one that tells them the same number with it
abbrev SameNumber : (Option Request → Outcome Answer) → (Option Request → ℕ) → Type 0
SameNumber call count = (r : Request) (t : List ℕ) (u : User) (name : List ℕ) → well_formed (R.with_user r u name) ≡ well_formed (R.with_user r U.NotFetched t)
    → QuietOutcome (call (Some (R.with_user r U.NotFetched t)))
    → unless_refused (call (Some (R.with_user r U.NotFetched t))) (count (Some (R.with_user r u name)))
    ≡ unless_refused (call (Some (R.with_user r U.NotFetched t))) (count (Some (R.with_user r U.NotFetched t)))

-- a number is told only with an answer
told : (o : Outcome Answer) (n : ℕ) → verdict_answer o n ≡ verdict_answer o (unless_refused o n)
unfolding verdict_answer
told (Err f) n = refl
told (Ok a) n = refl

same_for : (call : Option Request → Outcome Answer) → Same call → (count : Option Request → ℕ) → SameNumber call count
    → (command : List ℕ) (n : RequestNumbers) → n.user ≡ 0
    → Decided (verdict_answer (call (request n)) (count (request n))).number (verdict_answer (call (request n)) (count (request n))).word
    → (user : ℕ) (name : List ℕ) → Permitted user name → SameFor (λ m. verdict_answer (call (request m)) (count (request m))) command n user name
same_for call same count counts command n e d user name p = record {
  same_answer =
      alike n user name p e (λ o q. QuietOutcome (call q) → verdict_answer (call o) (count o) ≡ verdict_answer (call q) (count q)) (λ h. refl)
      (λ r u t fits h. both r u t (same r [] u t fits h) (counts r [] u t fits h)) (decided_quiet (call (request n)) (count (request n)) d);
  same_expansion = λ process out free. ap (wrote out)
      (alike n user name p e (λ o q. expand command o process (length out) ≡ expand command q process (length out)) refl
      (λ r u t fits. expand_same r u U.NotFetched t [] process command (length out) fits free));
}
  where
    both : (r : Request) (u : User) (t : List ℕ)
        → call (Some (R.with_user r u t)) ≡ call (Some (R.with_user r U.NotFetched []))
        → unless_refused (call (Some (R.with_user r U.NotFetched []))) (count (Some (R.with_user r u t)))
        ≡ unless_refused (call (Some (R.with_user r U.NotFetched []))) (count (Some (R.with_user r U.NotFetched [])))
        → verdict_answer (call (Some (R.with_user r u t))) (count (Some (R.with_user r u t)))
        ≡ verdict_answer (call (Some (R.with_user r U.NotFetched []))) (count (Some (R.with_user r U.NotFetched [])))
    both r u t h g =
        let q : Outcome Answer = call (Some (R.with_user r U.NotFetched [])) in
        let x : ℕ = count (Some (R.with_user r u t)) in
        let y : ℕ = count (Some (R.with_user r U.NotFetched [])) in
        ap (λ (o : Outcome Answer). verdict_answer o x) h ∙ told q x ∙ ap (verdict_answer q) g ∙ sym (told q y)

-- an accepted sheet decides as its two texts do
module _ (sheet : List ℕ) where
  decides : Option Request → Parts → Outcome Answer
  decides q p =
      decide_over (tables_of (bytes_at sheet p.tables)) (bytes_at sheet p.allow) (bytes_at sheet p.deny) q and_then λ a. Ok (in_sheet p a)

  quiet : (p : Parts) (o : Outcome Answer) → QuietOutcome (o and_then λ a. Ok (in_sheet p a)) → QuietOutcome o
  quiet p (Err f) h = tt
  quiet p (Ok a) h = h

  placed_quiet : (p : Parts) (o : Outcome Answer) → QuietOutcome o → QuietOutcome (o and_then λ a. Ok (in_sheet p a))
  placed_quiet p (Err f) h = tt
  placed_quiet p (Ok a) h = h

  sheet_same : Same (decide_sheet sheet)
  unfolding decide_sheet decides
  sheet_same r t u name fits = by (unpack sheet)
    where
      by : (o : Outcome Parts) → QuietOutcome (o and_then decides (Some (R.with_user r U.NotFetched t)))
          → (o and_then decides (Some (R.with_user r u name))) ≡ (o and_then decides (Some (R.with_user r U.NotFetched t)))
      by (Err f) h = refl
      by (Ok p) h =
          ap (λ o. o and_then λ a. Ok (in_sheet p a))
          (over_same r t u name fits None (tables_of (bytes_at sheet p.tables)) (bytes_at sheet p.allow) (bytes_at sheet p.deny)
          (quiet p (decide_over (tables_of (bytes_at sheet p.tables)) (bytes_at sheet p.allow) (bytes_at sheet p.deny) (Some (R.with_user r U.NotFetched t)))
          h))

  placed_told : (p : Parts) (o : Outcome Answer) (n : ℕ) → unless_refused (o and_then λ a. Ok (in_sheet p a)) n ≡ unless_refused o n
  placed_told p (Err f) n = refl
  placed_told p (Ok a) n = refl

  sheet_same_number : SameNumber (decide_sheet sheet) (looked_sheet sheet)
  unfolding decide_sheet looked_sheet decides
  sheet_same_number r t u name fits = by (unpack sheet)
    where
      by : (o : Outcome Parts) → QuietOutcome (o and_then decides (Some (R.with_user r U.NotFetched t)))
          → unless_refused (o and_then decides (Some (R.with_user r U.NotFetched t))) (looked_in sheet (Some (R.with_user r u name)) o)
          ≡ unless_refused (o and_then decides (Some (R.with_user r U.NotFetched t))) (looked_in sheet (Some (R.with_user r U.NotFetched t)) o)
      by (Err f) h = refl
      by (Ok p) h =
          let ts : List Table = tables_of (bytes_at sheet p.tables) in
          let d : Outcome Answer = decide_over ts (bytes_at sheet p.allow) (bytes_at sheet p.deny) (Some (R.with_user r U.NotFetched t)) in
          placed_told p d (looked_over ts (bytes_at sheet p.allow) (bytes_at sheet p.deny) (Some (R.with_user r u name)))
          ∙ over_looked_same r t u name fits None ts (bytes_at sheet p.allow) (bytes_at sheet p.deny) (quiet p d h)
          ∙ sym (placed_told p d (looked_over ts (bytes_at sheet p.allow) (bytes_at sheet p.deny) (Some (R.with_user r U.NotFetched t))))

  sheet_quiet : (q : Option Request) → ((ts : List Table) (a d : List ℕ) → QuietOutcome (decide_over ts a d q)) → QuietOutcome (decide_sheet sheet q)
  unfolding decide_sheet decides
  sheet_quiet q h = by (unpack sheet)
    where
      by : (o : Outcome Parts) → QuietOutcome (o and_then decides q)
      by (Err f) = tt
      by (Ok p) =
          placed_quiet p (decide_over (tables_of (bytes_at sheet p.tables)) (bytes_at sheet p.allow) (bytes_at sheet p.deny) q)
          (h (tables_of (bytes_at sheet p.tables)) (bytes_at sheet p.allow) (bytes_at sheet p.deny))

module _ (allow deny : List ℕ) where
  texts_same_number : SameNumber (decide allow deny) (looked_over [] allow deny)
  unfolding decide
  texts_same_number r t u name fits = over_looked_same r t u name fits
      (over_limit S.allow allow or_else over_limit S.deny deny or_else hosts_fault S.allow allow or_else hosts_fault S.deny deny or_else tables_fault allow deny [])
      [] allow deny

  tables_same_number : (tables : List ℕ) → SameNumber (decide_tables allow deny tables) (looked_over (tables_of tables) allow deny)
  unfolding decide_tables
  tables_same_number tables r t u name fits = over_looked_same r t u name fits
      (over_limit S.allow allow or_else over_limit S.deny deny or_else tables_frame tables or_else hosts_fault S.allow allow or_else hosts_fault S.deny deny
      or_else tables_fault allow deny tables)
      (tables_of tables) allow deny

pub name_cannot_matter : NameCannotMatter
name_cannot_matter = record {
  by_texts_lem = λ allow deny n.
      same_for (decide allow deny) (λ r t u name fits. decide_same r t u name fits allow deny)
      (looked_over [] allow deny) (texts_same_number allow deny)
      (command_in (deciding allow deny (gate_verdict allow deny n)) (gate_verdict allow deny n)) n;
  by_tables = λ allow deny tables n.
      same_for (decide_tables allow deny tables) (λ r t u name fits. decide_tables_same r t u name fits allow deny tables)
      (looked_over (tables_of tables) allow deny) (tables_same_number allow deny tables)
      (command_in (deciding allow deny (gate_tables_verdict allow deny tables n)) (gate_tables_verdict allow deny tables n)) n;
  by_sheet_lem = λ sheet n. same_for (decide_sheet sheet) (sheet_same sheet) (looked_sheet sheet) (sheet_same_number sheet)
      (command_in sheet (gate_sheet_verdict sheet n)) n;
}

-- as two calls of the exported verdict hand it over
pub same_verdict : (allow deny daemon : List ℕ) (client : HostNumbers) (client_name : List ℕ) (server : HostNumbers) (server_name t : List ℕ) (x : GateAnswer)
    → x ≡ gate_verdict allow deny (request_numbers daemon client client_name server server_name 0 t)
    → (user : ℕ) (name : List ℕ) (y : GateAnswer) → y ≡ gate_verdict allow deny (request_numbers daemon client client_name server server_name user name)
    → Decided x.number x.word → Permitted user name → y ≡ x
same_verdict allow deny daemon client client_name server server_name t x is_x user name y is_y d p =
    let n : RequestNumbers = request_numbers daemon client client_name server server_name 0 t in
    is_y ∙ (name_cannot_matter.by_texts_lem allow deny n refl (subst (λ (a : GateAnswer). Decided a.number a.word) is_x d) user name p).same_answer ∙ sym is_x

-- ## Who has fetched is never asked

asked_loud : (o : Outcome Answer) (k : ℕ) → (verdict_answer o k).word ≡ 3 → QuietOutcome o → ⊥
unfolding verdict_answer
asked_loud (Err r) k e h = omega arith
asked_loud (Ok a) k e h = by a.verdict e h
  where
    by : (v : Verdict) → (verdict_word v).number ≡ 3 → QuietVerdict v → ⊥
    by Granted e h = omega arith
    by Denied e h = omega arith
    by Ask e h = h

module _ (n : RequestNumbers) (call : Option Request → Outcome Answer) (none-quiet : QuietOutcome (call None))
    (fetched-quiet : (r : Request) → Fetched r.user → QuietOutcome (call (Some r))) where
  request_quiet : (eqb n.user 0 ≡ false) → QuietOutcome (call (request n))
  unfolding request user_state
  request_quiet e = rw e (by (host_by n.client n.client_name) (host_by n.server n.server_name) (eqb n.user 1) (eqb n.user 2))
    where
      by : (c s : Option Endpoint) (b d : Bool)
          → QuietOutcome
          (call (c >>= λ x. s >>= λ y. (when b then Some U.Unknown else given d U.Known) >>= λ v. Some
          (request_of n.daemon x y v (known_user v n.user_name))))
      by None s b d = none-quiet
      by (Some x) None b d = none-quiet
      by (Some x) (Some y) true d = fetched-quiet (request_of n.daemon x y U.Unknown []) tt
      by (Some x) (Some y) false true = fetched-quiet (request_of n.daemon x y U.Known n.user_name) tt
      by (Some x) (Some y) false false = none-quiet

  unfetched : (k : ℕ) → (verdict_answer (call (request n)) k).word ≡ 3 → n.user ≡ 0
  unfetched k w = by (eqb n.user 0) refl
    where
      by : (b : Bool) → eqb n.user 0 ≡ b → n.user ≡ 0
      by true e = eqb-true n.user 0 e
      by false e = absurd (asked_loud (call (request n)) k w (request_quiet e))

pub ask_only_unfetched : AskOnlyUnfetched
ask_only_unfetched = record {
  asked_by_texts = λ allow deny n. unfetched n (decide allow deny) (decide_none_quiet allow deny) (λ r h. decide_quiet r h allow deny)
      (looked_over [] allow deny (request n));
  asked_by_tables = λ allow deny tables n. unfetched n (decide_tables allow deny tables) (decide_tables_none_quiet allow deny tables)
      (λ r h. decide_tables_quiet r h allow deny tables) (looked_over (tables_of tables) allow deny (request n));
  asked_by_sheet = λ sheet n. unfetched n (decide_sheet sheet) (sheet_quiet sheet None (λ ts a d. over_none_quiet None ts a d))
      (λ r h. sheet_quiet sheet (Some r) (λ ts a d. over_quiet None ts a d r h)) (looked_sheet sheet (request n));
}
