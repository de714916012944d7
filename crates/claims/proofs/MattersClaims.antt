-- Request 14: the call tells exactly whether two permitted users get different places, and where none do the place that all get.
-- Assumes nothing.
use Rattle.std.specs.Prelude.{Err, None, Ok, Option, Some, unwrap_or}
use Prim.Native.Nat.{ℕ, ◌≤◌}
use native.Mathlib.Omega.{arith}
use mathlib.Core.Bool.{Bool, true, false, ◌&&◌, ◌||◌, true≢false}
use mathlib.Core.List.{List, []}
use mathlib.Core.Path.{◌≡◌, refl, sym, ap, ap₂, fun_ext, ◌∙◌}
use borrow.Author.Tests.{le-leb, leb-true}
use lib.Dec.{eqb, leb}
use lib.ListN.{length}
use Rattle.text.specs.Basics.{when◌then◌else◌, ◌or_else◌, given, first}
use Rattle.text.specs.Basics.{◌>>=◌ as ◌then◌}
use Rattle.text.specs.Text.{in_range}
use Rattle.text.proofs.BasicLaws.{and_true}
use Rattle.section.specs.declared.Fault.TheVariants as F
use Rattle.section.specs.declared.Refusal.{Refusal}
use Rattle.section.specs.Refusal.{Outcome, placeless, ◌>>=◌, ◌before◌, fitting}
use Rattle.section.specs.Section as S
use Rattle.section.specs.Section.{bytes_at, over_limit}
use Rattle.lines.specs.Line.{Line, lines, is_comment, is_blank}
use Rattle.lines.specs.Rule.{Rule, parse_rule}
use Rattle.tables.specs.Table.{Table, Matcher, tables_of, tables_frame, match_of}
use Rattle.patterns.specs.Host.{Endpoint, name_case}
use Rattle.elements.specs.declared.User.{User}
use Rattle.elements.specs.declared.User.TheVariants as U
use Rattle.elements.specs.declared.Found.{Found}
use Rattle.elements.specs.declared.Found.TheVariants as Found
use Rattle.elements.specs.Request.{Request, request_of, user_case, well_formed, held}
use Rattle.elements.specs.Code.{with_user}
use Rattle.lists.specs.Walk.{rule_found}
use Rattle.rules.specs.declared.Answer.{Answer}
use Rattle.rules.specs.declared.Verdict.{Verdict}
use Rattle.rules.specs.declared.Verdict.TheVariants as Ver
use Rattle.rules.specs.declared.File.{File}
use Rattle.rules.specs.declared.File.TheVariants as Deciding
use Rattle.rules.specs.Check.{hosts_fault, tables_fault}
use Rattle.rules.specs.Search.{file_section, search, decide_over, decide, decide_tables}
use Rattle.rules.specs.Looked.{looked_over}
use Rattle.sheet.specs.declared.Parts.{Parts}
use Rattle.sheet.specs.Sheet.{unpack}
use Rattle.station.specs.Station.{in_sheet, decide_sheet, looked_sheet}
use Rattle.matters.specs.declared.Place.{Place}
use Rattle.matters.specs.declared.Told.{Told}
use Rattle.matters.specs.declared.Told.TheVariants as Told
use Rattle.matters.specs.Matters.{place, place_of, name_finds, asker_holds, asked_told, found_told, rule_told, parsed_told, line_told, told_at, text_told, settled}
use Rattle.matters.specs.Matters.{matters_over}
use Rattle.matters.specs.Matters.{name_matters, name_matters_tables, name_matters_sheet}
use Rattle.matters.proofs.RuleLaws.{Stated}
use Rattle.matters.proofs.RuleLaws as Users
use Rattle.matters.proofs.SearchLaws.{settled_same, unsettled}
use Rattle.codes.specs.declared.GateAnswer.{GateAnswer}
use Rattle.codes.specs.Requests.{RequestNumbers, user_state, host_by, known_user, request}
use Rattle.codes.specs.Answers.{verdict_word, refusal_answer, answer_numbers, place_numbers, verdict_answer, matters_answer}
use Rattle.gate.specs.Calls.{gate_verdict, gate_tables_verdict, gate_sheet_verdict}
use Rattle.claims.specs.Claims.{as_user, Permitted, named, unknown, Decided, SamePlace, Differ, Tells, NameMatters}
use Rattle.claims.proofs.AnswerLaws.{fault_nonzero}
use Rattle.claims.proofs.UserClaims.{name_cannot_matter}

-- ## Outcomes and places

refused_answered : {A : Type 0} (g : Refusal) (a : A) → ◌≡◌ {A = Outcome A} (Err g) (Ok a) → ⊥
refused_answered g a e = true≢false (ap (λ (o : Outcome _). elim o [ Err f ↦ true | Ok b ↦ false ]) e)

answered_same : {A : Type 0} (a b : A) → ◌≡◌ {A = Outcome A} (Ok a) (Ok b) → a ≡ b
answered_same a b e = ap (λ (o : Outcome _). elim o [ Err f ↦ a | Ok c ↦ c ]) e

none_some : {A : Type 0} (a : A) → ◌≡◌ {A = Option A} None (Some a) → ⊥
none_some a e = true≢false (ap (λ (o : Option _). elim o [ None ↦ true | Some b ↦ false ]) e)

-- a word tells the verdict, a section the file
word_verdict : (v w : Verdict) → (verdict_word v).number ≡ (verdict_word w).number → v ≡ w
word_verdict Ver.Granted Ver.Granted e = refl
word_verdict Ver.Granted Ver.Denied e = absurd (omega (arith, e))
word_verdict Ver.Granted Ver.Ask e = absurd (omega (arith, e))
word_verdict Ver.Denied Ver.Granted e = absurd (omega (arith, e))
word_verdict Ver.Denied Ver.Denied e = refl
word_verdict Ver.Denied Ver.Ask e = absurd (omega (arith, e))
word_verdict Ver.Ask Ver.Granted e = absurd (omega (arith, e))
word_verdict Ver.Ask Ver.Denied e = absurd (omega (arith, e))
word_verdict Ver.Ask Ver.Ask e = refl

section_file : (f g : File) → file_section f ≡ file_section g → f ≡ g
section_file Deciding.Neither Deciding.Neither e = refl
section_file Deciding.Neither Deciding.Allow e = absurd (omega (arith, e))
section_file Deciding.Neither Deciding.Deny e = absurd (omega (arith, e))
section_file Deciding.Allow Deciding.Neither e = absurd (omega (arith, e))
section_file Deciding.Allow Deciding.Allow e = refl
section_file Deciding.Allow Deciding.Deny e = absurd (omega (arith, e))
section_file Deciding.Deny Deciding.Neither e = absurd (omega (arith, e))
section_file Deciding.Deny Deciding.Allow e = absurd (omega (arith, e))
section_file Deciding.Deny Deciding.Deny e = refl

-- no verdict has the word of a name that matters
word_matters : (v : Verdict) → (verdict_word v).number ≡ 9 → ⊥
word_matters Ver.Granted e = omega (arith, e)
word_matters Ver.Denied e = omega (arith, e)
word_matters Ver.Ask e = omega (arith, e)

-- answers of one place have the same numbers, and only they
numbers_same : (a : Answer) (k : ℕ) (p : Place) → place_of a ≡ p → SamePlace (answer_numbers a k) (place_numbers p)
numbers_same a k p e = record {
  same_word = ap (λ (q : Place). (verdict_word q.verdict).number) e;
  same_file = ap (λ (q : Place). file_section q.file) e;
  same_line = ap (λ (q : Place). q.line) e;
}

places_same : (a b : Answer) (k l : ℕ) → place_of a ≡ place_of b → SamePlace (answer_numbers a k) (answer_numbers b l)
places_same a b k l e = record {
  same_word = ap (λ (q : Place). (verdict_word q.verdict).number) e;
  same_file = ap (λ (q : Place). file_section q.file) e;
  same_line = ap (λ (q : Place). q.line) e;
}

same_places : (a b : Answer) (k l : ℕ) → SamePlace (answer_numbers a k) (answer_numbers b l) → place_of a ≡ place_of b
same_places a b k l s =
    rw (word_verdict a.verdict b.verdict s.same_word, section_file a.file b.file s.same_file, s.same_line)

-- ## The request for another user

some_same : {A : Type 0} (a b : A) → ◌≡◌ {A = Option A} (Some a) (Some b) → a ≡ b
some_same a b e = ap (λ (o : Option _). unwrap_or o a) e

module _ (n : RequestNumbers) (r : Request) (is-r : request n ≡ Some r) where
  -- both hosts are read, and only the user is put in
  user_put : (user : ℕ) (name : List ℕ) (v : User) → user_state user ≡ Some v → request (as_user n user name) ≡ Some (with_user r v (known_user v name))
  unfolding request
  user_put user name v e = by (host_by n.client n.client_name) (host_by n.server n.server_name) (user_state n.user) is-r
    where
      by : (c s : Option Endpoint) (u : Option User)
          → (c then λ x. s then λ y. u then λ w. Some (request_of n.daemon x y w (known_user w n.user_name))) ≡ Some r
          → (c then λ x. s then λ y. user_state user then λ w. Some (request_of n.daemon x y w (known_user w name))) ≡ Some (with_user r v (known_user v name))
      by None s u h = absurd (none_some r h)
      by (Some x) None u h = absurd (none_some r h)
      by (Some x) (Some y) None h = absurd (none_some r h)
      by (Some x) (Some y) (Some w) h =
          rw e (ap (λ (q : Request). Some (with_user q v (known_user v name))) (some_same _ r h))

  -- where there is a request at all, its user is one of three
  user_read : (user : ℕ) (name : List ℕ) (q : Request) → request (as_user n user name) ≡ Some q → (v : User) × (user_state user ≡ Some v)
  unfolding request
  user_read user name q e = by (host_by n.client n.client_name) (host_by n.server n.server_name) (user_state user) e
    where
      by : (c s : Option Endpoint) (u : Option User)
          → (c then λ x. s then λ y. u then λ w. Some (request_of n.daemon x y w (known_user w name))) ≡ Some q → (v : User) × (u ≡ Some v)
      by None s u h = absurd (none_some q h)
      by (Some x) None u h = absurd (none_some q h)
      by (Some x) (Some y) None h = absurd (none_some q h)
      by (Some x) (Some y) (Some w) h = (w, refl)

  -- a permitted user, as the request holds it
  record Put (user : ℕ) (name : List ℕ) : Type 0 where
    put_user : User
    put_name : List ℕ
    put_stated : Stated put_user put_name
    put_request : request (as_user n user name) ≡ Some (with_user r put_user put_name)

  put : {user : ℕ} {name : List ℕ} → Permitted user name → Put user name
  unfolding user_state
  put (named t h k) = record {
    put_user = U.Known;
    put_name = t;
    put_stated = Users.named t (rw (le-leb 1 (length t) h, le-leb (length t) 64 k));
    put_request = user_put 2 t U.Known refl;
  }
  put (unknown t) = record {
    put_user = U.Unknown;
    put_name = [];
    put_stated = Users.unknown [];
    put_request = user_put 1 t U.Unknown refl;
  }

-- ## A search after some checks

stated_fits : (r : Request) → well_formed r ≡ true → {u : User} {t : List ℕ} → Stated u t → well_formed (with_user r u t) ≡ true
unfolding well_formed
stated_fits r e (Users.unknown t) = rw (and_true
    (in_range 1 64 (length r.daemon) && name_case r.client true true (in_range 1 255 (length r.client.name))
    && name_case r.server true true (in_range 1 255 (length r.server.name)))
    (user_case r true true (in_range 1 64 (length r.user_name))) e).0
stated_fits r e (Users.named t h) = rw (
  (and_true
      (in_range 1 64 (length r.daemon) && name_case r.client true true (in_range 1 255 (length r.client.name))
      && name_case r.server true true (in_range 1 255 (length r.server.name)))
      (user_case r true true (in_range 1 64 (length r.user_name))) e).0,
  h,
)

-- what settles does not look at the request's own user
module _ (m : Matcher) (r : Request) (u : User) (t : List ℕ) where
  rule_own : (x : Rule) → rule_told m (with_user r u t) x ≡ rule_told m r x
  unfolding rule_told asked_told name_finds asker_holds
  rule_own x = by (rule_found m (with_user r U.NotFetched []) x)
    where
      by : (f : Found) → found_told m (with_user r u t) x f ≡ found_told m r x f
      by Found.No = refl
      by Found.Yes = refl
      by Found.Ask = refl

  parsed_own : (o : Option Rule) → parsed_told m (with_user r u t) o ≡ parsed_told m r o
  parsed_own None = refl
  parsed_own (Some x) = rule_own x

  line_own : (l : Line) → line_told m (with_user r u t) l ≡ line_told m r l
  unfolding line_told
  line_own l = ap (λ (k : Told). when is_comment l || is_blank l then Told.Passes else k) (parsed_own (parse_rule l.raw))

  text_own : (v : Verdict) (f : File) (s : List ℕ) → text_told v f m (with_user r u t) s ≡ text_told v f m r s
  unfolding text_told
  text_own v f s =
      ap (λ (g : Line → Option (Option Place)). first g (lines s)) (fun_ext (λ l. ap (told_at v f l.number) (line_own l)))

  own_settled : (allow deny : List ℕ) → settled m allow deny (with_user r u t) ≡ settled m allow deny r
  unfolding settled
  own_settled allow deny =
      ap₂ (λ (x y : Option (Option Place)). unwrap_or (x or_else y) (Some (place Ver.Granted Deciding.Neither 0)))
      (text_own Ver.Granted Deciding.Allow allow) (text_own Ver.Denied Deciding.Deny deny)

-- a call that makes some checks, then searches, and puts its answer at a place in the sheet
record Searches (call : Option Request → Outcome Answer) (tell : Option Request → Outcome (Option Place)) : Type 0 where
  checks : Option Refusal
  over : List Table
  allow : List ℕ
  deny : List ℕ
  put_in : Answer → Answer
  same_place : (a : Answer) → place_of (put_in a) ≡ place_of a
  call_is : (q : Option Request) → call q ≡ (checks before fitting well_formed q (λ r. Ok (put_in (search (match_of over) allow deny (held r)))))
  tell_is : (q : Option Request) → tell q ≡ (call q >>= λ a. matters_over over allow deny q)

module _ (call : Option Request → Outcome Answer) (tell : Option Request → Outcome (Option Place)) (is : Searches call tell) where
  abbrev by_search : Request → Answer
  by_search r = is.put_in (search (match_of is.over) is.allow is.deny (held r))

  abbrev settles : Request → Option Place
  settles r = settled (match_of is.over) is.allow is.deny (held r)

  refuses_too : (q : Option Request) (f : Refusal) → call q ≡ Err f → tell q ≡ Err f
  refuses_too q f e = is.tell_is q ∙ ap (λ (o : Outcome Answer). o >>= λ a. matters_over is.over is.allow is.deny q) e

  -- where there is an answer no check refused, and the request is there and fits
  record Fits (q : Option Request) : Type 0 where
    asked : Request
    is_asked : q ≡ Some asked
    unrefused : is.checks ≡ None
    fits : well_formed asked ≡ true

  answers_fit : (q : Option Request) (a : Answer) → call q ≡ Ok a → Fits q
  answers_fit q a e = by q is.checks refl (sym (is.call_is q) ∙ e)
    where
      last : (r : Request) (b : Bool) → well_formed r ≡ b → is.checks ≡ None
          → (when b then Ok (by_search r) else Err (placeless F.BadRequest)) ≡ Ok a → Fits (Some r)
      last r true w k h = record { asked = r; is_asked = refl; unrefused = k; fits = w }
      last r false w k h = absurd (refused_answered (placeless F.BadRequest) a h)

      by : (q : Option Request) (o : Option Refusal) → is.checks ≡ o → (o before fitting well_formed q (λ r. Ok (by_search r))) ≡ Ok a → Fits q
      by q (Some f) k h = absurd (refused_answered f a h)
      by None None k h = absurd (refused_answered (placeless F.BadRequest) a h)
      by (Some r) None k h = last r (well_formed r) refl k h

  module _ (none-refuses : is.checks ≡ None) where
    fit_gets : (r : Request) → well_formed r ≡ true → call (Some r) ≡ Ok (by_search r)
    fit_gets r w = is.call_is (Some r) ∙ by is.checks none-refuses (well_formed r) w
      where
        by : (o : Option Refusal) → o ≡ None → (b : Bool) → b ≡ true
            → (o before (when b then Ok (by_search r) else Err (placeless F.BadRequest))) ≡ Ok (by_search r)
        by (Some f) k b h = absurd (none_some f (sym k))
        by None k true h = refl
        by None k false h = absurd (true≢false (sym h))

    fit_tells : (r : Request) → well_formed r ≡ true → tell (Some r) ≡ Ok (settles r)
    fit_tells r w =
        is.tell_is (Some r) ∙ ap (λ (o : Outcome Answer). o >>= λ a. matters_over is.over is.allow is.deny (Some r)) (fit_gets r w)
        ∙ by (well_formed r) w
      where
        by : (b : Bool) → b ≡ true → (when b then Ok (settles r) else Err (placeless F.BadRequest)) ≡ Ok (settles r)
        by true h = refl
        by false h = absurd (true≢false (sym h))

    module _ (r : Request) (w : well_formed r ≡ true) where
      -- the place that settles is every user's
      all_get : (p : Place) → settles r ≡ Some p → {u : User} {t : List ℕ} → Stated u t
          → (a : Answer) × (call (Some (with_user r u t)) ≡ Ok a) × (place_of a ≡ p)
      all_get p e {u} {t} s = (
        by_search (with_user r u t),
        fit_gets (with_user r u t) (stated_fits r w s),
        is.same_place (search (match_of is.over) is.allow is.deny (held (with_user r u t)))
            ∙ settled_same (match_of is.over) is.allow is.deny (held r) p e u t s,
      )

      -- where none does, an unknown user and one of some name get different ones
      two_get : settles r ≡ None
          → (t : List ℕ) × (in_range 1 64 (length t) ≡ true)
          × (place_of (by_search (with_user r U.Unknown [])) ≡ place_of (by_search (with_user r U.Known t)) → ⊥)
      two_get e =
          let x = unsettled (match_of is.over) is.allow is.deny (held r) e in (
            x.0,
            x.1,
            λ h. x.2
                (sym (is.same_place (search (match_of is.over) is.allow is.deny (held (with_user r U.Unknown []))))
                ∙ h ∙ is.same_place (search (match_of is.over) is.allow is.deny (held (with_user r U.Known x.0)))),
          )

-- ## The claim, of such a call

module _ (call : Option Request → Outcome Answer) (tell : Option Request → Outcome (Option Place)) (is : Searches call tell) (count : Option Request → ℕ) where
  abbrev verdict : RequestNumbers → GateAnswer
  verdict n = verdict_answer (call (request n)) (count (request n))

  abbrev matters : RequestNumbers → GateAnswer
  matters n = matters_answer (tell (request n))

  -- of an answered verdict: the request, what settles, and what the call tells
  record Answers (n : RequestNumbers) : Type 0 where
    asks_for : Request
    is_request : request n ≡ Some asks_for
    unchecked : is.checks ≡ None
    request_fits : well_formed asks_for ≡ true
    tells : tell (request n) ≡ Ok (settles call tell is asks_for)

  told : (n : RequestNumbers) → (verdict n).number ≡ 0 → Answers n
  unfolding verdict_answer
  told n = by (call (request n)) refl
    where
      by : (o : Outcome Answer) → call (request n) ≡ o → (verdict_answer o (count (request n))).number ≡ 0 → Answers n
      by (Err f) e h = absurd (fault_nonzero f.fault h)
      by (Ok a) e h =
          let x : Fits call tell is (request n) = answers_fit call tell is (request n) a e in
          record {
            asks_for = x.asked;
            is_request = x.is_asked;
            unchecked = x.unrefused;
            request_fits = x.fits;
            tells = ap tell x.is_asked ∙ fit_tells call tell is x.unrefused x.asked x.fits;
          }

  refuses : (n : RequestNumbers) → ((verdict n).number ≡ 0 → ⊥) → matters n ≡ verdict n
  unfolding verdict_answer matters_answer
  refuses n h = by (call (request n)) refl h
    where
      by : (o : Outcome Answer) → call (request n) ≡ o → ((verdict_answer o (count (request n))).number ≡ 0 → ⊥) → matters n ≡ verdict_answer o (count (request n))
      by (Err f) e h = ap matters_answer (refuses_too call tell is (request n) f e)
      by (Ok a) e h = absurd (h refl)

  -- the answer beside what settles
  settled_number : (s : Option Place) → (matters_answer (Ok s)).number ≡ 0
  unfolding matters_answer
  settled_number None = refl
  settled_number (Some p) = refl

  answers : (n : RequestNumbers) → (verdict n).number ≡ 0 → (matters n).number ≡ 0
  answers n h = let x : Answers n = told n h in ap (λ (o : Outcome (Option Place)). (matters_answer o).number) x.tells
      ∙ settled_number (settles call tell is x.asks_for)

  -- a permitted user gets an answer
  gets : (n : RequestNumbers) (x : Answers n) (p : Place) → settles call tell is x.asks_for ≡ Some p → {user : ℕ} {name : List ℕ} → Permitted user name
      → (a : Answer) × (verdict (as_user n user name) ≡ answer_numbers a (count (request (as_user n user name)))) × (place_of a ≡ p)
  unfolding verdict_answer
  gets n x p e {user} {name} m =
      let y : Put n x.asks_for x.is_request user name = put n x.asks_for x.is_request m in
      let z = all_get call tell is x.unchecked x.asks_for x.request_fits p e y.put_stated in
      (z.0, ap (λ (o : Outcome Answer). verdict_answer o (count (request (as_user n user name)))) (ap call y.put_request ∙ z.1), z.2)

  no_by : (n : RequestNumbers) → (verdict n).number ≡ 0 → ((matters n).word ≡ 9 → ⊥) → (user : ℕ) (name : List ℕ) → Permitted user name
      → SamePlace (verdict (as_user n user name)) (matters n)
  unfolding matters_answer
  no_by n h w user name m = let x : Answers n = told n h in by x (settles call tell is x.asks_for) refl
    where
      by : (x : Answers n) (s : Option Place) → settles call tell is x.asks_for ≡ s → SamePlace (verdict (as_user n user name)) (matters n)
      by x None e = absurd (w (ap (λ (o : Outcome (Option Place)). (matters_answer o).word) (x.tells ∙ ap Ok e)))
      by x (Some p) e =
          let z = gets n x p e m in
          rw (z.1, x.tells ∙ ap Ok e) (numbers_same z.0 (count (request (as_user n user name))) p z.2)

  -- the two that differ
  differ : (n : RequestNumbers) (x : Answers n) → settles call tell is x.asks_for ≡ None → Differ verdict n
  unfolding verdict_answer user_state
  differ n x e =
      let z = two_get call tell is x.unchecked x.asks_for x.request_fits e in
      let h : (leb 1 (length z.0) ≡ true) × (leb (length z.0) 64 ≡ true) = and_true (leb 1 (length z.0)) (leb (length z.0) 64) z.1 in
      let one : Permitted 1 [] = unknown [] in
      let other : Permitted 2 z.0 = named z.0 (leb-true 1 (length z.0) h.0) (leb-true (length z.0) 64 h.1) in
      record {
        one_user = 1;
        one_name = [];
        other_user = 2;
        other_name = z.0;
        one_permitted = one;
        other_permitted = other;
        different = λ s. z.2 (same_places
            (by_search call tell is (with_user x.asks_for U.Unknown [])) (by_search call tell is (with_user x.asks_for U.Known z.0))
            (count (request (as_user n 1 []))) (count (request (as_user n 2 z.0))) (answered_both z.0 z.1 s));
      }
    where
      one_gets : call (request (as_user n 1 [])) ≡ Ok (by_search call tell is (with_user x.asks_for U.Unknown []))
      one_gets = ap call (user_put n x.asks_for x.is_request 1 [] U.Unknown refl)
          ∙ fit_gets call tell is x.unchecked (with_user x.asks_for U.Unknown []) (stated_fits x.asks_for x.request_fits (Users.unknown []))

      other_gets : (t : List ℕ) → in_range 1 64 (length t) ≡ true
          → call (request (as_user n 2 t)) ≡ Ok (by_search call tell is (with_user x.asks_for U.Known t))
      other_gets t i = ap call (user_put n x.asks_for x.is_request 2 t U.Known refl)
          ∙ fit_gets call tell is x.unchecked (with_user x.asks_for U.Known t) (stated_fits x.asks_for x.request_fits (Users.named t i))

      answered_both : (t : List ℕ) → in_range 1 64 (length t) ≡ true → SamePlace (verdict (as_user n 1 [])) (verdict (as_user n 2 t))
          → SamePlace (answer_numbers (by_search call tell is (with_user x.asks_for U.Unknown [])) (count (request (as_user n 1 []))))
          (answer_numbers (by_search call tell is (with_user x.asks_for U.Known t)) (count (request (as_user n 2 t))))
      answered_both t i s = rw (one_gets, other_gets t i) at s

  yes_by : (n : RequestNumbers) → (matters n).word ≡ 9 → Differ verdict n
  unfolding verdict_answer matters_answer
  yes_by n w = by (call (request n)) refl
    where
      none_settles : (x : Answers n) (s : Option Place) → settles call tell is x.asks_for ≡ s → Differ verdict n
      none_settles x None e = differ n x e
      none_settles x (Some p) e = absurd (word_matters p.verdict
          (sym (ap (λ (o : Outcome (Option Place)). (matters_answer o).word) (x.tells ∙ ap Ok e)) ∙ w))

      by : (o : Outcome Answer) → call (request n) ≡ o → Differ verdict n
      by (Err f) e = absurd (omega (arith, sym (ap (λ (o : Outcome (Option Place)). (matters_answer o).word) (refuses_too call tell is (request n) f e)) ∙ w))
      by (Ok a) e =
          let x : Answers n = told n (ap (λ (o : Outcome Answer). (verdict_answer o (count (request n))).number) e) in
          none_settles x (settles call tell is x.asks_for) refl

  yes_if_by : (n : RequestNumbers) → (verdict n).number ≡ 0 → Differ verdict n → (matters n).word ≡ 9
  unfolding matters_answer
  yes_if_by n h d = let x : Answers n = told n h in by x (settles call tell is x.asks_for) refl
    where
      by : (x : Answers n) (s : Option Place) → settles call tell is x.asks_for ≡ s → (matters n).word ≡ 9
      by x None e = ap (λ (o : Outcome (Option Place)). (matters_answer o).word) (x.tells ∙ ap Ok e)
      by x (Some p) e =
          let y = gets n x p e d.one_permitted in
          let z = gets n x p e d.other_permitted in
          absurd (d.different (rw (y.1, z.1) (places_same y.0 z.0
          (count (request (as_user n d.one_user d.one_name))) (count (request (as_user n d.other_user d.other_name))) (y.2 ∙ sym z.2))))

  -- both verdicts are answered, so both requests are there and settle alike
  own_by : (n : RequestNumbers) (user : ℕ) (name : List ℕ) → (verdict n).number ≡ 0 → (verdict (as_user n user name)).number ≡ 0
      → matters (as_user n user name) ≡ matters n
  own_by n user name h k =
      let x : Answers n = told n h in
      let y : Answers (as_user n user name) = told (as_user n user name) k in
      let v : (v : User) × (user_state user ≡ Some v) = user_read n x.asks_for x.is_request user name y.asks_for y.is_request in
      let q : with_user x.asks_for v.0 (known_user v.0 name) ≡ y.asks_for =
      some_same _ _ (sym (user_put n x.asks_for x.is_request user name v.0 v.1) ∙ y.is_request) in
      let e : settles call tell is y.asks_for ≡ settles call tell is x.asks_for =
      ap (settles call tell is) (sym q) ∙ own_settled (match_of is.over) (held x.asks_for) v.0 (known_user v.0 name) is.allow is.deny in
      ap matters_answer (y.tells ∙ ap Ok e ∙ sym x.tells)

  -- demand 3: where the verdict does not ask all users get its answer
  unasked_by : (n : RequestNumbers) → ((user : ℕ) (name : List ℕ) → Permitted user name → verdict (as_user n user name) ≡ verdict n) → (matters n).word ≡ 9 → ⊥
  unasked_by n same w =
      let d : Differ verdict n = yes_by n w in
      d.different (rw (same d.one_user d.one_name d.one_permitted, same d.other_user d.other_name d.other_permitted)
      (record { same_word = refl; same_file = refl; same_line = refl }))

  tells_all : (n : RequestNumbers)
      → (n.user ≡ 0 → Decided (verdict n).number (verdict n).word → (user : ℕ) (name : List ℕ) → Permitted user name
      → verdict (as_user n user name) ≡ verdict n)
      → Tells verdict matters n
  tells_all n same = record {
    refuses = refuses n;
    answers = answers n;
    yes = yes_by n;
    yes_if = yes_if_by n;
    no = no_by n;
    unasked = λ e d. unasked_by n (same e d);
    own_user = own_by n;
  }

-- ## The calls

texts_search : (allow deny : List ℕ) → Searches (decide allow deny) (name_matters allow deny)
unfolding decide name_matters
texts_search al de = record {
  checks = over_limit S.allow al or_else over_limit S.deny de or_else hosts_fault S.allow al or_else hosts_fault S.deny de or_else tables_fault al de [];
  over = [];
  allow = al;
  deny = de;
  put_in = λ a. a;
  same_place = λ a. refl;
  call_is = λ q. refl;
  tell_is = λ q. refl;
}

tables_search : (allow deny tables : List ℕ) → Searches (decide_tables allow deny tables) (name_matters_tables allow deny tables)
unfolding decide_tables name_matters_tables
tables_search al de t = record {
  checks =
      over_limit S.allow al or_else over_limit S.deny de or_else tables_frame t
      or_else hosts_fault S.allow al or_else hosts_fault S.deny de or_else tables_fault al de t;
  over = tables_of t;
  allow = al;
  deny = de;
  put_in = λ a. a;
  same_place = λ a. refl;
  call_is = λ q. refl;
  tell_is = λ q. refl;
}

module _ (sheet : List ℕ) where
  abbrev call_in : Outcome Parts → Option Request → Outcome Answer
  call_in u q =
      u >>= λ p. decide_over (tables_of (bytes_at sheet p.tables)) (bytes_at sheet p.allow) (bytes_at sheet p.deny) q >>= λ a. Ok (in_sheet p a)

  abbrev tell_in : Outcome Parts → Option Request → Outcome (Option Place)
  tell_in u q =
      call_in u q >>= λ a. u >>= λ p. matters_over (tables_of (bytes_at sheet p.tables)) (bytes_at sheet p.allow) (bytes_at sheet p.deny) q

  search_in : (u : Outcome Parts) → Searches (call_in u) (tell_in u)
  search_in (Err f) = record {
    checks = Some f;
    over = [];
    allow = [];
    deny = [];
    put_in = λ a. a;
    same_place = λ a. refl;
    call_is = λ q. refl;
    tell_is = λ q. refl;
  }
  search_in (Ok p) = record {
    checks = None;
    over = tables_of (bytes_at sheet p.tables);
    allow = bytes_at sheet p.allow;
    deny = bytes_at sheet p.deny;
    put_in = in_sheet p;
    same_place = λ a. refl;
    call_is = by;
    tell_is = λ q. refl;
  }
    where
      found : Request → Answer
      found r = search (match_of (tables_of (bytes_at sheet p.tables))) (bytes_at sheet p.allow) (bytes_at sheet p.deny) (held r)

      fitted : (r : Request) (b : Bool)
          → ((when b then Ok (found r) else Err (placeless F.BadRequest)) >>= λ a. Ok (in_sheet p a))
          ≡ (when b then Ok (in_sheet p (found r)) else Err (placeless F.BadRequest))
      fitted r true = refl
      fitted r false = refl

      by : (q : Option Request) → call_in (Ok p) q ≡ fitting well_formed q (λ r. Ok (in_sheet p (found r)))
      by None = refl
      by (Some r) = fitted r (well_formed r)

  sheet_search : Searches (decide_sheet sheet) (name_matters_sheet sheet)
  unfolding decide_sheet name_matters_sheet
  sheet_search = search_in (unpack sheet)

pub name_matters_lem : NameMatters
name_matters_lem = record {
  told_by_texts = λ allow deny n.
      tells_all (decide allow deny) (name_matters allow deny) (texts_search allow deny) (looked_over [] allow deny) n
      (λ e d user name p. (name_cannot_matter.by_texts_lem allow deny n e d user name p).same_answer);
  told_by_tables = λ allow deny tables n.
      tells_all (decide_tables allow deny tables) (name_matters_tables allow deny tables) (tables_search allow deny tables)
      (looked_over (tables_of tables) allow deny) n
      (λ e d user name p. (name_cannot_matter.by_tables allow deny tables n e d user name p).same_answer);
  told_by_sheet = λ sheet n.
      tells_all (decide_sheet sheet) (name_matters_sheet sheet) (sheet_search sheet) (looked_sheet sheet) n
      (λ e d user name p. (name_cannot_matter.by_sheet_lem sheet n e d user name p).same_answer);
}
