-- Document 02, request 12: "Where demand 3 gives equal answers the number is equal too". What an element counts knows no user; and wherever the walk
-- for a user not fetched does not ask, the walk for any other user takes the same turns.
-- Assumes nothing.
use Rattle.std.specs.Prelude.{Err, None, Ok, Option, Some, unwrap_or}
use Prim.Native.Nat.{ℕ, ◌+◌}
use mathlib.Core.Bool.{Bool, true, false, ◌||◌}
use mathlib.Core.List.{List, [], ◌∷◌}
use mathlib.Core.Path.{◌≡◌, refl, sym, ap, ◌∙◌}
use Rattle.text.specs.Basics.{when◌then◌else◌, ◌>>=◌, ◌or_else◌, is_some, first, sum_until}
use Rattle.section.specs.declared.Fault.TheVariants as F
use Rattle.section.specs.declared.Refusal.{Refusal}
use Rattle.section.specs.Refusal.{Outcome, placeless, ◌before◌}
use Rattle.section.specs.Section.{part}
use Rattle.lines.specs.Line.{Line, lines, is_comment, is_blank}
use Rattle.lines.specs.Rule.{Rule, parse_rule, is_except}
use Rattle.tables.specs.Table.{Table, match_of}
use Rattle.tables.specs.Tried.{tried_of, capped}
use Rattle.elements.specs.declared.User.{User}
use Rattle.elements.specs.declared.User.TheVariants as U
use Rattle.elements.specs.declared.Found.{Found}
use Rattle.elements.specs.declared.Found.TheVariants.{No, Yes, Ask}
use Rattle.elements.specs.Request.{Request, well_formed, held}
use Rattle.elements.specs.Code.{with_user}
use Rattle.elements.specs.Element.{look_at, daemon_element, client_element, element_looked}
use Rattle.lists.specs.Walk.{on_found, included, excluded, rule_found_by, rule_found}
use Rattle.lists.specs.Looked.{further_on, looked_included, looked_excluded, rule_looked_by, rule_looked}
use Rattle.rules.specs.declared.Verdict.{Verdict}
use Rattle.rules.specs.declared.Verdict.TheVariants as Ver
use Rattle.rules.specs.declared.File.{File}
use Rattle.rules.specs.declared.File.TheVariants as Deciding
use Rattle.rules.specs.declared.Answer.{Answer}
use Rattle.rules.specs.Search.{answer, rule_answer, line_answer, search, decide_over}
use Rattle.rules.specs.Looked.{of_rule, line_count, file_looked, looked, number_of, looked_over}
use Rattle.rules.proofs.UserLaws.{Quiet, QuietAnswer, QuietVerdict, QuietOutcome, included_same, daemon_same, client_same, line_same, first_same}

further_same : (x x' y n : Found) (a a' b b' : ℕ) → Quiet (on_found x y n) → (Quiet x → x' ≡ x) → (Quiet y → a' ≡ a) → (Quiet n → b' ≡ b)
    → further_on x' a' b' ≡ further_on x a b
further_same Yes x' y n a a' b b' h f g k = rw (f tt) (g h)
further_same No x' y n a a' b b' h f g k = rw (f tt) (k h)
further_same Ask x' y n a a' b b' h f g k = absurd h

turn_quiet : (x : Found) → Quiet (on_found x No Yes) → Quiet x
turn_quiet Yes h = tt
turn_quiet No h = tt
turn_quiet Ask h = h

module _ (m m' : List ℕ → Found) (c : List ℕ → ℕ) (agree : (w : List ℕ) → Quiet (m w) → m' w ≡ m w) where
  mutual
    unfolding included excluded looked_included looked_excluded

    looked_included_same : (ws : List (List ℕ)) → Quiet (included m ws) → looked_included m' c ws ≡ looked_included m c ws
    looked_included_same [] h = refl
    looked_included_same (w ∷ ws) h = by (is_except w) h (λ q. looked_excluded_same ws q) (λ q. looked_included_same ws q)
      where
        by : (b : Bool) → Quiet (when b then No else on_found (m w) (excluded m ws) (included m ws))
            → (Quiet (excluded m ws) → looked_excluded m' c ws ≡ looked_excluded m c ws)
            → (Quiet (included m ws) → looked_included m' c ws ≡ looked_included m c ws)
            → (when b then 0 else c w + further_on (m' w) (looked_excluded m' c ws) (looked_included m' c ws))
            ≡ (when b then 0 else c w + further_on (m w) (looked_excluded m c ws) (looked_included m c ws))
        by true h e i = refl
        by false h e i = ap (λ (n : ℕ). c w + n)
            (further_same (m w) (m' w) (excluded m ws) (included m ws) (looked_excluded m c ws) (looked_excluded m' c ws) (looked_included m c ws)
            (looked_included m' c ws) h (agree w) e i)

    looked_excluded_same : (ws : List (List ℕ)) → Quiet (excluded m ws) → looked_excluded m' c ws ≡ looked_excluded m c ws
    looked_excluded_same [] h = refl
    looked_excluded_same (w ∷ ws) h = by (is_except w) h (λ q. looked_included_same ws q) (λ q. looked_excluded_same ws q)
      where
        by : (b : Bool) → Quiet (when b then on_found (included m ws) No Yes else excluded m ws)
            → (Quiet (included m ws) → looked_included m' c ws ≡ looked_included m c ws)
            → (Quiet (excluded m ws) → looked_excluded m' c ws ≡ looked_excluded m c ws)
            → (when b then looked_included m' c ws else looked_excluded m' c ws) ≡ (when b then looked_included m c ws else looked_excluded m c ws)
        by true h i e = i (turn_quiet (included m ws) h)
        by false h i e = e h

module _ (ts : List Table) (r : Request) (t₀ : List ℕ) (u : User) (t : List ℕ) where
  abbrev unasked : Request
  unasked = with_user r U.NotFetched t₀

  abbrev asked : Request
  asked = with_user r u t

  rule_looked_same : (x : Rule) → Quiet (rule_found (match_of ts) unasked x) → rule_looked ts asked x ≡ rule_looked ts unasked x
  unfolding rule_found_by rule_looked_by
  rule_looked_same x h = both (included md x.daemons) refl h
    where
      md : List ℕ → Found
      md e = look_at unasked (daemon_element (match_of ts) e)

      mc : List ℕ → Found
      mc e = look_at unasked (client_element (match_of ts) e)

      both : (y : Found) → included md x.daemons ≡ y → Quiet (on_found y (included mc x.clients) No) → rule_looked ts asked x ≡ rule_looked ts unasked x
      both Ask e q = absurd q
      both No e q =
          let f : included (λ e. look_at asked (daemon_element (match_of ts) e)) x.daemons ≡ No =
          included_same md (λ e. look_at asked (daemon_element (match_of ts) e)) (λ w z. daemon_same (match_of ts) r t₀ u t w) x.daemons (rw e tt) ∙ e in
          rw (
            f,
            e,
            looked_included_same md (λ e. look_at asked (daemon_element (match_of ts) e)) (element_looked (λ n. tried_of ts n r.server))
                (λ w z. daemon_same (match_of ts) r t₀ u t w) x.daemons (rw e tt),
          )
      both Yes e q =
          let f : included (λ e. look_at asked (daemon_element (match_of ts) e)) x.daemons ≡ Yes =
          included_same md (λ e. look_at asked (daemon_element (match_of ts) e)) (λ w z. daemon_same (match_of ts) r t₀ u t w) x.daemons (rw e tt) ∙ e in
          rw (
            f,
            e,
            looked_included_same md (λ e. look_at asked (daemon_element (match_of ts) e)) (element_looked (λ n. tried_of ts n r.server))
                (λ w z. daemon_same (match_of ts) r t₀ u t w) x.daemons (rw e tt),
            looked_included_same mc (λ e. look_at asked (client_element (match_of ts) e)) (element_looked (λ n. tried_of ts n r.client))
                (client_same (match_of ts) r t₀ u t) x.clients q,
          )

  module _ (v : Verdict) (f : File) where
    line_looked_same : (l : Line) → QuietAnswer (line_answer v f (rule_found (match_of ts) unasked) l)
        → line_count (rule_looked ts asked) l ≡ line_count (rule_looked ts unasked) l
    unfolding line_answer line_count
    line_looked_same l = by (is_comment l || is_blank l) (parse_rule l.raw)
      where
        quiet : (x : Rule) (y : Found) → QuietAnswer (rule_answer v f l x y) → Quiet y
        quiet x No h = tt
        quiet x Yes h = tt
        quiet x Ask h = h

        by : (b : Bool) (o : Option Rule) → QuietAnswer (when b then None else (o >>= λ x. rule_answer v f l x (rule_found (match_of ts) unasked x)))
            → (when b then 0 else of_rule (rule_looked ts asked) o) ≡ (when b then 0 else of_rule (rule_looked ts unasked) o)
        by true o h = refl
        by false None h = refl
        by false (Some x) h = rule_looked_same x (quiet x (rule_found (match_of ts) unasked x) h)

    until_same : (ls : List Line) → QuietAnswer (first (line_answer v f (rule_found (match_of ts) unasked)) ls)
        → sum_until (λ l. is_some (line_answer v f (rule_found (match_of ts) asked) l)) (line_count (rule_looked ts asked)) ls
        ≡ sum_until (λ l. is_some (line_answer v f (rule_found (match_of ts) unasked) l)) (line_count (rule_looked ts unasked)) ls
    unfolding first sum_until
    until_same [] h = refl
    until_same (l ∷ ls) h = by (line_answer v f (rule_found (match_of ts) unasked) l) refl h (until_same ls)
      where
        by : (o : Option Answer) → line_answer v f (rule_found (match_of ts) unasked) l ≡ o
            → QuietAnswer (o or_else first (line_answer v f (rule_found (match_of ts) unasked)) ls)
            → (QuietAnswer (first (line_answer v f (rule_found (match_of ts) unasked)) ls)
            → sum_until (λ l. is_some (line_answer v f (rule_found (match_of ts) asked) l)) (line_count (rule_looked ts asked)) ls
            ≡ sum_until (λ l. is_some (line_answer v f (rule_found (match_of ts) unasked) l)) (line_count (rule_looked ts unasked)) ls)
            → sum_until (λ l. is_some (line_answer v f (rule_found (match_of ts) asked) l)) (line_count (rule_looked ts asked)) (l ∷ ls)
            ≡ sum_until (λ l. is_some (line_answer v f (rule_found (match_of ts) unasked) l)) (line_count (rule_looked ts unasked)) (l ∷ ls)
        by None e q ih = rw (line_looked_same l (rw e tt), line_same (match_of ts) r t₀ u t v f l (rw e tt), e, ih q)
        by (Some a) e q ih = rw (line_looked_same l (rw e q), line_same (match_of ts) r t₀ u t v f l (rw e q), e)

  first_line_same : (ls : List Line) → QuietAnswer (first (line_answer Ver.Granted Deciding.Allow (rule_found (match_of ts) unasked)) ls)
      → first (line_answer Ver.Granted Deciding.Allow (rule_found (match_of ts) asked)) ls
      ≡ first (line_answer Ver.Granted Deciding.Allow (rule_found (match_of ts) unasked)) ls
  first_line_same = first_same (line_answer Ver.Granted Deciding.Allow (rule_found (match_of ts) unasked))
      (line_answer Ver.Granted Deciding.Allow (rule_found (match_of ts) asked))
      (line_same (match_of ts) r t₀ u t Ver.Granted Deciding.Allow)

  -- the search that does not ask looks at as many elements for every user
  pub looked_same : (allow deny : List ℕ) → QuietVerdict (search (match_of ts) allow deny unasked).verdict
      → looked ts allow deny asked ≡ looked ts allow deny unasked
  unfolding search looked file_looked
  looked_same allow deny h = by
      (first (line_answer Ver.Granted Deciding.Allow (rule_found (match_of ts) unasked)) (lines allow)) refl
      (first (line_answer Ver.Denied Deciding.Deny (rule_found (match_of ts) unasked)) (lines deny)) refl h
    where
      none_matched : Answer
      none_matched = answer Ver.Granted Deciding.Neither 0 (part 0 0)

      by : (o : Option Answer) → first (line_answer Ver.Granted Deciding.Allow (rule_found (match_of ts) unasked)) (lines allow) ≡ o
          → (p : Option Answer) → first (line_answer Ver.Denied Deciding.Deny (rule_found (match_of ts) unasked)) (lines deny) ≡ p
          → QuietVerdict (unwrap_or (o or_else p) none_matched).verdict → looked ts allow deny asked ≡ looked ts allow deny unasked
      by (Some a) e p g h = rw (
        until_same Ver.Granted Deciding.Allow (lines allow) (rw e h),
        first_line_same (lines allow) (rw e h),
        e,
      )
      by None e None g h = rw (
        until_same Ver.Granted Deciding.Allow (lines allow) (rw e tt),
        first_line_same (lines allow) (rw e tt),
        e,
        until_same Ver.Denied Deciding.Deny (lines deny) (rw g tt),
      )
      by None e (Some a) g h = rw (
        until_same Ver.Granted Deciding.Allow (lines allow) (rw e tt),
        first_line_same (lines allow) (rw e tt),
        e,
        until_same Ver.Denied Deciding.Deny (lines deny) (rw g h),
      )

-- a number that is told only with an answer
abbrev pub unless_refused : Outcome Answer → ℕ → ℕ
unless_refused (Err f) n = 0
unless_refused (Ok a) n = n

-- a call that neither asks nor is refused tells every user the same number
module _ (r : Request) (t₀ : List ℕ) (u : User) (t : List ℕ) (e : well_formed (with_user r u t) ≡ well_formed (with_user r U.NotFetched t₀)) where
  pub over_looked_same : (o : Option Refusal) (ts : List Table) (allow deny : List ℕ)
      → QuietOutcome (o before decide_over ts allow deny (Some (with_user r U.NotFetched t₀)))
      → unless_refused (o before decide_over ts allow deny (Some (with_user r U.NotFetched t₀))) (looked_over ts allow deny (Some (with_user r u t)))
      ≡ unless_refused (o before decide_over ts allow deny (Some (with_user r U.NotFetched t₀))) (looked_over ts allow deny (Some (with_user r U.NotFetched t₀)))
  unfolding looked_over
  over_looked_same o ts a d = by o (well_formed (with_user r U.NotFetched t₀)) (well_formed (with_user r u t)) e
    where
      x : Request
      x = held (with_user r U.NotFetched t₀)

      n : ℕ
      n = capped (looked ts a d (held (with_user r u t)))

      k : ℕ
      k = capped (looked ts a d (held (with_user r U.NotFetched t₀)))

      by : (o : Option Refusal) (b b' : Bool) → b' ≡ b
          → QuietOutcome (o before (when b then Ok (search (match_of ts) a d x) else Err (placeless F.BadRequest)))
          → unless_refused (o before (when b then Ok (search (match_of ts) a d x) else Err (placeless F.BadRequest)))
          (number_of (when b' then Ok n else Err (placeless F.BadRequest)))
          ≡ unless_refused (o before (when b then Ok (search (match_of ts) a d x) else Err (placeless F.BadRequest)))
          (number_of (when b then Ok k else Err (placeless F.BadRequest)))
      by (Some f) b b' e h = refl
      by None false b' e h = refl
      by None true b' e h = rw e (ap capped (looked_same ts (held r) t₀ u t a d h))
