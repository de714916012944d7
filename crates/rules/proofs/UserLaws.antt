-- Demand 3, first half: a verdict reached without asking for the user is the verdict for every user.
-- The walk for a user not fetched and the walk for any other user agree, element by element, wherever the first does not ask.
-- Assumes nothing.
use Rattle.std.specs.Prelude.{Err, None, Ok, Option, Some, unwrap_or}
use Prim.Native.Nat.{ℕ}
use mathlib.Core.Bool.{Bool, true, false, not, ◌&&◌, ◌||◌}
use mathlib.Core.List.{List, [], ◌∷◌}
use mathlib.Core.Path.{◌≡◌, refl, ap}
use Rattle.text.specs.Basics.{when◌then◌else◌, ◌>>=◌, ◌or_else◌, given, first}
use Rattle.section.specs.declared.Fault.TheVariants as F
use Rattle.section.specs.declared.Refusal.{Refusal}
use Rattle.section.specs.Refusal.{Outcome, placeless, ◌before◌}
use Rattle.section.specs.Section as S
use Rattle.section.specs.Section.{part, over_limit}
use Rattle.lines.specs.Line.{Line, lines, is_comment, is_blank}
use Rattle.lines.specs.Rule.{Rule, parse_rule, is_except}
use Rattle.elements.specs.declared.User.{User}
use Rattle.elements.specs.declared.User.TheVariants as U
use Rattle.elements.specs.declared.Found.{Found}
use Rattle.elements.specs.declared.Found.TheVariants.{No, Yes, Ask}
use Rattle.patterns.specs.Host.{Endpoint}
use Rattle.elements.specs.Request.{Request, user_case, well_formed, held}
use Rattle.elements.specs.Code.{with_user}
use Rattle.tables.specs.Table.{Table, Matcher, pattern_with, tables_of, tables_frame, match_of}
use Rattle.elements.specs.Element.{halves, found_if, daemon_name, user_half, daemon_parts, client_parts, daemon_element, client_element, look_at}
use Rattle.lists.specs.Walk.{on_found, included, excluded, rule_found_by, rule_found}
use Rattle.rules.specs.declared.Verdict.{Verdict}
use Rattle.rules.specs.declared.Verdict.TheVariants as Ver
use Rattle.rules.specs.declared.File.{File}
use Rattle.rules.specs.declared.File.TheVariants as Deciding
use Rattle.rules.specs.declared.Answer.{Answer}
use Rattle.rules.specs.Check.{hosts_fault, tables_fault}
use Rattle.rules.specs.Search.{answer, rule_answer, line_answer, search, decide_over, decide, decide_tables}

-- what has not asked: a finding, a verdict, an answer, an outcome
abbrev pub Quiet : Found → Type 0
Quiet No = Unit {0}
Quiet Yes = Unit {0}
Quiet Ask = ⊥

abbrev pub QuietVerdict : Verdict → Type 0
QuietVerdict Ver.Granted = Unit {0}
QuietVerdict Ver.Denied = Unit {0}
QuietVerdict Ver.Ask = ⊥

abbrev pub QuietAnswer : Option Answer → Type 0
QuietAnswer None = Unit {0}
QuietAnswer (Some a) = QuietVerdict a.verdict

abbrev pub QuietOutcome : Outcome Answer → Type 0
QuietOutcome (Err r) = Unit {0}
QuietOutcome (Ok a) = QuietVerdict a.verdict

-- ## Choices that agree wherever the first is quiet

on_found_same : (x x' y y' n n' : Found) → Quiet (on_found x y n) → (Quiet x → x' ≡ x) → (Quiet y → y' ≡ y) → (Quiet n → n' ≡ n) → on_found x' y' n'
    ≡ on_found x y n
on_found_same Yes x' y y' n n' h f g k = rw (f tt) (g h)
on_found_same No x' y y' n n' h f g k = rw (f tt) (k h)
on_found_same Ask x' y y' n n' h f g k = absurd h

if_same : (b : Bool) (x x' y y' : Found) → Quiet (when b then x else y) → (Quiet x → x' ≡ x) → (Quiet y → y' ≡ y) → (when b then x' else y') ≡ (when b then x else y)
if_same true x x' y y' h f g = f h
if_same false x x' y y' h f g = g h

module _ (m m' : List ℕ → Found) (agree : (w : List ℕ) → Quiet (m w) → m' w ≡ m w) where
  mutual
    unfolding included excluded

    pub included_same : (ws : List (List ℕ)) → Quiet (included m ws) → included m' ws ≡ included m ws
    included_same [] h = refl
    included_same (w ∷ ws) h =
        if_same (is_except w) No No (on_found (m w) (excluded m ws) (included m ws)) (on_found (m' w) (excluded m' ws) (included m' ws)) h (λ q. refl)
        λ q. on_found_same (m w) (m' w) (excluded m ws) (excluded m' ws) (included m ws) (included m' ws) q (agree w) (λ k. excluded_same ws k)
        (λ k. included_same ws k)

    excluded_same : (ws : List (List ℕ)) → Quiet (excluded m ws) → excluded m' ws ≡ excluded m ws
    excluded_same [] h = refl
    excluded_same (w ∷ ws) h =
        if_same (is_except w) (on_found (included m ws) No Yes) (on_found (included m' ws) No Yes) (excluded m ws) (excluded m' ws) h
        (λ q. on_found_same (included m ws) (included m' ws) No No Yes Yes q (λ k. included_same ws k) (λ k. refl) (λ k. refl))
        (λ k. excluded_same ws k)

pub first_same : (f f' : Line → Option Answer) → ((l : Line) → QuietAnswer (f l) → f' l ≡ f l) → (ls : List Line) → QuietAnswer (first f ls) → first f' ls
    ≡ first f ls
unfolding first
first_same f f' same [] h = refl
first_same f f' same (l ∷ ls) h = by (f l) (f' l) (same l) h (first_same f f' same ls)
  where
    by : (o o' : Option Answer) → (QuietAnswer o → o' ≡ o) → QuietAnswer (o or_else first f ls) → (QuietAnswer (first f ls) → first f' ls ≡ first f ls)
        → (o' or_else first f' ls) ≡ (o or_else first f ls)
    by None o' e h ih = rw (e tt) (ih h)
    by (Some a) o' e h ih = rw (e h)

-- ## From an element to the call

-- one request with its user not fetched, whatever bytes stand beside it, and the same with a user u
module _ (m : Matcher) (r : Request) (t₀ : List ℕ) (u : User) (t : List ℕ) where
  abbrev unasked : Request
  unasked = with_user r U.NotFetched t₀

  abbrev asked : Request
  asked = with_user r u t

  -- a daemon element knows no user
  pub daemon_same : (e : List ℕ) → look_at asked (daemon_element m e) ≡ look_at unasked (daemon_element m e)
  unfolding daemon_element daemon_parts
  daemon_same e = by (halves e)
    where
      half : (o : Option (List ℕ → Bool)) (o' : Option (Endpoint → Bool))
          → look_at asked (o >>= λ f. o' >>= λ g. Some λ q. found_if (f q.daemon && g q.server))
          ≡ look_at unasked (o >>= λ f. o' >>= λ g. Some λ q. found_if (f q.daemon && g q.server))
      half None o' = refl
      half (Some f) None = refl
      half (Some f) (Some g) = refl

      name : (o : Option (List ℕ → Bool)) → look_at asked (o >>= λ f. Some λ q. found_if (f q.daemon))
          ≡ look_at unasked (o >>= λ f. Some λ q. found_if (f q.daemon))
      name None = refl
      name (Some f) = refl

      by : (o : Option (List ℕ × List ℕ)) → look_at asked (daemon_parts m e o) ≡ look_at unasked (daemon_parts m e o)
      by None = name (daemon_name e)
      by (Some p) = half (daemon_name p.0) (pattern_with m p.1)

  -- a client element that does not ask knows none either
  pub client_same : (e : List ℕ) → Quiet (look_at unasked (client_element m e)) → look_at asked (client_element m e) ≡ look_at unasked (client_element m e)
  unfolding client_element client_parts
  client_same e = by (halves e)
    where
      asks : (b : Bool) (f : Request → Bool) → Quiet (when b then Ask else No)
          → (when b then user_case asked Ask (found_if (f asked)) (found_if (f asked)) else No) ≡ (when b then Ask else No)
      asks true f h = absurd h
      asks false f h = refl

      half : (o : Option (Request → Bool)) (o' : Option (Endpoint → Bool))
          → Quiet (look_at unasked (o >>= λ f. o' >>= λ g. Some λ q. when g q.client then user_case q Ask (found_if (f q)) (found_if (f q)) else No))
          → look_at asked (o >>= λ f. o' >>= λ g. Some λ q. when g q.client then user_case q Ask (found_if (f q)) (found_if (f q)) else No)
          ≡ look_at unasked (o >>= λ f. o' >>= λ g. Some λ q. when g q.client then user_case q Ask (found_if (f q)) (found_if (f q)) else No)
      half None o' h = refl
      half (Some f) None h = refl
      half (Some f) (Some g) h = asks (g r.client) f h

      name : (o : Option (Endpoint → Bool)) → look_at asked (o >>= λ g. Some λ q. found_if (g q.client))
          ≡ look_at unasked (o >>= λ g. Some λ q. found_if (g q.client))
      name None = refl
      name (Some g) = refl

      by : (o : Option (List ℕ × List ℕ)) → Quiet (look_at unasked (client_parts m e o)) → look_at asked (client_parts m e o) ≡ look_at unasked (client_parts m e o)
      by None h = name (pattern_with m e)
      by (Some p) h = half (user_half p.0) (pattern_with m p.1) h

  pub rule_same : (x : Rule) → Quiet (rule_found m unasked x) → rule_found m asked x ≡ rule_found m unasked x
  unfolding rule_found_by
  rule_same x h = on_found_same
      (included (λ e. look_at unasked (daemon_element m e)) x.daemons) (included (λ e. look_at asked (daemon_element m e)) x.daemons)
      (included (λ e. look_at unasked (client_element m e)) x.clients) (included (λ e. look_at asked (client_element m e)) x.clients) No No h
      (included_same (λ e. look_at unasked (daemon_element m e)) (λ e. look_at asked (daemon_element m e)) (λ w q. daemon_same w) x.daemons)
      (included_same (λ e. look_at unasked (client_element m e)) (λ e. look_at asked (client_element m e)) client_same x.clients)
      (λ q. refl)

  pub line_same : (v : Verdict) (f : File) (l : Line) → QuietAnswer (line_answer v f (rule_found m unasked) l)
      → line_answer v f (rule_found m asked) l ≡ line_answer v f (rule_found m unasked) l
  unfolding line_answer
  line_same v f l = by (is_comment l || is_blank l) (parse_rule l.raw)
    where
      quiet : (x : Rule) (y : Found) → QuietAnswer (rule_answer v f l x y) → Quiet y
      quiet x No h = tt
      quiet x Yes h = tt
      quiet x Ask h = h

      by : (b : Bool) (o : Option Rule) → QuietAnswer (when b then None else (o >>= λ x. rule_answer v f l x (rule_found m unasked x)))
          → (when b then None else (o >>= λ x. rule_answer v f l x (rule_found m asked x)))
          ≡ (when b then None else (o >>= λ x. rule_answer v f l x (rule_found m unasked x)))
      by true o h = refl
      by false None h = refl
      by false (Some x) h = ap (rule_answer v f l x) (rule_same x (quiet x (rule_found m unasked x) h))

  pub search_same : (allow deny : List ℕ) → QuietVerdict (search m allow deny unasked).verdict → search m allow deny asked ≡ search m allow deny unasked
  unfolding search
  search_same allow deny = two
      (first (line_answer Ver.Granted Deciding.Allow (rule_found m unasked)) (lines allow))
      (first (line_answer Ver.Granted Deciding.Allow (rule_found m asked)) (lines allow))
      (first (line_answer Ver.Denied Deciding.Deny (rule_found m unasked)) (lines deny))
      (first (line_answer Ver.Denied Deciding.Deny (rule_found m asked)) (lines deny))
      (first_same (line_answer Ver.Granted Deciding.Allow (rule_found m unasked)) (line_answer Ver.Granted Deciding.Allow (rule_found m asked))
      (line_same Ver.Granted Deciding.Allow)
      (lines allow))
      (first_same (line_answer Ver.Denied Deciding.Deny (rule_found m unasked)) (line_answer Ver.Denied Deciding.Deny (rule_found m asked))
      (line_same Ver.Denied Deciding.Deny) (lines deny))
    where
      none_matched : Answer
      none_matched = answer Ver.Granted Deciding.Neither 0 (part 0 0)

      two : (o o' p p' : Option Answer) → (QuietAnswer o → o' ≡ o) → (QuietAnswer p → p' ≡ p)
          → QuietVerdict (unwrap_or (o or_else p) none_matched).verdict → unwrap_or (o' or_else p') none_matched ≡ unwrap_or (o or_else p) none_matched
      two (Some a) o' p p' f g h = rw (f h)
      two None o' None p' f g h = rw (f tt, g tt)
      two None o' (Some a) p' f g h = rw (f tt, g h)

-- a call that neither asks nor is refused gives every user that fits the same outcome; so does one that is refused
module _ (r : Request) (t₀ : List ℕ) (u : User) (t : List ℕ) (e : well_formed (with_user r u t) ≡ well_formed (with_user r U.NotFetched t₀)) where
  pub over_same : (o : Option Refusal) (ts : List Table) (allow deny : List ℕ)
      → QuietOutcome (o before decide_over ts allow deny (Some (with_user r U.NotFetched t₀)))
      → (o before decide_over ts allow deny (Some (with_user r u t))) ≡ (o before decide_over ts allow deny (Some (with_user r U.NotFetched t₀)))
  over_same o ts a d = by o (well_formed (with_user r U.NotFetched t₀)) (well_formed (with_user r u t)) e
    where
      x : Request
      x = held (with_user r U.NotFetched t₀)

      y : Request
      y = held (with_user r u t)

      by : (o : Option Refusal) (b b' : Bool) → b' ≡ b
          → QuietOutcome (o before (when b then Ok (search (match_of ts) a d x) else Err (placeless F.BadRequest)))
          → (o before (when b' then Ok (search (match_of ts) a d y) else Err (placeless F.BadRequest)))
          ≡ (o before (when b then Ok (search (match_of ts) a d x) else Err (placeless F.BadRequest)))
      by (Some f) b b' e h = refl
      by None false b' e h = rw e
      by None true b' e h = rw e (ap Ok (search_same (match_of ts) (held r) t₀ u t a d h))

  pub decide_same : (allow deny : List ℕ) → QuietOutcome (decide allow deny (Some (with_user r U.NotFetched t₀)))
      → decide allow deny (Some (with_user r u t)) ≡ decide allow deny (Some (with_user r U.NotFetched t₀))
  unfolding decide
  decide_same a d =
      over_same (over_limit S.allow a or_else over_limit S.deny d or_else hosts_fault S.allow a or_else hosts_fault S.deny d or_else tables_fault a d []) [] a d

  pub decide_tables_same : (allow deny tables : List ℕ) → QuietOutcome (decide_tables allow deny tables (Some (with_user r U.NotFetched t₀)))
      → decide_tables allow deny tables (Some (with_user r u t)) ≡ decide_tables allow deny tables (Some (with_user r U.NotFetched t₀))
  unfolding decide_tables
  decide_tables_same a d x =
      over_same
      (over_limit S.allow a or_else over_limit S.deny d or_else tables_frame x or_else hosts_fault S.allow a or_else hosts_fault S.deny d or_else tables_fault a d x)
      (tables_of x) a d

-- ## Who has fetched is never asked

abbrev pub Fetched : User → Type 0
Fetched U.NotFetched = ⊥
Fetched U.Unknown = Unit {0}
Fetched U.Known = Unit {0}

on_found_quiet : (x y n : Found) → Quiet x → Quiet y → Quiet n → Quiet (on_found x y n)
on_found_quiet Yes y n h g k = g
on_found_quiet No y n h g k = k
on_found_quiet Ask y n h g k = h

if_quiet : (b : Bool) (x y : Found) → Quiet x → Quiet y → Quiet (when b then x else y)
if_quiet true x y h g = h
if_quiet false x y h g = g

found_if_quiet : (b : Bool) → Quiet (found_if b)
found_if_quiet true = tt
found_if_quiet false = tt

module _ (m : List ℕ → Found) (quiet : (w : List ℕ) → Quiet (m w)) where
  mutual
    unfolding included excluded

    pub included_quiet : (ws : List (List ℕ)) → Quiet (included m ws)
    included_quiet [] = tt
    included_quiet (w ∷ ws) =
        if_quiet (is_except w) No (on_found (m w) (excluded m ws) (included m ws)) tt
        (on_found_quiet (m w) (excluded m ws) (included m ws) (quiet w) (excluded_quiet ws) (included_quiet ws))

    excluded_quiet : (ws : List (List ℕ)) → Quiet (excluded m ws)
    excluded_quiet [] = tt
    excluded_quiet (w ∷ ws) =
        if_quiet (is_except w) (on_found (included m ws) No Yes) (excluded m ws)
        (on_found_quiet (included m ws) No Yes (included_quiet ws) tt tt) (excluded_quiet ws)

module _ (m : Matcher) (r : Request) (fetched : Fetched r.user) where
  pub daemon_quiet : (e : List ℕ) → Quiet (look_at r (daemon_element m e))
  unfolding daemon_element daemon_parts
  daemon_quiet e = by (halves e)
    where
      half : (o : Option (List ℕ → Bool)) (q : Option (Endpoint → Bool))
          → Quiet (look_at r (o >>= λ f. q >>= λ g. Some λ x. found_if (f x.daemon && g x.server)))
      half None q = tt
      half (Some f) None = tt
      half (Some f) (Some g) = found_if_quiet (f r.daemon && g r.server)

      name : (o : Option (List ℕ → Bool)) → Quiet (look_at r (o >>= λ f. Some λ x. found_if (f x.daemon)))
      name None = tt
      name (Some f) = found_if_quiet (f r.daemon)

      by : (o : Option (List ℕ × List ℕ)) → Quiet (look_at r (daemon_parts m e o))
      by None = name (daemon_name e)
      by (Some p) = half (daemon_name p.0) (pattern_with m p.1)

  client_quiet : (e : List ℕ) → Quiet (look_at r (client_element m e))
  unfolding client_element client_parts
  client_quiet e = by (halves e)
    where
      user : (u : User) → Fetched u → (b : Bool) → Quiet (elim u [ U.NotFetched ↦ Ask | U.Unknown ↦ found_if b | U.Known ↦ found_if b ])
      user U.NotFetched h b = h
      user U.Unknown h b = found_if_quiet b
      user U.Known h b = found_if_quiet b

      half : (o : Option (Request → Bool)) (q : Option (Endpoint → Bool))
          → Quiet (look_at r (o >>= λ f. q >>= λ g. Some λ x. when g x.client then user_case x Ask (found_if (f x)) (found_if (f x)) else No))
      half None q = tt
      half (Some f) None = tt
      half (Some f) (Some g) = if_quiet (g r.client) (user_case r Ask (found_if (f r)) (found_if (f r))) No (user r.user fetched (f r)) tt

      name : (o : Option (Endpoint → Bool)) → Quiet (look_at r (o >>= λ g. Some λ x. found_if (g x.client)))
      name None = tt
      name (Some g) = found_if_quiet (g r.client)

      by : (o : Option (List ℕ × List ℕ)) → Quiet (look_at r (client_parts m e o))
      by None = name (pattern_with m e)
      by (Some p) = half (user_half p.0) (pattern_with m p.1)

  pub rule_quiet : (x : Rule) → Quiet (rule_found m r x)
  unfolding rule_found_by
  rule_quiet x = on_found_quiet (included (λ e. look_at r (daemon_element m e)) x.daemons) (included (λ e. look_at r (client_element m e)) x.clients) No
      (included_quiet (λ e. look_at r (daemon_element m e)) daemon_quiet x.daemons)
      (included_quiet (λ e. look_at r (client_element m e)) client_quiet x.clients) tt

  line_quiet : (v : Verdict) → QuietVerdict v → (f : File) (l : Line) → QuietAnswer (line_answer v f (rule_found m r) l)
  unfolding line_answer
  line_quiet v h f l = by (is_comment l || is_blank l) (parse_rule l.raw)
    where
      answer_quiet : (x : Rule) (y : Found) → Quiet y → QuietAnswer (rule_answer v f l x y)
      answer_quiet x No k = tt
      answer_quiet x Yes k = h
      answer_quiet x Ask k = k

      by : (b : Bool) (o : Option Rule) → QuietAnswer (when b then None else (o >>= λ x. rule_answer v f l x (rule_found m r x)))
      by true o = tt
      by false None = tt
      by false (Some x) = answer_quiet x (rule_found m r x) (rule_quiet x)

  first_quiet : (f : Line → Option Answer) → ((l : Line) → QuietAnswer (f l)) → (ls : List Line) → QuietAnswer (first f ls)
  unfolding first
  first_quiet f h [] = tt
  first_quiet f h (l ∷ ls) = by (f l) (h l) (first_quiet f h ls)
    where
      by : (o : Option Answer) → QuietAnswer o → QuietAnswer (first f ls) → QuietAnswer (o or_else first f ls)
      by None k ih = ih
      by (Some a) k ih = k

  pub search_quiet : (allow deny : List ℕ) → QuietVerdict (search m allow deny r).verdict
  unfolding search
  search_quiet allow deny = by
      (first (line_answer Ver.Granted Deciding.Allow (rule_found m r)) (lines allow)) (first (line_answer Ver.Denied Deciding.Deny (rule_found m r)) (lines deny))
      (first_quiet (line_answer Ver.Granted Deciding.Allow (rule_found m r)) (line_quiet Ver.Granted tt Deciding.Allow) (lines allow))
      (first_quiet (line_answer Ver.Denied Deciding.Deny (rule_found m r)) (line_quiet Ver.Denied tt Deciding.Deny) (lines deny))
    where
      by : (o q : Option Answer) → QuietAnswer o → QuietAnswer q
          → QuietVerdict (unwrap_or (o or_else q) (answer Ver.Granted Deciding.Neither 0 (part 0 0))).verdict
      by (Some a) q h k = h
      by None None h k = tt
      by None (Some a) h k = k

module _ (o : Option Refusal) (ts : List Table) (a d : List ℕ) where
  pub over_quiet : (r : Request) → Fetched r.user → QuietOutcome (o before decide_over ts a d (Some r))
  over_quiet r fetched = by o (well_formed r)
    where
      by : (o : Option Refusal) (b : Bool)
          → QuietOutcome (o before (when b then Ok (search (match_of ts) a d (held r)) else Err (placeless F.BadRequest)))
      by (Some f) b = tt
      by None false = tt
      by None true = search_quiet (match_of ts) (held r) fetched a d

  pub over_none_quiet : QuietOutcome (o before decide_over ts a d None)
  over_none_quiet = by o
    where
      by : (o : Option Refusal) → QuietOutcome (o before Err (placeless F.BadRequest))
      by (Some f) = tt
      by None = tt

abbrev plain_faults : List ℕ → List ℕ → Option Refusal
plain_faults a d = over_limit S.allow a or_else over_limit S.deny d or_else hosts_fault S.allow a or_else hosts_fault S.deny d or_else tables_fault a d []

abbrev tabled_faults : List ℕ → List ℕ → List ℕ → Option Refusal
tabled_faults a d t =
    over_limit S.allow a or_else over_limit S.deny d or_else tables_frame t or_else hosts_fault S.allow a or_else hosts_fault S.deny d or_else tables_fault a d t

pub decide_quiet : (r : Request) → Fetched r.user → (allow deny : List ℕ) → QuietOutcome (decide allow deny (Some r))
unfolding decide
decide_quiet r fetched a d = over_quiet (plain_faults a d) [] a d r fetched

pub decide_none_quiet : (allow deny : List ℕ) → QuietOutcome (decide allow deny None)
unfolding decide
decide_none_quiet a d = over_none_quiet (plain_faults a d) [] a d

pub decide_tables_quiet : (r : Request) → Fetched r.user → (allow deny tables : List ℕ) → QuietOutcome (decide_tables allow deny tables (Some r))
unfolding decide_tables
decide_tables_quiet r fetched a d t = over_quiet (tabled_faults a d t) (tables_of t) a d r fetched

pub decide_tables_none_quiet : (allow deny tables : List ℕ) → QuietOutcome (decide_tables allow deny tables None)
unfolding decide_tables
decide_tables_none_quiet a d t = over_none_quiet (tabled_faults a d t) (tables_of t) a d
