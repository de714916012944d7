-- What the calls rest on: the verdict's refusals are the same for a request whose user fits and for the same with its user not fetched.
-- Assumes nothing.
use Rattle.std.specs.Prelude.{Err, None, Ok, Option, Result, Some}
use Prim.Native.Nat.{ℕ}
use mathlib.Core.Bool.{Bool, true, false, not, ◌&&◌, true≢false}
use mathlib.Core.List.{List, []}
use mathlib.Core.Path.{◌≡◌, refl, sym, ap, subst, ◌∙◌}
use lib.ListN.{length, take}
use Rattle.text.specs.Basics.{when◌then◌else◌, ◌or_else◌}
use Rattle.text.specs.Text.{in_range}
use Rattle.section.specs.declared.Fault.TheVariants as F
use Rattle.section.specs.declared.Refusal.{Refusal}
use Rattle.section.specs.Refusal.{Outcome, placeless, ◌>>=◌, ◌before◌}
use Rattle.section.specs.Section as S
use Rattle.section.specs.Section.{over_limit}
use Rattle.tables.specs.Table.{Table, Matcher, read_tables, tables_of, tables_frame, match_of}
use Rattle.tables.specs.Code.{tables_in}
use Rattle.tables.proofs.TableLaws.{tables_in_of, frame_none}
use Rattle.patterns.specs.Host.{name_case}
use Rattle.elements.specs.declared.User.TheVariants as U
use Rattle.elements.specs.declared.request.Request.{Request as Places}
use Rattle.elements.specs.Request.{Request, user_case, well_formed, held}
use Rattle.elements.specs.Places.{request_at}
use Rattle.elements.specs.Code.{with_user, held_at}
use Rattle.elements.proofs.HeldLaws.{held_at_lem}
use Rattle.rules.specs.declared.Answer.{Answer}
use Rattle.rules.specs.declared.Verdict.{Verdict}
use Rattle.rules.specs.declared.Verdict.TheVariants as Ver
use Rattle.rules.specs.declared.Reported.{Reported}
use Rattle.rules.specs.Check.{hosts_fault, tables_fault}
use Rattle.rules.specs.Search.{search, decide_over, decide, decide_tables}
use Rattle.rules.specs.Looked.{reported}
use Rattle.rules.specs.Code.{lines_fault, contents_fault}
use Rattle.rules.proofs.UserLaws.{QuietVerdict}
use Rattle.rules.proofs.NamingLaws.{or_else_nones}
use Rattle.matters.specs.declared.Place.{Place}
use Rattle.matters.specs.Matters.{place, place_of, settled, matters_over, name_matters, name_matters_tables}
use Rattle.matters.specs.Code.{unfetched_at, unfetched, Unasked, refused_by}
use Rattle.matters.proofs.SettleLaws.{quiet_settled}

-- ## The answer to a request whose user is not fetched

-- all users get this place
abbrev all_get : Place → Outcome (Option Place)
all_get p = Ok (Some p)

module _ (m : Matcher) (allow deny : List ℕ) (r : Request) (a : Answer) (is-a : Unasked m allow deny r (place_of a)) where
  quiet : (v : Verdict) → a.verdict ≡ v → QuietVerdict v → all_get (place_of a) ≡ Ok (settled m allow deny r)
  unfolding Unasked
  quiet v e q =
      let s : (search m allow deny (unfetched r)).verdict ≡ v = ap (λ (p : Place). p.verdict) is-a ∙ e in
      rw (quiet_settled m allow deny r r.user_name (subst QuietVerdict (sym s) q)) (ap all_get (sym is-a))

  pub by_granted : (v : Verdict) → v ≡ a.verdict → v ≡ Ver.Granted → all_get (place v a.file a.line) ≡ Ok (settled m allow deny r)
  by_granted v is_v e = ap (λ (x : Verdict). all_get (place x a.file a.line)) is_v ∙ quiet Ver.Granted (sym is_v ∙ e) tt

  pub by_denied : (v : Verdict) → v ≡ a.verdict → v ≡ Ver.Denied → all_get (place v a.file a.line) ≡ Ok (settled m allow deny r)
  by_denied v is_v e = ap (λ (x : Verdict). all_get (place x a.file a.line)) is_v ∙ quiet Ver.Denied (sym is_v ∙ e) tt

pub by_asking : (m : Matcher) (allow deny names : List ℕ) (q h : Places) → h ≡ held_at q → (x : Result (Option Place) Refusal) → x ≡ Ok (settled m allow deny (request_at names h))
    → x ≡ Ok (settled m allow deny (held (request_at names q)))
by_asking m allow deny names q h is-h x is_x = is_x ∙ ap (λ (r : Request). Ok (settled m allow deny r)) (held_at_lem names q h is-h)

-- ## Refusals

pub request_unfetched : (q : Places)
    → record {
      daemon = q.daemon;
      client = q.client;
      client_name = q.client_name;
      server = q.server;
      server_name = q.server_name;
      user = U.NotFetched;
      user_name = q.user_name;
    }
    ≡ unfetched_at q
unfolding unfetched_at
request_unfetched q = refl

module _ (x : Result Answer Refusal) where
  pub refuse_refused : (f : Refusal) → x ≡ Err f → Err f ≡ refused_by x
  refuse_refused f e = rw e

  pub refuse_answered : (a : Answer) → x ≡ Ok a → (f : Refusal) → f ≡ placeless F.BadRequest → Err f ≡ refused_by x
  refuse_answered a e f is_f = rw (e, is_f)

first_true : (a b : Bool) → (a && b) ≡ true → (a && true) ≡ true
first_true true b e = refl
first_true false b e = e

pub fits_unfetched : (r : Request) → well_formed r ≡ true → well_formed (unfetched r) ≡ true
unfolding well_formed
fits_unfetched r e = first_true
    (in_range 1 64 (length r.daemon) && name_case r.client true true (in_range 1 255 (length r.client.name))
    && name_case r.server true true (in_range 1 255 (length r.server.name)))
    (user_case r true true (in_range 1 64 (length r.user_name))) e

-- a check, then the search over some tables
module _ (o : Option Refusal) (ts : List Table) (allow deny : List ℕ) (r : Request) where
  abbrev outcome : Request → Outcome Answer
  outcome q = o before decide_over ts allow deny (Some q)

  abbrev settles : Option Place
  settles = settled (match_of ts) allow deny (held r)

  abbrev found : Answer
  found = search (match_of ts) allow deny (held r)

  abbrev answer_to : Outcome (Option Place)
  answer_to = outcome r >>= λ a. matters_over ts allow deny (Some r)

  unfit : well_formed r ≡ false → (n : ℕ) → refused_by (reported (outcome r) n).ruling ≡ answer_to
  unfit e n = by o (well_formed r) e
    where
      by : (o : Option Refusal) (b : Bool) → b ≡ false
          → refused_by (reported (o before (when b then Ok found else Err (placeless F.BadRequest))) n).ruling
          ≡ ((o before (when b then Ok found else Err (placeless F.BadRequest)))
          >>= λ a. when b then Ok settles else Err (placeless F.BadRequest))
      by (Some f) b e = refl
      by None true e = absurd (true≢false e)
      by None false e = refl

  module _ (fits : well_formed r ≡ true) (n : ℕ) where
    -- the answer for a user not fetched, where there is no refusal
    abbrev unasked : Answer
    unasked = search (match_of ts) allow deny (held (unfetched r))

    asked_is : outcome (unfetched r) ≡ (o before Ok unasked)
    asked_is = rw (fits_unfetched r fits)

    own_is : answer_to ≡ ((o before Ok found) >>= λ a. Ok settles)
    own_is = rw fits

    fit_refused : (f : Refusal) → (reported (outcome (unfetched r)) n).ruling ≡ Err f → Err f ≡ answer_to
    fit_refused f e = by o (ap (λ (x : Outcome Answer). (reported x n).ruling) (sym asked_is) ∙ e) ∙ sym (own_is)
      where
        by : (o : Option Refusal) → (reported (o before Ok unasked) n).ruling ≡ Err f
            → Err f ≡ ((o before Ok found) >>= λ a. Ok settles)
        by (Some g) e = ap Err (sym (ap (λ (x : Result Answer Refusal). elim x [ Err h ↦ h | Ok a ↦ g ]) e))
        by None e = absurd (true≢false (ap (λ (x : Result Answer Refusal). elim x [ Err h ↦ false | Ok a ↦ true ]) e))

    module _ (a : Answer) (e : (reported (outcome (unfetched r)) n).ruling ≡ Ok a) where
      fit_answered : (o ≡ None) × (a ≡ unasked)
      fit_answered = by o (ap (λ (x : Outcome Answer). (reported x n).ruling) (sym asked_is) ∙ e)
        where
          by : (o : Option Refusal) → (reported (o before Ok unasked) n).ruling ≡ Ok a → (o ≡ None) × (a ≡ unasked)
          by (Some g) e = absurd (true≢false (sym (ap (λ (x : Result Answer Refusal). elim x [ Err h ↦ false | Ok a ↦ true ]) e)))
          by None e = (refl, sym (ap (λ (x : Result Answer Refusal). elim x [ Err h ↦ unasked | Ok b ↦ b ]) e))

      fit_unasked : Unasked (match_of ts) allow deny (held r) (place_of a)
      unfolding Unasked
      fit_unasked = ap place_of (sym fit_answered.1)

      fit_settled : (x : Result (Option Place) Refusal) → x ≡ Ok settles → x ≡ answer_to
      fit_settled x is_x =
          is_x ∙ sym (own_is ∙ ap (λ (p : Option Refusal). ((p before Ok found) >>= λ a. Ok settles)) fit_answered.0)

-- ## By texts

nones_texts : (a d h k t : Option Refusal) → (a or_else d or_else h or_else k or_else t) ≡ None → ((h or_else k) or_else t) ≡ None
nones_texts None None None None None e = refl
nones_texts None None None None (Some f) e = e
nones_texts None None None (Some f) t e = e
nones_texts None None (Some f) k t e = e
nones_texts None (Some f) h k t e = absurd (true≢false (sym (ap (λ (o : Option Refusal). elim o [ None ↦ true | Some x ↦ false ]) e)))
nones_texts (Some f) d h k t e = absurd (true≢false (sym (ap (λ (o : Option Refusal). elim o [ None ↦ true | Some x ↦ false ]) e)))

module _ (allow deny names : List ℕ) (q : Places) where
  abbrev own : Request
  own = request_at names q

  abbrev text_checks : Option Refusal
  text_checks =
      over_limit S.allow allow or_else over_limit S.deny deny or_else hosts_fault S.allow allow or_else hosts_fault S.deny deny or_else tables_fault allow deny []

  abbrev by_texts_lem : Result (Option Place) Refusal
  by_texts_lem = name_matters allow deny (Some own)

  module _ (b : Bool) (is_b : b ≡ well_formed own) where
    pub texts_unfit : not b ≡ true → (n : ℕ) (y : Reported) → y ≡ reported (decide allow deny (Some own)) n → (x : Result (Option Place) Refusal) → x ≡ refused_by y.ruling
        → x ≡ by_texts_lem
    unfolding decide name_matters
    texts_unfit e n y is_y x is_x =
        is_x ∙ ap (λ (z : Reported). refused_by z.ruling) is_y ∙ unfit text_checks [] allow deny own (sym is_b ∙ unfits b e) n
      where
        unfits : (b : Bool) → not b ≡ true → b ≡ false
        unfits true e = sym e
        unfits false e = refl

    module _ (e : not b ≡ false) (u : Places) (is-u : u ≡ unfetched_at q) (n : ℕ) (y : Reported)
        (is_y : y ≡ reported (decide allow deny (Some (request_at names u))) n) where
      fitting : well_formed own ≡ true
      fitting = sym is_b ∙ by b e
        where
          by : (b : Bool) → not b ≡ false → b ≡ true
          by true e = refl
          by false e = sym e

      asked : y ≡ reported (outcome text_checks [] allow deny own (unfetched own)) n
      unfolding decide unfetched_at
      asked = is_y ∙ ap (λ (p : Places). reported (decide allow deny (Some (request_at names p))) n) is-u

      pub texts_refused : (f : Refusal) → y.ruling ≡ Err f → Err f ≡ by_texts_lem
      unfolding decide name_matters
      texts_refused f k = fit_refused text_checks [] allow deny own fitting n f (sym (ap (λ (z : Reported). z.ruling) asked) ∙ k)

      module _ (a : Answer) (k : y.ruling ≡ Ok a) where
        told : (reported (outcome text_checks [] allow deny own (unfetched own)) n).ruling ≡ Ok a
        told = sym (ap (λ (z : Reported). z.ruling) asked) ∙ k

        pub texts_sound : contents_fault allow deny (take 0 allow) ≡ None
        unfolding contents_fault lines_fault
        texts_sound =
            nones_texts (over_limit S.allow allow) (over_limit S.deny deny) (hosts_fault S.allow allow) (hosts_fault S.deny deny) (tables_fault allow deny [])
            (fit_answered text_checks [] allow deny own fitting n a told).0

        pub texts_unasked : Unasked (match_of (tables_of (take 0 allow))) allow deny (held own) (place_of a)
        unfolding read_tables
        texts_unasked = fit_unasked text_checks [] allow deny own fitting n a told

        pub texts_settled : (x : Result (Option Place) Refusal) → x ≡ Ok (settled (match_of (tables_of (take 0 allow))) allow deny (held own)) → x ≡ by_texts_lem
        unfolding decide name_matters read_tables
        texts_settled x is_x = fit_settled text_checks [] allow deny own fitting n a told x is_x

-- ## By texts and tables

nones_tables : (a d f h k t : Option Refusal) → (a or_else d or_else f or_else h or_else k or_else t) ≡ None → (f ≡ None) × (((h or_else k) or_else t) ≡ None)
nones_tables None None None h k t e = (refl, e)
nones_tables None None (Some f) h k t e = absurd (true≢false (sym (ap (λ (o : Option Refusal). elim o [ None ↦ true | Some x ↦ false ]) e)))
nones_tables None (Some f) g h k t e = absurd (true≢false (sym (ap (λ (o : Option Refusal). elim o [ None ↦ true | Some x ↦ false ]) e)))
nones_tables (Some f) d g h k t e = absurd (true≢false (sym (ap (λ (o : Option Refusal). elim o [ None ↦ true | Some x ↦ false ]) e)))

module _ (allow deny tables names : List ℕ) (q : Places) where
  abbrev table_checks : Option Refusal
  table_checks =
      over_limit S.allow allow or_else over_limit S.deny deny or_else tables_frame tables
      or_else hosts_fault S.allow allow or_else hosts_fault S.deny deny or_else tables_fault allow deny tables

  abbrev by_tables : Result (Option Place) Refusal
  by_tables = name_matters_tables allow deny tables (Some (request_at names q))

  module _ (b : Bool) (is_b : b ≡ well_formed (request_at names q)) where
    pub tables_unfit : not b ≡ true → (n : ℕ) (y : Reported) → y ≡ reported (decide_tables allow deny tables (Some (request_at names q))) n
        → (x : Result (Option Place) Refusal) → x ≡ refused_by y.ruling → x ≡ by_tables
    unfolding decide_tables name_matters_tables
    tables_unfit e n y is_y x is_x =
        is_x ∙ ap (λ (z : Reported). refused_by z.ruling) is_y ∙ unfit table_checks (tables_of tables) allow deny (request_at names q) (sym is_b ∙ unfits b e) n
      where
        unfits : (b : Bool) → not b ≡ true → b ≡ false
        unfits true e = sym e
        unfits false e = refl

    module _ (e : not b ≡ false) (u : Places) (is-u : u ≡ unfetched_at q) (n : ℕ) (y : Reported)
        (is_y : y ≡ reported (decide_tables allow deny tables (Some (request_at names u))) n) where
      tables_fitting : well_formed (request_at names q) ≡ true
      tables_fitting = sym is_b ∙ by b e
        where
          by : (b : Bool) → not b ≡ false → b ≡ true
          by true e = refl
          by false e = sym e

      tables_asked : y ≡ reported (outcome table_checks (tables_of tables) allow deny (request_at names q) (unfetched (request_at names q))) n
      unfolding decide_tables unfetched_at
      tables_asked = is_y ∙ ap (λ (p : Places). reported (decide_tables allow deny tables (Some (request_at names p))) n) is-u

      pub tables_refused : (f : Refusal) → y.ruling ≡ Err f → Err f ≡ by_tables
      unfolding decide_tables name_matters_tables
      tables_refused f k =
          fit_refused table_checks (tables_of tables) allow deny (request_at names q) tables_fitting n f (sym (ap (λ (z : Reported). z.ruling) tables_asked) ∙ k)

      module _ (a : Answer) (k : y.ruling ≡ Ok a) where
        tables_told : (reported (outcome table_checks (tables_of tables) allow deny (request_at names q) (unfetched (request_at names q))) n).ruling ≡ Ok a
        tables_told = sym (ap (λ (z : Reported). z.ruling) tables_asked) ∙ k

        tables_nones : (tables_frame tables ≡ None) × (((hosts_fault S.allow allow or_else hosts_fault S.deny deny) or_else tables_fault allow deny tables) ≡ None)
        tables_nones =
            nones_tables (over_limit S.allow allow) (over_limit S.deny deny) (tables_frame tables) (hosts_fault S.allow allow) (hosts_fault S.deny deny)
            (tables_fault allow deny tables)
            (fit_answered table_checks (tables_of tables) allow deny (request_at names q) tables_fitting n a tables_told).0

        pub tables_whole : tables_in tables ≡ tables_of tables
        tables_whole = tables_in_of tables (frame_none tables tables_nones.0)

        pub tables_sound : contents_fault allow deny tables ≡ None
        unfolding contents_fault lines_fault
        tables_sound = tables_nones.1

        pub tables_unasked : Unasked (match_of (tables_of tables)) allow deny (held (request_at names q)) (place_of a)
        tables_unasked = fit_unasked table_checks (tables_of tables) allow deny (request_at names q) tables_fitting n a tables_told

        pub tables_settled : (x : Result (Option Place) Refusal) → x ≡ Ok (settled (match_of (tables_of tables)) allow deny (held (request_at names q))) → x ≡ by_tables
        unfolding decide_tables name_matters_tables
        tables_settled x is_x = fit_settled table_checks (tables_of tables) allow deny (request_at names q) tables_fitting n a tables_told x is_x
