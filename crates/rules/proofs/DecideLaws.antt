-- Laws of the decision by both files, shaped as the calls and tests of the code hand their facts over.
-- Assumes nothing.
use Rattle.std.specs.Prelude.{Err, None, Ok, Option, Result, Some, ⊤}
use Prim.Native.Nat.{ℕ, ◌+◌, ◌-◌, ◌≤◌, ◌<◌}
use native.Mathlib.Omega.{arith}
use mathlib.Core.Bool.{Bool, true, false, not}
use mathlib.Core.List.{List, []}
use mathlib.Core.Path.{◌≡◌, refl, sym, ap, ap₂, ◌∙◌}
use lib.Dec.{ltb}
use lib.ListN.{length, take, drop, drop_of_length-le}
use lib.Seq.{take-nil, take_all, length-take-le}
use Rattle.text.specs.Basics.{when◌then◌else◌, ◌or_else◌, given, is_some, first}
use Rattle.text.proofs.ScanLaws.{take_rest}
use Rattle.section.specs.declared.Fault.TheVariants as F
use Rattle.section.specs.declared.Refusal.{Refusal}
use Rattle.section.specs.Refusal.{refusal, placeless, ◌before◌}
use Rattle.section.specs.Section as S
use Rattle.lines.specs.Line.{Line, lines}
use Rattle.tables.specs.declared.entry.FrameFault.{FrameFault}
use Rattle.tables.specs.declared.entry.FrameFault.TheVariants as FrameFault
use Rattle.tables.specs.Table.{Table, read_tables, tables_of, tables_frame, match_of}
use Rattle.tables.specs.Code.{tables_in, frame_of}
use Rattle.tables.specs.Tried.{capped}
use Rattle.tables.proofs.TableLaws.{tables_none, tables_in_of, frame_sound, frame_cut, frame_trailing}
use Rattle.elements.specs.declared.request.Request.{Request as Places}
use Rattle.elements.specs.Request.{Request, well_formed, held}
use Rattle.elements.specs.Places.{request_at}
use Rattle.elements.specs.Code.{held_at}
use Rattle.elements.proofs.HeldLaws.{held_at_lem, held_fits}
use Rattle.elements.proofs.CountLaws.{capped_add, capped_left}
use Rattle.rules.specs.declared.Verdict.TheVariants.{Granted, Denied}
use Rattle.rules.specs.declared.File.TheVariants.{Allow, Deny}
use Rattle.rules.specs.declared.Answer.{Answer}
use Rattle.rules.specs.declared.Reported.{Reported}
use Rattle.rules.specs.declared.hosts_file.Tally.{Tally}
use Rattle.rules.specs.declared.search.Searched.{Searched}
use Rattle.rules.specs.Check.{hosts_fault, tables_fault}
use Rattle.rules.specs.Search.{line_answer, search, decide_over, decide, decide_tables, command_bytes}
use Rattle.rules.specs.Looked.{looked, number_of, looked_over, reported}
use Rattle.rules.specs.FileCode.{Query, query_found, hosts_fault_at, pass_of, pass_text, is_unmatched, combined, pass_both, tallied, lines_looked, both_looked}
use Rattle.rules.specs.FileCode.{refused_report, refusing_request}
use Rattle.rules.specs.Code.{lines_fault, contents_fault, refused_by, searched, finding_of}
use Rattle.rules.proofs.FileLaws.{tallied_pass}

-- ## The pass over both files

module _ (p q : Result (Option Answer) Refusal) where
  pub on_faulty : (g : Refusal) → p ≡ Err g → Err g ≡ combined p q
  on_faulty g e = rw e

  pub on_unmatched : p ≡ (Ok None) → q ≡ combined p q
  on_unmatched e = rw e

  module _ (a : Answer) (e : p ≡ Ok (Some a)) where
    pub on_then_faulty : (g : Refusal) → q ≡ Err g → Err g ≡ combined p q
    on_then_faulty g f = rw (e, f)

    pub on_then_unmatched : q ≡ (Ok None) → Ok (Some a) ≡ combined p q
    on_then_unmatched f = rw (e, f)

    pub on_then_matched : (c : Answer) → q ≡ Ok (Some c) → Ok (Some a) ≡ combined p q
    on_then_matched c f = rw (e, f)

-- nothing is counted where nothing is looked for
looked_unsought : (r : Query) (ls : List Line) → lines_looked Denied Deny false r ls ≡ 0
unfolding lines_looked
looked_unsought r ls = refl

sum_both : (a b : ℕ) → capped (capped a + capped b) ≡ capped (a + b)
sum_both a b = capped_left a (capped b) ∙ capped_add a b

-- an answer in the second text is looked for, and its rules are counted, only if the first one has none
combined_tally : (o o' : Option Refusal) (x x' : Option Answer) (a : ℕ) (d : Bool → ℕ) → d false ≡ 0
    → tallied (combined (pass_of o x) (pass_of o' (when is_unmatched (pass_of o x) then x' else None)))
    (capped ((tallied (pass_of o x) (capped a)).looked + (tallied (pass_of o' (when is_unmatched (pass_of o x) then x' else None))
    (capped (d (is_unmatched (pass_of o x))))).looked))
    ≡ tallied (pass_of (o or_else o') (x or_else x')) (capped (a + (when is_some x then 0 else d true)))
combined_tally (Some g) o' x x' a d z = refl
combined_tally None (Some g) None x' a d z = refl
combined_tally None None None None a d z = ap (tallied (Ok None)) (sum_both a (d true))
combined_tally None None None (Some c) a d z = ap (tallied (Ok (Some c))) (sum_both a (d true))
combined_tally None (Some g) (Some c) x' a d z = refl
combined_tally None None (Some c) x' a d z = ap (tallied (Ok (Some c))) (sum_both a (d false) ∙ ap (λ (n : ℕ). capped (a + n)) z)

pub both_pass : (r : Query) (allow deny : List ℕ)
    → (x : Tally) → x ≡ tallied (pass_text 1 Granted Allow true r allow) (capped (lines_looked Granted Allow true r (lines allow)))
    → (b : Bool) → b ≡ is_unmatched x.pass
    → (y : Tally) → y ≡ tallied (pass_text 2 Denied Deny b r deny) (capped (lines_looked Denied Deny b r (lines deny)))
    → (s : Result (Option Answer) Refusal) → s ≡ combined x.pass y.pass → (k : ℕ) → k ≡ capped (x.looked + y.looked) → (t : Tally) → t ≡ tallied s k
    → t ≡ tallied (pass_both r allow deny) (capped (both_looked r allow deny))
unfolding pass_both pass_text both_looked
both_pass r allow deny x is_x b is_b y is_y s is-s k is-k t is-t =
    let p : Result (Option Answer) Refusal = pass_text 1 Granted Allow true r allow in
    let a : ℕ = lines_looked Granted Allow true r (lines allow) in
    let d : Bool → ℕ = λ b. lines_looked Denied Deny b r (lines deny) in
    let px : x.pass ≡ p = ap (λ (z : Tally). z.pass) is_x ∙ tallied_pass p (capped a) in
    let bx : b ≡ is_unmatched p = is_b ∙ ap is_unmatched px in
    let yp : y ≡ tallied (pass_text 2 Denied Deny (is_unmatched p) r deny) (capped (d (is_unmatched p))) =
    is_y ∙ ap (λ (z : Bool). tallied (pass_text 2 Denied Deny z r deny) (capped (d z))) bx in
    let py : y.pass ≡ pass_text 2 Denied Deny (is_unmatched p) r deny =
    ap (λ (z : Tally). z.pass) yp ∙ tallied_pass (pass_text 2 Denied Deny (is_unmatched p) r deny) (capped (d (is_unmatched p))) in
    is-t ∙ ap₂ tallied (is-s ∙ ap₂ combined px py) (is-k ∙ ap₂ (λ (u v : Tally). capped (u.looked + v.looked)) is_x yp)
    ∙ combined_tally (hosts_fault_at 1 r.view allow) (hosts_fault_at 2 r.view deny) (first (line_answer Granted Allow (query_found r)) (lines allow))
    (first (line_answer Denied Deny (query_found r)) (lines deny)) a d (looked_unsought r (lines deny))

-- ## The ruling

module _ (a : Answer) (n : ℕ) (b : Bool) where
  pub request_sound : b ≡ true → record { ruling = Ok a; looked = n } ≡ refusing_request b a n
  request_sound e = rw e

  pub request_refused : b ≡ false → (g : Refusal) → g ≡ placeless F.BadRequest → (x : Reported) → x ≡ refused_report g → x ≡ refusing_request b a n
  request_refused e g is-g x is_x = is_x ∙ rw (e, is-g)

module _ (p : Result (Option Answer) Refusal) (x : Reported) where
  pub refuse_faulty : (g : Refusal) → p ≡ Err g → x ≡ refused_report g → x ≡ refused_by p
  refuse_faulty g e is_x = is_x ∙ rw e

  pub refuse_unmatched : p ≡ (Ok None) → (g : Refusal) → g ≡ placeless F.BadRequest → x ≡ refused_report g → x ≡ refused_by p
  refuse_unmatched e g is-g is_x = is_x ∙ rw (e, is-g)

  pub refuse_matched : (a : Answer) → p ≡ Ok (Some a) → (g : Refusal) → g ≡ placeless F.BadRequest → x ≡ refused_report g → x ≡ refused_by p
  refuse_matched a e g is-g is_x = is_x ∙ rw (e, is-g)

-- a doubt is a refusal; h is the request q as it is held
module _ (o : Option Refusal) (ts : List Table) (allow deny names : List ℕ) (q h : Places) (is-h : h ≡ held_at q) where
  abbrev given_request : Request
  given_request = request_at names q

  abbrev answer_held : Answer
  answer_held = search (match_of ts) allow deny (request_at names h)

  abbrev found_held : Searched
  found_held = searched answer_held (capped (looked ts allow deny (request_at names h)))

  abbrev ruled : Reported
  ruled = reported (o before decide_over ts allow deny (Some given_request)) (looked_over ts allow deny (Some given_request))

  ruled_held : reported (o before (when well_formed (request_at names h) then Ok answer_held else Err (placeless F.BadRequest))) found_held.looked
      ≡ ruled
  unfolding looked_over
  ruled_held = rw (held_at_lem names q h is-h, held_fits given_request)
      (by o (well_formed given_request) (search (match_of ts) allow deny (held given_request)) (capped (looked ts allow deny (held given_request))))
    where
      by : (o : Option Refusal) (b : Bool) (a : Answer) (n : ℕ)
          → reported (o before (when b then Ok a else Err (placeless F.BadRequest))) n
          ≡ reported (o before (when b then Ok a else Err (placeless F.BadRequest)))
          (number_of (when b then Ok n else Err (placeless F.BadRequest)))
      by (Some g) b a n = refl
      by None true a n = refl
      by None false a n = refl

  pub rule_answer_lem : (f : Option Searched) → f ≡ finding_of o found_held → (y : Searched) → f ≡ Some y
      → (b : Bool) → b ≡ well_formed (request_at names h) → (r : Reported) → r ≡ refusing_request b y.answer y.looked → r ≡ ruled
  rule_answer_lem f is_f y e b is_b r is-r = by o (sym is_f ∙ e) ∙ ruled_held
    where
      fits : (b : Bool) → refusing_request b answer_held found_held.looked
          ≡ reported (when b then Ok answer_held else Err (placeless F.BadRequest)) found_held.looked
      fits true = refl
      fits false = refl

      by : (o : Option Refusal) → finding_of o found_held ≡ Some y
          → r ≡ reported (o before (when well_formed (request_at names h) then Ok answer_held else Err (placeless F.BadRequest))) found_held.looked
      by None k =
          let same : found_held ≡ y = cc in
          is-r ∙ rw (← same, is_b) (fits (well_formed (request_at names h)))
      by (Some g) k = let z : ◌≡◌ {A = ℕ} 0 1 = cc in absurd (omega arith)

  pub rule_doubtful : (f : Option Searched) → f ≡ finding_of o found_held → f ≡ None
      → (p : Result (Option Answer) Refusal) → p ≡ pass_of o None → (r : Reported) → r ≡ refused_by p → r ≡ ruled
  rule_doubtful f is_f e p is-p r is-r = by o (sym is_f ∙ e) (is-r ∙ ap refused_by is-p)
    where
      by : (o : Option Refusal) → finding_of o found_held ≡ None → r ≡ refused_by (pass_of o None)
          → r ≡ reported (o before decide_over ts allow deny (Some given_request)) (looked_over ts allow deny (Some given_request))
      by None k l = let z : ◌≡◌ {A = ℕ} 0 1 = cc in absurd (omega arith)
      by (Some g) k l = l

module _ (allow deny : List ℕ) (r : Request) (x : Bool) (is_x : x ≡ ltb 16384 (length allow)) where
  pub decide_allow : x ≡ true → (g : Refusal) → g ≡ refusal F.OverLimit 1 0 → (z : Reported) → z ≡ refused_report g
      → z ≡ reported (decide allow deny (Some r)) (looked_over [] allow deny (Some r))
  unfolding decide
  decide_allow e g is-g z is-z = is-z ∙ rw (← is_x, e, is-g)

  module _ (within : x ≡ false) (y : Bool) (is_y : y ≡ ltb 16384 (length deny)) where
    pub decide_deny : y ≡ true → (g : Refusal) → g ≡ refusal F.OverLimit 2 0 → (z : Reported) → z ≡ refused_report g
        → z ≡ reported (decide allow deny (Some r)) (looked_over [] allow deny (Some r))
    unfolding decide
    decide_deny e g is-g z is-z = is-z ∙ rw (← is_x, within, ← is_y, e, is-g)

    pub decide_contents : y ≡ false → (q : Reported)
        → q ≡ reported (contents_fault allow deny [] before decide_over (tables_of []) allow deny (Some r)) (looked_over (tables_of []) allow deny (Some r))
        → q ≡ reported (decide allow deny (Some r)) (looked_over [] allow deny (Some r))
    unfolding decide contents_fault lines_fault read_tables
    decide_contents e q is-q = is-q ∙ sym (rw (← is_x, within, ← is_y, e))

module _ (allow deny tables : List ℕ) (r : Request) (x : Bool) (is_x : x ≡ ltb 16384 (length allow)) where
  abbrev tabled : Reported
  tabled = reported (decide_tables allow deny tables (Some r)) (looked_over (tables_of tables) allow deny (Some r))

  pub tabled_allow : x ≡ true → (g : Refusal) → g ≡ refusal F.OverLimit 1 0 → (z : Reported) → z ≡ refused_report g → z ≡ tabled
  unfolding decide_tables
  tabled_allow e g is-g z is-z = is-z ∙ rw (← is_x, e, is-g)

  module _ (within : x ≡ false) (y : Bool) (is_y : y ≡ ltb 16384 (length deny)) where
    pub tabled_deny : y ≡ true → (g : Refusal) → g ≡ refusal F.OverLimit 2 0 → (z : Reported) → z ≡ refused_report g → z ≡ tabled
    unfolding decide_tables
    tabled_deny e g is-g z is-z = is-z ∙ rw (← is_x, within, ← is_y, e, is-g)

    pub tabled_framed : y ≡ false → (q : Reported)
        → q ≡ reported ((tables_frame tables or_else contents_fault allow deny tables) before decide_over (tables_of tables) allow deny (Some r))
        (looked_over (tables_of tables) allow deny (Some r))
        → q ≡ tabled
    unfolding decide_tables contents_fault lines_fault
    tabled_framed short q is-q = is-q
        ∙ sym (rw (← is_x, within, ← is_y, short)
        (ap (λ (o : Option Refusal). reported (o before decide_over (tables_of tables) allow deny (Some r)) (looked_over (tables_of tables) allow deny (Some r)))
        (by (tables_frame tables) (hosts_fault S.allow allow) (hosts_fault S.deny deny) (tables_fault allow deny tables))))
      where
        by : (a b c d : Option Refusal) → (a or_else b or_else c or_else d) ≡ (a or_else (b or_else c or_else d))
        by None b c d = refl
        by (Some x) b c d = refl

module _ (allow deny tables : List ℕ) (r : Request) (f : Result ⊤ FrameFault) (is_f : f ≡ frame_of (read_tables tables)) where
  abbrev framed_report : Reported
  framed_report = reported ((tables_frame tables or_else contents_fault allow deny tables) before decide_over (tables_of tables) allow deny (Some r))
      (looked_over (tables_of tables) allow deny (Some r))

  pub framed_cut : f ≡ Err FrameFault.Cut → (g : Refusal) → g ≡ refusal F.CutShort 5 0 → (z : Reported) → z ≡ refused_report g → z ≡ framed_report
  framed_cut k g is-g z is-z = is-z ∙ rw (frame_cut tables f is_f k, is-g)

  pub framed_trailing : f ≡ Err FrameFault.Trailing → (g : Refusal) → g ≡ placeless F.TrailingBytes → (z : Reported) → z ≡ refused_report g → z ≡ framed_report
  framed_trailing k g is-g z is-z = is-z ∙ rw (frame_trailing tables f is_f k, is-g)

  pub framed_contents : f ≡ (Ok tt) → (q : Reported)
      → q ≡ reported (contents_fault allow deny tables before decide_over (tables_of tables) allow deny (Some r))
      (looked_over (tables_of tables) allow deny (Some r))
      → q ≡ framed_report
  framed_contents k q is-q = is-q ∙ sym (rw (frame_sound tables f is_f k))

  pub framed_whole : f ≡ (Ok tt) → tables_in tables ≡ tables_of tables
  framed_whole k = tables_in_of tables (sym is_f ∙ k)

-- no tables at all
pub untabled : (t : List ℕ) → tables_in (take 0 t) ≡ tables_of (take 0 t)
unfolding read_tables
untabled t = tables_none

-- ## The part of a file

module _ (allow deny : List ℕ) (a : Answer) (t : List ℕ) where
  pub command_allow : a.file ≡ Allow → t ≡ take a.command.len (drop a.command.place allow) → t ≡ command_bytes allow deny a
  command_allow e is-t = rw e is-t

  pub command_deny : a.file ≡ Deny → t ≡ take a.command.len (drop a.command.place deny) → t ≡ command_bytes allow deny a
  command_deny e is-t = rw e is-t
