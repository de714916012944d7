-- What each call answers, from what the calls in it answered.
-- Assumes nothing.
use Rattle.std.specs.Prelude.{Err, None, Ok, Option, Result, Some, unwrap_or}
use Prim.Native.Nat.{ℕ}
use mathlib.Core.Bool.{Bool, true, false, true≢false}
use mathlib.Core.List.{List, [], ◌∷◌}
use mathlib.Core.Path.{◌≡◌, refl, sym, ap, ap₂, ◌∙◌}
use lib.ListN.{length, replicate}
use Rattle.text.specs.Basics.{when◌then◌else◌, ◌or_else◌, is_some}
use Rattle.section.specs.declared.Fault.TheVariants as F
use Rattle.section.specs.declared.Refusal.{Refusal}
use Rattle.section.specs.Section as S
use Rattle.section.specs.Section.{bytes_at, over_limit}
use Rattle.section.specs.Refusal.{Outcome, placeless, ◌>>=◌, at_place, lowest, ◌before◌, fitting, within_room, written_of, lent_after}
use Rattle.section.proofs.RefusalLaws.{fitting_same}
use Rattle.address.specs.declared.Addr.{Addr}
use Rattle.address.specs.declared.Addr.TheVariants as A
use Rattle.address.specs.Address.{read_address, write_address}
use Rattle.elements.specs.declared.request.Request.{Request as Places}
use Rattle.elements.specs.Request.{Request, well_formed, held}
use Rattle.elements.specs.Places.{request_at}
use Rattle.rules.specs.declared.Answer.{Answer}
use Rattle.rules.specs.declared.Reported.{Reported}
use Rattle.rules.specs.Looked.{looked, number_of, looked_over, reported}
use Rattle.tables.specs.Tried.{capped}
use Rattle.tables.specs.Table.{Table, tables_of, tables_frame, match_of}
use Rattle.rules.specs.Search.{search, decide_over, decide, decide_tables, command_bytes}
use Rattle.rules.specs.Check.{hosts_fault, tables_fault}
use Rattle.expansion.specs.Expand.{expansion, expand}
use Rattle.lines.specs.Line.{join, has_bad_byte, is_too_long}
use Rattle.lines.specs.Command.{has_bad_percent}
use Rattle.byuid.specs.declared.Decision.{Decision as ByuidDecision}
use Rattle.byuid.specs.declared.Mark.{Mark}
use Rattle.byuid.specs.declared.Mark.TheVariants.{Plain}
use Rattle.byuid.specs.Byuid as Byuid
use Rattle.byuid.specs.Byuid.{byuid_fault, byuid_decision, decide_byuid}
use Rattle.authbind.specs.declared.Next.{Next}
use Rattle.authbind.specs.Authbind.{Step, asking, next_step, name_written, next_of}
use Rattle.portacl.specs.declared.Decision.{Decision as PortaclDecision}
use Rattle.portacl.specs.declared.Settings.{Settings}
use Rattle.portacl.specs.Portacl as Portacl
use Rattle.portacl.specs.Portacl.{portacl_fault, portacl_decision, decide_portacl}
use Rattle.sheet.specs.declared.Parts.{Parts}
use Rattle.sheet.specs.Sheet.{unpack}
use Rattle.matters.specs.declared.Place.{Place}
use Rattle.matters.specs.Matters.{settled, matters_over, name_matters, name_matters_tables, name_matters_sheet}
use Rattle.station.specs.Station.{in_sheet, decide_sheet, looked_in, looked_sheet, decide_byuid_sheet, decide_portacl_sheet}
use Rattle.codes.specs.declared.GateAddress.{GateAddress}
use Rattle.codes.specs.declared.GateAnswer.{GateAnswer}
use Rattle.codes.specs.declared.GateCommand.{GateCommand}
use Rattle.codes.specs.declared.GateNext.{GateNext}
use Rattle.codes.specs.declared.GateWritten.{GateWritten}
use Rattle.codes.specs.declared.request.Target.{Target}
use Rattle.codes.specs.Requests.{RequestNumbers, request, address_of, byuid_bind, byuid_file_bind, authbind_asked, portacl_bind, write_by}
use Rattle.codes.specs.Answers.{matters_answer, verdict_answer, byuid_answer, portacl_answer, written_answer, address_answer, Command, together, refusal_answer}
use Rattle.codes.specs.Answers.{with_count, command_answer, next_answer}
use Rattle.codes.specs.Code.{addr_by, mark_by, port_by, address_by, address_from, target_of}
use Rattle.codes.specs.Code.{matter_numbers, verdict_numbers, byuid_numbers, portacl_numbers, written_numbers, command_written, next_numbers, read_numbers}
use Rattle.gate.specs.Calls.{gate_command, gate_sheet_command}
use Rattle.codes.proofs.RequestLaws.{byuid_read, byuid_file_read, authbind_read, portacl_read}
use Rattle.codes.proofs.AnswerLaws.{matter_numbers_lem, verdict_numbers_lem, byuid_numbers_lem, portacl_numbers_lem, written_numbers_lem, next_numbers_lem, read_numbers_lem}
use Rattle.codes.proofs.AnswerLaws.{together_refused, together_kept, together_written, together_holds}

-- ## Verdicts and expansion: the request that was read is answered as the one handed over

abbrev decided_in : List ℕ → Option Request → Parts → Outcome Answer
decided_in sheet o p =
    decide_over (tables_of (bytes_at sheet p.tables)) (bytes_at sheet p.allow) (bytes_at sheet p.deny) o >>= λ a. Ok (in_sheet p a)

module _ (names : List ℕ) (q : Places) (n : RequestNumbers)
    (same : fitting well_formed (Some (request_at names q)) Ok ≡ fitting well_formed (request n) Ok) where
  over_read : (ts : List Table) (allow deny : List ℕ) → decide_over ts allow deny (Some (request_at names q)) ≡ decide_over ts allow deny (request n)
  over_read ts allow deny = fitting_same well_formed (λ r. Ok (search (match_of ts) allow deny (held r))) (Some (request_at names q)) (request n) same

  looked_read : (ts : List Table) (allow deny : List ℕ) → looked_over ts allow deny (Some (request_at names q)) ≡ looked_over ts allow deny (request n)
  unfolding looked_over
  looked_read ts allow deny =
      ap number_of (fitting_same well_formed (λ r. Ok (capped (looked ts allow deny (held r)))) (Some (request_at names q)) (request n) same)

  decide_read : (allow deny : List ℕ) → decide allow deny (Some (request_at names q)) ≡ decide allow deny (request n)
  unfolding decide
  decide_read allow deny =
      ap (λ (x : Outcome Answer). (over_limit S.allow allow or_else over_limit S.deny deny or_else hosts_fault S.allow allow or_else hosts_fault S.deny deny
      or_else tables_fault allow deny []) before x) (over_read [] allow deny)

  tables_read_lem : (allow deny tables : List ℕ) → decide_tables allow deny tables (Some (request_at names q)) ≡ decide_tables allow deny tables (request n)
  unfolding decide_tables
  tables_read_lem allow deny tables =
      ap (λ (x : Outcome Answer). (over_limit S.allow allow or_else over_limit S.deny deny or_else tables_frame tables or_else hosts_fault S.allow allow
      or_else hosts_fault S.deny deny or_else tables_fault allow deny tables) before x) (over_read (tables_of tables) allow deny)

  pub tables_verdict_by : (allow deny tables : List ℕ) (o : Reported) (a : GateAnswer)
      → o ≡ reported (decide_tables allow deny tables (Some (request_at names q))) (looked_over (tables_of tables) allow deny (Some (request_at names q)))
      → a ≡ verdict_numbers o → a ≡ verdict_answer (decide_tables allow deny tables (request n)) (looked_over (tables_of tables) allow deny (request n))
  tables_verdict_by allow deny tables o a e f =
      verdict_numbers_lem _ _ o a e f ∙ ap₂ verdict_answer (tables_read_lem allow deny tables) (looked_read (tables_of tables) allow deny)

  pub verdict_by : (allow deny : List ℕ) (o : Reported) (a : GateAnswer)
      → o ≡ reported (decide allow deny (Some (request_at names q))) (looked_over [] allow deny (Some (request_at names q)))
      → a ≡ verdict_numbers o → a ≡ verdict_answer (decide allow deny (request n)) (looked_over [] allow deny (request n))
  verdict_by allow deny o a e f = verdict_numbers_lem _ _ o a e f ∙ ap₂ verdict_answer (decide_read allow deny) (looked_read [] allow deny)

  sheet_read : (sheet : List ℕ) → decide_sheet sheet (Some (request_at names q)) ≡ decide_sheet sheet (request n)
  unfolding decide_sheet
  sheet_read sheet = by (unpack sheet)
    where
      by : (u : Outcome Parts) → (u >>= decided_in sheet (Some (request_at names q))) ≡ (u >>= decided_in sheet (request n))
      by (Err r) = refl
      by (Ok p) = ap (λ (x : Outcome Answer). x >>= λ a. Ok (in_sheet p a))
          (over_read (tables_of (bytes_at sheet p.tables)) (bytes_at sheet p.allow) (bytes_at sheet p.deny))

  sheet_looked_read : (sheet : List ℕ) → looked_sheet sheet (Some (request_at names q)) ≡ looked_sheet sheet (request n)
  unfolding looked_sheet
  sheet_looked_read sheet = by (unpack sheet)
    where
      by : (u : Outcome Parts) → looked_in sheet (Some (request_at names q)) u ≡ looked_in sheet (request n) u
      by (Err r) = refl
      by (Ok p) = looked_read (tables_of (bytes_at sheet p.tables)) (bytes_at sheet p.allow) (bytes_at sheet p.deny)

  pub sheet_verdict_by : (sheet : List ℕ) (o : Reported) (a : GateAnswer)
      → o ≡ reported (decide_sheet sheet (Some (request_at names q))) (looked_sheet sheet (Some (request_at names q)))
      → a ≡ verdict_numbers o → a ≡ verdict_answer (decide_sheet sheet (request n)) (looked_sheet sheet (request n))
  sheet_verdict_by sheet o a e f = verdict_numbers_lem _ _ o a e f ∙ ap₂ verdict_answer (sheet_read sheet) (sheet_looked_read sheet)

  over_matters : (ts : List Table) (allow deny : List ℕ) → matters_over ts allow deny (Some (request_at names q)) ≡ matters_over ts allow deny (request n)
  over_matters ts allow deny =
      fitting_same well_formed (λ r. Ok (settled (match_of ts) allow deny (held r))) (Some (request_at names q)) (request n) same

  pub matters_by : (allow deny : List ℕ) (m : Result (Option Place) Refusal) (a : GateAnswer) → m ≡ name_matters allow deny (Some (request_at names q))
      → a ≡ matter_numbers m → a ≡ matters_answer (name_matters allow deny (request n))
  unfolding name_matters
  matters_by allow deny m a e f =
      matter_numbers_lem _ m a e f
      ∙ ap₂ (λ (x : Outcome Answer) (y : Outcome (Option Place)). matters_answer (x >>= λ b. y)) (decide_read allow deny) (over_matters [] allow deny)

  pub tables_matters_by : (allow deny tables : List ℕ) (m : Result (Option Place) Refusal) (a : GateAnswer)
      → m ≡ name_matters_tables allow deny tables (Some (request_at names q))
      → a ≡ matter_numbers m → a ≡ matters_answer (name_matters_tables allow deny tables (request n))
  unfolding name_matters_tables
  tables_matters_by allow deny tables m a e f =
      matter_numbers_lem _ m a e f
      ∙ ap₂ (λ (x : Outcome Answer) (y : Outcome (Option Place)). matters_answer (x >>= λ b. y))
      (tables_read_lem allow deny tables) (over_matters (tables_of tables) allow deny)

  pub sheet_matters_by : (sheet : List ℕ) (m : Result (Option Place) Refusal) (a : GateAnswer) → m ≡ name_matters_sheet sheet (Some (request_at names q))
      → a ≡ matter_numbers m → a ≡ matters_answer (name_matters_sheet sheet (request n))
  unfolding name_matters_sheet
  sheet_matters_by sheet m a e f =
      matter_numbers_lem _ m a e f
      ∙ ap₂ (λ (x : Outcome Answer) (y : Outcome (Option Place)). matters_answer (x >>= λ b. y)) (sheet_read sheet) (by (unpack sheet))
    where
      by : (u : Outcome Parts) → (u >>= λ p. matters_over (tables_of (bytes_at sheet p.tables)) (bytes_at sheet p.allow) (bytes_at sheet p.deny)
          (Some (request_at names q)))
          ≡ (u >>= λ p. matters_over (tables_of (bytes_at sheet p.tables)) (bytes_at sheet p.allow) (bytes_at sheet p.deny) (request n))
      by (Err r) = refl
      by (Ok p) = over_matters (tables_of (bytes_at sheet p.tables)) (bytes_at sheet p.allow) (bytes_at sheet p.deny)

  module _ (command out : List ℕ) (process : ℕ) where
    expand_read : expand command (Some (request_at names q)) process (length out) ≡ expand command (request n) process (length out)
    unfolding expand
    expand_read =
        ap (λ (x : Outcome (List ℕ)). at_place 0 0
        (lowest ((F.BadByte, has_bad_byte (join command)) ∷ (F.LongLine, is_too_long (join command)) ∷ (F.BadPercent, has_bad_percent command) ∷ [])) before x)
        (fitting_same well_formed (λ r. within_room (length out) (expansion (held r) process command)) (Some (request_at names q)) (request n) same)

    pub expand_answer : (w : Result ℕ Refusal) (a : GateWritten) → w ≡ written_of (expand command (Some (request_at names q)) process (length out))
        → a ≡ written_numbers w → a ≡ written_answer (expand command (request n) process (length out))
    expand_answer w a e f = written_numbers_lem _ w a e f ∙ ap written_answer expand_read

    pub expand_holds : (out' : List ℕ) → out' ≡ lent_after out (expand command (Some (request_at names q)) process (length out))
        → out' ≡ lent_after out (expand command (request n) process (length out))
    expand_holds out' e = e ∙ ap (lent_after out) expand_read

  -- ## A verdict, and its command: d is the verdict on the request handed over, k what was looked at for it, raw its command

  module _ (d : Outcome Answer) (k : ℕ) (raw : Answer → List ℕ) (out : List ℕ) (process : ℕ) (x : Reported) (is_x : x ≡ reported d k) where
    ruling_is : x.ruling ≡ (reported d k).ruling
    ruling_is = ap (λ (y : Reported). y.ruling) is_x

    commanded : Outcome Command
    commanded = together d (λ a. expand (raw a) (request n) process (length out))

    refusal_answer_lem : (g : Refusal) → x.ruling ≡ Err g → (a : GateCommand) → a ≡ with_count (refusal_answer g) 0 → a ≡ command_answer commanded k
    unfolding commanded
    refusal_answer_lem g e a f = f ∙ together_refused out d k (λ a. expand (raw a) (request n) process (length out)) g (sym ruling_is ∙ e)

    refusal_kept : (g : Refusal) → x.ruling ≡ Err g → out ≡ lent_after out (commanded >>= λ c. Ok c.text)
    unfolding commanded
    refusal_kept g e = together_kept out d k (λ a. expand (raw a) (request n) process (length out)) g (sym ruling_is ∙ e)

    module _ (b : Answer) (e : x.ruling ≡ Ok b) (c : List ℕ) (is_c : c ≡ raw b) where
      expand_raw : expand c (Some (request_at names q)) process (length out) ≡ expand (raw b) (request n) process (length out)
      expand_raw = expand_read c out process ∙ ap (λ (s : List ℕ). expand s (request n) process (length out)) is_c

      written_answer_lem : (w : Result ℕ Refusal) → w ≡ written_of (expand c (Some (request_at names q)) process (length out))
          → (a : GateCommand) → a ≡ command_written b x.looked w → a ≡ command_answer commanded k
      unfolding commanded
      written_answer_lem w is-w a f =
          f ∙ ap (λ (y : Reported). command_written b y.looked w) is_x
          ∙ together_written out d k (λ a. expand (raw a) (request n) process (length out)) b (sym ruling_is ∙ e) w (is-w ∙ ap written_of expand_raw)

      written_holds : (o : List ℕ) → o ≡ lent_after out (expand c (Some (request_at names q)) process (length out))
          → o ≡ lent_after out (commanded >>= λ c. Ok c.text)
      unfolding commanded
      written_holds o f = f ∙ ap (lent_after out) expand_raw ∙ together_holds out d k (λ a. expand (raw a) (request n) process (length out)) b
          (sym ruling_is ∙ e)

  module _ (allow deny out : List ℕ) (process : ℕ) (x : Reported)
      (is_x : x ≡ reported (decide allow deny (Some (request_at names q))) (looked_over [] allow deny (Some (request_at names q))))
    where
      by_texts_lem : x ≡ reported (decide allow deny (request n)) (looked_over [] allow deny (request n))
      by_texts_lem = is_x ∙ ap₂ reported (decide_read allow deny) (looked_read [] allow deny)

      pub command_refused : (g : Refusal) → x.ruling ≡ Err g → (a : GateCommand) → a ≡ with_count (refusal_answer g) 0 → a
          ≡ (gate_command allow deny n process out).answer
      unfolding commanded
      command_refused = refusal_answer_lem (decide allow deny (request n)) (looked_over [] allow deny (request n)) (command_bytes allow deny) out process x by_texts_lem

      pub command_kept : (g : Refusal) → x.ruling ≡ Err g → out ≡ (gate_command allow deny n process out).out
      unfolding commanded
      command_kept = refusal_kept (decide allow deny (request n)) (looked_over [] allow deny (request n)) (command_bytes allow deny) out process x by_texts_lem

      module _ (b : Answer) (e : x.ruling ≡ Ok b) (c : List ℕ) (is_c : c ≡ command_bytes allow deny b) where
        pub command_answer_lem : (w : Result ℕ Refusal) → w ≡ written_of (expand c (Some (request_at names q)) process (length out))
            → (a : GateCommand) → a ≡ command_written b x.looked w → a ≡ (gate_command allow deny n process out).answer
        unfolding commanded
        command_answer_lem = written_answer_lem (decide allow deny (request n)) (looked_over [] allow deny (request n))
            (command_bytes allow deny) out process x by_texts_lem b e c is_c

        pub command_holds : (o : List ℕ) → o ≡ lent_after out (expand c (Some (request_at names q)) process (length out)) → o
            ≡ (gate_command allow deny n process out).out
        unfolding commanded
        command_holds = written_holds (decide allow deny (request n)) (looked_over [] allow deny (request n))
            (command_bytes allow deny) out process x by_texts_lem b e c is_c

  module _ (sheet out : List ℕ) (process : ℕ) (x : Reported)
      (is_x : x ≡ reported (decide_sheet sheet (Some (request_at names q))) (looked_sheet sheet (Some (request_at names q))))
    where
      by_sheet_lem : x ≡ reported (decide_sheet sheet (request n)) (looked_sheet sheet (request n))
      by_sheet_lem = is_x ∙ ap₂ reported (sheet_read sheet) (sheet_looked_read sheet)

      pub sheet_command_refused : (g : Refusal) → x.ruling ≡ Err g → (a : GateCommand) → a ≡ with_count (refusal_answer g) 0 → a
          ≡ (gate_sheet_command sheet n process out).answer
      unfolding commanded
      sheet_command_refused = refusal_answer_lem (decide_sheet sheet (request n)) (looked_sheet sheet (request n))
          (λ a. bytes_at sheet a.command) out process x by_sheet_lem

      pub sheet_command_kept : (g : Refusal) → x.ruling ≡ Err g → out ≡ (gate_sheet_command sheet n process out).out
      unfolding commanded
      sheet_command_kept = refusal_kept (decide_sheet sheet (request n)) (looked_sheet sheet (request n)) (λ a. bytes_at sheet a.command) out process x by_sheet_lem

      module _ (b : Answer) (e : x.ruling ≡ Ok b) (c : List ℕ) (is_c : c ≡ bytes_at sheet b.command) where
        pub sheet_command_answer : (w : Result ℕ Refusal) → w ≡ written_of (expand c (Some (request_at names q)) process (length out))
            → (a : GateCommand) → a ≡ command_written b x.looked w → a ≡ (gate_sheet_command sheet n process out).answer
        unfolding commanded
        sheet_command_answer = written_answer_lem (decide_sheet sheet (request n)) (looked_sheet sheet (request n))
            (λ a. bytes_at sheet a.command) out process x by_sheet_lem b e c is_c

        pub sheet_command_holds : (o : List ℕ) → o ≡ lent_after out (expand c (Some (request_at names q)) process (length out))
            → o ≡ (gate_sheet_command sheet n process out).out
        unfolding commanded
        sheet_command_holds = written_holds (decide_sheet sheet (request n)) (looked_sheet sheet (request n))
            (λ a. bytes_at sheet a.command) out process x by_sheet_lem b e c is_c

-- ## The port decisions

abbrev decided_by : List ℕ → Byuid.FileBind → Outcome ByuidDecision
decided_by text b = Ok (byuid_decision text b.mark b.asked.port b.asked.address b.asked.uid)

module _ (mark port kind high low uid : ℕ) (m : Mark) (is_m : m ≡ mark_by mark) (p : ℕ) (is-p : p ≡ port_by port)
    (b : Addr) (is_b : b ≡ address_from mark port kind high low) (o : Outcome ByuidDecision) (a : GateAnswer) (text : List ℕ) where
  file_bind_read : decide_byuid text (Some (Byuid.file_bind m (Byuid.bind p b uid))) ≡ decide_byuid text (byuid_file_bind mark port kind high low uid)
  unfolding decide_byuid
  file_bind_read =
      ap (λ (x : Outcome ByuidDecision). (over_limit S.byuid text or_else byuid_fault text) before x)
      (byuid_file_read port kind high low uid p is-p (decided_by text) mark m is_m b is_b)

  pub byuid_by : o ≡ decide_byuid text (Some (Byuid.file_bind m (Byuid.bind p b uid))) → a ≡ byuid_numbers o
      → a ≡ byuid_answer (decide_byuid text (byuid_file_bind mark port kind high low uid))
  byuid_by e f = byuid_numbers_lem _ o a e f ∙ ap byuid_answer file_bind_read

module _ (port kind high low uid p : ℕ) (b : Addr) (is-p : p ≡ port_by port) (is_b : b ≡ address_by port kind high low) (o : Outcome ByuidDecision) (a : GateAnswer) where
  bind_read : (text : List ℕ)
      → decide_byuid text (Byuid.from_file Plain (Some (Byuid.bind p b uid))) ≡ decide_byuid text (Byuid.from_file Plain (byuid_bind port kind high low uid))
  unfolding decide_byuid
  bind_read text =
      ap (λ (x : Outcome ByuidDecision). (over_limit S.byuid text or_else byuid_fault text) before x)
      (byuid_read port kind high low uid p is-p (decided_by text) Plain b is_b)

  sheet_bind_read : (sheet : List ℕ) → decide_byuid_sheet sheet (Some (Byuid.bind p b uid)) ≡ decide_byuid_sheet sheet (byuid_bind port kind high low uid)
  unfolding decide_byuid_sheet
  sheet_bind_read sheet = by (unpack sheet)
    where
      by : (u : Outcome Parts) → (u >>= λ x. decide_byuid (bytes_at sheet x.byuid) (Byuid.from_file Plain (Some (Byuid.bind p b uid))))
          ≡ (u >>= λ x. decide_byuid (bytes_at sheet x.byuid) (Byuid.from_file Plain (byuid_bind port kind high low uid)))
      by (Err r) = refl
      by (Ok x) = bind_read (bytes_at sheet x.byuid)

  pub sheet_byuid_by : (sheet : List ℕ) → o ≡ decide_byuid_sheet sheet (Some (Byuid.bind p b uid)) → a ≡ byuid_numbers o
      → a ≡ byuid_answer (decide_byuid_sheet sheet (byuid_bind port kind high low uid))
  sheet_byuid_by sheet e f = byuid_numbers_lem _ o a e f ∙ ap byuid_answer (sheet_bind_read sheet)

module _ (uid protocol port : ℕ) (s : Settings) (groups groups' : List ℕ) (x : Target)
    (is_x : x ≡ target_of protocol port) (is-groups : groups' ≡ (when x.fit then groups else replicate 17 0)) (o : Outcome PortaclDecision) (a : GateAnswer) where
  entry_read : (text : List ℕ) → decide_portacl text s (Some (Portacl.bind uid groups' x.protocol x.port))
      ≡ decide_portacl text s (portacl_bind uid groups protocol port)
  unfolding decide_portacl
  entry_read text =
      ap (λ (y : Outcome PortaclDecision). (over_limit S.portacl text or_else portacl_fault text) before y)
      (portacl_read uid protocol port groups groups' x is_x is-groups (λ b. Ok (portacl_decision text s b)))

  pub portacl_by : (text : List ℕ) → o ≡ decide_portacl text s (Some (Portacl.bind uid groups' x.protocol x.port))
      → a ≡ portacl_numbers o → a ≡ portacl_answer (decide_portacl text s (portacl_bind uid groups protocol port))
  portacl_by text e f = portacl_numbers_lem _ o a e f ∙ ap portacl_answer (entry_read text)

  sheet_entry_read : (sheet : List ℕ)
      → decide_portacl_sheet sheet s (Some (Portacl.bind uid groups' x.protocol x.port)) ≡ decide_portacl_sheet sheet s (portacl_bind uid groups protocol port)
  unfolding decide_portacl_sheet
  sheet_entry_read sheet = by (unpack sheet)
    where
      by : (u : Outcome Parts) → (u >>= λ y. decide_portacl (bytes_at sheet y.portacl) s (Some (Portacl.bind uid groups' x.protocol x.port)))
          ≡ (u >>= λ y. decide_portacl (bytes_at sheet y.portacl) s (portacl_bind uid groups protocol port))
      by (Err r) = refl
      by (Ok y) = entry_read (bytes_at sheet y.portacl)

  pub sheet_portacl_by : (sheet : List ℕ) → o ≡ decide_portacl_sheet sheet s (Some (Portacl.bind uid groups' x.protocol x.port))
      → a ≡ portacl_numbers o → a ≡ portacl_answer (decide_portacl_sheet sheet s (portacl_bind uid groups protocol port))
  sheet_portacl_by sheet e f = portacl_numbers_lem _ o a e f ∙ ap portacl_answer (sheet_entry_read sheet)

-- ## Addresses

pub read_by : (text : List ℕ) (x : Result Addr Refusal) (a : GateAddress) → x ≡ read_address text → a ≡ read_numbers x → a ≡ address_answer (read_address text)
read_by text x a e f = read_numbers_lem _ x a e f

module _ (kind high low : ℕ) (out : List ℕ) (b : Bool) (is_b : b ≡ is_some (address_of kind high low)) where
  write_known : b ≡ true → (x : Addr) → x ≡ addr_by kind high low → write_address x (length out) ≡ write_by kind high low (length out)
  unfolding write_by
  write_known e x f = by (address_of kind high low) (sym is_b ∙ e) f
    where
      by : (o : Option Addr) → is_some o ≡ true → x ≡ unwrap_or o A.Unknown → write_address x (length out)
          ≡ fitting (λ a. true) o (λ a. write_address a (length out))
      by None k g = absurd (true≢false (sym k))
      by (Some y) k g = ap (λ (z : Addr). write_address z (length out)) g

  write_unknown : b ≡ false → (r : Refusal) → r ≡ placeless F.BadRequest → Err r ≡ write_by kind high low (length out)
  unfolding write_by
  write_unknown e r f = by (address_of kind high low) (sym is_b ∙ e)
    where
      by : (o : Option Addr) → is_some o ≡ false → Err r ≡ fitting (λ a. true) o (λ a. write_address a (length out))
      by None k = ap Err f
      by (Some y) k = absurd (true≢false k)

  module _ (w : Result ℕ Refusal) (a : GateWritten) (is-a : a ≡ written_numbers w) where
    pub write_answer : b ≡ true → (x : Addr) → x ≡ addr_by kind high low → w ≡ written_of (write_address x (length out))
        → a ≡ written_answer (write_by kind high low (length out))
    write_answer e x f g = written_numbers_lem _ w a g is-a ∙ ap written_answer (write_known e x f)

    pub write_refusal : b ≡ false → (r : Refusal) → r ≡ placeless F.BadRequest → w ≡ Err r
        → a ≡ written_answer (write_by kind high low (length out))
    write_refusal e r f g = written_numbers_lem (Err r) w a g is-a ∙ ap written_answer (write_unknown e r f)

  pub write_holds : b ≡ true → (x : Addr) → x ≡ addr_by kind high low → (out' : List ℕ) → out' ≡ lent_after out (write_address x (length out))
      → out' ≡ lent_after out (write_by kind high low (length out))
  write_holds e x f out' g = g ∙ ap (lent_after out) (write_known e x f)

  pub write_kept : b ≡ false → out ≡ lent_after out (write_by kind high low (length out))
  write_kept e = ap (lent_after out) (write_unknown e (placeless F.BadRequest) refl)

-- ## authbind's order

module _ (port kind high low uid : ℕ) (answers out : List ℕ) (p : ℕ) (is-p : p ≡ port_by port) (b : Addr) (is_b : b ≡ address_by port kind high low) where
  asked_read : next_step (asking answers (Byuid.bind p b uid)) (length out) ≡ next_step (authbind_asked port kind high low uid answers) (length out)
  asked_read = authbind_read port kind high low uid p is-p answers (length out) b is_b

  pub authbind_answer : (x : Next) (a : GateNext) → x ≡ next_of (next_step (asking answers (Byuid.bind p b uid)) (length out)) → a ≡ next_numbers x
      → a ≡ next_answer (next_step (authbind_asked port kind high low uid answers) (length out))
  authbind_answer x a e f = next_numbers_lem _ x a e f ∙ ap next_answer asked_read

  pub authbind_holds : (out' : List ℕ) → out' ≡ lent_after out (name_written (next_step (asking answers (Byuid.bind p b uid)) (length out)))
      → out' ≡ lent_after out (name_written (next_step (authbind_asked port kind high low uid answers) (length out)))
  authbind_holds out' e = e ∙ ap (λ (o : Outcome Step). lent_after out (name_written o)) asked_read
