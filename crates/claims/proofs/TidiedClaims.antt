-- Request 6: what gate_propose proposes is the most that gate_drop accepts, only the named rules go, and every verdict is the same but for its line.
-- Assumes nothing.
use Rattle.std.specs.Prelude.{Err, None, Ok, Option, Some, unwrap_or}
use Prim.Native.Nat.{ℕ, suc, ◌+◌, ◌≤◌}
use mathlib.Core.Bool.{Bool, true, false, ◌||◌, true≢false, or-true}
use mathlib.Core.List.{List, [], ◌∷◌}
use mathlib.Core.Path.{◌≡◌, refl, sym, ap, subst, ◌∙◌}
use native.Mathlib.Omega.{arith}
use borrow.Author.Tests.{eq-eqb, eqb-true}
use lib.Dec.{eqb}
use lib.ListN.{length}
use Rattle.text.specs.Basics.{when◌then◌else◌, ◌or_else◌, any}
use Rattle.text.specs.Number.{from_digits}
use Rattle.text.specs.Words.{word_bytes, read_words}
use Rattle.section.specs.declared.Fault.TheVariants as F
use Rattle.section.specs.declared.Part.{Part}
use Rattle.section.specs.declared.Refusal.{Refusal}
use Rattle.section.specs.Refusal.{Outcome, ◌>>=◌, ◌before◌, placeless}
use Rattle.section.specs.Section as S
use Rattle.section.specs.Section.{Section, part, bytes_at, over_limit}
use Rattle.lines.specs.Line.{lines}
use Rattle.tables.specs.Table.{Table, read_each, read_tables, tables_of, tables_frame, first_table, bad_table_fault, match_of}
use Rattle.elements.specs.Request.{Request, held}
use Rattle.rules.specs.declared.Answer.{Answer}
use Rattle.rules.specs.declared.File.{File}
use Rattle.rules.specs.declared.File.TheVariants.{Neither, Allow, Deny}
use Rattle.rules.specs.Check.{hosts_fault, missing_fault, depth_fault, tables_fault}
use Rattle.rules.specs.Search.{file_section, answer, decide_over, decide, decide_tables, command_bytes}
use Rattle.rules.specs.Looked.{looked_over}
use Rattle.rules.proofs.PlaceLaws.{file_length, search_within}
use Rattle.byuid.specs.Byuid.{byuid_fault}
use Rattle.portacl.specs.Portacl.{portacl_fault}
use Rattle.tidy.specs.Tidy.{accepts, proposal, dropped, removed_above, section_of, file_fault, propose, numbers_of, drop_rules}
use Rattle.tidy.specs.Code.{Sound}
use Rattle.tidy.proofs.CheckLaws.{file_parts, hosts_sound}
use Rattle.tidy.proofs.ProposalLaws.{proposal_accepted, accepted_within}
use Rattle.tidy.proofs.NumberLaws.{Rises}
use Rattle.tidy.proofs.NewFileLaws.{length_dropped, file_stays, again}
use Rattle.tidy.proofs.CallLaws.{Dropped, drop_answered, answered_drop, Proposed, propose_answered, answered_propose, text_limit}
use Rattle.tidy.proofs.CallLaws.{proposal_rises, read_proposal, accepted_rules, lines_dropped, nothing_dropped}
use Rattle.tidy.proofs.VerdictLaws as Tidy
use Rattle.tidy.proofs.VerdictLaws.{in_allow, in_deny, Alike, decide_allow, decide_deny}
use Rattle.sheet.specs.declared.Parts.{Parts}
use Rattle.sheet.specs.Sheet.{Texts, texts, texts_at, texts_fault, unpack, sheet_of, pack}
use Rattle.sheet.proofs.FrameLaws.{parts_of, pack_answered, answered_pack, unpack_answered, answered_frame}
use Rattle.sheet.proofs.PackLaws.{length_sheet_of}
use Rattle.sheet.proofs.SheetLaws as Sheet
use Rattle.station.specs.Station.{in_sheet, decide_sheet, looked_sheet}
use Rattle.station.proofs.DecideLaws.{over_search, command_bytes_lem}
use Rattle.codes.specs.declared.GateAnswer.{GateAnswer}
use Rattle.codes.specs.Requests.{RequestNumbers, request}
use Rattle.codes.specs.Answers.{verdict_word, refusal_answer, answer_numbers, verdict_answer, written_answer, count_written}
use Rattle.gate.specs.Calls.{gate_pack, gate_propose, gate_drop}
use Rattle.claims.specs.Tidied.{front, proposed, new_file, Proposes, Drops, Ascend, Distinct, Within, TidyProposals, all_lines, TidiedFiles}
use Rattle.claims.specs.Tidied.{Said, found_in_texts, found_in_sheet, by_two_texts, by_texts, by_sheet, no_tables}
use Rattle.claims.specs.Tidied.{SameVerdict, with_allow, with_deny, TidiedVerdicts}
use Rattle.claims.proofs.AnswerLaws.{written_answered, front_answered}
use Rattle.claims.proofs.SheetClaims.{sound_texts}

-- ## What the calls wrote

module _ (text tables : List ℕ) (section : ℕ) (out : List ℕ) (e : Proposes text tables section out) where
  proposing : Proposed section text tables (front (gate_propose text tables section out))
  proposing =
      let w = written_answered out (propose section text tables (length out)) e in
      subst (Proposed section text tables) (sym w.2) (propose_answered section text tables (length out) w.0 w.1)

  read : read_words (front (gate_propose text tables section out)) ≡ Some (proposal text)
  read = ap read_words proposing.bytes ∙ read_proposal text (text_limit section text tables proposing.section proposing.is_section proposing.sound)

  is_proposed : proposed text tables section out ≡ proposal text
  is_proposed = ap (λ (o : Option (List ℕ)). unwrap_or o []) read

dropping : (text tables : List ℕ) (section : ℕ) (proposal out : List ℕ) → Drops text tables section proposal out
    → Dropped section text tables proposal (new_file text tables section proposal out)
dropping text tables section p out e =
    let w = written_answered out (drop_rules section text tables p (length out)) e in
    subst (Dropped section text tables p) (sym w.2) (drop_answered section text tables p (length out) w.0 w.1)

-- a call is answered
module _ (out : List ℕ) (o : Outcome (List ℕ)) (t : List ℕ) (e : o ≡ Ok t) where
  is_answered : (written_answer o).number ≡ 0
  unfolding written_answer
  is_answered = rw e

  counts : written_answer o ≡ count_written (length t)
  unfolding written_answer
  counts = rw e

-- ## The most

ascend_rises : (n m : ℕ) (ns : List ℕ) → Rises n m ns → Ascend n ns
unfolding Ascend
ascend_rises n m [] r = tt
ascend_rises n m (k ∷ ns) r = (r.0, ascend_rises (suc k) m ns r.1.1)

-- the numbers without the first that is n
without : ℕ → List ℕ → List ℕ
without n [] = []
without n (m ∷ ms) = when eqb n m then ms else (m ∷ without n ms)

length_without : (n : ℕ) (ms : List ℕ) → any (eqb n) ms ≡ true → suc (length (without n ms)) ≡ length ms
unfolding any without
length_without n [] e = absurd (true≢false (sym e))
length_without n (m ∷ ms) e = by (eqb n m) e (length_without n ms)
  where
    by : (b : Bool) → (b || any (eqb n) ms) ≡ true → (any (eqb n) ms ≡ true → suc (length (without n ms)) ≡ length ms)
        → suc (length (when b then ms else (m ∷ without n ms))) ≡ suc (length ms)
    by true k ih = refl
    by false k ih = ap suc (ih k)

others_without : (n k : ℕ) (ms : List ℕ) → eqb k n ≡ false → any (eqb k) ms ≡ true → any (eqb k) (without n ms) ≡ true
unfolding any without
others_without n k [] d e = e
others_without n k (m ∷ ms) d e = by (eqb n m) refl (eqb k m) refl e (others_without n k ms d)
  where
    by : (b : Bool) → eqb n m ≡ b → (c : Bool) → eqb k m ≡ c → (c || any (eqb k) ms) ≡ true
        → (any (eqb k) ms ≡ true → any (eqb k) (without n ms) ≡ true) → any (eqb k) (when b then ms else (m ∷ without n ms)) ≡ true
    by true p true q z ih = absurd (true≢false (sym (eq-eqb k n (eqb-true k m q ∙ sym (eqb-true n m p))) ∙ d))
    by true p false q z ih = z
    by false p true q z ih = rw q
    by false p false q z ih = rw q (ih z)

fewer : (ns ms : List ℕ) → Distinct ns → Within ns ms → length ns ≤ length ms
unfolding any Distinct
fewer [] ms d w = omega arith
fewer (n ∷ ns) ms d w =
    let there : any (eqb n) ms ≡ true = w n (rw (eq-eqb n n refl)) in
    omega (
      arith,
      length_without n ms there,
      fewer ns (without n ms) d.1 (λ k e. others_without n k ms (other k e (eqb k n) refl) (w k (rw e (or-true (eqb k n))))),
    )
  where
    other : (k : ℕ) → any (eqb k) ns ≡ true → (b : Bool) → eqb k n ≡ b → eqb k n ≡ false
    other k e true q = absurd (true≢false (sym e ∙ (ap (λ (x : ℕ). any (eqb x) ns) (eqb-true k n q) ∙ d.0)))
    other k e false q = q

module _ (text tables : List ℕ) (section : ℕ) (out : List ℕ) (e : Proposes text tables section out) where
  is_accepted : (room : List ℕ) → length text ≤ length room → Drops text tables section (front (gate_propose text tables section out)) room
  is_accepted room h =
      let p = proposing text tables section out e in
      is_answered room (drop_rules section text tables (front (gate_propose text tables section out)) (length room)) (dropped (proposal text) text)
      (answered_drop section text tables (front (gate_propose text tables section out)) (length room) (proposal text) p.section p.is_section p.sound
      (read text tables section out e) (proposal_accepted text) (omega (arith, h, length_dropped (proposal text) text)))

  no_other : (p room : List ℕ) → Drops text tables section p room → Within (numbers_of p) (proposed text tables section out)
  no_other p room d n k =
      ap (any (eqb n)) (is_proposed text tables section out e) ∙ accepted_within text (numbers_of p) (dropping text tables section p room d).good n k

pub tidy_proposals : TidyProposals
tidy_proposals = record {
  in_order_lem = λ text tables section out e.
      let p = proposing text tables section out e in
      subst (Ascend 1) (sym (is_proposed text tables section out e))
      (ascend_rises 1 16385 (proposal text) (proposal_rises text (text_limit section text tables p.section p.is_section p.sound)));
  proposed_accepted = λ text tables section out room e h. is_accepted text tables section out e room h;
  names_no_other = λ text tables section out p room e d. no_other text tables section out e p room d;
  none_longer = λ text tables section out p room e d differ.
      fewer (numbers_of p) (proposed text tables section out) differ (no_other text tables section out e p room d);
}

-- ## The new file

module _ (text tables : List ℕ) (section : ℕ) (p out : List ℕ) (e : Drops text tables section p out) where
  abbrev new : List ℕ
  new = new_file text tables section p out

  new_sound : file_fault (dropping text tables section p out e).section new tables ≡ None
  new_sound =
      let d = dropping text tables section p out e in
      ap (λ (t : List ℕ). file_fault d.section t tables) d.bytes ∙ file_stays (numbers_of p) d.section text tables d.sound

  comes_back : (room : List ℕ) → length new ≤ length room → drop_rules section new tables [] (length room) ≡ Ok new
  unfolding read_words
  comes_back room h =
      let d = dropping text tables section p out e in
      let same = nothing_dropped d.section new tables new_sound in
      answered_drop section new tables [] (length room) [] d.section d.is_section new_sound refl same.0 (omega (arith, h, ap length same.1))
      ∙ ap Ok same.1

nothing_left : (text tables : List ℕ) (section : ℕ) (out room other : List ℕ) (e : Proposes text tables section out)
    → Drops text tables section (front (gate_propose text tables section out)) room
    → (gate_propose (new_file text tables section (front (gate_propose text tables section out)) room) tables section other).answer ≡ count_written 0
unfolding word_bytes Sound
nothing_left text tables section out room other e d =
    let p : List ℕ = front (gate_propose text tables section out) in
    let x = dropping text tables section p room d in
    let numbers : numbers_of p ≡ proposal text = is_proposed text tables section out e in
    let none_more : proposal (new_file text tables section p room) ≡ [] =
    ap proposal (x.bytes ∙ ap (λ (ns : List ℕ). dropped ns text) numbers)
    ∙ again text (hosts_sound x.section text (file_parts x.section text tables x.sound).1.1.0) in
    counts other (propose section (new_file text tables section p room) tables (length other)) []
    (answered_propose section (new_file text tables section p room) tables (length other) x.section x.is_section (new_sound text tables section p room d)
    (rw none_more (omega arith)) ∙ ap Ok (ap word_bytes none_more))

pub tidied_files : TidiedFiles
unfolding Sound
tidied_files = record {
  rules_go = λ text tables section p out e. accepted_rules text (numbers_of p) (dropping text tables section p out e).good;
  others_stay = λ text tables section p out e.
      let d = dropping text tables section p out e in
      ap all_lines d.bytes
      ∙ lines_dropped (numbers_of p) text (hosts_sound d.section text (file_parts d.section text tables d.sound).1.1.0);
  no_longer = λ text tables section p out e.
      omega (arith, ap length (dropping text tables section p out e).bytes, length_dropped (numbers_of p) text);
  new_accepted = λ text tables section p out room e h.
      let back = comes_back text tables section p out e room h in (
        is_answered room (drop_rules section (new_file text tables section p out) tables [] (length room)) (new_file text tables section p out) back,
        front_answered room (drop_rules section (new_file text tables section p out) tables [] (length room)) (new_file text tables section p out) back,
      );
  nothing_again = nothing_left;
}

-- ## Verdicts

-- b is the answer to a request by new files, a that by the old ones: each with its command at a place c, found by s
module _ (allow deny newAllow new_deny : List ℕ) (section : ℕ) (text ns : List ℕ) (moved : File → ℕ → ℕ)
    (moved-is : (f : File) (k : ℕ) → moved f k ≡ (when eqb (file_section f) section then k else 0))
    (c d : Answer → Part) (s u : GateAnswer → List ℕ) where
  abbrev Same : Answer → Answer → Type 0
  Same a b = Tidy.SameVerdict allow deny newAllow new_deny (moved a.file (removed_above ns a.line (lines text))) a b

  abbrev at : (Answer → Part) → Answer → Answer
  at x a = answer a.verdict a.file a.line (x a)

  abbrev said : (GateAnswer → List ℕ) → GateAnswer → Said
  said x a = record { answer = a; command = x a }

  verdict_stays : (x y : Outcome Answer) (j k : ℕ) → (eqb 0 section ≡ false) → ((g : Refusal) → u (refusal_answer g) ≡ s (refusal_answer g))
      → ((a : Answer) → x ≡ Ok a → s (answer_numbers (at c a) j) ≡ command_bytes allow deny a)
      → ((b : Answer) → y ≡ Ok b → u (answer_numbers (at d b) k) ≡ command_bytes newAllow new_deny b)
      → Alike Same x y
      → SameVerdict section text ns (said s (verdict_answer (x >>= λ a. Ok (at c a)) j)) (said u (verdict_answer (y >>= λ b. Ok (at d b)) k))
  unfolding verdict_answer
  verdict_stays (Err g) (Err h) j k z r f f' e = record {
    same_refusal = λ q. ap refusal_answer (sym e);
    same_number = ap (λ (x : Refusal). (refusal_answer x).number) (sym e);
    same_word = refl;
    same_file = refl;
    same_command = r h ∙ ap (λ (x : Refusal). s (refusal_answer x)) (sym e);
    line_moves = rw (z, e) (omega arith);
  }
  verdict_stays (Err g) (Ok b) j k z r f f' e = absurd e
  verdict_stays (Ok a) (Err h) j k z r f f' e = absurd e
  verdict_stays (Ok a) (Ok b) j k z r f f' e = record {
    same_refusal = λ q. absurd (q refl);
    same_number = refl;
    same_word = ap (λ v. (verdict_word v).number) e.verdict;
    same_file = ap file_section e.file;
    same_command = f' b refl ∙ (e.command ∙ sym (f a refl));
    line_moves = ap (λ (m : ℕ). b.line + m) (sym (moved-is a.file (removed_above ns a.line (lines text)))) ∙ e.line;
  }

allow_moves : (f : File) (k : ℕ) → in_allow f k ≡ (when eqb (file_section f) 1 then k else 0)
allow_moves Neither k = refl
allow_moves Allow k = refl
allow_moves Deny k = refl

deny_moves : (f : File) (k : ℕ) → in_deny f k ≡ (when eqb (file_section f) 2 then k else 0)
deny_moves Neither k = refl
deny_moves Allow k = refl
deny_moves Deny k = refl

-- ## By texts

abbrev command_of : List ℕ → List ℕ → GateAnswer → List ℕ
command_of allow deny a = bytes_at (when eqb a.file (S.deny).order then deny else allow) (part a.place a.len)

text_command : (o : Option Refusal) (ts : List Table) (allow deny : List ℕ) (q : Option Request) (k : ℕ) (a : Answer)
    → (o before decide_over ts allow deny q) ≡ Ok a → command_of allow deny (answer_numbers a k) ≡ command_bytes allow deny a
text_command (Some g) ts allow deny q k a e = let z : ◌≡◌ {A = ℕ} 0 1 = cc e in absurd (omega arith)
text_command None ts allow deny None k a e = let z : ◌≡◌ {A = ℕ} 0 1 = cc e in absurd (omega arith)
text_command None ts allow deny (Some r) k a e =
    by a.file
    (subst (λ (x : Answer). x.command.place + x.command.len ≤ file_length allow deny x.file) (over_search ts allow deny r a e)
    (search_within (match_of ts) allow deny (held r)))
  where
    by : (f : File) → a.command.place + a.command.len ≤ file_length allow deny f
        → command_of allow deny (answer_numbers (answer a.verdict f a.line a.command) k)
        ≡ command_bytes allow deny (answer a.verdict f a.line a.command)
    by Neither w = let h : a.command.len ≡ 0 = omega arith in rw h
    by Allow w = refl
    by Deny w = refl

tables_command : (allow deny tables : List ℕ) (q : Option Request) (k : ℕ) (a : Answer) → decide_tables allow deny tables q ≡ Ok a
    → command_of allow deny (answer_numbers a k) ≡ command_bytes allow deny a
unfolding decide_tables
tables_command allow deny tables q k a e =
    text_command (over_limit S.allow allow or_else over_limit S.deny deny or_else tables_frame tables or_else hosts_fault S.allow allow or_else hosts_fault S.deny deny
    or_else tables_fault allow deny tables) (tables_of tables) allow deny q k a e

-- an answer by texts, its command where it was found
abbrev as_found : Outcome Answer → Outcome Answer
as_found o = o >>= λ a. Ok (answer a.verdict a.file a.line a.command)

unchanged : (o : Outcome Answer) → as_found o ≡ o
unchanged (Err g) = refl
unchanged (Ok a) = refl

abbrev said_by : List ℕ → List ℕ → ℕ → Outcome Answer → Said
said_by allow deny k o = found_in_texts allow deny (verdict_answer o k)

module _ (allow deny newAllow new_deny tables : List ℕ) (n : RequestNumbers) (section : ℕ) (text ns : List ℕ) (moved : File → ℕ → ℕ)
    (moved-is : (f : File) (k : ℕ) → moved f k ≡ (when eqb (file_section f) section then k else 0)) where
  by_texts_lem : eqb 0 section ≡ false
      → Alike (λ a b. Tidy.SameVerdict allow deny newAllow new_deny (moved a.file (removed_above ns a.line (lines text))) a b)
      (decide_tables allow deny tables (request n)) (decide_tables newAllow new_deny tables (request n))
      → SameVerdict section text ns (by_texts allow deny tables n) (by_texts newAllow new_deny tables n)
  by_texts_lem z e =
      let j : ℕ = looked_over (tables_of tables) allow deny (request n) in
      let k : ℕ = looked_over (tables_of tables) newAllow new_deny (request n) in
      let x : Outcome Answer = decide_tables allow deny tables (request n) in
      let y : Outcome Answer = decide_tables newAllow new_deny tables (request n) in
      subst (λ (o : Outcome Answer). SameVerdict section text ns (said_by allow deny j o) (by_texts newAllow new_deny tables n)) (unchanged x)
      (subst (λ (o : Outcome Answer). SameVerdict section text ns (said_by allow deny j (as_found x)) (said_by newAllow new_deny k o)) (unchanged y)
      (verdict_stays allow deny newAllow new_deny section text ns moved moved-is (λ a. a.command) (λ b. b.command)
      (command_of allow deny) (command_of newAllow new_deny) x y j k z (λ g. refl)
      (tables_command allow deny tables (request n) j) (tables_command newAllow new_deny tables (request n) k) e))

-- two texts alone, and with a section five that has no tables
two_texts : (allow deny : List ℕ) (o : Option Request) → decide allow deny o ≡ decide_tables allow deny no_tables o
unfolding decide decide_tables tables_frame read_tables read_each from_digits tables_fault bad_table_fault first_table
two_texts allow deny o =
    by (over_limit S.allow allow) (over_limit S.deny deny) (hosts_fault S.allow allow) (hosts_fault S.deny deny) (tables_fault allow deny [])
    (decide_over [] allow deny o)
  where
    by : (a b c d e : Option Refusal) (x : Outcome Answer)
        → (((((a or_else b) or_else c) or_else d) or_else e) before x) ≡ ((((((a or_else b) or_else None) or_else c) or_else d) or_else e) before x)
    by (Some g) b c d e x = refl
    by None (Some g) c d e x = refl
    by None None c d e x = refl

same_two : (allow deny : List ℕ) (n : RequestNumbers) → by_two_texts allow deny n ≡ by_texts allow deny no_tables n
unfolding read_tables read_each from_digits
same_two allow deny n =
    ap (λ (o : Outcome Answer). found_in_texts allow deny (verdict_answer o (looked_over [] allow deny (request n)))) (two_texts allow deny (request n))

module _ (section : ℕ) (text ns allow deny newAllow new_deny : List ℕ) (n : RequestNumbers) where
  by_two_texts_lem : SameVerdict section text ns (by_texts allow deny no_tables n) (by_texts newAllow new_deny no_tables n)
      → SameVerdict section text ns (by_two_texts allow deny n) (by_two_texts newAllow new_deny n)
  by_two_texts_lem e =
      subst (λ (x : Said). SameVerdict section text ns x (by_two_texts newAllow new_deny n)) (sym (same_two allow deny n))
      (subst (λ (x : Said). SameVerdict section text ns (by_texts allow deny no_tables n) x) (sym (same_two newAllow new_deny n)) e)

-- ## By sheets

abbrev command_at : List ℕ → GateAnswer → List ℕ
command_at sheet a = bytes_at sheet (part a.place a.len)

abbrev said_at : List ℕ → ℕ → Outcome Answer → Said
said_at sheet k o = found_in_sheet sheet (verdict_answer o k)

-- an answer by texts, its command where it stands in a sheet
abbrev placed : Parts → Outcome Answer → Outcome Answer
placed p o = o >>= λ a. Ok (in_sheet p a)

-- a sheet that was packed decides by its texts
module _ (ts : Texts) (room : List ℕ) (e : (gate_pack ts room).answer.number ≡ 0) where
  abbrev sheet : List ℕ
  sheet = front (gate_pack ts room)

  packed : (texts_fault ts ≡ None) × (sheet_of ts ≡ sheet)
  packed =
      let w = written_answered room (pack ts (length room)) e in
      subst (λ (s : List ℕ). (texts_fault ts ≡ None) × (sheet_of ts ≡ s)) (sym w.2) (pack_answered ts (length room) w.0 w.1)

  unpacked : (unpack sheet ≡ Ok (parts_of ts)) × (texts_at sheet (parts_of ts) ≡ ts)
  unpacked =
      let w = written_answered room (pack ts (length room)) e in
      subst (λ (s : List ℕ). (unpack s ≡ Ok (parts_of ts)) × (texts_at s (parts_of ts) ≡ ts)) (sym w.2)
      (Sheet.unpack_pack ts (length room) w.0 w.1)

  decided : (o : Option Request) → decide_sheet sheet o ≡ placed (parts_of ts) (decide_tables ts.allow ts.deny ts.tables o)
  unfolding decide_sheet
  decided o =
      rw unpacked.0
      (ap (λ (t : Texts). placed (parts_of ts) (decide_over (tables_of t.tables) t.allow t.deny o)) unpacked.1
      ∙ ap (placed (parts_of ts)) (sym (sound_texts ts o packed.0)))

  sheet_command : (o : Option Request) (k : ℕ) (a : Answer) → decide_tables ts.allow ts.deny ts.tables o ≡ Ok a
      → command_at sheet (answer_numbers (in_sheet (parts_of ts) a) k) ≡ command_bytes ts.allow ts.deny a
  sheet_command None k a d = let z : ◌≡◌ {A = ℕ} 0 1 = cc (sym (sound_texts ts None packed.0) ∙ d) in absurd (omega arith)
  sheet_command (Some r) k a d =
      command_bytes_lem sheet (parts_of ts) (answered_frame (unpack_answered sheet (parts_of ts) unpacked.0).0) r a (tables_of ts.tables)
      (ap (λ (t : Texts). decide_over (tables_of ts.tables) t.allow t.deny (Some r)) unpacked.1 ∙ (sym (sound_texts ts (Some r) packed.0) ∙ d))
      ∙ ap (λ (t : Texts). command_bytes t.allow t.deny a) unpacked.1

module _ (ts us : Texts) (room other : List ℕ) (e : (gate_pack ts room).answer.number ≡ 0) (f : (gate_pack us other).answer.number ≡ 0) (n : RequestNumbers)
    (section : ℕ) (text ns : List ℕ) (moved : File → ℕ → ℕ) (moved-is : (f : File) (k : ℕ) → moved f k ≡ (when eqb (file_section f) section then k else 0)) where
  by_sheets : eqb 0 section ≡ false
      → Alike (λ a b. Tidy.SameVerdict ts.allow ts.deny us.allow us.deny (moved a.file (removed_above ns a.line (lines text))) a b)
      (decide_tables ts.allow ts.deny ts.tables (request n)) (decide_tables us.allow us.deny us.tables (request n))
      → SameVerdict section text ns (by_sheet (front (gate_pack ts room)) n) (by_sheet (front (gate_pack us other)) n)
  by_sheets z alike =
      let s : List ℕ = front (gate_pack ts room) in
      let u : List ℕ = front (gate_pack us other) in
      let j : ℕ = looked_sheet s (request n) in
      let k : ℕ = looked_sheet u (request n) in
      let x : Outcome Answer = decide_tables ts.allow ts.deny ts.tables (request n) in
      let y : Outcome Answer = decide_tables us.allow us.deny us.tables (request n) in
      subst (λ (o : Outcome Answer). SameVerdict section text ns (said_at s j o) (by_sheet u n)) (sym (decided ts room e (request n)))
      (subst (λ (o : Outcome Answer). SameVerdict section text ns (said_at s j (placed (parts_of ts) x)) (said_at u k o)) (sym (decided us other f (request n)))
      (verdict_stays ts.allow ts.deny us.allow us.deny section text ns moved moved-is
      (λ a. (in_sheet (parts_of ts) a).command) (λ b. (in_sheet (parts_of us) b).command) (command_at s) (command_at u) x y j k z (λ g. refl)
      (sheet_command ts room e (request n) j) (sheet_command us other f (request n) k) alike))

-- ## The new sheet can be packed

-- what is left of the checks of five texts where the allow file, or the deny file, passes its own
allow_passes : (ts : Texts) → file_fault S.allow ts.allow ts.tables ≡ None
    → texts_fault ts
    ≡ ((((((((None or_else over_limit S.deny ts.deny) or_else over_limit S.byuid ts.byuid) or_else over_limit S.portacl ts.portacl) or_else None) or_else None)
    or_else hosts_fault S.deny ts.deny) or_else portacl_fault ts.portacl)
    or_else (((((None or_else missing_fault (tables_of ts.tables) S.deny ts.deny) or_else None) or_else None)
    or_else depth_fault (tables_of ts.tables) S.deny ts.deny) or_else None)) or_else byuid_fault ts.byuid
unfolding texts_fault tables_fault
allow_passes ts e =
    let p = file_parts S.allow ts.allow ts.tables e in
    rw (p.0, p.1.0, p.1.1.0, p.1.1.1.0, p.1.1.1.1.0, p.1.1.1.1.1.0, p.1.1.1.1.1.1)

deny_passes : (ts : Texts) → file_fault S.deny ts.deny ts.tables ≡ None
    → texts_fault ts
    ≡ ((((((((over_limit S.allow ts.allow or_else None) or_else over_limit S.byuid ts.byuid) or_else over_limit S.portacl ts.portacl) or_else None)
    or_else hosts_fault S.allow ts.allow) or_else None) or_else portacl_fault ts.portacl)
    or_else (((((missing_fault (tables_of ts.tables) S.allow ts.allow or_else None) or_else None)
    or_else depth_fault (tables_of ts.tables) S.allow ts.allow) or_else None) or_else None)) or_else byuid_fault ts.byuid
unfolding texts_fault tables_fault
deny_passes ts e =
    let p = file_parts S.deny ts.deny ts.tables e in
    rw (p.0, p.1.0, p.1.1.0, p.1.1.1.0, p.1.1.1.1.0, p.1.1.1.1.1.0, p.1.1.1.1.1.1)

-- the section of a file by its number
allow_section : (x : Section) → section_of 1 ≡ Some x → x ≡ S.allow
allow_section x e = let z : S.allow ≡ x = cc e in sym z

deny_section : (x : Section) → section_of 2 ≡ Some x → x ≡ S.deny
deny_section x e = let z : S.deny ≡ x = cc e in sym z

-- a sheet of sound texts that are no longer is packed
module _ (ts us : Texts) (room other : List ℕ) (e : (gate_pack ts room).answer.number ≡ 0) where
  packs : texts_fault us ≡ None → length (sheet_of us) ≤ length (sheet_of ts) → (gate_pack ts room).answer.count ≤ length other
      → (gate_pack us other).answer.number ≡ 0
  unfolding written_answer
  packs sound few fits =
      let w = written_answered room (pack ts (length room)) e in
      let count : (gate_pack ts room).answer.count ≡ length w.0 = ap (λ (o : Outcome (List ℕ)). (written_answer o).count) w.1 in
      let long = ap length (pack_answered ts (length room) w.0 w.1).1 in
      is_answered other (pack us (length other)) (sheet_of us) (answered_pack us (length other) sound (omega (arith, few, fits, count, long)))

module _ (ts : Texts) (p out : List ℕ) where
  module _ (d : Drops ts.allow ts.tables 1 p out) where
    abbrev new_allow : List ℕ
    new_allow = new_file ts.allow ts.tables 1 p out

    allow_dropped : Dropped 1 ts.allow ts.tables p new_allow
    allow_dropped = dropping ts.allow ts.tables 1 p out d

    allow_sound : file_fault S.allow ts.allow ts.tables ≡ None
    allow_sound =
        subst (λ (x : Section). file_fault x ts.allow ts.tables ≡ None) (allow_section allow_dropped.section allow_dropped.is_section)
        allow_dropped.sound

    allow_packs : (room other : List ℕ) → (gate_pack ts room).answer.number ≡ 0 → (gate_pack ts room).answer.count ≤ length other
        → (gate_pack (with_allow ts new_allow) other).answer.number ≡ 0
    allow_packs room other e h =
        let stays : file_fault S.allow new_allow ts.tables ≡ None =
        ap (λ (t : List ℕ). file_fault S.allow t ts.tables) allow_dropped.bytes ∙ file_stays (numbers_of p) S.allow ts.allow ts.tables allow_sound in
        packs ts (with_allow ts new_allow) room other e
        (allow_passes (with_allow ts new_allow) stays ∙ (sym (allow_passes ts allow_sound) ∙ (packed ts room e).0))
        (omega (
          arith,
          length_sheet_of new_allow ts.deny ts.byuid ts.portacl ts.tables,
          length_sheet_of ts.allow ts.deny ts.byuid ts.portacl ts.tables,
          ap length allow_dropped.bytes,
          length_dropped (numbers_of p) ts.allow,
        )) h

    abbrev AllowAlike : List ℕ → Option Request → Type 0
    AllowAlike t o =
        Alike (λ a b. Tidy.SameVerdict ts.allow ts.deny t ts.deny (in_allow a.file (removed_above (numbers_of p) a.line (lines ts.allow))) a b)
        (decide_tables ts.allow ts.deny ts.tables o) (decide_tables t ts.deny ts.tables o)

    allow_alike : (o : Option Request) → AllowAlike new_allow o
    allow_alike o =
        subst (λ (t : List ℕ). AllowAlike t o) (sym allow_dropped.bytes)
        (decide_allow ts.allow ts.deny ts.tables (numbers_of p) o allow_sound allow_dropped.good)

  module _ (d : Drops ts.deny ts.tables 2 p out) where
    abbrev new_deny_lem : List ℕ
    new_deny_lem = new_file ts.deny ts.tables 2 p out

    deny_dropped : Dropped 2 ts.deny ts.tables p new_deny_lem
    deny_dropped = dropping ts.deny ts.tables 2 p out d

    deny_sound : file_fault S.deny ts.deny ts.tables ≡ None
    deny_sound =
        subst (λ (x : Section). file_fault x ts.deny ts.tables ≡ None) (deny_section deny_dropped.section deny_dropped.is_section)
        deny_dropped.sound

    deny_packs : (room other : List ℕ) → (gate_pack ts room).answer.number ≡ 0 → (gate_pack ts room).answer.count ≤ length other
        → (gate_pack (with_deny ts new_deny_lem) other).answer.number ≡ 0
    deny_packs room other e h =
        let stays : file_fault S.deny new_deny_lem ts.tables ≡ None =
        ap (λ (t : List ℕ). file_fault S.deny t ts.tables) deny_dropped.bytes ∙ file_stays (numbers_of p) S.deny ts.deny ts.tables deny_sound in
        packs ts (with_deny ts new_deny_lem) room other e
        (deny_passes (with_deny ts new_deny_lem) stays ∙ (sym (deny_passes ts deny_sound) ∙ (packed ts room e).0))
        (omega (
          arith,
          length_sheet_of ts.allow new_deny_lem ts.byuid ts.portacl ts.tables,
          length_sheet_of ts.allow ts.deny ts.byuid ts.portacl ts.tables,
          ap length deny_dropped.bytes,
          length_dropped (numbers_of p) ts.deny,
        )) h

    abbrev DenyAlike : List ℕ → Option Request → Type 0
    DenyAlike t o =
        Alike (λ a b. Tidy.SameVerdict ts.allow ts.deny ts.allow t (in_deny a.file (removed_above (numbers_of p) a.line (lines ts.deny))) a b)
        (decide_tables ts.allow ts.deny ts.tables o) (decide_tables ts.allow t ts.tables o)

    deny_alike : (o : Option Request) → DenyAlike new_deny_lem o
    deny_alike o =
        subst (λ (t : List ℕ). DenyAlike t o) (sym deny_dropped.bytes)
        (decide_deny ts.allow ts.deny ts.tables (numbers_of p) o deny_sound deny_dropped.good)

-- the texts of a call that takes three
abbrev three : List ℕ → List ℕ → List ℕ → Texts
three allow deny tables = texts allow deny [] [] tables

module _ (allow deny tables p out : List ℕ) (n : RequestNumbers) where
  allow_texts : Drops allow tables 1 p out
      → SameVerdict 1 allow (numbers_of p) (by_texts allow deny tables n) (by_texts (new_file allow tables 1 p out) deny tables n)
  allow_texts d =
      by_texts_lem allow deny (new_file allow tables 1 p out) deny tables n 1 allow (numbers_of p) in_allow allow_moves refl
      (allow_alike (three allow deny tables) p out d (request n))

  deny_texts : Drops deny tables 2 p out
      → SameVerdict 2 deny (numbers_of p) (by_texts allow deny tables n) (by_texts allow (new_file deny tables 2 p out) tables n)
  deny_texts d =
      by_texts_lem allow deny allow (new_file deny tables 2 p out) tables n 2 deny (numbers_of p) in_deny deny_moves refl
      (deny_alike (three allow deny tables) p out d (request n))

pub tidied_verdicts : TidiedVerdicts
tidied_verdicts = record {
  allow_by_texts = λ allow deny tables p out n d. allow_texts allow deny tables p out n d;
  deny_by_texts = λ allow deny tables p out n d. deny_texts allow deny tables p out n d;
  allow_by_two_texts = λ allow deny p out n d.
      by_two_texts_lem 1 allow (numbers_of p) allow deny (new_file allow no_tables 1 p out) deny n (allow_texts allow deny no_tables p out n d);
  deny_by_two_texts = λ allow deny p out n d.
      by_two_texts_lem 2 deny (numbers_of p) allow deny allow (new_file deny no_tables 2 p out) n (deny_texts allow deny no_tables p out n d);
  allow_packs = λ ts p out room other d e h. allow_packs ts p out d room other e h;
  deny_packs = λ ts p out room other d e h. deny_packs ts p out d room other e h;
  allow_by_sheet = λ ts p out room other n d e f.
      by_sheets ts (with_allow ts (new_file ts.allow ts.tables 1 p out)) room other e f n 1 ts.allow (numbers_of p) in_allow allow_moves refl
      (allow_alike ts p out d (request n));
  deny_by_sheet = λ ts p out room other n d e f.
      by_sheets ts (with_deny ts (new_file ts.deny ts.tables 2 p out)) room other e f n 2 ts.deny (numbers_of p) in_deny deny_moves refl
      (deny_alike ts p out d (request n));
}
