-- The demands on the gate, as statements about what its exported calls answer: crate gate has a definition for each (Calls.antt), which its
-- promise cites too. proofs/Claims.antt proves them all.
-- Assumes nothing: these are statements.
use Rattle.std.specs.Prelude.{ℕ, ◌+◌, ◌*◌, ◌≤◌, ◌<◌, ◌^◌, true, false, List, [], ◌∷◌, ◌++◌, ◌≡◌, length, take, ltb, eqb, None}
use Rattle.text.specs.Basics.{when◌then◌else◌, any, all}
use Rattle.section.specs.declared.Fault.TheVariants as F
use Rattle.section.specs.declared.Refusal.{Refusal}
use Rattle.section.specs.Section as S
use Rattle.section.specs.Section.{part, bytes_at}
use Rattle.section.specs.Refusal.{refusal, placeless}
use Rattle.address.specs.Address.{same_prefix}
use Rattle.address.specs.Bits.{same_bits}
use Rattle.address.specs.Mapped.{is_mapped}
use Rattle.lines.specs.Line.{lines}
use Rattle.elements.specs.Request.{Request, held}
use Rattle.rules.specs.Check.{line_names}
use Rattle.rules.specs.Looked.{file_elements}
use Rattle.expansion.specs.Expand.{uses_user}
use Rattle.byuid.specs.Byuid.{byuid_fault}
use Rattle.portacl.specs.declared.Settings.{Settings}
use Rattle.sheet.specs.Sheet.{Texts, texts}
use Rattle.codes.specs.declared.GateAnswer.{GateAnswer}
use Rattle.codes.specs.declared.GateCommand.{GateCommand}
use Rattle.codes.specs.declared.GateParts.{GateParts}
use Rattle.codes.specs.declared.GateWritten.{GateWritten}
use Rattle.codes.specs.declared.request.HostNumbers.{HostNumbers}
use Rattle.codes.specs.Requests.{RequestNumbers, host_numbers, request_numbers}
use Rattle.codes.specs.Answers.{granted, denied, ask, no_line, name_matters, word_answer}
use Rattle.codes.specs.Answers.{refusal_answer, refused_check, accepted, refused_parts, count_written, with_count, address_with}
use Rattle.gate.specs.Calls.{gate_verdict, gate_tables_verdict, gate_sheet_verdict, gate_byuid, gate_sheet_byuid, gate_portacl, gate_sheet_portacl}
use Rattle.gate.specs.Calls.{gate_check, gate_unpack, gate_read_address, Wrote, gate_pack, gate_upgrade, gate_expand, gate_write_address}
use Rattle.gate.specs.Calls.{WroteCommand, gate_command, gate_sheet_command, gate_authbind, gate_carry, gate_salvage}
use Rattle.gate.specs.Calls.{gate_index, gate_verdicts, gate_propose, gate_drop}
use Rattle.gate.specs.Calls.{gate_name_matters, gate_tables_name_matters, gate_sheet_name_matters}
use Rattle.claims.specs.Examples.{Examples}
use Rattle.claims.specs.MaskExamples.{MaskExamples}
use Rattle.claims.specs.MappedExamples.{MappedExamples}
use Rattle.claims.specs.TableExamples.{TableExamples}
use Rattle.claims.specs.OldBoxes.{OldBoxes}
use Rattle.claims.specs.Retired.{RetiredRefused, Converted, RefusalNumbers}
use Rattle.claims.specs.LookedExamples.{LookedExamples}
use Rattle.claims.specs.CarriedOver.{CarriedOver}
use Rattle.claims.specs.Salvaged.{SalvagedSheets}
use Rattle.claims.specs.Tidied.{TidyProposals, TidiedFiles, TidiedVerdicts}
use Rattle.claims.specs.Indexed.{IndexWritten, IndexedVerdicts}
use Rattle.claims.specs.MattersExamples.{MattersExamples}
use Rattle.claims.specs.AuthbindOrder.{AbsentGoesOn, AnswerSettles, NamesDiffer, ReadsItsFile, ManualExample}

-- numbers that fit a byte
abbrev pub AreBytes : List ℕ → Type 0
AreBytes t = all (λ b. ltb b 256) t ≡ true

abbrev pub Accepted : List ℕ → Type 0
Accepted sheet = gate_check sheet ≡ accepted

-- what a call has written at the front of its output: as many bytes as it counts
abbrev pub front : Wrote → List ℕ
front w = take w.answer.count w.out

-- the files that a byuid text may come from, as C hands them over
abbrev pub plain : ℕ
plain = 0

abbrev pub marked : ℕ
marked = 1

-- ## Demand 1

-- every call by a sheet answers this refusal
pub record RefusedBy (r : Refusal) (sheet : List ℕ) : Type 0 where
  pub check : gate_check sheet ≡ refused_check r
  pub unpacked : gate_unpack sheet ≡ refused_parts r
  pub verdict : (n : RequestNumbers) → gate_sheet_verdict sheet n ≡ refusal_answer r
  pub byuid : (port kind high low uid : ℕ) → gate_sheet_byuid sheet port kind high low uid ≡ refusal_answer r
  pub portacl : (s : Settings) (uid : ℕ) (groups : List ℕ) (protocol port : ℕ) → gate_sheet_portacl sheet s uid groups protocol port ≡ refusal_answer r

-- "An accepted sheet cut short anywhere is refused, never half used": by 1, at the section that is cut
abbrev pub CutShort : Type 0
CutShort = (sheet : List ℕ) (n : ℕ) → Accepted sheet → n < length sheet
    → (s : ℕ) × (1 ≤ s) × (s ≤ 5) × RefusedBy (refusal F.CutShort s 0) (take n sheet)

-- document 02, request 10: "the longest sheet is 57,360 bytes"
pub record Longest : Type 0 where
  pub at_most : (sheet : List ℕ) → Accepted sheet → length sheet ≤ 57360
  pub reached : (sheet : List ℕ) × AreBytes sheet × Accepted sheet × (length sheet ≡ 57360)
  -- so a reader that stops after one byte more accepts no other sheet. The number of a refusal needs the whole sheet: a section five
  -- over its limit is 17, and 15 and 16, which come before it, are looked for in all of it
  pub enough : (sheet : List ℕ) → Accepted (take 57361 sheet) → take 57361 sheet ≡ sheet

-- "A refusal .. writes nothing": a lent output is as it was
pub record RefusalWritesNothing : Type 0 where
  pub packing : (ts : Texts) (out : List ℕ) → ((gate_pack ts out).answer.number ≡ 0 → ⊥) → (gate_pack ts out).out ≡ out
  pub expanding : (command : List ℕ) (n : RequestNumbers) (process : ℕ) (out : List ℕ) → ((gate_expand command n process out).answer.number ≡ 0 → ⊥)
      → (gate_expand command n process out).out ≡ out
  pub writing : (kind high low : ℕ) (out : List ℕ) → ((gate_write_address kind high low out).answer.number ≡ 0 → ⊥)
      → (gate_write_address kind high low out).out ≡ out
  pub upgrading : (sheet out : List ℕ) → ((gate_upgrade sheet out).answer.number ≡ 0 → ⊥) → (gate_upgrade sheet out).out ≡ out
  pub commanding : (allow deny : List ℕ) (n : RequestNumbers) (process : ℕ) (out : List ℕ) → ((gate_command allow deny n process out).answer.number ≡ 0 → ⊥)
      → (gate_command allow deny n process out).out ≡ out
  pub sheet_commanding : (sheet : List ℕ) (n : RequestNumbers) (process : ℕ) (out : List ℕ) → ((gate_sheet_command sheet n process out).answer.number ≡ 0 → ⊥)
      → (gate_sheet_command sheet n process out).out ≡ out
  pub naming : (port kind high low uid : ℕ) (answers out : List ℕ) → ((gate_authbind port kind high low uid answers out).answer.number ≡ 0 → ⊥)
      → (gate_authbind port kind high low uid answers out).out ≡ out
  pub carrying : (list : List ℕ) (uid : ℕ) (plain marked : List ℕ) → ((gate_carry list uid plain marked).answer.number ≡ 0 → ⊥)
      → ((gate_carry list uid plain marked).out ≡ plain) × ((gate_carry list uid plain marked).other ≡ marked)
  pub salvaging : (sheet out list : List ℕ) → ((gate_salvage sheet out list).answer.number ≡ 0 → ⊥)
      → ((gate_salvage sheet out list).out ≡ out) × ((gate_salvage sheet out list).other ≡ list)
  pub proposing : (text tables : List ℕ) (section : ℕ) (out : List ℕ) → ((gate_propose text tables section out).answer.number ≡ 0 → ⊥)
      → (gate_propose text tables section out).out ≡ out
  pub dropping : (text tables : List ℕ) (section : ℕ) (proposal out : List ℕ) → ((gate_drop text tables section proposal out).answer.number ≡ 0 → ⊥)
      → (gate_drop text tables section proposal out).out ≡ out
  pub indexing : (sheet out : List ℕ) → ((gate_index sheet out).answer.number ≡ 0 → ⊥) → (gate_index sheet out).out ≡ out
  pub answering : (sheet index requests out : List ℕ) → ((gate_verdicts sheet index requests out).answer.number ≡ 0 → ⊥)
      → (gate_verdicts sheet index requests out).out ≡ out

-- a decision is a word, or a refusal by one of the papers' numbers "and gives no verdict"
pub data Decision : GateAnswer → Type 0 where
  by_word : (a : GateAnswer) → a.number ≡ 0 → a.section ≡ 0 → 1 ≤ a.word → a.word ≤ 6 → Decision a
  by_refusal : (r : Refusal) → 1 ≤ (refusal_answer r).number → (refusal_answer r).number ≤ 22 → Decision (refusal_answer r)

pub record EveryDecision : Type 0 where
  pub verdict_decided : (allow deny : List ℕ) (n : RequestNumbers) → Decision (gate_verdict allow deny n)
  pub tables_verdict_decided : (allow deny tables : List ℕ) (n : RequestNumbers) → Decision (gate_tables_verdict allow deny tables n)
  pub sheet_verdict_decided : (sheet : List ℕ) (n : RequestNumbers) → Decision (gate_sheet_verdict sheet n)
  pub byuid_decided : (text : List ℕ) (mark port kind high low uid : ℕ) → Decision (gate_byuid text mark port kind high low uid)
  pub sheet_byuid_decided : (sheet : List ℕ) (port kind high low uid : ℕ) → Decision (gate_sheet_byuid sheet port kind high low uid)
  pub portacl_decided : (text : List ℕ) (s : Settings) (uid : ℕ) (groups : List ℕ) (protocol port : ℕ) → Decision (gate_portacl text s uid groups protocol port)
  pub sheet_portacl_decided : (sheet : List ℕ) (s : Settings) (uid : ℕ) (groups : List ℕ) (protocol port : ℕ)
      → Decision (gate_sheet_portacl sheet s uid groups protocol port)

-- the other calls give none but these numbers, and 0, either
pub record EveryNumber : Type 0 where
  pub check_number : (sheet : List ℕ) → (gate_check sheet).number ≤ 22
  pub unpack_number : (sheet : List ℕ) → (gate_unpack sheet).number ≤ 22
  pub read_number : (text : List ℕ) → (gate_read_address text).number ≤ 22
  pub pack_number : (ts : Texts) (out : List ℕ) → (gate_pack ts out).answer.number ≤ 22
  pub upgrade_number : (sheet out : List ℕ) → (gate_upgrade sheet out).answer.number ≤ 22
  pub expand_number : (command : List ℕ) (n : RequestNumbers) (process : ℕ) (out : List ℕ) → (gate_expand command n process out).answer.number ≤ 22
  pub write_number : (kind high low : ℕ) (out : List ℕ) → (gate_write_address kind high low out).answer.number ≤ 22
  pub authbind_number : (port kind high low uid : ℕ) (answers out : List ℕ) → (gate_authbind port kind high low uid answers out).answer.number ≤ 22
  pub carry_number : (list : List ℕ) (uid : ℕ) (plain marked : List ℕ) → (gate_carry list uid plain marked).answer.number ≤ 22
  pub salvage_number : (sheet out list : List ℕ) → (gate_salvage sheet out list).answer.number ≤ 22
  pub propose_number : (text tables : List ℕ) (section : ℕ) (out : List ℕ) → (gate_propose text tables section out).answer.number ≤ 22
  pub drop_number : (text tables : List ℕ) (section : ℕ) (proposal out : List ℕ) → (gate_drop text tables section proposal out).answer.number ≤ 22
  pub index_number : (sheet out : List ℕ) → (gate_index sheet out).answer.number ≤ 22
  pub verdicts_number : (sheet index requests out : List ℕ) → (gate_verdicts sheet index requests out).answer.number ≤ 22

-- ## Demand 2

-- the five texts that gate_unpack finds in a sheet
abbrev pub texts_of : List ℕ → Texts
texts_of sheet =
    let p : GateParts = gate_unpack sheet in
    texts (bytes_at sheet (part p.allow_place p.allow_len)) (bytes_at sheet (part p.deny_place p.deny_len))
    (bytes_at sheet (part p.byuid_place p.byuid_len)) (bytes_at sheet (part p.portacl_place p.portacl_len))
    (bytes_at sheet (part p.tables_place p.tables_len))

-- "A sheet packed from four accepted texts unpacks to those texts", and "demand 2 packs this section as a fifth text": the bytes that gate_pack wrote are accepted
abbrev pub UnpackPack : Type 0
UnpackPack = (ts : Texts) (out : List ℕ) → (gate_pack ts out).answer.number ≡ 0 → Accepted (front (gate_pack ts out)) × (texts_of (front (gate_pack ts out)) ≡ ts)

-- "the texts of any accepted sheet, given room, pack to that same sheet"
abbrev pub PackUnpack : Type 0
PackUnpack = (sheet out : List ℕ) → AreBytes sheet → Accepted sheet → length sheet ≤ length out
    → ((gate_pack (texts_of sheet) out).answer ≡ count_written (length sheet)) × (front (gate_pack (texts_of sheet) out) ≡ sheet)

-- gate_read_address gives back what gate_write_address wrote
pub record ReadWritten : Type 0 where
  pub v4 : (high low : ℕ) (out : List ℕ) → (gate_write_address 4 high low out).answer.number ≡ 0
      → gate_read_address (front (gate_write_address 4 high low out)) ≡ address_with 4 0 low
  pub v6 : (high low : ℕ) (out : List ℕ) → high < 2 ^ 64 → low < 2 ^ 64 → (gate_write_address 6 high low out).answer.number ≡ 0
      → gate_read_address (front (gate_write_address 6 high low out)) ≡ address_with 6 high low

-- where the text of a verdict's file stands in a sheet, and the answer with its command found there
abbrev pub file_place : GateParts → ℕ → ℕ
file_place p file = when eqb file (S.allow).order then p.allow_place else when eqb file (S.deny).order then p.deny_place else 0

abbrev pub placed_in : GateParts → GateAnswer → GateAnswer
placed_in p a = record {
  number = a.number;
  section = a.section;
  line = a.line;
  word = a.word;
  file = a.file;
  place = file_place p a.file + a.place;
  len = a.len;
  looked = a.looked;
}

-- an accepted sheet decides as its texts do, and looks at as many elements
pub record SheetAsTexts : Type 0 where
  pub same_verdict : (sheet : List ℕ) (n : RequestNumbers) → Accepted sheet
      → gate_sheet_verdict sheet n ≡ placed_in (gate_unpack sheet) (gate_tables_verdict (texts_of sheet).allow (texts_of sheet).deny (texts_of sheet).tables n)
  pub same_byuid : (sheet : List ℕ) (port kind high low uid : ℕ) → Accepted sheet
      → gate_sheet_byuid sheet port kind high low uid ≡ gate_byuid (texts_of sheet).byuid plain port kind high low uid
  pub same_portacl : (sheet : List ℕ) (s : Settings) (uid : ℕ) (groups : List ℕ) (protocol port : ℕ) → Accepted sheet
      → gate_sheet_portacl sheet s uid groups protocol port ≡ gate_portacl (texts_of sheet).portacl s uid groups protocol port

-- the raw command in the text that decided
abbrev pub deciding : List ℕ → List ℕ → GateAnswer → List ℕ
deciding allow deny a = when eqb a.file (S.deny).order then deny else allow

abbrev pub command_in : List ℕ → GateAnswer → List ℕ
command_in text a = bytes_at text (part a.place a.len)

-- a verdict, and then the writing of its command: what refuses first is the refusal, and writes nothing
abbrev pub unwritten : GateWritten → GateCommand
unwritten w = record { number = w.number; section = w.section; line = w.line; word = 0; file = 0; place = 0; len = 0; count = 0; looked = 0 }

abbrev pub in_turn : GateAnswer → Wrote → List ℕ → WroteCommand
in_turn v w out =
    when eqb v.number 0 then record { answer = when eqb w.answer.number 0 then with_count v w.answer.count else unwritten w.answer; out = w.out }
    else record { answer = with_count v 0; out = out }

-- one call decides and expands as two do
pub record CommandInTurn : Type 0 where
  pub command_by_texts : (allow deny : List ℕ) (n : RequestNumbers) (process : ℕ) (out : List ℕ)
      → gate_command allow deny n process out
      ≡ in_turn (gate_verdict allow deny n) (gate_expand (command_in (deciding allow deny (gate_verdict allow deny n)) (gate_verdict allow deny n)) n process out) out
  pub command_by_sheet : (sheet : List ℕ) (n : RequestNumbers) (process : ℕ) (out : List ℕ)
      → gate_sheet_command sheet n process out
      ≡ in_turn (gate_sheet_verdict sheet n) (gate_expand (command_in sheet (gate_sheet_verdict sheet n)) n process out) out

-- ""Ask" comes nowhere else": only for a user not fetched, so who has fetched is never asked again
pub record AskOnlyUnfetched : Type 0 where
  pub asked_by_texts : (allow deny : List ℕ) (n : RequestNumbers) → (gate_verdict allow deny n).word ≡ ask.number → n.user ≡ 0
  pub asked_by_tables : (allow deny tables : List ℕ) (n : RequestNumbers) → (gate_tables_verdict allow deny tables n).word ≡ ask.number → n.user ≡ 0
  pub asked_by_sheet : (sheet : List ℕ) (n : RequestNumbers) → (gate_sheet_verdict sheet n).word ≡ ask.number → n.user ≡ 0

-- ## Demand 3

-- "Two are alike in all else when at most the user differs"
abbrev pub as_user : RequestNumbers → ℕ → List ℕ → RequestNumbers
as_user n user name = request_numbers n.daemon n.client n.client_name n.server n.server_name user name

-- "for every permitted name, and an unknown one": "A permitted name is any known user of 1 to 64 bytes."
pub data Permitted : ℕ → List ℕ → Type 0 where
  named : (name : List ℕ) → 1 ≤ length name → length name ≤ 64 → Permitted 2 name
  unknown : (name : List ℕ) → Permitted 1 name

-- "granted or denied": the number and the word of the answer
pub data Decided : ℕ → ℕ → Type 0 where
  is_granted : Decided 0 granted.number
  is_denied : Decided 0 denied.number

-- the name could not have mattered: the same answer whole, so the same raw command and (request 12: "Where demand 3 gives equal answers
-- the number is equal too") the same number of elements looked at, and "expanding that command for both in the same room gives the same bytes or the same refusal, unless it uses %u or %c"
pub record SameFor (call : RequestNumbers → GateAnswer) (command : List ℕ) (n : RequestNumbers) (user : ℕ) (name : List ℕ) : Type 0 where
  pub same_answer : call (as_user n user name) ≡ call n
  pub same_expansion : (process : ℕ) (out : List ℕ) → uses_user command ≡ false → gate_expand command (as_user n user name) process out
      ≡ gate_expand command n process out

-- "Take any rules, and any request whose user was not fetched and that is granted or denied": by two texts, with tables ("Demand 3 stands,
-- as tables hold no users"), and by a sheet
pub record NameCannotMatter : Type 0 where
  pub by_texts_lem : (allow deny : List ℕ) (n : RequestNumbers) → n.user ≡ 0 → Decided (gate_verdict allow deny n).number (gate_verdict allow deny n).word
      → (user : ℕ) (name : List ℕ) → Permitted user name
      → SameFor (gate_verdict allow deny) (command_in (deciding allow deny (gate_verdict allow deny n)) (gate_verdict allow deny n)) n user name
  pub by_tables : (allow deny tables : List ℕ) (n : RequestNumbers) → n.user ≡ 0
      → Decided (gate_tables_verdict allow deny tables n).number (gate_tables_verdict allow deny tables n).word
      → (user : ℕ) (name : List ℕ) → Permitted user name
      → SameFor (gate_tables_verdict allow deny tables)
      (command_in (deciding allow deny (gate_tables_verdict allow deny tables n)) (gate_tables_verdict allow deny tables n)) n user name
  pub by_sheet_lem : (sheet : List ℕ) (n : RequestNumbers) → n.user ≡ 0 → Decided (gate_sheet_verdict sheet n).number (gate_sheet_verdict sheet n).word
      → (user : ℕ) (name : List ℕ) → Permitted user name
      → SameFor (gate_sheet_verdict sheet) (command_in sheet (gate_sheet_verdict sheet n)) n user name

-- ## Document 02

-- request 1: "a small program appends the two zero bytes of an empty count"
abbrev pub Upgraded : Type 0
Upgraded = (sheet out : List ℕ) → (gate_upgrade sheet out).answer.number ≡ 0 → front (gate_upgrade sheet out) ≡ sheet ++ 0 ∷ 0 ∷ []

-- request 5: comparing whole words, and "only the last word under a mask", is "equal to a comparison bit by bit at every length": of
-- addresses of any width w, so of 32 bits (same_prefix_v4) and of 128 (same_prefix_v6, by which `[v6]/m` matches) alike
abbrev pub BitByBit : Type 0
BitByBit = (w m a b : ℕ) → m ≤ w → a < 2 ^ w → b < 2 ^ w → same_prefix w m a b ≡ same_bits w m a b

-- request 3: an address that is not unknown, by its numbers
pub data Known : ℕ → ℕ → ℕ → Type 0 where
  known_v4 : (high low : ℕ) → low < 2 ^ 32 → Known 4 high low
  known_v6 : (high low : ℕ) → Known 6 high low

-- "1 to 511", "512 to 1023"
abbrev pub Lower : ℕ → Type 0
Lower port = (1 ≤ port) × (port ≤ 511)

abbrev pub Upper : ℕ → Type 0
Upper port = (512 ≤ port) × (port ≤ 1023)

-- "A plain file grants only 1 to 511 and a marked one only 512 to 1023"; "The sheet's byuid section is the plain file."
pub record GrantsOwnSpan : Type 0 where
  pub plain_grants : (text : List ℕ) (port kind high low uid : ℕ) → (gate_byuid text plain port kind high low uid).word ≡ granted.number → Lower port
  pub marked_grants : (text : List ℕ) (port kind high low uid : ℕ) → (gate_byuid text marked port kind high low uid).word ≡ granted.number → Upper port
  pub sheet_grants : (sheet : List ℕ) (port kind high low uid : ℕ) → (gate_sheet_byuid sheet port kind high low uid).word ≡ granted.number → Lower port

-- "a request for the other span gets "no line"", whatever the lines grant: where the text is within its limit, no line of it is of the
-- retired form and the bind is ruled
pub record OtherSpanNoLine : Type 0 where
  pub plain_no_line : (text : List ℕ) (port kind high low uid : ℕ) → length text ≤ 8192 → byuid_fault text ≡ None → Known kind high low → 1 ≤ uid → Upper port
      → gate_byuid text plain port kind high low uid ≡ word_answer no_line.number
  pub marked_no_line : (text : List ℕ) (port kind high low uid : ℕ) → length text ≤ 8192 → byuid_fault text ≡ None → Known kind high low → 1 ≤ uid → Lower port
      → gate_byuid text marked port kind high low uid ≡ word_answer no_line.number

-- 13: "a request field outside its size or its kinds": a file that is neither
abbrev pub NeitherFile : Type 0
NeitherFile = (text : List ℕ) (mark port kind high low uid : ℕ) → length text ≤ 8192 → byuid_fault text ≡ None → 2 ≤ mark
    → gate_byuid text mark port kind high low uid ≡ refusal_answer (placeless F.BadRequest)

-- request 7: "so no record it then works on holds such an IPv6 address"
abbrev pub NoMapped : Type 0
NoMapped = (r : Request) → (is_mapped (held r).client.host.addr ≡ false) × (is_mapped (held r).server.host.addr ≡ false)

-- the numbers of one host: as they are, or of its IPv4 address, and of the IPv6 one that "shows up" for it
pub data SameHost : HostNumbers → HostNumbers → Type 0 where
  as_given : (h : HostNumbers) → SameHost h h
  as_v4 : (state high low : ℕ) → low < 2 ^ 32 → SameHost (host_numbers state 6 0 (0xffff * 2 ^ 32 + low)) (host_numbers state 4 high low)

abbrev pub with_hosts : RequestNumbers → HostNumbers → HostNumbers → RequestNumbers
with_hosts n client server = request_numbers n.daemon client n.client_name server n.server_name n.user n.user_name

-- "Client and server addresses in a request are to be held as IPv4": both get the same answer, and the same bytes
pub record HeldAsV4 : Type 0 where
  pub alike_by_texts : (allow deny : List ℕ) (n : RequestNumbers) (c s : HostNumbers) → SameHost n.client c → SameHost n.server s
      → gate_verdict allow deny n ≡ gate_verdict allow deny (with_hosts n c s)
  pub alike_by_tables : (allow deny tables : List ℕ) (n : RequestNumbers) (c s : HostNumbers) → SameHost n.client c → SameHost n.server s
      → gate_tables_verdict allow deny tables n ≡ gate_tables_verdict allow deny tables (with_hosts n c s)
  pub alike_by_sheet : (sheet : List ℕ) (n : RequestNumbers) (c s : HostNumbers) → SameHost n.client c → SameHost n.server s
      → gate_sheet_verdict sheet n ≡ gate_sheet_verdict sheet (with_hosts n c s)
  pub alike_written : (command : List ℕ) (n : RequestNumbers) (c s : HostNumbers) → SameHost n.client c → SameHost n.server s
      → (process : ℕ) (out : List ℕ) → gate_expand command n process out ≡ gate_expand command (with_hosts n c s) process out

-- request 12: "(0 at a refusal)"
pub record RefusalLooksAtNothing : Type 0 where
  pub none_by_texts : (allow deny : List ℕ) (n : RequestNumbers) → ((gate_verdict allow deny n).number ≡ 0 → ⊥) → (gate_verdict allow deny n).looked ≡ 0
  pub none_by_tables : (allow deny tables : List ℕ) (n : RequestNumbers) → ((gate_tables_verdict allow deny tables n).number ≡ 0 → ⊥)
      → (gate_tables_verdict allow deny tables n).looked ≡ 0
  pub none_by_sheet : (sheet : List ℕ) (n : RequestNumbers) → ((gate_sheet_verdict sheet n).number ≡ 0 → ⊥) → (gate_sheet_verdict sheet n).looked ≡ 0
  pub none_commanded : (allow deny : List ℕ) (n : RequestNumbers) (process : ℕ) (out : List ℕ)
      → ((gate_command allow deny n process out).answer.number ≡ 0 → ⊥) → (gate_command allow deny n process out).answer.looked ≡ 0
  pub none_sheet_commanded : (sheet : List ℕ) (n : RequestNumbers) (process : ℕ) (out : List ℕ)
      → ((gate_sheet_command sheet n process out).answer.number ≡ 0 → ⊥) → (gate_sheet_command sheet n process out).answer.looked ≡ 0

-- "For rules without tables the number never exceeds the elements in both files, and that bound is to be shown."
abbrev pub NamesNoTable : List ℕ → Type 0
NamesNoTable t = any (line_names (λ n. true)) (lines t) ≡ false

pub record LookedBound : Type 0 where
  pub bound_by_texts : (allow deny : List ℕ) (n : RequestNumbers) → NamesNoTable allow → NamesNoTable deny
      → (gate_verdict allow deny n).looked ≤ file_elements allow + file_elements deny
  pub bound_by_tables : (allow deny tables : List ℕ) (n : RequestNumbers) → NamesNoTable allow → NamesNoTable deny
      → (gate_tables_verdict allow deny tables n).looked ≤ file_elements allow + file_elements deny
  pub bound_by_sheet : (sheet : List ℕ) (n : RequestNumbers) → NamesNoTable (texts_of sheet).allow → NamesNoTable (texts_of sheet).deny
      → (gate_sheet_verdict sheet n).looked ≤ file_elements (texts_of sheet).allow + file_elements (texts_of sheet).deny

-- request 14: two answers have the same "verdict, file or line"
pub record SamePlace (a b : GateAnswer) : Type 0 where
  pub same_word : a.word ≡ b.word
  pub same_file : a.file ≡ b.file
  pub same_line : a.line ≡ b.line

-- "two permitted user states, unknown or any name of 1 to 64 bytes, give the request different verdict, file or line"
pub record Differ (verdict : RequestNumbers → GateAnswer) (n : RequestNumbers) : Type 0 where
  pub one_user : ℕ
  pub one_name : List ℕ
  pub other_user : ℕ
  pub other_name : List ℕ
  pub one_permitted : Permitted one_user one_name
  pub other_permitted : Permitted other_user other_name
  pub different : SamePlace (verdict (as_user n one_user one_name)) (verdict (as_user n other_user other_name)) → ⊥

-- what a call answers to the request n, beside the verdict that it tells of
pub record Tells (verdict matters : RequestNumbers → GateAnswer) (n : RequestNumbers) : Type 0 where
  -- "Refusals: as for the verdict."
  pub refuses : ((verdict n).number ≡ 0 → ⊥) → matters n ≡ verdict n
  pub answers : (verdict n).number ≡ 0 → (matters n).number ≡ 0
  -- "yes exactly if two permitted user states .. give the request different verdict, file or line"
  pub yes : (matters n).word ≡ name_matters.number → Differ verdict n
  pub yes_if : (verdict n).number ≡ 0 → Differ verdict n → (matters n).word ≡ name_matters.number
  -- "When it says no, also give the one verdict, file and line that all names get"
  pub no : (verdict n).number ≡ 0 → ((matters n).word ≡ name_matters.number → ⊥) → (user : ℕ) (name : List ℕ) → Permitted user name
      → SamePlace (verdict (as_user n user name)) (matters n)
  -- where the verdict does not ask the answer is no; the other way round ""ask" may come where this says no"
  pub unasked : n.user ≡ 0 → Decided (verdict n).number (verdict n).word → (matters n).word ≡ name_matters.number → ⊥
  -- the request's own user is checked, and otherwise changes nothing
  pub own_user : (user : ℕ) (name : List ℕ) → (verdict n).number ≡ 0 → (verdict (as_user n user name)).number ≡ 0 → matters (as_user n user name) ≡ matters n

pub record NameMatters : Type 0 where
  pub told_by_texts : (allow deny : List ℕ) (n : RequestNumbers) → Tells (gate_verdict allow deny) (gate_name_matters allow deny) n
  pub told_by_tables : (allow deny tables : List ℕ) (n : RequestNumbers)
      → Tells (gate_tables_verdict allow deny tables) (gate_tables_name_matters allow deny tables) n
  pub told_by_sheet : (sheet : List ℕ) (n : RequestNumbers) → Tells (gate_sheet_verdict sheet) (gate_sheet_name_matters sheet) n

-- ## All

pub record Claims : Type 0 where
  pub examples : Examples
  pub mask_lengths : MaskExamples
  pub cut_short : CutShort
  pub longest : Longest
  pub refusal_writes_nothing : RefusalWritesNothing
  pub every_decision : EveryDecision
  pub every_number : EveryNumber
  pub unpack_pack : UnpackPack
  pub pack_unpack : PackUnpack
  pub read_written : ReadWritten
  pub sheet_as_texts : SheetAsTexts
  pub command_in_turn : CommandInTurn
  pub ask_only_unfetched : AskOnlyUnfetched
  pub name_cannot_matter : NameCannotMatter
  pub bit_by_bit : BitByBit
  pub grants_own_span : GrantsOwnSpan
  pub other_span_no_line : OtherSpanNoLine
  pub neither_file : NeitherFile
  pub mapped_addresses : MappedExamples
  pub no_mapped : NoMapped
  pub held_as_v4 : HeldAsV4
  pub table_examples : TableExamples
  pub upgraded : Upgraded
  pub looked_examples : LookedExamples
  pub refusal_looks_at_nothing : RefusalLooksAtNothing
  pub looked_bound : LookedBound
  -- document 02, request 4
  pub absent_goes_on : AbsentGoesOn
  pub answer_settles : AnswerSettles
  pub names_differ : NamesDiffer
  pub reads_its_file : ReadsItsFile
  pub manual_example : ManualExample
  -- document 02, request 10
  pub old_boxes : OldBoxes
  -- document 02, request 11
  pub retired_refused : RetiredRefused
  pub converted : Converted
  pub refusal_numbers : RefusalNumbers
  -- document 02, request 13
  pub carried_over : CarriedOver
  -- document 02, request 6
  pub tidy_proposals : TidyProposals
  pub tidied_files : TidiedFiles
  pub tidied_verdicts : TidiedVerdicts
  -- document 02, request 9
  pub salvaged_sheets : SalvagedSheets
  -- document 02, request 8
  pub index_written : IndexWritten
  pub indexed_verdicts : IndexedVerdicts
  -- document 02, request 14
  pub name_matters_lem : NameMatters
  pub matters_examples : MattersExamples
