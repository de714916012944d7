-- Document 01, "The inetd on the box is C and calls by bytes and numbers": what it gets back.
--   granted, denied, ..                       == the paper's words, each with its number
--   verdict_answer, byuid_answer, portacl_answer == a decision as numbers: number 0 stands for "answered", word 0 for no word
--   matters_answer                             == whether the name matters; where it does not, verdict, file and line
--   check_answer, parts_answer                  == what checking and unpacking a sheet answer
--   written_answer                             == what a call that writes answers
--   command_answer                             == what a call that decides and expands answers
--   written_two_answer                          == what a call that writes into two outputs answers
--   next_answer                                == what comes next in authbind's order
--   address_answer                             == an address read
-- Of a refusal all have number, section and line; all else is 0, and of an address its kind is one that no address has.
-- Assumes nothing: these are definitions.
use Rattle.std.specs.Prelude.{ℕ, List, length, Err, None, Ok, Option, Some}
use Prim.Native.String.{String}
use Rattle.text.specs.Text.{bytes}
use Rattle.section.specs.declared.Refusal.{Refusal}
use Rattle.section.specs.Refusal.{Outcome, ◌>>=◌, fault_number}
use Rattle.address.specs.declared.Addr.{Addr}
use Rattle.address.specs.declared.Addr.TheVariants as A
use Rattle.rules.specs.declared.Answer.{Answer}
use Rattle.rules.specs.declared.Verdict.{Verdict}
use Rattle.rules.specs.declared.Verdict.TheVariants as Ver
use Rattle.rules.specs.Search.{file_section}
use Rattle.byuid.specs.declared.Decision.{Decision as ByuidDecision}
use Rattle.byuid.specs.declared.Decision.TheVariants as B
use Rattle.portacl.specs.declared.Decision.{Decision as PortaclDecision}
use Rattle.portacl.specs.declared.Decision.TheVariants as P
use Rattle.authbind.specs.Authbind as Authbind
use Rattle.sheet.specs.declared.Parts.{Parts}
use Rattle.matters.specs.declared.Place.{Place}
use Rattle.codes.specs.declared.GateAnswer.{GateAnswer}
use Rattle.codes.specs.declared.GateCheck.{GateCheck}
use Rattle.codes.specs.declared.GateCommand.{GateCommand}
use Rattle.codes.specs.declared.GateNext.{GateNext}
use Rattle.codes.specs.declared.GateWritten.{GateWritten}
use Rattle.codes.specs.declared.GateWrittenTwo.{GateWrittenTwo}
use Rattle.codes.specs.declared.GateParts.{GateParts}
use Rattle.codes.specs.declared.GateAddress.{GateAddress}

-- ## Words

-- "The definition gives this paper's number and values for each of the enum's cases."
pub record Word : Type 0 where
  pub text : List ℕ
  pub number : ℕ

abbrev pub word : String → ℕ → Word
word t n = record { text = bytes t; number = n }

abbrev pub granted : Word
granted = word "granted" 1

abbrev pub denied : Word
denied = word "denied" 2

abbrev pub ask : Word
ask = word "ask" 3

abbrev pub no_line : Word
no_line = word "no line" 4

abbrev pub not_ruled : Word
not_ruled = word "not ruled" 5

abbrev pub exempt : Word
exempt = word "exempt" 6

abbrev pub test : Word
test = word "test" 7

abbrev pub read : Word
read = word "read" 8

-- document 02, request 14: "tell us whether it can change anything"
abbrev pub name_matters : Word
name_matters = word "name matters" 9

abbrev pub verdict_word : Verdict → Word
verdict_word Ver.Granted = granted
verdict_word Ver.Denied = denied
verdict_word Ver.Ask = ask

abbrev pub byuid_word : ByuidDecision → Word
byuid_word B.Granted = granted
byuid_word B.NoLine = no_line
byuid_word B.NotRuled = not_ruled

abbrev pub portacl_word : PortaclDecision → Word
portacl_word P.Granted = granted
portacl_word P.Denied = denied
portacl_word P.NotRuled = not_ruled
portacl_word P.Exempt = exempt

-- document 02, request 4: "which file to test next, or the outcome"
abbrev pub step_word : Authbind.Step → Word
step_word (Authbind.test name) = test
step_word (Authbind.read name) = read
step_word Authbind.granted = granted
step_word Authbind.denied = denied
step_word Authbind.not_ruled = not_ruled

-- ## Decisions

abbrev pub refusal_answer : Refusal → GateAnswer
refusal_answer r = record { number = fault_number r.fault; section = r.section; line = r.line; word = 0; file = 0; place = 0; len = 0; looked = 0 }

-- a word alone, by its number: "Both port decisions give their word only."
abbrev pub word_answer : ℕ → GateAnswer
word_answer w = record { number = 0; section = 0; line = 0; word = w; file = 0; place = 0; len = 0; looked = 0 }

-- a verdict, and document 02, request 12: how many elements were looked at for it
abbrev pub answer_numbers : Answer → ℕ → GateAnswer
answer_numbers a n = record {
  number = 0;
  section = 0;
  line = a.line;
  word = (verdict_word a.verdict).number;
  file = file_section a.file;
  place = a.command.place;
  len = a.command.len;
  looked = n;
}

-- "(0 at a refusal)"
unfoldable pub verdict_answer : Outcome Answer → ℕ → GateAnswer
verdict_answer (Err r) n = refusal_answer r
verdict_answer (Ok a) n = answer_numbers a n

-- document 02, request 14: "When it says no, also give the one verdict, file and line that all names get"
abbrev pub place_numbers : Place → GateAnswer
place_numbers p = record {
  number = 0;
  section = 0;
  line = p.line;
  word = (verdict_word p.verdict).number;
  file = file_section p.file;
  place = 0;
  len = 0;
  looked = 0;
}

unfoldable pub matters_answer : Outcome (Option Place) → GateAnswer
matters_answer (Err r) = refusal_answer r
matters_answer (Ok None) = word_answer name_matters.number
matters_answer (Ok (Some p)) = place_numbers p

unfoldable pub byuid_answer : Outcome ByuidDecision → GateAnswer
byuid_answer (Err r) = refusal_answer r
byuid_answer (Ok d) = word_answer (byuid_word d).number

unfoldable pub portacl_answer : Outcome PortaclDecision → GateAnswer
portacl_answer (Err r) = refusal_answer r
portacl_answer (Ok d) = word_answer (portacl_word d).number

-- ## Sheets

abbrev pub refused_check : Refusal → GateCheck
refused_check r = record { number = fault_number r.fault; section = r.section; line = r.line }

abbrev pub accepted : GateCheck
accepted = record { number = 0; section = 0; line = 0 }

unfoldable pub check_answer : Outcome Parts → GateCheck
check_answer (Err r) = refused_check r
check_answer (Ok p) = accepted

abbrev pub refused_parts : Refusal → GateParts
refused_parts r = record {
  number = fault_number r.fault;
  section = r.section;
  line = r.line;
  allow_place = 0;
  allow_len = 0;
  deny_place = 0;
  deny_len = 0;
  byuid_place = 0;
  byuid_len = 0;
  portacl_place = 0;
  portacl_len = 0;
  tables_place = 0;
  tables_len = 0;
}

abbrev pub found_parts : Parts → GateParts
found_parts p = record {
  number = 0;
  section = 0;
  line = 0;
  allow_place = p.allow.place;
  allow_len = p.allow.len;
  deny_place = p.deny.place;
  deny_len = p.deny.len;
  byuid_place = p.byuid.place;
  byuid_len = p.byuid.len;
  portacl_place = p.portacl.place;
  portacl_len = p.portacl.len;
  tables_place = p.tables.place;
  tables_len = p.tables.len;
}

unfoldable pub parts_answer : Outcome Parts → GateParts
parts_answer (Err r) = refused_parts r
parts_answer (Ok p) = found_parts p

-- ## Outputs and addresses

abbrev pub refused_written : Refusal → GateWritten
refused_written r = record { number = fault_number r.fault; section = r.section; line = r.line; count = 0 }

abbrev pub count_written : ℕ → GateWritten
count_written n = record { number = 0; section = 0; line = 0; count = n }

unfoldable pub written_answer : Outcome (List ℕ) → GateWritten
written_answer (Err r) = refused_written r
written_answer (Ok t) = count_written (length t)

-- document 02, requests 9 and 13: two outputs
abbrev pub refused_two : Refusal → GateWrittenTwo
refused_two r = record { number = fault_number r.fault; section = r.section; line = r.line; count = 0; other_count = 0 }

abbrev pub count_two : ℕ → ℕ → GateWrittenTwo
count_two n m = record { number = 0; section = 0; line = 0; count = n; other_count = m }

unfoldable pub written_two_answer : Outcome (List ℕ × List ℕ) → GateWrittenTwo
written_two_answer (Err r) = refused_two r
written_two_answer (Ok p) = count_two (length p.0) (length p.1)

-- a verdict, and the command of the rule that decided, expanded
pub record Command : Type 0 where
  pub answer : Answer
  pub text : List ℕ

abbrev pub command : Answer → List ℕ → Command
command a t = record { answer = a; text = t }

-- the verdict, then f, the expansion of its command; what refuses first is the refusal
abbrev pub together : Outcome Answer → (Answer → Outcome (List ℕ)) → Outcome Command
together verdict f = do
  a ← verdict
  t ← f a
  Ok (command a t)

abbrev pub with_count : GateAnswer → ℕ → GateCommand
with_count a n = record {
  number = a.number;
  section = a.section;
  line = a.line;
  word = a.word;
  file = a.file;
  place = a.place;
  len = a.len;
  count = n;
  looked = a.looked;
}

-- n: how many elements were looked at for the verdict
unfoldable pub command_answer : Outcome Command → ℕ → GateCommand
command_answer (Err r) n = with_count (refusal_answer r) 0
command_answer (Ok c) n = with_count (answer_numbers c.answer n) (length c.text)

abbrev pub refused_next : Refusal → GateNext
refused_next r = record { number = fault_number r.fault; section = r.section; line = r.line; word = 0; count = 0 }

abbrev pub next_with : ℕ → ℕ → GateNext
next_with w n = record { number = 0; section = 0; line = 0; word = w; count = n }

-- the word, and how many bytes of a name were written
unfoldable pub next_answer : Outcome Authbind.Step → GateNext
next_answer (Err r) = refused_next r
next_answer (Ok s) = next_with (step_word s).number (length (Authbind.name_of s))

-- no address has this kind, so a refused answer can't be handed on as one
abbrev pub no_address : ℕ
no_address = 255

abbrev pub refused_address : Refusal → GateAddress
refused_address r = record { number = fault_number r.fault; section = r.section; line = r.line; kind = no_address; high = 0; low = 0 }

abbrev pub address_with : ℕ → ℕ → ℕ → GateAddress
address_with kind high low = record { number = 0; section = 0; line = 0; kind = kind; high = high; low = low }

abbrev pub address_numbers : Addr → GateAddress
address_numbers A.Unknown = address_with 0 0 0
address_numbers (A.V4 n) = address_with 4 0 n
address_numbers (A.V6 high low) = address_with 6 high low

unfoldable pub address_answer : Outcome Addr → GateAddress
address_answer (Err r) = refused_address r
address_answer (Ok a) = address_numbers a
