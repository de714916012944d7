-- What each exported call answers, by the bytes and numbers that C hands over: one definition for each, which its promise and the claims cite.
--   wrote out o, wrote_command out o k, wrote_next out o, wrote_two out other o == what a call with the outcome o answers, and what the lent
--     outputs hold afterwards; k: how many elements were looked at
-- Assumes nothing: these are definitions.
use Rattle.std.specs.Prelude.{ℕ, List, [], length, Ok}
use Rattle.section.specs.Refusal.{Outcome, ◌>>=◌, lent_after, first_after, second_after}
use Rattle.section.specs.Section.{bytes_at}
use Rattle.address.specs.Address.{read_address}
use Rattle.tables.specs.Table.{tables_of}
use Rattle.rules.specs.Search.{decide, decide_tables, command_bytes}
use Rattle.rules.specs.Looked.{looked_over}
use Rattle.expansion.specs.Expand.{expand}
use Rattle.byuid.specs.Byuid.{decide_byuid}
use Rattle.byuid.specs.Convert.{convert}
use Rattle.authbind.specs.Authbind.{Step, next_step, name_written}
use Rattle.tidy.specs.Tidy.{propose, drop_rules}
use Rattle.carry.specs.Carry.{carry}
use Rattle.salvage.specs.Salvage.{salvage}
use Rattle.portacl.specs.declared.Settings.{Settings}
use Rattle.portacl.specs.Portacl.{decide_portacl}
use Rattle.sheet.specs.Sheet as Sheet
use Rattle.sheet.specs.Sheet.{Texts}
use Rattle.station.specs.Station.{decide_sheet, looked_sheet, decide_byuid_sheet, decide_portacl_sheet}
use Rattle.matters.specs.Matters.{name_matters, name_matters_tables, name_matters_sheet}
use Rattle.codes.specs.declared.GateAddress.{GateAddress}
use Rattle.codes.specs.declared.GateAnswer.{GateAnswer}
use Rattle.codes.specs.declared.GateCheck.{GateCheck}
use Rattle.codes.specs.declared.GateCommand.{GateCommand}
use Rattle.codes.specs.declared.GateNext.{GateNext}
use Rattle.codes.specs.declared.GateParts.{GateParts}
use Rattle.codes.specs.declared.GateWritten.{GateWritten}
use Rattle.codes.specs.declared.GateWrittenTwo.{GateWrittenTwo}
use Rattle.codes.specs.Requests.{RequestNumbers, request, byuid_bind, byuid_file_bind, authbind_asked, portacl_bind, write_by}
use Rattle.codes.specs.Answers.{verdict_answer, byuid_answer, portacl_answer, check_answer, parts_answer, written_answer, address_answer, Command, together, command_answer}
use Rattle.codes.specs.Answers.{next_answer, written_two_answer, matters_answer}
use Rattle.index.specs.Index.{write_index, verdicts}

-- ## Decisions

-- the verdict, and document 02, request 12: how many elements were looked at for it
abbrev pub gate_verdict : List ℕ → List ℕ → RequestNumbers → GateAnswer
gate_verdict allow deny n = verdict_answer (decide allow deny (request n)) (looked_over [] allow deny (request n))

-- document 02, request 1: by two texts and the text of section five
abbrev pub gate_tables_verdict : List ℕ → List ℕ → List ℕ → RequestNumbers → GateAnswer
gate_tables_verdict allow deny tables n = verdict_answer (decide_tables allow deny tables (request n)) (looked_over (tables_of tables) allow deny (request n))

abbrev pub gate_sheet_verdict : List ℕ → RequestNumbers → GateAnswer
gate_sheet_verdict sheet n = verdict_answer (decide_sheet sheet (request n)) (looked_sheet sheet (request n))

-- document 02, request 14: by two texts, over the tables of a section five, and by a sheet
abbrev pub gate_name_matters : List ℕ → List ℕ → RequestNumbers → GateAnswer
gate_name_matters allow deny n = matters_answer (name_matters allow deny (request n))

abbrev pub gate_tables_name_matters : List ℕ → List ℕ → List ℕ → RequestNumbers → GateAnswer
gate_tables_name_matters allow deny tables n = matters_answer (name_matters_tables allow deny tables (request n))

abbrev pub gate_sheet_name_matters : List ℕ → RequestNumbers → GateAnswer
gate_sheet_name_matters sheet n = matters_answer (name_matters_sheet sheet (request n))

abbrev pub gate_byuid : List ℕ → ℕ → ℕ → ℕ → ℕ → ℕ → ℕ → GateAnswer
gate_byuid text mark port kind high low uid = byuid_answer (decide_byuid text (byuid_file_bind mark port kind high low uid))

abbrev pub gate_sheet_byuid : List ℕ → ℕ → ℕ → ℕ → ℕ → ℕ → GateAnswer
gate_sheet_byuid sheet port kind high low uid = byuid_answer (decide_byuid_sheet sheet (byuid_bind port kind high low uid))

abbrev pub gate_portacl : List ℕ → Settings → ℕ → List ℕ → ℕ → ℕ → GateAnswer
gate_portacl text s uid groups protocol port = portacl_answer (decide_portacl text s (portacl_bind uid groups protocol port))

abbrev pub gate_sheet_portacl : List ℕ → Settings → ℕ → List ℕ → ℕ → ℕ → GateAnswer
gate_sheet_portacl sheet s uid groups protocol port = portacl_answer (decide_portacl_sheet sheet s (portacl_bind uid groups protocol port))

-- ## Sheets and addresses

abbrev pub gate_check : List ℕ → GateCheck
gate_check sheet = check_answer (Sheet.unpack sheet)

abbrev pub gate_unpack : List ℕ → GateParts
gate_unpack sheet = parts_answer (Sheet.unpack sheet)

abbrev pub gate_read_address : List ℕ → GateAddress
gate_read_address text = address_answer (read_address text)

-- ## Calls that write

pub record Wrote : Type 0 where
  pub answer : GateWritten
  pub out : List ℕ

abbrev pub wrote : List ℕ → Outcome (List ℕ) → Wrote
wrote out o = record { answer = written_answer o; out = lent_after out o }

abbrev pub gate_pack : Texts → List ℕ → Wrote
gate_pack ts out = wrote out (Sheet.pack ts (length out))

-- document 02, request 1: "a small program appends the two zero bytes of an empty count"
abbrev pub gate_upgrade : List ℕ → List ℕ → Wrote
gate_upgrade sheet out = wrote out (Sheet.upgrade sheet (length out))

-- document 02, request 6: the lines to drop, of a file and its tables, and the file without those of an accepted proposal
abbrev pub gate_propose : List ℕ → List ℕ → ℕ → List ℕ → Wrote
gate_propose text tables section out = wrote out (propose section text tables (length out))

abbrev pub gate_drop : List ℕ → List ℕ → ℕ → List ℕ → List ℕ → Wrote
gate_drop text tables section proposal out = wrote out (drop_rules section text tables proposal (length out))

-- document 02, request 8: "where each rule and its lists begin and end", and the answers to up to 32 requests, found by that index
abbrev pub gate_index : List ℕ → List ℕ → Wrote
gate_index sheet out = wrote out (write_index sheet (length out))

abbrev pub gate_verdicts : List ℕ → List ℕ → List ℕ → List ℕ → Wrote
gate_verdicts sheet index requests out = wrote out (verdicts sheet index requests (length out))

-- document 02, request 11: "a converter for byuid texts"
abbrev pub gate_convert : List ℕ → List ℕ → Wrote
gate_convert text out = wrote out (convert text (length out))

abbrev pub gate_expand : List ℕ → RequestNumbers → ℕ → List ℕ → Wrote
gate_expand command n process out = wrote out (expand command (request n) process (length out))

-- "The verdict hands back the raw command", and the same call expands it for the same request: by two texts, and by a sheet
pub record WroteCommand : Type 0 where
  pub answer : GateCommand
  pub out : List ℕ

abbrev pub wrote_command : List ℕ → Outcome Command → ℕ → WroteCommand
wrote_command out o k = record { answer = command_answer o k; out = lent_after out (o >>= λ c. Ok c.text) }

abbrev pub gate_command : List ℕ → List ℕ → RequestNumbers → ℕ → List ℕ → WroteCommand
gate_command allow deny n process out =
    wrote_command out (together (decide allow deny (request n)) (λ a. expand (command_bytes allow deny a) (request n) process (length out)))
    (looked_over [] allow deny (request n))

abbrev pub gate_sheet_command : List ℕ → RequestNumbers → ℕ → List ℕ → WroteCommand
gate_sheet_command sheet n process out =
    wrote_command out (together (decide_sheet sheet (request n)) (λ a. expand (bytes_at sheet a.command) (request n) process (length out)))
    (looked_sheet sheet (request n))

abbrev pub gate_write_address : ℕ → ℕ → ℕ → List ℕ → Wrote
gate_write_address kind high low out = wrote out (write_by kind high low (length out))

-- document 02, request 4: "which file to test next, or the outcome"; "Names are written whole .. into a lent buffer"
pub record WroteNext : Type 0 where
  pub answer : GateNext
  pub out : List ℕ

abbrev pub wrote_next : List ℕ → Outcome Step → WroteNext
wrote_next out o = record { answer = next_answer o; out = lent_after out (name_written o) }

abbrev pub gate_authbind : ℕ → ℕ → ℕ → ℕ → ℕ → List ℕ → List ℕ → WroteNext
gate_authbind port kind high low uid answers out = wrote_next out (next_step (authbind_asked port kind high low uid answers) (length out))

-- a call with two lent outputs
pub record WroteTwo : Type 0 where
  pub answer : GateWrittenTwo
  pub out : List ℕ
  pub other : List ℕ

abbrev pub wrote_two : List ℕ → List ℕ → Outcome (List ℕ × List ℕ) → WroteTwo
wrote_two out other o = record { answer = written_two_answer o; out = first_after out o; other = second_after other o }

-- document 02, request 13: "write the byuid lines that grant what the portacl list grants", the plain text and the marked one
abbrev pub gate_carry : List ℕ → ℕ → List ℕ → List ℕ → WroteTwo
gate_carry text uid plain marked = wrote_two plain marked (carry text uid (length plain) (length marked))

-- document 02, request 9: the new sheet, and the list of "section and line of each change"
abbrev pub gate_salvage : List ℕ → List ℕ → List ℕ → WroteTwo
gate_salvage sheet out list = wrote_two out list (salvage sheet (length out) (length list))
