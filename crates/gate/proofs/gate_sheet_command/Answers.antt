-- A refusal, or what the calls answered together. Assumes nothing.
use borrow.Author.Rules.{rules}
use Rattle.gate.proofs.Laws.{sheet_command_refused, sheet_command_kept, sheet_command_answer, sheet_command_holds}
use Rattle.gate.proofs.gate_sheet_command.Goals as goal

pub returns-in-Err : goal.returns-in-Err
returns-in-Err c = record { answer = search (sheet_command_refused, rules); holds = search (sheet_command_kept, rules) }

pub returns-in-Ok : goal.returns-in-Ok
returns-in-Ok c = record { answer = search (sheet_command_answer, rules); holds = search (sheet_command_holds, rules) }
