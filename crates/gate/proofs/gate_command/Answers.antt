-- A refusal, or what the calls answered together. Assumes nothing.
use borrow.Author.Rules.{rules}
use Rattle.gate.proofs.Laws.{command_refused, command_kept, command_answer_lem, command_holds}
use Rattle.gate.proofs.gate_command.Goals as goal

pub returns-in-Err : goal.returns-in-Err
returns-in-Err c = record { answer = search (command_refused, rules); holds = search (command_kept, rules) }

pub returns-in-Ok : goal.returns-in-Ok
returns-in-Ok c = record { answer = search (command_answer_lem, rules); holds = search (command_holds, rules) }
