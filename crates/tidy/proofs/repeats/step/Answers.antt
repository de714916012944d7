-- `tidy::repeats::step` meets its contract: no rule, or one that is marked, or noted. Assumes nothing.
use borrow.Author.Rules.{rules}
use Rattle.tidy.proofs.RepeatLaws.{none_all, none_marks, none_links, all_all, all_marks, all_links, plain_all, plain_marks, plain_links, rule_all_lem}
use Rattle.tidy.proofs.RepeatLaws.{rule_marks_lem, rule_links_lem}
use Rattle.tidy.proofs.repeats.step.Goals as goal

pub returns-then-not-has_rule : goal.returns-then-not-has_rule
returns-then-not-has_rule c = record { answer = search (none_all, rules); marked = search (none_marks, rules); hung = search (none_links, rules) }

pub returns-then-all : goal.returns-then-all
returns-then-all c = record { answer = search (all_all, rules); marked = search (all_marks, rules); hung = search (all_links, rules) }

pub returns-then-joins-eq0 : goal.returns-then-joins-eq0
returns-then-joins-eq0 c = record { answer = search (plain_all, rules); marked = search (plain_marks, rules); hung = search (plain_links, rules) }

pub returns : goal.returns
returns c = record { answer = search (rule_all_lem, rules); marked = search (rule_marks_lem, rules); hung = search (rule_links_lem, rules) }
