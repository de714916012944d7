-- `rules::hosts_file::pass_lines` meets its contract. The invariant: the pass over the text is what was found, then the pass over the lines from i on, and so
-- is
-- the number of elements looked at; no answer is found while one is looked for; n is at most i + 1. The measure is what is left of the text. Assumes nothing.
use Prim.Native.Nat.{◌-◌}
use lib.ListN.{length}
use Rattle.lines.specs.Line.{lines}
use Rattle.rules.specs.FileCode.{Query, query_at, pass_text, lines_looked}
use Rattle.rules.proofs.FileLaws.{Passing}
use Rattle.rules.proofs.hosts_file.pass_lines.Given as goal

abbrev pub invariant-loop-i : goal.invariant-loop-i
invariant-loop-i l = let r : Query = query_at l.tables l.notes l.names l.request in
    Passing l.order l.verdict l.file r (pass_text l.order l.verdict l.file l.search r l.text) (lines_looked l.verdict l.file l.search r (lines l.text)) l.text l.i l.n l.searching l.found l.looked

abbrev pub decreases-loop-i : goal.decreases-loop-i
decreases-loop-i l = length l.text - l.i
