-- `patterns::net::read_bracket` meets its contract. The text after the first byte is parted at its first closing bracket. Assumes nothing.
use mathlib.Core.Path.{sym}
use native.Mathlib.Omega.{arith}
use borrow.Author.Rules.{rules}
use lib.Seq.{length-take-le}
use Rattle.text.proofs.Search.{outright}
use Rattle.patterns.proofs.NetLaws.{bracket_prefix_nil, bracket_prefix_open, bracket_prefix_pair}
use Rattle.patterns.proofs.net.read_bracket.Goals as goal

pub returns-then-e-eq0 : goal.returns-then-e-eq0
returns-then-e-eq0 c = outright (search (bracket_prefix_nil, rules))

pub returns-then-i-s : goal.returns-then-i-s
returns-then-i-s c = outright (search (bracket_prefix_open, rules))

pub slice_bounds-read_v6-end : goal.slice_bounds-read_v6-end
slice_bounds-read_v6-end c = sym (length-take-le _ _ (omega arith))

pub returns : goal.returns
returns c = outright (search (bracket_prefix_pair, rules))
