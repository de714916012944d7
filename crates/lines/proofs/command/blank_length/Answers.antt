-- `command::blank_length` meets its contract: the place of the first byte that is not blank counts the blanks before it. Assumes nothing.
use Prim.Native.Nat.{ℕ}
use native.Mathlib.Omega.{arith}
use borrow.Author.Rules.{rules}
use borrow.Author.Tests.{tests}
use mathlib.Core.Bool.{true, false}
use mathlib.Core.Path.{◌≡◌, refl, sym, ◌∙◌}
use Rattle.std.proofs.lemmas.Iterator.{YieldsList-from_slice, IsFirst-from_position, index_from_first}
use Rattle.text.specs.Scan.{span_len}
use Rattle.lines.specs.Parts.{is_blank_byte}
use Rattle.lines.proofs.command.blank_length.Goals as goal

abbrev Blank : ℕ → Type 0
Blank x = is_blank_byte x ≡ true

abbrev Stops : ℕ → Type 0
Stops x = is_blank_byte x ≡ false

pub returns-clause-count : goal.returns-clause-count
unfolding span_len
returns-clause-count c =
    c.unwrap_or.ensures
    ∙ sym
    (index_from_first (span_len is_blank_byte) Stops Blank refl (λ x s e. rw e) (λ x s e. rw e (omega arith)) _ _
    (IsFirst-from_position _ _ c.position.result Stops Blank c.position.ensures.ran
    (YieldsList-from_slice c.args.s.now cc) (λ x q k. search (rules, tests)) (λ x q k. search (rules, tests))))
