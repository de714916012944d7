-- The rule in a joined line t, whose first separator stands at i, by the parts that the code lends.
-- Assumes nothing.
use Rattle.std.specs.Prelude.{Some}
use Prim.Native.Nat.{ℕ, ◌+◌, ◌<◌}
use mathlib.Core.Bool.{false}
use mathlib.Core.List.{List}
use mathlib.Core.Path.{◌≡◌, refl, ◌∙◌}
use lib.ListN.{length, take}
use Rattle.text.proofs.BasicLaws.{all_take, all_drop}
use Rattle.lines.specs.Command.{has_bad_percent}
use Rattle.lines.specs.Rule.{elements, parse_rule}
use Rattle.lines.specs.Parts.{separator_index, after_separator, words, trim_blanks, any_bad_percent}
use Rattle.lines.proofs.CommandLaws.{has_bad_percent_trimmed}
use Rattle.lines.proofs.LineLaws.{is_no_newline, join_clean}
use Rattle.lines.proofs.RuleLaws.{rule, parse_rule_parts, elements_words}
use Rattle.lists.specs.Code.{NoNewline}
use Rattle.lists.specs.ListCode.{client_words}

elements_joined : (t : List ℕ) → NoNewline t → elements t ≡ words t
elements_joined t h = rw (elements_words t, join_clean t h)

pub has_bad_percent_joined : (t : List ℕ) → NoNewline t → has_bad_percent t ≡ any_bad_percent (trim_blanks t)
has_bad_percent_joined t h = rw (has_bad_percent_trimmed t, join_clean t h)

pub after_separator_joined : (i : ℕ) (t : List ℕ) → NoNewline t → NoNewline (after_separator i t)
unfolding after_separator
after_separator_joined i t h = all_drop is_no_newline (i + 1) t h

pub parse_rule_joined : (t : List ℕ) → NoNewline t → (i : ℕ) → i ≡ separator_index false t → i < length t → (s : List ℕ) → s ≡ after_separator i t
    → parse_rule t ≡ Some (rule (words (take i t)) (client_words s) (after_separator (separator_index false s) s))
parse_rule_joined t joined i is-i l s is-s =
    let j : ℕ = separator_index false s in
    parse_rule_parts t i is-i l s is-s j refl (after_separator j s) refl
    ∙ rw (
      elements_joined (take i t) (all_take is_no_newline i t joined),
      elements_joined (take j s) (all_take is_no_newline j s (rw is-s (after_separator_joined i t joined))),
    )
