-- `classes` meets its contract: the table's rule is a test at each of its entries, which antt computes. Assumes nothing.
use mathlib.Core.Path.{refl}
use Rattle.text.specs.Basics.{any}
use Rattle.patterns.specs.Pattern.{is_name_byte}
use Rattle.lines.specs.Parts.{is_parting}
use Rattle.classes.specs.Class.{class_of}
use Rattle.classes.proofs.ClassLaws.{classes_right}
use Rattle.classes.proofs.classes.Goals as goal

pub returns : goal.returns
unfolding class_of is_parting is_name_byte any
returns c = classes_right _ refl tt
