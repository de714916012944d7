-- `directive::directive_text` meets its contract, by the arm of each byte. Assumes nothing.
use mathlib.Core.Logic.{⊎_elim}
use Rattle.expansion.specs.Code.{texts_at, after_at}
use Rattle.expansion.proofs.TextLaws.{after_at_other}
use Rattle.expansion.proofs.directive.directive_text.Goals as goal

pub returns-in-97 : goal.returns-in-97
unfolding texts_at after_at
returns-in-97 c = rw c.in-97.is c.part_of.ensures

pub returns-in-65 : goal.returns-in-65
unfolding texts_at after_at
returns-in-65 c = rw c.in-65.is c.part_of-in-65.ensures

pub returns-in-110 : goal.returns-in-110
unfolding texts_at after_at
returns-in-110 c = rw c.in-110.is c.name_text.ensures

pub returns-in-78 : goal.returns-in-78
unfolding texts_at after_at
returns-in-78 c = rw c.in-78.is c.name_text-in-78.ensures

pub returns-in-104 : goal.returns-in-104
unfolding texts_at after_at
returns-in-104 c = ⊎_elim (λ e. rw e c.host_text.ensures) (λ e. rw e c.host_text.ensures) c.in-104.is

pub returns-in-72 : goal.returns-in-72
unfolding texts_at after_at
returns-in-72 c = rw c.in-72.is c.host_text-in-72.ensures

pub returns-in-117 : goal.returns-in-117
unfolding texts_at after_at
returns-in-117 c = rw c.in-117.is c.user_text.ensures

pub returns-in-100 : goal.returns-in-100
unfolding texts_at after_at
returns-in-100 c = rw c.in-100.is c.part_of-in-100.ensures

pub returns-in-115 : goal.returns-in-115
unfolding texts_at after_at
returns-in-115 c = rw c.in-115.is c.service_text.ensures

pub returns-in-112 : goal.returns-in-112
unfolding texts_at after_at
returns-in-112 c = rw c.in-112.is c.part_of-in-112.ensures

pub returns-in-37 : goal.returns-in-37
unfolding texts_at after_at
returns-in-37 c = rw c.in-37.is c.part_of-in-37.ensures

pub returns-in_default : goal.returns-in_default
returns-in_default c = after_at_other _ _ c.in_default.in_default-own.rest
