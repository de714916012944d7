-- `level::raised` meets its contract. The measure is the depth. Assumes nothing.
use Rattle.views.proofs.level.+raised.Given as goal

abbrev pub decreases-raised : goal.decreases-raised
decreases-raised l = l.depth
