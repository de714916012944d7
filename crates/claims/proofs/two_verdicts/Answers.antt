-- Demand 3, of two calls. Assumes nothing.
use Rattle.claims.proofs.UserClaims.{same_verdict}
use Rattle.claims.proofs.two_verdicts.Goals as goal

pub returns : goal.returns
returns c = record {
  first = c.gate_verdict-unfetched.ensures;
  second = c.gate_verdict-fetched.ensures;
  same = same_verdict _ _ _ _ _ _ _ _ _
      c.gate_verdict-unfetched.ensures _ _ _ c.gate_verdict-fetched.ensures;
}
