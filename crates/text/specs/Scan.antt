-- Places in texts and outputs, as the code finds and fills them. Nothing here needs to be believed for the meaning of document 01: the
-- public promises of the chapters are stated over Text and Number, and only inner contracts cite these definitions.
--   span_len p s  == how many leading bytes of s satisfy p
--   index_of b s  == the first place of b in s, the length where there is none
--   put_at d at s == the output d with s written over it from the place `at` on
--   after t d    == the output d with t written over its front
-- Assumes nothing: these are definitions.
use Rattle.std.specs.Prelude.{ℕ, suc, Bool, not, List, [], ◌∷◌, ◌++◌, eqb, length, drop, None, Option, Some}
use Rattle.std.proofs.Math.Seq.{paste}
use Rattle.text.specs.Basics.{when◌then◌else◌}

unfoldable pub span_len : (ℕ → Bool) → List ℕ → ℕ
span_len p [] = 0
span_len p (x ∷ s) = when p x then suc (span_len p s) else 0

unfoldable pub index_of : ℕ → List ℕ → ℕ
index_of b s = span_len (λ (x : ℕ). not (eqb x b)) s

unfoldable pub put_at : List ℕ → ℕ → List ℕ → List ℕ
put_at d at s = paste d at s (length s)

unfoldable pub after : List ℕ → List ℕ → List ℕ
after t d = t ++ drop (length t) d
