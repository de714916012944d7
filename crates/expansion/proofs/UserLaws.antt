-- Demand 3, second half: a command that uses neither %u nor %c expands alike for two users.
-- Assumes nothing.
use Rattle.std.specs.Prelude.{Some}
use Prim.Native.Nat.{ℕ}
use mathlib.Core.Bool.{false, ◌||◌}
use mathlib.Core.List.{List, [], ◌∷◌, flat_map}
use mathlib.Core.Path.{◌≡◌, refl}
use lib.Dec.{eqb}
use Rattle.text.specs.Basics.{first, any}
use Rattle.text.specs.Text.{bytes, among}
use Rattle.text.proofs.BasicLaws.{or_false}
use Rattle.lines.specs.Line.{join}
use Rattle.lines.specs.Command.{Piece, literal, directive, pieces, is_directive, skip_blanks, trimmed}
use Rattle.elements.specs.declared.User.{User}
use Rattle.elements.specs.Request.{Request, well_formed, held}
use Rattle.elements.specs.Code.{with_user}
use Rattle.expansion.specs.Expand.{inserted, piece_text, expansion, uses_user, expand}

-- "So `%%u` uses neither."
pub percent_percent_u : uses_user (bytes "%%u") ≡ false
unfolding uses_user trimmed join skip_blanks pieces any
percent_percent_u = refl

module _ (r : Request) (u u' : User) (t t' : List ℕ) (n : ℕ) where
  inserted_same : (y : ℕ) → among "uc" y ≡ false → inserted (with_user r u t) n y ≡ inserted (with_user r u' t') n y
  unfolding inserted first any
  inserted_same y h =
      let e : (eqb y 117 ≡ false) × ((eqb y 99 || false) ≡ false) = or_false (eqb y 117) (eqb y 99 || false) h in
      let f : (eqb y 99 ≡ false) × (false ≡ false) = or_false (eqb y 99) false e.1 in
      rw (e.0, f.0)

  pieces_same : (ps : List Piece) → any (is_directive (among "uc")) ps ≡ false → flat_map (piece_text (with_user r u t) n) ps
      ≡ flat_map (piece_text (with_user r u' t') n) ps
  unfolding any piece_text flat_map
  pieces_same [] h = refl
  pieces_same (literal x ∷ ps) h = rw (pieces_same ps h)
  pieces_same (directive y ∷ ps) h =
      let e : (among "uc" y ≡ false) × (any (is_directive (among "uc")) ps ≡ false) = or_false (among "uc" y) (any (is_directive (among "uc")) ps) h in
      rw (inserted_same y e.0, pieces_same ps e.1)

  pub expansion_same : (c : List ℕ) → uses_user c ≡ false → expansion (with_user r u t) n c ≡ expansion (with_user r u' t') n c
  unfolding expansion uses_user
  expansion_same c h = pieces_same (pieces (trimmed c)) h

-- the whole call in the same room, refusals too, where both users fit or neither does
pub expand_same : (r : Request) (u u' : User) (t t' : List ℕ) (n : ℕ) (c : List ℕ) (room : ℕ) → well_formed (with_user r u t) ≡ well_formed (with_user r u' t')
    → uses_user c ≡ false → expand c (Some (with_user r u t)) n room ≡ expand c (Some (with_user r u' t')) n room
unfolding expand
expand_same r u u' t t' n c room e h = rw (e, expansion_same (held r) u u' t t' n c h)
