-- What the inner contracts of the walk through a list cite. Nothing here needs to be believed for the meaning of document 01: the promises of
-- the two calls are stated over Check, Walk and Code.
--   past_except ws       == what follows the first EXCEPT of the list ws; nothing where there is none
--   parts_of a, addr_of p == an address as numbers, and the address of such numbers
--   code_of f, found_as k == what a list finds as a number, and what such a number says
--   turned b l          == l, negated round if b
--   Follows s r         == r is what follows the first EXCEPT of the list s
--   Grouped m c s g     == g is what the elements of s left of its first EXCEPT find and count, and how many bytes follow that EXCEPT
--   Stepped m c s from b n r k f == the elements of the list at from were looked at, beside n before: k in all. r: where the list after its
--                                  EXCEPT begins; 0 where nothing is left to look at, and f then says what was found, negated round if b
-- Assumes nothing: these are definitions.
use Rattle.std.specs.Prelude.{ℕ, ◌+◌, ◌-◌, ◌≤◌, ◌<◌, Bool, true, false, List, [], ◌∷◌, ◌≡◌, eqb, length, drop}
use Rattle.text.specs.Basics.{when◌then◌else◌}
use Rattle.address.specs.declared.Addr.{Addr}
use Rattle.address.specs.declared.Addr.TheVariants as A
use Rattle.lines.specs.Rule.{is_except}
use Rattle.lines.specs.Parts.{words}
use Rattle.patterns.specs.declared.Name.{Name}
use Rattle.patterns.specs.declared.Host.{Host}
use Rattle.elements.specs.declared.Found.{Found}
use Rattle.elements.specs.declared.Found.TheVariants as N
use Rattle.elements.specs.declared.Looked.{Looked}
use Rattle.elements.specs.Code.{looked_for}
use Rattle.lists.specs.declared.walk.Family.{Family}
use Rattle.lists.specs.declared.walk.Family.TheVariants as Family
use Rattle.lists.specs.declared.walk.AddrParts.{AddrParts}
use Rattle.lists.specs.declared.walk.Group.{Group}
use Rattle.lists.specs.ListCode.{negated, list_looked, looked_more, negated_looked}

-- ## What goes along

abbrev pub parts : Family → ℕ → ℕ → ℕ → AddrParts
parts f v4 high low = record { family = f; v4 = v4; high = high; low = low }

abbrev pub parts_of : Addr → AddrParts
parts_of A.Unknown = parts Family.Unknown 0 0 0
parts_of (A.V4 x) = parts Family.V4 x 0 0
parts_of (A.V6 x y) = parts Family.V6 0 x y

abbrev pub addr_of : Family → ℕ → ℕ → ℕ → Addr
addr_of Family.Unknown v4 high low = A.Unknown
addr_of Family.V4 v4 high low = A.V4 v4
addr_of Family.V6 v4 high low = A.V6 high low

abbrev pub host_with : Name → Addr → Host
host_with name addr = record { name = name; addr = addr }

abbrev pub host_of : Name → Family → ℕ → ℕ → ℕ → Host
host_of name f v4 high low = host_with name (addr_of f v4 high low)

abbrev pub code_of : Found → ℕ
code_of N.No = 0
code_of N.Yes = 1
code_of N.Ask = 2

abbrev pub found_as : ℕ → Found
found_as k = when eqb k 0 then N.No else when eqb k 1 then N.Yes else N.Ask

abbrev pub turned_found : Bool → Found → Found
turned_found true f = negated f
turned_found false f = f

abbrev pub turned : Bool → Looked → Looked
turned b l = looked_for (turned_found b l.found) l.looked

-- ## One group of elements

abbrev pub group : Found → ℕ → ℕ → Group
group f n left = record { found = f; looked = n; left = left }

abbrev pub group_end : Found → ℕ → Group
group_end f n = group f n 0

unfoldable pub past_except : List (List ℕ) → List (List ℕ)
past_except [] = []
past_except (w ∷ ws) = when is_except w then ws else past_except ws

-- rest is the end of s
pub record Ends (s rest : List ℕ) : Type 0 where
  pub at : ℕ
  pub same : rest ≡ drop at s

pub record Follows (s rest : List ℕ) : Type 0 where
  pub past : words rest ≡ past_except (words s)
  pub ends : Ends s rest

pub record Grouped (m : List ℕ → Found) (c : List ℕ → ℕ) (s : List ℕ) (g : Group) : Type 0 where
  pub done : g.left ≡ 0 → list_looked m c (words s) ≡ looked_for g.found g.looked
  pub more : (g.left ≡ 0 → ⊥) → list_looked m c (words s) ≡ looked_more g.looked (negated_looked (list_looked m c (words (drop (length s - g.left) s))))
  pub within : g.left ≤ length s
  pub shorter : (g.left ≡ 0 → ⊥) → g.left < length s

pub record Stepped (m : List ℕ → Found) (c : List ℕ → ℕ) (s : List ℕ) (from : ℕ) (b : Bool) (n r k f : ℕ) : Type 0 where
  pub done : r ≡ 0 → looked_for (found_as f) k ≡ looked_more n (turned b (list_looked m c (words (drop from s))))
  pub more : (r ≡ 0 → ⊥) → looked_more n (list_looked m c (words (drop from s))) ≡ looked_more k (negated_looked (list_looked m c (words (drop r s))))
  pub shorter : (r ≡ 0 → ⊥) → length (drop r s) < length (drop from s)
