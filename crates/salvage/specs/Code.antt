-- What the contracts of inner functions cite. Nothing here needs to be believed for the meaning of the papers: laws tie it to Salvage.
-- A text is gone over by its pieces: the logical lines of allow and deny, the lines of byuid, the entries of portacl.
--   lines_from k t at n      == the pieces of the text t from the place at on, the first of which has the number n
--   is_bad k v s b           == a piece is bad, over the view v of the tables
--   written_for k listing .. == what is written of a piece: into the list where listing holds, else into the new text
--   made_of k v listing t    == what is written of a whole text
--   Found k v t at n p      == the piece p is the one at a place of t
--   made_texts v ts, made_list v ts == the new texts, and the list
--   sizes_of ts, grown_by s   == how long texts are, and the refusal of texts of these sizes
-- Assumes nothing: these are definitions.
use Rattle.std.specs.Prelude.{ℕ, ◌+◌, ◌-◌, ◌≤◌, Bool, true, false, not, ◌&&◌, List, [], ◌∷◌, ◌++◌, ◌≡◌, length, take, drop, ltb, eqb, Option}
use Prim.Native.String.{String}
use Rattle.text.specs.Basics.{when◌then◌else◌, ◌or_else◌, given, is_some}
use Rattle.text.specs.Text.{bytes, split}
use Rattle.section.specs.declared.Fault.TheVariants as F
use Rattle.section.specs.declared.Refusal.{Refusal}
use Rattle.section.specs.Refusal.{refusal}
use Rattle.section.specs.Section as S
use Rattle.section.specs.Section.{Section}
use Rattle.lines.specs.Line.{Line, line, logical_lines}
use Rattle.elements.specs.Code.{View}
use Rattle.rules.specs.FileCode.{judged_line}
use Rattle.byuid.specs.Byuid.{is_retired}
use Rattle.byuid.specs.Convert.{convert_line}
use Rattle.sheet.specs.Sheet.{Texts, texts}
use Rattle.salvage.specs.declared.piece.Kind.{Kind}
use Rattle.salvage.specs.declared.piece.Kind.TheVariants as K
use Rattle.salvage.specs.declared.piece.Piece.{Piece}
use Rattle.salvage.specs.declared.write.Sizes.{Sizes}
use Rattle.salvage.specs.Salvage.{good_entry, change_bytes}

-- ## Pieces

-- a line is bad by itself, or by the tables that it names as the view has them
abbrev pub bad_by : View → Line → Bool
bad_by v l = is_some (judged_line v l)

-- parts of a text as lines: the last one has no mark after it
unfoldable pub plain_lines : ℕ → ℕ → List (List ℕ) → List Line
plain_lines n at [] = []
plain_lines n at (s ∷ []) = line n at s false ∷ []
plain_lines n at (s ∷ u ∷ ss) = line n at s true ∷ plain_lines (n + 1) (at + length s + 1) (u ∷ ss)

-- where the pieces of a text of n bytes stop; "Empty text has no entries."
unfoldable pub stop_of : Kind → ℕ → ℕ
stop_of K.Allow n = n
stop_of K.Deny n = n
stop_of K.Byuid n = n + 1
stop_of K.Portacl n = when eqb n 0 then 0 else n + 1

abbrev pub parts_from : String → ℕ → List ℕ → ℕ → ℕ → List Line
parts_from mark stop t at n = when ltb at stop then plain_lines n at (split mark (drop at t)) else []

unfoldable pub lines_from : Kind → List ℕ → ℕ → ℕ → List Line
lines_from K.Allow t at n = logical_lines n at (split "\n" (drop at t))
lines_from K.Deny t at n = logical_lines n at (split "\n" (drop at t))
lines_from K.Byuid t at n = parts_from "\n" (stop_of K.Byuid (length t)) t at n
lines_from K.Portacl t at n = parts_from "," (stop_of K.Portacl (length t)) t at n

unfoldable pub is_bad : Kind → View → List ℕ → Bool → Bool
is_bad K.Allow v s b = bad_by v (line 0 0 s b)
is_bad K.Deny v s b = bad_by v (line 0 0 s b)
is_bad K.Byuid v s b = is_retired s
is_bad K.Portacl v s b = not (good_entry s)

abbrev pub piece : ℕ → Bool → ℕ → Bool → Piece
piece e b n x = record { end = e; ended = b; number = n; bad = x }

pub record Found (k : Kind) (v : View) (t : List ℕ) (at n : ℕ) (p : Piece) : Type 0 where
  pub from : at ≤ p.end
  pub within : p.end ≤ length t
  pub numbered : p.number ≤ n + (p.end - at) + 1
  pub bad : p.bad ≡ is_bad k v (take (p.end - at) (drop at t)) p.ended
  pub lines : lines_from k t at n ≡ line n at (take (p.end - at) (drop at t)) p.ended ∷ lines_from k t (p.end + 1) p.number

-- ## What is written

abbrev pub section_of : Kind → Section
section_of K.Allow = S.allow
section_of K.Deny = S.deny
section_of K.Byuid = S.byuid
section_of K.Portacl = S.portacl

unfoldable pub rule_bytes : List ℕ → Bool → List ℕ → List ℕ
rule_bytes instead bad s = (when bad then instead else s) ++ bytes "\n"

unfoldable pub bind_bytes : List ℕ → Bool → List ℕ
bind_bytes s ended = convert_line s ++ (when ended then bytes "\n" else [])

unfoldable pub entry_bytes : Bool → Bool → List ℕ → List ℕ
entry_bytes bad alone s = when bad then [] else (when alone then [] else bytes ",") ++ s

-- where alone says that no entry was kept so far
unfoldable pub text_bytes : Kind → Bool → Bool → List ℕ → Bool → List ℕ
text_bytes K.Allow bad alone s ended = rule_bytes [] bad s
text_bytes K.Deny bad alone s ended = rule_bytes (bytes "ALL: ALL") bad s
text_bytes K.Byuid bad alone s ended = bind_bytes s ended
text_bytes K.Portacl bad alone s ended = entry_bytes bad alone s

unfoldable pub listed_bytes : Kind → Bool → ℕ → List ℕ
listed_bytes k bad n = when bad then change_bytes ((section_of k).order, n) else []

unfoldable pub written_for : Kind → Bool → Bool → Bool → ℕ → List ℕ → Bool → List ℕ
written_for k true bad alone n s ended = listed_bytes k bad n
written_for k false bad alone n s ended = text_bytes k bad alone s ended

unfoldable pub written : Kind → View → Bool → Bool → List Line → List ℕ
written k v listing alone [] = []
written k v listing alone (l ∷ ls) =
    written_for k listing (is_bad k v l.raw l.ended) alone l.number l.raw l.ended
    ++ written k v listing (alone && is_bad k v l.raw l.ended) ls

unfoldable pub made_of : Kind → View → Bool → List ℕ → List ℕ
made_of k v listing t = written k v listing true (lines_from k t 0 1)

-- ## The whole

unfoldable pub made_texts : View → Texts → Texts
made_texts v ts = texts
    (made_of K.Allow v false ts.allow)
    (made_of K.Deny v false ts.deny)
    (made_of K.Byuid v false ts.byuid)
    (made_of K.Portacl v false ts.portacl)
    ts.tables

unfoldable pub made_list : View → Texts → List ℕ
made_list v ts =
    made_of K.Allow v true ts.allow ++ (made_of K.Deny v true ts.deny ++ (made_of K.Byuid v true ts.byuid ++ made_of K.Portacl v true ts.portacl))

abbrev pub sizes_of : Texts → Sizes
sizes_of ts = record { allow = length ts.allow; deny = length ts.deny; byuid = length ts.byuid; portacl = length ts.portacl }

-- texts within the limits of their sections
pub record Small (ts : Texts) : Type 0 where
  pub allow : length ts.allow ≤ 16384
  pub deny : length ts.deny ≤ 16384
  pub byuid : length ts.byuid ≤ 16384
  pub portacl : length ts.portacl ≤ 16384

-- the refusal of texts of these sizes
unfoldable pub grown_by : Sizes → Option Refusal
grown_by s =
    given (ltb (S.allow).limit s.allow) (refusal F.OverLimit (S.allow).order 0)
    or_else given (ltb (S.deny).limit s.deny) (refusal F.OverLimit (S.deny).order 0)
    or_else given (ltb (S.byuid).limit s.byuid) (refusal F.OverLimit (S.byuid).order 0)
    or_else given (ltb (S.portacl).limit s.portacl) (refusal F.OverLimit (S.portacl).order 0)
