-- Document 02, request 11: the converter for byuid texts.
--   convert_line l  == the line l, in its new form where the retired one used to accept it
--   convert_text t  == t with each such line in its new form
--   convert t room == the call: the converted text, into room bytes
--   decided_before t o == what the decision on t was before this request, for the claim alone that a converted text grants the same
-- Assumes nothing: these are definitions.
use Rattle.std.specs.Prelude.{ℕ, Bool, false, not, ◌&&◌, List, ◌++◌, map, Ok, Option, Some, unwrap_or}
use Rattle.text.specs.Basics.{when◌then◌else◌, ◌>>=◌, ◌or_else◌, any}
use Rattle.text.specs.Text.{bytes, split_once, split, intercalate}
use Rattle.section.specs.Refusal.{Outcome, ◌>>=◌ as ◌>>=ᴼ◌, refusing, ◌before◌, fitting, within_room}
use Rattle.section.specs.Section as S
use Rattle.section.specs.Section.{over_limit}
use Rattle.address.specs.declared.Addr.{Addr}
use Rattle.address.specs.Address.{addr_case, read_v4, read_v6}
use Rattle.byuid.specs.declared.Decision.{Decision}
use Rattle.byuid.specs.declared.Decision.TheVariants.{NotRuled, Granted, NoLine}
use Rattle.byuid.specs.declared.Mark.{Mark}
use Rattle.byuid.specs.Byuid.{within, read_comma_form, read_colon_form, is_retired, is_ruled, in_span, FileBind, address_known}

-- `addr4/len:pmin,pmax` with its two marks exchanged: "as `addr4/len,pmin-pmax`, .. in as many bytes"
abbrev pub exchanged : List ℕ → Option (List ℕ)
exchanged l = do
  p ← split_once (bytes ":") l
  q ← split_once (bytes ",") p.1
  Some (p.0 ++ bytes "," ++ q.0 ++ bytes "-" ++ q.1)

-- "rewrites just those lines .., and leaves every other byte"
unfoldable pub convert_line : List ℕ → List ℕ
convert_line l = when is_retired l then unwrap_or (exchanged l) l else l

unfoldable pub convert_text : List ℕ → List ℕ
convert_text t = intercalate (bytes "\n") (map convert_line (split "\n" t))

-- "the converter refuses by 2, then 14"
unfoldable pub convert : List ℕ → ℕ → Outcome (List ℕ)
convert t room = refusing (over_limit S.byuid t) (convert_text t) >>=ᴼ within_room room

-- ## Before this request

-- document 01: "`min[-max],pmin[-pmax]`; `addr[/len],pmin[-pmax]`; `addr4/len:pmin,pmax`"
unfoldable pub line_granted : Addr → ℕ → List ℕ → Bool
line_granted a p l = addr_case a false (within p (read_comma_form 32 read_v4 l or_else read_colon_form l)) (within p (read_comma_form 128 read_v6 l))

-- document 01, with request 3: as byuid_decision and decide_byuid, by these lines, of which none is refused
abbrev pub decision_before : List ℕ → Mark → ℕ → Addr → ℕ → Decision
decision_before t m p a uid =
    when not (is_ruled p uid) then NotRuled
    else when in_span m p && any (line_granted a p) (split "\n" t) then Granted else NoLine

unfoldable pub decided_before : List ℕ → Option FileBind → Outcome Decision
decided_before t o =
    over_limit S.byuid t before
    fitting address_known o (λ b. Ok (decision_before t b.mark b.asked.port b.asked.address b.asked.uid))
