-- The plain and the marked byuid file: each grants its own span, and answers the other's by "no line".
-- Assumes nothing.
use Rattle.std.specs.Prelude.{Err, None, Ok, Option, Some}
use Prim.Native.Nat.{ℕ, ◌≤◌, ◌<◌, ◌^◌}
use native.Mathlib.Omega.{arith}
use mathlib.Core.Bool.{Bool, true, false, not, ◌&&◌}
use mathlib.Core.List.{List}
use mathlib.Core.Path.{◌≡◌, refl, ap, ◌∙◌}
use borrow.Author.Tests.{lt-ltb, le-ltb, le-leb, lt-leb, leb-true, ne_eqb}
use lib.Dec.{leb}
use lib.ListN.{length}
use Rattle.text.specs.Basics.{when◌then◌else◌, ◌>>=◌, ◌or_else◌, given, any}
use Rattle.text.specs.Text.{split}
use Rattle.text.proofs.BasicLaws.{and_true}
use Rattle.section.specs.declared.Fault.TheVariants as F
use Rattle.section.specs.declared.Refusal.{Refusal}
use Rattle.section.specs.Refusal.{◌>>=◌ as ◌and_then◌}
use Rattle.section.specs.Refusal.{Outcome, placeless, ◌before◌, fitting}
use Rattle.section.specs.Section as S
use Rattle.section.specs.Section.{over_limit, bytes_at}
use Rattle.address.specs.declared.Addr.{Addr}
use Rattle.address.specs.declared.Addr.TheVariants as A
use Rattle.byuid.specs.declared.Decision.{Decision}
use Rattle.byuid.specs.declared.Decision.TheVariants.{NotRuled, Granted, NoLine}
use Rattle.byuid.specs.declared.Mark.{Mark}
use Rattle.byuid.specs.declared.Mark.TheVariants.{Plain, Marked}
use Rattle.byuid.specs.Byuid.{line_grants, is_ruled, in_span, byuid_decision, Bind, bind, file_bind, from_file, address_known, byuid_fault, decide_byuid}
use Rattle.sheet.specs.declared.Parts.{Parts}
use Rattle.sheet.specs.Sheet.{unpack}
use Rattle.station.specs.Station.{decide_byuid_sheet}
use Rattle.codes.specs.Requests.{address_of, mark_of, is_port, byuid_bind, byuid_file_bind}
use Rattle.codes.specs.Answers.{byuid_answer}
use Rattle.claims.specs.Claims.{Known, known_v4, known_v6, GrantsOwnSpan, OtherSpanNoLine, NeitherFile}

-- ## What is granted

word_granted : (o : Outcome Decision) → (byuid_answer o).word ≡ 1 → o ≡ Ok Granted
unfolding byuid_answer
word_granted (Err r) e = absurd (omega arith)
word_granted (Ok Granted) e = refl
word_granted (Ok NoLine) e = absurd (omega arith)
word_granted (Ok NotRuled) e = absurd (omega arith)

abbrev is_granted : Outcome Decision → ℕ
is_granted (Err r) = 0
is_granted (Ok Granted) = 1
is_granted (Ok NoLine) = 0
is_granted (Ok NotRuled) = 0

-- of the tests of a decision: is it ruled, in the span of the file, granted by a line
span_granted : (z y x : Bool) → is_granted (Ok (when not z then NotRuled else when y && x then Granted else NoLine)) ≡ 1 → y ≡ true
span_granted false y x e = absurd (omega arith)
span_granted true false x e = absurd (omega arith)
span_granted true true x e = refl

module _ (t : List ℕ) (m : Mark) (port kind high low uid : ℕ) where
  decided_span : (a : Addr) → is_granted (Ok (byuid_decision t m port a uid)) ≡ 1 → in_span m port ≡ true
  unfolding byuid_decision
  decided_span a e = span_granted (is_ruled port uid) (in_span m port) (any (line_grants a port) (split "\n" t)) e

  own_span : is_granted (decide_byuid t (from_file m (byuid_bind port kind high low uid))) ≡ 1 → in_span m port ≡ true
  unfolding decide_byuid byuid_bind
  own_span e = by (over_limit S.byuid t or_else byuid_fault t) (address_of kind high low) (is_port port) e
    where
      by : (r : Option Refusal) (a : Option Addr) (b : Bool)
          → is_granted (r before fitting address_known (from_file m (a >>= λ x. given b (bind port x uid)))
          (λ c. Ok (byuid_decision t c.mark c.asked.port c.asked.address c.asked.uid))) ≡ 1
          → in_span m port ≡ true
      by (Some r) a b f = absurd (omega arith)
      by None None b f = absurd (omega arith)
      by None (Some x) false f = absurd (omega arith)
      by None (Some A.Unknown) true f = absurd (omega arith)
      by None (Some (A.V4 n)) true f = decided_span (A.V4 n) f
      by None (Some (A.V6 h l)) true f = decided_span (A.V6 h l) f

within : (l h p : ℕ) → (leb l p && leb p h) ≡ true → (l ≤ p) × (p ≤ h)
within l h p e =
    let f = and_true (leb l p) (leb p h) e in
    (leb-true l p f.0, leb-true p h f.1)

sheet_span : (sheet : List ℕ) (port kind high low uid : ℕ) → is_granted (decide_byuid_sheet sheet (byuid_bind port kind high low uid)) ≡ 1
    → in_span Plain port ≡ true
unfolding decide_byuid_sheet
sheet_span sheet port kind high low uid e = by (unpack sheet) e
  where
    by : (u : Outcome Parts) → is_granted (u and_then λ p. decide_byuid (bytes_at sheet p.byuid) (from_file Plain (byuid_bind port kind high low uid))) ≡ 1
        → in_span Plain port ≡ true
    by (Err r) f = absurd (omega arith)
    by (Ok p) f = own_span (bytes_at sheet p.byuid) Plain port kind high low uid f

granted_one : (o : Outcome Decision) → (byuid_answer o).word ≡ 1 → is_granted o ≡ 1
granted_one o e = ap is_granted (word_granted o e)

pub grants_own_span : GrantsOwnSpan
unfolding byuid_file_bind mark_of
grants_own_span = record {
  plain_grants = λ text port kind high low uid e.
      within 1 511 port
      (own_span text Plain port kind high low uid (granted_one (decide_byuid text (from_file Plain (byuid_bind port kind high low uid))) e));
  marked_grants = λ text port kind high low uid e.
      within 512 1023 port
      (own_span text Marked port kind high low uid (granted_one (decide_byuid text (from_file Marked (byuid_bind port kind high low uid))) e));
  sheet_grants = λ sheet port kind high low uid e.
      within 1 511 port (sheet_span sheet port kind high low uid (granted_one (decide_byuid_sheet sheet (byuid_bind port kind high low uid)) e));
}

-- ## The other span

module _ (t : List ℕ) (m : Mark) (port uid : ℕ) (short : length t ≤ 8192) (sound : byuid_fault t ≡ None) (ruled : is_ruled port uid ≡ true)
    (other : in_span m port ≡ false)
    (small : is_port port ≡ true) where
  other_decided : (a : Addr) → address_known (file_bind m (bind port a uid)) ≡ true → decide_byuid t (Some (file_bind m (bind port a uid))) ≡ Ok NoLine
  unfolding decide_byuid byuid_decision
  other_decided a k = rw (le-ltb 8192 (length t) short, sound, k, ruled, other)

  other_known : {kind high low : ℕ} → Known kind high low → decide_byuid t (from_file m (byuid_bind port kind high low uid)) ≡ Ok NoLine
  unfolding byuid_bind address_of
  other_known (known_v4 high low h) = rw (lt-ltb low (2 ^ 32) h, small) (other_decided (A.V4 low) refl)
  other_known (known_v6 high low) = rw small (other_decided (A.V6 high low) refl)

pub other_span_no_line : OtherSpanNoLine
unfolding byuid_file_bind mark_of byuid_answer
other_span_no_line = record {
  plain_no_line = λ text port kind high low uid short sound known caller span.
      ap byuid_answer
      (other_known text Plain port uid short sound
      (rw (le-leb 1 port (omega (arith, span.0)), le-leb port 1023 span.1, ne_eqb uid 0 (λ e. omega arith)))
      (rw (le-leb 1 port (omega (arith, span.0)), lt-leb port 511 (omega (arith, span.0))))
      (lt-ltb port (2 ^ 16) (omega (arith, span.1))) known);
  marked_no_line = λ text port kind high low uid short sound known caller span.
      ap byuid_answer
      (other_known text Marked port uid short sound
      (rw (le-leb 1 port span.0, le-leb port 1023 (omega (arith, span.1)), ne_eqb uid 0 (λ e. omega arith)))
      (rw (lt-leb 512 port (omega (arith, span.1))))
      (lt-ltb port (2 ^ 16) (omega (arith, span.1))) known);
}

-- ## Neither file

pub neither_file : NeitherFile
unfolding decide_byuid byuid_file_bind mark_of byuid_answer
neither_file text mark port kind high low uid short sound over =
    rw (ne_eqb mark 0 (λ e. omega arith), ne_eqb mark 1 (λ e. omega arith), le-ltb 8192 (length text) short, sound)
