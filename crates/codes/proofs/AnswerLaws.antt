-- What a call answers as numbers is the definition's outcome as numbers.
-- Assumes nothing.
use Rattle.std.specs.Prelude.{Err, None, Ok, Option, Result, Some}
use Prim.Native.Nat.{ℕ}
use native.Mathlib.Omega.{arith}
use mathlib.Core.List.{List}
use mathlib.Core.Path.{◌≡◌, refl, ap, ◌∙◌}
use Rattle.section.specs.declared.Refusal.{Refusal}
use Rattle.section.specs.Refusal.{Outcome, ◌>>=◌, written_of, lent_after}
use Rattle.address.specs.declared.Addr.{Addr}
use Rattle.address.specs.declared.Addr.TheVariants as A
use Rattle.rules.specs.declared.Answer.{Answer}
use Rattle.rules.specs.declared.Reported.{Reported}
use Rattle.rules.specs.Looked.{reported}
use Rattle.rules.specs.Search.{file_section}
use Rattle.byuid.specs.declared.Decision.{Decision as ByuidDecision}
use Rattle.portacl.specs.declared.Decision.{Decision as PortaclDecision}
use Rattle.section.specs.Refusal.{written_two_of}
use Rattle.authbind.specs.declared.Next.{Next}
use Rattle.authbind.specs.declared.Next.TheVariants as N
use Rattle.authbind.specs.Authbind as Authbind
use Rattle.matters.specs.declared.Place.{Place}
use Rattle.sheet.specs.declared.Parts.{Parts}
use Rattle.codes.specs.declared.GateAnswer.{GateAnswer}
use Rattle.codes.specs.declared.GateCheck.{GateCheck}
use Rattle.codes.specs.declared.GateCommand.{GateCommand}
use Rattle.codes.specs.declared.GateNext.{GateNext}
use Rattle.codes.specs.declared.GateWrittenTwo.{GateWrittenTwo}
use Rattle.codes.specs.declared.GateParts.{GateParts}
use Rattle.codes.specs.declared.GateWritten.{GateWritten}
use Rattle.codes.specs.declared.GateAddress.{GateAddress}
use Rattle.codes.specs.Answers.{verdict_word, byuid_word, portacl_word, refusal_answer, word_answer, answer_numbers, accepted, found_parts, count_written}
use Rattle.codes.specs.Answers.{address_with}
use Rattle.codes.specs.Answers.{place_numbers, matters_answer, address_numbers, verdict_answer, byuid_answer, portacl_answer, check_answer, parts_answer}
use Rattle.codes.specs.Answers.{written_answer, count_two, written_two_answer, address_answer, command, together, with_count, command_answer, next_with}
use Rattle.codes.specs.Answers.{next_answer}
use Rattle.codes.specs.Code.{matter_numbers, byuid_numbers, portacl_numbers, verdict_numbers, check_numbers, parts_numbers, written_numbers, written_two_numbers}
use Rattle.codes.specs.Code.{command_written, next_numbers, read_numbers}

pub byuid_numbers_lem : (o : Outcome ByuidDecision) (x : Result ByuidDecision Refusal) (a : GateAnswer) → x ≡ o → a ≡ byuid_numbers x → a ≡ byuid_answer o
unfolding byuid_numbers byuid_answer
byuid_numbers_lem (Err r) x a e f = rw e at f
byuid_numbers_lem (Ok d) x a e f = rw e at f

pub portacl_numbers_lem : (o : Outcome PortaclDecision) (x : Result PortaclDecision Refusal) (a : GateAnswer) → x ≡ o → a ≡ portacl_numbers x → a
    ≡ portacl_answer o
unfolding portacl_numbers portacl_answer
portacl_numbers_lem (Err r) x a e f = rw e at f
portacl_numbers_lem (Ok d) x a e f = rw e at f

pub verdict_answered : (x : Reported) (b : Answer) (a : GateAnswer) → x.ruling ≡ Ok b → a ≡ answer_numbers b x.looked → a ≡ verdict_numbers x
unfolding verdict_numbers
verdict_answered x b a e f = rw e f

pub verdict_numbers_lem : (o : Outcome Answer) (k : ℕ) (x : Reported) (a : GateAnswer) → x ≡ reported o k → a ≡ verdict_numbers x → a ≡ verdict_answer o k
unfolding verdict_numbers verdict_answer
verdict_numbers_lem (Err r) k x a e f = rw e at f
verdict_numbers_lem (Ok b) k x a e f = rw e at f

pub place_word : (p : Place) (w : ℕ) → w ≡ (verdict_word p.verdict).number → (f : ℕ) → f ≡ file_section p.file
    → ◌≡◌ {A = GateAnswer} (record { number = 0; section = 0; line = p.line; word = w; file = f; place = 0; len = 0; looked = 0 }) (place_numbers p)
place_word p w is-w f is_f = rw (is-w, is_f)

pub matter_refused : (m : Result (Option Place) Refusal) (r : Refusal) (a : GateAnswer) → m ≡ Err r → a ≡ refusal_answer r → a ≡ matter_numbers m
unfolding matter_numbers
matter_refused m r a e f = rw e f

pub matter_matters : (m : Result (Option Place) Refusal) (a : GateAnswer) → m ≡ Ok None → a ≡ word_answer 9 → a ≡ matter_numbers m
unfolding matter_numbers
matter_matters m a e f = rw e f

pub matter_settled : (m : Result (Option Place) Refusal) (p : Place) (a : GateAnswer) → m ≡ Ok (Some p) → a ≡ place_numbers p → a ≡ matter_numbers m
unfolding matter_numbers
matter_settled m p a e f = rw e f

pub matter_numbers_lem : (o : Outcome (Option Place)) (m : Result (Option Place) Refusal) (a : GateAnswer) → m ≡ o → a ≡ matter_numbers m → a ≡ matters_answer o
unfolding matter_numbers matters_answer
matter_numbers_lem (Err r) m a e f = rw e at f
matter_numbers_lem (Ok None) m a e f = rw e at f
matter_numbers_lem (Ok (Some p)) m a e f = rw e at f

pub parts_found : (x : Result Parts Refusal) (p : Parts) (a : GateParts) → x ≡ Ok p → a ≡ found_parts p → a ≡ parts_numbers x
unfolding parts_numbers
parts_found x p a e f = rw e f

pub check_numbers_lem : (o : Outcome Parts) (x : Result Parts Refusal) (a : GateCheck) → x ≡ o → a ≡ check_numbers x → a ≡ check_answer o
unfolding check_numbers check_answer
check_numbers_lem (Err r) x a e f = rw e at f
check_numbers_lem (Ok p) x a e f = rw e at f

pub parts_numbers_lem : (o : Outcome Parts) (x : Result Parts Refusal) (a : GateParts) → x ≡ o → a ≡ parts_numbers x → a ≡ parts_answer o
unfolding parts_numbers parts_answer
parts_numbers_lem (Err r) x a e f = rw e at f
parts_numbers_lem (Ok p) x a e f = rw e at f

pub written_numbers_lem : (o : Outcome (List ℕ)) (x : Result ℕ Refusal) (a : GateWritten) → x ≡ written_of o → a ≡ written_numbers x → a ≡ written_answer o
unfolding written_numbers written_answer
written_numbers_lem (Err r) x a e f = rw e at f
written_numbers_lem (Ok t) x a e f = rw e at f

pub written_two_numbers_lem : (o : Outcome (List ℕ × List ℕ)) (x : Result (ℕ × ℕ) Refusal) (a : GateWrittenTwo) → x ≡ written_two_of o → a ≡ written_two_numbers x
    → a ≡ written_two_answer o
unfolding written_two_numbers written_two_answer
written_two_numbers_lem (Err r) x a e f = rw e at f
written_two_numbers_lem (Ok p) x a e f = rw e at f

pub written_two_refused : (x : Result (ℕ × ℕ) Refusal) (r : Refusal) (a : GateWrittenTwo) → x ≡ Err r → a ≡ written_two_numbers (Err r)
    → a ≡ written_two_numbers x
written_two_refused x r a e f = rw e f

pub written_two_counts : (x : Result (ℕ × ℕ) Refusal) (n m : ℕ) → x ≡ Ok (n, m) → count_two n m ≡ written_two_numbers x
unfolding written_two_numbers
written_two_counts x n m e = rw e

pub read_numbers_lem : (o : Outcome Addr) (x : Result Addr Refusal) (a : GateAddress) → x ≡ o → a ≡ read_numbers x → a ≡ address_answer o
unfolding read_numbers address_answer
read_numbers_lem (Err r) x a e f = rw e at f
read_numbers_lem (Ok b) x a e f = rw e at f

pub next_numbers_lem : (o : Outcome Authbind.Step) (x : Next) (a : GateNext) → x ≡ Authbind.next_of o → a ≡ next_numbers x → a ≡ next_answer o
unfolding next_numbers next_answer
next_numbers_lem (Err r) x a e f = rw e at f
next_numbers_lem (Ok (Authbind.test name)) x a e f = rw e at f
next_numbers_lem (Ok (Authbind.read name)) x a e f = rw e at f
next_numbers_lem (Ok Authbind.granted) x a e f = rw e at f
next_numbers_lem (Ok Authbind.denied) x a e f = rw e at f
next_numbers_lem (Ok Authbind.not_ruled) x a e f = rw e at f

pub refusal_next : (r : Refusal) (n : GateAnswer) → n ≡ refusal_answer r
    → record { number = n.number; section = n.section; line = n.line; word = n.word; count = n.len } ≡ next_numbers (N.Refused r)
unfolding next_numbers
refusal_next r n e = rw e

module _ (x : Next) (a : GateNext) where
  pub next_refused : (r : Refusal) → x ≡ N.Refused r → a ≡ next_numbers (N.Refused r) → a ≡ next_numbers x
  next_refused r e f = rw e f

  pub next_granted : x ≡ N.Granted → a ≡ next_with 1 0 → a ≡ next_numbers x
  unfolding next_numbers
  next_granted e f = rw e f

  pub next_denied : x ≡ N.Denied → a ≡ next_with 2 0 → a ≡ next_numbers x
  unfolding next_numbers
  next_denied e f = rw e f

  pub next_not_ruled : x ≡ N.NotRuled → a ≡ next_with 5 0 → a ≡ next_numbers x
  unfolding next_numbers
  next_not_ruled e f = rw e f

  pub next_test : (n : ℕ) → x ≡ N.Test n → a ≡ next_with 7 n → a ≡ next_numbers x
  unfolding next_numbers
  next_test n e f = rw e f

  pub next_read : (n : ℕ) → x ≡ N.Read n → a ≡ next_with 8 n → a ≡ next_numbers x
  unfolding next_numbers
  next_read n e f = rw e f

pub byuid_refused : (x : Result ByuidDecision Refusal) (r : Refusal) (a : GateAnswer) → x ≡ Err r → a ≡ refusal_answer r → a ≡ byuid_numbers x
unfolding byuid_numbers
byuid_refused x r a e f = rw e f

pub byuid_answered : (x : Result ByuidDecision Refusal) (d : ByuidDecision) (k : ℕ) (a : GateAnswer) → x ≡ Ok d → k ≡ (byuid_word d).number → a ≡ word_answer k → a
    ≡ byuid_numbers x
unfolding byuid_numbers
byuid_answered x d k a e g f = rw e (rw g at f)

pub portacl_refused : (x : Result PortaclDecision Refusal) (r : Refusal) (a : GateAnswer) → x ≡ Err r → a ≡ refusal_answer r → a ≡ portacl_numbers x
unfolding portacl_numbers
portacl_refused x r a e f = rw e f

pub portacl_answered : (x : Result PortaclDecision Refusal) (d : PortaclDecision) (k : ℕ) (a : GateAnswer) → x ≡ Ok d → k ≡ (portacl_word d).number → a ≡ word_answer k → a
    ≡ portacl_numbers x
unfolding portacl_numbers
portacl_answered x d k a e g f = rw e (rw g at f)

pub verdict_refused : (x : Reported) (r : Refusal) (a : GateAnswer) → x.ruling ≡ Err r → a ≡ refusal_answer r → a ≡ verdict_numbers x
unfolding verdict_numbers
verdict_refused x r a e f = rw e f

pub parts_refused : (x : Result Parts Refusal) (r : Refusal) (a : GateParts) → x ≡ Err r → a ≡ parts_numbers (Err r) → a ≡ parts_numbers x
parts_refused x r a e f = rw e f

pub read_refused : (x : Result Addr Refusal) (r : Refusal) (a : GateAddress) → x ≡ Err r → a ≡ read_numbers (Err r) → a ≡ read_numbers x
read_refused x r a e f = rw e f

pub read_found : (x : Result Addr Refusal) (b : Addr) (a : GateAddress) → x ≡ Ok b → a ≡ address_numbers b → a ≡ read_numbers x
unfolding read_numbers
read_found x b a e f = rw e f

pub verdict_word_lem : (a : Answer) (n w : ℕ) → w ≡ (verdict_word a.verdict).number → (f : ℕ) → f ≡ file_section a.file
    → ◌≡◌ {A = GateAnswer}
    (record { number = 0; section = 0; line = a.line; word = w; file = f; place = a.command.place; len = a.command.len; looked = n }) (answer_numbers a n)
verdict_word_lem a n w is-w f is_f = rw (is-w, is_f)

pub check_refused : (x : Result Parts Refusal) (r : Refusal) (a : GateCheck) → x ≡ Err r → a ≡ check_numbers (Err r) → a ≡ check_numbers x
check_refused x r a e f = rw e f

pub check_accepted : (x : Result Parts Refusal) (p : Parts) → x ≡ Ok p → accepted ≡ check_numbers x
unfolding check_numbers
check_accepted x p e = rw e

pub written_refused : (x : Result ℕ Refusal) (r : Refusal) (a : GateWritten) → x ≡ Err r → a ≡ written_numbers (Err r) → a ≡ written_numbers x
written_refused x r a e f = rw e f

pub written_count : (x : Result ℕ Refusal) (n : ℕ) → x ≡ Ok n → count_written n ≡ written_numbers x
unfolding written_numbers
written_count x n e = rw e

pub refusal_counted : (r : Refusal) (b : GateAnswer) → b ≡ refusal_answer r → (a : GateCommand) → a ≡ with_count b 0 → a ≡ with_count (refusal_answer r) 0
refusal_counted r b is_b a is-a = rw (is-a, is_b)

module _ (b : Answer) (k : ℕ) (x : Result ℕ Refusal) where
  pub command_refused : (r : Refusal) → x ≡ Err r → (a : GateCommand) → a ≡ with_count (refusal_answer r) 0 → a ≡ command_written b k x
  unfolding command_written
  command_refused r e a f = rw e f

  pub command_count : (n : ℕ) → x ≡ Ok n → (v : GateAnswer) → v ≡ answer_numbers b k → (a : GateCommand) → a ≡ with_count v n → a ≡ command_written b k x
  unfolding command_written
  command_count n e v is_v a f = rw e (f ∙ ap (λ (y : GateAnswer). with_count y n) is_v)

-- a verdict, and then its command; k: how many elements were looked at for the verdict
module _ (out : List ℕ) (d : Outcome Answer) (k : ℕ) (f : Answer → Outcome (List ℕ)) where
  pub together_refused : (g : Refusal) → (reported d k).ruling ≡ Err g → with_count (refusal_answer g) 0 ≡ command_answer (together d f) k
  unfolding command_answer
  together_refused g e = by d e
    where
      by : (d : Outcome Answer) → (reported d k).ruling ≡ Err g → with_count (refusal_answer g) 0 ≡ command_answer (together d f) k
      by (Err r) q = let z : r ≡ g = cc in rw z
      by (Ok a) q = let z : ◌≡◌ {A = ℕ} 0 1 = cc in absurd (omega arith)

  pub together_kept : (g : Refusal) → (reported d k).ruling ≡ Err g → out ≡ lent_after out (together d f >>= λ c. Ok c.text)
  together_kept g e = by d e
    where
      by : (d : Outcome Answer) → (reported d k).ruling ≡ Err g → out ≡ lent_after out (together d f >>= λ c. Ok c.text)
      by (Err r) q = refl
      by (Ok a) q = let z : ◌≡◌ {A = ℕ} 0 1 = cc in absurd (omega arith)

  module _ (b : Answer) (e : (reported d k).ruling ≡ Ok b) where
    is_answered : d ≡ Ok b
    is_answered = by d e
      where
        by : (d : Outcome Answer) → (reported d k).ruling ≡ Ok b → d ≡ Ok b
        by (Err r) q = let z : ◌≡◌ {A = ℕ} 0 1 = cc in absurd (omega arith)
        by (Ok a) q = cc

    pub together_written : (w : Result ℕ Refusal) → w ≡ written_of (f b) → command_written b (reported d k).looked w ≡ command_answer (together d f) k
    unfolding command_answer command_written
    together_written w is-w = rw (is_answered, is-w) (by (f b))
      where
        by : (o : Outcome (List ℕ)) → command_written b k (written_of o) ≡ command_answer (o >>= λ t. Ok (command b t)) k
        by (Err r) = refl
        by (Ok t) = refl

    pub together_holds : lent_after out (f b) ≡ lent_after out (together d f >>= λ c. Ok c.text)
    together_holds = rw is_answered (by (f b))
      where
        by : (o : Outcome (List ℕ)) → lent_after out o ≡ lent_after out ((o >>= λ t. Ok (command b t)) >>= λ c. Ok c.text)
        by (Err r) = refl
        by (Ok t) = refl

pub address_unknown : (x : Addr) (a : GateAddress) → x ≡ A.Unknown → a ≡ address_with 0 0 0 → a ≡ address_numbers x
address_unknown x a e f = rw e f

pub address_v4 : (x : Addr) (n : ℕ) (a : GateAddress) → x ≡ A.V4 n → a ≡ address_with 4 0 n → a ≡ address_numbers x
address_v4 x n a e f = rw e f

pub address_v6 : (x : Addr) (high low : ℕ) (a : GateAddress) → x ≡ A.V6 high low → a ≡ address_with 6 high low → a ≡ address_numbers x
address_v6 x high low a e f = rw e f
