-- Document 02, request 7: no address of a request as it is held is a mapped one, and who shows up as one is answered as an IPv4 client.
-- Assumes nothing.
use Rattle.std.specs.Prelude.{Err, None, Ok, Option, Some}
use Prim.Native.Nat.{ℕ, ◌+◌, ◌*◌, ◌<◌, ◌^◌}
use mathlib.Core.Bool.{false}
use mathlib.Core.List.{List, []}
use mathlib.Core.Path.{◌≡◌, refl, sym, ap, ap₂, ◌∙◌}
use borrow.Author.Tests.{lt-ltb}
use lib.ListN.{length}
use lib.Pow.{high as upper, low as lower}
use Rattle.text.specs.Basics.{◌>>=◌}
use Rattle.section.specs.Refusal.{◌>>=◌ as ◌and_then◌}
use Rattle.section.specs.Refusal.{Outcome}
use Rattle.section.specs.Section.{bytes_at}
use Rattle.address.specs.declared.Addr.{Addr}
use Rattle.address.specs.declared.Addr.TheVariants as A
use Rattle.address.specs.Mapped.{is_mapped, unmapped}
use Rattle.address.proofs.MappedLaws.{none_mapped}
use Rattle.patterns.specs.declared.Name.{Name}
use Rattle.patterns.specs.Host.{Endpoint, endpoint}
use Rattle.elements.specs.declared.User.{User}
use Rattle.elements.specs.Request.{Request, request_of, held_host, held}
use Rattle.elements.proofs.HeldLaws.{held_fits}
use Rattle.rules.specs.declared.Answer.{Answer}
use Rattle.tables.specs.Table.{Table, tables_of}
use Rattle.rules.specs.Search.{decide_over, decide, decide_tables}
use Rattle.rules.specs.Looked.{looked_over}
use Rattle.expansion.specs.Expand.{expand}
use Rattle.sheet.specs.declared.Parts.{Parts}
use Rattle.sheet.specs.Sheet.{unpack}
use Rattle.station.specs.Station.{in_sheet, decide_sheet, looked_in, looked_sheet}
use Rattle.codes.specs.declared.request.HostNumbers.{HostNumbers}
use Rattle.codes.specs.Requests.{RequestNumbers, name_state, user_state, address_of, known_name, known_user, host_by, request}
use Rattle.codes.specs.Answers.{verdict_answer}
use Rattle.gate.specs.Calls.{wrote}
use Rattle.claims.specs.Claims.{NoMapped, SameHost, as_given, as_v4, with_hosts, HeldAsV4}

pub no_mapped : NoMapped
no_mapped r = (none_mapped r.client.host.addr, none_mapped r.server.host.addr)

-- ## What is held is held so already

kept : (a : Addr) → is_mapped a ≡ false → unmapped a ≡ a
unfolding unmapped
kept A.Unknown e = refl
kept (A.V4 n) e = refl
kept (A.V6 high low) e = rw e

held_held : (r : Request) → held (held r) ≡ held r
held_held r =
    ap₂
    (λ (a b : Addr). request_of r.daemon (endpoint (record { name = r.client.host.name; addr = a }) r.client.name)
    (endpoint (record { name = r.server.host.name; addr = b }) r.server.name) r.user r.user_name)
    (kept (unmapped r.client.host.addr) (none_mapped r.client.host.addr))
    (kept (unmapped r.server.host.addr) (none_mapped r.server.host.addr))

abbrev held_in : Option Request → Option Request
held_in o = o >>= λ r. Some (held r)

module _ (allow deny : List ℕ) where
  decide_held : (o : Option Request) → decide allow deny (held_in o) ≡ decide allow deny o
  unfolding decide
  decide_held None = refl
  decide_held (Some r) = rw (held_fits r, held_held r)

  tables_held : (tables : List ℕ) (o : Option Request) → decide_tables allow deny tables (held_in o) ≡ decide_tables allow deny tables o
  unfolding decide_tables
  tables_held tables None = refl
  tables_held tables (Some r) = rw (held_fits r, held_held r)

  over_held : (ts : List Table) (o : Option Request) → decide_over ts allow deny (held_in o) ≡ decide_over ts allow deny o
  over_held ts None = refl
  over_held ts (Some r) = rw (held_fits r, held_held r)

looked_held : (ts : List Table) (allow deny : List ℕ) (o : Option Request) → looked_over ts allow deny (held_in o) ≡ looked_over ts allow deny o
unfolding looked_over
looked_held ts allow deny None = refl
looked_held ts allow deny (Some r) = rw (held_fits r, held_held r)

sheet_looked_held : (sheet : List ℕ) (o : Option Request) → looked_sheet sheet (held_in o) ≡ looked_sheet sheet o
unfolding looked_sheet
sheet_looked_held sheet o = by (unpack sheet)
  where
    by : (u : Outcome Parts) → looked_in sheet (held_in o) u ≡ looked_in sheet o u
    by (Err r) = refl
    by (Ok p) = looked_held (tables_of (bytes_at sheet p.tables)) (bytes_at sheet p.allow) (bytes_at sheet p.deny) o

sheet_held : (sheet : List ℕ) (o : Option Request) → decide_sheet sheet (held_in o) ≡ decide_sheet sheet o
unfolding decide_sheet
sheet_held sheet o = by (unpack sheet)
  where
    decides : Option Request → Parts → Outcome Answer
    decides q p =
        decide_over (tables_of (bytes_at sheet p.tables)) (bytes_at sheet p.allow) (bytes_at sheet p.deny) q and_then λ a. Ok (in_sheet p a)

    by : (u : Outcome Parts) → (u and_then decides (held_in o)) ≡ (u and_then decides o)
    by (Err r) = refl
    by (Ok p) = ap (λ x. x and_then λ a. Ok (in_sheet p a))
        (over_held (bytes_at sheet p.allow) (bytes_at sheet p.deny) (tables_of (bytes_at sheet p.tables)) o)

expand_held : (command : List ℕ) (o : Option Request) (process room : ℕ) → expand command (held_in o) process room ≡ expand command o process room
unfolding expand
expand_held command None process room = refl
expand_held command (Some r) process room = rw (held_fits r, held_held r)

-- ## The request

abbrev held_end : Endpoint → Option Endpoint
held_end e = Some (endpoint (held_host e.host) e.name)

mapped_v4 : (n : ℕ) → n < 2 ^ 32 → unmapped (A.V6 0 (0xffff * 2 ^ 32 + n)) ≡ A.V4 n
unfolding unmapped is_mapped
mapped_v4 n h = rw (upper 0xffff 32 h, lower 0xffff 32 h)

same_host : {h k : HostNumbers} → SameHost h k → (name : List ℕ) → (host_by h name >>= held_end) ≡ (host_by k name >>= held_end)
unfolding host_by address_of unmapped
same_host (as_given h) name = refl
same_host (as_v4 state high low h) name = by (name_state state)
  where
    ends : Name → Option Addr → Option Endpoint
    ends n o = o >>= λ a. Some (endpoint (record { name = n; addr = a }) (known_name n name))

    by : (o : Option Name) → ((o >>= λ n. ends n (Some (A.V6 0 (0xffff * 2 ^ 32 + low)))) >>= held_end)
        ≡ ((o >>= λ n. ends n (address_of 4 high low)) >>= held_end)
    by None = refl
    by (Some n) = rw (lt-ltb low (2 ^ 32) h, mapped_v4 low h)

module _ (d : List ℕ) (t : List ℕ) (v : Option User) where
  of_ends : Option Endpoint → Option Endpoint → Option Request
  of_ends c s = c >>= λ x. s >>= λ y. v >>= λ u. Some (request_of d x y u (known_user u t))

  held_ends : (c s : Option Endpoint) → held_in (of_ends c s) ≡ of_ends (c >>= held_end) (s >>= held_end)
  unfolding of_ends
  held_ends None s = refl
  held_ends (Some x) None = refl
  held_ends (Some x) (Some y) = by v
    where
      by : (v : Option User) → held_in (v >>= λ u. Some (request_of d x y u (known_user u t)))
          ≡ (v >>= λ u. Some (held (request_of d x y u (known_user u t))))
      by None = refl
      by (Some u) = refl

module _ (n : RequestNumbers) (c s : HostNumbers) (same-c : SameHost n.client c) (same_s : SameHost n.server s) where
  same_request : held_in (request n) ≡ held_in (request (with_hosts n c s))
  unfolding request of_ends
  same_request =
      held_ends n.daemon n.user_name (user_state n.user) (host_by n.client n.client_name) (host_by n.server n.server_name)
      ∙ ap₂ (of_ends n.daemon n.user_name (user_state n.user)) (same_host same-c n.client_name) (same_host same_s n.server_name)
      ∙ sym (held_ends n.daemon n.user_name (user_state n.user) (host_by c n.client_name) (host_by s n.server_name))

  -- what holds a request first answers both alike
  same_outcome : {A : Type 0} (call : Option Request → A) → ((o : Option Request) → call (held_in o) ≡ call o)
      → call (request n) ≡ call (request (with_hosts n c s))
  same_outcome call holds = sym (holds (request n)) ∙ ap call same_request ∙ holds (request (with_hosts n c s))

pub held_as_v4 : HeldAsV4
held_as_v4 = record {
  alike_by_texts = λ allow deny n c s same-c same_s. ap₂ verdict_answer (same_outcome n c s same-c same_s (decide allow deny) (decide_held allow deny))
      (same_outcome n c s same-c same_s (looked_over [] allow deny) (looked_held [] allow deny));
  alike_by_tables = λ allow deny tables n c s same-c same_s.
      ap₂ verdict_answer (same_outcome n c s same-c same_s (decide_tables allow deny tables) (tables_held allow deny tables))
      (same_outcome n c s same-c same_s (looked_over (tables_of tables) allow deny) (looked_held (tables_of tables) allow deny));
  alike_by_sheet = λ sheet n c s same-c same_s. ap₂ verdict_answer (same_outcome n c s same-c same_s (decide_sheet sheet) (sheet_held sheet))
      (same_outcome n c s same-c same_s (looked_sheet sheet) (sheet_looked_held sheet));
  alike_written = λ command n c s same-c same_s process out. ap (wrote out)
      (same_outcome n c s same-c same_s (λ o. expand command o process (length out)) (λ o. expand_held command o process (length out)));
}
