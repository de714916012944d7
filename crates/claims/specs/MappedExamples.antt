-- Document 02, request 7: examples of IPv4 clients on IPv6 sockets, computed.
-- Assumes nothing: these are statements.
use Prim.Native.String.{String}
use Rattle.std.specs.Prelude.{[], ◌≡◌, Ok, Some}
use Rattle.text.specs.Text.{bytes}
use Rattle.section.specs.Refusal.{Outcome}
use Rattle.section.specs.Section.{part}
use Rattle.address.specs.declared.Addr.{Addr}
use Rattle.address.specs.declared.Addr.TheVariants.{Unknown, V6}
use Rattle.patterns.specs.declared.Name.TheVariants as N
use Rattle.patterns.specs.Host.{endpoint}
use Rattle.elements.specs.declared.User.TheVariants as U
use Rattle.elements.specs.Request.{Request, request_of}
use Rattle.rules.specs.declared.Answer.{Answer}
use Rattle.rules.specs.declared.Verdict.TheVariants.{Granted, Denied}
use Rattle.rules.specs.declared.File.TheVariants.{Neither, Allow, Deny}
use Rattle.rules.specs.Search.{answer, decide}
use Rattle.expansion.specs.Expand.{expand}
use Rattle.byuid.specs.declared.Decision.TheVariants as B
use Rattle.byuid.specs.declared.Mark.TheVariants.{Plain}
use Rattle.byuid.specs.Byuid.{bind, file_bind, decide_byuid}

-- a request from one address to another, of hosts without a name
abbrev pub between : Addr → Addr → Request
between client server =
    request_of (bytes "sshd") (endpoint (record { name = N.Unknown; addr = client }) []) (endpoint (record { name = N.Unknown; addr = server }) [])
    U.Unknown []

-- ::ffff:10.1.2.3
abbrev pub mapped : Addr
mapped = V6 0 0xffff0a010203

-- what allow and then deny answer on such a request
abbrev pub decides : String → String → Addr → Addr → Outcome Answer
decides allow deny client server = decide (bytes allow) (bytes deny) (Some (between client server))

pub record MappedExamples : Type 0 where
  -- "Dotted patterns match it, bracketed ones don't"
  pub dotted : decides "ALL: 10.\n" "ALL: ALL\n" mapped Unknown ≡ Ok (answer Granted Allow 1 (part 8 0))
  pub bracketed : decides "ALL: [::ffff:10.1.2.3], [::]/0\n" "" mapped Unknown ≡ Ok (answer Granted Neither 0 (part 0 0))
  pub server_dotted : decides "ALL@10.1.2.3: ALL\n" "ALL: ALL\n" Unknown mapped ≡ Ok (answer Granted Allow 1 (part 17 0))
  -- "when the first 80 bits are zero and the next 16 ones"
  pub bits_79 : decides "ALL: 10.\n" "" (V6 0 0x1ffff0a010203) Unknown ≡ Ok (answer Granted Neither 0 (part 0 0))
  pub no_ones : decides "" "ALL: [::10.1.2.3]\n" (V6 0 0x0a010203) Unknown ≡ Ok (answer Denied Deny 1 (part 17 0))
  pub all_zero : decides "ALL: 0.0.0.0\n" "ALL: ALL\n" (V6 0 0xffff00000000) Unknown ≡ Ok (answer Granted Allow 1 (part 12 0))
  -- "and %a writes it dotted"
  pub written : expand (bytes "%a %A %h %H %c %s") (Some (between mapped mapped)) 1 99
      ≡ Ok (bytes "10.1.2.3 10.1.2.3 10.1.2.3 10.1.2.3 10.1.2.3 sshd@10.1.2.3")
  -- "Byuid decisions .. keep the address as the caller gave it."
  pub byuid_dotted : decide_byuid (bytes "10.0.0.0/8,80") (Some (file_bind Plain (bind 80 mapped 432))) ≡ Ok B.NoLine
  pub byuid_given : decide_byuid (bytes "::ffff:0:0/96,80") (Some (file_bind Plain (bind 80 mapped 432))) ≡ Ok B.Granted
