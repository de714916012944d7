-- Examples, computed from the definitions: a definition that answers otherwise is refused here.
-- Assumes nothing.
use Rattle.std.specs.Prelude.{None, Some}
use mathlib.Core.Bool.{true, false}
use mathlib.Core.List.{[]}
use mathlib.Core.Path.{◌≡◌, refl}
use Rattle.text.specs.Basics.{any, all, first}
use Rattle.text.specs.Text.{bytes, equal, split_once, lower, equal_fold}
use Rattle.address.specs.declared.Addr.TheVariants as A
use Rattle.patterns.specs.declared.Name.TheVariants as N
use Rattle.patterns.specs.Host.{Endpoint, endpoint}
use Rattle.patterns.specs.Pattern.{wildcard, is_name_byte, name_pattern, host_pattern}
use Rattle.elements.specs.declared.User.TheVariants as U
use Rattle.elements.specs.declared.Found.TheVariants.{No}
use Rattle.elements.specs.Request.{Request, request_of}
use Rattle.tables.specs.Table.{is_table_name, table_name, pattern_with}
use Rattle.elements.specs.Element.{halves, client_reserved, daemon_reserved, named_table, is_plain_name}
use Rattle.elements.specs.Element.{daemon_name, user_half, daemon_parts, client_parts, look_at}
use Rattle.elements.specs.Code.{nobody}

-- a request to sshd, from a client of this name, whose user was not fetched
abbrev pub from_known : Request
from_known = request_of (bytes "sshd") (endpoint (record { name = N.Known; addr = A.Unknown }) (bytes "there")) nobody U.NotFetched []

pub record Examples : Type 0 where
  -- "The first `@` not in first place parts an element."
  pub first_at : halves (bytes "a@b@c") ≡ Some (bytes "a", bytes "b@c")
  pub at_in_first_place : halves (bytes "@a@b") ≡ Some (bytes "@a", bytes "b")
  -- request 1: "9 stays, in rules, for netgroups and for `/` at the start of a daemon element"
  pub client_slash : client_reserved (bytes "/t") ≡ false
  pub daemon_slash : daemon_reserved (bytes "/t") ≡ true
  pub netgroup_after_at : client_reserved (bytes "a@@b") ≡ true
  -- a table stands as an element, or as the half after its `@`; "`/` before no such name is 10"
  pub table_after_at : named_table (bytes "a@/t") ≡ Some (bytes "t")
  pub table_of_no_name : named_table (bytes "/") ≡ None
  -- "LOCAL and PARANOID before `@` .. are 10"
  pub local_name : is_plain_name (bytes "LOCAL") ≡ false
  -- "In daemons: `name@host` against the server's host"
  pub server_host_lem : look_at from_known (daemon_parts (λ n h. true) [] (Some (bytes "sshd", bytes "there"))) ≡ No
  -- ""Ask" comes nowhere else."
  pub other_host : look_at from_known (client_parts (λ n h. true) [] (Some (bytes "root", bytes "here"))) ≡ No

pub examples : Examples
unfolding any all first equal split_once lower equal_fold wildcard is_name_byte name_pattern host_pattern
    halves is_plain_name daemon_name user_half daemon_parts client_parts is_table_name table_name pattern_with client_reserved daemon_reserved named_table
examples = record {
  first_at = refl;
  at_in_first_place = refl;
  client_slash = refl;
  daemon_slash = refl;
  netgroup_after_at = refl;
  table_after_at = refl;
  table_of_no_name = refl;
  local_name = refl;
  server_host_lem = refl;
  other_host = refl;
}
