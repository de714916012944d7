-- Document 02, request 7: IPv4 clients on IPv6 sockets.
--   is_mapped a == a is an IPv6 address that stands for an IPv4 one
--   unmapped a == a, held as IPv4 where it is mapped
-- Assumes nothing: these are definitions.
use Rattle.std.specs.Prelude.{◌/◌, ◌%◌, ◌^◌, Bool, false, ◌&&◌, eqb}
use Rattle.text.specs.Basics.{when◌then◌else◌}
use Rattle.address.specs.declared.Addr.{Addr}
use Rattle.address.specs.declared.Addr.TheVariants as A

-- "when the first 80 bits are zero and the next 16 ones": the 64 of the high half and 16 of the low one, then 16
unfoldable pub is_mapped : Addr → Bool
is_mapped A.Unknown = false
is_mapped (A.V4 n) = false
is_mapped (A.V6 high low) = eqb high 0 && eqb (low / 2 ^ 32) 0xffff

-- "are to be held as IPv4": by the 32 bits that are left
unfoldable pub unmapped : Addr → Addr
unmapped A.Unknown = A.Unknown
unmapped (A.V4 n) = A.V4 n
unmapped (A.V6 high low) = when is_mapped (A.V6 high low) then A.V4 (low % 2 ^ 32) else A.V6 high low
