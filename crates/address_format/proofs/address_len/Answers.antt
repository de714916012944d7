-- `address_format::address_len` meets its contract: a text has at most 39 bytes. Assumes nothing.
use native.Mathlib.Omega.{arith}
use Rattle.address_format.proofs.WriteLaws.{length_addr_text}
use Rattle.address_format.proofs.address_len.Goals as goal

pub put_address-requires : goal.put_address-requires
put_address-requires c = omega (arith, length_addr_text c.args.a)
