-- `address_format::put_address` meets its contract, by the kind of address. Assumes nothing.
use borrow.Author.Rules.{rules}
use Rattle.address_format.proofs.WriteLaws.{addr_text_unknown, addr_text_v4, addr_text_v6}
use Rattle.address_format.proofs.put_address.Goals as goal

pub put-requires : goal.put-requires
put-requires c = rw (addr_text_unknown c.args.a (search rules)) at c.requires

pub put_v4-requires : goal.put_v4-requires
put_v4-requires c = rw (addr_text_v4 c.args.a c.in-V4.n (search rules)) at c.requires

pub put_v6-requires : goal.put_v6-requires
put_v6-requires c = rw (addr_text_v6 c.args.a c.in-V6.high c.in-V6.low (search rules)) at c.requires

pub returns-in-Unknown : goal.returns-in-Unknown
returns-in-Unknown c = rw (addr_text_unknown c.args.a (search rules)) (record { next = c.put.ensures.next; written = c.put.ensures.written })

pub returns-in-V4 : goal.returns-in-V4
returns-in-V4 c = rw (addr_text_v4 c.args.a c.in-V4.n (search rules)) (record { next = c.put_v4.ensures.next; written = c.put_v4.ensures.written })

pub returns-in-V6 : goal.returns-in-V6
returns-in-V6 c = rw (addr_text_v6 c.args.a c.in-V6.high c.in-V6.low (search rules)) (record {
  next = c.put_v6.ensures.next;
  written =
      c.put_v6.ensures.written;
})
