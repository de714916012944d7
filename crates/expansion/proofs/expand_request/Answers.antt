-- `expand_request` meets its contract: the block holds the words, and the texts of the addresses and of the process number. Assumes nothing.
use native.Mathlib.Omega.{arith}
use Rattle.text.proofs.Numeral.{length_numeral}
use Rattle.address_format.proofs.WriteLaws.{length_addr_text}
use Rattle.expansion.proofs.CallLaws.{request_short, request_gave}
use Rattle.expansion.proofs.expand_request.Goals as goal

pub put_address-a-requires : goal.put_address-a-requires
put_address-a-requires c = omega
    (arith, length_addr_text c.args.request.client.addr)

pub put_address-b-requires : goal.put_address-b-requires
put_address-b-requires c = let r = c.args.request
    in omega (arith, length_addr_text r.client.addr, length_addr_text r.server.addr)

pub put_decimal-n-requires : goal.put_decimal-n-requires
put_decimal-n-requires c = let a =
    c.args in
    omega (arith, length_addr_text a.request.client.addr, length_addr_text a.request.server.addr, (length_numeral 10 10 a.process).0)

pub write_expansion-requires : goal.write_expansion-requires
write_expansion-requires c = (
  c.requires.0,
  request_short c.args.request c.args.names.now _ _ _ _ _ _ _ _ _ c.args.process
      (c.put-w.ensures.next, c.put-w.ensures.written)
      (c.put_address-a.ensures.next, c.put_address-a.ensures.written)
      (c.put_address-b.ensures.next, c.put_address-b.ensures.written)
      (c.put_decimal-n.ensures.next, c.put_decimal-n.ensures.written) _ c.given_at.ensures c.requires.1,
)

pub returns : goal.returns
returns c = let a = c.args in
    let both = request_gave a.request a.names.now _ _ _ _ _ _ _ _ _ a.process
    (c.put-w.ensures.next, c.put-w.ensures.written)
    (c.put_address-a.ensures.next, c.put_address-a.ensures.written)
    (c.put_address-b.ensures.next, c.put_address-b.ensures.written)
    (c.put_decimal-n.ensures.next, c.put_decimal-n.ensures.written) _ c.given_at.ensures
    a.out.now _ a.t.now _ (c.write_expansion.ensures.answer, c.write_expansion.ensures.holds) in record { answer = both.0; holds = both.1 }
