-- `same_protocol` meets its contract: the words of two protocols are equal where the protocols are. Assumes nothing.
use Rattle.text.specs.Text.{equal}
use Rattle.portacl.proofs.same_protocol.Goals as goal

pub returns-in-Tcp-b : goal.returns-in-Tcp-b
unfolding equal
returns-in-Tcp-b c = rw (c.in-Tcp.is, c.in-Tcp-b.is)

pub returns-in-Udp-b : goal.returns-in-Udp-b
unfolding equal
returns-in-Udp-b c = rw (c.in-Tcp.is, c.in-Udp-b.is)

pub returns-in-Tcp-b-2 : goal.returns-in-Tcp-b-2
unfolding equal
returns-in-Tcp-b-2 c = rw (c.in-Udp.is, c.in-Tcp-b-2.is)

pub returns-in-Udp-b-2 : goal.returns-in-Udp-b-2
unfolding equal
returns-in-Udp-b-2 c = rw (c.in-Udp.is, c.in-Udp-b-2.is)
