-- `capture::datagram_for_us` meets its contract: test by test.
use Rattle.capture.proofs.Tests.{version-other, header-low, fragmented, protocol_other, port_unseen, port_seen}
use borrow.Author.Rules.{rules}
use Rattle.capture.proofs.datagram_for_us.Goals as goal

pub returns-then-byte_at-ne4 : goal.returns-then-byte_at-ne4
returns-then-byte_at-ne4 c = version-other _ _ _ c.byte_at.ensures (search rules)

pub returns-then-header-lt20 : goal.returns-then-header-lt20
returns-then-header-lt20 c = header-low _ _ _ c.byte_at.ensures (search rules) _ c.header_of-header.ensures.0 (search rules)

pub returns-then-half_at-ne0 : goal.returns-then-half_at-ne0
returns-then-half_at-ne0 c = fragmented _ _ _ c.byte_at.ensures (search rules) _ c.header_of-header.ensures.0 (search rules) _ c.half_at.ensures (search rules)

pub returns-then-byte_at-ne17 : goal.returns-then-byte_at-ne17
returns-then-byte_at-ne17 c = protocol_other _ _ _ c.byte_at.ensures (search rules) _ c.header_of-header.ensures.0 (search rules) _ c.half_at.ensures (search rules) _ c.byte_at-2.ensures (search rules)

pub returns-then-ip-header : goal.returns-then-ip-header
returns-then-ip-header c = port_unseen _ _ _ c.byte_at.ensures (search rules) _ c.header_of-header.ensures.0 (search rules) _ c.half_at.ensures (search rules) _ c.byte_at-2.ensures (search rules) (search rules)

pub returns : goal.returns
returns c = port_seen _ _ _ c.byte_at.ensures (search rules) _ c.header_of-header.ensures.0 (search rules) _ c.half_at.ensures (search rules) _ c.byte_at-2.ensures (search rules) (search rules) _ c.half_at-2.ensures
