-- `radio::opportunity_of` meets its contract: its five fields.
use Rattle.radio.specs.Tlv.{opportunity_of}
use Rattle.radio.proofs.opportunity_of.Goals as goal

pub returns : goal.returns
unfolding opportunity_of
returns c = rw (c.half_at-frequency.ensures, c.half_at-id.ensures, c.byte_at-timeout.ensures, c.word_at-w.ensures, c.from-last.ensures, c.byte_at.ensures)
