-- `radio::report_of` meets its contract: its eleven fields.
use Rattle.radio.specs.Tlv.{report_of}
use Rattle.radio.proofs.report_of.Goals as goal

pub returns : goal.returns
unfolding report_of
returns c = rw (c.six_bits-seconds.ensures, c.word_at-w.ensures, c.word_at-mission.ensures, c.half_at-level0.ensures, c.half_at-level1.ensures, c.half_at-level2.ensures, c.half_at-level3.ensures, c.half_at-level4.ensures, c.half_at-level5.ensures, c.half_at-level6.ensures, c.half_at-level7.ensures)
