-- `radio::head_of` meets its contract: its three numbers.
use Rattle.radio.specs.Radio.{head_of}
use Rattle.radio.proofs.head_of.Goals as goal

pub returns : goal.returns
unfolding head_of
returns c = rw (c.half_at-destination.ensures, c.half_at-source.ensures, c.word_at-sequence.ensures)
