-- `burst::period` meets its contract: antt computes one period from the recurrence, and the table is that list.
use Rattle.rules.specs.Burst.{byte_of}
use Rattle.rules.proofs.Sequence.{shifted, values, period}
use Rattle.burst.proofs.period.Goals as goal

pub returns : goal.returns
unfolding values shifted byte_of
returns c = period
