-- `radio::rate_of` meets its contract: missing, or a rate.
use Rattle.radio.proofs.Finding.{rate_missing, rate_there}
use Rattle.radio.proofs.rate_of.Goals as goal

pub returns-then-n-eq0 : goal.returns-then-n-eq0
returns-then-n-eq0 c = rate_missing _ c.if-n-eq0.true

pub returns : goal.returns
returns c = rate_there _ c.if-n-eq0.false _ c.share.ensures
