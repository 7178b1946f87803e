-- `fragments::put_first` meets its contract: header, options with 0x86 behind them, zero filled, and the payload, one behind the other.
use Rattle.fragments.proofs.Stores.{first-stored}
use Rattle.fragments.proofs.put_first.Goals as goal

pub returns : goal.returns
returns c = let a = c.args in first-stored a.out.now a.r a.options.now a.from a.n c.requires.movable.behind c.requires.movable.inside c.round_up-m.ensures c.put_front.ensures c.put_part.ensures c.put_offset.ensures c.put_zeros.ensures c.copy_within.ensures.after
