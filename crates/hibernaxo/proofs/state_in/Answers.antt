-- `hibernaxo::state_in` meets its contract.
use Rattle.hibernaxo.proofs.state_in.Goals as goal

pub returns : goal.returns
returns c = rw (c.part_of-ids.ensures, c.part_of-next.ensures)
