-- `hibernaxo::hibernaxo_salvage` meets its contract: what the salvage answered, and the buffer that it left.
use Rattle.salvage.specs.Told.{report}
use Rattle.hibernaxo.specs.Told.{salvage_values}
use Rattle.hibernaxo.proofs.Buffers.{with-buffer}
use Rattle.hibernaxo.proofs.hibernaxo_salvage.Goals as goal

pub returns : goal.returns
returns c = with-buffer salvage_values (report c.salvage.result) _ c.put_salvaged.ensures c.salvage.ensures
