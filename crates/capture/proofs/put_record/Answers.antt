-- `capture::put_record` meets its contract: the four stores are the record's header.
use mathlib.Core.Path.{refl}
use Rattle.capture.proofs.Fronts.{record_stored}
use Rattle.capture.proofs.put_record.Goals as goal

pub returns : goal.returns
returns c =
    let a = c.args in
    record_stored a.out.now _ _ _ _ a.to a.n a.seconds a.nanos _ refl c.put_word.ensures c.put_word-2.ensures c.put_word-3.ensures c.put_word-4.ensures
