-- `capture::put_file` meets its contract: the five stores are the header.
use Rattle.capture.proofs.Laying.{file-stored}
use Rattle.capture.proofs.put_file.Goals as goal

pub returns : goal.returns
returns c = file-stored c.args.out.now _ _ _ _ _ c.put_word.ensures c.put_word-2.ensures c.put_zeros.ensures c.put_word-3.ensures c.put_word-4.ensures
