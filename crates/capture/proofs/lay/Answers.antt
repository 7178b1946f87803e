-- `capture::lay` meets its contract: header, and records behind it.
use Rattle.capture.proofs.Laying.{laid}
use Rattle.capture.proofs.lay.Goals as goal

pub returns : goal.returns
returns c =
    let a = c.args in
    laid a.recording.now a.port a.out.now _ _ c.put_file.ensures c.put_messages.ensures
