-- `radio::put_report` meets its contract: three parts.
use Rattle.radio.proofs.Storing.{report-stored}
use Rattle.radio.proofs.put_report.Goals as goal

pub returns : goal.returns
returns c = report-stored c.args.out.now c.args.t c.put_report_front.ensures c.put_levels.ensures c.put_levels-2.ensures
