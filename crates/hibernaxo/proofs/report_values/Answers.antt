-- `hibernaxo::report_values` meets its contract: its eleven fields.
use mir.Syntax.{w64}
use borrow.Author.Rules.{Fits-under}
use Rattle.hibernaxo.proofs.report_values.Goals as goal

pub overflow_cast-result-10 : goal.overflow_cast-result-10
overflow_cast-result-10 c = Fits-under w64 _ 65536 c.struct_known-10-1.given.1.1.1.1.1.1.1.1.1.0.fits tt

pub overflow_cast-result-11 : goal.overflow_cast-result-11
overflow_cast-result-11 c = Fits-under w64 _ 65536 c.struct_known-11-1.given.1.1.1.1.1.1.1.1.1.1.0.fits tt
