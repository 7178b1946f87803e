-- What a step of a walk hands back.
use Rattle.std.specs.Prelude.{◌≡◌}
use Rattle.rules.specs.Walk.{package_at, data_at, start_at, next_at}
use Rattle.message.specs.Answers.{told_package, PartOf}
use Rattle.walk.specs.declared.Walk.{Walk}
use Rattle.walk.specs.declared.Shown.{Shown}

-- a step of the walk w hands back r: the very run at the next place, what was found there, and the data shown as part of the run
pub record Shows (w : Walk) (r : Shown) : Type 0 where
  pub run : r.walk.run ≡ w.run
  pub at : r.walk.at ≡ next_at w.run.now w.at
  pub step : told_package r.step ≡ package_at w.run.now w.at
  pub bytes : r.bytes.now ≡ data_at w.run.now w.at
  pub part : PartOf w.run (start_at w.run.now w.at) r.bytes
