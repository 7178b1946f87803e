-- `message::count_packages` meets its contract: LARGE, then the packages from the front.
use mathlib.Core.Path.{refl, sym, ◌∙◌}
use borrow.Author.Tests.{lt-ltb, le-ltb}
use Rattle.rules.proofs.Outcomes.{pass, halt}
use Rattle.message.specs.Runs.{cut_of}
use Rattle.message.proofs.count_packages.Goals as goal

pub returns-then-q-gt65536 : goal.returns-then-q-gt65536
unfolding cut_of
returns-then-q-gt65536 c = rw c.refuse.ensures (sym (halt _ _ _ _ (lt-ltb _ _ c.if-q-gt65536.true)))

pub returns : goal.returns
unfolding cut_of
returns c = c.packages_of.ensures ∙ sym (pass _ _ _ _ (le-ltb _ _ c.if-q-gt65536.false) refl)
