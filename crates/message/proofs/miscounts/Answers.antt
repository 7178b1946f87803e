-- `message::miscounts` meets its contract: nothing is said, or a number is.
use mathlib.Core.Path.{sym, ap, ◌∙◌}
use mathlib.Core.Option.{Option}
use Prim.Native.Nat.{ℕ}
use Rattle.rules.specs.Options.{differs}
use Rattle.refusal.specs.Numbers.{option_of}
use Rattle.message.proofs.miscounts.Goals as goal

pub returns-in-None : goal.returns-in-None
returns-in-None c = ap (λ (o : Option ℕ). differs o c.args.packages) (ap option_of (sym c.in-None.is) ∙ c.count_said.ensures)

pub returns-in-Some : goal.returns-in-Some
returns-in-Some c =
    ap (λ (o : Option ℕ). differs o c.args.packages) (ap option_of (sym c.in-Some.is) ∙ c.count_said.ensures)
