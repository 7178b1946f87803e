-- `capture::measure` meets its contract: a law for each `return`.
use mathlib.Core.Path.{◌≡◌, ap, sym, ◌∙◌}
use mathlib.Core.Bool.{true}
use Rattle.refusal.specs.Numbers.{outcome_of}
use Rattle.capture.specs.File.{header_good}
use Rattle.capture.specs.Told.{order_by}
use Rattle.capture.proofs.Only.{header-long}
use Rattle.capture.proofs.Measuring.{measured-large, measured-good, measured-none}
use borrow.Author.Rules.{rules}
use Rattle.capture.proofs.measure.Goals as goal
use Rattle.capture.proofs.measure.Goals.{Joined-else-not-big, else-not-big-via-then-not-big+else-not-header_good, else-not-big-via-else-not-big}

pub returns-then-file-gt65536 : goal.returns-then-file-gt65536
returns-then-file-gt65536 c = measured-large _ _ _ (search rules) _ (ap outcome_of c.refuse.ensures)

pub returns-then-not-header_good : goal.returns-then-not-header_good
returns-then-not-header_good c =
    measured-none _ _ _ (search rules) (sym c.header_good-big.ensures ∙ c.if-not-big.true) (sym c.header_good.ensures ∙ c.if-not-header_good.true) _ (ap outcome_of c.refuse-then-not-header_good.ensures)

-- the header is good in the order that is taken
in_order : (c : Joined-else-not-big) → header_good (order_by c.header_good-big.result) c.args.file.now ≡ true
in_order c =
    elim c.else-not-big.branch [
      | else-not-big-via-then-not-big+else-not-header_good w ↦ rw w.if-not-big.true (sym w.header_good.ensures ∙ w.if-not-header_good.false)
      | else-not-big-via-else-not-big w ↦ rw w.if-not-big.false (sym c.header_good-big.ensures ∙ w.if-not-big.false)
    ]

pub count-requires : goal.count-requires
count-requires c = (header-long _ _ (in_order (goal.at.count-requires c).Joined-else-not-big), search rules, search rules)

pub returns : goal.returns
returns c = measured-good _ _ _ (search rules) _ c.header_good-big.ensures (in_order (goal.at.returns c).Joined-else-not-big) _ c.count.ensures
