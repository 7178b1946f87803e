-- `windows::hand_over` meets its contract: by what the check of the window answers.
use mathlib.Core.Path.{◌≡◌, ap, ap₂, sym, ◌∙◌}
use mathlib.Core.Bool.{Bool, true, false, ◌&&◌}
use Rattle.refusal.specs.Numbers.{number_of}
use Rattle.windows.specs.Window.{is_cut}
use Rattle.windows.proofs.Handing.{handed-whole, handed-refused}
use Rattle.windows.proofs.hand_over.Goals as goal
use Rattle.windows.proofs.hand_over.Goals.{then-goes_on+else-is_cut, else-goes_on}

pub returns-in-Ok : goal.returns-in-Ok
returns-in-Ok c = handed-whole c.args.goes_on c.args.window.now _ (sym c.in-Ok.ensures)

pub returns-in-Err : goal.returns-in-Err
returns-in-Err c =
    let cut : (c.args.goes_on && is_cut (number_of c.in-Err.f.why)) ≡ true = ap₂ ◌&&◌ c.if-goes_on.true (sym c.is_cut.ensures ∙ c.if-is_cut.true) in
    c.ending_before.ensures ∙ handed-refused _ _ _ _ true cut (sym c.in-Err.ensures)

pub returns-in-Err-2 : goal.returns-in-Err-2
returns-in-Err-2 c =
    let whole : (c.args.goes_on && is_cut (number_of c.in-Err.f.why)) ≡ false = elim c.if-goes_on.branch [
      | then-goes_on+else-is_cut w ↦ ap₂ ◌&&◌ w.if-goes_on.true (sym w.is_cut.ensures ∙ w.if-is_cut.false)
      | else-goes_on w ↦ ap (λ (b : Bool). b && is_cut (number_of c.in-Err.f.why)) w.if-goes_on.false
    ] in
    handed-refused _ _ _ _ false whole (sym c.in-Err.ensures)
