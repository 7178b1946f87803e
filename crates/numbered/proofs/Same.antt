-- A promise allows one outcome alone: what is told settles the answer, how many ids are held, and ids, numbers and buffer.
use Prim.Native.Nat.{ℕ}
use mathlib.Core.Path.{◌≡◌, sym, ap, ap₂, ◌∙◌}
use mathlib.Core.List.{List}
use Rattle.rules.specs.Claims.{TellsApart}
use Rattle.refusal.proofs.Numbers.{number_positive, same_refusal}
use Rattle.numbered.specs.declared.Progress.{Progress}
use Rattle.refusal.specs.declared.Refusal.{Refusal}
use Rattle.std.specs.Prelude.{Result, Ok, Err}
use Rattle.numbered.specs.declared.Numbered.{Numbered}
use Rattle.numbered.specs.Numbering.{State}
use Rattle.numbered.specs.Quota.{Report}
use Rattle.numbered.specs.Told.{report, told}

progress_in : Report → Progress
progress_in r = record { handled = r.handled; consumed = r.consumed; bytes = r.bytes; messages = r.messages; packages = r.packages }

pub same_report : TellsApart report
unfolding progress_in
same_report (Ok x) (Ok y) e = ap (λ (r : Report). Ok (progress_in r)) e
same_report (Ok x) (Err f) e = absurd (number_positive f.why (sym (ap (λ (r : Report). r.number) e)))
same_report (Err f) (Ok x) e = absurd (number_positive f.why (ap (λ (r : Report). r.number) e))
same_report (Err f) (Err g) e = ap Err (same_refusal f g (ap (λ (r : Report). r.number) e) (ap (λ (r : Report). r.place) e))

-- what is left of ids and numbers, with the buffer
abbrev Left : Type 0
Left = List ℕ × List ℕ × List ℕ

pub tells_apart : TellsApart (λ (x : Numbered × Left). told x.0 x.1.0 x.1.1 x.1.2)
tells_apart (a, l) (b, m) e =
    let answers : a.answer ≡ b.answer = same_report a.answer b.answer (ap (λ (x : Report × State × List ℕ). x.0) e) in
    let held : a.held ≡ b.held = ap (λ (x : Report × State × List ℕ). x.1.held) e in
    let same : a ≡ b = ap (λ (x : Result Progress Refusal). record { answer = x; held = a.held }) answers ∙ ap (λ (x : ℕ). record { answer = b.answer; held = x }) held in
    ap₂ (λ (x : Numbered) (y : Left). (x, y)) same (ap (λ (x : Report × State × List ℕ). (x.1.ids, x.1.next, x.2)) e)
