-- `numbered::put_behind` meets its contract: what is copied behind those held is stored there.
use mathlib.Core.Path.{◌≡◌, sym, ◌∙◌}
use mathlib.Core.List.{List, append_assoc}
use Prim.Native.Nat.{ℕ, ◌+◌, ◌-◌}
use native.Mathlib.Omega.{arith}
use lib.ListN.{length, take, drop}
use lib.Seq.{sets-eq, length-take-le, drop-drop}
use Rattle.numbered.proofs.put_behind.Goals as goal

pub returns : goal.returns
returns c =
    let a = c.args in
    let ids : List ℕ = take a.n a.fresh.now in
    let l : length ids ≡ a.n = length-take-le a.n a.fresh.now c.requires.2 in
    let k : a.held + a.n - a.held ≡ length ids = omega (arith, l) in
    rw (c.copy_from_slice.ensures.after, k, drop-drop) (sym (append_assoc (take a.held a.ids.now) ids (drop (a.held + length ids) a.ids.now)) ∙ sym (sets-eq ids a.ids.now a.held (omega (arith, l, c.requires.0))))
