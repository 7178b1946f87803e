-- `burst::randomize_all` meets its contract. The invariant of its loop: `at` is the end of whole periods, and the buffer with its bytes from there on randomized is what the contract asks for.
use Prim.Native.Nat.{ℕ, ◌+◌, ◌-◌}
use mathlib.Core.Path.{sym, ap, ◌∙◌}
use mathlib.Core.List.{List, ◌++◌}
use native.Mathlib.Omega.{arith}
use lib.ListN.{take, drop}
use borrow.Rule.Slice.PartMut.{same_len_mid}
use Rattle.burst.proofs.Buffer.{goes_on, part-less, behind}
use Rattle.burst.proofs.randomize_all.Goals as goal

pub loop-buf-preserved : goal.loop-buf-preserved
loop-buf-preserved c =
    let l = c.loop-buf in
    let m = c.randomize_period in
    let k = l.at + 255 - l.at in (
      omega arith,
      omega arith,
      same_len_mid l.at k l.buf m.new.part m.auto.part ∙ l.invariant.2,
      part-less l.at 0 k (l.at + 255) l.buf m.new.part l.invariant.1 (omega arith) (omega arith) m.ensures ∙ l.invariant.3,
    )

pub returns : goal.returns
returns c =
    let l = c.loop-buf in
    let m = c.randomize_rest in
    behind 0 l.at l.buf m.new.part m.ensures
    ∙ ap (λ (t : List ℕ). take l.at l.buf ++ t) (sym (goes_on l.at 0 (drop l.at l.buf) l.invariant.1)) ∙ l.invariant.3
