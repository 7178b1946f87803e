-- `burst::randomize_part` meets its contract. The invariant of its loop: the part with its bytes from k on randomized is what the contract asks for.
use Prim.Native.Nat.{◌+◌}
use mathlib.Core.Path.{sym, ◌∙◌}
use native.Mathlib.Nat.{add-suc}
use native.Mathlib.Numerals.{add-one}
use native.Mathlib.Omega.{arith}
use lib.ListN.{length}
use Rattle.burst.proofs.Buffer.{byte-less, none_left}
use Rattle.burst.proofs.randomize_part.Goals as goal

pub loop-k-preserved : goal.loop-k-preserved
loop-k-preserved c =
    let l = c.loop-k in
    let t = c.args.table.now in
    rw (add-one, add-suc) (byte-less (length t) t l.part (c.args.from + l.k) l.k c.requires.table_value (omega arith) (omega arith) ∙ l.invariant)

pub returns : goal.returns
returns c =
    let l = c.loop-k in
    sym (none_left (c.args.from + l.k) l.k l.part (omega arith)) ∙ l.invariant
