-- `fragments::finish_cut` meets its contract: no room, or the fragments stored.
use mathlib.Core.Path.{ap, ◌∙◌}
use Prim.Native.Nat.{◌+◌, ◌*◌, ◌≤◌, ◌<◌}
use native.Mathlib.Omega.{arith}
use lib.ListN.{length}
use Rattle.std.proofs.lemmas.Grind.{div_ceil_times}
use Rattle.fragments.specs.Stored.{fragments_size}
use Rattle.fragments.proofs.Beginning.{count-is}
use Rattle.fragments.proofs.Answering.{count-some, count-few, size_is, roomless, done}
use Rattle.fragments.proofs.finish_cut.Goals as goal
use Rattle.fragments.proofs.finish_cut.Goals.{After-div_ceil-k}

-- so many parts, of so many bytes
times : (c : After-div_ceil-k) → (length c.args.packages.now ≤ c.div_ceil-k.result * c.args.size) × (c.div_ceil-k.result * c.args.size < length c.args.packages.now + c.args.size)
times c = rw c.div_ceil-k.ensures (div_ceil_times (length c.args.packages.now) c.args.size (omega (arith, c.requires.least)))

pub overflow_sub-n : goal.overflow_sub-n
overflow_sub-n c = let a = c.args in let e = times (goal.at.overflow_sub-n c).After-div_ceil-k in omega (arith, count-some _ _ a.size (omega (arith, c.requires.more)) e.0)

pub overflow_mul-n : goal.overflow_mul-n
overflow_mul-n c = let a = c.args in let e = times (goal.at.overflow_mul-n c).After-div_ceil-k in omega (arith, count-few _ _ a.size (omega (arith, c.requires.least)) e.1, c.requires.more, c.requires.most)

pub overflow_add-n-3 : goal.overflow_add-n-3
overflow_add-n-3 c = let a = c.args in let e = times (goal.at.overflow_add-n-3 c).After-div_ceil-k in omega (arith, count-few _ _ a.size (omega (arith, c.requires.least)) e.1, c.requires.more, c.requires.most, c.requires.room, c.round_up.ensures)

pub returns-then-out-n : goal.returns-then-out-n
returns-then-out-n c = let a = c.args in let e = times (goal.at.returns-then-out-n c).After-div_ceil-k in rw c.refuse.ensures (roomless a.r a.options.now a.packages.now a.size c.requires a.out.now (size_is a.options.now a.packages.now _ c.round_up.ensures) (count-is a.r a.options.now a.packages.now a.size c.requires _ e.0 e.1) (omega arith))

pub put_fragments-requires : goal.put_fragments-requires
put_fragments-requires c = let a = c.args in let e = times (goal.at.put_fragments-requires c).After-div_ceil-k in record { cuttable = c.requires; n_value = (size_is a.options.now a.packages.now _ c.round_up.ensures ∙ ap (fragments_size a.options.now a.packages.now) (count-is a.r a.options.now a.packages.now a.size c.requires _ e.0 e.1), omega arith, omega (arith, count-few _ _ a.size (omega (arith, c.requires.least)) e.1, c.requires.more, c.requires.most, c.requires.room, c.round_up.ensures)) }

pub returns : goal.returns
returns c = let a = c.args in let e = times (goal.at.returns c).After-div_ceil-k in done a.r a.options.now a.packages.now a.size c.requires a.out.now (size_is a.options.now a.packages.now _ c.round_up.ensures) (count-is a.r a.options.now a.packages.now a.size c.requires _ e.0 e.1) _ (omega arith) c.put_fragments.ensures
