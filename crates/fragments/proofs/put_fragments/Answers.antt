-- `fragments::put_fragments` meets its contract: in the loop the fragments before `at` are stored, and the payloads of the others stand from `from` on.
use mathlib.Core.Path.{refl, ◌∙◌}
use native.Mathlib.Omega.{arith}
use Rattle.fragments.specs.Stored.{whole_by}
use Rattle.fragments.proofs.Distributing.{behind, ended}
use Rattle.fragments.proofs.Beginning.{pay_length, first-behind, second-length, begun_at, third_same, finished, turn, flags-room}
use Rattle.fragments.proofs.put_fragments.Goals as goal

pub put_clean-requires : goal.put_clean-requires
put_clean-requires c = record { cuts = c.requires.cuttable.cuts; run_len_bound = (omega arith, omega arith, omega (arith, c.requires.cuttable.most)) }

pub put_first-requires : goal.put_first-requires
put_first-requires c = let a = c.args in let s = second-length a.r a.options.now a.packages.now a.size c.requires.cuttable a.n c.requires.n_value.0 a.out.now c.requires.n_value.1 _ c.put_clean.ensures in record { movable = record { flags = flags-room a.r.flags 1 c.requires.cuttable.flags c.requires.cuttable.small (omega arith); behind = first-behind a.r a.options.now a.packages.now a.size c.requires.cuttable a.n c.requires.n_value.0 a.out.now c.requires.n_value.1; inside = omega (arith, s, c.requires.cuttable.more); short = omega (arith, c.requires.cuttable.more, c.requires.cuttable.most) }; options_len_bound = c.requires.cuttable.room }

pub overflow_add-options : goal.overflow_add-options
overflow_add-options c = omega (arith, c.requires.cuttable.room)

pub round_up-requires : goal.round_up-requires
round_up-requires c = omega (arith, c.requires.cuttable.room)

pub overflow_add-at : goal.overflow_add-at
overflow_add-at c = omega (arith, c.requires.cuttable.room, c.round_up.ensures)

pub overflow_add-at-2 : goal.overflow_add-at-2
overflow_add-at-2 c = omega (arith, c.requires.cuttable.room, c.requires.cuttable.more, c.requires.cuttable.most, c.round_up.ensures)

pub overflow_add-from : goal.overflow_add-from
overflow_add-from c = omega (arith, c.requires.cuttable.more, c.requires.cuttable.most)

pub loop-from-init : goal.loop-from-init
loop-from-init c = let a = c.args in begun_at a.r a.options.now a.packages.now a.size c.requires.cuttable a.n c.requires.n_value.0 a.out.now c.requires.n_value.1 _ c.put_clean.ensures _ c.put_first.ensures c.round_up.ensures refl

pub overflow_add-from-in-loop-from : goal.overflow_add-from-in-loop-from
overflow_add-from-in-loop-from c = omega (arith, c.min-m.ensures)

pub overflow_sub-from : goal.overflow_sub-from
overflow_sub-from c = let a = c.args in let l = c.loop-from in omega (arith, l.invariant.place, pay_length a.r a.options.now a.packages.now a.size c.requires.cuttable)

pub put_at-requires : goal.put_at-requires
put_at-requires c = let a = c.args in let l = c.loop-from in let m = c.min-m.ensures in record { movable = record { flags = flags-room a.r.flags _ c.requires.cuttable.flags c.requires.cuttable.small c.bits_at-bits.ensures.1; behind = behind (whole_by a.r a.options.now a.packages.now) a.size a.n (omega (arith, c.requires.cuttable.least)) _ l.out l.at l.from l.q l.invariant (omega arith); inside = omega (arith, m, l.invariant.long, l.invariant.fits); short = omega (arith, m, c.requires.cuttable.more, c.requires.cuttable.most) }; bits_bound = (c.bits_at-bits.ensures.1, omega arith) }

pub overflow_add-at-in-loop-from : goal.overflow_add-at-in-loop-from
overflow_add-at-in-loop-from c = omega (arith, c.min-m.ensures, c.requires.cuttable.more, c.requires.cuttable.most)

pub overflow_add-at-in-loop-from-2 : goal.overflow_add-at-in-loop-from-2
overflow_add-at-in-loop-from-2 c = let a = c.args in let l = c.loop-from in omega (arith, c.min-m.ensures, c.requires.cuttable.more, c.requires.cuttable.most, behind (whole_by a.r a.options.now a.packages.now) a.size a.n (omega (arith, c.requires.cuttable.least)) _ l.out l.at l.from l.q l.invariant (omega arith))

pub overflow_add-from-in-loop-from-2 : goal.overflow_add-from-in-loop-from-2
overflow_add-from-in-loop-from-2 c = omega (arith, c.min-m.ensures, c.requires.cuttable.more, c.requires.cuttable.most)

pub loop-from-smaller : goal.loop-from-smaller
loop-from-smaller c = omega (arith, c.min-m.ensures, c.requires.cuttable.least)

pub loop-from-preserved : goal.loop-from-preserved
loop-from-preserved c = let a = c.args in let l = c.loop-from in turn a.r a.options.now a.packages.now a.size a.n (omega (arith, c.requires.cuttable.least)) _ l.out l.at l.from l.q l.invariant (omega arith) _ _ _ _ c.min-m.ensures c.bits_at-bits.ensures.0 (omega (arith, l.invariant.place, pay_length a.r a.options.now a.packages.now a.size c.requires.cuttable)) refl c.put_at.ensures

pub shape_of-out : goal.shape_of-out
shape_of-out c = let a = c.args in let l = c.loop-from in l.invariant.long ∙ third_same a.r a.options.now a.packages.now a.size c.requires.cuttable a.n c.requires.n_value.0 a.out.now c.requires.n_value.1 _ c.put_clean.ensures _ c.put_first.ensures

pub returns : goal.returns
returns c = let a = c.args in let l = c.loop-from in finished a.r a.options.now a.packages.now a.size c.requires.cuttable a.n c.requires.n_value.0 a.out.now c.requires.n_value.1 _ c.put_clean.ensures _ c.put_first.ensures l.out (ended (whole_by a.r a.options.now a.packages.now) a.size a.n (omega (arith, c.requires.cuttable.least)) _ l.out l.at l.from l.q l.invariant (omega arith))
