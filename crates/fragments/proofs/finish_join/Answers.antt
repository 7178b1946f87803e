-- `fragments::finish_join` meets its contract: refused from check 9 on, no room, or stored.
use mathlib.Core.Path.{refl, sym, ap, ◌∙◌}
use native.Mathlib.Omega.{arith}
use Rattle.rules.specs.Bytes.{Bytes}
use Rattle.compose.specs.declared.Record.{Record}
use mathlib.Core.Option.{none}
use lib.Seq.{sets}
use Rattle.rules.specs.Bytes.{part}
use Rattle.message.specs.Answers.{head_of_header}
use Rattle.rules.specs.Message.{fragment_bits}
use Prim.Native.Nat.{◌+◌}
use Rattle.fragments.specs.Fragment.{fragment_bytes}
use Rattle.fragments.specs.Joining.{fragments_from}
use Rattle.fragments.specs.Stored.{kept_by, payloads_in, whole_by}
use Rattle.fragments.proofs.Finishing.{Opened, op, run-whole-options, kept-few, payload-few, payload-long, end-standard, end_package, end-count, storable, end-room, end-stored, one-is}
use Rattle.fragments.proofs.finish_join.Goals as goal
use Rattle.fragments.proofs.finish_join.Goals.{After-shared_slice_known-1}

bytes : (c : After-shared_slice_known-1) → Bytes c.args.s.now
bytes c = record { below = λ k. omega (arith, c.type_inv.s k) }

-- the fragments, as they were read
opened : (c : After-shared_slice_known-1) → Opened c.args.s.now (head_of_header c.args.h) c.args.h.run c.args.payload c.args.passed
opened c = op c.args.s.now (bytes c) c.args.h c.args.payload c.args.passed c.requires

pub returns-then-h-from : goal.returns-then-h-from
returns-then-h-from c = let a = c.args in rw c.refuse.ensures (end-standard a.s.now (bytes (goal.at.returns-then-h-from c).After-shared_slice_known-1) a.h a.payload a.passed c.requires a.out.now (λ z. omega (arith, c.if-h-from.true, c.from.ensures, one-is c.args.payload)))

pub returns-then-passed-ne0 : goal.returns-then-passed-ne0
returns-then-passed-ne0 c = let a = c.args in rw c.refuse-then-passed-ne0.ensures (end_package a.s.now (bytes (goal.at.returns-then-passed-ne0 c).After-shared_slice_known-1) a.h a.payload a.passed c.requires (omega (arith, c.if-h-from.false, c.from.ensures, one-is c.args.payload)) a.out.now (λ z. omega (arith, c.if-passed-ne0.true)))

pub overflow_add-end : goal.overflow_add-end
overflow_add-end c = let d = (opened (goal.at.overflow_add-end c).After-shared_slice_known-1).headed in omega (arith, d.run, d.few)

pub slice_bounds-miscounts-end : goal.slice_bounds-miscounts-end
slice_bounds-miscounts-end c = let d = (opened (goal.at.slice_bounds-miscounts-end c).After-shared_slice_known-1).headed in omega (arith, d.run, d.start, d.most)

pub returns-then-miscounts : goal.returns-then-miscounts
returns-then-miscounts c = let a = c.args in rw c.refuse-then-miscounts.ensures (end-count a.s.now (bytes (goal.at.returns-then-miscounts c).After-shared_slice_known-1) a.h a.payload a.passed c.requires (omega (arith, c.if-h-from.false, c.from.ensures, one-is c.args.payload)) (omega (arith, c.if-passed-ne0.false)) a.out.now (sym c.miscounts.ensures ∙ c.if-miscounts.true))

pub slice_bounds-kept_of-end : goal.slice_bounds-kept_of-end
slice_bounds-kept_of-end c = let d = (opened (goal.at.slice_bounds-kept_of-end c).After-shared_slice_known-1).headed in omega (arith, d.run, d.start, d.most)

pub kept_of-k-requires : goal.kept_of-k-requires
kept_of-k-requires c = let a = c.args in run-whole-options a.s.now (bytes (goal.at.kept_of-k-requires c).After-shared_slice_known-1) a.h a.payload a.passed c.requires

pub round_up-requires : goal.round_up-requires
round_up-requires c = let a = c.args in omega (arith, kept-few a.s.now (bytes (goal.at.round_up-requires c).After-shared_slice_known-1) a.h a.payload a.passed c.requires, (rw c.fragment_bits-bits.ensures at c.kept_of-k.ensures))

pub overflow_add-n : goal.overflow_add-n
overflow_add-n c = let a = c.args in omega (arith, kept-few a.s.now (bytes (goal.at.overflow_add-n c).After-shared_slice_known-1) a.h a.payload a.passed c.requires, (rw c.fragment_bits-bits.ensures at c.kept_of-k.ensures), c.round_up.ensures)

pub overflow_add-n-2 : goal.overflow_add-n-2
overflow_add-n-2 c = let a = c.args in omega (arith, kept-few a.s.now (bytes (goal.at.overflow_add-n-2 c).After-shared_slice_known-1) a.h a.payload a.passed c.requires, (rw c.fragment_bits-bits.ensures at c.kept_of-k.ensures), c.round_up.ensures, payload-few a.s.now (bytes (goal.at.overflow_add-n-2 c).After-shared_slice_known-1) a.h a.payload a.passed c.requires, payload-long a.s.now (bytes (goal.at.overflow_add-n-2 c).After-shared_slice_known-1) a.h a.payload a.passed c.requires)

pub returns-then-out-n : goal.returns-then-out-n
returns-then-out-n c = let a = c.args in rw c.refuse-then-out-n.ensures (end-room a.s.now (bytes (goal.at.returns-then-out-n c).After-shared_slice_known-1) a.h a.payload a.passed c.requires (omega (arith, c.if-h-from.false, c.from.ensures, one-is c.args.payload)) (omega (arith, c.if-passed-ne0.false)) a.out.now (rw c.fragment_bits-bits.ensures at c.kept_of-k.ensures) c.round_up.ensures refl (omega arith) (sym c.miscounts.ensures ∙ c.if-miscounts.false))

pub slice_bounds-put_joined-end : goal.slice_bounds-put_joined-end
slice_bounds-put_joined-end c = let d = (opened (goal.at.slice_bounds-put_joined-end c).After-shared_slice_known-1).headed in omega (arith, d.run, d.start, d.most)

pub put_joined-requires : goal.put_joined-requires
put_joined-requires c = let a = c.args in record { whole_options = run-whole-options a.s.now (bytes (goal.at.put_joined-requires c).After-shared_slice_known-1) a.h a.payload a.passed c.requires; in_order = record { fragments = _; read = (opened (goal.at.put_joined-requires c).After-shared_slice_known-1).read }; storable = rw c.fragment_bits-bits.ensures (storable a.s.now (bytes (goal.at.put_joined-requires c).After-shared_slice_known-1) a.h a.payload a.passed c.requires (omega (arith, c.if-h-from.false, c.from.ensures, one-is c.args.payload)) (omega (arith, c.if-passed-ne0.false)) a.out.now (rw c.fragment_bits-bits.ensures at c.kept_of-k.ensures) c.round_up.ensures refl (omega arith)) }

pub returns : goal.returns
returns c = let a = c.args in end-stored a.s.now (bytes (goal.at.returns c).After-shared_slice_known-1) a.h a.payload a.passed c.requires (omega (arith, c.if-h-from.false, c.from.ensures, one-is c.args.payload)) (omega (arith, c.if-passed-ne0.false)) a.out.now _ (rw c.fragment_bits-bits.ensures at c.kept_of-k.ensures) c.round_up.ensures refl (omega arith) ((rw c.fragment_bits-bits.ensures at c.put_joined.ensures) ∙ ap (λ (x : Record). sets a.out.now 0 (fragment_bytes (whole_by x (kept_by (fragment_bits a.h.flags) (part 24 (24 + a.h.run) a.s.now)) (payloads_in (fragments_from none 0 0 a.s.now))))) c.joined_record.ensures) (sym c.miscounts.ensures ∙ c.if-miscounts.false)
