-- `numbered::measure_under` meets its contract: the messages refused, or the fresh ids behind those held.
use Prim.Native.Nat.{◌+◌}
use mathlib.Core.Path.{◌≡◌, sym, ap, ◌∙◌}
use native.Mathlib.Omega.{arith}
use lib.ListN.{length, length-take}
use lib.Seq.{length-take-le}
use borrow.Author.Rules.{rules}
use Rattle.std.specs.Prelude.{Ok}
use Rattle.numbered.specs.declared.Numbered.{Numbered}
use Rattle.sheet.specs.Table.{rows_in}
use Rattle.numbered.specs.Told.{told_ids}
use Rattle.numbered.proofs.States.{good-few, good-single}
use Rattle.numbered.proofs.Twice.{twice-once}
use Rattle.numbered.proofs.Marks.{tells_none}
use Rattle.numbered.proofs.Alone.{messages-bad, all-counted}
use Rattle.refusal.proofs.Numbers.{passed_on}
use Rattle.numbered.proofs.measure_under.Goals as goal

pub slice_bounds-count_messages-end : goal.slice_bounds-count_messages-end
slice_bounds-count_messages-end c =
    omega (arith, c.requires.2, good-few c.args.most c.args.ids.now c.args.held c.requires.0)

pub slice_bounds-count_messages-end-2 : goal.slice_bounds-count_messages-end-2
slice_bounds-count_messages-end-2 c =
    sym (length-take-le c.args.held c.args.ids.now (omega (arith, c.requires.2, good-few c.args.most c.args.ids.now c.args.held c.requires.0)))

pub overflow_sub-most : goal.overflow_sub-most
overflow_sub-most c =
    good-few c.args.most c.args.ids.now c.args.held c.requires.0

pub count_messages-requires : goal.count_messages-requires
count_messages-requires c =
    let few = good-few c.args.most c.args.ids.now c.args.held c.requires.0 in (
      omega (arith, few, c.requires.1, length-take c.args.held c.args.ids.now),
      record { once = twice-once _ (good-single c.args.most c.args.ids.now c.args.held c.requires.0) },
      λ l. absurd (omega (arith, c.requires.1)),
      c.requires.3,
      tells_none 683,
    )

pub put_behind-requires : goal.put_behind-requires
put_behind-requires c =
    let few = good-few c.args.most c.args.ids.now c.args.held c.requires.0 in
    let n = c.count_messages.ensures.few _ c.in_ok-counted.was in
    let fresh = c.count_messages.new.fresh in
    let long : length fresh ≡ 64 = search rules in
    (omega (arith, few, n, c.requires.2), omega (arith, few, n, c.requires.1), omega (arith, n, c.requires.1, long))

pub returns-in_err-counted : goal.returns-in_err-counted
returns-in_err-counted c =
    let a = c.args in
    rw (passed_on _ _ c.from_residual.ensures.1) (record { right = λ sheetBytes valid. messages-bad a.input.now sheetBytes a.quota a.ids.now a.held a.most c.requires.2 c.requires.1 c.requires.0 (rows_in a.table.now) valid _ _ (search rules) _ c.count_messages.ensures _ c.in_err-counted.was })

pub returns : goal.returns
returns c =
    let a = c.args in
    let r : Numbered = record { answer = Ok c.in_ok-counted.counted.progress; held = a.held + c.in_ok-counted.counted.many } in
    record { right = λ sheetBytes valid. ap (told_ids r) c.put_behind.ensures ∙ all-counted a.input.now sheetBytes a.quota a.ids.now a.held a.most c.requires.2 c.requires.1 c.requires.0 (rows_in a.table.now) valid _ _ (search rules) _ c.count_messages.ensures _ c.in_ok-counted.was }
