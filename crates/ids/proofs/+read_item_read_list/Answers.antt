-- The cycle of calls {read_item, read_list}.
use mathlib.Core.Path.{sym, ◌∙◌}
use native.Mathlib.Omega.{arith}
use Rattle.refusal.proofs.Numbers.{handed_on}
use Rattle.ids.proofs.Ranges.{fits-is}
use Rattle.ids.proofs.Steps.{item-inside}
use Rattle.ids.proofs.Reading.{held_next, item-broken, the_33rd, unfit, item-kept, line-ended, no_comma, a-comma}
use Rattle.ids.proofs.+read_item_read_list.Goals as goal
use Rattle.ids.proofs.+read_item_read_list.Goals.{read_item-then-n-eq32-via-then-n-eq32, read_item-then-n-eq32-via-else-n-eq32+then-not-fits}

-- ---- the item reader

pub read_item-overflow_add-next : goal.read_item-overflow_add-next
read_item-overflow_add-next t c = let k = item-inside c.args.s.now c.args.at _ _ (sym c.in_ok-item.ensures) c.requires.0 in omega (arith, k.1)

pub read_item-fault-requires : goal.read_item-fault-requires
read_item-fault-requires t c = (item-inside c.args.s.now c.args.at _ _ (sym c.in_ok-item.ensures) c.requires.0).1

pub read_item-returns-then-n-eq32 : goal.read_item-returns-then-n-eq32
read_item-returns-then-n-eq32 t c = c.fault.ensures _ ∙ elim c.then-n-eq32.branch [
  | read_item-then-n-eq32-via-then-n-eq32 w ↦ the_33rd _ _ c.requires.1 c.args.s.now c.args.at _ _ _ (sym c.in_ok-item.ensures) w.if-n-eq32.true
  | read_item-then-n-eq32-via-else-n-eq32+then-not-fits w ↦ unfit _ _ c.requires.1 c.args.s.now c.args.at _ _ _ (sym c.in_ok-item.ensures) (sym w.fits.ensures ∙ w.if-not-fits.true)
]

pub read_item-overflow_cast-item : goal.read_item-overflow_cast-item
read_item-overflow_cast-item t c = let f = fits-is _ (sym c.if-not-fits.ensures) in omega (arith, f.first)

pub read_item-overflow_cast-item-2 : goal.read_item-overflow_cast-item-2
read_item-overflow_cast-item-2 t c = let f = fits-is _ (sym c.if-not-fits.ensures) in omega (arith, f.last)

pub read_item-read_list-requires : goal.read_item-read_list-requires
read_item-read_list-requires t c =
    let k = item-inside c.args.s.now c.args.at _ _ (sym c.in_ok-item.ensures) c.requires.0 in
    (omega (arith, k.0, k.1), (k.1, rw c.put_range.ensures (held_next _ _ c.requires.1 (omega (arith, c.requires.1.few)) _ _)))

pub read_item-returns-in_err-item : goal.read_item-returns-in_err-item
read_item-returns-in_err-item t c = handed_on _ _ _ c.from_residual.ensures.1 (item-broken _ _ c.requires.1 c.args.s.now c.args.at (sym c.in_err-item.ensures))

pub read_item-returns : goal.read_item-returns
read_item-returns t c = c.read_list.ensures ∙ rw c.put_range.ensures (item-kept _ _ c.requires.1 c.args.s.now c.args.at _ _ _ (sym c.in_ok-item.ensures) (omega (arith, c.requires.1.few)) (sym c.if-not-fits.ensures))

-- ---- the list reader

pub read_list-returns-then-at-s : goal.read_list-returns-then-at-s
read_list-returns-then-at-s t c = line-ended _ _ c.requires.1 c.args.s.now c.args.at c.if-at-s.true

pub read_list-returns-then-s-at-ne44 : goal.read_list-returns-then-s-at-ne44
read_list-returns-then-s-at-ne44 t c = rw c.refuse.ensures (no_comma _ _ c.requires.1 c.args.s.now c.args.at (omega arith) c.if-s-at-ne44.true)

pub read_list-returns : goal.read_list-returns
read_list-returns t c = c.in_ok-count.ensures ∙ a-comma _ _ c.requires.1 c.args.s.now c.args.at (omega arith) c.if-s-at-ne44.false

pub read_list-returns-in_err-count : goal.read_list-returns-in_err-count
read_list-returns-in_err-count t c = handed_on _ _ _ c.from_residual.ensures.1 (c.in_err-count.ensures ∙ a-comma _ _ c.requires.1 c.args.s.now c.args.at (omega arith) c.if-s-at-ne44.false)
