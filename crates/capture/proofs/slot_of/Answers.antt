-- `capture::slot_of` meets its contract: whole, or cut in its header or behind it.
use Rattle.capture.proofs.Tests.{slot_short, slot_cut, slot_whole}
use borrow.Author.Rules.{rules}
use Rattle.capture.proofs.slot_of.Goals as goal

pub returns-then-s-lt16 : goal.returns-then-s-lt16
returns-then-s-lt16 c = slot_short _ _ (search rules)

pub returns-then-s-size : goal.returns-then-s-size
returns-then-s-size c = slot_cut _ _ (search rules) _ c.word_in.ensures (search rules)

pub returns : goal.returns
returns c = slot_whole _ _ (search rules) _ c.word_in.ensures (search rules) _ c.word_in-original.ensures
