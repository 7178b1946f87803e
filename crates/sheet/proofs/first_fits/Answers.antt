-- `sheet::first_fits` meets its contract: spare bits, or the row in its eight words against the rules.
use borrow.Author.Rules.{rules}
use Rattle.sheet.proofs.Reading.{spare-bits, by-words}
use Rattle.sheet.proofs.first_fits.Goals as goal

pub returns-then-word_at-ne0 : goal.returns-then-word_at-ne0
returns-then-word_at-ne0 c = spare-bits _ (search rules) (record { below = λ k. (c.type_inv.s k).fits }) (rw c.word_at.ensures at c.if-word_at-ne0.true)

pub returns : goal.returns
returns c =
    rw (c.fits.ensures, c.requires.read) (by-words _ (search rules) (record { below = λ k. (c.type_inv.s k).fits }) (rw c.word_at.ensures at c.if-word_at-ne0.false))
