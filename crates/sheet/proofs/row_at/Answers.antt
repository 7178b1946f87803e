-- `sheet::row_at` meets its contract: the eight words are the row's.
use Rattle.sheet.proofs.row_at.Goals as goal

pub returns : goal.returns
returns c =
    rw (
      c.word_at-f.ensures,
      c.word_at-g.ensures,
      c.word_at.ensures,
      c.word_at-2.ensures,
      c.word_at-3.ensures,
      c.word_at-4.ensures,
      c.word_at-5.ensures,
      c.word_at-6.ensures,
      c.word_at-7.ensures,
    )
