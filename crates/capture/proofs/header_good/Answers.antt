-- `capture::header_good` meets its contract: test by test.
use Rattle.capture.proofs.Tests.{header-short, header-magic, header_major, header_minor, header_link}
use borrow.Author.Rules.{rules}
use Rattle.capture.proofs.header_good.Goals as goal

pub returns-then-s-lt24 : goal.returns-then-s-lt24
returns-then-s-lt24 c = header-short _ _ (search rules)

pub returns-then-word_in : goal.returns-then-word_in
returns-then-word_in c = header-magic _ _ (search rules) _ c.word_in.ensures (search rules)

pub returns-then-half_in-ne2 : goal.returns-then-half_in-ne2
returns-then-half_in-ne2 c = header_major _ _ (search rules) _ c.word_in.ensures (search rules) _ c.half_in.ensures (search rules)

pub returns-then-half_in-ne4 : goal.returns-then-half_in-ne4
returns-then-half_in-ne4 c = header_minor _ _ (search rules) _ c.word_in.ensures (search rules) _ c.half_in.ensures (search rules) _ c.half_in-2.ensures (search rules)

pub returns : goal.returns
returns c = header_link _ _ (search rules) _ c.word_in.ensures (search rules) _ c.half_in.ensures (search rules) _ c.half_in-2.ensures (search rules) _ c.word_in-2.ensures
