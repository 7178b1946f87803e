-- `numbered::write_head` meets its contract: the three stores are the header.
use Rattle.numbered.proofs.Stores.{head-all}
use Rattle.numbered.proofs.write_head.Goals as goal

pub returns : goal.returns
returns c =
    let a = c.args in
    head-all a.out.now a.at a.h a.sequence a.size c.put_words.ensures c.put_words-2.ensures c.put_words-3.ensures
