-- `burst::randomize` meets its contract: each answer with the test that led to it.
use Rattle.burst.proofs.Answers.{randomizer-large, randomizer-done}
use Rattle.burst.proofs.randomize.Goals as goal

pub returns-then-buf-gt65536 : goal.returns-then-buf-gt65536
returns-then-buf-gt65536 c = rw c.refuse.ensures (randomizer-large c.args.buf.now c.if-buf-gt65536.true)

pub returns : goal.returns
returns c =
    let r = c.randomize_all in
    randomizer-done c.args.buf.now r.new.buf c.if-buf-gt65536.false r.ensures
