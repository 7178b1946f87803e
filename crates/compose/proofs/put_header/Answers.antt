-- `compose::put_header` meets its contract: the six words are the header.
use native.Mathlib.Omega.{arith}
use Rattle.compose.proofs.Whole.{header_put}
use Rattle.compose.proofs.put_header.Goals as goal

pub returns : goal.returns
returns c =
    header_put c.args.out.now c.args.r c.args.run c.args.payload (omega (arith, c.ranges)) c.flags_with-flags.ensures c.put_word.ensures c.put_word-2.ensures c.put_word-3.ensures c.put_word-4.ensures c.put_word-5.ensures c.put_word-6.ensures
