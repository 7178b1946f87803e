-- `numbered::write_package` meets its contract: the four stores are the package.
use native.Mathlib.Omega.{arith}
use Rattle.rules.proofs.Claims.{premises_met}
use Rattle.numbered.proofs.Stores.{package_all}
use Rattle.numbered.proofs.write_package.Goals as goal

pub returns : goal.returns
returns c =
    package_all c.args.run.now c.args.p c.args.out.now c.args.at c.requires.1 (premises_met.bytes _ (λ k. omega (arith, c.type_inv.run k))) c.word_at.ensures c.put_word.ensures
    c.put_word-2.ensures c.put_part.ensures c.put_byte.ensures
