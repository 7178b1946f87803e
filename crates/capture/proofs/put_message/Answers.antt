-- `capture::put_message` meets its contract: the headers, and behind them the clean form.
use mathlib.Core.Path.{ap}
use mathlib.Core.List.{List}
use Prim.Native.Nat.{ℕ}
use Rattle.rules.specs.Buffer.{Written}
use Rattle.capture.proofs.Laying.{message_sent}
use borrow.Author.Rules.{rules}
use Rattle.capture.proofs.put_message.Goals as goal

pub returns : goal.returns
returns c =
    let a = c.args in
    message_sent a.s.now a.m a.port a.out.now _ _ a.to _ (search rules) c.clean_size-n.ensures c.put_front.ensures (ap (λ (x : Written × List ℕ). x.1) c.clean.ensures)
