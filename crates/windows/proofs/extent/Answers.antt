-- `windows::extent` meets its contract.
use native.Mathlib.Omega.{arith}
use Rattle.windows.proofs.Lengths.{extends_short, extends_low, extends_cut, extends_whole}
use Rattle.windows.proofs.extent.Goals as goal

pub returns-then-s-lt24 : goal.returns-then-s-lt24
returns-then-s-lt24 c = extends_short _ c.if-s-lt24.true

pub returns-then-size-lt24 : goal.returns-then-size-lt24
returns-then-size-lt24 c = extends_low _ c.if-s-lt24.false (omega (arith, c.if-size-lt24.true, c.word_at-size.ensures))

pub returns-then-s-size : goal.returns-then-s-size
returns-then-s-size c = extends_cut _ c.if-s-lt24.false (omega (arith, c.if-size-lt24.false, c.word_at-size.ensures)) (omega (arith, c.if-s-size.true, c.word_at-size.ensures))

pub returns : goal.returns
returns c = rw c.word_at-size.ensures (extends_whole c.args.s.now c.if-s-lt24.false (omega (arith, c.if-size-lt24.false, c.word_at-size.ensures)) (omega (arith, c.if-s-size.false, c.word_at-size.ensures)))
