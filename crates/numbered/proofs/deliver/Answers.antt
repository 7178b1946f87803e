-- `numbered::deliver` meets its contract: the id's place among those held, or the one behind them, tells its number.
use Prim.Native.Nat.{ℕ, ◌+◌, ◌%◌, ◌^◌}
use mathlib.Core.Path.{refl, ap, ◌∙◌}
use lib.ListN.{set}
use lib.Seq.{sets}
use Rattle.numbered.specs.Parts.{head_bytes}
use Rattle.numbered.proofs.Marks.{bit_put}
use Rattle.numbered.proofs.deliver.Goals as goal

pub returns : goal.returns
returns c =
    let n = c.number_at-sequence in
    let a = c.args in
    record {
      none = λ e. absurd (c.if-bytes-eq0.false e);
      bit = λ h. bit_put a.seen.now a.h.id.0 c.slot_of.ensures c.put_bit.ensures;
      one = λ h. record {
        place = c.place_seen-place.result;
        spot = c.place_seen-place.ensures;
        head = c.write_head.ensures ∙ ap (λ (k : ℕ). sets a.out.now a.done.to (head_bytes a.h k (24 + a.bytes))) n.ensures;
        named = refl;
        counted = ap (λ (v : ℕ). set a.next.now c.place_seen-place.result v) (c.one_on.ensures ∙ ap (λ (k : ℕ). (k + 1) % 2 ^ 32) n.ensures);
        reached = rw c.held_with.ensures;
      };
    }
