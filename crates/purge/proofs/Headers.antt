-- The front of a kept message: the counts of its option run are set in a part that is lent, and its header is stored in another.
use Prim.Native.Nat.{ℕ, ◌+◌, ◌-◌}
use mathlib.Core.Path.{◌≡◌, ◌∙◌}
use mathlib.Core.List.{List, []}
use native.Mathlib.Omega.{arith}
use borrow.Rule.Slice.PartMut.{put_mid}
use lib.ListN.{length, take, drop, length-drop}
use lib.Seq.{sets, length-take-le}
use Rattle.rules.specs.Bytes.{part}
use Rattle.message.specs.declared.Header.{Header}
use Rattle.compose.specs.Payload.{header_by}
use Rattle.compose.specs.Told.{record_by}
use Rattle.compose.proofs.Stores.{sets-part}
use Rattle.purge.specs.declared.Left.{Left}
use Rattle.purge.specs.Purge.{count_set}
use Rattle.purge.specs.Parts.{Headed, headed}
use Rattle.purge.proofs.Stores.{part-back}
use Rattle.purge.proofs.Counts.{length-set}

pub front-stored : (s : List ℕ) (to : ℕ) (h : Header) (l : Left) → Headed s to h l → {ys zs b : List ℕ} → ys ≡ count_set l.packages [] (part (to + 24) (to + 24 + h.run) s)
    → b ≡ put_mid (to + 24) (to + 24 + h.run - (to + 24)) s ys → zs ≡ sets (take (length b - to) (drop to b)) 0 (header_by (record_by h) h.run l.bytes) → put_mid to (length b - to) b zs ≡ headed s to h l
front-stored s to h l v {ys = ys} {zs = zs} {b = b} ys-is b-is zs-is =
    let n : length ys ≡ to + 24 + h.run - (to + 24) = rw ys-is (length-set l.packages [] (part (to + 24) (to + 24 + h.run) s)
    ∙ length-take-le (to + 24 + h.run - (to + 24)) (drop (to + 24) s) (omega (arith, length-drop (to + 24) s, v.room))) in
    let e : b ≡ sets s (to + 24) (count_set l.packages [] (part (to + 24) (to + 24 + h.run) s)) =
    b-is ∙ part-back s ys (to + 24) (to + 24 + h.run - (to + 24)) n (omega (arith, v.room)) ∙ rw ys-is in
    sets-part b zs (header_by (record_by h) h.run l.bytes) to zs-is ∙ rw e
