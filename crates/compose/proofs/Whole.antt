-- A whole message by stores, and what the writer and the cleaner answer.
use Prim.Native.Nat.{ℕ, suc, ◌+◌, ◌-◌, ◌*◌, ◌/◌, ◌%◌, ◌≤◌, ◌<◌}
use mathlib.Core.Path.{◌≡◌, refl, sym, ap, ◌∙◌}
use mathlib.Core.Bool.{Bool, true, false}
use mathlib.Core.List.{List, [], ◌∷◌, ◌++◌}
use native.Mathlib.Nat.{zero-add, add-zero}
use native.Mathlib.Omega.{arith}
use borrow.Author.Tests.{eq-eqb, ne_eqb}
use lib.Dec.{eqb}
use lib.ListN.{length, take, drop, length-append}
use lib.Seq.{sets}
use borrow.Rule.Slice.PartMut.{put_mid}
use Rattle.rules.specs.Bytes.{put32, pad, padded, one_if_any}
use Rattle.rules.specs.Items.{Fills}
use Rattle.rules.specs.Packages.{cut, Piece}
use Rattle.rules.specs.Message.{record_bits}
use Rattle.rules.specs.Writer.{write, Draft, drafted}
use Rattle.rules.proofs.Cut as Cut
use Rattle.rules.proofs.Pieces.{length-padded}
use Rattle.rules.proofs.Cleaned.{any-filled}
use Rattle.rules.proofs.Loops.{sets-sets}
use Rattle.compose.specs.Payload.{Cuts, pieces_written, payload_of, header_of, flags_with, header_by, message_of, size_of}
use Rattle.compose.specs.declared.Record.{Record}
use Rattle.compose.proofs.Stores.{sets-part}
use Rattle.compose.proofs.Run.{pieces_written-length}

-- the flags of a message without packages, and of one with some
pub flags-none : (flags payload : ℕ) → payload ≡ 0 → record_bits flags ≡ flags_with flags payload
flags-none flags payload e = rw (eq-eqb payload 0 e, flags_with, add-zero)

pub flags-some : (flags payload : ℕ) → (payload ≡ 0 → ⊥) → record_bits flags + 128 ≡ flags_with flags payload
flags-some flags payload e = rw (ne_eqb payload 0 e, flags_with)

flags-small : (flags payload : ℕ) → flags_with flags payload < 256
flags-small flags payload = go (eqb payload 0)
  where
    go : (b : Bool) → record_bits flags + elim b [ true ↦ 0 | false ↦ 128 ] < 256
    go true = omega arith
    go false = omega arith

-- flag 7 is that of a record with packages
pub any_flag : (f : ℕ) (s : List ℕ) → flags_with f (length s) ≡ record_bits f + one_if_any s * 128
any_flag f [] = refl
any_flag f (x ∷ s) = rw (ne_eqb (suc (length s)) 0 (λ z. omega arith), flags_with)

-- the header's six words
first-bytes : (w f : ℕ) (t : List ℕ) → w ≤ 64 → f < 256 → put32 ((16 + w) * 16777216 + f) t ≡ (16 + w) ∷ 0 ∷ 0 ∷ f ∷ t
first-bytes w f t h l =
    let a : ((16 + w) * 16777216 + f) / 16777216 % 256 ≡ 16 + w = omega arith in
    let b : ((16 + w) * 16777216 + f) / 65536 % 256 ≡ 0 = let e : ((16 + w) * 16777216 + f) / 65536 ≡ (16 + w) * 256 = omega arith in omega arith in
    let c : ((16 + w) * 16777216 + f) / 256 % 256 ≡ 0 = let e : ((16 + w) * 16777216 + f) / 256 ≡ (16 + w) * 65536 = omega arith in omega arith in
    let d : ((16 + w) * 16777216 + f) % 256 ≡ f = omega arith in
    rw (a, b, c, d)

header-stored : (b : List ℕ) (w f i q z s n : ℕ) {b₁ b₂ b₃ b₄ b₅ b₆ : List ℕ} {v z' : ℕ} → w ≤ 64 → f < 256 → v ≡ (16 + w) * 16777216 + f → z' ≡ z
    → b₁ ≡ sets b 0 (put32 v []) → b₂ ≡ sets b₁ 4 (put32 i []) → b₃ ≡ sets b₂ 8 (put32 q []) → b₄ ≡ sets b₃ 12 (put32 z' [])
    → b₅ ≡ sets b₄ 16 (put32 s []) → b₆ ≡ sets b₅ 20 (put32 n []) → b₆ ≡ sets b 0 (header_of w f i q z s n)
header-stored b w f i q z s n {b₁ = b₁} h l e k a₁ a₂ a₃ a₄ a₅ a₆ =
    let a : b₁ ≡ sets b 0 ((16 + w) ∷ 0 ∷ 0 ∷ f ∷ []) = a₁ ∙ ap (λ (x : ℕ). sets b 0 (put32 x [])) e ∙ ap (sets b 0) (first-bytes w f [] h l) in
    a₆ ∙ rw (a₅, a₄, a₃, a₂, a, k)

pub header_put : (b : List ℕ) (r : Record) (run payload : ℕ) {f : ℕ} {b₁ b₂ b₃ b₄ b₅ b₆ : List ℕ} → run < 256 → f ≡ flags_with r.flags payload
    → b₁ ≡ sets b 0 (put32 ((16 + (run + 3) / 4) * 16777216 + f) []) → b₂ ≡ sets b₁ 4 (put32 r.id.0 []) → b₃ ≡ sets b₂ 8 (put32 r.sequence []) → b₄ ≡ sets b₃ 12 (put32 (24 + (run + 3) / 4 * 4 + payload) [])
    → b₅ ≡ sets b₄ 16 (put32 r.seconds []) → b₆ ≡ sets b₅ 20 (put32 r.nanos []) → b₆ ≡ sets b 0 (header_by r run payload)
header_put b r run payload {f = f} l e a₁ a₂ a₃ a₄ a₅ a₆ =
    let w : (run + 3) / 4 ≡ pad run / 4 = omega arith in
    header-stored b ((run + 3) / 4) f r.id.0 r.sequence (24 + (run + 3) / 4 * 4 + payload) r.seconds r.nanos (omega arith) (rw e (flags-small r.flags payload)) refl refl a₁ a₂ a₃ a₄ a₅ a₆
    ∙ ap (λ (k : ℕ). sets b 0 (header_of k f r.id.0 r.sequence (24 + pad run + payload) r.seconds r.nanos)) w
    ∙ ap (λ (k : ℕ). sets b 0 (header_of (pad run / 4) k r.id.0 r.sequence (24 + pad run + payload) r.seconds r.nanos)) e

-- the flags and the option words of a draft
abbrev pub flags_of : Draft → ℕ
flags_of d = flags_with d.flags (length d.packages)

abbrev pub words_of : Draft → ℕ
words_of d = pad (length d.options) / 4

glued : (h o q b : List ℕ) (z : ℕ) → length h ≡ 24 → length o ≡ z → sets (sets (sets b 0 h) 24 o) (24 + z) q ≡ sets b 0 (h ++ (o ++ q))
glued h o q b z l e =
    sym (ap (λ (n : ℕ). sets (sets (sets b 0 h) 24 o) (24 + n) q) e) ∙ sets-sets o q (sets b 0 h) 24
    ∙ sym (ap (λ (n : ℕ). sets (sets b 0 h) n (o ++ q)) l) ∙ ap (λ (n : ℕ). sets (sets b 0 h) n (o ++ q)) (sym (zero-add (length h))) ∙ sets-sets h (o ++ q) b 0

-- header, options and packages, stored one behind the other
pub message-stored : (d : Draft) (b : List ℕ) → Cuts d.packages
    → sets (sets (sets b 0 (header_of (words_of d) (flags_of d) d.id d.sequence (size_of d) d.seconds d.nanos)) 24 (padded d.options)) (24 + pad (length d.options)) (payload_of (cut 0 d.packages))
    ≡ sets b 0 (message_of d (cut 0 d.packages))
unfolding payload_of message_of write drafted
message-stored d b w =
    let f : Fills Piece w.pieces d.packages = Cut.sound 0 0 d.packages w.cuts in
    glued (header_of (words_of d) (flags_of d) d.id d.sequence (size_of d) d.seconds d.nanos) (padded d.options) (payload_of (cut 0 d.packages)) b (pad (length d.options)) refl (length-padded d.options)
    ∙ rw (w.cuts, any-filled f, any_flag d.flags d.packages, pieces_written-length f, length-padded d.options)

pub message-length : (d : Draft) → Cuts d.packages → length (message_of d (cut 0 d.packages)) ≡ size_of d
unfolding message_of write drafted
message-length d w =
    let f : Fills Piece w.pieces d.packages = Cut.sound 0 0 d.packages w.cuts in
    rw w.cuts (omega (arith, length-append (padded d.options) (pieces_written w.pieces), length-padded d.options, pieces_written-length f))

-- the same where the packages are stored in a part that is lent
pub whole-stored : (d : Draft) (b : List ℕ) {b₁ b₂ ys : List ℕ} {n : ℕ} → Cuts d.packages → n ≡ pad (length d.options)
    → b₁ ≡ sets b 0 (header_of (words_of d) (flags_of d) d.id d.sequence (size_of d) d.seconds d.nanos) → b₂ ≡ sets b₁ 24 (padded d.options)
    → ys ≡ sets (take (length b₂ - (24 + n)) (drop (24 + n) b₂)) 0 (payload_of (cut 0 d.packages))
    → put_mid (24 + n) (length b₂ - (24 + n)) b₂ ys ≡ sets b 0 (message_of d (cut 0 d.packages))
whole-stored d b {b₂ = b₂} {ys = ys} {n = n} w e g h i =
    sets-part b₂ ys (payload_of (cut 0 d.packages)) (24 + n) i ∙ rw (h, g, e) (message-stored d b w)
