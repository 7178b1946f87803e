-- What is told of a message at its place is told of its record.
use Prim.Native.Nat.{ℕ, ◌+◌, ◌≤◌}
use mathlib.Core.Path.{◌≡◌, refl, sym, subst}
use mathlib.Core.List.{List}
use borrow.Author.Tests.{le-ltb}
use lib.ListN.{length, drop, length-map}
use Rattle.rules.specs.Outcome.{good, bad}
use Rattle.rules.specs.Bytes.{part}
use Rattle.rules.specs.Packages.{package_of}
use Rattle.rules.specs.Message.{head, record_bits, payload_start, every_check, Message, record_of, message}
use Rattle.rules.specs.Reading.{MessageSpot, message_spot, message_at}
use Rattle.rules.proofs.Outcomes.{pass, step, stop, passed, stepped, good_inj, refused-only}

-- what is told of the message at place p is told of its record
abbrev OfRecord : List ℕ → ℕ → MessageSpot → Type 0
OfRecord s p k = (m : Message) × (message p (drop p s) ≡ good (m, k.head.size))
    × (m ≡ record { flags = record_bits k.head.flags; id = k.head.id; sequence = k.head.sequence; seconds = k.head.seconds; nanos = k.head.nanos; options = part 24 (24 + k.run) (drop p s); packages = m.packages })
    × (k.packages ≡ length m.packages) × (k.payload ≡ p + payload_start k.head) × (k.next ≡ p + k.head.size)

of_checked : (s : List ℕ) (p : ℕ) (r : ℕ × List (List ℕ)) → every_check p (drop p s) (head (drop p s)) ≡ good r → OfRecord s p (message_spot p (head (drop p s)) r)
unfolding message_spot record_of message
of_checked s p r e = (record_of (drop p s) (head (drop p s)) r, step _ _ e refl, refl, sym (length-map r.1 package_of), refl, refl)

-- and what is read, or refused, from its place on is told there
pub spot-read : (s : List ℕ) (p : ℕ) → length s ≤ 65536 → (m : Message) (n : ℕ) → message p (drop p s) ≡ good (m, n) → (k : MessageSpot) × (message_at s p ≡ good k)
unfolding message message_at
spot-read s p l m n e =
    let (r, q, z) = stepped _ _ e in
    (message_spot p (head (drop p s)) r, pass _ _ _ _ (le-ltb 65536 (length s) l) (step _ _ q refl))

pub spot-refused : (s : List ℕ) (p : ℕ) → length s ≤ 65536 → (n q : ℕ) → message p (drop p s) ≡ bad n q → message_at s p ≡ bad n q
unfolding message message_at
spot-refused s p l n q e =
    pass _ _ _ _ (le-ltb 65536 (length s) l) (stop _ _ (refused-only _ _ e))

pub of_record : (s : List ℕ) (p : ℕ) (k : MessageSpot) → message_at s p ≡ good k → OfRecord s p k
unfolding message_at
of_record s p k e =
    let (a, f) = passed _ _ _ _ e in
    let (r, g, h) = stepped _ _ f in
    subst (λ (x : MessageSpot). OfRecord s p x) (good_inj h) (of_checked s p r g)
