-- The messages of a recording, weighed one after the other: what the loop knows of those before its place.
use Prim.Native.Nat.{ℕ, ◌+◌, ◌-◌, ◌*◌, ◌≤◌, ◌<◌}
use mathlib.Core.Path.{◌≡◌, refl, ap, sym, subst, ◌∙◌}
use mathlib.Core.List.{List, [], ◌∷◌, ◌++◌, map}
use native.Mathlib.Omega.{arith}
use borrow.Author.Tests.{le-ltb, lt-ltb}
use lib.ListN.{length, drop, length-append, length-drop, length-map}
use Rattle.rules.specs.Outcome.{Outcome, good, bad, LARGE}
use Rattle.rules.specs.Bytes.{Bytes, pad, put32, join}
use Rattle.rules.specs.Message as rule
use Rattle.rules.specs.Message.{head, payload_start, record_of, message}
use Rattle.rules.specs.Reading.{MessageSpot, message_spot, message_at}
use Rattle.rules.specs.Writer.{write}
use Rattle.rules.specs.Clean.{clean_form}
use Rattle.rules.specs.Valid.{Valid}
use Rattle.rules.proofs.Outcomes.{pass, halt, step, stop, good≢bad}
use Rattle.rules.proofs.Numbers.{bytes_drop}
use Rattle.rules.proofs.Passed.{Passed, passes}
use Rattle.rules.proofs.Again.{length-write}
use Rattle.rules.proofs.Pieces.{length-padded}
use Rattle.rules.proofs.Valids.{valid, run_length, payload-length}
use Rattle.rules.proofs.Spots.{spot-read, spot-refused}
use Rattle.rules.proofs.Loops.{Doing, doing_start, doing_next, doing_end, doing_bad}
use Rattle.message.proofs.Agrees.{found, Ordered, ordered}
use Rattle.capture.specs.File.{big, Packet}
use Rattle.capture.specs.Writing.{datagram, file_of}
use Rattle.capture.specs.Told.{weighed}
use Rattle.capture.proofs.Orders.{file-length}
use Rattle.capture.proofs.Datagrams.{packet_for, clean-written, lengths}

-- ---- a message that was read

pub record Spotted (s : List ℕ) (at : ℕ) (k : MessageSpot) : Type 0 where
  pub held : rule.Message
  pub reads : message at (drop at s) ≡ good (held, k.next - at)
  pub clean : clean_form (drop at s) ≡ good (write held)
  pub seconds : k.head.seconds ≡ held.seconds
  pub nanos : k.head.nanos ≡ held.nanos
  pub size : length (write held) ≡ 24 + pad k.run + (k.next - k.payload)
  pub run : k.run ≤ 60
  pub payload : at + 24 ≤ k.payload
  pub next : k.payload ≤ k.next
  pub most : k.next ≤ length s

module _ (s : List ℕ) (at : ℕ) (b : Bytes s) (l : length s ≤ 65536) (r : ℕ × List (List ℕ)) (w : Passed at (drop at s) (head (drop at s)) r) where
  abbrev here : List ℕ
  here = drop at s

  clean-size : length (write (record_of here (head here) r)) ≡ 24 + pad r.0 + ((head here).size - payload_start (head here))
  unfolding record_of
  clean-size =
      let b' = bytes_drop at s b in
      let v : Valid (record_of here (head here) r) = valid at here r b' w (omega (arith, length-drop at s)) in
      omega (arith, length-write (record_of here (head here) r) v [], length-padded (record_of here (head here) r).options, run_length at here r b' w, payload-length at here r b' w)

spotted_with : (s : List ℕ) (at : ℕ) (b : Bytes s) (r : ℕ × List (List ℕ)) → length s ≤ 65536 → Passed at (drop at s) (head (drop at s)) r
    → message at (drop at s) ≡ good (record_of (drop at s) (head (drop at s)) r, (head (drop at s)).size) → Ordered s at (message_spot at (head (drop at s)) r)
    → Spotted s at (message_spot at (head (drop at s)) r)
unfolding message_spot record_of
spotted_with s at b r l w e o =
    let h = drop at s in
    let b' = bytes_drop at s b in
    let n : at + (head h).size - at ≡ (head h).size = omega arith in
    let v : Valid (record_of h (head h) r) = valid at h r b' w (omega (arith, length-drop at s)) in
    record {
      held = record_of h (head h) r;
      reads = rw n e;
      clean = clean-written at h b' (record_of h (head h) r) (head h).size e;
      seconds = refl;
      nanos = refl;
      size = clean-size s at b l r w ∙ omega arith;
      run = omega (arith, run_length at h r b' w, v.short);
      payload = o.payload;
      next = o.next;
      most = o.most;
    }

pub spotted : (s : List ℕ) (at : ℕ) (k : MessageSpot) → Bytes s → message_at s at ≡ good k → Spotted s at k
spotted s at k b e =
    let f = found s at k e in
    let w = passes at (drop at s) (head (drop at s)) f.pieces f.parses in
    let o = ordered s at k e in
    subst (Spotted s at) f.spot (spotted_with s at b f.pieces f.small w f.reads (subst (Ordered s at) (sym f.spot) o))

-- one that is refused
pub unread : (s : List ℕ) (at n p : ℕ) → length s ≤ 65536 → bad n p ≡ message_at s at → message at (drop at s) ≡ bad n p
unread s at n p l e = go (message at (drop at s)) refl
  where
    go : (o : Outcome (rule.Message × ℕ)) → message at (drop at s) ≡ o → message at (drop at s) ≡ bad n p
    go (good r) q = let (k, g) = spot-read s at l r.0 r.1 q in absurd (good≢bad (e ∙ g))
    go (bad m u) q =
        let w : ◌≡◌ {A = Outcome MessageSpot} (bad n p) (bad m u) = e ∙ spot-refused s at l m u q in
        let a : n ≡ m = cc in
        let b : p ≡ u = cc in
        q ∙ rw (a, b)

-- its datagram
module _ (s : List ℕ) (at : ℕ) (k : MessageSpot) (w : Spotted s at k) (port : ℕ) where
  pub fits_one : length (write w.held) ≤ 65507 → datagram port at (drop at s) ≡ good (packet_for port w.held, k.next - at)
  unfolding datagram
  fits_one h = step _ _ w.reads (step _ _ w.clean (pass _ _ _ _ (le-ltb 65507 (length (write w.held)) h) refl))

  pub fits-none : 65507 < length (write w.held) → datagram port at (drop at s) ≡ bad LARGE at
  unfolding datagram
  fits-none h = step _ _ w.reads (step _ _ w.clean (halt _ _ _ _ (lt-ltb 65507 (length (write w.held)) h)))

pub refused-one : (s : List ℕ) (at port n p : ℕ) → message at (drop at s) ≡ bad n p → datagram port at (drop at s) ≡ bad n p
unfolding datagram
refused-one s at port n p e = stop _ _ e

-- ---- the messages before place `at`

-- the bytes of their file
abbrev pub file_size : List rule.Message → ℕ
file_size ms = 24 + (58 * length ms + length (join (map write ms)))

pub file-size : (port : ℕ) (ms : List rule.Message) → length (file_of (map (packet_for port) ms)) ≡ file_size ms
unfolding file_of
file-size port ms = file-length (put32 0 (put32 0 (put32 65549 []))) refl (map (packet_for port) ms) big ∙ ap (λ (n : ℕ). 24 + n) (lengths port ms)

pub size-next : (ms : List rule.Message) (m : rule.Message) → file_size (ms ++ (m ∷ [])) ≡ file_size ms + (58 + length (write m))
size-next [] m = omega (arith, length-append (write m) [])
size-next (x ∷ ms) m = omega (arith, length-append (write x) (join (map write ms)), length-append (write x) (join (map write (ms ++ (m ∷ [])))), size-next ms m)

pub map_last : (port : ℕ) (ms : List rule.Message) (m : rule.Message) → map (packet_for port) (ms ++ (m ∷ [])) ≡ map (packet_for port) ms ++ (packet_for port m ∷ [])
map_last port [] m = refl
map_last port (x ∷ ms) m = ap (λ (l : List Packet). packet_for port x ∷ l) (map_last port ms m)

pub record Weighing (s : List ℕ) (bytes messages at : ℕ) : Type 0 where
  pub done : List rule.Message
  pub doing : (port : ℕ) → Doing (datagram port) s (map (packet_for port) done) at
  pub inside : at ≤ length s
  pub count : messages ≡ length done
  pub size : bytes ≡ file_size done
  pub few : messages ≤ at
  pub small : bytes ≤ 24 + 65565 * messages

module _ (s : List ℕ) where
  pub weighing_start : Weighing s 24 0 0
  weighing_start = record { done = []; doing = λ port. doing_start (datagram port) s; inside = omega arith; count = refl; size = refl; few = omega arith; small = omega arith }

  module _ (bytes messages at : ℕ) (inv : Weighing s bytes messages at) where
    pub weighing_end : length s ≤ at → (port : ℕ) → good (record { bytes = bytes; messages = messages }) ≡ weighed s port
    unfolding weighed
    weighing_end l port =
        let e = doing_end (datagram port) s (map (packet_for port) inv.done) at (inv.doing port) l in
        sym (step _ _ e (rw (file-size port inv.done, length-map inv.done (packet_for port), ← inv.size, ← inv.count)))

    module _ (h : at < length s) where
      pub weighing_bad : (port n p : ℕ) → datagram port at (drop at s) ≡ bad n p → bad n p ≡ weighed s port
      unfolding weighed
      weighing_bad port n p e = sym (stop _ _ (doing_bad (datagram port) s (map (packet_for port) inv.done) at (inv.doing port) h e))

      pub weighing_next : (k : MessageSpot) (w : Spotted s at k) → length (write w.held) ≤ 65507 → Weighing s (bytes + (58 + length (write w.held))) (messages + 1) k.next
      weighing_next k w l =
          let n : at + (k.next - at) ≡ k.next = omega (arith, w.payload, w.next) in
          record {
            done = inv.done ++ (w.held ∷ []);
            doing = λ port. subst (λ (x : ℕ). Doing (datagram port) s (map (packet_for port) (inv.done ++ (w.held ∷ []))) x) n
                (rw (map_last port inv.done w.held) (doing_next (datagram port) s (map (packet_for port) inv.done) at (packet_for port w.held) (k.next - at) (inv.doing port) h (omega (arith, w.payload, w.next)) (fits_one s at k w port l)));
            inside = w.most;
            count = rw inv.count (sym (length-append inv.done (w.held ∷ [])));
            size = rw inv.size (sym (size-next inv.done w.held));
            few = omega (arith, inv.few, w.payload, w.next);
            small = omega (arith, inv.small);
          }
