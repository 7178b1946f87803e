-- The kept messages, one behind the other, are a valid recording, and no longer than the file.
use Prim.Native.Nat.{ℕ, zero, suc, ◌+◌, ◌-◌, ◌≤◌}
use mathlib.Core.Path.{◌≡◌, refl, ap, subst, ◌∙◌}
use mathlib.Core.List.{List, [], ◌∷◌, ◌++◌}
use native.Mathlib.Omega.{arith}
use borrow.Author.Tests.{le-ltb, ltb-false}
use lib.ListN.{length, drop, length-append, length-drop, length-take}
use lib.Seq.{take_all, drop-append_seam}
use Rattle.rules.specs.Outcome.{good}
use Rattle.rules.specs.Bytes.{half, join}
use Rattle.rules.specs.Items.{items, All, all_nil, all_cons}
use Rattle.rules.specs.Message.{Message, message, recording}
use Rattle.rules.proofs.Outcomes.{pass, passed, stepped, fronted, good_inj, front_of_lem}
use Rattle.rules.proofs.Walk.{items-next}
use Rattle.rules.proofs.Alone.{Own, own}
use Rattle.capture.specs.File.{Order, word_in, Packet, packet, packets}
use Rattle.capture.specs.Frame.{ip_of, ip_header, data_of}
use Rattle.capture.specs.Reading.{Class, kept, not_for_us, cut_short, bad_message, class_of, Taken, counted, taken_of, recording_of}
use Rattle.capture.proofs.Counting.{Whole, whole-one, kept-is}

-- each kept message is whole
whole-counted : (c : Class) (t : Taken) → ((d : List ℕ) → c ≡ kept d → Whole d) → All Whole t.messages → All Whole (counted c t).messages
unfolding counted
whole-counted (kept d) t w a = all_cons (w d refl) a
whole-counted not_for_us t w a = a
whole-counted cut_short t w a = a
whole-counted bad_message t w a = a

whole-taken : (port : ℕ) (ks : List Packet) → All Whole (taken_of port ks).messages
unfolding taken_of
whole-taken port [] = all_nil
whole-taken port (k ∷ ks) = whole-counted (class_of port k) (taken_of port ks) (λ d e. whole-one d (kept-is port k d e).passes) (whole-taken port ks)

-- whole messages one behind the other are read, one for each
read_all : {cs : List (List ℕ)} → All Whole cs → (p : ℕ) → (ms : List Message) × (items message 0 p (join cs) ≡ good ms) × (length ms ≡ length cs)
unfolding items
read_all all_nil p = ([], refl, refl)
read_all (all_cons {a = c} {l = cs} w a) p =
    let (ms, e, n) = read_all a (p + length c) in
    let o : Own c w.held (length c) = own 0 c w.held (length c) w.reads in
    let g : message p (c ++ join cs) ≡ good (w.held, length c) = rw (take_all (length c) c (omega arith)) at (o.again p (join cs)) in
    let least = o.least in (
      w.held ∷ ms,
      items-next message p (c ++ join cs) w.held (length c) (omega (arith, length-append c (join cs))) (omega arith) g
          ∙ front_of_lem _ _ (rw drop-append_seam e),
      ap suc n,
    )

-- the bytes that records take
abbrev bulk : List Packet → ℕ
bulk [] = 0
bulk (k ∷ ks) = 16 + length k.bytes + bulk ks

packet-size : (o : Order) (p : ℕ) (s : List ℕ) (k : Packet) (n : ℕ) → packet o p s ≡ good (k, n) → (n ≡ 16 + length k.bytes) × (n ≤ length s)
unfolding packet
packet-size o p s k n e =
    let (a, e) = passed _ _ _ _ e in
    let (b, e) = passed _ _ _ _ e in
    let l = ltb-false _ _ b in
    subst (λ (x : Packet × ℕ). (x.1 ≡ 16 + length x.0.bytes) × (x.1 ≤ length s)) (good_inj e)
    (omega (arith, l, length-take (16 + word_in o s 8 - 16) (drop 16 s), length-drop 16 s), l)

bulk-fits : (o : Order) (k p : ℕ) (s : List ℕ) {ks : List Packet} → items (packet o) k p s ≡ good ks → bulk ks ≤ length s - k
unfolding items
bulk-fits o k p [] {ks} e = let q : [] ≡ ks = cc in rw (← q) (omega arith)
bulk-fits o (suc k) p (x ∷ s) e = let w = bulk-fits o k (suc p) s e in omega (arith, w)
bulk-fits o zero p (x ∷ s) e =
    let (r, g, d) = stepped _ _ e in
    let (l, i, m) = fronted _ _ d in
    let w = bulk-fits o (r.1 - 1) (suc p) s i in
    let (a, b) = packet-size o p (x ∷ s) r.0 r.1 g in
    rw (← m) (omega (arith, w, a, b))

-- what is kept of a packet is a part of it
data_fits : (ip : List ℕ) → length (data_of ip) ≤ length ip
unfolding data_of
data_fits ip =
    let a = ip_header ip + 8 in
    omega (arith, length-take (ip_header ip + half ip (ip_header ip + 4) - a) (drop a ip), length-drop a ip)

counted-length : (k : Packet) (c : Class) (t : Taken) → ((d : List ℕ) → c ≡ kept d → length d ≤ length k.bytes) → length (recording_of (counted c t)) ≤ length k.bytes + length (recording_of t)
unfolding counted recording_of
counted-length k (kept d) t h = omega (arith, h d refl, length-append d (join t.messages))
counted-length k not_for_us t h = omega arith
counted-length k cut_short t h = omega arith
counted-length k bad_message t h = omega arith

pub kept-length : (port : ℕ) (k : Packet) (d : List ℕ) → class_of port k ≡ kept d → length d ≤ length k.bytes
kept-length port k d e =
    let w = kept-is port k d e in
    rw (← w.content) (omega (arith, data_fits (ip_of k.bytes), length-drop 14 k.bytes))

taken-length : (port : ℕ) (ks : List Packet) → length (recording_of (taken_of port ks)) ≤ bulk ks
unfolding taken_of recording_of
taken-length port [] = omega arith
taken-length port (k ∷ ks) = omega (arith, counted-length k (class_of port k) (taken_of port ks) (kept-length port k), taken-length port ks)

-- what a file that is read is
pub record Opened (file : List ℕ) (ks : List Packet) : Type 0 where
  pub order : Order
  pub small : length file ≤ 65536
  pub reads : items (packet order) 0 24 (drop 24 file) ≡ good ks

pub opened : (file : List ℕ) (ks : List Packet) → packets file ≡ good ks → Opened file ks
unfolding packets
opened file ks e =
    let (l, e) = passed _ _ _ _ e in
    let (o, g, e) = stepped _ _ e in
    record { order = o; small = ltb-false _ _ l; reads = e }

pub not_longer : (file : List ℕ) (port : ℕ) (ks : List Packet) → packets file ≡ good ks → length (recording_of (taken_of port ks)) ≤ length file
not_longer file port ks e =
    let w = opened file ks e in
    omega (arith, taken-length port ks, bulk-fits w.order 0 24 (drop 24 file) w.reads, length-drop 24 file)

pub recording_valid : (file : List ℕ) (port : ℕ) (ks : List Packet) → packets file ≡ good ks
    → (ms : List Message) × (recording (recording_of (taken_of port ks)) ≡ good ms) × (length ms ≡ length (taken_of port ks).messages)
unfolding recording recording_of
recording_valid file port ks e =
    let (ms, r, n) = read_all (whole-taken port ks) 0 in
    (ms, pass _ _ _ _ (le-ltb 65536 (length (recording_of (taken_of port ks))) (omega (arith, not_longer file port ks e, (opened file ks e).small))) r, n)
