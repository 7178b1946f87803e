-- Messages one behind the other: at any place, with more behind them, and the first so many of them.
use Prim.Native.Nat.{ℕ, zero, suc, ◌+◌, ◌-◌, ◌*◌, ◌≤◌, ◌<◌}
use mathlib.Core.Path.{◌≡◌, refl, ap, sym, subst, ◌∙◌}
use mathlib.Core.List.{List, [], ◌∷◌, ◌++◌, map, append_assoc}
use native.Mathlib.Omega.{arith}
use borrow.Author.Tests.{le-ltb}
use lib.ListN.{length, take, drop, length-append, length-drop, length-take, take-append-drop, length-map}
use lib.Seq.{take-add, take-take, drop_at, drop-nil, length-take-le}
use Rattle.rules.specs.Outcome.{good, LARGE}
use Rattle.rules.specs.Items.{items}
use Rattle.rules.specs.Packages.{Package, package_of}
use Rattle.rules.specs.Sheet.{Row}
use Rattle.rules.specs.Copy.{Entry, granted_packages, with_entry_of, released}
use Rattle.rules.specs.Message.{head, payload_start, payload, Message, record_of, message, recording}
use Rattle.rules.proofs.Outcomes.{pass, step, stepped, fronted, front_of_lem, good_inj}
use Rattle.rules.proofs.Gives.{Gives, gives_items, gives_message}
use Rattle.rules.proofs.Walk.{items-next}
use Rattle.rules.proofs.Alone.{own}
use Rattle.rules.proofs.Cut as Cut
use Rattle.rules.proofs.Passed.{passes}
use Rattle.rules.proofs.Loops.{drop_pred}
use Rattle.message.proofs.Messages.{fill_least}
use Rattle.numbered.specs.Quota.{Taken, taken_at, first_items, taken_from, message_of, bytes_taken}

-- a message that is read at one place is read at any, with anything behind it
pub own-here : (p q : ℕ) (s t : List ℕ) (m : Message) (n : ℕ) → message p s ≡ good (m, n) → message q (s ++ t) ≡ good (m, n)
own-here p q s t m n e =
    let a : message q (take n s ++ (drop n s ++ t)) ≡ good (m, n) = (own p s m n e).again q (drop n s ++ t) in
    let z : take n s ++ (drop n s ++ t) ≡ s ++ t = sym (append_assoc (take n s) (drop n s) t) ∙ ap (λ (u : List ℕ). u ++ t) (take-append-drop n s) in
    ap (message q) (sym z) ∙ a

-- and with nothing but the bytes up to e behind it
pub own-front : (p q e : ℕ) (s : List ℕ) (m : Message) (n : ℕ) → n ≤ e → message p s ≡ good (m, n) → message q (take e s) ≡ good (m, n)
own-front p q e s m n l g =
    let z : take n s ++ drop n (take e s) ≡ take e s = ap (λ (u : List ℕ). u ++ drop n (take e s)) (sym (take-take n e s l)) ∙ take-append-drop n (take e s) in
    ap (message q) (sym z) ∙ (own p s m n g).again q (drop n (take e s))

own-moved : (p q : ℕ) (s : List ℕ) (m : Message) (n : ℕ) → message p s ≡ good (m, n) → message q s ≡ good (m, n)
own-moved p q s m n e = ap (message q) (sym (take-append-drop n s)) ∙ (own p s m n e).again q (drop n s)

-- and so are messages
pub messages-moved : (k p q : ℕ) (s : List ℕ) {ms : List Message} → items message k p s ≡ good ms → items message k q s ≡ good ms
unfolding items
messages-moved k p q [] e = e
messages-moved (suc k) p q (x ∷ s) e = messages-moved k (suc p) (suc q) s e
messages-moved zero p q (x ∷ s) e =
    let (r, g, d) = stepped _ _ e in
    let (l, i, m) = fronted _ _ d in
    step _ _ (own-moved p q (x ∷ s) r.0 r.1 g) (front_of_lem _ _ (messages-moved (r.1 - 1) (suc p) (suc q) s i) ∙ ap good m)

-- messages behind messages
pub messages-append : (k p q : ℕ) (a b : List ℕ) {ms ns : List Message} → k ≤ length a → items message k p a ≡ good ms → items message 0 q b ≡ good ns → items message k p (a ++ b) ≡ good (ms ++ ns)
unfolding items
messages-append (suc k) p q [] b h e f = absurd (omega arith)
messages-append zero p q [] b {ms} {ns} h e f =
    let z : [] ≡ ms = cc in
    rw (← z) (messages-moved 0 q p b f)
messages-append (suc k) p q (x ∷ a) b h e f = messages-append k (suc p) q a b (omega arith) e f
messages-append zero p q (x ∷ a) b {ms} {ns} h e f =
    let (r, g, d) = stepped _ _ e in
    let (l, i, m) = fronted _ _ d in
    let o = own p (x ∷ a) r.0 r.1 g in
    let c : r.1 - 1 ≤ length a = omega (arith, o.most, o.least) in
    step _ _ (own-here p p (x ∷ a) b r.0 r.1 g) (front_of_lem _ _ (messages-append (r.1 - 1) (suc p) q a b c i f) ∙ ap (λ (u : List Message). good (u ++ ns)) m)

-- ---- LARGE

-- a recording that is not longer than an input may be is its messages
pub small-recording : (s : List ℕ) → length s ≤ 65536 → recording s ≡ items message 0 0 s
unfolding recording
small-recording s l = pass _ _ _ _ (le-ltb 65536 (length s) l) refl

abbrev pub NotLarge : ℕ → ℕ → Type 0
NotLarge n p = n ≡ LARGE → ⊥

-- LARGE is no refusal of a message
pub never_large : (s : List ℕ) → Gives NotLarge (items message 0 0 s)
never_large s = gives_items message (λ p. gives_message p (λ n l m e. omega arith) (λ q e. omega arith) (λ q e. omega arith) (λ e. omega arith)) 0 0 s

-- ---- the first messages, up to a quota

-- the messages ts are the first of s, as many as the quota or all there are
pub record First (q : ℕ) (s : List ℕ) (ts : List Taken) : Type 0 where
  pub read : (p : ℕ) → items message 0 p (take (bytes_taken ts) s) ≡ good (map message_of ts)
  pub inside : bytes_taken ts ≤ length s
  pub few : length ts ≤ q
  pub all : length ts < q → bytes_taken ts ≡ length s

pub taken_inv : (p : ℕ) (s : List ℕ) (t : Taken) (n : ℕ) → taken_at p s ≡ good (t, n) → (message p s ≡ good (t.message, n)) × (t.size ≡ n) × (t.place ≡ p)
unfolding taken_at
taken_inv p s t n e =
    let (r, g, d) = stepped _ _ e in
    let z = good_inj d in
    let a : r.0 ≡ t.message = ap (λ (k : Taken × ℕ). k.0.message) z in
    let b : r.1 ≡ n = ap (λ (k : Taken × ℕ). k.1) z in
    (g ∙ ap (λ (x : Message). good (x, r.1)) a ∙ ap (λ (x : ℕ). good (t.message, x)) b, ap (λ (k : Taken × ℕ). k.0.size) (sym z) ∙ b, ap (λ (k : Taken × ℕ). k.0.place) (sym z))

first-none : (q : ℕ) (s : List ℕ) → (0 < q → 0 ≡ length s) → First q s []
unfolding items bytes_taken
first-none q s h = record { read = λ p. refl; inside = omega arith; few = omega arith; all = h }

first_more : (q p : ℕ) (s : List ℕ) (t : Taken) (ts : List Taken) → 1 ≤ length s → message p s ≡ good (t.message, t.size) → First q (drop t.size s) ts → First (suc q) s (t ∷ ts)
unfolding bytes_taken
first_more q p s t ts l e f =
    let n = t.size in
    let o = own p s t.message n e in
    let behind : List ℕ = take (bytes_taken ts) (drop n s) in
    let len : length (take n s) ≡ n = length-take-le n s o.most in
    record {
      read = λ k. ap (items message 0 k) (take-add n (bytes_taken ts) s)
          ∙ items-next message k (take n s ++ behind) t.message n (omega (arith, length-append (take n s) behind, len, o.least)) (omega (arith, o.least)) (o.again k behind)
          ∙ front_of_lem _ _ (ap (items message 0 (k + n)) (drop_at (take n s) behind n len) ∙ f.read (k + n));
      inside = omega (arith, f.inside, length-drop n s, o.most);
      few = omega (arith, f.few);
      all = λ h. omega (arith, f.all (omega arith), length-drop n s, o.most);
    }

first_next : (q p x : ℕ) (s : List ℕ) (t : Taken) (n : ℕ) (ts : List Taken) → taken_at p (x ∷ s) ≡ good (t, n) → First q (drop (n - 1) s) ts → First (suc q) (x ∷ s) (t ∷ ts)
first_next q p x s t n ts e f =
    let (g, a, b) = taken_inv p (x ∷ s) t n e in
    let o = own p (x ∷ s) t.message n g in
    first_more q p (x ∷ s) t ts (omega arith) (g ∙ ap (λ (k : ℕ). good (t.message, k)) (sym a))
    (subst (λ (u : List ℕ). First q u ts) (sym (drop_pred n x s (omega (arith, o.least))) ∙ ap (λ (k : ℕ). drop k (x ∷ s)) (sym a)) f)

first : (q k p : ℕ) (s : List ℕ) {ts : List Taken} → first_items taken_at q k p s ≡ good ts → First q (drop k s) ts
unfolding first_items
first q k p [] {ts} e =
    let z : [] ≡ ts = cc in
    rw (← z, drop-nil) (first-none q [] (λ h. refl))
first q (suc k) p (x ∷ s) e = first q k (suc p) s e
first zero zero p (x ∷ s) {ts} e =
    let z : [] ≡ ts = cc in
    rw (← z) (first-none 0 (x ∷ s) (λ h. absurd (omega arith)))
first (suc q) zero p (x ∷ s) e =
    let (r, g, d) = stepped _ _ e in
    let (l, i, m) = fronted _ _ d in
    rw (← m) (first_next q p x s r.0 r.1 l g (first q (r.1 - 1) (suc p) s i))

pub first_taken : (input : List ℕ) (quota : ℕ) {ts : List Taken} → taken_from input quota ≡ good ts → First quota input ts
unfolding taken_from
first_taken input quota e = first quota 0 0 input e

-- ---- a message that releases something has 36 bytes at least

message_heavy : (p : ℕ) (s : List ℕ) (m : Message) (n : ℕ) → message p s ≡ good (m, n) → 24 + 12 * length m.packages ≤ n
unfolding message record_of
message_heavy p s m n e =
    let (r, q, z) = stepped _ _ e in
    let w = passes p s (head s) r q in
    let f = fill_least (Cut.sound 0 (p + payload_start (head s)) (payload s (head s)) w.packages) in
    let l : 24 + 12 * length (map package_of r.1) ≤ (head s).size = omega (arith, f, w.header.least, length-map r.1 package_of, length-take ((head s).size - payload_start (head s)) (drop (payload_start (head s)) s)) in
    subst (λ (k : Message × ℕ). 24 + 12 * length k.0.packages ≤ k.1) (good_inj z) l

entry_light : (rows : List Row) (m : Message) (ps : List Package) (es : List Entry) → 36 * length (with_entry_of m (granted_packages rows m ps) es) ≤ 24 + 12 * length ps + 36 * length es
unfolding granted_packages with_entry_of
entry_light rows m [] es = omega arith
entry_light rows m (p ∷ ps) es = omega (arith, one (granted_packages rows m (p ∷ ps)))
  where
    one : (qs : List Package) → length (with_entry_of m qs es) ≤ 1 + length es
    one [] = omega arith
    one (q ∷ qs) = omega arith

first_light : (rows : List Row) (q k p : ℕ) (s : List ℕ) {ts : List Taken} → first_items taken_at q k p s ≡ good ts → 36 * length (released rows (map message_of ts)) ≤ bytes_taken ts
unfolding first_items released bytes_taken
first_light rows q k p [] {ts} e = let z : [] ≡ ts = cc in rw (← z) (omega arith)
first_light rows q (suc k) p (x ∷ s) e = first_light rows q k (suc p) s e
first_light rows zero zero p (x ∷ s) {ts} e = let z : [] ≡ ts = cc in rw (← z) (omega arith)
first_light rows (suc q) zero p (x ∷ s) e =
    let (r, g, d) = stepped _ _ e in
    let (l, i, m) = fronted _ _ d in
    let (a, b, c) = taken_inv p (x ∷ s) r.0 r.1 g in
    let h = message_heavy p (x ∷ s) r.0.message r.1 a in
    let u = entry_light rows r.0.message r.0.message.packages (released rows (map message_of l)) in
    rw (← m) (omega (arith, first_light rows q (r.1 - 1) (suc p) s i, h, b, u))

-- so that no input releases more than 1,820 entries
pub few-released : (rows : List Row) (input : List ℕ) (quota : ℕ) {ts : List Taken} → length input ≤ 65536 → taken_from input quota ≡ good ts → length (released rows (map message_of ts)) ≤ 1820
unfolding taken_from
few-released rows input quota l e = omega (arith, first_light rows quota 0 0 input e, (first quota 0 0 input e).inside)
