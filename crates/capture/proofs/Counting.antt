-- What is taken of packets: the counts add up, and the kept messages are read again as a recording.
use Prim.Native.Nat.{ℕ, ◌+◌}
use mathlib.Core.Path.{◌≡◌, refl, ap, subst, ◌∙◌}
use mathlib.Core.Bool.{Bool, true, false, ◌&&◌}
use mathlib.Core.List.{List, [], ◌∷◌, ◌++◌}
use native.Mathlib.Nat.{zero-add}
use native.Mathlib.Omega.{arith}
use borrow.Author.Tests.{eqb-true}
use lib.Dec.{eqb}
use lib.ListN.{length}
use Rattle.rules.specs.Outcome.{Outcome, good, bad}
use Rattle.rules.specs.Message.{Message, message}
use Rattle.rules.proofs.Outcomes.{both}
use Rattle.capture.specs.File.{Packet}
use Rattle.capture.specs.Frame.{ip_of, for_us, lengths_fit, data_of}
use Rattle.capture.specs.Claims.{joined}
use Rattle.capture.specs.Reading.{takes, one_message, Class, kept, not_for_us, cut_short, bad_message, class_of, Taken, counted, taken_of}

-- how many packets these counts are
abbrev pub total : Taken → ℕ
total t = length t.messages + t.not_for_us + t.cut_short + t.bad_message

one_more_lem : (c : Class) (t : Taken) → total (counted c t) ≡ 1 + total t
unfolding counted
one_more_lem (kept c) t = omega arith
one_more_lem not_for_us t = omega arith
one_more_lem cut_short t = omega arith
one_more_lem bad_message t = omega arith

pub adds_up : (port : ℕ) (ks : List Packet) → total (taken_of port ks) ≡ length ks
unfolding taken_of
adds_up port [] = refl
adds_up port (k ∷ ks) = one_more_lem (class_of port k) (taken_of port ks) ∙ omega (arith, adds_up port ks)

-- a message that fills its bytes
pub record Whole (c : List ℕ) : Type 0 where
  pub held : Message
  pub reads : message 0 c ≡ good (held, length c)

takes_whole : (c : List ℕ) (o : Outcome (Message × ℕ)) → message 0 c ≡ o → takes (length c) o ≡ true → Whole c
unfolding takes
takes_whole c (good r) e t = record { held = r.0; reads = e ∙ ap (λ (n : ℕ). good (r.0, n)) (eqb-true r.1 (length c) t) }
takes_whole c (bad n p) e t = let z : ◌≡◌ {A = ℕ} 0 1 = cc in absurd (omega arith)

pub whole-one : (c : List ℕ) → one_message c ≡ true → Whole c
unfolding one_message
whole-one c t = takes_whole c (message 0 c) refl t

-- what is kept
pub record Kept (port : ℕ) (k : Packet) (c : List ℕ) : Type 0 where
  pub for_us : for_us port k.bytes ≡ true
  pub uncut : length k.bytes ≡ k.original
  pub fits : lengths_fit (ip_of k.bytes) ≡ true
  pub content : data_of (ip_of k.bytes) ≡ c
  pub passes : one_message c ≡ true

pub kept-is : (port : ℕ) (k : Packet) (c : List ℕ) → class_of port k ≡ kept c → Kept port k c
unfolding class_of
kept-is port k c e = go (for_us port k.bytes) refl (eqb (length k.bytes) k.original) refl (lengths_fit (ip_of k.bytes) && one_message (data_of (ip_of k.bytes))) refl
  where
    go : (a : Bool) → for_us port k.bytes ≡ a → (b : Bool) → eqb (length k.bytes) k.original ≡ b
        → (d : Bool) → (lengths_fit (ip_of k.bytes) && one_message (data_of (ip_of k.bytes))) ≡ d → Kept port k c
    go false x b y d z = let w : not_for_us ≡ kept c = rw (x, class_of) at e in let z : ◌≡◌ {A = ℕ} 0 1 = cc in absurd (omega arith)
    go true x false y d z = let w : cut_short ≡ kept c = rw (x, y, class_of) at e in let z : ◌≡◌ {A = ℕ} 0 1 = cc in absurd (omega arith)
    go true x true y false z = let w : bad_message ≡ kept c = rw (x, y, z, class_of) at e in let z : ◌≡◌ {A = ℕ} 0 1 = cc in absurd (omega arith)
    go true x true y true z =
        let w : kept (data_of (ip_of k.bytes)) ≡ kept c = rw (x, y, z, class_of) at e in
        let q : data_of (ip_of k.bytes) ≡ c = cc in
        let (f, m) = both _ _ z in
        record { for_us = x; uncut = eqb-true _ _ y; fits = f; content = q; passes = subst (λ (s : List ℕ). one_message s ≡ true) q m }

-- packet by packet, in order
counted-joined : (c : Class) (t u : Taken) → counted c (joined t u) ≡ joined (counted c t) u
unfolding counted
counted-joined (kept c) t u = refl
counted-joined not_for_us t u = let e : t.not_for_us + u.not_for_us + 1 ≡ t.not_for_us + 1 + u.not_for_us = omega arith in rw e
counted-joined cut_short t u = let e : t.cut_short + u.cut_short + 1 ≡ t.cut_short + 1 + u.cut_short = omega arith in rw e
counted-joined bad_message t u = let e : t.bad_message + u.bad_message + 1 ≡ t.bad_message + 1 + u.bad_message = omega arith in rw e

pub in_order : (port : ℕ) (ks ls : List Packet) → taken_of port (ks ++ ls) ≡ joined (taken_of port ks) (taken_of port ls)
unfolding taken_of
in_order port [] ls = rw (zero-add, zero-add, zero-add)
in_order port (k ∷ ks) ls = rw (in_order port ks ls) (counted-joined (class_of port k) (taken_of port ks) (taken_of port ls))
