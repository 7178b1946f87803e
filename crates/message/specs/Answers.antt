-- What the answers of `message` stand for, and what its inner functions promise.
use Rattle.std.specs.Prelude.{ℕ, suc, ◌+◌, ◌-◌, ◌*◌, ◌≤◌, ◌<◌, ◌≡◌, Bool, true, false, not, List, ltb, eqb, length, drop, Result, Ok, Err}
use Rattle.std.specs.Prelude as std
use Rattle.std.proofs.Math.Option.{Option, none, some}
use Rattle.std.specs.Borrow.{Bor}
use Rattle.rules.specs.Outcome.{Outcome, good, refuse, ◌>>◌, ◌>>=◌, Told, FRAGMENT, STANDARD, COUNT}
use Rattle.rules.specs.Bytes.{at, half, pad, part}
use Rattle.rules.specs.Options.{option_size, option_fits, count_said, differs}
use Rattle.rules.specs.Packages.{package_fits, cut}
use Rattle.rules.specs.Message.{header_bytes, not_large, Head, head, standard_bit, fragment_bits, payload_start, payload, option_run_length, checks_eight_and_nine, checks_one_to_nine, every_check}
use Rattle.rules.specs.Reading.{MessageSpot, message_spot}
use Rattle.rules.specs.Walk.{PackageSpot}
use Rattle.refusal.specs.declared.Refusal.{Refusal}
use Rattle.refusal.specs.Numbers.{number_of, outcome_by, option_by}
use Rattle.message.specs.declared.Tested.{Tested}
use Rattle.message.specs.declared.Header.{Header}
use Rattle.message.specs.declared.Package.{Package}
use Rattle.message.specs.declared.Message.{Message}
use Rattle.message.specs.declared.Counts.{Counts}
use Rattle.message.specs.declared.Opt.{Opt}
use Rattle.message.specs.declared.Opt.TheVariants as opt
use Rattle.message.specs.declared.Seen.{Seen}

-- ---- inside the crate

-- the numbers of a header that checks 1 to 6 test; and a header that has these, and zero for the others
abbrev pub tested_in : Head → Tested
tested_in h = record { version = h.version; words = h.words; kind = h.kind; size = h.size; nanos = h.nanos }

abbrev pub head_of : Tested → Head
head_of h = record {
  version = h.version;
  words = h.words;
  kind = h.kind;
  flags = 0;
  id = 0;
  sequence = 0;
  size = h.size;
  seconds = 0;
  nanos = h.nanos;
}

-- the header with these numbers and an option run of n bytes; and one of zeros
abbrev pub with_run : Head → ℕ → Header
with_run k n = record {
  words = k.words;
  flags = k.flags;
  id = record { 0 = k.id };
  sequence = k.sequence;
  length = k.size;
  seconds = k.seconds;
  nanos = k.nanos;
  run = n;
}

abbrev pub no_header : Header
no_header = record { words = 0; flags = 0; id = record { 0 = 0 }; sequence = 0; length = 0; seconds = 0; nanos = 0; run = 0 }

-- the header at the start of s, with an option run of n bytes; zeros where s has fewer than 24 bytes
unfoldable pub header_of : List ℕ → ℕ → Header
header_of s n = elim (ltb (length s) header_bytes) [ true ↦ no_header | false ↦ with_run (head s) n ]

-- what stands at the start of option bytes
unfoldable pub option_here : List ℕ → Opt
option_here o = elim (eqb (at o 0) 0) [
  | true ↦ opt.Ends
  | false ↦ elim (option_fits o) [ true ↦ opt.Takes (option_size o) | false ↦ opt.Bad ]
]

-- an option of kind k would be a second 0x86 or 0x87
unfoldable pub second_by : Seen → ℕ → Bool
second_by seen k = elim (eqb k 0x86) [ true ↦ seen.offset | false ↦ elim (eqb k 0x87) [ true ↦ seen.count | false ↦ false ] ]

-- with an option of kind k
unfoldable pub with_kind : Seen → ℕ → Seen
with_kind seen k = elim (eqb k 0x86) [
  | true ↦ record { offset = true; count = seen.count }
  | false ↦ elim (eqb k 0x87) [ true ↦ record { offset = seen.offset; count = true } | false ↦ seen ]
]

-- what stands at the start of option bytes, if a second one is none
abbrev pub unless_second : Bool → Opt → Opt
unless_second second opt.Ends = opt.Ends
unless_second second (opt.Takes n) = elim second [ true ↦ opt.Bad | false ↦ opt.Takes n ]
unless_second second opt.Bad = opt.Bad

unfoldable pub option_next : Seen → List ℕ → Opt
option_next seen o = unless_second (second_by seen (at o 0)) (option_here o)

-- how far the option at the start of o reaches, by its length alone
unfoldable pub option_step : List ℕ → ℕ
option_step o = suc (option_size o - 1)

-- what the package at the start of s takes
unfoldable pub piece_here : List ℕ → std.Option ℕ
piece_here s = elim (package_fits s) [ true ↦ std.Some (pad (half s 4)) | false ↦ std.None ]

-- how many packages there are
unfoldable pub cut_count : ℕ → List ℕ → Outcome ℕ
cut_count p s = do
  cs ← cut p s
  good (length cs)

-- 1 where there are bytes between a and e
unfoldable pub one_if_bytes : ℕ → ℕ → ℕ
one_if_bytes a e = elim (ltb a e) [ true ↦ 1 | false ↦ 0 ]

-- checks 8 and 9 by a header's numbers alone: a payload that ends behind its beginning has bytes
unfoldable pub eight_and_nine : ℕ → Head → Outcome (Unit {0})
eight_and_nine p h = do
  refuse (not (eqb (fragment_bits h.flags) 0)) FRAGMENT p
  refuse (not (eqb (standard_bit h.flags) (one_if_bytes (payload_start h) h.size))) STANDARD p

-- ---- a header alone

-- version and type can only be 1 and 0
abbrev pub head_of_header : Header → Head
head_of_header h = record {
  version = 1;
  words = h.words;
  kind = 0;
  flags = h.flags;
  id = h.id.0;
  sequence = h.sequence;
  size = h.length;
  seconds = h.seconds;
  nanos = h.nanos;
}

abbrev pub told_header : Result Header Refusal → Outcome (Head × ℕ)
told_header r = outcome_by (λ h. (head_of_header h, h.run)) r

-- what a header that passes checks 1 to 9 leaves known of the message at the start of s, which stands at place p
pub record Opened (s : List ℕ) (h : Header) (p : ℕ) : Type 0 where
  pub nine : good tt ≡ eight_and_nine p (head_of_header h)
  pub least : 24 + 4 * h.words ≤ h.length
  pub most : h.length ≤ length s
  pub run : 24 + h.run ≤ length s
  pub place : p + length s < 4294967296

-- the zeros of a header that is refused
abbrev pub no_head : Head
no_head = record { version = 0; words = 0; kind = 0; flags = 0; id = 0; sequence = 0; size = 0; seconds = 0; nanos = 0 }

abbrev pub header_numbers : Result Header Refusal → Told (Head × ℕ)
header_numbers (Ok h) = record { number = 0; place = 0; values = (head_of_header h, h.run) }
header_numbers (Err r) = record { number = number_of r.why; place = r.place; values = (no_head, 0) }

-- r is a part of s, and begins at its element k: it lies in the same memory, k bytes further on
pub record PartOf (s : Bor (List ℕ)) (k : ℕ) (r : Bor (List ℕ)) : Type 0 where
  pub block : r.ref_ptr.0 ≡ s.ref_ptr.0
  pub offset : r.ref_ptr.1 ≡ k + s.ref_ptr.1

-- ---- a package in a run

abbrev pub spot_of_package : Package → PackageSpot
spot_of_package k = record { id = k.id.0; size = k.length; status = k.status; delta = k.delta; from = k.from; to = k.to; next = k.next }

abbrev pub told_package : Result (std.Option Package) Refusal → Outcome (Option PackageSpot)
told_package r = outcome_by (λ o. option_by spot_of_package o) r

-- at the end as on a refusal there is no package
abbrev pub package_numbers : Result (std.Option Package) Refusal → Told (Option PackageSpot)
package_numbers (Ok (std.Some k)) = record { number = 0; place = 0; values = some (spot_of_package k) }
package_numbers (Ok std.None) = record { number = 0; place = 0; values = none }
package_numbers (Err r) = record { number = number_of r.why; place = r.place; values = none }

-- ---- a message in a recording

-- checks 8 to 10 and COUNT, behind an option run of n bytes
unfoldable pub spot_behind_run : ℕ → List ℕ → Head → ℕ → Outcome MessageSpot
spot_behind_run p s h n = do
  checks_eight_and_nine p s h
  cs ← cut (p + payload_start h) (payload s h)
  refuse (differs (count_said (part header_bytes (header_bytes + n) s)) (length cs)) COUNT p
  good (message_spot p h (n, cs))

-- the message at the start of s, which stands at place p
unfoldable pub message_here : ℕ → List ℕ → Outcome MessageSpot
message_here p s = do
  r ← every_check p s (head s)
  good (message_spot p (head s) r)

abbrev pub spot_of_message : Message → MessageSpot
spot_of_message m = record { head = head_of_header m.header; run = m.header.run; payload = m.payload; next = m.next; packages = m.packages }

abbrev pub told_message : Result Message Refusal → Outcome MessageSpot
told_message r = outcome_by spot_of_message r

abbrev pub no_message : MessageSpot
no_message = record { head = no_head; run = 0; payload = 0; next = 0; packages = 0 }

abbrev pub message_numbers : Result Message Refusal → Told MessageSpot
message_numbers (Ok m) = record { number = 0; place = 0; values = spot_of_message m }
message_numbers (Err r) = record { number = number_of r.why; place = r.place; values = no_message }

-- where a message ends, and how many packages it holds
unfoldable pub span_of : Outcome MessageSpot → Outcome (ℕ × ℕ)
span_of o = do
  m ← o
  good (m.next, m.packages)

-- ---- a message in a recording, its packages not looked at

-- how long the option run of the message at place p of a recording is: checks 12 and 1 to 7, and 8 and 9 if they are wanted
unfoldable pub checked_run : List ℕ → ℕ → Bool → Outcome ℕ
checked_run s p nine = do
  not_large s
  elim nine [ true ↦ checks_one_to_nine p (drop p s) (head (drop p s)) | false ↦ option_run_length p (drop p s) (head (drop p s)) ]

-- checks 12 and 1 to 9 of it
unfoldable pub front_run : List ℕ → ℕ → Outcome ℕ
front_run s p = do
  not_large s
  checks_one_to_nine p (drop p s) (head (drop p s))

-- the numbers at place p of a recording, as a header with an option run of n bytes; zeros where fewer than 24 bytes stand there
unfoldable pub header_in : List ℕ → ℕ → ℕ → Header
header_in s p n = header_of (drop p s) n

-- the header of the message at place p, read with 12 and 1 to 9, and how long its option run is
unfoldable pub front_at : List ℕ → ℕ → Outcome (Head × ℕ)
front_at s p = do
  not_large s
  n ← checks_one_to_nine p (drop p s) (head (drop p s))
  good (head (drop p s), n)

-- where the payload of a message at place p begins, and where the next message does
abbrev pub payload_from : ℕ → Header → ℕ
payload_from p h = p + (24 + 4 * h.words)

abbrev pub next_from : ℕ → Header → ℕ
next_from p h = p + h.length

-- ---- a recording

abbrev pub told_check : Result Counts Refusal → Outcome (ℕ × ℕ)
told_check r = outcome_by (λ n. (n.messages, n.packages)) r

abbrev pub check_numbers : Result Counts Refusal → Told (ℕ × ℕ)
check_numbers (Ok n) = record { number = 0; place = 0; values = (n.messages, n.packages) }
check_numbers (Err r) = record { number = number_of r.why; place = r.place; values = (0, 0) }

-- ---- a bare run

abbrev pub count_numbers : Result ℕ Refusal → Told ℕ
count_numbers (Ok n) = record { number = 0; place = 0; values = n }
count_numbers (Err r) = record { number = number_of r.why; place = r.place; values = 0 }
