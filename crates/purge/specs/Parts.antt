-- What the parts of the purge come to. Each works in the buffer itself: behind what is kept so far lies a gap, and behind the gap what is not read yet.
use Rattle.std.specs.Prelude.{ℕ, zero, ◌+◌, ◌-◌, ◌≤◌, ◌≡◌, Bool, true, false, ◌&&◌, List, [], ◌∷◌, ◌++◌, map, ltb, eqb, length, take, drop}
use Rattle.std.proofs.lemmas.List.Edits.{sets}
use Rattle.rules.specs.Outcome.{good}
use Rattle.rules.specs.Bytes.{at, put32, pad, part}
use Rattle.rules.specs.Options.{option_run_from}
use Rattle.rules.specs.Packages as rules
use Rattle.rules.specs.Packages.{package_header, package_length, cut, package_of}
use Rattle.rules.specs.Clean.{clean_piece}
use Rattle.rules.specs.Message as messages
use Rattle.rules.specs.Message.{message, recording}
use Rattle.rules.specs.Sheet as rows
use Rattle.message.specs.declared.Header.{Header}
use Rattle.message.specs.declared.Package.{Package}
use Rattle.compose.specs.Payload.{header_by}
use Rattle.compose.specs.Told.{record_by}
use Rattle.numbered.specs.Parts.{payload_of}
use Rattle.purge.specs.Purge.{kept_packages, package_count, count_set, kept_records, kept_bytes}
use Rattle.purge.specs.declared.Left.{Left}

-- the options of o are whole, none ends them before their end, and none is a second 0x86 or 0x87
abbrev pub WholeRun : List ℕ → Type 0
WholeRun o = option_run_from [] zero zero zero o ≡ good (length o)

-- the packages kept among the pieces cs of message m
unfoldable pub kept_pieces : List rows.Row → messages.Message → List (List ℕ) → List rules.Package
kept_pieces rs m cs = kept_packages rs m (map package_of cs)

-- one package more, of n bytes, unless it is granted
abbrev pub with_package : Left → ℕ → Bool → Left
with_package l n true = l
with_package l n false = record { bytes = l.bytes + n; packages = l.packages + 1 }

-- package p stands at place k of s, with its padding
pub record Standing (s : List ℕ) (k : ℕ) (p : Package) : Type 0 where
  pub least : k + package_header ≤ p.to
  pub padding : p.to ≤ p.next
  pub inside : p.next ≤ length s
  pub short : length s ≤ 65536
  pub size : package_length (part k p.next s) ≡ p.to - k

-- package p, which stands at place k, stands from place `to` on, clean, unless it is granted
pub record KeptUnless (before after : List ℕ) (k : ℕ) (p : Package) (granted : Bool) (to : ℕ) (l r : Left) : Type 0 where
  pub bytes : after ≡ elim granted [ true ↦ before | false ↦ sets before to (clean_piece (part k p.next before)) ]
  pub left : r ≡ with_package l (p.next - k) granted

-- the packages from place `from` to the end of `before`, if they can be cut, have been gone through: those kept stand from place `to` on
pub record Slid (rs : List rows.Row) (m : messages.Message) (from to : ℕ) (before after : List ℕ) (l : Left) : Type 0 where
  pub long : length after ≡ length before
  pub small : l.bytes ≤ length before - from
  pub few : l.packages ≤ length before
  pub right : (cs : List (List ℕ)) → cut from (drop from before) ≡ good cs
      → (l.packages ≡ length (kept_pieces rs m cs)) × (take (to + l.bytes) after ≡ take to before ++ payload_of (kept_pieces rs m cs))

-- the number n stands in the option at place i, if it is a package count
abbrev pub count_at : List ℕ → ℕ → ℕ → List ℕ
count_at o i n = elim (eqb (at o i) package_count) [ true ↦ sets o (i + 2) (put32 n []) | false ↦ o ]

-- the bytes of a message whose packages take so many
abbrev pub size_with : Header → ℕ → ℕ
size_with h bytes = 24 + pad h.run + bytes

-- the counts of the option run behind place `to` are set to how many packages are left, and the header is stored before it
abbrev pub headed : List ℕ → ℕ → Header → Left → List ℕ
headed s to h l =
    sets (sets s (to + 24) (count_set l.packages [] (part (to + 24) (to + 24 + h.run) s))) to
    (header_by (record_by h) h.run l.bytes)

-- the option run behind place `to` is whole, and all of the message has room
pub record Headed (s : List ℕ) (to : ℕ) (h : Header) (l : Left) : Type 0 where
  pub run : WholeRun (part (to + 24) (to + 24 + h.run) s)
  pub short : h.run ≤ 60
  pub few : l.packages ≤ 65536
  pub room : to + size_with h l.bytes ≤ length s
  pub small : length s ≤ 65536

-- a message that had so many packages, and has so many left, loses its last one
abbrev pub loses_by : ℕ → ℕ → Bool
loses_by had left = ltb 0 had && eqb left 0

-- the message that stands from place k to place `next` of `before` has been gone through: what is kept of it stands from place `to` on, and ends at r
pub record KeptAt (rs : List rows.Row) (k next to : ℕ) (before after : List ℕ) (r : ℕ) : Type 0 where
  pub long : length after ≡ length before
  pub rest : drop next after ≡ drop next before
  pub small : r ≤ next
  pub right : (m : messages.Message) (n : ℕ) → message k (drop k before) ≡ good (m, n) → take r after ≡ take to before ++ kept_bytes (kept_records rs (m ∷ []))

-- the messages of a recording that passes have been gone through: what is kept of them ends at r
pub record KeptAll (rs : List rows.Row) (before after : List ℕ) (r : ℕ) : Type 0 where
  pub long : length after ≡ length before
  pub right : (ms : List messages.Message) → recording before ≡ good ms
      → (r ≤ length before) × (take r after ≡ kept_bytes (kept_records rs ms))
