-- Classic pcap files in both byte orders: the file header, and the records behind it.
use Rattle.std.specs.Prelude.{ℕ, zero, ◌+◌, ◌*◌, ◌/◌, ◌%◌, Bool, true, false, ◌&&◌, List, ◌∷◌, ◌++◌, map, leb, ltb, eqb, length, drop}
use Rattle.rules.specs.Outcome.{Outcome, good, bad, refuse, ◌>>◌, ◌>>=◌}
use Rattle.refusal.specs.Numbers.{CAPTURE}
use Rattle.rules.specs.Bytes.{at, half, word, put16, put32, part, join}
use Rattle.rules.specs.Items.{items}
use Rattle.rules.specs.Message.{not_large}

pub data Order : Type 0 where
  big : Order
  little : Order

-- the numbers of 16 and 32 bits at index k in a byte order
unfoldable pub half_in : Order → List ℕ → ℕ → ℕ
half_in big s k = half s k
half_in little s k = at s (k + 1) * 256 + at s k

unfoldable pub word_in : Order → List ℕ → ℕ → ℕ
word_in big s k = word s k
word_in little s k = at s (k + 3) * 16777216 + at s (k + 2) * 65536 + at s (k + 1) * 256 + at s k

-- a number of 16 or 32 bits in front of a list in a byte order
abbrev pub put16_in : Order → ℕ → List ℕ → List ℕ
put16_in big x t = put16 x t
put16_in little x t = x % 256 ∷ x / 256 % 256 ∷ t

abbrev pub put32_in : Order → ℕ → List ℕ → List ℕ
put32_in big x t = put32 x t
put32_in little x t = x % 256 ∷ x / 256 % 256 ∷ x / 65536 % 256 ∷ x / 16777216 % 256 ∷ t

-- the bytes of the file header and of a record's header
abbrev pub file_header : ℕ
file_header = 24

abbrev pub record_header : ℕ
record_header = 16

-- the file header: magic, version 2.4 and, behind 12 bytes that are not looked at (time zone, accuracy and snap length), link type 1, Ethernet
abbrev pub magic : ℕ
magic = 0xA1B2C3D4

unfoldable pub header_good : Order → List ℕ → Bool
header_good o s = leb file_header (length s) && eqb (word_in o s 0) magic && eqb (half_in o s 4) 2 && eqb (half_in o s 6) 4 && eqb (word_in o s 20) 1

unfoldable pub order_of : List ℕ → Outcome Order
order_of s = elim (header_good big s) [ true ↦ good big | false ↦ elim (header_good little s) [ true ↦ good little | false ↦ bad CAPTURE 0 ] ]

-- a packet as it was captured: its time, how many bytes it had on the wire, and those of them that are in the file
pub record Packet : Type 0 where
  pub seconds : ℕ
  pub micros : ℕ
  pub original : ℕ
  pub bytes : List ℕ

-- the packet of the record at the start of s, which stands at place p; and how long the record is. The file's end may not cut it
unfoldable pub packet : Order → ℕ → List ℕ → Outcome (Packet × ℕ)
packet o p s =
    let end = record_header + word_in o s 8 in do
      refuse (ltb (length s) record_header) CAPTURE p
      refuse (ltb (length s) end) CAPTURE p
      good (record { seconds = word_in o s 0; micros = word_in o s 4; original = word_in o s 12; bytes = part record_header end s }, end)

-- the packets of a file
unfoldable pub packets : List ℕ → Outcome (List Packet)
packets s = do
  not_large s
  o ← order_of s
  items (packet o) zero file_header (drop file_header s)

-- the record of a packet in a byte order
unfoldable pub record_in : Order → Packet → List ℕ
record_in o k = put32_in o k.seconds (put32_in o k.micros (put32_in o (length k.bytes) (put32_in o k.original k.bytes)))

-- the file of these packets in a byte order, with these 12 free bytes in its header
unfoldable pub file_in : Order → List ℕ → List Packet → List ℕ
file_in o free ks = put32_in o magic (put16_in o 2 (put16_in o 4 (free ++ put32_in o 1 (join (map (record_in o) ks)))))
