-- Document 02, A6, worked out by hand from its sentences and from the layouts that it names: files in both byte orders, frames at every edge, and what is refused.
use Rattle.std.specs.Prelude.{ℕ, ◌<◌, ◌≡◌, List, [], ◌∷◌, ◌++◌, length, take, replicate}
use Rattle.rules.specs.Outcome.{bad, SHORT, VERSION, LARGE, ROOM}
use Rattle.refusal.specs.Numbers.{CAPTURE}
use Rattle.rules.specs.Bytes.{put16}
use Rattle.rules.specs.Message.{most_bytes}
use Rattle.rules.specs.Table.{words}
use Rattle.rules.specs.Edges.{Gives, told, changed}
use Rattle.capture.specs.File.{packets}
use Rattle.capture.specs.Frame.{checksum}
use Rattle.capture.specs.Reading.{Class, kept, not_for_us, cut_short, bad_message, class_of, ReadAnswer, read_capture}
use Rattle.capture.specs.Writing.{WriteAnswer, write_capture}

abbrev pub halves : List ℕ → List ℕ
halves [] = []
halves (x ∷ xs) = put16 x (halves xs)

-- a message without packages, at 100 s 999,999,999 ns; and one with reserved bits, a reserved byte and padding, at 100 s 1,999 ns, with its clean form
abbrev pub plain : List ℕ
plain = words (0x10000000 ∷ 0x00000007 ∷ 0x00000005 ∷ 0x00000018 ∷ 0x00000064 ∷ 0x3B9AC9FF ∷ [])

abbrev pub dirty : List ℕ
dirty = words (0x10A05B80 ∷ 0x00000008 ∷ 0xFFFFFFFF ∷ 0x00000028 ∷ 0x00000064 ∷ 0x000007CF ∷ 0x00000001 ∷ 0x000D7703 ∷ 0x00000000 ∷ 0xAA112233 ∷ [])

abbrev pub clean : List ℕ
clean = words (0x10000080 ∷ 0x00000008 ∷ 0xFFFFFFFF ∷ 0x00000028 ∷ 0x00000064 ∷ 0x000007CF ∷ 0x00000001 ∷ 0x000D0003 ∷ 0x00000000 ∷ 0xAA000000 ∷ [])

-- the frame that is written to port 1234 hex: IP length, IP checksum and UDP length are open
abbrev pub framed : ℕ → ℕ → ℕ → List ℕ → List ℕ
framed total sum size content =
    halves
    (0x0000 ∷ 0x0000 ∷ 0x0000 ∷ 0x0000 ∷ 0x0000 ∷ 0x0000 ∷ 0x0800 ∷ 0x4500 ∷ total ∷ 0x0000 ∷ 0x0000 ∷ 0x0011 ∷ sum ∷ 0x0000 ∷ 0x0000 ∷ 0x0000 ∷ 0x0000 ∷ 0x0000 ∷ 0x1234 ∷ size ∷ 0x0000 ∷ [])
    ++ content

abbrev pub plain_frame : List ℕ
plain_frame = framed 0x0034 0xBABA 0x0020 plain

-- the file of both messages: of 999,999,999 ns 999,999 microseconds are left, of 1,999 ns one
abbrev pub header : List ℕ
header = words (0xA1B2C3D4 ∷ 0x00020004 ∷ 0x00000000 ∷ 0x00000000 ∷ 0x0001000D ∷ 0x00000001 ∷ [])

abbrev pub file : List ℕ
file = header ++ (words (0x00000064 ∷ 0x000F423F ∷ 0x00000042 ∷ 0x00000042 ∷ []) ++ (plain_frame ++ (words (0x00000064 ∷ 0x00000001 ∷ 0x00000052 ∷ 0x00000052 ∷ []) ++ framed 0x0044 0xBAAA 0x0030 clean)))

-- a foreign file in the other byte order, its free fields filled: first a frame with addresses, an IP option word, 'do not fragment', wrong checksums,
-- two IP bytes behind the datagram and two of Ethernet padding; then one that was cut behind the port, one with another message's length, and one too short to be seen
abbrev pub little_header : List ℕ
little_header = words (0xD4C3B2A1 ∷ 0x02000400 ∷ 0x01020304 ∷ 0x05060708 ∷ 0x26000000 ∷ 0x01000000 ∷ [])

abbrev pub foreign_frame : List ℕ
foreign_frame =
    halves
    (0x0102 ∷ 0x0304 ∷ 0x0506 ∷ 0x0708 ∷ 0x090A ∷ 0x0B0C ∷ 0x0800 ∷ 0x4600 ∷ 0x004A ∷ 0x1234 ∷ 0x4000 ∷ 0x4011 ∷ 0xFFFF ∷ 0x0A00 ∷ 0x0001 ∷ 0x0A00 ∷ 0x0002 ∷ 0x0101 ∷ 0x0101 ∷ 0x0FA0 ∷ 0x1234 ∷ 0x0030 ∷ 0xABCD ∷ [])
    ++ (dirty ++ halves (0xEEEE ∷ 0xDDDD ∷ []))

abbrev pub foreign : List ℕ
foreign =
    little_header
    ++ (words (0x64000000 ∷ 0x01000000 ∷ 0x5A000000 ∷ 0x5A000000 ∷ []) ++ (foreign_frame
    ++ (words (0x64000000 ∷ 0x02000000 ∷ 0x26000000 ∷ 0x42000000 ∷ []) ++ (take 38 plain_frame
    ++ (words (0x64000000 ∷ 0x03000000 ∷ 0x42000000 ∷ 0x42000000 ∷ []) ++ (changed plain_frame ((57, 0x1C) ∷ [])
    ++ (words (0x64000000 ∷ 0x04000000 ∷ 0x21000000 ∷ 0x21000000 ∷ []) ++ take 33 plain_frame)))))))

-- the class of a packet with these bytes, of which so many were on the wire
abbrev pub class_by : ℕ → List ℕ → Class
class_by original frame = class_of 0x1234 (record { seconds = 0; micros = 0; original = original; bytes = frame })

abbrev pub whole_by : List (ℕ × ℕ) → Class
whole_by changes = class_by 66 (changed plain_frame changes)

abbrev pub counts : ℕ → ℕ → ℕ → ℕ → ℕ → ReadAnswer
counts n k a b c = record { number = 0; place = 0; bytes = n; kept = k; not_for_us = a; cut_short = b; bad_message = c }

abbrev pub unread : ℕ → ℕ → ReadAnswer
unread n p = record { number = n; place = p; bytes = 0; kept = 0; not_for_us = 0; cut_short = 0; bad_message = 0 }

abbrev pub sums : ℕ → ℕ → WriteAnswer
sums n m = record { number = 0; place = 0; bytes = n; messages = m }

abbrev pub unwritten : ℕ → ℕ → WriteAnswer
unwritten n p = record { number = n; place = p; bytes = 0; messages = 0 }

pub record Worked : Type 0 where
  pub number : CAPTURE ≡ 18
  -- ---- Writing, and what was written read again. The last two checksums have a carry.
  pub checksums : Gives checksum ((24, 0xBABA) ∷ (40, 0xBAAA) ∷ (48000, 0xFF51) ∷ (65507, 0xBAEE) ∷ [])
  pub written : write_capture (plain ++ dirty) 0x1234 (replicate 205 0xEE) ≡ (sums 204 2, file ++ (0xEE ∷ []))
  pub none : write_capture [] 0x1234 (replicate 24 0xEE) ≡ (sums 24 0, header)
  pub again : read_capture file 0x1234 (replicate 65 0xEE) ≡ (counts 64 2 0 0 0, plain ++ (clean ++ (0xEE ∷ [])))
  pub elsewhere : read_capture file 0x1235 [] ≡ (counts 0 0 2 0 0, [])
  -- ---- Reading: the message's own bytes, and one packet under each count.
  pub foreign : read_capture foreign 0x1234 (replicate 40 0xEE) ≡ (counts 40 1 1 1 1, dirty)
  -- free fields: addresses, DF, the reserved flag, time to live, checksums, the port that it comes from
  pub kept : Gives whole_by (
      ([], kept plain) ∷ ((0, 0xFF) ∷ [], kept plain) ∷ ((20, 0x40) ∷ [], kept plain) ∷ ((20, 0x80) ∷ [], kept plain) ∷ ((22, 0x40) ∷ [], kept plain) ∷ ((24, 0) ∷ [], kept plain) ∷ ((30, 0xFF) ∷ [], kept plain) ∷ ((35, 0x35) ∷ [], kept plain)
      ∷ ((40, 0xFF) ∷ [], kept plain) ∷ [])
  -- IPv6, VLAN, version 5, a header of 16 bytes, more fragments, an offset of 1 and of 4,096, TCP, another port, the port as the one that it comes from
  pub others : Gives whole_by (
      ((12, 0x86) ∷ (13, 0xDD) ∷ [], not_for_us) ∷ ((12, 0x81) ∷ [], not_for_us) ∷ ((14, 0x55) ∷ [], not_for_us) ∷ ((14, 0x44) ∷ [], not_for_us) ∷ ((20, 0x20) ∷ [], not_for_us) ∷ ((21, 0x01) ∷ [], not_for_us) ∷ ((20, 0x10) ∷ [], not_for_us)
      ∷ ((23, 0x06) ∷ [], not_for_us) ∷ ((37, 0x35) ∷ [], not_for_us) ∷ ((36, 0x13) ∷ [], not_for_us) ∷ ((34, 0x12) ∷ (35, 0x34) ∷ (37, 0x35) ∷ [], not_for_us) ∷ [])
  -- IP lengths 27, 51 and 53, UDP lengths 7, 33, 8 and 28, a message of version 2
  pub bads : Gives whole_by (
      ((17, 0x1B) ∷ [], bad_message) ∷ ((17, 0x33) ∷ [], bad_message) ∷ ((17, 0x35) ∷ [], bad_message) ∷ ((39, 0x07) ∷ [], bad_message) ∷ ((39, 0x21) ∷ [], bad_message) ∷ ((39, 0x08) ∷ [], bad_message) ∷ ((39, 0x1C) ∷ [], bad_message)
      ∷ ((42, 0x20) ∷ [], bad_message) ∷ [])
  pub two : class_by 90 (framed 0x004C 0 0x0038 (plain ++ plain)) ≡ bad_message
  -- captured up to before the IP header's end, before the port's, behind it, and all but one byte; more captured than there was; cut, and no message either
  pub cuts : Gives (λ (n : ℕ). class_by 66 (take n plain_frame)) ((33, not_for_us) ∷ (37, not_for_us) ∷ (38, cut_short) ∷ (65, cut_short) ∷ [])
  pub above : class_by 65 plain_frame ≡ cut_short
  pub first : class_by 67 (changed plain_frame ((39, 0x07) ∷ [])) ≡ cut_short
  -- ---- Files: a header cut, of nanoseconds, of versions 2.3 and 3.4, of link types 0 and 65,537; one that is filled where it is free; both orders mixed
  pub headers : Gives (λ (s : List ℕ). told (packets s)) (
      ([], (CAPTURE, 0)) ∷ (take 23 header, (CAPTURE, 0)) ∷ (header, (0, 0)) ∷ (little_header, (0, 0)) ∷ (changed header ((2, 0x3C) ∷ (3, 0x4D) ∷ []), (CAPTURE, 0)) ∷ (changed header ((7, 3) ∷ []), (CAPTURE, 0)) ∷ (changed header ((5, 3) ∷ []), (CAPTURE, 0))
      ∷ (changed header ((23, 0) ∷ []), (CAPTURE, 0)) ∷ (changed header ((21, 1) ∷ []), (CAPTURE, 0)) ∷ (changed header ((8, 0xFF) ∷ (15, 0xFF) ∷ (19, 0) ∷ []), (0, 0))
      ∷ (changed little_header ((20, 0) ∷ (23, 1) ∷ []), (CAPTURE, 0)) ∷ (changed little_header ((4, 0) ∷ (5, 2) ∷ []), (CAPTURE, 0)) ∷ [])
  -- a record cut in its header and behind it, the first and a later one; an empty record
  pub ends : Gives (λ (s : List ℕ). told (packets s)) (
      (take 24 file, (0, 0)) ∷ (take 25 file, (CAPTURE, 24)) ∷ (take 105 file, (CAPTURE, 24)) ∷ (take 106 file, (0, 0)) ∷ (take 203 file, (CAPTURE, 106)) ∷ (file ++ replicate 15 0, (CAPTURE, 204)) ∷ (file ++ replicate 16 0, (0, 0)) ∷ [])
  pub large : (s : List ℕ) → most_bytes < length s → packets s ≡ bad LARGE most_bytes
  -- ---- Refusals leave the buffer as it was.
  pub read-refused : read_capture (take 203 file) 0x1234 (replicate 64 0xEE) ≡ (unread CAPTURE 106, replicate 64 0xEE)
  pub read-room : read_capture file 0x1234 (replicate 63 0xEE) ≡ (unread ROOM 64, replicate 63 0xEE)
  pub write-room : write_capture (plain ++ dirty) 0x1234 (replicate 203 0xEE) ≡ (unwritten ROOM 204, replicate 203 0xEE)
  pub write-checks : write_capture (plain ++ replicate 4 0) 0x1234 (replicate 90 0xEE) ≡ (unwritten SHORT 24, replicate 90 0xEE)
  pub write-version : write_capture (plain ++ (dirty ++ changed plain ((0, 0x20) ∷ []))) 0x1234 [] ≡ (unwritten VERSION 64, [])
