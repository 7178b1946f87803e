-- The twin of a file: what a machine of the other byte order would have written. Every number of the file header and of the records' headers is turned round,
-- in a file that is refused too: records as far as they go, and nothing behind a bad file header.
use Rattle.std.specs.Prelude.{ℕ, zero, suc, ◌+◌, ◌-◌, true, false, List, [], ◌∷◌, ◌++◌, ltb, length, drop}
use Rattle.rules.specs.Outcome.{Outcome, good, bad}
use Rattle.rules.specs.Bytes.{at, part}
use Rattle.capture.specs.File.{Order, big, little, word_in, put32_in, file_header, record_header, order_of}

abbrev pub other : Order → Order
other big = little
other little = big

-- the two or four bytes at index k of s, turned round, in front of a list
abbrev pub turned2 : List ℕ → ℕ → List ℕ → List ℕ
turned2 s k t = at s (k + 1) ∷ at s k ∷ t

abbrev pub turned4 : List ℕ → ℕ → List ℕ → List ℕ
turned4 s k t = at s (k + 3) ∷ at s (k + 2) ∷ at s (k + 1) ∷ at s k ∷ t

-- the record at the start of s with its header turned round, if the header is whole
unfoldable pub turned_record : Order → List ℕ → List ℕ
turned_record o s = elim (ltb (length s) record_header) [
  | true ↦ s
  | false ↦ turned4 s 0 (turned4 s 4 (turned4 s 8 (turned4 s 12 (part record_header (record_header + word_in o s 8) s))))
]

-- all records of s, whose first k bytes belong to the record before
unfoldable pub turned_records : Order → ℕ → List ℕ → List ℕ
turned_records o k [] = []
turned_records o (suc k) (x ∷ s) = turned_records o k s
turned_records o zero (x ∷ s) = turned_record o (x ∷ s) ++ turned_records o (record_header + word_in o (x ∷ s) 8 - 1) s

unfoldable pub turned_behind : Outcome Order → List ℕ → List ℕ
turned_behind (good o) s = turned_records o zero s
turned_behind (bad n p) s = s

-- the fields of the file header: magic, two of version, time zone, accuracy, snap length and link type
abbrev pub turned_header : List ℕ → List ℕ → List ℕ
turned_header s t = turned4 s 0 (turned2 s 4 (turned2 s 6 (turned4 s 8 (turned4 s 12 (turned4 s 16 (turned4 s 20 t))))))

unfoldable pub twin : List ℕ → List ℕ
twin s = elim (ltb (length s) file_header) [ true ↦ s | false ↦ turned_header s (turned_behind (order_of s) (drop file_header s)) ]

-- the free bytes of a file header in a byte order: time zone, accuracy and snap length
abbrev pub free_in : Order → ℕ → ℕ → ℕ → List ℕ
free_in o zone accuracy snap = put32_in o zone (put32_in o accuracy (put32_in o snap []))
