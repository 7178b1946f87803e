-- Document 01, 'Writing and cleaning', with document 02, A2: the bytes of a message record, and what the writer takes and refuses.
use Rattle.std.specs.Prelude.{ℕ, zero, ◌+◌, ◌*◌, ◌/◌, List, [], ◌∷◌, ◌++◌, map, ltb, length}
use Rattle.rules.specs.Outcome.{Outcome, good, refuse, ◌>>◌, ◌>>=◌, LARGE, TIME, OPTION, COUNT}
use Rattle.rules.specs.Bytes.{put32, pad, padded, join, one_if_any}
use Rattle.rules.specs.Options.{most_option_bytes, option_run_from, count_said, differs}
use Rattle.rules.specs.Packages.{cut, package_of, piece_of}
use Rattle.rules.specs.Message.{header_bytes, most_nanos, most_bytes, record_bits, Message}
use Rattle.rules.specs.Buffer.{Written, stored, fitted}

-- the bytes of a record: version 1, the fewest option words, flag 7 exactly if there is a package, and zero in all that a record does not have
unfoldable pub write : Message → List ℕ
write m =
    let options = padded m.options in
    let payload = join (map piece_of m.packages) in
    (1 * 16 + length options / 4) ∷ 0 ∷ 0 ∷ (m.flags + one_if_any m.packages * 128)
    ∷ put32 m.id (put32 m.sequence (put32 (header_bytes + length options + length payload)
    (put32 m.seconds (put32 m.nanos (options ++ payload)))))

-- what the writer takes: a record whose packages are a run of bytes; of its flags bits 6, 3, 2, 1 and 0 count
pub record Draft : Type 0 where
  pub flags : ℕ
  pub id : ℕ
  pub sequence : ℕ
  pub seconds : ℕ
  pub nanos : ℕ
  pub options : List ℕ
  pub packages : List ℕ

-- the record of a draft whose run is cut into these pieces
unfoldable pub drafted : Draft → List (List ℕ) → Message
drafted d cs = record { flags = record_bits d.flags; id = d.id; sequence = d.sequence; seconds = d.seconds; nanos = d.nanos; options = d.options; packages = map package_of cs }

-- the record that a draft stands for. An option of kind 0x00 ends the option run before its bytes end, and is refused where it stands
unfoldable pub accepted : Draft → Outcome Message
accepted d = do
  refuse (ltb most_bytes (header_bytes + pad (length d.options) + length d.packages)) LARGE most_bytes
  refuse (ltb most_nanos d.nanos) TIME 0
  refuse (ltb most_option_bytes (length d.options)) OPTION most_option_bytes
  n ← option_run_from [] zero zero zero d.options
  refuse (ltb n (length d.options)) OPTION n
  cs ← cut zero d.packages
  refuse (differs (count_said d.options) (length cs)) COUNT 0
  good (drafted d cs)

unfoldable pub written : Draft → Outcome (List ℕ)
written d = do
  m ← accepted d
  good (write m)

-- the writer's answer, and the buffer after it
unfoldable pub writer : Draft → List ℕ → Written × List ℕ
writer d buffer = stored buffer (written d >>= fitted buffer)
