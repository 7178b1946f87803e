-- Document 01, 'The released list and the copy', measured first and then written (document 02, A3): what a recording releases under a sheet, what its copy
-- takes, and the messages, the answer and the buffer of the copy.
use Rattle.std.specs.Prelude.{ℕ, ◌+◌, ◌*◌, ◌/◌, ◌%◌, Bool, true, false, ◌||◌, List, [], ◌∷◌, map, length, take}
use Rattle.std.proofs.lemmas.List.Edits.{sets}
use Rattle.rules.specs.Outcome.{Outcome, good, bad, ◌>>=◌}
use Rattle.rules.specs.Bytes.{join}
use Rattle.rules.specs.Items.{count}
use Rattle.rules.specs.Packages.{Package, package_time}
use Rattle.rules.specs.Message.{is_simulated, Message, recording}
use Rattle.rules.specs.Buffer.{fitted}
use Rattle.rules.specs.Writer.{write}
use Rattle.rules.specs.Sheet.{Row, sheet, grants}

-- some row grants package p of message m
unfoldable pub granted : List Row → Message → Package → Bool
granted [] m p = false
granted (r ∷ rs) m p = grants m.id (is_simulated m.flags) p.id (package_time m.seconds m.nanos p.delta) r || granted rs m p

-- bits 3, 2 and 1 of a record's flags, which the released list has, each at its place
abbrev pub listed_bits : ℕ → ℕ
listed_bits flags = flags / 2 % 8 * 2

-- an entry of the released list; flags holds bits 3, 2 and 1
pub record Entry : Type 0 where
  pub id : ℕ
  pub seconds : ℕ
  pub nanos : ℕ
  pub flags : ℕ
  pub packages : List Package

-- the granted ones of the packages of m, in order
unfoldable pub granted_packages : List Row → Message → List Package → List Package
granted_packages rs m [] = []
granted_packages rs m (p ∷ ps) = elim (granted rs m p) [ true ↦ p ∷ granted_packages rs m ps | false ↦ granted_packages rs m ps ]

-- the entries es of the messages behind m, with one for m in front if it has a granted package
unfoldable pub with_entry_of : Message → List Package → List Entry → List Entry
with_entry_of m [] es = es
with_entry_of m (p ∷ ps) es = record { id = m.id; seconds = m.seconds; nanos = m.nanos; flags = listed_bits m.flags; packages = p ∷ ps } ∷ es

-- the released list, in recording order
unfoldable pub released : List Row → List Message → List Entry
released rs [] = []
released rs (m ∷ ms) = with_entry_of m (granted_packages rs m m.packages) (released rs ms)

-- flag bit 6, playback
abbrev pub playback : ℕ
playback = 64

-- the message of the copy for an entry, with sequence number n: no options, playback set
unfoldable pub copy_message : ℕ → Entry → Message
copy_message n e = record { flags = playback + e.flags; id = e.id; sequence = n; seconds = e.seconds; nanos = e.nanos; options = []; packages = e.packages }

-- the copy's messages. `seen` holds the message ids of the earlier entries: a sequence number is how many of them are this one
unfoldable pub copy_messages : List ℕ → List Entry → List Message
copy_messages seen [] = []
copy_messages seen (e ∷ es) = copy_message (count e.id seen) e ∷ copy_messages (e.id ∷ seen) es

-- the bytes of the copy
unfoldable pub copy_bytes : List Entry → List ℕ
copy_bytes es = join (map write (copy_messages [] es))

-- how many packages the entries have
unfoldable pub packages_in : List Entry → ℕ
packages_in [] = 0
packages_in (e ∷ es) = length e.packages + packages_in es

-- what measuring and writing report
pub record Answer : Type 0 where
  pub number : ℕ
  pub place : ℕ
  pub bytes : ℕ
  pub messages : ℕ
  pub packages : ℕ

-- an answer with nothing but a number and a place
abbrev pub refusal : ℕ → ℕ → Answer
refusal n p = record { number = n; place = p; bytes = 0; messages = 0; packages = 0 }

-- the released list of a recording under a sheet, if both pass
unfoldable pub released_of : List ℕ → List ℕ → Outcome (List Entry)
released_of recordingBytes sheetBytes = do
  rs ← sheet sheetBytes
  ms ← recording recordingBytes
  good (released rs ms)

-- number and place, both 0 on success; and what the copy of the released list takes, zero on a refusal
unfoldable pub reported : Outcome (List Entry) → Answer
reported (bad n p) = refusal n p
reported (good es) = record { number = 0; place = 0; bytes = length (copy_bytes es); messages = length es; packages = packages_in es }

-- the measurement of a recording under the bytes of a sheet: what the copy takes, and nothing is written
unfoldable pub measurement : List ℕ → List ℕ → Answer
measurement recordingBytes sheetBytes = reported (released_of recordingBytes sheetBytes)

-- the released list, if the buffer has room for its copy
unfoldable pub room_for : List ℕ → List Entry → Outcome (List Entry)
room_for buffer es = fitted buffer (copy_bytes es) >>= λ bytes. good es

-- the buffer after: the copy from its start on
unfoldable pub filled : List ℕ → Outcome (List Entry) → List ℕ
filled buffer (bad n p) = buffer
filled buffer (good es) = sets buffer 0 (copy_bytes es)

-- the copy of a recording under the bytes of a sheet: what writing it reports, and the buffer after it
unfoldable pub answered : List ℕ → Outcome (List Entry) → Answer × List ℕ
answered buffer o = (reported o, filled buffer o)

unfoldable pub copy : List ℕ → List ℕ → List ℕ → Answer × List ℕ
copy recordingBytes sheetBytes buffer = answered buffer (released_of recordingBytes sheetBytes >>= room_for buffer)

-- the copy itself: the buffer's first so many bytes
abbrev pub delivered : Answer × List ℕ → List ℕ
delivered a = take a.0.bytes a.1
