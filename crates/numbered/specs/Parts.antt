-- What the parts of the copy come to: the granted packages of one message, measured and stored, its id among those held, and the running numbers.
use Rattle.std.specs.Prelude.{ℕ, ◌+◌, ◌-◌, ◌*◌, ◌/◌, ◌%◌, ◌^◌, ◌≤◌, ◌<◌, ◌≡◌, Bool, true, false, List, [], ◌∷◌, ◌++◌, map, ltb, eqb, length, get_or, take, drop, set, replicate, Result, Ok, Err}
use Rattle.std.proofs.lemmas.List.Edits.{sets}
use Rattle.rules.specs.Outcome.{good, bad, refuse, ◌>>◌, PACKAGE}
use Rattle.rules.specs.Bytes.{put32, part, join}
use Rattle.rules.specs.Packages as rules
use Rattle.rules.specs.Packages.{cut, package_of, piece_of}
use Rattle.rules.specs.Items.{items, count}
use Rattle.rules.specs.Options.{count_said, differs}
use Rattle.rules.specs.Message.{record_bits, Message, message}
use Rattle.rules.specs.Reading.{message_at}
use Rattle.rules.specs.Sheet as rows
use Rattle.rules.specs.Copy.{granted, granted_packages, released}
use Rattle.wire.specs.Bits.{bit_at, with_bit}
use Rattle.sheet.specs.Table.{rows_in}
use Rattle.refusal.specs.declared.Why.TheVariants as why
use Rattle.refusal.specs.declared.Why.TheVariants.{Ids}
use Rattle.refusal.specs.declared.Refusal.{Refusal}
use Rattle.refusal.specs.Numbers.{IDS, refused}
use Rattle.message.specs.declared.Header.{Header}
use Rattle.message.specs.declared.Package.{Package}
use Rattle.message.specs.declared.Message as found
use Rattle.message.specs.Answers.{told_message, payload_from, next_from}
use Rattle.numbered.specs.declared.Size.{Size}
use Rattle.numbered.specs.declared.Walked.{Walked}
use Rattle.numbered.specs.declared.Kept.{Kept}
use Rattle.numbered.specs.declared.Totals.{Totals}
use Rattle.numbered.specs.declared.Progress.{Progress}
use Rattle.numbered.specs.declared.Counted.{Counted}
use Rattle.numbered.specs.declared.Done.{Done}
use Rattle.numbered.specs.declared.Numbered.{Numbered}
use Rattle.numbered.specs.declared.Seats.{Seats}
use Rattle.numbered.specs.declared.Reached.{Reached}
use Rattle.numbered.specs.Quota.{bad_ids, most_entries}
use Rattle.numbered.specs.Numbering.{Running, counted_on, numbers_after, numbered_bytes, beside, id_of, next_of}

-- a message with this header: a grant depends on its id, its time and its flag bit 3 alone
abbrev pub message_by : Header → Message
message_by h = record { flags = record_bits h.flags; id = h.id.0; sequence = 0; seconds = h.seconds; nanos = h.nanos; options = []; packages = [] }

-- the granted packages among the pieces cs of message m
unfoldable pub kept : List rows.Row → Message → List (List ℕ) → List rules.Package
kept rs m cs = granted_packages rs m (map package_of cs)

-- the bytes of packages, one behind the other
abbrev pub payload_of : List rules.Package → List ℕ
payload_of ps = join (map piece_of ps)

-- one package more, if it is granted
abbrev pub with_package : Size → ℕ → Bool → Size
with_package s n true = record { bytes = s.bytes + n; packages = s.packages + 1 }
with_package s n false = s

-- r is the size of what is granted of a run that can be cut
pub record Sized (rs : List rows.Row) (m : Message) (run : List ℕ) (r : Size) : Type 0 where
  pub small : r.bytes ≤ length run
  pub few : r.packages ≤ length run
  pub right : (cs : List (List ℕ)) → cut 0 run ≡ good cs → (r.bytes ≡ length (payload_of (kept rs m cs))) × (r.packages ≡ length (kept rs m cs))

-- of each piece of message m, whether it is granted
unfoldable pub flags_of : List rows.Row → Message → List (List ℕ) → List Bool
flags_of rs m cs = map (λ c. granted rs m (package_of c)) cs

-- the same for all packages of messages, one behind the other
unfoldable pub flags_in : List rows.Row → List Message → List Bool
flags_in rs [] = []
flags_in rs (m ∷ ms) = map (granted rs m) m.packages ++ flags_in rs ms

-- bits tell flags: bit i is flag i, and behind the last all are 0
pub record Tells (marks : List ℕ) (fs : List Bool) : Type 0 where
  pub each : (i : ℕ) → i < length fs → eqb (bit_at marks i) 1 ≡ get_or fs i false
  pub rest : (i : ℕ) → length fs ≤ i → bit_at marks i ≡ 0

-- bits tell of each package of an input that passes whether it is granted
pub record Marked (rs : List rows.Row) (input marks : List ℕ) : Type 0 where
  pub tells : (ms : List Message) → items message 0 0 input ≡ good ms → Tells marks (flags_in rs ms)

-- r walked over these pieces of a run, which are all of it if it comes to its end; otherwise no package stands there. It says what is granted of them, and behind
-- the flags that were marked before stand theirs
pub record WalkedOver (rs : List rows.Row) (m : Message) (run marks marks' : List ℕ) (first : ℕ) (r : Walked) : Type 0 where
  pub pieces : List (List ℕ)
  pub inside : r.end ≤ length run
  pub small : r.size.bytes ≤ length run
  pub few : r.size.packages ≤ length run
  pub many : r.all ≡ length pieces
  pub whole : length run ≤ r.end → cut 0 run ≡ good pieces
  pub broken : r.end < length run → cut 0 run ≡ bad PACKAGE r.end
  pub bytes : r.size.bytes ≡ length (payload_of (kept rs m pieces))
  pub packages : r.size.packages ≡ length (kept rs m pieces)
  pub marked : (fs : List Bool) → length fs ≡ first → Tells marks fs → Tells marks' (fs ++ flags_of rs m pieces)

-- the message, once its packages were walked over: that they end before its payload does, or are not as many as it says, is told here
abbrev pub finished_by : Bool → Bool → ℕ → Header → Walked → Result (found.Message × Size) Refusal
finished_by true c at h w = Err (record { why = why.Package; place = payload_from at h + w.end })
finished_by false true at h w = Err (record { why = why.Count; place = at })
finished_by false false at h w = Ok (record { header = h; payload = payload_from at h; next = next_from at h; packages = w.all }, w.size)

abbrev pub finished : List ℕ → ℕ → Header → Walked → Result (found.Message × Size) Refusal
finished input at h w =
    finished_by (ltb w.end (next_from at h - payload_from at h)) (differs (count_said (take (at + 24 + h.run - (at + 24)) (drop (at + 24) input))) w.all) at h w

-- what was read, whatever is granted of it
abbrev pub read_of : Result (found.Message × Size) Refusal → Result found.Message Refusal
read_of (Ok (m, s)) = Ok m
read_of (Err f) = Err f

-- the payload of a message that was read
abbrev pub run_of : List ℕ → found.Message → List ℕ
run_of input m = take (m.next - m.payload) (drop m.payload input)

-- s is what is granted of message m, and the flags of its packages stand behind those that were marked before
pub record Measured (rs : List rows.Row) (input marks marks' : List ℕ) (first : ℕ) (m : found.Message) (s : Size) : Type 0 where
  pub sized : Sized rs (message_by m.header) (run_of input m) s
  pub many : (cs : List (List ℕ)) → cut 0 (run_of input m) ≡ good cs → m.packages ≡ length cs
  pub marked : (cs : List (List ℕ)) → cut 0 (run_of input m) ≡ good cs → (fs : List Bool) → length fs ≡ first → Tells marks fs
      → Tells marks' (fs ++ flags_of rs (message_by m.header) cs)

abbrev pub MeasuredIn : List rows.Row → List ℕ → List ℕ → List ℕ → ℕ → Result (found.Message × Size) Refusal → Type 0
MeasuredIn rs input marks marks' first (Ok (m, s)) = Measured rs input marks marks' first m s
MeasuredIn rs input marks marks' first (Err f) = Unit {0}

-- the message at this place is read and measured
pub record Took (rs : List rows.Row) (input : List ℕ) (at : ℕ) (marks marks' : List ℕ) (first : ℕ) (r : Result (found.Message × Size) Refusal) : Type 0 where
  pub told : told_message (read_of r) ≡ message_at input at
  pub measured : MeasuredIn rs input marks marks' first r

-- one message more, if something of it is granted
abbrev pub entered : Totals → Size → Bool → Totals
entered t s true = t
entered t s false = record { bytes = t.bytes + 24 + s.bytes; messages = t.messages + 1; packages = t.packages + s.packages }

abbrev pub with_entry : Totals → Size → Totals
with_entry t s = entered t s (eqb s.packages 0)

-- the bytes of package p, which stands at the start of run, reserved byte and padding zero
unfoldable pub piece_as : List ℕ → Package → List ℕ
piece_as run p = take 6 run ++ (0 ∷ part 7 p.to run) ++ replicate (p.next - p.to) 0

-- the numbers of p, which stands at the start of run, are in order
pub record Placed (run : List ℕ) (p : Package) : Type 0 where
  pub front : 12 ≤ p.to
  pub padding : p.to ≤ p.next
  pub little : p.next ≤ p.to + 3
  pub inside : p.next ≤ length run
  pub short : length run ≤ 65536

-- what is stored of a package, and where the next place is
abbrev pub only_if : Bool → List ℕ → List ℕ
only_if true s = s
only_if false s = []

pub record Stored (before after : List ℕ) (at next : ℕ) (granted : Bool) (piece : List ℕ) (size : ℕ) : Type 0 where
  pub bytes : after ≡ sets before at (only_if granted piece)
  pub behind : next ≡ elim granted [ true ↦ at + size | false ↦ at ]

-- the packages of pieces that are marked, the first by the mark `first`
unfoldable pub picked : List ℕ → ℕ → List (List ℕ) → List rules.Package
picked marks first [] = []
picked marks first (c ∷ cs) = elim (eqb (bit_at marks first) 1) [ true ↦ package_of c ∷ picked marks (first + 1) cs | false ↦ picked marks (first + 1) cs ]

-- of a run that can be cut the packages that `keep` keeps are stored; r says their bytes, and how many packages the run has
pub record StoredRun (keep : List (List ℕ) → List rules.Package) (run before after : List ℕ) (at : ℕ) (r : Kept) : Type 0 where
  pub small : r.bytes ≤ length run
  pub few : r.all ≤ length run
  pub right : (cs : List (List ℕ)) → cut 0 run ≡ good cs → (r.bytes ≡ length (payload_of (keep cs))) × (after ≡ sets before at (payload_of (keep cs))) × (r.all ≡ length cs)

-- the header of a message of the copy
unfoldable pub head_bytes : Header → ℕ → ℕ → List ℕ
head_bytes h n size =
    16 ∷ 0 ∷ 0 ∷ (192 + h.flags / 2 % 8 * 2) ∷ put32 h.id.0 (put32 n (put32 size (put32 h.seconds (put32 h.nanos []))))

-- x stands at place r of l, or nowhere, and r is l's length
pub record Place (l : List ℕ) (x r : ℕ) : Type 0 where
  pub inside : r ≤ length l
  pub hit : r < length l → get_or l r 0 ≡ x
  pub miss : r ≡ length l → count x l ≡ 0

-- where an id's bit stands
abbrev pub slot_of : ℕ → ℕ
slot_of id = id % 4096

-- an id whose bit is not set is none of these
pub record Sees (seen ids : List ℕ) : Type 0 where
  pub none : (x : ℕ) → bit_at seen (slot_of x) ≡ 0 → count x ids ≡ 0

-- how many ids are held with the one at this place: one more, if it is the place behind them
abbrev pub one_more : ℕ → Bool → ℕ
one_more held true = held + 1
one_more held false = held

abbrev pub held_with : ℕ → ℕ → ℕ
held_with held place = one_more held (eqb place held)

-- the number that the id at this place gets next: 0 for a new one, whose place is behind those held
abbrev pub number_for : List ℕ → ℕ → Bool → ℕ
number_for next place true = 0
number_for next place false = get_or next place 0

abbrev pub number_at : List ℕ → ℕ → ℕ → ℕ
number_at next place held = number_for next place (eqb place held)

-- the ids held, each once, leave room for this one, and each has its bit
pub record Ready (ids next seen : List ℕ) (held id : ℕ) : Type 0 where
  pub sees : Sees seen (take held ids)
  pub small : held ≤ 65536
  pub ids-held : held ≤ length ids
  pub next-held : held ≤ length next
  pub once : count id (take held ids) ≤ 1
  pub ids-room : count id (take held ids) ≡ 0 → held < length ids
  pub next-room : count id (take held ids) ≡ 0 → held < length next

-- a message with a package: its header is stored with the number of its id, which then goes on by one
pub record Entered (h : Header) (bytes : ℕ) (before after ids ids' next next' : List ℕ) (done r : Reached) : Type 0 where
  pub place : ℕ
  pub spot : Place (take done.held ids) h.id.0 place
  pub head : after ≡ sets before done.to (head_bytes h (number_at next place done.held) (24 + bytes))
  pub named : ids' ≡ set ids place h.id.0
  pub counted : next' ≡ set next place ((number_at next place done.held + 1) % 2 ^ 32)
  pub reached : r ≡ record { to = done.to + (24 + bytes); held = held_with done.held place }

-- a message whose granted packages take so many bytes: without one nothing changes
pub record Delivered (h : Header) (bytes : ℕ) (before after ids ids' next next' seen seen' : List ℕ) (done r : Reached) : Type 0 where
  pub none : bytes ≡ 0 → (after ≡ before) × (ids' ≡ ids) × (next' ≡ next) × (seen' ≡ seen) × (r ≡ done)
  pub bit : (bytes ≡ 0 → ⊥) → seen' ≡ with_bit seen (slot_of h.id.0)
  pub one : (bytes ≡ 0 → ⊥) → Entered h bytes before after ids ids' next next' done r

-- input passes, and ids and numbers have room for all that it delivers
pub record Roomy (rs : List rows.Row) (input ids next : List ℕ) (held : ℕ) : Type 0 where
  pub small : held ≤ 65536
  pub ids-held : held ≤ length ids
  pub next-held : held ≤ length next
  pub once : (x : ℕ) → count x (take held ids) ≤ 1
  pub messages : List Message
  pub read : items message 0 0 input ≡ good messages
  pub ids-room : length (numbers_after (beside (take held ids) (take held next)) (released rs messages)) ≤ length ids
  pub next-room : length (numbers_after (beside (take held ids) (take held next)) (released rs messages)) ≤ length next
  pub few : length (numbers_after (beside (take held ids) (take held next)) (released rs messages)) ≤ 65536

-- the copy of input is stored, numbered on, and the numbers after it are held
pub record Wrote (rs : List rows.Row) (input ids ids' next next' : List ℕ) (held r : ℕ) (before after : List ℕ) : Type 0 where
  pub numbers : List Running
  pub are : (ms : List Message) → items message 0 0 input ≡ good ms → numbers ≡ numbers_after (beside (take held ids) (take held next)) (released rs ms)
  pub bytes : (ms : List Message) → items message 0 0 input ≡ good ms → after ≡ sets before 0 (numbered_bytes (beside (take held ids) (take held next)) (released rs ms))
  pub ids-after : ids' ≡ sets ids 0 (map id_of numbers)
  pub next-after : next' ≡ sets next 0 (map next_of numbers)
  pub held_after : r ≡ length numbers

-- no number stands twice
pub record Single (l : List ℕ) : Type 0 where
  pub once : (x : ℕ) → count x l ≤ 1

-- running numbers with these ids, all 0: which ids fit does not depend on the numbers
unfoldable pub named : List ℕ → List Running
named [] = []
named (x ∷ l) = record { id = x; next = 0 } ∷ named l

-- an id of a message at place k that is delivered: it is known, or among the fresh ones, or it is seated behind them, if there is room for it
pub record Sat (known fresh fresh' : List ℕ) (seats r : Seats) (room id k : ℕ) (ns : List Running) : Type 0 where
  pub many : length known + r.many ≡ length (counted_on id ns)
  pub ids : r.many ≤ room → map id_of (counted_on id ns) ≡ known ++ take r.many fresh'
  pub over : room < r.many → r.over ≡ k

-- the ids with that of one message more, which has so many granted packages. Without one nothing changes; nor where the ids are too many already, or cannot become so
pub record Seated (known fresh fresh' : List ℕ) (seats r : Seats) (room id packages k : ℕ) : Type 0 where
  pub long : length fresh' ≡ length fresh
  pub idle : 64 < room → r ≡ seats
  pub none : packages ≡ 0 → (r ≡ seats) × (fresh' ≡ fresh)
  pub full : room < seats.many → (r ≡ seats) × (fresh' ≡ fresh)
  pub one : room ≤ 64 → (packages ≡ 0 → ⊥) → seats.many ≤ room → (ns : List Running) → map id_of ns ≡ known ++ take seats.many fresh → Sat known fresh fresh' seats r room id k ns

-- which ids are known and for how many more there is room: measured alone, none are and there is room for all
abbrev pub known_of : Bool → ℕ → ℕ
known_of true held = 0
known_of false held = held

abbrev pub room_of : Bool → ℕ → ℕ → ℕ
room_of true most held = most_entries
room_of false most held = most - held

-- most ids may be held in so many places: as many as an input can bring more than those held, or 64 at most
pub record Most (places held most : ℕ) : Type 0 where
  pub inside : most ≤ places
  pub wide : 64 < most - held → most_entries ≤ most - held
  pub small : most ≤ most_entries

-- ids that cannot be held, where it is not measured alone
abbrev pub refused_ids : Bool → ℕ → List ℕ → ℕ → Bool
refused_ids true most ids held = false
refused_ids false most ids held = bad_ids most ids held

-- the ids can be held, and the rows of a sheet stand at the start of a table
pub record Opens (alone : Bool) (most : ℕ) (ids : List ℕ) (held : ℕ) (sheetBytes table : List ℕ) (end : ℕ) : Type 0 where
  pub held_good : refused_ids alone most ids held ≡ false
  pub few : end ≤ 224
  pub inside : end ≤ length table
  pub read : rows.sheet sheetBytes ≡ good (rows_in (take end table))

-- or why not: the ids are refused, and otherwise the sheet
pub record Shut (alone : Bool) (most : ℕ) (ids : List ℕ) (held : ℕ) (sheetBytes : List ℕ) (f : Refusal) : Type 0 where
  pub why : (refuse (refused_ids alone most ids held) IDS 0 >> rows.sheet sheetBytes) ≡ refused f

-- the answer once all is measured: IDS, if the ids are too many
abbrev pub judged_by : Progress → Seats → Bool → Result Counted Refusal
judged_by p seats true = Err (record { why = Ids; place = seats.over })
judged_by p seats false = Ok (record { progress = p; many = seats.many })

abbrev pub judged_as : Progress → Seats → ℕ → Result Counted Refusal
judged_as p seats room = judged_by p seats (ltb room seats.many)

-- the answer, and how many ids are then held
abbrev pub answered : Result Done Refusal → ℕ → Numbered
answered (Ok d) held = record { answer = Ok d.progress; held = d.held }
answered (Err f) held = record { answer = Err f; held = held }
