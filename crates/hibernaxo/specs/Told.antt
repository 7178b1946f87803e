-- What each export hands back, by the rules' answer: the refusal number, which it returns; the values, the place first; and the lent buffer as it is left, where one is lent.
use Rattle.std.specs.Prelude.{ℕ, zero, suc, ◌+◌, ◌-◌, ◌*◌, ◌%◌, ◌^◌, Bool, true, false, List, [], ◌∷◌, ◌++◌, map, get_or, replicate, Result, Ok, Err}
use Rattle.std.proofs.Math.Option.{Option, none, some}
use Rattle.rules.specs.Outcome.{Outcome, good, bad}
use Rattle.refusal.specs.Numbers.{number_of}
use Rattle.refusal.specs.declared.Refusal.{Refusal}
use Rattle.rules.specs.Bytes.{join}
use Rattle.rules.specs.Packages.{package_header}
use Rattle.rules.specs.Message.{Head, header_bytes}
use Rattle.rules.specs.Walk.{PackageSpot}
use Rattle.rules.specs.Buffer.{Written}
use Rattle.rules.specs.Writer.{Draft}
use Rattle.rules.specs.Sheet.{Row, most_rows}
use Rattle.rules.specs.Copy.{Answer}
use Rattle.rules.specs.Burst.{Randomized, Opened}
use Rattle.numbered.specs.Numbering.{State}
use Rattle.numbered.specs.Quota.{Report}
use Rattle.fragments.specs.Cutting.{CutAnswer}
use Rattle.ids.specs.Reader.{Range, most_items}
use Rattle.salvage.specs.Salvage as salvage
use Rattle.capture.specs.Reading.{ReadAnswer}
use Rattle.capture.specs.Writing.{WriteAnswer}

-- the values of a refusal at place p: k zeros behind the place
abbrev pub refused_at : ℕ → ℕ → List ℕ
refused_at p k = p ∷ replicate k 0

-- what an answer hands over in n values: those of a value as f tells it, the place first, or a refusal's place with zeros behind it; its number beside
abbrev pub values_told : {A : Type 0} → (A → List ℕ) → ℕ → Result A Refusal → ℕ × List ℕ
values_told f n (Ok a) = (0, f a)
values_told f n (Err r) = (number_of r.why, refused_at r.place (n - 1))

-- a header: where its option run begins and how long it is come last
abbrev pub header_told : Outcome (Head × ℕ) → ℕ × List ℕ
header_told (bad n p) = (n, refused_at p 9)
header_told (good (h, run)) = (0, 0 ∷ h.words ∷ h.flags ∷ h.id ∷ h.sequence ∷ h.size ∷ h.seconds ∷ h.nanos ∷ header_bytes ∷ run ∷ [])

-- a step of the walk that stands at place i: the last value is where it then stands, and i unless a package is shown
abbrev pub step_told : ℕ → Outcome (Option PackageSpot) → ℕ × List ℕ
step_told i (bad n p) = (n, p ∷ 0 ∷ 0 ∷ 0 ∷ 0 ∷ 0 ∷ 0 ∷ 0 ∷ i ∷ [])
step_told i (good none) = (0, 0 ∷ 0 ∷ 0 ∷ 0 ∷ 0 ∷ 0 ∷ 0 ∷ 0 ∷ i ∷ [])
step_told i (good (some k)) = (0, 0 ∷ 1 ∷ k.id ∷ k.size ∷ k.status ∷ k.delta ∷ k.from ∷ (k.size - package_header) ∷ k.next ∷ [])

-- a recording checked: messages and packages
abbrev pub check_told : Outcome (ℕ × ℕ) → ℕ × List ℕ
check_told (bad n p) = (n, refused_at p 2)
check_told (good (messages, packages)) = (0, 0 ∷ messages ∷ packages ∷ [])

-- what the writer is handed, as the rules' draft
abbrev pub draft : ℕ → ℕ → ℕ → ℕ → ℕ → List ℕ → List ℕ → Draft
draft f i q s n o p = record { flags = f; id = i; sequence = q; seconds = s; nanos = n; options = o; packages = p }

-- an answer's number and values, and the buffer as it is left
abbrev pub with_buffer : {A : Type 0} → (A → ℕ × List ℕ) → A × List ℕ → ℕ × List ℕ × List ℕ
with_buffer values (a, buffer) = ((values a).0, (values a).1, buffer)

-- a message written, cleaned or joined, and a recording purged: bytes
abbrev pub written_values : Written → ℕ × List ℕ
written_values w = (w.number, w.place ∷ w.bytes ∷ [])

abbrev pub written_told : Written × List ℕ → ℕ × List ℕ × List ℕ
written_told = with_buffer written_values

-- a message cut: bytes and fragments
abbrev pub cut_values : CutAnswer → ℕ × List ℕ
cut_values a = (a.number, a.place ∷ a.bytes ∷ a.fragments ∷ [])

abbrev pub cut_told : CutAnswer × List ℕ → ℕ × List ℕ × List ℕ
cut_told = with_buffer cut_values

-- a sheet: how many rows it has, and nine values for each row, the last 1 where it is for acquired data only
abbrev pub one_if : Bool → ℕ
one_if true = 1
one_if false = 0

abbrev pub row_values : Row → List ℕ
row_values r = r.first_message ∷ r.last_message ∷ r.first_package ∷ r.last_package ∷ r.start_seconds ∷ r.start_nanos ∷ r.end_seconds ∷ r.end_nanos ∷ one_if r.acquired_only ∷ []

abbrev pub sheet_told : Outcome (List Row × ℕ) → ℕ × List ℕ
sheet_told (bad n p) = (n, refused_at p (1 + 9 * most_rows))
sheet_told (good (rows, count)) = (0, 0 ∷ count ∷ join (map row_values rows))

-- a copy measured, and written: bytes, messages and packages
abbrev pub answer_values : Answer → ℕ × List ℕ
answer_values a = (a.number, a.place ∷ a.bytes ∷ a.messages ∷ a.packages ∷ [])

abbrev pub copy_told : Answer × List ℕ → ℕ × List ℕ × List ℕ
copy_told = with_buffer answer_values

-- n numbers of an array, from a place on
unfoldable pub numbers_from : ℕ → ℕ → List ℕ → List ℕ
numbers_from zero at l = []
numbers_from (suc n) at l = get_or l at 0 ∷ numbers_from n (suc at) l

-- the state that an array of 129 numbers stands for: how many ids are held, then 64 ids, then beside each its next number
abbrev pub state_at : List ℕ → State
state_at l = record { ids = numbers_from 64 1 l; next = numbers_from 64 65 l; held = get_or l 0 0 }

-- and the array of a state, whose first number has 32 bits
abbrev pub state_values : State → List ℕ
state_values s = s.held % 2 ^ 32 ∷ (s.ids ++ s.next)

-- a step: messages handled, bytes consumed; bytes, messages and packages written; and the state behind it
abbrev pub report_values : Report → ℕ × List ℕ
report_values r = (r.number, r.place ∷ r.handled ∷ r.consumed ∷ r.bytes ∷ r.messages ∷ r.packages ∷ [])

abbrev pub stepped_told : Report × State × List ℕ → ℕ × List ℕ × List ℕ × List ℕ
stepped_told (r, state, buffer) = ((report_values r).0, (report_values r).1, state_values state, buffer)

-- a buffer randomized
abbrev pub randomized_told : Randomized × List ℕ → ℕ × List ℕ × List ℕ
randomized_told (a, buffer) = (a.number, a.place ∷ [], buffer)

-- a burst opened: codeblocks
abbrev pub opened_told : Opened × List ℕ → ℕ × List ℕ × List ℕ
opened_told (a, buffer) = (a.number, a.place ∷ a.blocks ∷ [], buffer)

-- a line of ids: how many ranges it has, and first and last of each range
abbrev pub range_values : Range → List ℕ
range_values r = r.first ∷ r.last ∷ []

abbrev pub ids_told : Outcome (List Range × ℕ) → ℕ × List ℕ
ids_told (bad n p) = (n, refused_at p (1 + 2 * most_items))
ids_told (good (ranges, count)) = (0, 0 ∷ count ∷ join (map range_values ranges))

-- a salvage: bytes, messages and how many stretches were skipped, and start and length of each
abbrev pub stretch_values : salvage.Stretch → List ℕ
stretch_values h = h.start ∷ h.size ∷ []

abbrev pub salvage_values : salvage.Answer → ℕ × List ℕ
salvage_values a = (a.number, a.place ∷ a.bytes ∷ a.messages ∷ a.count ∷ join (map stretch_values a.stretches))

abbrev pub salvage_told : salvage.Answer × List ℕ → ℕ × List ℕ × List ℕ
salvage_told = with_buffer salvage_values

-- a capture read: bytes, and the four counts
abbrev pub read_values : ReadAnswer → ℕ × List ℕ
read_values a = (a.number, a.place ∷ a.bytes ∷ a.kept ∷ a.not_for_us ∷ a.cut_short ∷ a.bad_message ∷ [])

abbrev pub read_told : ReadAnswer × List ℕ → ℕ × List ℕ × List ℕ
read_told = with_buffer read_values

-- a capture written: bytes and messages
abbrev pub sent_values : WriteAnswer → ℕ × List ℕ
sent_values a = (a.number, a.place ∷ a.bytes ∷ a.messages ∷ [])

abbrev pub sent_told : WriteAnswer × List ℕ → ℕ × List ℕ × List ℕ
sent_told = with_buffer sent_values
