-- Each claim, proved by the laws; and that a promise allows one answer alone.
use Prim.Native.Nat.{ℕ}
use mathlib.Core.Path.{◌≡◌, refl}
use mathlib.Core.List.{List}
use borrow.Author.Tests.{lt-ltb}
use lib.ListN.{length}
use Rattle.rules.specs.Outcome.{Outcome, good, bad, ◌>>=◌}
use Rattle.rules.specs.Buffer.{fitted}
use Rattle.rules.specs.Claims.{TellsApart}
use Rattle.rules.proofs.Outcomes.{halt}
use Rattle.rules.proofs.Kept.{careful_stored, writes, roomless}
use Rattle.std.specs.Prelude as std
use Rattle.refusal.specs.Numbers.{option_by}
use Rattle.refusal.proofs.Numbers.{same_answer, option_back, option-back}
use Rattle.radio.specs.Radio.{radio, stored_at, tlv_put, tlv_writer, run_written, radio_writer}
use Rattle.radio.specs.Claims.{TlvWrittenRead, TlvReadWritten, RadioWrittenRead, RadioReadWritten, RadioCleanExactly, StepsShowAll, RadioLarge, RadioPlace, RunPlace, RecordsPut, RecordsByRun, RunWrittenRead, PartsWritten, WriterWrites, RoomRefused, BuffersKept, RowExact, RowApart}
use Rattle.radio.specs.Told.{told_radio, told_tlv}
use Rattle.radio.specs.Example.{Example}
use Rattle.radio.specs.declared.Head.{Head}
use Rattle.radio.specs.declared.Tlv.{Tlv}
use Rattle.radio.specs.declared.RadioMessage.{RadioMessage}
use Rattle.radio.specs.declared.TlvFound.{TlvFound}
use Rattle.radio.proofs.Rows as rows
use Rattle.radio.proofs.Tlvs as tlvs
use Rattle.radio.proofs.Messages as messages
use Rattle.radio.proofs.Places as places
use Rattle.radio.proofs.Examples.{worked_out}

pub tlv-written-read : TlvWrittenRead
tlv-written-read t v p b = tlvs.tlv-written-read t v p b

pub tlv-read-written : TlvReadWritten
tlv-read-written p s h t n e = tlvs.tlv-read-written s h p t n e

pub radio-written-read : RadioWrittenRead
radio-written-read m v = messages.radio-written-read m v

pub radio-read-written : RadioReadWritten
radio-read-written s b m e = (messages.radio-clean s b m e, messages.radio_valid s b m e)

pub radio-clean-exactly : RadioCleanExactly
radio-clean-exactly = messages.radio-exactly

pub steps_show_all : StepsShowAll
steps_show_all = messages.steps_show_all

pub radio-large : RadioLarge
unfolding radio
radio-large s l = halt _ _ _ _ (lt-ltb 65536 (length s) l)

pub radio-place : RadioPlace
radio-place = places.radio-place

pub run-place : RunPlace
run-place = places.run-place

pub records_put : RecordsPut
records_put = messages.records_put

pub records-by-run : RecordsByRun
records-by-run = messages.records-by-run

pub run-written-read : RunWrittenRead
run-written-read = messages.run-written-read

pub parts-written : PartsWritten
parts-written = messages.parts-written

pub writer_writes : WriterWrites
unfolding radio_writer
writer_writes h run b c e l = writes b c (run_written h run) e l

pub room-refused : RoomRefused
unfolding radio_writer
room-refused h run b c e l = roomless b c (run_written h run) e l

kept_at : (b : List ℕ) (p : ℕ) (o : Outcome (List ℕ)) → ((stored_at b p o).0.number ≡ 0 → ⊥) → (stored_at b p o).1 ≡ b
kept_at b p (good s) h = absurd (h refl)
kept_at b p (bad n q) h = refl

pub buffers-kept : BuffersKept
unfolding radio_writer tlv_writer
buffers-kept = record {
  writer = λ h run buffer. careful_stored buffer (run_written h run >>= fitted buffer);
  tlv = λ t p buffer. kept_at buffer p (tlv_put t p buffer);
}

pub row_exact : RowExact
row_exact = rows.row_exact

pub row_apart : RowApart
row_apart = rows.row_apart

pub example : Example
example = worked_out

-- two answers that are told alike are the same

message_back : Head × ℕ → RadioMessage
message_back r = record { head = r.0; tlvs = r.1 }

message-back : (m : RadioMessage) → message_back (m.head, m.tlvs) ≡ m
unfolding message_back
message-back m = refl

pub same_radio : TellsApart told_radio
same_radio = same_answer (λ (m : RadioMessage). (m.head, m.tlvs)) message_back message-back

found_back : Tlv × ℕ → TlvFound
found_back r = record { tlv = r.0; next = r.1 }

found-back : (f : TlvFound) → found_back (f.tlv, f.next) ≡ f
unfolding found_back
found-back f = refl

abbrev shown : TlvFound → Tlv × ℕ
shown f = (f.tlv, f.next)

pub same_tlv : TellsApart told_tlv
same_tlv = same_answer (λ (o : std.Option TlvFound). option_by shown o) (option_back found_back) (option-back shown found_back found-back)
