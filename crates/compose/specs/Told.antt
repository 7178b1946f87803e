-- What the answers and the writer's arguments stand for.
use Rattle.std.specs.Prelude.{ℕ, List, Result, Ok, Err}
use Rattle.rules.specs.Writer.{Draft}
use Rattle.rules.specs.Buffer as answers
use Rattle.refusal.specs.Numbers.{number_of}
use Rattle.refusal.specs.declared.Refusal.{Refusal}
use Rattle.message.specs.declared.Header.{Header}
use Rattle.compose.specs.declared.Record.{Record}

-- the draft of a record, an option run and a run of packages
abbrev pub draft_of : Record → List ℕ → List ℕ → Draft
draft_of r o q = record {
  flags = r.flags;
  id = r.id.0;
  sequence = r.sequence;
  seconds = r.seconds;
  nanos = r.nanos;
  options = o;
  packages = q;
}

-- what a header has of it
abbrev pub record_by : Header → Record
record_by h = record { flags = h.flags; id = h.id; sequence = h.sequence; seconds = h.seconds; nanos = h.nanos }

-- an answer's number, place and bytes written
abbrev pub numbers : Result ℕ Refusal → answers.Written
numbers (Ok n) = record { number = 0; place = 0; bytes = n }
numbers (Err x) = answers.unwritten (number_of x.why) x.place

-- with the buffer after it
abbrev pub told : Result ℕ Refusal → List ℕ → answers.Written × List ℕ
told a b = (numbers a, b)
