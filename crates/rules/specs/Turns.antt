-- Document 02, A14, two sheets in turn: what a copy is, whatever buffer it was made in; what is released by the grants of two sheets taken together; and when a
-- copy holds all that another one holds.
use Rattle.std.specs.Prelude.{ℕ, ◌≡◌, Bool, List, [], ◌∷◌}
use Rattle.rules.specs.Outcome.{good}
use Rattle.rules.specs.Items.{passing}
use Rattle.rules.specs.Packages.{Package}
use Rattle.rules.specs.Message.{Message, recording}
use Rattle.rules.specs.Copy.{Entry, with_entry_of, copy, delivered}

-- c is what copying a recording under a sheet delivers, with success, into some buffer: the recording passes, the sheet is valid, and that buffer has room
abbrev pub Copied : List ℕ → List ℕ → List ℕ → Type 0
Copied recordingBytes sheetBytes c = (buffer : List ℕ) × ((copy recordingBytes sheetBytes buffer).0.number ≡ 0) × (delivered (copy recordingBytes sheetBytes buffer) ≡ c)

-- the released list, with a test of packages in the place of a sheet: in recording order the packages that pass it, and no entry for a message without one
unfoldable pub released_by : (Message → Package → Bool) → List Message → List Entry
released_by test [] = []
released_by test (m ∷ ms) = with_entry_of m (passing (test m) m.packages) (released_by test ms)

-- each element of the first list has its counterpart in the second, in order
pub data Within {A : Type 0} (R : A → A → Type 0) : List A → List A → Type 0 where
  within-nil : Within R [] []
  within_both : {a b : A} {l k : List A} → R a b → Within R l k → Within R (a ∷ l) (b ∷ k)
  within_more : {b : A} {l k : List A} → Within R l k → Within R l (b ∷ k)

-- the counterpart of a message has its id, time and flags, and all of its packages, in order; its sequence number may be another
abbrev pub Grown : Message → Message → Type 0
Grown m l = (m.id ≡ l.id) × (m.seconds ≡ l.seconds) × (m.nanos ≡ l.nanos) × (m.flags ≡ l.flags) × Within (λ (p q : Package). p ≡ q) m.packages l.packages

-- read as recordings, d has a counterpart for each message of c, in order
abbrev pub Holds : List ℕ → List ℕ → Type 0
Holds d c = (ms ls : List Message) × (recording c ≡ good ms) × (recording d ≡ good ls) × Within Grown ms ls
