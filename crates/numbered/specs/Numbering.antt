-- Document 02, A10: running sequence numbers per message id, modulo 2^32, and the copy numbered on from them.
use Rattle.std.specs.Prelude.{ℕ, ◌+◌, ◌%◌, ◌^◌, true, false, List, [], ◌∷◌, map, eqb, length, take}
use Rattle.std.proofs.lemmas.List.Edits.{sets}
use Rattle.rules.specs.Bytes.{join}
use Rattle.rules.specs.Message.{Message}
use Rattle.rules.specs.Writer.{write}
use Rattle.rules.specs.Copy.{Entry, copy_message}

-- a running number: the sequence number that the next entry with this message id gets
pub record Running : Type 0 where
  pub id : ℕ
  pub next : ℕ

-- the number that the next entry with message id x gets: 0 where the id is not held
unfoldable pub next_number : ℕ → List Running → ℕ
next_number x [] = 0
next_number x (n ∷ ns) = elim (eqb x n.id) [ true ↦ n.next | false ↦ next_number x ns ]

-- an entry with message id x is delivered: its number goes on by one, and a new id goes behind the others
unfoldable pub counted_on : ℕ → List Running → List Running
counted_on x [] = record { id = x; next = 1 } ∷ []
counted_on x (n ∷ ns) = elim (eqb x n.id) [
  | true ↦ record { id = n.id; next = (n.next + 1) % 2 ^ 32 } ∷ ns
  | false ↦ n ∷ counted_on x ns
]

-- the running numbers behind the entries es
unfoldable pub numbers_after : List Running → List Entry → List Running
numbers_after ns [] = ns
numbers_after ns (e ∷ es) = numbers_after (counted_on e.id ns) es

-- the copy's messages, numbered on from ns
unfoldable pub numbered_messages : List Running → List Entry → List Message
numbered_messages ns [] = []
numbered_messages ns (e ∷ es) = copy_message (next_number e.id ns) e ∷ numbered_messages (counted_on e.id ns) es

-- their bytes
unfoldable pub numbered_bytes : List Running → List Entry → List ℕ
numbered_bytes ns es = join (map write (numbered_messages ns es))

-- ids and numbers side by side
unfoldable pub beside : List ℕ → List ℕ → List Running
beside [] ns = []
beside (x ∷ xs) [] = []
beside (x ∷ xs) (n ∷ ns) = record { id = x; next = n } ∷ beside xs ns

-- running numbers as they are kept between calls: message ids, beside each the number that its next entry gets, and how many places are held. What stands in the others does not count
pub record State : Type 0 where
  pub ids : List ℕ
  pub next : List ℕ
  pub held : ℕ

-- the running numbers of a state: those in its first `held` places
abbrev pub running_in : State → List Running
running_in state = beside (take state.held state.ids) (take state.held state.next)

abbrev pub id_of : Running → ℕ
id_of n = n.id

abbrev pub next_of : Running → ℕ
next_of n = n.next

-- the state with these running numbers in its first places; the places behind them stay as they were handed in
unfoldable pub holding : State → List Running → State
holding state ns = record { ids = sets state.ids 0 (map id_of ns); next = sets state.next 0 (map next_of ns); held = length ns }
