-- What of a window is handed over: whole messages. The message that the window's end cuts is kept back while the recording goes on.
use Rattle.std.specs.Prelude.{ℕ, zero, Bool, true, false, ◌&&◌, ◌||◌, List, leb, ltb, eqb, length}
use Rattle.rules.specs.Outcome.{Outcome, good, bad, refuse, ◌>>◌, SHORT, LENGTH, CUT, LARGE}
use Rattle.rules.specs.Items.{items}
use Rattle.rules.specs.Message.{most_bytes, header_bytes, head, Message, recording}

-- a message is refused because its end is not there: bytes that follow may mend it
abbrev pub is_cut : ℕ → Bool
is_cut number = eqb number SHORT || eqb number CUT

-- a window of so many bytes, handed over up to the message at this place; LARGE where it has all bytes that a window may have, and not one whole message
unfoldable pub ending_before : ℕ → ℕ → Outcome ℕ
ending_before size place = do
  refuse (eqb place 0 && leb most_bytes size) LARGE 0
  good place

-- how many bytes of a window are handed over, by what its reading comes to
unfoldable pub handed_by : Bool → ℕ → Outcome (List Message) → Outcome ℕ
handed_by goesOn size (good ms) = good size
handed_by goesOn size (bad number place) = elim (goesOn && is_cut number) [ true ↦ ending_before size place | false ↦ bad number place ]

-- how many bytes of a window are handed over, where the recording goes on behind it or does not; or the refusal
unfoldable pub handed_over : Bool → List ℕ → Outcome ℕ
handed_over goesOn window = handed_by goesOn (length window) (recording window)

-- the message at the start of s, which stands at place p, by its length alone
unfoldable pub extent : ℕ → List ℕ → Outcome (Unit {0} × ℕ)
extent p s = do
  refuse (ltb (length s) header_bytes) SHORT p
  refuse (ltb (head s).size header_bytes) LENGTH p
  refuse (ltb (length s) (head s).size) CUT p
  good (tt, (head s).size)

-- where the messages of a window of so many bytes end, by what going over them comes to
unfoldable pub end_by : ℕ → Outcome (List (Unit {0})) → ℕ
end_by size (good l) = size
end_by size (bad number place) = place

-- how many bytes of a window are whole messages by their lengths alone
unfoldable pub whole_bytes : List ℕ → ℕ
whole_bytes window = end_by (length window) (items extent zero zero window)
