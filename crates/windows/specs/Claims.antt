-- The demands on windows as statements, to be read without any proof. proofs/Claims.antt proves each.
use Rattle.std.specs.Prelude.{ℕ, zero, ◌+◌, ◌≤◌, ◌<◌, ◌≡◌, Bool, true, false, ◌⊎◌, List, [], ◌∷◌, ◌++◌, length, take, drop}
use Rattle.rules.specs.Outcome.{good, bad, SHORT, CUT, LARGE}
use Rattle.rules.specs.Bytes.{join}
use Rattle.rules.specs.Items.{items}
use Rattle.rules.specs.Message.{most_bytes, header_bytes, head, Message, message}
use Rattle.windows.specs.Window.{handed_over, whole_bytes}

-- ---- One window.

-- What is handed over is whole messages that pass. What is kept back is empty, or the beginning of a message, and nothing is kept back at the recording's end.
-- From a window with all bytes that it may have something is handed over, so that whoever reads windows goes on.
pub record HandedOver (goesOn : Bool) (window : List ℕ) (n : ℕ) : Type 0 where
  pub inside : n ≤ length window
  pub messages : List Message
  pub read : items message zero zero (take n window) ≡ good messages
  pub kept : n < length window → (message n (drop n window) ≡ bad SHORT n) ⊎ (message n (drop n window) ≡ bad CUT n)
  pub all : goesOn ≡ false → n ≡ length window
  pub onward : length window ≡ most_bytes → 0 < n

abbrev pub HandsOver : Type 0
HandsOver = (goesOn : Bool) (window : List ℕ) (n : ℕ) → handed_over goesOn window ≡ good n → HandedOver goesOn window n

-- A refusal other than LARGE is that of the whole recording, by document 01's rule at any length, with its place counted from the recording's first byte:
-- `before` was handed over by earlier windows, and `behind` is what the recording has behind this window.
abbrev pub RefusedAsWhole : Type 0
RefusedAsWhole = (before window behind : List ℕ) (goesOn : Bool) (ms : List Message) (n p : ℕ) → items message zero zero before ≡ good ms → (goesOn ≡ false → behind ≡ [])
    → length window ≤ most_bytes → handed_over goesOn window ≡ bad n p → (n ≡ LARGE → ⊥) → items message zero zero (before ++ window ++ behind) ≡ bad n (length before + p)

-- LARGE is given, at 0, exactly where the recording goes on behind a window with all bytes that it may have, and its first message is cut.
-- No message of so many bytes or fewer stands there, whatever follows.
pub record FirstCut (goesOn : Bool) (window : List ℕ) : Type 0 where
  pub goes_on : goesOn ≡ true
  pub full : length window ≡ most_bytes
  pub cut : (message 0 window ≡ bad SHORT 0) ⊎ (message 0 window ≡ bad CUT 0)

pub record LargeExactly : Type 0 where
  pub only : (goesOn : Bool) (window : List ℕ) (p : ℕ) → length window ≤ most_bytes → handed_over goesOn window ≡ bad LARGE p → FirstCut goesOn window × (p ≡ 0)
  pub always : (goesOn : Bool) (window : List ℕ) → FirstCut goesOn window → handed_over goesOn window ≡ bad LARGE 0
  pub longer : (goesOn : Bool) (window behind : List ℕ) (p : ℕ) (m : Message) (n : ℕ) → FirstCut goesOn window → message p (window ++ behind) ≡ good (m, n) → most_bytes < n

-- Where messages that pass are followed by less than a header, or by a message whose end is not there, those that pass are the whole messages by their lengths.
abbrev pub WholeBytes : Type 0
WholeBytes = (before behind : List ℕ) (ms : List Message) → items message zero zero before ≡ good ms → (length behind < header_bytes) ⊎ (length behind < (head behind).size)
    → whole_bytes (before ++ behind) ≡ length before

-- ---- A recording, window by window: what each hands over. What a window keeps back begins the next, in front of what the recording has behind.

pub data Windows : List ℕ → List (List ℕ) → Type 0 where
  last : {window : List ℕ} (n : ℕ) → handed_over false window ≡ good n → Windows window (take n window ∷ [])
  next : {parts : List (List ℕ)} (window behind : List ℕ) (n : ℕ) → handed_over true window ≡ good n → Windows (drop n window ++ behind) parts
      → Windows (window ++ behind) (take n window ∷ parts)

-- Nothing is lost and nothing comes twice: the parts that are handed over, joined, are the recording.
abbrev pub WindowsJoin : Type 0
WindowsJoin = (whole : List ℕ) (parts : List (List ℕ)) → Windows whole parts → join parts ≡ whole

-- All of it is whole messages that pass.
abbrev pub WindowsPass : Type 0
WindowsPass = (whole : List ℕ) (parts : List (List ℕ)) → Windows whole parts → (ms : List Message) × (items message zero zero whole ≡ good ms)
