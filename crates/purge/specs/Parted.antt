-- What it says that two recordings part the packages of a third.
use Rattle.std.specs.Prelude.{ℕ, List, [], ◌∷◌, ◌++◌, map}
use Rattle.rules.specs.Packages.{Package}
use Rattle.rules.specs.Message.{Message}
use Rattle.rules.specs.Copy.{listed_bits}

-- A package as it stands in a recording: with its message's id and time, and with its flag bits 3 to 1, which a copy has too.
pub record InMessage : Type 0 where
  pub id : ℕ
  pub seconds : ℕ
  pub nanos : ℕ
  pub flags : ℕ
  pub held : Package

abbrev pub in_message : Message → Package → InMessage
in_message m p = record { id = m.id; seconds = m.seconds; nanos = m.nanos; flags = listed_bits m.flags; held = p }

-- the packages of a recording's messages, in order
abbrev pub packages_in : List Message → List InMessage
packages_in [] = []
packages_in (m ∷ ms) = map (in_message m) m.packages ++ packages_in ms

-- Each element of l stands in exactly one of the lists a and b, in order.
pub data Parted {A : Type 0} : List A → List A → List A → Type 0 where
  ended : Parted [] [] []
  first : {x : A} {l a b : List A} → Parted l a b → Parted (x ∷ l) (x ∷ a) b
  second : {x : A} {l a b : List A} → Parted l a b → Parted (x ∷ l) a (x ∷ b)
