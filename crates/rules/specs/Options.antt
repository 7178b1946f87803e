-- Document 01, 'Options', with document 02, A2: which options keep the rules, how long the option run is, and which number of packages it says.
use Rattle.std.specs.Prelude.{ℕ, zero, suc, ◌+◌, ◌-◌, ◌<◌, ◌≡◌, Bool, true, false, not, ◌&&◌, ◌||◌, List, [], ◌∷◌, leb, ltb, eqb, length}
use Rattle.std.proofs.Math.Option.{Option, none, some}
use Rattle.rules.specs.Outcome.{Outcome, good, refuse, ◌>>◌, OPTION}
use Rattle.rules.specs.Bytes.{at, word}
use Rattle.rules.specs.Items.{count}

-- the most option bytes that 15 words hold
abbrev pub most_option_bytes : ℕ
most_option_bytes = 60

-- an option of kind k, 0x80 or above, may have the length n
unfoldable pub length_allowed : ℕ → ℕ → Bool
length_allowed k n =
    leb 2 n && leb n most_option_bytes
    && elim (leb 0x82 k && leb k 0x84) [
      | true ↦ leb 3 n && leb n 32
      | false ↦ elim (eqb k 0x85) [
        | true ↦ eqb n 6 || eqb n 18
        | false ↦ elim (leb 0x86 k && leb k 0x87) [ true ↦ eqb n 6 | false ↦ true ]
      ]
    ]

-- how many bytes the option at the start of o has: one, or what its length byte says
unfoldable pub option_size : List ℕ → ℕ
option_size o = elim (ltb (at o 0) 0x80) [ true ↦ 1 | false ↦ at o 1 ]

-- the option at the start of o keeps the rules, and ends inside o
unfoldable pub option_fits : List ℕ → Bool
option_fits o = ltb (at o 0) 0x80 || (length_allowed (at o 0) (at o 1) && leb (at o 1) (length o))

-- an option of kind k is a second 0x86 or a second 0x87, behind options of these kinds
unfoldable pub is_second : ℕ → List ℕ → Bool
is_second k seen = leb 0x86 k && leb k 0x87 && ltb 0 (count k seen)

-- `option_run_from seen k p n o`, how long the option run is: o is what is left of the option bytes, which began at place p, and n of them have passed, with options of
-- the kinds `seen`. An option of kind 0x00 ends the run. The first k bytes of o belong to the option before, and a zero among them ends nothing
unfoldable pub option_run_from : List ℕ → ℕ → ℕ → ℕ → List ℕ → Outcome ℕ
option_run_from seen k p n [] = good n
option_run_from seen (suc k) p n (x ∷ xs) = option_run_from seen k p (suc n) xs
option_run_from seen zero p n (x ∷ xs) = elim (eqb x 0x00) [
  | true ↦ good n
  | false ↦ do
    refuse (not (option_fits (x ∷ xs))) OPTION (p + n)
    refuse (is_second x seen) OPTION (p + n)
    option_run_from (x ∷ seen) (option_size (x ∷ xs) - 1) p (suc n) xs
]

-- the number that option 0x87 of an option run says, behind its kind and its length, if the run has one. The first k bytes belong to the option before
unfoldable pub count_said_from : ℕ → List ℕ → Option ℕ
count_said_from k [] = none
count_said_from (suc k) (x ∷ xs) = count_said_from k xs
count_said_from zero (x ∷ xs) = elim (eqb x 0x87) [ true ↦ some (word (x ∷ xs) 2) | false ↦ count_said_from (option_size (x ∷ xs) - 1) xs ]

abbrev pub count_said : List ℕ → Option ℕ
count_said run = count_said_from zero run

-- a number is said, and it is another one than n
abbrev pub differs : Option ℕ → ℕ → Bool
differs none n = false
differs (some c) n = not (eqb c n)

-- the kind of an option
abbrev pub kind_of : List ℕ → ℕ
kind_of c = at c 0

-- c is one option that keeps the rules, whole, and not of kind 0x00
pub record WholeOption (c : List ℕ) : Type 0 where
  pub kind : 0x00 < kind_of c
  pub fits : option_fits c ≡ true
  pub whole : length c ≡ option_size c
