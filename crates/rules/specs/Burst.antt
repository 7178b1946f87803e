-- Document 01, 'Bursts': the randomizer's bit sequence and its bytes, randomizing a buffer, and opening a burst.
use Rattle.std.specs.Prelude.{ℕ, zero, suc, ◌-◌, ◌+◌, ◌*◌, ◌/◌, ◌%◌, Bool, not, ◌&&◌, List, [], ◌∷◌, ◌++◌, leb, eqb, length, take, drop, replicate}
use Rattle.std.specs.Int.Bits.{bit_xor}
use Rattle.rules.specs.Outcome.{Outcome, good, bad, refuse, ◌>>◌, MARKER, BLOCKS}
use Rattle.rules.specs.Bytes.{at, word}
use Rattle.rules.specs.Message.{not_large}

infixl 6 ◌xor◌
abbrev pub ◌xor◌ : ℕ → ℕ → ℕ
◌xor◌ = bit_xor

-- The randomizer bit sequence. Of the bits so far, the latest first, the one k places before the next
abbrev pub before : ℕ → List ℕ → ℕ
before k b = at b (k - 1)

abbrev pub next_bit : List ℕ → ℕ
next_bit b = before 8 b xor before 5 b xor before 3 b xor before 1 b

-- the first 8 + n bits, the latest first: eight ones, and from then on each by the rule
unfoldable pub bits : ℕ → List ℕ
bits zero = replicate 8 1
bits (suc n) = next_bit (bits n) ∷ bits n

-- bit n, which stands 8 places before bit 8 + n
unfoldable pub bit : ℕ → ℕ
bit n = before 8 (bits n)

-- bits, the latest first, as a number with the first bit highest
unfoldable pub byte_of : List ℕ → ℕ
byte_of [] = 0
byte_of (b ∷ bs) = byte_of bs * 2 + b

-- byte k of the sequence: bits 8k to 8k + 7
unfoldable pub sequence_byte : ℕ → ℕ
sequence_byte k = byte_of (take 8 (bits (8 * k)))

-- n bytes of the sequence, from byte k on
unfoldable pub sequence_bytes : ℕ → ℕ → List ℕ
sequence_bytes k zero = []
sequence_bytes k (suc n) = sequence_byte k ∷ sequence_bytes (suc k) n

-- bytes randomized, from byte k of the sequence on
unfoldable pub randomized : ℕ → List ℕ → List ℕ
randomized k [] = []
randomized k (x ∷ s) = (x xor sequence_byte k) ∷ randomized (suc k) s

-- what a burst begins with
abbrev pub marker : List ℕ
marker = 0x03 ∷ 0x47 ∷ 0x76 ∷ 0xC7 ∷ 0x27 ∷ 0x28 ∷ 0x95 ∷ 0xB0 ∷ []

abbrev pub marked : List ℕ → Bool
marked s = leb (length marker) (length s) && eqb (word s 0) (word marker 0) && eqb (word s 4) (word marker 4)

-- the bytes of a codeblock, and how many codeblocks a burst may have
abbrev pub block_size : ℕ
block_size = 768

abbrev pub most_blocks : ℕ
most_blocks = 80

-- how many codeblocks a burst of n bytes has behind its marker
abbrev pub codeblocks : ℕ → ℕ
codeblocks n = (n - length marker) / block_size

-- and that they are 1 to 80 whole ones
abbrev pub blocks_fit : ℕ → Bool
blocks_fit n = leb 1 (codeblocks n) && leb (codeblocks n) most_blocks && eqb ((n - length marker) % block_size) 0

-- a burst opened: how many codeblocks it has, and its bytes with the codeblocks randomized, the sequence starting once behind the marker
unfoldable pub opening : List ℕ → Outcome (ℕ × List ℕ)
opening s = do
  not_large s
  refuse (not (marked s)) MARKER 0
  refuse (not (blocks_fit (length s))) BLOCKS (length s)
  good (codeblocks (length s), take (length marker) s ++ randomized 0 (drop (length marker) s))

-- the answers, each with the buffer after it, which a refusal leaves as it was
pub record Randomized : Type 0 where
  pub number : ℕ
  pub place : ℕ

unfoldable pub randomized_answer : List ℕ → Outcome (List ℕ) → Randomized × List ℕ
randomized_answer buffer (bad n p) = (record { number = n; place = p }, buffer)
randomized_answer buffer (good s) = (record { number = 0; place = 0 }, s)

-- a buffer randomized, byte k with sequence byte k
unfoldable pub randomizer : List ℕ → Randomized × List ℕ
randomizer buffer = randomized_answer buffer (not_large buffer >> good (randomized 0 buffer))

pub record Opened : Type 0 where
  pub number : ℕ
  pub place : ℕ
  pub blocks : ℕ

unfoldable pub opened_answer : List ℕ → Outcome (ℕ × List ℕ) → Opened × List ℕ
opened_answer buffer (bad n p) = (record { number = n; place = p; blocks = 0 }, buffer)
opened_answer buffer (good (n, s)) = (record { number = 0; place = 0; blocks = n }, s)

unfoldable pub opener : List ℕ → Opened × List ℕ
opener buffer = opened_answer buffer (opening buffer)
