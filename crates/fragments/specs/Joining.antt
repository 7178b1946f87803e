-- Joining: fragments into a clean form, or one whole message cleaned.
use Rattle.std.specs.Prelude.{ℕ, zero, suc, ◌+◌, ◌-◌, Bool, true, false, not, ◌&&◌, ◌||◌, List, [], ◌∷◌, eqb, length}
use Rattle.std.proofs.Math.Option.{Option, none, some}
use Rattle.rules.specs.Outcome.{Outcome, good, bad, refuse, ◌>>◌, ◌>>=◌, ◌∷>◌}
use Rattle.refusal.specs.Numbers.{GAP}
use Rattle.rules.specs.Message.{not_large}
use Rattle.rules.specs.Clean.{clean_form}
use Rattle.rules.specs.Buffer.{Written, stored, fitted}
use Rattle.fragments.specs.Fragment.{WHOLE, FIRST, MIDDLE, LAST, Fragment, options_of, offset_of, without_offset, fragment, fragment_bytes, payloads_of, next_number}

-- the offset is there, and is n
abbrev pub says_offset : Option ℕ → ℕ → Bool
says_offset none n = false
says_offset (some o) n = eqb o n

-- f may stand first: a whole message, or a first fragment with offset 0
unfoldable pub begins : Fragment → Bool
begins f = eqb f.bits WHOLE || (eqb f.bits FIRST && says_offset (offset_of f) 0)

-- the last fragment is still to come behind f
unfoldable pub goesOn : Fragment → Bool
goesOn f = eqb f.bits FIRST || eqb f.bits MIDDLE

-- where the payload of the fragment behind e begins; e has its 0x86
abbrev pub behind_offset : Option ℕ → List ℕ → ℕ
behind_offset none payload = 0
behind_offset (some o) payload = o + length payload

-- f may stand behind e, which is in its place: in bits 5-4, offset and number, and with the same id, time and other flags
unfoldable pub follows : Fragment → Fragment → Bool
follows e f =
    goesOn e && (eqb f.bits MIDDLE || eqb f.bits LAST)
    && says_offset (offset_of f) (behind_offset (offset_of e) e.payload) && eqb f.sequence (next_number e.sequence)
    && eqb f.id e.id && eqb f.seconds e.seconds && eqb f.nanos e.nanos && eqb f.flags e.flags

-- f is in its place behind the fragment before, or as the first
unfoldable pub in_place : Option Fragment → Fragment → Bool
in_place none f = begins f
in_place (some e) f = follows e f

-- the fragments may end here
unfoldable pub complete : Option Fragment → Bool
complete none = false
complete (some e) = not (goesOn e)

-- `fragments_from before k p s`: the fragments of s, which stands at place p; `before` is the fragment before, and the first k bytes of s belong to it.
-- Each is read with checks 1 to 7 and must then be in its place
unfoldable pub fragments_from : Option Fragment → ℕ → ℕ → List ℕ → Outcome (List Fragment)
fragments_from before k p [] = do
  refuse (not (complete before)) GAP p
  good []
fragments_from before (suc k) p (x ∷ xs) = fragments_from before k (suc p) xs
fragments_from before zero p (x ∷ xs) = do
  (f, n) ← fragment p (x ∷ xs)
  refuse (not (in_place before f)) GAP p
  f ∷> fragments_from (some f) (n - 1) (suc p) xs

-- the options that the message keeps: a whole message all, a first fragment all but 0x86
unfoldable pub kept_options : Fragment → List ℕ
kept_options f = elim (eqb f.bits WHOLE) [ true ↦ f.options | false ↦ without_offset (options_of f.options) ]

-- the whole message that begins with f, fs behind it: the first fragment's number, and all the payloads
unfoldable pub joined_with : Fragment → List Fragment → Fragment
joined_with f fs = record {
  bits = WHOLE;
  flags = f.flags;
  id = f.id;
  sequence = f.sequence;
  seconds = f.seconds;
  nanos = f.nanos;
  options = kept_options f;
  payload = payloads_of (f ∷ fs);
}

-- a refusal at place 0
unfoldable pub at_start : {A : Type 0} → Outcome A → Outcome A
at_start (good a) = good a
at_start (bad n p) = bad n 0

-- the clean form of the message that the fragments make up; all its refusals, which are from check 9 on, have place 0
unfoldable pub clean_joined : List Fragment → Outcome (List ℕ)
clean_joined [] = bad GAP 0
clean_joined (f ∷ fs) = at_start (clean_form (fragment_bytes (joined_with f fs)))

-- what s, fragments or one whole message to the last byte, is joined into
unfoldable pub joined : List ℕ → Outcome (List ℕ)
joined s = do
  not_large s
  fs ← fragments_from none zero zero s
  clean_joined fs

-- the answer, and the buffer after it
unfoldable pub joiner : List ℕ → List ℕ → Written × List ℕ
joiner s buffer = stored buffer (joined s >>= fitted buffer)
