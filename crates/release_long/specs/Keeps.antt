-- What is kept from window to window: that what was done so far is a run of steps, as the statements of `step` over runs have it.
use Rattle.std.specs.Prelude.{◌≡◌, ℕ, ◌≤◌, Bool, true, false, List, length, replicate, Result, IfOk}
use Rattle.numbered.specs.Numbering as rule
use Rattle.step.specs.Claims.{StateFits, SameIds, Run}
use Rattle.step.specs.Told.{state_in}
use Rattle.step.specs.declared.Stepped.{Stepped}
use Rattle.release_long.specs.declared.Taken.{Taken}
use Rattle.release_long.specs.declared.Done.{Done}

-- a state in which no id is held
abbrev pub fresh : rule.State
fresh = record { ids = replicate 64 0; next = replicate 64 0; held = 0 }

-- steps under a sheet, with no refusal, lead from one state to another over so many bytes of the recording
pub record Steps (sheet : List ℕ) (from to : rule.State) (bytes : ℕ) : Type 0 where
  pub all : List ℕ
  pub joined : List ℕ
  pub run : Run sheet from to all joined
  pub long : length all ≡ bytes

-- a pass that writes keeps the very state that steps lead to; one that measures alone, its ids
abbrev pub Follows : Bool → rule.State → rule.State → Type 0
Follows true end state = end ≡ state
Follows false end state = SameIds end state

-- steps over so many bytes lead from a state to one that fits its places, and this state is kept of it
pub record Led (sheet : List ℕ) (writes : Bool) (from kept : rule.State) (bytes : ℕ) : Type 0 where
  pub end : rule.State
  pub fits : StateFits end
  pub follows : Follows writes end kept
  pub steps : Steps sheet from end bytes

-- so many bytes are taken in steps
pub record Onward (sheet : List ℕ) (writes : Bool) (before after : rule.State) (bytes : ℕ) : Type 0 where
  pub few : bytes ≤ 65536
  pub leads : (from : rule.State) → StateFits from → Follows writes from before → Led sheet writes from after bytes

-- a step over a part, where it is done, takes all of its bytes
unfoldable pub stepped_on : List ℕ → Bool → List ℕ → rule.State → Stepped → Type 0
stepped_on sheet writes part before r = IfOk r.answer (λ p. Onward sheet writes before (state_in r.state) (length part))

-- a turn takes its bytes in steps
abbrev pub turned_on : {E : Type 0} → List ℕ → Bool → rule.State → Result Taken E → Type 0
turned_on sheet writes before r = IfOk r (λ t. Onward sheet writes before (state_in t.state) t.bytes)

-- a pass over the whole recording is a run of steps from a state in which no id is held
abbrev pub passed_on : {E : Type 0} → List ℕ → Result Done E → Type 0
passed_on sheet r = IfOk r (λ d. (end : rule.State) × Steps sheet fresh end d.place)
