-- Equal outcomes are equal answers: what a promise allows is one answer. And an answer's number, place and values are those of the outcome that it is told as.
use Prim.Native.Nat.{ℕ}
use mathlib.Core.Path.{◌≡◌, refl, sym, ap, ◌∙◌}
use mathlib.Core.List.{List}
use mathlib.Core.Option.{Option, none}
use denote.Ref.{Bor}
use Rattle.rules.specs.Outcome.{Outcome, tells}
use Rattle.rules.specs.Message.{Head}
use Rattle.rules.specs.Claims.{TellsApart}
use Rattle.std.specs.Prelude.{Result, Ok, Err}
use Rattle.std.specs.Prelude as std
use Rattle.refusal.specs.declared.Refusal.{Refusal}
use Rattle.refusal.specs.Numbers.{outcome_of, option_by}
use Rattle.refusal.proofs.Numbers.{same_answer, option_back, option-back}
use Rattle.message.specs.Answers.{PartOf, head_of_header, told_header, no_head, header_numbers, spot_of_package, told_package, package_numbers, spot_of_message, told_message, no_message, message_numbers, count_numbers, told_check, check_numbers}
use Rattle.rules.specs.Walk.{PackageSpot}
use Rattle.rules.specs.Reading.{MessageSpot}
use Rattle.message.specs.declared.Header.{Header}
use Rattle.message.specs.declared.Package.{Package}
use Rattle.message.specs.declared.Message.{Message}
use Rattle.message.specs.declared.Counts.{Counts}

header_back : Head × ℕ → Header
header_back r = record {
  words = r.0.words;
  flags = r.0.flags;
  id = record { 0 = r.0.id };
  sequence = r.0.sequence;
  length = r.0.size;
  seconds = r.0.seconds;
  nanos = r.0.nanos;
  run = r.1;
}

header-back : (h : Header) → header_back (head_of_header h, h.run) ≡ h
unfolding header_back
header-back h = refl

pub same_header : TellsApart told_header
same_header = same_answer (λ (h : Header). (head_of_header h, h.run)) header_back header-back

package_back : PackageSpot → Package
package_back k = record { id = record { 0 = k.id }; length = k.size; status = k.status; delta = k.delta; from = k.from; to = k.to; next = k.next }

package_back_lem : (k : Package) → package_back (spot_of_package k) ≡ k
unfolding package_back
package_back_lem k = refl

pub same_package : TellsApart told_package
same_package = same_answer (λ (o : std.Option Package). option_by spot_of_package o) (option_back package_back) (option-back spot_of_package package_back package_back_lem)

message_back : MessageSpot → Message
message_back d = record { header = header_back (d.head, d.run); payload = d.payload; next = d.next; packages = d.packages }

message-back : (m : Message) → message_back (spot_of_message m) ≡ m
unfolding message_back header_back
message-back m = refl

pub same_message : TellsApart told_message
same_message = same_answer spot_of_message message_back message-back

counts_back : ℕ × ℕ → Counts
counts_back n = record { messages = n.0; packages = n.1 }

counts-back : (n : Counts) → counts_back (n.messages, n.packages) ≡ n
unfolding counts_back
counts-back n = refl

pub same_check : TellsApart told_check
same_check = same_answer (λ (n : Counts). (n.messages, n.packages)) counts_back counts-back

-- By each promise `told r ≡ o` the answer's number, place and values are those of o, zero on a refusal.
pub header-numbers : (r : Result Header Refusal) (o : Outcome (Head × ℕ)) → told_header r ≡ o → header_numbers r ≡ tells (no_head, 0) o
header-numbers (Ok h) o e = ap (tells (no_head, 0)) e
header-numbers (Err r) o e = ap (tells (no_head, 0)) e

pub package_numbers_lem : (r : Result (std.Option Package) Refusal) (o : Outcome (Option PackageSpot)) → told_package r ≡ o → package_numbers r ≡ tells none o
package_numbers_lem (Ok (std.Some k)) o e = ap (tells none) e
package_numbers_lem (Ok std.None) o e = ap (tells none) e
package_numbers_lem (Err r) o e = ap (tells none) e

pub message-numbers : (r : Result Message Refusal) (o : Outcome MessageSpot) → told_message r ≡ o → message_numbers r ≡ tells no_message o
message-numbers (Ok m) o e = ap (tells no_message) e
message-numbers (Err r) o e = ap (tells no_message) e

pub check_numbers_lem : (r : Result Counts Refusal) (o : Outcome (ℕ × ℕ)) → told_check r ≡ o → check_numbers r ≡ tells (0, 0) o
check_numbers_lem (Ok n) o e = ap (tells (0, 0)) e
check_numbers_lem (Err r) o e = ap (tells (0, 0)) e

pub count-numbers : (r : Result ℕ Refusal) (o : Outcome ℕ) → outcome_of r ≡ o → count_numbers r ≡ tells 0 o
count-numbers (Ok n) o e = ap (tells 0) e
count-numbers (Err r) o e = ap (tells 0) e

-- A part of the caller's bytes that is shown: its bytes and its place in memory are settled, and no program can see more.
pub record SamePart (a b : Bor (List ℕ)) : Type 0 where
  pub bytes : a.now ≡ b.now
  pub block : a.ref_ptr.0 ≡ b.ref_ptr.0
  pub offset : a.ref_ptr.1 ≡ b.ref_ptr.1

pub same_part : (s : Bor (List ℕ)) (k : ℕ) (l : List ℕ) (a b : Bor (List ℕ)) → a.now ≡ l → PartOf s k a → b.now ≡ l → PartOf s k b → SamePart a b
same_part s k l a b e p f q = record { bytes = e ∙ sym f; block = p.block ∙ sym q.block; offset = p.offset ∙ sym q.offset }
