-- What a chain of checks can be refused with: of each of its refusals a statement about number and place holds, if it holds of what each check gives.
use Prim.Native.Nat.{ℕ, zero, suc, ◌+◌, ◌-◌, ◌≤◌}
use mathlib.Core.Path.{◌≡◌, refl, sym, subst}
use mathlib.Core.Logic.{◌⊎◌, ⊎_elim}
use mathlib.Core.Bool.{Bool, true, false, not}
use mathlib.Core.List.{List, [], ◌∷◌}
use native.Mathlib.Omega.{arith}
use lib.Dec.{eqb}
use Rattle.rules.specs.Outcome.{Outcome, good, bad, refuse, ◌>>◌, ◌>>=◌, ◌∷>◌, SHORT, CUT, OPTION, FRAGMENT, STANDARD, PACKAGE, ROW, COUNT}
use Rattle.rules.specs.Items.{items}
use Rattle.rules.specs.Options.{option_fits, option_size, is_second, option_run_from}
use Rattle.rules.specs.Packages.{piece, cut}
use Rattle.rules.specs.Message.{Head, head, checks_one_to_six, option_run_length, checks_eight_and_nine, checks_one_to_nine, checks_one_to_ten, every_check, message}
use Rattle.rules.specs.Sheet.{row, sheet}
use Rattle.rules.proofs.Outcomes.{good≢bad, bad_inj}

-- number and place of every refusal of o keep P
pub record Gives (P : ℕ → ℕ → Type 0) {A : Type 0} (o : Outcome A) : Type 0 where
  pub given : (n p : ℕ) → o ≡ bad n p → P n p

module _ {P : ℕ → ℕ → Type 0} where
  pub gives_good : {A : Type 0} {a : A} → Gives P (good a)
  gives_good = record { given = λ n p e. absurd (good≢bad (sym e)) }

  pub gives_bad : {A : Type 0} (n p : ℕ) → P n p → Gives P {A = A} (bad n p)
  gives_bad n p t = record { given = λ m q e. let (a, b) = bad_inj e in subst (λ (k : ℕ). P m k) b (subst (λ (k : ℕ). P k p) a t) }

  pub gives_refuse : (b : Bool) (n p : ℕ) → P n p → Gives P (refuse b n p)
  unfolding refuse
  gives_refuse true n p t = gives_bad n p t
  gives_refuse false n p t = gives_good

  pub gives_after : {A : Type 0} {c : Outcome (Unit {0})} {o : Outcome A} → Gives P c → Gives P o → Gives P (c >> o)
  unfolding ◌>>◌
  gives_after {c = good tt} v w = w
  gives_after {c = bad n p} v w = gives_bad n p (v.given n p refl)

  pub gives_check : {A : Type 0} (b : Bool) (n p : ℕ) {o : Outcome A} → P n p → Gives P o → Gives P (refuse b n p >> o)
  gives_check b n p t w = gives_after (gives_refuse b n p t) w

  pub gives_step : {A B : Type 0} {o : Outcome A} {f : A → Outcome B} → Gives P o → ((a : A) → Gives P (f a)) → Gives P (o >>= f)
  unfolding ◌>>=◌
  gives_step {o = good a} v w = w a
  gives_step {o = bad n p} v w = gives_bad n p (v.given n p refl)

  pub gives_front : {A : Type 0} (a : A) (o : Outcome (List A)) → Gives P o → Gives P (a ∷> o)
  unfolding ◌∷>◌
  gives_front a (good l) v = gives_good
  gives_front a (bad n p) v = gives_bad n p (v.given n p refl)

  pub gives_items : {A : Type 0} (read : ℕ → List ℕ → Outcome (A × ℕ)) → ((p : ℕ) (s : List ℕ) → Gives P (read p s)) → (k p : ℕ) (s : List ℕ) → Gives P (items read k p s)
  unfolding items
  gives_items read v k p [] = gives_good
  gives_items read v (suc k) p (y ∷ s) = gives_items read v k (suc p) s
  gives_items read v zero p (y ∷ s) = gives_step (v p (y ∷ s)) (λ r. gives_front _ _ (gives_items read v (r.1 - 1) (suc p) s))

-- ---- an option run, which gives OPTION

module _ {P : ℕ → ℕ → Type 0} (option : (q : ℕ) → P OPTION q) where
  -- an option ends the run, is refused, or is passed over
  at_option : (ends : Bool) (n : ℕ) (wrong second : Bool) (p : ℕ) {o : Outcome ℕ} → Gives P o
      → Gives P {A = ℕ} (elim ends [ true ↦ good n | false ↦ refuse wrong OPTION p >> (refuse second OPTION p >> o) ])
  at_option true n wrong second p v = gives_good
  at_option false n wrong second p v = gives_check wrong OPTION p (option p) (gives_check second OPTION p (option p) v)

  pub gives_run : (seen : List ℕ) (k p n : ℕ) (o : List ℕ) → Gives P (option_run_from seen k p n o)
  unfolding option_run_from
  gives_run seen k p n [] = gives_good
  gives_run seen (suc k) p n (y ∷ o) = gives_run seen k p (suc n) o
  gives_run seen zero p n (y ∷ o) = at_option (eqb y 0x00) n (not (option_fits (y ∷ o))) (is_second y seen) (p + n) (gives_run (y ∷ seen) (option_size (y ∷ o) - 1) p (suc n) o)

-- ---- a run of packages, which gives PACKAGE

module _ {P : ℕ → ℕ → Type 0} (bad_package : (q : ℕ) → P PACKAGE q) where
  gives_piece : (p : ℕ) (s : List ℕ) → Gives P (piece p s)
  unfolding piece
  gives_piece p s = gives_check _ _ _ (bad_package p) gives_good

  pub gives_cut : (p : ℕ) (s : List ℕ) → Gives P (cut p s)
  gives_cut p s = gives_items piece gives_piece _ _ _

-- ---- a message at place p, which gives its other numbers there

-- what its header gives, by checks 1 to 7
module _ {P : ℕ → ℕ → Type 0} (p : ℕ) (own : (n : ℕ) → 1 ≤ n → n ≤ 6 → P n p) (option : (q : ℕ) → P OPTION q) where
  gives_six : (s : List ℕ) (h : Head) → Gives P (checks_one_to_six p s h)
  unfolding checks_one_to_six
  gives_six s h =
      gives_check _ _ _ (own _ (omega arith) (omega arith))
      (gives_check _ _ _ (own _ (omega arith) (omega arith))
      (gives_check _ _ _ (own _ (omega arith) (omega arith))
      (gives_check _ _ _ (own _ (omega arith) (omega arith))
      (gives_check _ _ _ (own _ (omega arith) (omega arith)) (gives_refuse _ _ _ (own _ (omega arith) (omega arith)))))))

  gives_seven : (s : List ℕ) (h : Head) → Gives P (option_run_length p s h)
  unfolding option_run_length
  gives_seven s h = gives_after (gives_six s h) (gives_run option _ _ _ _ _)

-- what the whole message gives, if its header's refusals keep P
module _ {P : ℕ → ℕ → Type 0} (p : ℕ) (fragment : P FRAGMENT p) (standard : P STANDARD p) (bad_package : (q : ℕ) → P PACKAGE q) where
  gives_behind : (s : List ℕ) (h : Head) → Gives P (option_run_length p s h) → Gives P (checks_one_to_ten p s h)
  unfolding checks_one_to_ten checks_one_to_nine checks_eight_and_nine
  gives_behind s h v =
      gives_step
      (gives_step v (λ n. gives_after (gives_check _ _ _ fragment (gives_refuse _ _ _ standard)) gives_good))
      (λ n. gives_step (gives_cut bad_package _ _) (λ cs. gives_good))

  gives_whole : P COUNT p → (s : List ℕ) → Gives P (option_run_length p s (head s)) → Gives P (message p s)
  unfolding message every_check
  gives_whole count s v = gives_step (gives_step (gives_behind s (head s) v) (λ r. gives_check _ _ _ count gives_good)) (λ r. gives_good)

-- both, where one statement serves all numbers of its own place
module _ {P : ℕ → ℕ → Type 0} (p : ℕ) (own : (n : ℕ) → 1 ≤ n → n ≤ 9 → P n p) (option : (q : ℕ) → P OPTION q) (bad_package : (q : ℕ) → P PACKAGE q) where
  gives_header : (s : List ℕ) (h : Head) → Gives P (option_run_length p s h)
  gives_header s h = gives_seven p (λ n l m. own n l (omega arith)) option s h

  pub gives_ten : (s : List ℕ) (h : Head) → Gives P (checks_one_to_ten p s h)
  gives_ten s h = gives_behind p (own _ (omega arith) (omega arith)) (own _ (omega arith) (omega arith)) bad_package s h (gives_header s h)

  pub gives_message : P COUNT p → (s : List ℕ) → Gives P (message p s)
  gives_message count s = gives_whole p (own _ (omega arith) (omega arith)) (own _ (omega arith) (omega arith)) bad_package count s (gives_header s (head s))

-- ---- a sheet, which gives ROW

module _ {P : ℕ → ℕ → Type 0} (bad-row : (q : ℕ) → P ROW q) where
  gives_row : (p : ℕ) (s : List ℕ) → Gives P (row p s)
  unfolding row
  gives_row p s = gives_check _ _ _ (bad-row p) gives_good

  pub gives_sheet : (s : List ℕ) → Gives P (sheet s)
  unfolding sheet
  gives_sheet s = gives_check _ _ _ (bad-row _) (gives_items row gives_row _ _ _)

-- ---- no refusal of a message or of a sheet has number 0, which is success

abbrev pub Numbered : ℕ → ℕ → Type 0
Numbered n p = 1 ≤ n

pub numbered-message : (p : ℕ) (s : List ℕ) → Gives Numbered (message p s)
numbered-message p s = gives_message p (λ n l m. l) (λ q. omega arith) (λ q. omega arith) (omega arith) s

pub numbered-sheet : (s : List ℕ) → Gives Numbered (sheet s)
numbered-sheet s = gives_sheet (λ q. omega arith) s

-- ---- a header gives numbers up to 7, and what a message gives up to 7 its header gives

pub header-numbered : (s : List ℕ) → Gives (λ n q. n ≤ OPTION) (option_run_length 0 s (head s))
header-numbered s = gives_seven 0 (λ n l m. omega arith) (λ q. omega arith) s (head s)

pub message_early : (s : List ℕ) → Gives (λ n q. n ≤ OPTION → option_run_length 0 s (head s) ≡ bad n q) (message 0 s)
message_early s = gives_whole 0 (λ l. absurd (omega arith)) (λ l. absurd (omega arith)) (λ q l. absurd (omega arith)) (λ l. absurd (omega arith)) s (record { given = λ n q e l. e })

-- ---- SHORT and CUT have the message's own place

abbrev CutsAt : ℕ → ℕ → ℕ → Type 0
CutsAt p n q = (n ≡ SHORT) ⊎ (n ≡ CUT) → q ≡ p

no_cut : {A : Type 0} (n : ℕ) → 5 ≤ n - 1 → (n ≡ SHORT) ⊎ (n ≡ CUT) → A
no_cut n l w = absurd (⊎_elim (λ e. omega arith) (λ e. omega arith) w)

pub cut-place : (p : ℕ) (s : List ℕ) (n q : ℕ) → message p s ≡ bad n q → (n ≡ SHORT) ⊎ (n ≡ CUT) → q ≡ p
cut-place p s n q e = (gives_message {P = CutsAt p} p (λ k l m w. refl) (λ r w. no_cut OPTION (omega arith) w) (λ r w. no_cut PACKAGE (omega arith) w) (λ w. refl) s).given n q e
