-- Measured from ids alone: a law for each answer, by those of a copy from numbers that are all 0 into a buffer with room for any copy.
use Prim.Native.Nat.{ℕ, ◌+◌, ◌-◌, ◌≤◌}
use mathlib.Core.Path.{◌≡◌, sym, ap, ◌∙◌}
use mathlib.Core.Bool.{false}
use mathlib.Core.List.{List}
use native.Mathlib.Omega.{arith}
use lib.ListN.{length, take, replicate, length-replicate}
use lib.Seq.{sets}
use Rattle.rules.specs.Outcome.{good}
use Rattle.rules.specs.Sheet as rows
use Rattle.refusal.specs.declared.Refusal.{Refusal}
use Rattle.refusal.specs.Numbers.{outcome_by}
use Rattle.std.specs.Prelude.{Result, Ok, Err}
use Rattle.numbered.specs.declared.Counted.{Counted}
use Rattle.numbered.specs.declared.Numbered.{Numbered}
use Rattle.numbered.specs.Numbering.{State}
use Rattle.numbered.specs.Quota.{bad_ids, Report, settled, measured_ids, at_zero, shorter}
use Rattle.numbered.specs.Parts.{Most, Shut, answered}
use Rattle.numbered.specs.Told.{progress_of, Counts, told, told_ids}
use Rattle.numbered.proofs.Whole.{most-ids, shut, messages-refused, done-ids}

module _ (input sheetBytes : List ℕ) (quota : ℕ) (ids : List ℕ) (held most : ℕ) (inside : most ≤ length ids) (small : most ≤ 64) where
  abbrev zeros : List ℕ
  zeros = replicate (length ids) 0

  abbrev buffer : List ℕ
  buffer = replicate 65536 0

  abbrev within : Most (shorter (length ids) (length zeros)) held most
  within = most-ids ids held most inside small

  -- what a copy tells, without numbers and buffer
  as_copied : (r : Numbered) (ids' next' out : List ℕ) → told r ids' next' out ≡ settled false most input sheetBytes quota (at_zero ids held) buffer → told_ids r ids' ≡ measured_ids most input sheetBytes quota ids held
  unfolding settled measured_ids
  as_copied r ids' next' out e = ap (λ (x : Report × State × List ℕ). (x.0, x.1.ids, x.1.held)) e

  pub shut-alone : (f : Refusal) → Shut false most ids held sheetBytes f → told_ids (answered (Err f) held) ids ≡ measured_ids most input sheetBytes quota ids held
  shut-alone f e = as_copied (answered (Err f) held) ids zeros buffer (shut input sheetBytes quota ids zeros held buffer most within false f e)

  module _ (good-ids : bad_ids most ids held ≡ false) (rs : List rows.Row) (valid : rows.sheet sheetBytes ≡ good rs) (fresh marks : List ℕ) (long : length fresh ≡ 64) (r : Result Counted Refusal) (counts : Counts rs input quota (take held ids) (most - held) fresh marks r) where
    pub messages-bad : (f : Refusal) → r ≡ Err f → told_ids (answered (Err f) held) ids ≡ measured_ids most input sheetBytes quota ids held
    messages-bad f e = as_copied (answered (Err f) held) ids zeros buffer (messages-refused input sheetBytes quota ids zeros held buffer most within rs valid false good-ids f (ap (outcome_by progress_of) (sym e) ∙ counts.told))

    pub all-counted : (c : Counted) → r ≡ Ok c → told_ids (record { answer = Ok c.progress; held = held + c.many }) (sets ids held (take c.many fresh)) ≡ measured_ids most input sheetBytes quota ids held
    all-counted c e =
        let (next', out, w) = done-ids input sheetBytes quota ids zeros held buffer most within rs valid c.progress good-ids (ap (outcome_by progress_of) (sym e) ∙ counts.told)
        (omega (arith, length-replicate {A = ℕ} 65536 0, counts.small c e)) fresh c.many (omega (arith, long, counts.few c e)) (counts.ids c e (omega arith)) in
        as_copied (record { answer = Ok c.progress; held = held + c.many }) (sets ids held (take c.many fresh)) next' out w
