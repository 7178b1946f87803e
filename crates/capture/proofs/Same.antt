-- A promise allows one outcome alone: what reading and writing a capture tell settles the answer and the buffer.
use Prim.Native.Nat.{ℕ}
use mathlib.Core.Path.{◌≡◌, sym, ap, ap₂}
use mathlib.Core.List.{List}
use Rattle.rules.specs.Claims.{TellsApart}
use Rattle.std.specs.Prelude.{Result, Ok, Err}
use Rattle.refusal.specs.declared.Refusal.{Refusal}
use Rattle.refusal.proofs.Numbers.{number_positive, same_refusal}
use Rattle.capture.specs.Reading.{ReadAnswer}
use Rattle.capture.specs.Writing.{WriteAnswer}
use Rattle.capture.specs.Told.{numbers_read, told_read, numbers_written, told_write}
use Rattle.capture.specs.declared.CaptureRead.{CaptureRead}
use Rattle.capture.specs.declared.CaptureWritten.{CaptureWritten}

read_back : ReadAnswer → CaptureRead
read_back a = record { counts = record { bytes = a.bytes; kept = a.kept; not_for_us = a.not_for_us; cut_short = a.cut_short; bad_message = a.bad_message } }

same_read : (a b : Result CaptureRead Refusal) → numbers_read a ≡ numbers_read b → a ≡ b
unfolding read_back
same_read (Ok t) (Ok u) e = ap Ok (ap read_back e)
same_read (Ok t) (Err g) e = absurd (number_positive g.why (sym (ap (λ (x : ReadAnswer). x.number) e)))
same_read (Err f) (Ok u) e = absurd (number_positive f.why (ap (λ (x : ReadAnswer). x.number) e))
same_read (Err f) (Err g) e = ap Err (same_refusal f g (ap (λ (x : ReadAnswer). x.number) e) (ap (λ (x : ReadAnswer). x.place) e))

pub tells-read : TellsApart (λ (x : Result CaptureRead Refusal × List ℕ). told_read x.0 x.1)
tells-read (a, s) (b, t) e =
    ap₂ (λ (x : Result CaptureRead Refusal) (y : List ℕ). (x, y)) (same_read a b (ap (λ (x : ReadAnswer × List ℕ). x.0) e)) (ap (λ (x : ReadAnswer × List ℕ). x.1) e)

written_back : WriteAnswer → CaptureWritten
written_back a = record { bytes = a.bytes; messages = a.messages }

same_written : (a b : Result CaptureWritten Refusal) → numbers_written a ≡ numbers_written b → a ≡ b
unfolding written_back
same_written (Ok t) (Ok u) e = ap Ok (ap written_back e)
same_written (Ok t) (Err g) e = absurd (number_positive g.why (sym (ap (λ (x : WriteAnswer). x.number) e)))
same_written (Err f) (Ok u) e = absurd (number_positive f.why (ap (λ (x : WriteAnswer). x.number) e))
same_written (Err f) (Err g) e = ap Err (same_refusal f g (ap (λ (x : WriteAnswer). x.number) e) (ap (λ (x : WriteAnswer). x.place) e))

pub tells-written : TellsApart (λ (x : Result CaptureWritten Refusal × List ℕ). told_write x.0 x.1)
tells-written (a, s) (b, t) e =
    ap₂ (λ (x : Result CaptureWritten Refusal) (y : List ℕ). (x, y)) (same_written a b (ap (λ (x : WriteAnswer × List ℕ). x.0) e)) (ap (λ (x : WriteAnswer × List ℕ). x.1) e)
