-- What the walk over a run keeps, and what it says where it ends.
use Prim.Native.Nat.{ℕ, ◌+◌, ◌-◌, ◌≤◌, ◌<◌}
use mathlib.Core.Path.{◌≡◌, refl, ap, ◌∙◌}
use mathlib.Core.Bool.{Bool, true, false}
use mathlib.Core.List.{List, [], ◌∷◌, ◌++◌}
use native.Mathlib.Omega.{arith}
use lib.ListN.{length, take, drop, length-append, length-drop}
use lib.Seq.{take-add, take_all, drop-drop}
use Rattle.rules.specs.Items.{Fills, none}
use Rattle.rules.specs.Packages.{package_fits, piece, Piece}
use Rattle.rules.proofs.Cut as Cut
use Rattle.rules.proofs.Loops.{Doing, doing_start, doing_next, doing_bad}
use Rattle.compose.specs.Payload.{WalkedOver}
use Rattle.compose.proofs.Run.{size, this, read, unread, fills_append, fills_one}

-- the packages before index i are done: those before index m, and those behind it
pub record Walking (s : List ℕ) (i n m : ℕ) : Type 0 where
  pub done : List (List ℕ)
  pub inside : i ≤ length s
  pub doing : Doing piece s done i
  pub fills : Fills Piece done (take i s)
  pub many : n ≡ length done
  pub few : n ≤ i
  pub border : m ≤ i
  pub fore : List (List ℕ)
  pub front : Fills Piece fore (take m s)
  pub aft : List (List ℕ)
  pub back : Fills Piece aft (take (i - m) (drop m s))

module _ (s : List ℕ) where
  pub walk_start : Walking s 0 0 0
  walk_start = record {
    done = [];
    inside = omega arith;
    doing = doing_start piece s;
    fills = none;
    many = refl;
    few = omega arith;
    border = omega arith;
    fore = [];
    front = none;
    aft = [];
    back = none;
  }

  module _ (i n m : ℕ) (w : Walking s i n m) where
    pub walk_ended : length s ≤ i → WalkedOver s (record { end = i; all = n; mid = m })
    walk_ended l =
        let a : Fills Piece w.done s = rw (take_all i s l) at w.fills in
        let k : Fills Piece w.aft (drop m s) = rw (take_all (i - m) (drop m s) (omega (arith, length-drop m s))) at w.back in
        record {
          pieces = w.done;
          inside = w.inside;
          many = w.many;
          whole = λ x. Cut.complete a 0;
          broken = λ x. absurd (omega arith);
          halved = λ x. record {
            within = omega (arith, w.border, w.inside);
            front = record { pieces = w.fore; cuts = Cut.complete w.front 0 };
            back = record { pieces = w.aft; cuts = Cut.complete k 0 };
          };
        }

    module _ (l : i < length s) where
      pub walk_stopped : (Cut.Fit (drop i s) → ⊥) → WalkedOver s (record { end = i; all = n; mid = m })
      walk_stopped u = record {
        pieces = w.done;
        inside = w.inside;
        many = w.many;
        whole = λ x. absurd (omega arith);
        broken = λ x. doing_bad piece s w.done i w.doing l (unread s i (unfit (package_fits (drop i s)) refl));
        halved = λ x. absurd (omega arith);
      }
        where
          unfit : (b : Bool) → package_fits (drop i s) ≡ b → package_fits (drop i s) ≡ false
          unfit true e = absurd (u (Cut.fit (drop i s) e))
          unfit false e = e

      module _ (f : Cut.Fit (drop i s)) {k : ℕ} (e : k ≡ size s i) where
        one : Fills Piece (this s i ∷ []) (this s i)
        one = fills_one (this s i) (Cut.piece_of_lem (drop i s) f)

        all : Fills Piece (w.done ++ (this s i ∷ [])) (take (i + size s i) s)
        all = rw (take-add i (size s i) s) (fills_append w.fills one)

        behind : Fills Piece (w.aft ++ (this s i ∷ [])) (take (i + size s i - m) (drop m s))
        behind =
            let a : i + size s i - m ≡ (i - m) + size s i = omega (arith, w.border) in
            let b : m + (i - m) ≡ i = omega (arith, w.border) in
            let c : drop (i - m) (drop m s) ≡ drop i s = drop-drop (i - m) m s ∙ ap (λ (x : ℕ). drop x s) b in
            rw (a, take-add (i - m) (size s i) (drop m s), c) (fills_append w.back one)

        empty : Fills Piece [] (take (i + size s i - (i + size s i)) (drop (i + size s i) s))
        empty = let a : i + size s i - (i + size s i) ≡ 0 = omega arith in rw a none

        -- the border stays, or is where this package ends
        pub walk_same : Walking s (i + k) (n + 1) m
        walk_same = rw e (record {
          done = w.done ++ (this s i ∷ []);
          inside = omega (arith, f.room, length-drop i s);
          doing = doing_next piece s w.done i (this s i) (size s i) w.doing l (omega (arith, f.least)) (read s i (Cut.fits (drop i s) f));
          fills = all;
          many = omega (arith, w.many, length-append w.done (this s i ∷ []));
          few = omega (arith, w.few, f.least);
          border = omega (arith, w.border);
          fore = w.fore;
          front = w.front;
          aft = w.aft ++ (this s i ∷ []);
          back = behind;
        })

        pub walk_border : Walking s (i + k) (n + 1) (i + k)
        walk_border = rw e (record {
          done = w.done ++ (this s i ∷ []);
          inside = omega (arith, f.room, length-drop i s);
          doing = doing_next piece s w.done i (this s i) (size s i) w.doing l (omega (arith, f.least)) (read s i (Cut.fits (drop i s) f));
          fills = all;
          many = omega (arith, w.many, length-append w.done (this s i ∷ []));
          few = omega (arith, w.few, f.least);
          border = omega arith;
          fore = w.done ++ (this s i ∷ []);
          front = all;
          aft = [];
          back = empty;
        })
