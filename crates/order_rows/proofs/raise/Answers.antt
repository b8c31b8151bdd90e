use Prim.Native.Nat.{ℕ, ◌+◌, ◌≤◌, min}
use native.Mathlib.Omega.{arith}
use mathlib.Core.Path.{◌≡◌, sym, ◌∙◌}
use mathlib.Core.List.{List, ◌∷◌, ◌++◌}
use lib.ListN.{length, take, drop, length-append}
use lib.Seq.{length-take-le}
use Rattle.std.proofs.lemmas.List.{take_rest}
use Rattle.enumeration.specs.Computed.{remains, refill}
use Rattle.order_rows.specs.Rows.{order_places}
use Rattle.order_rows.proofs.Filled.{filled_start, filled_room, filled_put, filled_over, filled_end}
use Rattle.order_rows.proofs.raise.Goals.{then-remains, else-remains}
use Rattle.order_rows.proofs.raise.Goals as goal

-- the numbers that a row is to hold fit it
fits : (o : List ℕ) (p z : ℕ) → p ≤ length o → p + 1 + length (refill (length o) (drop p o) z) ≤ order_places
    → length (take p o ++ (z ∷ refill (length o) (drop p o) z)) ≤ order_places
fits o p z l h = rw (length-append, length-take-le p o l) (omega arith)

pub loop-k-init : goal.loop-k-init
loop-k-init c = let a = c.args in
    let o = a.order.now in
    let q = c.requires in
    let here : min c.loop-i.i a.p ≡ a.p = let w = c.loop-i.invariant.0 in let t = c.loop-i-test.false in omega (arith, q.0, q.1) in
    rw (c.loop-i.invariant.1, here) (filled_start (remains (drop a.p o) a.z) (length o) (take a.p o) a.p a.z (length-take-le a.p o (omega (arith, q.0))) (omega (arith, q.0, q.1)))

pub bounds-row-at : goal.bounds-row-at
bounds-row-at c = let a = c.args in
    let o = a.order.now in
    let l = c.loop-k in
    let q = c.requires in
    let t = c.loop-k-test.true in
    let kept = sym (rw (take_rest o a.p) at c.remains.ensures) in
    filled_room (remains (drop a.p o) a.z) (length o) (take a.p o ++ (a.z ∷ refill (length o) (drop a.p o) a.z)) l.row l.at l.k l.invariant
    (fits o a.p a.z (omega (arith, q.0)) q.2) (omega arith) (kept ∙ c.if-remains.true)

pub loop-k-preserved : goal.loop-k-preserved
loop-k-preserved c = let a = c.args in
    let o = a.order.now in
    let l = c.loop-k in
    let q = c.requires in
    let t = c.loop-k-test.true in
    let p = remains (drop a.p o) a.z in
    let whole = take a.p o ++ (a.z ∷ refill (length o) (drop a.p o) a.z) in
    let h = fits o a.p a.z (omega (arith, q.0)) q.2 in
    let kept = sym (rw (take_rest o a.p) at c.remains.ensures) in
    elim c.if-remains.branch [
      | then-remains w ↦ rw (w.row-is, w.at-is) (filled_put p (length o) whole l.row l.at l.k l.invariant h (omega arith) (kept ∙ w.if-remains.true))
      | else-remains w ↦ rw (w.row-is, w.at-is) (filled_over p (length o) whole l.row l.at l.k l.invariant h (omega arith) (kept ∙ w.if-remains.false))
    ]

pub returns : goal.returns
returns c = let a = c.args in
    let o = a.order.now in
    let l = c.loop-k in
    let q = c.requires in
    let t = c.loop-k-test.false in
    filled_end (remains (drop a.p o) a.z) (length o) (take a.p o ++ (a.z ∷ refill (length o) (drop a.p o) a.z)) l.row l.at l.k l.invariant
    (fits o a.p a.z (omega (arith, q.0)) q.2) (omega arith)
