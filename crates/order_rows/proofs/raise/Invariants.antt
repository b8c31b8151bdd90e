use Prim.Native.Nat.{◌≤◌, min}
use mathlib.Core.Path.{◌≡◌}
use mathlib.Core.List.{◌∷◌, ◌++◌}
use lib.ListN.{length, take, drop}
use Rattle.enumeration.specs.Computed.{remains, refill}
use Rattle.order_rows.specs.Rows.{order_places, order_row}
use Rattle.order_rows.proofs.Filled.{Filled}
use Rattle.order_rows.proofs.raise.Given as goal

abbrev pub invariant-loop-i : goal.invariant-loop-i
invariant-loop-i l = (l.i ≤ order_places) × (l.row ≡ order_row (take (min l.i l.p) l.order))

abbrev pub invariant-loop-k : goal.invariant-loop-k
invariant-loop-k l =
    Filled (remains (drop l.p l.order) l.z) (length l.order) (take l.p l.order ++ (l.z ∷ refill (length l.order) (drop l.p l.order) l.z)) l.row l.at l.k
