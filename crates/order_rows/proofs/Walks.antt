-- The numbers of a list from a place on: the one there and those behind it.
use Prim.Native.Nat.{ℕ, ◌+◌, ◌<◌}
use mathlib.Core.Path.{◌≡◌}
use mathlib.Core.List.{List, ◌∷◌}
use native.Mathlib.Numerals.{add-one}
use lib.ListN.{length, get_or, drop}
use lib.Seq.{drop-cons}

pub drop_step : (o : List ℕ) (i : ℕ) → i < length o → drop i o ≡ get_or o i 0 ∷ drop (i + 1) o
drop_step o i l = rw (add-one i) (drop-cons o i 0 l)
