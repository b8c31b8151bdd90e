-- An entry of a list made from another.
use Prim.Native.Nat.{ℕ, zero, suc, ◌<◌}
use native.Mathlib.Omega.{arith}
use mathlib.Core.Path.{◌≡◌, refl}
use mathlib.Core.List.{List, [], ◌∷◌, map}
use lib.ListN.{length, get_or}

pub map_at : {A B : Type 0} (f : A → B) (xs : List A) (d : A) (z : B) (j : ℕ) → j < length xs → get_or (map f xs) j z ≡ f (get_or xs j d)
map_at f [] d z j l = absurd (omega arith)
map_at f (x ∷ xs) d z zero l = refl
map_at f (x ∷ xs) d z (suc j) l = map_at f xs d z j (omega arith)
