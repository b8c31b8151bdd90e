-- A list whose entries are updated one after another, as a loop over a row leaves it.
-- Assumes nothing.
use Rattle.std.specs.Prelude.{ℕ, zero, suc, ◌+◌, List, get_or, set}

-- the list xs, its n entries from f on updated one after another: the one at f + i becomes w i of what stood there (d is what stands beyond the end)
unfoldable pub updated : {A : Type 0} → A → (ℕ → A → A) → ℕ → List A → ℕ → List A
updated d w zero xs f = xs
updated d w (suc n) xs f = set (updated d w n xs f) (f + n) (w n (get_or (updated d w n xs f) (f + n) d))
