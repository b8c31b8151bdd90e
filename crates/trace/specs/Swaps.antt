-- Swaps, and the orders that they reach.
-- Assumes nothing.
use Rattle.std.specs.Prelude.{◌≡◌, Bool, false, List, ◌∷◌}

-- `dep` says which events are dependent: "All other pairs are independent."
module _ {E : Type 0} (dep : E → E → Bool) where
  -- "A swap exchanges two neighbouring, independent events of a list."
  pub data Swap : List E → List E → Type 0 where
    here : {a b : E} {xs : List E} → dep a b ≡ false → Swap (a ∷ b ∷ xs) (b ∷ a ∷ xs)
    later : {a : E} {xs ys : List E} → Swap xs ys → Swap (a ∷ xs) (a ∷ ys)

  -- "An order reached from a list is what zero or more swaps make of it, each made on what the swap before it left"
  pub data Reaches : List E → List E → Type 0 where
    stay : {xs : List E} → Reaches xs xs
    swap : {xs ys zs : List E} → Reaches xs ys → Swap ys zs → Reaches xs zs
