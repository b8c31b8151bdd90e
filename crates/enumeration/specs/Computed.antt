-- The order after a given one, and whether a list is an order, computed for the numbers 1 to n from which of them are dependent.
-- The first order is the recorded one. For the one after a given one: the last place that can be raised is raised to the smallest larger number, of
-- those from there on, that may stand there, and what remains follows rising.
-- Assumes nothing.
use Rattle.std.specs.Prelude.{Bool, true, not, ◌&&◌, List, [], ◌∷◌, ℕ, eqb, ltb}
use Rattle.std.proofs.Math.Option.{Option, some, none}
use Rattle.trace.proofs.Lists.{filter, any}
use Rattle.trace.proofs.Runs.{run}

-- the number is one of the list
abbrev pub contains : List ℕ → ℕ → Bool
contains xs k = any (eqb k) xs

-- the number is one of the list and is not z
abbrev pub remains : List ℕ → ℕ → ℕ → Bool
remains xs z k = contains xs k && not (eqb z k)

-- those of the numbers 1 to n that remain of the list without z, rising
abbrev pub refill : ℕ → List ℕ → ℕ → List ℕ
refill n xs z = filter (remains xs z) (run 1 n)

-- k may stand before all others of the list: it depends on no smaller one
abbrev pub free : (ℕ → ℕ → Bool) → List ℕ → ℕ → Bool
free dep xs k = not (any (λ y. ltb y k && dep y k) xs)

-- k is larger than x, one of the list, and may stand before all others of it
abbrev pub raising : (ℕ → ℕ → Bool) → ℕ → List ℕ → ℕ → Bool
raising dep x xs k = ltb x k && (contains xs k && free dep xs k)

module _ (n : ℕ) (dep : ℕ → ℕ → Bool) where
  -- the numbers to which the first of the list, x, can be raised, rising
  abbrev pub raises : ℕ → List ℕ → List ℕ
  raises x xs = filter (raising dep x xs) (run 1 n)

  -- raised to the smallest of these, what remains of the list behind it
  abbrev pub with_raised : List ℕ → List ℕ → Option (List ℕ)
  with_raised xs [] = none
  with_raised xs (z ∷ zs) = some (z ∷ refill n xs z)

  -- the first number stays if an order follows that of the others
  abbrev pub keeping_first : ℕ → List ℕ → Option (List ℕ) → Option (List ℕ)
  keeping_first x xs (some ys) = some (x ∷ ys)
  keeping_first x xs none = with_raised (x ∷ xs) (raises x (x ∷ xs))

  abbrev pub next_order : List ℕ → Option (List ℕ)
  next_order [] = none
  next_order (x ∷ xs) = keeping_first x xs (next_order xs)

-- each of these is one of the list
abbrev pub covered : List ℕ → List ℕ → Bool
covered ks xs = not (any (λ k. not (contains xs k)) ks)

module _ (dep : ℕ → ℕ → Bool) where
  -- no number stands before itself, nor before a smaller one on which it depends
  abbrev pub straight : List ℕ → Bool
  straight [] = true
  straight (x ∷ xs) = not (contains xs x) && (free dep xs x && straight xs)

  -- straight, and of the numbers 1 to n
  abbrev pub ordered : ℕ → List ℕ → Bool
  ordered n o = straight o && (covered (run 1 n) o && covered o (run 1 n))
