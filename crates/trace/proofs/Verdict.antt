-- What the greatest good tuple of a pattern says of a list: there is one exactly where the list has a match, and it can be named.
-- Assumes nothing.
use mathlib.Core.Bool.{Bool}
use mathlib.Core.List.{List}
use mathlib.Core.Option.{Option, some, none}
use Prim.Native.Nat.{ℕ}
use native.Mathlib.Nat.{le_refl}
use lib.ListN.{length}
use Rattle.trace.specs.Match.{HasMatch, Named}
use Rattle.trace.specs.Tuples.{best, no_tuple, BestOf}
use Rattle.trace.proofs.Numbers.{good_named}
use Rattle.trace.proofs.Matches.{match_good}

module _ {E S : Type 0} (dep : E → E → Bool) (fits : S → E → Bool) where
  -- what a tuple, or none, says of the list
  pub data Answers (ss : List S) (log : List E) : Option (List ℕ) → Type 0 where
    match : {is : List ℕ} → HasMatch dep fits ss log → Named dep fits ss log (length log) is → Answers ss log (some is)
    no_match : ¬ HasMatch dep fits ss log → Answers ss log none

module _ {E S : Type 0} (other : E) (dep : E → E → Bool) (fits : S → E → Bool) where
  pub best_answers : (ss : List S) (log : List E) {o : Option (List ℕ)} → BestOf other dep fits log ss o
      → Answers dep fits ss log o
  best_answers ss log (best {ms = ms} a g) =
      match ((match_good other dep fits ss log).1 (ms, a))
      (good_named other dep fits ss log (length log) ms (le_refl (length log)) a)
  best_answers ss log (no_tuple g) = no_match (λ h. let r = (match_good other dep fits ss log).0 h in g r.0 r.1)
