-- The rule as events arrive at a list: what becomes of the greatest good tuple of each mask of slots.
-- Assumes nothing.
use mathlib.Core.Path.{◌≡◌, ap, ◌∙◌}
use mathlib.Core.Bool.{Bool, true, false}
use mathlib.Core.List.{List, [], ◌∷◌, ◌++◌, Memᴰ as Mem}
use mathlib.Core.Option.{Option, some, none}
use Prim.Native.Nat.{ℕ, suc}
use lib.ListN.{length}
use Rattle.trace.specs.Tuples.{dep_at, fits_at, Best, BestOf, pick}
use Rattle.trace.proofs.Lists.{length_snoc}
use Rattle.trace.proofs.Before.{before, before_true, before_false}
use Rattle.trace.proofs.Numbers.{event_new}
use Rattle.trace.proofs.Greatest.{LawL, best_append, law_at_lem, fits_none}
use Rattle.trace.proofs.Masks.{mask_none, mask_joins, mask_barred}

module _ {E S : Type 0} (other : E) (dep : E → E → Bool) (fits : S → E → Bool) (log : List E) (e : E) where
  -- the list with the event that arrives
  abbrev longer : List E
  longer = log ++ (e ∷ [])

  abbrev depends : ℕ → ℕ → Bool
  depends = dep_at other dep longer

  abbrev fitting : S → ℕ → Bool
  fitting = fits_at other fits longer

  old : {ss : List S} {o : Option (List ℕ)} → BestOf other dep fits log ss o → Best depends fitting ss (length log) o
  old b = best_append other dep fits log (e ∷ []) b

  grown : {ss : List S} {o : Option (List ℕ)} → Best depends fitting ss (suc (length log)) o → BestOf other dep fits longer ss o
  grown b = rw (length_snoc log e) b

  at_new : {b : Bool} (s : S) → fits s e ≡ b → fitting s (suc (length log)) ≡ b
  at_new s h = ap (fits s) (event_new other log e) ∙ h

  -- the event fits no slot of the list: what was kept stays
  pub arrives_unfit : {ss : List S} {o : Option (List ℕ)} → ((s : S) → Mem s ss → fits s e ≡ false)
      → BestOf other dep fits log ss o → BestOf other dep fits longer ss o
  arrives_unfit d b = grown (fits_none depends fitting (λ s m. at_new s (d s m)) (old b))

  -- The mask is b1, one bit, b2, and the pattern p1, s, p2. The event fits s, and no slot of the mask after it.
  module _ (law : LawL dep fits) (b1 b2 : List Bool) (p1 : List S) (s : S) (p2 : List S) (eb : length b1 ≡ length p1)
      (new-fits : fits s e ≡ true) (last-slot : (q : S) → Mem q (pick b2 p2) → fits q e ≡ false) where
    abbrev slots : Bool → List S
    slots b = pick (b1 ++ (b ∷ b2)) (p1 ++ (s ∷ p2))

    no_later : (q : S) → Mem q (pick b2 p2) → fitting q (suc (length log)) ≡ false
    no_later q m = at_new q (last-slot q m)

    -- no tuple is kept for the mask without s: what was kept stays
    pub arrives_none : {o : Option (List ℕ)} → BestOf other dep fits log (slots false) none
        → BestOf other dep fits log (slots true) o → BestOf other dep fits longer (slots true) o
    arrives_none h d =
        grown
        (mask_none depends fitting (law_at_lem other dep fits law longer) b1 b2 p1 s p2 (length log) eb (at_new s new-fits) no_later
        (old h) (old d))

    -- one is kept, its row of numbers r1, any number, r2
    module _ (r1 : List ℕ) (x : ℕ) (r2 : List ℕ) (er : length r1 ≡ length p1)
        (kept : BestOf other dep fits log (slots false) (some (pick (b1 ++ (false ∷ b2)) (r1 ++ (x ∷ r2))))) where
      -- and no event of it at a later slot comes before the new one: that is put at s
      pub arrives_joins : ((m : ℕ) → Mem m (pick b2 r2) → before depends m (suc (length log)) ≡ false)
          → BestOf other dep fits longer (slots true) (some (pick (b1 ++ (true ∷ b2)) (r1 ++ (suc (length log) ∷ r2))))
      arrives_joins free =
          grown
          (mask_joins depends fitting (law_at_lem other dep fits law longer) b1 b2 p1 s p2 (length log) eb (at_new s new-fits) no_later
          r1 x r2 er (old kept) (λ m i. before_false depends (free m i)))

      -- but an event of it at a later slot comes before the new one: what was kept stays
      pub arrives_barred : (m : ℕ) → Mem m (pick b2 r2) → before depends m (suc (length log)) ≡ true
          → {o : Option (List ℕ)} → BestOf other dep fits log (slots true) o → BestOf other dep fits longer (slots true) o
      arrives_barred m i t d =
          grown
          (mask_barred depends fitting (law_at_lem other dep fits law longer) b1 b2 p1 s p2 (length log) eb (at_new s new-fits) no_later
          r1 x r2 er (old kept) m i (before_true depends m (suc (length log)) t) (old d))
