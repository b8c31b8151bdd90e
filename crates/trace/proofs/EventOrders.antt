-- The orders reached from a list of events: exactly the rearrangements of its numbered events
-- that turn round no pair of which one comes before the other.
-- Assumes nothing.
use mathlib.Core.Path.{◌≡◌, refl, sym, ap₂, subst}
use mathlib.Core.Logic.{◌↔◌}
use mathlib.Core.Bool.{Bool}
use mathlib.Core.List.Memᴰ.{head}
use mathlib.Core.List.Memᴰ.{tail}
use mathlib.Core.List.{List, [], ◌∷◌, map, Memᴰ as Mem}
use mathlib.Core.List.Memᴰ.{not-nil as not-mem-nil}
use mathlib.Core.List.Permᴰ.{nil as perm-nil}
use mathlib.Core.List.Permᴰ.{symm as perm-sym}
use mathlib.Core.List.{Permᴰ as Perm}
use Prim.Native.Nat.{ℕ}
use native.Mathlib.Omega.{arith}
use lib.ListN.{length}
use Rattle.trace.specs.Swaps.{Reaches, stay}
use Rattle.trace.specs.Before.{Numbered, ComesBefore}
use Rattle.trace.specs.Match.{Each, Pairs}
use Rattle.trace.specs.Tuples.{event_at, dep_at, Among, Apart}
use Rattle.trace.proofs.Rows.{pairs_map}
use Rattle.trace.proofs.Swaps.{perm_mem, reaches_mem⁻, map_reaches, lift_reaches}
use Rattle.trace.proofs.Runs.{run, among_of}
use Rattle.trace.proofs.Orders.{reaches_iff}
use Rattle.trace.proofs.Numbers.{numbered_among, numbered_at, at_numbered, run_events, comes_before_lem}
use Rattle.trace.proofs.Numbers.{before_comes}

module _ {E : Type 0} (dep : E → E → Bool) (log : List E) where
  -- the order's events have these numbers, which are the list's, and no event stands after one that it comes before or is
  pub record Order (is : List ℕ) (ys : List E) : Type 0 where
    pub numbers : Each (Numbered log) is ys
    pub all : Perm (run 1 (length log)) is
    pub kept : Pairs (λ earlier later. ¬ ComesBefore dep log later earlier) is

-- the events of numbers of the list, and back
module _ {E : Type 0} (other : E) (log : List E) where
  pub numbered_map : (is : List ℕ) → ((i : ℕ) → Mem i is → Among (length log) i) → Each (Numbered log) is (map (event_at other log) is)
  numbered_map [] h = Each.none
  numbered_map (i ∷ is) h = Each.more (at_numbered other log i (h i (head refl))) (numbered_map is (λ j m. h j (tail m)))

  pub map_numbered : {is : List ℕ} {ys : List E} → Each (Numbered log) is ys → ys ≡ map (event_at other log) is
  map_numbered Each.none = refl
  map_numbered (Each.more n c) = ap₂ ◌∷◌ (sym (numbered_at other n)) (map_numbered c)

module _ {E : Type 0} (other : E) (dep : E → E → Bool) (log : List E) where
  -- a rearrangement of the numbers that turns round no pair is the events' of those numbers
  pub numbers_order : {is : List ℕ} → Perm (run 1 (length log)) is × Apart (dep_at other dep log) is
      → Order dep log is (map (event_at other log) is)
  numbers_order {is} g =
      record {
        numbers = numbered_map other log is (λ i m. among_of (length log) (perm_mem (perm-sym g.0) m));
        all = g.0;
        kept = pairs_map (λ x y m k d b. d (comes_before_lem other dep log b)) g.1;
      }

  pub order_numbers_lem : {is : List ℕ} {ys : List E} → Order dep log is ys
      → Perm (run 1 (length log)) is × Apart (dep_at other dep log) is
  order_numbers_lem {is} h =
      (h.all, pairs_map (λ x y m k d b. d (before_comes other dep log (among y k).0 (among x m).1 b)) h.kept)
    where
      among : (i : ℕ) → Mem i is → Among (length log) i
      among i m = among_of (length log) (perm_mem (perm-sym h.all) m)

  reached_order : {ys : List E} → Reaches dep log ys → (is : List ℕ) × Order dep log is ys
  reached_order r =
      let h = lift_reaches dep (event_at other log) r (run 1 (length log)) (sym (run_events other log)) in
      let g = (reaches_iff (dep_at other dep log) (length log) h.0).0 h.1 in
      (h.0, subst (Order dep log h.0) (sym h.2) (numbers_order g))

  order_reached : {is : List ℕ} {ys : List E} → Order dep log is ys → Reaches dep log ys
  order_reached {is} h =
      let r = (reaches_iff (dep_at other dep log) (length log) is).1 (order_numbers_lem h) in
      rw (map_numbered other log h.numbers) (rw run_events at (map_reaches dep (event_at other log) r))

module _ {E : Type 0} (dep : E → E → Bool) where
  -- Swaps reach an order exactly where it is one of these.
  pub order_iff : (log ys : List E) → Reaches dep log ys ↔ ((is : List ℕ) × Order dep log is ys)
  order_iff [] ys = (there ys, λ h. back h.1.numbers)
    where
      there : (ys : List E) → Reaches dep [] ys → (is : List ℕ) × Order dep [] is ys
      there [] r = ([], record { numbers = Each.none; all = perm-nil; kept = Pairs.none })
      there (y ∷ ys) r = let m : Mem y (y ∷ ys) = head refl in absurd (not-mem-nil (reaches_mem⁻ dep r m))

      back : {is : List ℕ} {ys : List E} → Each (Numbered []) is ys → Reaches dep [] ys
      back Each.none = stay
      back (Each.more n c) = absurd (let h = numbered_among n in omega arith)
  order_iff (e ∷ log) ys = (reached_order e dep (e ∷ log), λ h. order_reached e dep (e ∷ log) h.1)
