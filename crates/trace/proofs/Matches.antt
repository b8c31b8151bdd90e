-- When a list has a match: exactly where there are event numbers to name.
-- Every order reached has one with it, and every longer list.
-- Assumes nothing.
use mathlib.Core.Path.{◌≡◌, refl, sym}
use mathlib.Core.Logic.{◌↔◌}
use mathlib.Core.Bool.{Bool, true}
use mathlib.Core.List.Memᴰ.{head}
use mathlib.Core.List.Memᴰ.{not-nil as not-mem-nil}
use mathlib.Core.List.{List, [], ◌∷◌, ◌++◌, map, Memᴰ as Mem}
use Prim.Native.Nat.{ℕ, ◌≤◌}
use native.Mathlib.Omega.{arith}
use lib.ListN.{length, take, drop, take-append-drop}
use lib.Seq.{length-take-le, take-nil}
use Rattle.trace.specs.Swaps.{Reaches, stay}
use Rattle.trace.specs.Before.{Numbered}
use Rattle.trace.specs.Match.{Holds, HasMatch, Each, Pairs, Named}
use Rattle.trace.specs.Tuples.{event_at, dep_at, fits_at, Fitting, Good}
use Rattle.trace.proofs.Holds.{holds_pick, holds_ahead, map_holds, lift_holds, sublist_mem}
use Rattle.trace.proofs.Swaps.{reaches_trans, reaches_ahead, reaches_back, reaches_mem⁻, map_reaches, lift_reaches}
use Rattle.trace.proofs.Runs.{run}
use Rattle.trace.proofs.Before.{agree_back}
use Rattle.trace.proofs.GoodTuples.{good_iff, good_carry}
use Rattle.trace.proofs.Numbers.{numbered_among, run_events, dep_take, fits_take, named_good}
use Rattle.trace.proofs.Numbers.{good_named}

module _ {E S : Type 0} (other : E) (dep : E → E → Bool) (fits : S → E → Bool) where
  -- a list has a match exactly where its numbers have a good tuple
  pub match_good : (ss : List S) (log : List E)
      → HasMatch dep fits ss log ↔ ((es : List ℕ) × Good (dep_at other dep log) (fits_at other fits log) ss (length log) es)
  match_good ss log = (there, back)
    where
      there : HasMatch dep fits ss log → (es : List ℕ) × Good (dep_at other dep log) (fits_at other fits log) ss (length log) es
      there h =
          let r = lift_reaches dep (event_at other log) h.1 (run 1 (length log)) (sym (run_events other log)) in
          (good_iff (dep_at other dep log) (fits_at other fits log) ss (length log)).0
          (r.0, r.1, lift_holds fits (event_at other log) h.2 r.0 r.2)

      back : (es : List ℕ) × Good (dep_at other dep log) (fits_at other fits log) ss (length log) es → HasMatch dep fits ss log
      back h =
          let r = (good_iff (dep_at other dep log) (fits_at other fits log) ss (length log)).1 h in
          let m = rw run_events at (map_reaches dep (event_at other log) r.1) in
          (map (event_at other log) r.0, m, map_holds fits (event_at other log) r.2)

  -- the leading n events have one exactly where the first n numbers of the whole list have
  pub leading_good : (ss : List S) (log : List E) (n : ℕ) → n ≤ length log
      → HasMatch dep fits ss (take n log) ↔ ((es : List ℕ) × Good (dep_at other dep log) (fits_at other fits log) ss n es)
  leading_good ss log n l =
      let m = rw (length-take-le n log l) at (match_good ss (take n log)) in (
        λ h. let r = m.0 h in (r.0, good_carry (dep_take other dep log n) (fits_take other fits log n) r.1),
        λ r.
            let back = agree_back (dep_take other dep log n) in
            m.1 (r.0, good_carry back (λ s i p. sym (fits_take other fits log n s i p)) r.1),
      )

module _ {E S : Type 0} (dep : E → E → Bool) (fits : S → E → Bool) where
  -- the empty list holds no slot
  pub empty_match : (s : S) (ss : List S) → ¬ HasMatch dep fits (s ∷ ss) []
  empty_match s ss h = let r = holds_pick fits h.2 in nothing r.1 (λ e m. reaches_mem⁻ dep h.1 (sublist_mem r.2 m))
    where
      nothing : {es : List E} → Fitting fits (s ∷ ss) es → ((e : E) → Mem e es → Mem e []) → ⊥
      nothing (Each.more {a = e} f c) i = not-mem-nil (i e (head refl))

  -- Some order reached from the leading n events holds the pattern exactly where there are numbers within n
  -- such as are named with a match.
  pub match_iff : (ss : List S) (log : List E) (n : ℕ) → n ≤ length log
      → HasMatch dep fits ss (take n log) ↔ ((is : List ℕ) × Named dep fits ss log n is)
  match_iff ss [] n l = (there ss, back ss)
    where
      there : (ss : List S) → HasMatch dep fits ss (take n []) → (is : List ℕ) × Named dep fits ss [] n is
      there [] h = (
        [],
        record { distinct = Pairs.none; fitting = Each.none; within = λ i m. absurd (not-mem-nil m); apart = Pairs.none },
      )
      there (s ∷ ss) h = absurd (empty_match s ss (rw take-nil at h))

      back : (ss : List S) → (is : List ℕ) × Named dep fits ss [] n is → HasMatch dep fits ss (take n [])
      back [] h = (take n [], stay, Holds.done)
      back (s ∷ ss) h = absurd (nothing h.1.fitting)
        where
          nothing : {is : List ℕ} → Each (λ s i. (e : E) × Numbered [] i e × (fits s e ≡ true)) (s ∷ ss) is → ⊥
          nothing (Each.more r c) = let h = numbered_among r.1 in omega arith
  match_iff ss (e ∷ log) n l =
      let g = leading_good e dep fits ss (e ∷ log) n l in (
        λ h. let r = g.0 h in (r.0, good_named e dep fits ss (e ∷ log) n r.0 l r.1),
        λ h. g.1 (h.0, named_good e dep fits ss (e ∷ log) n h.0 h.1),
      )

  -- a match stays one as events follow
  pub match_append : (ss : List S) (log later : List E) → HasMatch dep fits ss log → HasMatch dep fits ss (log ++ later)
  match_append ss log later h = (h.0 ++ later, reaches_ahead dep later h.1, holds_ahead fits later h.2)

  pub match_whole : (ss : List S) (log : List E) (m : ℕ) → HasMatch dep fits ss (take m log) → HasMatch dep fits ss log
  match_whole ss log m h = rw take-append-drop at (match_append ss (take m log) (drop m log) h)

  -- where dependence is mutual, a list and every order reached from it have a match together
  pub match_reached : ((a b : E) → dep a b ≡ dep b a) → (ss : List S) {xs ys : List E} → Reaches dep xs ys
      → HasMatch dep fits ss xs ↔ HasMatch dep fits ss ys
  match_reached symmetric ss r = (
    λ h. (h.0, reaches_trans dep (reaches_back dep symmetric r) h.1, h.2),
    λ h. (h.0, reaches_trans dep r h.1, h.2),
  )
