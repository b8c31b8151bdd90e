-- The plain search for a good tuple, computed.
-- Assumes nothing.
use mathlib.Core.Path.{◌≡◌, refl, ap}
use mathlib.Core.Logic.{◌↔◌}
use mathlib.Core.Bool.{Bool, true, not, ◌&&◌, and-eq-true_iff}
use mathlib.Core.List.Memᴰ.{head}
use mathlib.Core.List.Memᴰ.{tail}
use mathlib.Core.List.{List, [], ◌∷◌, Memᴰ as Mem}
use mathlib.Core.List.Memᴰ.{not-nil as not-mem-nil}
use Prim.Native.Nat.{ℕ}
use borrow.Author.Tests.{not-true}
use Rattle.trace.specs.Match.{Each}
use Rattle.trace.specs.Tuples.{Among, Before, Apart, Fitting, Good}
use Rattle.trace.proofs.Lists.{filter, mem_filter, mem_of_filter, any, any_true, any_mem, any_false}
use Rattle.trace.proofs.Lists.{any_none}
use Rattle.trace.proofs.Rows.{pairs_head, pairs_tail}
use Rattle.trace.proofs.Runs.{run, among_of, of_among}
use Rattle.trace.proofs.Before.{before, before_true, true_before}
use Rattle.trace.proofs.GoodTuples.{good_nil, good_cons}

module _ {S : Type 0} (dep : ℕ → ℕ → Bool) (fits : S → ℕ → Bool) (n : ℕ) where
  -- e fits the slot, and neither comes before an event chosen for an earlier slot nor is it
  abbrev pub may : S → List ℕ → ℕ → Bool
  may s chosen e = fits s e && not (any (λ c. before dep e c) chosen)

  -- each slot in turn, each event that it may have
  abbrev pub found : List S → List ℕ → Bool
  found [] chosen = true
  found (s ∷ ss) chosen = any (λ e. found ss (e ∷ chosen)) (filter (may s chosen) (run 1 n))

  abbrev pub Clear : List ℕ → List ℕ → Type 0
  Clear es chosen = (e : ℕ) → Mem e es → (c : ℕ) → Mem c chosen → ¬ Before dep e c

  pub may_clear : (s : S) (chosen : List ℕ) (e : ℕ) → may s chosen e ≡ true
      → (fits s e ≡ true) × ((c : ℕ) → Mem c chosen → ¬ Before dep e c)
  may_clear s chosen e h =
      let r = (and-eq-true_iff (fits s e) (not (any (λ c. before dep e c) chosen))).0 h in
      let f = not-true (any (λ c. before dep e c) chosen) r.1 in
      (r.0, λ c m b. any_false (λ c. before dep e c) chosen f m (true_before dep b))

  pub clear_may : (s : S) (chosen : List ℕ) (e : ℕ) → (fits s e ≡ true) → ((c : ℕ) → Mem c chosen → ¬ Before dep e c)
      → may s chosen e ≡ true
  clear_may s chosen e f h =
      (and-eq-true_iff (fits s e) (not (any (λ c. before dep e c) chosen))).1
      (f, ap not (any_none (λ c. before dep e c) chosen (λ c m t. h c m (before_true dep e c t))))

  record Rest (ss : List S) (chosen es : List ℕ) : Type 0 where
    good : Good dep fits ss n es
    clear : Clear es chosen

  rest_cons : (s : S) (e : ℕ) (ss : List S) (chosen es : List ℕ) → (fits s e ≡ true) × ((c : ℕ) → Mem c chosen → ¬ Before dep e c)
      → Among n e → Rest ss (e ∷ chosen) es → Rest (s ∷ ss) chosen (e ∷ es)
  rest_cons s e ss chosen es k m r =
      record { good = good_cons dep fits s ss n e es k.0 m (λ y q. r.clear y q e (head refl)) r.good; clear = clear }
    where
      clear : Clear (e ∷ es) chosen
      clear x (head p) c q = rw p (k.1 c q)
      clear x (tail q) c q' = r.clear x q c (tail q')

  found_rest : (ss : List S) (chosen : List ℕ) → found ss chosen ≡ true → (es : List ℕ) × Rest ss chosen es
  found_rest [] chosen h = ([], record { good = good_nil dep fits n; clear = λ e m. absurd (not-mem-nil m) })
  found_rest (s ∷ ss) chosen h =
      let r = any_true (λ e. found ss (e ∷ chosen)) (filter (may s chosen) (run 1 n)) h in
      let g = mem_of_filter (may s chosen) (run 1 n) r.1 in
      let k = may_clear s chosen r.0 g.1 in
      let t = found_rest ss (r.0 ∷ chosen) r.2 in
      (r.0 ∷ t.0, rest_cons s r.0 ss chosen t.0 k (among_of n g.0) t.1)

  found_of : {ss : List S} {es : List ℕ} → Fitting fits ss es → (chosen : List ℕ) → Apart dep es
      → ((e : ℕ) → Mem e es → Among n e) → Clear es chosen → found ss chosen ≡ true
  found_of Each.none chosen a i c = refl
  found_of (Each.more {s = s} {ss = ss} {a = e} {rest = es} f r) chosen a i c =
      any_mem (λ e. found ss (e ∷ chosen)) (filter (may s chosen) (run 1 n))
      (mem_filter (may s chosen) (run 1 n) (of_among n (i e (head refl))) (clear_may s chosen e f (c e (head refl))))
      (found_of r (e ∷ chosen) (pairs_tail a) (λ x m. i x (tail m)) later)
    where
      later : Clear es (e ∷ chosen)
      later x m y (head p) = rw p (pairs_head a x m)
      later x m y (tail q) = c x (tail m) y q

  -- the search finds an event for each slot exactly where there is a good tuple
  pub found_iff : (ss : List S) → (found ss [] ≡ true) ↔ ((es : List ℕ) × Good dep fits ss n es)
  found_iff ss = (
    λ h. let r = found_rest ss [] h in (r.0, r.1.good),
    λ h. found_of h.1.fit [] h.1.apart h.1.among (λ e m c m'. absurd (not-mem-nil m')),
  )
