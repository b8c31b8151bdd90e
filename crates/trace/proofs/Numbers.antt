-- A list's events by their numbers: the specification's `Numbered`, `ComesBefore` and `Named` against number-level terms,
-- with computed twins.
-- Assumes nothing.
use mathlib.Core.Path.{◌≡◌, refl, sym, ap, ap₂, subst, ◌∙◌}
use mathlib.Core.Logic.{◌↔◌}
use mathlib.Core.Bool.{Bool, true, ◌&&◌, and-eq-true_iff}
use mathlib.Core.List.Memᴰ.{head}
use mathlib.Core.List.Memᴰ.{tail}
use mathlib.Core.List.{List, [], ◌∷◌, ◌++◌, map, Memᴰ as Mem}
use Prim.Native.Nat.{ℕ, zero, suc, ◌+◌, ◌≤◌, ◌<◌}
use native.Mathlib.Nat.{add-zero}
use native.Mathlib.Omega.{arith}
use lib.Dec.{leb}
use lib.ListN.{length, get_or, take, get_or-append}
use lib.Seq.{get_or-append_seam, get_or-take}
use borrow.Author.Tests.{leb-true, le-leb}
use Rattle.trace.specs.Before.{Numbered, first, next, ComesBefore}
use Rattle.trace.specs.Match.{Named}
use Rattle.trace.specs.Tuples.{event_at, dep_at, fits_at, Among, Before, same, chain, Good}
use Rattle.trace.proofs.Rows.{pairs_map, each_map, each_mem}
use Rattle.trace.proofs.Runs.{run}
use Rattle.trace.proofs.Before.{before_le, before, before_true, true_before, Agree}
use Rattle.trace.proofs.GoodTuples.{good?, good?_iff}

module _ {E : Type 0} where
  -- an event of the list has a number from 1 to its length
  pub numbered_among : {log : List E} {i : ℕ} {e : E} → Numbered log i e → Among (length log) i
  numbered_among first = omega arith
  numbered_among (next n) = let h = numbered_among n in omega arith

  -- and the events that have a number are those of the list
  pub numbered_mem : {log : List E} {i : ℕ} {e : E} → Numbered log i e → Mem e log
  numbered_mem first = head refl
  numbered_mem (next n) = tail (numbered_mem n)

  pub mem_numbered : {log : List E} {e : E} → Mem e log → (i : ℕ) × Numbered log i e
  mem_numbered {e = e} m = go m
    where
      go : {log : List E} → Mem e log → (i : ℕ) × Numbered log i e
      go {log = a ∷ log} (head q) = (1, subst (Numbered (a ∷ log) 1) (sym q) first)
      go (tail m) = let r = go m in (suc r.0, next r.1)

  -- later events change no number
  pub numbered_append : {log : List E} {i : ℕ} {e : E} (later : List E) → Numbered log i e → Numbered (log ++ later) i e
  numbered_append later first = first
  numbered_append later (next n) = next (numbered_append later n)

  pub numbered_shrink : (log later : List E) {i : ℕ} {e : E} → i ≤ length log → Numbered (log ++ later) i e → Numbered log i e
  numbered_shrink [] later l n = absurd (let h = numbered_among n in omega arith)
  numbered_shrink (x ∷ log) later l first = first
  numbered_shrink (x ∷ log) later l (next n) = next (numbered_shrink log later (omega arith) n)

module _ {E : Type 0} (other : E) where
  pub numbered_at : {log : List E} {i : ℕ} {e : E} → Numbered log i e → event_at other log i ≡ e
  numbered_at first = refl
  numbered_at (next {i = zero} n) = absurd (let h = numbered_among n in omega arith)
  numbered_at (next {i = suc i} n) = numbered_at n

  pub at_numbered : (log : List E) (i : ℕ) → Among (length log) i → Numbered log i (event_at other log i)
  at_numbered log zero h = absurd (omega arith)
  at_numbered [] (suc i) h = absurd (omega arith)
  at_numbered (x ∷ log) (suc zero) h = first
  at_numbered (x ∷ log) (suc (suc i)) h = next (at_numbered log (suc i) (omega arith))

  -- later events change no event, nor do those left off the end
  pub event_append : (log later : List E) (i : ℕ) → i ≤ length log → event_at other (log ++ later) i ≡ event_at other log i
  event_append log later zero l = refl
  event_append log later (suc i) l = get_or-append log later other i l

  pub event_new : (log : List E) (e : E) → event_at other (log ++ (e ∷ [])) (suc (length log)) ≡ e
  event_new log e = get_or-append_seam log e [] other

  pub event_take : (log : List E) (n i : ℕ) → i ≤ n → event_at other (take n log) i ≡ event_at other log i
  event_take log n zero l = refl
  event_take log n (suc i) l = get_or-take n log i other l

  run_map : (f : ℕ → E) (a : ℕ) (xs : List E) → ((i : ℕ) → i < length xs → f (a + i) ≡ get_or xs i other)
      → map f (run a (length xs)) ≡ xs
  run_map f a [] h = refl
  run_map f a (x ∷ xs) h =
      let p : f a ≡ x = ap f (sym (add-zero a)) ∙ h 0 (omega arith) in
      let q : map f (run (suc a) (length xs)) ≡ xs = run_map f (suc a) xs (λ i l. ap f (suc-add a i) ∙ h (suc i) (omega arith)) in
      cc
    where
      suc-add : (a i : ℕ) → suc a + i ≡ a + suc i
      suc-add a i = omega arith

  -- the recorded order's events are the list
  pub run_events : (log : List E) → map (event_at other log) (run 1 (length log)) ≡ log
  run_events log = run_map (event_at other log) 1 log (λ i l. ap (event_at other log) (one_add i))
    where
      one_add : (i : ℕ) → 1 + i ≡ suc i
      one_add i = omega arith

module _ {E : Type 0} (other : E) (dep : E → E → Bool) where
  pub dep_append : (log later : List E) → Agree (length log) (dep_at other dep (log ++ later)) (dep_at other dep log)
  dep_append log later i j p q = ap₂ dep (event_append other log later i p) (event_append other log later j q)

  pub dep_take : (log : List E) (n : ℕ) → Agree n (dep_at other dep (take n log)) (dep_at other dep log)
  dep_take log n i j p q = ap₂ dep (event_take other log n i p) (event_take other log n j q)

module _ {E S : Type 0} (other : E) (fits : S → E → Bool) where
  pub fits_append : (log later : List E) (s : S) (i : ℕ) → i ≤ length log
      → fits_at other fits (log ++ later) s i ≡ fits_at other fits log s i
  fits_append log later s i p = ap (fits s) (event_append other log later i p)

  pub fits_take : (log : List E) (n : ℕ) (s : S) (i : ℕ) → i ≤ n → fits_at other fits (take n log) s i ≡ fits_at other fits log s i
  fits_take log n s i p = ap (fits s) (event_take other log n i p)

-- ---- comes before or is

module _ {E : Type 0} (dep : E → E → Bool) where
  -- later events change no chain between the events before them
  pub comes_shrink : (log later : List E) {i j : ℕ} → j ≤ length log → ComesBefore dep (log ++ later) i j
      → ComesBefore dep log i j
  comes_shrink log later h (ComesBefore.same n) = ComesBefore.same (numbered_shrink log later h n)
  comes_shrink log later h (ComesBefore.chain {k = k} b l m n d) =
      let u : k ≤ length log = omega arith in
      ComesBefore.chain (comes_shrink log later u b) l (numbered_shrink log later u m) (numbered_shrink log later h n) d

module _ {E : Type 0} (other : E) (dep : E → E → Bool) (log : List E) where
  pub comes_among : {i j : ℕ} → ComesBefore dep log i j → Among (length log) i × Among (length log) j
  comes_among (ComesBefore.same n) = (numbered_among n, numbered_among n)
  comes_among (ComesBefore.chain b l m n d) = ((comes_among b).0, numbered_among n)

  pub comes_before_lem : {i j : ℕ} → ComesBefore dep log i j → Before (dep_at other dep log) i j
  comes_before_lem (ComesBefore.same n) = same
  comes_before_lem (ComesBefore.chain b l m n d) = chain (comes_before_lem b) l (rw (numbered_at other m, numbered_at other n) d)

  pub before_comes : {i j : ℕ} → 1 ≤ i → j ≤ length log → Before (dep_at other dep log) i j → ComesBefore dep log i j
  before_comes {i} l h same = ComesBefore.same (at_numbered other log i (l, h))
  before_comes {i} l h (chain {k = k} {j = j} b u d) =
      let v = before_le (dep_at other dep log) b in
      let m = at_numbered other log k (omega arith) in
      let n = at_numbered other log j (omega arith) in
      ComesBefore.chain (before_comes l (omega arith) b) u m n d

  -- by numbers within the list the two are one
  pub comes_iff : (i j : ℕ) → Among (length log) i → Among (length log) j
      → ComesBefore dep log i j ↔ Before (dep_at other dep log) i j
  comes_iff i j l h = (comes_before_lem, before_comes l.0 h.1)

  -- the same, computed, for all numbers
  abbrev pub comes? : ℕ → ℕ → Bool
  comes? i j = leb 1 i && (leb j (length log) && before (dep_at other dep log) i j)

  pub comes?_iff : (i j : ℕ) → (comes? i j ≡ true) ↔ ComesBefore dep log i j
  comes?_iff i j = (there, back)
    where
      there : comes? i j ≡ true → ComesBefore dep log i j
      there h =
          let p = (and-eq-true_iff (leb 1 i) (leb j (length log) && before (dep_at other dep log) i j)).0 h in
          let q = (and-eq-true_iff (leb j (length log)) (before (dep_at other dep log) i j)).0 p.1 in
          before_comes (leb-true 1 i p.0) (leb-true j (length log) q.0) (before_true (dep_at other dep log) i j q.1)

      back : ComesBefore dep log i j → comes? i j ≡ true
      back b =
          let a = comes_among b in
          rw (le-leb 1 i a.0.0, le-leb j (length log) a.1.1) (true_before (dep_at other dep log) (comes_before_lem b))

-- ---- the numbers named with a match

module _ {E S : Type 0} (other : E) (dep : E → E → Bool) (fits : S → E → Bool) (ss : List S) (log : List E) (count : ℕ)
    (is : List ℕ) where
  pub named_good : Named dep fits ss log count is → Good (dep_at other dep log) (fits_at other fits log) ss count is
  named_good h =
      record {
        fit = each_map (λ s i m r. rw (numbered_at other r.1) r.2) h.fitting;
        apart = pairs_map (λ x y m k d b. d (before_comes other dep log (listed y k).0 (listed x m).1 b)) h.apart;
        among = λ i m. ((listed i m).0, h.within i m);
      }
    where
      listed : (i : ℕ) → Mem i is → Among (length log) i
      listed i m = numbered_among (each_mem h.fitting m).2.1

  pub good_named : count ≤ length log → Good (dep_at other dep log) (fits_at other fits log) ss count is
      → Named dep fits ss log count is
  good_named l h =
      record {
        distinct = pairs_map (λ x y m k d e. d (rw e same)) h.apart;
        fitting = each_map (λ s i m f. (event_at other log i, at_numbered other log i (listed i m), f)) h.fit;
        within = λ i m. (h.among i m).1;
        apart = pairs_map (λ x y m k d b. d (comes_before_lem other dep log b)) h.apart;
      }
    where
      listed : (i : ℕ) → Mem i is → Among (length log) i
      listed i m = let r = h.among i m in omega arith

  -- within the list, the numbers named are the good tuples
  pub named_iff : count ≤ length log
      → Named dep fits ss log count is ↔ Good (dep_at other dep log) (fits_at other fits log) ss count is
  named_iff l = (named_good, good_named l)

  -- the same, computed
  pub named?_iff : count ≤ length log
      → (good? (dep_at other dep log) (fits_at other fits log) count ss is ≡ true) ↔ Named dep fits ss log count is
  named?_iff l =
      let g = good?_iff (dep_at other dep log) (fits_at other fits log) count ss is in
      (λ h. good_named l (g.0 h), λ h. g.1 (named_good h))

module _ {E S : Type 0} (dep : E → E → Bool) (fits : S → E → Bool) where
  -- the numbers named stay so when events follow
  pub named_append : {ss : List S} {log : List E} {count : ℕ} {is : List ℕ} (later : List E) → Named dep fits ss log count is
      → Named dep fits ss (log ++ later) count is
  named_append {log = log} {is = is} later h =
      record {
        distinct = h.distinct;
        fitting = each_map (λ s i m r. (r.0, numbered_append later r.1, r.2)) h.fitting;
        within = h.within;
        apart = pairs_map (λ x y m k d b. d (comes_shrink dep log later (listed x m) b)) h.apart;
      }
    where
      listed : (i : ℕ) → Mem i is → i ≤ length log
      listed i m = (numbered_among (each_mem h.fitting m).2.1).1
