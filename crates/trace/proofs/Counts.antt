-- A list's count: there is one only, how it goes on as events follow, and a computed twin.
-- Assumes nothing.
use mathlib.Core.Path.{◌≡◌, refl, sym, subst}
use mathlib.Core.Logic.{◌⊎◌, inl, inr, ◌↔◌}
use mathlib.Core.Bool.{Bool, true, false, cond}
use mathlib.Core.List.{List, [], ◌∷◌, ◌++◌}
use Prim.Native.Nat.{ℕ, zero, suc, ◌≤◌, ◌<◌}
use native.Mathlib.Nat.{le_refl}
use native.Mathlib.Decide.{dec_le, dec_lt}
use native.Mathlib.Omega.{arith}
use lib.ListN.{length, take, length-append}
use lib.Seq.{take-append-le, take-length, take_all}
use Rattle.trace.specs.Match.{Holds, HasMatch, IsCount, smallest, without}
use Rattle.trace.specs.Swaps.{stay}
use Rattle.trace.specs.Tuples.{dep_at, fits_at}
use Rattle.trace.proofs.Lists.{true_or_false, both_ways, length_snoc}
use Rattle.trace.proofs.Matches.{match_good, empty_match, match_whole}
use Rattle.trace.proofs.Search.{found, found_iff}

module _ {E S : Type 0} (dep : E → E → Bool) (fits : S → E → Bool) where
  pub count_unique : {ss : List S} {log : List E} {m n : ℕ} → IsCount dep fits ss log m → IsCount dep fits ss log n → m ≡ n
  count_unique {ss} {log} (smallest {n = m} l h g) (smallest {n = n} l' h' g') = go (dec_lt m n) (dec_lt n m)
    where
      go : Dec (m < n) → Dec (n < m) → m ≡ n
      go (yes u) d = absurd (g' m u h)
      go (no u) (yes v) = absurd (g n v h')
      go (no u) (no v) = omega arith
  count_unique {ss} {log} (smallest {n = m} l h g) (without d) = absurd (d (match_whole dep fits ss log m h))
  count_unique {ss} {log} (without d) (smallest {n = n} l h g) = absurd (d (match_whole dep fits ss log n h))
  count_unique (without d) (without d') = refl

  -- a count above 0 is that of a match, and within the list
  pub count_match : {ss : List S} {log : List E} {n : ℕ} → IsCount dep fits ss log (suc n)
      → HasMatch dep fits ss (take (suc n) log) × (suc n ≤ length log)
  count_match (smallest l h g) = (h, l)

  -- "Once matched, the count stays."
  pub count_stays : (ss : List S) (log later : List E) (n : ℕ) → IsCount dep fits ss log (suc n)
      → IsCount dep fits ss (log ++ later) (suc n)
  count_stays ss log later n (smallest l h g) =
      smallest {n = suc n} (rw length-append (omega arith)) (rw take-append-le h)
      (λ m u. let v : m ≤ length log = omega arith in rw take-append-le (g m u))

  -- the event that makes the first match is the count; where none makes one, the count is 0 by `without`
  pub count_starts : (ss : List S) (log : List E) (e : E) → ¬ HasMatch dep fits ss log → HasMatch dep fits ss (log ++ (e ∷ []))
      → IsCount dep fits ss (log ++ (e ∷ [])) (suc (length log))
  count_starts ss log e d h =
      let l = length_snoc log e in
      smallest {n = suc (length log)} (omega arith) (rw (take_all (suc (length log)) (log ++ (e ∷ [])) (omega arith)) h)
      (λ m u r. let v : m ≤ length log = omega arith in d (match_whole dep fits ss log m (rw take-append-le at r)))

-- ---- the count computed

-- the first, or the second where the first is 0
abbrev pub or_else : ℕ → ℕ → ℕ
or_else zero y = y
or_else (suc x) y = suc x

-- the smallest of the numbers 1 to n that passes the test; 0 where none does
abbrev pub lowest : (ℕ → Bool) → ℕ → ℕ
lowest p zero = zero
lowest p (suc n) = or_else (lowest p n) (cond (p (suc n)) (suc n) zero)

pub data Lowest (p : ℕ → Bool) (n : ℕ) : ℕ → Type 0 where
  at : {k : ℕ} → suc k ≤ n → p (suc k) ≡ true → ((m : ℕ) → 1 ≤ m → m < suc k → p m ≡ false) → Lowest p n (suc k)
  nowhere : ((m : ℕ) → 1 ≤ m → m ≤ n → p m ≡ false) → Lowest p n zero

pub lowest_is : (p : ℕ → Bool) (n : ℕ) → Lowest p n (lowest p n)
lowest_is p zero = nowhere (λ m l u. absurd (omega arith))
lowest_is p (suc n) = go (lowest_is p n) (true_or_false (p (suc n)))
  where
    go : {k : ℕ} → Lowest p n k → (p (suc n) ≡ true) ⊎ (p (suc n) ≡ false)
        → Lowest p (suc n) (or_else k (cond (p (suc n)) (suc n) zero))
    go (at {k = k} u e f) t = at {k = k} (omega arith) e f
    go (nowhere f) (inl t) = rw t (at {k = n} (le_refl (suc n)) t (λ m l u. f m l (omega arith)))
    go (nowhere f) (inr t) = rw t (nowhere above)
      where
        above : (m : ℕ) → 1 ≤ m → m ≤ suc n → p m ≡ false
        above m l u = last (dec_le m n)
          where
            last : Dec (m ≤ n) → p m ≡ false
            last (yes v) = f m l v
            last (no d) = let e : m ≡ suc n = omega arith in rw e t

module _ {E S : Type 0} (other : E) (dep : E → E → Bool) (fits : S → E → Bool) where
  -- whether a list has a match, and its count, by the plain search
  abbrev pub matches : List S → List E → Bool
  matches ss log = found (dep_at other dep log) (fits_at other fits log) (length log) ss []

  abbrev pub count_of : List S → List E → ℕ
  count_of [] log = zero
  count_of (s ∷ ss) log = lowest (λ n. matches (s ∷ ss) (take n log)) (length log)

  pub matches_iff : (ss : List S) (log : List E) → (matches ss log ≡ true) ↔ HasMatch dep fits ss log
  matches_iff ss log =
      let f = found_iff (dep_at other dep log) (fits_at other fits log) (length log) ss in
      let m = match_good other dep fits ss log in
      (λ h. m.1 (f.0 h), λ h. f.1 (m.0 h))

  matches_not : (ss : List S) (log : List E) → matches ss log ≡ false → ¬ HasMatch dep fits ss log
  matches_not ss log h m = both_ways ((matches_iff ss log).1 m) h

  pub count_of_is : (ss : List S) (log : List E) → IsCount dep fits ss log (count_of ss log)
  count_of_is [] log = smallest {n = zero} (omega arith) (take zero log, stay, Holds.done) (λ m u. absurd (omega arith))
  count_of_is (s ∷ ss) log = go (lowest_is (λ n. matches (s ∷ ss) (take n log)) (length log))
    where
      go : {k : ℕ} → Lowest (λ n. matches (s ∷ ss) (take n log)) (length log) k → IsCount dep fits (s ∷ ss) log k
      go (at {k = k} u e f) = smallest {n = suc k} u ((matches_iff (s ∷ ss) (take (suc k) log)).0 e) below
        where
          below : (m : ℕ) → m < suc k → ¬ HasMatch dep fits (s ∷ ss) (take m log)
          below zero l = empty_match dep fits s ss
          below (suc m) l = matches_not (s ∷ ss) (take (suc m) log) (f (suc m) (omega arith) l)
      go (nowhere f) = without (whole log f)
        where
          whole : (xs : List E) → ((m : ℕ) → 1 ≤ m → m ≤ length xs → matches (s ∷ ss) (take m xs) ≡ false)
              → ¬ HasMatch dep fits (s ∷ ss) xs
          whole [] g h = empty_match dep fits s ss h
          whole (x ∷ xs) g h =
              matches_not (s ∷ ss) (take (length (x ∷ xs)) (x ∷ xs))
              (g (length (x ∷ xs)) (omega arith) (le_refl (length (x ∷ xs))))
              (subst (HasMatch dep fits (s ∷ ss)) (sym (take-length (x ∷ xs))) h)
