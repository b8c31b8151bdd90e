-- The choice slot by slot in one pass over the events: the newest event is chosen where it fits the slot looked for, and an earlier one is
-- told by its place in its thread and the stamps of those chosen: it comes before one of them or is it exactly where its place is at most
-- the join of their stamps at its thread.
-- Assumes nothing.
use mathlib.Core.Path.{◌≡◌, refl, sym, ap, ap₂, ◌∙◌}
use mathlib.Core.Logic.{◌⊎◌, inl, inr}
use mathlib.Core.Bool.{Bool, true, false, not, cond, ◌&&◌, ◌||◌, and-eq-true_iff}
use mathlib.Core.List.Memᴰ.{head}
use mathlib.Core.List.Memᴰ.{tail}
use mathlib.Core.List.{List, [], ◌∷◌, ◌++◌, Memᴰ as Mem}
use Prim.Native.Nat.{ℕ, zero, suc, ◌≤◌, ◌<◌, max}
use native.Mathlib.Decide.{dec_le}
use native.Mathlib.Omega.{arith}
use lib.Dec.{eqb, leb}
use borrow.Author.Tests.{leb-true, leb-false, le-leb, lt-leb, eq-eqb, not-true}
use Rattle.trace.specs.Tuples.{Among, tally, place}
use Rattle.trace.proofs.Lists.{true_or_false, both_ways, failed, same_test, or_right, or_cases, any}
use Rattle.trace.proofs.Before.{before, before_true, before_le}
use Rattle.trace.proofs.Tallies.{tally_longer, join}
use Rattle.trace.proofs.Search.{may}
use Rattle.trace.proofs.Stamps.{stamp, before_by_stamp}
use Rattle.trace.proofs.FirstChoice.{FirstOf, NoneOf, Chosen, start, next}

-- an event fits, or not, and its place p is above j
abbrev pub exceeds : Bool → ℕ → ℕ → Bool
exceeds fit p j = fit && not (leb p j)

-- event i fits the slot and has a place above j
abbrev pub above : {S : Type 0} → (S → ℕ → Bool) → (ℕ → ℕ) → S → ℕ → ℕ → Bool
above fits place s j i = exceeds (fits s i) (place i) j

-- ---- tests that agree

pub first_same : {p q : ℕ → Bool} {n e : ℕ} → ((m : ℕ) → Among n m → p m ≡ q m) → FirstOf p n e → FirstOf q n e
first_same {e = e} h f = (f.0, sym (h e f.0) ∙ f.1, λ m l u. sym (h m (omega arith)) ∙ f.2 m l u)

pub none_same : {p q : ℕ → Bool} {n : ℕ} → ((m : ℕ) → Among n m → p m ≡ q m) → NoneOf p n → NoneOf q n
none_same h f m u = sym (h m u) ∙ f m u

leb_max : (x a b : ℕ) → leb x a || leb x b ≡ leb x (max a b)
leb_max x a b = same_test (leb x a || leb x b) (leb x (max a b)) (λ h. le-leb x (max a b) (there (or_cases (leb x a) h))) back
  where
    there : (leb x a ≡ true) ⊎ (leb x b ≡ true) → x ≤ max a b
    there (inl t) = let l = leb-true x a t in omega arith
    there (inr t) = let l = leb-true x b t in omega arith

    back : leb x (max a b) ≡ true → leb x a || leb x b ≡ true
    back h = go (dec_le x a)
      where
        go : Dec (x ≤ a) → leb x a || leb x b ≡ true
        go (yes l) = rw (le-leb x a l)
        go (no d) = let m = leb-true x (max a b) h in or_right (leb x a) (le-leb x b (omega arith))

pub join_snoc : {C : Type 0} (f : C → ℕ) (cs : List C) (c : C) → max (f c) (join f cs) ≡ join f (cs ++ (c ∷ []))
join_snoc f [] c = refl
join_snoc f (d ∷ cs) c = let h = join_snoc f cs c in omega arith

-- ---- places and the join of stamps

module _ (thread : ℕ → ℕ) where
  -- a place by counting the events of a thread
  pub place_count : (i t : ℕ) → thread i ≡ t → place thread i ≡ tally (λ k. eqb (thread k) t) i
  unfolding place
  place_count i t e = rw e

  place_one : (i : ℕ) → 1 ≤ i → 1 ≤ place thread i
  unfolding place
  place_one zero l = l
  place_one (suc i) l = rw (eq-eqb (thread (suc i)) (thread (suc i)) refl) (omega arith)

  place_rises : (i j : ℕ) → thread i ≡ thread j → i ≤ j → place thread i ≤ place thread j
  unfolding place
  place_rises i j e l = rw e (tally_longer (λ k. eqb (thread k) (thread j)) i j l)

-- ---- the invariant

module _ {S : Type 0} (thread : ℕ → ℕ) (fits : S → ℕ → Bool) where
  -- l is 0, or the place of one of the first n events that fits s
  -- no event of the first n that fits s has a place above l
  pub record Bounds (n : ℕ) (s : S) (l : ℕ) : Type 0 where
    pub most : (m : ℕ) → Among n m → fits s m ≡ true → place thread m ≤ l

-- ---- the pass

-- what is chosen stays so with more events
pub chosen_more : {S : Type 0} {dep : ℕ → ℕ → Bool} {fits : S → ℕ → Bool} {n m : ℕ} {ss left : List S} {cs : List ℕ} → n ≤ m
    → Chosen dep fits n ss cs left → Chosen dep fits m ss cs left
chosen_more l start = start
chosen_more l (next {e = e} c f) = next {e = e} (chosen_more l c) (omega arith, f.1, f.2)

-- the newest event comes before none of those chosen: it can be chosen wherever it fits
module _ {S : Type 0} (dep : ℕ → ℕ → Bool) (fits : S → ℕ → Bool) where
  none_later : (n : ℕ) (cs : List ℕ) → ((c : ℕ) → Mem c cs → c ≤ n) → any (λ c. before dep (suc n) c) cs ≡ false
  none_later n [] h = refl
  none_later n (c ∷ cs) h =
      ap₂ ◌||◌ (failed (before dep (suc n) c) (λ t. let l = before_le dep (before_true dep (suc n) c t) in let u = h c (head refl) in let z : ⊥ = omega arith in z))
      (none_later n cs (λ d m. h d (tail m)))

  pub newest_may : (n m : ℕ) (s : S) (cs : List ℕ) → ((c : ℕ) → Mem c cs → c ≤ n) → may dep fits m s cs (suc n) ≡ fits s (suc n)
  newest_may n m s cs h = ap (λ b. fits s (suc n) && not b) (none_later n cs h) ∙ and-true (fits s (suc n))
    where
      and-true : (b : Bool) → b && true ≡ b
      and-true true = refl
      and-true false = refl

module _ (dep : ℕ → ℕ → Bool) (thread : ℕ → ℕ) (one_thread : (i j : ℕ) → thread i ≡ thread j → dep i j ≡ true) where
  -- An event comes before one of the chosen or is it exactly where its place is at most the join of their stamps at its thread.
  before_joined : (i : ℕ) → 1 ≤ i → (cs : List ℕ)
      → any (λ c. before dep i c) cs ≡ leb (place thread i) (join (λ c. stamp dep thread c (thread i)) cs)
  before_joined i l [] = let h = place_one thread i l in sym (lt-leb (place thread i) 0 (omega arith))
  before_joined i l (c ∷ cs) =
      ap₂ ◌||◌ (before_by_stamp dep thread one_thread i c l) (before_joined i l cs)
      ∙ leb_max (place thread i) (stamp dep thread c (thread i)) (join (λ c. stamp dep thread c (thread i)) cs)

  -- the events that fit a slot are all of its thread
  module _ {S : Type 0} (fits : S → ℕ → Bool) (of : S → ℕ) (of_slot : (s : S) (i : ℕ) → fits s i ≡ true → thread i ≡ of s) where
    abbrev above_at : S → ℕ → ℕ → Bool
    above_at = above fits (place thread)

    -- the pass's test is that of the choice
    pub above_may : (n : ℕ) (s : S) (j : ℕ) (cs : List ℕ) → j ≡ join (λ c. stamp dep thread c (of s)) cs → (i : ℕ) → 1 ≤ i
        → above_at s j i ≡ may dep fits n s cs i
    above_may n s j cs h i l = go (true_or_false (fits s i))
      where
        go : (fits s i ≡ true) ⊎ (fits s i ≡ false) → above_at s j i ≡ may dep fits n s cs i
        go (inl t) =
            let e = before_joined i l cs in
            rw (t, h, sym (of_slot s i t)) (ap not (sym e))
        go (inr f) = rw f

    -- A bound is kept up by any test that the events that fit pass, and of the others only events of the slot's thread: the place of the
    -- newest event that passes it.
    pub note_one : {n l : ℕ} {s : S} (b : Bool) → (fits s (suc n) ≡ true → b ≡ true) → (b ≡ true → thread (suc n) ≡ of s) → Bounds thread fits n s l
        → Bounds thread fits (suc n) s (cond b (place thread (suc n)) l)
    note_one {n} {l} {s} b all own h = go (true_or_false b)
      where
        old : b ≡ false → (m : ℕ) → Among (suc n) m → fits s m ≡ true → m ≤ n
        old f m u t = within (dec_le m n)
          where
            within : Dec (m ≤ n) → m ≤ n
            within (yes v) = v
            within (no d) = let e : m ≡ suc n = omega arith in absurd (both_ways (all (rw e at t)) f)

        go : (b ≡ true) ⊎ (b ≡ false) → Bounds thread fits (suc n) s (cond b (place thread (suc n)) l)
        go (inl t) = rw t (record { most = λ m u f. place_rises thread m (suc n) (of_slot s m f ∙ sym (own t)) u.1 })
        go (inr f) = rw f (record { most = λ m u t. h.most m (u.0, old f m u t) t })

    -- what is above j
    above_parts : (s : S) (j i : ℕ) → above_at s j i ≡ true → (fits s i ≡ true) × (j < place thread i)
    above_parts s j i h =
        let r = (and-eq-true_iff (fits s i) (not (leb (place thread i) j))).0 h in
        (r.0, leb-false (place thread i) j (not-true (leb (place thread i) j) r.1))

    -- none has a place above j that is no lower than the bound
    pub bound_none : {n l : ℕ} {s : S} (j : ℕ) → Bounds thread fits n s l → leb l j ≡ true → NoneOf (above_at s j) n
    bound_none {n} {l} {s} j h t m u =
        failed (above_at s j m)
        (λ a.
        let p = above_parts s j m a in
        let q = h.most m u p.0 in
        let r = leb-true l j t in
        let z : ⊥ = omega arith in
        z)
