-- The orders that swaps reach from the recorded one: exactly its rearrangements
-- that turn round no pair of which one comes before the other.
-- Assumes nothing.
use mathlib.Core.Path.{◌≡◌, refl, sym, ap}
use mathlib.Core.Logic.{◌↔◌}
use mathlib.Core.Bool.{Bool, true, false, not}
use mathlib.Core.List.Memᴰ.{head}
use mathlib.Core.List.Memᴰ.{tail}
use mathlib.Core.List.{List, [], ◌∷◌, Memᴰ as Mem}
use mathlib.Core.List.Memᴰ.{not-nil as not-mem-nil}
use mathlib.Core.List.Permᴰ.{symm as perm-sym}
use mathlib.Core.List.{Permᴰ as Perm}
use Prim.Native.Nat.{ℕ, zero, suc, ◌≤◌, ◌<◌}
use native.Mathlib.Decide.{dec_le}
use native.Mathlib.Omega.{arith}
use lib.Dec.{eqb}
use borrow.Author.Tests.{eqb-true, eqb-false, eq-eqb, ne_eqb, not-true}
use Rattle.trace.specs.Swaps.{Swap, here, later, Reaches, stay, swap}
use Rattle.trace.specs.Match.{Pairs}
use Rattle.trace.specs.Tuples.{Before, same, chain, Apart}
use Rattle.trace.proofs.Lists.{both_ways, failed, filter, mem_filter, mem_of_filter}
use Rattle.trace.proofs.Rows.{pairs_head, pairs_tail, pairs_map, pairs_filter}
use Rattle.trace.proofs.Swaps.{perm_mem, swap_mem, swap_mem⁻, reaches_trans, reaches_later, reaches_perm, to_front}
use Rattle.trace.proofs.Runs.{run, among_of, of_among, run_rises}
use Rattle.trace.proofs.Before.{before_le, before_one}

-- the same numbers, in whatever order
abbrev pub Same : List ℕ → List ℕ → Type 0
Same xs ys = (k : ℕ) → Mem k xs ↔ Mem k ys

module _ (dep : ℕ → ℕ → Bool) where
  -- ---- swaps turn round no pair

  -- k is in the list; or nothing of the list comes before it or is it; or it comes before nothing of the list and is nothing of it
  data Placed (k : ℕ) (xs : List ℕ) : Type 0 where
    inside : Mem k xs → Placed k xs
    ahead : ((x : ℕ) → Mem x xs → ¬ Before dep x k) → Placed k xs
    after : ((x : ℕ) → Mem x xs → ¬ Before dep k x) → Placed k xs

  placed_tail : {k x : ℕ} {xs : List ℕ} → Apart dep (x ∷ xs) → Placed k (x ∷ xs) → Placed k xs
  placed_tail a (inside (head e)) = ahead (λ y m. rw e (pairs_head a y m))
  placed_tail a (inside (tail m)) = inside m
  placed_tail a (ahead f) = ahead (λ y m. f y (tail m))
  placed_tail a (after f) = after (λ y m. f y (tail m))

  placed_swap : {k : ℕ} {xs ys : List ℕ} → Swap dep xs ys → Placed k xs → Placed k ys
  placed_swap s (inside m) = inside (swap_mem dep s m)
  placed_swap s (ahead f) = ahead (λ x m. f x (swap_mem⁻ dep s m))
  placed_swap s (after f) = after (λ x m. f x (swap_mem⁻ dep s m))

  -- independent neighbours are not in order: the chain's last but one event would have to stand between the two
  not_before : {a b : ℕ} {xs : List ℕ} → Apart dep (a ∷ b ∷ xs) → ((k : ℕ) → Placed k (a ∷ b ∷ xs)) → dep a b ≡ false
      → ¬ Before dep a b
  not_before {a} {b} p pl i same = pairs_head p b (head refl) same
  not_before {a} {b} {xs} p pl i (chain {k = k} c l d) = go (pl k)
    where
      go : Placed k (a ∷ b ∷ xs) → ⊥
      go (inside (head e)) = both_ways (rw e at d) i
      go (inside (tail (head e))) = omega arith
      go (inside (tail (tail m))) = pairs_head (pairs_tail p) k m (before_one dep l d)
      go (ahead f) = f a (head refl) c
      go (after f) = f b (tail (head refl)) (before_one dep l d)

  apart_swap : {xs ys : List ℕ} → Swap dep xs ys → Apart dep xs → ((k : ℕ) → Placed k xs) → Apart dep ys
  apart_swap (here {a = a} {b = b} {xs = xs} i) p pl =
      Pairs.more front (Pairs.more (λ y m. pairs_head p y (tail m)) (pairs_tail (pairs_tail p)))
    where
      front : (y : ℕ) → Mem y (a ∷ xs) → ¬ Before dep y b
      front y (head e) = rw e (not_before p pl i)
      front y (tail m) = pairs_head (pairs_tail p) y m
  apart_swap (later s) p pl =
      Pairs.more (λ y m. pairs_head p y (swap_mem⁻ dep s m)) (apart_swap s (pairs_tail p) (λ k. placed_tail p (pl k)))

  -- the recorded order
  run_apart : (n : ℕ) → Apart dep (run 1 n)
  run_apart n = pairs_map (λ x y m k l b. below l (before_le dep b)) (run_rises 1 n)
    where
      below : {x y : ℕ} → x < y → y ≤ x → ⊥
      below l h = omega arith

  run_placed : (n k : ℕ) → Placed k (run 1 n)
  run_placed n zero = ahead (λ x m b. let h = among_of n m in let g = before_le dep b in omega arith)
  run_placed n (suc k) = go (dec_le (suc k) n)
    where
      go : Dec (suc k ≤ n) → Placed (suc k) (run 1 n)
      go (yes h) = inside (of_among n (omega arith))
      go (no d) = after (λ x m b. let h = among_of n m in let g = before_le dep b in omega arith)

  -- In every order reached from the recorded one no event stands after one that it comes before or is.
  pub reaches_apart : (n : ℕ) {ys : List ℕ} → Reaches dep (run 1 n) ys → Apart dep ys
  reaches_apart n r = (reached r (run_apart n) (run_placed n)).0
    where
      reached : {xs ys : List ℕ} → Reaches dep xs ys → Apart dep xs → ((k : ℕ) → Placed k xs)
          → Apart dep ys × ((k : ℕ) → Placed k ys)
      reached stay p pl = (p, pl)
      reached (swap r s) p pl =
          let h = reached r p pl in (apart_swap s h.0 h.1, λ k. placed_swap s (h.1 k))

  -- ---- and reach every order that turns round none

  -- of a rising row the one number y
  only : (y : ℕ) (xs : List ℕ) → Pairs (λ x z. x < z) xs → Mem y xs → filter (eqb y) xs ≡ y ∷ []
  only y [] p m = elim m [ ]
  only y (x ∷ xs) p (head e) =
      rw (eq-eqb y x e, sym e) (ap (λ l. y ∷ l) (nothing xs (λ z m f. let h = pairs_head p z m in omega arith)))
    where
      nothing : (zs : List ℕ) → ((z : ℕ) → Mem z zs → ¬ (y ≡ z)) → filter (eqb y) zs ≡ []
      nothing [] d = refl
      nothing (z ∷ zs) d = rw (ne_eqb y z (d z (head refl))) (nothing zs (λ u m. d u (tail m)))
  only y (x ∷ xs) p (tail m) = rw (ne_eqb y x (λ e. let h = pairs_head p y m in omega arith)) (only y xs (pairs_tail p) m)

  -- no number stands behind itself, nor behind a larger one that depends on it
  abbrev pub Straight : List ℕ → Type 0
  Straight = Pairs (λ x y. (¬ (x ≡ y)) × (y < x → dep y x ≡ false))

  apart_straight : {ys : List ℕ} → Apart dep ys → Straight ys
  apart_straight =
      pairs_map (λ x y m k d. (λ e. d (rw e same), λ l. failed (dep y x) (λ t. d (before_one dep l t))))

  perm_same : {xs ys : List ℕ} → Perm xs ys → Same xs ys
  perm_same p k = (perm_mem p, perm_mem (perm-sym p))

  -- Bring the wanted order's first number to the front, and go on with the others behind it.
  reach : (ys : List ℕ) {xs : List ℕ} → Pairs (λ x z. x < z) xs → Straight ys → Same xs ys → Reaches dep xs ys
  reach [] {xs = xs} p a s = empty xs s
    where
      empty : (xs : List ℕ) → Same xs [] → Reaches dep xs []
      empty [] t = stay
      empty (x ∷ xs) t = absurd (not-mem-nil ((t x).0 (head refl)))
  reach (y ∷ ys) {xs = xs} p a s =
      reaches_trans dep first
      (reaches_later dep (reach ys (pairs_filter (λ x. not (eqb y x)) p) (pairs_tail a) (λ k. (others k, others⁻ k))))
    where
      -- a smaller number of the list stands behind y in the wanted order
      clear : (x z : ℕ) → Mem x xs → Mem z xs → x < z → eqb y x ≡ false → eqb y z ≡ true → dep x z ≡ false
      clear x z m k l f t = rw (sym (eqb-true y z t)) (behind ((s x).0 m) (rw (sym (eqb-true y z t)) at l))
        where
          behind : Mem x (y ∷ ys) → x < y → dep x y ≡ false
          behind (head e) h = absurd (eqb-false y x f (sym e))
          behind (tail m') h = (pairs_head a x m').1 h

      first : Reaches dep xs (y ∷ filter (λ x. not (eqb y x)) xs)
      first = rw (only y xs p ((s y).1 (head refl))) at (to_front dep (eqb y) (pairs_map clear p))

      others : (k : ℕ) → Mem k (filter (λ x. not (eqb y x)) xs) → Mem k ys
      others k m = go ((s k).0 r.0)
        where
          r : Mem k xs × (not (eqb y k) ≡ true)
          r = mem_of_filter (λ x. not (eqb y x)) xs m

          go : Mem k (y ∷ ys) → Mem k ys
          go (head e) = absurd (eqb-false y k (not-true (eqb y k) r.1) (sym e))
          go (tail m') = m'

      others⁻ : (k : ℕ) → Mem k ys → Mem k (filter (λ x. not (eqb y x)) xs)
      others⁻ k m = mem_filter (λ x. not (eqb y x)) xs ((s k).1 (tail m)) (ap not (ne_eqb y k (pairs_head a k m).0))

  -- The orders reached from the recorded one are exactly its rearrangements that turn round no pair
  -- of which one comes before the other.
  pub reaches_iff : (n : ℕ) (ys : List ℕ) → Reaches dep (run 1 n) ys ↔ (Perm (run 1 n) ys × Apart dep ys)
  reaches_iff n ys = (
    λ r. (reaches_perm dep r, reaches_apart n r),
    λ h. reach ys (run_rises 1 n) (apart_straight h.1) (perm_same h.0),
  )

  -- It is enough that they turn round no pair of which one depends on the other.
  pub straight_iff : (n : ℕ) (ys : List ℕ) → Reaches dep (run 1 n) ys ↔ (Straight ys × Same (run 1 n) ys)
  straight_iff n ys = (
    λ r. (apart_straight (reaches_apart n r), perm_same (reaches_perm dep r)),
    λ h. reach ys (run_rises 1 n) h.0 h.1,
  )
