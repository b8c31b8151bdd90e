-- The order after a given one, as it is computed, is the one after it; and the first is the recorded one.
-- Assumes nothing.
use mathlib.Core.Path.{◌≡◌, refl, sym, ap, ap₂, subst, ◌∙◌}
use mathlib.Core.Logic.{◌↔◌, inl, inr}
use mathlib.Core.Bool.{Bool, false, not, ◌&&◌, and-eq-true_iff}
use mathlib.Core.Option.{Option, some, none}
use mathlib.Core.List.Memᴰ.{head}
use mathlib.Core.List.Memᴰ.{tail}
use mathlib.Core.List.{List, [], ◌∷◌, ◌++◌, cons≢nil, Memᴰ as Mem}
use mathlib.Core.List.Memᴰ.{not-nil as not-mem-nil}
use Prim.Native.Nat.{ℕ, ◌<◌}
use native.Mathlib.Decide.{ℕ_discrete}
use native.Mathlib.Omega.{arith}
use lib.Dec.{eqb, ltb}
use borrow.Author.Tests.{eqb-false, ne_eqb, ltb-true, lt-ltb, not-true}
use Rattle.trace.specs.Match.{Pairs}
use Rattle.trace.specs.First.{Smaller, here, later}
use Rattle.trace.specs.Tuples.{Among}
use Rattle.trace.proofs.Lists.{mem_filter, mem_of_filter}
use Rattle.trace.proofs.Rows.{pairs_head, pairs_tail, pairs_map, pairs_filter}
use Rattle.trace.proofs.Runs.{run, among_of, of_among, run_rises}
use Rattle.trace.proofs.Orders.{Straight, Same}
use Rattle.enumeration.specs.Orders.{NoLarger, FirstAmong, NextAmong, next, last}
use Rattle.enumeration.specs.Computed.{contains, remains, refill, free, raising, raises, with_raised, keeping_first, next_order}
use Rattle.enumeration.proofs.Tests.{contains_mem, mem_contains, both, Clear, free_true, true_free}

-- lists that are orders in one sense as in the other
module _ {P Q : List ℕ → Type 0} (iff : (q : List ℕ) → P q ↔ Q q) where
  pub first_carry : {o : List ℕ} → FirstAmong P o → FirstAmong Q o
  first_carry {o} f = record { order = (iff o).0 f.order; least = λ q h. f.least q ((iff q).1 h) }

  pub next_carry : {o : List ℕ} {r : Option (List ℕ)} → NextAmong P o r → NextAmong Q o r
  next_carry (next {r = r} p s least) = next ((iff r).0 p) s (λ q h. least q ((iff q).1 h))
  next_carry (last d) = last (λ q h. d q ((iff q).1 h))

-- ---- the numbers behind the first

same_cons : {x : ℕ} {xs ys : List ℕ} → Same xs ys → Same (x ∷ xs) (x ∷ ys)
same_cons {x} s k = (onto (s k).0, onto (s k).1)
  where
    onto : {us vs : List ℕ} → (Mem k us → Mem k vs) → Mem k (x ∷ us) → Mem k (x ∷ vs)
    onto f (head e) = head e
    onto f (tail m) = tail (f m)

-- the same first number before a smaller list
agree : {x y : ℕ} {xs ys : List ℕ} → x ≡ y → Smaller xs ys → Smaller (x ∷ xs) (y ∷ ys)
agree {x} {y} {xs} {ys} e s = subst (λ z. Smaller (x ∷ xs) (z ∷ ys)) e (later s)

larger_cons : {x y : ℕ} {xs ys : List ℕ} → x ≡ y → NoLarger xs ys → NoLarger (x ∷ xs) (y ∷ ys)
larger_cons e (inl f) = inl (ap₂ ◌∷◌ e f)
larger_cons e (inr s) = inr (agree e s)

none_below : {o q : List ℕ} → o ≡ [] → ¬ Smaller o q
none_below e (here l) = cons≢nil e
none_below e (later s) = cons≢nil e

module _ (dep : ℕ → ℕ → Bool) where
  -- an order of the same numbers
  abbrev pub OrderOf : List ℕ → List ℕ → Type 0
  OrderOf o q = Straight dep q × Same o q

  same_tail : {x y : ℕ} {xs ys : List ℕ} → x ≡ y → Straight dep (x ∷ xs) → Straight dep (y ∷ ys) → Same (x ∷ xs) (y ∷ ys)
      → Same xs ys
  same_tail e a b s k = (
    behind e (λ m. (pairs_head a k m).0) (λ m. (s k).0 m),
    behind (sym e) (λ m. (pairs_head b k m).0) (λ m. (s k).1 m),
  )
    where
      behind : {u v : ℕ} {us vs : List ℕ} → u ≡ v → (Mem k us → ¬ (u ≡ k)) → (Mem k (u ∷ us) → Mem k (v ∷ vs)) → Mem k us
          → Mem k vs
      behind {v = v} {vs = vs} f d h m = go (h (tail m))
        where
          go : Mem k (v ∷ vs) → Mem k vs
          go (head g) = absurd (d m (f ∙ sym g))
          go (tail m') = m'

  -- ---- the rising order is the first

  rising_straight : {xs : List ℕ} → Pairs (λ x y. x < y) xs → Straight dep xs
  rising_straight = pairs_map (λ x y m k l. (λ e. apart l e, λ h. absurd (turned l h)))
    where
      apart : {x y : ℕ} → x < y → ¬ (x ≡ y)
      apart l e = omega arith

      turned : {x y : ℕ} → x < y → ¬ (y < x)
      turned l h = omega arith

  rising_least : {xs : List ℕ} → Pairs (λ x y. x < y) xs → (q : List ℕ) → OrderOf xs q → NoLarger xs q
  rising_least Pairs.none [] o = inl refl
  rising_least Pairs.none (y ∷ ys) o = absurd (not-mem-nil ((o.1 y).1 (head refl)))
  rising_least (Pairs.more {x = x} h p) [] o = absurd (not-mem-nil ((o.1 x).0 (head refl)))
  rising_least (Pairs.more {x = x} {xs = xs} h p) (y ∷ ys) o =
      go ((o.1 y).1 (head refl))
      (λ e. rising_least p ys (pairs_tail o.0, same_tail e (rising_straight (Pairs.more h p)) o.0 o.1))
    where
      go : Mem y (x ∷ xs) → (x ≡ y → NoLarger xs ys) → NoLarger (x ∷ xs) (y ∷ ys)
      go (head e) ih = larger_cons (sym e) (ih (sym e))
      go (tail m) ih = inr (here (h y m))

  pub first_order : (n : ℕ) → FirstAmong (OrderOf (run 1 n)) (run 1 n)
  first_order n =
      record {
        order = (rising_straight (run_rises 1 n), λ k. (λ m. m, λ m. m));
        least = rising_least (run_rises 1 n);
      }

-- ---- the order after

module _ (n : ℕ) (dep : ℕ → ℕ → Bool) where
  module _ (o : List ℕ) (within : (k : ℕ) → Mem k o → Among n k) where
    refill_rises : (z : ℕ) → Pairs (λ x y. x < y) (refill n o z)
    refill_rises z = pairs_filter (remains o z) (run_rises 1 n)

    refill_mem : (z k : ℕ) → Mem k (refill n o z) ↔ (Mem k o × (¬ (z ≡ k)))
    refill_mem z k = (there, back)
      where
        there : Mem k (refill n o z) → Mem k o × (¬ (z ≡ k))
        there m =
            let t = mem_of_filter (remains o z) (run 1 n) m in
            let r = (and-eq-true_iff (contains o k) (not (eqb z k))).0 t.1 in
            (contains_mem o r.0, eqb-false z k (not-true (eqb z k) r.1))

        back : Mem k o × (¬ (z ≡ k)) → Mem k (refill n o z)
        back h =
            mem_filter (remains o z) (run 1 n) (of_among n (within k h.0))
            (both (contains o k) (not (eqb z k)) (mem_contains o h.0) (ap not (ne_eqb z k h.1)))

    -- z first and the others rising
    refill_order : (z : ℕ) → Mem z o → Clear dep o z → OrderOf dep o (z ∷ refill n o z)
    refill_order z m f = (
      Pairs.more (λ k i. let r = (refill_mem z k).0 i in (r.1, f k r.0)) (rising_straight dep (refill_rises z)),
      λ k. (λ i. go k i (ℕ_discrete k z), back k),
    )
      where
        go : (k : ℕ) → Mem k o → Dec (k ≡ z) → Mem k (z ∷ refill n o z)
        go k i (yes e) = head e
        go k i (no d) = tail ((refill_mem z k).1 (i, λ e. d (sym e)))

        back : (k : ℕ) → Mem k (z ∷ refill n o z) → Mem k o
        back k (head e) = rw e m
        back k (tail i) = ((refill_mem z k).0 i).0

  module _ (x : ℕ) (xs : List ℕ) (straight : Straight dep (x ∷ xs)) (within : (k : ℕ) → Mem k (x ∷ xs) → Among n k) where
    -- the numbers that raise the first are those larger ones with which an order of the row can begin
    raises_mem : {z : ℕ} → Mem z (raises n dep x (x ∷ xs)) → (x < z) × Mem z (x ∷ xs) × Clear dep (x ∷ xs) z
    raises_mem {z} m =
        let t = mem_of_filter (raising dep x (x ∷ xs)) (run 1 n) m in
        let p = (and-eq-true_iff (ltb x z) (contains (x ∷ xs) z && free dep (x ∷ xs) z)).0 t.1 in
        let q = (and-eq-true_iff (contains (x ∷ xs) z) (free dep (x ∷ xs) z)).0 p.1 in
        (ltb-true x z p.0, contains_mem (x ∷ xs) q.0, free_true dep (x ∷ xs) z q.1)

    mem_raises : {y : ℕ} {ys : List ℕ} → OrderOf dep (x ∷ xs) (y ∷ ys) → x < y → Mem y (raises n dep x (x ∷ xs))
    mem_raises {y} {ys} o l =
        mem_filter (raising dep x (x ∷ xs)) (run 1 n) (of_among n (within y m))
        (both (ltb x y) (contains (x ∷ xs) y && free dep (x ∷ xs) y) (lt-ltb x y l)
        (both (contains (x ∷ xs) y) (free dep (x ∷ xs) y) (mem_contains (x ∷ xs) m)
        (true_free dep (x ∷ xs) y (λ w i. behind w ((o.1 w).0 i)))))
      where
        m : Mem y (x ∷ xs)
        m = (o.1 y).1 (head refl)

        behind : (w : ℕ) → Mem w (y ∷ ys) → w < y → dep w y ≡ false
        behind w (head e) h = absurd (omega arith)
        behind w (tail i) h = (pairs_head o.0 w i).1 h

    -- what stands behind the same first number is an order of the others
    behind_first : {y : ℕ} {ys : List ℕ} → x ≡ y → OrderOf dep (x ∷ xs) (y ∷ ys) → OrderOf dep xs ys
    behind_first e o = (pairs_tail o.0, same_tail dep e straight o.0 o.1)

    -- an order follows that of the others
    stays_next : {ys : List ℕ} → NextAmong (OrderOf dep xs) xs (some ys) → NextAmong (OrderOf dep (x ∷ xs)) (x ∷ xs) (some (x ∷ ys))
    stays_next {ys} (next p l least) =
        next (Pairs.more (λ k m. pairs_head straight k ((p.1 k).1 m)) p.0, same_cons p.1) (later l) smallest
      where
        smallest : (q : List ℕ) → OrderOf dep (x ∷ xs) q → Smaller (x ∷ xs) q → NoLarger (x ∷ ys) q
        smallest q o (here h) = inr (here h)
        smallest q o (later {js = zs} h) = larger_cons refl (least zs (behind_first refl o) h)

    -- none follows: the first number is raised
    raised_next : NextAmong (OrderOf dep xs) xs none → (cs : List ℕ) → raises n dep x (x ∷ xs) ≡ cs
        → NextAmong (OrderOf dep (x ∷ xs)) (x ∷ xs) (with_raised n dep (x ∷ xs) cs)
    raised_next (last none-follows) [] c = last over
      where
        over : (q : List ℕ) → OrderOf dep (x ∷ xs) q → ¬ Smaller (x ∷ xs) q
        over q o (here h) = not-mem-nil (rw c at (mem_raises o h))
        over q o (later {js = zs} h) = none-follows zs (behind_first refl o) h
    raised_next (last none-follows) (z ∷ zs) c =
        next order (here r.0) smallest
      where
        r : (x < z) × Mem z (x ∷ xs) × Clear dep (x ∷ xs) z
        r = raises_mem (rw c (head refl))

        order : OrderOf dep (x ∷ xs) (z ∷ refill n (x ∷ xs) z)
        order = refill_order (x ∷ xs) within z r.1 r.2

        rises : Pairs (λ x y. x < y) (z ∷ zs)
        rises = rw (sym c) (pairs_filter (raising dep x (x ∷ xs)) (run_rises 1 n))

        smallest : (q : List ℕ) → OrderOf dep (x ∷ xs) q → Smaller (x ∷ xs) q → NoLarger (z ∷ refill n (x ∷ xs) z) q
        smallest q o (here {j = y} {js = ys} h) = go (rw c at (mem_raises o h))
          where
            same : Same (z ∷ refill n (x ∷ xs) z) (y ∷ ys)
            same k = (λ m. (o.1 k).0 ((order.1 k).1 m), λ m. (order.1 k).0 ((o.1 k).1 m))

            go : Mem y (z ∷ zs) → NoLarger (z ∷ refill n (x ∷ xs) z) (y ∷ ys)
            go (tail m) = inr (here (pairs_head rises y m))
            go (head e) =
                larger_cons (sym e)
                (rising_least dep (refill_rises (x ∷ xs) within z) ys (pairs_tail o.0, same_tail dep (sym e) order.0 o.0 same))
        smallest q o (later {js = ys} h) = absurd (none-follows ys (behind_first refl o) h)

    stays_is : (r : Option (List ℕ)) → NextAmong (OrderOf dep xs) xs r → NextAmong (OrderOf dep (x ∷ xs)) (x ∷ xs) (keeping_first n dep x xs r)
    stays_is (some ys) a = stays_next a
    stays_is none a = raised_next a (raises n dep x (x ∷ xs)) refl

  pub next_order_lem : (o : List ℕ) → Straight dep o → ((k : ℕ) → Mem k o → Among n k) → NextAmong (OrderOf dep o) o (next_order n dep o)
  next_order_lem [] a within = last (λ q o s. nothing s)
    where
      nothing : {q : List ℕ} → Smaller [] q → ⊥
      nothing s = none_below refl s
  next_order_lem (x ∷ xs) a within =
      stays_is x xs a within (next_order n dep xs) (next_order_lem xs (pairs_tail a) (λ k m. within k (tail m)))

  -- the same of the orders of 1 to n
  pub next_run : (o : List ℕ) → OrderOf dep (run 1 n) o → NextAmong (OrderOf dep (run 1 n)) o (next_order n dep o)
  next_run o h = next_carry iff (next_order_lem o h.0 (λ k m. among_of n ((h.1 k).1 m)))
    where
      iff : (q : List ℕ) → OrderOf dep o q ↔ OrderOf dep (run 1 n) q
      iff q = (
        λ g. (g.0, λ k. (λ m. (g.1 k).0 ((h.1 k).0 m), λ m. (h.1 k).1 ((g.1 k).1 m))),
        λ g. (g.0, λ k. (λ m. (g.1 k).0 ((h.1 k).1 m), λ m. (h.1 k).0 ((g.1 k).1 m))),
      )

  -- For a loop from the last place down: an order after what stands behind is one after the whole,
  pub next_behind : (ps xs : List ℕ) {ys : List ℕ} → next_order n dep xs ≡ some ys → next_order n dep (ps ++ xs) ≡ some (ps ++ ys)
  next_behind [] xs e = e
  next_behind (p ∷ ps) xs e = ap (keeping_first n dep p (ps ++ xs)) (next_behind ps xs e)

  -- and where there is none behind, the first number is raised.
  pub next_raised : (x : ℕ) (xs : List ℕ) → next_order n dep xs ≡ none
      → next_order n dep (x ∷ xs) ≡ with_raised n dep (x ∷ xs) (raises n dep x (x ∷ xs))
  next_raised x xs e = ap (keeping_first n dep x xs) e
