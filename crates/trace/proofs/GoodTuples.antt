-- Good tuples: an event for each slot, none of a later slot coming before or being that of an earlier one.
-- Some order that swaps reach holds the pattern exactly where there is one.
-- Assumes nothing.
use mathlib.Core.Path.{◌≡◌, refl, sym, ◌∙◌}
use mathlib.Core.Logic.{◌↔◌}
use mathlib.Core.Bool.{Bool, true, false, not, ◌&&◌, and-eq-true_iff, false≢true}
use mathlib.Core.List.Memᴰ.{head}
use mathlib.Core.List.Memᴰ.{tail}
use mathlib.Core.List.{List, [], ◌∷◌, Memᴰ as Mem}
use mathlib.Core.List.Memᴰ.{not-nil as not-mem-nil}
use Prim.Native.Nat.{ℕ, ◌≤◌, ◌<◌}
use lib.Dec.{leb}
use borrow.Author.Tests.{leb-true, le-leb, not-true}
use Rattle.trace.specs.Match.{HasMatch, Each, Pairs}
use Rattle.trace.specs.Tuples.{Among, Before, same, Apart, Fitting, Good}
use Rattle.trace.proofs.Lists.{failed, any, any_false, any_none}
use Rattle.trace.proofs.Rows.{pairs_head, pairs_tail, pairs_map, each_map}
use Rattle.trace.proofs.Holds.{sublist_mem, sublist_pairs, holds_pick, holds_of}
use Rattle.trace.proofs.Swaps.{reaches_mem⁻}
use Rattle.trace.proofs.Groups.{arrange, arrange_reached, arrange_holds}
use Rattle.trace.proofs.Runs.{run, among_of, of_among, run_rises}
use Rattle.trace.proofs.Before.{before_trans, before_one, before, before_true, true_before, before_false}
use Rattle.trace.proofs.Before.{false_before, Agree, agree_back, before_carry}
use Rattle.trace.proofs.Orders.{reaches_apart}

module _ (dep : ℕ → ℕ → Bool) where
  -- in a rising row the events that come before e or are it are downward closed
  pub downset_clear : (e x y : ℕ) → x < y → before dep x e ≡ false → before dep y e ≡ true → dep x y ≡ false
  downset_clear e x y l f t =
      failed (dep x y) (λ d. before_false dep f (before_trans dep (before_one dep l d) (before_true dep y e t)))

  -- that none of a row comes before e or is it, as a test
  pub none_before : (e : ℕ) (es : List ℕ) → any (λ x. before dep x e) es ≡ false → (x : ℕ) → Mem x es → ¬ Before dep x e
  none_before e es h x m b = any_false (λ x. before dep x e) es h m (true_before dep b)

  pub before_none : (e : ℕ) (es : List ℕ) → ((x : ℕ) → Mem x es → ¬ Before dep x e) → any (λ x. before dep x e) es ≡ false
  before_none e es d = any_none (λ x. before dep x e) es (λ x m t. d x m (before_true dep x e t))

  module _ {S : Type 0} (fits : S → ℕ → Bool) where
    -- Of the recorded order of n events: some order reached holds the pattern exactly where there is a good tuple.
    pub good_iff : (ss : List S) (n : ℕ) → HasMatch dep fits ss (run 1 n) ↔ ((es : List ℕ) × Good dep fits ss n es)
    good_iff ss n = (there, back)
      where
        there : HasMatch dep fits ss (run 1 n) → (es : List ℕ) × Good dep fits ss n es
        there h =
            let r = holds_pick fits h.2 in (
              r.0,
              record {
                fit = r.1;
                apart = sublist_pairs r.2 (reaches_apart dep n h.1);
                among = λ e m. among_of n (reaches_mem⁻ dep h.1 (sublist_mem r.2 m));
              },
            )

        back : (es : List ℕ) × Good dep fits ss n es → HasMatch dep fits ss (run 1 n)
        back h = (
          arrange (before dep) h.0 (run 1 n),
          arrange_reached (before dep) dep h.0 (pairs_map (λ x y m k l e. downset_clear e x y l) (run_rises 1 n)),
          holds_of fits
              (arrange_holds (before dep) (run 1 n) (pairs_map (λ x y m k. false_before dep) h.1.apart)
              (λ e m. (of_among n (h.1.among e m), true_before dep same))) h.1.fit,
        )

    -- good tuples are built slot by slot
    pub good_nil : (n : ℕ) → Good dep fits [] n []
    good_nil n = record { fit = Each.none; apart = Pairs.none; among = λ e m. absurd (not-mem-nil m) }

    pub good_cons : (s : S) (ss : List S) (n e : ℕ) (es : List ℕ) → fits s e ≡ true → Among n e
        → ((x : ℕ) → Mem x es → ¬ Before dep x e) → Good dep fits ss n es → Good dep fits (s ∷ ss) n (e ∷ es)
    good_cons s ss n e es f r d h = record { fit = Each.more f h.fit; apart = Pairs.more d h.apart; among = among }
      where
        among : (x : ℕ) → Mem x (e ∷ es) → Among n x
        among x (head p) = rw p r
        among x (tail m) = h.among x m

    -- whether a tuple is good, computed
    abbrev pub good? : ℕ → List S → List ℕ → Bool
    good? n [] [] = true
    good? n [] (e ∷ es) = false
    good? n (s ∷ ss) [] = false
    good? n (s ∷ ss) (e ∷ es) = (leb 1 e && leb e n) && fits s e && not (any (λ x. before dep x e) es) && good? n ss es

    true_good : (n : ℕ) (ss : List S) (es : List ℕ) → good? n ss es ≡ true → Good dep fits ss n es
    true_good n [] [] h = good_nil n
    true_good n [] (e ∷ es) h = absurd (false≢true h)
    true_good n (s ∷ ss) [] h = absurd (false≢true h)
    true_good n (s ∷ ss) (e ∷ es) h =
        let a = (and-eq-true_iff ((leb 1 e && leb e n) && fits s e && not (any (λ x. before dep x e) es)) (good? n ss es)).0 h in
        let b = (and-eq-true_iff ((leb 1 e && leb e n) && fits s e) (not (any (λ x. before dep x e) es))).0 a.0 in
        let c = (and-eq-true_iff (leb 1 e && leb e n) (fits s e)).0 b.0 in
        let d = (and-eq-true_iff (leb 1 e) (leb e n)).0 c.0 in
        good_cons s ss n e es c.1 (leb-true 1 e d.0, leb-true e n d.1)
        (none_before e es (not-true (any (λ x. before dep x e) es) b.1)) (true_good n ss es a.1)

    good_true : {ss : List S} {es : List ℕ} (n : ℕ) → Fitting fits ss es → Apart dep es → ((e : ℕ) → Mem e es → Among n e)
        → good? n ss es ≡ true
    good_true n Each.none p i = refl
    good_true n (Each.more {a = e} {rest = es} f c) p i =
        let r = i e (head refl) in
        rw (le-leb 1 e r.0, le-leb e n r.1, f, before_none e es (pairs_head p))
        (good_true n c (pairs_tail p) (λ x m. i x (tail m)))

    pub good?_iff : (n : ℕ) (ss : List S) (es : List ℕ) → (good? n ss es ≡ true) ↔ Good dep fits ss n es
    good?_iff n ss es = (true_good n ss es, λ h. good_true n h.fit h.apart h.among)

-- what is good by one dependence and fitting is good by another that agrees on the first n events
module _ {S : Type 0} {n : ℕ} {dep dep' : ℕ → ℕ → Bool} {fits fits' : S → ℕ → Bool} (agree : Agree n dep dep')
    (alike : (s : S) (i : ℕ) → i ≤ n → fits s i ≡ fits' s i) where
  pub good_carry : {ss : List S} {es : List ℕ} → Good dep fits ss n es → Good dep' fits' ss n es
  good_carry h =
      record {
        fit = each_map (λ s e m f. sym (alike s e (h.among e m).1) ∙ f) h.fit;
        apart = pairs_map (λ x y m k d b. d (before_carry (agree_back agree) (h.among x m).1 b)) h.apart;
        among = h.among;
      }
