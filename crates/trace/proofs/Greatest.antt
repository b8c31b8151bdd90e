-- The greatest good tuple of a list of slots, and how it goes on as an event arrives,
-- under Law L: two events that fit one slot are dependent.
-- Assumes nothing.
use mathlib.Core.Path.{◌≡◌, refl, sym, ◌∙◌}
use mathlib.Core.Logic.{◌⊎◌, inl, inr}
use mathlib.Core.Bool.{Bool, true, false}
use mathlib.Core.List.Memᴰ.{head}
use mathlib.Core.List.Memᴰ.{tail}
use mathlib.Core.List.{List, [], ◌∷◌, ◌++◌, Memᴰ as Mem}
use mathlib.Core.List.Memᴰ.{append_cases as mem-append-cases}
use mathlib.Core.List.Memᴰ.{append_left as mem-left}
use mathlib.Core.List.Memᴰ.{not-nil as not-mem-nil}
use mathlib.Core.List.Memᴰ.{append_right as mem-right}
use mathlib.Core.Option.{Option, some, none}
use Prim.Native.Nat.{ℕ, zero, suc, ◌≤◌}
use native.Mathlib.Omega.{arith}
use lib.ListN.{length}
use Rattle.trace.specs.Match.{Each, Pairs}
use Rattle.trace.specs.Tuples.{event_at, dep_at, fits_at, Among, Before, Fitting, Good, Best, best, no_tuple, BestOf}
use Rattle.trace.proofs.Lists.{both_ways}
use Rattle.trace.proofs.Rows.{pairs_head, pairs_tail, pairs_join, pairs_left, pairs_right, pairs_across}
use Rattle.trace.proofs.Rows.{each_split, each_cut, each_join, each_mem, each_length}
use Rattle.trace.proofs.Before.{before_le, before_dep, before_trans, Agree, agree_back}
use Rattle.trace.proofs.GoodTuples.{good_nil, good_carry}
use Rattle.trace.proofs.Numbers.{dep_append, fits_append}

-- Law L, the one fact about fitting that is needed.
abbrev pub LawL : {S A : Type 0} → (A → A → Bool) → (S → A → Bool) → Type 0
LawL {S} {A} dep fits = (s : S) (a b : A) → fits s a ≡ true → fits s b ≡ true → dep a b ≡ true

module _ {S : Type 0} (dep : ℕ → ℕ → Bool) (fits : S → ℕ → Bool) where
  -- what is good stays so with one event more; and back where the tuple does not have that event
  good_up : {ss : List S} {n : ℕ} {es : List ℕ} → Good dep fits ss n es → Good dep fits ss (suc n) es
  good_up h = record { fit = h.fit; apart = h.apart; among = λ e m. let r = h.among e m in omega arith }

  good_down : {ss : List S} {n : ℕ} {es : List ℕ} → Good dep fits ss (suc n) es → ¬ Mem (suc n) es → Good dep fits ss n es
  good_down {n = n} h d =
      record {
        fit = h.fit;
        apart = h.apart;
        among = λ e m. let r = h.among e m in let q : ¬ (e ≡ suc n) = λ p. d (rw p at m) in omega arith;
      }

  -- nothing changes where no good tuple has the new event
  stays : {ss : List S} {n : ℕ} {o : Option (List ℕ)} → ((es : List ℕ) → Good dep fits ss (suc n) es → ¬ Mem (suc n) es)
      → Best dep fits ss n o → Best dep fits ss (suc n) o
  stays d (best a g) = best (good_up a) (λ es h. g es (good_down h (d es h)))
  stays d (no_tuple g) = no_tuple (λ es h. g es (good_down h (d es h)))

  -- the start: no event yet
  pub best_nil : Best dep fits [] zero (some [])
  best_nil = best (good_nil dep fits zero) (λ es h. nil_only h.fit)
    where
      nil_only : {es : List ℕ} → Fitting fits [] es → Each (λ e m. e ≤ m) es []
      nil_only Each.none = Each.none

  pub best_cons : (s : S) (ss : List S) → Best dep fits (s ∷ ss) zero none
  best_cons s ss = no_tuple (λ es h. some_event h.fit h.among)
    where
      some_event : {es : List ℕ} → Fitting fits (s ∷ ss) es → ((e : ℕ) → Mem e es → Among zero e) → ⊥
      some_event (Each.more {a = a} f c) i = let h = i a (head refl) in omega arith

  -- an event arrives that fits no slot of the list
  pub fits_none : {ss : List S} {n : ℕ} {o : Option (List ℕ)} → ((s : S) → Mem s ss → fits s (suc n) ≡ false) → Best dep fits ss n o
      → Best dep fits ss (suc n) o
  fits_none d b = stays (λ es h j. let r = each_mem h.fit j in both_ways r.2 (d r.0 r.1)) b

  module _ (law : LawL dep fits) where
    -- an event of a tuple that comes before the greatest one of its slot
    lower : {ss : List S} {es ms : List ℕ} {m : ℕ} → Fitting fits ss es → Fitting fits ss ms → Each (λ e m. e ≤ m) es ms
        → Mem m ms → (x : ℕ) × Mem x es × Before dep x m
    lower Each.none Each.none Each.none i = absurd (not-mem-nil i)
    lower (Each.more {s = s} {a = x} f c) (Each.more {a = y} g d) (Each.more l r) (head e) =
        (x, head refl, rw e (before_dep dep l (law s x y f g)))
    lower (Each.more f c) (Each.more g d) (Each.more l r) (tail i) = let h = lower c d r i in (h.0, tail h.1, h.2)

    -- An event arrives that fits slot s, and no slot qs after it.
    -- (It may fit slots before: there it can't stand, as the event of s would come before it.)
    module _ (ps : List S) (s : S) (qs : List S) (n : ℕ) (new-fits : fits s (suc n) ≡ true)
        (last-slot : (q : S) → Mem q qs → fits q (suc n) ≡ false) where
      -- a tuple for all the slots, and what is left of it without the event of slot s: that has not the new event
      record Split (es : List ℕ) : Type 0 where
        ea : List ℕ
        e : ℕ
        eb : List ℕ
        whole : es ≡ ea ++ (e ∷ eb)
        fit_a : Fitting fits ps ea
        fit_b : Fitting fits qs eb
        rest : Good dep fits (ps ++ qs) n (ea ++ eb)
        top : e ≤ suc n
        above : (x : ℕ) → Mem x eb → ¬ Before dep x e

      cut_at : (ea : List ℕ) (e : ℕ) (eb : List ℕ) {es : List ℕ} → es ≡ ea ++ (e ∷ eb) → Fitting fits ps ea → fits s e ≡ true
          → Fitting fits qs eb → Good dep fits (ps ++ (s ∷ qs)) (suc n) (ea ++ (e ∷ eb)) → Split es
      cut_at ea e eb w ca f cb h =
          record {
            ea = ea;
            e = e;
            eb = eb;
            whole = w;
            fit_a = ca;
            fit_b = cb;
            rest = good_down
                (record {
                  fit = each_join ca cb;
                  apart = pairs_join (pairs_left ea (e ∷ eb) h.apart) (pairs_tail (pairs_right ea h.apart))
                      (λ x m y m'. pairs_across ea h.apart x m y (tail m'));
                  among = λ x m. h.among x (widen (mem-append-cases ea m));
                })
                (λ m. not_new (mem-append-cases ea m));
            top = high;
            above = λ x m. pairs_head (pairs_right ea h.apart) x m;
          }
        where
          widen : {x : ℕ} → Mem x ea ⊎ Mem x eb → Mem x (ea ++ (e ∷ eb))
          widen (inl m) = mem-left (e ∷ eb) m
          widen (inr m) = mem-right ea (tail m)

          high : e ≤ suc n
          high = (h.among e (mem-right ea (head refl))).1

          not_new : Mem (suc n) ea ⊎ Mem (suc n) eb → ⊥
          not_new (inl m) = pairs_across ea h.apart (suc n) m e (head refl) (before_dep dep high (law s e (suc n) f new-fits))
          not_new (inr m) = let r = each_mem cb m in both_ways r.2 (last-slot r.0 r.1)

      cut : (es : List ℕ) → Good dep fits (ps ++ (s ∷ qs)) (suc n) es → Split es
      cut es h = let r = each_split ps h.fit in go r.0 r.1 r.2 r.3 r.4
        where
          go : (ea eb : List ℕ) → es ≡ ea ++ eb → Fitting fits ps ea → Fitting fits (s ∷ qs) eb → Split es
          go ea eb w ca (Each.more {a = e} {rest = eb'} f c) = cut_at ea e eb' w ca f c (rw w at h)

      -- first case: there is no tuple for the other slots, so none with the new event
      pub none_yet : Best dep fits (ps ++ qs) n none → {o : Option (List ℕ)} → Best dep fits (ps ++ (s ∷ qs)) n o → Best dep fits (ps ++ (s ∷ qs)) (suc n) o
      none_yet (no_tuple g) d = stays (λ es h j. let c = cut es h in g (c.ea ++ c.eb) c.rest) d

      module _ (ma mb : List ℕ) (place : length ma ≡ length ps) where
        -- second case: the new event joins the greatest tuple for the other slots
        pub joins : Best dep fits (ps ++ qs) n (some (ma ++ mb)) → ((m : ℕ) → Mem m mb → ¬ Before dep m (suc n))
            → Best dep fits (ps ++ (s ∷ qs)) (suc n) (some (ma ++ (suc n ∷ mb)))
        joins (best a g) free =
            best
            (record {
              fit = each_join f.0 (Each.more new-fits f.1);
              apart = pairs_join (pairs_left ma mb a.apart) (Pairs.more free (pairs_right ma a.apart)) across;
              among = λ x m. among x (mem-append-cases ma m);
            })
            greatest
          where
            f : Fitting fits ps ma × Fitting fits qs mb
            f = each_cut ps ma place a.fit

            across : (x : ℕ) → Mem x ma → (y : ℕ) → Mem y (suc n ∷ mb) → ¬ Before dep y x
            across x m y (head e) b =
                let l = a.among x (mem-left mb m) in
                let k = before_le dep b in
                omega arith
            across x m y (tail m') b = pairs_across ma a.apart x m y m' b

            among : (x : ℕ) → Mem x ma ⊎ Mem x (suc n ∷ mb) → Among (suc n) x
            among x (inl m) = let l = a.among x (mem-left mb m) in omega arith
            among x (inr (head e)) = omega arith
            among x (inr (tail m)) = let l = a.among x (mem-right ma m) in omega arith

            greatest : (es : List ℕ) → Good dep fits (ps ++ (s ∷ qs)) (suc n) es → Each (λ e m. e ≤ m) es (ma ++ (suc n ∷ mb))
            greatest es h =
                let c = cut es h in
                let r = each_cut c.ea ma (place ∙ sym (each_length c.fit_a)) (g (c.ea ++ c.eb) c.rest) in
                rw c.whole (each_join r.0 (Each.more c.top r.1))

        -- third case: an event of a later slot comes before the new event, so no tuple has that
        pub barred : Best dep fits (ps ++ qs) n (some (ma ++ mb)) → (m : ℕ) → Mem m mb → Before dep m (suc n) → {o : Option (List ℕ)}
            → Best dep fits (ps ++ (s ∷ qs)) n o → Best dep fits (ps ++ (s ∷ qs)) (suc n) o
        barred (best a g) m i p d = stays (λ es h j. never es (cut es h) j) d
          where
            old : {es : List ℕ} (c : Split es) → ¬ Mem (suc n) (c.ea ++ c.eb)
            old c j = let l = c.rest.among (suc n) j in omega arith

            f : Fitting fits ps ma × Fitting fits qs mb
            f = each_cut ps ma place a.fit

            at_s : {es : List ℕ} (c : Split es) → Mem (suc n) c.ea ⊎ Mem (suc n) (c.e ∷ c.eb) → suc n ≡ c.e
            at_s c (inl j) = absurd (old c (mem-left c.eb j))
            at_s c (inr (head q)) = q
            at_s c (inr (tail j)) = absurd (old c (mem-right c.ea j))

            never : (es : List ℕ) → Split es → Mem (suc n) es → ⊥
            never es c j =
                let q = at_s c (mem-append-cases c.ea (rw c.whole at j)) in
                let r = each_cut c.ea ma (place ∙ sym (each_length c.fit_a)) (g (c.ea ++ c.eb) c.rest) in
                let x = lower c.fit_b f.1 r.1 i in
                c.above x.0 x.1 (rw q at (before_trans dep x.2 p))

-- ---- later events change nothing

module _ {S : Type 0} {n : ℕ} {dep dep' : ℕ → ℕ → Bool} {fits fits' : S → ℕ → Bool} (agree : Agree n dep dep')
    (alike : (s : S) (i : ℕ) → i ≤ n → fits s i ≡ fits' s i) where
  good_back : {ss : List S} {es : List ℕ} → Good dep' fits' ss n es → Good dep fits ss n es
  good_back = good_carry (agree_back agree) (λ s i p. sym (alike s i p))

  pub best_carry : {ss : List S} {o : Option (List ℕ)} → Best dep fits ss n o → Best dep' fits' ss n o
  best_carry (best a g) = best (good_carry agree alike a) (λ es h. g es (good_back h))
  best_carry (no_tuple g) = no_tuple (λ es h. g es (good_back h))

module _ {E S : Type 0} (other : E) (dep : E → E → Bool) (fits : S → E → Bool) where
  pub best_append : (log later : List E) {ss : List S} {o : Option (List ℕ)} → BestOf other dep fits log ss o
      → Best (dep_at other dep (log ++ later)) (fits_at other fits (log ++ later)) ss (length log) o
  best_append log later =
      best_carry (agree_back (dep_append other dep log later)) (λ s i p. sym (fits_append other fits log later s i p))

  pub law_at_lem : LawL dep fits → (log : List E) → LawL (dep_at other dep log) (fits_at other fits log)
  law_at_lem law log s i j = law s (event_at other log i) (event_at other log j)
