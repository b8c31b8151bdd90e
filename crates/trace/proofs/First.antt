-- The first example: the choice slot by slot over a list of events is the list that `IsFirst` asks for, its greatest number is
-- the count, and where a slot finds no event there is no match. All under Law L.
-- Assumes nothing.
use mathlib.Core.Path.{◌≡◌, refl, sym, ap₂, subst}
use mathlib.Core.Bool.{Bool}
use mathlib.Core.List.Memᴰ.{head}
use mathlib.Core.List.Memᴰ.{tail}
use mathlib.Core.List.{List, [], ◌∷◌, List-discrete, Memᴰ as Mem}
use Prim.Native.Nat.{ℕ, ◌≤◌, ◌<◌}
use native.Mathlib.Nat.{le_refl}
use native.Mathlib.Decide.{dec_lt, ℕ_discrete}
use native.Mathlib.Omega.{arith}
use lib.ListN.{length, take}
use Rattle.trace.specs.Match.{HasMatch, IsCount, smallest, Each, Named}
use Rattle.trace.specs.First.{Smaller, here, later, IsFirst}
use Rattle.trace.specs.Tuples.{dep_at, fits_at, Good}
use Rattle.trace.proofs.Rows.{each_mem}
use Rattle.trace.proofs.Tallies.{join}
use Rattle.trace.proofs.Numbers.{numbered_among, named_good, good_named}
use Rattle.trace.proofs.Matches.{match_good, leading_good}
use Rattle.trace.proofs.Counts.{count_unique}
use Rattle.trace.proofs.Greatest.{LawL, law_at_lem}
use Rattle.trace.proofs.FirstChoice.{Chosen, Stuck, choose, chosen_good, chosen_least, stuck_none}

-- ---- smaller at the first place where they differ

pub smaller_turned : {is js : List ℕ} → Smaller is js → ¬ Smaller js is
smaller_turned r q = turned r q refl refl
  where
    turned : {is js ks ls : List ℕ} → Smaller is js → Smaller ks ls → ks ≡ js → ls ≡ is → ⊥
    turned (here {i = i} {j = j} l) (here {i = k} {j = m} h) e f =
        let p : k ≡ j = cc in
        let q : m ≡ i = cc in
        omega arith
    turned (here {i = i} {j = j} l) (later {i = k} r) e f =
        let p : k ≡ j = cc in
        let q : k ≡ i = cc in
        omega arith
    turned (later {i = i} r) (here {i = k} {j = m} h) e f =
        let p : k ≡ i = cc in
        let q : m ≡ i = cc in
        omega arith
    turned (later {is = is} {js = js} r) (later {is = ks} {js = ls} q) e f =
        let p : ks ≡ js = cc in
        let p' : ls ≡ is = cc in
        turned r q p p'

-- what is least in every place is smaller than what differs from it
pub least_smaller : {is js : List ℕ} → Each (λ i j. i ≤ j) is js → ¬ (is ≡ js) → Smaller is js
least_smaller Each.none d = absurd (d refl)
least_smaller (Each.more {s = i} {ss = is} {a = j} {rest = js} l c) d = go (dec_lt i j) (λ e. least_smaller c e)
  where
    go : Dec (i < j) → (¬ (is ≡ js) → Smaller is js) → Smaller (i ∷ is) (j ∷ js)
    go (yes h) ih = here h
    go (no n) ih =
        let q : i ≡ j = omega arith in
        rw q (later (ih (λ p. d (ap₂ ◌∷◌ q p))))

-- the greatest of the numbers
abbrev pub greatest : List ℕ → ℕ
greatest = join (λ i. i)

greatest_le : (b : ℕ) (is : List ℕ) → ((i : ℕ) → Mem i is → i ≤ b) → greatest is ≤ b
greatest_le b [] h = omega arith
greatest_le b (i ∷ is) h =
    let p = h i (head refl) in
    let q = greatest_le b is (λ j m. h j (tail m)) in
    omega arith

le_greatest : {i : ℕ} (is : List ℕ) → Mem i is → i ≤ greatest is
le_greatest [] m = elim m [ ]
le_greatest (j ∷ is) (head e) = omega arith
le_greatest (j ∷ is) (tail m) = let h = le_greatest is m in omega arith

least_greatest : {is js : List ℕ} → Each (λ i j. i ≤ j) is js → greatest is ≤ greatest js
least_greatest Each.none = le_refl 0
least_greatest (Each.more l c) = let h = least_greatest c in omega arith

-- ---- the first list, whatever the events

module _ {E S : Type 0} (dep : E → E → Bool) (fits : S → E → Bool) {ss : List S} {log : List E} {count : ℕ} where
  -- there is one first list at most
  pub first_unique : {is js : List ℕ} → IsFirst dep fits ss log count is → IsFirst dep fits ss log count js → is ≡ js
  first_unique {is} {js} h g = go (List-discrete ℕ_discrete is js)
    where
      go : Dec (is ≡ js) → is ≡ js
      go (yes e) = e
      go (no d) = absurd (smaller_turned (h.smallest js g.named d) (g.smallest is h.named (λ e. d (sym e))))

-- ---- the choice over a list of events

module _ {E S : Type 0} (other : E) (dep : E → E → Bool) (fits : S → E → Bool) where
  -- the steps of a choice over a list, and that the first of the slots left finds no event
  abbrev pub ChosenOf : List S → List E → List ℕ → List S → Type 0
  ChosenOf ss log = Chosen (dep_at other dep log) (fits_at other fits log) (length log) ss

  abbrev pub StuckOf : List E → List S → List ℕ → Type 0
  StuckOf log = Stuck (dep_at other dep log) (fits_at other fits log) (length log)

  module _ (ss : List S) (log : List E) (law : LawL dep fits) where
    abbrev law_at : LawL (dep_at other dep log) (fits_at other fits log)
    law_at = law_at_lem other dep fits law log

    -- Where a slot finds no event, there is no match.
    pub stuck_no_match : {s : S} {left : List S} {cs : List ℕ} → ChosenOf ss log cs (s ∷ left) → StuckOf log (s ∷ left) cs
        → ¬ HasMatch dep fits ss log
    stuck_no_match steps d h =
        let r = (match_good other dep fits ss log).0 h in
        stuck_none (dep_at other dep log) (fits_at other fits log) (length log) law_at steps d r.1

    -- Where each slot finds its event:
    module _ {cs : List ℕ} (steps : ChosenOf ss log cs []) where
      good : Good (dep_at other dep log) (fits_at other fits log) ss (length log) cs
      good = chosen_good (dep_at other dep log) (fits_at other fits log) (length log) steps

      least : {n : ℕ} {is : List ℕ} → Good (dep_at other dep log) (fits_at other fits log) ss n is → n ≤ length log
          → Each (λ e f. e ≤ f) cs is
      least h l =
          chosen_least (dep_at other dep log) (fits_at other fits log) (length log) law_at steps
          (record { fit = h.fit; apart = h.apart; among = λ i m. let r = h.among i m in omega arith })

      within : greatest cs ≤ length log
      within = greatest_le (length log) cs (λ i m. (good.among i m).1)

      good_within : Good (dep_at other dep log) (fits_at other fits log) ss (greatest cs) cs
      good_within =
          record { fit = good.fit; apart = good.apart; among = λ i m. ((good.among i m).0, le_greatest cs m) }

      -- the chosen satisfy the rule, within the greatest of them,
      pub chosen_named : Named dep fits ss log (greatest cs) cs
      chosen_named = good_named other dep fits ss log (greatest cs) cs within good_within

      -- are least in every slot among all lists that satisfy it,
      pub named_least : {n : ℕ} {is : List ℕ} → Named dep fits ss log n is → Each (λ e f. e ≤ f) cs is
      named_least {n} {is} h = least listed (le_refl (length log))
        where
          listed : Good (dep_at other dep log) (fits_at other fits log) ss (length log) is
          listed =
              let g = named_good other dep fits ss log n is h in
              record {
                fit = g.fit;
                apart = g.apart;
                among = λ i m. numbered_among (each_mem h.fitting m).2.1;
              }

      -- the greatest of them is the count,
      pub chosen_count : IsCount dep fits ss log (greatest cs)
      chosen_count =
          smallest {n = greatest cs} within ((leading_good other dep fits ss log (greatest cs) within).1 (cs, good_within)) below
        where
          below : (m : ℕ) → m < greatest cs → ¬ HasMatch dep fits ss (take m log)
          below m l h =
              let t = within in
              let r = (leading_good other dep fits ss log m (omega arith)).0 h in
              let p = least_greatest (least r.1 (omega arith)) in
              let q = greatest_le m r.0 (λ i k. (r.1.among i k).1) in
              omega arith

      -- and they are the first list for it.
      pub chosen_first : IsFirst dep fits ss log (greatest cs) cs
      chosen_first = record { named = chosen_named; smallest = λ js n d. least_smaller (named_least n) d }

      pub chosen_match : HasMatch dep fits ss log
      chosen_match = (match_good other dep fits ss log).1 (cs, good)

-- ---- what the choice says of a list

-- after a choice over a list: its chosen, and the slots left
pub data Tells {E S : Type 0} (dep : E → E → Bool) (fits : S → E → Bool) (ss : List S) (log : List E) : List ℕ → List S → Type 0
  where
    -- an event for each slot: the first list, and the count
    match : {cs : List ℕ} → HasMatch dep fits ss log → IsCount dep fits ss log (greatest cs)
        → IsFirst dep fits ss log (greatest cs) cs → Tells dep fits ss log cs []
    -- a slot finds none: no match
    no_match : {cs : List ℕ} {s : S} {left : List S} → ¬ HasMatch dep fits ss log → Tells dep fits ss log cs (s ∷ left)

module _ {E S : Type 0} (other : E) (dep : E → E → Bool) (fits : S → E → Bool) (law : LawL dep fits) (ss : List S) (log : List E)
  where
    -- The choice tells whether there is a match, with the count and the first list.
    pub chosen_tells : {cs : List ℕ} {left : List S} → ChosenOf other dep fits ss log cs left → StuckOf other dep fits log left cs
        → Tells dep fits ss log cs left
    chosen_tells {left = []} c d =
        match (chosen_match other dep fits ss log law c) (chosen_count other dep fits ss log law c)
        (chosen_first other dep fits ss log law c)
    chosen_tells {left = s ∷ left} c d = no_match (stuck_no_match other dep fits ss log law c d)

    -- Where there is a match there is exactly one first list for its count: the chosen.
    pub first_one : {count : ℕ} → HasMatch dep fits ss log → IsCount dep fits ss log count
        → (is : List ℕ) × IsFirst dep fits ss log count is × ((js : List ℕ) → IsFirst dep fits ss log count js → js ≡ is)
    first_one {count} h k =
        let r = choose (dep_at other dep log) (fits_at other fits log) (length log) ss in
        go (chosen_tells r.steps r.stuck)
      where
        go : {cs : List ℕ} {left : List S} → Tells dep fits ss log cs left
            → (is : List ℕ) × IsFirst dep fits ss log count is × ((js : List ℕ) → IsFirst dep fits ss log count js → js ≡ is)
        go (match {cs = cs} m c f) =
            let first = subst (λ n. IsFirst dep fits ss log n cs) (count_unique dep fits c k) f in
            (cs, first, λ js g. first_unique dep fits g first)
        go (no_match d) = absurd (d h)
