-- Why there is no match: where the choice slot by slot stops there is a reason; a reason suffices, so that there is none with a match; and a list has
-- one at most. All under Law L.
-- Assumes nothing.
use mathlib.Core.Path.{◌≡◌, refl, sym, ap, ap₂, subst, ◌∙◌}
use mathlib.Core.Logic.{◌⊎◌, inl, inr, ◌↔◌}
use mathlib.Core.Bool.{Bool, true, false}
use mathlib.Core.List.Memᴰ.{head}
use mathlib.Core.List.Memᴰ.{tail}
use mathlib.Core.List.{List, [], ◌∷◌, ◌++◌, append_assoc, append-nil, Memᴰ as Mem}
use mathlib.Core.List.Memᴰ.{append_left as mem-left}
use mathlib.Core.List.Memᴰ.{append_right as mem-right}
use mathlib.Core.List.Memᴰ.{not-nil as not-mem-nil}
use Prim.Native.Nat.{ℕ, zero, suc, ◌≤◌, ◌<◌}
use native.Mathlib.Nat.{le_antisymm, le_refl}
use native.Mathlib.Decide.{dec_le, dec_lt}
use native.Mathlib.Omega.{arith}
use lib.ListN.{length}
use Rattle.trace.specs.Before.{Numbered, ComesBefore}
use Rattle.trace.specs.Match.{HasMatch, Each, Named}
use Rattle.trace.specs.First.{IsFirst}
use Rattle.trace.specs.Reason.{Obstacle, no_fit, last_fit, FirstEvents, InTheWay, none_fits, too_early, Reason}
use Rattle.trace.specs.Tuples.{Among, Before, Fitting, Good, event_at, dep_at, fits_at}
use Rattle.trace.proofs.Lists.{true_or_false, both_ways, failed, any_none, any_true}
use Rattle.trace.proofs.Rows.{each_mem, each_split, pairs_left, pairs_across}
use Rattle.trace.proofs.Before.{before, before_true, before_dep, before_trans}
use Rattle.trace.proofs.Numbers.{numbered_mem, numbered_among, numbered_at, at_numbered, comes_before_lem, before_comes, comes?, comes?_iff}
use Rattle.trace.proofs.Numbers.{named_good, good_named}
use Rattle.trace.proofs.Matches.{match_good}
use Rattle.trace.proofs.Search.{may, clear_may}
use Rattle.trace.proofs.Greatest.{LawL, law_at_lem}
use Rattle.trace.proofs.FirstChoice.{NoneOf, none_up, Chosen, start, next, choose}
use Rattle.trace.proofs.First.{ChosenOf, StuckOf, chosen_named, named_least, chosen_match, least_smaller}

-- ---- numbers and lists

-- the first of the numbers that passes a test, by its place among them; or that none does
data LowestIn (p : ℕ → Bool) (cs : List ℕ) : Type 0 where
  found : {i c : ℕ} → Numbered cs i c → p c ≡ true → ((j d : ℕ) → j < i → Numbered cs j d → p d ≡ false) → LowestIn p cs
  nowhere : ((c : ℕ) → Mem c cs → p c ≡ false) → LowestIn p cs

lowest_in : (p : ℕ → Bool) (cs : List ℕ) → LowestIn p cs
lowest_in p [] = nowhere (λ c m. absurd (not-mem-nil m))
lowest_in p (c ∷ cs) = go (true_or_false (p c)) (lowest_in p cs)
  where
    go : (p c ≡ true) ⊎ (p c ≡ false) → LowestIn p cs → LowestIn p (c ∷ cs)
    go (inl t) r = found Numbered.first t none_before
      where
        none_before : (j d : ℕ) → j < 1 → Numbered (c ∷ cs) j d → p d ≡ false
        none_before j d l n = let u = numbered_among n in absurd (let z : ⊥ = omega arith in z)
    go (inr f) (found {i = i} n t h) = found (Numbered.next n) t before
      where
        before : (j d : ℕ) → j < suc i → Numbered (c ∷ cs) j d → p d ≡ false
        before j d l Numbered.first = f
        before j d l (Numbered.next {i = k} m) = h k d (omega arith) m
    go (inr f) (nowhere h) = nowhere all
      where
        all : (d : ℕ) → Mem d (c ∷ cs) → p d ≡ false
        all d (head e) = rw e f
        all d (tail m) = h d m

-- the last of the numbers 1 to n that passes a test, or that none does
data LastOf (p : ℕ → Bool) (n : ℕ) : Type 0 where
  never : NoneOf p n → LastOf p n
  latest : {m : ℕ} → Among n m → p m ≡ true → ((k : ℕ) → Among n k → p k ≡ true → k ≤ m) → LastOf p n

last_of : (p : ℕ → Bool) (n : ℕ) → LastOf p n
last_of p zero = never (λ m u. absurd (let z : ⊥ = omega arith in z))
last_of p (suc n) = go (true_or_false (p (suc n))) (last_of p n)
  where
    go : (p (suc n) ≡ true) ⊎ (p (suc n) ≡ false) → LastOf p n → LastOf p (suc n)
    go (inl t) r = latest {m = suc n} (omega arith) t (λ k u f. u.1)
    go (inr f) (never d) = never (none_up d f)
    go (inr f) (latest {m = m} u t h) = latest {m = m} (omega arith) t (λ k v g. below k v g (dec_le k n))
      where
        below : (k : ℕ) → Among (suc n) k → p k ≡ true → Dec (k ≤ n) → k ≤ m
        below k v g (yes l) = h k (v.0, l) g
        below k v g (no d) = let e : k ≡ suc n = omega arith in absurd (both_ways (rw e at g) f)

-- ---- one list cut in two at two of its elements

module _ {S : Type 0} where
  -- at the same place, or the one before the other
  data Cuts (e f : List S) (s t : S) : Type 0 where
    alike : e ≡ f → s ≡ t → Cuts e f s t
    shorter : (more : List S) → f ≡ e ++ (s ∷ more) → Cuts e f s t
    longer : (more : List S) → e ≡ f ++ (t ∷ more) → Cuts e f s t

  cuts : (e f : List S) {s t : S} (xs ys : List S) → e ++ (s ∷ xs) ≡ f ++ (t ∷ ys) → Cuts e f s t
  cuts [] [] xs ys q = alike refl (cc)
  cuts [] (y ∷ f) {s} xs ys q = let p : y ≡ s = cc in shorter f (rw p refl)
  cuts (x ∷ e) [] {t = t} xs ys q = let p : x ≡ t = cc in longer e (rw p refl)
  cuts (x ∷ e) (y ∷ f) {s} {t} xs ys q =
      let p : x ≡ y = cc in
      let r : e ++ (s ∷ xs) ≡ f ++ (t ∷ ys) = cc in
      go p (cuts e f xs ys r)
    where
      go : x ≡ y → Cuts e f s t → Cuts (x ∷ e) (y ∷ f) s t
      go p (alike h k) = alike (ap₂ ◌∷◌ p h) k
      go p (shorter m h) = shorter m (ap₂ ◌∷◌ (sym p) h)
      go p (longer m h) = longer m (ap₂ ◌∷◌ p h)

-- ---- the slots that are filled

module _ {S : Type 0} (dep : ℕ → ℕ → Bool) (fits : S → ℕ → Bool) (n : ℕ) where
  -- the choice over the slots filled, whichever are left
  record Cut (ss left : List S) (cs : List ℕ) : Type 0 where
    filled : List S
    whole : ss ≡ filled ++ left
    steps : (more : List S) → Chosen dep fits n (filled ++ more) cs more

  cut : {ss left : List S} {cs : List ℕ} → Chosen dep fits n ss cs left → Cut ss left cs
  cut start = record { filled = []; whole = refl; steps = λ more. start }
  cut (next {s = s} {left = left} c f) =
      let p = cut c in
      record {
        filled = p.filled ++ (s ∷ []);
        whole = p.whole ∙ sym (append_assoc p.filled (s ∷ []) left);
        steps = λ more. rw append_assoc (next (p.steps (s ∷ more)) f);
      }

  -- an event of a good tuple that is no smaller than another for its slot: the other comes before it or is it
  partner : LawL dep fits → {ss : List S} {cs es : List ℕ} → Fitting fits ss cs → Fitting fits ss es → Each (λ e f. e ≤ f) cs es
      → {c : ℕ} → Mem c cs → (e : ℕ) × Mem e es × Before dep c e
  partner law Each.none c d m = elim m [ ]
  partner law (Each.more {s = s} {a = a} t f) (Each.more {a = e} u g) (Each.more l h) (head q) =
      (e, head refl, rw q (before_dep dep l (law s a e t u)))
  partner law (Each.more t f) (Each.more u g) (Each.more l h) (tail m) =
      let r = partner law f g h m in
      (r.0, tail r.1, r.2)

-- ---- where the choice stops there is a reason

module _ {E S : Type 0} (other : E) (dep : E → E → Bool) (fits : S → E → Bool) (log : List E) where
  listed : {ss : List S} {n : ℕ} {is : List ℕ} → Named dep fits ss log n is → (i : ℕ) → Mem i is → Among (length log) i
  listed h i m = numbered_among (each_mem h.fitting m).2.1

  -- each event that fits the slot comes before one of those chosen or is it
  pub stuck_barred : (left : List S) {s : S} {cs : List ℕ} → ((c : ℕ) → Mem c cs → Among (length log) c)
      → StuckOf other dep fits log (s ∷ left) cs → {i : ℕ} {e : E} → Numbered log i e → fits s e ≡ true → (c : ℕ) × Mem c cs × ComesBefore dep log i c
  stuck_barred left {s} {cs} h d {i} {e} n f = go (lowest_in (comes? other dep log i) cs)
    where
      go : LowestIn (comes? other dep log i) cs → (c : ℕ) × Mem c cs × ComesBefore dep log i c
      go (found {c = c} m t k) = (c, numbered_mem m, (comes?_iff other dep log i c).0 t)
      go (nowhere k) =
          absurd
          (both_ways
          (clear_may (dep_at other dep log) (fits_at other fits log) (length log) s cs i (rw (numbered_at other n) f) clear)
          (d i (numbered_among n)))
        where
          clear : (c : ℕ) → Mem c cs → ¬ Before (dep_at other dep log) i c
          clear c m b =
              both_ways ((comes?_iff other dep log i c).1 (before_comes other dep log (numbered_among n).0 (h c m).1 b)) (k c m)

  module _ (law : LawL dep fits) where
    -- those chosen are the first events for their slots
    pub chosen_events : {ss : List S} {cs : List ℕ} → ChosenOf other dep fits ss log cs [] → FirstEvents dep fits ss log cs
    chosen_events {ss} {cs} c =
        let h = chosen_named other dep fits ss log law c in
        record {
          named =
              record {
                distinct = h.distinct;
                fitting = h.fitting;
                within = λ i m. (listed h i m).1;
                apart = h.apart;
              };
          least = λ others k. named_least other dep fits ss log law c k;
        }

    -- what stands in the way of the slot that finds none is then the reason
    pub stopped : {ss left : List S} {s : S} {cs : List ℕ} {o : Obstacle} → ChosenOf other dep fits ss log cs (s ∷ left)
        → InTheWay dep fits log s cs o → Reason dep fits ss log cs o
    stopped {left = left} {s = s} {cs = cs} c w =
        let p = cut (dep_at other dep log) (fits_at other fits log) (length log) c in
        record {
          earlier = p.filled;
          slot = s;
          later = left;
          slots = p.whole;
          first = chosen_events (rw append-nil at (p.steps []));
          obstacle = w;
        }

    -- Where a slot finds no event, there is a reason,
    pub stuck_reason : {ss left : List S} {s : S} {cs : List ℕ} → ChosenOf other dep fits ss log cs (s ∷ left)
        → StuckOf other dep fits log (s ∷ left) cs → (o : Obstacle) × Reason dep fits ss log cs o
    stuck_reason {ss} {left} {s} {cs} c d = let r = way (last_of (fits_at other fits log s) (length log)) in (r.0, stopped c r.1)
      where
        events : FirstEvents dep fits (cut (dep_at other dep log) (fits_at other fits log) (length log) c).filled log cs
        events = chosen_events (rw append-nil at ((cut (dep_at other dep log) (fits_at other fits log) (length log) c).steps []))

        lowest : {l : ℕ} → Among (length log) l → fits s (event_at other log l) ≡ true
            → ((m : ℕ) (a : E) → Numbered log m a → fits s a ≡ true → m ≤ l) → LowestIn (comes? other dep log l) cs
            → (o : Obstacle) × InTheWay dep fits log s cs o
        lowest {l} u t h (found {i = i} {c = c} n k b) = (
          last_fit l i,
          too_early (at_numbered other log l u) t h n ((comes?_iff other dep log l c).0 k)
              (λ j e v m w. both_ways ((comes?_iff other dep log l e).1 w) (b j e v m)),
        )
        lowest {l} u t h (nowhere b) =
            let r = stuck_barred left (listed events.named) d (at_numbered other log l u) t in
            absurd (both_ways ((comes?_iff other dep log l r.0).1 r.2) (b r.0 r.1))

        way : LastOf (fits_at other fits log s) (length log) → (o : Obstacle) × InTheWay dep fits log s cs o
        way (never h) = (no_fit, none_fits (λ i e n. rw (numbered_at other n) at (h i (numbered_among n))))
        way (latest {m = l} u t h) =
            lowest u t (λ m a n f. h m (numbered_among n) (rw (numbered_at other n) f)) (lowest_in (comes? other dep log l) cs)

    -- ---- a reason suffices

    -- a good tuple beside the first events: its event for the slot comes before none of the events before it, and is none of them
    record Ahead (earlier : List S) (slot : S) : Type 0 where
      ahead : List ℕ
      event : ℕ
      named : Named dep fits earlier log (length log) ahead
      fit : Fitting (fits_at other fits log) earlier ahead
      among : Among (length log) event
      fills : fits_at other fits log slot event ≡ true
      apart : (e : ℕ) → Mem e ahead → ¬ Before (dep_at other dep log) event e

    ahead_of : (earlier : List S) (slot : S) (later : List S) {es : List ℕ}
        → Good (dep_at other dep log) (fits_at other fits log) (earlier ++ (slot ∷ later)) (length log) es → Ahead earlier slot
    ahead_of earlier slot later {es} g = let p = each_split earlier g.fit in go p.0 p.2 p.3 p.4
      where
        go : (ahead : List ℕ) {rest : List ℕ} → es ≡ ahead ++ rest → Fitting (fits_at other fits log) earlier ahead
            → Fitting (fits_at other fits log) (slot ∷ later) rest → Ahead earlier slot
        go ahead q f (Each.more {a = e} {rest = rest} t k) =
            let apart = rw q at g.apart in
            let among : (i : ℕ) → Mem i (ahead ++ (e ∷ rest)) → Among (length log) i = λ i m. g.among i (rw q m) in
            record {
              ahead = ahead;
              event = e;
              named =
                  good_named other dep fits earlier log (length log) ahead (le_refl (length log))
                  (record { fit = f; apart = pairs_left ahead (e ∷ rest) apart; among = λ i m. among i (mem-left (e ∷ rest) m) });
              fit = f;
              among = among e (mem-right ahead (head refl));
              fills = t;
              apart = λ i m. pairs_across ahead apart i m e (head refl);
            }

    suffices : (earlier : List S) (slot : S) (later : List S) {cs : List ℕ} {o : Obstacle} → FirstEvents dep fits earlier log cs
        → InTheWay dep fits log slot cs o → ¬ HasMatch dep fits (earlier ++ (slot ∷ later)) log
    suffices earlier slot later {cs} first way h = go way
      where
        a : Ahead earlier slot
        a = ahead_of earlier slot later ((match_good other dep fits (earlier ++ (slot ∷ later)) log).0 h).1

        go : {o : Obstacle} → InTheWay dep fits log slot cs o → ⊥
        go (none_fits d) = both_ways a.fills (d a.event (event_at other log a.event) (at_numbered other log a.event a.among))
        go (too_early {l = l} {c = c} {e = e} n f last m b k) =
            let u = last a.event (event_at other log a.event) (at_numbered other log a.event a.among) a.fills in
            let p =
            partner (dep_at other dep log) (fits_at other fits log) (length log) (law_at_lem other dep fits law log)
            (named_good other dep fits earlier log (length log) cs first.named).fit a.fit (first.least a.ahead a.named)
            (numbered_mem m) in
            let d = before_dep (dep_at other dep log) u (law slot (event_at other log a.event) (event_at other log l) a.fills (rw (numbered_at other n) f)) in
            a.apart p.0 p.1
            (before_trans (dep_at other dep log) (before_trans (dep_at other dep log) d (comes_before_lem other dep log b)) p.2)

    -- Whenever there is such a reason, no order of the list holds the pattern: to check the reason is enough.
    pub reason_no_match : {ss : List S} {cs : List ℕ} {o : Obstacle} → Reason dep fits ss log cs o → ¬ HasMatch dep fits ss log
    reason_no_match r h = suffices r.earlier r.slot r.later r.first r.obstacle (subst (λ ss. HasMatch dep fits ss log) r.slots h)

    -- A list has no match exactly where there is a reason.
    pub reason_iff : (ss : List S) → (¬ HasMatch dep fits ss log) ↔ ((cs : List ℕ) × (o : Obstacle) × Reason dep fits ss log cs o)
    reason_iff ss = (
      λ d. let r = choose (dep_at other dep log) (fits_at other fits log) (length log) ss in there d r.steps r.stuck,
      λ r. reason_no_match r.2,
    )
      where
        there : ¬ HasMatch dep fits ss log → {cs : List ℕ} {left : List S} → ChosenOf other dep fits ss log cs left
            → StuckOf other dep fits log left cs → (cs : List ℕ) × (o : Obstacle) × Reason dep fits ss log cs o
        there d {left = []} c u = absurd (d (chosen_match other dep fits ss log law c))
        there d {cs = cs} {left = s ∷ left} c u = let r = stuck_reason c u in (cs, r.0, r.1)

    -- ---- a list has one reason at most

    events_match : {ss : List S} {cs : List ℕ} → FirstEvents dep fits ss log cs → HasMatch dep fits ss log
    events_match {ss} {cs} h =
        (match_good other dep fits ss log).1 (cs, named_good other dep fits ss log (length log) cs h.named)

    events_one : {ss : List S} {cs ds : List ℕ} → FirstEvents dep fits ss log cs → FirstEvents dep fits ss log ds → cs ≡ ds
    events_one {cs = cs} {ds = ds} h k = both (h.least ds k.named) (k.least cs h.named)
      where
        both : {is js : List ℕ} → Each (λ e f. e ≤ f) is js → Each (λ e f. e ≤ f) js is → is ≡ js
        both Each.none Each.none = refl
        both (Each.more l p) (Each.more u q) = ap₂ ◌∷◌ (le_antisymm l u) (both p q)

    way_one : {s : S} {cs : List ℕ} {o p : Obstacle} → InTheWay dep fits log s cs o → InTheWay dep fits log s cs p → o ≡ p
    way_one (none_fits d) (none_fits k) = refl
    way_one (none_fits d) (too_early {l = l} {e = e} n f last m b k) = absurd (both_ways f (d l e n))
    way_one (too_early {l = l} {e = e} n f last m b k) (none_fits d) = absurd (both_ways f (d l e n))
    way_one {cs = cs} (too_early {l = l} {i = i} {c = c} {e = e} n f last m b k) (too_early {l = l'} {i = i'} {c = c'} {e = e'} n' f' last' m' b' k') =
        ap₂ last_fit q (slots (dec_lt i i') (dec_lt i' i))
      where
        q : l ≡ l'
        q = le_antisymm (last' l e n f) (last l' e' n' f')

        slots : Dec (i < i') → Dec (i' < i) → i ≡ i'
        slots (yes u) v = absurd (k' i c u m (rw q at b))
        slots (no u) (yes v) = absurd (k i' c' v m' (rw q b'))
        slots (no u) (no v) = omega arith

    pub reason_one : {ss : List S} {cs ds : List ℕ} {o p : Obstacle} → Reason dep fits ss log cs o → Reason dep fits ss log ds p
        → (cs ≡ ds) × (o ≡ p)
    reason_one {cs = cs} {ds = ds} {o = o} {p = p} r t = go r.first r.obstacle (cuts r.earlier t.earlier r.later t.later (sym r.slots ∙ t.slots))
      where
        go : {e : List S} {s : S} → FirstEvents dep fits e log cs → InTheWay dep fits log s cs o → Cuts e t.earlier s t.slot → (cs ≡ ds) × (o ≡ p)
        go {e} {s} first way (shorter more q) =
            absurd (suffices e s more first way (subst (λ ss. HasMatch dep fits ss log) q (events_match t.first)))
        go first way (longer more q) =
            absurd (suffices t.earlier t.slot more t.first t.obstacle (subst (λ ss. HasMatch dep fits ss log) q (events_match first)))
        go first way (alike q u) =
            let c = events_one (rw q at first) t.first in
            (c, way_one (rw (u, c) at way) t.obstacle)

    -- ---- the first events are the first list of Note 5 for their slots

    pub events_first : {ss : List S} {cs : List ℕ} → FirstEvents dep fits ss log cs → IsFirst dep fits ss log (length log) cs
    events_first h = record { named = h.named; smallest = λ others k d. least_smaller (h.least others k) d }
