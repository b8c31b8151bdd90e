-- The one pass as events arrive at a list: what was chosen from the list so far stays, and each move of the pass is one of the choice.
-- What it needs of the event that arrives is which slots it fits, and its place and its stamp where slots are left to look for.
-- Assumes nothing.
use mathlib.Core.Path.{◌≡◌, refl, sym, ap, ap₂, subst, ◌∙◌}
use mathlib.Core.Bool.{Bool, true, false, not, cond, ◌&&◌, ◌||◌}
use mathlib.Core.List.Memᴰ.{head}
use mathlib.Core.List.Memᴰ.{tail}
use mathlib.Core.List.{List, [], ◌∷◌, ◌++◌, Memᴰ as Mem}
use Prim.Native.Nat.{ℕ, suc, ◌≤◌, max}
use native.Mathlib.Omega.{arith}
use lib.Dec.{eqb, leb}
use lib.ListN.{length, length-append}
use borrow.Author.Tests.{eq-eqb}
use Rattle.trace.specs.Tuples.{event_at, dep_at, fits_at, thread_at, Among, one_more, tally, place}
use Rattle.trace.proofs.Lists.{any, length_snoc}
use Rattle.trace.proofs.Before.{before_same, Agree, agree_back}
use Rattle.trace.proofs.Tallies.{tally_same, join}
use Rattle.trace.proofs.Search.{may}
use Rattle.trace.proofs.Numbers.{event_append, event_new, dep_append, fits_append}
use Rattle.trace.proofs.Stamps.{place_carry, stamp_of, stamp_append}
use Rattle.trace.proofs.FirstChoice.{FirstOf, NoneOf, none_up, Chosen, start, next, Stuck, chosen_part}
use Rattle.trace.proofs.First.{ChosenOf, StuckOf}
use Rattle.trace.proofs.FirstScan.{above, first_same, none_same, join_snoc, place_count, Bounds, chosen_more, newest_may}
use Rattle.trace.proofs.FirstScan.{above_may, note_one, bound_none}

-- ---- later events change nothing

module _ {C : Type 0} where
  any_same : {p q : C → Bool} (cs : List C) → ((c : C) → Mem c cs → p c ≡ q c) → any p cs ≡ any q cs
  any_same [] h = refl
  any_same (c ∷ cs) h = ap₂ ◌||◌ (h c (head refl)) (any_same cs (λ d m. h d (tail m)))

  join_same : {f g : C → ℕ} (cs : List C) → ((c : C) → Mem c cs → f c ≡ g c) → join f cs ≡ join g cs
  join_same [] h = refl
  join_same (c ∷ cs) h = ap₂ max (h c (head refl)) (join_same cs (λ d m. h d (tail m)))

module _ {S : Type 0} {n : ℕ} {dep dep' : ℕ → ℕ → Bool} {fits fits' : S → ℕ → Bool} (agree : Agree n dep dep')
    (alike : (s : S) (i : ℕ) → i ≤ n → fits s i ≡ fits' s i) where
  may_same : (s : S) (cs : List ℕ) → ((c : ℕ) → Mem c cs → Among n c) → (i : ℕ) → Among n i
      → may dep fits n s cs i ≡ may dep' fits' n s cs i
  may_same s cs h i u =
      ap₂ ◌&&◌ (alike s i u.1) (ap not (any_same cs (λ c m. before_same agree i c (h c m).1)))

  pub chosen_carry : {ss left : List S} {cs : List ℕ} → Chosen dep fits n ss cs left → Chosen dep' fits' n ss cs left
  chosen_carry start = start
  chosen_carry (next {cs = cs} {s = s} c f) =
      next (chosen_carry c) (first_same (may_same s cs (chosen_part dep fits n c).good.among) f)

  stuck_carry : (left : List S) (cs : List ℕ) → ((c : ℕ) → Mem c cs → Among n c) → Stuck dep fits n left cs
      → Stuck dep' fits' n left cs
  stuck_carry [] cs h d = tt
  stuck_carry (s ∷ left) cs h d = none_same (may_same s cs h) d

  module _ {thread thread' : ℕ → ℕ} (threads : (i : ℕ) → i ≤ n → thread i ≡ thread' i) where
    bound_carry : {s : S} {l : ℕ} → Bounds thread fits n s l → Bounds thread' fits' n s l
    bound_carry {s} h = record { most = λ m u f. rw (sym (place_carry threads m u.1)) (h.most m u (alike s m u.1 ∙ f)) }

-- ---- places by counting

module _ {E : Type 0} (other : E) (thread : E → ℕ) where
  -- how many events of the thread t the list has
  abbrev pub seen : List E → ℕ → ℕ
  seen log t = tally (λ k. eqb (thread_at other thread log k) t) (length log)

  module _ (log : List E) (e : E) where
    seen_new : (t : ℕ) → tally (λ k. eqb (thread_at other thread (log ++ (e ∷ [])) k) t) (suc (length log))
        ≡ one_more (eqb (thread e) t) (seen log t)
    seen_new t =
        ap₂ one_more (ap (λ a. eqb (thread a) t) (event_new other log e))
        (tally_same (λ k. eqb (thread_at other thread (log ++ (e ∷ [])) k) t) (λ k. eqb (thread_at other thread log k) t) (length log)
        (λ k u. ap (λ a. eqb (thread a) t) (event_append other log (e ∷ []) k u.1)))

    -- one more of its own thread with each event,
    pub seen_snoc : (t : ℕ) → seen (log ++ (e ∷ [])) t ≡ one_more (eqb (thread e) t) (seen log t)
    seen_snoc t = ap (tally (λ k. eqb (thread_at other thread (log ++ (e ∷ [])) k) t)) (length_snoc log e) ∙ seen_new t

    -- and that is the event's place
    pub place_seen : place (thread_at other thread (log ++ (e ∷ []))) (suc (length log)) ≡ suc (seen log (thread e))
    place_seen =
        place_count (thread_at other thread (log ++ (e ∷ []))) (suc (length log)) (thread e) (ap thread (event_new other log e))
        ∙ seen_new (thread e)
        ∙ ap (λ b. one_more b (seen log (thread e))) (eq-eqb (thread e) (thread e) refl)

-- ---- a list of events

module _ {E S : Type 0} (other : E) (dep : E → E → Bool) (thread : E → ℕ) (fits : S → E → Bool) where
  -- which events fit the slot and have a place above j
  abbrev pub above_of : List E → S → ℕ → ℕ → Bool
  above_of log = above (fits_at other fits log) (place (thread_at other thread log))

  -- no event that fits s has a place above l
  abbrev pub BoundOf : List E → S → ℕ → Type 0
  BoundOf log = Bounds (thread_at other thread log) (fits_at other fits log) (length log)

  -- what the stamps of the chosen, joined, count of a thread
  abbrev pub join_of : List E → List ℕ → ℕ → ℕ
  join_of log cs t = join (λ c. stamp_of other dep thread log c t) cs

  pub join_one : (log : List E) (cs : List ℕ) (c t : ℕ) → max (stamp_of other dep thread log c t) (join_of log cs t) ≡ join_of log (cs ++ (c ∷ [])) t
  join_one log cs c t = join_snoc (λ c. stamp_of other dep thread log c t) cs c

  -- the chosen are events of the list,
  pub chosen_among : {ss left : List S} {cs : List ℕ} (log : List E) → ChosenOf other dep fits ss log cs left → (c : ℕ) → Mem c cs → Among (length log) c
  chosen_among log c = (chosen_part (dep_at other dep log) (fits_at other fits log) (length log) c).good.among

  -- and stay chosen, with their stamps, as events follow
  pub chosen_append : {ss left : List S} {cs : List ℕ} (log later : List E) → ChosenOf other dep fits ss log cs left
      → ChosenOf other dep fits ss (log ++ later) cs left
  chosen_append log later c =
      chosen_more (rw length-append (omega arith))
      (chosen_carry (agree_back (dep_append other dep log later)) (λ s i l. sym (fits_append other fits log later s i l)) c)

  pub join_append : {ss left : List S} {cs : List ℕ} (log later : List E) → ChosenOf other dep fits ss log cs left
      → (t : ℕ) → join_of (log ++ later) cs t ≡ join_of log cs t
  join_append {cs = cs} log later k t = join_same cs (λ c m. stamp_append other dep thread log later c t (chosen_among log k c m).1)

  -- An event e arrives, while the slot s is looked for and no event so far can fill it.
  module _ (log : List E) (e : E) {ss : List S} {cs : List ℕ} {s : S} {left : List S} (k : ChosenOf other dep fits ss log cs (s ∷ left))
      (d : StuckOf other dep fits log (s ∷ left) cs) where
    abbrev longer : List E
    longer = log ++ (e ∷ [])

    new_may : may (dep_at other dep longer) (fits_at other fits longer) (suc (length log)) s cs (suc (length log)) ≡ fits s e
    new_may =
        newest_may (dep_at other dep longer) (fits_at other fits longer) (length log) (suc (length log)) s cs (λ c m. (chosen_among log k c m).1)
        ∙ ap (fits s) (event_new other log e)

    old_none : NoneOf (may (dep_at other dep longer) (fits_at other fits longer) (length log) s cs) (length log)
    old_none =
        stuck_carry (agree_back (dep_append other dep log (e ∷ []))) (λ s i l. sym (fits_append other fits log (e ∷ []) s i l)) (s ∷ left) cs
        (chosen_among log k) d

    -- It does not fit the slot: the pass goes on.
    pub arrives_passes : fits s e ≡ false → StuckOf other dep fits longer (s ∷ left) cs
    arrives_passes f = rw (length_snoc log e) (none_up old_none (new_may ∙ f))

    -- It fits: it is chosen.
    pub arrives_takes : fits s e ≡ true → ChosenOf other dep fits ss longer (cs ++ (suc (length log) ∷ [])) left
    arrives_takes t =
        next {e = suc (length log)} (chosen_append log (e ∷ []) k)
        (rw (length_snoc log e) (omega arith, new_may ∙ t, λ m u v. old_none m (u, omega arith)))

  -- no event yet
  pub bound_begins : (s : S) → BoundOf [] s 0
  bound_begins s = record { most = λ m u. absurd (omega arith) }

  module _ (one_thread : (a b : E) → thread a ≡ thread b → dep a b ≡ true) (of : S → ℕ)
      (of_slot : (s : S) (e : E) → fits s e ≡ true → thread e ≡ of s) where
    -- the laws at the numbers of a list
    one_at : (log : List E) (i j : ℕ) → thread_at other thread log i ≡ thread_at other thread log j → dep_at other dep log i j ≡ true
    one_at log i j = one_thread (event_at other log i) (event_at other log j)

    of_at : (log : List E) (s : S) (i : ℕ) → fits_at other fits log s i ≡ true → thread_at other thread log i ≡ of s
    of_at log s i = of_slot s (event_at other log i)

    -- an event arrives: where it passes a test as that of `note_one`, its place is the bound
    pub bound_arrives : (log : List E) (e : E) {s : S} {l : ℕ} (b : Bool) → (fits s e ≡ true → b ≡ true) → (b ≡ true → thread e ≡ of s) → BoundOf log s l
        → BoundOf (log ++ (e ∷ [])) s (cond b (place (thread_at other thread (log ++ (e ∷ []))) (suc (length log))) l)
    bound_arrives log e {s} b all own h =
        rw (length_snoc log e)
        (note_one (dep_at other dep longer) (thread_at other thread longer) (one_at longer) (fits_at other fits longer) of (of_at longer) b
        (λ t. all (subst (λ a. fits s a ≡ true) (event_new other log e) t))
        (λ t. ap thread (event_new other log e) ∙ own t)
        (bound_carry (agree_back (dep_append other dep log (e ∷ []))) (λ s i l. sym (fits_append other fits log (e ∷ []) s i l))
        (λ i l. ap thread (sym (event_append other log (e ∷ []) i l))) h))
      where
        longer : List E
        longer = log ++ (e ∷ [])

    -- After a choice, j being what the stamps of the chosen count of the thread of the slot s, which is looked for then:
    module _ (log : List E) {ss : List S} {cs : List ℕ} {s : S} {left : List S} (k : ChosenOf other dep fits ss log cs (s ∷ left)) {j : ℕ}
        (joined : j ≡ join_of log cs (of s)) where
      tests : (i : ℕ) → Among (length log) i → above_of log s j i ≡ may (dep_at other dep log) (fits_at other fits log) (length log) s cs i
      tests i u =
          above_may (dep_at other dep log) (thread_at other thread log) (one_at log) (fits_at other fits log) of (of_at log) (length log) s j cs
          joined i u.0

      -- no event so far has a place above j, and the pass goes on;
      pub settles_none : NoneOf (above_of log s j) (length log) → StuckOf other dep fits log (s ∷ left) cs
      settles_none = none_same tests

      -- so it is where j is no lower than a bound;
      pub settles_on : {l : ℕ} → BoundOf log s l → leb l j ≡ true → StuckOf other dep fits log (s ∷ left) cs
      settles_on h t =
          settles_none
          (bound_none (dep_at other dep log) (thread_at other thread log) (one_at log) (fits_at other fits log) of (of_at log) j h t)

      -- or the first that has such a place is chosen.
      pub settles_back : {i : ℕ} → FirstOf (above_of log s j) (length log) i → ChosenOf other dep fits ss log (cs ++ (i ∷ [])) left
      settles_back f = next k (first_same tests f)
