-- Clocks by channels, as events arrive: where an event depends on those before it that tell a channel which it hears,
-- its stamp is the join of the clocks of the channels that it hears, with one more of its own thread.
-- Assumes nothing.
use mathlib.Core.Path.{◌≡◌, ap, ap₂, ◌∙◌, fun_ext}
use mathlib.Core.Bool.{Bool, true}
use mathlib.Core.List.{List, [], ◌∷◌, ◌++◌}
use Prim.Native.Nat.{ℕ, suc}
use lib.Dec.{eqb}
use lib.ListN.{length}
use Rattle.trace.specs.Tuples.{event_at, dep_at, thread_at, one_more}
use Rattle.trace.proofs.Lists.{any, length_snoc}
use Rattle.trace.proofs.Tallies.{raise, highest, highest_same, highest_any, join}
use Rattle.trace.proofs.Numbers.{event_append, event_new}
use Rattle.trace.proofs.Stamps.{stamp_of, stamp_append}
use Rattle.trace.proofs.Clocks.{stamp_new}

module _ {E : Type 0} (other : E) (dep : E → E → Bool) (thread : E → ℕ) where
  -- of the thread t, the highest count in the stamps of those of the first n events that pass the test
  abbrev pub known : (E → Bool) → List E → ℕ → ℕ → ℕ
  known p log n t = highest (λ k. p (event_at other log k)) (λ k. stamp_of other dep thread log k t) n

  known_append : (p : E → Bool) (log later : List E) (t : ℕ) → known p (log ++ later) (length log) t ≡ known p log (length log) t
  known_append p log later t =
      highest_same (λ k. p (event_at other (log ++ later) k)) (λ k. p (event_at other log k))
      (λ k. stamp_of other dep thread (log ++ later) k t) (λ k. stamp_of other dep thread log k t) (length log)
      (λ k u. (ap p (event_append other log later k u.1), stamp_append other dep thread log later k t u.1))

module _ {E C : Type 0} (other : E) (dep : E → E → Bool) (thread : E → ℕ) (tells : E → C → Bool) where
  -- the clock of the channel c, at the thread t: the highest count in the stamps of the events that told it
  unfoldable pub clock : List E → C → ℕ → ℕ
  clock log c t = known other dep thread (λ a. tells a c) log (length log) t

  -- what the clocks after the events of the list give the next event, which hears these channels
  abbrev pub next_stamp : (E → List C) → List E → E → ℕ → ℕ
  next_stamp hears log e t = one_more (eqb (thread e) t) (join (λ c. clock log c t) (hears e))

  module _ (hears : E → List C) (by_channels : (a b : E) → dep a b ≡ any (tells a) (hears b))
      (one_thread : (a b : E) → thread a ≡ thread b → dep a b ≡ true) (log : List E) (e : E) where
    -- the list with the event that arrives
    abbrev longer : List E
    longer = log ++ (e ∷ [])

    abbrev threads : ℕ → ℕ
    threads = thread_at other thread longer

    abbrev depends : ℕ → ℕ → Bool
    depends = dep_at other dep longer

    one : (i j : ℕ) → threads i ≡ threads j → depends i j ≡ true
    one i j = one_thread (event_at other longer i) (event_at other longer j)

    -- The stamp of the event that arrives is what the clocks give.
    pub stamp_snoc : (t : ℕ) → stamp_of other dep thread longer (suc (length log)) t ≡ next_stamp hears log e t
    unfolding clock
    stamp_snoc t =
        stamp_new depends threads one (length log) t
        ∙ ap₂ one_more (ap (λ a. eqb (thread a) t) (event_new other log e)) (there ∙ old ∙ heard)
      where
        there : known other dep thread (λ a. dep a (event_at other longer (suc (length log)))) longer (length log) t
            ≡ known other dep thread (λ a. dep a e) longer (length log) t
        there = ap (λ x. known other dep thread (λ a. dep a x) longer (length log) t) (event_new other log e)

        old : known other dep thread (λ a. dep a e) longer (length log) t ≡ known other dep thread (λ a. dep a e) log (length log) t
        old = known_append other dep thread (λ a. dep a e) log (e ∷ []) t

        heard : known other dep thread (λ a. dep a e) log (length log) t ≡ join (λ c. clock log c t) (hears e)
        heard =
            ap (λ p. known other dep thread p log (length log) t) (fun_ext (λ a. by_channels a e))
            ∙ highest_any (λ k c. tells (event_at other log k) c) (λ k. stamp_of other dep thread log k t) (length log) (hears e)

    -- It is joined into the clocks of the channels that the event tells, and the others stay.
    pub clock_snoc : (c : C) (t : ℕ) → clock longer c t ≡ raise (tells e c) (next_stamp hears log e t) (clock log c t)
    unfolding clock
    clock_snoc c t =
        ap (λ n. known other dep thread (λ a. tells a c) longer n t) (length_snoc log e)
        ∙ ap (raise (tells (event_at other longer (suc (length log))) c) (stamp_of other dep thread longer (suc (length log)) t))
        (known_append other dep thread (λ a. tells a c) log (e ∷ []) t)
        ∙ ap₂ (λ a n. raise (tells a c) n (clock log c t)) (event_new other log e) (stamp_snoc t)
