use Prim.Native.Nat.{ℕ, zero, suc, ◌-◌, ◌/◌, ◌^◌, ◌≤◌, ◌<◌}
use native.Mathlib.Omega.{arith}
use mathlib.Core.Path.{◌≡◌, refl, ◌∙◌}
use mathlib.Core.Bool.{Bool, true, false}
use mathlib.Core.List.{List, [], ◌∷◌, ◌++◌}
use lib.ListN.{get_or}
use borrow.Author.Tests.{lt-ltb, le-ltb, le-leb, lt-leb}
use Rattle.event.specs.Limits.{slots as slot_limit}
use Rattle.event.specs.declared.Slot.{Slot}
use Rattle.event.specs.declared.Event.{Event}
use Rattle.clock.specs.declared.Stamp.{Stamp}
use Rattle.table.specs.declared.Limits.{Limits}
use Rattle.table.specs.Table.{limits_after, place_by, swept_to, slot_offered, offered_down, offered}
use Rattle.table.specs.Keeps.{Fits, ByThread, Keeps, Follows}
use Rattle.table.proofs.SetLaws.{powers}
use Rattle.table.proofs.History.{offer_kept}
use borrow.Author.Rules.{rules}
use Rattle.table.proofs.offer.Goals as goal

module _ (acting : List ℕ) (fit : List Bool) (n t : ℕ) (stamp : Stamp) (number : ℕ) where
  -- the slots below k, from that below k on
  below : (table : List ℕ) (k : ℕ) → 0 < k
      → offered_down (k - 1) (slot_offered table acting fit (2 ^ n / 2) stamp (record { slot = k - 1; place = place_by t stamp; number = number })) acting fit n t stamp number
      ≡ offered_down k table acting fit n t stamp number
  unfolding offered_down
  below table zero l = absurd (omega arith)
  below table (suc k) l = let z : suc k - 1 ≡ k = omega arith in rw z

  -- one that the event fits
  fitting : (table next : List ℕ) (limits : Limits) (k count place : ℕ) → 0 < k → count ≡ 2 ^ n → place ≡ place_by t stamp
      → limits ≡ limits_after acting (k - 1) stamp → get_or fit (k - 1) false ≡ true
      → next ≡ swept_to (count / 2) table limits (record { slot = k - 1; place = place; number = number })
      → offered_down (k - 1) next acting fit n t stamp number ≡ offered_down k table acting fit n t stamp number
  unfolding slot_offered
  fitting table next limits k count place l c p m f h = rw (h, c, p, m) (rw f at (below table k l))

  -- one that it does not fit
  passing : (table : List ℕ) (k : ℕ) → 0 < k → get_or fit (k - 1) false ≡ false
      → offered_down (k - 1) table acting fit n t stamp number ≡ offered_down k table acting fit n t stamp number
  unfolding slot_offered
  passing table k l f = rw f at (below table k l)

  -- the history follows from the exact clause
  both : (table out : List ℕ) → out ≡ offered table acting fit n t stamp number
      → record {
        exact : out ≡ offered table acting fit n t stamp number;
        history : (fits : Fits) → ByThread fits → (ss : List Slot) (log : List Event) (e : Event) → t ≡ e.thread → Keeps fits ss log table → Follows fits ss log acting fit n e stamp number
            → Keeps fits ss (log ++ (e ∷ [])) out;
      }
  both table out p = record { exact = p; history = λ fits by ss log e q h f. rw (p, q) (offer_kept fits by ss log acting fit n e stamp number table h f) }

pub returns-then-t-ge-THREADS : goal.returns-then-t-ge-THREADS
unfolding offered
returns-then-t-ge-THREADS c = let a = c.args in both a.acting a.fit a.size a.thread a.stamp a.number a.table.now _ (rw (le-ltb _ _ c.if-t-ge-THREADS.true))

pub returns-then-size-gt-SLOTS : goal.returns-then-size-gt-SLOTS
unfolding offered
returns-then-size-gt-SLOTS c = let a = c.args in both a.acting a.fit a.size a.thread a.stamp a.number a.table.now _ (rw (lt-ltb _ _ c.if-t-ge-THREADS.false, lt-leb _ _ c.if-size-gt-SLOTS.true))

pub loop-k-init : goal.loop-k-init
loop-k-init c = (search rules, refl)

pub bounds-fit-k : goal.bounds-fit-k
bounds-fit-k c = let s : c.args.size ≤ slot_limit = c.if-size-gt-SLOTS.false in omega arith

pub sweep-requires : goal.sweep-requires
sweep-requires c = let l : c.args.size ≤ slot_limit = c.if-size-gt-SLOTS.false in
    (omega arith, let h = powers c.args.size l in omega (arith, c.power-half.ensures))

pub loop-k-preserved-then-fit-k : goal.loop-k-preserved-then-fit-k
loop-k-preserved-then-fit-k c = (search rules, fitting _ _ _ _ _ _ _ _ _ _ _ _ c.loop-k-test.true c.power-half.ensures c.saturating_sub-place.ensures c.limits_after-limits.ensures c.if-fit-k.true c.sweep.ensures ∙ c.loop-k.invariant.1)

pub loop-k-preserved : goal.loop-k-preserved
loop-k-preserved c = (search rules, passing _ _ _ _ _ _ _ _ c.loop-k-test.true c.if-fit-k.false ∙ c.loop-k.invariant.1)

pub returns : goal.returns
unfolding offered offered_down
returns c = let a = c.args in let k : c.loop-k.k ≡ 0 = omega arith in
    both a.acting a.fit a.size a.thread a.stamp a.number a.table.now _ (rw (lt-ltb _ _ c.if-t-ge-THREADS.false, le-leb _ _ c.if-size-gt-SLOTS.false) (rw k at c.loop-k.invariant.1))
