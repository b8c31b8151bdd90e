-- The replay order: there is one only, with a computed twin; swaps reach it from the log; on a match it holds the pattern.
-- Assumes nothing.
use mathlib.Core.Path.{◌≡◌, refl, sym, ap, ap₂, ◌∙◌}
use mathlib.Core.Logic.{◌↔◌}
use mathlib.Core.Bool.{Bool, true, false, not}
use mathlib.Core.List.Permᴰ.{symm as perm-sym}
use mathlib.Core.List.{List, [], ◌∷◌, ◌++◌, map, Memᴰ as Mem, Sublistᴰ as Sublist, Permᴰ as Perm}
use Prim.Native.Nat.{ℕ, suc, ◌≤◌, ◌<◌}
use lib.ListN.{length}
use Rattle.event.specs.declared.Event.{Event}
use Rattle.event.specs.declared.Slot.{Slot}
use Rattle.event.specs.Slots.{fits, no_event}
use Rattle.rules.specs.Accepted.{Accepted}
use Rattle.trace.specs.Before.{ComesBefore}
use Rattle.trace.specs.Match.{Holds}
use Rattle.trace.specs.Tuples.{event_at, dep_at, fits_at, Before, keep}
use Rattle.trace.proofs.Lists.{failed, both_ways, filter}
use Rattle.trace.proofs.Rows.{pairs_map, each_mem}
use Rattle.trace.proofs.Holds.{holds_of, map_holds}
use Rattle.trace.proofs.Swaps.{perm_mem, reaches_perm, map_reaches}
use Rattle.trace.proofs.Groups.{arrange, arrange_reached, arrange_holds}
use Rattle.trace.proofs.Runs.{run, among_of, of_among, run_rises}
use Rattle.trace.proofs.Before.{true_before, false_before}
use Rattle.trace.proofs.GoodTuples.{downset_clear}
use Rattle.trace.proofs.Numbers.{numbered_among, run_events, comes_among, comes_before_lem, before_comes, comes?, comes?_iff, named_good}
use Rattle.trace.proofs.EventOrders.{numbered_map, map_numbered}
use Rattle.dependence.specs.Dependence.{dependent}
use Rattle.dependence.specs.Order as order
use Rattle.dependence.specs.Order.{Reaches, Named}
use Rattle.dependence.proofs.Acceptance.{accepted_reached}
use Rattle.trace.specs.Swaps as swaps
use Rattle.replay_order.specs.Replay.{numbers_from, Parted, Grouped, IsReplay}

-- the recorded order's numbers
pub numbers_run : (a : ℕ) (log : List Event) → numbers_from a log ≡ run a (length log)
numbers_run a [] = refl
numbers_run a (e ∷ log) = ap (λ (l : List ℕ). a ∷ l) (numbers_run (suc a) log)

-- ---- a row parted, by a test that decides the property

module _ {A : Type 0} {P : A → Type 0} (p : A → Bool) (decides : (x : A) → (p x ≡ true) ↔ P x) where
  parted : (xs : List A) → Parted P xs (filter p xs) (filter (λ x. not (p x)) xs)
  parted [] = Parted.none
  parted (x ∷ xs) = go (p x) refl (parted xs)
    where
      go : (b : Bool) → p x ≡ b → {ys zs : List A} → Parted P xs ys zs → Parted P (x ∷ xs) (keep b x ys) (keep (not b) x zs)
      go true e r = Parted.one ((decides x).0 e) r
      go false e r = Parted.not_one (λ h. both_ways ((decides x).1 h) e) r

  parted_is : {xs ys zs : List A} → Parted P xs ys zs → (ys ≡ filter p xs) × (zs ≡ filter (λ x. not (p x)) xs)
  parted_is Parted.none = (refl, refl)
  parted_is (Parted.one {x = x} h r) = let q = parted_is r in rw ((decides x).1 h) (ap (λ l. x ∷ l) q.0, q.1)
  parted_is (Parted.not_one {x = x} h r) =
      let q = parted_is r in
      let f = failed (p x) (λ t. h ((decides x).0 t)) in
      rw f (q.0, ap (λ l. x ∷ l) q.1)

-- ---- the computed twin

module _ (log : List Event) where
  -- whether an event of the log comes before another or is it, by their numbers
  abbrev pub comes : ℕ → ℕ → Bool
  comes = comes? no_event dependent log

  pub decides : (i j : ℕ) → (comes i j ≡ true) ↔ ComesBefore dependent log i j
  decides = comes?_iff no_event dependent log

  abbrev dep : ℕ → ℕ → Bool
  dep = dep_at no_event dependent log

  -- the event numbers in groups, and the events of the replay order
  abbrev replayed : List ℕ → List ℕ
  replayed is = arrange comes is (run 1 (length log))

  abbrev pub replay : List ℕ → List Event
  replay is = map (event_at no_event log) (replayed is)

  grouped : (is left : List ℕ) → Grouped log is left (arrange comes is left)
  grouped [] left = Grouped.rest
  grouped (i ∷ is) left = Grouped.group (parted (λ k. comes k i) (λ k. decides k i) left) (grouped is (filter (λ k. not (comes k i)) left))

  grouped_is : {is left order : List ℕ} → Grouped log is left order → order ≡ arrange comes is left
  grouped_is Grouped.rest = refl
  grouped_is (Grouped.group {i = i} {is = is} p g) =
      let q = parted_is (λ k. comes k i) (λ k. decides k i) p in
      ap₂ ◌++◌ q.0 (grouped_is g ∙ ap (arrange comes is) q.1)

  -- each group is downward closed
  clear : (e x y : ℕ) → Mem x (run 1 (length log)) → x < y → comes x e ≡ false → comes y e ≡ true → dep x y ≡ false
  clear e x y m l f t =
      let c = (decides y e).0 t in
      downset_clear dep e x y l (false_before dep (apart (comes_among no_event dependent log c).1.1)) (true_before dep (comes_before_lem no_event dependent log c))
    where
      apart : e ≤ length log → ¬ Before dep x e
      apart h b = both_ways ((decides x e).1 (before_comes no_event dependent log (among_of (length log) m).0 h b)) f

  replayed_reached : (is : List ℕ) → swaps.Reaches dep (run 1 (length log)) (replayed is)
  replayed_reached is = arrange_reached comes dep is (pairs_map (λ x y m k l e. clear e x y m l) (run_rises 1 (length log)))

  -- The definition's order is the computed one, so that there is exactly one.
  pub replay_iff : (is : List ℕ) (order : List Event) → IsReplay log is order ↔ (order ≡ replay is)
  replay_iff is order = (there, back)
    where
      there : IsReplay log is order → order ≡ replay is
      there r = map_numbered no_event log r.events ∙ ap (map (event_at no_event log)) (grouped_is r.grouped ∙ ap (arrange comes is) (numbers_run 1 log))

      back : order ≡ replay is → IsReplay log is order
      back e =
          rw e
          (record {
            numbers = replayed is;
            grouped = rw (numbers_run 1 log) (grouped is (run 1 (length log)));
            events = numbered_map no_event log (replayed is) (λ i m. among_of (length log) (perm_mem (perm-sym (reaches_perm dep (replayed_reached is))) m));
          })

-- there is one, for any event numbers, and no other
pub replay_is : (log : List Event) (is : List ℕ) → IsReplay log is (replay log is)
replay_is log is = (replay_iff log is (replay log is)).1 refl

pub one_replay : (log : List Event) (is : List ℕ) {a b : List Event} → IsReplay log is a → IsReplay log is b → a ≡ b
one_replay log is {a} {b} r s = (replay_iff log is a).0 r ∙ sym ((replay_iff log is b).0 s)

-- ---- what it is

-- "The outcome is reachable by swaps": for any event numbers
pub replay_reached : (log : List Event) (is : List ℕ) {order : List Event} → IsReplay log is order → Reaches log order
replay_reached log is {order} r =
    rw ((replay_iff log is order).0 r) (rw run_events at (map_reaches dependent (event_at no_event log) (replayed_reached log is)))

-- "holding the same events": each as often, and no more
pub replay_perm : (log : List Event) (is : List ℕ) {order : List Event} → IsReplay log is order → Perm log order
replay_perm log is r = reaches_perm dependent (replay_reached log is r)

pub replay_accepted : (log : List Event) (is : List ℕ) {order : List Event} → Accepted log → IsReplay log is order → Accepted order
replay_accepted log is c r = accepted_reached (replay_reached log is r) c

-- "and holds the slots in sequence": for every list of event numbers that the rule allows
pub replay_holds : (pattern : List Slot) (log : List Event) (count : ℕ) (is : List ℕ) {order : List Event} → Named pattern log count is
    → IsReplay log is order → Holds fits pattern order
replay_holds pattern log count is {order} n r =
    rw ((replay_iff log is order).0 r)
    (map_holds fits (event_at no_event log) (holds_of (fits_at no_event fits log) in_sequence (named_good no_event dependent fits pattern log count is n).fit))
  where
    own : (i : ℕ) → Mem i is → Mem i (run 1 (length log)) × (comes log i i ≡ true)
    own i m =
        let e = (each_mem n.fitting m).2 in
        (of_among (length log) (numbered_among e.1), (decides log i i).1 (ComesBefore.same e.1))

    in_sequence : Sublist is (replayed log is)
    in_sequence =
        arrange_holds (comes log) (run 1 (length log))
        (pairs_map (λ x y m k d. failed (comes log y x) (λ t. d ((decides log y x).0 t))) n.apart) own
