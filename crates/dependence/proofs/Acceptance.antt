-- What swaps make of an accepted list is accepted. The numbers of an event behind 9 do not change when one that it is independent
-- of is put before it or taken away; lists swapped are as long; and histories swapped answer alike to all that follow.
-- Assumes nothing.
use Prim.Native.Nat.{ℕ, suc, ◌<◌}
use mathlib.Core.Path.{◌≡◌, refl, sym, ap, ◌∙◌}
use mathlib.Core.Logic.{◌⊎◌, inl, inr}
use mathlib.Core.Bool.{false, ◌||◌}
use Rattle.std.specs.Prelude.{Option, Some, None}
use mathlib.Core.List.{List, ◌∷◌}
use mathlib.Mathlib.Data.Bool.Basic.{or-eq-false-eq-eq-false-and-eq-false as neither}
use native.Mathlib.Omega.{arith}
use lib.Dec.{eqb}
use lib.ListN.{length}
use borrow.Author.Tests.{eqb-true, lt-leb}
use Rattle.event.specs.declared.Operation.{Operation}
use Rattle.event.specs.declared.Operation.TheVariants.{Read, Write, Acquire, Release, Fork, Join, Mark}
use Rattle.event.specs.declared.Event.{Event}
use Rattle.event.specs.Limits.{events}
use Rattle.event.specs.declared.Effect.{Effect}
use Rattle.event.specs.declared.Effect.TheVariants.{Acquires, Releases, Forks, Joins, Nothing}
use Rattle.event.specs.Slots.{slot_of}
use Rattle.event.specs.Effects.{touches, touched, effects, effect_of}
use Rattle.event.specs.Range.{row, first_met}
use Rattle.event.proofs.Tests.{by_test}
use Rattle.event.proofs.InRange.{from_range, range_passes}
use Rattle.rules.specs.Accepted.{some, acts_as, names_thread, joins_thread, joined, acted_or_named, Lock, lock_after, lock_of}
use Rattle.rules.specs.Accepted.{effect_rows, event_rows, refusal_after, refusal_under, AcceptedAfter, whole, one_more, Accepted}
use Rattle.rules.proofs.StateLaws.{clear}
use Rattle.trace.specs.Swaps.{Swap, here, later, Reaches, stay, swap}
use Rattle.dependence.specs.Dependence.{lock, named, same, same_thread, same_variable_one_write, same_lock}
use Rattle.dependence.specs.Dependence.{names_thread_of, one_names_thread_of_other, dependent}
use Rattle.dependence.proofs.Dependent.{symmetric}
use Rattle.dependence.proofs.Sameness.{eqb_comm, same_comm, or_left}

-- ---- the lock and the thread that an effect is about are those that the operation touches

abbrev lock_in : Effect → Option ℕ
lock_in (Acquires l) = Some l
lock_in (Releases l) = Some l
lock_in (Forks c) = None
lock_in (Joins c) = None
lock_in Nothing = None

abbrev named_in : Effect → Option ℕ
named_in (Acquires l) = None
named_in (Releases l) = None
named_in (Forks c) = Some c
named_in (Joins c) = Some c
named_in Nothing = None

both_touched : (op : Operation) → (lock (touches op) ≡ lock_in (effects op)) × (named (touches op) ≡ named_in (effects op))
both_touched (Read v) = (refl, refl)
both_touched (Write v h) = (refl, refl)
both_touched (Acquire l) = (refl, refl)
both_touched (Release l) = (refl, refl)
both_touched (Fork c) = (refl, refl)
both_touched (Join c) = (refl, refl)
both_touched (Mark m) = (refl, refl)

-- ---- an effect on another lock leaves the lock; one on another thread does not join it

lock_kept : (l t : ℕ) (f : Effect) (k : Lock) → same (lock_in f) (Some l) ≡ false → lock_after l t f k ≡ k
lock_kept l t (Acquires m) k h = rw h
lock_kept l t (Releases m) k h = rw h
lock_kept l t (Forks c) k h = refl
lock_kept l t (Joins c) k h = refl
lock_kept l t Nothing k h = refl

not_joined : (t : ℕ) (f : Effect) → same (named_in f) (Some t) ≡ false → joins_thread t f ≡ false
not_joined t (Acquires m) h = refl
not_joined t (Releases m) h = refl
not_joined t (Forks c) h = refl
not_joined t (Joins c) h = h
not_joined t Nothing h = refl

names_same : (t : ℕ) (f : Effect) → names_thread t f ≡ same (named_in f) (Some t)
names_same t (Acquires m) = refl
names_same t (Releases m) = refl
names_same t (Forks c) = refl
names_same t (Joins c) = refl
names_same t Nothing = refl

-- ---- two independent events

-- they touch no lock in common, neither names the thread that the other acts as, nor do they name one thread
record Independent (a b : Event) : Type 0 where
  locks : same (lock_in (effect_of a)) (lock_in (effect_of b)) ≡ false
  acting : same (named_in (effect_of a)) (Some b.thread) ≡ false
  naming : same (named_in (effect_of a)) (named_in (effect_of b)) ≡ false
  acted : same (named_in (effect_of b)) (Some a.thread) ≡ false

independent : (a b : Event) → dependent a b ≡ false → Independent a b
unfolding dependent
independent a b i =
    let p = (neither (same_thread a b || same_variable_one_write a b || same_lock a b) (one_names_thread_of_other a b)).0 i in
    let q = (neither (same_thread a b || same_variable_one_write a b) (same_lock a b)).0 p.0 in
    let r = (neither (names_thread_of a b) (names_thread_of b a)).0 p.1 in
    let s = (neither (same (named (touched a)) (Some b.thread)) (same (named (touched a)) (named (touched b)))).0 r.0 in
    let u = (neither (same (named (touched b)) (Some a.thread)) (same (named (touched b)) (named (touched a)))).0 r.1 in
    let la = sym (both_touched a.operation).0 in
    let lb = sym (both_touched b.operation).0 in
    let na = sym (both_touched a.operation).1 in
    let nb = sym (both_touched b.operation).1 in
    record { locks = rw (la, lb) q.1; acting = rw na s.0; naming = rw (na, nb) s.1; acted = rw nb u.0 }

-- ---- the numbers behind 9

-- the first of them whose condition the event meets; 0 where none
abbrev rule_number : List Event → Event → ℕ
rule_number past e = first_met (row 10 (joined past e.thread) ∷ effect_rows past e.thread (effect_of e))

-- it does not change when an event is put before or taken away which this one is independent of
put_before : (a b : Event) (past : List Event) → dependent a b ≡ false → rule_number (a ∷ past) b ≡ rule_number past b
unfolding some lock_of
put_before a b past i =
    rw (not_joined b.thread (effect_of a) d.acting, by_effect (effect_of b) d.locks d.naming d.acted)
  where
    d : Independent a b
    d = independent a b i

    by_effect : (f : Effect) → same (lock_in (effect_of a)) (lock_in f) ≡ false → same (named_in (effect_of a)) (named_in f) ≡ false
        → same (named_in f) (Some a.thread) ≡ false → effect_rows (a ∷ past) b.thread f ≡ effect_rows past b.thread f
    by_effect (Acquires k) l n m = rw (lock_kept k a.thread (effect_of a) (lock_of past k) l)
    by_effect (Releases k) l n m = rw (lock_kept k a.thread (effect_of a) (lock_of past k) l)
    by_effect (Forks c) l n m = rw (eqb_comm a.thread c, m, names_same c (effect_of a), n)
    by_effect (Joins c) l n m = rw (not_joined c (effect_of a) n)
    by_effect Nothing l n m = refl

-- an event taken after g is taken after h, where there is room and the numbers behind 9 are given alike
taken_after_lem : (g h : List Event) (e : Event) → rule_number g e ≡ rule_number h e → length h < events → refusal_after g e ≡ 0
    → refusal_after h e ≡ 0
unfolding refusal_under
taken_after_lem g h e q room r =
    let k = clear g e r in
    let before : rule_number g e ≡ 0 = rw k.alive k.free_to in
    range_passes (slot_of e) (event_rows h e) (from_range (slot_of e) k.range)
    ∙ (rw (lt-leb events (length h) room) (sym q ∙ before))

-- ---- histories that answer alike

record Alike (g h : List Event) : Type 0 where
  as_long : length g ≡ length h
  on_joined : (t : ℕ) → joined g t ≡ joined h t
  on_known : (t : ℕ) → acted_or_named g t ≡ acted_or_named h t
  on_lock : (l : ℕ) → lock_of g l ≡ lock_of h l

alike_number : {g h : List Event} → Alike g h → (e : Event) → rule_number g e ≡ rule_number h e
alike_number {g} {h} s e = rw (s.on_joined e.thread, by_effect (effect_of e))
  where
    by_effect : (f : Effect) → effect_rows g e.thread f ≡ effect_rows h e.thread f
    by_effect (Acquires l) = rw (s.on_lock l)
    by_effect (Releases l) = rw (s.on_lock l)
    by_effect (Forks c) = rw (s.on_known c)
    by_effect (Joins c) = rw (s.on_joined c)
    by_effect Nothing = refl

alike_cons : (e : Event) {g h : List Event} → Alike g h → Alike (e ∷ g) (e ∷ h)
unfolding some lock_of
alike_cons e s =
    record {
      as_long = ap suc s.as_long;
      on_joined = λ t. rw (s.on_joined t);
      on_known = λ t. rw (s.on_known t);
      on_lock = λ l. rw (s.on_lock l);
    }

accepted_alike : {g h xs : List Event} → Alike g h → AcceptedAfter g xs → AcceptedAfter h xs
accepted_alike s whole = whole
accepted_alike {h = h} s (one_more {past = g} {e = e} r c) =
    let room = rw s.as_long at (clear g e r).room in
    one_more (taken_after_lem g h e (alike_number s e) room r) (accepted_alike (alike_cons e s) c)

-- ---- two independent events swapped

-- of two locks that are not one, a lock is not one or not the other
not_both : (x y : Option ℕ) (l : ℕ) → same x y ≡ false → (same x (Some l) ≡ false) ⊎ (same y (Some l) ≡ false)
not_both None y l h = inl refl
not_both (Some i) y l h = by_test (eqb i l) (λ q. inr (same_comm y (Some l) ∙ (rw (eqb-true i l q) at h))) inl

-- the lock l after the event
abbrev after : Event → ℕ → Lock → Lock
after e l k = lock_after l e.thread (effect_of e) k

alike_swapped : (a b : Event) (past : List Event) → dependent a b ≡ false → Alike (b ∷ a ∷ past) (a ∷ b ∷ past)
unfolding some lock_of
alike_swapped a b past i =
    record {
      as_long = refl;
      on_joined = λ t. or_left (joins_thread t (effect_of b)) (joins_thread t (effect_of a)) (joined past t);
      on_known = λ t. or_left (acts_as t b || names_thread t (effect_of b)) (acts_as t a || names_thread t (effect_of a)) (acted_or_named past t);
      on_lock = λ l. one_keeps l (lock_of past l) (not_both (lock_in (effect_of a)) (lock_in (effect_of b)) l (independent a b i).locks);
    }
  where
    keeps : (e f : Event) (l : ℕ) (k : Lock) → same (lock_in (effect_of e)) (Some l) ≡ false
        → after f l (after e l k) ≡ after e l (after f l k)
    keeps e f l k h =
        ap (after f l) (lock_kept l e.thread (effect_of e) k h)
        ∙ sym (lock_kept l e.thread (effect_of e) (after f l k) h)

    one_keeps : (l : ℕ) (k : Lock) → (same (lock_in (effect_of a)) (Some l) ≡ false) ⊎ (same (lock_in (effect_of b)) (Some l) ≡ false)
        → after b l (after a l k) ≡ after a l (after b l k)
    one_keeps l k (inl h) = keeps a b l k h
    one_keeps l k (inr h) = sym (keeps b a l k h)

accepted_swap : {past xs ys : List Event} → Swap dependent xs ys → AcceptedAfter past xs → AcceptedAfter past ys
accepted_swap {past} (here {a = a} {b = b} i) (one_more r (one_more q c)) =
    let room : suc (length past) < events = (clear (a ∷ past) b q).room in
    one_more (taken_after_lem (a ∷ past) past b (put_before a b past i) (omega arith) q)
    (one_more (taken_after_lem past (b ∷ past) a (sym (put_before b a past (symmetric b a ∙ i))) room r)
    (accepted_alike (alike_swapped a b past i) c))
accepted_swap (later s) (one_more r c) = one_more r (accepted_swap s c)

-- Every order reached from an accepted list is accepted.
pub accepted_reached : {xs ys : List Event} → Reaches dependent xs ys → Accepted xs → Accepted ys
accepted_reached stay c = c
accepted_reached (swap r s) c = accepted_swap s (accepted_reached r c)
