-- The replay order by stamps: an event comes before a slot's event or is it exactly where its place in its thread is within that event's stamp.
-- Assumes nothing.
use mathlib.Core.Path.{◌≡◌, refl, sym, ap, ap₂, ◌∙◌}
use mathlib.Core.Bool.{Bool, true, false, not, ◌&&◌, and-eq-true_iff}
use mathlib.Core.List.Memᴰ.{head}
use mathlib.Core.List.Memᴰ.{tail}
use mathlib.Core.List.{List, [], ◌∷◌, ◌++◌, map, map-append, Memᴰ as Mem}
use Prim.Native.Nat.{ℕ, zero, suc, ◌+◌, ◌≤◌, ◌<◌, max}
use native.Mathlib.Omega.{arith}
use lib.Dec.{leb, ltb}
use lib.ListN.{length}
use borrow.Author.Tests.{eq-eqb, le-leb, lt-leb, leb-false, lt-ltb, ltb-true, not-true}
use Rattle.event.specs.declared.Event.{Event}
use Rattle.event.specs.Slots.{no_event}
use Rattle.trace.specs.Before.{Numbered}
use Rattle.trace.specs.Tuples.{event_at, dep_at, thread_at, Among, place, keep}
use Rattle.trace.proofs.Lists.{failed, same_test, filter}
use Rattle.trace.proofs.Groups.{arrange}
use Rattle.trace.proofs.Runs.{run, among_of, of_among}
use Rattle.trace.proofs.Before.{before_le}
use Rattle.trace.proofs.Numbers.{at_numbered, comes_before_lem}
use Rattle.trace.proofs.Stamps.{before_by_stamp, stamp_unique}
use Rattle.dependence.specs.Dependence.{dependent}
use Rattle.dependence.specs.Order.{thread_of, IsStamp}
use Rattle.dependence.proofs.Dependent.{one_thread}
use Rattle.replay_order.specs.Replay.{IsReplay}
use Rattle.replay_passes.specs.Copies.{passing, copied, between}
use Rattle.replay_order.proofs.Order.{comes, decides, replay_iff}

-- ---- lists

module _ {A : Type 0} where
  -- filtered by two tests in turn; by one that all pass; by one that none passes
  filter_both : (p q r : A → Bool) (xs : List A) → ((x : A) → Mem x xs → q x && p x ≡ r x) → filter p (filter q xs) ≡ filter r xs
  filter_both p q r [] h = refl
  filter_both p q r (x ∷ xs) h = go (q x) (h x (head refl)) (filter_both p q r xs (λ y m. h y (tail m)))
    where
      go : (b : Bool) → b && p x ≡ r x → filter p (filter q xs) ≡ filter r xs
          → filter p (keep b x (filter q xs)) ≡ keep (r x) x (filter r xs)
      go true e ih = ap₂ (λ c l. keep c x l) e ih
      go false e ih = rw (sym e) ih

  filter_all : (p : A → Bool) (xs : List A) → ((x : A) → Mem x xs → p x ≡ true) → filter p xs ≡ xs
  filter_all p [] h = refl
  filter_all p (x ∷ xs) h = rw (h x (head refl)) (ap (λ l. x ∷ l) (filter_all p xs (λ y m. h y (tail m))))

  filter_snoc : (p : A → Bool) (xs : List A) (x : A) → filter p (xs ++ (x ∷ [])) ≡ filter p xs ++ keep (p x) x []
  filter_snoc p [] x = refl
  filter_snoc p (y ∷ xs) x = go (p y) (filter_snoc p xs x)
    where
      go : (b : Bool) {zs : List A} → zs ≡ filter p xs ++ keep (p x) x [] → keep b y zs ≡ keep b y (filter p xs) ++ keep (p x) x []
      go true e = ap (λ l. y ∷ l) e
      go false e = e

  map_keep : {B : Type 0} (f : A → B) (b : Bool) (x : A) → map f (keep b x []) ≡ keep b (f x) []
  map_keep f true x = refl
  map_keep f false x = refl

run_snoc : (a n : ℕ) → run a (suc n) ≡ run a n ++ ((a + n) ∷ [])
run_snoc a zero = ap (λ (k : ℕ). k ∷ []) (omega arith)
run_snoc a (suc n) = ap (λ (l : List ℕ). a ∷ l) (run_snoc (suc a) n ∙ ap (λ (k : ℕ). run (suc a) n ++ (k ∷ [])) (omega arith))

-- what is copied, by the numbers that pass
pub copied_is : (test : ℕ → ℕ → Bool) (es : List Event) (n : ℕ) → copied test es n ≡ map (event_at no_event es) (filter (passing test es) (run 1 n))
copied_is test es zero = refl
copied_is test es (suc n) =
    ap₂ ◌++◌ (copied_is test es n) (sym (map_keep (event_at no_event es) (passing test es (suc n)) (suc n)))
    ∙ sym (map-append (event_at no_event es) (filter (passing test es) (run 1 n)) (keep (passing test es (suc n)) (suc n) []))
    ∙ ap (map (event_at no_event es)) (sym (filter_snoc (passing test es) (run 1 n) (suc n)) ∙ ap (filter (passing test es)) (sym (run_snoc 1 n ∙ ap (λ (k : ℕ). run 1 n ++ (k ∷ [])) (one_add n))))
  where
    one_add : (n : ℕ) → 1 + n ≡ suc n
    one_add n = omega arith

-- beyond the one and the other
beyond_both : (w s n : ℕ) → ltb w n && not (leb n s) ≡ ltb (max w s) n
beyond_both w s n = same_test (ltb w n && not (leb n s)) (ltb (max w s) n) there back
  where
    there : ltb w n && not (leb n s) ≡ true → ltb (max w s) n ≡ true
    there h =
        let r = (and-eq-true_iff (ltb w n) (not (leb n s))).0 h in
        let a = ltb-true w n r.0 in
        let b = leb-false n s (not-true (leb n s) r.1) in
        lt-ltb (max w s) n (omega arith)

    back : ltb (max w s) n ≡ true → ltb w n && not (leb n s) ≡ true
    back h = let r = ltb-true (max w s) n h in rw (lt-ltb w n (omega arith), lt-leb n s (omega arith))

-- ---- groups by stamps

-- For each of the slots j on, so many are left: of each thread the events beyond those written and within the slot's stamp, up to the slot's event; then the rest.
abbrev pub groups : List Event → (ℕ → ℕ) → (ℕ → ℕ → ℕ) → ℕ → ℕ → (ℕ → ℕ) → List Event
groups es number stamp zero j written = copied (λ t p. ltb (written t) p) es (length es)
groups es number stamp (suc left) j written =
    copied (λ t p. between (written t) (stamp j t) p) es (number j) ++ groups es number stamp left (suc j) (λ t. max (written t) (stamp j t))

-- the row has, at the thread of each event of the log, the count that the stamp of event number j has
abbrev pub StampRow : List Event → ℕ → (ℕ → ℕ) → Type 0
StampRow es j s = (i : ℕ) (e : Event) → Numbered es i e → IsStamp es j e.thread (s e.thread)

module _ (es : List Event) where
  abbrev at : ℕ → ℕ
  at = thread_at no_event thread_of es

  -- the test of a group, by place and stamp
  comes_place : (i j k : ℕ) → Among (length es) i → Among (length es) j → IsStamp es j (at i) k → comes es i j ≡ leb (place at i) k
  comes_place i j k u v s =
      rw (le-leb 1 i u.0, le-leb j (length es) v.1, ← stamp_unique no_event dependent thread_of es j (at i) k v s)
      (before_by_stamp (dep_at no_event dependent es) at (λ a b. one_thread (event_at no_event es a) (event_at no_event es b)) i j u.0)

  module _ (number : ℕ → ℕ) (stamp : ℕ → ℕ → ℕ) where
    -- the slots' events are of the log, and their stamps are known
    abbrev pub Stamped : ℕ → ℕ → Type 0
    Stamped left j = (k : ℕ) → j ≤ k → k < j + left → Among (length es) (number k) × StampRow es (number k) (stamp k)

    -- an event beyond those written of its thread
    abbrev unwritten : (ℕ → ℕ) → ℕ → Bool
    unwritten written i = ltb (written (at i)) (place at i)

    module _ (j : ℕ) (h : Among (length es) (number j) × StampRow es (number j) (stamp j)) (written : ℕ → ℕ) where
      tested : (i : ℕ) → Mem i (run 1 (length es)) → comes es i (number j) ≡ leb (place at i) (stamp j (at i))
      tested i m =
          let u = among_of (length es) m in
          comes_place i (number j) (stamp j (at i)) u h.0 (h.1 i (event_at no_event es i) (at_numbered no_event es i u))

      -- an event after the slot's does not come before it
      beyond : (i : ℕ) → Mem i (run 1 (length es)) → number j < i → leb (place at i) (stamp j (at i)) ≡ false
      beyond i m l =
          sym (tested i m)
          ∙ failed (comes es i (number j)) (λ t. let b = before_le (dep_at no_event dependent es) (comes_before_lem no_event dependent es ((decides es i (number j)).0 t)) in let f : ⊥ = omega arith in f)

      -- so that a pass may end at the slot's event
      up_to : (q : ℕ → Bool) (a n m : ℕ) → a + n ≡ suc (number j) → ((i : ℕ) → a ≤ i → number j < i → i < a + m → q i ≡ false) → n ≤ m
          → filter q (run a m) ≡ filter q (run a n)
      up_to q a zero zero e f l = refl
      up_to q a zero (suc m) e f l = rw (f a (omega arith) (omega arith) (omega arith)) (none (suc a) m (λ i u v. f i (omega arith) (omega arith) (omega arith)))
        where
          none : (b k : ℕ) → ((i : ℕ) → b ≤ i → i < b + k → q i ≡ false) → filter q (run b k) ≡ []
          none b zero g = refl
          none b (suc k) g = rw (g b (omega arith) (omega arith)) (none (suc b) k (λ i u v. g i (omega arith) (omega arith)))
      up_to q a (suc n) zero e f l = absurd (omega arith)
      up_to q a (suc n) (suc m) e f l = ap (keep (q a) a) (up_to q (suc a) n m (omega arith) (λ i u v w. f i (omega arith) v (omega arith)) (omega arith))

      now : map (event_at no_event es) (filter (λ i. comes es i (number j)) (filter (unwritten written) (run 1 (length es))))
          ≡ copied (λ t p. between (written t) (stamp j t) p) es (number j)
      now =
          ap (map (event_at no_event es))
          (filter_both (λ i. comes es i (number j)) (unwritten written) q (run 1 (length es)) (λ i m. ap (λ b. unwritten written i && b) (tested i m))
          ∙ up_to q 1 (number j) (length es) (omega arith) late h.0.1)
          ∙ sym (copied_is (λ t p. between (written t) (stamp j t) p) es (number j))
        where
          q : ℕ → Bool
          q = passing (λ t p. between (written t) (stamp j t) p) es

          late : (i : ℕ) → 1 ≤ i → number j < i → i < 1 + length es → q i ≡ false
          late i l u v = rw (beyond i (of_among (length es) (omega arith)) u) (and_false (unwritten written i))
            where
              and_false : (b : Bool) → b && false ≡ false
              and_false true = refl
              and_false false = refl

      later : filter (λ i. not (comes es i (number j))) (filter (unwritten written) (run 1 (length es)))
          ≡ filter (unwritten (λ t. max (written t) (stamp j t))) (run 1 (length es))
      later =
          filter_both (λ i. not (comes es i (number j))) (unwritten written) (unwritten (λ t. max (written t) (stamp j t))) (run 1 (length es))
          (λ i m. ap (λ b. unwritten written i && not b) (tested i m) ∙ beyond_both (written (at i)) (stamp j (at i)) (place at i))

    groups_are : (left j : ℕ) (written : ℕ → ℕ) → Stamped left j
        → map (event_at no_event es) (arrange (comes es) (map number (run j left)) (filter (unwritten written) (run 1 (length es))))
        ≡ groups es number stamp left j written
    groups_are zero j written h = sym (copied_is (λ t p. ltb (written t) p) es (length es))
    groups_are (suc left) j written h =
        map-append (event_at no_event es) (filter (λ i. comes es i (number j)) (filter (unwritten written) (run 1 (length es))))
        (arrange (comes es) (map number (run (suc j) left)) (filter (λ i. not (comes es i (number j))) (filter (unwritten written) (run 1 (length es)))))
        ∙ ap₂ ◌++◌ (now j (h j (omega arith) (omega arith)) written)
        (ap (λ l. map (event_at no_event es) (arrange (comes es) (map number (run (suc j) left)) l)) (later j (h j (omega arith) (omega arith)) written)
        ∙ groups_are left (suc j) (λ t. max (written t) (stamp j t)) (λ k u v. h k (omega arith) (omega arith)))

  -- places are from 1
  from_one : (i : ℕ) → 1 ≤ i → 0 < place at i
  unfolding place
  from_one zero l = absurd (omega arith)
  from_one (suc i) l = rw (eq-eqb (at (suc i)) (at (suc i)) refl) (omega arith)

-- The groups by the stamps of the slots' events are the replay order.
pub groups_replay : (es : List Event) (number : ℕ → ℕ) (stamp : ℕ → ℕ → ℕ) (size : ℕ) → Stamped es number stamp size 0
    → IsReplay es (map number (run 0 size)) (groups es number stamp size 0 (λ t. 0))
groups_replay es number stamp size h =
    (replay_iff es (map number (run 0 size)) (groups es number stamp size 0 (λ t. 0))).1
    (sym (rw (filter_all (unwritten es number stamp (λ t. 0)) (run 1 (length es)) (λ i m. lt-ltb 0 (place (at es) i) (from_one es i (among_of (length es) m).0)))
    at (groups_are es number stamp size 0 (λ t. 0) h)))
