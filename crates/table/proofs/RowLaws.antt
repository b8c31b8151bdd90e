-- What stands in each entry of a row that was stored, of the limits, and of the table once an event was offered to one set.
-- Assumes nothing.
use Prim.Native.Nat.{ℕ, zero, suc, ◌+◌, ◌*◌, ◌^◌, ◌≤◌, ◌<◌}
use mathlib.Core.Path.{◌≡◌, refl, sym, ◌∙◌}
use mathlib.Core.Bool.{Bool, true, false, and-eq-true_iff}
use mathlib.Core.List.{List}
use native.Mathlib.Nat.{zero-add}
use native.Mathlib.Decide.{ℕ_discrete}
use native.Mathlib.Omega.{arith}
use lib.Dec.{eqb, leb, ltb}
use lib.ListN.{length, get_or, set, replicate, length-set, length-replicate, get_or-replicate}
use lib.Seq.{get_or-set_same, get_or-set_other}
use borrow.Author.Tests.{leb-true, leb-false, eqb-true, eqb-false}
use Rattle.event.specs.Limits.{slots}
use Rattle.event.proofs.Tests.{by_test}
use Rattle.event.proofs.Updated.{updated_length, updated_outside, updated_inside, updated_first}
use Rattle.clock.specs.declared.Stamp.{Stamp}
use Rattle.table.specs.declared.Limits.{Limits}
use Rattle.table.specs.declared.Entry.{Entry}
use Rattle.table.specs.Sets.{lanes, width, held, sets, size, row_of}
use Rattle.table.specs.Table.{pasted, row_at, room_to, room_in, limit_at, limits_to, with_entry, set_offered}
use Rattle.table.specs.Keeps.{row_in}
use Rattle.table.proofs.SetLaws.{row_fits}

-- ---- a part that is replaced

module _ (xs : List ℕ) (f : ℕ) (ys : List ℕ) (g n : ℕ) where
  abbrev replacing : ℕ → ℕ → ℕ
  replacing i x = get_or ys (g + i) 0

  -- what lies outside the part stays
  pub pasted_outside : (k : ℕ) → ((i : ℕ) → i < n → k ≡ f + i → ⊥) → get_or (pasted n xs f ys g) k 0 ≡ get_or xs k 0
  pasted_outside = updated_outside 0 replacing xs f n

  -- what lies in it is replaced
  pub pasted_inside : (i : ℕ) → i < n → f + n ≤ length xs → get_or (pasted n xs f ys g) (f + i) 0 ≡ get_or ys (g + i) 0
  pasted_inside = updated_inside 0 replacing xs f n

-- the row that is read
pub row_entry : (table : List ℕ) (f j : ℕ) → j < width → get_or (row_at table f).at j 0 ≡ get_or table (f + j) 0
unfolding row_at
row_entry table f j l =
    updated_first 0 (λ i x. get_or table (f + i) 0) (replicate width 0) width j l (rw (length-replicate {A = ℕ} width 0) (omega arith))

-- ---- room

pub room_true : (n : ℕ) (ps ls : List ℕ) → room_to n ps ls ≡ true → (i : ℕ) → i < n → get_or ls i 0 ≤ get_or ps i 0
unfolding room_to
room_true zero ps ls h i l = absurd (omega arith)
room_true (suc n) ps ls h i l = go (ℕ_discrete i n) (λ u. room_true n ps ls both.0 i u)
  where
    both : (room_to n ps ls ≡ true) × (leb (get_or ls n 0) (get_or ps n 0) ≡ true)
    both = (and-eq-true_iff (room_to n ps ls) (leb (get_or ls n 0) (get_or ps n 0))).0 h

    go : Dec (i ≡ n) → (i < n → get_or ls i 0 ≤ get_or ps i 0) → get_or ls i 0 ≤ get_or ps i 0
    go (yes p) ih = rw p (leb-true _ _ both.1)
    go (no d) ih = ih (omega arith)

pub room_false : (n : ℕ) (ps ls : List ℕ) → room_to n ps ls ≡ false → (i : ℕ) × (i < n) × (get_or ps i 0 < get_or ls i 0)
unfolding room_to
room_false zero ps ls h = absurd (let z : ◌≡◌ {A = Bool} true false = h in let q : ◌≡◌ {A = ℕ} 0 1 = cc in let f : ⊥ = omega arith in f)
room_false (suc n) ps ls h =
    by_test (room_to n ps ls)
    (λ q. (n, omega arith, leb-false _ _ (rw q at h)))
    (λ q. let r = room_false n ps ls q in (r.0, let l : r.0 < n = r.1 in omega arith, r.2))

-- ---- limits

module _ (acting : List ℕ) (k : ℕ) (stamp : Stamp) (n : ℕ) where
  abbrev limiting : ℕ → ℕ → ℕ
  limiting j x = limit_at (get_or acting j 0) (ltb k j) stamp

  -- beyond the slots there is none
  pub limits_beyond : (i : ℕ) → n ≤ i → i < lanes → get_or (limits_to n acting k stamp) i 0 ≡ 0
  limits_beyond i l low =
      updated_outside 0 limiting (replicate lanes 0) 0 n i (λ j u p. let z : ⊥ = omega arith in z) ∙ get_or-replicate {A = ℕ} lanes i 0 0 low

  pub limits_at : (i : ℕ) → i < n → n ≤ lanes → get_or (limits_to n acting k stamp) i 0 ≡ limit_at (get_or acting i 0) (ltb k i) stamp
  limits_at i l low = updated_first 0 limiting (replicate lanes 0) n i l (rw (length-replicate {A = ℕ} lanes 0) low)

-- ---- an event is offered to one set

-- what becomes of the row of a set with the entry's slot, by the row of the set without it
pub data Step (limits : List ℕ) (entry : Entry) (from to new : ℕ → ℕ) : Type 0 where
  no_row : from held ≡ 0 → ((j : ℕ) → j < width → new j ≡ to j) → Step limits entry from to new
  no_room : (i : ℕ) → i < lanes → from i < get_or limits i 0 → ((j : ℕ) → j < width → new j ≡ to j) → Step limits entry from to new
  joins : (from held ≡ 0 → ⊥) → ((i : ℕ) → i < lanes → get_or limits i 0 ≤ from i) → new entry.slot ≡ entry.place
      → new (lanes + entry.slot) ≡ entry.number
      → ((j : ℕ) → j < width → (j ≡ entry.slot → ⊥) → (j ≡ lanes + entry.slot → ⊥) → new j ≡ from j)
      → Step limits entry from to new

-- rows with the same entries
pub step_same : (limits : List ℕ) (entry : Entry) {from to new from' to' new' : ℕ → ℕ} → entry.slot < slots
    → ((j : ℕ) → j < width → from j ≡ from' j) → ((j : ℕ) → j < width → to j ≡ to' j) → ((j : ℕ) → j < width → new j ≡ new' j)
    → Step limits entry from to new → Step limits entry from' to' new'
step_same limits entry low f t n (no_row h s) =
    no_row (sym (f held (omega arith)) ∙ h) (λ j l. sym (n j l) ∙ s j l ∙ t j l)
step_same limits entry low f t n (no_room i l r s) =
    no_room i l (rw (f i (omega arith)) at r) (λ j l. sym (n j l) ∙ s j l ∙ t j l)
step_same limits entry low f t n (joins h r a b s) =
    joins (λ z. h (f held (omega arith) ∙ z)) (λ i l. rw (f i (omega arith)) at (r i l))
    (sym (n entry.slot (omega arith)) ∙ a)
    (sym (n (lanes + entry.slot) (omega arith)) ∙ b)
    (λ j l d e. sym (n j l) ∙ s j l d e ∙ f j l)

module _ (table : List ℕ) (limits : Limits) (entry : Entry) (whole : length table ≡ size) (low : entry.slot < slots) where
  abbrev slot : ℕ
  slot = entry.slot

  -- the row r, stored at f with the entry in it
  stored : ℕ → ℕ → List ℕ
  stored f m = with_entry table f (row_at table (row_of m)) entry

  stored_length : (f m : ℕ) → length (stored f m) ≡ size
  unfolding stored
  stored_length f m =
      length-set (set (pasted width table f (row_at table (row_of m)).at 0) (f + slot) entry.place) (f + lanes + slot) _
      ∙ length-set (pasted width table f (row_at table (row_of m)).at 0) (f + slot) _
      ∙ (rw updated_length whole)

  stored_outside : (f m i : ℕ) → ((j : ℕ) → j < width → i ≡ f + j → ⊥) → get_or (stored f m) i 0 ≡ get_or table i 0
  unfolding stored
  stored_outside f m i out =
      get_or-set_other (set (pasted width table f (row_at table (row_of m)).at 0) (f + slot) entry.place) (f + lanes + slot) i _ 0
      (λ p. out (lanes + slot) (omega arith) (let z : i ≡ f + (lanes + slot) = omega arith in z))
      ∙ get_or-set_other (pasted width table f (row_at table (row_of m)).at 0) (f + slot) i _ 0 (λ p. out slot (omega arith) p)
      ∙ pasted_outside table f (row_at table (row_of m)).at 0 width i out

  module _ (f m : ℕ) (fits : f + width ≤ size) where
    abbrev copied : List ℕ
    copied = pasted width table f (row_at table (row_of m)).at 0

    copied_length : length copied ≡ size
    copied_length = rw updated_length whole

    placed_length : length (set copied (f + slot) entry.place) ≡ size
    placed_length = length-set copied (f + slot) _ ∙ copied_length

    stored_number : get_or (stored f m) (f + (lanes + slot)) 0 ≡ entry.number
    unfolding stored
    stored_number =
        let p : f + (lanes + slot) ≡ f + lanes + slot = omega arith in
        rw p (get_or-set_same (set copied (f + slot) entry.place) (f + lanes + slot) _ 0 (rw placed_length (omega arith)))

    stored_place : get_or (stored f m) (f + slot) 0 ≡ entry.place
    unfolding stored
    stored_place =
        get_or-set_other (set copied (f + slot) entry.place) (f + lanes + slot) (f + slot) _ 0 (λ p. let z : ⊥ = omega arith in z)
        ∙ get_or-set_same copied (f + slot) _ 0 (rw copied_length (omega arith))

    stored_rest : (j : ℕ) → j < width → (j ≡ slot → ⊥) → (j ≡ lanes + slot → ⊥) → get_or (stored f m) (f + j) 0 ≡ row_in table m j
    unfolding stored
    stored_rest j l d e =
        get_or-set_other (set copied (f + slot) entry.place) (f + lanes + slot) (f + j) _ 0 (λ p. e (let z : j ≡ lanes + slot = omega arith in z))
        ∙ get_or-set_other copied (f + slot) (f + j) _ 0 (λ p. d (let z : j ≡ slot = omega arith in z))
        ∙ (rw zero-add at (pasted_inside table f (row_at table (row_of m)).at 0 width j l (rw whole fits)))
        ∙ row_entry table (row_of m) j l

  pub offered_length : (m : ℕ) → length (set_offered table m limits entry) ≡ size
  unfolding set_offered stored
  offered_length m =
      by_test (eqb (get_or table (row_of m + held) 0) 0)
      (λ q. rw q whole)
      (λ q.
      by_test (room_in (row_at table (row_of m)) limits)
      (λ r. rw (q, r) (stored_length (row_of (m + 2 ^ slot)) m))
      (λ r. rw (q, r) whole))

  -- another row stays
  pub offered_outside : (m n j : ℕ) → j < width → (n ≡ m + 2 ^ slot → ⊥)
      → row_in (set_offered table m limits entry) n j ≡ row_in table n j
  unfolding set_offered stored
  offered_outside m n j l out =
      by_test (eqb (get_or table (row_of m + held) 0) 0)
      (λ q. rw q)
      (λ q.
      by_test (room_in (row_at table (row_of m)) limits)
      (λ r. rw (q, r) (stored_outside (row_of (m + 2 ^ slot)) m (row_of n + j) (λ i u e. out (same_row (m + 2 ^ slot) i u e))))
      (λ r. rw (q, r)))
    where
      same_row : (t i : ℕ) → i < width → n * width + j ≡ t * width + i → n ≡ t
      same_row t i u e = omega arith

  -- and the row of the set with the slot
  pub offered_step : (m : ℕ) → m + 2 ^ slot < sets
      → Step limits.at entry (row_in table m) (row_in table (m + 2 ^ slot)) (row_in (set_offered table m limits entry) (m + 2 ^ slot))
  unfolding set_offered stored
  offered_step m in_sets =
      by_test (eqb (get_or table (row_of m + held) 0) 0)
      (λ q. rw q (no_row (eqb-true _ _ q) (λ j l. refl)))
      (λ q.
      by_test (room_in (row_at table (row_of m)) limits)
      (λ r.
      rw (q, r)
      (joins (eqb-false _ _ q)
      (λ i l. rw (row_entry table (row_of m) i (omega arith)) at (room_true lanes (row_at table (row_of m)).at limits.at r i l))
      (stored_place to m fits)
      (stored_number to m fits)
      (stored_rest to m fits)))
      (λ r.
      let x = room_false lanes (row_at table (row_of m)).at limits.at r in
      let l : x.0 < lanes = x.1 in
      rw (q, r) (no_room x.0 l (rw (row_entry table (row_of m) x.0 (omega arith)) at x.2) (λ j l. refl))))
    where
      to : ℕ
      to = row_of (m + 2 ^ slot)

      fits : row_of (m + 2 ^ slot) + width ≤ size
      fits = row_fits (m + 2 ^ slot) in_sets
