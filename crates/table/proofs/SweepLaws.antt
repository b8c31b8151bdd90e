-- What becomes of each row as an event is offered, at one slot, to the sets one after another.
-- Assumes nothing.
use Prim.Native.Nat.{ℕ, zero, suc, ◌+◌, ◌/◌, ◌%◌, ◌^◌, ◌≤◌, ◌<◌}
use mathlib.Core.Path.{◌≡◌, refl, sym, ◌∙◌}
use mathlib.Core.List.{List}
use native.Mathlib.Decide.{ℕ_discrete}
use native.Mathlib.Omega.{arith}
use lib.ListN.{length}
use Rattle.event.specs.Limits.{slots}
use Rattle.table.specs.declared.Limits.{Limits}
use Rattle.table.specs.declared.Entry.{Entry}
use Rattle.table.specs.Sets.{width, sets, size, spread}
use Rattle.table.specs.Table.{swept_to}
use Rattle.table.specs.Keeps.{row_in}
use Rattle.table.proofs.SetLaws.{spread_without, slot_there, spread_rises}
use Rattle.table.proofs.RowLaws.{Step, step_same, offered_length, offered_outside, offered_step}

module _ (table : List ℕ) (limits : Limits) (entry : Entry) (whole : length table ≡ size) (low : entry.slot < slots) where
  abbrev slot : ℕ
  slot = entry.slot

  abbrev after : ℕ → List ℕ
  after n = swept_to n table limits entry

  pub swept_length : (n : ℕ) → length (after n) ≡ size
  unfolding swept_to
  swept_length zero = whole
  swept_length (suc n) = offered_length (after n) limits entry (swept_length n) low (spread slot n)

  -- the row of a set without the slot stays
  pub swept_still : (n m j : ℕ) → j < width → (m / 2 ^ slot % 2 ≡ 1 → ⊥) → row_in (after n) m j ≡ row_in table m j
  unfolding swept_to
  swept_still zero m j l d = refl
  swept_still (suc n) m j l d =
      offered_outside (after n) limits entry (swept_length n) low (spread slot n) m j l (λ p. d (rw p (slot_there slot n low)))
      ∙ swept_still n m j l d

  -- the set without the slot that comes after i others, with the slot
  abbrev next : ℕ → ℕ
  next i = spread slot i + 2 ^ slot

  -- its row stays as long as the set without the slot is not reached
  swept_later : (n i j : ℕ) → j < width → n ≤ i → row_in (after n) (next i) j ≡ row_in table (next i) j
  unfolding swept_to
  swept_later zero i j l u = refl
  swept_later (suc n) i j l u =
      let r = spread_rises slot n i low u in
      offered_outside (after n) limits entry (swept_length n) low (spread slot n) (next i) j l (λ p. let z : ⊥ = omega arith in z)
      ∙ swept_later n i j l (omega arith)

  -- and once that is reached, it has the row that the set gave
  pub swept_step : (n i : ℕ) → i < n → next i < sets
      → Step limits.at entry (row_in table (spread slot i)) (row_in table (next i)) (row_in (after n) (next i))
  unfolding swept_to
  swept_step zero i l in_sets = absurd (omega arith)
  swept_step (suc n) i l in_sets = go (ℕ_discrete i n) (λ u. swept_step n i u in_sets)
    where
      Reached : ℕ → Type 0
      Reached k = Step limits.at entry (row_in table (spread slot i)) (row_in table (next i)) (row_in (after k) (next i))

      go : Dec (i ≡ n) → (i < n → Reached n) → Reached (suc n)
      go (yes p) ih =
          step_same limits.at entry low
          (λ j u. swept_still n (spread slot i) j u (spread_without slot i low))
          (λ j u. swept_later n i j u (omega arith))
          (λ j u. rw p)
          (offered_step (after n) limits entry (swept_length n) low (spread slot i) in_sets)
      go (no q) ih =
          let below : i < n = omega arith in
          let r = spread_rises slot i n low below in
          step_same limits.at entry low
          (λ j u. refl)
          (λ j u. refl)
          (λ j u. sym (offered_outside (after n) limits entry (swept_length n) low (spread slot n) (next i) j u (λ p. let z : ⊥ = omega arith in z)))
          (ih below)
