-- The table of no events keeps the empty list, for every pattern.
-- Assumes nothing.
use Prim.Native.Nat.{ℕ, zero, suc, ◌+◌, ◌*◌, ◌≤◌, ◌<◌}
use mathlib.Core.Path.{◌≡◌, refl, sym, ap, subst, ◌∙◌}
use mathlib.Core.Bool.{Bool, true, false}
use mathlib.Core.List.{List, [], ◌∷◌, ◌++◌}
use native.Mathlib.Decide.{ℕ_discrete}
use native.Mathlib.Omega.{arith}
use lib.ListN.{length, get_or, replicate, length-replicate, get_or-replicate, get_or-append}
use lib.Seq.{get_or-append-add}
use Rattle.event.specs.declared.Slot.{Slot}
use Rattle.event.specs.Limits.{slots}
use Rattle.event.proofs.Updated.{updated_length}
use Rattle.trace.specs.Tuples.{pick}
use Rattle.trace.proofs.Lists.{both_ways}
use Rattle.trace.proofs.Numbers.{numbered_among}
use Rattle.trace.proofs.Greatest.{best_nil, best_cons}
use Rattle.table.specs.Sets.{lanes, width, held, size, absent}
use Rattle.table.specs.Table.{empty_row, fresh_table}
use Rattle.table.specs.Keeps.{Fits, set_number, row_in, numbers_of, Keeping, kept, missing, Keeps}
use Rattle.table.proofs.RowLaws.{pasted_outside, pasted_inside}

pub get_d_zeros : (n i : ℕ) → ◌≡◌ {A = ℕ} (get_or (replicate n 0) i 0) 0
get_d_zeros zero i = refl
get_d_zeros (suc n) zero = refl
get_d_zeros (suc n) (suc i) = get_d_zeros n i

-- ---- the empty set

no_bit : (bs : List Bool) → set_number bs ≡ 0 → (j : ℕ) → get_or bs j false ≡ false
no_bit [] h j = refl
no_bit (true ∷ bs) h j = absurd (let z : ⊥ = omega arith in z)
no_bit (false ∷ bs) h zero = refl
no_bit (false ∷ bs) h (suc j) = no_bit bs (omega arith) j

no_pick : {A : Type 0} (bs : List Bool) (xs : List A) → set_number bs ≡ 0 → pick bs xs ≡ []
no_pick [] xs h = refl
no_pick (b ∷ bs) [] h = refl
no_pick (true ∷ bs) (x ∷ xs) h = absurd (let z : ⊥ = omega arith in z)
no_pick (false ∷ bs) (x ∷ xs) h = no_pick bs xs (omega arith)

some_pick : {A : Type 0} (bs : List Bool) (xs : List A) → length bs ≡ length xs → (set_number bs ≡ 0 → ⊥)
    → (x : A) × (l : List A) × (pick bs xs ≡ x ∷ l)
some_pick [] xs e h = absurd (h refl)
some_pick (b ∷ bs) [] e h = absurd (let z : ⊥ = omega arith in z)
some_pick (true ∷ bs) (x ∷ xs) e h = (x, pick bs xs, refl)
some_pick (false ∷ bs) (x ∷ xs) e h = some_pick bs xs (omega arith) (λ p. h (let z : 0 + 2 * set_number bs ≡ 0 = omega arith in z))

-- ---- the rows

-- of the empty set
first_row : (j : ℕ) → j < width → row_in fresh_table 0 j ≡ get_or empty_row j 0
unfolding fresh_table
first_row j l = pasted_inside (replicate size 0) 0 empty_row 0 width j l (rw (length-replicate {A = ℕ} size 0) (omega arith)) ∙ ap (λ (i : ℕ). get_or empty_row i 0) (plain j)
  where
    plain : (i : ℕ) → 0 + i ≡ i
    plain i = omega arith

empty_place : (j : ℕ) → j < lanes → get_or empty_row j 0 ≡ absent
empty_place j l = get_or-append (replicate lanes absent) (replicate 7 0 ++ (1 ∷ [])) 0 j l ∙ get_or-replicate {A = ℕ} lanes j absent 0 l

empty_number : (j : ℕ) → j < slots → get_or empty_row (lanes + j) 0 ≡ 0
empty_number j l =
    get_or-append-add (replicate lanes absent) (replicate 7 0 ++ (1 ∷ [])) j 0
    ∙ get_or-append (replicate 7 0) (1 ∷ []) 0 j (omega arith)
    ∙ get_d_zeros 7 j

-- of any other
other_row : (m j : ℕ) → (m ≡ 0 → ⊥) → row_in fresh_table m j ≡ 0
unfolding fresh_table
other_row m j d =
    pasted_outside (replicate size 0) 0 empty_row 0 width (m * width + j) (λ i l p. d (let z : m ≡ 0 = omega arith in z))
    ∙ get_d_zeros size (m * width + j)

module _ (fits : Fits) (ss : List Slot) (bs : List Bool) (len : length bs ≡ length ss) where
  start_row : Dec (set_number bs ≡ 0) → Keeping fits ss [] bs (row_in fresh_table (set_number bs))
  start_row (yes p) =
      subst (λ (m : ℕ). Keeping fits ss [] bs (row_in fresh_table m)) (sym p)
      (kept (first_row held (omega arith))
      (rw (no_pick bs ss p, no_pick bs (numbers_of (length ss) (row_in fresh_table 0)) p) (best_nil _ _))
      (record {
        filled = λ j l t. absurd (both_ways t (no_bit bs p j));
        no_place = λ j l t. first_row j (omega arith) ∙ empty_place j l;
        no_number = λ j l t. first_row (lanes + j) (omega arith) ∙ empty_number j l;
      }))
  start_row (no d) =
      let x = some_pick bs ss len d in
      missing (other_row (set_number bs) held d) (rw x.2 (best_cons _ _ x.0 x.1))

pub nothing_yet : (fits : Fits) (ss : List Slot) → length ss ≤ slots → Keeps fits ss [] fresh_table
unfolding fresh_table
nothing_yet fits ss l =
    record {
      whole = rw (updated_length, length-replicate {A = ℕ} size 0);
      short = l;
      low = λ i a x. absurd (let u = numbered_among x in let z : ⊥ = omega arith in z);
      rows = λ bs len. start_row fits ss bs len (ℕ_discrete (set_number bs) 0);
    }
