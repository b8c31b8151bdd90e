-- What is found in a table that keeps a list is the list's match; and an event that fits none of the slots leaves a table as it was.
-- Assumes nothing.
use Prim.Native.Nat.{ℕ, zero, suc, ◌+◌, ◌-◌, ◌^◌, ◌≤◌, ◌<◌}
use mathlib.Core.Path.{◌≡◌, refl, sym, ap, subst, ◌∙◌}
use mathlib.Core.Logic.{◌↔◌}
use mathlib.Core.Bool.{Bool, true, false≢true}
use mathlib.Core.List.{List}
use mathlib.Core.Option.{Option, some, none}
use native.Mathlib.Nat.{add_assoc}
use native.Mathlib.Omega.{arith}
use lib.Dec.{leb, ltb}
use lib.ListN.{length, get_or, take, replicate, length-replicate}
use lib.Seq.{ext_get_or, get_or-take, length-take-le}
use borrow.Author.Tests.{le-leb}
use Rattle.event.specs.declared.Event.{Event}
use Rattle.event.specs.declared.Slot.{Slot}
use Rattle.event.specs.Limits.{threads, slots}
use Rattle.event.specs.Slots.{no_event, NoneFitted}
use Rattle.event.proofs.Tests.{by_test}
use Rattle.event.proofs.Updated.{updated_length, updated_first}
use Rattle.trace.specs.Tuples.{pick}
use Rattle.trace.proofs.Verdict.{Answers, match, no_match, best_answers}
use Rattle.dependence.specs.Dependence.{dependent}
use Rattle.trace.specs.Match.{HasMatch, Named}
use Rattle.clock.specs.declared.Stamp.{Stamp}
use Rattle.table.specs.Sets.{lanes, held}
use Rattle.table.specs.Table.{pasted, slot_offered, offered_down, offered, last_row, found_in, numbers_in}
use Rattle.table.specs.Keeps.{Fits, Greatest, row_in, numbers_of, Keeping, kept, missing, Keeps, NumbersFound}
use Rattle.table.proofs.RowLaws.{pasted_outside}
use Rattle.table.proofs.BitLaws.{number_all, pick_all, listed_length, listed_at}
use Rattle.table.proofs.Start.{get_d_zeros}

module _ (fits : Fits) (ss : List Slot) (log : List Event) (table : List ℕ) (h : Keeps fits ss log table) where
  abbrev d : ℕ
  d = length ss

  -- the row of all slots
  abbrev row : ℕ → ℕ
  row = row_in table (2 ^ d - 1)

  row_kept : Keeping fits ss log (replicate d true) row
  row_kept =
      subst (λ (m : ℕ). Keeping fits ss log (replicate d true) (row_in table m)) (number_all d)
      (h.rows (replicate d true) (length-replicate {A = Bool} d true))

  all_numbers : pick (replicate d true) (numbers_of d row) ≡ numbers_of d row
  all_numbers =
      subst (λ (n : ℕ). pick (replicate n true) (numbers_of d row) ≡ numbers_of d row) (listed_length d (λ j. row (lanes + j)))
      (pick_all (numbers_of d row))

  pub data Verdict : Type 0 where
    with_row : row held ≡ 1 → HasMatch dependent fits ss log → Named dependent fits ss log (length log) (numbers_of d row) → Verdict
    with_none : row held ≡ 0 → ¬ HasMatch dependent fits ss log → Verdict

  pub verdict : Verdict
  verdict = go row_kept
    where
      answers : {o : Option (List ℕ)} → Greatest fits log (pick (replicate d true) ss) o → Answers dependent fits ss log o
      answers {o} b = best_answers no_event dependent fits ss log (subst (λ (l : List Slot). Greatest fits log l o) (pick_all ss) b)

      matched : row held ≡ 1 → Answers dependent fits ss log (some (numbers_of d row)) → Verdict
      matched r (match a b) = with_row r a b

      not_matched : row held ≡ 0 → Answers dependent fits ss log none → Verdict
      not_matched r (no_match a) = with_none r a

      go : Keeping fits ss log (replicate d true) row → Verdict
      go (kept r b f) = matched r (subst (λ (l : List ℕ). Answers dependent fits ss log (some l)) all_numbers (answers b))
      go (missing r b) = not_matched r (answers b)

  found_by : Verdict → (found_in table d ≡ true) ↔ HasMatch dependent fits ss log
  unfolding found_in
  found_by (with_row r a b) = (λ t. a, λ m. rw (le-leb d slots h.short, r))
  found_by (with_none r a) = (λ t. absurd (false≢true (rw (le-leb d slots h.short, r) at t)), λ m. absurd (a m))

  pub found_match : (found_in table d ≡ true) ↔ HasMatch dependent fits ss log
  found_match = found_by verdict

  -- the numbers that are read
  read : List ℕ
  read = pasted d (replicate slots 0) 0 table (last_row d + lanes)

  read_is : take d read ≡ numbers_of d row
  unfolding read
  read_is =
      ext_get_or 0 (take d read) (numbers_of d row)
      (whole ∙ sym (listed_length d (λ j. row (lanes + j))))
      (λ i l. each i (rw whole at l))
    where
      s : d ≤ slots
      s = h.short

      fits_in : d ≤ length {A = ℕ} (replicate slots 0)
      fits_in = let l = s in rw (length-replicate {A = ℕ} slots 0) (omega arith)

      whole : length (take d read) ≡ d
      whole =
          let l = s in
          length-take-le d read (rw (updated_length, length-replicate {A = ℕ} slots 0) l)

      each : (i : ℕ) → i < d → get_or (take d read) i 0 ≡ get_or (numbers_of d row) i 0
      each i l =
          get_or-take d read i 0 l
          ∙ updated_first 0 (λ j x. get_or table (last_row d + lanes + j) 0) (replicate slots 0) d i l fits_in
          ∙ ap (λ (j : ℕ). get_or table j 0) (add_assoc (last_row d) lanes i)
          ∙ sym (listed_at d (λ j. row (lanes + j)) i l)

  read_beyond : (j : ℕ) → d ≤ j → get_or read j 0 ≡ 0
  unfolding read
  read_beyond j l =
      pasted_outside (replicate slots 0) 0 table (last_row d + lanes) d j (λ i u p. let z : ⊥ = omega arith in z) ∙ get_d_zeros slots j

  pub found_numbers : NumbersFound fits ss log (numbers_in table d)
  unfolding numbers_in read
  found_numbers =
      by_test (found_in table d)
      (λ q.
      rw q
      (record {
        named = λ m. rw read_is (names verdict m);
        without = λ m. absurd (m (found_match.0 q));
        beyond = read_beyond;
      }))
      (λ q.
      rw q
      (record {
        named = λ m. absurd (false≢true (sym q ∙ found_match.1 m));
        without = λ m. refl;
        beyond = λ j l. get_d_zeros slots j;
      }))
    where
      names : Verdict → HasMatch dependent fits ss log → Named dependent fits ss log (length log) (numbers_of d row)
      names (with_row r a b) m = b
      names (with_none r a) m = absurd (a m)

-- ---- an event that fits none of the slots

module _ (table acting : List ℕ) (fit : List Bool) (n t : ℕ) (stamp : Stamp) (number : ℕ) where
  down_still : (k : ℕ) → NoneFitted k fit → offered_down k table acting fit n t stamp number ≡ table
  unfolding offered_down slot_offered
  down_still zero d = refl
  down_still (suc k) d = rw (d k (omega arith)) (down_still k (λ j l. d j (omega arith)))

  pub offered_still : NoneFitted n fit → offered table acting fit n t stamp number ≡ table
  unfolding offered
  offered_still d =
      by_test (ltb t threads)
      (λ q. rw q (by_test (leb n slots) (λ l. rw l (down_still n d)) (λ l. rw l)))
      (λ q. rw q)
