-- What the numbers of a pattern's slots tell: their threads, and which of them an event fits.
use Prim.Native.Nat.{ℕ, zero, suc, ◌-◌, ◌/◌, ◌%◌, ◌<◌}
use native.Mathlib.Omega.{arith}
use mathlib.Core.Path.{◌≡◌, refl, sym, ap₂}
use mathlib.Core.Bool.{Bool, false}
use mathlib.Core.List.{List, [], ◌∷◌, ◌++◌}
use lib.ListN.{length, get_or, replicate}
use borrow.Author.Tests.{ne_eqb}
use Rattle.event.specs.declared.Event.{Event}
use Rattle.event.specs.declared.Slot.{Slot}
use Rattle.event.specs.Limits.{slots}
use Rattle.event.specs.Slots.{slot_of, fitting, threads_of}
use Rattle.event.specs.Range.{range_refusal_under}
use Rattle.event.specs.Keys.{slot_number, slot_numbers}
use Rattle.event.proofs.InRange.{in_range}
use Rattle.event.proofs.SlotNumbers.{byte_low, fits_by_number}
use Rattle.event_log.specs.Whole.{InLimits, no_slot_lem, one_slot, GoodPattern, blank, padded}
use Rattle.event_numbers.specs.SlotNumbers.{acting_in, fitting_in}

-- a good pattern's slots are within their limits, and so are the places beyond them
blanks : (n : ℕ) → InLimits (replicate n blank)
unfolding range_refusal_under
blanks zero = no_slot_lem
blanks (suc n) = one_slot refl (blanks n)

both : (ss ts : List Slot) → InLimits ss → InLimits ts → InLimits (ss ++ ts)
both [] ts no_slot_lem h = h
both (s ∷ ss) ts (one_slot z g) h = one_slot z (both ss ts g h)

pub places_within : (ss : List Slot) → GoodPattern ss → InLimits (padded ss)
places_within ss g = both ss (replicate (slots - length ss) blank) g.limits (blanks (slots - length ss))

pub threads_told : (ss : List Slot) → InLimits ss → acting_in (slot_numbers ss) ≡ threads_of ss
unfolding acting_in slot_numbers threads_of
threads_told [] no_slot_lem = refl
threads_told (s ∷ ss) (one_slot z g) =
    let b = byte_low s.operation in
    let t = (in_range s z).thread in
    let e : slot_number s / 256 % 256 ≡ s.thread = omega arith in
    ap₂ (λ (x : ℕ) (xs : List ℕ). x ∷ xs) e (threads_told ss g)

pub fits_told : (e : Event) → e.thread < 256 → (ss : List Slot) → InLimits ss → fitting_in (slot_numbers ss) (slot_number (slot_of e)) ≡ fitting ss e
unfolding fitting_in slot_numbers fitting
fits_told e l [] no_slot_lem = refl
fits_told e l (s ∷ ss) (one_slot z g) =
    let t = (in_range s z).thread in
    ap₂ (λ (x : Bool) (xs : List Bool). x ∷ xs) (sym (fits_by_number s e (omega arith) l)) (fits_told e l ss g)

-- a slot with another number than that of the event's own is one that the event does not fit
pub none_told : (ns : List ℕ) (n j : ℕ) → (get_or ns j 0 ≡ n → ⊥) → get_or (fitting_in ns n) j false ≡ false
unfolding fitting_in
none_told [] n j d = refl
none_told (m ∷ ns) n zero d = ne_eqb m n d
none_told (m ∷ ns) n (suc j) d = none_told ns n j d
