-- A list that is given stands for an order exactly where it has eight places, those beyond the events hold 0, and those before them an order.
use Prim.Native.Nat.{ℕ, ◌-◌, ◌≤◌}
use native.Mathlib.Omega.{arith}
use mathlib.Core.Path.{◌≡◌, sym, ap, ◌∙◌}
use mathlib.Core.Logic.{◌↔◌}
use mathlib.Core.Bool.{Bool, true, false}
use mathlib.Core.List.{List}
use lib.ListN.{length, take, drop, replicate, take-append-drop}
use lib.Seq.{length-take-le, drop-append_seam}
use Rattle.event.specs.declared.Event.{Event}
use Rattle.event.specs.Slots.{no_event}
use Rattle.event.specs.Places.{in_places}
use Rattle.event.proofs.Places.{places_first, places_length}
use Rattle.trace.specs.Tuples.{dep_at}
use Rattle.trace.proofs.Lists.{both_ways}
use Rattle.dependence.specs.Dependence.{dependent}
use Rattle.enumeration.specs.Computed.{ordered}
use Rattle.enumeration.proofs.OrderLists.{is_order, order_sized}
use Rattle.order_rows.specs.Rows.{order_places, order_row, dependent_in}
use Rattle.order_rows.proofs.Events.{dependent_in_lem}
use Rattle.orders_log.specs.OrderCalls.{IsOrder, IsRow}

-- all places from one on hold 0
abbrev pub Zeros : List ℕ → ℕ → Type 0
Zeros row from = drop from row ≡ replicate (length row - from) 0

module _ (es : List Event) (few : length es ≤ order_places) (row : List ℕ) where
  order_size : (o : List ℕ) → IsOrder es o → length o ≡ length es
  order_size o h = (order_sized no_event dependent es o h).0

  pub row_length : IsRow es row → length row ≡ order_places
  row_length (o, h, e) = ap length e ∙ places_length 0 order_places o (let s = order_size o h in omega arith)

  pub row_zeros : IsRow es row → Zeros row (length es)
  row_zeros (o, h, e) =
      rw (row_length (o, h, e), sym (order_size o h), e) (drop-append_seam o (replicate (order_places - length o) 0))

  row_order : IsRow es row → IsOrder es (take (length es) row)
  row_order (o, h, e) = rw (sym (order_size o h), e, places_first) h

  order_row_lem : length row ≡ order_places → Zeros row (length es) → IsOrder es (take (length es) row) → IsRow es row
  order_row_lem l z h =
      let n : length (take (length es) row) ≡ length es = length-take-le (length es) row (omega arith) in
      let e : row ≡ order_row (take (length es) row) = sym (take-append-drop (length es) row) ∙ rw (z, l, n) in
      (take (length es) row, h, e)

-- the test, so many events at eight places
pub tested : (events : List Event) (count : ℕ) (row : List ℕ) (r : Bool) → count ≤ order_places → length row ≡ order_places → Zeros row count
    → r ≡ ordered (dependent_in events) (length (take count row)) (take count row) → (es : List Event) → count ≡ length es
    → events ≡ in_places no_event order_places es → (r ≡ true) ↔ IsRow es row
tested events count row r few l z e es n p =
    let m : length es ≤ order_places = omega arith in
    let k : length (take count row) ≡ length es = length-take-le count row (omega arith) ∙ n in
    let f : r ≡ ordered (dep_at no_event dependent es) (length es) (take (length es) row) = e ∙ rw (k, p, dependent_in_lem es m, n) in
    let h = is_order no_event dependent es (take (length es) row) in (
      λ t. order_row_lem es m row l (rw n at z) (h.0 (sym f ∙ t)),
      λ s. f ∙ h.1 (row_order es m row s),
    )

-- where it fails before
pub untested : (row : List ℕ) (es : List Event) {r : Bool} → r ≡ false → (IsRow es row → ⊥) → (r ≡ true) ↔ IsRow es row
untested row es f d = (λ t. absurd (both_ways t f), λ s. absurd (d s))
