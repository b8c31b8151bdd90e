-- The events at eight places, by their numbers: where they are a log's, and blanks beyond them, those are the log's events.
use Prim.Native.Nat.{ℕ, zero, suc, ◌+◌, ◌-◌, ◌≤◌, ◌<◌}
use native.Mathlib.Omega.{arith}
use mathlib.Core.Path.{◌≡◌, refl, sym, ap₂, fun_ext, ◌∙◌}
use mathlib.Core.List.{List, [], ◌∷◌}
use lib.Dec.{ltb}
use lib.ListN.{length, get_or, replicate, get_or-replicate, get_or-append, get_or-eq_default}
use lib.Seq.{get_or-append-add}
use borrow.Author.Tests.{ltb-true, ltb-false}
use Rattle.event.specs.declared.Event.{Event}
use Rattle.event.specs.Slots.{no_event}
use Rattle.event.specs.Places.{in_places}
use Rattle.event.proofs.Tests.{by_test}
use Rattle.trace.specs.Tuples.{event_at, dep_at}
use Rattle.dependence.specs.Dependence.{dependent}
use Rattle.order_rows.specs.Rows.{order_places, past_event, event_numbered, dependent_in}

module _ (es : List Event) (few : length es ≤ order_places) where
  event_at_lem : (i : ℕ) → i < order_places → get_or (in_places no_event order_places es) i past_event ≡ get_or es i no_event
  event_at_lem i l =
      by_test (ltb i (length es))
      (λ t. let h = ltb-true i (length es) t in get_or-append es _ past_event i h ∙ same_default es i h)
      (λ f.
      let h = ltb-false i (length es) f in
      let e : i ≡ length es + (i - length es) = omega arith in
      beyond (i - length es) e (omega arith) ∙ sym (get_or-eq_default es no_event h))
    where
      same_default : (xs : List Event) (j : ℕ) → j < length xs → get_or xs j past_event ≡ get_or xs j no_event
      same_default [] j h = absurd (let f : ⊥ = omega arith in f)
      same_default (x ∷ xs) zero h = refl
      same_default (x ∷ xs) (suc j) h = same_default xs j (omega arith)

      beyond : (j : ℕ) → i ≡ length es + j → j < order_places - length es → get_or (in_places no_event order_places es) i past_event ≡ no_event
      beyond j e h = rw e (get_or-append-add es (replicate (order_places - length es) no_event) j past_event ∙ get_or-replicate (order_places - length es) j no_event past_event h)

  event_in_lem : (k : ℕ) → event_numbered (in_places no_event order_places es) k ≡ event_at no_event es k
  event_in_lem zero = refl
  event_in_lem (suc i) =
      by_test (ltb i order_places)
      (λ t. rw t (event_at_lem i (ltb-true i order_places t)))
      (λ f. let h = ltb-false i order_places f in rw f (sym (get_or-eq_default es no_event (let g : length es ≤ i = omega arith in g))))

  pub dependent_in_lem : dependent_in (in_places no_event order_places es) ≡ dep_at no_event dependent es
  dependent_in_lem = fun_ext (λ i. fun_ext (λ j. ap₂ dependent (event_in_lem i) (event_in_lem j)))
