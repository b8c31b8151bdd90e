-- The answer to an event gives the number of the rules, and the offset 0.
use Rattle.std.specs.Prelude.{ℕ, ◌≡◌, cond, List, [], ◌∷◌, ◌++◌, eqb, Result, Ok, Err, refl}
use mathlib.Core.Path.{sym, ap}
use borrow.Author.Tests.{eqb-true}
use Rattle.event.specs.declared.Effect.{Effect}
use Rattle.event.specs.declared.Effect.TheVariants.{Acquires, Releases, Forks, Joins, Nothing}
use Rattle.event.specs.declared.Event.{Event}
use Rattle.event.specs.declared.refusal.Refusal.{Refusal}
use Rattle.event.specs.declared.refusal.Refused.{Refused}
use Rattle.event.specs.Effects.{effect_of}
use Rattle.event.specs.Range.{Row, first_met, range_rows}
use Rattle.event.specs.Refusals.{refusal_number, number_given, reason_of}
use Rattle.event.specs.Slots.{slot_of}
use Rattle.event.proofs.Refusals.{numbered, reason_numbered}
use Rattle.event.proofs.Tests.{by_test}
use Rattle.rules.specs.State.{refusal_by, effect_rows_by, event_rows_by}
use Rattle.session.specs.Answers.{refusal, answer_is}
use Rattle.session.specs.Model.{answer_by}

-- a refusal of a session has the offset 0
abbrev pub at_start : Result Unit Refusal → Result Unit Refused
at_start (Ok u) = Ok u
at_start (Err k) = Err (record { reason = k; offset = 0 })

pub answered : (r : Result Unit Refusal) → at_start r ≡ answer_by (number_given r)
answered (Ok u) = refl
answered (Err k) = rw (numbered k, reason_numbered k) refl

-- ---- a number that the rules give is that of a reason

-- the number of its reason; 0 stays
abbrev by_reason : ℕ → ℕ
by_reason k = cond (eqb k 0) 0 (refusal_number (reason_of k))

abbrev WithReasons : List Row → Type 0
WithReasons [] = Unit
WithReasons (r ∷ rows) = (by_reason r.number ≡ r.number) × WithReasons rows

first_reason : (rows : List Row) → WithReasons rows → by_reason (first_met rows) ≡ first_met rows
first_reason [] h = refl
first_reason (r ∷ rows) h = by_test r.met (λ q. rw q h.0) (λ q. rw q (first_reason rows h.1))

effect_reasons : (state : List ℕ) (t : ℕ) (x : Effect) → WithReasons (effect_rows_by state t x)
effect_reasons state t (Acquires l) = (refl, (refl, tt))
effect_reasons state t (Releases l) = (refl, tt)
effect_reasons state t (Forks c) = (refl, tt)
effect_reasons state t (Joins c) = (refl, tt)
effect_reasons state t Nothing = tt

reasons : (state : List ℕ) (taken : ℕ) (e : Event) → WithReasons (range_rows (slot_of e) ++ event_rows_by state taken e)
reasons state taken e = (refl, (refl, (refl, (refl, (refl, effect_reasons state e.thread (effect_of e))))))

by_its_reason : (k : ℕ) → by_reason k ≡ k → answer_is (answer_by k) ≡ refusal k 0
by_its_reason k h =
    by_test (eqb k 0)
    (λ q. rw q (ap (λ (n : ℕ). refusal n 0) (sym (eqb-true k 0 q))))
    (λ q. rw q (ap (λ (n : ℕ). refusal n 0) (rw q at h)))

pub number_answered : (state : List ℕ) (taken : ℕ) (e : Event) → answer_is (answer_by (refusal_by state taken e)) ≡ refusal (refusal_by state taken e) 0
unfolding refusal_by
number_answered state taken e = by_its_reason _ (first_reason (range_rows (slot_of e) ++ event_rows_by state taken e) (reasons state taken e))
