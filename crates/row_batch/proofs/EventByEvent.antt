-- Some events handed to one session, one after another: the session and its first refusal go on event by event.
use Prim.Native.Nat.{ℕ, ◌<◌, ◌+◌}
use native.Mathlib.Numerals.{add-one}
use mathlib.Core.Path.{◌≡◌, refl, sym, ap, ◌∙◌}
use mathlib.Core.Bool.{cond}
use mathlib.Core.List.{List, [], ◌∷◌, ◌++◌}
use lib.Dec.{eqb}
use lib.ListN.{length, take, get_or}
use lib.Seq.{take-suc}
use borrow.Author.Tests.{eqb-true}
use Rattle.std.specs.Prelude.{Result, Ok, Err}
use Rattle.event.specs.declared.Event.{Event}
use Rattle.event.specs.declared.refusal.Refusal.{Refusal}
use Rattle.event.specs.Refusals.{number_given}
use Rattle.event.specs.Slots.{fitting, threads_of}
use Rattle.event.proofs.Refusals.{numbered}
use Rattle.event.proofs.Tests.{by_test}
use Rattle.rules.specs.State.{refusal_by}
use Rattle.session.specs.declared.Session.{Session}
use Rattle.session.specs.Model.{Kept, kept_of, session_on, kept_after, handed, handed_all}
use Rattle.session.proofs.Answered.{number_answered}
use Rattle.session.proofs.NoFit.{handed_last}
use Rattle.row_batch.specs.Batch.{first_refusal}
use Rattle.session_row.specs.Row.{alone_with}

first_last : (s : Session) (es : List Event) (e : Event) → first_refusal s (es ++ (e ∷ [])) ≡ cond (eqb (first_refusal s es) 0) (alone_with e (handed_all s es)).number (first_refusal s es)
unfolding first_refusal handed_all
first_last s [] e = by_test (eqb (alone_with e s).number 0) (λ q. rw q (sym (eqb-true (alone_with e s).number 0 q))) (λ q. rw q)
first_last s (f ∷ es) e = by_test (eqb (alone_with f s).number 0) (λ q. rw q (first_last (alone_with f s).after es e)) (λ q. rw (q, q))

-- s has been handed es: it is `now`, and this is its first refusal
pub record Gone (s : Session) (es : List Event) (now : Session) (first : Result Unit Refusal) : Type 0 where
  pub pattern : now.pattern ≡ s.pattern
  pub session : now ≡ handed_all s es
  pub number : number_given first ≡ first_refusal s es

pub not_yet : (s : Session) → Gone s [] s (Ok tt)
unfolding handed_all first_refusal
not_yet s = record { pattern = refl; session = refl; number = refl }

-- the earlier refusal, or the later where there is no earlier one
abbrev pub earlier : Result Unit Refusal → Result Unit Refusal → Result Unit Refusal
earlier (Ok u) next = next
earlier (Err k) next = Err k

earlier_number : (first next : Result Unit Refusal) → number_given (earlier first next) ≡ cond (eqb (number_given first) 0) (number_given next) (number_given first)
earlier_number (Ok u) next = refl
earlier_number (Err k) next = rw (numbered k) refl

-- one more event, that at place i: `next` is its answer, and j what it leaves of the session
pub one_more : (s : Session) (es : List Event) (i : ℕ) (d : Event) (now : Session) (j : Kept) (first next : Result Unit Refusal) → i < length es → Gone s (take i es) now first
    → number_given next ≡ refusal_by now.state now.taken (get_or es i d)
    → j ≡ kept_after (threads_of s.pattern.slots) (fitting s.pattern.slots (get_or es i d)) s.pattern.size (kept_of now) (get_or es i d)
    → Gone s (take (i + 1) es) (session_on now.pattern j) (earlier first next)
unfolding handed
one_more s es i d now j first next l gone number after = rw (add-one i, take-suc es i d l) (record { pattern = gone.pattern; session = session; number = last })
  where
    e : Event
    e = get_or es i d

    handed-on : session_on now.pattern j ≡ (handed now e).session
    handed-on = ap (session_on now.pattern) (rw gone.pattern after)

    session : session_on now.pattern j ≡ handed_all s (take i es ++ (e ∷ []))
    session = handed-on ∙ ap (λ (t : Session). (handed t e).session) gone.session ∙ sym (handed_last s (take i es) e)

    here : number_given next ≡ (alone_with e (handed_all s (take i es))).number
    here = number ∙ sym (ap (λ r. r.number) (number_answered now.state now.taken e)) ∙ ap (λ (t : Session). (alone_with e t).number) gone.session

    last : number_given (earlier first next) ≡ first_refusal s (take i es ++ (e ∷ []))
    last = earlier_number first next ∙ (λ i. cond (eqb (gone.number i) 0) (here i) (gone.number i)) ∙ sym (first_last s (take i es) e)
