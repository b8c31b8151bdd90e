-- What is promised of a run leaves it no choice: two answers for one pattern and one log are the same, the events named too.
use Prim.Native.Nat.{ℕ, ◌<◌}
use native.Mathlib.Decide.{dec_lt}
use native.Mathlib.Omega.{arith}
use mathlib.Core.Path.{◌≡◌, refl, sym, ap, ap₂, subst, ◌∙◌}
use mathlib.Core.Bool.{false≢true}
use mathlib.Core.List.{List}
use lib.ListN.{length, get_or, take}
use lib.Seq.{get_or-take}
use Rattle.event.specs.declared.Event.{Event}
use Rattle.event.specs.declared.Slot.{Slot}
use Rattle.event.specs.Slots.{fits, no_event}
use Rattle.event.proofs.Tests.{by_test}
use Rattle.trace.proofs.Lists.{same_test}
use Rattle.trace.proofs.Counts.{count_unique}
use Rattle.trace.proofs.First as first
use Rattle.dependence.specs.Dependence.{dependent}
use Rattle.dependence.specs.Order.{HasMatch, IsCount, IsFirst}
use Rattle.dependence.proofs.Dependent.{fit_one_slot}
use Rattle.event_log.specs.Whole.{Whole, refused}
use Rattle.event_log.proofs.Rows.{refused_not_accepted, one_list, one_refusal}
use Rattle.session.specs.Answers.{refusal, Ruling, Given}
use Rattle.session.specs.Meaning.{VerdictOf, RunOn, log_refused, judged, RunOf, pattern_refused, over_log}

-- where there is a match there is exactly one first list for its count
pub one_first : (ss : List Slot) (es : List Event) {count : ℕ} → HasMatch ss es → IsCount ss es count
    → (is : List ℕ) × IsFirst ss es count is × ((js : List ℕ) → IsFirst ss es count js → js ≡ is)
one_first ss es = first.first_one no_event dependent fits fit_one_slot ss es

-- two verdicts alike: the events as they are read, which an array of five holds
pub record SameRuling (r s : Ruling) : Type 0 where
  pub matches : r.matches ≡ s.matches
  pub count : r.count ≡ s.count
  pub events : (j : ℕ) → get_or r.events j 0 ≡ get_or s.events j 0

itself : (r : Ruling) → SameRuling r r
itself r = record { matches = refl; count = refl; events = λ j. refl }

module _ {ss : List Slot} {es : List Event} {r s : Ruling} (v : VerdictOf ss es r) (w : VerdictOf ss es s)
    (f : HasMatch ss es → IsFirst ss es r.count (take (length ss) r.events))
    (g : HasMatch ss es → IsFirst ss es s.count (take (length ss) s.events)) where
  one_count : r.count ≡ s.count
  one_count = count_unique dependent fits v.count w.count

  named_alike : HasMatch ss es → (j : ℕ) → get_or r.events j 0 ≡ get_or s.events j 0
  named_alike m j = go (dec_lt j (length ss))
    where
      same : take (length ss) r.events ≡ take (length ss) s.events
      same = first.first_unique dependent fits (subst (λ (n : ℕ). IsFirst ss es n (take (length ss) r.events)) one_count (f m)) (g m)

      go : Dec (j < length ss) → get_or r.events j 0 ≡ get_or s.events j 0
      go (yes l) =
          sym (get_or-take (length ss) r.events j 0 l) ∙ ap (λ (xs : List ℕ). get_or xs j 0) same ∙ get_or-take (length ss) s.events j 0 l
      go (no d) = v.beyond j (omega arith) ∙ sym (w.beyond j (omega arith))

  one_verdict : SameRuling r s
  one_verdict =
      record {
        matches = same_test r.matches s.matches (λ t. w.matches.1 (v.matches.0 t)) (λ t. v.matches.1 (w.matches.0 t));
        count = one_count;
        events =
            by_test r.matches
            (λ t. named_alike (v.matches.0 t))
            (λ t j.
            let d : ¬ HasMatch ss es = λ m. false≢true (sym t ∙ v.matches.1 m) in
            ap (λ (xs : List ℕ). get_or xs j 0) (v.without d ∙ sym (w.without d)));
      }

-- a run's two answers alike
pub record SameGiven (g h : Given) : Type 0 where
  pub refused : g.refused ≡ h.refused
  pub refusal : g.refusal ≡ h.refusal
  pub ruling : SameRuling g.ruling h.ruling

refused_alike : {A : Type 0} {k o k' o' : ℕ} → ◌≡◌ {A = Whole A} (refused k o) (refused k' o') → refusal k o ≡ refusal k' o'
refused_alike q = ap₂ refusal (one_refusal q).0 (one_refusal q).1

one_on : {ss : List Slot} {bytes : List ℕ} {g h : Given} → RunOn ss bytes g → RunOn ss bytes h → SameGiven g h
one_on (log_refused p) (log_refused q) = record { refused = refl; refusal = refused_alike (sym p ∙ q); ruling = itself _ }
one_on (log_refused p) (judged q w g) = refused_not_accepted (sym p ∙ q)
one_on (judged p v f) (log_refused q) = refused_not_accepted (sym q ∙ p)
one_on {ss} (judged {es = es} {r = r} p v f) (judged {es = es'} {r = s} q w g) =
    let e : es' ≡ es = one_list (sym q ∙ p) in
    record {
      refused = refl;
      refusal = refl;
      ruling =
          one_verdict v (subst (λ (xs : List Event). VerdictOf ss xs s) e w) f
          (subst (λ (xs : List Event). HasMatch ss xs → IsFirst ss xs s.count (take (length ss) s.events)) e g);
    }

pub one_answer : {pattern bytes : List ℕ} {g h : Given} → RunOf pattern bytes g → RunOf pattern bytes h → SameGiven g h
one_answer (pattern_refused p) (pattern_refused q) = record { refused = refl; refusal = refused_alike (sym p ∙ q); ruling = itself _ }
one_answer (pattern_refused p) (over_log q r) = refused_not_accepted (sym p ∙ q)
one_answer (over_log p r) (pattern_refused q) = refused_not_accepted (sym q ∙ p)
one_answer {bytes = bytes} {h = h} (over_log {ss = ss} p r) (over_log {ss = ss'} q s) =
    let e : ss' ≡ ss = one_list (sym q ∙ p) in
    one_on r (subst (λ (xs : List Slot). RunOn xs bytes h) e s)
