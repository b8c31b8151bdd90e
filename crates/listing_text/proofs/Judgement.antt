-- What a run said, as text, is the listing; and a page holds it.
use Prim.Native.Nat.{ℕ, ◌+◌}
use native.Mathlib.Omega.{arith}
use mathlib.Core.Path.{◌≡◌, refl, sym, ap, subst, ◌∙◌}
use mathlib.Core.Bool.{true, false≢true, cond}
use mathlib.Core.List.{List, [], ◌∷◌, ◌++◌}
use lib.ListN.{length, get_or, take, drop, take-append-drop}
use lib.Seq.{get_or-drop}
use Rattle.event.specs.declared.Event.{Event}
use Rattle.event.specs.declared.Slot.{Slot}
use Rattle.event.specs.Slots.{fits}
use Rattle.event_log.specs.Whole.{accepted, read_log}
use Rattle.event_log.proofs.Numbering.{numbered_event}
use Rattle.trace.specs.Before.{Numbered}
use Rattle.trace.specs.Match.{Each, none, more}
use Rattle.trace.specs.Tuples.{Among}
use Rattle.trace.proofs.Numbers.{numbered_among}
use Rattle.dependence.specs.Order.{HasMatch}
use Rattle.std.specs.Prelude.{Option, Some, None, Result, Ok, Err}
use Rattle.session.specs.declared.Verdict.{Verdict}
use Rattle.run.specs.declared.RunRefusal.{RunRefusal}
use Rattle.run.specs.declared.RunRefusal.TheVariants.{Pattern, Log}
use Rattle.session.specs.Answers.{Refused, nothing, Given, refusal, found_is}
use Rattle.run.specs.Answers.{judged_is}
use Rattle.session.specs.Meaning.{RunOf, pattern_refused, over_log, log_refused, judged}
use Rattle.event.proofs.Tests.{by_test}
use Rattle.page.specs.Lines.{refusal_line}
use Rattle.listing_text.specs.Text.{slot_line, pattern_refusal_line, no_match_line, match_line}
use Rattle.listing_text.specs.OutcomeText.{lines_of, found_text, text_of}
use Rattle.listing_text.specs.Listing as listing
use Rattle.listing_text.specs.Listing.{SlotLines}
use Rattle.listing_text.proofs.SlotLines.{no_line, a_line}

-- a line for each number up to the first 0 is a line per slot
module _ (bytes : List ℕ) (es : List Event) (q : read_log bytes ≡ accepted es) where
  ended : (slot : ℕ) (zeros : List ℕ) → get_or zeros 0 0 ≡ 0 → lines_of bytes slot zeros ≡ []
  unfolding lines_of
  ended slot [] z = refl
  ended slot (n ∷ zeros) z = no_line bytes slot n zeros z

  pub lines_per_slot : (ss : List Slot) (ns zeros : List ℕ) (slot : ℕ) → Each (λ s i. (e : Event) × Numbered es i e × (fits s e ≡ true)) ss ns
      → get_or zeros 0 0 ≡ 0 → SlotLines es slot ns (lines_of bytes slot (ns ++ zeros))
  lines_per_slot [] [] zeros slot none z = subst (SlotLines es slot []) (sym (ended slot zeros z)) listing.none
  lines_per_slot [] (n ∷ ns) zeros slot x z = elim x [ ]
  lines_per_slot (s ∷ ss) [] zeros slot x z = elim x [ ]
  lines_per_slot (s ∷ ss) (n ∷ ns) zeros slot (more (e, m, f) rest) z =
      subst (SlotLines es slot (n ∷ ns)) (sym whole) (listing.line m (lines_per_slot ss ns zeros (slot + 1) rest z))
    where
      whole : lines_of bytes slot (n ∷ (ns ++ zeros)) ≡ slot_line slot n e ++ lines_of bytes (slot + 1) (ns ++ zeros)
      whole =
          a_line bytes slot n (ns ++ zeros) (λ y. let a : Among (length es) n = numbered_among m in let f : ⊥ = omega arith in f)
          ∙ ap (λ (x : Event). slot_line slot n x ++ lines_of bytes (slot + 1) (ns ++ zeros)) (numbered_event bytes es q n e m)

-- the text of what a run gives, whichever case of its answer stands for it
by_refused : {A : Type 0} → Refused → A → A → A → A
by_refused nothing a b c = a
by_refused Refused.pattern a b c = b
by_refused Refused.log a b c = c

given_text : List ℕ → Given → List ℕ
given_text bytes g =
    by_refused g.refused
    (cond g.ruling.matches (match_line g.ruling.count ++ lines_of bytes 1 g.ruling.events) no_match_line)
    (pattern_refusal_line g.refusal.number g.refusal.offset)
    (refusal_line g.refusal.number g.refusal.offset)

found_is_text : (bytes : List ℕ) (f : Option ℕ) (numbers : List ℕ)
    → given_text bytes (record { refused = nothing; refusal = refusal 0 0; ruling = found_is f numbers }) ≡ found_text bytes f numbers
unfolding given_text by_refused
found_is_text bytes (Some n) numbers = refl
found_is_text bytes None numbers = refl

text_is : (bytes : List ℕ) (r : Result Verdict RunRefusal) → given_text bytes (judged_is r) ≡ text_of bytes r
unfolding given_text by_refused
text_is bytes (Ok v) = found_is_text bytes v.found v.numbers
text_is bytes (Err (Pattern r)) = refl
text_is bytes (Err (Log r)) = refl

given_listed : (pattern bytes : List ℕ) (g : Given) → RunOf pattern bytes g → listing.Judged pattern bytes (given_text bytes g)
unfolding given_text by_refused
given_listed pattern bytes g (pattern_refused q) = listing.pattern_refused q
given_listed pattern bytes g (over_log a (log_refused q)) = listing.log_refused a q
given_listed pattern bytes g (over_log {ss = ss} a (judged {es = es} {r = r} q v first)) =
    by_test r.matches
    (λ y. let h = v.matches.0 y in rw y (listing.match a q h v.count (first h) (lines h)))
    (λ y. rw y (listing.no_match a q (λ m. false≢true (sym y ∙ v.matches.1 m))))
  where
    lines : HasMatch ss es → SlotLines es 1 (take (length ss) r.events) (lines_of bytes 1 r.events)
    lines h =
        subst (λ (l : List ℕ). SlotLines es 1 (take (length ss) r.events) (lines_of bytes 1 l)) (take-append-drop (length ss) r.events)
        (lines_per_slot bytes es q ss (take (length ss) r.events) (drop (length ss) r.events) 1 (v.named h).fitting
        (get_or-drop (length ss) r.events 0 0 ∙ v.beyond (length ss + 0) (omega arith)))

pub listed : (pattern bytes : List ℕ) (r : Result Verdict RunRefusal) → RunOf pattern bytes (judged_is r) → listing.Judged pattern bytes (text_of bytes r)
listed pattern bytes r h = subst (listing.Judged pattern bytes) (text_is bytes r) (given_listed pattern bytes (judged_is r) h)
