-- What the call for a reason says, as text, is what the program prints.
use Prim.Native.Nat.{ℕ, zero, suc, ◌+◌, ◌-◌, ◌*◌, ◌≤◌}
use native.Mathlib.Omega.{arith}
use mathlib.Core.Path.{◌≡◌, refl, sym, ap, subst, ◌∙◌}
use mathlib.Core.Bool.{false, true≢false}
use mathlib.Core.List.{List, [], ◌∷◌, ◌++◌, append-nil}
use lib.Dec.{eqb}
use lib.ListN.{length, get_or, replicate, length-append, get_or-append}
use borrow.Author.Tests.{eqb-true, eqb-false, ne_eqb, le-ltb}
use Rattle.event.specs.declared.Event.{Event}
use Rattle.event.specs.declared.Slot.{Slot}
use Rattle.event.specs.Limits.{slots}
use Rattle.event.specs.Places.{in_places}
use Rattle.event.specs.Slots.{fits}
use Rattle.event.proofs.Places.{places_length}
use Rattle.event.proofs.Tests.{by_test}
use Rattle.command.specs.Bytes.{Bytes}
use Rattle.event_log.specs.Whole.{accepted, read_log, read_pattern}
use Rattle.event_log.proofs.Numbering.{numbered_event}
use Rattle.event_log.proofs.PatternRoundTrip.{pattern_iff}
use Rattle.page.specs.Text.{decimal}
use Rattle.page.specs.Lines.{longest, too_long_line}
use Rattle.page.specs.Page.{room}
use Rattle.page.proofs.Lengths.{number}
use Rattle.trace.specs.Before.{Numbered}
use Rattle.trace.specs.Reason.{Obstacle, InTheWay, none_fits, too_early}
use Rattle.trace.specs.Tuples.{Among}
use Rattle.trace.proofs.Numbers.{numbered_among, numbered_at}
use Rattle.trace.proofs.Rows.{each_length}
use Rattle.dependence.specs.Dependence.{dependent}
use Rattle.dependence.specs.Order.{Reason}
use Rattle.std.specs.Prelude.{Option, Some, None, Ok, Err}
use Rattle.run.specs.declared.RunRefusal.{RunRefusal}
use Rattle.run.specs.declared.RunRefusal.TheVariants.{Pattern, Log}
use Rattle.run.specs.Answers.{judged_is}
use Rattle.session.specs.declared.Verdict.{Verdict}
use Rattle.session.specs.Answers.{Refused, nothing, Given, found_is}
use Rattle.session.specs.Meaning as run
use Rattle.session.specs.Meaning.{RunOf, RunOn}
use Rattle.listing_text.specs.Text.{slot_text, no_match_line}
use Rattle.listing_text.specs.Listing.{SlotLines, judged}
use Rattle.listing_text.specs.OutcomeText.{lines_of, found_text, text_of}
use Rattle.listing_text.proofs.Judgement.{lines_per_slot, listed}
use Rattle.listing_text.proofs.Lengths.{slot_text_lem}
use Rattle.listing_text.proofs.Lengths.{found_fits, lines as lines-length}
use Rattle.listing_text.proofs.SlotLines.{no_line}
use Rattle.verdict_reason.specs.declared.Cause.{Cause}
use Rattle.verdict_reason.specs.Reasons.{cause_of, log_refused, match, no_match, ReasonOf, pattern_refused, over_log}
use Rattle.verdict_reason.proofs.EveryReason.{reason_none}
use Rattle.reason_text.specs.CauseText.{slot_event, cause_text, reasoned_text}
use Rattle.reason_text.specs.ReasonText as ReasonText
use Rattle.reason_text.specs.ReasonText.{WayLine, before, same, ReasonText, as_listed, with_reason}

-- ---- what is not `no match`

pub not_too_long : ¬ (too_long_line ≡ no_match_line)
not_too_long q = let z : ◌≡◌ {A = ℕ} 116 110 = cc in omega arith

match_is_not : (bytes : List ℕ) (f : Option ℕ) (ns : List ℕ) → ¬ (f ≡ None) → ¬ (found_text bytes f ns ≡ no_match_line)
match_is_not bytes (Some n) ns d q = let z : ◌≡◌ {A = ℕ} 109 110 = cc in omega arith
match_is_not bytes None ns d q = d refl

refusal_is_not : (bytes : List ℕ) (e : RunRefusal) → ¬ (text_of bytes (Err e) ≡ no_match_line)
refusal_is_not bytes (Pattern r) q = let z : ◌≡◌ {A = ℕ} 112 110 = cc in omega arith
refusal_is_not bytes (Log r) q = let z : ◌≡◌ {A = ℕ} 114 110 = cc in omega arith

-- only an answer that says no match has it
is_none : (f : Option ℕ) (ns : List ℕ) → (found_is f ns).matches ≡ false → f ≡ None
is_none (Some n) ns m = absurd (true≢false m)
is_none None ns m = refl

-- ---- the lines

no_lines : (bytes : List ℕ) → lines_of bytes 1 (replicate slots 0) ≡ []
no_lines bytes = no_line bytes 1 0 _ refl

first_blank : (n : ℕ) → ◌≡◌ {A = ℕ} (get_or (replicate n 0) 0 0) 0
first_blank zero = refl
first_blank (suc n) = refl

-- the event of a slot, in places
in_its_place : (xs : List ℕ) {i c : ℕ} → Numbered xs i c → length xs ≤ slots → slot_event (in_places 0 slots xs) i ≡ c
in_its_place xs {i} {c} n l = go i n (numbered_among n)
  where
    go : (i : ℕ) → Numbered xs i c → Among (length xs) i → slot_event (in_places 0 slots xs) i ≡ c
    go zero m u = absurd (let z : ⊥ = omega arith in z)
    go (suc j) m u =
        let q : suc j - 1 ≡ j = omega arith in
        rw (ne_eqb (suc j) 0 (λ z. let f : ⊥ = omega arith in f), le-ltb slots (suc j) (omega arith), q)
        (get_or-append xs (replicate (slots - length xs) 0) 0 j (omega arith) ∙ numbered_at 0 m)

module _ (pattern bytes : List ℕ) (b : Bytes pattern) (lp : length pattern ≤ longest) (lb : length bytes ≤ longest) (j : Verdict) (short : length j.numbers ≤ 5) where
  abbrev Prints : Option Cause → List ℕ → Type 0
  Prints c events = ReasonText pattern bytes (reasoned_text bytes j c events) × (length (reasoned_text bytes j c events) ≤ room)

  -- a match
  decided : ¬ (j.found ≡ None) → RunOf pattern bytes (judged_is (Ok j)) → Prints None (replicate slots 0)
  decided d r =
      subst (λ (t : List ℕ). ReasonText pattern bytes t × (length t ≤ room)) (sym whole_is)
      (as_listed (judged lp lb (listed pattern bytes (Ok j) r)) (match_is_not bytes j.found j.numbers d), found_fits bytes j.found j.numbers short)
    where
      whole_is : reasoned_text bytes j None (replicate slots 0) ≡ text_of bytes (Ok j)
      whole_is =
          append-nil (text_of bytes (Ok j) ++ lines_of bytes 1 (replicate slots 0))
          ∙ ap (λ (t : List ℕ). text_of bytes (Ok j) ++ t) (no_lines bytes)
          ∙ append-nil (text_of bytes (Ok j))

  -- no match
  module _ {ss : List Slot} {es : List Event} {events : List ℕ} {o : Obstacle} (p : read_pattern pattern ≡ accepted ss) (q : read_log bytes ≡ accepted es)
      (w : Reason ss es events o) where
    few : length events ≤ slots
    few =
        let n : length events ≡ length w.earlier = each_length w.first.named.fitting in
        let m : length ss ≡ length w.earlier + length (w.slot ∷ w.later) = ap length w.slots ∙ length-append w.earlier (w.slot ∷ w.later) in
        let f = ((pattern_iff pattern b ss).0 p).0.few in
        omega arith

    abbrev placed : List ℕ
    placed = in_places 0 slots events

    abbrev k : ℕ
    k = suc (length events)

    lines : SlotLines es 1 events (lines_of bytes 1 placed)
    lines = lines_per_slot bytes es q w.earlier events (replicate (slots - length events) 0) 1 w.first.named.fitting (first_blank (slots - length events))

    way : {o : Obstacle} → InTheWay dependent fits es w.slot events o
        → WayLine es k events o (cause_text bytes (Some (cause_of k o)) placed) × (length (cause_text bytes (Some (cause_of k o)) placed) ≤ 186)
    way (none_fits d) = let a : length (decimal k) ≤ 20 = number k in (ReasonText.none_fits, rw length-append (omega arith))
    way (too_early {l = l} {i = i} {c = c} {e = e} n f h m t g) =
        let z = numbered_event bytes es q l e n in
        let s = in_its_place events m few in
        let a : length (decimal i) ≤ 20 = number i in
        let u : length (slot_text k l e) ≤ 145 = slot_text_lem k l e in
        rw (z, s)
        (by_test (eqb l c)
        (λ y. rw y (same n (subst (Numbered events i) (sym (eqb-true l c y)) m), long (slot_text k l e) _ u (simp length-append (omega arith))))
        (λ y. rw y (before n m (eqb-false l c y), long (slot_text k l e) _ u (simp length-append (omega arith)))))
      where
        long : (t s : List ℕ) → length t ≤ 145 → length s ≤ 41 → length (t ++ s) ≤ 186
        long t s u v = let w = length-append t s in omega arith

    clean : {g : Given} → RunOn ss bytes g → judged_is (Ok j) ≡ g → Prints (Some (cause_of k o)) placed
    clean {g} r e =
        let n = reason_none q w r in
        let none : j.found ≡ None = is_none j.found j.numbers (ap (λ (g : Given). g.ruling.matches) e ∙ n.1) in
        let line = way w.obstacle in
        let five : length placed ≡ slots = places_length 0 slots events few in
        let l : length (lines_of bytes 1 placed) ≤ 146 * length placed = lines-length bytes 1 placed in
        let c : length (cause_text bytes (Some (cause_of k o)) placed) ≤ 186 = line.1 in
        rw none
        (with_reason lp lb p q w lines line.0, rw (length-append, length-append) (omega arith))

module _ (pattern bytes : List ℕ) (lp : length pattern ≤ longest) (lb : length bytes ≤ longest) where
  -- a refusal prints as listed
  pub refusal_text : (e : RunRefusal) → RunOf pattern bytes (judged_is (Err e)) → ReasonText pattern bytes (text_of bytes (Err e))
  refusal_text e r = as_listed (judged lp lb (listed pattern bytes (Err e) r)) (refusal_is_not bytes e)

  pub reason_text : Bytes pattern → (j : Verdict) → length j.numbers ≤ 5 → {c : Option Cause} {events : List ℕ} → ReasonOf pattern bytes (judged_is (Ok j)) c events
      → ReasonText pattern bytes (reasoned_text bytes j c events)
      × (length (reasoned_text bytes j c events) ≤ room)
  reason_text b j short h = go h refl
    where
      clash : Refused.pattern ≡ nothing → ⊥
      clash q = let z : ◌≡◌ {A = ℕ} 0 1 = cc in let f : ⊥ = omega arith in f

      go : {g : Given} {c : Option Cause} {events : List ℕ} → ReasonOf pattern bytes g c events → judged_is (Ok j) ≡ g
          → ReasonText pattern bytes (reasoned_text bytes j c events)
          × (length (reasoned_text bytes j c events) ≤ room)
      go (pattern_refused q) e = absurd (clash (sym (ap (λ (g : Given). g.refused) e)))
      go (over_log q (log_refused r d)) e = absurd (d (sym (ap (λ (g : Given). g.refused) e)))
      go (over_log q (match r m)) e =
          decided pattern bytes b lp lb j short
          (λ z. true≢false (sym m ∙ sym (ap (λ (g : Given). g.ruling.matches) e) ∙ ap (λ (f : Option ℕ). (found_is f j.numbers).matches) z))
          (subst (RunOf pattern bytes) (sym e) (run.over_log q r))
      go (over_log q (no_match r e' w)) e = clean pattern bytes b lp lb j short q e' w r e
