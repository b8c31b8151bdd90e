-- A search that has come to a log's end without an event for some slot: what stands in that slot's way is the reason.
use Prim.Native.Nat.{ℕ, suc, ◌+◌, ◌-◌, ◌≤◌, ◌<◌}
use native.Mathlib.Omega.{arith}
use native.Mathlib.Numerals.{add-one}
use mathlib.Core.Path.{◌≡◌, refl, sym, ap, ap₂, subst, ◌∙◌}
use mathlib.Core.List.{List, [], ◌∷◌, ◌++◌, Memᴰ as Mem}
use lib.ListN.{length, get_or, take, drop, replicate, length-drop, take-append-drop}
use lib.Seq.{length-take-le, drop-cons, get_or-take, get_or-drop}
use borrow.Author.Tests.{eq-eqb}
use Rattle.event.specs.declared.Event.{Event}
use Rattle.event.specs.declared.Slot.{Slot}
use Rattle.event.specs.Limits.{slots as slot_limit}
use Rattle.event.specs.Places.{in_places}
use Rattle.event.specs.Slots.{fits, no_event, no_slot}
use Rattle.event_log.specs.declared.Pattern.{Pattern}
use Rattle.std.specs.Prelude.{Option, Some, None, Result, Ok, Err, is_ok}
use mathlib.Core.Bool.{false, false≢true}
use Rattle.event.specs.declared.refusal.Refused.{Refused}
use Rattle.command.specs.Bytes.{Bytes}
use Rattle.event_log.specs.Whole.{accepted, read_log, read_pattern, Renders}
use Rattle.event_log.proofs.Answers.{told_refused}
use Rattle.event_log.proofs.Leading.{accepted_leads}
use Rattle.trace.specs.Tuples.{Among}
use Rattle.trace.proofs.First.{ChosenOf, StuckOf}
use Rattle.trace.proofs.FirstArrivals.{chosen_among}
use Rattle.trace.proofs.Numbers.{numbered_mem}
use Rattle.trace.proofs.Reasons.{stuck_barred, stopped}
use Rattle.dependence.specs.Dependence.{dependent}
use Rattle.dependence.specs.Order.{Reason, thread_of}
use Rattle.dependence.proofs.Dependent.{fit_one_slot}
use Rattle.first.specs.declared.Search.{Search}
use Rattle.first.specs.Holding.{chosen_by, Settled}
use Rattle.first.proofs.Filling.{ss_length}
use Rattle.passes.specs.Passes.{Leads}
use Rattle.slot_search.specs.declared.LogSearch.{LogSearch}
use Rattle.slot_search.specs.Patterns.{Usable}
use Rattle.slot_search.specs.Searching as search
use Rattle.slot_search.specs.Searching.{SearchedIn}
use Rattle.slot_search.proofs.Usable.{slots_of, accepted_slots}
use Rattle.session.specs.Answers.{Given}
use Rattle.session.specs.Meaning.{RunOn}
use Rattle.run.specs.declared.RunRefusal.{RunRefusal}
use Rattle.run.specs.declared.RunRefusal.TheVariants as refusal
use Rattle.run.specs.Answers.{judged_is, verdict_after}
use Rattle.run.proofs.Verdict.{searched_verdict, good_pattern}
use Rattle.verdict_reason.specs.declared.Cause.{Cause}
use Rattle.verdict_reason.specs.declared.Reasoned.{Reasoned}
use Rattle.verdict_reason.specs.Reasons.{cause_of, ReasonOn, log_refused, match, no_match, ReasonOf, pattern_refused, over_log, run_part, cause_part, events_part}
use Rattle.verdict_reason.specs.Causes.{Stopped, Causes}
use Rattle.verdict_reason.proofs.ByStamps.{numbered_take}

-- numbers of which those from k on are 0, as a row of places
zeros : (xs : List ℕ) → ((j : ℕ) → get_or xs j 0 ≡ 0) → xs ≡ replicate (length xs) 0
zeros [] z = refl
zeros (x ∷ xs) z = ap₂ ◌∷◌ (z 0) (zeros xs (λ j. z (suc j)))

in_places_lem : (xs : List ℕ) (k : ℕ) → k ≤ length xs → ((j : ℕ) → k ≤ j → get_or xs j 0 ≡ 0) → xs ≡ in_places 0 (length xs) (take k xs)
in_places_lem xs k l z =
    sym (take-append-drop k xs)
    ∙ ap (λ (ys : List ℕ). take k xs ++ ys)
    (zeros (drop k xs) (λ j. get_or-drop k xs j 0 ∙ z (k + j) (omega arith))
    ∙ ap (λ (n : ℕ). replicate n 0) (length-drop k xs ∙ ap (λ (n : ℕ). length xs - n) (sym (length-take-le k xs l))))

module _ {p : Pattern} (u : Usable p) {es : List Event} {s : Search} (h : Settled es p.slots p.size s) (l : s.found < p.size) where
  abbrev ss : List Slot
  ss = take p.size p.slots

  abbrev slot : Slot
  slot = get_or p.slots s.found no_slot

  left_are : drop s.found ss ≡ slot ∷ drop (suc s.found) ss
  left_are =
      drop-cons ss s.found no_slot (rw (ss_length (slots_of u)) l)
      ∙ ap (λ (x : Slot). x ∷ drop (suc s.found) ss) (get_or-take p.size p.slots s.found no_slot l)

  few : s.found ≤ length s.numbers
  few = let w = h.found.shaped.whole in let f = u.few in omega arith

  pub stopped_there : Stopped es slot s.found s.numbers
  stopped_there =
      record {
        low = u.low s.found l;
        whole = h.found.shaped.whole;
        beyond = h.found.shaped.beyond;
        listed = λ j v. listed _ (numbered_mem (numbered_take s.numbers s.found j v few));
        barred = stuck_barred no_event dependent fits es (drop (suc s.found) ss) {s = slot} listed (subst (λ (left : List Slot). StuckOf no_event dependent fits es left (chosen_by s)) left_are h.stuck);
      }
    where
      listed : (c : ℕ) → Mem c (chosen_by s) → Among (length es) c
      listed = chosen_among no_event dependent thread_of fits es h.found.steps

  -- the reason, in numbers and places
  pub reason_given : {g : Given} {bytes : List ℕ} {cause : Cause} → RunOn ss bytes g → read_log bytes ≡ accepted es → Causes es slot s.found s.numbers cause
      → ReasonOn ss bytes g (Some cause) s.numbers
  reason_given {g} {bytes} {cause} r q c = go c.is
    where
      long : length (chosen_by s) ≡ s.found
      long = length-take-le s.found s.numbers few

      placed : s.numbers ≡ in_places 0 slot_limit (chosen_by s)
      placed =
          let w = h.found.shaped.whole in
          in_places_lem s.numbers s.found few h.found.shaped.beyond ∙ ap (λ (n : ℕ). in_places 0 n (chosen_by s)) w

      why : Reason ss es (chosen_by s) c.obstacle
      why = stopped no_event dependent fits es fit_one_slot (subst (λ (left : List Slot). ChosenOf no_event dependent fits ss es (chosen_by s) left) left_are h.found.steps) c.stands

      go : cause ≡ cause_of (s.found + 1) c.obstacle → ReasonOn ss bytes g (Some cause) s.numbers
      go e =
          subst (λ (ns : List ℕ). ReasonOn ss bytes g (Some cause) ns) (sym placed)
          (subst (λ (x : Cause). ReasonOn ss bytes g (Some x) (in_places 0 slot_limit (chosen_by s))) (sym (e ∙ ap (λ (n : ℕ). cause_of n c.obstacle) (add-one s.found ∙ ap suc (sym long))))
          (no_match r q why))

-- ---- what a search gives

module _ {p : Pattern} (u : Usable p) {bytes : List ℕ} (s : LogSearch) (h : SearchedIn p.slots p.size bytes (Ok s)) where
  abbrev Gives : Option Cause → List ℕ → Type 0
  Gives = ReasonOn (take p.size p.slots) bytes (judged_is (Ok (verdict_after p.size s.search)))

  said : RunOn (take p.size p.slots) bytes (judged_is (Ok (verdict_after p.size s.search)))
  said = searched_verdict u (Ok s) h

  pub when_found : s.search.found ≡ p.size → Gives None (replicate slot_limit 0)
  when_found e = match said (rw (eq-eqb _ _ e) refl)

  pub when_stopped : {cause : Cause} → ¬ (s.search.found ≡ p.size)
      → ((es : List Event) → Leads bytes es s.events → Stopped es (get_or p.slots s.search.found no_slot) s.search.found s.search.numbers
      → Causes es (get_or p.slots s.search.found no_slot) s.search.found s.search.numbers cause) → Gives (Some cause) s.search.numbers
  when_stopped {cause} d causes = go h
    where
      go : SearchedIn p.slots p.size bytes (Ok s) → Gives (Some cause) s.search.numbers
      go (search.searched {es = es} q n w settled) =
          let l = accepted_leads bytes q in
          let less : s.search.found < p.size = omega arith in
          reason_given u settled less said q
          (causes es (record { to = l.0; read = l.1; count = sym n; few = let f = l.2 in omega arith }) (stopped_there u settled less))

-- ---- the whole call, as it hands a refusal on

abbrev pub Reasons : List ℕ → List ℕ → Result Reasoned RunRefusal → Type 0
Reasons pattern bytes r = ReasonOf pattern bytes (judged_is (run_part r)) (cause_part r) (events_part r)

pub refused_pattern : {pattern bytes : List ℕ} (r : Result Pattern Refused) (j : Result Reasoned RunRefusal) → Renders r (read_pattern pattern) → is_ok r ≡ false
    → ((m : Refused) → r ≡ Err m → j ≡ Err (refusal.Pattern m)) → Reasons pattern bytes j
refused_pattern (Ok p) j h z f = absurd (false≢true (sym z))
refused_pattern {pattern} (Err m) j h z f = rw (f m refl) (pattern_refused (told_refused (read_pattern pattern) h.answer))

module _ (pattern : List ℕ) (p : Pattern) (h : Renders (Ok p) (read_pattern pattern)) (b : Bytes pattern) {bytes : List ℕ} where
  pub over : {g : Given} {c : Option Cause} {events : List ℕ} → ReasonOn (take p.size p.slots) bytes g c events → ReasonOf pattern bytes g c events
  over {g} {c} {events} r =
      let o = accepted_slots (λ ss. ReasonOn ss bytes g c events) pattern h.answer
      (subst (λ (x : Pattern). ReasonOn (take x.size x.slots) bytes g c events) h.pattern r) in
      over_log o.1 o.2

  pub refused_log : (r : Result LogSearch Refused) (j : Result Reasoned RunRefusal) → SearchedIn p.slots p.size bytes r → is_ok r ≡ false
      → ((m : Refused) → r ≡ Err m → j ≡ Err (refusal.Log m)) → Reasons pattern bytes j
  refused_log (Ok s) j w z f = absurd (false≢true (sym z))
  refused_log (Err m) j w z f =
      rw (f m refl)
      (over (log_refused (searched_verdict (good_pattern pattern p h b) (Err m) w) (λ e. let z : ◌≡◌ {A = ℕ} 0 1 = cc in let f : ⊥ = omega arith in f)))
