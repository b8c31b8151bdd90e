-- Some events of a log read into a batch, and where that leaves a reader.
use Prim.Native.Nat.{ℕ, ◌+◌, ◌-◌, ◌<◌, ◌≤◌}
use native.Mathlib.Numerals.{add-one}
use native.Mathlib.Omega.{arith}
use mathlib.Core.Path.{◌≡◌, refl, sym, ap, subst, ◌∙◌}
use mathlib.Core.List.{List, [], ◌∷◌, ◌++◌, reverse, reverse-append}
use lib.ListN.{length, length-append, length-reverse, take, set}
use lib.Seq.{take-suc-set, length-take-le}
use Rattle.std.specs.Prelude.{Some, None, Ok, Err}
use Rattle.event.specs.declared.Event.{Event}
use Rattle.event.specs.declared.refusal.Refused.{Refused}
use Rattle.event.specs.Refusals.{refusal_number}
use Rattle.event.specs.Limits.{events}
use Rattle.rules.specs.State.{StateOf}
use Rattle.rules.proofs.StateLaws.{clear}
use Rattle.command.specs.Reading.{Reading, command, closed, refused as refused_at}
use Rattle.event_log.specs.Whole.{accepted, refused, step_after, read_log, read_log_under}
use Rattle.event_log.specs.Step.{taken_then, StepAfter}
use Rattle.event_log.proofs.Rows as rows
use Rattle.event_log.proofs.LogWalk.{Going, step_taken, step_onward}
use Rattle.row_batch.specs.Batch.{batch, events_of}
use Rattle.row_pass.specs.declared.Filled.{Filled}
use Rattle.row_pass.specs.Passing.{Stop, filled_of, Steps, no_step, one_step, StopsAt, full, at_end, at_refusal, FilledFrom}

-- the end and a refusal are no full batch
not_full_end : {A : Type 0} {at : ℕ} → ◌≡◌ {A = Stop} (Ok None) (Ok (Some at)) → A
not_full_end {at = at} e = absurd (let y : ◌≡◌ {A = ℕ} 0 1 = cc in let f : ⊥ = omega arith in f)

not_full_refusal : {A : Type 0} {r : Refused} {at : ℕ} → ◌≡◌ {A = Stop} (Err r) (Ok (Some at)) → A
not_full_refusal {r = r} {at = at} e = absurd (let y : ◌≡◌ {A = ℕ} 0 1 = cc in let f : ⊥ = omega arith in f)

not_end : {A : Type 0} {r : Refused} → ◌≡◌ {A = Stop} (Err r) (Ok None) → A
not_end {r = r} e = absurd (let y : ◌≡◌ {A = ℕ} 0 1 = cc in let f : ⊥ = omega arith in f)

-- the next place of a full batch, and the refusal of a command
unfoldable place_in : Stop → ℕ
place_in (Ok (Some next)) = next
place_in (Ok None) = 0
place_in (Err r) = 0

unfoldable refused_in : Stop → Reading Event
refused_in (Ok stop) = closed
refused_in (Err r) = refused_at (refusal_number r.reason) r.offset

-- ---- the events of a batch under way, k of them read

-- for every past that the state held: the steps so far, and the state now
pub record Reading-on (bytes : List ℕ) (from : ℕ) (past events : List Event) (state : List ℕ) (at k : ℕ) : Type 0 where
  pub taken : List Event
  pub steps : Steps bytes from past at taken
  pub are : taken ≡ reverse (take k events) ++ past
  pub holds : StateOf taken state

pub started : (bytes : List ℕ) (from : ℕ) (past es : List Event) (state : List ℕ) → StateOf past state → Reading-on bytes from past es state from 0
started bytes from past es state h = record { taken = past; steps = no_step; are = refl; holds = h }

module _ {bytes : List ℕ} {from : ℕ} {past events : List Event} {state : List ℕ} {at k : ℕ} (low : k ≤ batch) (size : length events ≡ batch) (r : Reading-on bytes from past events state at k) where
  inside : k ≤ length events
  inside = omega (arith, low, size)

  count : length r.taken ≡ k + length past
  count = ap length r.are ∙ length-append (reverse (take k events)) past ∙ ap (λ (n : ℕ). n + length past) (length-reverse (take k events) ∙ length-take-le k events inside)

  -- the step that is made here, by what it says of every past that the state holds
  pub made : (before : ℕ) → before ≡ length past → {outcome : Reading Event} {after : List ℕ}
      → ((ps : List Event) → StateOf ps state → before + k ≡ length ps → StepAfter bytes ps at outcome after) → StepAfter bytes r.taken at outcome after
  made before n history = history r.taken r.holds (let c = count in omega (arith, c, n))

  pub next_event : {e : Event} {next : ℕ} {after : List ℕ} {outcome : Reading Event} → k < batch → outcome ≡ command e next → StepAfter bytes r.taken at outcome after
      → Reading-on bytes from past (set events k e) after next (k + 1)
  next_event {e} {next} {after} below q s =
      record {
        taken = e ∷ r.taken;
        steps = one_step r.steps (sym s.is ∙ q);
        are =
            ap (λ (l : List Event). e ∷ l) r.are
            ∙ ap (λ (l : List Event). l ++ past) (sym (ap (λ (j : ℕ). reverse (take j (set events k e))) (add-one k) ∙ ap reverse (take-suc-set events k e (omega (arith, below, size))) ∙ reverse-append (take k events) (e ∷ [])));
        holds = subst (λ (o : Reading Event). StateOf (taken_then r.taken o) after) q s.holds;
      }

  -- the reading stops here
  stopped : (stop : Stop) (after : List ℕ) → StateOf r.taken after → StopsAt bytes at r.taken stop → (stop ≡ Ok (Some at) → 0 < k) → FilledFrom bytes from past (filled_of events k stop) after
  stopped stop after h s some =
      record { to = at; taken = r.taken; steps = r.steps; events = r.are; many = length-take-le k events inside; state = h; stops = s; some = some }

  pub ends : {outcome : Reading Event} {after : List ℕ} → StepAfter bytes r.taken at outcome after → outcome ≡ closed → FilledFrom bytes from past (filled_of events k (Ok None)) after
  ends {after = after} s q = stopped (Ok None) after (subst (λ (o : Reading Event). StateOf (taken_then r.taken o) after) q s.holds) (at_end (sym s.is ∙ q)) not_full_end

  pub breaks : {outcome : Reading Event} {after : List ℕ} (x : Refused) → StepAfter bytes r.taken at outcome after → outcome ≡ refused_at (refusal_number x.reason) x.offset
      → FilledFrom bytes from past (filled_of events k (Err x)) after
  breaks {after = after} x s q = stopped (Err x) after (subst (λ (o : Reading Event). StateOf (taken_then r.taken o) after) q s.holds) (at_refusal (sym s.is ∙ q)) not_full_refusal

  pub is_full : 0 < k → FilledFrom bytes from past (filled_of events k (Ok (Some at))) state
  is_full some = stopped (Ok (Some at)) state r.holds full (λ e. some)

-- ---- a reader after some steps

module _ {bytes : List ℕ} {from to : ℕ} {past taken : List Event} where
  going_on : rows.Going bytes (step_after bytes) from past → Steps bytes from past to taken → rows.Going bytes (step_after bytes) to taken
  going_on g s = go s
    where
      go : {to : ℕ} {taken : List Event} → Steps bytes from past to taken → rows.Going bytes (step_after bytes) to taken
      go no_step = g
      go (one_step {at} {next} {taken} {e} s q) = rows.one_more (go s) (step_onward bytes) e next q

  -- it has gone forward, where an event was taken
  forward : Steps bytes from past to taken → (from ≤ to) × (length past < length taken → from < to)
  forward s = go s
    where
      go : {to : ℕ} {taken : List Event} → Steps bytes from past to taken → (from ≤ to) × (length past < length taken → from < to)
      go no_step = (omega arith, λ l. absurd (let f : ⊥ = omega (arith, l) in f))
      go (one_step {at} {next} {taken} {e} s q) =
          let on : at < next = (step_onward bytes taken at e next q).0 in
          let before = (go s).0 in
          (omega (arith, on, before), λ l. omega (arith, on, before))

-- no more events than a log may have
few_events : {bytes : List ℕ} {from to : ℕ} {past taken : List Event} → Steps bytes from past to taken → length past ≤ events → length taken ≤ events
few_events no_step l = l
few_events {bytes} (one_step {at} {next} {taken} {e} s q) l = let room = (clear taken e (step_taken bytes taken at e next q).1).room in omega (arith, room)

module _ {bytes state after : List ℕ} {count at : ℕ} {past : List Event} {r : Filled} (g : Going bytes state count at past) (f : FilledFrom bytes at past r after) where
  pub all_taken : length f.taken ≡ count + r.batch.size
  all_taken = ap length f.events ∙ length-append (reverse (events_of r.batch)) past ∙ ap (λ (n : ℕ). n + length past) (length-reverse (events_of r.batch) ∙ f.many) ∙ (let n = g.count in omega (arith, n))

  pub gone_on : Going bytes after (count + r.batch.size) f.to f.taken
  gone_on = record { row = going_on g.row f.steps; holds = f.state; count = sym all_taken }

  pub few : count ≤ events → count + r.batch.size ≤ events
  few l = let n = all_taken in let c = g.count in let t = few_events f.steps (omega (arith, l, c)) in omega (arith, n, t)

  pub ended : r.stop ≡ Ok None → accepted (reverse f.taken) ≡ read_log bytes
  unfolding read_log_under
  ended q = go f.stops q
    where
      go : {stop : Stop} → StopsAt bytes f.to f.taken stop → stop ≡ Ok None → accepted (reverse f.taken) ≡ read_log bytes
      go full q = not_full_end (sym q)
      go (at_end z) q = rows.at_end (going_on g.row f.steps) z
      go (at_refusal z) q = not_end q

  pub broken : (x : Refused) → r.stop ≡ Err x → refused (refusal_number x.reason) x.offset ≡ read_log bytes
  unfolding read_log_under refused_in
  broken x q = go f.stops q
    where
      go : {stop : Stop} → StopsAt bytes f.to f.taken stop → stop ≡ Err x → refused (refusal_number x.reason) x.offset ≡ read_log bytes
      go full q = not_full_refusal (sym q)
      go (at_end z) q = not_end (sym q)
      go (at_refusal z) q = rows.broken (going_on g.row f.steps) (refusal_number x.reason) x.offset (z ∙ ap refused_in q)

  -- a full batch: the next place is where the steps lead
  pub goes_to : {next : ℕ} → r.stop ≡ Ok (Some next) → f.to ≡ next
  unfolding place_in
  goes_to q = go f.stops q
    where
      go : {stop : Stop} {next : ℕ} → StopsAt bytes f.to f.taken stop → stop ≡ Ok (Some next) → f.to ≡ next
      go full q = ap place_in q
      go (at_end z) q = not_full_end q
      go (at_refusal z) q = not_full_refusal q

  pub shorter : 0 < r.batch.size → length bytes - f.to < length bytes - at
  shorter s =
      let n = all_taken in
      let c = g.count in
      let on = (forward f.steps).1 (omega (arith, n, c, s)) in
      let w = (going_on g.row f.steps).within in
      omega (arith, on, w)
