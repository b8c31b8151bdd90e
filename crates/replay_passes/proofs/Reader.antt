-- A reader that goes through a whole log from its start: each call gives the next event, or the end once there is none.
-- Assumes nothing.
use Prim.Native.Nat.{ℕ, ◌+◌, ◌<◌}
use native.Mathlib.Omega.{arith}
use mathlib.Core.Path.{◌≡◌, refl, sym, ap, ap₂, ◌∙◌}
use mathlib.Core.Bool.{true}
use mathlib.Core.List.{List, [], ◌∷◌, ◌++◌, append-nil}
use lib.ListN.{length, get_or, length-append}
use Rattle.event.specs.declared.Event.{Event}
use Rattle.event.specs.Slots.{slot_of}
use Rattle.event.specs.Range.{range_refusal}
use Rattle.command.specs.Reading.{Reading, command, closed, refused, event_at, decode, next_after, read_event, read_event_under}
use Rattle.command.proofs.Held.{was_taken, was_closed}
use Rattle.command.proofs.Inversion.{Found, decode_found, goes_on_lem, not_closed}
use Rattle.event_log.specs.Leading.{Leading}
use Rattle.event_log.proofs.Leading.{calls_lead, Midway, past_it, past_to}
use Rattle.passes.specs.Passes.{Leads}
use Rattle.replay_passes.specs.Copies.{ReadAs}

-- before the event at `at`, some events gone past; behind the others the log ends
pub record Ahead (bytes : List ℕ) (es gone : List Event) (at : ℕ) : Type 0 where
  pub midway : Midway bytes es gone at
  pub ends : read_event bytes midway.to ≡ closed

module _ {bytes : List ℕ} where
  -- all events lead it
  pub leads : {es : List Event} → ReadAs bytes es → Leads bytes es (length es)
  leads r = let l = calls_lead bytes r.calls in record { to = l.0; read = l.1; count = refl; few = r.few }

  pub from_start : {es : List Event} → ReadAs bytes es → Ahead bytes es [] 0
  from_start {es} r =
      let l = calls_lead bytes r.calls in
      record { midway = record { rest = es; to = l.0; whole = refl; ahead = l.1 }; ends = l.2 }

  module _ {es gone : List Event} {at : ℕ} (a : Ahead bytes es gone at) where
    module _ (e : Event) (next : ℕ) (q : command e next ≡ read_event bytes at) where
      -- an event was read, so that one was left
      pub left : length gone < length es
      left = go a.midway.ahead a.midway.whole a.ends
        where
          go : {to : ℕ} {rest : List Event} → Leading (read_event bytes) to at rest → es ≡ gone ++ rest → read_event bytes to ≡ closed → length gone < length es
          go Leading.none w c = not_closed next e (sym c ∙ sym q)
          go (Leading.more {a = x} {rest = more} p l) w c = let n : length es ≡ length gone + length (x ∷ more) = ap length w ∙ length-append gone (x ∷ more) in omega arith

      pub onward : Ahead bytes es (gone ++ (e ∷ [])) next
      onward = record { midway = past_it a.midway left e next q; ends = ap (read_event bytes) (past_to a.midway left e next q) ∙ a.ends }

    pub length_whole : length es ≡ length gone + length a.midway.rest
    length_whole = ap length a.midway.whole ∙ length-append gone a.midway.rest

-- ---- a command by its form alone

-- its thread is its second byte
pub thread_is : (bytes : List ℕ) (at : ℕ) → get_or bytes (at + 1) 0 ≡ (event_at true bytes at).thread
thread_is bytes at = omega arith

module _ (bytes : List ℕ) (at next : ℕ) (n : next ≡ next_after at (decode true bytes at)) where
  -- where the next place is another one, a whole command stands there
  pub stands_there : (next ≡ at → ⊥) → Found true bytes at (event_at true bytes at) next
  stands_there d = go (decode true bytes at) refl n
    where
      go : (r : Reading Event) → decode true bytes at ≡ r → next ≡ next_after at r → Found true bytes at (event_at true bytes at) next
      go (command e m) q z = let f = decode_found true bytes at e m q in record { stands = f.stands; event = refl; next_is = f.next_is ∙ sym z }
      go closed q z = absurd (d z)
      go (refused k o) q z = absurd (d z)

  module _ {es gone : List Event} (a : Ahead bytes es gone at) where
    -- and it is the next event,
    pub is_next : (next ≡ at → ⊥) → command (event_at true bytes at) next ≡ read_event bytes at
    unfolding read_event_under
    is_next d = go a.midway.ahead a.ends
      where
        go : {to : ℕ} {rest : List Event} → Leading (read_event bytes) to at rest → read_event bytes to ≡ closed → command (event_at true bytes at) next ≡ read_event bytes at
        go Leading.none c = absurd (d (n ∙ ap (next_after at) (was_closed (λ e. range_refusal (slot_of e)) (λ e. e) at (decode true bytes at) c)))
        go (Leading.more {next = m} {a = x} p l) c =
            let w = (was_taken (λ e. range_refusal (slot_of e)) at (decode true bytes at) x m p).0 in
            ap₂ (λ (y : Event) (k : ℕ). command y k) (decode_found true bytes at x m w).event (n ∙ ap (next_after at) w) ∙ sym p

    -- where it is the same place, none is left
    pub is_end : next ≡ at → length gone ≡ length es
    unfolding read_event_under
    is_end z = go a.midway.ahead a.midway.whole
      where
        go : {to : ℕ} {rest : List Event} → Leading (read_event bytes) to at rest → es ≡ gone ++ rest → length gone ≡ length es
        go Leading.none w = sym (ap length (w ∙ append-nil gone))
        go (Leading.more {next = m} {a = x} p l) w =
            let t = (was_taken (λ e. range_refusal (slot_of e)) at (decode true bytes at) x m p).0 in
            let u : next ≡ m = n ∙ ap (next_after at) t in
            let v = goes_on_lem true bytes at x m t in
            absurd (let f : ⊥ = omega arith in f)
