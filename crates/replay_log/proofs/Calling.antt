-- The call's answer, by what the run over the log said.
use Prim.Native.Nat.{ℕ, zero, suc, ◌≤◌, ◌<◌}
use native.Mathlib.Nat.{zero-add}
use native.Mathlib.Omega.{arith}
use mathlib.Core.Path.{◌≡◌, refl, ap, ◌∙◌}
use mathlib.Core.Bool.{Bool, true, false, false≢true}
use mathlib.Core.List.Memᴰ.{head}
use mathlib.Core.List.Memᴰ.{tail}
use mathlib.Core.List.{List, [], ◌∷◌, ◌++◌, Memᴰ as Mem}
use lib.ListN.{length, get_or, take, drop, length-append}
use lib.Seq.{get_or-take}
use Rattle.event.specs.declared.Event.{Event}
use Rattle.event.specs.declared.Slot.{Slot}
use Rattle.trace.specs.Match.{smallest, without}
use Rattle.trace.proofs.Rows.{each_length, each_mem}
use Rattle.trace.proofs.Numbers.{numbered_among}
use Rattle.dependence.specs.Order.{IsCount, Named}
use Rattle.command.specs.Bytes.{Bytes}
use Rattle.event_log.specs.Whole.{Whole, read_log, read_pattern, accepted, pattern_from, log_bytes}
use Rattle.event_log.proofs.Leading.{few_events}
use Rattle.event_log.proofs.LogRoundTrip.{log_calls}
use Rattle.session.specs.Answers.{Ruling, Refused, nothing, refusal, found_is, Given}
use Rattle.session.specs.Meaning.{VerdictOf, log_refused, judged, RunOf, pattern_refused, over_log}
use Rattle.std.specs.Prelude.{Some, None, Ok, Err}
use Rattle.event.specs.declared.refusal.Refusal.TheVariants.{NoRoom}
use Rattle.session.specs.declared.Verdict.{Verdict}
use Rattle.run.specs.declared.RunRefusal.{RunRefusal}
use Rattle.run.specs.declared.RunRefusal.TheVariants.{Pattern, Log}
use Rattle.run.specs.Answers.{judged_is}
use Rattle.replay_passes.specs.Copies.{ReadAs, NamedAmong, Replays}
use Rattle.replay_log.specs.Replay.{ReplayOf}

pub read_whole : (bytes : List ℕ) → Bytes bytes → (es : List Event) → read_log bytes ≡ accepted es → ReadAs bytes es
read_whole bytes b es q = let c = (log_calls bytes es).0 q in record { bytes_are = b; calls = c.0; few = few_events es c.1 }

-- ---- what a run that refused nothing said

is_nothing : Refused → Bool
is_nothing nothing = true
is_nothing Refused.pattern = false
is_nothing Refused.log = false

pub pattern_not_nothing : {A : Type 0} → Refused.pattern ≡ nothing → A
unfolding is_nothing
pattern_not_nothing q = absurd (false≢true (ap is_nothing q))

pub log_not_nothing : {A : Type 0} → Refused.log ≡ nothing → A
unfolding is_nothing
log_not_nothing q = absurd (false≢true (ap is_nothing q))

-- the slots and the events of the run, and its verdict
pub record Passed (pattern bytes : List ℕ) (g : Given) : Type 0 where
  pub ss : List Slot
  pub es : List Event
  pub slots_are : read_pattern pattern ≡ accepted ss
  pub events_are : read_log bytes ≡ accepted es
  pub verdict : VerdictOf ss es g.ruling

pub run_passed : (pattern bytes : List ℕ) (g : Given) → RunOf pattern bytes g → g.refused ≡ nothing → Passed pattern bytes g
run_passed pattern bytes g (pattern_refused q) z = pattern_not_nothing z
run_passed pattern bytes g (over_log q (log_refused r)) z = log_not_nothing z
run_passed pattern bytes g (over_log {ss = ss} q (judged {es = es} r v f)) z = record { ss = ss; es = es; slots_are = q; events_are = r; verdict = v }

-- ---- nothing written

pub refused_alike : (pattern bytes buffer : List ℕ) (e : RunRefusal) → RunOf pattern bytes (judged_is (Err e)) → ReplayOf pattern bytes buffer (judged_is (Err e)) 0 buffer
refused_alike pattern bytes buffer (Pattern r) run = ReplayOf.refused run (λ z. pattern_not_nothing z)
refused_alike pattern bytes buffer (Log r) run = ReplayOf.refused run (λ z. log_not_nothing z)

module _ (pattern bytes buffer : List ℕ) (v : Verdict) (run : RunOf pattern bytes (judged_is (Ok v))) where
  pub short_of_it : length buffer < length bytes → ReplayOf pattern bytes buffer (judged_is (Err (Log (record { reason = NoRoom; offset = 0 })))) 0 buffer
  short_of_it l = ReplayOf.too_short run refl l

  pub no_match_shown : v.found ≡ None → length bytes ≤ length buffer → ReplayOf pattern bytes buffer (judged_is (Ok v)) 0 buffer
  no_match_shown n l = ReplayOf.none run refl l (rw n refl)

-- ---- with a match

mem_at : (xs : List ℕ) (j : ℕ) → j < length xs → Mem (get_or xs j 0) xs
mem_at [] j l = absurd (omega arith)
mem_at (x ∷ xs) zero l = head refl
mem_at (x ∷ xs) (suc j) l = tail (mem_at xs j (omega arith))

module _ {ss : List Slot} {es : List Event} {r : Ruling} (v : VerdictOf ss es r) (t : r.matches ≡ true) where
  -- the events named are among the first, so many as the count says
  pub listed : NamedAmong es r.events (length ss) r.count
  listed =
      record {
        few = within v.count;
        each = λ j l.
            let m = mem_at named j (rw (each_length n.fitting) l) in
            let a = numbered_among (each_mem n.fitting m).2.1 in
            let w : (0 < get_or named j 0) × (get_or named j 0 ≤ r.count) = (a.0, n.within (get_or named j 0) m) in
            rw (get_or-take (length ss) r.events j 0 l) at w;
      }
    where
      named : List ℕ
      named = take (length ss) r.events

      n : Named ss es r.count (take (length ss) r.events)
      n = v.named (v.matches.0 t)

      within : {k : ℕ} → IsCount ss es k → k ≤ length es
      within (smallest l h w) = l
      within (without h) = omega arith

module _ (pattern bytes buffer : List ℕ) (v : Verdict) (run : RunOf pattern bytes (judged_is (Ok v))) (n : ℕ) (e : v.found ≡ Some n) where
  abbrev matched : Given
  matched = record { refused = nothing; refusal = refusal 0 0; ruling = found_is (Some n) v.numbers }

  pub replay_written : length bytes ≤ length buffer → Bytes bytes → (size long : ℕ) (after : List ℕ) → size ≡ (pattern_from (read_pattern pattern)).size
      → ((es : List Event) → ReadAs bytes es → NamedAmong es v.numbers size n → length bytes ≤ length buffer → Replays es (take size v.numbers) buffer long after)
      → ReplayOf pattern bytes buffer (judged_is (Ok v)) long after
  replay_written l b size long after is writes =
      let said : RunOf pattern bytes matched = rw e at run in
      let p = run_passed pattern bytes matched said refl in
      let s : size ≡ length p.ss = is ∙ ap (λ (w : Whole Slot). (pattern_from w).size) p.slots_are in
      let w = rw s at (writes p.es (read_whole bytes b p.es p.events_are) (rw s (listed p.verdict refl)) l) in
      let long-is = w.bytes in
      let after_is : after ≡ log_bytes w.order ++ drop (length (log_bytes w.order)) buffer = w.is ∙ ap (λ (k : ℕ). log_bytes w.order ++ drop k buffer) (zero-add (length (log_bytes w.order))) in
      rw (e, long-is, after_is) (ReplayOf.shown said refl l refl p.slots_are p.events_are w.replay)

-- ---- what was written lies within the buffer

pub replay_within : {pattern bytes buffer after : List ℕ} {g : Given} {long : ℕ} → ReplayOf pattern bytes buffer g long after → long ≤ length after
replay_within (ReplayOf.refused run z) = omega arith
replay_within (ReplayOf.too_short run z l) = omega arith
replay_within (ReplayOf.none run z l f) = omega arith
replay_within {buffer = buffer} (ReplayOf.shown {order = order} run z l t p q r) =
    let h = length-append (log_bytes order) (drop (length (log_bytes order)) buffer) in omega arith
