-- For every log that is read, and every list of events that the rule allows, the replay log shows the pattern.
use Prim.Native.Nat.{ℕ}
use mathlib.Core.Path.{◌≡◌, sym, ap, ◌∙◌}
use mathlib.Core.Bool.{true}
use mathlib.Core.List.{List}
use lib.ListN.{length, take}
use Rattle.event.specs.declared.Event.{Event}
use Rattle.event.specs.declared.Slot.{Slot}
use Rattle.event.specs.Slots.{fits}
use Rattle.trace.specs.Swaps.{stay}
use Rattle.trace.specs.Match.{Holds}
use Rattle.command.specs.Bytes.{Bytes}
use Rattle.event_log.specs.Whole.{read_log, read_pattern, accepted}
use Rattle.event_log.proofs.LogRoundTrip.{log_read, log_iff}
use Rattle.dependence.specs.Order.{Named, HasMatch}
use Rattle.session.specs.Answers.{Ruling}
use Rattle.session.specs.Meaning.{VerdictOf}
use Rattle.session.proofs.Demand.{run_over}
use Rattle.replay_order.proofs.Order.{replay_reached, replay_perm, replay_accepted, replay_holds}
use Rattle.replay_passes.proofs.Lengths.{perm_length, perm_heights}
use Rattle.replay_log.specs.Shows.{IsReplayLog, Shows}

module _ (pattern : List ℕ) (ss : List Slot) (p : read_pattern pattern ≡ accepted ss) (read : List ℕ) (b : Bytes read) (es : List Event) (q : read_log read ≡ accepted es)
    (numbers written : List ℕ) (w : IsReplayLog es numbers written) where
  pub replay_shows : (count : ℕ) → Named ss es count numbers → Shows pattern ss es read written
  replay_shows count n =
      let c = (log_iff read b es).0 q in
      let r = replay_reached es numbers w.replay in
      let h = replay_holds ss es count numbers n w.replay in
      let perm = replay_perm es numbers w.replay in
      let reads : read_log written ≡ accepted w.order = ap read_log w.bytes ∙ log_read w.order (replay_accepted es numbers c.0 w.replay) (perm_heights perm c.1) in
      record {
        order = w.order;
        reads = reads;
        reached = r;
        holds = h;
        as_long = ap length w.bytes ∙ perm_length perm ∙ sym (ap length c.2);
        again = λ g run. let v = run_over ss w.order pattern written p reads g run in (v.0, v.1.matches.1 (matched h));
      }
    where
      matched : Holds fits ss w.order → HasMatch ss w.order
      matched h = (w.order, stay, h)

-- so it is of the events that a session or a run names with its match
pub verdict_shows : (pattern : List ℕ) (ss : List Slot) → read_pattern pattern ≡ accepted ss → (read : List ℕ) → Bytes read → (es : List Event) → read_log read ≡ accepted es
    → (r : Ruling) → VerdictOf ss es r → r.matches ≡ true → (written : List ℕ) → IsReplayLog es (take (length ss) r.events) written → Shows pattern ss es read written
verdict_shows pattern ss p read b es q r v t written w =
    replay_shows pattern ss p read b es q (take (length ss) r.events) written w r.count (v.named (v.matches.0 t))
