-- Two limits of threads: where neither pattern nor events name a thread that the smaller refuses, runs and sessions are what they were under it.
use Prim.Native.Nat.{ℕ, ◌≤◌}
use native.Mathlib.Omega.{arith}
use mathlib.Core.Path.{◌≡◌, refl, sym, ap, ◌∙◌}
use mathlib.Core.Logic.{◌↔◌}
use mathlib.Core.List.{List, [], ◌∷◌, reverse}
use Rattle.event.specs.declared.Event.{Event}
use Rattle.event.specs.Limits.{threads, former_threads}
use Rattle.rules.specs.Accepted.{refusal_under, taken_under, EachNamesBelow, none_named, one_named}
use Rattle.rules.proofs.Limits.{refusal_alike, taken_alike, all_taken_alike}
use Rattle.event_log.specs.Whole.{read_log_under, read_pattern_under, outcome_of}
use Rattle.event_log.specs.Naming.{LogNamesBelow, PatternNamesBelow}
use Rattle.event_log.proofs.Limits.{log_alike, pattern_alike}
use Rattle.session.specs.declared.Opened.{Opened}
use Rattle.session.specs.Answers.{refusal, Refusal, Given}
use Rattle.session.specs.Meaning.{OpenedOn, RunOnUnder, log_refused, judged, RunOf, RunOfUnder, pattern_refused, over_log}
use Rattle.session.specs.History.{refusals_under, taken_of_under, EveryHistory}
use Rattle.session.specs.Limits.{HistoryUnder}
use Rattle.session.proofs.Demand.{every_history}
use Rattle.session.proofs.OneAnswer.{SameGiven, one_answer}

-- ---- runs

-- what a run gives goes by what is read
read_alike : (limit limit' : ℕ) {pattern bytes : List ℕ} {g : Given} → read_pattern_under limit pattern ≡ read_pattern_under limit' pattern
    → read_log_under limit bytes ≡ read_log_under limit' bytes → RunOfUnder limit pattern bytes g → RunOfUnder limit' pattern bytes g
read_alike limit limit' p l (pattern_refused q) = pattern_refused (sym p ∙ q)
read_alike limit limit' {bytes = bytes} p l (over_log {ss = ss} q on) = over_log (sym p ∙ q) (go on)
  where
    go : {g : Given} → RunOnUnder limit ss bytes g → RunOnUnder limit' ss bytes g
    go (log_refused r) = log_refused (sym l ∙ r)
    go (judged r v first) = judged (sym l ∙ r) v first

module _ (limit limit' : ℕ) (h : limit ≤ limit') where
  -- one answer for both limits: what is refused, by which number and where; match or none, count and events
  pub run_alike : {pattern bytes : List ℕ} → PatternNamesBelow limit pattern → LogNamesBelow limit bytes → (g : Given)
      → RunOfUnder limit pattern bytes g ↔ RunOfUnder limit' pattern bytes g
  run_alike {pattern} {bytes} p l g =
      let ps = pattern_alike limit limit' h pattern p in
      let ls = log_alike limit limit' h bytes l in
      (read_alike limit limit' ps ls, read_alike limit' limit (sym ps) (sym ls))

  refusals_alike : (past : List Event) {es : List Event} → EachNamesBelow limit es → refusals_under limit past es ≡ refusals_under limit' past es
  unfolding refusals_under
  refusals_alike past none_named = refl
  refusals_alike past (one_named {e = e} low rest) =
      rw (refusal_alike limit limit' h past e low, taken_alike limit limit' h past e low)
      (ap (λ (rs : List Refusal). refusal (refusal_under limit' past e) 0 ∷ rs) (refusals_alike (taken_under limit' past e) rest))

  taken_of_alike : {es : List Event} → EachNamesBelow limit es → taken_of_under limit es ≡ taken_of_under limit' es
  taken_of_alike low = ap reverse (all_taken_alike limit limit' h [] low)

-- ---- sessions

-- a session is opened, and its events are taken, under `threads`: what it gives is also what is promised under any smaller limit
pub history_under : (limit : ℕ) → limit ≤ threads → (bytes : List ℕ) (opened : Opened) → OpenedOn bytes opened → PatternNamesBelow limit bytes
    → (events : List Event) → EachNamesBelow limit events → HistoryUnder limit bytes opened events
history_under limit h bytes opened o p events low =
    record {
      opening = o.answer ∙ ap outcome_of (sym slots_read);
      each_answer = every.each_answer ∙ sym (refusals_alike limit threads h [] low);
      verdict = rw (slots_read, taken_of_alike limit threads h low) every.verdict;
    }
  where
    slots_read : read_pattern_under limit bytes ≡ read_pattern_under threads bytes
    slots_read = pattern_alike limit threads h bytes p

    every : EveryHistory bytes opened events
    every = every_history bytes opened o events

-- ---- "Where neither log nor pattern names a thread above 7, verdict and count stay"

pub run_stays : (pattern bytes : List ℕ) → PatternNamesBelow former_threads pattern → LogNamesBelow former_threads bytes
    → (g : Given) → RunOf pattern bytes g → RunOfUnder former_threads pattern bytes g
run_stays pattern bytes p l g r = (run_alike former_threads threads (omega arith) p l g).1 r

-- then and now: two answers, the one under the former limit, are the same
pub run_same : (pattern bytes : List ℕ) → PatternNamesBelow former_threads pattern → LogNamesBelow former_threads bytes
    → (g h : Given) → RunOf pattern bytes g → RunOfUnder former_threads pattern bytes h → SameGiven g h
run_same pattern bytes p l g h now then = one_answer now ((run_alike former_threads threads (omega arith) p l h).0 then)

pub history_stays : (bytes : List ℕ) (opened : Opened) → OpenedOn bytes opened → PatternNamesBelow former_threads bytes
    → (events : List Event) → EachNamesBelow former_threads events → HistoryUnder former_threads bytes opened events
history_stays bytes opened o p events low = history_under former_threads (omega arith) bytes opened o p events low
