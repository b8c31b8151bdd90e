-- At the end of a log the search is the verdict.
use Prim.Native.Nat.{ℕ, zero, suc, ◌≤◌, ◌<◌, max}
use native.Mathlib.Decide.{dec_lt}
use native.Mathlib.Omega.{arith}
use mathlib.Core.Path.{◌≡◌, refl, sym, ap, subst, ◌∙◌}
use mathlib.Core.Bool.{Bool, true, false, cond, false≢true}
use mathlib.Core.List.{List, [], ◌∷◌}
use lib.Dec.{eqb}
use lib.ListN.{length, get_or, take, drop, replicate, drop_of_length-le}
use lib.Seq.{take-suc, drop-cons}
use borrow.Author.Tests.{eqb-true, eqb-false}
use Rattle.event.proofs.Tests.{by_test}
use Rattle.event.specs.declared.Event.{Event}
use Rattle.event.specs.declared.Slot.{Slot}
use Rattle.event.specs.Limits.{slots as slot_limit}
use Rattle.event.specs.Slots.{fits, no_event, no_slot}
use Rattle.event_log.specs.declared.Pattern.{Pattern}
use Rattle.event_log.specs.Whole.{accepted, read_log, read_pattern, Renders}
use Rattle.event_log.proofs.Answers.{told_refused}
use Rattle.command.specs.Bytes.{Bytes}
use Rattle.trace.specs.Match.{without}
use Rattle.trace.proofs.First.{Tells, match, no_match, greatest, chosen_tells}
use Rattle.trace.proofs.FirstScan.{join_snoc}
use Rattle.dependence.specs.Dependence.{dependent}
use Rattle.dependence.proofs.Dependent.{fit_one_slot}
use Rattle.first.specs.declared.Search.{Search}
use Rattle.passes.specs.declared.Sought.{Sought}
use Rattle.passes.specs.Passes.{SlotsOf}
use Rattle.first.specs.Holding.{chosen_by, Settled}
use Rattle.first.proofs.Filling.{no_numbers, ss_length}
use Rattle.slot_search.specs.declared.LogSearch.{LogSearch}
use Rattle.slot_search.specs.Patterns.{Usable}
use Rattle.slot_search.specs.Searching.{SearchedIn, log_refused, searched}
use Rattle.slot_search.proofs.Usable.{slots_of, accepted_usable, accepted_slots}
use Rattle.std.specs.Prelude.{Result, Ok, Err, Some, None, is_ok}
use Rattle.event.specs.declared.refusal.Refused.{Refused}
use Rattle.session.specs.declared.Verdict.{Verdict}
use Rattle.session.specs.Meaning.{RunOn, judged, RunOf, pattern_refused, over_log}
use Rattle.session.specs.Meaning as meaning
use Rattle.run.specs.declared.RunRefusal.{RunRefusal}
use Rattle.run.specs.declared.RunRefusal.TheVariants as refusal
use Rattle.run.specs.Answers.{judged_is, verdict_after, judged_after, greatest_of}

-- ---- the verdict of a search

-- the greatest of the first n numbers, those from k on being 0
greatest_take : (n : ℕ) (xs : List ℕ) → n ≤ length xs → greatest_of n xs ≡ greatest (take n xs)
unfolding greatest_of
greatest_take zero xs l = refl
greatest_take (suc n) xs l =
    ap (max (get_or xs n 0)) (greatest_take n xs (omega arith))
    ∙ join_snoc (λ i. i) (take n xs) (get_or xs n 0)
    ∙ ap greatest (sym (take-suc xs n 0 (omega arith)))

greatest_beyond : (k n : ℕ) (xs : List ℕ) → k ≤ n → ((j : ℕ) → k ≤ j → get_or xs j 0 ≡ 0) → greatest_of n xs ≡ greatest_of k xs
unfolding greatest_of
greatest_beyond k n xs l z = go n l
  where
    go : (m : ℕ) → k ≤ m → greatest_of m xs ≡ greatest_of k xs
    go zero u = let e : k ≡ 0 = omega arith in rw e refl
    go (suc m) u = step (dec_lt m k) (λ v. go m v)
      where
        step : Dec (m < k) → (k ≤ m → greatest_of m xs ≡ greatest_of k xs) → greatest_of (suc m) xs ≡ greatest_of k xs
        step (yes v) ih = let e : k ≡ suc m = omega arith in rw e refl
        step (no v) ih = rw (z m (omega arith)) (zero_max (greatest_of m xs) ∙ ih (omega arith))
          where
            zero_max : (x : ℕ) → max 0 x ≡ x
            zero_max x = omega arith

module _ {k : Sought} (so : SlotsOf k) {es : List Event} {s : Search} (h : Settled es k.slots k.size s)
    (w : s.found ≤ k.size) where
  abbrev ss : List Slot
  ss = take k.size k.slots

  tells : Tells dependent fits ss es (chosen_by s) (drop s.found ss)
  tells = chosen_tells no_event dependent fits fit_one_slot ss es h.found.steps h.stuck

  abbrev Said : Verdict → Type 0
  Said v = (bytes : List ℕ) → read_log bytes ≡ accepted es → RunOn ss bytes (judged_is (Ok v))

  abbrev when : Bool → Verdict
  when found = cond found (record { found = Some (greatest_of slot_limit s.numbers); numbers = s.numbers }) (record { found = None; numbers = replicate slot_limit 0 })

  -- every slot has its event
  matching : s.found ≡ k.size → Said (when true)
  matching q = go (subst (Tells dependent fits ss es (chosen_by s)) (drop_of_length-le ss {i = s.found} (rw (ss_length so) (omega arith))) tells)
    where
      count_is : greatest_of slot_limit s.numbers ≡ greatest (chosen_by s)
      count_is =
          let few = so.few in
          let n = h.found.shaped.whole in
          greatest_beyond s.found slot_limit s.numbers (omega arith) h.found.shaped.beyond ∙ greatest_take s.found s.numbers (omega arith)

      named_are : take (length ss) s.numbers ≡ chosen_by s
      named_are = ap (λ (k : ℕ). take k s.numbers) (ss_length so ∙ sym q)

      go : Tells dependent fits ss es (chosen_by s) [] → Said (when true)
      go (match m c f) bytes r =
          judged {r = record { matches = true; count = greatest_of slot_limit s.numbers; events = s.numbers }} r
          (record {
            matches = (λ t. m, λ t. refl);
            count = rw count_is c;
            named = λ t. rw (count_is, named_are) f.named;
            without = λ d. absurd (d m);
            beyond = λ j l. h.found.shaped.beyond j (let n = ss_length so in omega arith);
          })
          (λ t. rw (count_is, named_are) f)

  -- one has not
  lacking : s.found < k.size → Said (when false)
  lacking l = go (subst (Tells dependent fits ss es (chosen_by s)) (drop-cons ss s.found no_slot (rw (ss_length so) l)) tells)
    where
      go : {c : Slot} {left : List Slot} → Tells dependent fits ss es (chosen_by s) (c ∷ left) → Said (when false)
      go (no_match d) bytes r =
          judged r
          (record {
            matches = (λ t. absurd (false≢true t), λ t. absurd (d t));
            count = without d;
            named = λ t. absurd (d t);
            without = λ t. refl;
            beyond = λ j u. no_numbers j;
          })
          (λ t. absurd (d t))

  verdict : Said (verdict_after k.size s)
  verdict =
      by_test (eqb s.found k.size)
      (λ q. rw q (matching (eqb-true _ _ q)))
      (λ q. rw q (lacking (let d = eqb-false s.found k.size q in omega arith)))

-- ---- what a search says of the log

pub searched_verdict : {p : Pattern} (u : Usable p) {bytes : List ℕ} (r : Result LogSearch Refused) → SearchedIn p.slots p.size bytes r
    → RunOn (take p.size p.slots) bytes (judged_is (judged_after p.size r))
searched_verdict u (Err m) (log_refused q) = meaning.log_refused q
searched_verdict u {bytes} (Ok s) (searched q n w h) = verdict (slots_of u) h w bytes q

-- ---- the pattern's answer tells which case its reading was

-- a refused pattern, as the run hands the refusal on
pub refused_pattern : {pattern bytes : List ℕ} (r : Result Pattern Refused) (j : Result Verdict RunRefusal) → Renders r (read_pattern pattern) → is_ok r ≡ false
    → ((m : Refused) → r ≡ Err m → j ≡ Err (refusal.Pattern m)) → RunOf pattern bytes (judged_is j)
refused_pattern (Ok p) j h z f = absurd (false≢true (sym z))
refused_pattern {pattern} (Err m) j h z f = rw (f m refl) (pattern_refused (told_refused (read_pattern pattern) h.answer))

module _ (pattern : List ℕ) (p : Pattern) (h : Renders (Ok p) (read_pattern pattern)) (b : Bytes pattern) where
  pub good_pattern : Usable p
  good_pattern = subst Usable (sym h.pattern) (accepted_usable pattern b h.answer)

  pub run_on : {bytes : List ℕ} (r : Result LogSearch Refused) → SearchedIn p.slots p.size bytes r → RunOf pattern bytes (judged_is (judged_after p.size r))
  run_on {bytes} r w =
      let said : RunOn (take p.size p.slots) bytes (judged_is (judged_after p.size r)) = searched_verdict good_pattern r w in
      let over = accepted_slots (λ ss. RunOn ss bytes (judged_is (judged_after p.size r))) pattern h.answer
      (subst (λ (x : Pattern). RunOn (take x.size x.slots) bytes (judged_is (judged_after p.size r))) h.pattern said) in
      over_log over.1 over.2

  -- a refused log, as the run hands the refusal on
  pub refused_log : {bytes : List ℕ} (r : Result LogSearch Refused) (j : Result Verdict RunRefusal) → SearchedIn p.slots p.size bytes r → is_ok r ≡ false
      → ((m : Refused) → r ≡ Err m → j ≡ Err (refusal.Log m)) → RunOf pattern bytes (judged_is j)
  refused_log (Ok s) j w z f = absurd (false≢true (sym z))
  refused_log (Err m) j w z f = rw (f m refl) (run_on (Err m) w)
