-- The lone theorem: every row of the table is so. What a row says follows from what is computed of it (`Computed`, `shown`).
-- Assumes nothing.
use Prim.Native.Nat.{ℕ, ◌≤◌, ◌<◌}
use native.Mathlib.Omega.{arith}
use mathlib.Core.Path.{◌≡◌, refl, sym, ap, subst, ◌∙◌}
use mathlib.Core.Bool.{false, false≢true}
use mathlib.Core.List.Memᴰ.{head}
use mathlib.Core.List.Memᴰ.{tail}
use mathlib.Core.List.{List, [], ◌∷◌, Memᴰ as Mem}
use mathlib.Core.List.Memᴰ.{not-nil as not-mem-nil}
use lib.ListN.{length}
use Rattle.event.specs.declared.Event.{Event}
use Rattle.event.specs.declared.Slot.{Slot}
use Rattle.event.specs.Limits.{former_threads}
use Rattle.event.specs.Range.{range_refusal_under}
use Rattle.event.specs.Slots.{fits, no_event}
use Rattle.rules.specs.Accepted.{some, lock_of, refusal_under}
use Rattle.command.specs.Reading.{decode, read_slot_under}
use Rattle.event_log.specs.Whole.{Whole, accepted, refused, outcome_of, row_from, step_under, read_log, read_log_under, slot_under, read_pattern, read_pattern_under}
use Rattle.event_log.proofs.PatternRoundTrip.{pattern_iff}
use Rattle.trace.specs.Match.{smallest, without}
use Rattle.trace.proofs.Before.{before}
use Rattle.trace.proofs.Matches.{empty_match, match_iff, match_whole}
use Rattle.trace.proofs.Counts.{matches, matches_iff, count_of, count_of_is}
use Rattle.dependence.specs.Dependence.{dependent}
use Rattle.dependence.specs.Order.{HasMatch, IsCount, Named, IsFirst}
use Rattle.height.specs.Rounding.{metres_of}
use Rattle.page.specs.Text.{figures}
use Rattle.listing_text.specs.Text.{height_text, former_height_text}
use Rattle.trials.specs.Trials.{Verdict, match, none, Trial, judged, any_pattern, reads, formerly, prints, formerly_prints, IsVerdict, Shows, All, trials}
use Rattle.trials.proofs.Search.{nameable, nameable_named, named_nameable}

-- what a plain search finds: the count and the only numbers that can be named, or nothing
abbrev Found : List Slot → List Event → Verdict → Type 0
Found ss es (match n numbers) =
    ◌≡◌ {A = ℕ × List (List ℕ)} (count_of no_event dependent fits ss es, nameable no_event dependent fits ss es n) (n, numbers ∷ [])
Found ss es none = matches no_event dependent fits ss es ≡ false

count_within : {ss : List Slot} {es : List Event} {n : ℕ} → IsCount ss es n → n ≤ length es
count_within (smallest l h g) = l
count_within (without d) = omega arith

found_verdict : (ss : List Slot) (es : List Event) (v : Verdict) → Found ss es v → IsVerdict ss es v
found_verdict ss es (match n numbers) f = (matched, count, first, only)
  where
    rows : nameable no_event dependent fits ss es n ≡ numbers ∷ []
    rows = ap (λ (r : ℕ × List (List ℕ)). r.1) f

    count : IsCount ss es n
    count = subst (IsCount ss es) (ap (λ (r : ℕ × List (List ℕ)). r.0) f) (count_of_is no_event dependent fits ss es)

    named : Named ss es n numbers
    named =
        nameable_named no_event dependent fits ss es n (count_within count) numbers
        (subst (λ (is : List (List ℕ)). Mem numbers is) (sym rows) (head refl))

    matched : HasMatch ss es
    matched = match_whole dependent fits ss es n ((match_iff dependent fits ss es n (count_within count)).1 (numbers, named))

    one : {others : List ℕ} → Mem others (numbers ∷ []) → others ≡ numbers
    one (head e) = e
    one (tail m) = absurd (not-mem-nil m)

    only : (others : List ℕ) → Named ss es n others → others ≡ numbers
    only others h =
        one (subst (λ (is : List (List ℕ)). Mem others is) rows (named_nameable no_event dependent fits ss es n others h))

    -- the only list is the first
    first : IsFirst ss es n numbers
    first = record { named = named; smallest = λ others h d. absurd (d (sym (only others h))) }
found_verdict ss es none f = λ h. false≢true (sym f ∙ (matches_iff no_event dependent fits ss es).1 h)

-- the pattern and the log are accepted, and that is what the search finds
abbrev FoundIn : Whole Slot → Whole Event → Verdict → Type 0
FoundIn (accepted ss) (accepted es) v = Found ss es v
FoundIn (accepted ss) (refused k o) v = ⊥
FoundIn (refused k o) log v = ⊥

-- what is computed of a row
abbrev Computed : Trial → Type 0
Computed (judged pattern log v) = FoundIn (read_pattern pattern) (read_log log) v
Computed (any_pattern log (match n numbers)) = ⊥
Computed (any_pattern log none) = read_log log ≡ accepted []
Computed (reads log outcome) = outcome_of (read_log log) ≡ outcome
Computed (formerly log outcome) = outcome_of (read_log_under former_threads log) ≡ outcome
Computed (prints mm text) = height_text mm ≡ text
Computed (formerly_prints mm text) = former_height_text mm ≡ text

shown : (t : Trial) → Computed t → Shows t
shown (judged pattern log v) c = go (read_pattern pattern) refl (read_log log) refl c
  where
    go : (p : Whole Slot) → read_pattern pattern ≡ p → (l : Whole Event) → read_log log ≡ l → FoundIn p l v → Shows (judged pattern log v)
    go (accepted ss) p (accepted es) l f = (ss, es, p, l, found_verdict ss es v f)
    go (accepted ss) p (refused k o) l f = absurd f
    go (refused k o) p log l f = absurd f
shown (any_pattern log (match n numbers)) c = absurd c
shown (any_pattern log none) c = ([], c, λ pattern b ss p. nothing ss ((pattern_iff pattern b ss).0 p).0.some)
  where
    nothing : (ss : List Slot) → 0 < length ss → ¬ HasMatch ss []
    nothing [] l h = omega arith
    nothing (s ∷ ss) l h = empty_match dependent fits s ss h
shown (reads log outcome) c = c
shown (formerly log outcome) c = c
shown (prints mm text) c = c
shown (formerly_prints mm text) c = c

all_shown : {ts : List Trial} → All Computed ts → All Shows ts
all_shown All.none = All.none
all_shown (All.more {t = t} c cs) = All.more (shown t c) (all_shown cs)

-- one line for each row of the table
computed : All Computed trials
unfolding read_pattern_under read_log_under row_from step_under slot_under read_slot_under decode range_refusal_under refusal_under some lock_of dependent before height_text former_height_text metres_of figures
computed =
    All.more refl
    (All.more refl
    (All.more refl
    (All.more refl
    (All.more refl
    (All.more refl
    (All.more refl
    (All.more refl
    (All.more refl
    (All.more refl
    (All.more refl
    (All.more refl
    (All.more refl
    (All.more refl
    (All.more refl
    (All.more refl
    (All.more refl
    (All.more refl
    (All.more refl
    (All.more refl
    (All.more refl
    (All.more refl
    (All.more refl
    (All.more refl
    (All.more refl
    (All.more refl
    (All.more refl
    (All.more refl
    (All.more refl
    (All.more refl
    (All.more refl
    (All.more refl
    (All.more refl
    (All.more refl All.none)))))))))))))))))))))))))))))))))

-- "proved of the definitions by a lone theorem"
pub every_trial : All Shows trials
every_trial = all_shown computed
