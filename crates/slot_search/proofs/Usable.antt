-- An accepted pattern is one that can be looked for.
use Prim.Native.Nat.{ℕ, zero, suc, ◌+◌, ◌-◌, ◌<◌}
use native.Mathlib.Omega.{arith}
use mathlib.Core.Path.{◌≡◌, refl, ap, subst, ◌∙◌}
use mathlib.Core.List.{List, [], ◌∷◌, ◌++◌}
use lib.ListN.{length, get_or, take, replicate, length-append, length-replicate}
use lib.Seq.{take-append_seam}
use Rattle.event.specs.declared.Slot.{Slot}
use Rattle.event.specs.Limits.{threads, slots as slot_limit}
use Rattle.event.specs.Slots.{no_slot}
use Rattle.event.proofs.InRange.{in_range}
use Rattle.command.specs.Bytes.{Bytes}
use Rattle.event_log.specs.Whole.{InLimits, no_slot_lem, one_slot, GoodPattern, blank, pattern_of, accepted, passed, outcome_of, pattern_from, read_pattern}
use Rattle.event_log.proofs.Answers.{told_accepted}
use Rattle.event_log.proofs.PatternRoundTrip.{pattern_iff}
use Rattle.event_log.specs.declared.Pattern.{Pattern}
use Rattle.passes.specs.Passes.{SlotsOf}
use Rattle.slot_search.specs.Patterns.{Usable, sought_of}

pub slots_of : {p : Pattern} → Usable p → SlotsOf (sought_of p)
slots_of u = record { few = u.few; whole = u.whole; keyed = refl; low = u.low }

slots_low : (ss ts : List Slot) → InLimits ss → (j : ℕ) → j < length ss → (get_or (ss ++ ts) j no_slot).thread < threads
slots_low [] ts no_slot_lem j l = absurd (let f : ⊥ = omega arith in f)
slots_low (s ∷ ss) ts (one_slot z h) zero l = (in_range s z).thread
slots_low (s ∷ ss) ts (one_slot z h) (suc j) l = slots_low ss ts h j (omega arith)

usable : (ss : List Slot) → GoodPattern ss → Usable (pattern_of ss)
usable ss g =
    let few = g.few in
    record {
      some = g.some;
      few = few;
      whole = length-append ss (replicate (slot_limit - length ss) blank) ∙ ap (λ (n : ℕ). length ss + n) (length-replicate {A = Slot} (slot_limit - length ss) blank) ∙ omega arith;
      low = slots_low ss (replicate (slot_limit - length ss) blank) g.limits;
    }

-- what is so of the slots that an accepted pattern holds by value is so of those that it was read as
pub accepted_slots : (P : List Slot → Type 0) (pattern : List ℕ) {n : ℕ} → passed n ≡ outcome_of (read_pattern pattern)
    → P (take (pattern_from (read_pattern pattern)).size (pattern_from (read_pattern pattern)).slots) → (ss : List Slot) × (read_pattern pattern ≡ accepted ss) × P ss
accepted_slots P pattern a h =
    let r = told_accepted (read_pattern pattern) a in
    (r.0, r.1, subst P (take-append_seam r.0 (replicate (slot_limit - length r.0) blank)) (rw r.1 at h))

pub accepted_usable : (pattern : List ℕ) → Bytes pattern → {n : ℕ} → passed n ≡ outcome_of (read_pattern pattern) → Usable (pattern_from (read_pattern pattern))
accepted_usable pattern b a =
    let r = told_accepted (read_pattern pattern) a in
    rw r.1 (usable r.0 ((pattern_iff pattern b r.0).0 r.1).0)
