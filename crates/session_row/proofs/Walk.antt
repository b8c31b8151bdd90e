-- The walk over a lent row, once for every kind of session: what holds before each turn, that a turn keeps it, and what it comes to after the last.
use Rattle.std.proofs.Common.{ℕ, ◌≡◌, ◌≤◌, ◌<◌, ◌+◌, List, length, get_or, arith, add-one, refl, ap, ◌∙◌}
use Rattle.std.specs.Prelude.{Option, Some, None, Result, Ok, Err}
use Rattle.std.specs.List.{All}
use Rattle.std.proofs.Math.ListN.{set, length-set}
use Rattle.event.specs.declared.refusal.Refusal.{Refusal}
use Rattle.event.specs.Refusals.{number_given}
use Rattle.session_row.specs.declared.RowRefused.{RowRefused}
use Rattle.session_row.specs.Row.{most, Alone, HandsAs, RowAnswered, how_many_in, how_many_refused, lowest, number_there}
use Rattle.session_row.proofs.Model.{tallied, with_answer, told_answer, answer_of, up_to, up_to_get, up_to_set, tally_to, tally_next, all_answered}

-- before turn i: what the row was, what it is now, and the refusals so far
pub record Walked {K : Type 0} (alone : K → Alone K) (row now : List K) (refused : Option RowRefused) (i : ℕ) : Type 0 where
  pub sessions : now ≡ up_to alone i row
  pub told : tallied refused ≡ tally_to alone i row

-- the same for whatever `gives` makes of each session
pub record Walking {K : Type 0} (gives : K → Result Unit Refusal × K → Type 0) (row now : List K) (refused : Option RowRefused) (i : ℕ) : Type 0 where
  pub turns : i ≤ length row
  pub few : length row ≤ most
  pub long : length now ≡ length row
  pub low : how_many_in refused ≤ i
  pub walked : (alone : K → Alone K) → All (HandsAs gives alone) row → Walked alone row now refused i

-- no more have refused than had their turn
low_then : (refused : Option RowRefused) (a : Result Unit Refusal) (i : ℕ) → how_many_in refused ≤ i → how_many_in (with_answer refused a i) ≤ i + 1
low_then refused (Ok u) i h = omega (arith, h)
low_then None (Err k) i h = omega arith
low_then (Some r) (Err k) i h = omega (arith, h)

module _ {K : Type 0} {gives : K → Result Unit Refusal × K → Type 0} where
  pub walk_begins : {row : List K} → length row ≤ most → Walking gives row row None 0
  unfolding how_many_refused lowest number_there
  walk_begins h = record { turns = omega arith; few = h; long = refl; low = omega arith; walked = λ alone all. record { sessions = refl; told = refl } }

  -- s is the session whose turn it is
  pub walk_goes_on : {row now : List K} {refused : Option RowRefused} {i : ℕ} (a : Result Unit Refusal) (after s : K) → Walking gives row now refused i → i < length row
      → s ≡ get_or now i s → gives s (a, after) → Walking gives row (set now i after) (with_answer refused a i) (i + 1)
  walk_goes_on {row} {now} {refused} {i} a after s w l is g =
      record {
        turns = omega arith;
        few = w.few;
        long = length-set now i after ∙ w.long;
        low = low_then refused a i w.low;
        walked = λ alone all.
            let here = w.walked alone all in
            let at : s ≡ get_or row i s = is ∙ rw here.sessions (up_to_get alone s i row) in
            let as-alone : HandsAs gives alone s = rw at (all i s l) in
            let gave = as-alone (a, after) g in
            let number : number_given a ≡ (alone (get_or now i s)).number = gave.0 ∙ ap (λ (t : K). (alone t).number) is in
            let left : after ≡ (alone (get_or now i s)).after = gave.1 ∙ ap (λ (t : K). (alone t).after) is in
            record {
              sessions = rw (left, here.sessions, add-one i) (up_to_set alone s i row l);
              told =
                  told_answer refused a i _ here.told
                  ∙ rw (number, here.told, here.sessions, add-one i) (tally_next alone s i row l);
            };
      }

  pub walk_ends : {row now : List K} {refused : Option RowRefused} {i : ℕ} → Walking gives row now refused i → i ≡ length row
      → (alone : K → Alone K) → All (HandsAs gives alone) row → RowAnswered alone row (answer_of refused) now
  walk_ends {row} {now} {refused} {i} w q alone all =
      let here = w.walked alone all in
      rw (here.sessions, q) (all_answered alone row w.few refused (rw q at here.told))
