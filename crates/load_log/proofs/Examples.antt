-- "Seed 0, count 1 gives `07 00 06 00 00`", computed from the definition; and with the six events after it, so that each kind, each thread, and heights on
-- both sides of zero have come.
-- Assumes nothing.
use mathlib.Core.Path.{◌≡◌, refl}
use mathlib.Core.List.{[], ◌∷◌, ◌++◌}
use Rattle.generator.specs.Rule.{next_state, event_in}
use Rattle.event_log.specs.Whole.{row_bytes}
use Rattle.load_log.specs.Load.{events_from, load_bytes}

pub one_event_lem : load_bytes 0 1 ≡ 7 ∷ 0 ∷ 6 ∷ 0 ∷ 0 ∷ []
unfolding row_bytes events_from next_state event_in
one_event_lem = refl

-- thread 0 mark 6, thread 1 read 3, thread 3 write 0 at -279 mm, thread 2 mark 5, thread 1 mark 1, thread 2 write 7 at -378 mm, thread 1 write 3 at 1069 mm
pub seven_events :
    load_bytes 0 7
    ≡ (7 ∷ 0 ∷ 6 ∷ 0 ∷ [])
    ++ (1 ∷ 1 ∷ 3 ∷ [])
    ++ (2 ∷ 3 ∷ 0 ∷ 233 ∷ 254 ∷ 255 ∷ 255 ∷ [])
    ++ (7 ∷ 2 ∷ 5 ∷ 0 ∷ [])
    ++ (7 ∷ 1 ∷ 1 ∷ 0 ∷ [])
    ++ (2 ∷ 2 ∷ 7 ∷ 134 ∷ 254 ∷ 255 ∷ 255 ∷ [])
    ++ (2 ∷ 1 ∷ 3 ∷ 45 ∷ 4 ∷ 0 ∷ 0 ∷ [])
    ++ (0 ∷ [])
unfolding row_bytes events_from next_state event_in
seven_events = refl
