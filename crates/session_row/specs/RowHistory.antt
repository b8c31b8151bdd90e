-- Note 6 over a whole list of events, one call after another: a row of sessions fresh from their openings.
use Rattle.std.specs.Prelude.{ℕ, ◌≡◌, List, [], ◌∷◌, map, length, replicate}
use Rattle.event.specs.declared.Event.{Event}
use Rattle.session.specs.declared.Session.{Session}
use Rattle.session.specs.declared.Opened.{Opened}
use Rattle.session.specs.Model.{handed_all}
use Rattle.session.specs.Meaning.{OpenedOn}
use Rattle.session.specs.History.{refusals, EveryHistory}
use Rattle.trace.specs.Match.{Each}
use Rattle.session_row.specs.Row.{RowNumbers, numbers_over, Alone, row_numbers, row_after, alone_with}

-- of any sessions and events: a row after each event of a list in turn, and the numbers that each call answers
unfoldable pub row_after_all : {K E : Type 0} → (E → K → Alone K) → List K → List E → List K
row_after_all alone row [] = row
row_after_all alone row (e ∷ es) = row_after_all alone (row_after (alone e) row) es

unfoldable pub row_numbers_all : {K E : Type 0} → (E → K → Alone K) → List K → List E → List RowNumbers
row_numbers_all alone row [] = []
row_numbers_all alone row (e ∷ es) = row_numbers (alone e) row ∷ row_numbers_all alone (row_after (alone e) row) es

-- each session opened on the bytes of its pattern
abbrev pub EachOpened : List (List ℕ) → List Opened → Type 0
EachOpened patterns row = Each OpenedOn patterns row

abbrev pub sessions_of : List Opened → List Session
sessions_of row = map (λ o. o.session) row

-- a row fresh from its openings and handed every event of a list: "Each session ends as it would alone", of which demand 3 tells; and each call answers with the
-- numbers of a row whose sessions all go by the rules
pub record EveryRow (patterns : List (List ℕ)) (row : List Opened) (events : List Event) : Type 0 where
  pub each_alone : row_after_all alone_with (sessions_of row) events ≡ map (λ s. handed_all s events) (sessions_of row)
  pub histories : Each (λ bytes opened. EveryHistory bytes opened events) patterns row
  pub numbers : row_numbers_all alone_with (sessions_of row) events ≡ map (λ r. numbers_over (replicate (length row) r.number)) (refusals [] events)
