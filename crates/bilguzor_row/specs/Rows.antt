-- Note 6 for sessions in parts: a lent row of them and one event in numbers, and a row over every list of events in numbers.
use Rattle.std.specs.Prelude.{ℕ, ◌≡◌, List, [], map, length, get_or, replicate}
use Rattle.session_row.specs.Row.{RowNumbers, numbers_over, Alone}
use Rattle.session_row.specs.RowHistory.{row_after_all, row_numbers_all}
use Rattle.event_numbers.specs.EventNumbers.{Numbers, handed_over}
use Rattle.bilguzor_row.specs.declared.EventNumbers.{EventNumbers}
use Rattle.bilguzor.specs.declared.Parts.{Parts}
use Rattle.bilguzor_row.specs.declared.RowReport.{RowReport}
use Rattle.bilguzor.specs.Sessions.{opened_parts, number_in, parts_after}
use Rattle.bilguzor.specs.History.{parts_all, refusals_all, EveryHistory}

-- an event as it is handed over to a row
abbrev pub handed_numbers : EventNumbers → Numbers
handed_numbers e = handed_over e.thread e.operation e.object e.height

-- "Each session ends as it would alone": what `bilguzor_take` makes of a session in parts
abbrev pub alone_in : Numbers → Parts → Alone Parts
alone_in n p = record { number = number_in p n; after = parts_after p n }

-- the numbers of an answer
abbrev pub report_is : RowReport → RowNumbers
report_is r = record { number = r.number; offset = r.offset; count = r.count; place = r.place }

-- a row of sessions in parts, each fresh from the opening on its pattern's bytes, and handed every event of a list in numbers: "Each session ends as it
-- would alone", of which demand 3 tells (past the row, of an empty pattern); and each call answers with the numbers of a row whose sessions all go by the rules
pub record EveryRow (patterns : List (List ℕ)) (numbers : List Numbers) : Type 0 where
  pub each_alone : row_after_all alone_in (map opened_parts patterns) numbers ≡ map (λ p. parts_all p numbers) (map opened_parts patterns)
  pub histories : (place : ℕ) → EveryHistory (get_or patterns place []) numbers
  pub answers : row_numbers_all alone_in (map opened_parts patterns) numbers ≡ map (λ k. numbers_over (replicate (length patterns) k)) (refusals_all [] numbers)
