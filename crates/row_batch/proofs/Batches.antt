-- A batch in a row is as many calls.
use Prim.Native.Nat.{◌≤◌}
use mathlib.Core.Path.{◌≡◌, sym}
use mathlib.Core.List.{List}
use lib.ListN.{length}
use borrow.Author.Tests.{le-leb}
use Rattle.event.specs.declared.Event.{Event}
use Rattle.session.specs.declared.Session.{Session}
use Rattle.session_row.specs.Row.{most, row_after, alone_with}
use Rattle.session_row.specs.RowHistory.{row_after_all}
use Rattle.session_row.proofs.EveryRow.{held_alone}
use Rattle.row_batch.specs.Batch.{alone_through}

-- it leaves the sessions of a row as one call for each of its events, in turn, does
pub batch_as_calls : (es : List Event) (row : List Session) → length row ≤ most → row_after (alone_through es) row ≡ row_after_all alone_with row es
batch_as_calls es row h = rw (le-leb (length row) most h) (sym (held_alone es row h))
