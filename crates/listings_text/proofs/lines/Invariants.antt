use Prim.Native.Nat.{◌-◌, ◌*◌, ◌≤◌}
use mathlib.Core.Path.{◌≡◌}
use lib.ListN.{length}
use Rattle.page.specs.Page.{empty_page, onto}
use Rattle.session_row.specs.Row.{most}
use Rattle.listings_text.specs.Lines.{line_width, lines_before}
use Rattle.listings_text.proofs.lines.Given as goal

abbrev pub invariant-loop-k : goal.invariant-loop-k
invariant-loop-k l = (l.p ≡ onto empty_page (lines_before l.end l.entries l.sessions l.k)) × (length (lines_before l.end l.entries l.sessions l.k) ≤ line_width * l.k) × (l.k ≤ most)

abbrev pub decreases-loop-k : goal.decreases-loop-k
decreases-loop-k l = most - l.k
