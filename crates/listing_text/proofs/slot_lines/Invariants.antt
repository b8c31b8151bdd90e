use Rattle.page.specs.Page.{onto}
use Rattle.listing_text.specs.OutcomeText.{lines_of}
use lib.ListN.{drop}
use mathlib.Core.Path.{◌≡◌}
use Prim.Native.Nat.{◌+◌, ◌-◌, ◌≤◌}
use Rattle.listing_text.proofs.slot_lines.Given as goal

abbrev pub invariant-loop-j : goal.invariant-loop-j
invariant-loop-j l = (l.j ≤ 5) × (onto l.p (lines_of l.log (l.j + 1) (drop l.j l.numbers)) ≡ onto l.initial.p (lines_of l.log 1 l.numbers))

abbrev pub decreases-loop-j : goal.decreases-loop-j
decreases-loop-j l = 5 - l.j
