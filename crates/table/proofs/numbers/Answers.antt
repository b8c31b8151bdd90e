use Prim.Native.Nat.{ℕ}
use native.Mathlib.Omega.{arith}
use native.Mathlib.Numerals.{add-one}
use native.Mathlib.Nat.{zero-add}
use mathlib.Core.Path.{◌≡◌, refl, sym, ◌∙◌}
use Rattle.event.specs.Updated.{updated}
use Rattle.table.specs.Table.{numbers_in}
use Rattle.table.proofs.SetLaws.{found_small}
use mathlib.Core.List.{List}
use lib.ListN.{length}
use Rattle.event.specs.declared.Slot.{Slot}
use Rattle.event.specs.declared.Event.{Event}
use Rattle.table.specs.Keeps.{Fits, Keeps, NumbersFound}
use Rattle.table.proofs.Verdict.{found_numbers}
use borrow.Author.Rules.{rules}
use Rattle.table.proofs.numbers.Goals as goal

-- the history follows from the exact clause
both : (n : ℕ) (table r : List ℕ) → r ≡ numbers_in table n
    → record {
      exact : r ≡ numbers_in table n;
      history : (fits : Fits) (ss : List Slot) (log : List Event) → Keeps fits ss log table → n ≡ length ss → NumbersFound fits ss log r;
    }
both n table r p = record { exact = p; history = λ fits ss log h q. rw (p, q) (found_numbers fits ss log table h) }

pub returns-then-not-found : goal.returns-then-not-found
unfolding numbers_in
returns-then-not-found c = both c.args.size c.args.table.now _ (rw (sym c.found.ensures.exact ∙ c.if-not-found.true))

pub last_row-last-requires : goal.last_row-last-requires
last_row-last-requires c = found_small _ _ (sym c.found.ensures.exact ∙ c.if-not-found.false)

pub loop-j-init : goal.loop-j-init
unfolding updated
loop-j-init c = (search rules, found_small _ _ (sym c.found.ensures.exact ∙ c.if-not-found.false), c.last_row-last.ensures.1, refl)

pub loop-j-preserved : goal.loop-j-preserved
unfolding updated
loop-j-preserved c = (search rules, search rules, search rules, rw (add-one, zero-add, c.loop-j.invariant.3))

pub returns : goal.returns
unfolding numbers_in
returns c = let k : c.loop-j.j ≡ c.args.size = omega arith in both c.args.size c.args.table.now _ (rw (sym c.found.ensures.exact ∙ c.if-not-found.false) (rw (k, c.last_row-last.ensures.0) at c.loop-j.invariant.3))
