use Prim.Native.Nat.{ℕ, ◌+◌, ◌*◌, ◌/◌, ◌^◌, ◌≤◌, ◌<◌}
use native.Mathlib.Omega.{arith}
use native.Mathlib.Numerals.{add-one}
use mathlib.Core.Path.{◌≡◌, refl}
use Rattle.event.specs.Limits.{slots}
use Rattle.table.specs.Sets.{sets, spread}
use Rattle.table.specs.Table.{swept_to}
use Rattle.table.proofs.SetLaws.{with_slot}
use borrow.Author.Rules.{rules}
use Rattle.table.proofs.sweep.Goals as goal

-- the set of a turn, with the slot
inside : (k p half i : ℕ) → k < slots → p ≡ 2 ^ k → 2 * half ≤ sets → i < half → i + i / 2 ^ k * p + p < sets
unfolding spread
inside k p half i l q h u = rw q (with_slot k i l (omega arith))

pub loop-i-init : goal.loop-i-init
unfolding swept_to
loop-i-init c = (search rules, refl)

pub overflow_mul-m : goal.overflow_mul-m
overflow_mul-m c = let l = inside c.args.entry.slot _ c.args.half c.loop-i.i c.requires.0 c.power-p.ensures c.requires.1 c.loop-i-test.true in omega arith

pub overflow_add-m : goal.overflow_add-m
overflow_add-m c = let l = inside c.args.entry.slot _ c.args.half c.loop-i.i c.requires.0 c.power-p.ensures c.requires.1 c.loop-i-test.true in omega arith

pub offer_set-requires : goal.offer_set-requires
offer_set-requires c = (c.requires.0, (inside c.args.entry.slot _ c.args.half c.loop-i.i c.requires.0 c.power-p.ensures c.requires.1 c.loop-i-test.true, c.power-p.ensures))

pub loop-i-preserved : goal.loop-i-preserved
unfolding swept_to spread
loop-i-preserved c = (search rules, rw (add-one, c.offer_set.ensures, c.loop-i.invariant.1, c.power-p.ensures))

pub returns : goal.returns
returns c = let k : c.loop-i.i ≡ c.args.half = omega arith in rw k at c.loop-i.invariant.1
