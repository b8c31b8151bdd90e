use mathlib.Core.Path.{◌≡◌}
use borrow.Author.Rules.{rules}
use Rattle.event.specs.Slots.{slot_of}
use Rattle.event.specs.Range.{range_refusal}
use Rattle.event.proofs.InRange.{in_range}
use Rattle.event.proofs.Refusals.{numbered}
use Rattle.dependence.specs.Channels.{thread}
use Rattle.clock.specs.Clocks.{stamp_by}
use Rattle.clock.proofs.RowLaws.{row_fits, rows_fit}
use Rattle.clock.proofs.ClockLaws.{stamp_out, clocks_out, stamp_made, clocks_made}
use Rattle.clock.proofs.arrive.Goals as goal

pub returns-then-is_err : goal.returns-then-is_err
returns-then-is_err c = let a = c.args in
    let out : range_refusal (slot_of a.e) ≡ 0 → ⊥ = λ z. search (rules, numbered) in
    record { stamp = stamp_out a.clocks.now a.e out; after = clocks_out a.clocks.now a.e out }

pub listen-s-requires : goal.listen-s-requires
listen-s-requires c =
    let z : range_refusal (slot_of c.args.e) ≡ 0 = search rules in
    let f = rows_fit c.args.e _ z c.rows_of-rows.ensures in
    ((in_range (slot_of c.args.e) z).thread, (f.first, f.second))

pub tell-requires : goal.tell-requires
tell-requires c =
    let z : range_refusal (slot_of c.args.e) ≡ 0 = search rules in
    (rows_fit c.args.e _ z c.rows_of-rows.ensures).told

pub tell-requires-2 : goal.tell-requires-2
tell-requires-2 c =
    let z : range_refusal (slot_of c.args.e) ≡ 0 = search rules in
    rw c.thread_row.ensures (row_fits (thread c.args.e.thread) (in_range (slot_of c.args.e) z).thread)

pub returns : goal.returns
returns c = let a = c.args in
    let z : range_refusal (slot_of a.e) ≡ 0 = search rules in
    let s : c.listen-s.result ≡ stamp_by a.clocks.now a.e = stamp_made a.clocks.now a.e z _ _ c.rows_of-rows.ensures c.listen-s.ensures in
    record {
      stamp = s;
      after = clocks_made a.clocks.now a.e z _ _ _ _ c.rows_of-rows.ensures s c.tell.ensures (rw c.thread_row.ensures at c.tell-2.ensures);
    }
