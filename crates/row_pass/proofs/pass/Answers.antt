use native.Mathlib.Omega.{arith}
use mathlib.Core.Path.{◌≡◌, sym, ap, ◌∙◌}
use mathlib.Core.List.{List, []}
use lib.ListN.{get_or}
use borrow.Author.Rules.{rules}
use Rattle.std.specs.Prelude.{Some, None, Ok}
use Rattle.event.specs.declared.Event.{Event}
use Rattle.event_log.proofs.Rows.{one_list, refused_not_accepted}
use Rattle.event_log.proofs.LogRoundTrip.{log_calls}
use Rattle.event_log.proofs.LogWalk.{start}
use Rattle.session.specs.Model.{handed_all}
use Rattle.row_pass.specs.Passing.{Stop, whole, broken, past_session}
use Rattle.row_pass.proofs.Filling.{few, ended, broken as stops-broken, goes_to, gone_on, shorter}
use Rattle.row_pass.proofs.Passing.{none_yet, as_many, passed_on}
use Rattle.row_pass.proofs.pass.Goals as goal

pub loop-next-init : goal.loop-next-init
loop-next-init c = ([], start c.args.log.now c.fresh-state.result c.fresh-state.ensures, none_yet c.args.n c.args.sessions, search rules, omega arith)

pub returns-in-Ok-None : goal.returns-in-Ok-None
returns-in-Ok-None c = let inv = c.loop-next.invariant in
    let filled = c.fill-filled.ensures inv.0 inv.1.holds inv.1.count in
    let stop : ◌≡◌ {A = Stop} c.fill-filled.result.stop (Ok None) = search rules in
    let reads = ended inv.1 filled stop in
    record {
      end = whole ((log_calls c.args.log.now _).0 (sym reads)).1 (sym reads);
      sessions =
          λ es q k l. passed_on c.args.sessions c.requires inv.3 filled c.hand_batch.ensures inv.2 k l
          ∙ ap (λ (l : List Event). handed_all (get_or c.args.sessions k past_session) l) (one_list (reads ∙ q));
    }

pub returns-in-Err : goal.returns-in-Err
returns-in-Err c = let inv = c.loop-next.invariant in
    let filled = c.fill-filled.ensures inv.0 inv.1.holds inv.1.count in
    let reads = stops-broken inv.1 filled c.in-Err.refused c.in-Err.is in
    record { end = broken (sym reads); sessions = λ es q. refused_not_accepted (reads ∙ q) }

-- one batch more
pub overflow_add-taken : goal.overflow_add-taken
overflow_add-taken c = let inv = c.loop-next.invariant in
    let l = few inv.1 (c.fill-filled.ensures inv.0 inv.1.holds inv.1.count) inv.4 in
    omega (arith, l)

pub loop-next-smaller : goal.loop-next-smaller
loop-next-smaller c = let inv = c.loop-next.invariant in
    let filled = c.fill-filled.ensures inv.0 inv.1.holds inv.1.count in
    let q : ◌≡◌ {A = Stop} c.fill-filled.result.stop (Ok (Some c.in-Ok-Some.next)) = search rules in
    let to = goes_to inv.1 filled q in
    rw (sym to) (shorter inv.1 filled (filled.some (q ∙ ap (λ (n : _). Ok (Some n)) (sym to))))

pub loop-next-preserved : goal.loop-next-preserved
loop-next-preserved c = let inv = c.loop-next.invariant in
    let size = inv.3 in
    let few-sessions = c.requires in
    let filled = c.fill-filled.ensures inv.0 inv.1.holds inv.1.count in
    let q : ◌≡◌ {A = Stop} c.fill-filled.result.stop (Ok (Some c.in-Ok-Some.next)) = search rules in
    let h = c.hand_batch.ensures in (
      filled.taken,
      rw (sym (goes_to inv.1 filled q)) (gone_on inv.1 filled),
      passed_on c.args.sessions c.requires size filled h inv.2,
      as_many _ _ _ _ c.requires (omega (arith, size, few-sessions)) h ∙ size,
      few inv.1 filled inv.4,
    )
