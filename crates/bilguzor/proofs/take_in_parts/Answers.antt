use borrow.Author.Rules.{rules}
use lib.IntN.{ℤ}
use mir.Facts.{to_z-of_z}
use mathlib.Core.Path.{◌≡◌, ap, ◌∙◌}
use Rattle.event.specs.Refusals.{number_given}
use Rattle.event.proofs.Refusals.{numbered}
use Rattle.event_numbers.specs.EventNumbers.{handed_over, event_from, unfit_by}
use Rattle.bilguzor.specs.declared.Parts.{Parts}
use Rattle.bilguzor.specs.Parts.{lent}
use Rattle.bilguzor.proofs.Handing.{turned_away, handed_on}
use Rattle.bilguzor.proofs.take_in_parts.Goals as goal

pub returns-in_err-unfit : goal.returns-in_err-unfit
returns-in_err-unfit c =
    let a = c.args in
    let parts : Parts = lent a.slots.now a.size a.state.now a.clocks.now a.table.now a.taken.now a.count.now in
    let number : number_given c.from_residual.result ≡ unfit_by a.thread a.operation a.object = search rules in
    turned_away parts a.thread a.operation a.object a.height _ number (λ z. search (rules, numbered))

pub returns : goal.returns
returns c =
    let a = c.args in
    let parts : Parts = lent a.slots.now a.size a.state.now a.clocks.now a.table.now a.taken.now a.count.now in
    let fit : unfit_by a.thread a.operation a.object ≡ 0 = search rules in
    let event : c.event_of-e.result ≡ event_from (handed_over a.thread a.operation a.object a.height) =
    c.event_of-e.ensures ∙ ap (λ (h : ℤ). event_from (handed_over a.thread a.operation a.object h)) (to_z-of_z c.ranges.height)
    in
    handed_on parts a.thread a.operation a.object a.height _ event fit _ _ c.hand_to_parts.ensures.number c.hand_to_parts.ensures.after
