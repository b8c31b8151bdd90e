use borrow.Author.Rules.{rules}
use mathlib.Core.Path.{◌≡◌, ap, ◌∙◌}
use Rattle.command.specs.Bytes.{Bytes}
use Rattle.event_log.specs.Whole.{slots_read}
use Rattle.session.specs.Model.{fresh_on}
use Rattle.session.proofs.Described.{used_or_lone, opened_on}
use Rattle.session.proofs.Session.open.Goals as goal

pub returns : goal.returns
returns c =
    let is-bytes : Bytes c.args.pattern.now = λ k. (c.type_inv.pattern k).fits in
    let read = c.read_pattern-read in
    let told : c.map-answer.result ≡ slots_read read.result = search rules in
    let used = c.unwrap_or.ensures ∙ used_or_lone read.result c.lone.result c.lone.ensures in
    rw told (opened_on _ is-bytes read.result read.ensures _ (c.fresh-session.ensures ∙ ap fresh_on used))
