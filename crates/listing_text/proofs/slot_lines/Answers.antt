use Rattle.listing_text.proofs.SlotLines.{all_put, at_zero, one_line}
use Rattle.listing_text.specs.Text.{slot_line}
use Rattle.event.specs.declared.Event.{Event}
use borrow.Author.Rules.{rules}
use lib.ListN.{length, get_or}
use mathlib.Core.Path.{ap, ◌∙◌}
use native.Mathlib.Omega.{arith}
use Rattle.page.specs.Page.{onto}
use mathlib.Core.Path.{◌≡◌}
use Prim.Native.Nat.{◌+◌}
use Rattle.listing_text.proofs.slot_lines.Goals as goal

pub returns-then-n-eq0 : goal.returns-then-n-eq0
returns-then-n-eq0 c = let l = c.loop-j in
    at_zero c.args.log.now c.args.numbers _ l.p l.j l.invariant.1 (let n : length c.args.numbers ≡ 5 = search rules in let u = c.loop-j-test.true in omega arith) c.if-n-eq0.true

pub loop-j-preserved : goal.loop-j-preserved
loop-j-preserved c = let a = c.args in
    let l = c.loop-j in
    let e = c.event_numbered-e.ensures.exact in (
      omega arith,
      one_line a.log.now a.numbers _ l.p l.j l.invariant.1 (let n : length a.numbers ≡ 5 = search rules in let u = c.loop-j-test.true in omega arith) c.slot_line-p.result c.if-n-eq0.false
          (c.slot_line-p.ensures ∙ ap (λ (x : Event). onto l.p (slot_line (l.j + 1) (get_or a.numbers l.j 0) x)) e),
    )

pub returns : goal.returns
returns c = let l = c.loop-j in
    all_put c.args.log.now c.args.numbers _ l.p l.j l.invariant.1 (let n : length c.args.numbers ≡ 5 = search rules in let u = l.invariant.0 in let v = c.loop-j-test.false in omega arith)
