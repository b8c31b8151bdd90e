use native.Mathlib.Omega.{arith}
use native.Mathlib.Numerals.{add-one}
use mathlib.Core.Path.{◌≡◌, sym, ◌∙◌}
use borrow.Author.Rules.{rules}
use Rattle.page.specs.Page.{empty_page}
use Rattle.page.proofs.Onto.{onto_none}
use Rattle.session_row.specs.Row.{most}
use Rattle.listings_text.specs.Lines.{lines_before}
use Rattle.listings_text.proofs.Widths.{next_line}
use Rattle.listings_text.proofs.lines.Goals as goal

pub loop-k-init : goal.loop-k-init
unfolding lines_before
loop-k-init c = (c.empty-p.ensures ∙ onto_none empty_page, omega arith, omega arith)

pub loop-k-preserved : goal.loop-k-preserved
loop-k-preserved c = let l = c.loop-k in
    let low = c.loop-k-test.true in
    let next = next_line _ _ _ l.k _ _ (search rules) (search rules) _ _ l.invariant.0 l.invariant.1 c.line-p.ensures.text c.line-p.ensures.short in
    rw (add-one l.k) (next.0, next.1, omega (arith, low))

pub returns : goal.returns
returns c = let l = c.loop-k in
    let left = c.loop-k-test.false in
    let k : l.k ≡ most = omega (arith, left) in
    record { text = rw (sym k) l.invariant.0; short = let w = rw k at l.invariant.1 in omega (arith, w) }
