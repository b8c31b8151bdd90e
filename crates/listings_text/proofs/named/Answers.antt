use Rattle.page.proofs.Onto.{onward, onto_one}
use mathlib.Core.Path.{sym, ◌∙◌}
use native.Mathlib.Numerals.{add-one}
use Rattle.listings_text.proofs.named.Goals as goal

pub returns : goal.returns
returns c = let first = c.text.ensures in
    let tens = onward _ _ _ _ _ first (c.byte-q.ensures ∙ onto_one _ _) in
    let ones = onward _ _ _ _ _ tens (c.byte.ensures ∙ onto_one _ _) in
    rw (sym (add-one c.args.k)) (onward _ _ _ _ _ ones c.text-2.ensures)
