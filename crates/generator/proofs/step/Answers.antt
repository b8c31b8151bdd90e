use native.Mathlib.Nat.{mod-add-mod}
use Rattle.generator.specs.Rule.{next_state}
use Rattle.generator.proofs.step.Goals as goal

pub returns : goal.returns
unfolding next_state
returns c = rw (c.wrapping_add_u32.ensures.value, c.wrapping_product.ensures, mod-add-mod)
