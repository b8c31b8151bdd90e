use Rattle.std.proofs.Common.{◌≡◌, ℕ, zero, suc, ◌/◌, ◌%◌, ℤ, refl, ap, ◌∙◌, to_z-of_z, w32, rules}
use Rattle.event.specs.declared.Operation.TheVariants.{Write, Mark}
use Rattle.generator.specs.Rule.{thread_in, object_in, height_in, of_kind, event_in}
use Rattle.generator.proofs.event_in.Goals as goal

-- a kind that is none of the first two
mark : (k o : ℕ) (h : ℤ) → (k ≡ 0 → ⊥) → (k ≡ 1 → ⊥) → Mark o ≡ of_kind k o h
mark zero o h f g = absurd (f refl)
mark (suc zero) o h f g = absurd (g refl)
mark (suc (suc k)) o h f g = refl

pub returns-in-0 : goal.returns-in-0
unfolding event_in
returns-in-0 c = rw c.in-0.is

pub returns-in-1 : goal.returns-in-1
unfolding event_in
returns-in-1 c =
    let s = c.args.state in
    rw c.in-1.is (ap (λ (h : ℤ). record { thread = thread_in s; operation = Write (object_in s) h }) (to_z-of_z {w = w32} (record { sfits = c.height_in.type_inv }) ∙ c.height_in.ensures))

pub returns-in_default : goal.returns-in_default
unfolding event_in
returns-in_default c =
    let k = c.args.state / 268435456 % 4 in
    let f : k ≡ 0 → ⊥ = search rules in
    let g : k ≡ 1 → ⊥ = search rules in
    rw (mark k _ (height_in c.args.state) f g)
