-- A rearranged log has as many bytes, and its heights are in their limits where the log's are.
-- Assumes nothing.
use Prim.Native.Nat.{ℕ, suc, ◌+◌}
use native.Mathlib.Omega.{arith}
use mathlib.Core.Path.{◌≡◌, refl, sym, ap, ap₂, ◌∙◌, subst}
use mathlib.Core.List.Permᴰ.{cons as perm-cons}
use mathlib.Core.List.Permᴰ.{nil as perm-nil}
use mathlib.Core.List.{List, [], ◌∷◌, ◌++◌, append_assoc, Permᴰ as Perm}
use mathlib.Core.List.Permᴰ.{swap as perm-swap}
use mathlib.Core.List.Permᴰ.{trans as perm-trans}
use lib.ListN.{length, length-append}
use Rattle.event.specs.declared.Event.{Event}
use Rattle.command.specs.Commands.{event_bytes, Height, closing}
use Rattle.event_log.specs.Whole.{row_bytes, log_bytes, Heights}
use Rattle.replay_passes.specs.Copies.{commands}

-- a log is its commands and the closing 00
pub log_commands : (es : List Event) → log_bytes es ≡ commands es ++ closing
unfolding row_bytes
log_commands [] = refl
log_commands (e ∷ es) = ap (λ (l : List ℕ). event_bytes e ++ l) (log_commands es) ∙ sym (append_assoc (event_bytes e) (commands es) closing)

pub log_length : (es : List Event) → length (log_bytes es) ≡ suc (length (commands es))
log_length es = ap length (log_commands es) ∙ length-append (commands es) closing ∙ (omega arith)

one_more : (e : Event) (es : List Event) → length (commands (e ∷ es)) ≡ length (event_bytes e) + length (commands es)
one_more e es = length-append (event_bytes e) (commands es)

-- a rearrangement keeps the number of bytes,
commands_perm : {xs ys : List Event} → Perm xs ys → length (commands xs) ≡ length (commands ys)
commands_perm perm-nil = refl
commands_perm (perm-cons {a = a} {b = b} {l₁ = xs} {l₂ = ys} e p) =
    one_more a xs ∙ ap₂ (λ (x : Event) (n : ℕ). length (event_bytes x) + n) e (commands_perm p) ∙ sym (one_more b ys)
commands_perm (perm-swap {a = a} {b = b} {l = l} e f) =
    let x = one_more a (b ∷ l) in
    let y = one_more b l in
    let z = one_more b (a ∷ l) in
    let w = one_more a l in
    let turned : length (commands (a ∷ b ∷ l)) ≡ length (commands (b ∷ a ∷ l)) = omega arith in
    turned ∙ ap₂ (λ (p q : Event). length (commands (p ∷ q ∷ l))) f e
commands_perm (perm-trans p q) = commands_perm p ∙ commands_perm q

pub perm_length : {xs ys : List Event} → Perm xs ys → length (log_bytes ys) ≡ length (log_bytes xs)
perm_length {xs} {ys} p = log_length ys ∙ ap suc (sym (commands_perm p)) ∙ sym (log_length xs)

-- and the heights in their limits
pub perm_heights : {xs ys : List Event} → Perm xs ys → Heights xs → Heights ys
unfolding Heights
perm_heights perm-nil h = h
perm_heights (perm-cons e p) h = (subst (λ (x : Event). Height x.operation) e h.0, perm_heights p h.1)
perm_heights (perm-swap e f) h =
    (subst (λ (x : Event). Height x.operation) f h.1.0, (subst (λ (x : Event). Height x.operation) e h.0, h.1.1))
perm_heights (perm-trans p q) h = perm_heights q (perm_heights p h)
