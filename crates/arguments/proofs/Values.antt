-- The value of figures, read from the first to the last.
use Prim.Native.Nat.{ℕ, suc, ◌+◌, ◌-◌, ◌*◌, ◌^◌, ◌≤◌}
use native.Mathlib.Omega.{arith}
use native.Mathlib.Nat.{le_refl, mul_left_comm, pow-succ', pow-zero, mul-one}
use native.Mathlib.Numerals.{add-one}
use mathlib.Core.Path.{◌≡◌, ap, ◌∙◌}
use mathlib.Core.List.{List, [], ◌∷◌, ◌++◌, append-nil, append_assoc}
use lib.ListN.{length, length-append}
use Rattle.arguments.specs.Numerals.{value_of}

sum : (p q v w d : ℕ) → p ≡ 10 * q → v ≡ 10 * w + d → p + v ≡ 10 * (q + w) + d
sum p q v w d e f = omega arith

-- a figure behind the others: they count ten times as much
pub behind : (bs : List ℕ) (b : ℕ) → value_of (bs ++ (b ∷ [])) ≡ 10 * value_of bs + (b - 48)
unfolding value_of
behind [] b = rw (pow-zero 10, mul-one (b - 48)) (omega arith)
behind (x ∷ xs) b =
    let long : length (xs ++ (b ∷ [])) ≡ suc (length xs) = length-append xs (b ∷ []) ∙ add-one (length xs) in
    let tens : (x - 48) * 10 ^ length (xs ++ (b ∷ [])) ≡ 10 * ((x - 48) * 10 ^ length xs) =
    ap (λ (n : ℕ). (x - 48) * 10 ^ n) long ∙ ap (λ (n : ℕ). (x - 48) * n) (pow-succ' 10 (length xs)) ∙ mul_left_comm (x - 48) 10 (10 ^ length xs) in
    sum _ _ _ _ _ tens (behind xs b)

-- more figures make no lower value
pub no_lower : (xs ys : List ℕ) → value_of xs ≤ value_of (xs ++ ys)
no_lower xs [] = rw append-nil (le_refl (value_of xs))
no_lower xs (y ∷ ys) =
    let more : value_of (xs ++ (y ∷ [])) ≤ value_of (xs ++ (y ∷ ys)) = rw append_assoc at (no_lower (xs ++ (y ∷ [])) ys) in
    let one : value_of (xs ++ (y ∷ [])) ≡ 10 * value_of xs + (y - 48) = behind xs y in
    omega arith
