-- The definitions leave one answer for each argument, and one for two of them.
use Prim.Native.Nat.{ℕ}
use mathlib.Core.Path.{◌≡◌, refl, sym, ap, ap₂, ◌∙◌}
use mathlib.Core.List.{List}
use Rattle.std.specs.Prelude.{Option, Some}
use Rattle.arguments.specs.Numerals.{IsNumeral, NumberGiven, numeral, no_numeral, PairGiven, numerals, no_numerals}

-- a numeral has one value
pub one_value : {bytes : List ℕ} {m n : ℕ} → IsNumeral bytes m → IsNumeral bytes n → m ≡ n
one_value h k = sym h.value ∙ k.value

pub one_number : {bytes : List ℕ} {r s : Option ℕ} → NumberGiven bytes r → NumberGiven bytes s → r ≡ s
one_number (numeral h) (numeral k) = ap Some (one_value h k)
one_number (numeral {n} h) (no_numeral k) = absurd (k n h)
one_number (no_numeral h) (numeral {n} k) = absurd (h n k)
one_number (no_numeral h) (no_numeral k) = refl

pub one_pair : {given : ℕ} {first second : List ℕ} {r s : Option (ℕ × ℕ)} → PairGiven given first second r → PairGiven given first second s → r ≡ s
one_pair (numerals h) (numerals k) = ap₂ (λ (m n : ℕ). Some (m, n)) (one_value h.first_is k.first_is) (one_value h.second_is k.second_is)
one_pair (numerals {m} {n} h) (no_numerals k) = absurd (k m n h)
one_pair (no_numerals h) (numerals {m} {n} k) = absurd (h m n k)
one_pair (no_numerals h) (no_numerals k) = refl
