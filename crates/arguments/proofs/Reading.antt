-- An argument read byte by byte: what its first bytes are, and where it is found to be no number.
use Prim.Native.Nat.{ℕ, suc, ◌+◌, ◌-◌, ◌*◌, ◌^◌, ◌<◌, ◌≤◌}
use native.Mathlib.Decide.{ℕ_discrete}
use native.Mathlib.Omega.{arith}
use native.Mathlib.Numerals.{add-one}
use mathlib.Core.Path.{◌≡◌, refl, sym, ap, ◌∙◌}
use mathlib.Core.List.{List, ◌++◌}
use Rattle.std.specs.Prelude.{Some, None}
use lib.ListN.{length, get_or, take, drop, take-append-drop}
use lib.Seq.{take_all, take-suc}
use Rattle.arguments.specs.Numerals.{IsFigure, IsNumeral, Extends, NumberGiven, numeral, no_numeral, PairGiven, numerals, no_numerals, value_of}
use Rattle.arguments.proofs.Values.{behind, no_lower}

-- ---- one argument

-- the first i bytes are figures of this value
pub record ReadTo (bytes : List ℕ) (i value : ℕ) : Type 0 where
  pub only_figures : (k : ℕ) → k < i → IsFigure (get_or bytes k 0)
  pub value_is : value_of (take i bytes) ≡ value
  pub below : value < 2 ^ 64

pub nothing_read : (bytes : List ℕ) → ReadTo bytes 0 0
unfolding value_of
nothing_read bytes = record { only_figures = λ k l. absurd (omega arith); value_is = refl; below = omega arith }

module _ (bytes : List ℕ) (i value : ℕ) (r : ReadTo bytes i value) (inside : i < length bytes) where
  with_next : value_of (take (suc i) bytes) ≡ 10 * value + (get_or bytes i 0 - 48)
  with_next =
      ap value_of (take-suc bytes i 0 inside) ∙ behind (take i bytes) (get_or bytes i 0)
      ∙ ap (λ (v : ℕ). 10 * v + (get_or bytes i 0 - 48)) r.value_is

  pub one_more : Extends value (get_or bytes i 0) → ReadTo bytes (i + 1) (10 * value + (get_or bytes i 0 - 48))
  one_more e =
      record {
        only_figures = λ k l. figure k l (ℕ_discrete k i);
        value_is = rw (add-one i) with_next;
        below = e.1;
      }
    where
      figure : (k : ℕ) → k < i + 1 → Dec (k ≡ i) → IsFigure (get_or bytes k 0)
      figure k l (yes q) = rw q e.0
      figure k l (no d) = r.only_figures k (omega arith)

  -- a byte that is no figure, or a value that is not below 2^64, can't be mended by what follows
  pub ends : ¬ Extends value (get_or bytes i 0) → NumberGiven bytes None
  ends out = no_numeral never
    where
      whole : value_of (take (suc i) bytes ++ drop (suc i) bytes) ≡ value_of bytes
      whole = ap value_of (take-append-drop (suc i) bytes)

      never : (n : ℕ) → ¬ IsNumeral bytes n
      never n h =
          let low : value_of (take (suc i) bytes) ≤ value_of (take (suc i) bytes ++ drop (suc i) bytes) = no_lower (take (suc i) bytes) (drop (suc i) bytes) in
          let all : value_of (take (suc i) bytes ++ drop (suc i) bytes) ≡ n = whole ∙ h.value in
          let next : value_of (take (suc i) bytes) ≡ 10 * value + (get_or bytes i 0 - 48) = with_next in
          let small : n < 2 ^ 64 = h.below in
          out (h.only_figures i inside, omega arith)

-- every byte was read
pub all_read : (bytes : List ℕ) (i value : ℕ) → ReadTo bytes i value → length bytes ≤ i → 1 ≤ length bytes → length bytes ≤ 20 → NumberGiven bytes (Some value)
all_read bytes i value r over least most =
    numeral
    (record {
      least = least;
      most = most;
      only_figures = λ k l. r.only_figures k (omega arith);
      value = ap value_of (sym (take_all i bytes over)) ∙ r.value_is;
      below = r.below;
    })

-- an argument of no byte, or of too many
pub wrong_length : (bytes : List ℕ) → ((1 ≤ length bytes) × (length bytes ≤ 20) → ⊥) → NumberGiven bytes None
wrong_length bytes out = no_numeral (λ n h. out (h.least, h.most))

-- ---- two arguments

is_numeral : {bytes : List ℕ} {n : ℕ} → NumberGiven bytes (Some n) → IsNumeral bytes n
is_numeral (numeral h) = h

is_none : {bytes : List ℕ} → NumberGiven bytes None → (n : ℕ) → ¬ IsNumeral bytes n
is_none (no_numeral h) = h

module _ {given : ℕ} {first second : List ℕ} where
  pub both : {x y : ℕ} → given ≡ 2 → NumberGiven first (Some x) → NumberGiven second (Some y) → PairGiven given first second (Some (x, y))
  both two m n = numerals (record { two = two; first_is = is_numeral m; second_is = is_numeral n })

  pub other_count : (given ≡ 2 → ⊥) → PairGiven given first second None
  other_count other = no_numerals (λ x y h. other h.two)

  pub first_none : NumberGiven first None → PairGiven given first second None
  first_none m = no_numerals (λ x y h. is_none m x h.first_is)

  pub second_none : NumberGiven second None → PairGiven given first second None
  second_none n = no_numerals (λ x y h. is_none n y h.second_is)
