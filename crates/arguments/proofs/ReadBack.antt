-- Every number below 2^64 that `io` writes in decimal, also with leading zeros, is the number that is read.
use Prim.Native.Nat.{ℕ, zero, suc, ◌+◌, ◌-◌, ◌*◌, ◌/◌, ◌%◌, ◌^◌, ◌<◌, ◌≤◌}
use native.Mathlib.Decide.{ℕ_discrete}
use native.Mathlib.Omega.{arith}
use native.Mathlib.Nat.{pow-zero, pow-suc}
use native.Mathlib.Numerals.{add-one}
use mathlib.Core.Path.{◌≡◌, refl, sym, ap, ◌∙◌}
use mathlib.Core.List.{List, [], ◌∷◌, ◌++◌}
use lib.ListN.{length, get_or, length-append, get_or-append}
use lib.Seq.{get_or_at}
use borrow.Author.Tests.{lt-ltb}
use Rattle.io.specs.Digits.{hex_digit_ascii, last_digits}
use Rattle.arguments.specs.Numerals.{IsFigure, IsNumeral, value_of}
use Rattle.arguments.proofs.Values.{behind}

-- how a figure is written
written_as : (n : ℕ) → hex_digit_ascii (n % 10) ≡ 48 + n % 10
written_as n = rw (lt-ltb (n % 10) 10 (omega arith))

value_of_digits : (k n : ℕ) → n < 10 ^ k → value_of (last_digits 10 k n) ≡ n
unfolding value_of
value_of_digits zero n h = let one : 10 ^ 0 ≡ 1 = pow-zero 10 in omega arith
value_of_digits (suc k) n h =
    let ten : 10 ^ suc k ≡ 10 ^ k * 10 = pow-suc 10 k in
    let front : value_of (last_digits 10 k (n / 10)) ≡ n / 10 = value_of_digits k (n / 10) (omega arith) in
    let last : hex_digit_ascii (n % 10) ≡ 48 + n % 10 = written_as n in
    let all : value_of (last_digits 10 (suc k) n) ≡ 10 * value_of (last_digits 10 k (n / 10)) + (hex_digit_ascii (n % 10) - 48) = behind (last_digits 10 k (n / 10)) (hex_digit_ascii (n % 10)) in
    omega arith

count_of_digits : (k n : ℕ) → length (last_digits 10 k n) ≡ k
count_of_digits zero n = refl
count_of_digits (suc k) n =
    length-append (last_digits 10 k (n / 10)) (hex_digit_ascii (n % 10) ∷ []) ∙ ap (λ (l : ℕ). l + 1) (count_of_digits k (n / 10)) ∙ add-one k

-- a figure behind figures
one_behind : (bs : List ℕ) (b : ℕ) → ((i : ℕ) → i < length bs → IsFigure (get_or bs i 0)) → IsFigure b
    → (i : ℕ) → i < length (bs ++ (b ∷ [])) → IsFigure (get_or (bs ++ (b ∷ [])) i 0)
one_behind bs b front last i h = go (ℕ_discrete i (length bs))
  where
    go : Dec (i ≡ length bs) → IsFigure (get_or (bs ++ (b ∷ [])) i 0)
    go (yes q) = rw (get_or_at bs b [] 0 i (sym q)) last
    go (no d) =
        let long : length (bs ++ (b ∷ [])) ≡ length bs + 1 = length-append bs (b ∷ []) in
        let inside : i < length bs = omega arith in
        rw (get_or-append bs (b ∷ []) 0 i inside) (front i inside)

digits_are_figures : (k n i : ℕ) → i < length (last_digits 10 k n) → IsFigure (get_or (last_digits 10 k n) i 0)
digits_are_figures zero n i h = absurd (omega arith)
digits_are_figures (suc k) n i h =
    let last : IsFigure (hex_digit_ascii (n % 10)) = rw (written_as n) (omega arith, omega arith) in
    one_behind (last_digits 10 k (n / 10)) (hex_digit_ascii (n % 10)) (digits_are_figures k (n / 10)) last i h

pub read_back : (k n : ℕ) → 1 ≤ k → k ≤ 20 → n < 10 ^ k → n < 2 ^ 64 → IsNumeral (last_digits 10 k n) n
read_back k n least most room small =
    let long : length (last_digits 10 k n) ≡ k = count_of_digits k n in
    record {
      least = omega arith;
      most = omega arith;
      only_figures = digits_are_figures k n;
      value = value_of_digits k n room;
      below = small;
    }
