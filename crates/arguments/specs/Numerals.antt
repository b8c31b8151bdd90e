-- Which arguments are numbers, and what is answered for them.
use Rattle.std.specs.Prelude.{ℕ, ◌+◌, ◌-◌, ◌*◌, ◌^◌, ◌<◌, ◌≤◌, ◌≡◌, List, [], ◌∷◌, length, get_or, Option, Some, None}

-- "figures only (bytes 30 to 39)": in hexadecimal, so 48 to 57
abbrev pub IsFigure : ℕ → Type 0
IsFigure b = (48 ≤ b) × (b ≤ 57)

-- "decimal numbers": the last figure counts one, and each before it ten times as much as the next
unfoldable pub value_of : List ℕ → ℕ
value_of [] = 0
value_of (b ∷ bs) = (b - 48) * 10 ^ length bs + value_of bs

-- the bytes of an argument and the number that it is: "figures only .., no sign, no space, leading zeros allowed, at most 20 figures and below 2^64"
pub record IsNumeral (bytes : List ℕ) (n : ℕ) : Type 0 where
  pub least : 1 ≤ length bytes
  pub most : length bytes ≤ 20
  pub only_figures : (i : ℕ) → i < length bytes → IsFigure (get_or bytes i 0)
  pub value : value_of bytes ≡ n
  pub below : n < 2 ^ 64

-- what is answered for an argument: the number that it is, or that it is none
pub data NumberGiven (bytes : List ℕ) : Option ℕ → Type 0 where
  numeral : {n : ℕ} → IsNumeral bytes n → NumberGiven bytes (Some n)
  no_numeral : ((n : ℕ) → ¬ IsNumeral bytes n) → NumberGiven bytes None

-- the arguments of a program that takes two numbers, neither "too few, too many" nor "no numbers": how many there are, the first two, and their numbers
pub record AreNumerals (given : ℕ) (first second : List ℕ) (m n : ℕ) : Type 0 where
  pub two : given ≡ 2
  pub first_is : IsNumeral first m
  pub second_is : IsNumeral second n

-- what is answered for them: the two numbers, or that they are not that
pub data PairGiven (given : ℕ) (first second : List ℕ) : Option (ℕ × ℕ) → Type 0 where
  numerals : {m n : ℕ} → AreNumerals given first second m n → PairGiven given first second (Some (m, n))
  no_numerals : ((m n : ℕ) → ¬ AreNumerals given first second m n) → PairGiven given first second None

-- a byte may stand behind figures of this value: it is a figure, and with it the value stays "below 2^64"
abbrev pub Extends : ℕ → ℕ → Type 0
Extends value byte = IsFigure byte × (10 * value + (byte - 48) < 2 ^ 64)
