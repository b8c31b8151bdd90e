-- Words and numbers as bytes, in ASCII.
use Rattle.std.specs.Prelude.{ℕ, zero, suc, ◌+◌, ◌/◌, ◌%◌, cond, List, [], ◌∷◌, ◌++◌, ltb}
use Prim.Native.Char.{code}
use Prim.Native.String.{String, [] as nil, ◌∷◌ as ◌and◌}

-- the bytes of a text: of each character its code
abbrev pub ascii : String → List ℕ
ascii nil = []
ascii (c and s) = code c ∷ ascii s

-- a number in decimal, of so many figures at most
unfoldable pub figures : ℕ → ℕ → List ℕ
figures zero n = []
figures (suc left) n = cond (ltb n 10) ((48 + n) ∷ []) (figures left (n / 10) ++ ((48 + n % 10) ∷ []))

-- every number of 64 bits has 20 figures at most
abbrev pub decimal : ℕ → List ℕ
decimal n = figures 20 n
