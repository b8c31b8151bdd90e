-- The lines that several programs print, and the longest file that they take. "Each line ends in a line feed."
use Rattle.std.specs.Prelude.{ℕ, List, ◌++◌}
use Rattle.page.specs.Text.{ascii, decimal}

-- "each at most 65,536 bytes"; of the other programs: "have at most 65,536 bytes each"
abbrev pub longest : ℕ
longest = 65536

-- "`refused K at B`", "K the number, B the offset"
abbrev pub refusal_line : ℕ → ℕ → List ℕ
refusal_line k o = ascii "refused " ++ decimal k ++ ascii " at " ++ decimal o ++ ascii "\n"

-- "it prints `too long` alone"
abbrev pub too_long_line : List ℕ
too_long_line = ascii "too long\n"
