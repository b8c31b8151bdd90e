-- What the program `load` makes of its arguments, in a space for the log, and the line that it prints.
use Rattle.std.specs.Prelude.{ℕ, ◌^◌, ◌≤◌, ◌≡◌, cond, List, ◌++◌, ltb, length, Option, Some, None, Result, Ok, Err}
use Rattle.event.specs.declared.refusal.Refused.{Refused}
use Rattle.event.specs.Refusals.{refusal_number}
use Rattle.writer.specs.Writing.{Writing, written, refused}
use Rattle.page.specs.Text.{ascii, decimal}
use Rattle.page.specs.Lines.{refusal_line}
use Rattle.load_log.specs.Load.{loading, loaded}
use Rattle.load_text.specs.declared.LoadError.{LoadError}
use Rattle.load_text.specs.declared.LoadError.TheVariants as load_error

-- "`load SEED COUNT`": the two numbers that the arguments are, or none; "a seed above 4294967295 is a usage error"
abbrev pub seed_and_count : Option (ℕ × ℕ) → Option (ℕ × ℕ)
seed_and_count None = None
seed_and_count (Some (m, n)) = cond (ltb m (2 ^ 32)) (Some (m, n)) None

-- what becomes of a seed and a count: what writing the load into the space answers; of none, nothing is made
abbrev pub making : Option (ℕ × ℕ) → List ℕ → Option Writing
making None space = None
making (Some (seed, count)) space = Some (loading seed count space)

-- the space afterwards
abbrev pub space_after : Option (ℕ × ℕ) → List ℕ → List ℕ
space_after None space = space
space_after (Some (seed, count)) space = loaded seed count space

-- a refusal by its number
abbrev pub told : Refused → LoadError
told r = load_error.Refused (refusal_number r.reason) r.offset

abbrev pub made_is : Result ℕ LoadError → Option Writing
made_is (Ok n) = Some (written n)
made_is (Err (load_error.Refused k o)) = Some (refused k o)
made_is (Err load_error.Usage) = None

-- "`N bytes`, N the length written"; "A refusal is `refused K at B`"; "one line, `usage: ` and its usage as in the table". "Each line ends in a line feed."
abbrev pub load_line : Option Writing → List ℕ
load_line (Some (written n)) = decimal n ++ ascii " bytes\n"
load_line (Some (refused k o)) = refusal_line k o
load_line None = ascii "usage: load SEED COUNT\n"

-- a log that was made lies within its space
abbrev pub LogWithin : {E : Type 0} → Result ℕ E → List ℕ → Type 0
LogWithin m space = (n : ℕ) → m ≡ Ok n → n ≤ length space
