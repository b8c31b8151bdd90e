-- The listing's words and heights as bytes, in ASCII, and its lines.
use Rattle.std.specs.Prelude.{ℕ, cond, List, [], ◌++◌, ℤ}
use Rattle.event.specs.declared.Event.{Event}
use Rattle.event.specs.declared.Operation.{Operation}
use Rattle.event.specs.declared.Operation.TheVariants.{Read, Write, Acquire, Release, Fork, Join, Mark}
use Rattle.height.specs.declared.Metres.{Metres}
use Rattle.height.specs.Rounding.{former_tenths_of, figures_of, metres_of}
use Rattle.page.specs.Text.{ascii, decimal}
use Rattle.page.specs.Lines.{refusal_line}

-- "Heights are metres to one decimal"; "A minus sign stands when the rounded height is below zero"
abbrev pub metres_text : Metres → List ℕ
metres_text m = cond m.below (ascii "-") [] ++ decimal m.whole ++ ascii "." ++ decimal m.tenth

unfoldable pub height_text : ℤ → List ℕ
height_text mm = metres_text (metres_of mm)

-- the text that document 01 had for it, which Note 8 compares with
unfoldable pub former_height_text : ℤ → List ℕ
former_height_text mm = metres_text (figures_of (former_tenths_of mm))

-- "operation word from the table, object number, and for a write the height"
abbrev pub operation_text : Operation → List ℕ
operation_text (Read v) = ascii "read " ++ decimal v
operation_text (Write v mm) = ascii "write " ++ decimal v ++ ascii " " ++ height_text mm
operation_text (Acquire l) = ascii "acquire " ++ decimal l
operation_text (Release l) = ascii "release " ++ decimal l
operation_text (Fork c) = ascii "fork " ++ decimal c
operation_text (Join c) = ascii "join " ++ decimal c
operation_text (Mark m) = ascii "mark " ++ decimal m

-- "a line per slot: slot number, `event`, its number, `thread`, its number", then the operation
abbrev pub slot_text : ℕ → ℕ → Event → List ℕ
slot_text slot n e =
    decimal slot ++ ascii " event " ++ decimal n ++ ascii " thread " ++ decimal e.thread ++ ascii " " ++ operation_text e.operation

-- "Each line ends in a line feed."
abbrev pub slot_line : ℕ → ℕ → Event → List ℕ
slot_line slot n e = slot_text slot n e ++ ascii "\n"

-- "`pattern refused K at B` for the pattern"
abbrev pub pattern_refusal_line : ℕ → ℕ → List ℕ
pattern_refusal_line k o = ascii "pattern " ++ refusal_line k o

-- "the nine bytes of `no match` and a line feed"
abbrev pub no_match_line : List ℕ
no_match_line = ascii "no match\n"

-- "`match at N` (N the count)"
abbrev pub match_line : ℕ → List ℕ
match_line n = ascii "match at " ++ decimal n ++ ascii "\n"
