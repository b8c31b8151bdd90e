-- The line of a pattern file, by what was found of it, the session on its pattern and how the log ended; and the lines of all.
use Rattle.std.specs.Prelude.{ℕ, zero, suc, cond, List, [], ◌++◌, ltb, get_or, Option, Some, None, Result, Ok, Err}
use Rattle.event.specs.declared.refusal.Refused as event
use Rattle.event.specs.Refusals.{refusal_number}
use Rattle.page.specs.Text.{ascii}
use Rattle.page.specs.Lines.{longest, refusal_line, too_long_line}
use Rattle.listing_text.specs.Text.{pattern_refusal_line, no_match_line, match_line}
use Rattle.session.specs.declared.Session.{Session}
use Rattle.session.specs.Model.{verdict_of}
use Rattle.row_pass.specs.declared.FileFault.{FileFault}
use Rattle.row_pass.specs.declared.FileFault.TheVariants.{TooLong, Refused}
use Rattle.row_pass.specs.Passing.{past_session}
use Rattle.listings_text.specs.Listings.{file_name}

-- what was found of a pattern file, none where it can't be opened; and how a log ended
abbrev pub Finding : Type 0
Finding = Option (Result Unit FileFault)

abbrev pub End : Type 0
End = Result Unit FileFault

-- what is found of a file of so many bytes, by what became of its pattern
abbrev pub found_by : Result ℕ event.Refused → Result Unit FileFault
found_by (Ok n) = Ok tt
found_by (Err r) = Err (Refused r)

abbrev pub found_of : ℕ → Result ℕ event.Refused → Result Unit FileFault
found_of size answer = cond (ltb longest size) (Err TooLong) (found_by answer)

-- what stands before every line
abbrev pub name_text : ℕ → List ℕ
name_text n = file_name n ++ ascii ": "

abbrev pub found_line : Option ℕ → List ℕ
found_line (Some n) = match_line n
found_line None = no_match_line

abbrev pub end_line : End → Session → List ℕ
end_line (Err TooLong) s = too_long_line
end_line (Err (Refused r)) s = refusal_line (refusal_number r.reason) r.offset
end_line (Ok u) s = found_line (verdict_of s).found

-- of a refused pattern: `listing` looks at the log's length before it reads the pattern
abbrev pub refused_line : End → ℕ → ℕ → List ℕ
refused_line (Err TooLong) k o = too_long_line
refused_line (Err (Refused r)) k o = pattern_refusal_line k o
refused_line (Ok u) k o = pattern_refusal_line k o

-- the line of the file numbered n
abbrev pub line_of : End → ℕ → Finding → Session → List ℕ
line_of end n None s = []
line_of end n (Some (Err TooLong)) s = name_text n ++ too_long_line
line_of end n (Some (Err (Refused r))) s = name_text n ++ refused_line end (refusal_number r.reason) r.offset
line_of end n (Some (Ok u)) s = name_text n ++ end_line end s

-- what a line has at most: sixteen lines fill a page
abbrev pub line_width : ℕ
line_width = 64

abbrev pub end_width : ℕ
end_width = 53

-- past the end of the list, for `get_or`
abbrev pub past_entry : Finding
past_entry = None

-- the lines of the first so many files
unfoldable pub lines_before : End → List Finding → List Session → ℕ → List ℕ
lines_before end entries sessions zero = []
lines_before end entries sessions (suc k) =
    lines_before end entries sessions k ++ line_of end (suc k) (get_or entries k past_entry) (get_or sessions k past_session)
