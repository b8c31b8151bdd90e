-- What `listings` prints for some pattern files and a log, for all byte strings.
use Rattle.std.specs.Prelude.{ℕ, suc, ◌+◌, ◌/◌, ◌%◌, cond, List, [], ◌∷◌, ◌++◌, eqb, length}
use Rattle.page.specs.Text.{ascii}
use Rattle.listing_text.specs.Listing.{Listing}

-- a pattern file: it can't be opened, or what was read of it
pub data File : Type 0 where
  absent : File
  holds : List ℕ → File

-- "its name without `.bin`": `pattern01` to `pattern16`
abbrev pub file_name : ℕ → List ℕ
file_name n = ascii "pattern" ++ ((48 + n / 10) ∷ (48 + n % 10) ∷ [])

-- "the first line" of a text, with its line feed
unfoldable pub first_line : List ℕ → List ℕ
first_line [] = []
first_line (b ∷ bs) = cond (eqb b 10) (b ∷ []) (b ∷ first_line bs)

-- "for each pattern file that can be opened .. one line: its name without `.bin`, a colon, a space, and the first line that `listing` prints for that pattern
-- and this log"; what is too long is `listing`'s too: "A pattern file that is too long gives `too long` on its line, a log that is too long gives it on every line"
pub data Line (log : List ℕ) (n : ℕ) : File → List ℕ → Type 0 where
  no_line : Line log n absent []
  one_line : {pattern text : List ℕ} → Listing pattern log text → Line log n (holds pattern) (file_name n ++ ascii ": " ++ first_line text)

-- "in the order of their numbers"; "with no pattern file nothing is printed"
pub data Listings : List File → List ℕ → List ℕ → Type 0 where
  none : {log : List ℕ} → Listings [] log []
  one_more : {files : List File} {file : File} {log text line : List ℕ} → Listings files log text → Line log (suc (length files)) file line
      → Listings (files ++ (file ∷ [])) log (text ++ line)
