-- Names of files, put together in a lent path.
use Rattle.std.specs.Prelude.{ℕ, ◌<◌, ◌≤◌, ◌≡◌, List, ◌++◌, length, take}
use Rattle.io.specs.Counts.{IsPrefixLen}
use Rattle.io.specs.Digits.{last_digits, IsDigitCount}
use Rattle.page.specs.Text.{ascii}

-- the path's first `size` bytes are the text; where it has no room for the text, `size` is its whole length
pub record Starts (text path : List ℕ) (size : ℕ) : Type 0 where
  pub is : length text ≤ length path → take size path ≡ text
  pub long : length path < length text → size ≡ length path

-- a path before and after bytes were put behind the text that ends at `from`
pub record Appended (before : List ℕ) (from : ℕ) (bytes after : List ℕ) (r : ℕ) : Type 0 where
  pub counts : IsPrefixLen r after
  pub starts : (text : List ℕ) → Starts text before from → Starts (text ++ bytes) after r

-- the name of a spare file beside a file: the file's own name, a dot, and the process's number in decimal
pub record SpareName (name : List ℕ) (process : ℕ) (path : List ℕ) (size : ℕ) : Type 0 where
  pub counts : IsPrefixLen size path
  pub places : ℕ
  pub fewest : IsDigitCount 10 1 process places
  pub starts : Starts (name ++ ascii "." ++ last_digits 10 places process) path size
