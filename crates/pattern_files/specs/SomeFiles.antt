-- Some pattern files: what is known of them, and their lines by some log. No contract can say which bytes the system reads of a file.
use Rattle.std.specs.Prelude.{ℕ, ◌≡◌, List, length, Result}
use Rattle.event.specs.declared.refusal.Refused.{Refused}
use Rattle.page.specs.Page.{PutIn}
use Rattle.session_row.specs.Row.{most}
use Rattle.listings_text.specs.declared.Watched.{Watched}
use Rattle.listings_text.specs.Listings.{File, Listings}
use Rattle.listings_text.specs.Watched.{WatchedOf}

-- what is known of some pattern files, so many of them
pub record Watching (n : ℕ) (w : Watched) : Type 0 where
  pub files : List File
  pub many : length files ≡ n
  pub kept : WatchedOf files w

-- the buffer before and after, and the answer: they are those of the lines of some sixteen pattern files, each of which can't be opened or holds some bytes, and some log
pub record SomeListings (before after : List ℕ) (r : Result ℕ Refused) : Type 0 where
  pub files : List File
  pub many : length files ≡ most
  pub log : List ℕ
  pub put : PutIn (Listings files log) before after r
