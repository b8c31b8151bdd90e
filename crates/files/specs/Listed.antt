-- The text that two files have, and the answer of an order query of one. No contract can say which bytes the system reads of a file.
use Rattle.std.specs.Prelude.{ℕ, ◌≡◌, List, Option, Result, Ok}
use Rattle.io.specs.Counts.{IsPrefixLen}
use Rattle.event.specs.declared.refusal.Refused.{Refused}
use Rattle.page.specs.Page.{PutIn}
use Rattle.order_text.specs.OrderText.{OrderText}

-- the buffer before and after, and the answer: they are those of the text of this kind for some pattern and some log
pub record SomeText (Kind : List ℕ → List ℕ → List ℕ → Type 0) (before after : List ℕ) (r : Result ℕ Refused) : Type 0 where
  pub pattern : List ℕ
  pub log : List ℕ
  pub put : PutIn (Kind pattern log) before after r

-- the same of the program `order`, given these arguments: they are those of its text for some log
pub record SomeOrder (pair : Option (ℕ × ℕ)) (before after : List ℕ) (r : Result ℕ Refused) : Type 0 where
  pub log : List ℕ
  pub put : PutIn (OrderText log pair) before after r

-- what was written at the start of a page lies within it
abbrev pub InPage : {E : Type 0} → Result ℕ E → List ℕ → Type 0
InPage r page = (at : ℕ) → r ≡ Ok at → IsPrefixLen at page
