-- A page of bytes under way, and a text of it at the start of a lent buffer.
use Rattle.std.specs.Prelude.{ℕ, ◌+◌, ◌≤◌, ◌≡◌, cond, List, [], ◌∷◌, ltb, length, take, set, replicate, Result}
use Rattle.event.specs.declared.refusal.Refused.{Refused}
use Rattle.writer.specs.Writing.{writing, written_is, buffer_after}
use Rattle.page.specs.declared.Page.{Page}

-- a buffer of so many bytes holds every program's text
abbrev pub room : ℕ
room = 1024

-- a page before any byte
abbrev pub empty_page : Page
empty_page = record { bytes = replicate room 0; size = 0 }

-- a page with a byte more; a full one stays as it is
abbrev pub with : Page → ℕ → Page
with p b = cond (ltb p.size room) (record { bytes = set p.bytes p.size b; size = p.size + 1 }) p

-- a page with these bytes more, one after another
unfoldable pub onto : Page → List ℕ → Page
onto p [] = p
onto p (b ∷ bs) = onto (with p b) bs

-- a page after a text of this kind was put onto one; the text is no longer than an empty page holds
pub record Adds (Kind : List ℕ → Type 0) (before after : Page) : Type 0 where
  pub text : List ℕ
  pub kind : Kind text
  pub short : length text ≤ room
  pub page : after ≡ onto before text

-- the text that a page holds: its first `size` bytes, or all where `size` is past its end
abbrev pub held : Page → List ℕ
held p = take p.size p.bytes

-- a text of this kind written at the start of a lent buffer, at place 0 and without a refusal of its own; or 15, and the buffer as it was, where it is shorter than the text
pub record PutIn (Kind : List ℕ → Type 0) (before after : List ℕ) (r : Result ℕ Refused) : Type 0 where
  pub text : List ℕ
  pub kind : Kind text
  pub short : length text ≤ room
  pub answer : written_is r ≡ writing 0 text before 0
  pub buffer : after ≡ buffer_after 0 text before 0
