-- Note 6: a row of sessions and one event: what each session ends as, and what the call answers, for every row.
use Rattle.std.specs.Prelude.{ℕ, zero, suc, ◌+◌, ◌≡◌, cond, List, [], ◌∷◌, ◌++◌, map, eqb, leb, length, take, drop, Option, Some, None, Result, Ok, Err}
use Rattle.event.specs.declared.Event.{Event}
use Rattle.event.specs.declared.refusal.Refusal.{Refusal}
use Rattle.event.specs.Refusals.{refusal_number, number_given, reason_of}
use Rattle.session.specs.declared.Session.{Session}
use Rattle.session.specs.Answers.{answer_is}
use Rattle.session.specs.Model.{handed}
use Rattle.session_row.specs.declared.RowHanded.{RowHanded}
use Rattle.session_row.specs.declared.RowRefusal.{RowRefusal}
use Rattle.session_row.specs.declared.RowRefusal.TheVariants.{TooLong, Refused}
use Rattle.session_row.specs.declared.RowRefused.{RowRefused}

-- "a lent row of 0 to 16 sessions"
abbrev pub most : ℕ
most = 16

-- one place more
abbrev pub places : ℕ
places = 17

-- ---- the words of the request, over the numbers that the sessions of a row answer with, in row order; 0 is no refusal

-- "how many refused"
unfoldable pub how_many_refused : List ℕ → ℕ
how_many_refused [] = 0
how_many_refused (zero ∷ later) = how_many_refused later
how_many_refused (suc k ∷ later) = suc (how_many_refused later)

-- the place of a later session is one more; 0 stays, where none refused
abbrev pub one_on : ℕ → ℕ
one_on zero = 0
one_on (suc n) = suc (suc n)

-- "the lowest row place (from 1) that did"; 0 with none
unfoldable pub lowest : List ℕ → ℕ
lowest [] = 0
lowest (zero ∷ later) = one_on (lowest later)
lowest (suc k ∷ later) = 1

-- "and its refusal number"; 0 with none
unfoldable pub number_there : List ℕ → ℕ
number_there [] = 0
number_there (zero ∷ later) = number_there later
number_there (suc k ∷ later) = suc k

-- the numbers of a row's answer
pub record RowNumbers : Type 0 where
  pub number : ℕ
  pub offset : ℕ
  pub count : ℕ
  pub place : ℕ

-- "The result is how many refused, with the lowest row place (from 1) that did and its refusal number; with none refusing, all three are 0."
abbrev pub numbers_over : List ℕ → RowNumbers
numbers_over ks = record { number = number_there ks; offset = 0; count = how_many_refused ks; place = lowest ks }

-- "18, a row longer than 16 ..; no session changes, and offset, count and place are 0"
abbrev pub too_many : RowNumbers
too_many = record { number = 18; offset = 0; count = 0; place = 0 }

-- what a session alone makes of an event: the number it answers with, and what it is then
pub record Alone (K : Type 0) : Type 0 where
  pub number : ℕ
  pub after : K

-- what a row answers, whatever its sessions are: its length is "checked before any session"
abbrev pub row_numbers : {K : Type 0} → (K → Alone K) → List K → RowNumbers
row_numbers alone row = cond (leb (length row) most) (numbers_over (map (λ s. (alone s).number) row)) too_many

-- "gives the event to each session in row order. Each session ends as it would alone. A session that refuses is unchanged and the others still go on."
abbrev pub row_after : {K : Type 0} → (K → Alone K) → List K → List K
row_after alone row = cond (leb (length row) most) (map (λ s. (alone s).after) row) row

-- what a call over a lent row promises, for every row
pub record RowTaken {K : Type 0} (alone : K → Alone K) (row : List K) (r : RowNumbers) (after : List K) : Type 0 where
  pub numbers : r ≡ row_numbers alone row
  pub sessions : after ≡ row_after alone row

-- the numbers that each case of an answer stands for, and the case that stands for some numbers
abbrev pub refused_numbers : RowRefused → RowNumbers
refused_numbers r = record { number = refusal_number r.reason; offset = 0; count = r.count; place = r.place }

abbrev pub row_answer_is : Result Unit RowRefusal → RowNumbers
row_answer_is (Ok u) = record { number = 0; offset = 0; count = 0; place = 0 }
row_answer_is (Err TooLong) = too_many
row_answer_is (Err (Refused r)) = refused_numbers r

abbrev pub row_answer_by : RowNumbers → Result Unit RowRefusal
row_answer_by n =
    cond (eqb n.number 0) (Ok tt)
    (cond (eqb n.count 0) (Err TooLong) (Err (Refused (record { count = n.count; place = n.place; reason = reason_of n.number }))))

-- the same by the answer of a call
pub record RowAnswered {K : Type 0} (alone : K → Alone K) (row : List K) (r : Result Unit RowRefusal) (after : List K) : Type 0 where
  pub taken : RowTaken alone row (row_answer_is r) after
  pub exact : r ≡ row_answer_by (row_numbers alone row)

-- `gives` says what may come of handing a session over: with s, what it would be alone
abbrev pub HandsAs : {K : Type 0} → (K → Result Unit Refusal × K → Type 0) → (K → Alone K) → K → Type 0
HandsAs {K} gives alone s = (r : Result Unit Refusal × K) → gives s r → (number_given r.0 ≡ (alone s).number) × (r.1 ≡ (alone s).after)

-- ---- sessions held by value

-- what taking an event makes of a session
abbrev pub alone_with : Event → Session → Alone Session
alone_with e s = record { number = (answer_is (handed s e).answer).number; after = (handed s e).session }

-- the first n of some sessions as a row; the others stay as they were
pub record FirstHanded (alone : Session → Alone Session) (before : List Session) (n : ℕ) (r : RowHanded) : Type 0 where
  pub row : List Session
  pub answered : RowAnswered alone (take n before) r.answer row
  pub sessions : r.sessions ≡ row ++ drop n before

-- ---- the refusals so far that a call keeps

abbrev pub how_many_in : Option RowRefused → ℕ
how_many_in None = 0
how_many_in (Some r) = r.count

-- one more, of the session at index i
abbrev pub one_refused : Option RowRefused → ℕ → Refusal → RowRefused
one_refused None i k = record { count = 1; place = i + 1; reason = k }
one_refused (Some r) i k = record { count = r.count + 1; place = r.place; reason = r.reason }
