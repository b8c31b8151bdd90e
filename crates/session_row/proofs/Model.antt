-- The loop's model: what a row and its tally are after i turns. Plain lists and numbers; no logic.
use mathlib.Core.Path.{◌≡◌, refl, sym, ap, ◌∙◌}
use mathlib.Core.Bool.{Bool, true, false, cond, false≢true}
use mathlib.Core.List.{List, [], ◌∷◌, map}
use Prim.Native.Nat.{ℕ, zero, suc, ◌+◌, ◌≤◌, ◌<◌}
use native.Mathlib.Nat.{not-suc-le-zero, le_of_suc-le-suc}
use native.Mathlib.Numerals.{add-one}
use native.Mathlib.Omega.{arith}
use lib.Dec.{eqb}
use lib.ListN.{length, get_or, set, take}
use lib.Seq.{take-length}
use borrow.Author.Tests.{le-leb, lt-leb, eqb-true, eq-eqb, ne_eqb}
use Rattle.std.specs.Prelude.{Option, Some, None, Result, Ok, Err}
use Rattle.event.specs.declared.refusal.Refusal.{Refusal}
use Rattle.event.specs.Refusals.{refusal_number, number_given}
use Rattle.event.proofs.Refusals.{numbered, reason_numbered}
use Rattle.session_row.specs.declared.RowRefusal.{RowRefusal}
use Rattle.session_row.specs.declared.RowRefusal.TheVariants.{TooLong, Refused}
use Rattle.session_row.specs.declared.RowRefused.{RowRefused}
use Rattle.session_row.specs.Row.{most, how_many_refused, lowest, number_there, one_on, RowNumbers, numbers_over, too_many, Alone, RowTaken, refused_numbers, row_answer_is, row_answer_by, RowAnswered, one_refused}

-- ---- tallies

abbrev nothing_yet : RowNumbers
nothing_yet = record { number = 0; offset = 0; count = 0; place = 0 }

-- one more answer, that of the session at index i
unfoldable pub tally_with : RowNumbers → ℕ → ℕ → RowNumbers
tally_with t k i =
    cond (eqb k 0) t
    (cond (eqb t.count 0)
    (record { number = k; offset = 0; count = 1; place = i + 1 })
    (record { number = t.number; offset = 0; count = t.count + 1; place = t.place }))

told_none : (t : RowNumbers) (i : ℕ) → tally_with t 0 i ≡ t
unfolding tally_with
told_none t i = refl

told_some : (t : RowNumbers) (k i : ℕ)
    → tally_with t (suc k) i ≡ cond (eqb t.count 0) (record { number = suc k; offset = 0; count = 1; place = i + 1 }) (record { number = t.number; offset = 0; count = t.count + 1; place = t.place })
unfolding tally_with
told_some t k i = rw (ne_eqb (suc k) 0 (λ q. omega (arith, q)))

-- a tally with one answer more before it
abbrev before : ℕ → RowNumbers → RowNumbers
before zero t = record { number = t.number; offset = t.offset; count = t.count; place = one_on t.place }
before (suc k) t = record { number = suc k; offset = 0; count = suc t.count; place = 1 }

one_before : (k : ℕ) (ks : List ℕ) → numbers_over (k ∷ ks) ≡ before k (numbers_over ks)
unfolding how_many_refused lowest number_there
one_before zero ks = refl
one_before (suc k) ks = refl

one_told : (k : ℕ) → numbers_over (k ∷ []) ≡ tally_with nothing_yet k 0
unfolding how_many_refused lowest number_there
one_told zero = sym (told_none nothing_yet 0)
one_told (suc k) = sym (told_some nothing_yet k 0)

-- one more answer at the end, and one more before
told_before : (k m : ℕ) (t : RowNumbers) (i : ℕ) → before k (tally_with t m i) ≡ tally_with (before k t) m (suc i)
told_before k zero t i = ap (before k) (told_none t i) ∙ sym (told_none (before k t) (suc i))
told_before zero (suc m) t i = rw (told_some t m i, told_some (before zero t) m (suc i)) (at_first (eqb t.count 0))
  where
    at_first : (z : Bool)
        → before zero (cond z (record { number = suc m; offset = 0; count = 1; place = i + 1 }) (record { number = t.number; offset = 0; count = t.count + 1; place = t.place }))
        ≡ cond z (record { number = suc m; offset = 0; count = 1; place = suc i + 1 }) (record { number = t.number; offset = 0; count = t.count + 1; place = one_on t.place })
    at_first true = rw (add-one i, add-one (suc i))
    at_first false = refl
told_before (suc k) (suc m) t i =
    let some : suc t.count ≡ 0 → ⊥ = λ q. omega (arith, q) in
    rw (told_some t m i, told_some (before (suc k) t) m (suc i), ne_eqb (suc t.count) 0 some) (counted (eqb t.count 0) refl)
  where
    counted : (z : Bool) → eqb t.count 0 ≡ z
        → before (suc k) (cond z (record { number = suc m; offset = 0; count = 1; place = i + 1 }) (record { number = t.number; offset = 0; count = t.count + 1; place = t.place }))
        ≡ record { number = suc k; offset = 0; count = suc t.count + 1; place = 1 }
    counted true q = rw (eqb-true t.count 0 q)
    counted false q = rw (add-one t.count, add-one (suc t.count))

-- with none refusing, the place and the number are 0
none_refused : (ks : List ℕ) → how_many_refused ks ≡ 0 → (lowest ks ≡ 0) × (number_there ks ≡ 0)
unfolding how_many_refused lowest number_there
none_refused [] h = (refl, refl)
none_refused (zero ∷ ks) h = let g = none_refused ks h in (rw g.0, g.1)
none_refused (suc k ∷ ks) h = absurd (let f : ⊥ = omega (arith, h) in f)

-- ---- the refusals so far

-- their numbers
abbrev pub tallied : Option RowRefused → RowNumbers
tallied None = nothing_yet
tallied (Some r) = refused_numbers r

-- where some refused, their count is not 0
counted_some : (r : RowRefused) (ks : List ℕ) → refused_numbers r ≡ numbers_over ks → r.count ≡ 0 → ⊥
counted_some r ks h z =
    let n = (none_refused ks (sym (ap (λ (n : RowNumbers). n.count) h) ∙ z)).1 in
    false≢true (sym (numbered r.reason) ∙ eq-eqb (refusal_number r.reason) 0 (ap (λ (n : RowNumbers). n.number) h ∙ n))

-- the refusals with one more answer
abbrev pub with_answer : Option RowRefused → Result Unit Refusal → ℕ → Option RowRefused
with_answer refused (Ok u) i = refused
with_answer refused (Err k) i = Some (one_refused refused i k)

pub told_answer : (refused : Option RowRefused) (a : Result Unit Refusal) (i : ℕ) (ks : List ℕ) → tallied refused ≡ numbers_over ks
    → tallied (with_answer refused a i) ≡ tally_with (tallied refused) (number_given a) i
unfolding tally_with
told_answer refused (Ok u) i ks h = refl
told_answer None (Err k) i ks h = rw (numbered k) refl
told_answer (Some r) (Err k) i ks h = rw (numbered k, ne_eqb r.count 0 (counted_some r ks h)) refl

-- the answer that gives some numbers
exact_by : (r : Result Unit RowRefusal) (ks : List ℕ) → row_answer_is r ≡ numbers_over ks → r ≡ row_answer_by (numbers_over ks)
exact_by (Ok u) ks h = ap row_answer_by h
exact_by (Err TooLong) ks h = ap row_answer_by h
exact_by (Err (Refused r)) ks h =
    let q : ◌≡◌ {A = Result Unit RowRefusal} (Err (Refused r)) (row_answer_by (refused_numbers r)) = rw (numbered r.reason, ne_eqb r.count 0 (counted_some r ks h), reason_numbered r.reason) refl in
    q ∙ ap row_answer_by h

-- what a call answers, by the refusals of the whole row
abbrev pub answer_of : Option RowRefused → Result Unit RowRefusal
answer_of None = Ok tt
answer_of (Some r) = Err (Refused r)

answer_numbers : (refused : Option RowRefused) → row_answer_is (answer_of refused) ≡ tallied refused
answer_numbers None = refl
answer_numbers (Some r) = refl

-- ---- the row and the tally after i turns

module _ {K : Type 0} (alone : K → Alone K) where
  abbrev numbers : List K → List ℕ
  numbers row = map (λ s. (alone s).number) row

  abbrev pub up_to : ℕ → List K → List K
  up_to zero row = row
  up_to (suc i) [] = []
  up_to (suc i) (s ∷ row) = (alone s).after ∷ up_to i row

  abbrev pub tally_to : ℕ → List K → RowNumbers
  tally_to i row = numbers_over (numbers (take i row))

  pub up_to_length : (i : ℕ) (row : List K) → length (up_to i row) ≡ length row
  up_to_length zero row = refl
  up_to_length (suc i) [] = refl
  up_to_length (suc i) (s ∷ row) = ap suc (up_to_length i row)

  -- one more turn. `past` is what lies past the end, for `get_or`
  module _ (past : K) where
    pub up_to_get : (i : ℕ) (row : List K) → get_or (up_to i row) i past ≡ get_or row i past
    up_to_get zero row = refl
    up_to_get (suc i) [] = refl
    up_to_get (suc i) (s ∷ row) = up_to_get i row

    pub up_to_set : (i : ℕ) (row : List K) → i < length row → set (up_to i row) i (alone (get_or (up_to i row) i past)).after ≡ up_to (suc i) row
    up_to_set i row h = ap (λ (s : K). set (up_to i row) i (alone s).after) (up_to_get i row) ∙ put i row h
      where
        put : (i : ℕ) (row : List K) → i < length row → set (up_to i row) i (alone (get_or row i past)).after ≡ up_to (suc i) row
        put i [] h = absurd (not-suc-le-zero h)
        put zero (s ∷ row) h = refl
        put (suc i) (s ∷ row) h = ap {B = List K} (λ l. (alone s).after ∷ l) (put i row (le_of_suc-le-suc h))

    pub tally_next : (i : ℕ) (row : List K) → i < length row → tally_with (tally_to i row) (alone (get_or (up_to i row) i past)).number i ≡ tally_to (suc i) row
    unfolding how_many_refused lowest number_there
    tally_next i row h = ap (λ (s : K). tally_with (tally_to i row) (alone s).number i) (up_to_get i row) ∙ sym (next i row h)
      where
        next : (i : ℕ) (row : List K) → i < length row → tally_to (suc i) row ≡ tally_with (tally_to i row) (alone (get_or row i past)).number i
        next i [] h = absurd (not-suc-le-zero h)
        next zero (s ∷ row) h = one_told (alone s).number
        next (suc i) (s ∷ row) h =
            one_before (alone s).number (numbers (take (suc i) row))
            ∙ ap (before (alone s).number) (next i row (le_of_suc-le-suc h))
            ∙ told_before (alone s).number (alone (get_or row i past)).number (tally_to i row) i
            ∙ ap (λ (t : RowNumbers). tally_with t (alone (get_or row i past)).number (suc i)) (sym (one_before (alone s).number (numbers (take i row))))

  up_to_all : (row : List K) → up_to (length row) row ≡ map (λ s. (alone s).after) row
  up_to_all [] = refl
  up_to_all (s ∷ row) = ap {B = List K} (λ l. (alone s).after ∷ l) (up_to_all row)

  -- after the last turn; and a row that is too long
  pub all_taken : (row : List K) → length row ≤ most → RowTaken alone row (tally_to (length row) row) (up_to (length row) row)
  all_taken row h = record { numbers = rw (le-leb (length row) most h, take-length row); sessions = rw (le-leb (length row) most h) (up_to_all row) }

  pub none_taken : (row : List K) → most < length row → RowTaken alone row too_many row
  none_taken row h = record { numbers = rw (lt-leb (length row) most h); sessions = rw (lt-leb (length row) most h) }

-- ---- the answer of a call

module _ {K : Type 0} (alone : K → Alone K) (row : List K) where
  pub all_answered : length row ≤ most → (refused : Option RowRefused) → tallied refused ≡ tally_to alone (length row) row
      → RowAnswered alone row (answer_of refused) (up_to alone (length row) row)
  all_answered h refused told =
      let all = all_taken alone row h in
      let numbers = answer_numbers refused ∙ told in
      record {
        taken = record { numbers = numbers ∙ all.numbers; sessions = all.sessions };
        exact = exact_by (answer_of refused) _ numbers ∙ ap row_answer_by all.numbers;
      }

  pub none_answered : most < length row → RowAnswered alone row (Err TooLong) row
  none_answered h = let none = none_taken alone row h in record { taken = none; exact = ap row_answer_by none.numbers }
