-- What stands in each entry of a stamp that was heard, and of clocks that were told.
-- Assumes nothing.
use Prim.Native.Nat.{ℕ, ◌+◌, ◌*◌, ◌≤◌, ◌<◌, max}
use mathlib.Core.Path.{◌≡◌, refl, ap, ◌∙◌}
use mathlib.Core.Bool.{Bool, true, false, cond, ◌||◌}
use mathlib.Core.List.{List}
use native.Mathlib.Nat.{zero-add}
use native.Mathlib.Omega.{arith}
use lib.Dec.{eqb}
use lib.ListN.{length, get_or, length-replicate, get_or-replicate}
use borrow.Author.Tests.{eqb-true, eqb-false}
use Rattle.event.specs.Limits.{threads}
use Rattle.event.proofs.Tests.{by_test}
use Rattle.event.proofs.Updated.{updated_length, updated_outside, updated_inside, updated_first}
use Rattle.trace.proofs.Tallies.{raise}
use Rattle.dependence.specs.Channels.{thread}
use Rattle.clock.specs.declared.Rows.{Rows}
use Rattle.clock.specs.declared.Stamp.{Stamp}
use Rattle.clock.specs.Rows.{row_of}
use Rattle.clock.specs.Clocks.{raised, heard_from, told_to, up, no_stamp, heard, told}

-- ---- the entries of a stamp

-- the highest count of u in the own row and in two more
abbrev pub highest_of : List ℕ → ℕ → Rows → ℕ → ℕ
highest_of clocks t r u = max (max (get_or clocks (row_of (thread t) + u) 0) (get_or clocks (r.first + u) 0)) (get_or clocks (r.second + u) 0)

pub heard_length : (s : Stamp) (clocks : List ℕ) (f : ℕ) → length s.at ≡ threads → length (heard_from s clocks f).at ≡ threads
unfolding raised
heard_length s clocks f whole = rw updated_length whole

pub heard_from_lem : (s : Stamp) (clocks : List ℕ) (f u : ℕ) → length s.at ≡ threads → u < threads
    → get_or (heard_from s clocks f).at u 0 ≡ max (get_or s.at u 0) (get_or clocks (f + u) 0)
unfolding raised
heard_from_lem s clocks f u whole low = updated_first 0 (λ i x. max x (get_or clocks (f + i) 0)) s.at threads u low (omega arith)

-- one more of the own thread
pub heard_entry : (clocks : List ℕ) (t : ℕ) (r : Rows) (u : ℕ) → u < threads
    → get_or (heard clocks t r).at u 0 ≡ cond (eqb t u) (up (highest_of clocks t r u)) (highest_of clocks t r u)
unfolding heard
heard_entry clocks t r u low =
    let whole = heard_length both clocks r.second both_whole in
    updated_first 0 (λ v x. cond (eqb t v) (up x) x) all.at threads u low (omega arith)
    ∙ ap (λ (x : ℕ). cond (eqb t u) (up x) x)
    (heard_from_lem both clocks r.second u both_whole low
    ∙ ap (λ (x : ℕ). max x (get_or clocks (r.second + u) 0))
    (heard_from_lem own clocks r.first u own_whole low ∙ ap (λ (x : ℕ). max x (get_or clocks (r.first + u) 0)) own_entry))
  where
    own : Stamp
    own = heard_from no_stamp clocks (row_of (thread t))

    both : Stamp
    both = heard_from own clocks r.first

    all : Stamp
    all = heard_from both clocks r.second

    none_whole : length no_stamp.at ≡ threads
    none_whole = length-replicate {A = ℕ} threads 0

    own_whole : length own.at ≡ threads
    own_whole = heard_length no_stamp clocks (row_of (thread t)) none_whole

    both_whole : length both.at ≡ threads
    both_whole = heard_length own clocks r.first own_whole

    zero_max : (n : ℕ) → max 0 n ≡ n
    zero_max n = omega arith

    own_entry : get_or own.at u 0 ≡ get_or clocks (row_of (thread t) + u) 0
    own_entry =
        heard_from_lem no_stamp clocks (row_of (thread t)) u none_whole low
        ∙ ap (λ (x : ℕ). max x (get_or clocks (row_of (thread t) + u) 0)) (get_or-replicate {A = ℕ} threads u 0 0 low)
        ∙ zero_max (get_or clocks (row_of (thread t) + u) 0)

-- ---- the entries of the clocks

-- a row is raised to the stamp, and the others stay
row_told : (xs : List ℕ) (s : Stamp) (a b u : ℕ) → u < threads → a * threads + threads ≤ length xs
    → get_or (told_to xs (a * threads) s) (b * threads + u) 0 ≡ raise (eqb a b) (get_or s.at u 0) (get_or xs (b * threads + u) 0)
unfolding raised
row_told xs s a b u low fits =
    by_test (eqb a b)
    (λ q.
    let p : a ≡ b = eqb-true a b q in
    rw (q, p) (rw zero-add at (updated_inside 0 raising xs (b * threads) threads u low (rw p at fits)) ∙ max_turn _ _))
    (λ q. rw q (updated_outside 0 raising xs (a * threads) threads (b * threads + u) (λ i l e. eqb-false a b q (omega arith))))
  where
    raising : ℕ → ℕ → ℕ
    raising i x = max x (get_or s.at (0 + i) 0)

    max_turn : (m n : ℕ) → max m n ≡ max n m
    max_turn m n = omega arith

-- two rows, one after the other
pub told_entry : (clocks : List ℕ) (t : ℕ) (r : Rows) (s : Stamp) (d b u : ℕ) → r.told ≡ d * threads → u < threads
    → t * threads + threads ≤ length clocks → d * threads + threads ≤ length clocks
    → get_or (told clocks t r s) (b * threads + u) 0
    ≡ raise (eqb d b || eqb t b) (get_or s.at u 0) (get_or clocks (b * threads + u) 0)
unfolding told raised
told_entry clocks t r s d b u p low fits fits' =
    rw p
    (row_told (told_to clocks (d * threads) s) s t b u low (rw updated_length fits)
    ∙ ap (raise (eqb t b) (get_or s.at u 0)) (row_told clocks s d b u low fits')
    ∙ raise_twice (eqb d b) (eqb t b) (get_or s.at u 0) (get_or clocks (b * threads + u) 0))
  where
    raise_twice : (p q : Bool) (m n : ℕ) → raise q m (raise p m n) ≡ raise (p || q) m n
    raise_twice true true m n = omega arith
    raise_twice true false m n = refl
    raise_twice false q m n = refl
