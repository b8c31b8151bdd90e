-- How long a line is at most: the number of a refusal has three figures.
use Prim.Native.Nat.{ℕ, zero, suc, ◌+◌, ◌*◌, ◌/◌, ◌<◌, ◌≤◌}
use native.Mathlib.Nat.{not-suc-le-zero, le_of_suc-le-suc}
use native.Mathlib.Omega.{arith}
use mathlib.Core.Path.{◌≡◌, refl, ap₂}
use mathlib.Core.List.{List, [], ◌∷◌}
use lib.Dec.{ltb}
use lib.ListN.{length, length-append, get_or}
use borrow.Author.Tests.{lt-ltb}
use Rattle.event.specs.declared.refusal.Refusal.{Refusal}
use Rattle.event.specs.Refusals.{refusal_number}
use Rattle.event.proofs.Refusals.{number_fits}
use Rattle.event.proofs.Tests.{by_test}
use Rattle.page.specs.declared.Page.{Page}
use Rattle.page.specs.Text.{figures, decimal}
use Rattle.page.specs.Page.{empty_page, onto}
use Rattle.page.proofs.Onto.{onward}
use Rattle.listing_text.specs.Text.{pattern_refusal_line}
use Rattle.page.proofs.Lengths.{number}
use Rattle.session.specs.declared.Session.{Session}
use Rattle.std.specs.Prelude.{Option, Some, None}
use Rattle.row_pass.specs.Passing.{past_session}
use Rattle.listings_text.specs.Lines.{Finding, End, found_line, line_of, line_width, end_width, past_entry, lines_before}

-- ten times as much, one figure more
one_more : (w m : ℕ) → 1 ≤ w → ((left n : ℕ) → n < m → length (figures left n) ≤ w) → (left n : ℕ) → n < 10 * m → length (figures left n) ≤ w + 1
unfolding figures
one_more w m s few zero n h = omega arith
one_more w m s few (suc left) n h =
    by_test (ltb n 10)
    (λ q. rw q (omega arith))
    (λ q. rw q (rw length-append (let g : length (figures left (n / 10)) ≤ w = few left (n / 10) (omega arith) in omega arith)))

one_figure : (left n : ℕ) → n < 10 → length (figures left n) ≤ 1
unfolding figures
one_figure zero n h = omega arith
one_figure (suc left) n h = rw (lt-ltb n 10 h) (omega arith)

pub pattern_refusal : (r : Refusal) (o : ℕ) → length (pattern_refusal_line (refusal_number r) o) ≤ end_width
pattern_refusal r o =
    let k = refusal_number r in
    let h = number_fits r in
    let a : length (decimal k) ≤ 3 = one_more 2 100 (omega arith) (one_more 1 10 (omega arith) one_figure) 20 k (omega arith) in
    let b : length (decimal o) ≤ 20 = number o in
    simp length-append (omega arith)

pub found : (f : Option ℕ) → length (found_line f) ≤ end_width
found (Some n) = let d : length (decimal n) ≤ 20 = number n in simp length-append (omega arith)
found None = omega arith

-- ---- one line more

any_default : {A : Type 0} (l : List A) (k : ℕ) (d e : A) → k < length l → get_or l k d ≡ get_or l k e
any_default [] k d e h = absurd (not-suc-le-zero h)
any_default (a ∷ l) zero d e h = refl
any_default (a ∷ l) (suc k) d e h = any_default l k d e (le_of_suc-le-suc h)

-- a page with the lines before k, and the line of k put onto it, whatever would lie past the end of the arrays
module _ (end : End) (entries : List Finding) (sessions : List Session) (k : ℕ) (x : Finding) (s : Session) (in-entries : k < length entries) (in-sessions : k < length sessions) (p q : Page)
    (before : p ≡ onto empty_page (lines_before end entries sessions k)) (low : length (lines_before end entries sessions k) ≤ line_width * k)
    (put : q ≡ onto p (line_of end (suc k) (get_or entries k x) (get_or sessions k s))) (short : length (line_of end (suc k) (get_or entries k x) (get_or sessions k s)) ≤ line_width) where
  same_line : line_of end (suc k) (get_or entries k x) (get_or sessions k s) ≡ line_of end (suc k) (get_or entries k past_entry) (get_or sessions k past_session)
  same_line = ap₂ (λ (e : Finding) (t : Session). line_of end (suc k) e t) (any_default entries k x past_entry in-entries) (any_default sessions k s past_session in-sessions)

  pub next_line : (q ≡ onto empty_page (lines_before end entries sessions (suc k))) × (length (lines_before end entries sessions (suc k)) ≤ line_width * suc k)
  unfolding lines_before
  next_line = (onward _ _ _ _ _ before (rw same_line at put), rw length-append (let l = rw same_line at short in omega (arith, low, l)))
