-- A page has room for every listing: no number has more than 20 figures, and there are 5 slots at most.
use Prim.Native.Nat.{ℕ, ◌+◌, ◌*◌, ◌≤◌}
use native.Mathlib.Omega.{arith}
use mathlib.Core.List.{List, [], ◌∷◌}
use lib.Dec.{eqb}
use lib.IntN.{ℤ}
use lib.ListN.{length, length-append}
use Rattle.event.specs.declared.Event.{Event}
use Rattle.event.specs.declared.Operation.{Operation}
use Rattle.event.specs.declared.Operation.TheVariants.{Read, Write, Acquire, Release, Fork, Join, Mark}
use Rattle.event.proofs.Tests.{by_test}
use Rattle.height.specs.declared.Metres.{Metres}
use Rattle.height.specs.Rounding.{metres_of}
use Rattle.std.specs.Prelude.{Option, Some, None}
use Rattle.event_log.specs.Number.{nth_event}
use Rattle.page.specs.Text.{ascii, decimal}
use Rattle.page.specs.Lines.{refusal_line}
use Rattle.page.specs.Page.{room}
use Rattle.page.proofs.Lengths.{number, refusal}
use Rattle.listing_text.specs.Text.{metres_text, height_text, operation_text, slot_text, slot_line, pattern_refusal_line}
use Rattle.listing_text.specs.OutcomeText.{lines_of, found_text}

metres : (m : Metres) → length (metres_text m) ≤ 42
metres m =
    let w : length (decimal m.whole) ≤ 20 = number m.whole in
    let t : length (decimal m.tenth) ≤ 20 = number m.tenth in
    by_test m.below (λ q. rw q (simp length-append (omega arith))) (λ q. rw q (simp length-append (omega arith)))

height : (mm : ℤ) → length (height_text mm) ≤ 42
unfolding height_text
height mm = metres (metres_of mm)

operation : (op : Operation) → length (operation_text op) ≤ 69
operation (Read v) = let d : length (decimal v) ≤ 20 = number v in simp length-append (omega arith)
operation (Write v mm) = let d : length (decimal v) ≤ 20 = number v in let h : length (height_text mm) ≤ 42 = height mm in simp length-append (omega arith)
operation (Acquire l) = let d : length (decimal l) ≤ 20 = number l in simp length-append (omega arith)
operation (Release l) = let d : length (decimal l) ≤ 20 = number l in simp length-append (omega arith)
operation (Fork c) = let d : length (decimal c) ≤ 20 = number c in simp length-append (omega arith)
operation (Join c) = let d : length (decimal c) ≤ 20 = number c in simp length-append (omega arith)
operation (Mark m) = let d : length (decimal m) ≤ 20 = number m in simp length-append (omega arith)

pub slot_text_lem : (slot n : ℕ) (e : Event) → length (slot_text slot n e) ≤ 145
slot_text_lem slot n e =
    let a : length (decimal slot) ≤ 20 = number slot in
    let b : length (decimal n) ≤ 20 = number n in
    let c : length (decimal e.thread) ≤ 20 = number e.thread in
    let d : length (operation_text e.operation) ≤ 69 = operation e.operation in
    simp length-append (omega arith)

line : (slot n : ℕ) (e : Event) → length (slot_line slot n e) ≤ 146
line slot n e = let h : length (slot_text slot n e) ≤ 145 = slot_text_lem slot n e in omega (arith, length-append (slot_text slot n e) (ascii "\n"))

pub lines : (bytes : List ℕ) (slot : ℕ) (ns : List ℕ) → length (lines_of bytes slot ns) ≤ 146 * length ns
unfolding lines_of
lines bytes slot [] = omega arith
lines bytes slot (n ∷ ns) =
    let l : length (slot_line slot n (nth_event n bytes 0)) ≤ 146 = line slot n (nth_event n bytes 0) in
    let m : length (lines_of bytes (slot + 1) ns) ≤ 146 * length ns = lines bytes (slot + 1) ns in
    by_test (eqb n 0) (λ q. rw q (omega arith)) (λ q. rw q (rw length-append (omega arith)))

-- each text fits a page
pub found_fits : (bytes : List ℕ) (f : Option ℕ) (numbers : List ℕ) → length numbers ≤ 5 → length (found_text bytes f numbers) ≤ room
found_fits bytes (Some n) numbers h =
    let a : length (decimal n) ≤ 20 = number n in
    let b : length (lines_of bytes 1 numbers) ≤ 146 * length numbers = lines bytes 1 numbers in
    simp length-append (omega arith)
found_fits bytes None numbers h = omega arith

pub pattern_refused_fits : (k o : ℕ) → length (pattern_refusal_line k o) ≤ room
pattern_refused_fits k o = let r : length (refusal_line k o) ≤ 53 = refusal k o in rw length-append (omega arith)

pub refused_fits : (k o : ℕ) → length (refusal_line k o) ≤ room
refused_fits k o = let r : length (refusal_line k o) ≤ 53 = refusal k o in omega arith
