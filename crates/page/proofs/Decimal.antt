-- A number's figures: the library prints the same, and how many bytes they are.
use Prim.Native.Nat.{ℕ, zero, suc, ◌^◌, ◌/◌, ◌<◌, ◌≤◌}
use native.Mathlib.Omega.{arith}
use mathlib.Core.Path.{◌≡◌, refl, sym}
use lib.Dec.{ltb}
use lib.ListN.{length, length-append}
use borrow.Author.Tests.{lt-ltb, le-ltb}
use Rattle.std.proofs.lemmas.Fmt.{AppendsLastDigit, decimal_from_appends, length-decimal-le}
use Rattle.std.specs.Prelude.{decimal as printed}
use Rattle.event.proofs.Tests.{by_test}
use Rattle.page.specs.Text.{figures, decimal}

figure_by_figure : AppendsLastDigit figures
unfolding figures
figure_by_figure = record { one = λ k n h. rw (lt-ltb n 10 h) refl; more = λ k n h. rw (le-ltb n 10 h) refl }

pub as_printed : (n : ℕ) → n < 2 ^ 64 → printed n ≡ decimal n
as_printed n h = sym (decimal_from_appends figures figure_by_figure 20 n h (length-decimal-le 20 n (omega arith) (omega arith) h))

pub few_figures : (left n : ℕ) → length (figures left n) ≤ left
unfolding figures
few_figures zero n = omega arith
few_figures (suc left) n =
    let ih : length (figures left (n / 10)) ≤ left = few_figures left (n / 10) in
    by_test (ltb n 10) (λ q. rw q (omega arith)) (λ q. rw q (rw length-append (omega arith)))
