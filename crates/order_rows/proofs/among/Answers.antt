use mathlib.Core.Path.{◌≡◌}
use mathlib.Core.Bool.{true, false}
use lib.Dec.{ltb}
use borrow.Author.Tests.{lt-ltb}
use Rattle.std.proofs.lemmas.Bool.{le-ltb}
use Rattle.order_rows.proofs.Searches.{among_is}
use Rattle.order_rows.proofs.among.Goals as goal

pub returns-then-k-gt0 : goal.returns-then-k-gt0
returns-then-k-gt0 c = let a = c.args in
    let h : ltb 0 a.k ≡ true = lt-ltb 0 a.k c.if-k-gt0.true in
    rw h at (among_is a.n a.k)

pub returns-else-k-gt0 : goal.returns-else-k-gt0
returns-else-k-gt0 c = let a = c.args in
    let h : ltb 0 a.k ≡ false = le-ltb 0 a.k c.if-k-gt0.false in
    rw h (rw h at (among_is a.n a.k))
