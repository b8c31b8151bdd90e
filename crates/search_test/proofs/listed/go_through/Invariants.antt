-- An order that is given has eight places.
use mathlib.Core.Path.{◌≡◌}
use lib.ListN.{length}
use Rattle.std.specs.Option.{IfSome}
use Rattle.std.specs.Result.{IfOk}
use Rattle.search_test.proofs.listed.go_through.Given as goal

abbrev pub invariant-loop : goal.invariant-loop
invariant-loop l = IfOk l.given (λ o. IfSome o (λ row. length row ≡ 8))
