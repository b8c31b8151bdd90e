use Rattle.std.proofs.Common.{List, ℕ, [], refl, arith}
use Rattle.files.specs.Paths.{Starts}
use Rattle.files.proofs.spare_name.Goals as goal

none : (path : List ℕ) → Starts [] path 0
none path = record { is = λ h. refl; long = λ h. absurd (omega arith) }

-- the figures are put behind the dot, which is put behind the name
pub returns : goal.returns
returns c =
    let digits = c.decimal-n in
    let name = c.append-dot.ensures.starts _ (none _) in
    let dot = c.append-number.ensures.starts _ name in
    let number = c.append.ensures in
    record { counts = number.counts; places = digits.result; fewest = digits.ensures.len; starts = rw digits.ensures.digits at (number.starts _ dot) }
