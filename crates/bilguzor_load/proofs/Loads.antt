-- "The log is always accepted, and equals this rule event by event", of the exported call: where its contract holds of an answer and the buffer afterwards, and
-- the number is 0, the load stands at the start of the buffer.
use Prim.Native.Nat.{ℕ}
use mathlib.Core.Path.{◌≡◌, refl}
use mathlib.Core.List.{List}
use lib.ListN.{take}
use Rattle.writer.specs.Writing.{Writing, written, refused}
use Rattle.load_log.specs.Load.{IsLoad, loading, loaded}
use Rattle.load_log.proofs.Answers.{written_load, refused_numbered}
use Rattle.bilguzor_load.specs.declared.Load.{Load}
use Rattle.bilguzor_load.specs.LoadNumbers.{load_numbers}

pub every_load : (seed count : ℕ) (before after : List ℕ) (r : Load) → r ≡ load_numbers (loading seed count before) → after ≡ loaded seed count before
    → r.number ≡ 0 → IsLoad seed count (take r.length after)
every_load seed count before after r p q z = rw (p, q) (by_answer (loading seed count before) refl (rw p at z))
  where
    by_answer : (w : Writing) → loading seed count before ≡ w → (load_numbers w).number ≡ 0 → IsLoad seed count (take (load_numbers w).length (loaded seed count before))
    by_answer (written n) e z = written_load seed count before e
    by_answer (refused k o) e z = absurd (refused_numbered seed count before e z)
