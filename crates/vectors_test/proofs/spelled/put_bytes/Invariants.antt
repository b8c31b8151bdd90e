-- `vectors_test::spelled::put_bytes` is safe and ends. The loop stays within the buffer and keeps its length.
use Rattle.std.proofs.Common.{◌≡◌, ◌≤◌, length}
use Rattle.vectors_test.proofs.spelled.put_bytes.Given as goal

abbrev pub invariant-loop-digits : goal.invariant-loop-digits
invariant-loop-digits l = (l.n ≤ length l.out) × (length l.out ≡ length l.initial.out)
