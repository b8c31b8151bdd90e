use Rattle.arguments.proofs.Reading.{ReadTo}
use Rattle.arguments.proofs.number.Given as goal

abbrev pub invariant-loop-byte : goal.invariant-loop-byte
invariant-loop-byte l = ReadTo l.bytes l.byte-index l.value
