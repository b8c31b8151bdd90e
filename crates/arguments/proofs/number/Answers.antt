use Rattle.arguments.proofs.Reading.{nothing_read}
use Rattle.arguments.proofs.number.Goals as goal

pub loop-byte-init : goal.loop-byte-init
loop-byte-init c = nothing_read _
