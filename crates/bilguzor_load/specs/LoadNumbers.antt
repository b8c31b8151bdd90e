-- What writing a load answers, in numbers.
use Rattle.writer.specs.Writing.{Writing, written, refused}
use Rattle.bilguzor_load.specs.declared.Load.{Load}

-- number 0 where the log is written; after a refusal "other fields 0"
abbrev pub load_numbers : Writing → Load
load_numbers (written n) = record { number = 0; offset = 0; length = n }
load_numbers (refused k o) = record { number = k; offset = o; length = 0 }
