-- A page has room for every line of the program `load`.
use Prim.Native.Nat.{◌≤◌}
use native.Mathlib.Omega.{arith}
use Rattle.std.specs.Prelude.{Option, Some, None}
use lib.ListN.{length, length-append}
use Rattle.writer.specs.Writing.{Writing, written, refused}
use Rattle.page.specs.Text.{decimal}
use Rattle.page.specs.Page.{room}
use Rattle.page.specs.Lines.{refusal_line}
use Rattle.page.proofs.Lengths.{number, refusal}
use Rattle.load_text.specs.LoadText.{load_line}

pub fits_a_page : (w : Option Writing) → length (load_line w) ≤ room
fits_a_page (Some (written n)) = let l : length (decimal n) ≤ 20 = number n in simp length-append (omega arith)
fits_a_page (Some (refused k o)) = let r : length (refusal_line k o) ≤ 53 = refusal k o in omega arith
fits_a_page None = omega arith
