-- A page has room for every answer's line.
use Prim.Native.Nat.{◌≤◌}
use native.Mathlib.Omega.{arith}
use lib.ListN.{length}
use Rattle.page.specs.Page.{room}
use Rattle.page.specs.Lines.{refusal_line}
use Rattle.page.proofs.Lengths.{refusal}
use Rattle.relation.specs.declared.Relation.TheVariants.{Same, Before, After, Free}
use Rattle.order_query.specs.Query.{OrderAnswer, related, log_refused, query_refused}
use Rattle.order_text.specs.OrderText.{answer_line}

pub fits_a_page : (a : OrderAnswer) → length (answer_line a) ≤ room
fits_a_page (related Same) = omega arith
fits_a_page (related Before) = omega arith
fits_a_page (related After) = omega arith
fits_a_page (related Free) = omega arith
fits_a_page (log_refused k o) = let r : length (refusal_line k o) ≤ 53 = refusal k o in omega arith
fits_a_page (query_refused k o) = let r : length (refusal_line k o) ≤ 53 = refusal k o in omega arith
