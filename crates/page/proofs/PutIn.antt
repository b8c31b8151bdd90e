-- A text put in a lent buffer, from a page that holds it.
use Prim.Native.Nat.{ℕ}
use mathlib.Core.Path.{◌≡◌}
use mathlib.Core.List.{List}
use Rattle.std.specs.Prelude.{Result}
use Rattle.event.specs.declared.refusal.Refused.{Refused}
use Rattle.writer.specs.Writing.{written_is, writing, buffer_after}
use Rattle.page.specs.declared.Page.{Page}
use Rattle.page.specs.Page.{empty_page, Adds, held, PutIn}
use Rattle.page.proofs.Onto.{holding}

module _ {Kind : List ℕ → Type 0} {before after : List ℕ} {r : Result ℕ Refused} where
  pub put_in : {p : Page} → Adds Kind empty_page p → (written_is r ≡ writing 0 (held p) before 0) × (after ≡ buffer_after 0 (held p) before 0) → PutIn Kind before after r
  put_in {p} a d =
      let g : held p ≡ a.text = holding a.text p a.short a.page in
      record { text = a.text; kind = a.kind; short = a.short; answer = rw g at d.0; buffer = rw g at d.1 }
