-- An order with one number raised is the order after it.
use Prim.Native.Nat.{ℕ, ◌+◌, ◌<◌}
use mathlib.Core.Path.{◌≡◌, refl, sym, ap, subst, ◌∙◌}
use mathlib.Core.Bool.{Bool}
use mathlib.Core.Option.{some, none}
use mathlib.Core.List.{List, [], ◌∷◌, ◌++◌}
use native.Mathlib.Omega.{arith}
use lib.ListN.{length, get_or, take, drop, length-append, take-append-drop}
use lib.Seq.{length-take-le}
use Rattle.std.specs.Prelude.{Some}
use Rattle.trace.proofs.Lists.{filter}
use Rattle.trace.proofs.Runs.{run}
use Rattle.enumeration.specs.Orders.{NextAmong, next}
use Rattle.enumeration.specs.Computed.{refill, raising, with_raised, next_order}
use Rattle.enumeration.proofs.Successor.{OrderOf, next_run, next_behind, next_raised}
use Rattle.enumeration.proofs.OrderLists.{order_length}
use Rattle.order_rows.specs.Rows.{least_of}
use Rattle.order_rows.proofs.Walks.{drop_step}

module _ (dep : ℕ → ℕ → Bool) (o : List ℕ) (p : ℕ) (l : p < length o) (over : next_order (length o) dep (drop (p + 1) o) ≡ none) where
  -- to what the number at the place can be raised
  abbrev choices : List ℕ
  choices = filter (raising dep (get_or o p 0) (drop p o)) (run 1 (length o))

  next_here : next_order (length o) dep (drop p o) ≡ with_raised (length o) dep (drop p o) choices
  next_here =
      subst
      (λ xs. next_order (length o) dep xs ≡ with_raised (length o) dep xs (filter (raising dep (get_or o p 0) xs) (run 1 (length o))))
      (sym (drop_step o p l))
      (next_raised (length o) dep (get_or o p 0) (drop (p + 1) o) over)

  -- to the first of them
  raised_here : (cs : List ℕ) → choices ≡ cs → (z : ℕ) → Some z ≡ least_of cs → next_order (length o) dep (drop p o) ≡ some (z ∷ refill (length o) (drop p o) z)
  raised_here [] e z f = absurd (let h : ⊥ = cc in h)
  raised_here (c ∷ cs) e z f = let g : z ≡ c = cc in next_here ∙ ap (with_raised (length o) dep (drop p o)) e ∙ rw g

  module _ (z : ℕ) (least : Some z ≡ least_of choices) where
    pub next_whole : next_order (length o) dep o ≡ some (take p o ++ (z ∷ refill (length o) (drop p o) z))
    next_whole =
        subst (λ xs. next_order (length o) dep xs ≡ some (take p o ++ (z ∷ refill (length o) (drop p o) z))) (take-append-drop p o)
        (next_behind (length o) dep (take p o) (drop p o) (raised_here choices refl z least))

    -- the numbers that remain fill the row
    pub fits_behind : OrderOf dep (run 1 (length o)) o → p + 1 + length (refill (length o) (drop p o) z) ≡ length o
    fits_behind order =
        let h = go (rw next_whole at (next_run (length o) dep o order)) in
        let q = rw (length-append, length-take-le p o (omega arith)) at h in
        omega arith
      where
        go : {q : List ℕ} → NextAmong (OrderOf dep (run 1 (length o))) o (some q) → length q ≡ length o
        go {q} (next g s smallest) = order_length (length o) dep q g
