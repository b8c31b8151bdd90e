-- "Starting from the first, every order reachable by swaps is given, each exactly once", of the exported calls: where their contracts hold of their answers.
use Prim.Native.Nat.{ℕ, suc, ◌<◌, ◌≤◌}
use native.Mathlib.Omega.{arith}
use mathlib.Core.Path.{◌≡◌, refl, sym, ap, subst, ◌∙◌}
use mathlib.Core.List.{List}
use lib.ListN.{length}
use Rattle.event.specs.declared.Event.{Event}
use Rattle.trace.specs.First.{Smaller}
use Rattle.event_log.specs.Whole.{read_log, accepted}
use Rattle.order_rows.specs.Rows.{order_places, order_row}
use Rattle.orders_log.specs.OrderCalls.{Giving, order, last, log_refused, orders_refused, NextGives, SaysSo, Called, first_call, next_call, GivesEveryOrder}
use Rattle.orders_log.proofs.EveryOrder.{row_one, every_order}
use Rattle.orders_log.proofs.Rising.{row_rises}
use Rattle.bilguzor_orders.specs.declared.OrderRow.{OrderRow}
use Rattle.bilguzor_orders.specs.OrderNumbers.{order_numbers, Answered, first_answer, next_answer, AnswersEveryOrder}

-- the kind of an order is that of no other answer
of_kind_lem : (a : Giving) → (order_numbers a).kind ≡ 9 → (o : List ℕ) × (a ≡ order o)
of_kind_lem (order o) t = (o, refl)
of_kind_lem last t = absurd (let z : ◌≡◌ {A = ℕ} 10 9 = t in let f : ⊥ = omega arith in f)
of_kind_lem (log_refused k o) t = absurd (let z : ◌≡◌ {A = ℕ} 3 9 = t in let f : ⊥ = omega arith in f)
of_kind_lem (orders_refused k o) t = absurd (let z : ◌≡◌ {A = ℕ} 4 9 = t in let f : ⊥ = omega arith in f)

module _ (bytes : List ℕ) where
  -- what an answer says
  abbrev Said : ℕ → OrderRow → Type 0
  Said k r = (a : Giving) × Called bytes k a × (r ≡ order_numbers a)

  -- of an order
  abbrev SaidOrder : ℕ → OrderRow → Type 0
  SaidOrder k r = (o : List ℕ) × Called bytes k (order o) × (r.events ≡ order_row o)

  said_order : {k : ℕ} {r : OrderRow} → Said k r → r.kind ≡ 9 → SaidOrder k r
  said_order {k} (a, c, e) t =
      let f = of_kind_lem a (sym (ap (λ (x : OrderRow). x.kind) e) ∙ t) in
      (f.0, subst (Called bytes k) f.1 c, ap (λ (x : OrderRow). x.events) e ∙ ap (λ b. (order_numbers b).events) f.1)

  said_next : {k : ℕ} (r : OrderRow) {s : OrderRow} → SaidOrder k r → SaysSo order_numbers (NextGives bytes r.events) s → Said (suc k) s
  said_next r {s} (o, c, e) n =
      let m = subst (λ x. SaysSo order_numbers (NextGives bytes x) s) e n in
      (m.what, next_call c m.so, m.answer)

  said : {k : ℕ} {r : OrderRow} → Answered bytes k r → Said k r
  said (first_answer s) = (s.what, first_call s.so, s.answer)
  said (next_answer {r = r} g t n) = said_next r (said_order (said g) t) n

  answered : {k : ℕ} {a : Giving} → Called bytes k a → Answered bytes k (order_numbers a)
  answered {a = a} (first_call f) = first_answer (record { what = a; so = f; answer = refl })
  answered {a = a} (next_call c n) = next_answer (answered c) refl (record { what = a; so = n; answer = refl })

  module _ (es : List Event) (acc : read_log bytes ≡ accepted es) (few : length es ≤ order_places) where
    all : GivesEveryOrder bytes es
    all = every_order bytes es acc few

    pub every_answer : AnswersEveryOrder bytes es
    every_answer =
        record {
          only = λ g t. let s = said_order (said g) t in (s.0, all.only {o = s.0} s.1, s.2);
          every = λ o h. let g = all.every o h in (g.0, answered g.1);
          once = once;
          rising = rising;
          ending = let g = all.ending in (g.0, answered g.1);
        }
      where
        once : {j k : ℕ} {r s : OrderRow} → Answered bytes j r → Answered bytes k s → r.kind ≡ 9 → s.kind ≡ 9 → r.events ≡ s.events → j ≡ k
        once {k = k} g h t u e =
            let p = said_order (said g) t in
            let q = said_order (said h) u in
            let same : q.0 ≡ p.0 = row_one bytes es acc few (all.only {o = q.0} q.1) (all.only {o = p.0} p.1) (sym q.2 ∙ sym e ∙ p.2) in
            all.once {o = p.0} p.1 (subst (λ x. Called bytes k (order x)) same q.1)

        rising : {j k : ℕ} {r s : OrderRow} → j < k → Answered bytes j r → Answered bytes k s → r.kind ≡ 9 → s.kind ≡ 9 → Smaller r.events s.events
        rising {r = r} l g h t u =
            let p = said_order (said g) t in
            let q = said_order (said h) u in
            subst (Smaller r.events) (sym q.2) (subst (λ x. Smaller x (order_row q.0)) (sym p.2) (row_rises p.0 q.0 (all.rising {a = p.0} {b = q.0} l p.1 q.1)))
