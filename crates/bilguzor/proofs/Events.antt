-- Numbers that no event can hold are refused by their number, whatever the session in parts.
use Prim.Native.Nat.{ℕ, ◌≤◌}
use native.Mathlib.Omega.{arith}
use mathlib.Core.Path.{◌≡◌, sym, ◌∙◌}
use mathlib.Core.Bool.{false}
use lib.Dec.{eqb, leb, ltb}
use lib.IntN.{ℤ}
use borrow.Author.Tests.{le-leb, leb-true, eqb-false}
use Rattle.event.specs.Limits.{threads, marks}
use Rattle.event.specs.Slots.{without_height}
use Rattle.event.specs.Range.{limit_of}
use Rattle.event.proofs.Tests.{by_test}
use Rattle.rules.specs.State.{refusal_by}
use Rattle.command.specs.Reading.{operation_of}
use Rattle.event_numbers.specs.EventNumbers.{Numbers, handed_over, no_operation, unfit_by}
use Rattle.event_numbers.proofs.Events.{limit_marks, limit_byte, operates}
use Rattle.bilguzor.specs.declared.Parts.{Parts}
use Rattle.bilguzor.specs.Sessions.{number_in}

-- numbers that no event can hold are refused, by the first number that they meet
module _ (p : Parts) (t b o : ℕ) (h : ℤ) where
  abbrev n : Numbers
  n = handed_over t b o h

  wide_object : no_operation b ≡ false → leb threads t ≡ false → limit_of (without_height (operation_of b o h)) ≤ o → number_in p n ≡ 6
  unfolding number_in refusal_by
  wide_object q u l = rw (q, u, (operates b o h q).object, le-leb _ o l)

  pub unfit_number : (k : ℕ) → k ≡ unfit_by t b o → (k ≡ 0 → ⊥) → k ≡ number_in p n
  unfolding number_in refusal_by
  unfit_number k e d =
      by_test (eqb b 0)
      (λ q0. e ∙ rw q0)
      (λ q0.
      by_test (ltb 7 b)
      (λ q7. e ∙ rw (q0, q7))
      (λ q7.
      let event : no_operation b ≡ false = rw (q0, q7) in
      by_test (leb threads t)
      (λ qt. e ∙ rw (q0, q7, qt))
      (λ qt.
      by_test (leb marks o)
      (λ qm.
      let l : marks ≤ o = leb-true marks o qm in
      let m = limit_marks (without_height (operation_of b o h)) in
      let six : k ≡ 6 = e ∙ rw (q0, q7, qt, qm) in
      six ∙ sym (wide_object event qt (omega arith)))
      (λ qm.
      by_test (eqb b 7)
      (λ qb. absurd (d (e ∙ rw (q0, q7, qt, qm, qb))))
      (λ qb.
      by_test (leb 256 o)
      (λ qo.
      let l : 256 ≤ o = leb-true 256 o qo in
      let m = limit_byte (without_height (operation_of b o h)) (λ z. eqb-false b 7 qb (sym (operates b o h event).byte ∙ z)) in
      let six : k ≡ 6 = e ∙ rw (q0, q7, qt, qm, qb, qo) in
      six ∙ sym (wide_object event qt (omega arith)))
      (λ qo. absurd (d (e ∙ rw (q0, q7, qt, qm, qb, qo)))))))))
