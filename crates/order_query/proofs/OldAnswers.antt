-- "The old yes is exactly "same or before"", the old no after or free, and what was refused is refused alike. Every query has exactly one answer.
use Prim.Native.Nat.{ℕ}
use mathlib.Core.Path.{◌≡◌, refl, sym, ap, ap₂, subst, ◌∙◌}
use mathlib.Core.Logic.{◌⊎◌, inl, inr, ◌↔◌}
use mathlib.Core.List.{List}
use Rattle.event.specs.declared.Event.{Event}
use Rattle.event.specs.Slots.{no_event}
use Rattle.trace.proofs.Numbers.{at_numbered}
use Rattle.dependence.specs.Order.{ComesBefore}
use Rattle.event_log.proofs.Rows.{refused_not_accepted, one_list, one_refusal}
use Rattle.relation.specs.declared.Relation.{Relation}
use Rattle.relation.specs.declared.Relation.TheVariants.{Same, Before, After, Free}
use Rattle.relation.specs.Relation.{Relates}
use Rattle.relation.proofs.Relations.{comes_both, relation_of, relation_so, relation_only, yes_is_same_or_before, free_iff}
use Rattle.order_query.specs.Query.{OrderAnswer, related, IsNumber, Answers}
use Rattle.order_query.specs.Query as now
use Rattle.order_query.specs.YesOrNo.{YesOrNo, yes, no, AnswersYesOrNo, old_answer}
use Rattle.order_query.specs.YesOrNo as old

module _ {bytes : List ℕ} {i j : ℕ} where
  -- the old answer that goes with a new one was given
  old_given : {a : OrderAnswer} → Answers bytes i j a → AnswersYesOrNo bytes i j (old_answer a)
  old_given (now.refused_log r) = old.refused_log r
  old_given (now.no_number r x) = old.no_number r x
  old_given (now.relates {es = es} {r = q} r u v h) = go q h
    where
      chain : ComesBefore es i j ↔ (Relates es i j Same ⊎ Relates es i j Before)
      chain = yes_is_same_or_before es (at_numbered no_event es i u)

      go : (q : Relation) → Relates es i j q → AnswersYesOrNo bytes i j (old_answer (related q))
      go Same h = old.before r u v (chain.1 (inl h))
      go Before h = old.before r u v h.0
      go After h = old.not_before r u v (λ c. h.1 (comes_both es h.0 c))
      go Free h = old.not_before r u v ((free_iff es (at_numbered no_event es i u)).0 h).0

  -- and an old answer goes with one that is given now
  now_given : {y : YesOrNo} → AnswersYesOrNo bytes i j y → (a : OrderAnswer) × Answers bytes i j a × (old_answer a ≡ y)
  now_given (old.refused_log r) = (now.log_refused _ _, now.refused_log r, refl)
  now_given (old.no_number r x) = (now.query_refused 16 0, now.no_number r x, refl)
  now_given (old.before {es = es} r u v c) = go ((yes_is_same_or_before es (at_numbered no_event es i u)).0 c)
    where
      go : Relates es i j Same ⊎ Relates es i j Before → (a : OrderAnswer) × Answers bytes i j a × (old_answer a ≡ yes)
      go (inl h) = (related Same, now.relates r u v h, refl)
      go (inr h) = (related Before, now.relates r u v h, refl)
  now_given (old.not_before {es = es} r u v d) = go (relation_of es i j) (relation_so es i j)
    where
      go : (q : Relation) → Relates es i j q → (a : OrderAnswer) × Answers bytes i j a × (old_answer a ≡ no)
      go Same h = absurd (d ((yes_is_same_or_before es (at_numbered no_event es i u)).1 (inl h)))
      go Before h = absurd (d h.0)
      go After h = (related After, now.relates r u v h, refl)
      go Free h = (related Free, now.relates r u v h, refl)

  -- "The old yes is exactly "same or before"": yes for these two, no for the others, and each refusal for itself
  pub old_iff : (y : YesOrNo) → AnswersYesOrNo bytes i j y ↔ ((a : OrderAnswer) × Answers bytes i j a × (old_answer a ≡ y))
  old_iff y = (now_given, λ h. subst (AnswersYesOrNo bytes i j) h.2 (old_given h.1))

-- ---- a query leaves no choice

pub query_unique : {bytes : List ℕ} {i j : ℕ} {a b : OrderAnswer} → Answers bytes i j a → Answers bytes i j b → a ≡ b
query_unique (now.refused_log p) (now.refused_log q) = let h = one_refusal (sym p ∙ q) in ap₂ now.log_refused h.0 h.1
query_unique (now.refused_log p) (now.no_number q x) = refused_not_accepted (sym p ∙ q)
query_unique (now.refused_log p) (now.relates q u v h) = refused_not_accepted (sym p ∙ q)
query_unique (now.no_number p x) (now.refused_log q) = refused_not_accepted (sym q ∙ p)
query_unique (now.no_number p x) (now.no_number q y) = refl
query_unique {i = i} {j = j} (now.no_number p x) (now.relates q u v h) = absurd (x (subst (λ (es : List Event). IsNumber es i × IsNumber es j) (one_list (sym q ∙ p)) (u, v)))
query_unique (now.relates p u v h) (now.refused_log q) = refused_not_accepted (sym q ∙ p)
query_unique {i = i} {j = j} (now.relates p u v h) (now.no_number q x) = absurd (x (subst (λ (es : List Event). IsNumber es i × IsNumber es j) (one_list (sym p ∙ q)) (u, v)))
query_unique {i = i} {j = j} (now.relates {es = es} {r = r} p u v h) (now.relates {r = s} q w x g) =
    ap related (relation_only es i j r h ∙ sym (relation_only es i j s (subst (λ (ks : List Event). Relates ks i j s) (one_list (sym q ∙ p)) g)))
