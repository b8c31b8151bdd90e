-- What stands in each entry of a list whose entries are updated one after another.
-- Assumes nothing.
use Prim.Native.Nat.{ℕ, zero, suc, ◌+◌, ◌≤◌, ◌<◌}
use native.Mathlib.Decide.{ℕ_discrete}
use native.Mathlib.Nat.{zero-add}
use native.Mathlib.Omega.{arith}
use mathlib.Core.Path.{◌≡◌, refl, sym, ap, ◌∙◌}
use mathlib.Core.List.{List}
use lib.Dec.{ltb}
use lib.ListN.{length, get_or, set, length-set}
use lib.Seq.{get_or-set_same, get_or-set_other, set-get_or, set_out}
use borrow.Author.Tests.{ltb-true, ltb-false}
use Rattle.event.specs.Updated.{updated}
use Rattle.event.proofs.Tests.{by_test}

module _ {A : Type 0} (d : A) (w : ℕ → A → A) (xs : List A) (f : ℕ) where
  pub updated_length : (n : ℕ) → length (updated d w n xs f) ≡ length xs
  unfolding updated
  updated_length zero = refl
  updated_length (suc n) = length-set (updated d w n xs f) (f + n) _ ∙ updated_length n

  -- what lies outside the part stays
  pub updated_outside : (n k : ℕ) → ((i : ℕ) → i < n → k ≡ f + i → ⊥) → get_or (updated d w n xs f) k d ≡ get_or xs k d
  unfolding updated
  updated_outside zero k out = refl
  updated_outside (suc n) k out =
      get_or-set_other (updated d w n xs f) (f + n) k _ d (out n (omega arith)) ∙ updated_outside n k (λ i l. out i (omega arith))

  -- what lies in it is updated
  pub updated_entry : (n i : ℕ) → i < n → f + i < length xs → get_or (updated d w n xs f) (f + i) d ≡ w i (get_or xs (f + i) d)
  unfolding updated
  updated_entry zero i l there = absurd (omega arith)
  updated_entry (suc n) i l there = go (ℕ_discrete i n) (λ u. updated_entry n i u there)
    where
      go : Dec (i ≡ n) → (i < n → get_or (updated d w n xs f) (f + i) d ≡ w i (get_or xs (f + i) d))
          → get_or (updated d w (suc n) xs f) (f + i) d ≡ w i (get_or xs (f + i) d)
      go (yes p) ih =
          let low : f + n < length (updated d w n xs f) = rw (updated_length n) (omega arith) in
          rw p
          (get_or-set_same (updated d w n xs f) (f + n) _ d low
          ∙ ap (w n) (updated_outside n (f + n) (λ j u. omega arith)))
      go (no e) ih =
          get_or-set_other (updated d w n xs f) (f + n) (f + i) _ d (λ p. e (let z : i ≡ n = omega arith in z)) ∙ ih (omega arith)

  pub updated_inside : (n i : ℕ) → i < n → f + n ≤ length xs → get_or (updated d w n xs f) (f + i) d ≡ w i (get_or xs (f + i) d)
  updated_inside n i l fits = updated_entry n i l (omega arith)

  -- updated again it stays, where each entry does
  pub updated_twice : ((i : ℕ) (x : A) → w i (w i x) ≡ w i x) → (n : ℕ) → updated d w n (updated d w n xs f) f ≡ updated d w n xs f
  unfolding updated
  updated_twice again n = go n (omega arith)
    where
      entry : (m : ℕ) → m < n → set (updated d w n xs f) (f + m) (w m (get_or (updated d w n xs f) (f + m) d)) ≡ updated d w n xs f
      entry m l =
          by_test (ltb (f + m) (length xs))
          (λ q.
          let there = updated_entry n m l (ltb-true (f + m) (length xs) q) in
          ap (set (updated d w n xs f) (f + m)) (ap (w m) there ∙ again m _ ∙ sym there) ∙ set-get_or (updated d w n xs f) (f + m) d)
          (λ q. set_out (updated d w n xs f) (f + m) _ (rw (updated_length n) (ltb-false (f + m) (length xs) q)))

      go : (m : ℕ) → m ≤ n → updated d w m (updated d w n xs f) f ≡ updated d w n xs f
      go zero l = refl
      go (suc m) l = rw (go m (omega arith)) (entry m l)

-- a part at the list's start
pub updated_first : {A : Type 0} (d : A) (w : ℕ → A → A) (xs : List A) (n i : ℕ) → i < n → n ≤ length xs
    → get_or (updated d w n xs 0) i d ≡ w i (get_or xs i d)
updated_first d w xs n i l fits = rw zero-add at (updated_inside d w xs 0 n i l (omega arith))
