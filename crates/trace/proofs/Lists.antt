-- Lists: tests, and what of a list passes one.
-- Assumes nothing.
use mathlib.Core.Path.{◌≡◌, refl, sym, ap, ◌∙◌}
use mathlib.Core.Logic.{◌⊎◌, inl, inr}
use mathlib.Core.Bool.{Bool, true, false, ◌||◌, true≢false, false≢true}
use mathlib.Core.List.Memᴰ.{head}
use mathlib.Core.List.Memᴰ.{tail}
use mathlib.Core.List.{List, [], ◌∷◌, ◌++◌, Memᴰ as Mem}
use mathlib.Core.List.Memᴰ.{not-nil as not-mem-nil}
use Prim.Native.Nat.{suc}
use native.Mathlib.Omega.{arith}
use lib.ListN.{length, length-append}
use Rattle.trace.specs.Tuples.{keep}

-- a test is passed or failed, with the equation kept
pub true_or_false : (b : Bool) → (b ≡ true) ⊎ (b ≡ false)
true_or_false true = inl refl
true_or_false false = inr refl

pub both_ways : {b : Bool} → b ≡ true → b ≡ false → ⊥
both_ways p q = true≢false (sym p ∙ q)

-- what is never passed is failed
pub failed : (b : Bool) → ¬ (b ≡ true) → b ≡ false
failed true h = absurd (h refl)
failed false h = refl

-- two tests that are passed together are the same
pub same_test : (a b : Bool) → (a ≡ true → b ≡ true) → (b ≡ true → a ≡ true) → a ≡ b
same_test true b f g = sym (f refl)
same_test false true f g = g refl
same_test false false f g = refl

pub or_right : (a : Bool) {b : Bool} → b ≡ true → a || b ≡ true
or_right true h = refl
or_right false h = h

pub or_cases : (a : Bool) {b : Bool} → a || b ≡ true → (a ≡ true) ⊎ (b ≡ true)
or_cases true h = inl refl
or_cases false h = inr h

module _ {A : Type 0} where
  -- one element more
  pub length_snoc : (xs : List A) (x : A) → length (xs ++ (x ∷ [])) ≡ suc (length xs)
  length_snoc xs x = rw length-append (omega arith)

  -- the elements that pass the test, in their order
  abbrev pub filter : (A → Bool) → List A → List A
  filter p [] = []
  filter p (x ∷ xs) = keep (p x) x (filter p xs)

  pub keep_cases : {z x : A} {xs : List A} (b : Bool) → Mem z (keep b x xs) → ((z ≡ x) × (b ≡ true)) ⊎ Mem z xs
  keep_cases true (head e) = inl (e, refl)
  keep_cases true (tail m) = inr m
  keep_cases false m = inr m

  pub keep_old : {z : A} (x : A) {xs : List A} (b : Bool) → Mem z xs → Mem z (keep b x xs)
  keep_old x true m = tail m
  keep_old x false m = m

  pub mem_of_filter : {z : A} (p : A → Bool) (xs : List A) → Mem z (filter p xs) → Mem z xs × (p z ≡ true)
  mem_of_filter p [] m = absurd (not-mem-nil m)
  mem_of_filter {z} p (x ∷ xs) m = go (keep_cases (p x) m) (mem_of_filter p xs)
    where
      go : ((z ≡ x) × (p x ≡ true)) ⊎ Mem z (filter p xs) → (Mem z (filter p xs) → Mem z xs × (p z ≡ true))
          → Mem z (x ∷ xs) × (p z ≡ true)
      go (inl e) ih = (head e.0, ap p e.0 ∙ e.1)
      go (inr m') ih = (tail (ih m').0, (ih m').1)

  pub mem_filter : {z : A} (p : A → Bool) (xs : List A) → Mem z xs → p z ≡ true → Mem z (filter p xs)
  mem_filter p [] m h = elim m [ ]
  mem_filter p (x ∷ xs) (head e) h = rw (sym (ap p e) ∙ h) (head e)
  mem_filter p (x ∷ xs) (tail m) h = keep_old x (p x) (mem_filter p xs m h)

  -- some element passes the test
  abbrev pub any : (A → Bool) → List A → Bool
  any p [] = false
  any p (x ∷ xs) = p x || any p xs

  pub any_true : (p : A → Bool) (xs : List A) → any p xs ≡ true → (x : A) × Mem x xs × (p x ≡ true)
  any_true p [] h = absurd (false≢true h)
  any_true p (x ∷ xs) h = go (p x) refl h (any_true p xs)
    where
      go : (b : Bool) → p x ≡ b → b || any p xs ≡ true → (any p xs ≡ true → (x : A) × Mem x xs × (p x ≡ true))
          → (y : A) × Mem y (x ∷ xs) × (p y ≡ true)
      go true e h' ih = (x, head refl, e)
      go false e h' ih = let r = ih h' in (r.0, tail r.1, r.2)

  pub any_mem : {z : A} (p : A → Bool) (xs : List A) → Mem z xs → p z ≡ true → any p xs ≡ true
  any_mem p [] m h = elim m [ ]
  any_mem p (x ∷ xs) (head e) h = rw (sym (ap p e) ∙ h)
  any_mem p (x ∷ xs) (tail m) h = or_right (p x) (any_mem p xs m h)

  -- none does
  pub any_false : {z : A} (p : A → Bool) (xs : List A) → any p xs ≡ false → Mem z xs → ¬ (p z ≡ true)
  any_false p xs h m t = both_ways (any_mem p xs m t) h

  pub any_none : (p : A → Bool) (xs : List A) → ((x : A) → Mem x xs → ¬ (p x ≡ true)) → any p xs ≡ false
  any_none p xs d = failed (any p xs) (λ t. let r = any_true p xs t in d r.0 r.1 r.2)
