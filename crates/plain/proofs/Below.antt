-- What a search from the last place back finds is what the library's search from the first place on does.
use Prim.Native.Nat.{ℕ, zero, suc, ◌+◌}
use mathlib.Core.Path.{◌≡◌, refl, sym, ap, ◌∙◌}
use mathlib.Core.Bool.{Bool, true, false, cond, ◌||◌}
use mathlib.Core.List.{List, [], ◌∷◌, ◌++◌}
use native.Mathlib.Omega.{arith}
use Rattle.std.specs.List.{list_any, range_with_len}

range_snoc : (a n : ℕ) → range_with_len a (suc n) ≡ range_with_len a n ++ ((a + n) ∷ [])
range_snoc a zero = let e : a + 0 ≡ a = omega arith in rw e
range_snoc a (suc n) = let e : a + suc n ≡ a + 1 + n = omega arith in rw e (ap (λ xs. a ∷ xs) (range_snoc (a + 1) n))

any_snoc : (p : ℕ → Bool) (xs : List ℕ) (x : ℕ) (b : Bool) → list_any p (xs ++ (x ∷ [])) || b ≡ cond (p x) true (list_any p xs || b)
any_snoc p [] x b = go (p x)
  where
    go : (c : Bool) → (c || false) || b ≡ cond c true b
    go true = refl
    go false = refl
any_snoc p (y ∷ ys) x b = go (p y) (p x) (any_snoc p ys x b)
  where
    go : (c d : Bool) → list_any p (ys ++ (x ∷ [])) || b ≡ cond d true (list_any p ys || b) → (c || list_any p (ys ++ (x ∷ []))) || b ≡ cond d true ((c || list_any p ys) || b)
    go true true e = refl
    go true false e = refl
    go false d e = e

-- q n says whether p holds of one of the first n, or q did at the start
pub any_below : (p q : ℕ → Bool) → ((n : ℕ) → q (suc n) ≡ cond (p n) true (q n)) → (n : ℕ) → list_any p (range_with_len 0 n) || q 0 ≡ q n
any_below p q step zero = refl
any_below p q step (suc n) =
    let xs = range_with_len 0 n in
    let z : 0 + n ≡ n = omega arith in
    ap (λ ys. list_any p ys || q 0) (range_snoc 0 n) ∙ any_snoc p xs (0 + n) (q 0) ∙ ap (λ k. cond (p k) true (list_any p xs || q 0)) z
    ∙ ap (λ b. cond (p n) true b) (any_below p q step n) ∙ sym (step n)

pub or_none : (b : Bool) → b ≡ b || false
or_none true = refl
or_none false = refl
