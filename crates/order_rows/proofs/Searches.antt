-- What the library's searches find, in the words of `enumeration`.
use Prim.Native.Nat.{ℕ, zero, suc}
use mathlib.Core.Path.{◌≡◌, refl, sym, ap, ap₂, ◌∙◌}
use mathlib.Core.Bool.{Bool, true, false, not, ◌||◌, ◌&&◌, cond, and-eq-true_iff}
use mathlib.Core.List.{List, [], ◌∷◌}
use native.Mathlib.Numerals.{add-one}
use native.Mathlib.Omega.{arith}
use lib.Dec.{eqb, leb, ltb}
use borrow.Author.Tests.{eqb-true, eq-eqb, leb-true, le-leb, ltb-true, lt-ltb}
use Rattle.std.specs.Prelude.{Some}
use Rattle.std.specs.List.{list_any, list_all, find, range_with_len}
use Rattle.trace.specs.Tuples.{keep}
use Rattle.trace.proofs.Lists.{same_test, filter, any}
use Rattle.trace.proofs.Runs.{run, among_of, of_among}
use Rattle.enumeration.specs.Computed.{contains}
use Rattle.enumeration.proofs.Tests.{contains_mem, mem_contains}
use Rattle.order_rows.specs.Rows.{least_of}

pub any_is : {A : Type 0} (p : A → Bool) (xs : List A) → list_any p xs ≡ any p xs
any_is p [] = refl
any_is p (x ∷ xs) = ap (λ b. p x || b) (any_is p xs)

eqb_back : (a b : ℕ) → eqb a b ≡ eqb b a
eqb_back a b = same_test (eqb a b) (eqb b a) (λ t. eq-eqb b a (sym (eqb-true a b t))) (λ t. eq-eqb a b (sym (eqb-true b a t)))

pub contains_is : (k : ℕ) (xs : List ℕ) → list_any (λ y. eqb y k) xs ≡ contains xs k
contains_is k [] = refl
contains_is k (x ∷ xs) = ap₂ (λ a b. a || b) (eqb_back x k) (contains_is k xs)

pub all_is : {A : Type 0} (p : A → Bool) (xs : List A) → list_all p xs ≡ not (any (λ x. not (p x)) xs)
all_is p [] = refl
all_is p (x ∷ xs) = go (p x) (all_is p xs)
  where
    go : (b : Bool) → list_all p xs ≡ not (any (λ y. not (p y)) xs) → b && list_all p xs ≡ not (not b || any (λ y. not (p y)) xs)
    go true e = e
    go false e = refl

pub find_is : (p : ℕ → Bool) (xs : List ℕ) → find p xs ≡ least_of (filter p xs)
find_is p [] = refl
find_is p (x ∷ xs) = go (p x) (find_is p xs)
  where
    go : (b : Bool) → find p xs ≡ least_of (filter p xs) → cond b (Some x) (find p xs) ≡ least_of (keep b x (filter p xs))
    go true e = refl
    go false e = e

pub numbers : (a n : ℕ) → range_with_len a n ≡ run a n
numbers a zero = refl
numbers a (suc n) = ap (λ xs. a ∷ xs) (ap (λ m. range_with_len m n) (add-one a) ∙ numbers (suc a) n)

-- the numbers 1 to n
pub among_is : (n k : ℕ) → ltb 0 k && leb k n ≡ contains (run 1 n) k
among_is n k =
    same_test (ltb 0 k && leb k n) (contains (run 1 n) k)
    (λ t. let h = (and-eq-true_iff (ltb 0 k) (leb k n)).0 t in let a = ltb-true 0 k h.0 in let b = leb-true k n h.1 in mem_contains (run 1 n) (of_among n (omega arith)))
    (λ t. let h = among_of n (contains_mem (run 1 n) t) in (and-eq-true_iff (ltb 0 k) (leb k n)).1 (lt-ltb 0 k h.0, le-leb k n h.1))
