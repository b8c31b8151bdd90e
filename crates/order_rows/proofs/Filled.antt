-- A row of places that is filled from its start: with the numbers 1 to n, or with those of them that pass a test.
use Prim.Native.Nat.{ℕ, zero, suc, ◌+◌, ◌≤◌, ◌<◌}
use mathlib.Core.Path.{◌≡◌, sym, ap, ◌∙◌}
use mathlib.Core.Bool.{Bool, true, false}
use mathlib.Core.List.{List, [], ◌∷◌, ◌++◌, append-nil}
use native.Mathlib.Numerals.{add-one}
use native.Mathlib.Omega.{arith}
use lib.ListN.{length, set, length-append}
use lib.Seq.{append_snoc}
use Rattle.event.proofs.Places.{next_place}
use Rattle.trace.proofs.Lists.{filter}
use Rattle.trace.proofs.Runs.{run}
use Rattle.enumeration.proofs.OrderLists.{run_length}
use Rattle.order_rows.specs.Rows.{order_places, order_row}
use Rattle.order_rows.proofs.Counted.{passing, from_one, one_passes, one_fails, none_left}

-- ---- the numbers 1 to n

run_snoc : (a n : ℕ) → run a n ++ ((a + n) ∷ []) ≡ run a (suc n)
run_snoc a zero = let e : a + 0 ≡ a = omega arith in rw e
run_snoc a (suc n) =
    let e : a + suc n ≡ suc a + n = omega arith in
    ap (λ xs. a ∷ xs) (ap (λ k. run (suc a) n ++ (k ∷ [])) e ∙ run_snoc (suc a) n)

pub one_more : (i : ℕ) → i < order_places → set (order_row (run 1 i)) i (i + 1) ≡ order_row (run 1 (i + 1))
one_more i l =
    let n : length (run 1 i) ≡ i = run_length 1 i in
    let s : set (order_row (run 1 i)) (length (run 1 i)) (i + 1) ≡ order_row (run 1 i ++ ((i + 1) ∷ [])) = next_place 0 order_places (run 1 i) (i + 1) (omega arith) in
    let e : 1 + i ≡ i + 1 = omega arith in
    ap (λ k. set (order_row (run 1 i)) k (i + 1)) (sym n) ∙ s ∙ ap (λ k. order_row (run 1 i ++ (k ∷ []))) (sym e) ∙ ap order_row (run_snoc 1 i)
    ∙ ap (λ k. order_row (run 1 k)) (sym (add-one i))

-- ---- those of them that pass a test, behind others

-- those below k were put at their places
pub record Filled (p : ℕ → Bool) (n : ℕ) (whole row : List ℕ) (at k : ℕ) : Type 0 where
  pub put : List ℕ
  pub filled : row ≡ order_row put
  pub place : at ≡ length put
  pub high : at ≤ order_places
  pub rest : put ++ passing p k n ≡ whole

-- the numbers before a place, and one at it
begun : (xs : List ℕ) (p z : ℕ) → length xs ≡ p → p < order_places → set (order_row xs) p z ≡ order_row (xs ++ (z ∷ []))
begun xs p z e l = rw (sym e) (next_place 0 order_places xs z (omega arith))

pub filled_start : (p : ℕ → Bool) (n : ℕ) (xs : List ℕ) (at z : ℕ) → length xs ≡ at → at < order_places
    → Filled p n (xs ++ (z ∷ filter p (run 1 n))) (set (order_row xs) at z) (at + 1) 1
filled_start p n xs at z e l = record {
  put = xs ++ (z ∷ []);
  filled = begun xs at z e l;
  place = ap (λ m. m + 1) (sym e) ∙ sym (length-append xs (z ∷ []));
  high = omega arith;
  rest = append_snoc xs z (passing p 1 n) ∙ ap (λ ks. xs ++ (z ∷ ks)) (sym (from_one p n));
}

module _ (p : ℕ → Bool) (n : ℕ) (whole row : List ℕ) (at k : ℕ) (f : Filled p n whole row at k) (fits : length whole ≤ order_places) where
  sized : length f.put + length (passing p k n) ≡ length whole
  sized = sym (length-append f.put (passing p k n)) ∙ ap length f.rest

  pub filled_room : k ≤ n → p k ≡ true → at < order_places
  filled_room l t =
      let h = rw (one_passes p k n l t) at sized in
      let e = f.place in
      omega arith

  pub filled_put : k ≤ n → p k ≡ true → Filled p n whole (set row at k) (at + 1) (k + 1)
  filled_put l t =
      let h = rw (one_passes p k n l t) at sized in
      let s : length (f.put ++ (k ∷ [])) ≡ length f.put + 1 = length-append f.put (k ∷ []) in
      record {
        put = f.put ++ (k ∷ []);
        filled = rw (f.filled, f.place) (next_place 0 order_places f.put k (omega arith));
        place = ap (λ m. m + 1) f.place ∙ sym s;
        high = (let r = filled_room l t in omega arith);
        rest = append_snoc f.put k (passing p (k + 1) n) ∙ ap (λ ks. f.put ++ ks) (sym (one_passes p k n l t)) ∙ f.rest;
      }

  pub filled_over : k ≤ n → p k ≡ false → Filled p n whole row at (k + 1)
  filled_over l t =
      record { put = f.put; filled = f.filled; place = f.place; high = f.high; rest = ap (λ ks. f.put ++ ks) (sym (one_fails p k n l t)) ∙ f.rest }

  pub filled_end : n < k → row ≡ order_row whole
  filled_end l =
      f.filled ∙ ap order_row (sym (append-nil f.put) ∙ ap (λ ks. f.put ++ ks) (sym (none_left p k n l)) ∙ f.rest)
