-- The rule by masks: which slots a tuple is for, as a row of bits beside the pattern and beside a row of numbers.
-- Assumes nothing.
use mathlib.Core.Path.{◌≡◌, refl, ap}
use mathlib.Core.Bool.{Bool, true, false}
use mathlib.Core.List.{List, [], ◌∷◌, ◌++◌, Memᴰ as Mem}
use mathlib.Core.Option.{Option, some, none}
use Prim.Native.Nat.{ℕ, suc}
use native.Mathlib.Omega.{arith}
use lib.ListN.{length}
use Rattle.trace.specs.Tuples.{Before, Best, keep, pick}
use Rattle.trace.proofs.Greatest.{LawL, none_yet, joins, barred}

module _ {A : Type 0} where
  keep_append : (b : Bool) (x : A) (xs ys : List A) → keep b x xs ++ ys ≡ keep b x (xs ++ ys)
  keep_append true x xs ys = refl
  keep_append false x xs ys = refl

  pub pick_append : (bs cs : List Bool) (xs ys : List A) → length bs ≡ length xs
      → pick (bs ++ cs) (xs ++ ys) ≡ pick bs xs ++ pick cs ys
  pick_append [] cs [] ys e = refl
  pick_append [] cs (x ∷ xs) ys e = absurd (omega arith)
  pick_append (b ∷ bs) cs [] ys e = absurd (omega arith)
  pick_append (b ∷ bs) cs (x ∷ xs) ys e =
      rw (keep_append b x (pick bs xs) (pick cs ys)) (ap (keep b x) (pick_append bs cs xs ys (omega arith)))

-- as many elements of one row as of another
pub pick_length : {A B : Type 0} (bs : List Bool) (xs : List A) (ys : List B) → length xs ≡ length ys
    → length (pick bs xs) ≡ length (pick bs ys)
pick_length [] xs ys e = refl
pick_length (b ∷ bs) [] [] e = refl
pick_length (b ∷ bs) [] (y ∷ ys) e = absurd (omega arith)
pick_length (b ∷ bs) (x ∷ xs) [] e = absurd (omega arith)
pick_length (true ∷ bs) (x ∷ xs) (y ∷ ys) e = ap suc (pick_length bs xs ys (omega arith))
pick_length (false ∷ bs) (x ∷ xs) (y ∷ ys) e = pick_length bs xs ys (omega arith)

-- A mask is b1, one bit, b2; the pattern is p1, s, p2. The new event fits s and no slot of the mask after it.
module _ {S : Type 0} (dep : ℕ → ℕ → Bool) (fits : S → ℕ → Bool) (law : LawL dep fits) (b1 b2 : List Bool) (p1 : List S) (s : S)
    (p2 : List S) (n : ℕ) (eb : length b1 ≡ length p1) (new-fits : fits s (suc n) ≡ true)
    (last-slot : (q : S) → Mem q (pick b2 p2) → fits q (suc n) ≡ false) where
  abbrev slots : Bool → List S
  slots b = pick (b1 ++ (b ∷ b2)) (p1 ++ (s ∷ p2))

  slots_are : (b : Bool) → slots b ≡ pick b1 p1 ++ keep b s (pick b2 p2)
  slots_are b = pick_append b1 (b ∷ b2) p1 (s ∷ p2) eb

  -- no tuple for the mask without s: what was kept stays
  pub mask_none : {o : Option (List ℕ)} → Best dep fits (slots false) n none → Best dep fits (slots true) n o
      → Best dep fits (slots true) (suc n) o
  mask_none h d =
      rw (slots_are true)
      (none_yet dep fits law (pick b1 p1) s (pick b2 p2) n new-fits last-slot
      (rw (slots_are false) at h) (rw (slots_are true) at d))

  -- a row of numbers is r1, one number, r2
  module _ (r1 : List ℕ) (x : ℕ) (r2 : List ℕ) (er : length r1 ≡ length p1) where
    row_is : (b : Bool) (y : ℕ) → pick (b1 ++ (b ∷ b2)) (r1 ++ (y ∷ r2)) ≡ pick b1 r1 ++ keep b y (pick b2 r2)
    row_is b y = pick_append b1 (b ∷ b2) r1 (y ∷ r2) (omega arith)

    -- the new event is put at s into the row for the mask without s
    pub mask_joins : Best dep fits (slots false) n (some (pick (b1 ++ (false ∷ b2)) (r1 ++ (x ∷ r2))))
        → ((m : ℕ) → Mem m (pick b2 r2) → ¬ Before dep m (suc n))
        → Best dep fits (slots true) (suc n) (some (pick (b1 ++ (true ∷ b2)) (r1 ++ (suc n ∷ r2))))
    mask_joins h free =
        rw (slots_are true, row_is true (suc n))
        (joins dep fits law (pick b1 p1) s (pick b2 p2) n new-fits last-slot (pick b1 r1) (pick b2 r2) (pick_length b1 r1 p1 er)
        (rw (slots_are false, row_is false x) at h) free)

    -- an event of a later slot of that row comes before the new one: what was kept stays
    pub mask_barred : {o : Option (List ℕ)} → Best dep fits (slots false) n (some (pick (b1 ++ (false ∷ b2)) (r1 ++ (x ∷ r2))))
        → (m : ℕ) → Mem m (pick b2 r2) → Before dep m (suc n) → Best dep fits (slots true) n o
        → Best dep fits (slots true) (suc n) o
    mask_barred h m i p d =
        rw (slots_are true)
        (barred dep fits law (pick b1 p1) s (pick b2 p2) n new-fits last-slot (pick b1 r1) (pick b2 r2) (pick_length b1 r1 p1 er)
        (rw (slots_are false, row_is false x) at h) m i p (rw (slots_are true) at d))
