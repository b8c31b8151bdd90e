-- A row of so many places is filled from its start.
-- Assumes nothing.
use Prim.Native.Nat.{ℕ, suc, ◌-◌, ◌≤◌, ◌<◌}
use native.Mathlib.Omega.{arith}
use mathlib.Core.Path.{◌≡◌, sym, ◌∙◌}
use mathlib.Core.List.{List, [], ◌∷◌, ◌++◌}
use lib.ListN.{length, take, set, replicate, length-append, length-replicate}
use lib.Seq.{set-append_seam, append_snoc, take-append_seam}
use Rattle.event.specs.Places.{in_places}

module _ {A : Type 0} (blank : A) (places : ℕ) (xs : List A) where
  -- one entry more takes the first blank place
  pub next_place : (x : A) → length xs < places → set (in_places blank places xs) (length xs) x ≡ in_places blank places (xs ++ (x ∷ []))
  next_place x h =
      let n : places - length xs ≡ suc (places - length (xs ++ (x ∷ []))) = rw length-append (omega arith) in
      rw n
      (set-append_seam xs blank (replicate (places - length (xs ++ (x ∷ []))) blank) x
      ∙ sym (append_snoc xs x (replicate (places - length (xs ++ (x ∷ []))) blank)))

  -- the entries are its first, and it has as many places as it is said to have
  pub places_first : take (length xs) (in_places blank places xs) ≡ xs
  places_first = take-append_seam xs (replicate (places - length xs) blank)

  pub places_length : length xs ≤ places → length (in_places blank places xs) ≡ places
  places_length h = rw (length-append, length-replicate {A = A} (places - length xs) blank) (omega arith)
