-- What swaps do: they rearrange; they work behind and before other events; they bring a downward closed part to the front;
-- they can be undone.
-- Assumes nothing.
use mathlib.Core.Path.{◌≡◌, refl, sym, ◌∙◌}
use mathlib.Core.Bool.{Bool, true, false, not}
use mathlib.Core.List.Memᴰ.{head}
use mathlib.Core.List.Memᴰ.{tail}
use mathlib.Core.List.{List, [], ◌∷◌, ◌++◌, map, cons≢nil, Memᴰ as Mem}
use mathlib.Core.List.Permᴰ.{cons as perm-cons}
use mathlib.Core.List.Permᴰ.{nil as perm-nil}
use mathlib.Core.List.Permᴰ.{swap as perm-swap}
use mathlib.Core.List.{Permᴰ as Perm}
use mathlib.Core.List.Permᴰ.{refl as perm-refl}
use mathlib.Core.List.Permᴰ.{symm as perm-sym}
use mathlib.Core.List.Permᴰ.{trans as perm-trans}
use Rattle.trace.specs.Swaps.{Swap, here, later, Reaches, stay, swap}
use Rattle.trace.specs.Match.{Pairs}
use Rattle.trace.specs.Tuples.{keep}
use Rattle.trace.proofs.Lists.{filter, mem_of_filter}

module _ {A : Type 0} where
  pub perm_mem : {z : A} {xs ys : List A} → Perm xs ys → Mem z xs → Mem z ys
  perm_mem perm-nil m = m
  perm_mem (perm-cons e p) (head q) = head (q ∙ e)
  perm_mem (perm-cons e p) (tail m) = tail (perm_mem p m)
  perm_mem (perm-swap e f) (head q) = tail (head (q ∙ e))
  perm_mem (perm-swap e f) (tail (head q)) = head (q ∙ f)
  perm_mem (perm-swap e f) (tail (tail m)) = tail (tail m)
  perm_mem (perm-trans p q) m = perm_mem q (perm_mem p m)

module _ {A : Type 0} (dep : A → A → Bool) where
  pub reaches_trans : {xs ys zs : List A} → Reaches dep xs ys → Reaches dep ys zs → Reaches dep xs zs
  reaches_trans r stay = r
  reaches_trans r (swap q s) = swap (reaches_trans r q) s

  -- what is done behind a first event, behind a row of events, and before one
  pub reaches_later : {a : A} {xs ys : List A} → Reaches dep xs ys → Reaches dep (a ∷ xs) (a ∷ ys)
  reaches_later stay = stay
  reaches_later (swap r s) = swap (reaches_later r) (later s)

  pub reaches_behind : (ps : List A) {xs ys : List A} → Reaches dep xs ys → Reaches dep (ps ++ xs) (ps ++ ys)
  reaches_behind [] r = r
  reaches_behind (p ∷ ps) r = reaches_later (reaches_behind ps r)

  swap_ahead : {xs ys : List A} (zs : List A) → Swap dep xs ys → Swap dep (xs ++ zs) (ys ++ zs)
  swap_ahead zs (here i) = here i
  swap_ahead zs (later s) = later (swap_ahead zs s)

  pub reaches_ahead : {xs ys : List A} (zs : List A) → Reaches dep xs ys → Reaches dep (xs ++ zs) (ys ++ zs)
  reaches_ahead zs stay = stay
  reaches_ahead zs (swap r s) = swap (reaches_ahead zs r) (swap_ahead zs s)

  -- swaps rearrange, and so keep what is in the list
  swap_perm : {xs ys : List A} → Swap dep xs ys → Perm xs ys
  swap_perm (here i) = perm-swap refl refl
  swap_perm (later s) = perm-cons refl (swap_perm s)

  pub reaches_perm : {xs ys : List A} → Reaches dep xs ys → Perm xs ys
  reaches_perm (stay {xs = xs}) = perm-refl xs
  reaches_perm (swap r s) = perm-trans (reaches_perm r) (swap_perm s)

  pub swap_mem : {z : A} {xs ys : List A} → Swap dep xs ys → Mem z xs → Mem z ys
  swap_mem s = perm_mem (swap_perm s)

  pub swap_mem⁻ : {z : A} {xs ys : List A} → Swap dep xs ys → Mem z ys → Mem z xs
  swap_mem⁻ s = perm_mem (perm-sym (swap_perm s))

  pub reaches_mem⁻ : {z : A} {xs ys : List A} → Reaches dep xs ys → Mem z ys → Mem z xs
  reaches_mem⁻ r = perm_mem (perm-sym (reaches_perm r))

  -- an event goes past a row of events that are independent of it
  goes_past : (x : A) (ps bs : List A) → ((a : A) → Mem a ps → dep x a ≡ false) → Reaches dep (x ∷ (ps ++ bs)) (ps ++ (x ∷ bs))
  goes_past x [] bs h = stay
  goes_past x (a ∷ ps) bs h =
      reaches_trans (swap stay (here (h a (head refl)))) (reaches_later (goes_past x ps bs (λ b m. h b (tail m))))

  front_step : (x : A) {xs : List A} (fs gs : List A) (b : Bool) → (b ≡ false → (y : A) → Mem y fs → dep x y ≡ false)
      → Reaches dep xs (fs ++ gs) → Reaches dep (x ∷ xs) (keep b x fs ++ keep (not b) x gs)
  front_step x fs gs true h r = reaches_later r
  front_step x fs gs false h r = reaches_trans (reaches_later r) (goes_past x fs gs (h refl))

  -- A downward closed part can be brought to the front: where no event that fails the test is followed by a dependent one
  -- that passes it, swaps reach the order of those that pass and then those that fail, each group as it stood.
  pub to_front : (p : A → Bool) {xs : List A} → Pairs (λ x y. p x ≡ false → p y ≡ true → dep x y ≡ false) xs
      → Reaches dep xs (filter p xs ++ filter (λ x. not (p x)) xs)
  to_front p Pairs.none = stay
  to_front p (Pairs.more {x = x} {xs = xs} h c) =
      front_step x (filter p xs) (filter (λ z. not (p z)) xs) (p x) front (to_front p c)
    where
      front : p x ≡ false → (y : A) → Mem y (filter p xs) → dep x y ≡ false
      front e y m = let r = mem_of_filter p xs m in h y r.0 e r.1

  -- swaps can be undone where dependence is mutual
  module _ (symmetric : (a b : A) → dep a b ≡ dep b a) where
    swap_back : {xs ys : List A} → Swap dep xs ys → Swap dep ys xs
    swap_back (here {a = a} {b = b} i) = here (sym (symmetric a b) ∙ i)
    swap_back (later s) = later (swap_back s)

    pub reaches_back : {xs ys : List A} → Reaches dep xs ys → Reaches dep ys xs
    reaches_back stay = stay
    reaches_back (swap r s) = reaches_trans (swap stay (swap_back s)) (reaches_back r)

-- A map between lists carries swaps over, and back: what is reached from the image is the image of something reached.
module _ {A B : Type 0} (dep : B → B → Bool) (f : A → B) where
  abbrev along : A → A → Bool
  along a b = dep (f a) (f b)

  map_swap : {xs ys : List A} → Swap along xs ys → Swap dep (map f xs) (map f ys)
  map_swap (here i) = here i
  map_swap (later s) = later (map_swap s)

  pub map_reaches : {xs ys : List A} → Reaches along xs ys → Reaches dep (map f xs) (map f ys)
  map_reaches stay = stay
  map_reaches (swap r s) = swap (map_reaches r) (map_swap s)

  lift_swap : {us zs : List B} → Swap dep us zs → (xs : List A) → us ≡ map f xs
      → (ys : List A) × Swap along xs ys × (zs ≡ map f ys)
  lift_swap (here i) [] e = absurd (cons≢nil e)
  lift_swap (here {b = b} {xs = us} i) (x ∷ []) e = let q : b ∷ us ≡ [] = cc in absurd (cons≢nil q)
  lift_swap (here {a = a} {b = b} i) (x ∷ y ∷ xs) e =
      let p : a ≡ f x = cc in
      let q : b ≡ f y = cc in
      (y ∷ x ∷ xs, here (rw (p, q) at i), cc)
  lift_swap (later s) [] e = absurd (cons≢nil e)
  lift_swap (later {a = a} {xs = us} s) (x ∷ xs) e =
      let p : us ≡ map f xs = cc in
      let r = lift_swap s xs p in
      (x ∷ r.0, later r.1, cc r.2)

  pub lift_reaches : {us zs : List B} → Reaches dep us zs → (xs : List A) → us ≡ map f xs
      → (ys : List A) × Reaches along xs ys × (zs ≡ map f ys)
  lift_reaches stay xs e = (xs, stay, e)
  lift_reaches (swap r s) xs e =
      let h = lift_reaches r xs e in
      let g = lift_swap s h.0 h.2 in
      (g.0, swap h.1 g.1, g.2)
