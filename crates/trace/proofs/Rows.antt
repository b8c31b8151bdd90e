-- Rows: `Pairs` and `Each`, cut in two, put together and carried over.
-- Assumes nothing.
use mathlib.Core.Path.{◌≡◌, refl, sym, ap, subst}
use mathlib.Core.Logic.{◌⊎◌, inl, inr}
use mathlib.Core.Bool.{Bool, true, false}
use mathlib.Core.List.Memᴰ.{head}
use mathlib.Core.List.Memᴰ.{tail}
use mathlib.Core.List.{List, [], ◌∷◌, ◌++◌, Memᴰ as Mem}
use mathlib.Core.List.Memᴰ.{append_cases as mem-append-cases}
use mathlib.Core.List.Memᴰ.{append_left as mem-left}
use mathlib.Core.List.Memᴰ.{not-nil as not-mem-nil}
use mathlib.Core.List.Memᴰ.{append_right as mem-right}
use Prim.Native.Nat.{suc}
use native.Mathlib.Omega.{arith}
use lib.ListN.{length}
use Rattle.trace.specs.Match.{Each, Pairs}
use Rattle.trace.specs.Tuples.{keep}
use Rattle.trace.proofs.Lists.{filter, mem_of_filter}

-- ---- each element and those after it

module _ {A : Type 0} {R : A → A → Type 0} where
  pub pairs_head : {x : A} {xs : List A} → Pairs R (x ∷ xs) → (y : A) → Mem y xs → R x y
  pairs_head (Pairs.more h p) = h

  pub pairs_tail : {x : A} {xs : List A} → Pairs R (x ∷ xs) → Pairs R xs
  pairs_tail (Pairs.more h p) = p

  pub pairs_filter : (p : A → Bool) {xs : List A} → Pairs R xs → Pairs R (filter p xs)
  pairs_filter p Pairs.none = Pairs.none
  pairs_filter p (Pairs.more {x = x} {xs = xs} h r) = go (p x) (pairs_filter p r)
    where
      go : (b : Bool) → Pairs R (filter p xs) → Pairs R (keep b x (filter p xs))
      go true q = Pairs.more (λ y m. h y (mem_of_filter p xs m).0) q
      go false q = q

  pub pairs_join : {xs ys : List A} → Pairs R xs → Pairs R ys → ((x : A) → Mem x xs → (y : A) → Mem y ys → R x y)
      → Pairs R (xs ++ ys)
  pairs_join Pairs.none q h = q
  pairs_join {ys = ys} (Pairs.more {x = x} {xs = xs} f p) q h =
      Pairs.more (λ y m. in_either (mem-append-cases xs m)) (pairs_join p q (λ z m. h z (tail m)))
    where
      in_either : {y : A} → Mem y xs ⊎ Mem y ys → R x y
      in_either {y} (inl m) = f y m
      in_either {y} (inr m) = h x (head refl) y m

  pub pairs_left : (xs ys : List A) → Pairs R (xs ++ ys) → Pairs R xs
  pairs_left [] ys p = Pairs.none
  pairs_left (x ∷ xs) ys p = Pairs.more (λ y m. pairs_head p y (mem-left ys m)) (pairs_left xs ys (pairs_tail p))

  pub pairs_right : (xs : List A) {ys : List A} → Pairs R (xs ++ ys) → Pairs R ys
  pairs_right [] p = p
  pairs_right (x ∷ xs) p = pairs_right xs (pairs_tail p)

  pub pairs_across : (xs : List A) {ys : List A} → Pairs R (xs ++ ys) → (x : A) → Mem x xs → (y : A) → Mem y ys → R x y
  pairs_across [] p x m y n = elim m [ ]
  pairs_across (z ∷ xs) p x (head e) y m = rw e (pairs_head p y (mem-right xs m))
  pairs_across (z ∷ xs) p x (tail n) y m = pairs_across xs (pairs_tail p) x n y m

module _ {A : Type 0} {R R' : A → A → Type 0} where
  pub pairs_map : {xs : List A} → ((x y : A) → Mem x xs → Mem y xs → R x y → R' x y) → Pairs R xs → Pairs R' xs
  pairs_map f Pairs.none = Pairs.none
  pairs_map f (Pairs.more {x = x} h p) =
      Pairs.more (λ y m. f x y (head refl) (tail m) (h y m)) (pairs_map (λ x y m n. f x y (tail m) (tail n)) p)

-- ---- an element for each slot

module _ {S A : Type 0} where
  pub each_split : {R : S → A → Type 0} (ps : List S) {qs : List S} {es : List A} → Each R (ps ++ qs) es
      → (ea : List A) × (eb : List A) × (es ≡ ea ++ eb) × Each R ps ea × Each R qs eb
  each_split [] {es = es} c = ([], es, refl, Each.none, c)
  each_split (p ∷ ps) (Each.more {a = a} f c) =
      let r = each_split ps c in
      (a ∷ r.0, r.1, ap (λ l. a ∷ l) r.2, Each.more f r.3, r.4)

  -- the same where the row is cut already
  pub each_cut : {R : S → A → Type 0} (ps : List S) {qs : List S} (ea : List A) {eb : List A} → length ea ≡ length ps
      → Each R (ps ++ qs) (ea ++ eb) → Each R ps ea × Each R qs eb
  each_cut [] [] h c = (Each.none, c)
  each_cut [] (e ∷ ea) h c = absurd (omega arith)
  each_cut (p ∷ ps) [] h c = absurd (omega arith)
  each_cut (p ∷ ps) (e ∷ ea) h (Each.more f c) = let r = each_cut ps ea (omega arith) c in (Each.more f r.0, r.1)

  pub each_join : {R : S → A → Type 0} {ps qs : List S} {ea eb : List A} → Each R ps ea → Each R qs eb
      → Each R (ps ++ qs) (ea ++ eb)
  each_join Each.none d = d
  each_join (Each.more f c) d = Each.more f (each_join c d)

  pub each_length : {R : S → A → Type 0} {ss : List S} {es : List A} → Each R ss es → length es ≡ length ss
  each_length Each.none = refl
  each_length (Each.more f c) = ap suc (each_length c)

  pub each_mem : {R : S → A → Type 0} {ss : List S} {es : List A} {e : A} → Each R ss es → Mem e es → (s : S) × Mem s ss × R s e
  each_mem Each.none m = absurd (not-mem-nil m)
  each_mem {R} (Each.more {s = s} f c) (head p) = (s, head refl, subst (R s) (sym p) f)
  each_mem (Each.more f c) (tail m) = let r = each_mem c m in (r.0, tail r.1, r.2)

  pub each_map : {R R' : S → A → Type 0} {ss : List S} {es : List A} → ((s : S) (e : A) → Mem e es → R s e → R' s e)
      → Each R ss es → Each R' ss es
  each_map h Each.none = Each.none
  each_map h (Each.more {s = s} {a = a} f c) = Each.more (h s a (head refl) f) (each_map (λ s e m. h s e (tail m)) c)
