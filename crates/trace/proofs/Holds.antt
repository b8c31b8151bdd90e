-- What an order holds: the slots for which it has a sublist that fits them.
-- Assumes nothing.
use mathlib.Core.Path.{◌≡◌, refl, ◌∙◌}
use mathlib.Core.Bool.{Bool}
use mathlib.Core.List.Memᴰ.{head}
use mathlib.Core.List.Memᴰ.{tail}
use mathlib.Core.List.{List, [], ◌∷◌, ◌++◌, map, cons≢nil, Memᴰ as Mem}
use mathlib.Core.List.Sublistᴰ.{cons as skip}
use mathlib.Core.List.Sublistᴰ.{cons-cons as take}
use mathlib.Core.List.Sublistᴰ.{slnil as end}
use mathlib.Core.List.{Sublistᴰ as Sublist}
use mathlib.Core.List.Sublistᴰ.{nil-sublist}
use Rattle.trace.specs.Match.{Each, Pairs, Holds}
use Rattle.trace.specs.Tuples.{Fitting}
use Rattle.trace.proofs.Rows.{pairs_head, pairs_tail}

module _ {A : Type 0} where
  pub sublist_mem : {z : A} {es ys : List A} → Sublist es ys → Mem z es → Mem z ys
  sublist_mem end m = m
  sublist_mem (skip h) m = tail (sublist_mem h m)
  sublist_mem (take e h) (head e') = head (e' ∙ e)
  sublist_mem (take e h) (tail m) = tail (sublist_mem h m)

  pub sublist_pairs : {R : A → A → Type 0} {es ys : List A} → Sublist es ys → Pairs R ys → Pairs R es
  sublist_pairs end p = p
  sublist_pairs (skip h) p = sublist_pairs h (pairs_tail p)
  sublist_pairs (take {a = x} e h) p =
      Pairs.more {x = x} (λ z m. rw e (pairs_head p z (sublist_mem h m))) (sublist_pairs h (pairs_tail p))

  sublist_skip : {es : List A} (fs : List A) {bs : List A} → Sublist es bs → Sublist es (fs ++ bs)
  sublist_skip [] h = h
  sublist_skip (a ∷ fs) h = skip (sublist_skip fs h)

  -- the first element from one list, the others from the next
  pub sublist_join : {e : A} {es : List A} (fs : List A) {bs : List A} → Mem e fs → Sublist es bs → Sublist (e ∷ es) (fs ++ bs)
  sublist_join [] m h = elim m [ ]
  sublist_join (a ∷ fs) (head p) h = take p (sublist_skip fs h)
  sublist_join (a ∷ fs) (tail m) h = skip (sublist_join fs m h)

module _ {S A : Type 0} (fits : S → A → Bool) where
  -- there, and back
  pub holds_pick : {ss : List S} {ys : List A} → Holds fits ss ys → (es : List A) × Fitting fits ss es × Sublist es ys
  holds_pick (Holds.done {ys = ys}) = ([], Each.none, nil-sublist ys)
  holds_pick (Holds.fit {y = y} f h) = let r = holds_pick h in (y ∷ r.0, Each.more f r.1, take refl r.2)
  holds_pick (Holds.skip h) = let r = holds_pick h in (r.0, r.1, skip r.2)

  pub holds_of : {ss : List S} {es ys : List A} → Sublist es ys → Fitting fits ss es → Holds fits ss ys
  holds_of end Each.none = Holds.done
  holds_of (skip h) c = Holds.skip (holds_of h c)
  holds_of (take e h) (Each.more {s = s} {ss = ss} f c) = Holds.fit (rw e at f) (holds_of {ss = ss} h c)

  -- what holds the slots holds them with events behind it
  pub holds_ahead : {ss : List S} {ys : List A} (zs : List A) → Holds fits ss ys → Holds fits ss (ys ++ zs)
  holds_ahead zs Holds.done = Holds.done
  holds_ahead zs (Holds.fit f h) = Holds.fit f (holds_ahead zs h)
  holds_ahead zs (Holds.skip h) = Holds.skip (holds_ahead zs h)

-- a map between lists carries what they hold over, and back
module _ {S A B : Type 0} (fits : S → B → Bool) (f : A → B) where
  pub map_holds : {ss : List S} {ys : List A} → Holds (λ s a. fits s (f a)) ss ys → Holds fits ss (map f ys)
  map_holds Holds.done = Holds.done
  map_holds (Holds.fit h r) = Holds.fit h (map_holds r)
  map_holds (Holds.skip r) = Holds.skip (map_holds r)

  pub lift_holds : {ss : List S} {us : List B} → Holds fits ss us → (ys : List A) → us ≡ map f ys
      → Holds (λ s a. fits s (f a)) ss ys
  lift_holds Holds.done ys e = Holds.done
  lift_holds (Holds.fit h r) [] e = absurd (cons≢nil e)
  lift_holds (Holds.fit {y = y} {ys = us} h r) (x ∷ xs) e =
      let p : y ≡ f x = cc in
      let q : us ≡ map f xs = cc in
      Holds.fit (rw p at h) (lift_holds r xs q)
  lift_holds (Holds.skip r) [] e = absurd (cons≢nil e)
  lift_holds (Holds.skip {ys = us} r) (x ∷ xs) e =
      let q : us ≡ map f xs = cc in
      Holds.skip (lift_holds r xs q)
