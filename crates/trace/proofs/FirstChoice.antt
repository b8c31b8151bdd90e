-- The choice slot by slot, over event numbers: each slot has the first event that fits it and comes before or is none of those
-- chosen for the slots before it. Under Law L they are a good tuple, least in every slot; if a slot finds none there is none.
-- Assumes nothing.
use mathlib.Core.Path.{◌≡◌, refl, sym, ap, ◌∙◌}
use mathlib.Core.Logic.{◌⊎◌, inl, inr}
use mathlib.Core.Bool.{Bool, true, false}
use mathlib.Core.List.Memᴰ.{head}
use mathlib.Core.List.{List, [], ◌∷◌, ◌++◌, append_assoc, append-nil, Memᴰ as Mem}
use mathlib.Core.List.Memᴰ.{append_cases as mem-append-cases}
use mathlib.Core.List.Memᴰ.{not-nil as not-mem-nil}
use mathlib.Core.List.Memᴰ.{tail}
use Prim.Native.Nat.{ℕ, suc, ◌≤◌, ◌<◌}
use native.Mathlib.Decide.{dec_le}
use native.Mathlib.Omega.{arith}
use Rattle.trace.specs.Match.{Each, Pairs}
use Rattle.trace.specs.Tuples.{Among, Before, Apart, Fitting, Good}
use Rattle.trace.proofs.Lists.{both_ways}
use Rattle.trace.proofs.Rows.{pairs_head, pairs_tail, pairs_join, each_join}
use Rattle.trace.proofs.Before.{before_dep, before_trans}
use Rattle.trace.proofs.GoodTuples.{good_nil}
use Rattle.trace.proofs.Search.{may, may_clear, clear_may, Clear}
use Rattle.trace.proofs.Counts.{Lowest, at, nowhere, lowest_is}
use Rattle.trace.proofs.Greatest.{LawL}

-- ---- the first number that passes a test

-- e is the first of the numbers 1 to n that passes the test
abbrev pub FirstOf : (ℕ → Bool) → ℕ → ℕ → Type 0
FirstOf p n e = Among n e × (p e ≡ true) × ((m : ℕ) → 1 ≤ m → m < e → p m ≡ false)

-- none of them does
abbrev pub NoneOf : (ℕ → Bool) → ℕ → Type 0
NoneOf p n = (m : ℕ) → Among n m → p m ≡ false

-- one number more
pub none_up : {p : ℕ → Bool} {n : ℕ} → NoneOf p n → p (suc n) ≡ false → NoneOf p (suc n)
none_up {p} {n} f h m u = go (dec_le m n)
  where
    go : Dec (m ≤ n) → p m ≡ false
    go (yes l) = f m (u.0, l)
    go (no d) = let e : m ≡ suc n = omega arith in rw e h

-- ---- the choice

module _ {S : Type 0} (dep : ℕ → ℕ → Bool) (fits : S → ℕ → Bool) (n : ℕ) where
  -- cs are chosen for the first of the slots ss, and these are left: e_1 is the first event that fits slot 1, e_k the first that
  -- fits slot k and comes before or is none of e_1 .. e_(k-1)
  pub data Chosen (ss : List S) : List ℕ → List S → Type 0 where
    start : Chosen ss [] ss
    next : {cs : List ℕ} {s : S} {left : List S} {e : ℕ} → Chosen ss cs (s ∷ left) → FirstOf (may dep fits n s cs) n e
        → Chosen ss (cs ++ (e ∷ [])) left

  -- the first of the slots left finds none
  abbrev pub Stuck : List S → List ℕ → Type 0
  Stuck [] cs = Unit
  Stuck (s ∷ left) cs = NoneOf (may dep fits n s cs) n

  -- a choice that has come to its end: the events chosen, in slot order, and the slots left
  pub record Choice (ss : List S) : Type 0 where
    pub chosen : List ℕ
    pub left : List S
    pub steps : Chosen ss chosen left
    pub stuck : Stuck left chosen

  choose_on : (left : List S) {ss : List S} {cs : List ℕ} → Chosen ss cs left → Choice ss
  choose_on [] {cs = cs} c = record { chosen = cs; left = []; steps = c; stuck = tt }
  choose_on (s ∷ left) {ss} {cs} c = go (lowest_is (may dep fits n s cs) n) (λ e f. choose_on left (next {e = e} c f))
    where
      go : {k : ℕ} → Lowest (may dep fits n s cs) n k → ((e : ℕ) → FirstOf (may dep fits n s cs) n e → Choice ss) → Choice ss
      go (at {k = k} u t f) more = more (suc k) (omega arith, t, f)
      go (nowhere f) more = record { chosen = cs; left = s ∷ left; steps = c; stuck = λ m u. f m u.0 u.1 }

  -- There is one for any slots.
  pub choose : (ss : List S) → Choice ss
  choose ss = choose_on ss start

  -- ---- what is chosen is good

  pub record Part (ss left : List S) (cs : List ℕ) : Type 0 where
    pub slots : List S
    pub whole : ss ≡ slots ++ left
    pub good : Good dep fits slots n cs

  -- one event more, behind the others
  good_snoc : {ps : List S} {s : S} {cs : List ℕ} {e : ℕ} → Good dep fits ps n cs → fits s e ≡ true
      → ((c : ℕ) → Mem c cs → ¬ Before dep e c) → Among n e → Good dep fits (ps ++ (s ∷ [])) n (cs ++ (e ∷ []))
  good_snoc {cs = cs} {e = e} h f d u =
      record {
        fit = each_join h.fit (Each.more f Each.none);
        apart = pairs_join h.apart (Pairs.more (λ y m. absurd (not-mem-nil m)) Pairs.none) across;
        among = λ x m. within x (mem-append-cases cs m);
      }
    where
      across : (x : ℕ) → Mem x cs → (y : ℕ) → Mem y (e ∷ []) → ¬ Before dep y x
      across x m y (head p) = rw p (d x m)
      across x m y (tail k) = absurd (not-mem-nil k)

      within : (x : ℕ) → Mem x cs ⊎ Mem x (e ∷ []) → Among n x
      within x (inl m) = h.among x m
      within x (inr (head p)) = rw p u
      within x (inr (tail k)) = absurd (not-mem-nil k)

  pub chosen_part : {ss left : List S} {cs : List ℕ} → Chosen ss cs left → Part ss left cs
  chosen_part {ss} start = record { slots = []; whole = refl; good = good_nil dep fits n }
  chosen_part (next {cs = cs} {s = s} {left = left} {e = e} c f) =
      let p = chosen_part c in
      let k = may_clear dep fits n s cs e f.1 in
      record {
        slots = p.slots ++ (s ∷ []);
        whole = p.whole ∙ sym (append_assoc p.slots (s ∷ []) left);
        good = good_snoc p.good k.0 k.1 f.0;
      }

  pub chosen_good : {ss : List S} {cs : List ℕ} → Chosen ss cs [] → Good dep fits ss n cs
  chosen_good {ss} {cs} c =
      let p = chosen_part c in
      rw (p.whole ∙ append-nil p.slots) p.good

  -- ---- and least in every slot

  -- a good tuple beside the chosen: its events for their slots are no smaller, and those for the slots left come before or are
  -- none of the chosen
  record Beside (cs : List ℕ) (left : List S) (fs : List ℕ) : Type 0 where
    ahead : List ℕ
    rest : List ℕ
    whole : fs ≡ ahead ++ rest
    least : Each (λ e f. e ≤ f) cs ahead
    good : Good dep fits left n rest
    clear : Clear dep fits n rest cs

  -- a good tuple's first event and the others
  record Uncons (s : S) (ss : List S) (fs : List ℕ) : Type 0 where
    f : ℕ
    rest : List ℕ
    whole : fs ≡ f ∷ rest
    first : Mem f fs
    later : (x : ℕ) → Mem x rest → Mem x fs
    fit : fits s f ≡ true
    among : Among n f
    apart : (x : ℕ) → Mem x rest → ¬ Before dep x f
    good : Good dep fits ss n rest

  uncons : {s : S} {ss : List S} {fs : List ℕ} → Good dep fits (s ∷ ss) n fs → Uncons s ss fs
  uncons {s} {ss} {fs} h = go h.fit h.apart h.among
    where
      go : {fs : List ℕ} → Fitting fits (s ∷ ss) fs → Apart dep fs → ((e : ℕ) → Mem e fs → Among n e) → Uncons s ss fs
      go (Each.more {a = f} {rest = rest} t c) p i =
          record {
            f = f;
            rest = rest;
            whole = refl;
            first = head refl;
            later = λ x m. tail m;
            fit = t;
            among = i f (head refl);
            apart = pairs_head p;
            good = record { fit = c; apart = pairs_tail p; among = λ e m. i e (tail m) };
          }

  -- the first event of a good tuple for the slots left may be chosen
  beside_may : {cs fs : List ℕ} {s : S} {left : List S} (b : Beside cs (s ∷ left) fs)
      → may dep fits n s cs (uncons b.good).f ≡ true
  beside_may {cs} {fs} {s} b =
      let u = uncons b.good in
      clear_may dep fits n s cs u.f u.fit (b.clear u.f u.first)

  module _ (law : LawL dep fits) where
    beside_next : {cs fs : List ℕ} {s : S} {left : List S} {e : ℕ} → FirstOf (may dep fits n s cs) n e → Beside cs (s ∷ left) fs
        → Beside (cs ++ (e ∷ [])) left fs
    beside_next {cs} {fs} {s} {left} {e} first b =
        record {
          ahead = b.ahead ++ (u.f ∷ []);
          rest = u.rest;
          whole = b.whole ∙ ap (λ l. b.ahead ++ l) u.whole ∙ sym (append_assoc b.ahead (u.f ∷ []) u.rest);
          least = each_join b.least (Each.more low Each.none);
          good = u.good;
          clear = λ x m c k. clear x m c (mem-append-cases cs k);
        }
      where
        u : Uncons s left b.rest
        u = uncons b.good

        low : e ≤ u.f
        low = go (dec_le e u.f)
          where
            go : Dec (e ≤ u.f) → e ≤ u.f
            go (yes l) = l
            go (no d) = absurd (both_ways (beside_may b) (first.2 u.f u.among.0 (omega arith)))

        clear : (x : ℕ) → Mem x u.rest → (c : ℕ) → Mem c cs ⊎ Mem c (e ∷ []) → ¬ Before dep x c
        clear x m c (inl k) h = b.clear x (u.later x m) c k h
        clear x m c (inr (tail k)) h = absurd (not-mem-nil k)
        clear x m c (inr (head p)) h =
            let t = (may_clear dep fits n s cs e first.1).0 in
            u.apart x m (before_trans dep (rw p at h) (before_dep dep low (law s e u.f t u.fit)))

    beside : {ss left : List S} {cs fs : List ℕ} → Good dep fits ss n fs → Chosen ss cs left → Beside cs left fs
    beside {fs = fs} h start =
        record {
          ahead = [];
          rest = fs;
          whole = refl;
          least = Each.none;
          good = h;
          clear = λ x m c k. absurd (not-mem-nil k);
        }
    beside h (next c f) = beside_next f (beside h c)

    -- Where each slot has found its event, these are least in every slot among all good tuples.
    pub chosen_least : {ss : List S} {cs fs : List ℕ} → Chosen ss cs [] → Good dep fits ss n fs → Each (λ e f. e ≤ f) cs fs
    chosen_least {cs = cs} {fs = fs} c h = go b.good.fit b.whole
      where
        b : Beside cs [] fs
        b = beside h c

        go : {rest : List ℕ} → Fitting fits [] rest → fs ≡ b.ahead ++ rest → Each (λ e f. e ≤ f) cs fs
        go Each.none e = rw (e ∙ append-nil b.ahead) b.least

    -- Where a slot finds none, there is no good tuple.
    pub stuck_none : {ss left : List S} {cs fs : List ℕ} {s : S} → Chosen ss cs (s ∷ left) → Stuck (s ∷ left) cs
        → ¬ Good dep fits ss n fs
    stuck_none c d h =
        let b = beside h c in
        let u = uncons b.good in
        both_ways (beside_may b) (d u.f u.among)
