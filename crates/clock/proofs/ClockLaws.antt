-- What the code does to the clocks is what the definitions say.
-- Assumes nothing.
use Prim.Native.Nat.{ℕ, ◌+◌, ◌≤◌, ◌<◌, max}
use native.Mathlib.Omega.{arith}
use mathlib.Core.Path.{◌≡◌, refl, sym, ap, ap₂, ◌∙◌}
use mathlib.Core.List.{List}
use lib.ListN.{get_or}
use borrow.Author.Tests.{eq-eqb, ne_eqb, le-leb, lt-leb}
use Rattle.event.specs.declared.Event.{Event}
use Rattle.event.specs.declared.Operation.TheVariants.{Mark}
use Rattle.event.specs.Limits.{threads, marks}
use Rattle.event.specs.Slots.{slot_of}
use Rattle.event.specs.Range.{range_refusal, range_refusal_under}
use Rattle.event.proofs.Updated.{updated_twice}
use Rattle.dependence.specs.Channels.{thread}
use Rattle.clock.specs.declared.Rows.{Rows}
use Rattle.clock.specs.declared.Stamp.{Stamp}
use Rattle.clock.specs.Rows.{row_of}
use Rattle.clock.specs.Clocks.{raised, heard_from, told_to, ticked_at, no_stamp, heard, told, rows_of, stamp_by, clocks_after}

-- ---- an event arrives

module _ (clocks : List ℕ) (e : Event) where
  -- an event outside the limits
  pub stamp_out : (range_refusal (slot_of e) ≡ 0 → ⊥) → no_stamp ≡ stamp_by clocks e
  unfolding stamp_by
  stamp_out h = rw (ne_eqb _ _ h)

  pub clocks_out : (range_refusal (slot_of e) ≡ 0 → ⊥) → clocks ≡ clocks_after clocks e
  unfolding clocks_after
  clocks_out h = rw (ne_eqb _ _ h)

  -- an event within them
  module _ (h : range_refusal (slot_of e) ≡ 0) where
    pub stamp_in_lem : stamp_by clocks e ≡ heard clocks e.thread (rows_of e)
    unfolding stamp_by
    stamp_in_lem = rw (eq-eqb _ _ h)

    pub clocks_in : clocks_after clocks e ≡ told clocks e.thread (rows_of e) (stamp_by clocks e)
    unfolding clocks_after
    clocks_in = rw (eq-eqb _ _ h)

    -- one step after another
    pub stamp_made : (r : Rows) (s : Stamp) → r ≡ rows_of e → s ≡ heard clocks e.thread r → s ≡ stamp_by clocks e
    stamp_made r s p q = q ∙ ap (heard clocks e.thread) p ∙ sym stamp_in_lem

    pub clocks_made : (r : Rows) (s : Stamp) (xs ys : List ℕ) → r ≡ rows_of e → s ≡ stamp_by clocks e
        → xs ≡ told_to clocks r.told s → ys ≡ told_to xs (row_of (thread e.thread)) s → ys ≡ clocks_after clocks e
    unfolding told
    clocks_made r s xs ys p q a b =
        b
        ∙ ap (λ (zs : List ℕ). told_to zs (row_of (thread e.thread)) s) a
        ∙ ap₂ (told clocks e.thread) p q
        ∙ sym clocks_in

-- ---- a mark: it hears and tells one row, its own

-- entries raised twice to the same are raised once
raised_twice : (n : ℕ) (xs : List ℕ) (f : ℕ) (ys : List ℕ) (g : ℕ) → raised n (raised n xs f ys g) f ys g ≡ raised n xs f ys g
unfolding raised
raised_twice n xs f ys g = updated_twice 0 (λ i x. max x (get_or ys (g + i) 0)) xs f (λ i x. max_again x (get_or ys (g + i) 0)) n
  where
    max_again : (x y : ℕ) → max (max x y) y ≡ max x y
    max_again x y = omega arith

module _ (clocks : List ℕ) (t m : ℕ) (low-mark : m < marks) where
  abbrev passed : Event
  passed = record { thread = t; operation = Mark m }

  pub mark_out : threads ≤ t → (no_stamp ≡ stamp_by clocks passed) × (clocks ≡ clocks_after clocks passed)
  unfolding range_refusal_under
  mark_out h = (stamp_out clocks passed beyond, clocks_out clocks passed beyond)
    where
      beyond : range_refusal (slot_of passed) ≡ 0 → ⊥
      beyond z = let five : ◌≡◌ {A = ℕ} 5 0 = rw (le-leb threads t h) at z in omega arith

  module _ (h : t < threads) where
    within : range_refusal (slot_of passed) ≡ 0
    unfolding range_refusal_under
    within = rw (lt-leb threads t h, lt-leb marks m low-mark)

    abbrev row : ℕ
    row = row_of (thread t)

    -- its row, heard once, and told once
    pub mark_in : (s : Stamp) (after : List ℕ) → s ≡ ticked_at (heard_from no_stamp clocks row) t → after ≡ told_to clocks row s
        → (s ≡ stamp_by clocks passed) × (after ≡ clocks_after clocks passed)
    unfolding heard
    mark_in s after q p = (same_stamp, same_clocks)
      where
        once : (x : Stamp) → heard_from (heard_from x clocks row) clocks row ≡ heard_from x clocks row
        once x = ap (λ (xs : List ℕ). record { at = xs }) (raised_twice threads x.at 0 clocks row)

        same_stamp : s ≡ stamp_by clocks passed
        same_stamp = q ∙ ap (λ x. ticked_at x t) (sym (once _ ∙ once _)) ∙ sym (stamp_in_lem clocks passed within)

        same_clocks : after ≡ clocks_after clocks passed
        same_clocks =
            clocks_made clocks passed within (rows_of passed) s (told_to clocks row s) after refl same_stamp refl
            (p ∙ sym (raised_twice threads clocks row s.at 0))
