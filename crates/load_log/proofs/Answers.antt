-- What is answered where a count is too high, a buffer too short, or neither; and what an answer tells: where it is a length, the load stands in the buffer.
use Prim.Native.Nat.{ℕ, ◌+◌, ◌*◌, ◌-◌, ◌<◌, ◌≤◌}
use native.Mathlib.Omega.{arith}
use native.Mathlib.Nat.{zero-add}
use mathlib.Core.Path.{◌≡◌, refl, sym, ap, ◌∙◌}
use mathlib.Core.List.{List}
use lib.Dec.{leb}
use lib.ListN.{length, take}
use borrow.Author.Tests.{le-leb, lt-leb, leb-true, leb-false}
use Rattle.event.specs.Limits.{events}
use Rattle.event.proofs.Tests.{by_test}
use Rattle.writer.specs.Writing.{Writing, written, refused, put}
use Rattle.event_log.proofs.Writes.{written_part}
use Rattle.event_log.proofs.RowBytes.{same_place}
use Rattle.load_log.specs.Load.{IsLoad, load_bytes, loading, loaded}
use Rattle.load_log.proofs.Load.{load_is, load_length}

pub not_written : {w : Writing} {m k o : ℕ} → w ≡ written m → w ≡ refused k o → ⊥
not_written p q = let z : ◌≡◌ {A = ℕ} 0 1 = cc in omega arith

module _ (seed count : ℕ) (buffer : List ℕ) where
  pub count_too_high : events < count → (refused 22 0 ≡ loading seed count buffer) × (buffer ≡ loaded seed count buffer)
  count_too_high h = rw (lt-leb count events h) (refl, refl)

  module _ (most : count ≤ events) where
    pub buffer_too_short : (size : ℕ) → size ≡ length (load_bytes seed count) → length buffer < size → (refused 15 0 ≡ loading seed count buffer) × (buffer ≡ loaded seed count buffer)
    buffer_too_short size is h =
        let l : length buffer - 0 < length (load_bytes seed count) = omega arith in
        rw (le-leb count events most, lt-leb (length (load_bytes seed count)) (length buffer - 0) l) (refl, refl)

    pub load_made : length (load_bytes seed count) ≤ length buffer
        → (written (length (load_bytes seed count)) ≡ loading seed count buffer) × (put (load_bytes seed count) buffer 0 ≡ loaded seed count buffer)
    load_made h =
        let l : length (load_bytes seed count) ≤ length buffer - 0 = omega arith in
        rw (le-leb count events most, le-leb (length (load_bytes seed count)) (length buffer - 0) l) (ap written (sym (zero-add (length (load_bytes seed count)))), refl)

    -- a buffer of 458,746 bytes has room for every load
    pub load_fits : 7 * events + 1 ≤ length buffer → loading seed count buffer ≡ written (length (load_bytes seed count))
    load_fits h = sym (load_made (omega (arith, load_length seed count))).0

  -- an answer that is a length
  pub record Told (n : ℕ) : Type 0 where
    pub most : count ≤ events
    pub long : n ≡ length (load_bytes seed count)
    pub room : length (load_bytes seed count) ≤ length buffer

  pub answer_tells : {n : ℕ} → loading seed count buffer ≡ written n → Told n
  answer_tells {n} q = by_test (leb count events) (λ a. few (leb-true count events a)) (λ a. absurd (not_written q (sym (count_too_high (leb-false count events a)).0)))
    where
      few : count ≤ events → Told n
      few m =
          by_test (leb (length (load_bytes seed count)) (length buffer))
          (λ a.
          let r : length (load_bytes seed count) ≤ length buffer = leb-true _ _ a in
          record { most = m; long = same_place q (sym (load_made m r).0); room = r })
          (λ a. absurd (not_written q (sym (buffer_too_short m _ refl (leb-false _ _ a)).0)))

  -- an answer that is a refusal has a number
  pub refused_numbered : {k o : ℕ} → loading seed count buffer ≡ refused k o → k ≡ 0 → ⊥
  refused_numbered {k} {o} q z =
      by_test (leb count events)
      (λ a. by_test (leb (length (load_bytes seed count)) (length buffer))
      (λ b. not_written (sym (load_made (leb-true _ _ a) (leb-true _ _ b)).0) q)
      (λ b. never 15 ((buffer_too_short (leb-true _ _ a) _ refl (leb-false _ _ b)).0 ∙ q) (omega arith)))
      (λ a. never 22 ((count_too_high (leb-false _ _ a)).0 ∙ q) (omega arith))
    where
      never : (n : ℕ) → refused n 0 ≡ refused k o → 0 < n → ⊥
      never n e l = let same : n ≡ k = cc in omega arith

  -- "write a log into a lent buffer": what stands at its start is the load
  pub written_load : {n : ℕ} → loading seed count buffer ≡ written n → IsLoad seed count (take n (loaded seed count buffer))
  written_load {n} q =
      let t = answer_tells q in
      rw (sym (load_made t.most t.room).1, t.long, written_part (load_bytes seed count) buffer 0 (omega arith)) (load_is seed count t.most)
