-- One pass over a log that copies the commands of the events whose places pass a test.
-- Assumes nothing.
use Prim.Native.Nat.{ℕ, zero, suc, ◌+◌, ◌-◌, ◌≤◌, ◌<◌, min}
use native.Mathlib.Nat.{le_refl, le_trans, add-zero}
use native.Mathlib.Decide.{dec_le, ℕ_discrete}
use native.Mathlib.Numerals.{add-one}
use native.Mathlib.Omega.{arith}
use mathlib.Core.Path.{◌≡◌, refl, sym, ap, ap₂, subst, ◌∙◌}
use mathlib.Core.Bool.{Bool, true, false, cond}
use mathlib.Core.List.{List, [], ◌∷◌, ◌++◌, append_assoc, append-nil}
use lib.Dec.{eqb}
use lib.ListN.{length, get_or, take, drop, set, take-append-drop, length-append, length-drop, length-set}
use lib.Seq.{take_at, get_or-set_same, get_or-set_other}
use borrow.Author.Tests.{eq-eqb, ne_eqb, le-leb, lt-ltb}
use Rattle.event.specs.declared.Event.{Event}
use Rattle.event.specs.Limits.{threads, events}
use Rattle.event.specs.Slots.{slot_of, no_event}
use Rattle.event.specs.Range.{range_refusal}
use Rattle.event.proofs.InRange.{in_range}
use Rattle.trace.specs.Tuples.{event_at, thread_at, place, keep}
use Rattle.trace.proofs.Numbers.{event_append, event_new}
use Rattle.trace.proofs.Stamps.{place_append}
use Rattle.trace.proofs.FirstArrivals.{place_seen}
use Rattle.dependence.specs.Order.{thread_of}
use Rattle.command.specs.Bytes.{Bytes}
use Rattle.command.specs.Commands.{event_bytes}
use Rattle.command.specs.Reading.{command, read_event, read_event_under, decode}
use Rattle.command.proofs.Held.{was_taken}
use Rattle.command.proofs.Inversion.{goes_on_lem}
use Rattle.writer.specs.Writing.{put}
use Rattle.writer.proofs.Buffers.{put_more, length_put}
use Rattle.event_log.proofs.LogRoundTrip.{events_kind}
use Rattle.clock.specs.declared.Stamp.{Stamp}
use Rattle.clock.specs.Clocks.{highest_count, up}
use Rattle.passes.proofs.Passes.{seen_of, seen_le, counts_up}
use Rattle.replay_passes.specs.Copies.{commands, passing, copied, between, count_in, Tells, CopiedIf, Copies, ReadAs}
use Rattle.replay_passes.proofs.Reader.{Ahead, from_start, left, onward, length_whole}

-- ---- commands

pub commands_append : (xs ys : List Event) → commands (xs ++ ys) ≡ commands xs ++ commands ys
commands_append [] ys = refl
commands_append (e ∷ xs) ys = ap (λ (l : List ℕ). event_bytes e ++ l) (commands_append xs ys) ∙ sym (append_assoc (event_bytes e) (commands xs) (commands ys))

pub commands_length : (xs ys : List Event) → length (commands (xs ++ ys)) ≡ length (commands xs) + length (commands ys)
commands_length xs ys = ap length (commands_append xs ys) ∙ length-append (commands xs) (commands ys)

-- as more events pass, no fewer bytes are copied
more_bytes : (test : ℕ → ℕ → Bool) (es : List Event) (i n : ℕ) → i ≤ n → length (commands (copied test es i)) ≤ length (commands (copied test es n))
more_bytes test es i zero l = let z : i ≡ zero = omega arith in rw z (le_refl 0)
more_bytes test es i (suc n) l = go (dec_le i n) (λ u. more_bytes test es i n u)
  where
    step : length (commands (copied test es n)) ≤ length (commands (copied test es (suc n)))
    step = let h = commands_length (copied test es n) (keep (passing test es (suc n)) (event_at no_event es (suc n)) []) in omega arith

    go : Dec (i ≤ n) → (i ≤ n → length (commands (copied test es i)) ≤ length (commands (copied test es n)))
        → length (commands (copied test es i)) ≤ length (commands (copied test es (suc n)))
    go (yes u) ih = le_trans (ih u) step
    go (no d) ih = let z : i ≡ suc n = omega arith in rw z (le_refl (length (commands (copied test es (suc n)))))

-- ---- bytes put where they are wanted and there is room for them

module _ (bytes buffer : List ℕ) (at : ℕ) where
  -- with room
  pub copied_there : {to : ℕ} {after : List ℕ} → CopiedIf true bytes buffer at to after → at + length bytes ≤ length buffer → (to ≡ at + length bytes) × (after ≡ put bytes buffer at)
  copied_there c l = let t = le-leb (length bytes) (length buffer - at) (omega arith) in (rw t at c.place, rw t at c.is)

-- ---- the command of an event that was read

module _ (bytes : List ℕ) (at : ℕ) (e : Event) (next : ℕ) (q : command e next ≡ read_event bytes at) where
  -- it lies within the log,
  pub stands : (at < next) × (next ≤ length bytes)
  unfolding read_event_under
  stands = goes_on_lem true bytes at e next (was_taken (λ e. range_refusal (slot_of e)) at (decode true bytes at) e next (sym q)).0

  pub low_thread : e.thread < threads
  unfolding read_event_under
  low_thread = (in_range (slot_of e) (was_taken (λ e. range_refusal (slot_of e)) at (decode true bytes at) e next (sym q)).1).thread

  -- and its bytes are the event's
  pub its_bytes : Bytes bytes → take (next - at) (drop at bytes) ≡ event_bytes e
  its_bytes b =
      let f = (events_kind.read_written bytes at e next b (sym q)).1 in
      let s = stands in
      let n : length (drop at bytes) ≡ length (event_bytes e) + length (drop next bytes) = ap length f ∙ length-append (event_bytes e) (drop next bytes) in
      let x : length (drop at bytes) ≡ length bytes - at = length-drop at bytes in
      let y : length (drop next bytes) ≡ length bytes - next = length-drop next bytes in
      ap (take (next - at)) f ∙ take_at (event_bytes e) (drop next bytes) (next - at) (omega arith)

-- ---- the pass

-- i events gone past, with how many of each thread; the commands of those that passed are in the buffer
pub record Copying (bytes : List ℕ) (es : List Event) (test : ℕ → ℕ → Bool) (before : List ℕ) (start : ℕ) (seen buffer : List ℕ) (to at i : ℕ) : Type 0 where
  pub gone : List Event
  pub ahead : Ahead bytes es gone at
  pub count : length gone ≡ i
  pub sized : length seen ≡ threads
  pub counted : (t : ℕ) → t < threads → get_or seen t 0 ≡ seen_of gone t
  pub copies : Copies (copied test es i) before start to buffer

module _ {bytes : List ℕ} {es : List Event} (r : ReadAs bytes es) (test : ℕ → ℕ → Bool) (before : List ℕ) (start : ℕ) where
  pub begun : (seen : List ℕ) → length seen ≡ threads → ((t : ℕ) → t < threads → get_or seen t 0 ≡ 0) → start ≤ length before
      → Copying bytes es test before start seen before start 0 0
  begun seen w z l =
      record {
        gone = [];
        ahead = from_start r;
        count = refl;
        sized = w;
        counted = z;
        copies = record { at = omega arith; is = nothing_put };
      }
    where
      nothing_put : before ≡ put [] before start
      nothing_put = sym (ap (λ (x : List ℕ). x ++ drop (start + 0) before) (append-nil (take start before)) ∙ ap (λ (k : ℕ). take start before ++ drop k before) (add-zero start) ∙ take-append-drop start before)

  module _ {seen buffer : List ℕ} {to at i : ℕ} (c : Copying bytes es test before start seen buffer to at i) where
    module _ (e : Event) (next : ℕ) (q : command e next ≡ read_event bytes at) where
      low : e.thread < threads
      low = low_thread bytes at e next q

      one_left : length c.gone < length es
      one_left = left c.ahead e next q

      abbrev longer : List Event
      longer = c.gone ++ (e ∷ [])

      later : Ahead bytes es longer next
      later = onward c.ahead e next q

      here : suc (length c.gone) ≤ length longer
      here = rw (length-append c.gone (e ∷ [])) (omega arith)

      -- it is the event of its number, and its place is the next in its thread
      event_is : event_at no_event es (suc i) ≡ e
      event_is =
          ap₂ (λ (xs : List Event) (k : ℕ). event_at no_event xs (suc k)) later.midway.whole (sym c.count)
          ∙ event_append no_event longer later.midway.rest (suc (length c.gone)) here
          ∙ event_new no_event c.gone e

      place_is : place (thread_at no_event thread_of es) (suc i) ≡ suc (seen_of c.gone e.thread)
      place_is =
          ap₂ (λ (xs : List Event) (k : ℕ). place (thread_at no_event thread_of xs) (suc k)) later.midway.whole (sym c.count)
          ∙ place_append no_event thread_of longer later.midway.rest (suc (length c.gone)) here
          ∙ place_seen no_event thread_of c.gone e

      abbrev place_of : ℕ
      place_of = up (get_or seen e.thread 0)

      counted_up : place_of ≡ suc (seen_of c.gone e.thread)
      counted_up =
          let few = r.few in
          let h = seen_le c.gone e.thread in
          let n = c.counted e.thread low in
          rw (lt-ltb (get_or seen e.thread 0) highest_count (let l = one_left in omega arith)) (omega arith)

      passing_is : passing test es (suc i) ≡ test e.thread place_of
      passing_is = ap₂ test (ap thread_of event_is) (place_is ∙ sym counted_up)

      pub place_low : place_of ≤ length es
      place_low = let h = seen_le c.gone e.thread in let l = one_left in let p = counted_up in omega arith

      now_copied : (b : Bool) → test e.thread place_of ≡ b → copied test es (suc i) ≡ copied test es i ++ keep b e []
      now_copied b t = ap₂ (λ (p : Bool) (x : Event). copied test es i ++ keep p x []) (passing_is ∙ t) event_is

      abbrev seen_now : List ℕ
      seen_now = set seen e.thread place_of

      gone_on : (after : List ℕ) (to-now : ℕ) → Copies (copied test es (suc i)) before start to-now after
          → Copying bytes es test before start seen_now after to-now next (i + 1)
      gone_on after to-now k =
          record {
            gone = longer;
            ahead = later;
            count = length-append c.gone (e ∷ []) ∙ ap (λ (k : ℕ). k + 1) c.count;
            sized = length-set seen e.thread place_of ∙ c.sized;
            counted = λ t l. go t l (ℕ_discrete t e.thread);
            copies = rw (add-one i) k;
          }
        where
          room : length c.gone < events
          room = let l = one_left in let few = r.few in omega arith

          up_at : (t : ℕ) → t < threads → cond (eqb e.thread t) (up (get_or seen t 0)) (get_or seen t 0) ≡ seen_of longer t
          up_at t l = counts_up c.gone e t (get_or seen t 0) (c.counted t l) room

          go : (t : ℕ) → t < threads → Dec (t ≡ e.thread) → get_or seen_now t 0 ≡ seen_of longer t
          go t l (yes z) =
              rw z
              (get_or-set_same seen e.thread place_of 0 (let w = c.sized in let v = low in omega arith)
              ∙ (rw (eq-eqb e.thread e.thread refl) at (up_at e.thread low)))
          go t l (no d) =
              get_or-set_other seen e.thread t place_of 0 d
              ∙ (rw (ne_eqb e.thread t (λ z. d (sym z))) at (up_at t l))

      -- whether it passes is told by the stamps
      module _ (above within : Stamp) (tells : Tells test es above within) where
        abbrev lies : Bool
        lies = between (count_in above e.thread) (count_in within e.thread) place_of

        told : test e.thread place_of ≡ lies
        told = tells e.thread place_of low place_low

        not_this : test e.thread place_of ≡ false → {to-now : ℕ} {after : List ℕ} → to-now ≡ to → after ≡ buffer → Copies (copied test es (suc i)) before start to-now after
        not_this f z q = rw (z, q) (subst (λ (xs : List Event). Copies xs before start to buffer) (sym (now_copied false f ∙ append-nil (copied test es i))) c.copies)

        module _ (n : ℕ) (l : i < n) (room : start + length (commands (copied test es (min n (length es)))) ≤ length before) where
          abbrev part : List ℕ
          part = take (next - at) (drop at bytes)

          part_is : part ≡ commands (e ∷ [])
          part_is = its_bytes bytes at e next q r.bytes_are ∙ sym (append-nil (event_bytes e))

          module _ (t : test e.thread place_of ≡ true) where
            now : copied test es (suc i) ≡ copied test es i ++ (e ∷ [])
            now = now_copied true t

            some : start + (length (commands (copied test es i)) + length (commands (e ∷ []))) ≤ length before
            some =
                let h = more_bytes test es (suc i) (min n (length es)) (let u = one_left in let k = c.count in omega arith) in
                let k : length (commands (copied test es (suc i))) ≡ length (commands (copied test es i)) + length (commands (e ∷ [])) = ap (λ (xs : List Event). length (commands xs)) now ∙ commands_length (copied test es i) (e ∷ []) in
                omega arith

            fits : to + length part ≤ length buffer
            fits =
                let k = c.copies.at in
                let m : length buffer ≡ length before = ap length c.copies.is ∙ length_put (commands (copied test es i)) before start (let s = some in omega arith) in
                let p : length part ≡ length (commands (e ∷ [])) = ap length part_is in
                let s = some in
                omega arith

            this_one : {to-now : ℕ} {after : List ℕ} → (to-now ≡ to + length part) × (after ≡ put part buffer to) → Copies (copied test es (suc i)) before start to-now after
            this_one {to-now} {after} h =
                let k = c.copies.at in
                let p : length part ≡ length (commands (e ∷ [])) = ap length part_is in
                let m = commands_length (copied test es i) (e ∷ []) in
                let h0 = h.0 in
                subst (λ (xs : List Event). Copies xs before start to-now after) (sym now)
                (record {
                  at = omega arith;
                  is =
                      h.1
                      ∙ ap₂ (λ (x y : List ℕ). put x y to) part_is c.copies.is
                      ∙ ap (put (commands (e ∷ [])) (put (commands (copied test es i)) before start)) k
                      ∙ put_more (commands (copied test es i)) (commands (e ∷ [])) before start (let s = some in omega arith)
                      ∙ ap (λ (x : List ℕ). put x before start) (sym (commands_append (copied test es i) (e ∷ [])));
                })

          -- the event is copied where it passes; t is its thread
          pub goes_by : (t : ℕ) (wanted : Bool) → t ≡ e.thread → wanted ≡ between (count_in above t) (count_in within t) (up (get_or seen t 0))
              → {to-now : ℕ} {after : List ℕ} → CopiedIf wanted part buffer to to-now after
              → Copying bytes es test before start (set seen t (up (get_or seen t 0))) after to-now next (i + 1)
          goes_by t wanted z w k = rw z (go wanted (rw z at w) k)
            where
              go : (wanted : Bool) → wanted ≡ lies → {to-now : ℕ} {after : List ℕ} → CopiedIf wanted part buffer to to-now after
                  → Copying bytes es test before start seen_now after to-now next (i + 1)
              go true w k = gone_on _ _ (let t = told ∙ sym w in this_one t (copied_there part buffer to k (fits t)))
              go false w k = gone_on _ _ (not_this (told ∙ sym w) k.place k.is)

    -- the pass has come to event number n, or to the log's end
    pub all_copied : {n : ℕ} → i ≡ n → Copies (copied test es (min n (length es))) before start to buffer
    all_copied {n} z =
        let k = c.count in
        let w = length_whole c.ahead in
        let m : i ≡ min n (length es) = omega arith in
        subst (λ (j : ℕ). Copies (copied test es j) before start to buffer) m c.copies

    pub at_the_end : {n : ℕ} → i < n → length c.gone ≡ length es → Copies (copied test es (min n (length es))) before start to buffer
    at_the_end {n} l z =
        let k = c.count in
        let m : i ≡ min n (length es) = omega arith in
        subst (λ (j : ℕ). Copies (copied test es j) before start to buffer) m c.copies
