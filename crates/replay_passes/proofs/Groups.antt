-- The replay log, written group by group.
-- Assumes nothing.
use Prim.Native.Nat.{ℕ, zero, suc, ◌+◌, ◌-◌, ◌≤◌, ◌<◌, min, max}
use native.Mathlib.Nat.{zero-add}
use native.Mathlib.Numerals.{add-one}
use native.Mathlib.Omega.{arith}
use mathlib.Core.Path.{◌≡◌, refl, sym, ap, ap₂, subst, ◌∙◌}
use mathlib.Core.Bool.{Bool, true, false, ◌&&◌}
use mathlib.Core.List.{List, [], ◌∷◌, ◌++◌, append_assoc, map}
use lib.Dec.{ltb}
use lib.ListN.{length, get_or, take, replicate, get_or-replicate}
use borrow.Author.Tests.{le-leb}
use Rattle.event.specs.declared.Event.{Event}
use Rattle.event.specs.Limits.{threads, slots as slot_limit, events}
use Rattle.trace.specs.Before.{Numbered, first, next}
use Rattle.trace.proofs.Runs.{run}
use Rattle.command.specs.Commands.{closing}
use Rattle.command.specs.Reading.{read_event}
use Rattle.writer.specs.Writing.{put}
use Rattle.writer.proofs.Buffers.{put_more, length_put}
use Rattle.event_log.specs.Calls.{ReadCalls}
use Rattle.event_log.specs.Whole.{log_bytes}
use Rattle.event_log.proofs.RowBytes.{calls_iff}
use Rattle.event_log.proofs.LogRoundTrip.{events_kind}
use Rattle.clock.specs.declared.Stamp.{Stamp}
use Rattle.clock.specs.Clocks.{no_stamp, higher_of}
use Rattle.clock.proofs.Entries.{heard_from_lem, heard_length}
use Rattle.replay_order.specs.Replay.{IsReplay}
use Rattle.event_stamps.specs.EventStamps.{no_entry, StampsTo}
use Rattle.replay_passes.specs.Copies.{commands, copied, between, count_in, Tells, Copies, ReadAs, NamedAmong}
use Rattle.replay_order.proofs.Order.{replay_perm}
use Rattle.replay_passes.proofs.Lengths.{log_commands, log_length, perm_length}
use Rattle.replay_passes.proofs.ByStamps.{groups, Stamped, groups_replay}
use Rattle.replay_passes.proofs.Copying.{commands_append, commands_length, low_thread}

-- ---- the numbers and the stamps of the slots' events

abbrev number_in : List ℕ → ℕ → ℕ
number_in numbers j = get_or numbers j 0

abbrev stamp_in : List Stamp → ℕ → ℕ → ℕ
stamp_in stamps j = count_in (get_or stamps j no_entry)

-- the first of a list, one after another
first_are : (xs : List ℕ) (n : ℕ) → n ≤ length xs → map (number_in xs) (run 0 n) ≡ take n xs
first_are xs zero l = refl
first_are [] (suc n) l = absurd (omega arith)
first_are (x ∷ xs) (suc n) l = ap (λ (ys : List ℕ). x ∷ ys) (shifted 0 n ∙ first_are xs n (omega arith))
  where
    shifted : (a m : ℕ) → map (number_in (x ∷ xs)) (run (suc a) m) ≡ map (number_in xs) (run a m)
    shifted a zero = refl
    shifted a (suc m) = ap (λ (ys : List ℕ). number_in xs a ∷ ys) (shifted (suc a) m)

threads_low : (bytes : List ℕ) {at : ℕ} {es : List Event} → ReadCalls (read_event bytes) at es → (i : ℕ) (e : Event) → Numbered es i e → e.thread < threads
threads_low bytes (ReadCalls.end _) i e x = elim x [ ]
threads_low bytes (ReadCalls.more {at = at} {next = n} {a = a} q r) i e first = low_thread bytes at a n (sym q)
threads_low bytes (ReadCalls.more q r) i e (next m) = threads_low bytes r _ e m

module _ {bytes : List ℕ} {es : List Event} (r : ReadAs bytes es) {numbers : List ℕ} {size n : ℕ} (few : size ≤ slot_limit) (whole : length numbers ≡ slot_limit)
    (listed : NamedAmong es numbers size n) (stamps : List Stamp) (are : StampsTo es numbers n stamps) where
  stamped : Stamped es (number_in numbers) (stamp_in stamps) size 0
  stamped k l u =
      let m = listed.each k (omega arith) in
      let f = listed.few in
      ((omega arith, omega arith), λ i e x. are k (omega arith) m.0 m.1 e.thread (threads_low bytes r.calls i e x))

  abbrev pub order : List Event
  order = groups es (number_in numbers) (stamp_in stamps) size 0 (λ t. 0)

  pub is_replay : IsReplay es (take size numbers) order
  is_replay = subst (λ (is : List ℕ). IsReplay es is order) (first_are numbers size (omega arith)) (groups_replay es (number_in numbers) (stamp_in stamps) size stamped)

  -- it has as many bytes as the log that was read
  pub as_long : length (log_bytes order) ≡ length bytes
  as_long = perm_length (replay_perm es (take size numbers) is_replay) ∙ sym (ap length ((calls_iff events_kind bytes r.bytes_are es).0 r.calls).1)

  -- so that it fits where the log does
  pub fits_in : (before : List ℕ) → length bytes ≤ length before → length (commands order) < length before
  fits_in before l = let a = as_long in let b = log_length order in omega arith

-- ---- the groups of the slots before j are written

pub record Grouping (es : List Event) (numbers : List ℕ) (stamps : List Stamp) (size : ℕ) (before : List ℕ) (written : Stamp) (buffer : List ℕ) (at j : ℕ) : Type 0 where
  pub beyond : ℕ → ℕ
  pub sized : length written.at ≡ threads
  pub agrees : (t : ℕ) → t < threads → count_in written t ≡ beyond t
  pub done : List Event
  pub whole : done ++ groups es (number_in numbers) (stamp_in stamps) (size - j) j beyond ≡ groups es (number_in numbers) (stamp_in stamps) size 0 (λ t. 0)
  pub copies : Copies done before 0 at buffer

-- what was copied, and more behind it
both : (xs ys : List Event) (before buffer after : List ℕ) (at to : ℕ) → length (commands (xs ++ ys)) ≤ length before → Copies xs before 0 at buffer
    → Copies ys buffer at to after → Copies (xs ++ ys) before 0 to after
both xs ys before buffer after at to l c d =
    let m = commands_length xs ys in
    let a : at ≡ length (commands xs) = c.at ∙ zero-add (length (commands xs)) in
    let b = d.at in
    record {
      at = omega arith;
      is =
          d.is
          ∙ ap₂ (put (commands ys)) c.is c.at
          ∙ put_more (commands xs) (commands ys) before 0 (omega arith)
          ∙ ap (λ (x : List ℕ). put x before 0) (sym (commands_append xs ys));
    }

room_behind : (xs ys : List Event) (before buffer : List ℕ) (at : ℕ) → length (commands (xs ++ ys)) ≤ length before → Copies xs before 0 at buffer
    → at + length (commands ys) ≤ length buffer
room_behind xs ys before buffer at l c =
    let m = commands_length xs ys in
    let a : at ≡ length (commands xs) = c.at ∙ zero-add (length (commands xs)) in
    let b : length buffer ≡ length before = ap length c.is ∙ length_put (commands xs) before 0 (omega arith) in
    omega arith

module _ (es : List Event) (numbers : List ℕ) (stamps : List Stamp) (size : ℕ) (before : List ℕ) where
  abbrev all : List Event
  all = groups es (number_in numbers) (stamp_in stamps) size 0 (λ t. 0)

  pub begun : Grouping es numbers stamps size before no_stamp before 0 0
  begun =
      record {
        beyond = λ t. 0;
        sized = refl;
        agrees = λ t l. get_or-replicate threads t 0 0 l;
        done = [];
        whole = ap (λ (k : ℕ). groups es (number_in numbers) (stamp_in stamps) k 0 (λ t. 0)) (let m : size - 0 ≡ size = omega arith in m);
        copies = record { at = refl; is = refl };
      }

  module _ (fits : length (commands all) < length before) {written : Stamp} {buffer : List ℕ} {at j : ℕ} (g : Grouping es numbers stamps size before written buffer at j) where
    -- ---- one more group

    module _ (l : j < size) (low : number_in numbers j ≤ length es) where
      stamp : Stamp
      stamp = get_or stamps j no_entry

      abbrev test : ℕ → ℕ → Bool
      test t p = between (g.beyond t) (stamp_in stamps j t) p

      pub tells : Tells test es written (get_or stamps j no_entry)
      tells t p u v = ap (λ (k : ℕ). between k (stamp_in stamps j t) p) (sym (g.agrees t u))

      abbrev now : List Event
      now = copied test es (min (number_in numbers j) (length es))

      now_is : now ≡ copied test es (number_in numbers j)
      now_is = ap (copied test es) (let m : min (number_in numbers j) (length es) ≡ number_in numbers j = omega arith in m)

      left_is : size - j ≡ suc (size - suc j)
      left_is = omega arith

      later : List Event
      later = groups es (number_in numbers) (stamp_in stamps) (size - suc j) (suc j) (λ t. max (g.beyond t) (stamp_in stamps j t))

      whole_now : (g.done ++ now) ++ later ≡ all
      unfolding later
      whole_now =
          append_assoc g.done now later
          ∙ ap (λ (xs : List Event). g.done ++ (xs ++ later)) now_is
          ∙ ap (λ (k : ℕ). g.done ++ groups es (number_in numbers) (stamp_in stamps) k j g.beyond) (sym left_is)
          ∙ g.whole

      short : length (commands (g.done ++ now)) ≤ length before
      short = let h = ap (λ (xs : List Event). length (commands xs)) whole_now in let k = commands_length (g.done ++ now) later in omega arith

      pub room : at + length (commands now) ≤ length buffer
      room = room_behind g.done now before buffer at short g.copies

      pub next_group : (to : ℕ) (after : List ℕ) → Copies now buffer at to after
          → Grouping es numbers stamps size before (higher_of written (get_or stamps j no_entry)) after to (j + 1)
      unfolding later
      next_group to after c =
          rw (add-one j)
          (record {
            beyond = λ t. max (g.beyond t) (stamp_in stamps j t);
            sized = heard_length written (get_or stamps j no_entry).at 0 g.sized;
            agrees = λ t u.
                heard_from_lem written (get_or stamps j no_entry).at 0 t g.sized u
                ∙ ap₂ max (g.agrees t u) (ap (λ (k : ℕ). get_or (get_or stamps j no_entry).at k 0) (zero-add t));
            done = g.done ++ now;
            whole = whole_now;
            copies = both g.done now before buffer after at to short g.copies c;
          })

    -- ---- the rest, and the closing 00

    module _ (z : j ≡ size) (few : length es ≤ events) where
      abbrev beyond_all : ℕ → ℕ → Bool
      beyond_all t p = ltb (g.beyond t) p

      abbrev rest : List Event
      rest = copied beyond_all es (min events (length es))

      pub tells_rest : Tells beyond_all es written (record { at = replicate threads events })
      tells_rest t p u v =
          rw (← g.agrees t u, get_or-replicate threads t events 0 u, le-leb p events (omega arith)) (and-true (ltb (count_in written t) p))
        where
          and-true : (b : Bool) → b ≡ b && true
          and-true true = refl
          and-true false = refl

      rest_is : g.done ++ rest ≡ all
      rest_is =
          ap (λ (n : ℕ). g.done ++ copied beyond_all es n) (let m : min events (length es) ≡ length es = omega arith in m)
          ∙ ap (λ (k : ℕ). g.done ++ groups es (number_in numbers) (stamp_in stamps) k j g.beyond) (let m : 0 ≡ size - j = omega arith in m)
          ∙ g.whole

      short_rest : length (commands (g.done ++ rest)) ≤ length before
      short_rest = let h = ap (λ (xs : List Event). length (commands xs)) rest_is in omega arith

      pub room_rest : at + length (commands rest) ≤ length buffer
      room_rest = room_behind g.done rest before buffer at short_rest g.copies

      module _ (to : ℕ) (after : List ℕ) (c : Copies rest buffer at to after) where
        done_all : Copies all before 0 to after
        done_all = subst (λ (xs : List Event). Copies xs before 0 to after) rest_is (both g.done rest before buffer after at to short_rest g.copies c)

        pub room_closing : to + 1 ≤ length after
        room_closing =
            let a : to ≡ length (commands all) = done_all.at ∙ zero-add (length (commands all)) in
            let b : length after ≡ length before = ap length done_all.is ∙ length_put (commands all) before 0 (omega arith) in
            omega arith

        pub closed_log : (last : ℕ) (end : List ℕ) → (last ≡ to + 1) × (end ≡ put closing after to) → (last ≡ length (log_bytes all)) × (end ≡ put (log_bytes all) before 0)
        closed_log last end h = (
          let a : to ≡ length (commands all) = done_all.at ∙ zero-add (length (commands all)) in let b = log_length all in let k = h.0 in omega arith,
          h.1
              ∙ ap₂ (put closing) done_all.is done_all.at
              ∙ put_more (commands all) closing before 0 (omega arith)
              ∙ ap (λ (x : List ℕ). put x before 0) (sym (log_commands all)),
        )
