-- Document 01, "Bench trials" and "Questions to put to each contract": "The starred trials are gathered in a table and proved of the definitions by a lone theorem."
-- What a row means, then the table, trial by trial. The theorem is `every_trial` in proofs/EveryTrial.antt.
use Rattle.std.specs.Prelude.{ℕ, ◌≡◌, List, [], ◌∷◌, ◌++◌, ℤ, pos, neg_ℤ}
use Rattle.event.specs.declared.Event.{Event}
use Rattle.event.specs.declared.Slot.{Slot}
use Rattle.event.specs.Limits.{former_threads}
use Rattle.command.specs.Bytes.{Bytes}
use Rattle.event_log.specs.Whole.{Passing, passed, accepted, outcome_of, read_log, read_log_under, read_pattern}
use Rattle.dependence.specs.Order.{HasMatch, IsCount, Named, IsFirst}
use Rattle.page.specs.Text.{ascii}
use Rattle.listing_text.specs.Text.{height_text, former_height_text}

-- ---- what a row means

-- what a trial says of a pattern and a log: "match at" a count, with the "events", a number for each slot; or "none"
pub data Verdict : Type 0 where
  match : ℕ → List ℕ → Verdict
  none : Verdict

-- a row of the table: of a pattern and a log, by their bytes, the verdict; of a log, the verdict with "any good pattern";
-- of a log, that it is taken, with how many events, or the number and offset of its refusal; the same under the limit of threads that document 01
-- had; of a height in mm, its text; the same by the rounding that document 01 had
pub data Trial : Type 0 where
  judged : List ℕ → List ℕ → Verdict → Trial
  any_pattern : List ℕ → Verdict → Trial
  reads : List ℕ → Passing → Trial
  formerly : List ℕ → Passing → Trial
  prints : ℤ → List ℕ → Trial
  formerly_prints : ℤ → List ℕ → Trial

-- the verdict is that of the slots and the events: "A list has a match when some order reached from it holds the pattern,
-- else none."; the count is the list's, and the numbers are the first list, which a run names, and the only ones that can be
-- named with the match
abbrev pub IsVerdict : List Slot → List Event → Verdict → Type 0
IsVerdict ss es (match n numbers) =
    HasMatch ss es × IsCount ss es n × IsFirst ss es n numbers × ((others : List ℕ) → Named ss es n others → others ≡ numbers)
IsVerdict ss es none = ¬ HasMatch ss es

-- what a row says, by the definitions: its pattern and its log are accepted, and the verdict is that of their slots and events;
-- or the log is read with that outcome; or the height is printed so
abbrev pub Shows : Trial → Type 0
Shows (judged pattern log v) =
    (ss : List Slot) × (es : List Event) × (read_pattern pattern ≡ accepted ss) × (read_log log ≡ accepted es) × IsVerdict ss es v
Shows (any_pattern log v) =
    (es : List Event) × (read_log log ≡ accepted es)
    × ((pattern : List ℕ) → Bytes pattern → (ss : List Slot) → read_pattern pattern ≡ accepted ss → IsVerdict ss es v)
Shows (reads log outcome) = outcome_of (read_log log) ≡ outcome
Shows (formerly log outcome) = outcome_of (read_log_under former_threads log) ≡ outcome
Shows (prints mm text) = height_text mm ≡ text
Shows (formerly_prints mm text) = former_height_text mm ≡ text

-- every row of the table is so
pub data All (P : Trial → Type 0) : List Trial → Type 0 where
  none : All P []
  more : {t : Trial} {ts : List Trial} → P t → All P ts → All P (t ∷ ts)

-- ---- the bytes and heights of a row

-- "T1, T0 are threads."
abbrev pub T0 : ℕ
T0 = 0

abbrev pub T1 : ℕ
T1 = 1

-- "byte | event | operands after the byte, each with its width in bytes": the commands in the trials, their numbers below 256
abbrev pub read : ℕ → ℕ → List ℕ
read thread variable = 0x01 ∷ thread ∷ variable ∷ []

abbrev pub write : ℕ → ℕ → List ℕ
write thread variable = 0x02 ∷ thread ∷ variable ∷ []

-- "height 4 (log only)"
abbrev pub height_0 : List ℕ
height_0 = 0x00 ∷ 0x00 ∷ 0x00 ∷ 0x00 ∷ []

abbrev pub acquire : ℕ → ℕ → List ℕ
acquire thread lock = 0x03 ∷ thread ∷ lock ∷ []

abbrev pub release : ℕ → ℕ → List ℕ
release thread lock = 0x04 ∷ thread ∷ lock ∷ []

abbrev pub fork : ℕ → ℕ → List ℕ
fork thread child = 0x05 ∷ thread ∷ child ∷ []

abbrev pub mark : ℕ → ℕ → List ℕ
mark thread m = 0x07 ∷ thread ∷ m ∷ 0x00 ∷ []

-- "a row of commands, .. closed by `00`"
abbrev pub closed : List (List ℕ) → List ℕ
closed [] = 0x00 ∷ []
closed (command ∷ commands) = command ++ closed commands

-- a height below zero
abbrev pub minus : ℕ → ℤ
minus mm = neg_ℤ (pos mm)

-- ---- the table

-- the pattern of trials 2 and 3: "pattern T1 10, T0 20, T0 21, T1 11"
abbrev pub across : List ℕ
across = closed (mark T1 10 ∷ mark T0 20 ∷ mark T0 21 ∷ mark T1 11 ∷ [])

-- the pattern of trial 4: "Pattern T0 mark 7 twice"
abbrev pub twice : List ℕ
twice = closed (mark T0 7 ∷ mark T0 7 ∷ [])

-- where document 01 names no events, those that the verdict names stand here
abbrev pub trials : List Trial
trials =
    -- 1. "Log `00`, any good pattern: none."
    any_pattern (0x00 ∷ []) none
    -- 2. "T1 mark 10, T1 mark 11, T0 mark 20, T0 mark 21; pattern T1 10, T0 20, T0 21, T1 11: match at 4, events 1, 3, 4, 2."
    ∷ judged across (closed (mark T1 10 ∷ mark T1 11 ∷ mark T0 20 ∷ mark T0 21 ∷ [])) (match 4 (1 ∷ 3 ∷ 4 ∷ 2 ∷ []))
    -- 3. "The same with each thread's marks inside an acquire and release of lock 0: none."
    ∷ judged across
    (closed
    (acquire T1 0 ∷ mark T1 10 ∷ mark T1 11 ∷ release T1 0 ∷ acquire T0 0 ∷ mark T0 20 ∷ mark T0 21 ∷ release T0 0 ∷ []))
    none
    -- 4. "Pattern T0 mark 7 twice, one such event: none."
    ∷ judged twice (closed (mark T0 7 ∷ [])) none
    -- "Two such: match at 2."
    ∷ judged twice (closed (mark T0 7 ∷ mark T0 7 ∷ [])) (match 2 (1 ∷ 2 ∷ []))
    -- 5. "T0 read 3, T1 read 3; pattern T1 read 3, T0 read 3: match at 2."
    ∷ judged (closed (read T1 3 ∷ read T0 3 ∷ [])) (closed (read T0 3 ∷ read T1 3 ∷ [])) (match 2 (2 ∷ 1 ∷ []))
    -- "With T0's a write in both log and pattern: none."
    ∷ judged (closed (read T1 3 ∷ write T0 3 ∷ [])) (closed ((write T0 3 ++ height_0) ∷ read T1 3 ∷ [])) none
    -- 6. "T0 acquires lock 2 twice": "Trial 6 is now accepted." (Note 3)
    ∷ reads (closed (acquire T0 2 ∷ acquire T0 2 ∷ [])) (passed 2)
    -- 7. "T0 forks 1, T1 mark 5; pattern T1 mark 5, T0 fork 1: none."
    ∷ judged (closed (mark T1 5 ∷ fork T0 1 ∷ [])) (closed (fork T0 1 ∷ mark T1 5 ∷ [])) none
    -- 8. "Thread 7 is taken, 8 gives 5.": under the limit that document 01 had
    ∷ formerly (closed (mark 7 5 ∷ [])) (passed 1)
    ∷ formerly (closed (mark 8 5 ∷ [])) (Passing.refused 5 0)
    -- "in trial 8 thread 8 is accepted" (Note 7), and so is 15; "Refusal 5 and the child case of 6 begin at 16"
    ∷ reads (closed (mark 7 5 ∷ [])) (passed 1)
    ∷ reads (closed (mark 8 5 ∷ [])) (passed 1)
    ∷ reads (closed (mark 15 5 ∷ [])) (passed 1)
    ∷ reads (closed (mark 16 5 ∷ [])) (Passing.refused 5 0)
    ∷ reads (closed (fork T0 15 ∷ [])) (passed 1)
    ∷ reads (closed (fork T0 16 ∷ [])) (Passing.refused 6 0)
    -- "Variable 31 is taken, 32 gives 6."
    ∷ reads (closed (read T0 31 ∷ [])) (passed 1)
    ∷ reads (closed (read T0 32 ∷ [])) (Passing.refused 6 0)
    -- 9. "49 mm prints 0.0, 50 prints 0.1, −49 prints 0.0, −50 prints -0.1, −400 prints -0.4; −2,147,483,648 prints -2147483.6.": by the rounding that
    -- document 01 had
    ∷ formerly_prints (pos 49) (ascii "0.0")
    ∷ formerly_prints (pos 50) (ascii "0.1")
    ∷ formerly_prints (minus 49) (ascii "0.0")
    ∷ formerly_prints (minus 50) (ascii "-0.1")
    ∷ formerly_prints (minus 400) (ascii "-0.4")
    ∷ formerly_prints (minus 2_147_483_648) (ascii "-2147483.6")
    -- "Trial 9 changes at 50 and −50 only." (Note 8)
    ∷ prints (pos 49) (ascii "0.0")
    ∷ prints (pos 50) (ascii "0.0")
    ∷ prints (minus 49) (ascii "0.0")
    ∷ prints (minus 50) (ascii "0.0")
    ∷ prints (minus 400) (ascii "-0.4")
    ∷ prints (minus 2_147_483_648) (ascii "-2147483.6")
    -- "150 prints 0.2, 250 prints 0.2, 350 prints 0.4"
    ∷ prints (pos 150) (ascii "0.2")
    ∷ prints (pos 250) (ascii "0.2")
    ∷ prints (pos 350) (ascii "0.4")
    ∷ []
