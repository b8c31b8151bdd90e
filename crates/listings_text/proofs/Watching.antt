-- What is kept of the pattern files, one file after another.
use Prim.Native.Nat.{ℕ, zero, suc, ◌+◌, ◌<◌, ◌≤◌}
use native.Mathlib.Decide.{dec_lt}
use native.Mathlib.Omega.{arith}
use mathlib.Core.Path.{◌≡◌, refl, sym, ap, ap₂, ◌∙◌}
use mathlib.Core.List.{List, [], ◌∷◌, ◌++◌}
use lib.Dec.{eqb, ltb}
use lib.ListN.{length, get_or, set, length-set, replicate, length-replicate, get_or-replicate}
use lib.Seq.{get_or-set_same, get_or-set_other}
use borrow.Author.Tests.{ltb-true, ltb-false, eqb-true, eqb-false}
use Rattle.std.specs.Prelude.{Some, None, Result, Ok, Err}
use Rattle.event.specs.declared.Slot.{Slot}
use Rattle.event.specs.declared.refusal.Refused as event
use Rattle.event.specs.Refusals.{refusal_number}
use Rattle.event.proofs.Tests.{by_test}
use Rattle.event_log.specs.Whole.{Whole, accepted, refused, Passing, passed, outcome_of, passing_is, read_pattern}
use Rattle.page.specs.Lines.{longest}
use Rattle.session.specs.declared.Session.{Session}
use Rattle.session.specs.declared.Opened.{Opened}
use Rattle.session.specs.Model.{slots_used}
use Rattle.session.specs.Meaning.{Describes, OpenedOn}
use Rattle.session_row.specs.Row.{most, places}
use Rattle.row_pass.specs.Passing.{past_session}
use Rattle.listings_text.specs.declared.Watched.{Watched}
use Rattle.listings_text.specs.Listings.{File, absent, holds}
use Rattle.listings_text.specs.Lines.{Finding, found_by, found_of, past_entry}
use Rattle.listings_text.specs.Watched.{FoundOf, no_file, long, not_read, looked_for, WatchedOf}

-- ---- one file

unfoldable pub number_of : Passing → ℕ
number_of (passed n) = 0
number_of (Passing.refused k o) = k

unfoldable pub offset_of : Passing → ℕ
offset_of (passed n) = 0
offset_of (Passing.refused k o) = o

-- nothing is both passed and refused
pub not_both : {A : Type 0} {n k o : ℕ} → passed n ≡ Passing.refused k o → A
not_both {n = n} {k = k} {o = o} e = absurd (let z : ◌≡◌ {A = Passing} (passed n) (Passing.refused k o) = e in let y : ◌≡◌ {A = ℕ} 0 1 = cc in let f : ⊥ = omega arith in f)

by_answer : (bytes : List ℕ) (s : Session) (a : Result ℕ event.Refused) (w : Whole Slot) → length bytes ≤ longest → passing_is a ≡ outcome_of w → read_pattern bytes ≡ w
    → Describes (slots_used w) [] s → FoundOf (holds bytes) (Some (found_by a)) s
unfolding number_of offset_of
by_answer bytes s (Ok n) (accepted ss) l e q d = looked_for l q d
by_answer bytes s (Ok n) (refused k o) l e q d = not_both e
by_answer bytes s (Err r) (accepted ss) l e q d = not_both (sym e)
by_answer bytes s (Err r) (refused k' o') l e q d =
    let nk : refusal_number r.reason ≡ k' = ap number_of e in
    let no : r.offset ≡ o' = ap offset_of e in
    not_read l (q ∙ ap₂ refused (sym nk) (sym no))

found_is_lem : (bytes : List ℕ) (o : Opened) → OpenedOn bytes o → FoundOf (holds bytes) (Some (found_of (length bytes) o.answer)) o.session
found_is_lem bytes o h =
    by_test (ltb longest (length bytes))
    (λ q. rw q (long (ltb-true longest (length bytes) q)))
    (λ q. rw q (by_answer bytes o.session o.answer (read_pattern bytes) (ltb-false longest (length bytes) q) h.answer refl h.described))

-- ---- one file more

more_absent : (files : List File) (k : ℕ) → get_or (files ++ (absent ∷ [])) k absent ≡ get_or files k absent
more_absent [] zero = refl
more_absent [] (suc k) = refl
more_absent (f ∷ files) zero = refl
more_absent (f ∷ files) (suc k) = more_absent files k

more_last : (files : List File) (f : File) (k : ℕ) → length files ≡ k → get_or (files ++ (f ∷ [])) k absent ≡ f
more_last [] f zero q = refl
more_last [] f (suc k) q = absurd (let z : ⊥ = omega arith in z)
more_last (g ∷ files) f zero q = absurd (let z : ⊥ = omega arith in z)
more_last (g ∷ files) f (suc k) q = more_last files f k (let h : length files ≡ k = omega arith in h)

more_other : (files : List File) (f : File) (k : ℕ) → (length files ≡ k → ⊥) → get_or (files ++ (f ∷ [])) k absent ≡ get_or files k absent
more_other [] f zero d = absurd (d refl)
more_other [] f (suc k) d = refl
more_other (g ∷ files) f zero d = refl
more_other (g ∷ files) f (suc k) d = more_other files f k (λ q. d (ap suc q))

past_end : (files : List File) (k : ℕ) → length files ≤ k → get_or files k absent ≡ absent
past_end [] k l = refl
past_end (f ∷ files) zero l = absurd (let z : ⊥ = omega arith in z)
past_end (f ∷ files) (suc k) l = past_end files k (let h : length files ≤ k = omega arith in h)

-- a file that is looked for is there
is_there : {f : File} {x : Finding} {s : Session} → FoundOf f x s → x ≡ Some (Ok tt) → f ≡ absent → ⊥
is_there no_file q e = let z : ◌≡◌ {A = Finding} None (Some (Ok tt)) = q in let y : ◌≡◌ {A = ℕ} 0 1 = cc in let f : ⊥ = omega arith in f
is_there (long {bytes = bytes} l) q e = let z : ◌≡◌ {A = File} (holds bytes) absent = e in let y : ◌≡◌ {A = ℕ} 0 1 = cc in let f : ⊥ = omega arith in f
is_there (not_read {bytes = bytes} l r) q e = let z : ◌≡◌ {A = File} (holds bytes) absent = e in let y : ◌≡◌ {A = ℕ} 0 1 = cc in let f : ⊥ = omega arith in f
is_there (looked_for {bytes = bytes} l r d) q e = let z : ◌≡◌ {A = File} (holds bytes) absent = e in let y : ◌≡◌ {A = ℕ} 0 1 = cc in let f : ⊥ = omega arith in f

pub none_opened : (files : List File) (w : Watched) → WatchedOf files w → WatchedOf (files ++ (absent ∷ [])) w
none_opened files w h = record { each = λ k l. rw (more_absent files k) (h.each k l); entries = h.entries; sessions = h.sessions; few = h.few; among = h.among }

module _ (files : List File) (w : Watched) (h : WatchedOf files w) (k : ℕ) (here : length files ≡ k) (low : k < most)
    (bytes : List ℕ) (o : Opened) (on : OpenedOn bytes o) where
  abbrev after : Watched
  after =
      record {
        entries = set w.entries k (Some (found_of (length bytes) o.answer));
        sessions = set w.sessions k o.session;
        used = k + 1;
      }

  each_after : (j : ℕ) → j < most → FoundOf (get_or (files ++ (holds bytes ∷ [])) j absent) (get_or after.entries j past_entry) (get_or after.sessions j past_session)
  each_after j l =
      by_test (eqb k j)
      (λ z.
      let q : k ≡ j = eqb-true k j z in
      rw (sym q, more_last files (holds bytes) k here, get_or-set_same w.entries k (Some (found_of (length bytes) o.answer)) past_entry (rw h.entries low), get_or-set_same w.sessions k o.session past_session (let n = h.sessions in omega (arith, n)))
      (found_is_lem bytes o on))
      (λ z.
      let d : k ≡ j → ⊥ = eqb-false k j z in
      rw (more_other files (holds bytes) j (λ q. d (sym here ∙ q)), get_or-set_other w.entries k j (Some (found_of (length bytes) o.answer)) past_entry (λ q. d (sym q)), get_or-set_other w.sessions k j o.session past_session (λ q. d (sym q)))
      (h.each j l))

  among_after : (j : ℕ) → j < most → (get_or after.entries j past_entry) ≡ Some (Ok tt) → j < k + 1
  among_after j l q = go (dec_lt j (k + 1))
    where
      go : Dec (j < k + 1) → j < k + 1
      go (yes y) = y
      go (no d) =
          absurd (is_there (h.each j l) (rw (sym (get_or-set_other w.entries k j (Some (found_of (length bytes) o.answer)) past_entry (λ p. d (let z : j < k + 1 = omega arith in z)))) q) (past_end files j (omega arith)))

  pub one_opened : WatchedOf (files ++ (holds bytes ∷ [])) after
  one_opened = record { each = each_after; entries = length-set w.entries k _ ∙ h.entries; sessions = length-set w.sessions k _ ∙ h.sessions; few = omega arith; among = among_after }

-- before any file
pub before_all : (s : Session) → WatchedOf [] (record { entries = replicate most past_entry; sessions = replicate places s; used = 0 })
before_all s =
    record {
      each = λ k l. rw (get_or-replicate most k past_entry past_entry l) no_file;
      entries = length-replicate most past_entry;
      sessions = length-replicate places s;
      few = omega arith;
      among = λ k l q. absurd (is_there {s = s} no_file (rw (get_or-replicate most k past_entry past_entry l) at q) refl);
    }
