-- The lines by what is kept of the files are those of `listings`.
use Prim.Native.Nat.{ℕ, zero, suc, ◌<◌, ◌≤◌}
use native.Mathlib.Omega.{arith}
use mathlib.Core.Path.{◌≡◌, refl, sym, ap, subst, ◌∙◌}
use mathlib.Core.Bool.{false≢true}
use mathlib.Core.List.{List, [], ◌++◌, append_assoc, reverse, reverse-reverse}
use lib.Dec.{eqb}
use lib.ListN.{length, get_or, take}
use lib.Seq.{take-suc, take-length, length-take-le}
use Rattle.std.specs.Prelude.{Some, Ok, Err}
use Rattle.event.specs.declared.Event.{Event}
use Rattle.event.specs.Refusals.{refusal_number}
use Rattle.event.specs.declared.Slot.{Slot}
use Rattle.event.proofs.Tests.{by_test}
use Rattle.rules.proofs.AcceptedLists.{all_taken}
use Rattle.event_log.specs.Whole.{accepted, read_log, read_pattern}
use Rattle.dependence.specs.Order.{HasMatch, IsCount}
use Rattle.page.specs.Text.{ascii}
use Rattle.page.specs.Lines.{longest}
use Rattle.listing_text.specs.Listing as listing
use Rattle.listing_text.specs.Listing.{Listing}
use Rattle.listing_text.proofs.Judgement.{lines_per_slot}
use Rattle.session.specs.declared.Session.{Session}
use Rattle.session.specs.Model.{handed_all, verdict_of}
use Rattle.session.specs.Meaning.{Describes, VerdictOf}
use Rattle.session.specs.Answers.{verdict_is}
use Rattle.session.proofs.Described.{verdict_described}
use Rattle.session.proofs.Demand.{after_all}
use Rattle.session.proofs.OneAnswer.{one_first}
use Rattle.session_row.specs.Row.{most}
use Rattle.row_pass.specs.declared.FileFault.TheVariants.{TooLong}
use Rattle.row_pass.specs.Passing.{past_session, EndsAs, broken, whole, PassedBy}
use Rattle.listings_text.specs.declared.Watched.{Watched}
use Rattle.listings_text.specs.Listings.{File, absent, holds, file_name, first_line, Line, no_line, one_line, Listings, none, one_more}
use Rattle.listings_text.specs.Lines.{Finding, End, name_text, found_line, line_of, past_entry, lines_before}
use Rattle.listings_text.specs.Watched.{FoundOf, no_file, long, not_read as bad, looked_for, WatchedOf}
use Rattle.listings_text.proofs.FirstLine.{refusal_line_lem, pattern_refusal_line_lem, match_line_lem}

-- how a log ended, whatever its length
pub data Ends (log : List ℕ) : End → Type 0 where
  too_long : longest < length log → Ends log (Err TooLong)
  gone_through : {end : End} → length log ≤ longest → EndsAs log end → Ends log end

pub not_read : {A : Type 0} → ◌≡◌ {A = End} (Err TooLong) (Ok tt) → A
not_read e = absurd (let z : ◌≡◌ {A = End} (Err TooLong) (Ok tt) = e in let y : ◌≡◌ {A = ℕ} 0 1 = cc in let f : ⊥ = omega arith in f)

-- ---- one line

line_is : (n : ℕ) {pattern log text line : List ℕ} → Listing pattern log text → first_line text ≡ line → Line log n (holds pattern) (name_text n ++ line)
line_is n {log = log} {text = text} {line = line} h q =
    subst (Line log n _) (ap (λ (l : List ℕ). file_name n ++ ascii ": " ++ l) q ∙ sym (append_assoc (file_name n) (ascii ": ") line)) (one_line h)

-- of a pattern that was looked for, its session as it is once the log has been gone through
module _ (pattern log : List ℕ) (ss : List Slot) (p : read_pattern pattern ≡ accepted ss) (few : length pattern ≤ longest) (short : length log ≤ longest) (es : List Event)
    (q : read_log log ≡ accepted es) (s : Session) (d : Describes ss es s) (n : ℕ) where
  verdict : VerdictOf ss es (verdict_is (verdict_of s))
  verdict = verdict_described ss es s d

  found : Line log n (holds pattern) (name_text n ++ found_line (verdict_of s).found)
  unfolding first_line
  found =
      by_test (eqb s.count 0)
      (λ z. rw z (line_is n (listing.judged few short (listing.no_match p q (λ m. false≢true (rw z at (verdict.matches.1 m))))) refl))
      (λ z.
      let has : HasMatch ss es = verdict.matches.0 (rw z) in
      let count : IsCount ss es s.count = rw z at verdict.count in
      let first = one_first ss es has count in
      let lines = lines_per_slot log es q ss first.0 [] 1 first.1.named.fitting refl in
      rw z (line_is n (listing.judged few short (listing.match p q has count first.1 lines)) (match_line_lem s.count _)))

-- of any file, by how the log ended
module _ (log : List ℕ) (n : ℕ) where
  lined : {f : File} {x : Finding} {s after : Session} {end : End} → FoundOf f x s → Ends log end
      → ((es : List Event) → x ≡ Some (Ok tt) → end ≡ Ok tt → read_log log ≡ accepted es → after ≡ handed_all s es) → Line log n f (line_of end n x after)
  unfolding first_line
  lined no_file e a = no_line
  lined (long l) e a = line_is n (listing.long_pattern l) refl
  lined (bad l r) (too_long t) a = line_is n (listing.long_log t) refl
  lined (bad {r = x} l r) (gone_through t (broken b)) a = line_is n (listing.judged l t (listing.pattern_refused r)) (pattern_refusal_line_lem (refusal_number x.reason) x.offset)
  lined (bad {r = x} l r) (gone_through t (whole good b)) a = line_is n (listing.judged l t (listing.pattern_refused r)) (pattern_refusal_line_lem (refusal_number x.reason) x.offset)
  lined (looked_for l r d) (too_long t) a = line_is n (listing.long_log t) refl
  lined (looked_for l r d) (gone_through t (broken {r = x} b)) a = line_is n (listing.judged l t (listing.log_refused r b)) (refusal_line_lem (refusal_number x.reason) x.offset)
  lined (looked_for {bytes = bytes} {ss = ss} {s = s} l r d) (gone_through t (whole {es = es} good b)) a =
      found bytes log ss r l t es b _
      (subst (Describes ss es) (sym (a es refl refl b)) (subst (λ (l : List Event). Describes ss l (handed_all s es)) (ap reverse (all_taken es good) ∙ reverse-reverse es) (after_all ss [] s d es).1)) n

-- ---- all lines

module _ (log : List ℕ) (files : List File) (end : End) (entries : List Finding) (sessions : List Session)
    (each : (k : ℕ) → k < most → Line log (suc k) (get_or files k absent) (line_of end (suc k) (get_or entries k past_entry) (get_or sessions k past_session)))
    (many : length files ≡ most) where
  pub lines_up_to : (k : ℕ) → k ≤ most → Listings (take k files) log (lines_before end entries sessions k)
  unfolding lines_before
  lines_up_to zero h = none
  lines_up_to (suc k) h =
      let low : k < length files = omega arith in
      let size : length (take k files) ≡ k = length-take-le k files (omega arith) in
      subst (λ (fs : List File). Listings fs log (lines_before end entries sessions (suc k))) (sym (take-suc files k absent low))
      (one_more (lines_up_to k (omega arith)) (rw size (each k (omega arith))))

  pub all_lines : Listings files log (lines_before end entries sessions most)
  all_lines = subst (λ (fs : List File). Listings fs log (lines_before end entries sessions most)) (ap (λ (n : ℕ). take n files) (sym many) ∙ take-length files) (lines_up_to most (omega arith))

pub all_listed : (log : List ℕ) (files : List File) (w : Watched) (end : End) (after : List Session) → WatchedOf files w → length files ≡ most → Ends log end
    → ((es : List Event) → end ≡ Ok tt → read_log log ≡ accepted es → PassedBy w.used w.sessions es after) → Listings files log (lines_before end w.entries after most)
all_listed log files w end after h many e by_Row =
    all_lines log files end w.entries after (λ k l. lined log (suc k) (h.each k l) e (λ es q z r. by_Row es z r k (h.among k l q))) many
