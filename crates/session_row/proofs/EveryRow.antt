-- Over every list of events each session of a row is as it would be alone.
use Prim.Native.Nat.{ℕ, ◌≤◌}
use mathlib.Core.Path.{◌≡◌, refl, sym, ap, ap₂, ◌∙◌}
use mathlib.Core.List.{List, [], ◌∷◌, map, map-map, reverse, reverse-reverse}
use lib.ListN.{length, length-map, replicate}
use borrow.Author.Tests.{le-leb}
use Rattle.event.specs.declared.Event.{Event}
use Rattle.event.specs.declared.Slot.{Slot}
use Rattle.rules.specs.Accepted.{refusal_after, taken_after}
use Rattle.event_log.specs.Whole.{read_pattern}
use Rattle.session.specs.declared.Session.{Session}
use Rattle.session.specs.declared.Opened.{Opened}
use Rattle.session.specs.Answers.{Refusal}
use Rattle.session.specs.Model.{slots_used, handed_all}
use Rattle.session.specs.Meaning.{taken_by, Describes}
use Rattle.session.specs.History.{refusals, refusals_under, EveryHistory}
use Rattle.session.proofs.Described.{handed_described}
use Rattle.session.proofs.Demand.{every_history}
use Rattle.trace.specs.Match.{Each, none, more}
use Rattle.session_row.specs.Row.{most, numbers_over, Alone, alone_with}
use Rattle.session_row.specs.RowHistory.{row_after_all, row_numbers_all, EachOpened, sessions_of, EveryRow}

-- ---- any sessions, any events

map_same : {A B : Type 0} (f g : A → B) → ((a : A) → f a ≡ g a) → (l : List A) → map f l ≡ map g l
map_same f g h [] = refl
map_same f g h (a ∷ l) = ap₂ ◌∷◌ (h a) (map_same f g h l)

map_itself : {A : Type 0} (f : A → A) → ((a : A) → f a ≡ a) → (l : List A) → l ≡ map f l
map_itself f h [] = refl
map_itself f h (a ∷ l) = ap₂ ◌∷◌ (sym (h a)) (map_itself f h l)

-- `all` says what a session alone is after each event of a list in turn
module _ {K E : Type 0} (alone : E → K → Alone K) (all : List E → K → K) (nothing : (s : K) → all [] s ≡ s)
    (onward : (e : E) (es : List E) (s : K) → all es (alone e s).after ≡ all (e ∷ es) s) where
  pub each_alone : (es : List E) (row : List K) → length row ≤ most → row_after_all alone row es ≡ map (all es) row
  unfolding row_after_all
  each_alone [] row h = map_itself (all []) nothing row
  each_alone (e ∷ es) row h =
      let h' : length (map (λ s. (alone e s).after) row) ≤ most = rw (length-map row (λ s. (alone e s).after)) h in
      rw (le-leb (length row) most h)
      (each_alone es (map (λ s. (alone e s).after) row) h' ∙ map-map (all es) (λ s. (alone e s).after) row ∙ map_same _ _ (onward e es) row)

-- where the sessions of a row answer alike, and go on doing so: `D a p s` says so of the session s, which has an a of its own and shares the past p; `numbers_by` which numbers they are
module _ {A K E P : Type 0} (alone : E → K → Alone K) (D : A → P → K → Type 0) (number : P → E → ℕ) (next : P → E → P)
    (one : (a : A) (p : P) (s : K) → D a p s → (e : E) → ((alone e s).number ≡ number p e) × D a (next p e) (alone e s).after)
    (numbers_by : P → List E → List ℕ) (nothing : (p : P) → [] ≡ numbers_by p [])
    (onward : (p : P) (e : E) (es : List E) → number p e ∷ numbers_by (next p e) es ≡ numbers_by p (e ∷ es)) where
  one_event_lem : (us : List A) (p : P) (row : List K) → Each (λ a s. D a p s) us row → (e : E)
      → (map (λ s. (alone e s).number) row ≡ replicate (length row) (number p e)) × Each (λ a s. D a (next p e) s) us (map (λ s. (alone e s).after) row)
  one_event_lem us p row ds e = go us row ds
    where
      go : (us : List A) (row : List K) → Each (λ a s. D a p s) us row
          → (map (λ s. (alone e s).number) row ≡ replicate (length row) (number p e)) × Each (λ a s. D a (next p e) s) us (map (λ s. (alone e s).after) row)
      go _ _ none = (refl, none)
      go _ _ (more {s = a} {ss = us} {a = s} {rest = row} d ds) =
          let here = one a p s d e in
          let rest = go us row ds in
          (ap₂ ◌∷◌ here.0 rest.0, more here.1 rest.1)

  pub numbers_alike : (es : List E) (us : List A) (p : P) (row : List K) → length row ≤ most → Each (λ a s. D a p s) us row
      → row_numbers_all alone row es ≡ map (λ k. numbers_over (replicate (length row) k)) (numbers_by p es)
  unfolding row_numbers_all
  numbers_alike [] us p row h ds = ap (λ (ks : List ℕ). map (λ k. numbers_over (replicate (length row) k)) ks) (nothing p)
  numbers_alike (e ∷ es) us p row h ds =
      let n = length-map row (λ s. (alone e s).after) in
      let h' : length (map (λ s. (alone e s).after) row) ≤ most = rw n h in
      let turn = one_event_lem us p row ds e in
      let rest = numbers_alike es us (next p e) (map (λ s. (alone e s).after) row) h' turn.1 in
      rw (le-leb (length row) most h, turn.0, sym (onward p e es)) (ap₂ ◌∷◌ refl (rw n at rest))

-- ---- sessions held by value, fresh from their openings

-- each on its own slots, all with the same events taken
opened_alike : (patterns : List (List ℕ)) (row : List Opened) → EachOpened patterns row
    → Each (λ ss s. Describes ss [] s) (map (λ bytes. slots_used (read_pattern bytes)) patterns) (sessions_of row)
opened_alike _ _ none = none
opened_alike _ _ (more o os) = more o.described (opened_alike _ _ os)

one_alone : (ss : List Slot) (es : List Event) (s : Session) → Describes ss es s → (e : Event)
    → ((alone_with e s).number ≡ refusal_after (reverse es) e) × Describes ss (taken_by es e) (alone_with e s).after
one_alone ss es s d e = let one = handed_described ss es s d e in (ap (λ (r : Refusal). r.number) one.0, one.1)

alone_nothing : (s : Session) → handed_all s [] ≡ s
unfolding handed_all
alone_nothing s = refl

alone_more : (e : Event) (es : List Event) (s : Session) → handed_all (alone_with e s).after es ≡ handed_all s (e ∷ es)
unfolding handed_all
alone_more e es s = refl

-- each session of a row, whatever it took before
pub held_alone : (es : List Event) (row : List Session) → length row ≤ most → row_after_all alone_with row es ≡ map (λ s. handed_all s es) row
held_alone = each_alone alone_with (λ es s. handed_all s es) alone_nothing alone_more

abbrev rules_say : List Event → List Event → List ℕ
rules_say es events = map (λ r. r.number) (refusals (reverse es) events)

rules_nothing : (es : List Event) → [] ≡ rules_say es []
unfolding refusals_under
rules_nothing es = refl

rules_more : (es : List Event) (e : Event) (events : List Event) → refusal_after (reverse es) e ∷ rules_say (taken_by es e) events ≡ rules_say es (e ∷ events)
unfolding refusals_under
rules_more es e events = rw (reverse-reverse (taken_after (reverse es) e))

-- Note 6: a row of at most sixteen sessions, each opened on its pattern, and every list of events
pub every_row : (patterns : List (List ℕ)) (row : List Opened) → length row ≤ most → EachOpened patterns row → (events : List Event) → EveryRow patterns row events
every_row patterns row h os events =
    record {
      each_alone = held_alone events (sessions_of row) short;
      histories = histories patterns row os;
      numbers =
          numbers_alike alone_with Describes (λ es e. refusal_after (reverse es) e) taken_by one_alone rules_say rules_nothing rules_more events _ [] (sessions_of row) short (opened_alike patterns row os)
          ∙ map-map (λ k. numbers_over (replicate (length (sessions_of row)) k)) (λ r. r.number) (refusals [] events)
          ∙ ap (λ (n : ℕ). map (λ r. numbers_over (replicate n r.number)) (refusals [] events)) (length-map row (λ o. o.session));
    }
  where
    short : length (sessions_of row) ≤ most
    short = rw (length-map row (λ o. o.session)) h

    histories : (patterns : List (List ℕ)) (row : List Opened) → EachOpened patterns row → Each (λ bytes opened. EveryHistory bytes opened events) patterns row
    histories _ _ none = none
    histories _ _ (more {s = bytes} {a = opened} o os) = more (every_history bytes opened o events) (histories _ _ os)
