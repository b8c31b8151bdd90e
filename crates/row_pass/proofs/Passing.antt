-- The first sessions of a row over a log: each is as it would be alone.
use Prim.Native.Nat.{ℕ, zero, suc, ◌<◌, ◌≤◌}
use native.Mathlib.Nat.{le_of_suc-le-suc}
use native.Mathlib.Omega.{arith}
use mathlib.Core.Path.{◌≡◌, refl, sym, ap, ◌∙◌}
use mathlib.Core.List.{List, [], ◌∷◌, ◌++◌, map, reverse, reverse-append, reverse-reverse}
use lib.ListN.{length, length-map, length-append, length-drop, get_or, take, drop, get_or-append}
use lib.Seq.{get_or-take, length-take-le}
use borrow.Author.Tests.{le-leb}
use Rattle.event.specs.declared.Event.{Event}
use Rattle.session.specs.declared.Session.{Session}
use Rattle.session.specs.Model.{handed, handed_all}
use Rattle.session_row.specs.declared.RowHanded.{RowHanded}
use Rattle.session_row.specs.Row.{most, places, FirstHanded}
use Rattle.row_batch.specs.Batch.{events_of, alone_through}
use Rattle.row_pass.specs.declared.Filled.{Filled}
use Rattle.row_pass.specs.Passing.{FilledFrom, past_session, PassedBy}

get_d_map : {A B : Type 0} (f : A → B) (l : List A) (k : ℕ) (d : A) (e : B) → k < length l → get_or (map f l) k e ≡ f (get_or l k d)
get_d_map f [] k d e h = absurd (let z : ⊥ = omega arith in z)
get_d_map f (a ∷ l) zero d e h = refl
get_d_map f (a ∷ l) (suc k) d e h = get_d_map f l k d e (le_of_suc-le-suc h)

-- before any event
pub none_yet : (n : ℕ) (before : List Session) → PassedBy n before [] before
unfolding handed_all
none_yet n before k l = refl

-- some events more
handed_append : (s : Session) (xs ys : List Event) → handed_all s (xs ++ ys) ≡ handed_all (handed_all s xs) ys
unfolding handed_all
handed_append s [] ys = refl
handed_append s (e ∷ xs) ys = handed_append (handed s e).session xs ys

module _ (n : ℕ) (before : List Session) (es : List Event) (r : RowHanded) (few : n ≤ most) (long : n ≤ length before) (h : FirstHanded (alone_through es) before n r) where
  size : length (take n before) ≡ n
  size = length-take-le n before long

  row_is : h.row ≡ map (λ s. handed_all s es) (take n before)
  row_is = rw (le-leb (length (take n before)) most (rw size few)) at h.answered.taken.sessions

  row_size : length h.row ≡ n
  row_size = rw (row_is, length-map (take n before) (λ s. handed_all s es)) size

  pub as_many : length r.sessions ≡ length before
  as_many = rw (h.sessions, length-append h.row (drop n before), row_size) (let d = length-drop n before in omega (arith, d, long))

  pub more_events : (first : List Session) (past : List Event) → PassedBy n first (reverse past) before → PassedBy n first (reverse (reverse es ++ past)) r.sessions
  more_events first past p k l =
      rw (h.sessions, get_or-append h.row (drop n before) past_session k (rw row_size l), turned)
      (ap (λ (s : Session). handed_all s es) (get_or-take n before k past_session l ∙ p k l)
      ∙ sym (handed_append (get_or first k past_session) (reverse past) es)
      ∙ ap (handed_all (get_or first k past_session)) (sym (reverse-append (reverse es) past ∙ ap (λ (l : List Event). reverse past ++ l) (reverse-reverse es))))
    where
      turned : get_or h.row k past_session ≡ handed_all (get_or (take n before) k past_session) es
      turned = rw row_is (get_d_map (λ s. handed_all s es) (take n before) k past_session past_session (rw size l))

-- the events of a batch that was read from the log
pub passed_on : {bytes after : List ℕ} {at : ℕ} {past : List Event} {f : Filled} {n : ℕ} {before : List Session} {r : RowHanded} (first : List Session) → n ≤ most → length before ≡ places
    → (g : FilledFrom bytes at past f after) → FirstHanded (alone_through (events_of f.batch)) before n r → PassedBy n first (reverse past) before
    → PassedBy n first (reverse g.taken) r.sessions
passed_on {past = past} {f} {n} {before} {r} first few size g h p =
    rw g.events (more_events n before (events_of f.batch) r few (omega (arith, few, size)) h first past p)
