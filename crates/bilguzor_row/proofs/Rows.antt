-- Note 6 for the exported rows: over every list of events in numbers each session of a row is as it would be alone.
use Prim.Native.Nat.{ℕ, suc, ◌≤◌}
use mathlib.Core.Path.{◌≡◌, refl, ap, ◌∙◌}
use mathlib.Core.List.{List, [], ◌∷◌, map, reverse}
use lib.ListN.{length, length-map, get_or, replicate}
use Rattle.event.specs.declared.Event.{Event}
use Rattle.command.specs.Bytes.{Bytes}
use Rattle.event_log.specs.Whole.{read_pattern}
use Rattle.session.specs.Model.{slots_used}
use Rattle.session_row.specs.Row.{most, numbers_over}
use Rattle.trace.specs.Match.{Each, none, more}
use Rattle.session_row.proofs.EveryRow.{each_alone, numbers_alike}
use Rattle.event_numbers.specs.EventNumbers.{Numbers}
use Rattle.bilguzor.specs.declared.Parts.{Parts}
use Rattle.bilguzor.specs.Sessions.{InParts, opened_parts, parts_after, refusal_of, taken_with}
use Rattle.bilguzor.specs.History.{parts_all, refusals_all}
use Rattle.bilguzor_row.specs.Rows.{alone_in, EveryRow}
use Rattle.bilguzor.proofs.Handing.{one_event_lem, opened_in}
use Rattle.bilguzor.proofs.Whole.{every_history}

parts_nothing : (p : Parts) → parts_all p [] ≡ p
unfolding parts_all
parts_nothing p = refl

parts_more : (n : Numbers) (ns : List Numbers) (p : Parts) → parts_all (parts_after p n) ns ≡ parts_all p (n ∷ ns)
unfolding parts_all
parts_more n ns p = refl

refusals_nothing : (es : List Event) → [] ≡ refusals_all es []
unfolding refusals_all
refusals_nothing es = refl

refusals_more : (es : List Event) (n : Numbers) (ns : List Numbers) → refusal_of (reverse es) n ∷ refusals_all (taken_with es n) ns ≡ refusals_all es (n ∷ ns)
unfolding refusals_all
refusals_more es n ns = refl

-- a row of at most sixteen sessions in parts, each fresh from the opening on its pattern's bytes, and every list of events in numbers
pub every_row : (patterns : List (List ℕ)) → length patterns ≤ most → ((place : ℕ) → Bytes (get_or patterns place [])) → (numbers : List Numbers) → EveryRow patterns numbers
every_row patterns h bytes numbers =
    record {
      each_alone = each_alone alone_in (λ ns p. parts_all p ns) parts_nothing parts_more numbers (map opened_parts patterns) short;
      histories = λ place. every_history (get_or patterns place []) (bytes place) numbers;
      answers =
          numbers_alike alone_in InParts (λ es n. refusal_of (reverse es) n) taken_with one_event_lem refusals_all refusals_nothing refusals_more numbers _ [] (map opened_parts patterns) short (opened patterns bytes)
          ∙ ap (λ (n : ℕ). map (λ k. numbers_over (replicate n k)) (refusals_all [] numbers)) (length-map patterns opened_parts);
    }
  where
    short : length (map opened_parts patterns) ≤ most
    short = rw (length-map patterns opened_parts) h

    opened : (patterns : List (List ℕ)) → ((place : ℕ) → Bytes (get_or patterns place [])) → Each (λ ss p. InParts ss [] p) (map (λ bytes. slots_used (read_pattern bytes)) patterns) (map opened_parts patterns)
    opened [] bytes = none
    opened (b ∷ bs) bytes = more (opened_in b (bytes 0)) (opened bs (λ place. bytes (suc place)))
