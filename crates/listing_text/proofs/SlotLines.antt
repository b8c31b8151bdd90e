-- The lines put one after another are those of the slots.
use Prim.Native.Nat.{ℕ, suc, ◌+◌, ◌<◌}
use native.Mathlib.Numerals.{add-one}
use mathlib.Core.Path.{◌≡◌, refl, sym, ap, ◌∙◌}
use mathlib.Core.List.{List, [], ◌∷◌, ◌++◌}
use lib.ListN.{length, get_or, drop}
use lib.Seq.{drop-cons, drop-length}
use borrow.Author.Tests.{eq-eqb, ne_eqb}
use Rattle.event_log.specs.Number.{nth_event}
use Rattle.page.specs.declared.Page.{Page}
use Rattle.page.specs.Page.{onto}
use Rattle.page.proofs.Onto.{onto_append, onto_none}
use Rattle.listing_text.specs.Text.{slot_line}
use Rattle.listing_text.specs.OutcomeText.{lines_of}

module _ (bytes : List ℕ) (slot n : ℕ) (ns : List ℕ) where
  pub no_line : n ≡ 0 → lines_of bytes slot (n ∷ ns) ≡ []
  unfolding lines_of
  no_line z = rw (eq-eqb n 0 z) refl

  pub a_line : (n ≡ 0 → ⊥) → lines_of bytes slot (n ∷ ns) ≡ slot_line slot n (nth_event n bytes 0) ++ lines_of bytes (slot + 1) ns
  unfolding lines_of
  a_line z = rw (ne_eqb n 0 z) refl

-- a loop over the numbers, at index j with the lines before it put: what is left makes the whole
module _ (bytes numbers : List ℕ) (start p : Page) (j : ℕ) (h : onto p (lines_of bytes (j + 1) (drop j numbers)) ≡ onto start (lines_of bytes 1 numbers)) where
  pub all_put : j ≡ length numbers → p ≡ onto start (lines_of bytes 1 numbers)
  unfolding lines_of
  all_put e =
      let d : drop j numbers ≡ [] = rw e (drop-length numbers) in
      onto_none p ∙ ap (λ (l : List ℕ). onto p (lines_of bytes (j + 1) l)) (sym d) ∙ h

  module _ (low : j < length numbers) where
    pub at_zero : get_or numbers j 0 ≡ 0 → p ≡ onto start (lines_of bytes 1 numbers)
    at_zero z = onto_none p ∙ ap (onto p) (sym none) ∙ h
      where
        none : lines_of bytes (j + 1) (drop j numbers) ≡ []
        none = rw (drop-cons numbers j 0 low) (no_line bytes (j + 1) (get_or numbers j 0) (drop (suc j) numbers) z)

    pub one_line : (q : Page) → (get_or numbers j 0 ≡ 0 → ⊥) → q ≡ onto p (slot_line (j + 1) (get_or numbers j 0) (nth_event (get_or numbers j 0) bytes 0))
        → onto q (lines_of bytes (j + 1 + 1) (drop (j + 1) numbers)) ≡ onto start (lines_of bytes 1 numbers)
    one_line q z e =
        ap (λ (r : Page). onto r rest) e ∙ onto_append p line rest
        ∙ ap (onto p) (sym (a_line bytes (j + 1) (get_or numbers j 0) (drop (j + 1) numbers) z) ∙ ap (lines_of bytes (j + 1)) (sym split)) ∙ h
      where
        line : List ℕ
        line = slot_line (j + 1) (get_or numbers j 0) (nth_event (get_or numbers j 0) bytes 0)

        rest : List ℕ
        rest = lines_of bytes (j + 1 + 1) (drop (j + 1) numbers)

        split : drop j numbers ≡ get_or numbers j 0 ∷ drop (j + 1) numbers
        split = rw (add-one j) (drop-cons numbers j 0 low)
