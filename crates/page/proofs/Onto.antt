-- Bytes put onto a page one after another, and the page that a whole text makes.
use Prim.Native.Nat.{ℕ, suc, ◌+◌, ◌-◌, ◌<◌, ◌≤◌}
use native.Mathlib.Omega.{arith}
use native.Mathlib.Numerals.{add-one}
use mathlib.Core.Path.{◌≡◌, refl, sym, ap, ◌∙◌}
use mathlib.Core.List.{List, [], ◌∷◌, ◌++◌, append-nil}
use lib.ListN.{length, get_or, take, set, replicate, length-append}
use lib.Seq.{set-append_seam, append_snoc, take-suc, take_at}
use borrow.Author.Tests.{lt-ltb}
use Rattle.page.specs.declared.Page.{Page}
use Rattle.page.specs.Page.{room, empty_page, with, onto, held}

pub onto_append : (p : Page) (s t : List ℕ) → onto (onto p s) t ≡ onto p (s ++ t)
unfolding onto
onto_append p [] t = refl
onto_append p (b ∷ s) t = onto_append (with p b) s t

-- one part after another
pub onward : (p q r : Page) (s t : List ℕ) → q ≡ onto p s → r ≡ onto q t → r ≡ onto p (s ++ t)
onward p q r s t h g = g ∙ ap (λ (x : Page). onto x t) h ∙ onto_append p s t

pub onto_one : (p : Page) (b : ℕ) → with p b ≡ onto p (b ∷ [])
unfolding onto
onto_one p b = refl

pub onto_none : (p : Page) → p ≡ onto p []
unfolding onto
onto_none p = refl

-- a page that holds a text and nothing else
abbrev pub page_of : List ℕ → Page
page_of t = record { bytes = t ++ replicate (room - length t) 0; size = length t }

one_more : (t : List ℕ) (b : ℕ) → length t < room → with (page_of t) b ≡ page_of (t ++ (b ∷ []))
one_more t b h =
    let n : room - length t ≡ suc (room - length (t ++ (b ∷ []))) = rw length-append (omega arith) in
    let z : length t + 1 ≡ length (t ++ (b ∷ [])) = rw length-append refl in
    rw (lt-ltb (length t) room h)
    (ap (λ (k : ℕ). record { bytes = set (t ++ replicate k 0) (length t) b; size = length t + 1 }) n
    ∙ (rw (set-append_seam t 0 (replicate (room - length (t ++ (b ∷ []))) 0) b) (rw (sym (append_snoc t b (replicate (room - length (t ++ (b ∷ []))) 0))) (rw z refl))))

pub holds : (s t : List ℕ) → length s + length t ≤ room → onto (page_of s) t ≡ page_of (s ++ t)
unfolding onto
holds s [] h = ap page_of (sym (append-nil s))
holds s (b ∷ t) h =
    rw (one_more s b (omega arith))
    (holds (s ++ (b ∷ [])) t (rw length-append (omega arith)) ∙ ap page_of (append_snoc s b t))

-- the text that it holds is the one that was put onto it
pub holding : (t : List ℕ) (p : Page) → length t ≤ room → p ≡ onto empty_page t → held p ≡ t
holding t p h q = rw (q ∙ holds [] t (omega arith)) (take_at t (replicate (room - length t) 0) (length t) refl)

-- the next byte of a text
pub next_byte : (p q : Page) (s : List ℕ) (i : ℕ) → q ≡ onto p (take i s) → i < length s → with q (get_or s i 0) ≡ onto p (take (i + 1) s)
next_byte p q s i h l =
    ap (λ (r : Page). with r (get_or s i 0)) h ∙ onto_one (onto p (take i s)) (get_or s i 0) ∙ onto_append p (take i s) (get_or s i 0 ∷ [])
    ∙ ap (onto p) (sym (take-suc s i 0 l) ∙ ap (λ (k : ℕ). take k s) (sym (add-one i)))
