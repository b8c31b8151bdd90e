-- The first line of a text, and the lines that are one line each.
use Prim.Native.Nat.{ℕ, zero, suc, ◌+◌, ◌/◌, ◌%◌}
use native.Mathlib.Omega.{arith}
use mathlib.Core.Path.{◌≡◌, refl, ap, ◌∙◌}
use mathlib.Core.Bool.{Bool, true, false, false≢true, cond}
use mathlib.Core.List.{List, [], ◌∷◌, ◌++◌, append_assoc}
use lib.Dec.{eqb, ltb}
use borrow.Author.Tests.{ne_eqb}
use Rattle.event.proofs.Tests.{by_test}
use Rattle.page.specs.Text.{ascii, figures, decimal}
use Rattle.page.specs.Lines.{refusal_line}
use Rattle.listing_text.specs.Text.{pattern_refusal_line, match_line}
use Rattle.listings_text.specs.Listings.{first_line}

-- no line feed in it
unfoldable NoFeed : List ℕ → Type 0
NoFeed [] = Unit
NoFeed (b ∷ bs) = (eqb b 10 ≡ false) × NoFeed bs

past_words : (xs ys : List ℕ) → NoFeed xs → first_line (xs ++ ys) ≡ xs ++ first_line ys
unfolding first_line NoFeed
past_words [] ys h = refl
past_words (b ∷ xs) ys h = rw h.0 (ap (λ (l : List ℕ). b ∷ l) (past_words xs ys h.1))

both : (xs ys : List ℕ) → NoFeed xs → NoFeed ys → NoFeed (xs ++ ys)
unfolding NoFeed
both [] ys h g = g
both (b ∷ xs) ys h g = (h.0, both xs ys h.1 g)

a_figure : (d : ℕ) → eqb (48 + d) 10 ≡ false
a_figure d = ne_eqb (48 + d) 10 (λ z. let f : ⊥ = omega arith in f)

of_figures : (left n : ℕ) → NoFeed (figures left n)
unfolding NoFeed figures
of_figures zero n = tt
of_figures (suc left) n =
    by_test (ltb n 10)
    (λ q. rw q (a_figure n, tt))
    (λ q. rw q (both (figures left (n / 10)) ((48 + n % 10) ∷ []) (of_figures left (n / 10)) (a_figure (n % 10), tt)))

-- words, which can be looked through
abbrev free : List ℕ → Bool
free [] = true
free (b ∷ bs) = cond (eqb b 10) false (free bs)

of_words : (xs : List ℕ) → free xs ≡ true → NoFeed xs
unfolding NoFeed
of_words [] h = tt
of_words (b ∷ xs) h = by_test (eqb b 10) (λ q. absurd (false≢true (rw q at h))) (λ q. (q, of_words xs (rw q at h)))

-- words and a number, after more of them
and_number : (xs words : List ℕ) (n : ℕ) → NoFeed xs → free words ≡ true → NoFeed (xs ++ words ++ decimal n)
and_number xs words n h w = both (xs ++ words) (decimal n) (both xs words h (of_words words w)) (of_figures 20 n)

-- a line feed ends the line
ends_there : (xs rest : List ℕ) → NoFeed xs → first_line (xs ++ ascii "\n" ++ rest) ≡ xs ++ ascii "\n"
unfolding first_line
ends_there xs rest h = ap first_line (append_assoc xs (ascii "\n") rest) ∙ past_words xs (ascii "\n" ++ rest) h

refusal_free : (k o : ℕ) → NoFeed (ascii "refused " ++ decimal k ++ ascii " at " ++ decimal o)
unfolding NoFeed
refusal_free k o = and_number (ascii "refused " ++ decimal k) (ascii " at ") o (and_number [] (ascii "refused ") k tt refl) refl

pub refusal_line_lem : (k o : ℕ) → first_line (refusal_line k o) ≡ refusal_line k o
unfolding first_line
refusal_line_lem k o = past_words _ (ascii "\n") (refusal_free k o)

pub pattern_refusal_line_lem : (k o : ℕ) → first_line (pattern_refusal_line k o) ≡ pattern_refusal_line k o
pattern_refusal_line_lem k o = past_words (ascii "pattern ") (refusal_line k o) (of_words (ascii "pattern ") refl) ∙ ap (λ (l : List ℕ). ascii "pattern " ++ l) (refusal_line_lem k o)

pub match_line_lem : (n : ℕ) (rest : List ℕ) → first_line (match_line n ++ rest) ≡ match_line n
unfolding NoFeed
match_line_lem n rest = ends_there (ascii "match at " ++ decimal n) rest (and_number [] (ascii "match at ") n tt refl)
