-- What is known of a folder's pattern files, one file after another.
use Prim.Native.Nat.{ℕ, ◌+◌}
use mathlib.Core.Path.{◌≡◌, ap, ◌∙◌}
use mathlib.Core.List.{List, [], ◌∷◌, ◌++◌}
use lib.ListN.{length, length-append}
use Rattle.listings_text.specs.declared.Watched.{Watched}
use Rattle.listings_text.specs.Listings.{File, absent}
use Rattle.listings_text.proofs.Watching.{none_opened}
use Rattle.pattern_files.specs.SomeFiles.{Watching}

one_more : {k : ℕ} (files : List File) (f : File) → length files ≡ k → length (files ++ (f ∷ [])) ≡ k + 1
one_more files f q = length-append files (f ∷ []) ∙ ap (λ (n : ℕ). n + 1) q

pub not_there : {k : ℕ} {w : Watched} → Watching k w → Watching (k + 1) w
not_there {w = w} h = record { files = h.files ++ (absent ∷ []); many = one_more h.files absent h.many; kept = none_opened h.files w h.kept }
