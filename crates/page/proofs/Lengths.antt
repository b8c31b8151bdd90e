-- How many bytes a number and a refusal's line have at most.
use Prim.Native.Nat.{ℕ, ◌≤◌}
use native.Mathlib.Omega.{arith}
use lib.ListN.{length, length-append}
use Rattle.page.specs.Text.{decimal}
use Rattle.page.specs.Lines.{refusal_line}
use Rattle.page.proofs.Decimal.{few_figures}

pub number : (n : ℕ) → length (decimal n) ≤ 20
number n = few_figures 20 n

pub refusal : (k o : ℕ) → length (refusal_line k o) ≤ 53
refusal k o = let a : length (decimal k) ≤ 20 = number k in let b : length (decimal o) ≤ 20 = number o in simp length-append (omega arith)
