-- How long a run of zeros is. Assumes nothing.
-- Main law: `zeros`.
use mathlib.Core.Path.{◌≡◌, sym}
use Prim.Native.Nat.{ℕ}
use lib.ListN.{length, replicate, length-replicate}

pub zeros : (n : ℕ) → n ≡ length (replicate n (let z : ℕ = 0 in z))
zeros n = sym (length-replicate n (let z : ℕ = 0 in z))
