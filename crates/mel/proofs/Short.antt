-- The annotation of a well-formed record is shorter than 2 ^ 32 bytes.
use mathlib.Core.List.{List}
use Prim.Native.Nat.{ℕ, ◌^◌, ◌<◌}
use native.Mathlib.Omega.{arith}
use lib.ListN.{length}
use Rattle.record.specs.WellFormed.{WellFormed}
use Rattle.mel.specs.Annotation.{mel}
use Rattle.mel.proofs.Theorems.{mel_limit_lem}

module _ (b : List ℕ) (w : WellFormed b) where
  pub mel_short : length (mel b) < 2 ^ 32
  mel_short = omega (arith, mel_limit_lem b w)
