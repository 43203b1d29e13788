-- `numbers::width` meets its contract: 2^k is less than the modulus for the field's largest k, and so for every smaller one.
-- Assumes nothing.
use Rattle.std.proofs.Common.{rules, arith, ℕ, ◌≡◌, ◌^◌, ◌≤◌, ◌<◌, min}
use lib.Pow.{pow_mono}
use Rattle.model.specs.Fields.{modulus, largest_k, InUse}
use Rattle.model.proofs.Fields.{fields, below_four}
use Rattle.step_cases.proofs.numbers.width.Goals as goal

within : (f w k : ℕ) → InUse f → k ≡ min w (largest_k f) → (k ≡ min w (largest_k f)) × (k ≤ 30) × (2 ^ k < modulus f)
within f w k h e =
    let b : k ≤ largest_k f = omega arith in
    (e, omega (arith, (fields f h).k_most), omega (arith, pow_mono {i = k} {j = largest_k f} b, (fields f h).range_fits))

pub largest_k-requires : goal.largest_k-requires
largest_k-requires c = search (rules, below_four)

pub returns : goal.returns
returns c = within _ _ _ c.requires.1 (search rules)
