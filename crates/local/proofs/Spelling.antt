-- The number that bits spell, from the highest bit down: one law for each need of the loop.
-- Assumes nothing.
use mathlib.Core.Path.{◌≡◌, ◌∙◌}
use mathlib.Core.List.{List}
use Prim.Native.Nat.{ℕ, suc, ◌+◌, ◌-◌, ◌*◌, ◌≤◌, ◌<◌}
use native.Mathlib.Omega.{arith}
use lib.ListN.{take, drop}
use lib.Seq.{drop-drop}
use Rattle.model.specs.Bytes.{sevens}
use Rattle.model.specs.Steps.{Setting, Row, plus, times, constant, spelled}
use Rattle.model.specs.Trees as Trees

-- the bits from k on are spelled in r
abbrev pub Spelling : Setting → ℕ → List ℕ → ℕ → Row → Type 0
Spelling S w cells k r = r ≡ spelled S (sevens (w - k) (drop (7 * k) cells))

module _ (S : Setting) (w : ℕ) (cells : List ℕ) where
  pub spelling_start : {r : Row} → r ≡ constant S 0 → Spelling S w cells w r
  unfolding Trees.spelled sevens
  spelling_start e = let z : w - w ≡ 0 = omega arith in rw z e

  pub spelling_more : (k : ℕ) (r : Row) {bit next : Row} → 0 < k → k ≤ w → Spelling S w cells k r → bit ≡ take 7 (drop (7 * (k - 1)) cells) → next ≡ plus S bit (times S 2 r)
      → Spelling S w cells (k - 1) next
  unfolding Trees.spelled sevens
  spelling_more k r h l is eb en =
      let more : w - (k - 1) ≡ suc (w - k) = omega arith in
      let behind : 7 * (k - 1) + 7 ≡ 7 * k = omega arith in
      en ∙ rw (more, drop-drop, behind, eb, is)
