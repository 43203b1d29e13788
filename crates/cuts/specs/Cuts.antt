-- MOD, TRUNC, LTZ, OVER and BLOCKS by their core: the remainder of a row made of the operand, and a row made of the remainder.
-- Assumes nothing.
use Rattle.std.specs.Prelude.{List, ℕ, ◌-◌, ◌^◌}
use Rattle.model.specs.Deal.{Row, Deal}
use Rattle.model.specs.Deal as Paper
use Rattle.model.specs.Steps.{Step, plus, minus, constant, quotient, remainder, floor, sign, over, blocks}
use Rattle.sharing.specs.Settings.{setting_of}
use Rattle.sharing.specs.declared.setting.Setting.{Setting}
use Rattle.cuts.specs.declared.cut.Cut.{Cut}
use Rattle.cuts.specs.declared.cut.Cut.TheVariants.{Mod, Trunc, Ltz, Over, Blocks}
use Rattle.steps.specs.declared.places.Places.{Places}
use Rattle.steps.specs.Places.{MaskedRoom}
use Rattle.steps.specs.Promises.{mask_at, MaskedLeaves}

-- k and m, for LTZ and OVER "with m = k − 1"
abbrev pub width_of : Cut → ℕ
width_of (Mod k m) = k
width_of (Trunc k m) = k
width_of (Ltz k) = k
width_of (Over k v) = k
width_of (Blocks k m) = k

abbrev pub low_of : Cut → ℕ
low_of (Mod k m) = m
low_of (Trunc k m) = m
low_of (Ltz k) = k - 1
low_of (Over k v) = k - 1
low_of (Blocks k m) = m

module _ (S : Paper.Setting) where
  -- the step of each
  abbrev pub cut_step : Cut → Row → Deal → Step
  cut_step (Mod k m) a d = remainder S k m a d
  cut_step (Trunc k m) a d = floor S k m a d
  cut_step (Ltz k) a d = sign S k a d
  cut_step (Over k v) a d = over S k v a d
  cut_step (Blocks k m) a d = blocks S k m a d

  -- the row whose remainder is taken. OVER: "LTZ of (v − a)"; BLOCKS, by request 2: "TRUNC of a + 2^m − 1 with the same k and m"
  abbrev pub before_row : Cut → Row → Row
  before_row (Mod k m) a = a
  before_row (Trunc k m) a = a
  before_row (Ltz k) a = a
  before_row (Over k v) a = minus S (constant S v) a
  before_row (Blocks k m) a = plus S a (constant S (2 ^ m - 1))

  -- the row left, of that row and its remainder. TRUNC: "(a − MOD) times the inverse of 2^m"; LTZ: "minus TRUNC"
  abbrev pub after_row : Cut → Row → Row → Row
  after_row (Mod k m) x rem = rem
  after_row (Trunc k m) x rem = quotient S m x rem
  after_row (Ltz k) x rem = minus S (constant S 0) (quotient S (k - 1) x rem)
  after_row (Over k v) x rem = minus S (constant S 0) (quotient S (k - 1) x rem)
  after_row (Blocks k m) x rem = quotient S m x rem

-- what a cut needs, and what it promises
abbrev pub CutRoom : List ℕ → List ℕ → Setting → Places → Cut → Type 0
CutRoom s log S at c = MaskedRoom s log S at (width_of c) (low_of c)

abbrev pub CutLeaves : List ℕ → Setting → Places → Cut → Row → Row → List ℕ → List ℕ → Type 0
CutLeaves s S at c a row log log' = MaskedLeaves s S at (mask_at s S at) (low_of c) (cut_step (setting_of S) c a) row log log'
