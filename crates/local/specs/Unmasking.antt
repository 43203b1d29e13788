-- MOD's public numbers, the bits of its mask, and its last line.
-- Assumes nothing.
use Rattle.std.specs.Prelude.{List, ℕ, ◌+◌, ◌*◌, ◌%◌, ◌^◌, ◌≤◌, ◌<◌, length}
use Rattle.algebra.specs.Ring.{sub}
use Rattle.model.specs.Steps.{Row, plus, minus, times, constant, spelled}
use Rattle.sharing.specs.Settings.{setting_of, Fitting}
use Rattle.sharing.specs.declared.setting.Setting.{Setting}
use Rattle.local.specs.declared.remainder.Publics.{Publics}

-- 2^m, "C mod 2^m", "(C + p) mod 2^m", and the last less the one before it, modulo p
abbrev pub publics : ℕ → ℕ → ℕ → Publics
publics p m C =
    let c0 = C % 2 ^ m in
    let c1 = (C + p) % 2 ^ m in
    record { m = m; power = 2 ^ m; c0 = c0; c1 = c1; step = sub p c1 c0 }

-- The cells have the ℓ bits of a mask, of which m, at least one, are the low ones; and 2^m is a number below p.
pub record MaskBits (S : Setting) (m : ℕ) (cells : List ℕ) : Type 0 where
  pub fitting : Fitting S
  pub least : 1 ≤ m
  pub most : m < 30
  pub power : 2 ^ m < S.p
  pub within : m ≤ S.l
  pub there : 7 * S.l ≤ length cells

-- x has the public numbers, and low the low bits of the mask
module _ (S : Setting) (x : Publics) (low : List Row) where
  -- "The result is C mod 2^m + f·((C + p) mod 2^m − C mod 2^m) − r mod 2^m + 2^m·u"
  abbrev pub unmasked_by : Row → Row → Row
  unmasked_by f u = let P = setting_of S in plus P (minus P (plus P (constant P x.c0) (times P x.step f)) (spelled P low)) (times P x.power u)
