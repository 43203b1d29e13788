-- The script of a sheet, by its frame: the bytes that end where the input rows start.
-- Assumes nothing.
use mathlib.Core.Path.{◌≡◌}
use mathlib.Core.List.{List}
use Prim.Native.Nat.{ℕ, ◌-◌}
use native.Mathlib.Omega.{arith}
use lib.ListN.{take, drop}
use Rattle.model.specs.Script.{script_of}
use Rattle.model.specs.Sheet.{header_of, header_size, script_in}
use Rattle.model.specs.Run.{sheet_script}
use Rattle.sheet.specs.declared.frame.Frame.{Frame}
use Rattle.sheet.specs.Framed.{Headed}

abbrev pub script_part : List ℕ → Frame → List ℕ
script_part s f = take (f.input - (f.input - f.script)) (drop (f.input - f.script) s)

module _ (s : List ℕ) {f : Frame} (H : Headed (header_of s) f) where
  pub script_bytes : script_part s f ≡ script_in (header_of s) s
  unfolding script_in
  script_bytes =
      let from : f.input - f.script ≡ header_size (header_of s) = omega (arith, H.inputs_place) in
      let size : f.input - header_size (header_of s) ≡ (header_of s).script = omega (arith, H.inputs_place, H.script_is) in
      rw (from, size)

  pub script_read : script_of f.p f.largest (script_part s f) ≡ sheet_script s
  script_read = rw (H.p_is, H.k_is, script_bytes)
