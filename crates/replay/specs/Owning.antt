-- A party's column, made of the frame of its header and its number.
-- Assumes nothing.
use Rattle.std.specs.Prelude.{◌≡◌, ℕ, ◌+◌, ◌*◌, ◌≤◌}
use Rattle.model.specs.Fields.{modulus, InUse, Parties}
use Rattle.sheet.specs.declared.frame.Frame.{Frame}
use Rattle.column_steps.specs.declared.column.Column.{Column}
use Rattle.column_steps.specs.Reads.{Working}
use Rattle.column_commands.specs.declared.own.Own.{Own}

-- what is asked of frame, field number and party
pub record Framing (f : Frame) (field party : ℕ) : Type 0 where
  pub in_use : InUse field
  pub p_is : f.p ≡ modulus field
  pub bits : f.l ≤ 31
  pub parties : Parties f.n f.t
  pub least : 1 ≤ party
  pub most : party ≤ f.n
  pub inputs : f.inputs ≤ 64
  pub masks : f.l * f.masks ≤ 496

pub record ColumnFor (f : Frame) (party : ℕ) (c : Column) : Type 0 where
  pub working : Working c
  pub p_is : c.setting.p ≡ f.p
  pub l_is : c.setting.l ≡ f.l
  pub n_is : c.reader.n ≡ f.n
  pub t_is : c.reader.t ≡ f.t
  pub party_is : c.reader.party ≡ party

pub record OwnFor (f : Frame) (party : ℕ) (o : Own) : Type 0 where
  pub column : ColumnFor f party o.column
  pub largest_is : o.largest ≡ f.largest
  pub inputs_is : o.inputs ≡ f.inputs
  pub mask_is : o.mask ≡ 4 * f.inputs
  pub triple_is : o.triple ≡ 4 * f.inputs + 4 * f.l * f.masks
