-- The paper, "The sheet": a frame holds what a header says, and where script, input and deal of a sheet stand.
-- Assumes nothing.
use Rattle.std.specs.Prelude.{◌≡◌, List, ℕ, ◌+◌, ◌*◌, ◌≤◌, length}
use Rattle.model.specs.Fields.{InUse, Parties}
use Rattle.model.specs.Presence.{PermittedSet}
use Rattle.model.specs.Deal.{Setting, Row, Deal}
use Rattle.model.specs.Sheet.{Header, header_of, header_size, mask_bits, largest_in, setting_of, rows_at, masks_from, triples_from}
use Rattle.presence.specs.Openings.{WorkedBy}
use Rattle.sharing.specs.declared.setting.Setting as Declared
use Rattle.sheet.specs.declared.frame.Frame.{Frame}

-- a frame's p, ℓ, n, t and how openings are worked, as the code's setting and as the paper's
abbrev pub setting_from : Frame → Declared.Setting
setting_from f = record { p = f.p; l = f.l; n = f.n; t = f.t; opening = f.opening }

abbrev pub setting_in : Frame → Setting
setting_in f = record { p = f.p; l = f.l; n = f.n; t = f.t; present = f.opening.present }

-- input and deal of a sheet, at the places of its frame
abbrev pub inputs_of : List ℕ → Frame → List Row
inputs_of s f = rows_at s f.n f.input f.inputs

abbrev pub deal_of : List ℕ → Frame → Deal
deal_of s f = record { masks = masks_from s f.n f.l f.mask f.masks; triples = triples_from s f.n f.triple f.triples }

-- The frame f of a header h that 2 and 3 do not refuse, nor 4 for a count: its numbers, and the places where input rows, masks and triples start.
pub record Headed (h : Header) (f : Frame) : Type 0 where
  -- the header's numbers
  pub in_use : InUse h.field
  pub p_is : f.p ≡ (setting_of h).p
  pub l_is : f.l ≡ mask_bits h
  pub k_is : f.largest ≡ largest_in h
  pub n_is : f.n ≡ h.n
  pub t_is : f.t ≡ h.t
  pub inputs_is : f.inputs ≡ h.inputs
  pub masks_is : f.masks ≡ h.masks
  pub triples_is : f.triples ≡ h.triples
  pub script_is : f.script ≡ h.script
  -- 3 and 4 do not refuse
  pub parties : Parties f.n f.t
  pub inputs_most : f.inputs ≤ 64
  pub masks_most : f.masks ≤ 16
  pub triples_most : f.triples ≤ 512
  pub script_most : f.script ≤ 1024
  -- the places
  pub inputs_place : f.input ≡ header_size h + f.script
  pub masks_place : f.mask ≡ f.input + 4 * f.n * f.inputs
  pub triples_place : f.triple ≡ f.mask + 4 * f.n * f.l * f.masks

-- The frame f of a run with these parties present, a permitted set: its openings are worked from the lowest of them, with their weights.
pub record Presented (present : ℕ) (f : Frame) : Type 0 where
  pub present_is : f.opening.present ≡ present
  pub permitted : PermittedSet f.n f.t present
  pub opens : WorkedBy f.p f.n f.t f.opening

-- the frame of a header for such a run
abbrev pub RunHeaded : ℕ → Header → Frame → Type 0
RunHeaded present h f = Headed h f × Presented present f

-- the sheet is as long as its header implies, by its frame
abbrev pub Whole : List ℕ → Frame → Type 0
Whole s f = length s ≡ f.triple + 4 * f.n * 3 * f.triples

-- The frame f of a sheet s that 1 to 4 and 12 do not refuse, with the byte that the frame has.
pub record Framed (s : List ℕ) (f : Frame) : Type 0 where
  pub headed : Headed (header_of s) f
  pub presented : Presented f.opening.present f
  pub whole : Whole s f

-- and with this byte
abbrev pub RunFramed : ℕ → List ℕ → Frame → Type 0
RunFramed present s f = Framed s f × (f.opening.present ≡ present)
