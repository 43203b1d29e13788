-- What the cells, the record and the revealed list hold of the paper's state, and what a command does to them.
-- Assumes nothing.
use Rattle.std.specs.Prelude.{◌≡◌, List, ℕ, ◌+◌, ◌-◌, ◌*◌, ◌≤◌, ◌<◌, T, length, drop}
use Rattle.algebra.specs.Lists.{Below, onto}
use Rattle.model.specs.Bytes.{sevens}
use Rattle.model.specs.Deal.{Setting}
use Rattle.model.specs.Steps.{written}
use Rattle.model.specs.Counts.{Counts}
use Rattle.model.specs.Script.{Command, LTZS, in_ranges}
use Rattle.model.specs.Costs.{mod_triples, cost}
use Rattle.model.specs.Run.{State, finish}
use Rattle.sheet.specs.declared.frame.Frame.{Frame}
use Rattle.sheet.specs.Framed.{setting_in, Framed}
pub use Rattle.sheet.specs.Framed.{inputs_of, deal_of}
use Rattle.cuts.specs.declared.cut.Cut.{Cut}
use Rattle.cuts.specs.Cuts.{width_of, low_of}
use Rattle.registers.specs.Cells.{register_in}

-- what a run writes: the cells of the registers, the record and the revealed list
pub record Lent : Type 0 where
  pub cells : List ℕ
  pub log : List ℕ
  pub shown : List ℕ

abbrev pub lent : List ℕ → List ℕ → List ℕ → Lent
lent cells log shown = record { cells = cells; log = log; shown = shown }

-- The state x of a run with the setting S: its registers; and in both buffers what was written, over what they held before the run, log₀ and shown₀.
pub record Carries (S : Setting) (log₀ shown₀ : List ℕ) (m : Lent) (x : State) : Type 0 where
  pub size : length m.cells ≡ 448
  pub registers : sevens 64 m.cells ≡ x.registers
  pub log : m.log ≡ onto (written S x.opened) log₀
  pub shown : m.shown ≡ onto x.shown shown₀

-- The counts k are those of the state x: so much is gone from the front of the deal, and so much was opened and revealed. Of the states of a run this is
-- `Counted` in the model's Exactness.
pub record Counting (s : List ℕ) (f : Frame) (k : Counts) (x : State) : Type 0 where
  pub counts : x.spent.counts ≡ k
  pub masks : x.deal.masks ≡ drop k.masks (deal_of s f).masks
  pub triples : x.deal.triples ≡ drop k.triples (deal_of s f).triples
  pub numbers : length (written (setting_in f) x.opened) ≡ f.n * k.openings
  pub shown : length x.shown ≡ k.revealed

-- A command may be performed: its operands are in range, inputs, masks, triples and the room in both buffers suffice, and all shares are below p, so that
-- a register may be opened.
pub record Ready (s : List ℕ) (f : Frame) (k : Counts) (c : Command) (m : Lent) : Type 0 where
  pub framed : Framed s f
  pub ranged : T (in_ranges f.p f.largest c)
  pub size : length m.cells ≡ 448
  pub below : (a : ℕ) → a < 64 → Below f.p (register_in m.cells a)
  pub inputs : k.inputs + (cost (setting_in f) c).counts.inputs ≤ f.inputs
  pub masks : k.masks + (cost (setting_in f) c).counts.masks ≤ f.masks
  pub triples : k.triples + (cost (setting_in f) c).counts.triples ≤ f.triples
  pub room : (k.openings + (cost (setting_in f) c).counts.openings) * f.n ≤ length m.log
  pub space : k.revealed + (cost (setting_in f) c).counts.revealed ≤ length m.shown

-- A command performed: whatever state with these counts was held, the finished state is held.
abbrev pub Performs : List ℕ → Frame → Counts → Command → Lent → Lent → Type 0
Performs s f k c m m' =
    (log₀ shown₀ : List ℕ) (x : State) → Counting s f k x → Carries (setting_in f) log₀ shown₀ m x
    → Carries (setting_in f) log₀ shown₀ m' (finish (setting_in f) (inputs_of s f) c x)

-- the same of a command that leaves the revealed list as it is
abbrev pub OnCells : List ℕ → Frame → Counts → Command → List ℕ → List ℕ → List ℕ → List ℕ → Type 0
OnCells s f k c cells log cells' log' = (shown : List ℕ) → Performs s f k c (lent cells log shown) (lent cells' log' shown)

-- what a cut of register a into register d asks, whichever cut it is
pub record CutReady (s : List ℕ) (f : Frame) (k : Counts) (cells log : List ℕ) (d a : ℕ) (y : Cut) : Type 0 where
  pub framed : Framed s f
  pub size : length cells ≡ 448
  pub d_in : d < 64
  pub a_in : a < 64
  pub width : width_of y ≤ f.largest
  pub least : 1 ≤ low_of y
  pub less : low_of y < width_of y
  pub mask : k.masks + 1 ≤ f.masks
  pub triples : k.triples + mod_triples f.l (low_of y) ≤ f.triples
  pub openings : (k.openings + (1 + 2 * mod_triples f.l (low_of y))) * f.n ≤ length log

-- what LTZS d a h w asks
pub record SignsReady (s : List ℕ) (f : Frame) (k : Counts) (cells log : List ℕ) (d a h w : ℕ) : Type 0 where
  pub framed : Framed s f
  pub ranged : T (in_ranges f.p f.largest (LTZS d a h w))
  pub size : length cells ≡ 448
  pub masks : k.masks + h ≤ f.masks
  pub triples : k.triples + h * mod_triples f.l (w - 1) ≤ f.triples
  pub room : (k.openings + h * (1 + 2 * mod_triples f.l (w - 1))) * f.n ≤ length log
