-- Where a run with these counts reads and writes next.
-- Assumes nothing.
use Rattle.std.specs.Prelude.{ℕ, ◌+◌, ◌*◌, ◌^◌, ◌<◌}
use Rattle.model.specs.Counts.{Counts}
use Rattle.sharing.specs.Settings.{Fitting}
use Rattle.sheet.specs.declared.frame.Frame.{Frame}
use Rattle.sheet.specs.Framed.{setting_from}
use Rattle.steps.specs.declared.places.Places.{Places}

-- after so many input rows, masks, triples and openings
abbrev pub input_place : Frame → Counts → ℕ
input_place f k = f.input + k.inputs * (4 * f.n)

abbrev pub places_of : Frame → Counts → Places
places_of f k =
    record {
      mask = f.mask + k.masks * (f.l * (4 * f.n));
      triple = f.triple + k.triples * (12 * f.n);
      log = k.openings * f.n;
    }

-- these places can be computed
pub record Reached (f : Frame) (k : Counts) : Type 0 where
  pub fitting : Fitting (setting_from f)
  pub mask : (places_of f k).mask < 2 ^ 64
  pub triple : (places_of f k).triple < 2 ^ 64
  pub log : (places_of f k).log < 2 ^ 64
