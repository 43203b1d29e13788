-- Counts are the same where each is.
-- Assumes nothing.
use mathlib.Core.Path.{◌≡◌}
use Rattle.model.specs.Counts.{Counts}

pub same_counts : {x y : Counts} → x.inputs ≡ y.inputs → x.masks ≡ y.masks → x.triples ≡ y.triples → x.openings ≡ y.openings → x.revealed ≡ y.revealed
    → x ≡ y
same_counts a b c d e = λ i. record { inputs = a i; masks = b i; triples = c i; openings = d i; revealed = e i }
