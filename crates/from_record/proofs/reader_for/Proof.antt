-- `reader_for` meets its contract: the windows are those of a byte that has no bit past n.
-- Assumes nothing.
use borrow.Author.Rules.{rules}
use mathlib.Core.Path.{refl}
use Rattle.from_record.proofs.reader_for.Statement.{statement}
use Rattle.from_record.proofs.reader_for.Tie as tie

returns : tie.Need-returns
returns c =
    let p = c.modulus-p.ensures.0 in (
      p,
      refl,
      refl,
      refl,
      record {
        in_use = c.requires.0;
        p_is = p;
        parties = c.requires.1;
        party_least = c.requires.2;
        party_most = c.requires.3;
        windows = rw p c.windows_of-windows.ensures.1;
      },
    )

pub reader_for_spec : {M : Type 1} → statement M
reader_for_spec = tie.close (tie.spec (λ c κs. search rules) (λ c κs. search rules) (λ c κs. search rules) returns)
