-- The plain interpreter's formulas as equations modulo p and in ℤ, in every field of the table.
-- Assumes nothing.
use Prim.Native.Nat.{ℕ}
use mathlib.Core.Path.{refl}
use native.Mathlib.Omega.{arith}
use Rattle.algebra.specs.Ring.{sub}
use Rattle.algebra.proofs.Lists.{all_below_lem}
use Rattle.algebra.proofs.Ring.{sub_lt}
use Rattle.model.specs.Fields.{Field}
use Rattle.model.specs.Coding.{read_back}
use Rattle.model.specs.Plain.{exceeds}
use Rattle.model.specs.Formulas.{Exact, EveryFormula}
use Rattle.model.proofs.Fields.{fields}
use Rattle.model.proofs.Coding.{code_read}
use Rattle.model.proofs.Comparing.{less_is}
use Rattle.model.proofs.Exact.{exceeds_code, charges_up, charges_down}
use Rattle.model.proofs.Remaining.{positive, remains, divides, signs}
use Rattle.model.proofs.Charging.{charges}

module _ {p l K : ℕ} (F : Field p l K) where
  pub field_exact : Exact p K
  field_exact =
      record {
        remains = remains F;
        divides = divides F;
        signs = signs F;
        exceeds_by = λ k v a l g i h.
            record {
              sign = unfold exceeds in signs F k (sub p v a) l g (sub_lt v a (positive F));
              exact = λ t. rw (code_read p v i, code_read p a h) at (exceeds_code F k (read_back p v) (read_back p a) l g t);
            };
        charges = charges F;
        charges_up = charges_up F;
        charges_down = charges_down F;
        compares = λ v bs n h. record { exact = λ t. less_is p v bs (omega arith) ((all_below_lem 2 bs).0 t) n h; rule = refl };
      }

pub every_formula : EveryFormula
every_formula f h = field_exact (fields f h)
