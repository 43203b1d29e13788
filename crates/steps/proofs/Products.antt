-- A product as the code has it: the triple read, two rows opened, and the row that is left.
-- Assumes nothing.
use mathlib.Core.Path.{◌≡◌, ◌∙◌}
use mathlib.Core.List.{List, [], ◌∷◌}
use Prim.Native.Nat.{ℕ, suc, ◌+◌, ◌*◌, ◌≤◌}
use native.Mathlib.Omega.{arith}
use lib.ListN.{length}
use Rattle.algebra.specs.Lists.{Below}
use Rattle.algebra.proofs.Ring.{add_lt, sub_lt}
use Rattle.algebra.proofs.Rows.{row_below}
use Rattle.model.specs.Fields.{Modulus}
use Rattle.model.specs.Bytes.{row_at}
use Rattle.model.specs.Sheet.{triples_from}
use Rattle.model.specs.Deal as Paper
use Rattle.model.specs.Steps.{Row, written, plus, minus, next_triple, beaver, by_rows, product}
use Rattle.model.proofs.Polynomials.{positive}
use Rattle.model.proofs.Written.{length_written}
use Rattle.sharing.specs.Settings.{setting_of}
use Rattle.sharing.specs.declared.setting.Setting.{Setting}
use Rattle.steps.specs.declared.places.Places.{Places}
use Rattle.steps.specs.Promises.{Opens, StepLeaves}
use Rattle.steps.proofs.Leaving.{log_then}

-- sums and differences are below p, so that they may be opened
module _ (S : Setting) (M : Modulus S.p) (x y : Row) {z : Row} where
  pub plus_below : z ≡ plus (setting_of S) x y → Below S.p z
  unfolding plus
  plus_below e = rw e (record { at = λ i _. row_below S.p S.n _ (positive M) (λ j _. add_lt _ _ (positive M)) i })

  pub minus_below : z ≡ minus (setting_of S) x y → Below S.p z
  unfolding minus
  minus_below e = rw e (record { at = λ i _. row_below S.p S.n _ (positive M) (λ j _. sub_lt _ _ (positive M)) i })

-- an opened row is n numbers of the record
pub one_opened : (S : Paper.Setting) (x : Row) → length (written S (x ∷ [])) ≡ S.n
one_opened S x = length_written S (x ∷ []) ∙ omega arith

pub product_leaves : {s : List ℕ} {S : Setting} {at : Places} (x y : Row) {a b c r : Row} {a1 b1 : ℕ} {log log' log'' : List ℕ} → S.n ≤ 7
    → a ≡ row_at s S.n at.triple → b ≡ row_at s S.n (at.triple + 4 * S.n) → c ≡ row_at s S.n (at.triple + 8 * S.n)
    → Opens S at.log (minus (setting_of S) x a) a1 log log' → Opens S (at.log + S.n) (minus (setting_of S) y b) b1 log' log''
    → r ≡ beaver (setting_of S) a1 b1 (record { a = a; b = b; c = c }) → StepLeaves s S at 1 (product (setting_of S) x y) r log log''
unfolding product by_rows
product_leaves {s} {S} {at} x y {a} {b} {c} {log = log} h ea eb ec A B er d D =
    rw next
    (record {
      row_is = er ∙ rw (A.value_is, B.value_is);
      log_is = log_then (setting_of S) at.log (minus (setting_of S) x a ∷ []) (minus (setting_of S) y b ∷ []) log A.log_is (one_opened (setting_of S) _) B.log_is;
    })
  where
    third : (i n : ℕ) → i + 8 * n ≡ i + 4 * n * 2
    third i n = omega arith

    next : next_triple (setting_of S) d ≡ record { a = a; b = b; c = c }
    next = unfold triples_from in let m : 1 + D.more ≡ suc D.more = omega arith in rw (D.triples, m, ea, eb, ec, third)
