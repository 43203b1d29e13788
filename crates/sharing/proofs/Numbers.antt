-- What shareable and recoverable know from their calls: tests with p as a call gave it, and a bound.
-- Assumes nothing.
use mathlib.Core.Path.{◌≡◌, sym, ◌∙◌}
use mathlib.Core.Bool.{Bool}
use mathlib.Core.List.{List}
use Prim.Native.Nat.{ℕ, ◌≤◌}
use native.Mathlib.Omega.{arith}
use lib.ListN.{length, get_or}
use Rattle.algebra.specs.Lists.{all_below}
use Rattle.algebra.specs.Rows.{row, padded}
use Rattle.algebra.proofs.Rows.{row_again}
use Rattle.model.specs.Fields.{setting_tests}
use Rattle.model.specs.Sharing.{is_sharing}
use Rattle.model.specs.Refusing.{first_failed}
use Rattle.model.proofs.Trying.{setting_people}

pub below_told : {p q : ℕ} (xs : List ℕ) {a b : Bool} → p ≡ q → a ≡ all_below p xs → a ≡ b → all_below q xs ≡ b
below_told xs e g k = rw (← e) (sym g ∙ k)

pub sharing_told : {p q n : ℕ} (t : ℕ) (xs : List ℕ) {ys : List ℕ} {a b : Bool} → p ≡ q → length xs ≡ n → ys ≡ padded xs
    → a ≡ is_sharing p n t (row n (λ j. get_or ys j 0)) → a ≡ b → is_sharing q n t (padded xs) ≡ b
sharing_told {n = n} t xs e l y g k =
    rw (← e) (sym (g ∙ rw (y, l, row_again n (λ j. get_or xs j 0))) ∙ k)

-- a list as long as the parties are fits a row
pub at_most_seven : (f n t : ℕ) {r l : ℕ} → r ≡ first_failed (setting_tests f n t) → r ≡ 0 → l ≡ n → l ≤ 7
at_most_seven f n t e z k = omega (arith, setting_people f n t e z)
