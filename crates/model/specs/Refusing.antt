-- Tests that are tried in an order: "These small entries refuse in this order", "Tried in this order". The number of an answer is 0 where nothing
-- refuses.
-- Assumes nothing.
use Rattle.std.specs.Prelude.{Bool, cond, List, [], ◌∷◌, ℕ, zero, suc}

-- Each test is of what must hold, with the number of the refusal where it fails: the number of the first that fails, or 0.
unfoldable pub first_failed : List (Bool × ℕ) → ℕ
first_failed [] = 0
first_failed (test ∷ tests) = cond test.0 (first_failed tests) test.1

-- what is given where the number is 0, and what stands for it in a refusal
abbrev pub given {ℓ} : {A : Type ℓ} → ℕ → A → A → A
given zero done refused = done
given (suc number) done refused = refused
