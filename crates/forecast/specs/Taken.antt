-- What program forecast takes of its input: header and script.
-- Assumes nothing.
use Rattle.std.specs.Prelude.{◌≡◌, List, ℕ, ◌≤◌, length, take}
use Rattle.model.specs.Refusing.{first_failed, given}
use Rattle.model.specs.Sheet.{header_of, length_tests}
use Rattle.model.specs.Columns.{shape_tests}
use Rattle.model.specs.Forecast.{head_in}

-- of a whole sheet, which has the length that its header implies, header and script; else the input as it is
unfoldable pub taken : List ℕ → List ℕ
taken s = given (first_failed (shape_tests s)) (head_in s) s

-- the same of an input that neither 1, 2, 3 nor the limits of 4 refuse, by its length
unfoldable pub taken_by : List ℕ → List ℕ
taken_by s = given (first_failed (length_tests (header_of s) s)) (head_in s) s

-- so many bytes of s are these
pub record Cut (s part : List ℕ) (size : ℕ) : Type 0 where
  pub within : size ≤ length s
  pub is : take size s ≡ part
