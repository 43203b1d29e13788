-- The paper's header for the one that the code reads, and what a reading answers.
-- Assumes nothing.
use Rattle.std.specs.Prelude.{◌≡◌, Bool, List, ◌++◌, ℕ, Result, IfOk}
use Rattle.model.specs.Refusing.{first_failed}
use Rattle.model.specs.Sheet as Paper
use Rattle.refusals.specs.Numbers.{told}
use Rattle.refusals.specs.declared.Refusal.{Refusal}
use Rattle.sheet.specs.declared.header.Header.{Header}

-- the code's header as the paper's, number by number
abbrev pub numbers_of : Header → Paper.Header
numbers_of h =
    record {
      field = h.field;
      n = h.n;
      t = h.t;
      inputs = h.inputs;
      masks = h.masks;
      triples = h.triples;
      script = h.script;
    }

-- what a run tries of a header: 1, 2, 3, 12, and 4 for a count
abbrev pub run_tests : ℕ → List ℕ → List (Bool × ℕ)
run_tests present s = let h = Paper.header_of s in Paper.header_tests s ++ (Paper.present_tests h present ++ Paper.limit_tests h)

-- what a reading answers: the number of the first test that fails, and where none does what was read, of which something holds
abbrev pub Reads : {A : Type 0} → List (Bool × ℕ) → (A → Type 0) → Result A Refusal → Type 0
Reads tests Is read = (told read ≡ first_failed tests) × IfOk read Is
