-- `word` meets its contract: two numbers of 2 bytes make one of 4.
-- Assumes nothing.
use mathlib.Core.Path.{◌≡◌}
use mathlib.Core.List.{List}
use Prim.Native.Nat.{ℕ, ◌+◌, ◌*◌}
use native.Mathlib.Omega.{arith}
use borrow.Author.Rules.{rules}
use Rattle.model.specs.Bytes.{number}
use Rattle.words.proofs.word.Statement.{statement}
use Rattle.words.proofs.word.Tie as tie

halves : (s : List ℕ) (i : ℕ) {low high : ℕ} → low ≡ number 2 s i → high ≡ number 2 s (i + 2) → low + 65536 * high ≡ number 4 s i
unfolding number
halves s i e f =
    let b : i + 1 + 1 ≡ i + 2 = omega arith in
    rw b (omega arith)

pub word_spec : {M : Type 1} → statement M
word_spec =
    tie.close
    (tie.spec (λ c κs. search rules) (λ c. search rules) (λ c κs. search rules) (λ c. search rules) (λ c. search rules) (λ c. search halves))
