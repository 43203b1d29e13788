-- What a step comes to: a refusal ends it, whatever follows; and two steps, one after the other, are one.
-- Assumes nothing.
use mathlib.Core.Path.{◌≡◌, ◌∙◌}
use mathlib.Core.List.{List}
use Prim.Native.Nat.{ℕ, ◌+◌, ◌*◌, ◌≤◌}
use native.Mathlib.Omega.{arith}
use lib.ListN.{length}
use Rattle.std.specs.Prelude.{Result, Ok, Err}
use Rattle.model.specs.Deal.{Row}
use Rattle.refusals.specs.declared.Refusal.{Refusal}
use Rattle.secret.specs.declared.Row.{Row as Shares}
use Rattle.column_steps.specs.declared.column.Column.{Column}
use Rattle.column_steps.specs.declared.column.Ahead.{Ahead}
use Rattle.column_steps.specs.Reads.{Standing, Builder, ComesTo, Stops, Comes, past}

module _ {c : Column} {part log : List ℕ} {at : Ahead} where
  -- the first of two is refused
  pub first_stops : {m k : ℕ} (m' k' : ℕ) {step : Builder} {then : Row → Builder} {e : Refusal} → Stops c part log at m k step e
      → Stops c part log at (m + m') (k + k') (λ go. step (λ z. then z go)) e
  first_stops {m} {k} m' k' {then = then} S =
      record {
        reads = λ M T go.
            let a : m + m' + M ≡ m + (m' + M) = omega arith in
            let b : k + k' + T ≡ k + (k' + T) = omega arith in
            rw (a, b) (S.reads (m' + M) (k' + T) (λ x. then x go));
      }

  -- the first is done, and then the second
  pub then_comes : {mid : Ahead} (next : Ahead) {m k : ℕ} (m' k' : ℕ) {step : Builder} (then : Row → Builder) {x : Row} (r : Result Shares Refusal)
      → ComesTo c part log at mid m k step x → Comes c part log mid next m' k' (then x) r
      → Comes c part log at next (m + m') (k + k') (λ go. step (λ z. then z go)) r
  then_comes next {m} {k} m' k' then (Ok y) C D =
      record {
        reads = λ M T go.
            let a : m + m' + M ≡ m + (m' + M) = omega arith in
            let b : k + k' + T ≡ k + (k' + T) = omega arith in
            rw (a, b) (C.reads (m' + M) (k' + T) (λ x. then x go) ∙ D.reads M T go);
        there = D.there;
      }
  then_comes next {m} {k} m' k' then (Err e) C D =
      record {
        reads = λ M T go.
            let a : m + m' + M ≡ m + (m' + M) = omega arith in
            let b : k + k' + T ≡ k + (k' + T) = omega arith in
            rw (a, b) (C.reads (m' + M) (k' + T) (λ x. then x go) ∙ D.reads M T go);
      }

  -- a row made of the row that a step comes to
  pub made_stops : {m k : ℕ} {step : Builder} (make : Row → Row) {e : Refusal} → Stops c part log at m k step e → Stops c part log at m k (λ go. step (λ z. go (make z))) e
  made_stops make S = record { reads = λ M T go. S.reads M T (λ z. go (make z)) }

  pub made_comes : {next : Ahead} {m k : ℕ} {step : Builder} (make : Row → Row) {x : Row} → ComesTo c part log at next m k step x
      → ComesTo c part log at next m k (λ go. step (λ z. go (make z))) (make x)
  made_comes make C = record { reads = λ M T go. C.reads M T (λ z. go (make z)); there = C.there }

  -- standing past a step
  pub standing_past : {m : ℕ} (j k : ℕ) → Standing c part log at m (j + k) → c.reader.n * (past at j).opening ≤ length log → Standing c part log (past at j) m k
  standing_past j k S l = record { masks = S.masks; triples = omega (arith, S.triples); openings = l }

  pub standing_first : {m : ℕ} (j k : ℕ) → Standing c part log at m (j + k) → Standing c part log at 0 j
  standing_first j k S = record { masks = omega (arith, S.masks); triples = omega (arith, S.triples); openings = S.openings }
