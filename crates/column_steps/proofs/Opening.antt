-- An opening of the record, and what follows: by the value or the refusal that reading it gave.
-- Assumes nothing.
use mathlib.Core.Path.{◌≡◌, sym, ap, ◌∙◌}
use mathlib.Core.Bool.{true}
use mathlib.Core.List.{List}
use Prim.Native.Nat.{ℕ, ◌+◌, ◌*◌, ◌^◌, ◌≤◌, ◌<◌}
use native.Mathlib.Nat.{mul-le-mul_right}
use native.Mathlib.Omega.{arith}
use lib.Dec.{leb, leb→le}
use lib.ListN.{length, drop, length-drop}
use lib.Seq.{drop-drop}
use Rattle.std.specs.Prelude.{Result, Ok, Err, IfOk}
use Rattle.algebra.proofs.Tests.{and_left}
use Rattle.model.specs.Deal.{Row}
use Rattle.model.specs.Replay.{own_share, opening, opened_value, opening_tests, opening_number, from_record}
use Rattle.model.proofs.Trying.{numbered, holding, all_hold, given_refused}
use Rattle.refusals.specs.declared.Refusal.{Refusal}
use Rattle.refusals.specs.Numbers.{number_of, told}
use Rattle.refusals.proofs.Numbers.{numbered as numbered_above}
use Rattle.column_steps.specs.declared.column.Column.{Column}
use Rattle.column_steps.specs.Reads.{Working, record_from, OpensNext}

-- an opening that is not refused is there
long_enough : (p n t j own : ℕ) (log : List ℕ) → opening_number p n t j own log ≡ 0 → n ≤ length log
unfolding opening_tests numbered holding
long_enough p n t j own log e = leb→le n (length log) (and_left (leb n (length log)) true (all_hold 43 (opening_tests p n t j own log) tt e))

module _ {c : Column} (W : Working c) (log : List ℕ) (read : ℕ) (x : Row) where
  abbrev number : ℕ
  number = opening_number c.reader.p c.reader.n c.reader.t c.reader.party (own_share x) (record_from c log read)

  abbrev value : ℕ
  value = opened_value c.reader.p c.reader.n c.reader.t (opening c.reader.p c.reader.n c.reader.t (record_from c log read))

  next_record : drop c.reader.n (record_from c log read) ≡ record_from c log (read + 1)
  next_record =
      let e : c.reader.n * read + c.reader.n ≡ c.reader.n * (read + 1) = omega arith in
      drop-drop c.reader.n (c.reader.n * read) log ∙ ap (λ (k : ℕ). drop k log) e

  pub opens_next : (r : Result ℕ Refusal) → told r ≡ number → IfOk r (λ v. (v ≡ value) × (v < c.reader.p)) → OpensNext c log read x r
  unfolding from_record
  opens_next (Ok v) e h =
      record {
        reads = λ go. rw (← W.same_p, ← e, next_record, h.0);
        there =
            let l = long_enough _ _ _ _ _ _ (sym e) in
            let q : length (record_from c log read) ≡ _ = length-drop (c.reader.n * read) log in
            omega (arith, l, q);
        below = rw W.same_p at h.1;
      }
  opens_next (Err refusal) e h =
      record { reads = λ go. rw (← W.same_p, ← e) (given_refused (number_of refusal) _ _ (λ z. omega (arith, numbered_above refusal))) }

-- an opening that is there has a place that is a number of the code
pub counts_on : {c : Column} (log : List ℕ) (read : ℕ) → Working c → c.reader.n * read ≤ length log → length log < 2 ^ 64 → read < 2 ^ 64
counts_on {c} log read W h l =
    let k : 1 ≤ c.reader.n = omega (arith, W.reading.parties.least) in
    let m : 1 * read ≤ c.reader.n * read = mul-le-mul_right read k in
    omega arith
