-- Steps one after the other: what is left of a deal and where, what stands in the record, and that a step done and then the rest of a tree is the tree
-- done.
-- Assumes nothing.
use mathlib.Core.Path.{◌≡◌, refl, sym, ap, ◌∙◌}
use mathlib.Core.List.{List, ◌++◌}
use Prim.Native.Nat.{ℕ, zero, suc, ◌+◌, ◌-◌, ◌*◌, ◌≤◌}
use native.Mathlib.Nat.{zero-add, suc-add, add_assoc}
use native.Mathlib.Omega.{arith}
use lib.ListN.{length, drop}
use Rattle.algebra.specs.Lists.{onto_at}
use Rattle.algebra.proofs.Lists.{onto_at_none, onto_at_then}
use Rattle.model.specs.Bytes.{sevens}
use Rattle.model.specs.Deal as Paper
use Rattle.model.specs.Sheet.{triples_from}
use Rattle.model.specs.Steps.{Row, Deal, by_rows, row_ops, written, Step, product, comparison}
use Rattle.model.specs.Trees.{Tree, done, multiply}
use Rattle.model.specs.Trees as Trees
use Rattle.model.proofs.StepLaws.{WorksAs, product_does, comparison_does}
use Rattle.model.proofs.Taking.{Took, took_product, took_comparison}
use Rattle.model.proofs.Written.{length_written, written_append}
use Rattle.sharing.specs.Settings.{setting_of}
use Rattle.sharing.specs.declared.setting.Setting.{Setting}
use Rattle.steps.specs.declared.places.Places.{Places}
use Rattle.steps.specs.Places.{past_triples}
use Rattle.steps.specs.Promises.{Dealt, StepLeaves, Works}

-- what stands behind k triples
pub triples_past : (s : List ℕ) (n i k c : ℕ) → drop k (triples_from s n i (k + c)) ≡ triples_from s n (i + k * (12 * n)) c
unfolding triples_from
triples_past s n i zero c =
    let e : i + 0 * (12 * n) ≡ i = omega arith in
    rw (zero-add, e)
triples_past s n i (suc k) c =
    let e : i + 4 * n * 3 + k * (12 * n) ≡ i + suc k * (12 * n) = omega arith in
    rw suc-add (triples_past s n (i + 4 * n * 3) k c ∙ rw e)

-- rows written behind others
pub log_then : (S : Paper.Setting) (i : ℕ) (xs ys : List Row) (log : List ℕ) {j : ℕ} {log' log'' : List ℕ} → log' ≡ onto_at i (written S xs) log → length (written S xs) ≡ j
    → log'' ≡ onto_at (i + j) (written S ys) log' → log'' ≡ onto_at i (written S (xs ++ ys)) log
log_then S i xs ys log e l f = f ∙ rw (e, ← l, onto_at_then i (written S xs) (written S ys) log, written_append)

-- the first j of j + k triples, and the k that a step of j triples leaves
module _ {s : List ℕ} {S : Setting} {at : Places} {d : Deal} where
  pub dealt_fewer : (j k : ℕ) → Dealt s S at (j + k) d → Dealt s S at j d
  dealt_fewer j k D = record { more = k + D.more; triples = D.triples ∙ rw add_assoc }

  pub dealt_past : (j k : ℕ) {o : ℕ} {x : Step} → Took d 0 j o x → Dealt s S at (j + k) d → Dealt s S (past_triples S at j) k x.deal
  dealt_past j k K D = record { more = D.more; triples = K.used.triples ∙ rw (D.triples, add_assoc) (triples_past s S.n at.triple j (k + D.more)) }

pub length_sevens : (w : ℕ) (cells : List ℕ) → length (sevens w cells) ≡ w
unfolding sevens
length_sevens zero cells = refl
length_sevens (suc w) cells = ap suc (length_sevens w (drop 7 cells))

-- nothing more is done
pub done_leaves : {s : List ℕ} {S : Setting} {at : Places} {k : ℕ} {row : Row} {log : List ℕ} → Works s S at k (done row) row log log
unfolding by_rows written
done_leaves {at = at} {log = log} d D = record { row_is = refl; log_is = sym (onto_at_none at.log log) }

module _ {s : List ℕ} {S : Setting} (h : S.n ≤ 7) {at : Places} {k : ℕ} {f row : Row} {log log' log'' : List ℕ} where
  -- a step of j triples, and the rest from the places past them
  step_then : (j : ℕ) (T : (Row → Tree Row Row) → Tree Row Row) {step : Deal → Step} (go : Row → Tree Row Row) → WorksAs (setting_of S) T step
      → ((d : Deal) → Took d 0 j (2 * j) (step d)) → StepLeaves s S at j step f log log'
      → Works s S (past_triples S at j) k (go f) row log' log'' → Works s S at (j + k) (T go) row log log''
  step_then j T {step = step} go does took first rest d D =
      let x = step d in
      let L = first d (dealt_fewer j k D) in
      let R = rest x.deal (dealt_past j k (took d) D) in
      let size : length (written (setting_of S) x.opened) ≡ j * (2 * S.n) = length_written (setting_of S) x.opened ∙ rw (took d).opens (omega arith) in
      rw (does go d, ← L.row_is) (record { row_is = R.row_is; log_is = log_then (setting_of S) at.log x.opened _ log L.log_is size R.log_is })

  pub product_then : (x y : Row) (go : Row → Tree Row Row) → StepLeaves s S at 1 (product (setting_of S) x y) f log log'
      → Works s S (past_triples S at 1) k (go f) row log' log'' → Works s S at (1 + k) (multiply x y go) row log log''
  product_then x y go = step_then 1 (multiply x y) go (product_does (setting_of S) x y) (took_product (setting_of S) h x y)

  pub comparison_then : (v w : ℕ) (cells : List ℕ) (go : Row → Tree Row Row) → StepLeaves s S at (w - 1) (comparison (setting_of S) v (sevens w cells)) f log log'
      → Works s S (past_triples S at (w - 1)) k (go f) row log' log''
      → Works s S at ((w - 1) + k) (Trees.comparison (row_ops (setting_of S)) v (sevens w cells) go) row log log''
  comparison_then v w cells go =
      step_then (w - 1) (Trees.comparison (row_ops (setting_of S)) v (sevens w cells)) go (comparison_does (setting_of S) v (sevens w cells))
      (λ d. rw (length_sevens w cells) at (took_comparison (setting_of S) h v (sevens w cells) d))
