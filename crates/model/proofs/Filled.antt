-- A sheet whose bytes from a place on are 0: its rows are sharings of 0, and its masks and triples are well formed.
-- Assumes nothing.
use mathlib.Core.Path.{◌≡◌, refl}
use mathlib.Core.List.{List, ◌++◌}
use Prim.Native.Nat.{ℕ, zero, suc, ◌+◌, ◌*◌, ◌≤◌}
use native.Mathlib.Nat.{zero-mod}
use native.Mathlib.Omega.{arith}
use lib.Dec.{T, ltb, lt→ltb}
use lib.ListN.{get_or}
use Rattle.algebra.specs.Ring.{mul}
use Rattle.algebra.specs.Lists.{All, none, one, all_below}
use Rattle.algebra.proofs.Rows.{row_ext}
use Rattle.algebra.proofs.Tests.{and_both}
use Rattle.model.specs.Fields.{Modulus, Parties}
use Rattle.model.specs.Refusing.{first_failed}
use Rattle.model.specs.Sharing.{Sharing, secret}
use Rattle.model.specs.Bytes.{number, row_at}
use Rattle.model.specs.Steps.{Setting, Row, Triple, constant}
use Rattle.model.specs.Sheet.{Header, setting_of, inputs_at, input_in, deal_in, rows_at, masks_from, triples_from, deal_rows, spell, secrets, good_mask, good_triple, shares_below, a_sharing, row_tests, Permitted}
use Rattle.model.proofs.Fields.{fields}
use Rattle.model.proofs.Trying.{all_pass}
use Rattle.model.proofs.Polynomials.{positive}
use Rattle.model.proofs.Sharings.{test_exact}
use Rattle.model.proofs.Shared.{shared_zero}
use Rattle.model.proofs.SheetDeal.{all_rows}
use Rattle.model.proofs.Acceptance.{all_map}
use Rattle.model.proofs.MadeSheets.{each_all, low_shares}

module _ (s : List ℕ) (k : ℕ) (zeros : (i : ℕ) → k ≤ i → get_or s i 0 ≡ 0) where
  number_zero : (w i : ℕ) → k ≤ i → number w s i ≡ 0
  unfolding number
  number_zero zero i h = refl
  number_zero (suc w) i h = rw (zeros i h, number_zero w (i + 1) (omega arith)) refl

  module _ (S : Setting) where
    Zero : Row → Type 0
    Zero x = x ≡ constant S 0

    row_zero : (i : ℕ) → k ≤ i → Zero (row_at s S.n i)
    unfolding row_at constant Zero
    row_zero i h = row_ext S.n _ _ (λ j l. number_zero 4 (i + 4 * j) (omega arith))

    rows_zero : (i c : ℕ) → k ≤ i → All Zero (rows_at s S.n i c)
    unfolding rows_at
    rows_zero i zero h = none
    rows_zero i (suc c) h = one (row_zero i h) (rows_zero (i + 4 * S.n) c (omega arith))

    masks_zero : (i c : ℕ) → k ≤ i → All (All Zero) (masks_from s S.n S.l i c)
    unfolding masks_from
    masks_zero i zero h = none
    masks_zero i (suc c) h = one (rows_zero i S.l h) (masks_zero (i + 4 * S.n * S.l) c (omega arith))

    ZeroTriple : Triple → Type 0
    ZeroTriple x = Zero x.a × Zero x.b × Zero x.c

    triples_zero : (i c : ℕ) → k ≤ i → All ZeroTriple (triples_from s S.n i c)
    unfolding triples_from ZeroTriple
    triples_zero i zero h = none
    triples_zero i (suc c) h =
        one (row_zero i h, row_zero (i + 4 * S.n) (omega arith), row_zero (i + 4 * S.n * 2) (omega arith)) (triples_zero (i + 4 * S.n * 3) c (omega arith))

    module _ (M : Modulus S.p) (P : Parties S.n S.t) where
      sharing_zero : (x : Row) → Zero x → Sharing S.p S.n S.t x
      unfolding Zero
      sharing_zero x e = rw e (shared_zero S M P).sharing

      secret_zero : (x : Row) → Zero x → secret S.p S.t x ≡ 0
      unfolding Zero
      secret_zero x e = rw e (shared_zero S M P).is

      secrets_zero : {m : List Row} → All Zero m → T (all_below 2 (secrets S m)) × (spell (secrets S m) ≡ 0)
      unfolding secrets all_below spell
      secrets_zero none = (tt, refl)
      secrets_zero (one {x} e es) = let r = secrets_zero es in rw (secret_zero x e, r.1) (r.0, refl)

      mask_zero : (m : List Row) → All Zero m → T (good_mask S m)
      unfolding good_mask
      mask_zero m e = let r = secrets_zero e in rw r.1 (and_both (all_below 2 (secrets S m)) (ltb 0 S.p) r.0 (lt→ltb 0 S.p (positive M)))

      triple_zero : (x : Triple) → ZeroTriple x → T (good_triple S x)
      unfolding good_triple mul ZeroTriple
      triple_zero x e = rw (secret_zero x.a e.0, secret_zero x.b e.1, secret_zero x.c e.2, zero-mod) tt

-- where all bytes past header and script are 0, 5 to 8 do not refuse
pub rows_pass : (h : Header) (s : List ℕ) → Permitted h → ((i : ℕ) → inputs_at h ≤ i → get_or s i 0 ≡ 0)
    → first_failed (row_tests (setting_of h) (input_in h s) (deal_in h s)) ≡ 0
unfolding row_tests input_in deal_in
rows_pass h s Q zeros =
    let S = setting_of h in
    let M = (fields h.field Q.field).modulus_is in
    let P = Q.people in
    let rows : All (Sharing S.p S.n S.t) (input_in h s ++ deal_rows (deal_in h s)) =
    rw (all_rows h s) (all_map (sharing_zero s (inputs_at h) zeros S M P) (rows_zero s (inputs_at h) zeros S (inputs_at h) _ (omega arith))) in
    all_pass
    (one (each_all (shares_below S) (all_map (low_shares M P) rows))
    (one (each_all (a_sharing S) (all_map (λ x r. (test_exact M P x).1 r) rows))
    (one (each_all (good_mask S) (all_map (mask_zero s (inputs_at h) zeros S M P) (masks_zero s (inputs_at h) zeros S _ h.masks (omega arith))))
    (one (each_all (good_triple S) (all_map (triple_zero s (inputs_at h) zeros S M P) (triples_zero s (inputs_at h) zeros S _ h.triples (omega arith)))) none))))
