-- A tree whose course the deal does not decide, worked on a well-formed deal: what it leaves, reveals, takes and opens.
-- Assumes nothing.
use mathlib.Core.Path.{◌≡◌, refl, sym, ap₂, subst}
use mathlib.Core.List.{List, ◌∷◌}
use Prim.Native.Nat.{ℕ, ◌+◌, ◌*◌, ◌≤◌}
use native.Mathlib.Omega.{arith}
use lib.ListN.{length}
use Rattle.algebra.specs.Lists.{All, none, one}
use Rattle.model.specs.Fields.{Parties}
use Rattle.model.specs.Sharing.{Sharing}
use Rattle.model.specs.Trees.{Tree}
use Rattle.model.specs.Steps.{Setting, Row, Triple, Deal, Worked, by_rows}
use Rattle.model.proofs.Taking.{Used}
use Rattle.model.proofs.Shared.{TripleOk, shared_minus, opens}
use Rattle.model.proofs.Determined.{Determined, d_done, d_multiply, d_mask, d_reveal, MaskOk, Bounds, shared_masked, shared_product}

-- What was worked on the deal d ends with Q and reveals the values vs; a mask for each number of xs and n triples are gone from the front of the deal; so
-- many rows are opened, and all are sharings.
pub record Ran (S : Setting) {A : Type 0} (Q : A → Type 0) (xs : List ℕ) (n : ℕ) (vs : List ℕ) (d : Deal) (w : Worked A) : Type 0 where
  pub left : Q w.left
  pub shown : w.shown ≡ vs
  pub used : Used d (length xs) n w.deal
  pub opened_many : length w.opened ≡ length xs + 2 * n + length vs
  pub opened : All (Sharing S.p S.n S.t) w.opened

module _ (S : Setting) {B : ℕ} (N : Bounds S.p S.l B) (P : Parties S.n S.t) {A : Type 0} {Q : A → Type 0} where
  pub ran : {xs : List ℕ} {n : ℕ} {vs : List ℕ} {T : Tree Row A} → Determined S B Q xs n vs T → {ms : List (List Row)} {ts : List Triple}
      → All (MaskOk S B) ms → length xs ≤ length ms → All (TripleOk S) ts → n ≤ length ts
      → Ran S Q xs n vs (record { masks = ms; triples = ts }) (by_rows S T (record { masks = ms; triples = ts }))
  unfolding by_rows
  ran (d_done q) wm a wt b = record { left = q; shown = refl; used = record { masks = refl; triples = refl }; opened_many = refl; opened = none }
  ran (d_multiply X Y k) wm a none b = absurd (omega arith)
  ran (d_multiply X Y k) wm a (one {x = t} ok wt) b =
      let M = N.modulus_is in
      let next = ran (k _ (shared_product S N P X Y t ok refl refl)) wm a wt (omega arith) in
      record {
        left = next.left;
        shown = next.shown;
        used = record { masks = next.used.masks; triples = next.used.triples };
        opened_many = omega (arith, next.opened_many);
        opened = one (shared_minus S M P X (record { sharing = ok.a_sharing_lem; is = refl })).sharing
            (one (shared_minus S M P Y (record { sharing = ok.b_sharing; is = refl })).sharing next.opened);
      }
  ran (d_mask X k) none a wt b = absurd (omega arith)
  ran (d_mask {go = go} X k) {ts = ts} (one {x = m} {xs = ms} ok wm) a wt b =
      let O = shared_masked S N P X ok.small ok.shareds in
      let e = opens S N.modulus_is P O in
      let next = ran (k ok.r m ok.small ok.shareds) wm (omega arith) wt b in
      record {
        left = rw e next.left;
        shown = rw e next.shown;
        used = record { masks = rw e next.used.masks; triples = rw e next.used.triples };
        opened_many = rw e (omega (arith, next.opened_many));
        opened = one O.sharing (subst (λ (c : ℕ). All (Sharing S.p S.n S.t) (by_rows S (go c m) (record { masks = ms; triples = ts })).opened) (sym e) next.opened);
      }
  ran (d_reveal X k) wm a wt b =
      let next = ran k wm a wt b in
      record {
        left = next.left;
        shown = ap₂ {C = List ℕ} ◌∷◌ (opens S N.modulus_is P X) next.shown;
        used = record { masks = next.used.masks; triples = next.used.triples };
        opened_many = omega (arith, next.opened_many);
        opened = one X.sharing next.opened;
      }
