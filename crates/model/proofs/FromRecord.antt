-- A tree on one column, read from the record that the run of the whole table wrote: it is not refused, and leaves that column of what the run leaves.
-- Assumes nothing.
use mathlib.Core.Path.{◌≡◌, refl, ◌∙◌}
use mathlib.Core.List.{List, ◌++◌, append_assoc, map}
use Prim.Native.Nat.{ℕ, suc, ◌<◌}
use Rattle.algebra.specs.Lists.{All, one}
use Rattle.model.specs.Fields.{InUse, Parties}
use Rattle.model.specs.Sharing.{Sharing}
use Rattle.model.specs.Presence.{PermittedSet}
use Rattle.model.specs.Deal.{Setting, Row, Deal}
use Rattle.model.specs.Trees.{Tree}
use Rattle.model.specs.Steps.{Worked, written, by_rows, less_triple, less_mask}
use Rattle.model.specs.Sheet.{Header, setting_with, setting_of}
use Rattle.model.specs.Replay.{Read, finished, by_record}
use Rattle.model.proofs.Pairs.{Paired, p_last, p_multiply, p_mask, p_reveal, Ends, ends, paired_beaver, paired_spelled}
use Rattle.model.proofs.OneColumn.{Column, column_row, column_triple, column_deal, others_map, column_keep, next_triple_lem, next_mask_lem}
use Rattle.model.proofs.RecordedRows.{from_recorded}

-- A reading from the record finishes: with a result that R relates to that of the rows, column i of the deal that is left, and the record after what the
-- rows wrote.
pub record Finishes (i : ℕ) {A B : Type 0} (R : A → B → Type 0) (w : Worked A) (r : Read B) (rest : List ℕ) : Type 0 where
  pub left : B
  pub related : R w.left left
  pub is : r ≡ finished left (column_deal i w.deal) rest

module _ (h : Header) (present : ℕ) (field : InUse h.field) (people : Parties h.n h.t)
    (set : PermittedSet h.n h.t present) (i : ℕ) (l : i < h.n) where
  abbrev S : Setting
  S = setting_with present h

  module _ {A B : Type 0} {R : A → B → Type 0} where
    pub finishes : {T : Tree Row A} {T' : Tree Row B} → Paired (Column i) (Ends R) T T' → (d : Deal)
        → All (Sharing S.p S.n S.t) (by_rows S T d).opened → (rest : List ℕ)
        → Finishes i R (by_rows S T d) (by_record (setting_of h) (suc i) T' (column_deal i d) (written S (by_rows S T d).opened ++ rest)) rest
    unfolding by_rows by_record written
    finishes (p_last (ends {b = b} r)) d os rest = record { left = b; related = r; is = refl }
    finishes (p_multiply ex ey k) d (one oa (one ob os)) rest =
        let K = column_keep S i l in
        let t = next_triple_lem S i l d.triples in
        let next = finishes (k _ _ (paired_beaver S.p K _ _ t.a t.b t.c)) (less_triple d) os rest in
        record {
          left = next.left;
          related = next.related;
          is = rw (append_assoc, append_assoc)
              (from_recorded h present field people set oa _ i l (K.minus ex t.a) _
              ∙ from_recorded h present field people set ob _ i l (K.minus ey t.b) _ ∙ rw (others_map (column_triple i) d.triples) next.is);
        }
    finishes (p_mask ex k) d (one o os) rest =
        let K = column_keep S i l in
        let m = next_mask_lem S i l d.masks in
        let next = finishes (k _ _ _ m) (less_mask d) os rest in
        record {
          left = next.left;
          related = next.related;
          is = rw append_assoc
              (from_recorded h present field people set o _ i l (K.plus ex (paired_spelled S.p K m)) _ ∙ rw (others_map (map (column_row i)) d.masks) next.is);
        }
    finishes (p_reveal ex k) d (one o os) rest =
        let next = finishes k d os rest in
        record {
          left = next.left;
          related = next.related;
          is = rw append_assoc (from_recorded h present field people set o _ i l ex _ ∙ next.is);
        }
