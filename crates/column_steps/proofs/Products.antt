-- MUL on one column: the triple at its place, and two openings.
-- Assumes nothing.
use mathlib.Core.Path.{◌≡◌, ◌∙◌}
use mathlib.Core.List.{List}
use Prim.Native.Nat.{ℕ, suc, ◌+◌, ◌*◌}
use native.Mathlib.Omega.{arith}
use Rattle.model.specs.Bytes.{row_at}
use Rattle.model.specs.Deal.{Row, Triple}
use Rattle.model.specs.Sheet.{triples_from}
use Rattle.model.specs.Trees.{Tree, multiply}
use Rattle.model.specs.Steps.{minus, beaver, next_triple, less_triple}
use Rattle.model.specs.Replay.{from_record, by_record}
use Rattle.sharing.specs.Settings.{setting_of}
use Rattle.column_steps.specs.declared.column.Column.{Column}
use Rattle.column_steps.specs.declared.column.Ahead.{Ahead}
use Rattle.refusals.specs.declared.Refusal.{Refusal}
use Rattle.column_steps.specs.Reads.{table_of, own_of, Working, OpensTo, StopsAt, deal_from, record_from, read_from, ComesTo, Stops, past}

module _ {c : Column} (W : Working c) (part log : List ℕ) (at : Ahead) (left right : Row) where
  -- the next triple
  abbrev next : Triple
  next = record { a = row_at part 1 at.triple; b = row_at part 1 (at.triple + 4); c = row_at part 1 (at.triple + 8) }

  next_is : (M T : ℕ) → next_triple (own_of c) (deal_from c part at (0 + M) (1 + T)) ≡ next
  unfolding triples_from
  next_is M T = let m : 1 + T ≡ suc T = omega arith in rw m

  left_is : (M T : ℕ) → less_triple (deal_from c part at (0 + M) (1 + T)) ≡ deal_from c part (past at 1) M T
  unfolding triples_from
  left_is M T =
      let m : 1 + T ≡ suc T = omega arith in
      let z : 0 + M ≡ M = omega arith in
      rw (m, z)

  -- MUL by its two openings
  both : (M T : ℕ) (go : Row → Tree Row (List Row)) → read_from c part log at (0 + M) (1 + T) (multiply left right go)
      ≡ from_record (table_of c) c.reader.party (minus (own_of c) left next.a) (record_from c log at.opening)
      (λ a1 log₁. from_record (table_of c) c.reader.party (minus (own_of c) right next.b) log₁
      (λ b1 log₂. by_record (table_of c) c.reader.party (go (beaver (own_of c) a1 b1 next)) (deal_from c part (past at 1) M T) log₂))
  unfolding by_record
  both M T go = rw (next_is M T, left_is M T)

  module _ {a x : Row} (ea : a ≡ row_at part 1 at.triple) (ex : x ≡ minus (setting_of c.setting) left a) where
    first_is : x ≡ minus (own_of c) left next.a
    first_is = ex ∙ rw (W.own, ea)

    pub first_stops : {e : Refusal} → StopsAt c log at.opening x e → Stops c part log at 0 1 (multiply left right) e
    first_stops S = record { reads = λ M T go. both M T go ∙ rw (← first_is) (S.reads _) }

    module _ {a1 : ℕ} (O : OpensTo c log at.opening x a1) where
      by_first : (M T : ℕ) (go : Row → Tree Row (List Row)) → read_from c part log at (0 + M) (1 + T) (multiply left right go)
          ≡ from_record (table_of c) c.reader.party (minus (own_of c) right next.b) (record_from c log (at.opening + 1))
          (λ b1 log₂. by_record (table_of c) c.reader.party (go (beaver (own_of c) a1 b1 next)) (deal_from c part (past at 1) M T) log₂)
      by_first M T go = both M T go ∙ rw (← first_is) (O.reads _)

      module _ {b y : Row} (eb : b ≡ row_at part 1 (at.triple + 4)) (ey : y ≡ minus (setting_of c.setting) right b) where
        second_is : y ≡ minus (own_of c) right next.b
        second_is = ey ∙ rw (W.own, eb)

        pub second_stops : {e : Refusal} → StopsAt c log (at.opening + 1) y e → Stops c part log at 0 1 (multiply left right) e
        second_stops S = record { reads = λ M T go. by_first M T go ∙ rw (← second_is) (S.reads _) }

        pub product_comes : {b1 : ℕ} {d r : Row} → OpensTo c log (at.opening + 1) y b1 → d ≡ row_at part 1 (at.triple + 8)
            → r ≡ beaver (setting_of c.setting) a1 b1 (record { a = a; b = b; c = d }) → ComesTo c part log at (past at 1) 0 1 (multiply left right) r
        product_comes {b1} {d} {r} P ed er =
            let two : at.opening + 1 + 1 ≡ at.opening + 2 * 1 = omega arith in
            let row : r ≡ beaver (own_of c) a1 b1 next = er ∙ rw (W.own, ea, eb, ed) in
            record { reads = λ M T go. by_first M T go ∙ rw (← second_is, row, ← two) (P.reads _); there = rw (← two) P.there }
