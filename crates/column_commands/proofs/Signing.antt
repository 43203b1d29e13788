-- LTZS on one column, as the code's loop has it: after i signs what is left to read is what the whole command reads.
-- Assumes nothing.
use mathlib.Core.Path.{◌≡◌, refl, sym, ap, subst, ◌∙◌}
use mathlib.Core.List.{List}
use Prim.Native.Nat.{ℕ, suc, ◌+◌, ◌-◌, ◌*◌, ◌^◌, ◌≤◌, ◌<◌}
use native.Mathlib.Omega.{arith}
use lib.ListN.{length, get_or, set}
use Rattle.algebra.specs.Lists.{onto_at}
use Rattle.model.specs.Bytes.{sevens}
use Rattle.model.specs.Commands.{registers_from, signs}
use Rattle.model.specs.Costs.{mod_triples}
use Rattle.model.specs.Deal.{Row, no_row}
use Rattle.model.specs.Trees.{Tree}
use Rattle.cuts.specs.declared.cut.Cut.TheVariants.{Ltz}
use Rattle.refusals.specs.declared.Refusal.{Refusal}
use Rattle.registers.specs.Cells.{register_in}
use Rattle.registers.proofs.Cells.{get_seven, set_seven}
use Rattle.column_steps.specs.declared.column.Column.{Column}
use Rattle.column_steps.specs.declared.column.Ahead.{Ahead}
use Rattle.column_steps.specs.Reads.{Working, Standing, read_from, Comes, past, past_mask, ComesTo, Stops}
use Rattle.column_steps.specs.Cutting.{cut_tree}
use Rattle.column_steps.proofs.Opening.{counts_on}
use Rattle.column_commands.specs.Signing.{past_signs, signs_tree, SignsTo, SignsStop}
use Rattle.std.specs.Prelude.{Result}
use Rattle.secret.specs.declared.Row.{Row as Shares}

-- past one sign, as a cut has it
one_sign : (c : Column) (k : ℕ) (at : Ahead) → past (past_mask c.setting.l at) (mod_triples c.setting.l (k - 1)) ≡ past_signs c k at 1
one_sign c k at =
    let n = mod_triples c.setting.l (k - 1) in
    let a : at.mask + 4 * c.setting.l ≡ at.mask + 1 * (4 * c.setting.l) = omega arith in
    let b : at.triple + 12 * n ≡ at.triple + 12 * (1 * n) = omega arith in
    let e : at.opening + 1 + 2 * n ≡ at.opening + 1 * (1 + 2 * n) = omega arith in
    rw (a, b, e)

-- the same by its numbers
pub sign_past : (c : Column) (k : ℕ) (at : Ahead)
    → record { mask = at.mask + 4 * c.setting.l; triple = at.triple + 12 * mod_triples c.setting.l (k - 1); opening = at.opening + (1 + 2 * mod_triples c.setting.l (k - 1)) }
    ≡ past_signs c k at 1
sign_past c k at =
    let n = mod_triples c.setting.l (k - 1) in
    let e : at.opening + (1 + 2 * n) ≡ at.opening + 1 + 2 * n = omega arith in
    rw e (one_sign c k at)

pub sign_comes : (c : Column) (part log : List ℕ) (at : Ahead) (k : ℕ) {x y : Row} (r : Result Shares Refusal) → x ≡ y
    → Comes c part log at (past (past_mask c.setting.l at) (mod_triples c.setting.l (k - 1))) 1 (mod_triples c.setting.l (k - 1)) (cut_tree c (Ltz k) x) r
    → Comes c part log at (past_signs c k at 1) 1 (mod_triples c.setting.l (k - 1)) (cut_tree c (Ltz k) y) r
sign_comes c part log at k {x} {y} r e C =
    subst (λ (v : Ahead). Comes c part log at v 1 (mod_triples c.setting.l (k - 1)) (cut_tree c (Ltz k) y) r) (one_sign c k at) (rw e at C)

no_sign : (c : Column) (k : ℕ) (at : Ahead) → at ≡ past_signs c k at 0
no_sign c k at =
    let n = mod_triples c.setting.l (k - 1) in
    let a : at.mask + 0 * (4 * c.setting.l) ≡ at.mask = omega arith in
    let b : at.triple + 12 * (0 * n) ≡ at.triple = omega arith in
    let e : at.opening + 0 * (1 + 2 * n) ≡ at.opening = omega arith in
    rw (a, b, e)

more_signs : (c : Column) (k : ℕ) (at : Ahead) (i : ℕ) → past_signs c k (past_signs c k at i) 1 ≡ past_signs c k at (i + 1)
more_signs c k at i =
    let n = mod_triples c.setting.l (k - 1) in
    let a : at.mask + i * (4 * c.setting.l) + 1 * (4 * c.setting.l) ≡ at.mask + (i + 1) * (4 * c.setting.l) = omega arith in
    let b : at.triple + 12 * (i * n) + 12 * (1 * n) ≡ at.triple + 12 * ((i + 1) * n) = omega arith in
    let e : at.opening + i * (1 + 2 * n) + 1 * (1 + 2 * n) ≡ at.opening + (i + 1) * (1 + 2 * n) = omega arith in
    rw (a, b, e)

-- After i signs: so many are left, what they need is there, and what is left to read is what the whole command reads. The registers were g.
pub record Signed (c : Column) (part log : List ℕ) (at : Ahead) (d a h k : ℕ) (cells : List ℕ) (i : ℕ) (next : Ahead) (cells' : List ℕ) : Type 0 where
  pub turns : ℕ
  pub count : h ≡ i + turns
  pub places : next ≡ past_signs c k at i
  pub standing : Standing c part log next turns (turns * mod_triples c.setting.l (k - 1))
  pub whole : (M T : ℕ) (go : List Row → Tree Row (List Row))
      → read_from c part log at (h + M) (h * mod_triples c.setting.l (k - 1) + T) (signs_tree c k (sevens 64 cells) a h d (sevens 64 cells) go)
      ≡ read_from c part log next (turns + M) (turns * mod_triples c.setting.l (k - 1) + T) (signs_tree c k (sevens 64 cells) (a + i) turns (d + i) (sevens 64 cells') go)

module _ {c : Column} (W : Working c) {part log : List ℕ} {at : Ahead} {d a h k : ℕ} {cells : List ℕ} where
  pub signed_start : Standing c part log at h (h * mod_triples c.setting.l (k - 1)) → Signed c part log at d a h k cells 0 at cells
  signed_start S =
      let e : a + 0 ≡ a = omega arith in
      let f : d + 0 ≡ d = omega arith in
      record { turns = h; count = omega arith; places = no_sign c k at; standing = S; whole = λ M T go. rw (e, f) }

  module _ {i : ℕ} {next : Ahead} {cells' : List ℕ} (C : Signed c part log at d a h k cells i next cells') (less : i < h) where
    abbrev n : ℕ
    n = mod_triples c.setting.l (k - 1)

    one_turn : C.turns ≡ suc (C.turns - 1)
    one_turn = omega (arith, C.count)

    here : Standing c part log next (suc (C.turns - 1)) (suc (C.turns - 1) * n)
    here = rw one_turn at C.standing

    pub turn_standing : Standing c part log next 1 n
    turn_standing =
        record {
          masks = omega (arith, here.masks);
          triples = omega (arith, here.triples);
          openings = C.standing.openings;
        }

    module _ (aa : a + i < 64) where
      turn_at : (t M T : ℕ) (go : List Row → Tree Row (List Row))
          → read_from c part log next (suc t + M) (suc t * n + T) (signs_tree c k (sevens 64 cells) (a + i) (suc t) (d + i) (sevens 64 cells') go)
          ≡ read_from c part log next (1 + (t + M)) (n + (t * n + T))
          (cut_tree c (Ltz k) (register_in cells (a + i)) λ z. signs_tree c k (sevens 64 cells) (a + i + 1) t (d + i + 1) (set (sevens 64 cells') (d + i) z) go)
      unfolding signs registers_from
      turn_at t M T go =
          let x : suc t + M ≡ 1 + (t + M) = omega arith in
          let y : suc t * n + T ≡ n + (t * n + T) = omega arith in
          let r : register_in cells (a + i) ≡ get_or (sevens 64 cells) (a + i) no_row = sym (get_seven 64 cells (a + i) aa) in
          let p : a + i + 1 ≡ suc (a + i) = omega arith in
          let q : d + i + 1 ≡ suc (d + i) = omega arith in
          rw (x, y, r, p, q) refl

      turn : (M T : ℕ) (go : List Row → Tree Row (List Row))
          → read_from c part log next (C.turns + M) (C.turns * n + T) (signs_tree c k (sevens 64 cells) (a + i) C.turns (d + i) (sevens 64 cells') go)
          ≡ read_from c part log next (1 + (C.turns - 1 + M)) (n + ((C.turns - 1) * n + T))
          (cut_tree c (Ltz k) (register_in cells (a + i)) λ z. signs_tree c k (sevens 64 cells) (a + i + 1) (C.turns - 1) (d + i + 1) (set (sevens 64 cells') (d + i) z) go)
      turn M T go =
          ap (λ (u : ℕ). read_from c part log next (u + M) (u * n + T) (signs_tree c k (sevens 64 cells) (a + i) u (d + i) (sevens 64 cells') go)) one_turn
          ∙ turn_at (C.turns - 1) M T go

      pub turn_stops : {e : Refusal} → Stops c part log next 1 n (cut_tree c (Ltz k) (register_in cells (a + i))) e → SignsStop c part log at d a h k cells e
      turn_stops S = record { reads = λ M T go. C.whole M T go ∙ turn M T go ∙ S.reads (C.turns - 1 + M) ((C.turns - 1) * n + T) _ }

      pub signed_more : {row : Row} {next' : Ahead} {cells'' : List ℕ} → ComesTo c part log next (past_signs c k next 1) 1 n (cut_tree c (Ltz k) (register_in cells (a + i))) row
          → d + i < 64 → length cells' ≡ 448 → length row ≡ 7 → cells'' ≡ onto_at (7 * (d + i)) row cells' → next' ≡ past_signs c k next 1
          → Signed c part log at d a h k cells (i + 1) next' cells''
      signed_more {row} {next'} {cells''} P dd size seven ec en =
          record {
            turns = C.turns - 1;
            count = omega (arith, C.count);
            places = en ∙ rw C.places (more_signs c k at i);
            standing =
                rw en
                (record {
                  masks = omega (arith, here.masks);
                  triples = omega (arith, here.triples);
                  openings = P.there;
                });
            whole = λ M T go. C.whole M T go ∙ turn M T go ∙ P.reads (C.turns - 1 + M) ((C.turns - 1) * n + T) _ ∙ more M T go;
          }
        where
          registers : sevens 64 cells'' ≡ set (sevens 64 cells') (d + i) row
          registers = rw ec (set_seven 64 cells' (d + i) row dd (omega (arith, size)) seven)

          more : (M T : ℕ) (go : List Row → Tree Row (List Row))
              → read_from c part log (past_signs c k next 1) (C.turns - 1 + M) ((C.turns - 1) * n + T)
              (signs_tree c k (sevens 64 cells) (a + i + 1) (C.turns - 1) (d + i + 1) (set (sevens 64 cells') (d + i) row) go)
              ≡ read_from c part log next' (C.turns - 1 + M) ((C.turns - 1) * n + T) (signs_tree c k (sevens 64 cells) (a + (i + 1)) (C.turns - 1) (d + (i + 1)) (sevens 64 cells'') go)
          more M T go =
              let p : a + i + 1 ≡ a + (i + 1) = omega arith in
              let q : d + i + 1 ≡ d + (i + 1) = omega arith in
              rw (en, registers, p, q)

  pub signed_end : {i : ℕ} {next : Ahead} {cells' : List ℕ} → Signed c part log at d a h k cells i next cells' → h ≤ i → SignsTo c part log at d a h k cells cells'
  unfolding signs registers_from
  signed_end {i} {next} {cells'} C l =
      let z : C.turns ≡ 0 = omega (arith, C.count) in
      let ih : i ≡ h = omega (arith, C.count) in
      let p : next ≡ past_signs c k at h = C.places ∙ ap (past_signs c k at) ih in
      record {
        reads = λ M T go.
            let x : 0 + M ≡ M = omega arith in
            let y : 0 * mod_triples c.setting.l (k - 1) + T ≡ T = omega arith in
            C.whole M T go ∙ rw (z, x, y) (ap (λ (v : Ahead). read_from c part log v M T (go (sevens 64 cells'))) p);
        there = subst (λ (v : Ahead). c.reader.n * v.opening ≤ length log) p C.standing.openings;
      }

-- the places past a sign are numbers of the code
pub sign_ahead : {c : Column} (W : Working c) {part log : List ℕ} (next : Ahead) (k : ℕ) → Standing c part log next 1 (mod_triples c.setting.l (k - 1))
    → c.reader.n * (past_signs c k next 1).opening ≤ length log → length part < 2 ^ 64 → length log < 2 ^ 64
    → ((past_signs c k next 1).mask < 2 ^ 64) × ((past_signs c k next 1).triple < 2 ^ 64) × ((past_signs c k next 1).opening < 2 ^ 64)
sign_ahead {c} W {log = log} next k S l hp hl = (omega (arith, S.masks), omega (arith, S.triples), counts_on log (past_signs c k next 1).opening W l hl)
