-- Each command on one column: what its function asks, and that it does what its tree does.
-- Assumes nothing.
use mathlib.Core.Path.{◌≡◌, refl, sym, ap, subst, ◌∙◌}
use mathlib.Core.List.{List}
use Prim.Native.Nat.{ℕ, ◌+◌, ◌-◌, ◌*◌, ◌^◌, ◌≤◌, ◌<◌}
use native.Mathlib.Omega.{arith}
use lib.ListN.{length, get_or, set, drop}
use lib.Pow.{pow_mono}
use Rattle.model.specs.Bytes.{sevens, row_at}
use Rattle.model.specs.Counts.{Counts, added}
use Rattle.model.specs.Costs.{cost_by, mod_triples, of_triples, of_mask}
use Rattle.model.specs.Commands.{command}
use Rattle.model.specs.Deal.{Row, no_row}
use Rattle.model.specs.Fields.{Field}
use Rattle.model.specs.Run.{row_command}
use Rattle.model.specs.Script.{Command, LOAD, CONST, ADD, SUB, SCALE, MUL, MOD, TRUNC, LTZ, OVER, BLOCKS, REVEAL, BITLT, LTZS, ranges}
use Rattle.model.specs.Sheet.{rows_at}
use Rattle.model.specs.Steps.{plus, minus, times, constant}
use Rattle.model.specs.Trees.{Tree, done, multiply}
use Rattle.model.specs.Replay.{finished, by_record}
use Rattle.model.proofs.Operands.{AllSay, operands}
use Rattle.sharing.specs.Settings.{setting_of}
use Rattle.cuts.specs.declared.cut.Cut.{Cut}
use Rattle.cuts.specs.declared.cut.Cut.TheVariants.{Mod, Trunc, Ltz, Over, Blocks}
use Rattle.cuts.specs.Cuts.{width_of, low_of}
use Rattle.std.specs.Prelude.{Ok, Err, Result}
use Rattle.refusals.specs.declared.Refusal.{Refusal}
use Rattle.registers.specs.declared.table.Table.{Table}
use Rattle.registers.specs.Cells.{register_in, Stored}
use Rattle.registers.proofs.Cells.{get_seven, set_seven, from_sevens}
use Rattle.registers.proofs.Readiness.{input_at}
use Rattle.registers.proofs.Performing.{cut_command}
use Rattle.column_steps.specs.declared.column.Ahead.{Ahead}
use Rattle.column_steps.specs.Reads.{table_of, own_of, Working, Standing, deal_from, record_from, read_from, Builder, past, past_mask, compared}
use Rattle.column_steps.specs.Remainders.{KM}
use Rattle.column_steps.specs.Cutting.{cut_tree}
use Rattle.column_commands.specs.declared.own.Own.{Own}
use Rattle.column_commands.specs.Does.{ahead_of, Reached, price_of, Ready, Finishes, Does, Storing, Reveals}
use Rattle.column_commands.specs.Signing.{past_signs, SignsCome}

-- where a column goes on after nothing was spent but inputs, after n triples, after a mask and n triples, and after h masks with n triples each
module _ (o : Own) (k : Counts) where
  still : (price : Counts) → price.masks ≡ 0 → price.triples ≡ 0 → price.openings ≡ 0 → ahead_of o (added k price) ≡ ahead_of o k
  still price em et eo =
      let a : k.masks + 0 ≡ k.masks = omega arith in
      let b : k.triples + 0 ≡ k.triples = omega arith in
      let c : k.openings + 0 ≡ k.openings = omega arith in
      rw (em, et, eo, a, b, c)

  after_triples : (n : ℕ) → ahead_of o (added k (of_triples n)) ≡ past (ahead_of o k) n
  after_triples n =
      let a : k.masks + 0 ≡ k.masks = omega arith in
      let b : o.triple + 12 * (k.triples + n) ≡ o.triple + 12 * k.triples + 12 * n = omega arith in
      rw (a, b)

  after_mask : (n : ℕ) → ahead_of o (added k (of_mask n)) ≡ past (past_mask o.column.setting.l (ahead_of o k)) n
  after_mask n =
      let a : o.mask + (k.masks + 1) * (4 * o.column.setting.l) ≡ o.mask + k.masks * (4 * o.column.setting.l) + 4 * o.column.setting.l = omega arith in
      let b : o.triple + 12 * (k.triples + n) ≡ o.triple + 12 * k.triples + 12 * n = omega arith in
      let c : k.openings + (1 + 2 * n) ≡ k.openings + 1 + 2 * n = omega arith in
      rw (a, b, c)

module _ (o : Own) (part log : List ℕ) (k : Counts) where
  -- what stands at the next places
  pub reached : {c : Command} → Ready o part log k c → length part < 2 ^ 64 → Reached o k
  reached {c} R h =
      record {
        bits = R.working.fitting.bits;
        mask = omega (arith, R.masks);
        triple = omega (arith, R.triples);
      }

  standing_at : {c : Command} (m t : ℕ) → Ready o part log k c → m ≡ (price_of o c).masks → t ≡ (price_of o c).triples → Standing o.column part log (ahead_of o k) m t
  standing_at m t R em et =
      rw (em, et) (record { masks = omega (arith, R.masks); triples = omega (arith, R.triples); openings = R.openings })

  module _ (c : Command) (tb : Table) where
    abbrev cells : List ℕ
    cells = tb.cells

    -- the command's tree on the registers that the cells hold
    abbrev tree : Tree Row (List Row)
    tree = row_command (own_of o.column) (rows_at part 1 0 o.inputs) k.inputs c (sevens 64 cells) done

    -- what it does, with m masks and t triples, to these places
    pub record Ends (cells' : List ℕ) (m t : ℕ) (next : Ahead) : Type 0 where
      pub reads : (M T : ℕ) → read_from o.column part log (ahead_of o k) (m + M) (t + T) tree
          ≡ finished (sevens 64 cells') (deal_from o.column part next M T) (record_from o.column log next.opening)
      pub there : o.column.reader.n * next.opening ≤ length log

    ends : {cells' : List ℕ} {m t : ℕ} {next : Ahead} → m ≡ (price_of o c).masks → t ≡ (price_of o c).triples → next ≡ ahead_of o (added k (price_of o c))
        → Ends cells' m t next → Finishes o part log k c cells cells'
    ends {cells'} {m} {t} {next} em et en D =
        let A = subst (λ (x : ℕ). Ends cells' x t next) em D in
        let B = subst (λ (x : ℕ). Ends cells' (price_of o c).masks x next) et A in
        let C = subst (λ (x : Ahead). Ends cells' (price_of o c).masks (price_of o c).triples x) en B in
        record { reads = C.reads; there = C.there }

    -- a row made without an opening
    made_does : (d : ℕ) (row : Row) {cells' : List ℕ} → Ready o part log k c → 0 ≡ (price_of o c).masks → 0 ≡ (price_of o c).triples → 0 ≡ (price_of o c).openings
        → tree ≡ done (set (sevens 64 cells) d row) → d < 64 → length cells ≡ 448 → Stored d (λ z. z ≡ row) cells cells' → Finishes o part log k c cells cells'
    unfolding by_record
    made_does d row {cells'} R em et eo e h size P =
        let q : sevens 64 cells' ≡ set (sevens 64 cells) d row =
        rw P.put (set_seven 64 cells d P.row h (omega (arith, size)) P.seven) ∙ ap (set (sevens 64 cells) d) P.is in
        ends em et (sym (still o k (price_of o c) (sym em) (sym et) (sym eo)))
        (record {
          reads = λ M T.
              let x : 0 + M ≡ M = omega arith in
              let y : 0 + T ≡ T = omega arith in
              rw (x, y) (ap (λ (t : Tree Row (List Row)). by_record (table_of o.column) o.column.reader.party t (deal_from o.column part (ahead_of o k) M T) (record_from o.column log k.openings)) e
              ∙ rw q);
          there = R.openings;
        })

    -- a step whose row went to register d, or that was refused
    storing_does : (d m t : ℕ) (step : Builder) {next : Ahead} (r : Result Table Refusal) → m ≡ (price_of o c).masks → t ≡ (price_of o c).triples
        → next ≡ ahead_of o (added k (price_of o c)) → tree ≡ step (λ z. done (set (sevens 64 cells) d z)) → d < 64
        → Storing o.column part log (ahead_of o k) next m t step tb d r → Does o part log k c tb r
    unfolding by_record
    storing_does d m t step {next} (Ok t') em et en e h P =
        let registers : sevens 64 t'.cells ≡ set (sevens 64 cells) d P.row =
        rw P.kept.cells (set_seven 64 cells d P.row h (omega (arith, P.kept.size)) P.kept.seven) in (
          ends em et en
              (record {
                reads = λ M T. ap (read_from o.column part log (ahead_of o k) (m + M) (t + T)) e ∙ P.comes.reads M T (λ z. done (set (sevens 64 cells) d z)) ∙ rw registers;
                there = P.comes.there;
              }),
          P.kept.spent,
        )
    storing_does d m t step (Err x) em et en e h S =
        record {
          reads = λ M T. rw (← em, ← et) (ap (read_from o.column part log (ahead_of o k) (m + M) (t + T)) e ∙ S.reads M T (λ z. done (set (sevens 64 cells) d z)));
        }

stored_as : {d : ℕ} {x y : Row} {cells cells' : List ℕ} → x ≡ y → Stored d (λ z. z ≡ x) cells cells' → Stored d (λ z. z ≡ y) cells cells'
stored_as e P = record { row = P.row; seven = P.seven; is = P.is ∙ e; put = P.put }

-- the commands, each by what its function leaves
register_is : (cells : List ℕ) (a : ℕ) → a < 64 → register_in cells a ≡ get_or (sevens 64 cells) a no_row
register_is cells a h = sym (get_seven 64 cells a h)

-- what the ranges of a ready command say
pub says : {o : Own} {part log : List ℕ} {k : Counts} (c : Command) → Ready o part log k c → AllSay (ranges o.column.setting.p o.largest c)
says {o} c R = operands o.column.setting.p o.largest c R.ranged

module _ {o : Own} {part log : List ℕ} {k : Counts} (tb : Table) (size : length tb.cells ≡ 448) where
  module _ {d : ℕ} {cells' : List ℕ} where
    pub load_does : Ready o part log k (LOAD d) → Stored d (λ z. z ≡ row_at part 1 (4 * k.inputs)) tb.cells cells' → Finishes o part log k (LOAD d) tb.cells cells'
    unfolding command cost_by
    load_does R P =
        let i : 0 + k.inputs * (4 * 1) ≡ 4 * k.inputs = omega arith in
        made_does o part log k (LOAD d) tb d _ R refl refl refl refl (says (LOAD d) R).0 size
        (stored_as (ap (row_at part 1) (sym i) ∙ sym (input_at part 1 0 o.inputs k.inputs (omega (arith, R.loads)))) P)

    pub fill_does : {v : ℕ} → Ready o part log k (CONST d v) → Stored d (λ z. z ≡ constant (setting_of o.column.setting) v) tb.cells cells' → Finishes o part log k (CONST d v) tb.cells cells'
    unfolding command cost_by
    fill_does {v} R P =
        made_does o part log k (CONST d v) tb d _ R refl refl refl refl (says (CONST d v) R).0 size (stored_as (rw R.working.own) P)

    pub add_does : {a b : ℕ} → Ready o part log k (ADD d a b)
        → Stored d (λ z. z ≡ plus (setting_of o.column.setting) (register_in tb.cells a) (register_in tb.cells b)) tb.cells cells' → Finishes o part log k (ADD d a b) tb.cells cells'
    unfolding command cost_by
    add_does {a} {b} R P =
        let r = says (ADD d a b) R in
        made_does o part log k (ADD d a b) tb d _ R refl refl refl refl r.0 size
        (stored_as (rw (R.working.own, register_is tb.cells a r.1.0, register_is tb.cells b r.1.1.0)) P)

    pub sub_does : {a b : ℕ} → Ready o part log k (SUB d a b)
        → Stored d (λ z. z ≡ minus (setting_of o.column.setting) (register_in tb.cells a) (register_in tb.cells b)) tb.cells cells' → Finishes o part log k (SUB d a b) tb.cells cells'
    unfolding command cost_by
    sub_does {a} {b} R P =
        let r = says (SUB d a b) R in
        made_does o part log k (SUB d a b) tb d _ R refl refl refl refl r.0 size
        (stored_as (rw (R.working.own, register_is tb.cells a r.1.0, register_is tb.cells b r.1.1.0)) P)

    pub scale_does : {a v : ℕ} → Ready o part log k (SCALE d a v)
        → Stored d (λ z. z ≡ times (setting_of o.column.setting) v (register_in tb.cells a)) tb.cells cells' → Finishes o part log k (SCALE d a v) tb.cells cells'
    unfolding command cost_by
    scale_does {a} {v} R P =
        let r = says (SCALE d a v) R in
        made_does o part log k (SCALE d a v) tb d _ R refl refl refl refl r.0 size (stored_as (rw (R.working.own, register_is tb.cells a r.1.0)) P)

  module _ {at : Ahead} (ea : at ≡ ahead_of o k) (r : Result Table Refusal) where
    pub multiply_does : {d a b : ℕ} → Ready o part log k (MUL d a b)
        → Storing o.column part log at (past at 1) 0 1 (multiply (register_in tb.cells a) (register_in tb.cells b)) tb d r → Does o part log k (MUL d a b) tb r
    unfolding command cost_by
    multiply_does {d} {a} {b} R P =
        let s = says (MUL d a b) R in
        storing_does o part log k (MUL d a b) tb d 0 1 (multiply (register_in tb.cells a) (register_in tb.cells b)) r refl refl (sym (after_triples o k 1))
        (rw (register_is tb.cells a s.1.0, register_is tb.cells b s.1.1.0)) s.0 (rw ea at P)

    pub compare_does : {d b w v : ℕ} → Ready o part log k (BITLT d b w v)
        → Storing o.column part log at (past at (w - 1)) 0 (w - 1) (compared o.column v (sevens w (drop (7 * b) tb.cells))) tb d r → Does o part log k (BITLT d b w v) tb r
    unfolding command cost_by
    compare_does {d} {b} {w} {v} R P =
        let s = says (BITLT d b w v) R in
        storing_does o part log k (BITLT d b w v) tb d 0 (w - 1) (compared o.column v (sevens w (drop (7 * b) tb.cells))) r refl refl (sym (after_triples o k (w - 1)))
        (rw (from_sevens (sevens 64 tb.cells) tb.cells b w refl s.1.1.1.1.0)) s.0 (rw ea at P)

    -- a cut, whichever it is
    pub cut_does : (d a : ℕ) (y : Cut) → Ready o part log k (cut_command d a y)
        → Storing o.column part log at (past (past_mask o.column.setting.l at) (mod_triples o.column.setting.l (low_of y))) 1 (mod_triples o.column.setting.l (low_of y)) (cut_tree o.column y (register_in tb.cells a)) tb d r
        → Does o part log k (cut_command d a y) tb r
    unfolding command cost_by
    cut_does d a (Mod w m) R P =
        let s = says (MOD d a w m) R in
        storing_does o part log k (MOD d a w m) tb d 1 _ (cut_tree o.column (Mod w m) (register_in tb.cells a)) r refl refl (sym (after_mask o k _)) (rw (register_is tb.cells a s.1.0)) s.0 (rw ea at P)
    cut_does d a (Trunc w m) R P =
        let s = says (TRUNC d a w m) R in
        storing_does o part log k (TRUNC d a w m) tb d 1 _ (cut_tree o.column (Trunc w m) (register_in tb.cells a)) r refl refl (sym (after_mask o k _)) (rw (register_is tb.cells a s.1.0)) s.0 (rw ea at P)
    cut_does d a (Ltz w) R P =
        let s = says (LTZ d a w) R in
        storing_does o part log k (LTZ d a w) tb d 1 _ (cut_tree o.column (Ltz w) (register_in tb.cells a)) r refl refl (sym (after_mask o k _)) (rw (register_is tb.cells a s.1.0)) s.0 (rw ea at P)
    cut_does d a (Over w v) R P =
        let s = says (OVER d a w v) R in
        storing_does o part log k (OVER d a w v) tb d 1 _ (cut_tree o.column (Over w v) (register_in tb.cells a)) r refl refl (sym (after_mask o k _)) (rw (register_is tb.cells a s.1.0)) s.0 (rw ea at P)
    cut_does d a (Blocks w m) R P =
        let s = says (BLOCKS d a w m) R in
        storing_does o part log k (BLOCKS d a w m) tb d 1 _ (cut_tree o.column (Blocks w m) (register_in tb.cells a)) r refl refl (sym (after_mask o k _)) (rw (register_is tb.cells a s.1.0)) s.0 (rw ea at P)

  -- REVEAL, and LTZS: by what they come to
  module _ {at : Ahead} (ea : at ≡ ahead_of o k) where
    pub reveal_does : {a : ℕ} (r : Result Table Refusal) → Ready o part log k (REVEAL a) → Reveals o.column log at.opening (register_in tb.cells a) tb r
        → Does o part log k (REVEAL a) tb r
    unfolding command cost_by by_record
    reveal_does {a} (Ok t') R P =
        let h : a < 64 = (says (REVEAL a) R).0 in
        let m : k.masks + 0 ≡ k.masks = omega arith in
        let t : k.triples + 0 ≡ k.triples = omega arith in (
          record {
            reads = λ M T.
                let x : 0 + M ≡ M = omega arith in
                let y : 0 + T ≡ T = omega arith in
                rw (x, y, m, t, ← register_is tb.cells a h, P.same) (rw ea at (P.opens.reads (λ v log₁. finished (sevens 64 tb.cells) (deal_from o.column part (ahead_of o k) M T) log₁)));
            there = rw ea at P.opens.there;
          },
          ap (λ (t : Table). t.spent) P.same,
        )
    reveal_does {a} (Err e) R S =
        let h : a < 64 = (says (REVEAL a) R).0 in
        record {
          reads = λ M T.
              let x : 0 + M ≡ M = omega arith in
              let y : 0 + T ≡ T = omega arith in
              rw (x, y, ← register_is tb.cells a h) (rw ea at (S.reads (λ v log₁. finished (sevens 64 tb.cells) (deal_from o.column part (ahead_of o k) M T) log₁)));
        }

    pub signs_does : {d a h w : ℕ} (r : Result Table Refusal) → Ready o part log k (LTZS d a h w) → SignsCome o.column part log at d a h w tb r
        → Does o part log k (LTZS d a h w) tb r
    unfolding command cost_by by_record
    signs_does {d} {a} {h} {w} (Ok t') R P = (
      ends o part log k (LTZS d a h w) tb refl refl places (record { reads = λ M T. (rw ea at P.0).reads M T done; there = (rw ea at P.0).there }),
      P.1,
    )
      where
        places : past_signs o.column w (ahead_of o k) h ≡ ahead_of o (added k (price_of o (LTZS d a h w)))
        places =
            unfold cost_by in
            let n = mod_triples o.column.setting.l (w - 1) in
            let x : o.mask + k.masks * (4 * o.column.setting.l) + h * (4 * o.column.setting.l) ≡ o.mask + (k.masks + h) * (4 * o.column.setting.l) = omega arith in
            let y : o.triple + 12 * k.triples + 12 * (h * n) ≡ o.triple + 12 * (k.triples + h * n) = omega arith in
            rw (x, y)
    signs_does {d} {a} {h} {w} (Err e) R S = record { reads = λ M T. (rw ea at S).reads M T done }

-- k and m of a cut
km : (o : Own) → Field o.column.setting.p o.column.setting.l o.largest → (w m : ℕ) → w ≤ o.largest → 1 ≤ m → m < w → KM o.column.setting w m
km o F w m most least less =
    record {
      least = least;
      less = less;
      most = omega (arith, F.k_most);
      power = let q : 2 ^ w ≤ 2 ^ o.largest = pow_mono {i = w} {j = o.largest} most in omega (arith, F.range_fits);
      within = omega (arith, F.k_is);
    }

-- what their functions ask
module _ {o : Own} {part log : List ℕ} {k : Counts} {at : Ahead} (ea : at ≡ ahead_of o k) where
  pub multiply_asks : {d a b : ℕ} → Ready o part log k (MUL d a b)
      → Working o.column × Standing o.column part log at 0 1 × (d < 64) × (a < 64) × (b < 64)
  unfolding cost_by
  multiply_asks {d} {a} {b} R =
      let s = says (MUL d a b) R in
      (R.working, rw ea (standing_at o part log k 0 1 R refl refl), s.0, s.1.0, s.1.1.0)

  pub compare_asks : {d b w v : ℕ} → Ready o part log k (BITLT d b w v)
      → Working o.column × Standing o.column part log at 0 (w - 1) × (d < 64) × (1 ≤ w) × (w ≤ 31) × (b + w ≤ 64)
  unfolding cost_by
  compare_asks {d} {b} {w} {v} R =
      let s = says (BITLT d b w v) R in
      (R.working, rw ea (standing_at o part log k 0 (w - 1) R refl refl), s.0, s.1.1.0, s.1.1.1.0, s.1.1.1.1.0)

  pub reveal_asks : {a : ℕ} → Ready o part log k (REVEAL a) → Working o.column × (o.column.reader.n * at.opening ≤ length log) × (a < 64)
  reveal_asks {a} R = (R.working, rw ea R.openings, (says (REVEAL a) R).0)

  pub cut_asks : (d a : ℕ) (y : Cut) → Ready o part log k (cut_command d a y)
      → Working o.column × Standing o.column part log at 1 (mod_triples o.column.setting.l (low_of y)) × KM o.column.setting (width_of y) (low_of y) × (d < 64) × (a < 64)
  unfolding cost_by
  cut_asks d a (Mod w m) R =
      let s = says (MOD d a w m) R in
      (R.working, rw ea (standing_at o part log k 1 _ R refl refl), km o R.field w m s.1.1.1.0 s.1.1.1.1.0 s.1.1.1.1.1.0, s.0, s.1.0)
  cut_asks d a (Trunc w m) R =
      let s = says (TRUNC d a w m) R in
      (R.working, rw ea (standing_at o part log k 1 _ R refl refl), km o R.field w m s.1.1.1.0 s.1.1.1.1.0 s.1.1.1.1.1.0, s.0, s.1.0)
  cut_asks d a (Ltz w) R =
      let s = says (LTZ d a w) R in
      let low : 2 ≤ w = s.1.1.0 in
      (R.working, rw ea (standing_at o part log k 1 _ R refl refl), km o R.field w (w - 1) s.1.1.1.0 (omega arith) (omega arith), s.0, s.1.0)
  cut_asks d a (Over w v) R =
      let s = says (OVER d a w v) R in
      let low : 2 ≤ w = s.1.1.0 in
      (R.working, rw ea (standing_at o part log k 1 _ R refl refl), km o R.field w (w - 1) s.1.1.1.0 (omega arith) (omega arith), s.0, s.1.0)
  cut_asks d a (Blocks w m) R =
      let s = says (BLOCKS d a w m) R in
      (R.working, rw ea (standing_at o part log k 1 _ R refl refl), km o R.field w m s.1.1.1.0 s.1.1.1.1.0 s.1.1.1.1.1.0, s.0, s.1.0)

  pub signs_asks : {d a h w : ℕ} → Ready o part log k (LTZS d a h w)
      → Working o.column × Standing o.column part log at h (h * mod_triples o.column.setting.l (w - 1)) × KM o.column.setting w (w - 1) × (d + h ≤ 64) × (a + h ≤ 64)
  unfolding cost_by
  signs_asks {d} {a} {h} {w} R =
      let s = says (LTZS d a h w) R in
      let low : 2 ≤ w = s.1.1.1.1.0 in
      (R.working, rw ea (standing_at o part log k h _ R refl refl), km o R.field w (w - 1) s.1.1.1.1.1.0 (omega arith) (omega arith), s.1.1.0, s.1.1.1.0)
