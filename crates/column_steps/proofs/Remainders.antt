-- MOD on one column, from its end to its start: each part comes to what its tree comes to, if the part behind it does.
-- Assumes nothing.
use mathlib.Core.Path.{◌≡◌, refl, sym, subst, ◌∙◌}
use mathlib.Core.List.{List}
use Prim.Native.Nat.{ℕ, zero, suc, ◌+◌, ◌-◌, ◌*◌, ◌%◌, ◌^◌, ◌≤◌, ◌<◌}
use native.Mathlib.Omega.{arith}
use lib.ListN.{length, take, drop}
use Rattle.model.specs.Bytes.{sevens}
use Rattle.model.specs.Costs.{mod_triples}
use Rattle.model.specs.Deal.{Row}
use Rattle.model.specs.Deal as Deal
use Rattle.model.specs.Sheet.{rows_at, masks_from}
use Rattle.model.specs.Steps.{row_ops, plus, minus, constant, spelled, under_mask}
use Rattle.model.specs.Trees.{Tree, multiply, mask}
use Rattle.model.specs.Trees as Trees
use Rattle.model.specs.Replay.{from_record, by_record}
use Rattle.sharing.specs.Settings.{setting_of}
use Rattle.local.specs.declared.remainder.Publics.{Publics}
use Rattle.local.specs.Unmasking.{publics, unmasked_by, MaskBits}
use Rattle.column_steps.specs.declared.column.Column.{Column}
use Rattle.column_steps.specs.declared.column.Ahead.{Ahead}
use Rattle.refusals.specs.declared.Refusal.{Refusal}
use Rattle.secret.specs.declared.Row.{Row as Shares}
use Rattle.std.specs.Prelude.{Result, Ok, Err}
use Rattle.column_steps.specs.Reads.{table_of, own_of, Working, Standing, OpensTo, StopsAt, deal_from, record_from, read_from, Builder, ComesTo, Stops, Comes, past, past_mask, compared}
use Rattle.column_steps.specs.Remainders.{u0_triples, f_triples, after_u1, after_u0, after_f, after_c, from_x, modded}
use Rattle.column_steps.proofs.Opening.{counts_on}
use Rattle.column_steps.proofs.Coming.{first_stops, then_comes, made_stops, made_comes}

-- places past some triples, and then past some more
past_past : (at : Ahead) (j k : ℕ) → past (past at j) k ≡ past at (j + k)
past_past at j k =
    let a : at.triple + 12 * j + 12 * k ≡ at.triple + 12 * (j + k) = omega arith in
    let b : at.opening + 2 * j + 2 * k ≡ at.opening + 2 * (j + k) = omega arith in
    rw (a, b)

-- the low bits, and the triples of f, and the others
low_sevens : (m l : ℕ) (cells : List ℕ) → m ≤ l → take m (sevens l cells) ≡ sevens m cells
unfolding sevens
low_sevens zero l cells h = refl
low_sevens (suc m) zero cells h = absurd (omega arith)
low_sevens (suc m) (suc l) cells h = rw (low_sevens m l (drop 7 cells) (omega arith))

triples_of : (l m : ℕ) → 1 ≤ m → m ≤ l → mod_triples l m ≡ (l - 1) + f_triples m
triples_of l m low high = omega arith

module _ {c : Column} (W : Working c) (part log : List ℕ) (at : Ahead) where
  -- one step with j triples, and then one with k
  pub next_places : (j k : ℕ) → Standing c part log at 0 (j + k) → length part < 2 ^ 64 → length log < 2 ^ 64 → (n : ℕ) → n ≡ 0
      → (n ≡ 0 → c.reader.n * (at.opening + 2 * j) ≤ length log) → (at.triple + 12 * j < 2 ^ 64) × (at.opening + 2 * j < 2 ^ 64)
  next_places j k S hp hl n z l = (omega (arith, S.triples), counts_on log (at.opening + 2 * j) W (l z) hl)

  two : {j : ℕ} (k : ℕ) {step : Builder} (then : Row → Builder) {x : Row} (r : Result Shares Refusal) → ComesTo c part log at (past at j) 0 j step x
      → Comes c part log (past at j) (past (past at j) k) 0 k (then x) r → Comes c part log at (past at (j + k)) 0 (j + k) (λ go. step (λ z. then z go)) r
  two {j} k {step} then r C D =
      subst (λ (x : Ahead). Comes c part log at x 0 (j + k) (λ go. step (λ z. then z go)) r) (past_past at j k) (then_comes _ 0 k then r C D)

  -- g and the last line
  module _ (x : Publics) (low : List Row) (f u0 u1 : Row) {d : Row} (ed : d ≡ minus (setting_of c.setting) u1 u0) where
    pub g_stops : {e : Refusal} → Stops c part log at 0 1 (multiply f d) e → Stops c part log at 0 1 (after_u1 c x low f u0 u1) e
    g_stops S = made_stops (λ g. unmasked_by c.setting x low f (plus (own_of c) u0 g)) (rw (ed, W.own) at S)

    pub g_comes : {g u r : Row} → ComesTo c part log at (past at 1) 0 1 (multiply f d) g → u ≡ plus (setting_of c.setting) u0 g
        → r ≡ unmasked_by c.setting x low f u → ComesTo c part log at (past at 1) 0 1 (after_u1 c x low f u0 u1) r
    g_comes {g} {u} {r} C eu er =
        let row : r ≡ unmasked_by c.setting x low f (plus (own_of c) u0 g) = er ∙ rw (eu, W.own) in
        rw row (made_comes (λ g. unmasked_by c.setting x low f (plus (own_of c) u0 g)) (rw (ed, W.own) at C))

  -- a comparison against the low bits, and what follows it
  module _ (x : Publics) (cells : List ℕ) (f : Row) where
    pub u1_stops : (u0 : Row) {e : Refusal} → Stops c part log at 0 (x.m - 1) (compared c x.c1 (sevens x.m cells)) e
        → Stops c part log at 0 (u0_triples x.m) (after_u0 c x (sevens x.m cells) f u0) e
    u1_stops u0 S = first_stops 0 1 {then = λ u1. after_u1 c x (sevens x.m cells) f u0 u1} S

    pub u1_comes : (u0 : Row) {u1 : Row} (r : Result Shares Refusal) → ComesTo c part log at (past at (x.m - 1)) 0 (x.m - 1) (compared c x.c1 (sevens x.m cells)) u1
        → Comes c part log (past at (x.m - 1)) (past (past at (x.m - 1)) 1) 0 1 (after_u1 c x (sevens x.m cells) f u0 u1) r
        → Comes c part log at (past at (u0_triples x.m)) 0 (u0_triples x.m) (after_u0 c x (sevens x.m cells) f u0) r
    u1_comes u0 r C D = two 1 (λ u1. after_u1 c x (sevens x.m cells) f u0 u1) r C D

    pub u0_stops : {e : Refusal} → Stops c part log at 0 (x.m - 1) (compared c x.c0 (sevens x.m cells)) e
        → Stops c part log at 0 (f_triples x.m) (after_f c x (sevens x.m cells) f) e
    u0_stops S = first_stops 0 (u0_triples x.m) {then = λ u0. after_u0 c x (sevens x.m cells) f u0} S

    pub u0_comes : {u0 : Row} (r : Result Shares Refusal) → ComesTo c part log at (past at (x.m - 1)) 0 (x.m - 1) (compared c x.c0 (sevens x.m cells)) u0
        → Comes c part log (past at (x.m - 1)) (past (past at (x.m - 1)) (u0_triples x.m)) 0 (u0_triples x.m) (after_u0 c x (sevens x.m cells) f u0) r
        → Comes c part log at (past at (f_triples x.m)) 0 (f_triples x.m) (after_f c x (sevens x.m cells) f) r
    u0_comes r C D = two (u0_triples x.m) (λ u0. after_u0 c x (sevens x.m cells) f u0) r C D

  -- f, against all bits
  module _ (m C : ℕ) (cells : List ℕ) (L : MaskBits c.setting m cells) where
    count : mod_triples c.setting.l m ≡ (c.setting.l - 1) + f_triples m
    count = triples_of c.setting.l m L.least L.within

    pub c_standing : Standing c part log at 0 (mod_triples c.setting.l m) → Standing c part log at 0 ((c.setting.l - 1) + f_triples m)
    c_standing S = rw count at S

    low : take m (sevens c.setting.l cells) ≡ sevens m cells
    low = low_sevens m c.setting.l cells L.within

    pub f_stops : {e : Refusal} → Stops c part log at 0 (c.setting.l - 1) (compared c C (sevens c.setting.l cells)) e
        → Stops c part log at 0 (mod_triples c.setting.l m) (after_c c m C (sevens c.setting.l cells)) e
    f_stops S = rw count (first_stops 0 (f_triples m) {then = λ f. after_f c (publics c.setting.p m C) (take m (sevens c.setting.l cells)) f} S)

    pub f_comes : {f : Row} {x : Publics} (r : Result Shares Refusal) → x ≡ publics c.setting.p m C
        → ComesTo c part log at (past at (c.setting.l - 1)) 0 (c.setting.l - 1) (compared c C (sevens c.setting.l cells)) f
        → Comes c part log (past at (c.setting.l - 1)) (past (past at (c.setting.l - 1)) (f_triples x.m)) 0 (f_triples x.m) (after_f c x (sevens x.m cells) f) r
        → Comes c part log at (past at (mod_triples c.setting.l m)) 0 (mod_triples c.setting.l m) (after_c c m C (sevens c.setting.l cells)) r
    f_comes {f} {x} r ex P D =
        let next = past at (c.setting.l - 1) in
        let D' : Comes c part log next (past next (f_triples m)) 0 (f_triples m) (after_f c (publics c.setting.p m C) (sevens m cells) f) r = rw ex at D in
        let D'' = subst (λ (b : List Row). Comes c part log next (past next (f_triples m)) 0 (f_triples m) (after_f c (publics c.setting.p m C) b f) r) (sym low) D' in
        rw count (two (f_triples m) (λ f. after_f c (publics c.setting.p m C) (take m (sevens c.setting.l cells)) f) r P D'')

  -- the mask
  module _ (k m : ℕ) (a : Row) (cells : List ℕ) (bits : sevens c.setting.l cells ≡ rows_at part 1 at.mask c.setting.l) {x r masked : Row}
      (ex : x ≡ plus (setting_of c.setting) a (constant (setting_of c.setting) (2 ^ (k - 1)))) (er : r ≡ spelled (setting_of c.setting) (sevens c.setting.l cells))
      (em : masked ≡ plus (setting_of c.setting) x r) where
    under : masked ≡ under_mask (own_of c) x (rows_at part 1 at.mask c.setting.l)
    under = em ∙ rw (er, W.own, bits)

    -- what X leads to, MOD leads to
    raised : (P : Builder → Type 0) → P (from_x c m x) → P (modded c k m a)
    unfolding Trees.remainder
    raised P h =
        let e : x ≡ plus (own_of c) a (constant (own_of c) (2 ^ (k - 1))) = ex ∙ rw W.own in
        subst (λ (S : Deal.Setting). P (λ go. mask (plus (own_of c) a (constant (own_of c) (2 ^ (k - 1)))) λ C r. after_c' S C r go)) W.own (rw e at h)
      where
        -- what follows C, where the last line is worked with any setting
        after_c' : Deal.Setting → ℕ → List Row → Builder
        after_c' S C r go =
            compared c C r λ f. compared c (C % 2 ^ m) (take m r) λ u0. compared c ((C + c.setting.p) % 2 ^ m) (take m r) λ u1. multiply f (minus (own_of c) u1 u0) λ g.
            go (Trees.unmasked c.setting.p (row_ops S) m C r f (plus (own_of c) u0 g))

    by_mask : (M T : ℕ) (go : Row → Tree Row (List Row)) → read_from c part log at (1 + M) (mod_triples c.setting.l m + T) (from_x c m x go)
        ≡ from_record (table_of c) c.reader.party masked (record_from c log at.opening)
        (λ C log₁. by_record (table_of c) c.reader.party (after_c c m C (sevens c.setting.l cells) go) (deal_from c part (past_mask c.setting.l at) M (mod_triples c.setting.l m + T)) log₁)
    unfolding by_record masks_from
    by_mask M T go = let k : 1 + M ≡ suc M = omega arith in rw (k, bits, ← under)

    pub mask_stops : {e : Refusal} → StopsAt c log at.opening masked e → Stops c part log at 1 (mod_triples c.setting.l m) (modded c k m a) e
    mask_stops {e} S = raised (λ B. Stops c part log at 1 (mod_triples c.setting.l m) B e) (record { reads = λ M T go. by_mask M T go ∙ S.reads _ })

    module _ {C : ℕ} (O : OpensTo c log at.opening masked C) where
      pub mask_standing : Standing c part log at 1 (mod_triples c.setting.l m) → Standing c part log (past_mask c.setting.l at) 0 (mod_triples c.setting.l m)
      mask_standing S = record { masks = omega (arith, S.masks); triples = S.triples; openings = O.there }

      pub mask_comes : (o : Result Shares Refusal)
          → Comes c part log (past_mask c.setting.l at) (past (past_mask c.setting.l at) (mod_triples c.setting.l m)) 0 (mod_triples c.setting.l m) (after_c c m C (sevens c.setting.l cells)) o
          → Comes c part log at (past (past_mask c.setting.l at) (mod_triples c.setting.l m)) 1 (mod_triples c.setting.l m) (modded c k m a) o
      mask_comes (Ok y) D =
          raised (λ B. ComesTo c part log at (past (past_mask c.setting.l at) (mod_triples c.setting.l m)) 1 (mod_triples c.setting.l m) B y.shares)
          (record { reads = λ M T go. let z : 0 + M ≡ M = omega arith in by_mask M T go ∙ O.reads _ ∙ (rw z at (D.reads M T go)); there = D.there })
      mask_comes (Err e) D =
          raised (λ B. Stops c part log at 1 (mod_triples c.setting.l m) B e)
          (record { reads = λ M T go. let z : 0 + M ≡ M = omega arith in by_mask M T go ∙ O.reads _ ∙ (rw z at (D.reads M T go)) })
