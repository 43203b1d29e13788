-- One text with two kinds of operand: from operands in pairs, the two trees of a step, a command or a script's lines are in pairs, node by node. Shown
-- once for every relation of operands that sums, differences, multiples and constants keep.
-- Assumes nothing.
use mathlib.Core.Path.{◌≡◌, refl}
use mathlib.Core.Bool.{Bool, true, false, cond}
use mathlib.Core.List.Memᴰ.{head as here}
use mathlib.Core.List.Memᴰ.{tail as there}
use mathlib.Core.List.{List, [], ◌∷◌, Memᴰ as In}
use Prim.Native.Nat.{ℕ, zero, suc, ◌-◌, ◌/◌}
use lib.ListN.{get_or, set}
use Rattle.algebra.specs.Ring.{mul}
use Rattle.algebra.specs.Lists.{from}
use Rattle.model.specs.Script.{Command, LOAD, CONST, ADD, SUB, SCALE, MUL, MOD, TRUNC, LTZ, OVER, BLOCKS, REVEAL, BITLT, LTZS, Line, outputs}
use Rattle.model.specs.Trees.{Ops, Tree, done, multiply, mask, reveal, Comparison, Remainder, RemainderBy, odd, beaver, chosen, spelled, unmasked, comparison_from, comparison, remainder, floor, sign, over, blocks}
use Rattle.model.specs.Costs.{cost_by}
use Rattle.model.specs.Checks.{Spent, Supply, check, pay}
use Rattle.model.specs.Refusing.{given}
use Rattle.model.specs.Commands.{Ended, through_lines, registers_from, signs, command, lines}
use Rattle.model.specs.Results.{target}
use Rattle.model.proofs.Each.{Each, no_more, and, each_take, each_at, each_set}

-- The two trees do the same with paired operands, and go on in pairs from whatever they are given in pairs, up to trees that R relates.
pub data Paired {X Y A B : Type 0} (E : X → Y → Type 0) (R : Tree X A → Tree Y B → Type 0) : Tree X A → Tree Y B → Type 0 where
  p_last : {T : Tree X A} {T' : Tree Y B} → R T T' → Paired E R T T'
  p_multiply : {x y : X} {x' y' : Y} {go : X → Tree X A} {go' : Y → Tree Y B} → E x x' → E y y'
      → ((z : X) (z' : Y) → E z z' → Paired E R (go z) (go' z')) → Paired E R (multiply x y go) (multiply x' y' go')
  p_mask : {x : X} {x' : Y} {go : ℕ → List X → Tree X A} {go' : ℕ → List Y → Tree Y B} → E x x'
      → ((C : ℕ) (b : List X) (b' : List Y) → Each E b b' → Paired E R (go C b) (go' C b')) → Paired E R (mask x go) (mask x' go')
  p_reveal : {x : X} {x' : Y} {T : Tree X A} {T' : Tree Y B} → E x x' → Paired E R T T' → Paired E R (reveal x T) (reveal x' T')

-- two ends, with results that R relates
pub data Ends {X Y A B : Type 0} (R : A → B → Type 0) : Tree X A → Tree Y B → Type 0 where
  ends : {a : A} {b : B} → R a b → Ends R (done a) (done b)

paired_stop : {X Y A B : Type 0} {E : X → Y → Type 0} {R : Tree X A → Tree Y B → Type 0} (n : ℕ) {T U : Tree X A} {T' U' : Tree Y B} → Paired E R T T'
    → Paired E R U U' → Paired E R (given n T U) (given n T' U')
paired_stop zero go stop = go
paired_stop (suc n) go stop = stop

-- two ways to go on are in pairs, from whatever F relates
abbrev pub PairedAfter : {X Y A B C D : Type 0} → (X → Y → Type 0) → (Tree X A → Tree Y B → Type 0) → (C → D → Type 0) → (C → Tree X A) → (D → Tree Y B) → Type 0
PairedAfter {C = C} {D = D} E R F go go' = (z : C) (z' : D) → F z z' → Paired E R (go z) (go' z')

-- two BITLTs, and two MODs, in pairs
pub record PairedComparison {X Y A B : Type 0} (E : X → Y → Type 0) (R : Tree X A → Tree Y B → Type 0) (lt : Comparison X A) (lt' : Comparison Y B) : Type 0 where
  pub pair : (v : ℕ) {xs : List X} {xs' : List Y} {go : X → Tree X A} {go' : Y → Tree Y B} → Each E xs xs' → PairedAfter E R E go go'
      → Paired E R (lt v xs go) (lt' v xs' go')

pub record PairedMod {X Y A B : Type 0} (E : X → Y → Type 0) (R : Tree X A → Tree Y B → Type 0) (f : Remainder X A) (f' : Remainder Y B) : Type 0 where
  pub pair : (k m : ℕ) {a : X} {a' : Y} {go : X → Tree X A} {go' : Y → Tree Y B} → E a a' → PairedAfter E R E go go'
      → Paired E R (f k m a go) (f' k m a' go')

-- the registers w and w', where g and g' were: a pair is put into each register of the list, one after the other
pub data Wrote {X Y : Type 0} (E : X → Y → Type 0) : List X → List Y → List ℕ → List X → List Y → Type 0 where
  kept : {g : List X} {g' : List Y} → Wrote E g g' [] g g'
  puts : {g w : List X} {g' w' : List Y} {d : ℕ} {ds : List ℕ} {z : X} {z' : Y} → E z z' → Wrote E (set g d z) (set g' d z') ds w w' → Wrote E g g' (d ∷ ds) w w'

-- two ends of a run
pub record PairedEnds {X Y : Type 0} (E : X → Y → Type 0) (e : Ended X) (e' : Ended Y) : Type 0 where
  pub number : e.number ≡ e'.number
  pub place : e.place ≡ e'.place
  pub spent : e.spent ≡ e'.spent
  pub registers : Each E e.registers e'.registers

-- the operations keep the relation
pub record Keep {X Y : Type 0} (E : X → Y → Type 0) (O : Ops X) (O' : Ops Y) : Type 0 where
  pub plus : {x y : X} {x' y' : Y} → E x x' → E y y' → E (O.plus x y) (O'.plus x' y')
  pub minus : {x y : X} {x' y' : Y} → E x x' → E y y' → E (O.minus x y) (O'.minus x' y')
  pub times : (c : ℕ) {x : X} {x' : Y} → E x x' → E (O.times c x) (O'.times c x')
  pub constant : (v : ℕ) → E (O.constant v) (O'.constant v)

module _ (p : ℕ) {X Y : Type 0} {E : X → Y → Type 0} {O : Ops X} {O' : Ops Y} (K : Keep E O O') where
  pub paired_beaver : (a1 b1 : ℕ) {a b c : X} {a' b' c' : Y} → E a a' → E b b' → E c c' → E (beaver p O a1 b1 a b c) (beaver p O' a1 b1 a' b' c')
  paired_beaver a1 b1 ea eb ec = K.plus (K.plus (K.plus ec (K.times a1 eb)) (K.times b1 ea)) (K.constant (mul p a1 b1))

  pub paired_spelled : {xs : List X} {ys : List Y} → Each E xs ys → E (spelled O xs) (spelled O' ys)
  unfolding spelled
  paired_spelled no_more = K.constant 0
  paired_spelled (and e es) = K.plus e (K.times 2 (paired_spelled es))

  paired_chosen : (one : Bool) {x y q : X} {x' y' q' : Y} → E x x' → E y y' → E q q' → E (chosen O one x y q) (chosen O' one x' y' q')
  paired_chosen true ex ey eq = eq
  paired_chosen false ex ey eq = K.minus (K.plus ex ey) eq

  paired_start : (one : Bool) {x : X} {x' : Y} → E x x' → E (cond one (O.constant 0) x) (cond one (O'.constant 0) x')
  paired_start true ex = K.constant 0
  paired_start false ex = ex

  paired_unmasked : (m C : ℕ) {r : List X} {r' : List Y} {f u : X} {f' u' : Y} → Each E r r' → E f f' → E u u'
      → E (unmasked p O m C r f u) (unmasked p O' m C r' f' u')
  paired_unmasked m C er ef eu = K.plus (K.minus (K.plus (K.constant _) (K.times _ ef)) (paired_spelled (each_take m er))) (K.times _ eu)

  module _ {A B : Type 0} {R : Tree X A → Tree Y B → Type 0} where
    paired_from : (v : ℕ) {xs : List X} {xs' : List Y} {y : X} {y' : Y} {go : X → Tree X A} {go' : Y → Tree Y B} → Each E xs xs' → E y y'
        → PairedAfter E R E go go' → Paired E R (comparison_from O v xs y go) (comparison_from O' v xs' y' go')
    unfolding comparison_from
    paired_from v no_more ey h = h _ _ ey
    paired_from v (and e es) ey h = p_multiply e ey λ q q' eq. paired_from (v / 2) es (paired_chosen (odd v) e ey eq) h

    paired_bits : (v : ℕ) {xs : List X} {xs' : List Y} {go : X → Tree X A} {go' : Y → Tree Y B} → Each E xs xs' → PairedAfter E R E go go'
        → Paired E R (comparison O v xs go) (comparison O' v xs' go')
    unfolding comparison
    paired_bits v no_more h = h _ _ (K.constant 0)
    paired_bits v (and e es) h = paired_from (v / 2) es (paired_start (odd v) e) h

    pub paired_comparison : PairedComparison E R (comparison O) (comparison O')
    paired_comparison = record { pair = paired_bits }

    pub paired_remainder : {lt : Comparison X A} {lt' : Comparison Y B} → PairedComparison E R lt lt'
        → PairedMod E R (remainder p O lt) (remainder p O' lt')
    unfolding remainder
    paired_remainder H =
        record {
          pair = λ k m ea h.
              p_mask (K.plus ea (K.constant _)) λ C r r' er.
              H.pair _ er λ f f' ef.
              H.pair _ (each_take m er) λ u0 u0' e0.
              H.pair _ (each_take m er) λ u1 u1' e1.
              p_multiply ef (K.minus e1 e0) λ g g' eg.
              h _ _ (paired_unmasked m C er ef (K.plus e0 eg));
        }

    module _ {f : Remainder X A} {f' : Remainder Y B} (H : PairedMod E R f f') where
      pub paired_floor : PairedMod E R (floor p O f) (floor p O' f')
      unfolding floor
      paired_floor = record { pair = λ k m ea h. H.pair k m ea λ z z' e. h _ _ (K.times _ (K.minus ea e)) }

      pub paired_sign : (k : ℕ) {a : X} {a' : Y} {go : X → Tree X A} {go' : Y → Tree Y B} → E a a' → PairedAfter E R E go go'
          → Paired E R (sign p O f k a go) (sign p O' f' k a' go')
      unfolding sign
      paired_sign k ea h = paired_floor.pair k (k - 1) ea λ z z' e. h _ _ (K.minus (K.constant 0) e)

      pub paired_over : (k v : ℕ) {a : X} {a' : Y} {go : X → Tree X A} {go' : Y → Tree Y B} → E a a' → PairedAfter E R E go go'
          → Paired E R (over p O f k v a go) (over p O' f' k v a' go')
      unfolding over
      paired_over k v ea h = paired_sign k (K.minus (K.constant v) ea) h

      pub paired_blocks : PairedMod E R (blocks p O f) (blocks p O' f')
      unfolding blocks
      paired_blocks = record { pair = λ k m ea h. paired_floor.pair k m (K.plus ea (K.constant _)) h }

  module _ {unset : X} {unset' : Y} (e0 : E unset unset') where
    -- registers of a list, of which each is in pairs
    abbrev Reads : List ℕ → List X → List Y → Type 0
    Reads rs g g' = (r : ℕ) → In r rs → E (get_or g r unset) (get_or g' r unset')

    -- a pair put into one register
    put : {g : List X} {g' : List Y} {d : ℕ} {z : X} {z' : Y} → E z z' → Wrote E g g' (d ∷ []) (set g d z) (set g' d z')
    put e = puts e kept

    from_registers : (g : List X) (g' : List Y) (b w : ℕ) → Reads (from b w) g g' → Each E (registers_from unset g b w) (registers_from unset' g' b w)
    unfolding registers_from from
    from_registers g g' b zero h = no_more
    from_registers g g' b (suc w) h = and (h b (here refl)) (from_registers g g' (suc b) w (λ r i. h r (there i)))

    -- LTZS, whose operands stand in registers from a on
    paired_signs : {A B : Type 0} {R : Tree X A → Tree Y B → Type 0} (f : RemainderBy X A) (f' : RemainderBy Y B)
        → PairedMod E R (f (comparison O)) (f' (comparison O')) → (g : List X) (g' : List Y) (k d a h : ℕ) {w : List X} {w' : List Y} {go : List X → Tree X A} {go' : List Y → Tree Y B}
        → Reads (from a h) g g' → PairedAfter E R (Wrote E w w' (from d h)) go go'
        → Paired E R (signs p O unset f k (registers_from unset g a h) d w go) (signs p O' unset' f' k (registers_from unset' g' a h) d w' go')
    unfolding signs registers_from from
    paired_signs f f' H g g' k d a zero gs t = t _ _ kept
    paired_signs f f' H g g' k d a (suc h) gs t =
        paired_sign H k (gs a (here refl)) λ z z' e. paired_signs f f' H g g' k (suc d) (suc a) h (λ r i. gs r (there i)) λ w w' W. t w w' (puts e W)

    -- A command, where what it reads is in pairs: its cost says which registers these are, and it writes none but its target.
    pub paired_command : {A B : Type 0} {R : Tree X A → Tree Y B → Type 0} (f : RemainderBy X A) (f' : RemainderBy Y B)
        → PairedMod E R (f (comparison O)) (f' (comparison O')) → {input : List X} {input' : List Y} → Each E input input' → (triples : ℕ → ℕ)
        (j : ℕ) (c : Command) {g : List X} {g' : List Y} {go : List X → Tree X A} {go' : List Y → Tree Y B} → Reads (cost_by triples c).reads g g'
        → PairedAfter E R (Wrote E g g' (target c)) go go' → Paired E R (command p O unset f input j c g go) (command p O' unset' f' input' j c g' go')
    unfolding command cost_by outputs
    paired_command f f' H is triples j (LOAD d) gs h = h _ _ (put (each_at is e0 j))
    paired_command f f' H is triples j (CONST d v) gs h = h _ _ (put (K.constant v))
    paired_command f f' H is triples j (ADD d a b) gs h = h _ _ (put (K.plus (gs a (here refl)) (gs b (there (here refl)))))
    paired_command f f' H is triples j (SUB d a b) gs h = h _ _ (put (K.minus (gs a (here refl)) (gs b (there (here refl)))))
    paired_command f f' H is triples j (SCALE d a v) gs h = h _ _ (put (K.times v (gs a (here refl))))
    paired_command f f' H is triples j (MUL d a b) gs h = p_multiply (gs a (here refl)) (gs b (there (here refl))) λ z z' e. h _ _ (put e)
    paired_command f f' H is triples j (MOD d a k m) gs h = H.pair k m (gs a (here refl)) λ z z' e. h _ _ (put e)
    paired_command f f' H is triples j (TRUNC d a k m) gs h = (paired_floor H).pair k m (gs a (here refl)) λ z z' e. h _ _ (put e)
    paired_command f f' H is triples j (LTZ d a k) gs h = paired_sign H k (gs a (here refl)) λ z z' e. h _ _ (put e)
    paired_command f f' H is triples j (OVER d a k v) gs h = paired_over H k v (gs a (here refl)) λ z z' e. h _ _ (put e)
    paired_command f f' H is triples j (BLOCKS d a k m) gs h = (paired_blocks H).pair k m (gs a (here refl)) λ z z' e. h _ _ (put e)
    paired_command f f' H is triples j (REVEAL a) gs h = p_reveal (gs a (here refl)) (h _ _ kept)
    paired_command f f' H is triples j (BITLT d b w v) gs h = paired_comparison.pair v (from_registers _ _ b w gs) λ z z' e. h _ _ (put e)
    paired_command f f' H is triples j (LTZS d a n k) gs h = paired_signs f f' H _ _ k d a n gs h

    -- lines, from registers that are all in pairs
    pub each_wrote : {ds : List ℕ} {g w : List X} {g' w' : List Y} → Each E g g' → Wrote E g g' ds w w' → Each E w w'
    each_wrote gs kept = gs
    each_wrote gs (puts {d = d} e W) = each_wrote (each_set d gs e) W

    pub paired_lines : (f : RemainderBy X (Ended X)) (f' : RemainderBy Y (Ended Y)) → PairedMod E (Ends (PairedEnds E)) (f (comparison O)) (f' (comparison O')) → (triples : ℕ → ℕ) (u : Supply)
        {input : List X} {input' : List Y} → Each E input input' → (end : ℕ) (xs : List Line) (s : Spent) {g : List X} {g' : List Y} → Each E g g'
        → Paired E (Ends (PairedEnds E)) (lines p O unset f triples u input end xs s g) (lines p O' unset' f' triples u input' end xs s g')
    unfolding through_lines
    paired_lines f f' H triples u is end [] s gs = p_last (ends (record { number = refl; place = refl; spent = refl; registers = gs }))
    paired_lines f f' H triples u is end (x ∷ xs) s gs =
        let c = cost_by triples x.command in
        paired_stop (check u c s)
        (paired_command f f' H is triples s.counts.inputs x.command (λ r _. each_at gs e0 r) λ w w' ws.
        paired_lines f f' H triples u is end xs (pay c s) (each_wrote gs ws))
        (p_last (ends (record { number = refl; place = refl; spent = refl; registers = gs })))
