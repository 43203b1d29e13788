-- Commands are determined: what they reveal and leave are the plain interpreter's values. The lines of a script are determined too: what they mask, take
-- and reveal does not depend on the deal.
-- Assumes nothing.
use mathlib.Core.Path.{◌≡◌, refl, ap, ap₂, ◌∙◌}
use mathlib.Core.List.Memᴰ.{head as here}
use mathlib.Core.List.Memᴰ.{tail as there}
use mathlib.Core.List.{List, [], ◌∷◌, ◌++◌, map, Memᴰ as In}
use Prim.Native.Nat.{ℕ, zero, suc, ◌+◌, ◌-◌, ◌*◌, ◌^◌, ◌<◌}
use native.Mathlib.Omega.{arith}
use lib.Dec.{T}
use lib.ListN.{length, get_or, set, length-set, length-append, length-map}
use lib.Seq.{get_or-set_other}
use Rattle.algebra.specs.Ring.{add, sub}
use Rattle.algebra.specs.Lists.{All, none, one, from}
use Rattle.model.specs.Fields.{Modulus, Parties}
use Rattle.model.specs.Deal.{no_row}
use Rattle.model.specs.Trees.{Tree, done, Remainder, RemainderBy, comparison, floor, sign, over, blocks}
use Rattle.model.specs.Steps.{Setting, Row, row_ops}
use Rattle.model.specs.Script.{Command, LOAD, CONST, ADD, SUB, SCALE, MUL, MOD, TRUNC, LTZ, OVER, BLOCKS, REVEAL, BITLT, LTZS, Line, in_ranges, outputs}
use Rattle.model.specs.Costs.{cost_by}
use Rattle.model.specs.Checks.{Spent, Supply, check, pay}
use Rattle.model.specs.Refusing.{given}
use Rattle.model.specs.Commands.{Ended, through_lines, registers_from, signs, command, lines}
use Rattle.model.specs.Sheet.{secrets}
use Rattle.model.specs.Plain.{quot, negative, exceeds, charged, negatives, values_from, plainly, reveals}
use Rattle.model.specs.Results.{target}
use Rattle.model.proofs.Each.{no_more, and, each_at, each_set}
use Rattle.model.proofs.Operands.{Ranges, operands}
use Rattle.model.proofs.Shared.{Shared, Shareds, shared_plus, shared_minus, shared_times, shared_constant, shared_zero}
use Rattle.model.proofs.Determined.{Determined, d_done, d_multiply, d_reveal, recount, determined_comparison}
use Rattle.model.proofs.Masked.{DeterminedMod}
use Rattle.model.proofs.Checks.{tally}

-- rows that share values, where an unset register is a sharing of 0
module _ {S : Setting} (Z : Shared S 0 no_row) where
  pub shareds_at : {vs : List ℕ} {g : List Row} → Shareds S vs g → (r : ℕ) → Shared S (get_or vs r 0) (get_or g r no_row)
  shareds_at G r = each_at G Z r

  shareds_from : {vs : List ℕ} {g : List Row} → Shareds S vs g → (b w : ℕ) → Shareds S (values_from vs b w) (registers_from no_row g b w)
  unfolding values_from registers_from
  shareds_from G b zero = no_more
  shareds_from G b (suc w) = and (shareds_at G b) (shareds_from G (suc b) w)

pub length_values : (vs : List ℕ) (b w : ℕ) → length (values_from vs b w) ≡ w
unfolding values_from
length_values vs b zero = refl
length_values vs b (suc w) = ap suc (length_values vs (suc b) w)

-- the registers w, where g was: those of the list ds alone are new
pub record OthersStay (ds : List ℕ) (g w : List Row) : Type 0 where
  pub many : length w ≡ length g
  pub others : (r : ℕ) → (In r ds → ⊥) → get_or w r no_row ≡ get_or g r no_row

kept : (ds : List ℕ) (g : List Row) → OthersStay ds g g
kept ds g = record { many = refl; others = λ r n. refl }

-- one of them was written before the others
stay_more : (d : ℕ) (x : Row) {ds : List ℕ} {g w : List Row} → OthersStay ds (set g d x) w → OthersStay (d ∷ ds) g w
stay_more d x {g = g} W =
    record { many = W.many ∙ length-set g d x; others = λ r n. W.others r (λ i. n (there i)) ∙ get_or-set_other g d r x no_row (λ e. n (here e)) }

put : {S : Setting} {vs : List ℕ} {g : List Row} {v : ℕ} {x : Row} (d : ℕ) → Shareds S vs g → Shared S v x
    → Shareds S (set vs d v) (set g d x) × OthersStay (d ∷ []) g (set g d x)
put {x = x} d G X = (each_set d G X, stay_more d x (kept [] _))

-- the number that is masked: "X = (a + 2^(k−1)) modulo p"
abbrev shifted : ℕ → ℕ → ℕ → ℕ
shifted p k a = add p a (2 ^ (k - 1))

-- A command on registers that share the values vs: the numbers that it masks, a mask for each; it takes the triples that it costs, reveals the plain
-- interpreter's values, and leaves registers that share the plain interpreter's values, its target alone being new.
pub record Course (S : Setting) (B : ℕ) (triples : ℕ → ℕ) (input : List Row) (j : ℕ) (c : Command) (vs : List ℕ) {A : Type 0} (Q : A → Type 0)
    (remainder : RemainderBy Row A) : Type 0 where
  pub numbers : List ℕ
  pub masks : length numbers ≡ (cost_by triples c).counts.masks
  pub values : length (reveals c vs) ≡ (cost_by triples c).counts.revealed
  pub determined : {xs : List ℕ} {n : ℕ} {ss : List ℕ} (g : List Row) → Shareds S vs g → (go : List Row → Tree Row A)
      → ((w : List Row) → Shareds S (plainly S.p (secrets S input) j c vs) w × OthersStay (target c) g w → Determined S B Q xs n ss (go w))
      → Determined S B Q (numbers ++ xs) ((cost_by triples c).counts.triples + n) (reveals c vs ++ ss) (command S.p (row_ops S) no_row remainder input j c g go)

module _ (S : Setting) (M : Modulus S.p) (P : Parties S.n S.t) (Z : Shared S 0 no_row) {B K : ℕ} {triples : ℕ → ℕ} where
  -- what rests on MOD
  module _ {A : Type 0} {Q : A → Type 0} {MOD : Remainder Row A} (D : DeterminedMod S B K Q triples MOD) {xs : List ℕ} {n : ℕ} {vs : List ℕ} {go : Row → Tree Row A} where
    determined_floor : (k m : ℕ) → Ranges K k m → {a : ℕ} {x : Row} → Shared S a x
        → ((z : Row) → Shared S (quot S.p k m a) z → Determined S B Q xs n vs (go z))
        → Determined S B Q (shifted S.p k a ∷ xs) (triples m + n) vs (floor S.p (row_ops S) MOD k m x go)
    unfolding floor quot
    determined_floor k m R X h = D.determined k m R X (λ z Y. h _ (shared_times S M P _ (shared_minus S M P X Y)))

  module _ {A : Type 0} {Q : A → Type 0} {MOD : Remainder Row A} (D : DeterminedMod S B K Q triples MOD) {xs : List ℕ} {n : ℕ} {vs : List ℕ} {go : Row → Tree Row A} where
    determined_sign : (k : ℕ) → Ranges K k (k - 1) → {a : ℕ} {x : Row} → Shared S a x
        → ((z : Row) → Shared S (negative S.p k a) z → Determined S B Q xs n vs (go z))
        → Determined S B Q (shifted S.p k a ∷ xs) (triples (k - 1) + n) vs (sign S.p (row_ops S) MOD k x go)
    unfolding sign negative
    determined_sign k R X h = determined_floor D k (k - 1) R X (λ z Y. h _ (shared_minus S M P (shared_zero S M P) Y))

    determined_blocks : (k m : ℕ) → Ranges K k m → {a : ℕ} {x : Row} → Shared S a x
        → ((z : Row) → Shared S (charged S.p k m a) z → Determined S B Q xs n vs (go z))
        → Determined S B Q (shifted S.p k (add S.p a (2 ^ m - 1)) ∷ xs) (triples m + n) vs (blocks S.p (row_ops S) MOD k m x go)
    unfolding blocks charged
    determined_blocks k m R X h =
        let l : 2 ^ m - 1 < S.p = omega (arith, D.power_lt m (omega (arith, R.m_most, R.k_most))) in
        determined_floor D k m R (shared_plus S M P X (shared_constant S M P l)) h

  module _ {A : Type 0} {Q : A → Type 0} {MOD : Remainder Row A} (D : DeterminedMod S B K Q triples MOD) {xs : List ℕ} {n : ℕ} {vs : List ℕ} {go : Row → Tree Row A} where
    determined_over : (k v : ℕ) → Ranges K k (k - 1) → v < S.p → {a : ℕ} {x : Row} → Shared S a x
        → ((z : Row) → Shared S (exceeds S.p k v a) z → Determined S B Q xs n vs (go z))
        → Determined S B Q (shifted S.p k (sub S.p v a) ∷ xs) (triples (k - 1) + n) vs (over S.p (row_ops S) MOD k v x go)
    unfolding over exceeds
    determined_over k v R l X h = determined_sign D k R (shared_minus S M P (shared_constant S M P l) X) h

  -- LTZS of the registers us from a on; vs and g are what stands in the registers before its next LTZ
  module _ {A : Type 0} {Q : A → Type 0} (remainder : RemainderBy Row A) (D : DeterminedMod S B K Q triples (remainder (comparison (row_ops S)))) (k : ℕ) (R : Ranges K k (k - 1))
      {us : List ℕ} {f : List Row} (F : Shareds S us f) {xs : List ℕ} {n : ℕ} {ss : List ℕ} {go : List Row → Tree Row A} where
    determined_signs : (d a h : ℕ) {vs : List ℕ} {g : List Row} → Shareds S vs g
        → ((w : List Row) → Shareds S (negatives S.p k (values_from us a h) d vs) w × OthersStay (from d h) g w → Determined S B Q xs n ss (go w))
        → Determined S B Q (map (shifted S.p k) (values_from us a h) ++ xs) (h * triples (k - 1) + n) ss
        (signs S.p (row_ops S) no_row remainder k (registers_from no_row f a h) d g go)
    unfolding signs registers_from values_from negatives from
    determined_signs d a zero G t = recount (omega arith) (t _ (G, kept [] _))
    determined_signs d a (suc h) G t =
        recount {n = triples (k - 1) + (h * triples (k - 1) + n)} (omega arith)
        (determined_sign D k R (shareds_at Z F a) (λ z X. determined_signs (suc d) (suc a) h (each_set d G X) (λ w W. t w (W.0, stay_more d z W.1))))

  module _ {input : List Row} (I : Shareds S (secrets S input) input) where
    module _ {A : Type 0} {Q : A → Type 0} (remainder : RemainderBy Row A) (D : DeterminedMod S B K Q triples (remainder (comparison (row_ops S)))) (j : ℕ) (vs : List ℕ) where
      pub course : (c : Command) → T (in_ranges S.p K c) → Course S B triples input j c vs Q remainder
      unfolding command cost_by plainly reveals outputs
      course (LOAD d) ok = record { numbers = []; masks = refl; values = refl; determined = λ g G go h. recount (omega arith) (h _ (put d G (shareds_at Z I j))) }
      course (CONST d v) ok =
          let X = shared_constant S M P (operands S.p K (CONST d v) ok).1.0 in
          record { numbers = []; masks = refl; values = refl; determined = λ g G go h. recount (omega arith) (h _ (put d G X)) }
      course (ADD d a b) ok =
          record { numbers = []; masks = refl; values = refl; determined = λ g G go h. recount (omega arith) (h _ (put d G (shared_plus S M P (shareds_at Z G a) (shareds_at Z G b)))) }
      course (SUB d a b) ok =
          record { numbers = []; masks = refl; values = refl; determined = λ g G go h. recount (omega arith) (h _ (put d G (shared_minus S M P (shareds_at Z G a) (shareds_at Z G b)))) }
      course (SCALE d a v) ok =
          record { numbers = []; masks = refl; values = refl; determined = λ g G go h. recount (omega arith) (h _ (put d G (shared_times S M P v (shareds_at Z G a)))) }
      course (MUL d a b) ok =
          record {
            numbers = [];
            masks = refl;
            values = refl;
            determined = λ {xs} {n} g G go h. recount {n = suc n} (omega arith) (d_multiply (shareds_at Z G a) (shareds_at Z G b) (λ z X. h _ (put d G X)));
          }
      course (MOD d a k m) ok =
          let R = operands S.p K (MOD d a k m) ok in
          record { numbers = shifted S.p k (get_or vs a 0) ∷ []; masks = refl; values = refl; determined = λ g G go h. D.determined k m (omega arith) (shareds_at Z G a) (λ z X. h _ (put d G X)) }
      course (TRUNC d a k m) ok =
          let R = operands S.p K (TRUNC d a k m) ok in
          record { numbers = shifted S.p k (get_or vs a 0) ∷ []; masks = refl; values = refl; determined = λ g G go h. determined_floor D k m (omega arith) (shareds_at Z G a) (λ z X. h _ (put d G X)) }
      course (LTZ d a k) ok =
          let R = operands S.p K (LTZ d a k) ok in
          record { numbers = shifted S.p k (get_or vs a 0) ∷ []; masks = refl; values = refl; determined = λ g G go h. determined_sign D k (omega arith) (shareds_at Z G a) (λ z X. h _ (put d G X)) }
      course (OVER d a k v) ok =
          let R = operands S.p K (OVER d a k v) ok in
          record { numbers = shifted S.p k (sub S.p v (get_or vs a 0)) ∷ []; masks = refl; values = refl; determined = λ g G go h. determined_over D k v (omega arith) (omega arith) (shareds_at Z G a) (λ z X. h _ (put d G X)) }
      course (BLOCKS d a k m) ok =
          let R = operands S.p K (BLOCKS d a k m) ok in
          record { numbers = shifted S.p k (add S.p (get_or vs a 0) (2 ^ m - 1)) ∷ []; masks = refl; values = refl; determined = λ g G go h. determined_blocks D k m (omega arith) (shareds_at Z G a) (λ z X. h _ (put d G X)) }
      course (REVEAL a) ok =
          record { numbers = []; masks = refl; values = refl; determined = λ g G go h. recount (omega arith) (d_reveal (shareds_at Z G a) (h g (G, kept [] g))) }
      course (BITLT d b w v) ok =
          record {
            numbers = [];
            masks = refl;
            values = refl;
            determined = λ {xs} {n} g G go h. recount {n = (length (values_from vs b w) - 1) + n} (omega (arith, length_values vs b w))
                (determined_comparison S M P v (shareds_from Z G b w) (λ z X. h _ (put d G X)));
          }
      course (LTZS d a h k) ok =
          let R = operands S.p K (LTZS d a h k) ok in
          record {
            numbers = map (shifted S.p k) (values_from vs a h);
            masks = length-map (values_from vs a h) (shifted S.p k) ∙ length_values vs a h;
            values = refl;
            determined = λ g G go t. determined_signs remainder D k (omega arith) G d a h G t;
          }

-- A tree for each list of registers, where these share the values vs: it takes so many masks and triples, and masks and reveals the same values,
-- whatever the registers and the deal.
pub record TreeCourse (S : Setting) (B : ℕ) (vs : List ℕ) (masks triples : ℕ) (T : List Row → Tree Row (Ended Row)) : Type 0 where
  pub numbers : List ℕ
  pub shown : List ℕ
  pub many : length numbers ≡ masks
  pub determined : (g : List Row) → Shareds S vs g → Determined S B (λ e. Unit {0}) numbers triples shown (T g)

stop_course : {S : Setting} {B : ℕ} {vs : List ℕ} {m n : ℕ} {T : List Row → Tree Row (Ended Row)} (number : ℕ) (e : List Row → Ended Row) → TreeCourse S B vs m n T
    → TreeCourse S B vs (given number m 0) (given number n 0) (λ g. given number (T g) (done (e g)))
stop_course zero e C = C
stop_course (suc number) e C = record { numbers = []; shown = []; many = refl; determined = λ g G. d_done tt }

-- the lines of a script: the masks and triples that the finished commands cost
module _ (S : Setting) (M : Modulus S.p) (P : Parties S.n S.t) (Z : Shared S 0 no_row) {B K : ℕ} {triples : ℕ → ℕ} (remainder : RemainderBy Row (Ended Row))
    (D : DeterminedMod S B K (λ (e : Ended Row). Unit {0}) triples (remainder (comparison (row_ops S)))) (u : Supply) {input : List Row} (I : Shareds S (secrets S input) input) (end : ℕ) where
  pub lines_course : {xs : List Line} → All (λ x. T (in_ranges S.p K x.command)) xs → (s : Spent) (vs : List ℕ)
      → TreeCourse S B vs (tally triples u (λ c. c.masks) xs s) (tally triples u (λ c. c.triples) xs s) (lines S.p (row_ops S) no_row remainder triples u input end xs s)
  unfolding through_lines tally
  lines_course none s vs = record { numbers = []; shown = []; many = refl; determined = λ g G. d_done tt }
  lines_course (one {x = x} {xs = xs} ok oks) s vs =
      let c = cost_by triples x.command in
      let C = course S M P Z I remainder D s.counts.inputs vs x.command ok in
      let rest = lines_course oks (pay c s) (plainly S.p (secrets S input) s.counts.inputs x.command vs) in
      stop_course (check u c s) _
      (record {
        numbers = C.numbers ++ rest.numbers;
        shown = reveals x.command vs ++ rest.shown;
        many = length-append C.numbers rest.numbers ∙ ap₂ ◌+◌ C.masks rest.many;
        determined = λ g G. C.determined g G _ (λ w W. rest.determined w W.0);
      })
