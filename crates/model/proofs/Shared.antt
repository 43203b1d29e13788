-- A row that shares a value, and how the row operations and Beaver's last line work on the values.
-- Assumes nothing.
use mathlib.Core.Path.{◌≡◌, refl, ap, ap₂, ◌∙◌}
use mathlib.Core.Bool.{Bool, true, false, cond}
use mathlib.Core.List.{List, [], ◌∷◌, ◌++◌}
use Prim.Native.Nat.{ℕ, zero, suc, ◌+◌, ◌-◌, ◌<◌}
use native.Mathlib.Omega.{arith}
use lib.ListN.{length, drop, replicate}
use Rattle.algebra.specs.Ring.{add, sub, mul}
use Rattle.algebra.specs.Lists.{All, none, one}
use Rattle.algebra.specs.Rows.{tab, row}
use Rattle.algebra.proofs.Ring.{ring, mod-ring, mul_lt}
use Rattle.model.specs.Fields.{Modulus, Parties}
use Rattle.model.specs.Sharing.{Sharing, secret}
use Rattle.model.specs.Presence.{openers}
use Rattle.model.specs.Deal.{no_row}
use Rattle.model.specs.Trees as Trees
use Rattle.model.specs.Steps.{Setting, Row, Triple, plus, minus, times, constant, value, beaver, chosen, spelled}
use Rattle.model.specs.Sheet.{secrets}
use Rattle.model.specs.Plain.{less_step}
use Rattle.model.proofs.Polynomials.{positive}
use Rattle.model.proofs.Sharings.{add_linear, sub_linear, mul_linear, sharing_on, secret_on, sharing_constant, secret_constant, any_parties}
use Rattle.model.proofs.Presence.{openers_group}
use Rattle.model.proofs.Unmasking.{spelt}
use Rattle.model.proofs.Each.{Each, no_more, and}

-- x is a sharing of v
pub record Shared (S : Setting) (v : ℕ) (x : Row) : Type 0 where
  pub sharing : Sharing S.p S.n S.t x
  pub is : secret S.p S.t x ≡ v

-- rows that share values, each its own
abbrev pub Shareds : Setting → List ℕ → List Row → Type 0
Shareds S vs xs = Each (Shared S) vs xs

-- a well-formed triple
pub record TripleOk (S : Setting) (t : Triple) : Type 0 where
  pub a_sharing_lem : Sharing S.p S.n S.t t.a
  pub b_sharing : Sharing S.p S.n S.t t.b
  pub c_sharing : Sharing S.p S.n S.t t.c
  pub good : secret S.p S.t t.c ≡ mul S.p (secret S.p S.t t.a) (secret S.p S.t t.b)

pub all_drop : {A : Type 0} {P : A → Type 0} (n : ℕ) {xs : List A} → All P xs → All P (drop n xs)
all_drop zero ps = ps
all_drop (suc n) none = none
all_drop (suc n) (one p ps) = all_drop n ps

module _ (S : Setting) (M : Modulus S.p) (P : Parties S.n S.t) where
  pub shared_plus : {v w : ℕ} {x y : Row} → Shared S v x → Shared S w y → Shared S (add S.p v w) (plus S x y)
  unfolding plus
  shared_plus a b =
      let L = add_linear (positive M) in
      record { sharing = sharing_on M P L a.sharing b.sharing; is = secret_on M P L a.sharing b.sharing ∙ ap₂ (add S.p) a.is b.is }

  pub shared_minus : {v w : ℕ} {x y : Row} → Shared S v x → Shared S w y → Shared S (sub S.p v w) (minus S x y)
  unfolding minus
  shared_minus a b =
      let L = sub_linear (positive M) in
      record { sharing = sharing_on M P L a.sharing b.sharing; is = secret_on M P L a.sharing b.sharing ∙ ap₂ (sub S.p) a.is b.is }

  pub shared_times : (c : ℕ) {v : ℕ} {x : Row} → Shared S v x → Shared S (mul S.p c v) (times S c x)
  unfolding times
  shared_times c a =
      let L = mul_linear (positive M) c in
      record { sharing = sharing_on M P L a.sharing a.sharing; is = secret_on M P L a.sharing a.sharing ∙ ap (mul S.p c) a.is }

  pub shared_constant : {v : ℕ} → v < S.p → Shared S v (constant S v)
  unfolding constant
  shared_constant h = record { sharing = sharing_constant M P h; is = secret_constant M P h }

  pub shared_zero : Shared S 0 (constant S 0)
  shared_zero = shared_constant (positive M)

  -- what an opening of a sharing gives, whoever is present
  pub value_secret : {x : Row} → Sharing S.p S.n S.t x → value S x ≡ secret S.p S.t x
  unfolding value
  value_secret s = any_parties M P (openers S.n S.t S.present) (openers_group S.n S.t S.present (omega arith)) s

  pub opens : {v : ℕ} {x : Row} → Shared S v x → value S x ≡ v
  opens a = value_secret a.sharing ∙ a.is

  -- Beaver's identity
  pub shared_beaver : (v w : ℕ) (t : Triple) → TripleOk S t → {a1 b1 : ℕ} → a1 ≡ sub S.p v (secret S.p S.t t.a)
      → b1 ≡ sub S.p w (secret S.p S.t t.b) → Shared S (mul S.p v w) (beaver S a1 b1 t)
  shared_beaver v w t T {a1} {b1} ea eb =
      let h = positive M in
      let A : Shared S _ t.a = record { sharing = T.a_sharing_lem; is = refl } in
      let B : Shared S _ t.b = record { sharing = T.b_sharing; is = refl } in
      let C : Shared S _ t.c = record { sharing = T.c_sharing; is = T.good } in
      let R = shared_plus (shared_plus (shared_plus C (shared_times a1 B)) (shared_times b1 A)) (shared_constant (mul_lt a1 b1 h)) in
      record { sharing = R.sharing; is = R.is ∙ rw (ea, eb) (simp mod-ring (ring h _ _ _ _ (omega arith))) }

  pub shared_chosen : (c : Bool) {b lt : ℕ} {x y q : Row} → Shared S b x → Shared S lt y → Shared S (mul S.p b lt) q
      → Shared S (less_step S.p c b lt) (chosen S c x y q)
  shared_chosen true B L Q = Q
  shared_chosen false B L Q = shared_minus (shared_plus B L) Q

  pub shared_start : (c : Bool) {b : ℕ} {x : Row} → Shared S b x → Shared S (cond c 0 b) (cond c (constant S 0) x)
  shared_start true B = shared_zero
  shared_start false B = B

  pub shared_spelled : {bs : List ℕ} {xs : List Row} → Shareds S bs xs → Shared S (spelt S.p bs) (spelled S xs)
  unfolding Trees.spelled spelt
  shared_spelled no_more = shared_zero
  shared_spelled (and B Bs) = shared_plus B (shared_times 2 (shared_spelled Bs))

  -- an unset register is the sharing of 0
  zeros : (k m j : ℕ) → k + m ≡ j → tab k (λ _. 0) ++ replicate m 0 ≡ replicate j 0
  unfolding tab
  zeros zero m j e = let q : m ≡ j = omega arith in rw q
  zeros (suc k) m zero e = absurd (omega arith)
  zeros (suc k) m (suc j) e = ap {B = List ℕ} (λ z. 0 ∷ z) (zeros k m j (omega arith))

  pub shared_none : Shared S 0 no_row
  unfolding constant row
  shared_none = rw (zeros S.n (7 - S.n) 7 (omega arith)) at shared_zero

pub length_secrets : (S : Setting) (xs : List Row) → length (secrets S xs) ≡ length xs
unfolding secrets
length_secrets S [] = refl
length_secrets S (x ∷ xs) = ap suc (length_secrets S xs)

-- the rows of sharings share their secrets
pub shareds_secrets : {S : Setting} {xs : List Row} → All (Sharing S.p S.n S.t) xs → Shareds S (secrets S xs) xs
unfolding secrets
shareds_secrets none = no_more
shareds_secrets (one s ss) = and (record { sharing = s; is = refl }) (shareds_secrets ss)
