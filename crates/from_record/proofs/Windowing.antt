-- The loop over the sets that a byte leaves, and that over what their lowest parties give.
-- Assumes nothing.
use mathlib.Core.Path.{◌≡◌, refl, sym, subst, ◌∙◌}
use mathlib.Core.Logic.{◌≢◌, ◌↔◌}
use mathlib.Core.Bool.{Bool, true, false}
use mathlib.Core.List.{List, [], ◌∷◌}
use Prim.Native.Nat.{ℕ, zero, suc, ◌+◌, ◌^◌, ◌≤◌, ◌<◌}
use native.Mathlib.Decide.{ℕ_discrete}
use native.Mathlib.Omega.{arith}
use lib.Dec.{T}
use lib.ListN.{length, get_or, set, length-set}
use lib.Seq.{get_or-set_same, get_or-set_other}
use Rattle.model.specs.Fields.{Modulus, Parties}
use Rattle.model.specs.Presence.{PermittedSet, permitted_set}
use Rattle.model.proofs.Presence.{presence}
use Rattle.presence.specs.Openings.{WorkedBy}
use Rattle.presence.specs.declared.Opening.{Opening}
use Rattle.sharing.specs.Settings.{Fitting}
use Rattle.sharing.specs.declared.setting.Setting.{Setting}
use Rattle.from_record.specs.Windowed.{without, WindowsOf, window_value, AllGive}
use Rattle.from_record.specs.declared.windows.Windows.{Windows}
use Rattle.from_record.proofs.Sets.{no_later, none_past}

-- the first six powers of 2
pub power_at : (z : ℕ) → z < 6 → ◌≡◌ {A = ℕ} (get_or (1 ∷ 2 ∷ 4 ∷ 8 ∷ 16 ∷ 32 ∷ []) z 0) (2 ^ z)
power_at zero h = refl
power_at (suc zero) h = refl
power_at (suc (suc zero)) h = refl
power_at (suc (suc (suc zero))) h = refl
power_at (suc (suc (suc (suc zero)))) h = refl
power_at (suc (suc (suc (suc (suc zero))))) h = refl
power_at (suc (suc (suc (suc (suc (suc z)))))) h = absurd (omega arith)

-- the test of a set
pub is_permitted : {n t b : ℕ} {r : Bool} → r ≡ permitted_set n t b → r ≡ true → PermittedSet n t b
is_permitted {n} {t} {b} e q = (presence.tested n t b).0 (rw (sym e ∙ q) tt)

pub not_permitted : {n t b : ℕ} {r : Bool} → r ≡ permitted_set n t b → r ≡ false → PermittedSet n t b → ⊥
not_permitted {n} {t} {b} e q Q = rw (sym e ∙ q) at ((presence.tested n t b).1 Q)

-- the sets without parties 1 to i, for i below z, stand in the list
pub record Windowing (p n t b z : ℕ) (os : List Opening) : Type 0 where
  pub within : z ≤ 6
  pub size : length os ≡ 6
  pub permitted : (i : ℕ) → i < z → PermittedSet n t (without b i)
  pub sets : (i : ℕ) → i < z → (o : Opening) → (get_or os i o).present ≡ without b i
  pub worked : (i : ℕ) → i < z → (o : Opening) → WorkedBy p n t (get_or os i o)

pub windowing_start : (p n t b : ℕ) (os : List Opening) → length os ≡ 6 → Windowing p n t b 0 os
windowing_start p n t b os e =
    record { within = omega arith; size = e; permitted = λ i h. absurd (omega arith); sets = λ i h. absurd (omega arith); worked = λ i h. absurd (omega arith) }

module _ {p n t b z : ℕ} {os : List Opening} (W : Windowing p n t b z os) where
  pub windowing_more : (o : Opening) → z < 6 → PermittedSet n t (without b z) → o.present ≡ without b z → WorkedBy p n t o → Windowing p n t b (z + 1) (set os z o)
  windowing_more o h Q e K =
      record {
        within = omega arith;
        size = rw length-set W.size;
        permitted = λ i l. permitted i (ℕ_discrete i z) l;
        sets = λ i l d. sets i (ℕ_discrete i z) l d;
        worked = λ i l d. worked i (ℕ_discrete i z) l d;
      }
    where
      permitted : (i : ℕ) → Dec (i ≡ z) → i < z + 1 → PermittedSet n t (without b i)
      permitted i (yes q) l = rw q Q
      permitted i (no q) l = W.permitted i (omega arith)

      sets : (i : ℕ) → Dec (i ≡ z) → i < z + 1 → (d : Opening) → (get_or (set os z o) i d).present ≡ without b i
      sets i (yes q) l d = rw (q, get_or-set_same os z o d (omega (arith, W.size))) e
      sets i (no q) l d = rw (get_or-set_other os z i o d q) (W.sets i (omega arith) d)

      worked : (i : ℕ) → Dec (i ≡ z) → i < z + 1 → (d : Opening) → WorkedBy p n t (get_or (set os z o) i d)
      worked i (yes q) l d = rw (q, get_or-set_same os z o d (omega (arith, W.size))) K
      worked i (no q) l d = rw (get_or-set_other os z i o d q) (W.worked i (omega arith) d)

  -- the loop ends: no set that follows is permitted
  module _ (P : Parties n t) (low : b < 2 ^ n) where
    windows : ((y : ℕ) → z ≤ y → PermittedSet n t (without b y) → ⊥) → WindowsOf p n t (record { present = b; count = z; openings = os })
    windows k = record { parties_only = low; most = W.within; permitted = W.permitted; no_more = k; sets = W.sets; worked = W.worked }

    pub windowing_stop : (PermittedSet n t (without b z) → ⊥) → WindowsOf p n t (record { present = b; count = z; openings = os })
    windowing_stop k = windows (λ y. no_later low P z y k)

    pub windowing_end : z ≡ 6 → WindowsOf p n t (record { present = b; count = 6; openings = os })
    windowing_end h =
        subst (λ (c : ℕ). WindowsOf p n t (record { present = b; count = c; openings = os })) h (windows (λ y l. none_past low P y (omega arith)))

-- a setting in which an opening is worked by one of them
pub fits : {p n t : ℕ} (S : Setting) → Modulus p → Parties n t → S.p ≡ p → S.n ≡ n → S.t ≡ t → S.l ≡ 0 → WorkedBy p n t S.opening → Fitting S
fits S M P ep en et el W =
    record {
      modulus = rw ep M;
      parties = omega (arith, P.most);
      threshold = omega (arith, P.most, P.majority);
      bits = omega arith;
      opens = rw (ep, en, et) W;
    }

-- the sets before z give v
abbrev pub Given : ℕ → ℕ → ℕ → Windows → List ℕ → ℕ → ℕ → Type 0
Given p n t w x v z = (i : ℕ) → i < z → window_value p n t w.present x i ≡ v

module _ (p n t : ℕ) (w : Windows) (x : List ℕ) (v : ℕ) where
  pub given_first : v ≡ window_value p n t w.present x 0 → Given p n t w x v 1
  given_first e i h = let q : i ≡ 0 = omega arith in rw q (sym e)

  pub given_more : {r : ℕ} (z : ℕ) → Given p n t w x v z → r ≡ window_value p n t w.present x z → r ≡ v → Given p n t w x v (z + 1)
  given_more {r} z G e q i h = go (ℕ_discrete i z)
    where
      go : Dec (i ≡ z) → window_value p n t w.present x i ≡ v
      go (yes k) = rw k (sym e ∙ q)
      go (no k) = G i (omega arith)

  pub given_all : (z : ℕ) → Given p n t w x v z → w.count ≤ z → T true ↔ AllGive p n t w x v
  given_all z G h = (λ _ i l. G i (omega arith), λ _. tt)

  pub given_other : {r : ℕ} (z : ℕ) → z < w.count → r ≡ window_value p n t w.present x z → r ≢ v → T false ↔ AllGive p n t w x v
  given_other z h e q = (λ t. absurd t, λ k. q (e ∙ k z h))
