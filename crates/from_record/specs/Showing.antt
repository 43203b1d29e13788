-- An opening's numbers as the code takes them: a row that has 0 for an absent share, and the byte of those present.
-- Assumes nothing.
use Rattle.std.specs.Prelude.{◌≡◌, ◌≢◌, Bool, true, false, cond, List, ℕ, suc, ◌+◌, ◌-◌, ◌^◌, ◌≤◌, ◌<◌, eqb, get_or}
use Rattle.algebra.specs.Lists.{Below}
use Rattle.model.specs.Presence.{bit}
use Rattle.from_record.specs.declared.shown.Shown.{Shown}

-- "An entry of p is an absent share"
abbrev pub is_share : ℕ → ℕ → Bool
is_share p number = cond (eqb number p) false true

-- what is known of the columns from j on of n numbers xs, none of which is above p
pub record Gathered (p n j : ℕ) (xs : List ℕ) (x : Shown) : Type 0 where
  pub most : (i : ℕ) → j ≤ i → i < n → get_or xs i 0 ≤ p
  pub below : Below p x.shares
  pub same : (i : ℕ) → j ≤ i → i < n → get_or xs i 0 ≢ p → get_or x.shares i 0 ≡ get_or xs i 0
  pub bits : (i : ℕ) → j + i < n → bit x.present i ≡ is_share p (get_or xs (j + i) 0)
  pub small : x.present < 2 ^ (n - j)

-- one number more was looked at, whatever the others are
abbrev pub Further : ℕ → ℕ → ℕ → Shown → Shown → Type 0
Further p j number x y = (n : ℕ) (xs : List ℕ) → j < n → get_or xs j 0 ≡ number → Gathered p n (suc j) xs x → Gathered p n j xs y
