-- The lowest present parties as the code finds them, and what an opening is worked from.
-- Assumes nothing.
use Rattle.std.specs.Prelude.{◌≡◌, List, [], ◌∷◌, map, ℕ, suc, ◌/◌, ◌^◌, ◌≤◌, ◌<◌, length, get_or, take}
use Rattle.algebra.specs.Lists.{Below, from}
use Rattle.model.specs.Sharing.{weight}
use Rattle.model.specs.Presence.{present_in, openers}
use Rattle.presence.specs.declared.Found.{Found}
use Rattle.presence.specs.declared.Opening.{Opening}

-- the lowest e present ones of parties 1 to n, at the start of the list, the others being parties too, and the byte without the bits of parties 1 to n
pub record LowestOf (n e present : ℕ) (x : Found) : Type 0 where
  pub parties : take x.count x.parties ≡ take e (present_in present (from 1 n))
  pub count : x.count ≡ length (take e (present_in present (from 1 n)))
  pub beyond : x.beyond ≡ present / 2 ^ n
  pub low : Below 8 x.parties
  pub some : (i : ℕ) → i < 4 → 1 ≤ get_or x.parties i 0

-- the weights of some parties, each among all of them
abbrev pub weights_among : ℕ → List ℕ → List ℕ
weights_among p xs = map (weight p xs) xs

-- in the first e places the weights of the first e parties, and 0 past them
pub record FirstWeights (p : ℕ) (parties : List ℕ) (e : ℕ) (ws : List ℕ) : Type 0 where
  pub weights : take e ws ≡ weights_among p (take e parties)
  pub past : (i : ℕ) → e ≤ i → get_or ws i 0 ≡ 0

-- the parties and the weights of the points that an opening is worked from
abbrev pub parties_of : Opening → List ℕ
parties_of x = x.first.party ∷ x.second.party ∷ x.third.party ∷ x.fourth.party ∷ []

abbrev pub weights_of : Opening → List ℕ
weights_of x = x.first.weight ∷ x.second.weight ∷ x.third.weight ∷ x.fourth.weight ∷ []

-- They are the lowest t + 1 present parties with their weights. What stands past them is a party too, and its weight is 0.
pub record WorkedBy (p n t : ℕ) (x : Opening) : Type 0 where
  pub parties : take (suc t) (parties_of x) ≡ openers n t x.present
  pub weights : FirstWeights p (parties_of x) (suc t) (weights_of x)
  pub some : (i : ℕ) → i < 4 → 1 ≤ get_or (parties_of x) i 0
  pub low : Below 8 (parties_of x)
