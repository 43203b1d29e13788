-- What a party's column is made of: how a table of one column would be opened, its setting, and its cells.
-- Assumes nothing.
use mathlib.Core.Path.{◌≡◌, refl, sym, ap, ◌∙◌}
use mathlib.Core.List.{List, [], ◌∷◌, map}
use Prim.Native.Nat.{ℕ, zero, suc, ◌+◌, ◌*◌, ◌%◌, ◌≤◌, ◌<◌}
use native.Mathlib.Nat.{mod-eq_of_lt}
use native.Mathlib.Omega.{arith}
use lib.ListN.{length, get_or, take, drop}
use lib.Seq.{ext_get_or, get_or-drop}
use Rattle.algebra.specs.Ring.{mul}
use Rattle.algebra.specs.Lists.{from}
use Rattle.algebra.proofs.Lists.{below_nil, below_cons}
use Rattle.model.specs.Bytes.{sevens}
use Rattle.model.specs.Fields.{Modulus, modulus}
use Rattle.model.proofs.Fields.{fields}
use Rattle.model.specs.Presence.{bit, present_in, absent_in, openers}
use Rattle.model.specs.Sharing.{ratio, weight}
use Rattle.model.specs.Replay.{own_share}
use Rattle.sheet.specs.declared.frame.Frame.{Frame}
use Rattle.from_record.specs.declared.Reader.{Reader}
use Rattle.from_record.specs.Reading.{Reading}
use Rattle.replay.specs.Owning.{Framing, ColumnFor}
use Rattle.presence.specs.declared.Opening.{Opening}
use Rattle.presence.specs.Openings.{WorkedBy}

-- one party, with the weight 1
pub worked_alone : (p : ℕ) → Modulus p
    → WorkedBy p 1 0 (record { present = 1; first = record { party = 1; weight = 1 }; second = record { party = 1; weight = 0 }; third = record { party = 1; weight = 0 }; fourth = record { party = 1; weight = 0 } })
unfolding openers present_in absent_in from bit weight ratio mul
worked_alone p M =
    record {
      parties = refl;
      weights = record { weights = ap (λ (x : ℕ). x ∷ []) (sym one_left); past = past };
      some = some;
      low = below_cons (omega arith) (below_cons (omega arith) (below_cons (omega arith) (below_cons (omega arith) (below_nil 8))));
    }
  where
    one_left : ◌≡◌ {A = ℕ} (1 % p) 1
    one_left = mod-eq_of_lt (omega (arith, M.above))

    past : (i : ℕ) → 1 ≤ i → ◌≡◌ {A = ℕ} (get_or (1 ∷ 0 ∷ 0 ∷ 0 ∷ []) i 0) 0
    past zero h = absurd (omega arith)
    past (suc zero) h = refl
    past (suc (suc zero)) h = refl
    past (suc (suc (suc zero))) h = refl
    past (suc (suc (suc (suc i)))) h = refl

    some : (i : ℕ) → i < 4 → 1 ≤ get_or (1 ∷ 1 ∷ 1 ∷ 1 ∷ []) i 0
    some zero h = omega arith
    some (suc zero) h = omega arith
    some (suc (suc zero)) h = omega arith
    some (suc (suc (suc zero))) h = omega arith
    some (suc (suc (suc (suc i)))) h = absurd (omega arith)

-- the first of each seven cells
length_own : (w : ℕ) (cells : List ℕ) → length (map own_share (sevens w cells)) ≡ w
unfolding sevens
length_own zero cells = refl
length_own (suc w) cells = ap suc (length_own w (drop 7 cells))

first_of : (xs : List ℕ) → get_or xs 0 0 ≡ get_or (take 7 xs) 0 0
first_of [] = refl
first_of (x ∷ xs) = refl

own_in : (w : ℕ) (cells : List ℕ) (r : ℕ) → r < w → get_or cells (7 * r) 0 ≡ get_or (map own_share (sevens w cells)) r 0
unfolding sevens
own_in zero cells r h = absurd (omega arith)
own_in (suc w) cells zero h = first_of cells
own_in (suc w) cells (suc r) h =
    let e : 7 * suc r ≡ 7 + 7 * r = omega arith in
    rw e (sym (get_or-drop 7 cells (7 * r) 0) ∙ own_in w (drop 7 cells) r (omega arith))

pub own_at : (cells : List ℕ) (r : ℕ) → r < 64 → get_or cells (7 * r) 0 ≡ get_or (map own_share (sevens 64 cells)) r 0
own_at cells r h = own_in 64 cells r h

pub own_length : (cells : List ℕ) → 64 ≤ length (map own_share (sevens 64 cells))
own_length cells = rw (length_own 64 cells) (omega arith)

pub own_each : (cells own : List ℕ) → length own ≡ 64 → ((r : ℕ) → r < 64 → get_or own r 0 ≡ get_or cells (7 * r) 0) → own ≡ map own_share (sevens 64 cells)
own_each cells own e each =
    let n : length own ≡ length (map own_share (sevens 64 cells)) = e ∙ sym (length_own 64 cells) in
    ext_get_or 0 own (map own_share (sevens 64 cells)) n (λ r h. each r (omega arith) ∙ own_in 64 cells r (omega arith))

-- the column of a frame
pub framed_modulus : {f : Frame} {field party : ℕ} → Framing f field party → Modulus f.p
framed_modulus {field = field} F = rw F.p_is (fields field F.in_use).modulus_is

pub column_for : {f : Frame} {field party : ℕ} {opening : Opening} {reader : Reader} → Framing f field party
    → (reader.p ≡ modulus field) × (reader.n ≡ f.n) × (reader.t ≡ f.t) × (reader.party ≡ party) × Reading reader → (opening.present ≡ 1) × WorkedBy f.p 1 0 opening
    → ColumnFor f party (record { setting = record { p = f.p; l = f.l; n = 1; t = 0; opening = opening }; reader = reader })
column_for {f} F E A =
    record {
      working =
          record {
            fitting = record { modulus = framed_modulus F; parties = omega arith; threshold = omega arith; bits = F.bits; opens = A.1 };
            own = rw A.0;
            same_p = E.0 ∙ sym F.p_is;
            reading = E.4;
          };
      p_is = refl;
      l_is = refl;
      n_is = E.1;
      t_is = E.2;
      party_is = E.3;
    }
