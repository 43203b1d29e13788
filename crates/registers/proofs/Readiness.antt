-- What a command that is ready finds: registers, and at the next places its input row, mask and triples.
-- Assumes nothing.
use mathlib.Core.Path.{◌≡◌, ap, ◌∙◌}
use mathlib.Core.List.{List, []}
use Prim.Native.Nat.{ℕ, zero, suc, ◌+◌, ◌-◌, ◌*◌, ◌^◌, ◌≤◌, ◌<◌}
use native.Mathlib.Nat.{mul-le-mul_right}
use native.Mathlib.Omega.{arith}
use lib.ListN.{length, get_or, drop}
use lib.Pow.{pow_mono}
use Rattle.algebra.specs.Lists.{first}
use Rattle.model.specs.Bytes.{row_at}
use Rattle.model.specs.Fields.{Field}
use Rattle.model.specs.Deal.{no_row}
use Rattle.model.specs.Steps.{next_mask}
use Rattle.model.specs.Counts.{Counts}
use Rattle.model.specs.Costs.{mod_triples}
use Rattle.model.specs.Sheet.{header_of, rows_at, masks_from, triples_from}
use Rattle.model.specs.Run.{State}
use Rattle.model.proofs.Lengths.{header_field}
use Rattle.sharing.specs.Settings.{setting_of, Fitting}
use Rattle.sheet.specs.declared.frame.Frame.{Frame}
use Rattle.sheet.specs.Framed.{setting_from, Framed}
use Rattle.steps.specs.Places.{Room, MaskedRoom}
use Rattle.steps.specs.Promises.{Dealt}
use Rattle.registers.specs.Places.{input_place, places_of, Reached}
use Rattle.registers.specs.Holding.{Counting}

-- so many of so many items of one size
fits : (size a c b : ℕ) → a + c ≤ b → a * size + c * size ≤ b * size
fits size a c b h = let m : (a + c) * size ≤ b * size = mul-le-mul_right size h in omega arith

-- the masks and triples that are left, by their place
mask_at : (s : List ℕ) (n l i c j : ℕ) → j < c → first [] (drop j (masks_from s n l i c)) ≡ rows_at s n (i + j * (l * (4 * n))) l
unfolding masks_from
mask_at s n l i zero j h = absurd (omega arith)
mask_at s n l i (suc c) zero h = let e : i ≡ i + 0 * (l * (4 * n)) = omega arith in ap (λ (k : ℕ). rows_at s n k l) e
mask_at s n l i (suc c) (suc j) h =
    let e : i + 4 * n * l + j * (l * (4 * n)) ≡ i + suc j * (l * (4 * n)) = omega arith in
    mask_at s n l (i + 4 * n * l) c j (omega arith) ∙ ap (λ (k : ℕ). rows_at s n k l) e

triples_at_lem : (s : List ℕ) (n i j c : ℕ) → drop j (triples_from s n i (j + c)) ≡ triples_from s n (i + j * (12 * n)) c
unfolding triples_from
triples_at_lem s n i zero c =
    let e : i ≡ i + 0 * (12 * n) = omega arith in
    let k : 0 + c ≡ c = omega arith in
    rw (k, ← e)
triples_at_lem s n i (suc j) c =
    let e : i + 4 * n * 3 + j * (12 * n) ≡ i + suc j * (12 * n) = omega arith in
    let k : suc j + c ≡ suc (j + c) = omega arith in
    rw k (triples_at_lem s n (i + 4 * n * 3) j c ∙ ap (λ (v : ℕ). triples_from s n v c) e)

pub input_at : (s : List ℕ) (n i c j : ℕ) → j < c → get_or (rows_at s n i c) j no_row ≡ row_at s n (i + j * (4 * n))
unfolding rows_at
input_at s n i zero j h = absurd (omega arith)
input_at s n i (suc c) zero h = let e : i ≡ i + 0 * (4 * n) = omega arith in ap (row_at s n) e
input_at s n i (suc c) (suc j) h =
    let e : i + 4 * n + j * (4 * n) ≡ i + suc j * (4 * n) = omega arith in
    input_at s n (i + 4 * n) c j (omega arith) ∙ ap (row_at s n) e

module _ {s : List ℕ} {f : Frame} (F : Framed s f) where
  pub field_of : Field f.p f.l f.largest
  field_of = rw (F.headed.p_is, F.headed.l_is, F.headed.k_is) (header_field (header_of s) F.headed.in_use)

  pub fitting : Fitting (setting_from f)
  fitting =
      record {
        modulus = field_of.modulus_is;
        parties = F.headed.parties.most;
        threshold = omega (arith, F.headed.parties.most, F.headed.parties.majority);
        bits = omega (arith, field_of.k_most, field_of.k_is);
        opens = F.presented.opens;
      }

  module _ (k : Counts) where
    pub input_fits : k.inputs + 1 ≤ f.inputs → input_place f k + 4 * f.n ≤ length s
    input_fits h =
        let m : k.inputs * (4 * f.n) + 1 * (4 * f.n) ≤ f.inputs * (4 * f.n) = fits (4 * f.n) k.inputs 1 f.inputs h in
        omega (arith, F.whole, F.headed.masks_place, F.headed.triples_place)

    -- c masks more, which may be none, and c triples more
    masks_fit : (c : ℕ) → k.masks + c ≤ f.masks → (places_of f k).mask + c * (f.l * (4 * f.n)) ≤ length s
    masks_fit c h =
        let m : k.masks * (f.l * (4 * f.n)) + c * (f.l * (4 * f.n)) ≤ f.masks * (f.l * (4 * f.n)) = fits (f.l * (4 * f.n)) k.masks c f.masks h in
        omega (arith, F.whole, F.headed.triples_place)

    triples_fit : (c : ℕ) → k.triples + c ≤ f.triples → (places_of f k).triple + c * (12 * f.n) ≤ length s
    triples_fit c h =
        let m : k.triples * (12 * f.n) + c * (12 * f.n) ≤ f.triples * (12 * f.n) = fits (12 * f.n) k.triples c f.triples h in
        omega (arith, F.whole)

    pub reached : (log : List ℕ) → k.masks ≤ f.masks → k.triples ≤ f.triples → k.openings * f.n ≤ length log → length s < 2 ^ 64 → length log < 2 ^ 64 → Reached f k
    reached log hm ht ho hs hl =
        record {
          fitting = fitting;
          mask = omega (arith, masks_fit 0 (omega arith));
          triple = omega (arith, triples_fit 0 (omega arith));
          log = omega arith;
        }

    -- room for c triples
    pub room : (log : List ℕ) (c : ℕ) → k.triples + c ≤ f.triples → (k.openings + 2 * c) * f.n ≤ length log → Room s log (setting_from f) (places_of f k) c
    room log c h o = record { fitting = fitting; triples = triples_fit c h; openings = omega arith }

    -- and for a mask before them
    pub masked_room : (log : List ℕ) (w m : ℕ) → w ≤ f.largest → 1 ≤ m → m < w → k.masks + 1 ≤ f.masks → k.triples + mod_triples f.l m ≤ f.triples
        → (k.openings + (1 + 2 * mod_triples f.l m)) * f.n ≤ length log → MaskedRoom s log (setting_from f) (places_of f k) w m
    masked_room log w m most least less hm ht ho =
        record {
          least = least;
          less = less;
          most = omega (arith, field_of.k_most);
          power = let q : 2 ^ w ≤ 2 ^ f.largest = pow_mono {i = w} {j = f.largest} most in omega (arith, field_of.range_fits);
          within = omega (arith, field_of.k_is);
          mask = omega (arith, masks_fit 1 hm);
          room = record { fitting = fitting; triples = triples_fit (mod_triples f.l m) ht; openings = omega arith };
        }

-- what the deal of a state has next
module _ {s : List ℕ} {f : Frame} {k : Counts} {x : State} (C : Counting s f k x) where
  pub dealt : (c : ℕ) → k.triples + c ≤ f.triples → Dealt s (setting_from f) (places_of f k) c x.deal
  dealt c h =
      let left = f.triples - k.triples - c in
      let e : f.triples ≡ k.triples + (c + left) = omega arith in
      record {
        more = left;
        triples = C.triples ∙ ap (λ (t : ℕ). drop k.triples (triples_from s f.n f.triple t)) e ∙ triples_at_lem s f.n f.triple k.triples (c + left);
      }

  pub mask_next : k.masks + 1 ≤ f.masks → next_mask (setting_of (setting_from f)) x.deal ≡ rows_at s f.n (places_of f k).mask f.l
  mask_next h = ap (first []) C.masks ∙ mask_at s f.n f.l f.mask f.masks k.masks (omega arith)
