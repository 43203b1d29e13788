-- Masks and triples are given by their rows, which a sheet has one after the other.
-- Assumes nothing.
use mathlib.Core.Path.{◌≡◌, refl, sym, ap, ap₂, ◌∙◌}
use mathlib.Core.List.Memᴰ.{head as here}
use mathlib.Core.List.Memᴰ.{tail as there}
use mathlib.Core.List.{List, [], ◌∷◌, ◌++◌, Memᴰ as In}
use Prim.Native.Nat.{ℕ, zero, suc, ◌+◌, ◌*◌}
use native.Mathlib.Nat.{add-zero, zero-add, suc-add, mul-zero, mul_assoc}
use native.Mathlib.Omega.{arith}
use lib.ListN.{length, take, drop, length-append}
use lib.Seq.{take_at, drop_at}
use Rattle.model.specs.Bytes.{row_at}
use Rattle.model.specs.Steps.{Row, Triple, Deal}
use Rattle.model.specs.Sheet.{Header, mask_bits, inputs_at, implied_length, row_count, input_in, deal_in, deal_rows, rows_at, masks_from, triples_from, mask_rows, triple_rows}

-- two lists of the same length, before two others
halves : {A : Type 0} (a b c d : List A) → length a ≡ length b → a ++ c ≡ b ++ d → (a ≡ b) × (c ≡ d)
halves a b c d l e = (
  sym (take_at a c (length b) l) ∙ ap (take (length b)) e ∙ take_at b d (length b) refl,
  sym (drop_at a c (length b) l) ∙ ap (drop (length b)) e ∙ drop_at b d (length b) refl,
)

-- every mask has l rows
abbrev pub Masks : ℕ → List (List Row) → Type 0
Masks l ms = (m : List Row) → In m ms → length m ≡ l

length_masks : (l : ℕ) (ms : List (List Row)) → Masks l ms → length (mask_rows ms) ≡ l * length ms
unfolding mask_rows
length_masks l [] k = sym (mul-zero l)
length_masks l (m ∷ ms) k = rw (length-append, k m (here refl), length_masks l ms (λ x i. k x (there i))) (omega arith)

length_triples : (xs : List Triple) → length (triple_rows xs) ≡ 3 * length xs
unfolding triple_rows
length_triples [] = refl
length_triples (x ∷ xs) = rw (length_triples xs) (omega arith)

masks_same : (l : ℕ) (ms ns : List (List Row)) → Masks l ms → Masks l ns → length ms ≡ length ns → mask_rows ms ≡ mask_rows ns → ms ≡ ns
unfolding mask_rows
masks_same l [] [] k j e r = refl
masks_same l [] (n ∷ ns) k j e r = absurd (omega arith)
masks_same l (m ∷ ms) [] k j e r = absurd (omega arith)
masks_same l (m ∷ ms) (n ∷ ns) k j e r =
    let both = halves m n (mask_rows ms) (mask_rows ns) (k m (here refl) ∙ sym (j n (here refl))) r in
    ap₂ ◌∷◌ both.0 (masks_same l ms ns (λ x i. k x (there i)) (λ x i. j x (there i)) (omega arith) both.1)

triples_same : (xs ys : List Triple) → length xs ≡ length ys → triple_rows xs ≡ triple_rows ys → xs ≡ ys
unfolding triple_rows
triples_same [] [] e r = refl
triples_same [] (y ∷ ys) e r = absurd (omega arith)
triples_same (x ∷ xs) [] e r = absurd (omega arith)
triples_same (x ∷ xs) (y ∷ ys) e r =
    let p : x.a ≡ y.a = cc in
    let q : x.b ≡ y.b = cc in
    let o : x.c ≡ y.c = cc in
    ap₂ ◌∷◌ (λ i. record { a = p i; b = q i; c = o i }) (triples_same xs ys (omega arith) (cc))

module _ (s : List ℕ) (n : ℕ) where
  pub length_at : (i c : ℕ) → length (rows_at s n i c) ≡ c
  unfolding rows_at
  length_at i zero = refl
  length_at i (suc c) = ap suc (length_at (i + 4 * n) c)

  pub rows_add : (i a b : ℕ) → rows_at s n i (a + b) ≡ rows_at s n i a ++ rows_at s n (i + 4 * n * a) b
  unfolding rows_at
  rows_add i zero b = rw (zero-add, mul-zero, add-zero)
  rows_add i (suc a) b =
      let e : i + 4 * n * suc a ≡ i + 4 * n + 4 * n * a = omega arith in
      rw (suc-add, e) (ap (λ (l : List Row). row_at s n i ∷ l) (rows_add (i + 4 * n) a b))

  length_masks_from : (l i c : ℕ) → length (masks_from s n l i c) ≡ c
  unfolding masks_from
  length_masks_from l i zero = refl
  length_masks_from l i (suc c) = ap suc (length_masks_from l (i + 4 * n * l) c)

  length_triples_from : (i c : ℕ) → length (triples_from s n i c) ≡ c
  unfolding triples_from
  length_triples_from i zero = refl
  length_triples_from i (suc c) = ap suc (length_triples_from (i + 4 * n * 3) c)

  masks_from_lem : (l i c : ℕ) → Masks l (masks_from s n l i c)
  unfolding masks_from
  masks_from_lem l i (suc c) m (here e) = ap length e ∙ length_at i l
  masks_from_lem l i (suc c) m (there h) = masks_from_lem l (i + 4 * n * l) c m h
  masks_from_lem l i zero m x' = elim x' [ ]

  mask_rows_lem : (l i c : ℕ) → mask_rows (masks_from s n l i c) ≡ rows_at s n i (l * c)
  unfolding masks_from mask_rows rows_at
  mask_rows_lem l i zero = rw mul-zero
  mask_rows_lem l i (suc c) =
      let e : l * suc c ≡ l + l * c = omega arith in
      rw (mask_rows_lem l (i + 4 * n * l) c, e, rows_add i l (l * c))

  triple_rows_lem : (i c : ℕ) → triple_rows (triples_from s n i c) ≡ rows_at s n i (3 * c)
  unfolding triples_from triple_rows rows_at
  triple_rows_lem i zero = refl
  triple_rows_lem i (suc c) =
      let e : 3 * suc c ≡ 3 + 3 * c = omega arith in
      let two : i + 4 * n * 2 ≡ i + 4 * n + 4 * n = omega arith in
      rw (triple_rows_lem (i + 4 * n * 3) c, e, rows_add i 3 (3 * c), two)

-- the length that a header implies, by its rows
pub implied : (h : Header) → implied_length h ≡ inputs_at h + 4 * h.n * row_count h
unfolding implied_length
implied h = omega arith

-- input and deal that stand from place i on, in rows of n shares, and all their rows
module _ (h : Header) (s : List ℕ) (n i : ℕ) where
  abbrev pub deal_from : Deal
  deal_from =
      record {
        masks = masks_from s n (mask_bits h) (i + 4 * n * h.inputs) h.masks;
        triples = triples_from s n (i + 4 * n * h.inputs + 4 * n * mask_bits h * h.masks) h.triples;
      }

  pub rows_from : rows_at s n i h.inputs ++ deal_rows deal_from ≡ rows_at s n i (row_count h)
  rows_from = rw (mask_rows_lem, triple_rows_lem, mul_assoc (4 * n) (mask_bits h) h.masks, ← rows_add, ← rows_add)

-- of a sheet: all rows, in the sheet's order
pub all_rows : (h : Header) (s : List ℕ) → input_in h s ++ deal_rows (deal_in h s) ≡ rows_at s h.n (inputs_at h) (row_count h)
unfolding input_in deal_in
all_rows h s = rows_from h s h.n (inputs_at h)

-- input and deal as long as a header says
pub record Shape (h : Header) (input : List Row) (d : Deal) : Type 0 where
  pub inputs : length input ≡ h.inputs
  pub masks : length d.masks ≡ h.masks
  pub triples : length d.triples ≡ h.triples
  pub each : Masks (mask_bits h) d.masks

pub shape_from : (h : Header) (s : List ℕ) (n i : ℕ) → Shape h (rows_at s n i h.inputs) (deal_from h s n i)
shape_from h s n i =
    record { inputs = length_at s n _ _; masks = length_masks_from s n _ _ _; triples = length_triples_from s n _ _; each = masks_from_lem s n _ _ _ }

pub shape_in : (h : Header) (s : List ℕ) → Shape h (input_in h s) (deal_in h s)
unfolding input_in deal_in
shape_in h s = shape_from h s h.n (inputs_at h)

pub length_all : {h : Header} {xs : List Row} {d : Deal} → Shape h xs d → length (xs ++ deal_rows d) ≡ row_count h
length_all {h} {xs} {d} S =
    rw (length-append, length-append, length_masks (mask_bits h) d.masks S.each, length_triples, S.inputs, S.masks, S.triples)

-- they are given by their rows
pub same : {h : Header} {xs ys : List Row} {d e : Deal} → Shape h xs d → Shape h ys e → xs ++ deal_rows d ≡ ys ++ deal_rows e → (xs ≡ ys) × (d ≡ e)
same {h} {xs} {ys} {d} {e} S Z r =
    let l = mask_bits h in
    let one = halves xs ys _ _ (S.inputs ∙ sym Z.inputs) r in
    let k = length_masks l d.masks S.each ∙ ap (λ (c : ℕ). l * c) (S.masks ∙ sym Z.masks) ∙ sym (length_masks l e.masks Z.each) in
    let two = halves (mask_rows d.masks) (mask_rows e.masks) _ _ k one.1 in
    let m = masks_same l d.masks e.masks S.each Z.each (S.masks ∙ sym Z.masks) two.0 in
    let t = triples_same d.triples e.triples (S.triples ∙ sym Z.triples) two.1 in
    (one.0, λ i. record { masks = m i; triples = t i })
