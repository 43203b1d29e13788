-- Shares copied one after the other, in whichever order: those that were copied stay so, until all are.
-- Assumes nothing.
use mathlib.Core.Path.{◌≡◌, refl, sym, ◌∙◌}
use mathlib.Core.Logic.{◌⊎◌, inl, inr, ⊎_elim}
use mathlib.Core.List.{List}
use Prim.Native.Nat.{ℕ, zero, suc, ◌+◌, ◌*◌, ◌≤◌, ◌<◌}
use native.Mathlib.Nat.{le-suc_iff}
use native.Mathlib.Omega.{arith}
use lib.ListN.{length, take, drop}
use Rattle.algebra.specs.Lists.{onto_at}
use Rattle.algebra.proofs.Lists.{length_onto_at, take_onto_at, drop_past}
use Rattle.model.proofs.Transposing.{length_share}
use Rattle.column_form.specs.Grids.{place_in, further_on, Fits, Spaced, column_copied, rows_copied, Partly}
use Rattle.column_form.specs.declared.grid.Grid.{Grid}
use Rattle.column_form.proofs.Places.{within, Order, below, same, above, order, Apart, at_once, before, behind, apart, written_here, written_behind, written_before}

module _ (s : List ℕ) (F G : Grid) (rows parties : ℕ) (xs : List ℕ) where
  abbrev After : (ℕ → ℕ → Type 0) → List ℕ → Type 0
  After Done c = Partly s F G rows parties Done xs c

  module _ (reads : Fits F rows parties (length s)) (writes : Fits G rows parties (length s)) (spaced : Spaced G rows parties) (room : length s ≤ length xs) where
    -- one share more
    module _ {Done : ℕ → ℕ → Type 0} {c : List ℕ} (P : After Done c) (i j : ℕ) (hi : i < rows) (hj : j < parties) where
      share : List ℕ
      share = take 4 (drop (place_in F i j) s)

      four : length share ≡ 4
      unfolding share
      four = length_share s (place_in F i j) (within reads i j hi hj)

      long : place_in G i j + 4 ≤ length c
      long = omega (arith, within writes i j hi hj, P.same_length)

      -- row i' of party j' is at its place now
      abbrev There : ℕ → ℕ → Type 0
      There i' j' = take 4 (drop (place_in G i' j') (onto_at (place_in G i j) share c)) ≡ take 4 (drop (place_in F i' j') s)

      put_there : (i' j' : ℕ) → i' ≡ i → j' ≡ j → There i' j'
      unfolding share
      put_there i' j' e q = rw (e, q) (written_here share c (place_in G i j) (place_in G i j) four refl (omega (arith, long)))

      still_there : (i' j' : ℕ) → take 4 (drop (place_in G i' j') c) ≡ take 4 (drop (place_in F i' j') s) → Apart G i j i' j' → There i' j'
      still_there i' j' d (at_once e q) = put_there i' j' (sym e) (sym q)
      still_there i' j' d (before h) = written_before share c (place_in G i j) (place_in G i' j') four h (omega (arith, long)) ∙ d
      still_there i' j' d (behind h) = written_behind share c (place_in G i j) (place_in G i' j') four h (omega (arith, long)) ∙ d

      share_more : After (λ i' j'. Done i' j' ⊎ ((i' ≡ i) × (j' ≡ j))) (onto_at (place_in G i j) share c)
      share_more =
          let e : place_in G i j ≡ G.first + (G.down * i + G.across * j) = omega arith in
          record {
            same_length = length_onto_at (place_in G i j) share c (omega (arith, long, four)) ∙ P.same_length;
            head = rw e (take_onto_at G.first _ share c (omega (arith, long))) ∙ P.head;
            tail = drop_past (length s) (place_in G i j) share c (omega (arith, four, within writes i j hi hj)) (omega (arith, long)) ∙ P.tail;
            shares = λ i' j' a b d.
                ⊎_elim (λ x. still_there i' j' (P.shares i' j' a b x) (apart G i j i' j' hi hj a b spaced)) (λ x. put_there i' j' x.0 x.1) d;
          }

    -- fewer of them
    fewer : {Done Done' : ℕ → ℕ → Type 0} {c : List ℕ} → ((i j : ℕ) → j < parties → Done' i j → Done i j) → After Done c → After Done' c
    fewer k P = record { same_length = P.same_length; head = P.head; tail = P.tail; shares = λ i j hi hj d. P.shares i j hi hj (k i j hj d) }

    -- k rows of party j, from row b on
    column_more : {Done : ℕ → ℕ → Type 0} {c : List ℕ} (b j k : ℕ) → b + k ≤ rows → j < parties → After Done c
        → After (λ i' j'. Done i' j' ⊎ ((j' ≡ j) × ((b ≤ i') × (i' < b + k))))
        (column_copied s (further_on (F.across * j) (further_on (F.down * b) F)) (further_on (G.across * j) (further_on (G.down * b) G)) k c)
    unfolding column_copied share
    column_more {Done} {c} b j zero h l P = fewer (λ i' j' _ d. ⊎_elim (λ x. x) (λ x. absurd (omega arith)) d) P
    column_more {Done} {c} b j (suc k) h l P =
        let e : place_in (further_on (F.across * j) (further_on (F.down * b) F)) k 0 ≡ place_in F (b + k) j = omega arith in
        let q : place_in (further_on (G.across * j) (further_on (G.down * b) G)) k 0 ≡ place_in G (b + k) j = omega arith in
        rw (e, q) (fewer (λ i' j' _ d. last i' j' d) (share_more (column_more b j k (omega arith) l P) (b + k) j (omega arith) l))
      where
        last : (i' j' : ℕ) → Done i' j' ⊎ ((j' ≡ j) × ((b ≤ i') × (i' < b + suc k)))
            → (Done i' j' ⊎ ((j' ≡ j) × ((b ≤ i') × (i' < b + k)))) ⊎ ((i' ≡ b + k) × (j' ≡ j))
        last i' j' (inl d) = inl (inl d)
        last i' j' (inr (e, (m, n))) = ⊎_elim (λ a. inl (inr (e, (m, omega arith)))) (λ a. inr (omega arith, e)) ((le-suc_iff {m = suc i'} {n = b + k}).0 (omega arith))

    -- k rows of n parties, from row b on
    rows_more : {Done : ℕ → ℕ → Type 0} {c : List ℕ} (b k n : ℕ) → b + k ≤ rows → n ≤ parties → After Done c
        → After (λ i' j'. Done i' j' ⊎ ((j' < n) × ((b ≤ i') × (i' < b + k)))) (rows_copied s (further_on (F.down * b) F) (further_on (G.down * b) G) k n c)
    unfolding rows_copied
    rows_more b k zero h l P = fewer (λ i' j' _ d. ⊎_elim (λ x. x) (λ x. absurd (omega arith)) d) P
    rows_more {Done} b k (suc n) h l P = fewer (λ i' j' _ d. last i' j' d) (column_more b n k h (omega arith) (rows_more b k n h (omega arith) P))
      where
        last : (i' j' : ℕ) → Done i' j' ⊎ ((j' < suc n) × ((b ≤ i') × (i' < b + k)))
            → (Done i' j' ⊎ ((j' < n) × ((b ≤ i') × (i' < b + k)))) ⊎ ((j' ≡ n) × ((b ≤ i') × (i' < b + k)))
        last i' j' (inl d) = inl (inl d)
        last i' j' (inr (l, m)) = ⊎_elim (λ a. inl (inr (a, m))) (λ a. inr (omega arith, m)) ((le-suc_iff {m = suc j'} {n = n}).0 (omega arith))

    -- k rows more, where those before row b are done
    pub block_more : {c : List ℕ} (b k : ℕ) → b + k ≤ rows → After (λ i j. i < b) c
        → After (λ i j. i < b + k) (rows_copied s (further_on (F.down * b) F) (further_on (G.down * b) G) k parties c)
    block_more b k h P = fewer (λ i j l d. split i j l d (order i b)) (rows_more b k parties h (omega arith) P)
      where
        split : (i j : ℕ) → j < parties → i < b + k → Order i b → (i < b) ⊎ ((j < parties) × ((b ≤ i) × (i < b + k)))
        split i j l d (below e) = inl e
        split i j l d (same e) = inr (l, (omega arith, d))
        split i j l d (above e) = inr (l, (omega arith, d))

  pub none_copied : After (λ i j. i < 0) xs
  none_copied = record { same_length = refl; head = refl; tail = refl; shares = λ i j hi hj d. absurd (omega arith) }
