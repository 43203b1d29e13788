-- What `turn_over` and `turn_back` leave: the shares of one grid stand at the places of the other, and no other list has them there.
-- Assumes nothing.
use mathlib.Core.Path.{◌≡◌, sym, ap, ap₂, ◌∙◌}
use mathlib.Core.List.{List, ◌++◌}
use Prim.Native.Nat.{ℕ, ◌+◌, ◌*◌, ◌≤◌, ◌<◌}
use native.Mathlib.Omega.{arith}
use lib.ListN.{length, take, drop, length-drop, take-append-drop}
use lib.Seq.{length-take-le, take_at, take-take, take-append-le, drop-append-le}
use Rattle.algebra.specs.Lists.{onto}
use Rattle.algebra.proofs.Lists.{length_onto, onto_at_start, drop_past}
use Rattle.model.specs.Columns.{transposed, column_form, sheet_form}
use Rattle.model.proofs.Transposing.{transposes, transposed_is}
use Rattle.column_form.specs.Laid.{LaidOut}
use Rattle.column_form.specs.Grids.{place_in, sheet_grid, column_grid, Fits, Spaced, in_a_row, in_a_part, Copied}
use Rattle.column_form.specs.declared.grid.Grid.{Grid}
use Rattle.column_form.specs.declared.layout.Layout.{Layout}
use Rattle.column_form.proofs.Places.{steps_le}

-- the grids of a sheet and of a column form
module _ (s : List ℕ) {room : ℕ} {l : Layout} {G : Grid} (S : LaidOut s room l) where
  pub sheet_fits : G ≡ sheet_grid l.place l.parties → Fits G l.rows l.parties (length s)
  sheet_fits e = rw e (record { last = omega (arith, S.whole); steps = omega (arith, S.most_parties); most = S.most })

  pub column_fits : G ≡ column_grid l.place l.rows → Fits G l.rows l.parties (length s)
  column_fits e = rw e (record { last = omega (arith, S.whole); steps = omega (arith, S.most_rows); most = S.most })

pub sheet_spaced : {G : Grid} {place rows parties : ℕ} → G ≡ sheet_grid place parties → Spaced G rows parties
sheet_spaced e = rw e (in_a_row (omega arith) (omega arith))

pub column_spaced : {G : Grid} {place rows parties : ℕ} → G ≡ column_grid place rows → Spaced G rows parties
column_spaced e = rw e (in_a_part (omega arith) (omega arith))

-- four numbers in a list's front
in_front : (m i : ℕ) (c : List ℕ) → i + 4 ≤ m → m ≤ length c → take 4 (drop i (take m c)) ≡ take 4 (drop i c)
in_front m i c h l =
    let n : length (take m c) ≡ m = length-take-le m c l in
    sym (take-append-le 4 (drop i (take m c)) (drop m c) (rw length-drop (omega arith)))
    ∙ sym (ap (take 4) (drop-append-le i (take m c) (drop m c) (omega arith)))
    ∙ ap (λ (x : List ℕ). take 4 (drop i x)) (take-append-drop m c)

-- c has each share at its place, the bytes of s before the shares, and past them what xs had
module _ (s xs c : List ℕ) (place groups size : ℕ) (whole : length s ≡ place + 4 * size * groups) (room : length s ≤ length c)
    (head : take place c ≡ take place s) (tail : drop (length s) c ≡ drop (length s) xs)
    (shares : (g j : ℕ) → g < groups → j < size → take 4 (drop (place + 4 * (groups * j + g)) c) ≡ take 4 (drop (place + 4 * (size * g + j)) s)) where
  share_within : (g j : ℕ) → g < groups → j < size → place + 4 * (groups * j + g) + 4 ≤ length s
  share_within g j a b = omega (arith, whole, steps_le groups b)

  front_turned : take (length s) c ≡ transposed s place groups size
  front_turned =
      transposed_is s place groups size whole (take (length s) c)
      (record {
        same_length = length-take-le (length s) c room;
        head = take-take place (length s) c (omega (arith, whole)) ∙ head;
        shares = λ g j a b. in_front (length s) _ c (share_within g j a b) room ∙ shares g j a b;
      })

  all_written : c ≡ onto (transposed s place groups size) xs
  unfolding onto
  all_written =
      sym (take-append-drop (length s) c)
      ∙ ap₂ {C = List ℕ} ◌++◌ front_turned (tail ∙ ap (λ (k : ℕ). drop k xs) (sym (transposes s place groups size whole).same_length))

-- header and script were written before
module _ (s xs ys : List ℕ) (place : ℕ) (h : place ≤ length s) (room : length s ≤ length xs) (e : ys ≡ onto (take place s) xs) where
  front_length : length (take place s) ≡ place
  front_length = length-take-le place s h

  ys_length : length ys ≡ length xs
  ys_length = ap length e ∙ length_onto (take place s) xs (omega (arith, front_length))

  ys_head : take place ys ≡ take place s
  unfolding onto
  ys_head = rw e (take_at (take place s) _ place front_length)

  ys_tail : drop (length s) ys ≡ drop (length s) xs
  ys_tail = rw (e, ← onto_at_start) (drop_past (length s) 0 (take place s) xs (omega (arith, front_length)) (omega arith))

-- the shares were copied after that
module _ (s xs ys c : List ℕ) {F G : Grid} {l : Layout} (S : LaidOut s (length xs) l) (e : ys ≡ onto (take l.place s) xs)
    (C : Copied s F G l.rows l.parties ys c) where
  abbrev place : ℕ
  place = l.place

  abbrev rows : ℕ
  rows = l.rows

  abbrev parties : ℕ
  parties = l.parties

  place_within : place ≤ length s
  place_within = omega (arith, S.whole)

  c_room : length s ≤ length c
  c_room = omega (arith, S.fits, C.same_length, ys_length s xs ys place place_within S.fits e)

  c_head : G.first ≡ place → take place c ≡ take place s
  c_head g = (rw g at C.head) ∙ ys_head s xs ys place place_within S.fits e

  c_tail : drop (length s) c ≡ drop (length s) xs
  c_tail = C.tail ∙ ys_tail s xs ys place place_within S.fits e

  -- the places of Transposing
  in_parts : (i j : ℕ) → place_in (column_grid place rows) i j ≡ place + 4 * (rows * j + i)
  in_parts i j = omega arith

  in_rows : (i j : ℕ) → place_in (sheet_grid place parties) i j ≡ place + 4 * (parties * i + j)
  in_rows i j = omega arith

  pub turned_over : F ≡ sheet_grid place parties → G ≡ column_grid place rows → c ≡ onto (column_form s) xs
  unfolding column_form
  turned_over f g =
      all_written s xs c place rows parties S.whole c_room (c_head (ap (λ (x : Grid). x.first) g)) c_tail
      (λ i j a b. rw (← in_parts i j, ← in_rows i j) (rw (f, g) at (C.shares i j a b a)))
      ∙ rw (S.place, S.rows, S.parties)

  pub turned_back : F ≡ column_grid place rows → G ≡ sheet_grid place parties → c ≡ onto (sheet_form s) xs
  unfolding sheet_form
  turned_back f g =
      all_written s xs c place parties rows (omega (arith, S.whole)) c_room (c_head (ap (λ (x : Grid). x.first) g)) c_tail
      (λ j i a b. rw (← in_rows i j, ← in_parts i j) (rw (f, g) at (C.shares i j b a b)))
      ∙ rw (S.place, S.rows, S.parties)
