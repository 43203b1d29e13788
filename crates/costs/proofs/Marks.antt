-- The marks of a span of registers, one after the other: tested, and set.
-- Assumes nothing.
use mathlib.Core.Path.{◌≡◌, refl, sym, ap, ◌∙◌}
use mathlib.Core.Bool.{Bool, true, false, ◌&&◌}
use mathlib.Core.List.{List, [], ◌∷◌, ◌++◌, append_assoc}
use Prim.Native.Nat.{ℕ, zero, suc, ◌+◌, ◌-◌, ◌≤◌, ◌<◌}
use native.Mathlib.Nat.{add-zero}
use native.Mathlib.Omega.{arith}
use lib.ListN.{length, get_or, set, take, drop, replicate, take-append-drop, length-drop, length-set}
use lib.Seq.{drop-cons, drop-drop, length-take-le, take-suc-set}
use borrow.Rule.Slice.PartMut.{put_mid}
use Rattle.std.specs.List.{list_all}
use Rattle.std.proofs.lemmas.List.{drop-set-lt}
use Rattle.algebra.specs.Lists.{from}
use Rattle.model.specs.Checks.{all_set, marked}

-- tested, as the library has it
pub all_listed : (w b : ℕ) (marks : List Bool) → b + w ≤ length marks → list_all (λ x. x) (take w (drop b marks)) ≡ all_set marks (from b w)
unfolding all_set from
all_listed zero b marks h = refl
all_listed (suc w) b marks h =
    let l : b < length marks = omega arith in
    rw (drop-cons marks b false l) (ap (λ x. get_or marks b false && x) (all_listed w (suc b) marks (omega arith)))

pub span_set : (marks : List Bool) (b w : ℕ) → b + w ≤ length marks → list_all (λ x. x) (take (b + w - b) (drop b marks)) ≡ all_set marks (from b w)
span_set marks b w h = let e : b + w - b ≡ w = omega arith in rw e (all_listed w b marks h)

-- set, as what stands before them, so many marks, and what stands after them
filled : (w d : ℕ) (marks : List Bool) → d + w ≤ length marks → take d marks ++ (replicate w true ++ drop (d + w) marks) ≡ marked marks (from d w)
unfolding marked from
filled zero d marks h = rw add-zero (take-append-drop d marks)
filled (suc w) d marks h =
    let e : d + suc w ≡ suc d + w = omega arith in
    rw e
    (sym (append_assoc (take d marks) (true ∷ []) (replicate w true ++ drop (suc d + w) marks))
    ∙ sym (rw (take-suc-set marks d true (omega arith), drop-set-lt (suc d + w) marks d true (omega arith)) refl)
    ∙ filled w (suc d) (set marks d true) (rw length-set (omega arith)))

pub span_marked : (marks : List Bool) (d w : ℕ) → d + w ≤ length marks → {ys : List Bool}
    → ys ≡ replicate (length (take (d + w - d) (drop d marks))) true → put_mid d (d + w - d) marks ys ≡ marked marks (from d w)
span_marked marks d w h q =
    let e : d + w - d ≡ w = omega arith in
    let l : length (take w (drop d marks)) ≡ w = length-take-le w (drop d marks) (rw length-drop (omega arith)) in
    rw (q, e, l, drop-drop w d marks) (filled w d marks h)

pub set_append : (marks : List Bool) (xs ys : List ℕ) → all_set marks (xs ++ ys) ≡ all_set marks xs && all_set marks ys
unfolding all_set
set_append marks [] ys = refl
set_append marks (x ∷ xs) ys = rw (set_append marks xs ys) (assoc (get_or marks x false) _ _)
  where
    assoc : (a b c : Bool) → a && (b && c) ≡ (a && b) && c
    assoc true b c = refl
    assoc false b c = refl
