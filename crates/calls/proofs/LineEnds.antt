-- Where a line ends: at the text's end, or where a line break stands.
-- Assumes nothing.
use Rattle.std.proofs.Common.{Some, None}
use mathlib.Core.Path.{◌≡◌, refl, sym, ap, ◌∙◌}
use mathlib.Core.Bool.{Bool, true, false, ◌&&◌}
use mathlib.Core.List.{List, [], ◌∷◌}
use mathlib.Core.Logic.{◌≢◌}
use Prim.Native.Nat.{ℕ, ◌+◌, ◌≤◌}
use native.Mathlib.Omega.{arith}
use lib.Dec.{eqb}
use lib.ListN.{length, drop, length-drop, drop_of_length-le}
use lib.Seq.{drop-drop}
use Rattle.algebra.proofs.Tests.{true_false}
use Rattle.model.specs.Calls.{CR, LF, is_end}
use Rattle.calls.specs.Meaning.{is_first, EndsAt}

-- at the text's end, and before it by the two bytes that stand there
end_here : (u : List ℕ) → u ≡ [] → is_end u ≡ true
unfolding is_end
end_here u e = rw e refl

two_bytes : (u : List ℕ) → u ≢ [] → is_end u ≡ (is_first CR u && is_first LF (drop 1 u))
unfolding is_end is_first
two_bytes [] h = absurd (h refl)
two_bytes (b ∷ []) h = go (eqb b CR)
  where
    go : (t : Bool) → false ≡ (t && false)
    go true = refl
    go false = refl
two_bytes (b ∷ c ∷ s) h = refl

there : (b : ℕ) (u : List ℕ) → is_first b u ≡ true → 1 ≤ length u
unfolding is_first
there b [] e = absurd (true_false (sym e))
there b (c ∷ u) e = omega arith

module _ (s : List ℕ) (at : ℕ) (h : at ≤ length s) where
  pub ends_text : at ≡ length s → EndsAt s at (Some at)
  ends_text e =
      let d : drop at s ≡ [] = drop_of_length-le s {i = at} (omega arith) in
      (end_here (drop at s) d, rw d refl, h)

  not_empty : at ≢ length s → drop at s ≢ []
  not_empty n e = let l : 1 ≤ length (drop at s) = rw length-drop (omega arith) in omega (arith, l, ap length e)

  next : drop 1 (drop at s) ≡ drop (at + 1) s
  next = drop-drop 1 at s

  pub ends_line : {x y : Bool} → at ≢ length s → x ≡ is_first CR (drop at s) → y ≡ is_first LF (drop (at + 1) s) → x ≡ true → y ≡ true → EndsAt s at (Some (at + 2))
  ends_line n p q e f =
      let k : is_first LF (drop (at + 1) s) ≡ true = sym q ∙ f in
      (two_bytes (drop at s) (not_empty n) ∙ rw (next, ← p, ← q, e, f) refl, sym (drop-drop 2 at s), omega (arith, there LF (drop (at + 1) s) k, length-drop (at + 1) s))

  pub no_cr : {x : Bool} → at ≢ length s → x ≡ is_first CR (drop at s) → x ≡ false → EndsAt s at None
  no_cr n p e = two_bytes (drop at s) (not_empty n) ∙ rw (← p, e) refl

  pub no_lf : {x y : Bool} → at ≢ length s → x ≡ is_first CR (drop at s) → y ≡ is_first LF (drop (at + 1) s) → x ≡ true → y ≡ false → EndsAt s at None
  no_lf n p q e f = two_bytes (drop at s) (not_empty n) ∙ rw (next, ← p, ← q, e, f) refl
