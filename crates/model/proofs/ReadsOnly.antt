-- Of the registers, a command looks at none but those that its cost says it reads.
-- Assumes nothing.
use mathlib.Core.Path.{◌≡◌, refl, sym, ◌∙◌}
use mathlib.Core.Logic.{◌⊎◌, inl, inr}
use mathlib.Core.List.Memᴰ
use mathlib.Core.List.Memᴰ.{head as here}
use mathlib.Core.List.Memᴰ.{tail as there}
use mathlib.Core.List.{List, ◌∷◌, Memᴰ as In}
use Prim.Native.Nat.{ℕ, ◌<◌}
use native.Mathlib.Decide.{ℕ_discrete}
use lib.ListN.{length, get_or, set, length-set}
use lib.Seq.{get_or-set_same, get_or-set_other}
use Rattle.model.specs.Deal.{Setting, Row, Deal, no_row}
use Rattle.model.specs.Trees.{Tree, done}
use Rattle.model.specs.Steps.{after, by_rows}
use Rattle.model.specs.Script.{Command}
use Rattle.model.specs.Results.{target}
use Rattle.model.specs.ReadsOnly.{SameWork, ReadsOnly}
use Rattle.model.proofs.Pairs.{p_last, Ends, ends, Wrote, kept, puts}
use Rattle.model.proofs.Reaching.{same_command}

set_here : (d : ℕ) (g : List Row) (x : Row) (r : ℕ) → r ≡ d → r < length g → get_or (set g d x) r no_row ≡ x
set_here d g x r e h = rw e (get_or-set_same g d x no_row (rw e at h))

-- as many registers as before
length_wrote : {g g' w w' : List Row} {ds : List ℕ} → Wrote ◌≡◌ g g' ds w w' → (length w ≡ length g) × (length w' ≡ length g')
length_wrote kept = (refl, refl)
length_wrote {g} {g'} (puts {d = d} e W) = let l = length_wrote W in (l.0 ∙ length-set g d _, l.1 ∙ length-set g' d _)

-- both ends have the same in the registers that were written, and in those where the same stood
wrote_there : {g g' w w' : List Row} {ds : List ℕ} → Wrote ◌≡◌ g g' ds w w' → (r : ℕ) → In r ds ⊎ (get_or g r no_row ≡ get_or g' r no_row) → r < length w → r < length w'
    → get_or w r no_row ≡ get_or w' r no_row
wrote_there kept r (inl i) h h' = absurd (Memᴰ.not-nil i)
wrote_there kept r (inr e) h h' = e
wrote_there {g} {g'} (puts {d = d} {ds = ds} {z} {z'} e W) r i h h' = wrote_there W r (so (ℕ_discrete r d) i) h h'
  where
    so : Dec (r ≡ d) → In r (d ∷ ds) ⊎ (get_or g r no_row ≡ get_or g' r no_row) → In r ds ⊎ (get_or (set g d z) r no_row ≡ get_or (set g' d z') r no_row)
    so (yes q) x =
        let l = length_wrote W in
        inr (set_here d g z r q (rw (l.0 ∙ length-set g d z) at h) ∙ e ∙ sym (set_here d g' z' r q (rw (l.1 ∙ length-set g' d z') at h')))
    so (no q) (inl (here e)) = absurd (q e)
    so (no q) (inl (there i)) = inl i
    so (no q) (inr e) = inr (get_or-set_other g d r z no_row q ∙ e ∙ sym (get_or-set_other g' d r z' no_row q))

same_work : (S : Setting) (c : Command) {g g' : List Row} {T T' : Tree Row (List Row)} → Ends (Wrote ◌≡◌ g g' (target c)) T T'
    → (os : List Row) (vs : List ℕ) (d : Deal) → SameWork c (after os vs (by_rows S T d)) (after os vs (by_rows S T' d))
unfolding by_rows
same_work S c (ends W) os vs d = record { opened = refl; shown = refl; deal = refl; written = λ r i h h'. wrote_there W r (inl i) h h' }

pub reads_only : ReadsOnly
reads_only S input j c g g' d reads =
    let R = same_command S {R = Ends (Wrote ◌≡◌ g g' (target c))} input j c g g' done done reads (λ w w' W. p_last (ends W)) d in
    rw (R.one, R.other) (same_work S c R.related R.opened R.shown R.deal)
