-- Demand 3 over rows, which the claim about sheets rests on: a deal's image is the one on which the second input's run opens what the first input's run
-- opens on the deal, and exchanging the inputs undoes it.
-- Assumes nothing.
use mathlib.Core.Path.{◌≡◌, refl, sym, ◌∙◌}
use mathlib.Core.List.{List}
use Prim.Native.Nat.{ℕ, ◌≤◌}
use native.Mathlib.Omega.{arith}
use lib.ListN.{replicate}
use Rattle.algebra.specs.Lists.{All}
use Rattle.model.specs.Fields.{Field, Parties}
use Rattle.model.specs.Sharing.{Sharing}
use Rattle.model.specs.Shamir.{Group, Agree}
use Rattle.model.specs.Deal.{Setting, Row, Deal, no_row}
use Rattle.model.specs.Trees.{Tree}
use Rattle.model.specs.Trees as Trees
use Rattle.model.specs.Steps.{row_ops}
use Rattle.model.specs.Script.{Line}
use Rattle.model.specs.Counts.{Counts}
use Rattle.model.specs.Costs.{mod_triples}
use Rattle.model.specs.Checks.{Supply, pay}
use Rattle.model.specs.Commands.{Ended}
use Rattle.model.specs.Sheet.{deal_rows}
use Rattle.model.specs.Run.{Stop, row_lines, nothing_spent, start, run_lines}
use Rattle.model.specs.Secrecy.{Alike}
use Rattle.model.proofs.Each.{each_replicate}
use Rattle.model.proofs.Shared.{Shared, shared_none, shareds_secrets}
use Rattle.model.proofs.Determined.{Determined}
use Rattle.model.proofs.Masked.{whole_field, remainder_determined}
use Rattle.model.proofs.Checks.{check_passed, tally, tally_fits}
use Rattle.model.proofs.Courses.{TreeCourse, lines_course}
use Rattle.model.proofs.Running.{ran}
use Rattle.model.proofs.Held.{Formed}
use Rattle.model.proofs.Acceptance.{InRange}
use Rattle.model.proofs.Pairs.{Paired, Ends, PairedEnds, paired_comparison, paired_remainder, paired_lines}
use Rattle.model.proofs.Agreeing.{agree_refl, alike_sym, alike_append, alike_each, each_alike, agree_keep}
use Rattle.model.proofs.Partners.{SameOpened, whole_space, all_linked}
use Rattle.model.proofs.Image.{mapped, Image, image}

-- two stops that the set cannot tell apart
pub record SameStop (set : List ℕ) (x y : Stop) : Type 0 where
  pub number : x.number ≡ y.number
  pub place : x.place ≡ y.place
  pub spent : x.state.spent ≡ y.state.spent
  pub opened : x.state.opened ≡ y.state.opened
  pub shown : x.state.shown ≡ y.state.shown
  pub columns : Alike set x.state.registers y.state.registers

-- the map of deals, and the map that undoes it
pub record Veiled (S : Setting) (u : Supply) (end : ℕ) (xs : List Line) (set : List ℕ) (input input' : List Row) : Type 0 where
  pub to : Deal → Deal
  pub from : Deal → Deal
  pub to_formed : (d : Deal) → Formed S u d → Formed S u (to d)
  pub from_formed : (d : Deal) → Formed S u d → Formed S u (from d)
  pub from_to : (d : Deal) → Formed S u d → from (to d) ≡ d
  pub to_from : (d : Deal) → Formed S u d → to (from d) ≡ d
  pub keeps : (d : Deal) → Formed S u d → Alike set (deal_rows d) (deal_rows (to d))
  pub same : (d : Deal) → Formed S u d → SameStop set (run_lines S u input end xs (start d)) (run_lines S u input' end xs (start (to d)))

module _ (S : Setting) {K : ℕ} (F : Field S.p S.l K) (P : Parties S.n S.t) (u : Supply) (end : ℕ) (xs : List Line) (ok : All (InRange S.p K) xs) where
  -- the tree of the whole script on an input, and its course
  abbrev tree : List Row → Tree Row (Ended Row)
  tree input = row_lines S u input end xs nothing_spent (replicate 64 no_row)

  abbrev spends : (Counts → ℕ) → ℕ
  spends f = tally (mod_triples S.l) u f xs nothing_spent

  Z : Shared S 0 no_row
  Z = shared_none S F.modulus_is P

  module _ {input : List Row} (I : All (Sharing S.p S.n S.t) input) where
    course : TreeCourse S S.p (replicate 64 0) (spends (λ c. c.masks)) (spends (λ c. c.triples)) (row_lines S u input end xs nothing_spent)
    course = lines_course S F.modulus_is P Z (Trees.remainder S.p (row_ops S)) (remainder_determined S F P) u (shareds_secrets I) end ok nothing_spent (replicate 64 0)

    determined : Determined S S.p (λ e. Unit {0}) course.numbers (spends (λ c. c.triples)) course.shown (tree input)
    determined = course.determined (replicate 64 no_row) (each_replicate 64 0 no_row Z)

  -- what the finished commands spend is supplied
  enough_masks : spends (λ c. c.masks) ≤ u.masks
  unfolding nothing_spent pay
  enough_masks =
      omega (arith, tally_fits (mod_triples S.l) u (λ c. c.masks) u.masks (λ x y. refl) (λ c s e. (check_passed u c s e).masks) xs nothing_spent (omega arith))

  enough_triples : spends (λ c. c.triples) ≤ u.triples
  unfolding nothing_spent pay
  enough_triples =
      omega (arith, tally_fits (mod_triples S.l) u (λ c. c.triples) u.triples (λ x y. refl) (λ c s e. (check_passed u c s e).triples) xs nothing_spent (omega arith))

  -- what a run reveals does not depend on the deal
  shows : {input : List Row} (I : All (Sharing S.p S.n S.t) input) (d : Deal) → Formed S u d
      → (run_lines S u input end xs (start d)).state.shown ≡ (course I).shown
  unfolding run_lines start
  shows I d W =
      (ran S (whole_field F) P (determined I) W.masks_ok (omega (arith, (course I).many, enough_masks, W.masks_many)) W.triples_ok
      (omega (arith, enough_triples, W.triples_many))).shown

  module _ {set : List ℕ} (G : Group S.n S.t set) where
    -- the trees of two inputs that agree in the set's columns are in pairs
    pairs : (input input' : List Row) → Alike set input input' → Paired (Agree set) (Ends (PairedEnds (Agree set))) (tree input) (tree input')
    pairs input input' al =
        let K = agree_keep S G in
        paired_lines S.p K (agree_refl no_row) (Trees.remainder S.p (row_ops S)) (Trees.remainder S.p (row_ops S)) (paired_remainder S.p K (paired_comparison S.p K)) (mod_triples S.l) u (alike_each al) end xs nothing_spent
        (each_replicate 64 no_row no_row (agree_refl no_row))

    abbrev Imaged : {input input' : List Row} → All (Sharing S.p S.n S.t) input → All (Sharing S.p S.n S.t) input' → Deal → Deal → Type 0
    Imaged {input} {input'} I I' d e =
        Image S S.p (SameOpened S.p) set (PairedEnds (Agree set)) (course I).numbers (course I').numbers (tree input) (tree input') d e

    module _ {input input' : List Row} (I : All (Sharing S.p S.n S.t) input) (I' : All (Sharing S.p S.n S.t) input') where
      imaged : Alike set input input' → (course I).shown ≡ (course I').shown → (d : Deal) → Formed S u d → Imaged I I' d (mapped S set (tree input) (tree input') d)
      imaged al e d W =
          image S (whole_space F) P G (pairs input input' al) (determined I) (determined I') e d W.masks_ok W.triples_ok
          (omega (arith, enough_triples, W.triples_many))
          (all_linked S F.modulus_is (course I).numbers (course I').numbers d.masks ((course I).many ∙ sym (course I').many)
          (omega (arith, (course I).many, enough_masks, W.masks_many)))

      formed : {d e : Deal} → Formed S u d → Imaged I I' d e → Formed S u e
      formed W J =
          record {
            masks_ok = J.masks.ok;
            masks_many = J.masks.many ∙ W.masks_many;
            triples_ok = J.triples.ok;
            triples_many = J.triples.many ∙ W.triples_many;
          }

      same_stop : (d e : Deal) → Imaged I I' d e → SameStop set (run_lines S u input end xs (start d)) (run_lines S u input' end xs (start e))
      unfolding run_lines start
      same_stop d e J =
          record {
            number = J.left.number;
            place = J.left.place;
            spent = J.left.spent;
            opened = J.opened;
            shown = J.shown;
            columns = each_alike J.left.registers;
          }

    -- two inputs whose runs on two well-formed deals reveal the same
    pub veiled : {input input' : List Row} → All (Sharing S.p S.n S.t) input → All (Sharing S.p S.n S.t) input' → Alike set input input'
        → (d d' : Deal) → Formed S u d → Formed S u d'
        → (run_lines S u input end xs (start d)).state.shown ≡ (run_lines S u input' end xs (start d')).state.shown
        → Veiled S u end xs set input input'
    veiled {input} {input'} I I' al d d' W W' shown =
        let e : (course I).shown ≡ (course I').shown = sym (shows I d W) ∙ shown ∙ shows I' d' W' in
        let there = imaged I I' al e in
        let back = imaged I' I (alike_sym al) (sym e) in
        record {
          to = mapped S set (tree input) (tree input');
          from = mapped S set (tree input') (tree input);
          to_formed = λ q R. formed I I' R (there q R);
          from_formed = λ q R. formed I' I R (back q R);
          from_to = λ q R. (there q R).back;
          to_from = λ q R. (back q R).back;
          keeps = λ q R. alike_append (there q R).masks.kept (there q R).triples.kept;
          same = λ q R. same_stop I I' q _ (there q R);
        }
