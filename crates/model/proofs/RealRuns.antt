-- The sheets that demand 3 speaks of are accepted, read as their parts, and consist of bytes.
-- Assumes nothing.
use mathlib.Core.Path.{refl}
use mathlib.Core.List.{List, [], ◌∷◌, ◌++◌}
use Prim.Native.Nat.{ℕ, zero, suc, ◌/◌, ◌<◌}
use native.Mathlib.Nat.{mod-lt}
use native.Mathlib.Omega.{arith}
use lib.ListN.{take, drop}
use Rattle.algebra.specs.Lists.{Below}
use Rattle.algebra.proofs.Lists.{below_nil, below_head, below_tail, below_cons}
use Rattle.model.specs.Steps.{Row, Deal}
use Rattle.model.specs.Sheet.{Header, header_of, header_size, script_in, input_in, deal_in, bytes_of, share_bytes, row_bytes, header_bytes, sheet_of}
use Rattle.model.specs.Making.{Says}
use Rattle.model.specs.Exactness.{Accepted}
use Rattle.model.specs.Secrecy.{WellFormed, made_on}
use Rattle.model.specs.RealRuns.{RealRun, RealRuns}
use Rattle.model.proofs.Fields.{below_four}
use Rattle.model.proofs.Acceptance.{sound}
use Rattle.model.proofs.Making.{making}
use Rattle.model.proofs.MadeSheets.{Facts, says, not_refused, script_read}
use Rattle.model.proofs.Secrecy.{well_formed, facts, own_deal}

-- numbers below a bound, put together and taken apart
below_append : {p : ℕ} (xs ys : List ℕ) → Below p xs → Below p ys → Below p (xs ++ ys)
below_append [] ys a b = b
below_append (x ∷ xs) ys a b = below_cons (below_head a) (below_append xs ys (below_tail a) b)

below_take : {p : ℕ} (n : ℕ) (xs : List ℕ) → Below p xs → Below p (take n xs)
below_take {p} zero xs a = below_nil p
below_take (suc n) [] a = a
below_take (suc n) (x ∷ xs) a = below_cons (below_head a) (below_take n xs (below_tail a))

below_drop : {p : ℕ} (n : ℕ) (xs : List ℕ) → Below p xs → Below p (drop n xs)
below_drop zero xs a = a
below_drop (suc n) [] a = a
below_drop (suc n) (x ∷ xs) a = below_drop n xs (below_tail a)

-- what a sheet is made of is bytes
number_bytes : (w v : ℕ) → Below 256 (bytes_of w v)
unfolding bytes_of
number_bytes zero v = below_nil 256
number_bytes (suc w) v = below_cons (mod-lt v (omega arith)) (number_bytes w (v / 256))

share_bytes_lem : (xs : List ℕ) → Below 256 (share_bytes xs)
unfolding share_bytes
share_bytes_lem [] = below_nil 256
share_bytes_lem (x ∷ xs) = below_append (bytes_of 4 x) (share_bytes xs) (number_bytes 4 x) (share_bytes_lem xs)

row_bytes_lem : (n : ℕ) (xs : List Row) → Below 256 (row_bytes n xs)
unfolding row_bytes
row_bytes_lem n [] = below_nil 256
row_bytes_lem n (x ∷ xs) = below_append (share_bytes (take n x)) (row_bytes n xs) (share_bytes_lem (take n x)) (row_bytes_lem n xs)

header_bytes_lem : (h : Header) → h.field < 256 → h.n < 256 → h.t < 256 → Below 256 (header_bytes h)
unfolding header_bytes
header_bytes_lem h f n t =
    below_cons f
    (below_cons n
    (below_cons t
    (below_append (bytes_of 2 h.inputs) _ (number_bytes 2 h.inputs)
    (below_append (bytes_of 2 h.masks) _ (number_bytes 2 h.masks)
    (below_append (bytes_of 2 h.triples) _ (number_bytes 2 h.triples) (number_bytes 2 h.script))))))

module _ (present : ℕ) (s : List ℕ) (A : Accepted present s) where
  F : Facts present (header_of s) (script_in (header_of s) s) (input_in (header_of s) s) A.lines A.end
  F = facts present s A.lines A.end A.number A.script

  own_formed : WellFormed (header_of s) (deal_in (header_of s) s)
  own_formed = well_formed present (header_of s) 0 0 F.permitted.field (own_deal present s A.lines A.end A.number A.script 0 0)

  made_bytes : (d : Deal) → Below 256 s → Below 256 (made_on s d)
  unfolding sheet_of script_in
  made_bytes d b =
      let h = header_of s in
      let P = F.permitted in
      below_append (header_bytes h) _ (header_bytes_lem h (omega (arith, below_four h.field P.field)) (omega (arith, P.people)) (omega (arith, P.people)))
      (below_append (script_in h s) _ (below_take h.script (drop (header_size h) s) (below_drop (header_size h) s b))
      (below_append (row_bytes h.n (input_in h s)) _ (row_bytes_lem h.n (input_in h s)) (row_bytes_lem h.n _)))

  real : (d : Deal) → WellFormed (header_of s) d → RealRun present s d
  real d W =
      record {
        is_accepted = record { lines = A.lines; end = A.end; number = not_refused F W; script = script_read F W };
        says = says F W;
        bytes = made_bytes d;
      }

  own_says : Says s (header_of s) (script_in (header_of s) s) (input_in (header_of s) s) (deal_in (header_of s) s)
  own_says = record { length_is = (sound present s A.number).size; header_is = refl; script_is = refl; input_is = refl; deal_is = refl }

pub real_runs : RealRuns
real_runs =
    record {
      made = real;
      own_deal = own_formed;
      own_run = λ present s A b. (making.making_undoes s b _ _ _ _ (own_says present s A) (omega (arith, (sound present s A.number).permitted.people))).1;
    }
