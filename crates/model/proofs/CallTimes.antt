-- A field's value as a time, and the values of a line's fields as a call, against `Spells` and `Lasted`.
-- Assumes nothing.
use mathlib.Core.Path.{◌≡◌, refl, sym, ap, subst, ◌∙◌}
use mathlib.Core.Logic.{◌↔◌, ◌≢◌}
use mathlib.Core.Bool.{Bool, ◌&&◌}
use mathlib.Core.List.{List, [], ◌∷◌}
use Prim.Native.Nat.{ℕ, ◌≤◌}
use native.Mathlib.Omega.{arith}
use borrow.Author.Tests.{leb-true, leb-false}
use lib.Dec.{T, leb, leb→le, le→leb}
use lib.ListN.{length}
use Rattle.algebra.proofs.Tests.{and_left, and_right, and_both, choice}
use Rattle.model.specs.Calls.{Time, absent, second, malformed, all_digits, decimal_from, time, Call, lasted, wrong, lasting, with_time, call}
use Rattle.model.specs.CallLists.{Spells, Lasted, picked_up, nobody}
use Rattle.model.proofs.CallBytes.{between}
use Rattle.model.proofs.CallDigits.{digits_are, number_is, decimal}

-- a text with a spelling is not empty, and spells one number
spells_some : {x : ℕ} → Spells [] x → ⊥
spells_some S = omega arith

same_number : {s : List ℕ} {x y : ℕ} → Spells s x → Spells s y → x ≡ y
same_number S S' = number_is S.decimal ∙ sym (number_is S'.decimal)

-- the test of a time
abbrev is_time : List ℕ → Bool
is_time s = leb (length s) 7 && all_digits s

spelling : (s : List ℕ) → 1 ≤ length s → T (is_time s) → Spells s (decimal_from 0 s)
spelling s h t =
    record {
      one = h;
      seven = leb→le (length s) 7 (and_left (leb (length s) 7) (all_digits s) t);
      decimal = decimal s (and_right (leb (length s) 7) (all_digits s) t);
    }

is_time_lem : {s : List ℕ} {x : ℕ} → Spells s x → T (is_time s)
is_time_lem {s} S = and_both (leb (length s) 7) (all_digits s) (le→leb (length s) 7 S.seven) (digits_are S.decimal)

-- what each time says of its field
abbrev Says : List ℕ → Time → Type 0
Says s absent = s ≡ []
Says s (second x) = Spells s x
Says s malformed = (s ≢ []) × ((x : ℕ) → Spells s x → ⊥)

times : (s : List ℕ) → Says s (time s)
unfolding time
times [] = refl
times (b ∷ s) =
    choice (Says (b ∷ s)) (is_time (b ∷ s)) (λ e. spelling (b ∷ s) (omega arith) (rw e tt))
    (λ e. (λ q. omega (arith, ap length q), λ x S. subst T e (is_time_lem S)))

pub times_exact : (s : List ℕ) (x : ℕ) → (time s ≡ second x) ↔ Spells s x
times_exact s x = (λ e. subst (Says s) e (times s), found_in (time s) (times s))
  where
    found_in : (t : Time) → Says s t → Spells s x → t ≡ second x
    found_in absent e S = absurd (spells_some (rw e at S))
    found_in (second y) S' S = ap second (same_number S' S)
    found_in malformed n S = absurd (n.1 x S)

-- of a field that must be a time: what holds of a call with each time, and without one, holds of the call
with_time_lem : (P : Call → Type 0) (s : List ℕ) (f : ℕ → Call) (t : Time) → Says s t → ((x : ℕ) → Spells s x → P (f x)) → (((x : ℕ) → Spells s x → ⊥) → P wrong)
    → P (with_time t f)
with_time_lem P s f (second x) S k l = k x S
with_time_lem P s f absent e k l = l (λ x S. spells_some (rw e at S))
with_time_lem P s f malformed S k l = l S.1

-- the two times that every call has
both_times : {dialled answered ended : List ℕ} {c : ℕ} → Lasted dialled answered ended c → ((x : ℕ) × Spells dialled x) × ((z : ℕ) × Spells ended z)
both_times (picked_up {x = x} {z = z} D A E h q) = ((x, D), (z, E))
both_times (nobody {x = x} {z = z} D E h) = ((x, D), (z, E))

-- there is no call where the times are in order neither with an answer nor without one
no_call : {dialled answered ended : List ℕ} {x z : ℕ} → Spells dialled x → Spells ended z → ((y : ℕ) → Spells answered y → x ≤ y → y ≤ z → ⊥)
    → (answered ≡ [] → x ≤ z → ⊥) → (c : ℕ) → Lasted dialled answered ended c → ⊥
no_call D E k l c (picked_up {y = y} D' A E' h q) = k y A (omega (arith, same_number D D')) (omega (arith, same_number E E'))
no_call D E k l c (nobody D' E' h) = l refl (omega (arith, same_number D D', same_number E E'))

-- the fields of a line tell at most one call
same_seconds : {dialled answered ended : List ℕ} {c c' : ℕ} → Lasted dialled answered ended c → Lasted dialled answered ended c' → c ≡ c'
same_seconds (picked_up D A E h q) (picked_up D' A' E' h' q') = omega (arith, same_number A A', same_number E E')
same_seconds (picked_up D A E h q) (nobody D' E' h') = absurd (spells_some A)
same_seconds (nobody D E h) (picked_up D' A' E' h' q') = absurd (spells_some A')
same_seconds (nobody D E h) (nobody D' E' h') = refl

module _ (dialled answered ended : List ℕ) where
  -- what a call says of its line's fields
  abbrev pub Tells : Call → Type 0
  Tells (lasted c) = Lasted dialled answered ended c
  Tells wrong = (c : ℕ) → Lasted dialled answered ended c → ⊥

  -- by the times of dialling and of the end, and what the answered field says
  tells_lasting : {x z : ℕ} → Spells dialled x → Spells ended z → (t : Time) → Says answered t → Tells (lasting x t z)
  unfolding lasting
  tells_lasting {x} {z} D E (second y) A =
      choice Tells (leb x y && leb y z) (λ e. let h = (between x y z).0 (rw e tt) in picked_up D A E h.0 (omega arith))
      (λ e. no_call D E (λ y' A' h k. subst T e ((between x y z).1 (omega (arith, same_number A A')))) (λ q h. spells_some (rw q at A)))
  tells_lasting {x} {z} D E absent A =
      choice Tells (leb x z) (λ e. rw A (nobody D E (leb-true x z e)))
      (λ e. no_call D E (λ y A' h k. spells_some (rw A at A')) (λ q h. omega (arith, leb-false x z e)))
  tells_lasting D E malformed A = no_call D E (λ y A' h k. A.1 y A') (λ q h. A.0 q)

  pub tells : Tells (call dialled answered ended)
  unfolding call
  tells =
      with_time_lem Tells dialled _ (time dialled) (times dialled)
      (λ x D. with_time_lem Tells ended _ (time ended) (times ended) (λ z E. tells_lasting D E (time answered) (times answered)) (λ n c L. n _ (both_times L).1.1))
      (λ n c L. n _ (both_times L).0.1)

  pub calls_exact : (c : ℕ) → (call dialled answered ended ≡ lasted c) ↔ Lasted dialled answered ended c
  calls_exact c = (λ e. subst Tells e tells, found_in (call dialled answered ended) tells)
    where
      found_in : (k : Call) → Tells k → Lasted dialled answered ended c → k ≡ lasted c
      found_in (lasted c') L' L = ap lasted (same_seconds L' L)
      found_in wrong n L = absurd (n c L)

  -- and where there is no call the times are refused
  pub call_wrong : ((c : ℕ) → Lasted dialled answered ended c → ⊥) → call dialled answered ended ≡ wrong
  call_wrong n = found_in (call dialled answered ended) tells
    where
      found_in : (k : Call) → Tells k → k ≡ wrong
      found_in (lasted c) L = absurd (n c L)
      found_in wrong _ = refl
