-- What stands at a place of a script, by the tests that it passed; and what so holds of a script from each place on.
-- Assumes nothing.
use mathlib.Core.Path.{◌≡◌, refl, sym}
use mathlib.Core.Logic.{◌≢◌}
use mathlib.Core.Bool.{Bool, true, ◌&&◌}
use mathlib.Core.List.{List, [], ◌∷◌}
use Prim.Native.Nat.{ℕ, zero, suc, ◌+◌, ◌≤◌}
use native.Mathlib.Omega.{arith}
use borrow.Author.Tests.{le-ltb, eqb-true}
use lib.Dec.{T, ltb, leb, eqb, leb→le}
use lib.ListN.{length, get_or}
use Rattle.algebra.proofs.Tests.{and_left, and_right, choice}
use Rattle.model.specs.Refusing.{first_failed}
use Rattle.model.specs.Script.{Command, Said, END, does, table, byte_says, said_at, size_at, operands_in, last_byte, tests_at, number_at, Reading, ends, says, refusal, reading, reading_at, Line, Script, accepted, refused, with_line, script_step, script_from}
use Rattle.model.specs.Refusals.{From}
use Rattle.model.proofs.Trying.{numbered, holding, all_hold}

-- END takes a byte, and a command takes two at least
abbrev least : Said → ℕ
least END = 1
least (does c) = 2

enough : List (ℕ × Said) → Bool
enough [] = true
enough (x ∷ xs) = leb (least x.1) x.0 && enough xs

row_takes : (xs : List (ℕ × Said)) → T (enough xs) → (k : ℕ) → least (get_or xs k (1, END)).1 ≤ (get_or xs k (1, END)).0
unfolding enough
row_takes [] t k = omega arith
row_takes (x ∷ xs) t zero = leb→le (least x.1) x.0 (and_left (leb (least x.1) x.0) _ t)
row_takes (x ∷ xs) t (suc k) = row_takes xs (and_right (leb (least x.1) x.0) _ t) k

pub takes_least : (s : List ℕ) (i : ℕ) → least (said_at s i).1 ≤ size_at s i
unfolding byte_says enough
takes_least s i = row_takes (table s i) tt (get_or s i 0)

pub size_some : (s : List ℕ) (i : ℕ) → 1 ≤ size_at s i
size_some s i = go (said_at s i).1 (takes_least s i)
  where
    go : (x : Said) → least x ≤ size_at s i → 1 ≤ size_at s i
    go END h = h
    go (does c) h = omega arith

module _ (p K : ℕ) (s : List ℕ) (i : ℕ) where
  -- past the script's end
  pub missing : length s ≤ i → reading_at p K s i ≡ refusal 10
  unfolding reading_at number_at first_failed
  missing h = rw (le-ltb i (length s) h)

  -- END or a command, and the place after it
  pub record Stands (x : Said) (next : ℕ) : Type 0 where
    pub said_is : (said_at s i).1 ≡ x
    pub next_is : next ≡ i + size_at s i
    pub whole : next ≤ length s
    pub in_range_lem : T (operands_in p K x)

  stands : {x : Said} → number_at p K s i ≡ 0 → (said_at s i).1 ≡ x → Stands x (i + size_at s i)
  unfolding number_at numbered holding
  stands e f =
      let t : (n : ℕ) → T (holding n (tests_at p K s i)) = λ n. all_hold n (tests_at p K s i) tt e in
      record {
        said_is = f;
        next_is = refl;
        whole = leb→le _ _ (and_left (leb (i + size_at s i) (length s)) true (and_right (ltb i (length s)) _ (t 10)));
        in_range_lem = rw (sym f) (and_left (operands_in p K (said_at s i).1) true (t 11));
      }

  -- 9 to 11, or 0
  abbrev Late : ℕ → Type 0
  Late number = number ≢ 0 → From 9 11 number

  number_late : Late (number_at p K s i)
  unfolding number_at first_failed
  number_late =
      choice Late (ltb i (length s))
      (λ _. choice Late (leb (get_or s i 0) last_byte)
      (λ _. choice Late (leb (i + size_at s i) (length s))
      (λ _. choice Late (operands_in p K (said_at s i).1) (λ _ z. absurd (z refl)) (λ _ _. omega arith)) (λ _ _. omega arith)) (λ _ _. omega arith)) (λ _ _. omega arith)

  -- what each reading says
  abbrev Says : Reading → Type 0
  Says (ends next) = Stands END next
  Says (says c next) = Stands (does c) next
  Says (refusal number) = From 9 11 number

  pub read : (r : Reading) → reading_at p K s i ≡ r → Says r
  unfolding reading_at
  read r e = rw (sym e) (go (number_at p K s i) (said_at s i).1 refl refl)
    where
      go : (n : ℕ) (x : Said) → number_at p K s i ≡ n → (said_at s i).1 ≡ x → Says (reading n x (i + size_at s i))
      go zero END f g = stands f g
      go zero (does c) f g = stands f g
      go (suc n) x f g = rw f at (number_late (λ z. omega arith))

-- What holds of a script from each place on, by what stands there: it ends there, a line stands before the rest, or it is refused, with 9 to 11.
pub record EachPlace (p K : ℕ) (s : List ℕ) (P : ℕ → Script → Type 0) : Type 0 where
  pub ended : (i : ℕ) → Stands p K s i END (length s) → P i (accepted [] i)
  pub line : (i next : ℕ) (c : Command) → Stands p K s i (does c) next → (xs : List Line) (end : ℕ) → P next (accepted xs end)
      → P i (accepted (record { place = i; command = c } ∷ xs) end)
  pub refuses : (i number place : ℕ) → From 9 11 number → P i (refused number place)

module _ (p K : ℕ) (s : List ℕ) (P : ℕ → Script → Type 0) (H : EachPlace p K s P) where
  -- of the rest: it holds, and its number, if it is refused
  abbrev Rest : ℕ → Script → Type 0
  Rest i (accepted xs end) = P i (accepted xs end)
  Rest i (refused number place) = From 9 11 number

  with_line_lem : (i next : ℕ) (c : Command) (rest : Script) → Stands p K s i (does c) next → Rest next rest
      → Rest i (with_line (record { place = i; command = c }) rest)
  with_line_lem i next c (accepted xs end) S k = H.line i next c S xs end k
  with_line_lem i next c (refused number place) S k = k

  step : (r : Reading) (i : ℕ) (rest : Script) → Says p K s i r → Rest (i + size_at s i) rest → Rest i (script_step r (length s) i rest)
  step (ends next) i rest S k =
      choice (Rest i) (eqb next (length s)) (λ q. H.ended i (rw (eqb-true next (length s) q) at S)) (λ _. omega arith)
  step (says c next) i rest S k = with_line_lem i next c rest S (rw S.next_is k)
  step (refusal number) i rest S k = S

  rests : (most i : ℕ) → Rest i (script_from most p K s i)
  unfolding script_from
  rests zero i = omega arith
  rests (suc most) i = step (reading_at p K s i) i _ (read p K s i (reading_at p K s i) refl) (rests most (i + size_at s i))

  pub every_script : (most i : ℕ) → P i (script_from most p K s i)
  every_script most i = go (script_from most p K s i) (rests most i)
    where
      go : (x : Script) → Rest i x → P i x
      go (accepted xs end) k = k
      go (refused number place) k = H.refuses i number place k
