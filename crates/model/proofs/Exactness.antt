-- Exactness and counts of whole runs: by the states that a run passes through.
-- Assumes nothing.
use mathlib.Core.Path.{◌≡◌, refl, sym, ap, ◌∙◌}
use mathlib.Core.List.{List, [], ◌∷◌, ◌++◌, append_assoc}
use Prim.Native.Nat.{ℕ, zero, suc, ◌+◌, ◌*◌, ◌≤◌}
use native.Mathlib.Nat.{add-zero, zero-add, add_assoc}
use native.Mathlib.Omega.{arith}
use lib.ListN.{replicate}
use Rattle.algebra.specs.Lists.{All, one}
use Rattle.model.specs.Steps.{Setting, Row, Deal}
use Rattle.model.specs.Script.{Line}
use Rattle.model.specs.Refusing as Refusing
use Rattle.model.specs.Counts.{Counts, added}
use Rattle.model.specs.Costs.{cost}
use Rattle.model.specs.Sheet.{secrets}
use Rattle.model.specs.Run.{Spent, Supply, State, check, pay, finish, nothing_spent, start, run_lines, run_script, stop_of}
use Rattle.model.specs.Plain.{plainly, reveals}
use Rattle.model.specs.Results.{Does}
use Rattle.model.specs.Exactness.{Passes, begins, goes, Right, sum_of, sums, Counted, at_end, at_line, Stopped, Exactness}
use Rattle.model.proofs.Each.{each_length}
use Rattle.model.proofs.Written.{length_written}
use Rattle.model.proofs.StepLaws.{run_end, run_line}
use Rattle.model.proofs.Counts.{same_counts}
use Rattle.model.proofs.Checks.{Passed, check_passed}
use Rattle.model.proofs.Courses.{shareds_at}
use Rattle.model.proofs.Held.{Holds, holds_start, Given, none_shared, finished}
use Rattle.model.proofs.Balance.{Balanced, balanced_start, balanced_more}
use Rattle.model.proofs.Performed.{does}
use Rattle.model.proofs.Acceptance.{sound, given, InRange, lines_ok}

all_head : {A : Type 0} {P : A → Type 0} {x : A} {xs : List A} → All P (x ∷ xs) → P x
all_head (one p ps) = p

all_tail : {A : Type 0} {P : A → Type 0} {x : A} {xs : List A} → All P (x ∷ xs) → All P xs
all_tail (one p ps) = ps

-- sums over one more line
sum_more : (kind : Counts → ℕ) (S : Setting) (xs : List Line) (x : Line)
    → sum_of kind S (xs ++ (x ∷ [])) ≡ sum_of kind S xs + kind (cost S x.command).counts
unfolding sum_of
sum_more kind S [] x = add-zero _ ∙ sym (zero-add _)
sum_more kind S (y ∷ ys) x = rw (sum_more kind S ys x) (sym (add_assoc _ _ _))

sums_more : (S : Setting) (xs : List Line) (x : Line) → sums S (xs ++ (x ∷ [])) ≡ added (sums S xs) (cost S x.command).counts
sums_more S xs x =
    same_counts (sum_more (λ k. k.inputs) S xs x) (sum_more (λ k. k.masks) S xs x) (sum_more (λ k. k.triples) S xs x)
    (sum_more (λ k. k.openings) S xs x) (sum_more (λ k. k.revealed) S xs x)

module _ {S : Setting} {K : ℕ} {u : Supply} {input : List Row} {d : Deal} (G : Given S K u input d) (xs : List Line) (ok : All (InRange S.p K) xs) where
  -- what is known after each finished command
  record Known (ys : List Line) (s : State) (vs ws : List ℕ) : Type 0 where
    pub holds : Holds S d s vs
    pub shown : s.shown ≡ ws
    pub balance : Balanced s.spent.counts
    pub ranges : All (InRange S.p K) ys
    pub done : List Line
    pub split : xs ≡ done ++ ys
    pub counts : s.spent.counts ≡ sums S done

  known_start : Known xs (start d) (replicate 64 0) []
  unfolding start nothing_spent sum_of
  known_start =
      record {
        holds = holds_start S (none_shared G) d;
        shown = refl;
        balance = balanced_start d;
        ranges = ok;
        done = [];
        split = refl;
        counts = refl;
      }

  passed : (x : Line) (s : State) → check u (cost S x.command) s.spent ≡ 0 → Passed u (cost S x.command) s.spent
  passed x s e = check_passed u (cost S x.command) s.spent e

  known_more : {x : Line} {ys : List Line} {s : State} {vs ws : List ℕ} → Known (x ∷ ys) s vs ws → check u (cost S x.command) s.spent ≡ 0
      → Known ys (finish S input x.command s) (plainly S.p (secrets S input) s.spent.counts.inputs x.command vs) (ws ++ reveals x.command vs)
  unfolding finish pay
  known_more {x} {ys} {s} {vs} {ws} q e =
      let done = finished G s vs q.holds x.command (all_head q.ranges) (passed x s e) in
      record {
        holds = done.holds;
        shown = done.shown ∙ ap (λ zs. zs ++ reveals x.command vs) q.shown;
        balance = balanced_more S x.command s.spent q.balance;
        ranges = all_tail q.ranges;
        done = q.done ++ (x ∷ []);
        split = q.split ∙ rw append_assoc;
        counts = ap (λ (x' : Counts). added x' (cost S x.command).counts) q.counts ∙ sym (sums_more S q.done x);
      }

  known : {ys : List Line} {s : State} {vs ws : List ℕ} → Passes S u input d xs ys s vs ws → Known ys s vs ws
  known begins = known_start
  known (goes p e) = known_more (known p) e

  next_does : {y : Line} {ys : List Line} {s : State} {vs ws : List ℕ} → Passes S u input d xs (y ∷ ys) s vs ws
      → check u (cost S y.command) s.spent ≡ 0 → Does S K input y.command s (finish S input y.command s)
  next_does {y} {s = s} {vs} p e =
      let q = known p in
      does G s vs q.holds y.command (all_head q.ranges) (passed y s e)

  right : {ys : List Line} {s : State} {vs ws : List ℕ} → Passes S u input d xs ys s vs ws → Right S s vs ws
  right p =
      let q = known p in
      let H = q.holds in
      let shares = shareds_at (none_shared G) H.shareds in
      record {
        registers_64 = each_length H.shareds ∙ H.values_64;
        marks_64 = H.marks_64;
        values_64 = H.values_64;
        sharing = λ r m. (shares r).sharing;
        secret_is = λ r m. (shares r).is;
        unset = H.unset;
        opened = q.holds.rows;
        shown = q.shown;
      }

  counted : {ys : List Line} {s : State} {vs ws : List ℕ} → Passes S u input d xs ys s vs ws → Counted S d xs ys s
  counted p =
      let q = known p in
      record {
        done = q.done;
        split = q.split;
        counts = q.counts;
        balance = q.balance;
        masks_left = q.holds.used.masks;
        triples_left = q.holds.used.triples;
        opened = q.holds.opens;
        numbers = length_written S _ ∙ ap (λ (o : ℕ). S.n * o) q.holds.opens;
        shown = q.holds.shows;
      }

  -- the run of the lines that are left stops in a state that it passes through
  stopped : (end : ℕ) (ys : List Line) {s : State} {vs ws : List ℕ} → Passes S u input d xs ys s vs ws → Stopped S u input d xs end (run_lines S u input end ys s)
  stopped end [] {s} p = rw (run_end S u input end s) (record { left = []; plain = _; revealed = _; passes = p; stops = at_end refl refl })
  stopped end (y ∷ ys) {s} p =
      rw (run_line S u input end y ys s) (either (check u (cost S y.command) s.spent) refl (λ e. stopped end ys (goes p e)))
    where
      either : (k : ℕ) → k ≡ check u (cost S y.command) s.spent
          → (check u (cost S y.command) s.spent ≡ 0 → Stopped S u input d xs end (run_lines S u input end ys (finish S input y.command s)))
          → Stopped S u input d xs end (Refusing.given k (run_lines S u input end ys (finish S input y.command s)) (record { number = k; place = y.place; state = s }))
      either zero e go = go (sym e)
      either (suc k) e go = record { left = y ∷ ys; plain = _; revealed = _; passes = p; stops = at_line e (λ z. omega arith) refl }

-- The checks keep both buffers from being outgrown, in every state that a run passes through.
abbrev pub Within : Supply → Spent → Type 0
Within u s = (s.counts.openings * u.parties ≤ u.log) × (s.counts.revealed ≤ u.shown)

pub within : {S : Setting} {u : Supply} {input : List Row} {d : Deal} {xs ys : List Line} {s : State} {vs ws : List ℕ} → Passes S u input d xs ys s vs ws
    → Within u s.spent
unfolding start nothing_spent finish pay
within begins = omega arith
within {S} (goes {x} {s = s} p e) = let P = check_passed _ (cost S x.command) s.spent e in (P.room, P.shown)

pub exactness : Exactness
unfolding stop_of run_script
exactness present sheet log shown A =
    let Q = sound present sheet A.number in
    let G = given present sheet Q log shown in
    let ok = lines_ok _ _ _ A.lines A.end A.script in
    record {
      does = λ y ys s vs ws p e. next_does G A.lines ok p e;
      right = λ ys s vs ws p. right G A.lines ok p;
      counted = λ ys s vs ws p. counted G A.lines ok p;
      stops = rw (A.number, A.script) (stopped G A.lines ok A.end A.lines begins);
    }
