-- LTZS is h LTZ in rising order: shown of one register more, by what a sign leaves, and so of h.
-- Assumes nothing.
use mathlib.Core.Path.{◌≡◌, refl, sym, ap, ap₂, ◌∙◌}
use mathlib.Core.Logic.{inl, inr}
use mathlib.Core.Bool.{Bool, true, false, ◌&&◌}
use mathlib.Core.List.Memᴰ.{head as here}
use mathlib.Core.List.Memᴰ.{tail as there}
use mathlib.Core.List.{List, [], ◌∷◌, ◌++◌, map, append_assoc, append-nil, Memᴰ as In}
use Prim.Native.Nat.{ℕ, zero, suc, ◌+◌, ◌≤◌, ◌<◌}
use native.Mathlib.Decide.{dec_lt}
use native.Mathlib.Omega.{arith}
use lib.Dec.{T}
use lib.ListN.{get_or, set}
use lib.Seq.{get_or-set_other}
use Rattle.algebra.specs.Lists.{All, none, one, from}
use Rattle.algebra.proofs.Lists.{in_from, from_in}
use Rattle.algebra.proofs.Tests.{and_left, and_right, and_both}
use Rattle.model.specs.Deal.{Setting, Row, Deal, no_row}
use Rattle.model.specs.Trees.{done}
use Rattle.model.specs.Steps.{after, by_rows, sign}
use Rattle.model.specs.Script.{Command, LTZ, LTZS, Line, in_ranges}
use Rattle.model.specs.Counts.{added}
use Rattle.model.specs.Costs.{cost_by, cost}
use Rattle.model.specs.Commands.{registers_from, signs, command}
use Rattle.model.specs.Parts.{stepped}
use Rattle.model.specs.Run.{Spent, Supply, State, register, row_command, all_set, marked, check, pay, perform, finish, run_lines}
use Rattle.model.specs.Stretches.{rising_ltz, EqualOrApart, InRange, finish_all, AllFinish, AsSigns, Stretches}
use Rattle.model.proofs.Trying.{given_done, given_refused}
use Rattle.model.proofs.Operands.{Standing, equal, before, after as past, operands, in_ranges_lem}
use Rattle.model.proofs.Counts.{same_counts}
use Rattle.model.proofs.Checks.{Passed, check_passed, passed_check}
use Rattle.model.proofs.StepLaws.{sign_does, finish_put, run_line}

-- the test of operands
apart_stands : (d a h : ℕ) → ((r : ℕ) → In r (from d h) → In r (from a h) → ⊥) → Standing d a h
apart_stands d a h n = go (dec_lt a (d + h)) (dec_lt d (a + h)) (dec_lt d a)
  where
    go : Dec (a < d + h) → Dec (d < a + h) → Dec (d < a) → Standing d a h
    go (no l) m o = before (omega arith)
    go (yes l) (no m) o = past (omega arith)
    go (yes l) (yes m) (yes o) = absurd (n a (from_in d h a (omega arith) l) (from_in a h a (omega arith) (omega arith)))
    go (yes l) (yes m) (no o) = absurd (n d (from_in d h d (omega arith) (omega arith)) (from_in a h d (omega arith) m))

stands : (d a h : ℕ) → EqualOrApart d a h → Standing d a h
stands d a h (inl e) = equal e
stands d a h (inr n) = apart_stands d a h n

equal_or_apart_lem : (d a h : ℕ) → Standing d a h → EqualOrApart d a h
equal_or_apart_lem d a h (equal e) = inl e
equal_or_apart_lem d a h (before l) = inr λ r i j. omega (arith, in_from d h i, in_from a h j)
equal_or_apart_lem d a h (past l) = inr λ r i j. omega (arith, in_from d h i, in_from a h j)

-- each of the h LTZ is in range: by the first and the last
each_in : (p K d a h k : ℕ) → d + h ≤ 64 → a + h ≤ 64 → 2 ≤ k → k ≤ K → All (λ c. T (in_ranges p K c)) (rising_ltz d a h k)
unfolding rising_ltz
each_in p K d a zero k hd ha low high = none
each_in p K d a (suc h) k hd ha low high =
    one (in_ranges_lem p K (LTZ d a k) (omega arith, (omega arith, (low, (high, tt))))) (each_in p K (suc d) (suc a) h k (omega arith) (omega arith) low high)

last_in : (p K d a h k : ℕ) → All (λ c. T (in_ranges p K c)) (rising_ltz d a (suc h) k) → (d + suc h ≤ 64) × (a + suc h ≤ 64) × (2 ≤ k) × (k ≤ K)
unfolding rising_ltz
last_in p K d a zero k (one t ts) = let r = operands p K (LTZ d a k) t in (omega (arith, r.0), omega (arith, r.1.0), r.1.1.0, r.1.1.1.0)
last_in p K d a (suc h) k (one t ts) = let r = last_in p K (suc d) (suc a) h k ts in (omega (arith, r.0), omega (arith, r.1), r.2, r.3)

let_through : (p K d a h k : ℕ) → 1 ≤ h → h ≤ 16 → All (λ c. T (in_ranges p K c)) (rising_ltz d a h k) → EqualOrApart d a h → T (in_ranges p K (LTZS d a h k))
let_through p K d a zero k low high each S = absurd (omega arith)
let_through p K d a (suc h) k low high each S =
    let r = last_in p K d a h k each in
    in_ranges_lem p K (LTZS d a (suc h) k) (low, (high, (r.0, (r.1, (r.2, (r.3, (stands d a (suc h) S, tt)))))))

in_range_lem : (p K d a h k : ℕ) → InRange p K d a h k
in_range_lem p K d a h k =
    record {
      let_through = let_through p K d a h k;
      count = λ t. let r = operands p K (LTZS d a h k) t in (r.0, r.1.0);
      each = λ t. let r = operands p K (LTZS d a h k) t in each_in p K d a h k r.1.1.0 r.1.1.1.0 r.1.1.1.1.0 r.1.1.1.1.1.0;
      registers = λ t. equal_or_apart_lem d a h (operands p K (LTZS d a h k) t).1.1.1.1.1.1.0;
    }

-- the registers from a on, of which h are read one after the other, while those from d on are written: none is written before it is read
data Rising (d a h : ℕ) : Type 0 where
  low : d ≤ a → Rising d a h
  high : a + h ≤ d → Rising d a h

rising : {d a h : ℕ} → Standing d a h → Rising d a h
rising (equal e) = low (omega arith)
rising (before l) = low (omega arith)
rising (past l) = high l

rising_more : {d a h : ℕ} → Rising d a (suc h) → Rising (suc d) (suc a) h
rising_more (low l) = low (omega arith)
rising_more (high l) = high (omega arith)

not_written : {d a h : ℕ} → Rising d a (suc h) → (r : ℕ) → In r (from (suc a) h) → r ≡ d → ⊥
not_written {d} {a} {h} (low l) r i e = omega (arith, in_from (suc a) h i)
not_written {d} {a} {h} (high l) r i e = omega (arith, in_from (suc a) h i)

registers_kept : (g : List Row) (d : ℕ) (x : Row) (b w : ℕ) → ((r : ℕ) → In r (from b w) → r ≡ d → ⊥)
    → registers_from no_row (set g d x) b w ≡ registers_from no_row g b w
unfolding registers_from from
registers_kept g d x b zero n = refl
registers_kept g d x b (suc w) n =
    ap₂ ◌∷◌ (get_or-set_other g d b x no_row (n b (here refl))) (registers_kept g d x (suc b) w (λ r i. n r (there i)))

marks_kept : (marks : List Bool) (d : ℕ) (rs : List ℕ) → ((r : ℕ) → In r rs → r ≡ d → ⊥) → all_set (set marks d true) rs ≡ all_set marks rs
unfolding all_set
marks_kept marks d [] n = refl
marks_kept marks d (r ∷ rs) n = ap₂ ◌&&◌ (get_or-set_other marks d r true false (n r (here refl))) (marks_kept marks d rs (λ r i. n r (there i)))

module _ (S : Setting) (k : ℕ) where
  -- what LTZS costs, register by register
  pay_none : (d a : ℕ) (p : Spent) → pay (cost S (LTZS d a 0 k)) p ≡ p
  unfolding pay cost_by marked from
  pay_none d a p = λ i. record { counts = same_counts {x = added p.counts (cost S (LTZS d a 0 k)).counts} {y = p.counts} (omega arith) (omega arith) (omega arith) (omega arith) (omega arith) i; marks = p.marks }

  pay_more : (d a h : ℕ) (p : Spent) → pay (cost S (LTZS d a (suc h) k)) p ≡ pay (cost S (LTZS (suc d) (suc a) h k)) (pay (cost S (LTZ d a k)) p)
  unfolding pay cost_by marked from
  pay_more d a h p =
      λ i. record {
        counts = same_counts {x = added p.counts (cost S (LTZS d a (suc h) k)).counts} {y = added (added p.counts (cost S (LTZ d a k)).counts) (cost S (LTZS (suc d) (suc a) h k)).counts} (omega arith) (omega arith) (omega arith) (omega arith) (omega arith) i;
        marks = marked (set p.marks d true) (from (suc d) h);
      }

  module _ (input : List Row) where
    none_finish : (d a : ℕ) (s : State) → finish S input (LTZS d a 0 k) s ≡ s
    unfolding finish perform command signs registers_from by_rows
    none_finish d a s =
        λ i. record {
          spent = pay_none d a s.spent i;
          registers = s.registers;
          deal = s.deal;
          opened = append-nil s.opened i;
          shown = append-nil s.shown i;
        }

    -- one LTZ, and the others after it
    pub ltz_finish : (d a : ℕ) (s : State) → finish S input (LTZ d a k) s ≡ stepped (pay (cost S (LTZ d a k)) s.spent) d s (sign S k (register s a) s.deal)
    unfolding command
    ltz_finish d a s = finish_put S input (LTZ d a k) d s _ (sign_does S k _ _ s.deal)

    worked : (i j d a h : ℕ) (g : List Row) (deal : Deal) → Rising d a (suc h)
        → (let x = sign S k (get_or g a no_row) deal in
        by_rows S (row_command S input i (LTZS d a (suc h) k) g done) deal
        ≡ after x.opened [] (by_rows S (row_command S input j (LTZS (suc d) (suc a) h k) (set g d x.left) done) x.deal))
    unfolding command signs registers_from
    worked i j d a h g deal R =
        let x = sign S k (get_or g a no_row) deal in
        rw (registers_kept g d x.left (suc a) h (not_written R)) (sign_does S k (get_or g a no_row) _ deal)

    more_stepped : (d a h : ℕ) (s : State) → Rising d a (suc h)
        → finish S input (LTZS d a (suc h) k) s
        ≡ finish S input (LTZS (suc d) (suc a) h k) (stepped (pay (cost S (LTZ d a k)) s.spent) d s (sign S k (register s a) s.deal))
    unfolding finish perform
    more_stepped d a h s R =
        let x = sign S k (register s a) s.deal in
        let j = (pay (cost S (LTZ d a k)) s.spent).counts.inputs in
        let w = by_rows S (row_command S input j (LTZS (suc d) (suc a) h k) (set s.registers d x.left) done) x.deal in
        rw (worked s.spent.counts.inputs j d a h s.registers s.deal R)
        (λ i. record {
          spent = pay_more d a h s.spent i;
          registers = w.left;
          deal = w.deal;
          opened = sym (append_assoc s.opened x.opened w.opened) i;
          shown = s.shown ++ w.shown;
        })

    more_finish : (d a h : ℕ) (s : State) → Rising d a (suc h)
        → finish S input (LTZS d a (suc h) k) s ≡ finish S input (LTZS (suc d) (suc a) h k) (finish S input (LTZ d a k) s)
    more_finish d a h s R = more_stepped d a h s R ∙ ap (finish S input (LTZS (suc d) (suc a) h k)) (sym (ltz_finish d a s))

    finishes_so : (d a h : ℕ) (s : State) → Rising d a h → finish S input (LTZS d a h k) s ≡ finish_all S input (rising_ltz d a h k) s
    unfolding rising_ltz finish_all
    finishes_so d a zero s R = none_finish d a s
    finishes_so d a (suc h) s R = more_finish d a h s R ∙ finishes_so (suc d) (suc a) h (finish S input (LTZ d a k) s) (rising_more R)

  -- what the checks let through, register by register
  first_passed : (u : Supply) (d a h : ℕ) (p : Spent) → Passed u (cost S (LTZS d a (suc h) k)) p → Passed u (cost S (LTZ d a k)) p
  unfolding cost_by from all_set
  first_passed u d a h p P =
      record {
        reads = and_both (get_or p.marks a false) true (and_left (get_or p.marks a false) _ P.reads) tt;
        inputs = P.inputs;
        masks = omega (arith, P.masks);
        triples = omega (arith, P.triples);
        room = omega (arith, P.room);
        shown = P.shown;
      }

  others_passed : (u : Supply) (d a h : ℕ) (p : Spent) → Rising d a (suc h) → Passed u (cost S (LTZS d a (suc h) k)) p
      → Passed u (cost S (LTZS (suc d) (suc a) h k)) (pay (cost S (LTZ d a k)) p)
  unfolding pay cost_by from all_set marked
  others_passed u d a h p R P =
      record {
        reads = rw (marks_kept p.marks d (from (suc a) h) (not_written R)) (and_right (get_or p.marks a false) _ P.reads);
        inputs = omega (arith, P.inputs);
        masks = omega (arith, P.masks);
        triples = omega (arith, P.triples);
        room = omega (arith, P.room);
        shown = omega (arith, P.shown);
      }

  both_passed : (u : Supply) (d a h : ℕ) (p : Spent) → Rising d a (suc h) → Passed u (cost S (LTZ d a k)) p
      → Passed u (cost S (LTZS (suc d) (suc a) h k)) (pay (cost S (LTZ d a k)) p) → Passed u (cost S (LTZS d a (suc h) k)) p
  unfolding pay cost_by from all_set marked
  both_passed u d a h p R P Q =
      record {
        reads = and_both (get_or p.marks a false) _ (and_left (get_or p.marks a false) true P.reads) (rw (marks_kept p.marks d (from (suc a) h) (not_written R)) at Q.reads);
        inputs = omega (arith, Q.inputs);
        masks = omega (arith, Q.masks);
        triples = omega (arith, Q.triples);
        room = omega (arith, Q.room);
        shown = omega (arith, Q.shown);
      }

  one_passed : (u : Supply) (d a : ℕ) (p : Spent) → Passed u (cost S (LTZ d a k)) p → Passed u (cost S (LTZS d a 1 k)) p
  unfolding cost_by from
  one_passed u d a p P = record { reads = P.reads; inputs = P.inputs; masks = P.masks; triples = omega (arith, P.triples); room = omega (arith, P.room); shown = P.shown }

  all_so : (u : Supply) (d a h : ℕ) (p : Spent) → Rising d a h → Passed u (cost S (LTZS d a h k)) p → AllFinish S u (rising_ltz d a h k) p
  unfolding rising_ltz
  all_so u d a zero p R P = tt
  all_so u d a (suc h) p R P =
      (passed_check u _ p (first_passed u d a h p P), all_so u (suc d) (suc a) h _ (rising_more R) (others_passed u d a h p R P))

  -- of one register at least
  only_so : (u : Supply) (d a h : ℕ) (p : Spent) → Rising d a (suc h) → AllFinish S u (rising_ltz d a (suc h) k) p → Passed u (cost S (LTZS d a (suc h) k)) p
  unfolding rising_ltz
  only_so u d a zero p R A = one_passed u d a p (check_passed u _ p A.0)
  only_so u d a (suc h) p R A = both_passed u d a (suc h) p R (check_passed u _ p A.0) (only_so u (suc d) (suc a) h _ (rising_more R) A.1)

  -- a run past commands that all finish
  runs_so : (u : Supply) (input : List Row) (end : ℕ) (ys xs : List Line) (s : State) → AllFinish S u (map (λ y. y.command) ys) s.spent
      → run_lines S u input end (ys ++ xs) s ≡ run_lines S u input end xs (finish_all S input (map (λ y. y.command) ys) s)
  unfolding finish_all finish
  runs_so u input end [] xs s A = refl
  runs_so u input end (y ∷ ys) xs s A =
      run_line S u input end y (ys ++ xs) s ∙ given_done (check u (cost S y.command) s.spent) _ _ A.0
      ∙ runs_so u input end ys xs (finish S input y.command s) A.1

-- the last of the h
pub finishes_last : (S : Setting) (input : List Row) (d a i k : ℕ) (s : State)
    → finish_all S input (rising_ltz d a (suc i) k) s ≡ finish S input (LTZ (d + i) (a + i) k) (finish_all S input (rising_ltz d a i k) s)
unfolding rising_ltz finish_all
finishes_last S input d a zero k s =
    let e : d ≡ d + 0 = omega arith in
    let f : a ≡ a + 0 = omega arith in
    ap₂ (λ (x y : ℕ). finish S input (LTZ x y k) s) e f
finishes_last S input d a (suc i) k s =
    let e : suc d + i ≡ d + suc i = omega arith in
    let f : suc a + i ≡ a + suc i = omega arith in
    finishes_last S input (suc d) (suc a) i k (finish S input (LTZ d a k) s)
    ∙ ap₂ (λ (x y : ℕ). finish S input (LTZ x y k) (finish_all S input (rising_ltz (suc d) (suc a) i k) (finish S input (LTZ d a k) s))) e f

as_signs : (S : Setting) (K d a h k : ℕ) → T (in_ranges S.p K (LTZS d a h k)) → AsSigns S d a h k
as_signs S K d a zero k ok = absurd (let R = operands S.p K (LTZS d a 0 k) ok in omega arith)
as_signs S K d a (suc h) k ok =
    let R = rising (operands S.p K (LTZS d a (suc h) k) ok).1.1.1.1.1.1.0 in
    record {
      finishes_as = λ input s. finishes_so S k input d a (suc h) s R;
      all_if_finishes = λ u s e. all_so S k u d a (suc h) s R (check_passed u _ s e);
      finishes_if_all = λ u s A. passed_check u _ s (only_so S k u d a h s R A);
      runs_as = λ u input end place ys xs s q e.
          run_line S u input end _ xs s ∙ given_done (check u (cost S (LTZS d a (suc h) k)) s.spent) _ _ e
          ∙ ap (run_lines S u input end xs) (finishes_so S k input d a (suc h) s R ∙ ap (λ (cs : List Command). finish_all S input cs s) (sym q))
          ∙ sym (runs_so S k u input end ys xs s (rw q (all_so S k u d a (suc h) s.spent R (check_passed u _ s.spent e))));
      ends_whole = λ u input end place xs s z. run_line S u input end _ xs s ∙ given_refused (check u (cost S (LTZS d a (suc h) k)) s.spent) _ _ z;
    }

pub stretches : Stretches
stretches = record { in_range_lem = in_range_lem; as_signs = as_signs }
