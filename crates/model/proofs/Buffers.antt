-- No run outgrows a record of 10,850 numbers and a revealed list of 511: by how many lines a script has and what each spends.
-- Assumes nothing.
use mathlib.Core.Path.{◌≡◌, refl, sym, subst, ◌∙◌}
use mathlib.Core.Logic.{◌≢◌, ◌⊎◌, inl, inr}
use mathlib.Core.Bool.{Bool, true, false, cond}
use mathlib.Core.List.{List, [], ◌∷◌}
use Prim.Native.Nat.{ℕ, zero, suc, ◌+◌, ◌*◌, ◌≤◌, ◌<◌}
use native.Mathlib.Nat.{mul-le-mul, min-le_left}
use native.Mathlib.Omega.{arith}
use borrow.Author.Tests.{leb-true, leb-false, le-leb}
use lib.Dec.{T, leb}
use lib.ListN.{length, get_or, drop, length-take}
use Rattle.algebra.proofs.Tests.{and_true, is_true, true_false, choice}
use Rattle.model.specs.Steps.{Setting, Row}
use Rattle.model.specs.Script.{Command, Line, Script, accepted, refused, script_from, script_of}
use Rattle.model.specs.Refusing.{first_failed}
use Rattle.model.specs.Costs.{cost}
use Rattle.model.specs.Sheet.{Header, header_of, header_size, setting_with, script_in, input_in, deal_in}
use Rattle.model.specs.Run.{Spent, State, Supply, all_set, check, pay, finish, run_lines, nothing_spent, start, supply_of, run_script, stop_of, outcome, run}
use Rattle.model.specs.Exactness.{Accepted}
use Rattle.model.specs.Refusals.{From, is_run, Numbered}
use Rattle.model.proofs.StepLaws.{run_end, run_line}
use Rattle.model.proofs.Checks.{check_passed}
use Rattle.model.proofs.Held.{all_same}
use Rattle.model.proofs.Acceptance.{sound}
use Rattle.model.proofs.Balance.{Balanced, openings_are, balanced_more}
use Rattle.model.proofs.Lengths.{Fitting, fitting}
use Rattle.model.proofs.Exactness.{Within, within, exactness}
use Rattle.model.proofs.Outputs.{Shows, hides, shows, agrees}
use Rattle.model.proofs.Readings.{size_some, takes_least, every_script}
use Rattle.model.proofs.Refusals.{either, numbers, nothing_run}
use Rattle.model.specs.Buffers.{record_length, revealed_length, NoRunOutgrows, AllHeld}

-- a number that is neither of the two
abbrev pub Other : ℕ → Type 0
Other number = (number ≢ 25) × (number ≢ 26)

-- Every line takes at least two bytes and END takes one, so a script of 1,024 bytes has at most 511 lines.
abbrev Short : List ℕ → ℕ → Script → Type 0
Short s i (accepted xs end) = i + 2 * length xs < length s
Short s i (refused number place) = Unit {0}

short : (p K : ℕ) (s : List ℕ) (most i : ℕ) → Short s i (script_from most p K s i)
short p K s =
    every_script p K s (Short s)
    (record {
      ended = λ i S. omega (arith, S.next_is, size_some s i);
      line = λ i next c S xs end k. let h = rw S.said_is at (takes_least s i) in omega (arith, S.next_is);
      refuses = λ i number place h. tt;
    })

-- The openings are balanced, and the revealed values and the lines that are left are so many at most.
pub record Limited (most : ℕ) (s : Spent) (left : ℕ) : Type 0 where
  pub balance : Balanced s.counts
  pub lines : s.counts.revealed + left ≤ most

-- Before each line: 511 at most, and 510 once a register is set, since the first line reveals nothing.
pub record Before (s : Spent) (left : ℕ) : Type 0 where
  pub limited : Limited 511 s left
  pub set : (r : ℕ) → get_or s.marks r false ≡ true → s.counts.revealed + left ≤ 510

before_first : (left : ℕ) → left ≤ 511 → Before nothing_spent left
unfolding nothing_spent
before_first left h =
    record { limited = record { balance = refl; lines = omega arith }; set = λ r m. absurd (true_false (sym m ∙ all_same 64 r false)) }

-- an accepted script of at most 1,024 bytes, before its first line
pub at_start : (p K : ℕ) (script : List ℕ) {xs : List Line} {end : ℕ} → script_of p K script ≡ accepted xs end → length script ≤ 1024
    → Before nothing_spent (length xs)
unfolding script_of
at_start p K script {xs} {end} e l =
    let k : Short script 0 (accepted xs end) = subst (Short script 0) e (short p K script _ 0) in
    before_first (length xs) (omega arith)

-- a script has as many bytes as its header says, or fewer
pub script_length : (h : Header) (s : List ℕ) → length (script_in h s) ≤ h.script
unfolding script_in
script_length h s = rw length-take (min-le_left h.script (length (drop (header_size h) s)))

before_next : {s : Spent} {left : ℕ} → Limited 510 s left → Before s left
before_next a = record { limited = record { balance = a.balance; lines = omega arith }; set = λ r m. a.lines }

-- after a command that reads only set registers, which is what 21 tries
after : (S : Setting) (c : Command) {s : Spent} {left : ℕ} → Before s (suc left) → all_set s.marks (cost S c).reads ≡ true → Limited 510 (pay (cost S c) s) left
unfolding all_set pay
after S c {s} {left} k t = record { balance = balanced_more S c s k.limited.balance; lines = go (agrees S c).shown }
  where
    go : Shows (cost S c) → s.counts.revealed + (cost S c).counts.revealed + left ≤ 510
    go (hides e) = omega (arith, k.limited.lines)
    go (shows a q e) = omega (arith, k.set a (sym (and_true _) ∙ rw q at t))

-- so after a command that the checks let through, whatever there is
pub paid : (u : Supply) (S : Setting) (c : Command) {s : Spent} {left : ℕ} → Before s (suc left) → check u (cost S c) s ≡ 0 → Before (pay (cost S c) s) left
paid u S c {s} k e = before_next (after S c k (is_true _ (check_passed u (cost S c) s e).reads))

-- two tests that are one, and what comes after it where it passes; where neither 25 nor 26 refuses
same_else : (b : Bool) (x y z : ℕ) → (b ≡ true → Other x → x ≡ y) → Other (cond b x z) → cond b x z ≡ cond b y z
same_else true x y z k o = k refl o
same_else false x y z k o = refl

both_passed : (a b : Bool) {number : ℕ} → number ≡ cond a (cond b 0 26) 25 → Other number → number ≡ 0
both_passed true true e o = e
both_passed true false e o = absurd (o.1 e)
both_passed false b e o = absurd (o.0 e)

-- 25 or 26 of a list of tests: what stands before them passed, and one of the two failed
passed_first : (b : Bool) {x z : ℕ} → From 25 26 (cond b x z) → (From 25 26 z → ⊥) → (b ≡ true) × From 25 26 x
passed_first true f k = (refl, f)
passed_first false f k = absurd (k f)

one_failed : (a b : Bool) → From 25 26 (cond a (cond b 0 26) 25) → (a ≡ false) ⊎ (b ≡ false)
one_failed true true f = absurd (omega arith)
one_failed true false f = inr refl
one_failed false b f = inl refl

-- the run of an accepted sheet, by its header
module _ (h : Header) (fits : Fitting h) (people : h.n ≤ 7) where
  -- With the masks and triples of the sheet there are at most 1,024 + 16 + 510 openings, so 25 and 26 do not refuse.
  room : (log shown : ℕ) → record_length ≤ log → revealed_length ≤ shown → {s : Spent} {left : ℕ} → Limited 510 s left → s.counts.masks ≤ h.masks
      → s.counts.triples ≤ h.triples → (leb (s.counts.openings * h.n) log ≡ true) × (leb s.counts.revealed shown ≡ true)
  room log shown log-long shown-long {s} a m t =
      let q : s.counts.openings * h.n ≤ (1024 + 16 + 510) * 7 = mul-le-mul {n₂ = 1024 + 16 + 510} {m₂ = 7} (omega arith) people in
      (le-leb (s.counts.openings * h.n) log (omega arith), le-leb s.counts.revealed shown (omega arith))

  -- Where neither 25 nor 26 refuses, the checks give the same with the buffers of program table.
  pub same_unless : (log shown : ℕ) (S : Setting) (c : Command) {s : Spent} {left : ℕ} → Before s (suc left) → Other (check (supply_of h log shown) (cost S c) s)
      → check (supply_of h log shown) (cost S c) s ≡ check (supply_of h record_length revealed_length) (cost S c) s
  unfolding check first_failed pay
  same_unless log shown S c {s} k =
      let c₁ = cost S c in
      same_else (all_set s.marks c₁.reads) _ _ 21
      (λ r. same_else (leb (s.counts.inputs + c₁.counts.inputs) h.inputs) _ _ 22
      (λ _. same_else (leb (s.counts.masks + c₁.counts.masks) h.masks) _ _ 23
      (λ m. same_else (leb (s.counts.triples + c₁.counts.triples) h.triples) _ _ 24
      (λ t o.
      let q = room record_length revealed_length (omega arith) (omega arith) (after S c k r) (leb-true _ _ m) (leb-true _ _ t) in
      rw (q.0, q.1)
      (both_passed (leb ((s.counts.openings + c₁.counts.openings) * h.n) log) (leb (s.counts.revealed + c₁.counts.revealed) shown) refl o)))))

  -- what the finished commands opened and revealed has room
  abbrev pub Roomy : ℕ → ℕ → Spent → Type 0
  Roomy log shown s = (s.counts.openings * h.n ≤ log) × (s.counts.revealed ≤ shown)

  pub roomy_paid : (log shown : ℕ) (S : Setting) (c : Command) (s : Spent) → check (supply_of h log shown) (cost S c) s ≡ 0 → Roomy log shown (pay (cost S c) s)
  unfolding pay
  roomy_paid log shown S c s e = let P = check_passed (supply_of h log shown) (cost S c) s e in (P.room, P.shown)

  -- Where 25 or 26 refuses, the buffers of program table let the command through, and it opens something.
  pub full_passes : (log shown : ℕ) (S : Setting) (c : Command) {s : Spent} {left : ℕ} → Before s (suc left) → Roomy log shown s
      → From 25 26 (check (supply_of h log shown) (cost S c) s)
      → (check (supply_of h record_length revealed_length) (cost S c) s ≡ 0) × (0 < (cost S c).counts.openings)
  unfolding check first_failed pay
  full_passes log shown S c {s} k R f =
      let c₁ = cost S c in
      let r = passed_first (all_set s.marks c₁.reads) f (λ z. omega arith) in
      let i = passed_first (leb (s.counts.inputs + c₁.counts.inputs) h.inputs) r.1 (λ z. omega arith) in
      let m = passed_first (leb (s.counts.masks + c₁.counts.masks) h.masks) i.1 (λ z. omega arith) in
      let t = passed_first (leb (s.counts.triples + c₁.counts.triples) h.triples) m.1 (λ z. omega arith) in
      let q = room record_length revealed_length (omega arith) (omega arith) (after S c k r.0) (leb-true _ _ m.0) (leb-true _ _ t.0) in
      (rw (r.0, i.0, m.0, t.0, q.0, q.1) refl, opens c₁.counts.openings refl (one_failed _ _ t.1))
    where
      opens : (o : ℕ) → (cost S c).counts.openings ≡ o
          → (leb ((s.counts.openings + o) * h.n) log ≡ false) ⊎ (leb (s.counts.revealed + (cost S c).counts.revealed) shown ≡ false) → 0 < o
      opens (suc o) e f = omega arith
      opens zero e (inl f) = omega (arith, leb-false ((s.counts.openings + 0) * h.n) log f, R.0)
      opens zero e (inr f) = omega (arith, leb-false (s.counts.revealed + (cost S c).counts.revealed) shown f, R.1, openings_are S c)

  module _ (log shown : ℕ) (log-long : record_length ≤ log) (shown-long : revealed_length ≤ shown) where
    abbrev u : Supply
    u = supply_of h log shown

    -- 25 and 26 are tried after 21, 23 and 24
    checked : (S : Setting) (c : Command) {s : Spent} {left : ℕ} → Before s (suc left) → Other (check u (cost S c) s)
    unfolding check first_failed pay
    checked S c {s} k =
        let c₁ = cost S c in
        choice Other (all_set s.marks c₁.reads)
        (λ r. choice Other (leb (s.counts.inputs + c₁.counts.inputs) h.inputs)
        (λ _. choice Other (leb (s.counts.masks + c₁.counts.masks) h.masks)
        (λ m. choice Other (leb (s.counts.triples + c₁.counts.triples) h.triples)
        (λ t. let q = room log shown log-long shown-long (after S c k r) (leb-true _ _ m) (leb-true _ _ t) in rw (q.0, q.1) (omega arith))
        (λ _. omega arith)) (λ _. omega arith)) (λ _. omega arith)) (λ _. omega arith)

    -- so the checks do not ask how long the buffers are
    pub same_check : (S : Setting) (c : Command) {s : Spent} {left : ℕ} → Before s (suc left)
        → check u (cost S c) s ≡ check (supply_of h record_length revealed_length) (cost S c) s
    same_check S c k = same_unless log shown S c k (checked S c k)

    module _ (S : Setting) (input : List Row) (end : ℕ) where
      pub finished : (c : Command) (s : State) {left : ℕ} → Before s.spent (suc left) → check u (cost S c) s.spent ≡ 0
          → Before (finish S input c s).spent left
      unfolding finish
      finished c s k e = paid u S c k e

      lines : (xs : List Line) (s : State) → Before s.spent (length xs) → Other (run_lines S u input end xs s).number
      lines [] s k = rw (run_end S u input end s) (omega arith)
      lines (x ∷ xs) s k =
          rw (run_line S u input end x xs s)
          (either Other (check u (cost S x.command) s.spent) _ _
          (λ e. lines xs (finish S input x.command s) (finished x.command s k e)) (checked S x.command k))

accepted_other : (present : ℕ) (s : List ℕ) (log shown : ℕ) → record_length ≤ log → revealed_length ≤ shown → Accepted present s
    → Other (stop_of present s log shown).number
unfolding stop_of run_script start
accepted_other present s log shown log-long shown-long a =
    let h = header_of s in
    let Q = sound present s a.number in
    let F = fitting h Q.permitted in
    rw (a.number, a.script)
    (lines h F Q.permitted.people.most log shown log-long shown-long (setting_with present h) (input_in h s) a.end a.lines (start (deal_in h s)) (at_start _ _ (script_in h s) a.script (omega (arith, script_length h s))))

-- 25 and 26 are numbers of accepted sheets only
pub no_run_outgrows : NoRunOutgrows
unfolding run outcome
no_run_outgrows present s log revealed log-long shown-long =
    let N = (numbers.of_run present s log revealed).state.0 in
    let o = accepted_other present s (length log) (length revealed) log-long shown-long in
    (λ e. (o (N (inr (omega arith)))).0 e, λ e. (o (N (inr (omega arith)))).1 e)

pub all_held : AllHeld
unfolding run outcome
all_held present s log revealed = go (is_run (run present s log revealed).number) refl
  where
    N : Numbered present s (run present s log revealed).number (run present s log revealed).place
    N = numbers.of_run present s log revealed

    go : (b : Bool) → is_run (run present s log revealed).number ≡ b → Within (supply_of (header_of s) (length log) (length revealed)) (record { counts = (run present s log revealed).counts; marks = [] })
    go true e = within (exactness present s (length log) (length revealed) (N.is_run_lem.0 (subst T (sym e) tt))).stops.passes
    go false e =
        let U = nothing_run present s log revealed (λ a. subst T e (N.is_run_lem.1 a)) in
        rw U.counts (omega arith)
