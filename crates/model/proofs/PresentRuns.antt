-- A run whoever is present: all rows that it opens are sharings, of which any t + 1 parties give the same value, so it is the run with everyone present.
-- Assumes nothing.
use mathlib.Core.Path.{◌≡◌, refl, sym, ap, ◌∙◌}
use mathlib.Core.Logic.{◌≢◌, inr}
use mathlib.Core.Bool.{Bool, true, false, cond}
use mathlib.Core.List.{List, [], ◌∷◌}
use Prim.Native.Nat.{ℕ, zero, suc, ◌+◌, ◌-◌, ◌*◌, ◌%◌, ◌≤◌, ◌<◌}
use native.Mathlib.Nat.{mul-le-mul, mul-suc}
use native.Mathlib.Omega.{arith}
use lib.ListN.{length, get_or, drop, get_or-append}
use lib.Seq.{get_or-append-add, get_or-drop}
use Rattle.algebra.specs.Lists.{All, one, Below, onto}
use Rattle.algebra.proofs.Lists.{below_any, length_onto}
use Rattle.algebra.proofs.Rows.{get_or_tab, tab_ext}
use Rattle.model.specs.Fields.{Parties, InUse, modulus}
use Rattle.model.specs.Sharing.{at, value_from, weight, weighted}
use Rattle.model.specs.Presence.{is_present, everyone, PermittedSet, openers}
use Rattle.model.specs.Refusing.{first_failed}
use Rattle.model.specs.Trees.{Tree, done, multiply, mask, reveal}
use Rattle.model.specs.Steps.{Setting, Row, Deal, Worked, after, plus, minus, times, constant, value, recorded, written, by_rows, less_triple, less_mask}
use Rattle.model.specs.Script.{Line, Script, accepted, refused}
use Rattle.model.specs.Commands.{Ended}
use Rattle.model.specs.Sheet.{Header, header_of, setting_with, setting_of, header_tests, sheet_number}
use Rattle.model.specs.Run.{Supply, Stop, state_after, row_lines, run_lines, start, nothing_spent, outcome, refused_input, run_script, sheet_script, stop_of, run}
use Rattle.model.specs.Exactness.{Accepted}
use Rattle.model.specs.PresentRuns.{AbsentMarked, SameRun, OpenedBy, PresentRuns}
use Rattle.model.proofs.Fields.{fields}
use Rattle.model.proofs.Presence.{presence, openers_group}
use Rattle.model.proofs.Shared.{value_secret}
use Rattle.model.proofs.Written.{length_recorded, length_written}
use Rattle.model.proofs.Trying.{given_refused}
use Rattle.model.proofs.PresentTests.{header_decides, twelve, everyone_permitted, same_number}
use Rattle.model.proofs.Acceptance.{sound, all_map}
use Rattle.model.proofs.Exactness.{within, exactness}
use Rattle.model.proofs.Refusals.{numbers}
use Rattle.model.proofs.Secrecy.{own_stop}
use Rattle.model.proofs.SumFirst.{sum_first}
use Rattle.model.proofs.Weights.{weighted_value, weighted_cong}
use Rattle.model.proofs.Polynomials.{positive}
use Rattle.model.proofs.Sharings.{nodes_distinct}

-- the same tree on the same deal, where each opened row has the same value to both sets
module _ (h : Header) (b c : ℕ) where
  abbrev Same : Row → Type 0
  Same x = value (setting_with b h) x ≡ value (setting_with c h) x

  same_work : {A : Type 0} (T : Tree Row A) (d : Deal) → All Same (by_rows (setting_with c h) T d).opened → by_rows (setting_with b h) T d ≡ by_rows (setting_with c h) T d
  unfolding by_rows plus minus times constant
  same_work (done x) d es = refl
  same_work {A} (multiply left right go) d (one {x = a1} e (one {x = b1} f es)) =
      rw (e, f) (ap (λ (w : Worked A). after (a1 ∷ b1 ∷ []) [] w) (same_work (go _) (less_triple d) es))
  same_work {A} (mask x go) d (one {x = o} e es) = rw e (ap (λ (w : Worked A). after (o ∷ []) [] w) (same_work (go _ _) (less_mask d) es))
  same_work {A} (reveal x rest) d (one e es) =
      rw e (ap (λ (w : Worked A). after (x ∷ []) (value (setting_with c h) x ∷ []) w) (same_work rest d es))

  same_lines : (u : Supply) (input : List Row) (end : ℕ) (xs : List Line) (d : Deal) → All Same (run_lines (setting_with c h) u input end xs (start d)).state.opened
      → run_lines (setting_with b h) u input end xs (start d) ≡ run_lines (setting_with c h) u input end xs (start d)
  unfolding run_lines start plus minus times constant
  same_lines u input end xs d es =
      let s = start d in
      ap (λ (w : Worked (Ended Row)). let e = w.left in record { number = e.number; place = e.place; state = state_after s e.spent e.registers w })
      (same_work (row_lines (setting_with c h) u input end xs s.spent s.registers) d es)

-- what stands in the record
onto_at_lem : (vs log : List ℕ) (k : ℕ) → k < length vs → get_or (onto vs log) k 0 ≡ get_or vs k 0
unfolding onto
onto_at_lem vs log k h = get_or-append vs (drop (length vs) log) 0 k h

onto_past : (vs log : List ℕ) (k : ℕ) → length vs ≤ k → get_or (onto vs log) k 0 ≡ get_or log k 0
unfolding onto
onto_past vs log k h =
    let e : length vs + (k - length vs) ≡ k = omega arith in
    rw e at (get_or-append-add vs (drop (length vs) log) (k - length vs) 0 ∙ get_or-drop (length vs) log (k - length vs) 0)

module _ (S : Setting) where
  recorded_at : (x : Row) (j : ℕ) → j < S.n → get_or (recorded S x) j 0 ≡ cond (is_present S.present (suc j)) (get_or x j 0) S.p
  unfolding recorded
  recorded_at x j h = get_or_tab S.n _ j h

  written_at : (xs : List Row) (i j : ℕ) → i < length xs → j < S.n → get_or (written S xs) (S.n * i + j) 0 ≡ get_or (recorded S (get_or xs i [])) j 0
  unfolding written
  written_at [] i j h k = absurd (omega arith)
  written_at (x ∷ xs) zero j h k =
      let e : S.n * 0 + j ≡ j = omega arith in
      rw e (get_or-append (recorded S x) (written S xs) 0 j (rw (length_recorded S x) k))
  written_at (x ∷ xs) (suc i) j h k =
      let e : S.n * suc i + j ≡ length (recorded S x) + (S.n * i + j) = rw (length_recorded S x, mul-suc) (omega arith) in
      rw e (get_or-append-add (recorded S x) (written S xs) (S.n * i + j) 0 ∙ written_at xs i j (omega arith) k)

module _ (present : ℕ) (h : Header) where
  abbrev S : Setting
  S = setting_with present h

  abbrev E : Setting
  E = setting_of h

  module _ (os : List Row) (log : List ℕ) (room : h.n * length os ≤ length log) where
    place : (i j : ℕ) → i < length os → j < h.n → h.n * i + j < h.n * length os
    place i j a b =
        let m : h.n * suc i ≤ h.n * length os = mul-le-mul {n₂ = h.n} {m₂ = length os} (omega arith) (omega arith) in
        omega (arith, rw mul-suc at m)

    at_place : (T : Setting) → T.n ≡ h.n → (i j : ℕ) → i < length os → j < h.n
        → get_or (onto (written T os) log) (h.n * i + j) 0 ≡ cond (is_present T.present (suc j)) (get_or (get_or os i []) j 0) T.p
    at_place T e i j a b =
        onto_at_lem (written T os) log (h.n * i + j) (rw (length_written T os, e) (place i j a b))
        ∙ rw (← e) (written_at T os i j a (rw e b) ∙ recorded_at T (get_or os i []) j (rw e b))

    marked : AbsentMarked S.p h.n present (length os) (onto (written E os) log) (onto (written S os) log)
    marked =
        record {
          length_is = length_onto (written S os) log (rw (length_written S os) room) ∙ sym (length_onto (written E os) log (rw (length_written E os) room));
          held = rw (length_onto (written E os) log (rw (length_written E os) room)) room;
          absent = λ i j a b e. at_place S refl i j a b ∙ rw e;
          there = λ i j a b e. at_place S refl i j a b ∙ ap (λ (q : Bool). cond q (get_or (get_or os i []) j 0) S.p) (e ∙ sym (presence.all_present h.n (suc j) (omega arith) b))
              ∙ sym (at_place E refl i j a b);
          past = λ k l. onto_past (written S os) log k (rw (length_written S os) l) ∙ sym (onto_past (written E os) log k (rw (length_written E os) l));
        }

  -- a stop whose openings are counted and fit the record
  same_outcome : (log revealed : List ℕ) (x : Stop) → length x.state.opened ≡ x.state.spent.counts.openings
      → h.n * x.state.spent.counts.openings ≤ length log → SameRun present h (outcome E log revealed x) (outcome S log revealed x)
  unfolding outcome
  same_outcome log revealed x e room =
      record {
        number = refl;
        place = refl;
        counts = refl;
        registers = refl;
        marks = refl;
        revealed = refl;
        log = rw (← e) (marked x.state.opened log (rw e room));
      }

-- The stops of a sheet for two sets that give it the same number. The openings are counted and fit the record.
record Alike (h : Header) (log : ℕ) (x y : Stop) : Type 0 where
  pub same : x ≡ y
  pub counted : length y.state.opened ≡ y.state.spent.counts.openings
  pub fits : h.n * y.state.spent.counts.openings ≤ log

module _ (b c : ℕ) (s : List ℕ) (log shown : ℕ) (number : sheet_number b s ≡ sheet_number c s) where
  refused_alike : (k i : ℕ) → Alike (header_of s) log (refused_input k i) (refused_input k i)
  unfolding start nothing_spent
  refused_alike k i = record { same = refl; counted = refl; fits = omega arith }

  accepted_alike : Accepted b s → Alike (header_of s) log (stop_of b s log shown) (stop_of c s log shown)
  accepted_alike A =
      let h = header_of s in
      let z = sym number ∙ A.number in
      let X = exactness c s log shown (record { lines = A.lines; end = A.end; number = z; script = A.script }) in
      let passes = X.stops.passes in
      let own = own_stop c s A.lines A.end z A.script log shown in
      let Q = sound b s A.number in
      let M = (fields h.field Q.permitted.field).modulus_is in
      let P = Q.permitted.people in
      let rows = rw own at (X.right _ _ _ _ passes).opened in
      let C = X.counted _ _ _ _ passes in
      record {
        same = own_stop b s A.lines A.end A.number A.script log shown
            ∙ same_lines h b c _ _ _ _ _ (all_map (λ x r. value_secret (setting_with b h) M P r ∙ sym (value_secret (setting_with c h) M P r)) rows)
            ∙ sym own;
        counted = C.opened;
        fits = omega (arith, (within passes).0);
      }

  alike : Alike (header_of s) log (stop_of b s log shown) (stop_of c s log shown)
  alike = go (sheet_number b s) refl (sheet_script s) refl
    where
      go : (k : ℕ) → sheet_number b s ≡ k → (x : Script) → sheet_script s ≡ x → Alike (header_of s) log (stop_of b s log shown) (stop_of c s log shown)
      go (suc k) e x q = unfold stop_of in rw (e, sym number ∙ e) (refused_alike (suc k) 0)
      go zero e (refused k i) q = unfold stop_of run_script in rw (e, sym number ∙ e, q) (refused_alike k i)
      go zero e (accepted xs end) q = accepted_alike (record { lines = xs; end = end; number = e; script = q })

same_run : (present : ℕ) (s log revealed : List ℕ) → PermittedSet (header_of s).n (header_of s).t present
    → SameRun present (header_of s) (run (everyone (header_of s).n) s log revealed) (run present s log revealed)
unfolding run
same_run present s log revealed Q =
    let A = alike present (everyone (header_of s).n) s (length log) (length revealed) (same_number present (everyone (header_of s).n) s (λ _. Q) (everyone_permitted s)) in
    rw A.same (same_outcome present (header_of s) log revealed (stop_of (everyone (header_of s).n) s (length log) (length revealed)) A.counted A.fits)

header_refused : (b c : ℕ) (s log revealed : List ℕ) → first_failed (header_tests s) ≢ 0 → run b s log revealed ≡ run c s log revealed
unfolding run stop_of outcome start written onto
header_refused b c s log revealed z =
    let run-script : ℕ → Stop = λ x. run_script x (header_of s) s (length log) (length revealed) (sheet_script s) in
    let number = first_failed (header_tests s) in
    let refusal = refused_input number 0 in
    rw (header_decides b s z, header_decides c s z, given_refused number (run-script b) refusal z, given_refused number (run-script c) refusal z)

same_recorded : (S : Setting) (x y : Row) → ((j : ℕ) → j < S.n → is_present S.present (suc j) ≡ true → get_or x j 0 ≡ get_or y j 0) → recorded S x ≡ recorded S y
unfolding recorded
same_recorded S x y k = tab_ext S.n _ _ (λ j l. go (is_present S.present (suc j)) (k j l))
  where
    go : {a b : ℕ} (c : Bool) → (c ≡ true → a ≡ b) → cond c a S.p ≡ cond c b S.p
    go true e = e refl
    go false e = refl

opened_by : (present : ℕ) (h : Header) → InUse h.field → Parties h.n h.t → PermittedSet h.n h.t present → OpenedBy present h
unfolding value value_from
opened_by present h f P Q =
    let M = (fields h.field f).modulus_is in
    let xs = openers h.n h.t present in
    let G = openers_group h.n h.t present (omega arith) in
    let reduced : (x : Row) → weighted (modulus h.field) xs (at 0 x) % modulus h.field ≡ value (setting_with present h) x =
    λ x. weighted_value M xs (at 0 x) (nodes_distinct xs G.points.distinct (λ z m. let l = G.points.most z m in omega arith)) in
    record {
      leans_on_present = λ x y k. (
        sym (reduced x)
            ∙ ap (λ (z : ℕ). z % modulus h.field) (weighted_cong (modulus h.field) xs (at 0 x) (at 0 y)
            (λ z m. let L = presence.opened_from h.n h.t present Q in k z (L.parties z m).0 (L.parties z m).1 (L.present_all z m)))
            ∙ reduced y,
        same_recorded (setting_with present h) x y (λ j l e. k (suc j) (omega arith) l e),
      );
      secret_is = λ x s. value_secret (setting_with present h) M P s;
      sum_fits = λ x b. unfold weighted in (sum_first.products_fit h.field f).four_products xs (weight (modulus h.field) xs) (at 0 x) (omega (arith, G.points.count))
          (λ z m. ((sum_first.products_fit h.field f).weights_below xs z, share_below (positive M) b z));
      reduced_last = reduced;
    }
  where
    share_below : {p : ℕ} {x : Row} → 0 < p → Below p x → (z : ℕ) → at 0 x z < p
    share_below h b zero = h
    share_below h b (suc j) = below_any h b j

same_accepted : {b c : ℕ} {s : List ℕ} → sheet_number b s ≡ sheet_number c s → Accepted b s → Accepted c s
same_accepted e A = record { lines = A.lines; end = A.end; number = sym e ∙ A.number; script = A.script }

pub present_runs : PresentRuns
present_runs =
    record {
      same_run = same_run;
      opened_by = opened_by;
      accepted = λ present s.
          let all = everyone (header_of s).n in (
            λ A. let Q = (sound present s A.number).permitted_set_lem in
                (same_accepted (same_number present all s (λ _. Q) (everyone_permitted s)) A, Q),
            λ h. same_accepted (same_number all present s (everyone_permitted s) (λ _. h.1)) h.0,
          );
      twelve = λ present s log revealed.
          let N = numbers.of_run present s log revealed in (
            λ e. (twelve present s).0 (sym (N.sheet_place_lem (inr e)).0 ∙ e),
            λ h. let e = (twelve present s).1 h in (N.sheet_place_lem (N.sheet_first.1 (λ z. omega arith))).0 ∙ e,
          );
      twelve_place = λ present s log revealed e. ((numbers.of_run present s log revealed).sheet_place_lem (inr e)).1;
      header_refused = header_refused;
      table_never = λ s log revealed e.
          let all = everyone (header_of s).n in
          let N = numbers.of_run all s log revealed in
          let t = (twelve all s).0 (sym (N.sheet_place_lem (inr e)).0 ∙ e) in
          t.1 (everyone_permitted s t.0);
    }
