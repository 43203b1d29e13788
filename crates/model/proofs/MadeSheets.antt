-- The run of a sheet that is made of header, script, input and a well-formed deal: it is the run of the script's lines on them.
-- Assumes nothing.
use mathlib.Core.Path.{◌≡◌, sym, subst, ◌∙◌}
use mathlib.Core.Bool.{Bool}
use mathlib.Core.List.Memᴰ.{head as here}
use mathlib.Core.List.Memᴰ.{tail as there}
use mathlib.Core.List.{List, ◌++◌, Memᴰ as In}
use Prim.Native.Nat.{ℕ, suc, ◌<◌}
use native.Mathlib.Omega.{arith}
use lib.Dec.{T, eqb_refl}
use lib.ListN.{length, take}
use Rattle.algebra.specs.Lists.{All, none, one, all_below}
use Rattle.algebra.proofs.Lists.{all_below_lem}
use Rattle.algebra.proofs.Rows.{length_tab, get_or_tab, take_row, row_at_lem, row_again}
use Rattle.algebra.proofs.Tests.{and_both}
use Rattle.model.specs.Fields.{Modulus, Parties}
use Rattle.model.specs.Sharing.{share, Sharing}
use Rattle.model.specs.Presence.{everyone, PermittedSet}
use Rattle.model.specs.Steps.{Row, Deal}
use Rattle.model.specs.Script.{Line, accepted, script_of}
use Rattle.model.specs.Sheet.{Header, largest_in, setting_with, setting_of, implied_length, all, deal_rows, good_mask, good_triple, shares_below, a_sharing, header_tests, present_tests, limit_tests, length_tests, row_tests, sheet_tests, sheet_number, Permitted, sheet_of}
use Rattle.model.specs.Making.{SheetRow, FitsHeader, Says}
use Rattle.model.specs.Run.{start, run_lines, outcome, supply_of, run_script, sheet_script, stop_of, run}
use Rattle.model.specs.Secrecy.{WellFormed}
use Rattle.model.proofs.Fields.{below_four, fields}
use Rattle.model.proofs.Lengths.{HeaderRead, header_passes, fitting}
use Rattle.model.proofs.Trying.{all_pass, both_pass}
use Rattle.model.proofs.Polynomials.{positive, eval_lt}
use Rattle.model.proofs.Sharings.{test_exact}
use Rattle.model.proofs.Making.{making}
use Rattle.model.proofs.Taking.{all_append}
use Rattle.model.proofs.Presence.{presence}
use Rattle.model.proofs.Acceptance.{all_map, same_masks, same_triples}

-- what an accepted sheet says of its header, script and input
pub record Facts (present : ℕ) (h : Header) (script : List ℕ) (input : List Row) (xs : List Line) (end : ℕ) : Type 0 where
  pub permitted : Permitted h
  pub permitted_set_lem : PermittedSet h.n h.t present
  pub script_is : script_of (setting_of h).p (largest_in h) script ≡ accepted xs end
  pub script_length : length script ≡ h.script
  pub sharings : All (Sharing (setting_of h).p h.n h.t) input
  pub inputs : length input ≡ h.inputs

pub each_all : {A : Type 0} (f : A → Bool) {xs : List A} → All (λ x. T (f x)) xs → T (all f xs)
unfolding all
each_all f none = tt
each_all f (one {x} {xs} t ts) = and_both (f x) (all f xs) t (each_all f ts)

pub all_in : {A : Type 0} {P : A → Type 0} {xs : List A} → All P xs → (x : A) → In x xs → P x
all_in {P = P} (one p ps) x (here e) = subst P (sym e) p
all_in (one p ps) x (there m) = all_in ps x m
all_in {A = A} {P = P} none x x6 = elim x6 [ ]

module _ {p n t : ℕ} (M : Modulus p) (P : Parties n t) where
  -- a sharing is a row of a sheet, and its shares are below p
  sheet_row : {x : Row} → Sharing p n t x → SheetRow n x
  unfolding share
  sheet_row s =
      record {
        is = s.is ∙ sym (rw s.is (row_again n _));
        small = λ j k. rw (s.is, row_at_lem n _ j k) (omega (arith, eval_lt (positive M) s.poly (suc j), M.word));
      }

  pub low_shares : (x : Row) → Sharing p n t x → T (all_below p (take n x))
  unfolding share
  low_shares x s =
      (all_below_lem p (take n x)).1
      (rw (s.is, take_row n _) (record { at = λ i k. let l : i < n = rw length_tab at k in rw (get_or_tab n _ i l) (eval_lt (positive M) s.poly (suc i)) }))

module _ {present : ℕ} {h : Header} {script : List ℕ} {input : List Row} {xs : List Line} {end : ℕ} (F : Facts present h script input xs end) {d : Deal}
    (W : WellFormed h d) where
  P : Parties h.n h.t
  P = F.permitted.people

  M : Modulus (setting_of h).p
  M = (fields h.field F.permitted.field).modulus_is

  rows_are : All (Sharing (setting_of h).p h.n h.t) (input ++ deal_rows d)
  rows_are = all_append F.sharings W.sharings

  parts : FitsHeader h script input d
  parts =
      let L = fitting h F.permitted in
      record {
        field_fits = omega (arith, below_four h.field F.permitted.field);
        n_fits = omega (arith, P);
        t_fits = omega (arith, P);
        inputs_fit = omega arith;
        masks_fit = omega arith;
        triples_fit = omega arith;
        script_fits = omega arith;
        script_length = F.script_length;
        inputs_length = F.inputs;
        masks_length = W.masks;
        triples_length = W.triples;
        mask_lengths = all_in W.bits_each;
        rows = λ x m. sheet_row M P (all_in rows_are x m);
      }

  pub says : Says (sheet_of h script input d) h script input d
  says = making.reading_undoes h script input d parts

  pub not_refused : sheet_number present (sheet_of h script input d) ≡ 0
  unfolding sheet_tests present_tests limit_tests length_tests row_tests
  not_refused =
      let S = setting_with present h in
      both_pass (header_tests (sheet_of h script input d)) _ (header_passes (sheet_of h script input d) header_good)
      (rw (says.header_is, says.input_is, says.deal_is, says.length_is)
      (all_pass
      (one ((presence.tested h.n h.t present).1 F.permitted_set_lem)
      (one F.permitted.counts
      (one (eqb_refl (implied_length h))
      (one (each_all (shares_below S) (all_map (low_shares M P) rows_are))
      (one (each_all (a_sharing S) (all_map (λ x s. (test_exact M P x).1 s) rows_are))
      (one (each_all (good_mask S) (same_masks (everyone h.n) present h W.good_masks))
      (one (each_all (good_triple S) (same_triples (everyone h.n) present h W.good_triples)) none)))))))))
    where
      header_good : HeaderRead (sheet_of h script input d)
      header_good =
          record {
            long = rw (says.header_is, says.length_is) (unfold implied_length in omega arith);
            field = rw says.header_is F.permitted.field;
            people = rw says.header_is P;
          }

  pub script_read : sheet_script (sheet_of h script input d) ≡ accepted xs end
  script_read = rw (says.header_is, says.script_is) F.script_is

  pub made_stop : (log shown : ℕ) → stop_of present (sheet_of h script input d) log shown
      ≡ run_lines (setting_with present h) (supply_of h log shown) input end xs (start d)
  unfolding stop_of run_script
  made_stop log shown =
      rw (not_refused, script_read, says.header_is, says.input_is, says.deal_is)

  pub made_run : (a b : List ℕ) → run present (sheet_of h script input d) a b
      ≡ outcome (setting_with present h) a b (run_lines (setting_with present h) (supply_of h (length a) (length b)) input end xs (start d))
  unfolding run
  made_run a b = rw (says.header_is, made_stop (length a) (length b))
