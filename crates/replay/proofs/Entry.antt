-- The entry by the tests before the run, and the lines after them.
-- Assumes nothing.
use mathlib.Core.Path.{◌≡◌, refl, sym, ap, ◌∙◌}
use mathlib.Core.Logic.{◌≢◌, ◌⊎◌, inl, inr}
use mathlib.Core.Bool.{Bool, true, false, ◌&&◌}
use mathlib.Core.List.{List, [], ◌∷◌, ◌++◌}
use Prim.Native.Nat.{ℕ, zero, suc, ◌+◌, ◌*◌, ◌≤◌, ◌<◌}
use native.Mathlib.Omega.{arith}
use borrow.Author.Tests.{eq-eqb, ne_eqb}
use lib.Dec.{leb, ltb, leb→le, le→leb}
use lib.ListN.{length, get_or, take}
use Rattle.algebra.specs.Lists.{all_below}
use Rattle.algebra.specs.Rows.{tab, row}
use Rattle.algebra.proofs.Rows.{tab_ext}
use Rattle.algebra.proofs.Tests.{and_left, and_right, and_both, is_true, is_false}
use Rattle.refusals.specs.declared.Refusal.{Refusal}
use Rattle.refusals.specs.declared.Refused.{Refused}
use Rattle.refusals.specs.Numbers.{number_of}
use Rattle.refusals.proofs.Numbers.{numbered as no_refusal}
use Rattle.model.specs.Bytes.{number, row_at}
use Rattle.model.specs.Fields.{modulus}
use Rattle.model.specs.Refusing.{first_failed}
use Rattle.model.specs.Run.{sheet_script}
use Rattle.model.specs.Script.{Script, accepted, refused, script_of}
use Rattle.model.specs.Sheet.{Header, header_of, header_size, inputs_at, row_count, rows_at, all, header_tests, limit_tests}
use Rattle.model.specs.Columns.{part_length, shares_in}
use Rattle.model.specs.Forecast.{head_length_tests}
use Rattle.model.specs.Replay.{Replayed, part_input, part_deal, party_tests, part_length_tests, own_share_tests, replay_tests, nothing_replayed, replayed_by, replay_script, replay}
use Rattle.model.specs.Replays.{ReplayReady}
use Rattle.model.proofs.ReplayTests.{ready, before}
use Rattle.model.proofs.Trying.{numbered, passes, fails, nothing_left, others_decide, others_pass, given_refused}
use Rattle.model.proofs.Refusals.{script_late}
use Rattle.model.proofs.Lengths.{header_field, header_numbered}
use Rattle.sheet.specs.declared.frame.Frame.{Frame}
use Rattle.sheet.specs.declared.header.Header as Code
use Rattle.sheet.specs.Framed.{Headed}
use Rattle.sheet.specs.Reading.{numbers_of}
use Rattle.sheet.proofs.Answers.{refused_first, passed_first, header_long}
use Rattle.sheet.proofs.Headers.{bits_in, mask_rows_in}
use Rattle.sheet.proofs.Scripts.{script_part, script_read}
use Rattle.script.specs.Meaning.{script_number, script_place}
use Rattle.column_commands.specs.declared.own.Own.{Own}
use Rattle.replay.specs.declared.lines.Stopped.{Stopped}
use Rattle.replay.specs.Lines.{Prepared, ended_of, script_replayed, lines_replayed}
use Rattle.replay.specs.Owning.{Framing, OwnFor}

-- 5, over rows of one share and over the shares of the part
one_more : (p x : ℕ) (b c : Bool) → b ≡ c → (all_below p (x ∷ []) && b) ≡ (ltb x p && c)
unfolding all_below
one_more p x b c e = rw e (go (ltb x p))
  where
    go : (a : Bool) → ((a && true) && c) ≡ (a && c)
    go true = refl
    go false = refl

pub below_rows : (p : ℕ) (part : List ℕ) (i count : ℕ)
    → all (λ x. all_below p (take 1 x)) (rows_at part 1 i count) ≡ all_below p (tab count (λ j. number 4 part (i + 4 * j)))
unfolding all rows_at row_at row tab all_below
below_rows p part i zero = refl
below_rows p part i (suc count) =
    one_more p _ _ _ (below_rows p part (i + 4 * 1) count ∙ ap (all_below p) (tab_ext count _ _ (λ j _. ap (number 4 part) (further j))))
  where
    further : (j : ℕ) → i + 4 * 1 + 4 * j ≡ i + 4 * suc j
    further j = omega arith

-- "a party number not from 1 to n"
pub none_seated : (j n : ℕ) → j < 1 → false ≡ (leb 1 j && leb j n)
none_seated j n h = sym (rw (is_false (leb 1 j) (λ t. omega (arith, leb→le 1 j t))) refl)

pub some_seated : (j n m : ℕ) → 1 ≤ j → m ≡ n → leb j m ≡ (leb 1 j && leb j n)
some_seated j n m h e = rw (is_true (leb 1 j) (le→leb 1 j h), e)

-- the tests before the run, in their order: after 1, 2 and 3
pub record Seated (j : ℕ) (head : List ℕ) : Type 0 where
  pub header : 0 ≡ first_failed (header_tests head)
  pub least : 1 ≤ j
  pub most : j ≤ (header_of head).n

module _ (j : ℕ) (head : List ℕ) where
  abbrev h : Header
  h = header_of head

  module _ (part : List ℕ) where
    pub header_refused : (r : Refusal) → number_of r ≡ first_failed (header_tests head) → number_of r ≡ first_failed (replay_tests j head part)
    unfolding replay_tests
    header_refused r e = refused_first (header_tests head) _ r e

    pub party_out : {code : Code.Header} → 0 ≡ first_failed (header_tests head) → numbers_of code ≡ header_of head → (j < 1) ⊎ ((1 ≤ j) × (code.n < j))
        → 3 ≡ first_failed (replay_tests j head part)
    unfolding replay_tests party_tests
    party_out {code} e q w = passed_first (header_tests head) _ (header_numbered head) e (fails 3 _ (outside w))
      where
        outside : (j < 1) ⊎ ((1 ≤ j) × (code.n < j)) → (leb 1 j && leb j h.n) ≡ false
        outside (inl l) = is_false _ (λ t. omega (arith, l, leb→le 1 j (and_left (leb 1 j) (leb j h.n) t)))
        outside (inr l) =
            is_false _ (λ t. omega (arith, l, ap (λ (x : Header). x.n) q, leb→le j h.n (and_right (leb 1 j) (leb j h.n) t)))

  pub seated : {code : Code.Header} → 0 ≡ first_failed (header_tests head) → numbers_of code ≡ header_of head → 1 ≤ j → j ≤ code.n → Seated j head
  seated e q least most = record { header = e; least = least; most = omega (arith, most, ap (λ (x : Header). x.n) q) }

  module _ (part : List ℕ) (S : Seated j head) where
    party_in : {n : ℕ} (xs : List (Bool × ℕ)) → n ≡ first_failed xs → n ≡ first_failed (header_tests head ++ (party_tests h j ++ xs))
    unfolding party_tests
    party_in xs k =
        passed_first (header_tests head) _ (header_numbered head) S.header
        (passes 3 _ (is_true _ (and_both (leb 1 j) (leb j h.n) (le→leb 1 j S.least) (le→leb j h.n S.most))) k)

    pub count_refused : (r : Refusal) → number_of r ≡ first_failed (header_tests head ++ limit_tests (header_of head)) → number_of r ≡ first_failed (replay_tests j head part)
    unfolding replay_tests
    count_refused r k =
        party_in _ (refused_first (limit_tests h) _ r (k ∙ sym (others_decide (header_tests head) (limit_tests h) (header_numbered head) S.header refl refl)))

    module _ {f : Frame} (F : (0 ≡ first_failed (header_tests head ++ limit_tests (header_of head))) × Headed (header_of head) f) where
      abbrev H : Headed h f
      H = F.1

      lengths : {n : ℕ} → n ≡ first_failed (head_length_tests h head ++ (part_length_tests h part ++ own_share_tests h part)) → n ≡ first_failed (replay_tests j head part)
      unfolding replay_tests limit_tests numbered
      lengths k = party_in _ (passed_first (limit_tests h) _ tt (sym (others_pass (header_tests head) (limit_tests h) (header_numbered head) (sym F.0))) k)

      pub head_wrong : length head ≢ f.input → 4 ≡ first_failed (replay_tests j head part)
      unfolding head_length_tests
      head_wrong z = lengths (fails 4 _ (ne_eqb (length head) (inputs_at h) (λ e. z (omega (arith, e, H.inputs_place, H.script_is)))))

      module _ (whole : length head ≡ f.input) {rows : ℕ} (count : rows ≡ f.inputs + f.l * f.masks + 3 * f.triples) where
        count_is : rows ≡ row_count h
        count_is = count ∙ rw (H.inputs_is, H.l_is, H.masks_is, H.triples_is) (omega arith)

        rows_are : 4 * rows ≡ part_length h
        rows_are = rw (count, H.inputs_is, H.l_is, H.masks_is, H.triples_is) (omega arith)

        part_next : {n : ℕ} → n ≡ first_failed (part_length_tests h part ++ own_share_tests h part) → n ≡ first_failed (replay_tests j head part)
        unfolding head_length_tests
        part_next k = lengths (passes 4 _ (eq-eqb (length head) (inputs_at h) (omega (arith, whole, H.inputs_place, H.script_is))) k)

        pub part_wrong : length part ≢ 4 * rows → 4 ≡ first_failed (replay_tests j head part)
        unfolding part_length_tests
        part_wrong z = part_next (fails 4 _ (ne_eqb (length part) (part_length h) (λ e. z (e ∙ sym rows_are))))

        shares_are : {b : Bool} → b ≡ all (λ x. all_below f.p (take 1 x)) (rows_at part 1 0 rows) → all_below (modulus h.field) (shares_in h part) ≡ b
        unfolding shares_in
        shares_are t =
            sym (t ∙ below_rows f.p part 0 rows ∙ rw (count_is, H.p_is) (ap (all_below (modulus h.field)) (tab_ext (row_count h) _ _ (λ i _. ap (number 4 part) (none i)))))
          where
            none : (i : ℕ) → 0 + 4 * i ≡ 4 * i
            none i = omega arith

        module _ (long : length part ≡ 4 * rows) where
          after_length : {n : ℕ} → n ≡ first_failed (own_share_tests h part) → n ≡ first_failed (replay_tests j head part)
          unfolding part_length_tests
          after_length k = part_next (passes 4 _ (eq-eqb (length part) (part_length h) (long ∙ rows_are)) k)

          pub shares_wrong : false ≡ all (λ x. all_below f.p (take 1 x)) (rows_at part 1 0 rows) → 5 ≡ first_failed (replay_tests j head part)
          unfolding own_share_tests
          shares_wrong t = after_length (fails 5 _ (shares_are t))

          pub shares_right : true ≡ all (λ x. all_below f.p (take 1 x)) (rows_at part 1 0 rows) → 0 ≡ first_failed (replay_tests j head part)
          unfolding own_share_tests
          shares_right t = after_length (passes 5 _ (shares_are t) nothing_left)

-- after 1 to 5
pub replay_refused : (j : ℕ) (head part log : List ℕ) (r : Refusal) {a : Replayed} → number_of r ≡ first_failed (replay_tests j head part) → a ≡ nothing_replayed (number_of r) 0
    → a ≡ replay j head part log
unfolding replay
replay_refused j head part log r e q = q ∙ rw (← e) (sym (given_refused (number_of r) _ _ (λ z. omega (arith, no_refusal r, z))))

pub all_ready : (j : ℕ) (head part : List ℕ) → 0 ≡ first_failed (replay_tests j head part) → ReplayReady j head part
all_ready j head part e = (ready j head part).1 (sym e)

-- the header's first byte, its field
pub byte_there : {j : ℕ} {head part : List ℕ} → ReplayReady j head part → 0 < length head
unfolding header_size
byte_there {head = head} R = omega (arith, header_long head (sym R.header))

pub field_is : (head : List ℕ) {field : ℕ} → field ≡ get_or head 0 0 → field ≡ (header_of head).field
unfolding header_of
field_is head e = e

-- the script, and the lines
module _ {j : ℕ} {head part : List ℕ} (R : ReplayReady j head part) {f : Frame} (H : Headed (header_of head) f) where
  abbrev script : List ℕ
  script = script_part head f

  pub script_refused : (log : List ℕ) (x : Refused) {r : Replayed} → number_of x.refusal ≡ script_number (script_of f.p f.largest script)
      → x.place ≡ script_place (script_of f.p f.largest script) → r ≡ nothing_replayed (number_of x.refusal) x.place → r ≡ replay j head part log
  script_refused log x en ep a = a ∙ go (sheet_script head) refl (en ∙ rw (script_read head H)) (ep ∙ rw (script_read head H))
    where
      go : (y : Script) → sheet_script head ≡ y → number_of x.refusal ≡ script_number y → x.place ≡ script_place y
          → nothing_replayed (number_of x.refusal) x.place ≡ replay j head part log
      go (accepted xs end) q en ep = absurd (omega (arith, no_refusal x.refusal, en))
      go (refused c i) q en ep = rw (en, ep) (sym ((before j head part log).script_next c i R q))

  pub framing : {field : ℕ} → field ≡ (header_of head).field → Framing f field j
  framing e =
      record {
        in_use = rw e H.in_use;
        p_is = H.p_is ∙ rw e;
        bits = bits_in H;
        parties = H.parties;
        least = R.party.0;
        most = rw H.n_is R.party.1;
        inputs = H.inputs_most;
        masks = mask_rows_in H;
      }

  module _ {o : Own} (O : OwnFor f j o) (z : 0 ≡ script_number (script_of f.p f.largest script)) where
    pub prepared : Prepared o f script part
    prepared =
        record {
          working = O.column.working;
          field = rw (H.p_is, H.l_is, H.k_is) (header_field (header_of head) H.in_use);
          p_is = O.column.p_is;
          l_is = O.column.l_is;
          largest_is = O.largest_is;
          n_is = O.column.n_is;
          inputs_is = O.inputs_is;
          mask_is = O.mask_is;
          triple_is = O.triple_is;
          part_is = rw (H.inputs_is, H.l_is, H.masks_is, H.triples_is) R.part_length;
          unrefused = sym z;
        }

    -- the lines as the definition has them
    same_lines : (log : List ℕ) (x : Script) → 0 ≡ script_number x → sheet_script head ≡ x → replayed_by (script_replayed o f part log x) ≡ replay j head part log
    unfolding replay replay_script part_input part_deal
    same_lines log (refused n place) z q = absurd (omega (arith, script_late f.p f.largest script (script_read head H ∙ q)))
    same_lines log (accepted xs end) z q =
        let C = O.column in
        rw ((ready j head part).0 R, q, C.p_is, C.l_is, C.n_is, C.t_is, C.party_is, O.inputs_is, O.mask_is, O.triple_is, H.p_is, H.l_is, H.n_is, H.t_is, H.inputs_is, H.masks_is, H.triples_is)

    pub lines_answer : (log : List ℕ) (st : Stopped) {r : Replayed} → ended_of st ≡ lines_replayed o f script part log → r ≡ replayed_by (ended_of st) → r ≡ replay j head part log
    lines_answer log st e a = a ∙ ap replayed_by e ∙ same_lines log (script_of f.p f.largest script) z (sym (script_read head H))
