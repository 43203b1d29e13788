-- Before a replay: 1 to 5 refuse exactly where `ReplayReady` fails, in their order, and then the script; and the lines of a replay, one by one.
-- Assumes nothing.
use mathlib.Core.Path.{◌≡◌, refl, sym, ap, subst, ◌∙◌}
use mathlib.Core.Logic.{◌↔◌, ◌≢◌, ◌⊎◌, inl, inr}
use mathlib.Core.Bool.{Bool, true, false, ◌&&◌}
use mathlib.Core.List.{List, [], ◌∷◌, ◌++◌}
use Prim.Native.Nat.{ℕ, suc, ◌≤◌}
use native.Mathlib.Omega.{arith}
use borrow.Author.Tests.{eq-eqb}
use lib.Dec.{T, leb, eqb, leb→le, le→leb, eqb→eq}
use lib.ListN.{length}
use Rattle.algebra.specs.Lists.{Below, all_below, none, one}
use Rattle.algebra.proofs.Lists.{all_below_lem}
use Rattle.algebra.proofs.Tests.{and_left, and_right, and_both, is_false}
use Rattle.model.specs.Fields.{modulus}
use Rattle.model.specs.Refusing.{first_failed}
use Rattle.model.specs.Deal.{Setting, Row, Deal}
use Rattle.model.specs.Costs.{cost}
use Rattle.model.specs.Checks.{Spent, Supply, check}
use Rattle.model.specs.Commands.{Ended, through_lines}
use Rattle.model.specs.Sheet.{Header, header_of, inputs_at, limits, header_tests, limit_tests}
use Rattle.model.specs.Columns.{part_length, shares_in}
use Rattle.model.specs.Forecast.{head_length_tests}
use Rattle.model.specs.Replay.{Read, own_share, opening_number, from_record, by_record, replay_lines, party_tests, part_length_tests, own_share_tests, replay_tests, nothing_replayed, replay_script, replay}
use Rattle.model.specs.Replays.{ReplayReady, BeforeReplay, AtOpening, ByNodes, ByLines}
use Rattle.model.proofs.Trying.{given_refused, given_done, numbered, passes, fails, first_decide, others_decide, front_passes, others_pass, all_pass, both_pass}
use Rattle.model.proofs.Lengths.{header_numbered}

-- one test alone
one_passed : (b : Bool) (n : ℕ) → first_failed ((b, suc n) ∷ []) ≡ 0 → T b
unfolding first_failed
one_passed true n e = tt
one_passed false n e = absurd (omega arith)

eqb_of : (m n : ℕ) → m ≡ n → T (eqb m n)
eqb_of m n e = subst T (sym (eq-eqb m n e)) tt

-- "3 also covers a party number not from 1 to n"
party_test : (h : Header) (j : ℕ) → T (leb 1 j && leb j h.n) ↔ ((1 ≤ j) × (j ≤ h.n))
party_test h j = (
  λ t. (leb→le 1 j (and_left (leb 1 j) (leb j h.n) t), leb→le j h.n (and_right (leb 1 j) (leb j h.n) t)),
  λ k. and_both (leb 1 j) (leb j h.n) (le→leb 1 j k.0) (le→leb j h.n k.1),
)

module _ (j : ℕ) (head part : List ℕ) where
  abbrev h : Header
  h = header_of head

  -- the tests from the lengths' on, and from the party's on
  abbrev from_lengths : List (Bool × ℕ)
  from_lengths = head_length_tests h head ++ (part_length_tests h part ++ own_share_tests h part)

  abbrev from_party : List (Bool × ℕ)
  from_party = party_tests h j ++ (limit_tests h ++ from_lengths)

  passes_ready : first_failed (replay_tests j head part) ≡ 0 → ReplayReady j head part
  unfolding replay_tests party_tests limit_tests head_length_tests part_length_tests own_share_tests numbered
  passes_ready e =
      let e₁ = others_pass (header_tests head) from_party (header_numbered head) e in
      let e₂ = others_pass (party_tests h j) (limit_tests h ++ from_lengths) tt e₁ in
      let e₃ = others_pass (limit_tests h) from_lengths tt e₂ in
      let e₄ = others_pass (head_length_tests h head) (part_length_tests h part ++ own_share_tests h part) tt e₃ in
      record {
        header = front_passes (header_tests head) from_party (header_numbered head) e;
        party = (party_test h j).0 (one_passed _ 2 (front_passes (party_tests h j) (limit_tests h ++ from_lengths) tt e₁));
        limits = front_passes (limit_tests h) from_lengths tt e₂;
        head_length = eqb→eq (length head) (inputs_at h) (one_passed _ 3 (front_passes (head_length_tests h head) _ tt e₃));
        part_length = eqb→eq (length part) (part_length h) (one_passed _ 3 (front_passes (part_length_tests h part) (own_share_tests h part) tt e₄));
        shares = (all_below_lem (modulus h.field) (shares_in h part)).0 (one_passed _ 4 (others_pass (part_length_tests h part) (own_share_tests h part) tt e₄));
      }

  ready_passes : ReplayReady j head part → first_failed (replay_tests j head part) ≡ 0
  unfolding replay_tests party_tests head_length_tests part_length_tests own_share_tests
  ready_passes R =
      both_pass (header_tests head) _ R.header
      (both_pass (party_tests h j) _ (all_pass (one ((party_test h j).1 R.party) none))
      (both_pass (limit_tests h) _ R.limits
      (all_pass
      (one (eqb_of (length head) (inputs_at h) R.head_length)
      (one (eqb_of (length part) (part_length h) R.part_length)
      (one ((all_below_lem (modulus h.field) (shares_in h part)).1 R.shares) none))))))

  -- what is asked is what is tested
  pub ready : ReplayReady j head part ↔ (first_failed (replay_tests j head part) ≡ 0)
  ready = (ready_passes, passes_ready)

-- one of three tests with the number 4 fails
fours : (a b c : Bool) (xs : List (Bool × ℕ)) → (T a → T b → T c → ⊥) → 4 ≡ first_failed ((a, 4) ∷ (b, 4) ∷ (c, 4) ∷ xs)
unfolding first_failed
fours true true true xs k = absurd (k tt tt tt)
fours true true false xs k = refl
fours true false c xs k = refl
fours false b c xs k = refl

module _ (j : ℕ) (head part log : List ℕ) where
  replay_refused : {n : ℕ} → n ≢ 0 → n ≡ first_failed (replay_tests j head part) → replay j head part log ≡ nothing_replayed n 0
  unfolding replay
  replay_refused z e = rw e (given_refused (first_failed (replay_tests j head part)) _ _ (λ q. z (e ∙ q)))

  -- after 1, 2 and 3 of the header
  after_header : {n : ℕ} → n ≢ 0 → first_failed (header_tests head) ≡ 0 → n ≡ first_failed (from_party j head part)
      → replay j head part log ≡ nothing_replayed n 0
  unfolding replay_tests
  after_header z e k = replay_refused z (others_decide (header_tests head) (from_party j head part) (header_numbered head) refl e k)

  -- and after 3 of the party
  after_party : {n : ℕ} → n ≢ 0 → first_failed (header_tests head) ≡ 0 → (1 ≤ j) × (j ≤ (header_of head).n)
      → n ≡ first_failed (limit_tests (header_of head) ++ from_lengths j head part) → replay j head part log ≡ nothing_replayed n 0
  unfolding party_tests numbered
  after_party z e k q =
      let h = header_of head in
      after_header z e (others_decide (party_tests h j) _ tt refl (all_pass (one ((party_test h j).1 k) none)) q)

  lengths_next : first_failed (header_tests head) ≡ 0 → (1 ≤ j) × (j ≤ (header_of head).n)
      → (first_failed (limit_tests (header_of head)) ≢ 0) ⊎ ((length head ≢ inputs_at (header_of head)) ⊎ (length part ≢ part_length (header_of head)))
      → replay j head part log ≡ nothing_replayed 4 0
  unfolding limit_tests head_length_tests part_length_tests
  lengths_next e k w =
      let h = header_of head in
      after_party (λ q. omega arith) e k
      (fours (limits h) (eqb (length head) (inputs_at h)) (eqb (length part) (part_length h)) _ (go w))
    where
      go : (first_failed (limit_tests (header_of head)) ≢ 0) ⊎ ((length head ≢ inputs_at (header_of head)) ⊎ (length part ≢ part_length (header_of head)))
          → T (limits (header_of head)) → T (eqb (length head) (inputs_at (header_of head))) → T (eqb (length part) (part_length (header_of head))) → ⊥
      go (inl z) a b c = z (all_pass (one a none))
      go (inr (inl z)) a b c = z (eqb→eq (length head) (inputs_at (header_of head)) b)
      go (inr (inr z)) a b c = z (eqb→eq (length part) (part_length (header_of head)) c)

  shares_next : first_failed (header_tests head) ≡ 0 → (1 ≤ j) × (j ≤ (header_of head).n) → first_failed (limit_tests (header_of head)) ≡ 0
      → length head ≡ inputs_at (header_of head) → length part ≡ part_length (header_of head)
      → (Below (modulus (header_of head).field) (shares_in (header_of head) part) → ⊥) → replay j head part log ≡ nothing_replayed 5 0
  unfolding limit_tests head_length_tests part_length_tests own_share_tests numbered
  shares_next e k l a b z =
      let h = header_of head in
      let p = modulus h.field in
      after_party (λ q. omega arith) e k
      (others_decide (limit_tests h) _ tt refl l
      (passes 4 _ (eq-eqb (length head) (inputs_at h) a)
      (passes 4 _ (eq-eqb (length part) (part_length h) b)
      (fails 5 [] (is_false (all_below p (shares_in h part)) (λ t. z ((all_below_lem p (shares_in h part)).0 t)))))))

  pub before : BeforeReplay j head part log
  unfolding replay_tests party_tests replay replay_script
  before =
      record {
        header_first = λ z. replay_refused z (first_decide (header_tests head) _ refl z);
        party_next = λ e z.
            let h = header_of head in
            after_header (λ q. omega arith) e (fails 3 _ (is_false (leb 1 j && leb j h.n) (λ t. z ((party_test h j).0 t))));
        lengths_next = lengths_next;
        shares_next = shares_next;
        script_next = λ number place R q. rw (ready_passes j head part R, q) refl;
        lines_last = λ xs end R q. rw (ready_passes j head part R, q) refl;
      }

-- The lines of a replay: at their end, refused before a command or inside it, or gone on with what it leaves.
pub by_lines : (S : Setting) (j : ℕ) (u : Supply) (input : List Row) (end : ℕ) (s : Spent) (g : List Row) (d : Deal) (log : List ℕ)
    → ByLines S j u input end s g d log
unfolding replay_lines through_lines
by_lines S j u input end s g d log =
    record {
      at_end = refl;
      refused_before = λ x xs z. ap (λ (f : Deal → List ℕ → Ended Row). f d log) (given_refused (check u (cost S x.command) s) _ _ z);
      refused_inside = λ x xs number e k. rw (e, k) refl;
      goes_on = λ x xs g' d' log' e k. rw (e, k) refl;
    }

-- The openings of a replay, node by node.
module _ (S : Setting) (j : ℕ) (log : List ℕ) where
  at_opening : (x : Row) (go : ℕ → List ℕ → Read (List Row)) → AtOpening S j x log go (from_record S j x log go)
  unfolding from_record
  at_opening x go =
      record { refused = λ z. given_refused (opening_number S.p S.n S.t j (own_share x) log) _ _ z; goes_on = λ e. given_done (opening_number S.p S.n S.t j (own_share x) log) _ _ e }

pub by_nodes : (S : Setting) (j : ℕ) (d : Deal) (log : List ℕ) → ByNodes S j d log
unfolding by_record
by_nodes S j d log =
    record {
      opens = at_opening S j log;
      ends = λ g. refl;
      multiplies = λ left right go. at_opening S j log _ _;
      masks = λ x go. at_opening S j log _ _;
      reveals = λ x rest. at_opening S j log _ _;
    }
