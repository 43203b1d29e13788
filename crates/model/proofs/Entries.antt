-- When the small entries accept, as facts; and that sharing and recovery undo each other as entries.
-- Assumes nothing.
use mathlib.Core.Path.{◌≡◌, refl, sym, ap, ◌∙◌}
use mathlib.Core.Logic.{◌↔◌}
use mathlib.Core.Bool.{Bool, true, false}
use mathlib.Core.List.{List, [], ◌∷◌}
use Prim.Native.Nat.{ℕ, suc, ◌<◌}
use native.Mathlib.Omega.{arith}
use borrow.Author.Tests.{eq-eqb}
use lib.Dec.{T, ltb, eqb, eqb→eq, eqb_refl}
use lib.ListN.{length, take, drop}
use Rattle.algebra.specs.Lists.{Below, none, one, all_below}
use Rattle.algebra.specs.Rows.{padded}
use Rattle.algebra.proofs.Ring.{ring, mod-ring, reduced}
use Rattle.algebra.proofs.Lists.{all_below_lem, below_head}
use Rattle.algebra.proofs.Rows.{length_tab, get_or_tab, is_tab, take_row, padded_tab}
use Rattle.algebra.proofs.Tests.{and_left, and_right, and_both, is_true}
use Rattle.model.specs.Fields.{modulus, InUse, Modulus, Parties, field_tests, setting_tests}
use Rattle.model.specs.Sharing.{eval, share, Sharing, recover, secret, is_sharing}
use Rattle.model.specs.Refusing.{first_failed}
use Rattle.model.specs.Entries.{share_tests, recover_tests, share_number, share_left, recover_number, recover_value, recover_left}
use Rattle.model.specs.Shamir.{Entries, EveryEntry}
use Rattle.model.proofs.Trying.{given_done, passes, numbered, holding, others_decide, all_hold, all_pass, both_pass, front_passes, setting_numbered, setting_passes, setting_field, setting_people}
use Rattle.model.proofs.Fields.{fields}
use Rattle.model.proofs.Polynomials.{positive, eval_lt}
use Rattle.model.proofs.Sharings.{recover_sharing, secret_sharing, sharing_of, recover_share, secret_share, test_exact}

-- what share accepts, and what recover does
pub record Shares (f n t s : ℕ) (cs : List ℕ) (lent : ℕ) : Type 0 where
  pub field : InUse f
  pub people : Parties n t
  pub coefficients : length cs ≡ t
  pub room : lent ≡ n
  pub below : Below (modulus f) (s ∷ cs)

pub record Recovers (f n t : ℕ) (xs : List ℕ) (lent : ℕ) : Type 0 where
  pub field : InUse f
  pub people : Parties n t
  pub shares : length xs ≡ n
  pub room : lent ≡ t
  pub below : Below (modulus f) xs
  pub sharing : Sharing (modulus f) n t (padded xs)

-- share's answers
module _ (f n t s : ℕ) (cs : List ℕ) (lent : ℕ) where
  pub share_accepted : first_failed (share_tests f n t s cs lent) ≡ 0 → Shares f n t s cs lent
  unfolding all_below field_tests setting_tests share_tests holding numbered
  share_accepted e =
      let setting = front_passes (setting_tests f n t) _ (setting_numbered f n t) e in
      record {
        field = setting_field f n t refl setting;
        people = setting_people f n t refl setting;
        coefficients = eqb→eq (length cs) t (and_left (eqb (length cs) t) _ (passed_at 4));
        room = eqb→eq lent n (and_left (eqb lent n) true (and_right (eqb (length cs) t) _ (passed_at 4)));
        below = (all_below_lem (modulus f) (s ∷ cs)).0 (and_both (ltb s (modulus f)) (all_below (modulus f) cs) (and_left (ltb s (modulus f)) _ (passed_at 5)) (and_left (all_below (modulus f) cs) true (and_right (ltb s (modulus f)) _ (passed_at 5))));
      }
    where
      passed_at : (number : ℕ) → T (holding number (share_tests f n t s cs lent))
      passed_at number = all_hold number (share_tests f n t s cs lent) tt e

  pub share_accepts : Shares f n t s cs lent → first_failed (share_tests f n t s cs lent) ≡ 0
  unfolding all_below share_tests
  share_accepts A =
      let b = (all_below_lem (modulus f) (s ∷ cs)).1 A.below in
      both_pass (setting_tests f n t) _ (setting_passes f n t A.field A.people)
      (all_pass
      (one (rw A.coefficients (eqb_refl t))
      (one (rw A.room (eqb_refl n))
      (one (and_left (ltb s (modulus f)) (all_below (modulus f) cs) b) (one (and_right (ltb s (modulus f)) (all_below (modulus f) cs) b) none)))))

-- recover's answers
module _ (f n t : ℕ) (xs : List ℕ) (lent : ℕ) where
  pub recover_accepted : first_failed (recover_tests f n t xs lent) ≡ 0 → Recovers f n t xs lent
  unfolding field_tests setting_tests recover_tests holding numbered
  recover_accepted e =
      let field = setting_field f n t refl setting in
      let people = setting_people f n t refl setting in
      record {
        field = field;
        people = people;
        shares = eqb→eq (length xs) n (and_left (eqb (length xs) n) _ (passed_at 4));
        room = eqb→eq lent t (and_left (eqb lent t) true (and_right (eqb (length xs) n) _ (passed_at 4)));
        below = (all_below_lem (modulus f) xs).0 (and_left (all_below (modulus f) xs) true (passed_at 5));
        sharing = (test_exact (fields f field).modulus_is people (padded xs)).0 (and_left (is_sharing (modulus f) n t (padded xs)) true (passed_at 6));
      }
    where
      passed_at : (number : ℕ) → T (holding number (recover_tests f n t xs lent))
      passed_at number = all_hold number (recover_tests f n t xs lent) tt e

      setting : first_failed (setting_tests f n t) ≡ 0
      setting = front_passes (setting_tests f n t) _ (setting_numbered f n t) e

  -- after 2, 3, 4 and 5 only 6 is left to say
  pub only_six : InUse f → Parties n t → length xs ≡ n → lent ≡ t → Below (modulus f) xs
      → first_failed (recover_tests f n t xs lent) ≡ first_failed ((is_sharing (modulus f) n t (padded xs), 6) ∷ [])
  unfolding recover_tests
  only_six h P l r b =
      sym
      (others_decide (setting_tests f n t) _ (setting_numbered f n t) (sym (setting_passes f n t h P)) refl
      (passes 4 _ (eq-eqb (length xs) n l)
      (passes 4 _ (eq-eqb lent t r) (passes 5 _ (is_true (all_below (modulus f) xs) ((all_below_lem (modulus f) xs).1 b)) refl))))

  pub recover_accepts : Recovers f n t xs lent → first_failed (recover_tests f n t xs lent) ≡ 0
  recover_accepts A =
      only_six A.field A.people A.shares A.room A.below
      ∙ all_pass (one ((test_exact (fields f A.field).modulus_is A.people (padded xs)).1 A.sharing) none)

-- what they leave where they accept
pub share_left_lem : (f n t s : ℕ) (cs out : List ℕ) → share_number f n t s cs out ≡ 0 → share_left f n t s cs out ≡ take n (share (modulus f) n (s ∷ cs))
unfolding share_left
share_left_lem f n t s cs out e = given_done _ _ _ e

module _ (f n t : ℕ) (xs out : List ℕ) (e : recover_number f n t xs out ≡ 0) where
  pub recover_value_lem : recover_value f n t xs out ≡ secret (modulus f) t (padded xs)
  unfolding recover_value
  recover_value_lem = given_done _ _ _ e

  pub recover_left_lem : recover_left f n t xs out ≡ drop 1 (recover (modulus f) t (padded xs))
  unfolding recover_left
  recover_left_lem = given_done _ _ _ e

-- the shares of a row
padded_shares : (p n : ℕ) (cs : List ℕ) → padded (take n (share p n cs)) ≡ share p n cs
unfolding share
padded_shares p n cs = rw take_row (padded_tab n _)

shares_padded : (n : ℕ) (xs : List ℕ) → length xs ≡ n → take n (padded xs) ≡ xs
shares_padded n xs e = rw (e, take_row) (sym (is_tab n _ xs e (λ i h. refl)))

pub length_shares : (p n : ℕ) (cs : List ℕ) → length (take n (share p n cs)) ≡ n
unfolding share
length_shares p n cs = rw take_row (length_tab n _)

below_shares : {p : ℕ} → 0 < p → (n : ℕ) (cs : List ℕ) → Below p (take n (share p n cs))
unfolding share
below_shares {p} h n cs =
    rw take_row (record { at = λ i k. let l : i < n = rw length_tab at k in rw (get_or_tab n _ i l) (eval_lt h cs (suc i)) })

-- the constant term is the value at 0
eval_zero : {p : ℕ} → 0 < p → (c : ℕ) (cs : List ℕ) → c < p → eval p (c ∷ cs) 0 ≡ c
unfolding eval
eval_zero h c cs k = reduced k (simp mod-ring (ring h _ _ _ _ (omega arith)))

-- secret and coefficients together are what is recovered
together : {p n t : ℕ} → Modulus p → Parties n t → {x : List ℕ} → Sharing p n t x → secret p t x ∷ drop 1 (recover p t x) ≡ recover p t x
together {p} {n} {t} M P s =
    rw (secret_sharing M P s, recover_sharing M P s) (go s.poly s.size s.below)
  where
    go : (cs : List ℕ) → length cs ≡ suc t → Below p cs → eval p cs 0 ∷ drop 1 cs ≡ cs
    go [] l b = absurd (omega arith)
    go (c ∷ cs) l b = ap (λ (a : ℕ). a ∷ cs) (eval_zero (positive M) c cs (below_head b))

module _ (f : ℕ) {n t : ℕ} (h : InUse f) (P : Parties n t) where
  M : Modulus (modulus f)
  M = (fields f h).modulus_is

  undone : (s : ℕ) (cs out' : List ℕ) → length cs ≡ t → Below (modulus f) (s ∷ cs) → length out' ≡ t → (xs : List ℕ)
      → xs ≡ take n (share (modulus f) n (s ∷ cs))
      → (recover_number f n t xs out' ≡ 0) × (recover_value f n t xs out' ≡ s) × (recover_left f n t xs out' ≡ cs)
  undone s cs out' l b l' xs e =
      let q : padded xs ≡ share (modulus f) n (s ∷ cs) = rw e (padded_shares (modulus f) n (s ∷ cs)) in
      let N : recover_number f n t xs out' ≡ 0 = recover_accepts f n t xs (length out') (record {
        field = h;
        people = P;
        shares = ap length e ∙ length_shares _ n (s ∷ cs);
        room = l';
        below = rw e (below_shares (positive M) n (s ∷ cs));
        sharing = rw q (sharing_of M P (s ∷ cs) (ap suc l) b);
      }) in (
        N,
        recover_value_lem f n t xs out' N ∙ rw q (secret_share M P (s ∷ cs) (ap suc l) b ∙ eval_zero (positive M) s cs (below_head b)),
        recover_left_lem f n t xs out' N ∙ rw (q, recover_share M P (s ∷ cs) (ap suc l) b),
      )

  redone : (xs out out' : List ℕ) → length out' ≡ n → recover_number f n t xs out ≡ 0 → Recovers f n t xs (length out)
      → (share_number f n t (recover_value f n t xs out) (recover_left f n t xs out) out' ≡ 0)
      × (share_left f n t (recover_value f n t xs out) (recover_left f n t xs out) out' ≡ xs)
  redone xs out out' l e A =
      let cs = drop 1 (recover (modulus f) t (padded xs)) in
      let v = secret (modulus f) t (padded xs) in
      let S = A.sharing in
      let q : v ∷ cs ≡ S.poly = together M P S ∙ recover_sharing M P S in
      let N : share_number f n t v cs out' ≡ 0 = share_accepts f n t v cs (length out') (record {
        field = h;
        people = P;
        coefficients = omega (arith, ap length q, S.size);
        room = l;
        below = rw q S.below;
      }) in
      rw (recover_value_lem f n t xs out e, recover_left_lem f n t xs out e)
      (N, share_left_lem f n t v cs out' N ∙ rw (q, ← S.is) (shares_padded n xs A.shares))

  six : (xs out : List ℕ) → recover_number f n t xs out ≡ first_failed ((is_sharing (modulus f) n t (padded xs), 6) ∷ [])
      → (recover_number f n t xs out ≡ 6) ↔ (Sharing (modulus f) n t (padded xs) → ⊥)
  unfolding first_failed
  six xs out e = go (is_sharing (modulus f) n t (padded xs)) (test_exact M P (padded xs)) e
    where
      go : (b : Bool) → T b ↔ Sharing (modulus f) n t (padded xs) → recover_number f n t xs out ≡ first_failed ((b, 6) ∷ [])
          → (recover_number f n t xs out ≡ 6) ↔ (Sharing (modulus f) n t (padded xs) → ⊥)
      go true k q = (λ z. absurd (omega arith), λ no. absurd (no (k.0 tt)))
      go false k q = (λ z s. k.1 s, λ no. q)

  entries : Entries f n t
  entries =
      record {
        recover_undoes = λ s cs out e out' l.
            let A = share_accepted f n t s cs (length out) e in
            undone s cs out' A.coefficients A.below l _ (share_left_lem f n t s cs out e);
        share_undoes = λ xs out e out' l. redone xs out out' l e (recover_accepted f n t xs (length out) e);
        six_exact = λ xs out l k b. six xs out (only_six f n t xs (length out) h P l k b);
      }

pub every_entry : EveryEntry
every_entry f n t h P = entries f h P
