-- What share, recover and sum answer and leave: where nothing refuses, what was put; in a refusal, what stood there.
-- Assumes nothing.
use mathlib.Core.Path.{◌≡◌, refl, sym, ◌∙◌}
use mathlib.Core.Bool.{true}
use mathlib.Core.List.{List, [], ◌∷◌, ◌++◌}
use Prim.Native.Nat.{ℕ, ◌<◌}
use native.Mathlib.Omega.{arith}
use lib.Dec.{ltb, eqb, eqb→eq}
use lib.ListN.{length, take, drop}
use Rattle.algebra.specs.Lists.{all_below, onto_at}
use Rattle.algebra.specs.Rows.{padded}
use Rattle.algebra.proofs.Lists.{onto_all, onto_at_start}
use Rattle.algebra.proofs.Tests.{and_left, and_right}
use Rattle.model.specs.Fields.{modulus, InUse, Parties, field_tests, setting_tests}
use Rattle.model.specs.Sharing.{share, recover, secret, secret_sum}
use Rattle.model.specs.Refusing.{first_failed}
use Rattle.model.specs.Entries.{share_tests, share_number, share_left, recover_tests, recover_number, recover_value, recover_left, sum_number, sum_value}
use Rattle.model.proofs.Trying.{given_refused, numbered, holding, up_to, all_hold, first_pass, front_passes, setting_numbered, setting_field, setting_people}
use Rattle.model.proofs.Entries.{share_accepted, share_left_lem, length_shares, recover_value_lem, recover_left_lem}
use Rattle.model.proofs.SumFirst.{sum_number_lem, sum_value_lem, sum_refused}

-- what is known where share answers neither 2, 3 nor 4, whatever it refuses after them
pub record Fits (f n t lent : ℕ) : Type 0 where
  pub field : InUse f
  pub people : Parties n t
  pub room : lent ≡ n

module _ (f n t s : ℕ) (cs out : List ℕ) {r : ℕ} (e : r ≡ share_number f n t s cs out) where
  pub share_fits : (0 < r → 4 < r) → Fits f n t (length out)
  unfolding field_tests setting_tests share_tests numbered up_to holding
  share_fits k =
      let xs = setting_tests f n t ++ ((eqb (length cs) t, 4) ∷ (eqb (length out) n, 4) ∷ []) in
      let z = first_pass 4 xs ((ltb s (modulus f), 5) ∷ (all_below (modulus f) cs, 5) ∷ []) tt tt e k in
      let setting = front_passes (setting_tests f n t) _ (setting_numbered f n t) z in
      record {
        field = setting_field f n t refl setting;
        people = setting_people f n t refl setting;
        room = eqb→eq (length out) n (and_left (eqb (length out) n) true (and_right (eqb (length cs) t) _ (all_hold 4 xs tt z)));
      }

module _ (f n t s : ℕ) (cs out : List ℕ) where
  pub shared : 0 ≡ share_number f n t s cs out → {p : ℕ} → p ≡ modulus f → {x last : List ℕ} → x ≡ share p n (s ∷ cs) → last ≡ onto_at 0 (take n x) out
      → last ≡ share_left f n t s cs out
  shared e q x-is w =
      let A = share_accepted f n t s cs (length out) (sym e) in
      w ∙ onto_at_start _ out ∙ onto_all _ out (rw (x-is, length_shares) (omega (arith, A.room))) ∙ rw (x-is, q) (sym (share_left_lem f n t s cs out (sym e)))

  pub share_refused : {r : ℕ} → r ≡ share_number f n t s cs out → 0 < r → out ≡ share_left f n t s cs out
  unfolding share_left
  share_refused e h = sym (given_refused (share_number f n t s cs out) _ _ (λ z. omega arith))

module _ (f n t : ℕ) (xs out : List ℕ) where
  module _ (e : 0 ≡ recover_number f n t xs out) {x : List ℕ} (x-is : x ≡ padded xs) where
    pub recovered_value : {p v : ℕ} → p ≡ modulus f → v ≡ secret p t x → v ≡ recover_value f n t xs out
    recovered_value q w = w ∙ rw (x-is, q) (sym (recover_value_lem f n t xs out (sym e)))

    pub recovered_left : {last : List ℕ} → last ≡ drop 1 (recover (modulus f) t x) → last ≡ recover_left f n t xs out
    recovered_left w = w ∙ rw x-is (sym (recover_left_lem f n t xs out (sym e)))

  module _ {r : ℕ} (e : r ≡ recover_number f n t xs out) (h : 0 < r) where
    pub refused_value : 0 ≡ recover_value f n t xs out
    unfolding recover_value
    refused_value = sym (given_refused (recover_number f n t xs out) _ _ (λ z. omega arith))

    pub refused_left : out ≡ recover_left f n t xs out
    unfolding recover_left
    refused_left = sym (given_refused (recover_number f n t xs out) _ _ (λ z. omega arith))

-- sum is refused as recovery is where that is lent t places
module _ (f n t : ℕ) (xs : List ℕ) {r : ℕ} (e : r ≡ first_failed (recover_tests f n t xs t)) where
  pub summed_number : r ≡ sum_number f n t xs
  summed_number = e ∙ sym (sum_number_lem f n t xs t refl)

  pub summed_value : r ≡ 0 → {p v : ℕ} → p ≡ modulus f → {x : List ℕ} → x ≡ padded xs → v ≡ secret_sum p t x → v ≡ sum_value f n t xs
  summed_value z q x-is w = w ∙ rw (x-is, q) (sym (sum_value_lem f n t xs (sym summed_number ∙ z)))

  pub summed_refused : 0 < r → 0 ≡ sum_value f n t xs
  summed_refused h = sym (sum_refused f n t xs (λ z. omega (arith, summed_number)))
