-- Shamir's sharing keeps its promises, for every field of the table and all parties and thresholds that the paper permits.
-- Assumes nothing.
use Prim.Native.Nat.{ℕ}
use Rattle.model.specs.Fields.{Modulus, Parties}
use Rattle.model.specs.Shamir.{Shamir, EverySharing}
use Rattle.model.proofs.Fields.{fields}
use Rattle.model.proofs.Polynomials.{positive}
use Rattle.model.proofs.Sharings as Sharings

pub shamir_at : {p n t : ℕ} → Modulus p → Parties n t → Shamir p n t
shamir_at {p} {n} {t} M P =
    record {
      recover_undoes = Sharings.recover_share M P;
      share_undoes = λ x. (Sharings.sharing_iff M P x).1;
      test_exact = Sharings.test_exact M P;
      shares_below_lem = λ x. Sharings.shares_below_lem M P;
      secret_is = λ x. Sharings.secret_sharing M P;
      secret_below = Sharings.secret_lt M P;
      sums = Sharings.closed M P (Sharings.add_linear (positive M));
      differences = Sharings.closed M P (Sharings.sub_linear (positive M));
      multiples = λ c. Sharings.closed M P (Sharings.mul_linear (positive M) c);
      constant = λ v k. Sharings.sharing_constant M P k;
      constant_secret = λ v k. Sharings.secret_constant M P k;
      fixed = λ xs x y Q s r. Sharings.fixed M P xs Q s r;
      any_parties = λ xs x G s. Sharings.any_parties M P xs G s;
      hidden = λ set x v G s k. Sharings.one_kept M P G x s k;
    }

pub every_sharing : EverySharing
every_sharing f n t h P = shamir_at (fields f h).modulus_is P
