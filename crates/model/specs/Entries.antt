-- The paper, "Fields and parties": the small entries share, recover, encode and decode. "These small entries refuse in this order: 2; 3;
-- 4 for a list of the wrong length (t coefficients, n shares, and the lent outputs alike); 5 for a secret, coefficient, share or field
-- value not below p; 6 for a row that is no sharing; 11 for a k not from 2 to the field's largest, or a number outside the k-bit range.
-- A refusal gives the value 0 and writes nothing." And request 4's small entry, the sum before reducing.
-- Assumes nothing.
use Rattle.std.specs.Prelude.{Bool, List, [], ◌∷◌, ◌++◌, ℕ, ltb, leb, eqb, ℤ, pos, length, take, drop}
use Rattle.algebra.specs.Lists.{all_below}
use Rattle.algebra.specs.Rows.{padded}
use Rattle.model.specs.Fields.{modulus, largest_k, field_tests, setting_tests}
use Rattle.model.specs.Refusing.{first_failed, given}
use Rattle.model.specs.Coding.{in_range, code, read_back}
use Rattle.model.specs.Sharing.{share, recover, secret, secret_sum, is_sharing}

-- share: secret s, coefficients cs, and the lent list of shares, by its length and as it was before the call
unfoldable pub share_tests : ℕ → ℕ → ℕ → ℕ → List ℕ → ℕ → List (Bool × ℕ)
share_tests f n t s cs lent =
    setting_tests f n t ++ ((eqb (length cs) t, 4) ∷ (eqb lent n, 4) ∷ (ltb s (modulus f), 5) ∷ (all_below (modulus f) cs, 5) ∷ [])

abbrev pub share_number : ℕ → ℕ → ℕ → ℕ → List ℕ → List ℕ → ℕ
share_number f n t s cs out = first_failed (share_tests f n t s cs (length out))

unfoldable pub share_left : ℕ → ℕ → ℕ → ℕ → List ℕ → List ℕ → List ℕ
share_left f n t s cs out = given (share_number f n t s cs out) (take n (share (modulus f) n (s ∷ cs))) out

-- recover: a list xs of shares, and the lent list of coefficients, by its length and as it was before the call
unfoldable pub recover_tests : ℕ → ℕ → ℕ → List ℕ → ℕ → List (Bool × ℕ)
recover_tests f n t xs lent =
    setting_tests f n t
    ++ ((eqb (length xs) n, 4) ∷ (eqb lent t, 4) ∷ (all_below (modulus f) xs, 5) ∷ (is_sharing (modulus f) n t (padded xs), 6) ∷ [])

abbrev pub recover_number : ℕ → ℕ → ℕ → List ℕ → List ℕ → ℕ
recover_number f n t xs out = first_failed (recover_tests f n t xs (length out))

unfoldable pub recover_value : ℕ → ℕ → ℕ → List ℕ → List ℕ → ℕ
recover_value f n t xs out = given (recover_number f n t xs out) (secret (modulus f) t (padded xs)) 0

unfoldable pub recover_left : ℕ → ℕ → ℕ → List ℕ → List ℕ → List ℕ
recover_left f n t xs out = given (recover_number f n t xs out) (drop 1 (recover (modulus f) t (padded xs))) out

-- sum: a list xs of shares. "It refuses as recovery does", and it is lent no list, so that 4 is for the row's length alone.
unfoldable pub sum_tests : ℕ → ℕ → ℕ → List ℕ → List (Bool × ℕ)
sum_tests f n t xs =
    setting_tests f n t ++ ((eqb (length xs) n, 4) ∷ (all_below (modulus f) xs, 5) ∷ (is_sharing (modulus f) n t (padded xs), 6) ∷ [])

abbrev pub sum_number : ℕ → ℕ → ℕ → List ℕ → ℕ
sum_number f n t xs = first_failed (sum_tests f n t xs)

-- "the sum before reducing"
unfoldable pub sum_value : ℕ → ℕ → ℕ → List ℕ → ℕ
sum_value f n t xs = given (sum_number f n t xs) (secret_sum (modulus f) t (padded xs)) 0

-- encode: a number a of k bits
unfoldable pub encode_tests : ℕ → ℕ → ℤ → List (Bool × ℕ)
encode_tests f k a = field_tests f ++ ((leb 2 k, 11) ∷ (leb k (largest_k f), 11) ∷ (in_range k a, 11) ∷ [])

abbrev pub encode_number : ℕ → ℕ → ℤ → ℕ
encode_number f k a = first_failed (encode_tests f k a)

unfoldable pub encode_value : ℕ → ℕ → ℤ → ℕ
encode_value f k a = given (encode_number f k a) (code (modulus f) a) 0

-- decode: a field value v
unfoldable pub decode_tests : ℕ → ℕ → List (Bool × ℕ)
decode_tests f v = field_tests f ++ ((ltb v (modulus f), 5) ∷ [])

abbrev pub decode_number : ℕ → ℕ → ℕ
decode_number f v = first_failed (decode_tests f v)

unfoldable pub decode_value : ℕ → ℕ → ℤ
decode_value f v = given (decode_number f v) (read_back (modulus f) v) (pos 0)
