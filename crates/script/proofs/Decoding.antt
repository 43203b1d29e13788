-- What the decoder answers at a place: each answer by the tests that led to it; and what an answer says of the script.
-- Assumes nothing.
use mathlib.Core.Path.{◌≡◌, refl, sym, ap, ◌∙◌}
use mathlib.Core.Bool.{Bool, true, false, cond}
use mathlib.Core.List.{List, []}
use Prim.Native.Nat.{ℕ, ◌+◌, ◌-◌, ◌≤◌, ◌<◌}
use native.Mathlib.Omega.{arith}
use borrow.Author.Tests.{lt-ltb, le-leb, lt-leb}
use lib.Dec.{eqb}
use lib.ListN.{length, get_or}
use Rattle.model.specs.Refusing.{first_failed}
use Rattle.model.specs.Script.{Command, Said, END, does, byte_says, size_at, in_ranges, operands_in, last_byte, number_at, Reading, ends, says, refusal, reading, reading_at, Script, accepted, refused, script_step}
use Rattle.model.proofs.Readings.{missing}
use Rattle.script.specs.Meaning.{Standing, goes, stops, standing, script_number, script_place}

module _ (p K : ℕ) (s : List ℕ) (i : ℕ) where
  pub reads_missing : length s ≤ i → stops 10 i ≡ standing (reading_at p K s i) (length s) i
  reads_missing h = rw (missing p K s i h)

  module _ {op : ℕ} (h : i < length s) (e : op ≡ get_or s i 0) where
    pub reads_unknown : last_byte < op → stops 9 i ≡ standing (reading_at p K s i) (length s) i
    unfolding reading_at number_at first_failed
    reads_unknown l = rw (lt-ltb _ _ h, ← e, lt-leb _ _ l)

    module _ {size : ℕ} (l : op ≤ last_byte) (f : (t : List ℕ) (j : ℕ) → size ≡ (byte_says t j op).0) where
      size_is : size_at s i ≡ size
      size_is = rw (size_at, ← e) (sym (f s i))

      pub reads_cut : length s - i < size → stops 10 i ≡ standing (reading_at p K s i) (length s) i
      unfolding reading_at number_at first_failed
      reads_cut m = rw (lt-ltb _ _ h, ← e, le-leb _ _ l, size_is, lt-leb (i + size) (length s) (omega arith))

      module _ (m : size ≤ length s - i) where
        -- the operands' range is left to test
        whole : {x : Said} → x ≡ (byte_says s i op).1 → reading_at p K s i ≡ reading (cond (operands_in p K x) 0 11) x (i + size)
        unfolding reading_at number_at first_failed
        whole q = rw (lt-ltb _ _ h, ← e, le-leb _ _ l, size_is, le-leb (i + size) (length s) (omega arith), ← q)

        pub reads_end : op ≡ 0 → {y : Standing} → y ≡ standing (ends (i + size)) (length s) i → y ≡ standing (reading_at p K s i) (length s) i
        reads_end z e = e ∙ ap (λ (r : Reading). standing r (length s) i) (sym (whole {x = END} (rw z (unfold byte_says in refl))))

        module _ {c : Command} {b : Bool} (q : does c ≡ (byte_says s i op).1) (r : b ≡ in_ranges p K c) where
          pub reads_out : b ≡ false → stops 11 i ≡ standing (reading_at p K s i) (length s) i
          reads_out g = rw (whole q, ← r, g)

          pub reads_in : b ≡ true → goes c (i + size) ≡ standing (reading_at p K s i) (length s) i
          reads_in g = rw (whole q, ← r, g)

-- a place where the script goes on, or ends
apart : {c : Command} {next number place : ℕ} → goes c next ≡ stops number place → ⊥
apart e = let z : ◌≡◌ {A = ℕ} 0 1 = cc in omega arith

after_end : (b : Bool) (i j : ℕ) {c : Command} {next : ℕ} → goes c next ≡ cond b (stops 0 i) (stops 10 j) → ⊥
after_end true i j e = apart e
after_end false i j e = apart e

pub goes_on : (r : Reading) (n i : ℕ) {c : Command} {next : ℕ} → goes c next ≡ standing r n i → r ≡ says c next
goes_on (says c next) n i e = cc
goes_on (ends next) n i e = absurd (after_end (eqb next n) i next e)
goes_on (refusal number) n i e = absurd (apart e)

number_in : Standing → ℕ
number_in (goes c next) = 0
number_in (stops number place) = number

place_in : Standing → ℕ
place_in (goes c next) = 0
place_in (stops number place) = place

ended : (b : Bool) (i next : ℕ) {number place : ℕ} → stops number place ≡ cond b (stops 0 i) (stops 10 next)
    → (number ≡ script_number (cond b (accepted [] i) (refused 10 next))) × (place ≡ script_place (cond b (accepted [] i) (refused 10 next)))
unfolding number_in place_in
ended true i next e = (ap number_in e, ap place_in e)
ended false i next e = (ap number_in e, ap place_in e)

pub stops_there : (r : Reading) (n i : ℕ) (rest : Script) {number place : ℕ} → stops number place ≡ standing r n i
    → (number ≡ script_number (script_step r n i rest)) × (place ≡ script_place (script_step r n i rest))
unfolding number_in place_in
stops_there (says c next) n i rest e = absurd (apart (sym e))
stops_there (ends next) n i rest e = ended (eqb next n) i next e
stops_there (refusal number) n i rest e = (ap number_in e, ap place_in e)
