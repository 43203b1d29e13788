-- The import, line by line.
-- Assumes nothing.
use Rattle.std.proofs.Common.{Ok, Err}
use mathlib.Core.Path.{◌≡◌, refl, sym, ap, ◌∙◌}
use mathlib.Core.Logic.{◌≢◌}
use mathlib.Core.List.{List, [], ◌∷◌, ◌++◌, append_assoc, append-nil}
use Prim.Native.Nat.{ℕ, zero, suc, ◌+◌, ◌-◌, ◌≤◌, ◌<◌}
use native.Mathlib.Omega.{arith}
use lib.ListN.{length, set, drop, length-append, length-drop, drop_of_length-le}
use Rattle.algebra.specs.Lists.{onto}
use Rattle.algebra.proofs.Lists.{length_onto, onto_more}
use Rattle.model.specs.Calls.{Parsed, found, unread, Call, lasted, wrong, line_at, seconds_of, next_of, line_number, Taken, stops_with, with_call, taken, imported}
use Rattle.model.specs.Refusing.{first_failed, given}
use Rattle.refusals.specs.declared.Refusal.{Refusal}
use Rattle.refusals.specs.Numbers.{number_of}
use Rattle.refusals.proofs.Numbers.{numbered}
use Rattle.calls.specs.declared.Turn.{Turn}
use Rattle.calls.specs.Meaning.{Turned}

by_number : {A : Type 0} (number : ℕ) (x : A) {y : A} → number ≢ 0 → given number x y ≡ y
by_number zero x h = absurd (h refl)
by_number (suc n) x h = refl

-- what a line that is not refused leaves
pub no_room : (x : Parsed Call) → line_number 0 x ≢ 0
unfolding line_number first_failed
no_room (found (lasted c) next) e = absurd (omega (arith, e))
no_room (found wrong next) e = absurd (omega (arith, e))
no_room unread e = absurd (omega (arith, e))

refused_line : (room : ℕ) (text : List ℕ) → 1 ≤ length text → line_number room (line_at text) ≢ 0 → taken room text ≡ stops_with (line_number room (line_at text))
unfolding taken
refused_line room [] h k = absurd (omega arith)
refused_line zero (b ∷ s) h k = by_number _ _ k
refused_line (suc room) (b ∷ s) h k = by_number _ _ k

taken_line : (room : ℕ) (text : List ℕ) → 1 ≤ length text → line_number room (line_at text) ≡ 0
    → (1 ≤ room) × (taken room text ≡ with_call (seconds_of (line_at text)) (taken (room - 1) (next_of (line_at text))))
unfolding taken
taken_line room [] h e = absurd (omega arith)
taken_line zero (b ∷ s) h e = absurd (no_room (line_at (b ∷ s)) e)
taken_line (suc room) (b ∷ s) h e = (omega arith, rw e (let z : suc room - 1 ≡ room = omega arith in rw z refl))

taken_none : (room : ℕ) → taken room [] ≡ stops_with 0
unfolding taken
taken_none zero = refl
taken_none (suc room) = refl

-- calls before those of what is left
abbrev with_calls : List ℕ → Taken → Taken
with_calls cs x = record { number = x.number; seconds = cs ++ x.seconds }

one_more : (cs : List ℕ) (c : ℕ) (x : Taken) → with_calls cs (with_call c x) ≡ with_calls (cs ++ (c ∷ [])) x
one_more cs c x = ap (λ ds. record { number = x.number; seconds = ds }) (sym (append_assoc cs (c ∷ []) x.seconds))

-- after some lines, whose calls stand at the start of the buffer
pub record Importing (list out₀ : List ℕ) (at calls : ℕ) (out : List ℕ) : Type 0 where
  pub seconds : List ℕ
  pub many : length seconds ≡ calls
  pub fits : calls ≤ length out₀
  pub written : out ≡ onto seconds out₀
  pub rest : taken (length out₀) list ≡ with_calls seconds (taken (length out₀ - calls) (drop at list))

pub importing_start : (list out₀ : List ℕ) → Importing list out₀ 0 0 out₀
unfolding onto
importing_start list out₀ = record { seconds = []; many = refl; fits = omega arith; written = refl; rest = let z : length out₀ - 0 ≡ length out₀ = omega arith in rw z refl }

module _ {list out₀ out : List ℕ} {at calls : ℕ} (I : Importing list out₀ at calls out) where
  pub out_length : length out ≡ length out₀
  out_length = rw I.written (length_onto I.seconds out₀ (omega (arith, I.many, I.fits)))

  -- what is answered where the lines end with a number
  pub ends_with : {n : ℕ} → taken (length out₀ - calls) (drop at list) ≡ stops_with n → record { number = n; calls = calls; out = out } ≡ imported list out₀
  unfolding imported
  ends_with {n} e =
      let t : taken (length out₀) list ≡ record { number = n; seconds = I.seconds } = I.rest ∙ ap (with_calls I.seconds) e ∙ ap (λ cs. record { number = n; seconds = cs }) (append-nil I.seconds) in
      rw (t, ← I.many, ← I.written) refl

  pub importing_ends : length list ≤ at → record { number = 0; calls = calls; out = out } ≡ imported list out₀
  importing_ends h = ends_with (rw (drop_of_length-le list {i = at} h) (taken_none (length out₀ - calls)))

  pub within_out : calls ≤ length out
  within_out = omega (arith, out_length, I.fits)

  -- the line that stands here
  module _ (h : at < length list) where
    some : 1 ≤ length (drop at list)
    some = rw length-drop (omega arith)

    pub importing_stops : {refusal : Refusal} → Turned list at (length out - calls) (Err refusal) → record { number = number_of refusal; calls = calls; out = out } ≡ imported list out₀
    importing_stops {refusal} T =
        let q : line_number (length out₀ - calls) (line_at (drop at list)) ≡ number_of refusal = rw (← out_length) (sym T.number) in
        ends_with (refused_line _ (drop at list) some (λ z. omega (arith, numbered refusal, q, z)) ∙ ap stops_with q)

    module _ {turn : Turn} (T : Turned list at (length out - calls) (Ok turn)) where
      one_taken : (1 ≤ length out₀ - calls) × (taken (length out₀ - calls) (drop at list) ≡ with_call turn.seconds (taken (length out₀ - (calls + 1)) (drop turn.next list)))
      one_taken =
          let K = taken_line (length out₀ - calls) (drop at list) some (rw (← out_length) (sym T.number)) in
          let r : length out₀ - calls - 1 ≡ length out₀ - (calls + 1) = omega arith in
          (K.0, K.1 ∙ rw (T.seconds, T.next, r) refl)

      pub room_left : calls < length out
      room_left = omega (arith, out_length, one_taken.0)

      pub less_room : length out₀ - (calls + 1) < length out₀ - calls
      less_room = omega (arith, one_taken.0)

      pub importing_more : Importing list out₀ turn.next (calls + 1) (set out calls turn.seconds)
      importing_more =
          record {
            seconds = I.seconds ++ (turn.seconds ∷ []);
            many = omega (arith, I.many, length-append I.seconds (turn.seconds ∷ []));
            fits = omega (arith, one_taken.0, I.fits);
            written = rw I.written (onto_more I.seconds out₀ turn.seconds I.many (omega (arith, one_taken.0)));
            rest = I.rest ∙ ap (with_calls I.seconds) one_taken.1 ∙ one_more I.seconds turn.seconds _;
          }
