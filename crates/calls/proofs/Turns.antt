-- One line: its number, its call and the text after it, by what was read.
-- Assumes nothing.
use Rattle.std.proofs.Common.{Option, Some, None, Ok, Err}
use mathlib.Core.Path.{◌≡◌, refl, sym, ◌∙◌}
use mathlib.Core.Bool.{Bool, true, false, cond}
use mathlib.Core.Logic.{◌≢◌}
use mathlib.Core.List.{List, []}
use Prim.Native.Nat.{ℕ, zero, suc, ◌+◌, ◌-◌, ◌≤◌}
use native.Mathlib.Omega.{arith}
use lib.Dec.{ltb}
use borrow.Author.Tests.{lt-ltb}
use lib.ListN.{length, take, drop, length-drop}
use lib.Seq.{drop-drop}
use Rattle.model.specs.Calls.{found, unread, lasted, wrong, line_at, line_number}
use Rattle.model.specs.Refusing.{first_failed}
use Rattle.refusals.specs.declared.Refusal.TheVariants.{BadLine, BadTime, SecondsFull}
use Rattle.calls.specs.declared.line.Line.{Line}
use Rattle.calls.specs.Meaning.{call_of, line_of, Turned}
use Rattle.calls.proofs.Fields.{rest_from}

-- the number of a line by the code's tests
tested : (f t : Bool) (c room : ℕ) (next : List ℕ)
    → cond f (cond t (cond (ltb 0 room) 0 33) 32) 31 ≡ line_number room (cond f (found (cond t (lasted c) wrong) next) unread)
unfolding line_number first_failed
tested true true c room next = refl
tested true false c room next = refl
tested false t c room next = refl

abbrev call_number : Option ℕ → ℕ → ℕ
call_number None room = 32
call_number (Some seconds) room = cond (ltb 0 room) 0 33

abbrev read_number : Option Line → ℕ → ℕ
read_number None room = 31
read_number (Some line) room = call_number line.call room

pub number_of : (r : Option Line) (room : ℕ) (s : List ℕ) {n : ℕ} → n ≡ read_number r room → n ≡ line_number room (line_of s r)
unfolding line_of
number_of None room s e = e ∙ tested false false 0 room []
number_of (Some line) room s e = e ∙ go line.call
  where
    go : (c : Option ℕ) → call_number c room ≡ line_number room (found (call_of c) (drop line.next s))
    go None = tested true false 0 room (drop line.next s)
    go (Some c) = tested true true c room (drop line.next s)

module _ (list : List ℕ) (at room : ℕ) (r : Option Line)
    (e : line_of (take (length list - at) (drop at list)) r ≡ line_at (take (length list - at) (drop at list))) where
  here : line_at (drop at list) ≡ line_of (drop at list) r
  here = sym (rw (rest_from at list) at e)

  pub bad_line : r ≡ None → Turned list at room (Err BadLine)
  unfolding line_of line_number first_failed
  bad_line w = record { number = rw (here, w) refl; seconds = tt; next = tt; within = tt }

  pub bad_time : {line : Line} → r ≡ Some line → line.call ≡ None → Turned list at room (Err BadTime)
  unfolding line_of line_number first_failed
  bad_time w q = record { number = rw (here, w, q) refl; seconds = tt; next = tt; within = tt }

  module _ {line : Line} {seconds : ℕ} (w : r ≡ Some line) (q : line.call ≡ Some seconds) where
    line_is : line_at (drop at list) ≡ found (lasted seconds) (drop line.next (drop at list))
    unfolding line_of
    line_is = here ∙ rw (w, q) refl

    pub full : room ≡ 0 → Turned list at room (Err SecondsFull)
    unfolding line_number first_failed
    full z = record { number = rw (line_is, z) refl; seconds = tt; next = tt; within = tt }

    good : (room : ℕ) → room ≢ 0 → 0 ≡ line_number room (found (lasted seconds) (drop line.next (drop at list)))
    unfolding line_number first_failed
    good zero z = absurd (z refl)
    good (suc room) z = rw (lt-ltb 0 (suc room) (omega arith)) refl

    pub turned : room ≢ 0 → line.next ≤ length (take (length list - at) (drop at list)) → at ≤ length list
        → Turned list at room (Ok (record { seconds = seconds; next = at + line.next }))
    turned z h k =
        record {
          number = rw line_is (good room z);
          seconds = rw line_is refl;
          next = rw line_is (sym (drop-drop line.next at list));
          within = let b = rw (rest_from at list, length-drop) at h in omega (arith, b);
        }
