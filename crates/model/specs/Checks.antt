-- The paper, "Refused because of the state" and "The words of demand 3": what was spent, what there is, the checks 21 to 26 that are tried before a
-- command, and what a finished command adds to the counts.
-- Assumes nothing.
use Rattle.std.specs.Prelude.{Bool, true, false, ◌&&◌, List, [], ◌∷◌, ℕ, ◌*◌, leb, get_or, set}
use Rattle.model.specs.Refusing.{first_failed}
use Rattle.model.specs.Counts.{Counts, added}
use Rattle.model.specs.Costs.{Cost}

-- What was spent and which registers are set: all that the checks look at.
pub record Spent : Type 0 where
  pub counts : Counts
  pub marks : List Bool

-- What there is: the header's counts, the parties, and the lengths of the two output buffers.
pub record Supply : Type 0 where
  pub inputs : ℕ
  pub masks : ℕ
  pub triples : ℕ
  pub parties : ℕ
  pub log : ℕ
  pub shown : ℕ

-- all the registers of a list are set; "21: a register read is unset" refuses where this fails
unfoldable pub all_set : List Bool → List ℕ → Bool
all_set marks [] = true
all_set marks (r ∷ rs) = get_or marks r false && all_set marks rs

-- "the registers and which are set": the marks after the registers of a list were written
unfoldable pub marked : List Bool → List ℕ → List Bool
marked marks [] = marks
marked marks (d ∷ ds) = marked (set marks d true) ds

-- "Tried before a command changes anything, in this order": 21 to 26, or 0
unfoldable pub check : Supply → Cost → Spent → ℕ
check u c s =
    let then = added s.counts c.counts in
    first_failed
    -- "21: a register read is unset"
    ((all_set s.marks c.reads, 21)
    -- "22: no input row left"
    ∷ (leb then.inputs u.inputs, 22)
    -- "23: no mask left"; request 7: "21 to 25 speak of the whole command", so of LTZS fewer masks left than it takes
    ∷ (leb then.masks u.masks, 23)
    -- "24: fewer triples left than the command takes"
    ∷ (leb then.triples u.triples, 24)
    -- "25: the record buffer cannot take all its shares"
    ∷ (leb (then.openings * u.parties) u.log, 25)
    -- "26: the revealed buffer is full"
    ∷ (leb then.revealed u.shown, 26) ∷ [])

-- "Inputs counts the finished LOADs; masks, triples and openings are the sums of what is spent over the finished commands."
unfoldable pub pay : Cost → Spent → Spent
pay c s = record { counts = added s.counts c.counts; marks = marked s.marks c.writes }
