-- The paper, the table of commands and "Steps": the plain interpreter, what each command does to secrets by the paper's formulas.
-- Assumes nothing.
use Rattle.std.specs.Prelude.{Bool, true, false, cond, List, [], ◌∷◌, map, ℕ, zero, suc, ◌-◌, ◌/◌, ◌%◌, ◌^◌, get_or, set}
use Rattle.algebra.specs.Ring.{add, sub, mul}
use Rattle.model.specs.Fields.{inverse_power_of_2}
use Rattle.model.specs.Trees.{odd}
use Rattle.model.specs.Script.{Command, LOAD, CONST, ADD, SUB, SCALE, MUL, MOD, TRUNC, LTZ, OVER, BLOCKS, REVEAL, BITLT, LTZS, outputs}

-- BITLT on the values of registers. "If registers are not bits, this rule still says what comes out."
-- "lt becomes bit i + lt − q where v's bit i is 0, else q"
abbrev pub less_step : ℕ → Bool → ℕ → ℕ → ℕ
less_step p true b lt = mul p b lt
less_step p false b lt = sub p (add p b lt) (mul p b lt)

-- "For i from 1 to w − 1, q = bit i times lt by MUL in that order": the bits from i on, v being shifted right by i
unfoldable pub less_from : ℕ → ℕ → List ℕ → ℕ → ℕ
less_from p v [] lt = lt
less_from p v (b ∷ bs) lt = less_from p (v / 2) bs (less_step p (odd v) b lt)

-- "BITLT: lt is bit 0 if v's bit 0 is 0, else the zero sharing."
unfoldable pub less : ℕ → ℕ → List ℕ → ℕ
less p v [] = 0
less p v (b ∷ bs) = less_from p (v / 2) bs (cond (odd v) 0 b)

-- MOD: "With X = (a + 2^(k−1)) modulo p", "Its secret is X mod 2^m for every a and r."
unfoldable pub rem : ℕ → ℕ → ℕ → ℕ → ℕ
rem p k m a = add p a (2 ^ (k - 1)) % 2 ^ m

-- "TRUNC is (a − MOD) times the inverse of 2^m."
unfoldable pub quot : ℕ → ℕ → ℕ → ℕ → ℕ
quot p k m a = mul p (inverse_power_of_2 p m) (sub p a (rem p k m a))

-- "LTZ is minus TRUNC with m = k − 1."
unfoldable pub negative : ℕ → ℕ → ℕ → ℕ
negative p k a = sub p 0 (quot p k (k - 1) a)

-- OVER: "LTZ of (v − a)"
unfoldable pub exceeds : ℕ → ℕ → ℕ → ℕ → ℕ
exceeds p k v a = negative p k (sub p v a)

-- Request 2: "BLOCKS becomes TRUNC of a + 2^m − 1 with the same k and m."
unfoldable pub charged : ℕ → ℕ → ℕ → ℕ → ℕ
charged p k m a = quot p k m (add p a (2 ^ m - 1))

-- LTZS: the values that LTZ leaves of each of these, in register d and those after it
unfoldable pub negatives : ℕ → ℕ → List ℕ → ℕ → List ℕ → List ℕ
negatives p k [] d vs = vs
negatives p k (a ∷ more) d vs = negatives p k more (suc d) (set vs d (negative p k a))

-- the values of registers b to b + w - 1
unfoldable pub values_from : List ℕ → ℕ → ℕ → List ℕ
values_from vs b zero = []
values_from vs b (suc w) = get_or vs b 0 ∷ values_from vs (suc b) w

-- The column "secret left in d" of the table of commands, on the values of the registers: of LOAD "next input row", where j were loaded before;
-- of CONST "v"; of ADD "a + b"; of SUB "a − b"; of SCALE "a times v"; of MUL "a times b"; of the others the formulas above. REVEAL leaves none.
unfoldable pub plainly : ℕ → List ℕ → ℕ → Command → List ℕ → List ℕ
plainly p input j (LOAD d) vs = set vs d (get_or input j 0)
plainly p input j (CONST d v) vs = set vs d v
plainly p input j (ADD d a b) vs = set vs d (add p (get_or vs a 0) (get_or vs b 0))
plainly p input j (SUB d a b) vs = set vs d (sub p (get_or vs a 0) (get_or vs b 0))
plainly p input j (SCALE d a v) vs = set vs d (mul p v (get_or vs a 0))
plainly p input j (MUL d a b) vs = set vs d (mul p (get_or vs a 0) (get_or vs b 0))
plainly p input j (MOD d a k m) vs = set vs d (rem p k m (get_or vs a 0))
plainly p input j (TRUNC d a k m) vs = set vs d (quot p k m (get_or vs a 0))
plainly p input j (LTZ d a k) vs = set vs d (negative p k (get_or vs a 0))
plainly p input j (OVER d a k v) vs = set vs d (exceeds p k v (get_or vs a 0))
plainly p input j (BLOCKS d a k m) vs = set vs d (charged p k m (get_or vs a 0))
plainly p input j (REVEAL a) vs = vs
plainly p input j (BITLT d b w v) vs = set vs d (less p v (values_from vs b w))
plainly p input j (LTZS d a h k) vs = negatives p k (values_from vs a h) d vs

-- "REVEAL one opening, and its value goes to the revealed list": the values that a command puts there
unfoldable pub reveals : Command → List ℕ → List ℕ
reveals c vs = map (λ r. get_or vs r 0) (outputs c).shown
