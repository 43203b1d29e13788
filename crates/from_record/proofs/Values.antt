-- What the windows of an opening give, against the model's reading of it; and the numbers of an opening.
-- Assumes nothing.
use mathlib.Core.Path.{◌≡◌, refl, sym, ap, ◌∙◌}
use mathlib.Core.Logic.{◌≢◌}
use mathlib.Core.Bool.{Bool, true, false, cond}
use mathlib.Core.List.Memᴰ.{head as here}
use mathlib.Core.List.Memᴰ.{tail as there}
use Rattle.std.specs.Prelude.{Ok, Err, Option, Some, None, MatchOption}
use Rattle.std.specs.Option.{ok_or}
use Rattle.refusals.specs.declared.Refusal.TheVariants.{BadOpening}
use Rattle.refusals.specs.declared.Refusal.{Refusal}
use Rattle.refusals.specs.Numbers.{number_of}
use mathlib.Core.List.{List, [], ◌∷◌, Memᴰ as In}
use Prim.Native.Nat.{ℕ, zero, suc, ◌+◌, ◌-◌, ◌^◌, ◌≤◌, ◌<◌}
use native.Mathlib.Decide.{dec_lt, ℕ_discrete}
use native.Mathlib.Omega.{arith}
use borrow.Author.Tests.{eq-eqb, ne_eqb}
use lib.Dec.{eqb}
use lib.ListN.{length, get_or, drop, take, length-drop}
use lib.Seq.{get_or-drop}
use Rattle.algebra.specs.Lists.{from}
use Rattle.algebra.proofs.Lists.{in_from}
use Rattle.algebra.proofs.Rows.{row_at_lem}
use Rattle.algebra.proofs.Tests.{true_false}
use Rattle.model.specs.Fields.{Modulus, Parties, InUse, modulus}
use Rattle.model.specs.Presence.{bit, is_present, present_in, openers, PermittedSet}
use Rattle.model.specs.Sharing.{at, value_from}
use Rattle.model.specs.Refusing.{first_failed}
use Rattle.model.specs.Replay.{opening, present_at, opened_value, opening_number}
use Rattle.model.specs.Replays.{OnOne, Openings}
use Rattle.model.proofs.Presence.{presence, openers_in}
use Rattle.model.proofs.RecordOpenings.{enough_there, openings}
use Rattle.model.proofs.Windows.{value_same, present_after, window, after_all, windows_on_one, on_one_windows}
use Rattle.from_record.specs.Showing.{is_share, Gathered}
use Rattle.from_record.specs.Windowed.{without, WindowsOf, window_value, AllGive, NoneGiven}
use Rattle.from_record.specs.Reading.{FoundIn, own_tests}
use Rattle.from_record.specs.declared.shown.Shown.{Shown}
use Rattle.from_record.specs.declared.windows.Windows.{Windows}
use Rattle.from_record.proofs.Sets.{kept, gone, after, enough_permitted, permitted_enough, permitted_openers}

-- a share of an opening
share_at : (p n t : ℕ) (log : List ℕ) (i : ℕ) → i < n → at 0 (opening p n t log) (suc i) ≡ get_or log i 0
unfolding opening
share_at p n t log i h = row_at_lem n (λ k. get_or log k 0) i h

-- the share of party j, in a record from a place on
own_share_lem : (p n t : ℕ) (log : List ℕ) (i j : ℕ) → 1 ≤ j → j ≤ n → at 0 (opening p n t (drop i log)) j ≡ get_or log (i + (j - 1)) 0
own_share_lem p n t log i zero a l = absurd (omega arith)
own_share_lem p n t log i (suc k) a l = let e : suc k - 1 ≡ k = omega arith in rw e (share_at p n t (drop i log) k l ∙ rw get_or-drop)

-- those whose bit is set are those whose share is present
present_at_lem : (p n t b : ℕ) (x js : List ℕ) → ((j : ℕ) → In j js → is_present b j ≡ is_share p (at 0 x j)) → present_in b js ≡ present_at p n t x js
unfolding present_in present_at
present_at_lem p n t b x [] k = refl
present_at_lem p n t b x (j ∷ js) k = rw (k j (here refl), present_at_lem p n t b x js (λ i m. k i (there m))) (turn (eqb (at 0 x j) p))
  where
    turn : (c : Bool) → cond (cond c false true) (j ∷ present_at p n t x js) (present_at p n t x js) ≡ cond c (present_at p n t x js) (j ∷ present_at p n t x js)
    turn true = refl
    turn false = refl

-- no share is p
present_share : (p v : ℕ) → is_share p v ≡ true → v ≢ p
present_share p v e q = true_false (sym e ∙ rw (eq-eqb v p q))

module _ {p n t : ℕ} (M : Modulus p) (P : Parties n t) (log : List ℕ) {x : Shown} (G : Gathered p n 0 log x) where
  abbrev b : ℕ
  b = x.present

  abbrev y : List ℕ
  y = opening p n t log

  most : (i : ℕ) → 1 ≤ i → i ≤ n → at 0 y i ≤ p
  most zero a l = absurd (omega arith)
  most (suc i) a l = rw (share_at p n t log i l) (G.most i (omega arith) l)

  bit_at : (i : ℕ) → i < n → bit b i ≡ is_share p (get_or log i 0)
  bit_at i h = let e : 0 + i ≡ i = omega arith in rw e at (G.bits i (rw e h))

  after_is : (z : ℕ) → after n b z ≡ present_after p n t y z
  after_is z = present_at_lem p n t b y (from (suc z) (n - z)) (λ j m. let l = in_from (suc z) (n - z) m in told j l.0 (omega arith))
    where
      told : (j : ℕ) → suc z ≤ j → j ≤ n → is_present b j ≡ is_share p (at 0 y j)
      told zero a l = absurd (omega arith)
      told (suc i) a l = bit_at i l ∙ rw (share_at p n t log i l)

  -- the shares of a set that is permitted are the opening's
  module _ (z : ℕ) (Q : PermittedSet n t (without b z)) where
    same_share : (i : ℕ) → In i (openers n t (without b z)) → at 0 x.shares i ≡ at 0 y i
    same_share i m = go i (openers_in n t (without b z) i m) ((presence.opened_from n t (without b z) Q).present_all i m)
      where
        go : (i : ℕ) → (1 ≤ i) × (i ≤ n) → is_present (without b z) i ≡ true → at 0 x.shares i ≡ at 0 y i
        go zero l e = refl
        go (suc i) l e = there (dec_lt i z)
          where
            there : Dec (i < z) → get_or x.shares i 0 ≡ at 0 y (suc i)
            there (yes h) = absurd (true_false (sym e ∙ gone b z (suc i) (omega arith) (omega arith)))
            there (no h) =
                G.same i (omega arith) l.1 (present_share p (get_or log i 0) (sym (bit_at i l.1) ∙ sym (kept b z (suc i) (omega arith)) ∙ e))
                ∙ sym (share_at p n t log i l.1)

    value_is : b < 2 ^ n → window_value p n t b x.shares z ≡ value_from p (window p n t y z) y
    value_is h =
        value_same p (openers n t (without b z)) x.shares y same_share
        ∙ ap (λ (xs : List ℕ). value_from p xs y) (permitted_openers n t b h z Q ∙ ap (take (suc t)) (after_is z))

  module _ {w : Windows} (W : WindowsOf p n t w) (e : w.present ≡ b) where
    low : b < 2 ^ n
    low = rw e at W.parties_only

    allowed : (z : ℕ) → z < w.count → PermittedSet n t (without b z)
    allowed z h = rw e at (W.permitted z h)

    enough_after : (z : ℕ) → suc t ≤ length (present_after p n t y z) → z < w.count
    enough_after z h = go (dec_lt z w.count)
      where
        go : Dec (z < w.count) → z < w.count
        go (yes l) = l
        go (no l) = absurd (W.no_more z (omega arith) (rw e (enough_permitted n t b low z (rw (after_is z) h))))

    -- every window gives the opened value where the shares are on one polynomial
    on_one_all : OnOne p n t y → AllGive p n t w x.shares (opened_value p n t y)
    on_one_all o z h =
        let Q = allowed z h in
        rw e (value_is z Q low ∙ on_one_windows M P y o z (rw (after_is z) at (permitted_enough n t b low z Q)))

    -- and where all give one, they are
    all_on_one : {v : ℕ} → 0 < w.count → AllGive p n t w x.shares v → OnOne p n t y
    all_on_one {v} h k =
        windows_on_one M P y v most
        (rw (after_is 0, after_all p n t y) at (permitted_enough n t b low 0 (allowed 0 h)))
        (λ z l. let c = enough_after z l in sym (value_is z (allowed z c) low) ∙ (rw e at (k z c)))

    -- no window: too few shares are present
    none_found : w.count ≤ 0 → OnOne p n t y → ⊥
    none_found h o = omega (arith, enough_after 0 (rw (after_all p n t y) (enough_there M P y o)))

    -- whether they are on one, by what the windows give
    on_one_value : {v : ℕ} → 0 < w.count → AllGive p n t w x.shares v → OnOne p n t y × (v ≡ opened_value p n t y)
    on_one_value h k = let o = all_on_one h k in (o, sym (k 0 h) ∙ on_one_all o 0 h)

    no_value : ((v : ℕ) → 0 < w.count → AllGive p n t w x.shares v → ⊥) → OnOne p n t y → ⊥
    no_value k o = go (dec_lt 0 w.count)
      where
        go : Dec (0 < w.count) → ⊥
        go (yes h) = k (opened_value p n t y) h (on_one_all o)
        go (no h) = none_found (omega arith) o

    -- by what was looked for
    pub all_give : {v : ℕ} → (0 < w.count) × AllGive p n t w x.shares v × (v < p) → FoundIn p n t log (Ok v)
    all_give k = let o = on_one_value k.0 k.1 in (o.0, o.1, k.2)

    pub none_gives : {v : ℕ} → NoneGiven p n t w x.shares v → FoundIn p n t log (Err BadOpening)
    none_gives k = (refl, no_value k.none)

    pub found : (r : Option ℕ) → MatchOption r ((v : ℕ) → 0 < w.count → AllGive p n t w x.shares v → ⊥) (λ v. (0 < w.count) × AllGive p n t w x.shares v × (v < p))
        → FoundIn p n t log (ok_or r BadOpening)
    found None k = (refl, no_value k)
    found (Some v) k = all_give k

-- a number above p
pub above_p : {p n : ℕ} (t : ℕ) (log : List ℕ) → (((i : ℕ) → i < n → get_or log i 0 ≤ p) → ⊥) → OnOne p n t (opening p n t log) → ⊥
above_p {p} {n} t log k o = k (λ i l. let a : 1 ≤ suc i = omega arith in rw (share_at p n t log i l) at (o.most (suc i) a l))

-- the own share: it is absent, or the same, or another
pub own_absent : {p share : ℕ} (own : ℕ) → share ≡ p → 0 ≡ first_failed (own_tests p own share)
unfolding first_failed
own_absent {p} {share} own e = rw (eq-eqb share p e)

pub own_same : {p own share : ℕ} → (share ≡ p → ⊥) → share ≡ own → 0 ≡ first_failed (own_tests p own share)
unfolding first_failed
own_same {p} {own} {share} n e = rw (ne_eqb share p n, eq-eqb share own e)

pub own_differs : {p own share : ℕ} → (share ≡ p → ⊥) → (share ≡ own → ⊥) → 41 ≡ first_failed (own_tests p own share)
unfolding first_failed
own_differs {p} {own} {share} n m = rw (ne_eqb share p n, ne_eqb share own m)

-- The number of an opening.
module _ (f own : ℕ) {p n t j : ℕ} (q : p ≡ modulus f) (U : InUse f) (P : Parties n t) (l : 1 ≤ j) (u : j ≤ n) (log : List ℕ) (at' : ℕ) (h : at' ≤ length log) where
  abbrev rest : List ℕ
  rest = drop at' log

  numbers : Openings p n t j own rest
  numbers = rw q (openings f n t j own rest U P l u)

  pub too_short : length log - at' < n → 43 ≡ opening_number p n t j own rest
  too_short s = sym (numbers.too_short (rw length-drop (omega arith)))

  pub refused_number : (e : Refusal) → n ≤ length log - at' → FoundIn p n t rest (Err e) → number_of e ≡ opening_number p n t j own rest
  refused_number e s F = F.0 ∙ sym (numbers.not_on_one (rw length-drop (omega arith)) F.1)

  pub own_compared : (v : ℕ) {r : ℕ} → n ≤ length log - at' → FoundIn p n t rest (Ok v)
      → r ≡ first_failed (own_tests p own (get_or log (at' + (j - 1)) 0)) → r ≡ opening_number p n t j own rest
  own_compared v {r} s F k = go (ℕ_discrete share p) (ℕ_discrete share own)
    where
      share : ℕ
      share = get_or log (at' + (j - 1)) 0

      fits : n ≤ length rest
      fits = rw length-drop (omega arith)

      is : at 0 (opening p n t rest) j ≡ share
      is = own_share_lem p n t log at' j l u

      go : Dec (share ≡ p) → Dec (share ≡ own) → r ≡ opening_number p n t j own rest
      go (yes a) c = k ∙ sym (own_absent own a) ∙ sym (numbers.absent fits F.0 (is ∙ a))
      go (no a) (yes c) = k ∙ sym (own_same a c) ∙ sym (numbers.same fits F.0 (is ∙ c))
      go (no a) (no c) = k ∙ sym (own_differs a c) ∙ sym (numbers.differs fits F.0 (λ z. a (sym is ∙ z)) (λ z. c (sym is ∙ z)))
