-- Laws of sharings: recovery, closure under the row operations, and the sharing that keeps a set's shares.
-- Assumes nothing.
use mathlib.Core.Path.{◌≡◌, refl, sym, ap, ap₂, subst, ◌∙◌}
use mathlib.Core.Logic.{◌↔◌}
use mathlib.Core.List.Memᴰ.{head as here}
use mathlib.Core.List.Memᴰ.{tail as there}
use mathlib.Core.List.{List, [], ◌∷◌, Memᴰ as In}
use Prim.Native.Nat.{ℕ, zero, suc, ◌+◌, ◌%◌, ◌≤◌, ◌<◌}
use native.Mathlib.Nat.{mod-eq_of_lt}
use native.Mathlib.Omega.{arith}
use lib.Dec.{T, eqb, eqb→eq, eqb_refl}
use lib.ListN.{length, get_or, replicate, length-replicate}
use Rattle.algebra.specs.Ring.{add, sub, mul}
use Rattle.algebra.specs.Lists.{Below, from, same_list, Distinct}
use Rattle.algebra.specs.Rows.{tab, row, on}
use Rattle.algebra.proofs.Ring.{ring, mod-ring, reduced, add_lt, mul_lt, sub_lt}
use Rattle.algebra.proofs.Lists.{below_nil, below_cons, in_from, length_from}
use Rattle.algebra.proofs.Rows.{length_tab, get_or_tab, length_row, row_at_lem, row_ext, row_below}
use Rattle.algebra.proofs.Tests.{and_left, and_right, and_both}
use Rattle.model.specs.Fields.{Modulus, Parties}
use Rattle.model.specs.Sharing.{eval, share, Sharing, interpolate, at, recover, secret, value_from, is_sharing}
use Rattle.model.specs.Shamir.{Points, Group, Agree, OneKept, Closed}
use Rattle.model.proofs.Polynomials.{Nodes, eval_lt, interpolate_cong, length_interpolate, below_interpolate, positive, interpolate_eval, interpolate_only, same_values}

-- a party's number
pub record Seat (n z : ℕ) : Type 0 where
  pub least : 0 < z
  pub most : z ≤ n

pub nodes_from : (k m : ℕ) → k + m ≤ 8 → Nodes (from k m)
unfolding from
nodes_from k zero b = tt
nodes_from k (suc m) b = (
  λ z i. let l = in_from (suc k) m i in record { left = omega arith; right = omega arith; differ = λ e. omega arith },
  nodes_from (suc k) m (omega arith),
)

pub nodes_distinct : (xs : List ℕ) → Distinct xs → ((z : ℕ) → In z xs → z < 8) → Nodes xs
nodes_distinct [] d b = tt
nodes_distinct (x ∷ xs) d b = (
  λ z m. record { left = b x (here refl); right = b z (there m); differ = d.0 z m },
  nodes_distinct xs d.1 (λ z m. b z (there m)),
)

pub same_list_lem : (xs ys : List ℕ) → T (same_list xs ys) ↔ (xs ≡ ys)
unfolding same_list
same_list_lem [] [] = (λ t. refl, λ e. tt)
same_list_lem [] (y ∷ ys) = (λ t. absurd t, λ e. absurd (omega (arith, ap length e)))
same_list_lem (x ∷ xs) [] = (λ t. absurd t, λ e. absurd (omega (arith, ap length e)))
same_list_lem (x ∷ xs) (y ∷ ys) = (
  λ t. ap₂ ◌∷◌ (eqb→eq x y (and_left (eqb x y) (same_list xs ys) t)) ((same_list_lem xs ys).0 (and_right (eqb x y) (same_list xs ys) t)),
  λ e. and_both (eqb x y) (same_list xs ys) (subst (λ (z : ℕ). T (eqb x z)) (cc) (eqb_refl x)) ((same_list_lem xs ys).1 (cc)),
)

-- an operation that goes through a polynomial's value: add, sub, and a multiple
pub record Linear (p : ℕ) (op : ℕ → ℕ → ℕ) : Type 0 where
  pub small : (a b : ℕ) → op a b < p
  pub nil : op 0 0 ≡ 0
  pub step : (x a b c d : ℕ) → op (add p a (mul p x c)) (add p b (mul p x d)) ≡ add p (op a b) (mul p x (op c d))

module _ {p : ℕ} (h : 0 < p) where
  pub add_linear : Linear p (add p)
  add_linear =
      record {
        small = λ a b. add_lt a b h;
        nil = reduced h (simp mod-ring (ring h _ _ _ _ (omega arith)));
        step = λ x a b c d. simp mod-ring (ring h _ _ _ _ (omega arith));
      }

  pub sub_linear : Linear p (sub p)
  sub_linear =
      record {
        small = λ a b. sub_lt a b h;
        nil = reduced h (simp mod-ring (ring h _ _ _ _ (omega arith)));
        step = λ x a b c d. simp mod-ring (ring h _ _ _ _ (omega arith));
      }

  pub mul_linear : (k : ℕ) → Linear p (λ a _. mul p k a)
  mul_linear k =
      record {
        small = λ a b. mul_lt k a h;
        nil = reduced h (simp mod-ring (ring h _ _ _ _ (omega arith)));
        step = λ x a b c d. simp mod-ring (ring h _ _ _ _ (omega arith));
      }

  eval_zeros : (m x : ℕ) → eval p (replicate m 0) x ≡ 0
  unfolding eval
  eval_zeros zero x = refl
  eval_zeros (suc m) x = rw (eval_zeros m x) (reduced h (simp mod-ring (ring h _ _ _ _ (omega arith))))

  eval_constant : (v m x : ℕ) → v < p → eval p (v ∷ replicate m 0) x ≡ v
  unfolding eval
  eval_constant v m x k = rw (eval_zeros m x) (reduced k (simp mod-ring (ring h _ _ _ _ (omega arith))))

  below_zeros : (m : ℕ) → Below p (replicate m 0)
  below_zeros zero = below_nil p
  below_zeros (suc m) = below_cons h (below_zeros m)

-- an operation on coefficients
eval_on : {p : ℕ} {op : ℕ → ℕ → ℕ} → Linear p op → (m : ℕ) (cs ds : List ℕ) (x : ℕ) → length cs ≡ m → length ds ≡ m
    → eval p (tab m (λ i. op (get_or cs i 0) (get_or ds i 0))) x ≡ op (eval p cs x) (eval p ds x)
unfolding eval tab
eval_on L zero [] [] x a b = sym L.nil
eval_on L zero [] (d ∷ ds) x a b = omega arith
eval_on L zero (c ∷ cs) ds x a b = omega arith
eval_on L (suc m) [] ds x a b = omega arith
eval_on L (suc m) (c ∷ cs) [] x a b = omega arith
eval_on L (suc m) (c ∷ cs) (d ∷ ds) x a b = rw (eval_on L m cs ds x (omega arith) (omega arith)) (sym (L.step x c d _ _))

at_row : (n : ℕ) (f : ℕ → ℕ) (v z : ℕ) → Seat n z → at v (row n f) z ≡ at v (tab n f) z
at_row n f v zero k = absurd (omega arith)
at_row n f v (suc j) k = row_at_lem n f j k.most ∙ sym (get_or_tab n f j k.most)

module _ {p n t : ℕ} (M : Modulus p) (P : Parties n t) where
  -- a sharing's shares
  pub value : {x : List ℕ} (s : Sharing p n t x) (v z : ℕ) → Seat n z → at v x z ≡ eval p s.poly z
  unfolding share
  value s v zero k = absurd (omega arith)
  value s v (suc j) k = rw s.is (row_at_lem n _ j k.most)

  pub share_lt : {x : List ℕ} → Sharing p n t x → (z : ℕ) → Seat n z → at 0 x z < p
  share_lt s z k = rw (value s 0 z k) (eval_lt (positive M) s.poly z)

  pub shares_below_lem : {x : List ℕ} → Sharing p n t x → Below p x
  unfolding share
  shares_below_lem s = rw s.is (record { at = λ i k. row_below p n _ (positive M) (λ j l. eval_lt (positive M) s.poly (suc j)) i })

  pub length_sharing : {x : List ℕ} → Sharing p n t x → length x ≡ 7
  unfolding share
  length_sharing s = ap length s.is ∙ length_row n _ P.most

  -- any t + 1 parties find the polynomial
  pub found : {x : List ℕ} (s : Sharing p n t x) (xs : List ℕ) → Nodes xs → length xs ≡ suc t → ((z : ℕ) → In z xs → Seat n z)
      → interpolate p xs (at 0 x) ≡ s.poly
  found s xs k l a =
      interpolate_cong p xs _ _ (λ z m. value s 0 z (a z m)) ∙ interpolate_only M xs s.poly k (s.size ∙ sym l) s.below

  pub recover_sharing : {x : List ℕ} (s : Sharing p n t x) → recover p t x ≡ s.poly
  unfolding recover
  recover_sharing s =
      found s (from 1 (suc t)) (nodes_from 1 (suc t) (omega arith)) (length_from 1 (suc t))
      (λ z m. let l = in_from 1 (suc t) m in record { least = omega arith; most = omega arith })

  pub secret_sharing : {x : List ℕ} (s : Sharing p n t x) → secret p t x ≡ eval p s.poly 0
  unfolding secret
  secret_sharing s = rw (recover_sharing s)

  pub secret_lt : (x : List ℕ) → secret p t x < p
  unfolding secret
  secret_lt x = eval_lt (positive M) _ 0

  pub sharing_of : (cs : List ℕ) → length cs ≡ suc t → Below p cs → Sharing p n t (share p n cs)
  sharing_of cs l b = record { poly = cs; size = l; below = b; is = refl }

  pub recover_share : (cs : List ℕ) → length cs ≡ suc t → Below p cs → recover p t (share p n cs) ≡ cs
  unfolding sharing_of
  recover_share cs l b = recover_sharing (sharing_of cs l b)

  pub secret_share : (cs : List ℕ) → length cs ≡ suc t → Below p cs → secret p t (share p n cs) ≡ eval p cs 0
  unfolding sharing_of
  secret_share cs l b = secret_sharing (sharing_of cs l b)

  sharing_interpolated : (xs : List ℕ) (f : ℕ → ℕ) → length xs ≡ suc t → Sharing p n t (share p n (interpolate p xs f))
  sharing_interpolated xs f l = sharing_of (interpolate p xs f) (length_interpolate p xs f ∙ l) (below_interpolate (positive M) xs f)

  -- a row is a sharing just if what is recovered shares to it
  pub sharing_iff : (x : List ℕ) → (share p n (recover p t x) ≡ x) ↔ Sharing p n t x
  unfolding recover
  sharing_iff x = (
    λ e. subst (Sharing p n t) e (sharing_interpolated (from 1 (suc t)) (at 0 x) (length_from 1 (suc t))),
    λ s. ap (share p n) (recover_sharing s) ∙ sym s.is,
  )

  pub test_exact : (x : List ℕ) → T (is_sharing p n t x) ↔ Sharing p n t x
  unfolding is_sharing
  test_exact x = (λ b. (sharing_iff x).0 ((same_list_lem _ _).0 b), λ s. (same_list_lem _ _).1 ((sharing_iff x).1 s))

  -- add, sub and multiples
  module _ {op : ℕ → ℕ → ℕ} (L : Linear p op) where
    pub sharing_on : {x y : List ℕ} → Sharing p n t x → Sharing p n t y → Sharing p n t (on op n x y)
    unfolding share
    sharing_on s r =
        record {
          poly = tab (suc t) (λ i. op (get_or s.poly i 0) (get_or r.poly i 0));
          size = length_tab (suc t) _;
          below = record { at = λ i k. rw (get_or_tab (suc t) _ i (rw length_tab at k)) (L.small _ _) };
          is = row_ext n _ _ (λ j k.
              let seat : Seat n (suc j) = record { least = omega arith; most = k } in
              ap₂ op (value s 0 (suc j) seat) (value r 0 (suc j) seat)
              ∙ sym (eval_on L (suc t) s.poly r.poly (suc j) s.size r.size));
        }

    pub secret_on : {x y : List ℕ} → Sharing p n t x → Sharing p n t y → secret p t (on op n x y) ≡ op (secret p t x) (secret p t y)
    unfolding sharing_on
    secret_on s r =
        secret_sharing (sharing_on s r) ∙ eval_on L (suc t) s.poly r.poly 0 s.size r.size
        ∙ sym (ap₂ op (secret_sharing s) (secret_sharing r))

    pub closed : Closed p n t op
    closed = record { sharing = λ x y s r. sharing_on s r; secret_is = λ x y s r. secret_on s r }

  pub sharing_constant : {v : ℕ} → v < p → Sharing p n t (row n (λ _. v))
  unfolding share
  sharing_constant {v} k =
      record {
        poly = v ∷ replicate t 0;
        size = ap suc (length-replicate t 0);
        below = below_cons k (below_zeros (positive M) t);
        is = row_ext n _ _ (λ j _. sym (eval_constant (positive M) v t (suc j) k));
      }

  pub secret_constant : {v : ℕ} → v < p → secret p t (row n (λ _. v)) ≡ v
  unfolding sharing_constant
  secret_constant {v} k = secret_sharing (sharing_constant k) ∙ eval_constant (positive M) v t 0 k

  -- a sharing's value at any point of 0 to n
  value_at : {x : List ℕ} (s : Sharing p n t x) (z : ℕ) → z ≤ n → at (secret p t x) x z ≡ eval p s.poly z
  value_at s zero k = secret_sharing s
  value_at {x} s (suc j) k = value s (secret p t x) (suc j) (record { least = omega arith; most = k })

  -- any t + 1 parties find the secret
  pub any_parties : (xs : List ℕ) {x : List ℕ} → Group n (suc t) xs → Sharing p n t x → value_from p xs x ≡ secret p t x
  unfolding value_from
  any_parties xs G s =
      ap (λ (q : List ℕ). eval p q 0)
      (found s xs (nodes_distinct xs G.points.distinct (λ z m. let l = G.points.most z m in omega arith)) G.points.count
      (λ z m. record { least = G.least z m; most = G.points.most z m }))
      ∙ sym (secret_sharing s)

  -- it is fixed by t + 1 of them
  pub fixed : (xs : List ℕ) {x y : List ℕ} → Points n (suc t) xs → Sharing p n t x → Sharing p n t y
      → ((z : ℕ) → In z xs → at (secret p t x) x z ≡ at (secret p t y) y z) → x ≡ y
  fixed xs Q s r e =
      s.is
      ∙ ap (share p n)
      (same_values M xs s.poly r.poly (nodes_distinct xs Q.distinct (λ z m. let l = Q.most z m in omega arith))
      (s.size ∙ sym Q.count) (r.size ∙ sym Q.count) s.below r.below
      (λ z m. sym (value_at s z (Q.most z m)) ∙ e z m ∙ value_at r z (Q.most z m)))
      ∙ sym r.is

-- the sharing of v that keeps the shares of a set of t parties
unfoldable pub keeping : ℕ → ℕ → List ℕ → List ℕ → ℕ → List ℕ
keeping p n set x v = share p n (interpolate p (0 ∷ set) (at v x))

module _ {p n t : ℕ} (M : Modulus p) (P : Parties n t) {set : List ℕ} (G : Group n t set) where
  seat : (z : ℕ) → In z set → Seat n z
  seat z m = record { least = G.least z m; most = G.points.most z m }

  with_zero : Points n (suc t) (0 ∷ set)
  with_zero =
      record {
        count = ap suc G.points.count;
        distinct = (λ z m e. let l = G.least z m in omega arith, G.points.distinct);
        most = most;
      }
    where
      most : (z : ℕ) → In z (0 ∷ set) → z ≤ n
      most z (here e) = rw e (omega arith)
      most z (there m) = G.points.most z m

  nodes : Nodes (0 ∷ set)
  nodes = nodes_distinct (0 ∷ set) with_zero.distinct (λ z m. let l = with_zero.most z m in omega arith)

  pub sharing_keeping : (x : List ℕ) (v : ℕ) → Sharing p n t (keeping p n set x v)
  unfolding keeping
  sharing_keeping x v = sharing_interpolated M P (0 ∷ set) (at v x) (ap suc G.points.count)

  pub secret_keeping : (x : List ℕ) {v : ℕ} → v < p → secret p t (keeping p n set x v) ≡ v
  unfolding sharing_keeping sharing_interpolated sharing_of
  secret_keeping x {v} k =
      secret_sharing M P (sharing_keeping x v) ∙ interpolate_eval M (0 ∷ set) (at v x) nodes (here refl) ∙ mod-eq_of_lt k

  pub keeping_agrees : {x : List ℕ} (v : ℕ) → Sharing p n t x → Agree set x (keeping p n set x v)
  unfolding sharing_keeping sharing_interpolated sharing_of
  keeping_agrees {x} v s = record {
    same = λ z m.
        sym (value M P (sharing_keeping x v) 0 z (seat z m) ∙ interpolate_eval M (0 ∷ set) (at v x) nodes (there m) ∙ off z (seat z m));
  }
    where
      off : (z : ℕ) → Seat n z → at v x z % p ≡ at 0 x z
      off zero k = absurd (omega arith)
      off (suc j) k = mod-eq_of_lt (share_lt M P s (suc j) k)

  -- a sharing is fixed by the set's shares and its secret
  pub unique : {x y : List ℕ} → Sharing p n t x → Sharing p n t y → Agree set x y → secret p t x ≡ secret p t y → x ≡ y
  unique {x} {y} s r a e = fixed M P (0 ∷ set) with_zero s r same
    where
      move : (z : ℕ) → Seat n z → at 0 x z ≡ at 0 y z → at (secret p t x) x z ≡ at (secret p t y) y z
      move zero k q = absurd (omega arith)
      move (suc j) k q = q

      same : (z : ℕ) → In z (0 ∷ set) → at (secret p t x) x z ≡ at (secret p t y) y z
      same z (here q) = rw q e
      same z (there m) = move z (seat z m) (a.same z m)

  pub one_kept : (x : List ℕ) {v : ℕ} → Sharing p n t x → v < p → OneKept p n t set x v
  one_kept x {v} s k =
      record {
        kept = keeping p n set x v;
        sharing = sharing_keeping x v;
        has_secret = secret_keeping x k;
        keeps = keeping_agrees v s;
        only = λ y r e a. unique r (sharing_keeping x v)
            (record { same = λ z m. sym (a.same z m) ∙ (keeping_agrees v s).same z m }) (e ∙ sym (secret_keeping x k));
      }
