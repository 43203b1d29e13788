-- Bits and numbers, bit 0 first: laws of `spell`, and the low bits of a number.
-- Assumes nothing.
use mathlib.Core.Path.{◌≡◌, refl, sym, ap, ◌∙◌}
use mathlib.Core.List.{List, [], ◌∷◌}
use Prim.Native.Nat.{ℕ, zero, suc, ◌+◌, ◌*◌, ◌/◌, ◌%◌, ◌^◌, ◌<◌}
use native.Mathlib.Nat.{mod-eq_of_lt, pow-suc, zero-mod}
use native.Mathlib.Omega.{arith}
use lib.Arith.{mod-mul}
use lib.ListN.{length, take}
use lib.Pow.{pow_pos}
use Rattle.algebra.specs.Lists.{Below}
use Rattle.algebra.proofs.Lists.{below_nil, below_head, below_tail, below_cons}
use Rattle.model.specs.Sheet.{spell}

-- the low w bits of a number
unfoldable pub bits_of : ℕ → ℕ → List ℕ
bits_of zero r = []
bits_of (suc w) r = r % 2 ∷ bits_of w (r / 2)

-- low bits of a number by its lowest and the rest
mod_power : (v m : ℕ) → v % 2 ^ suc m ≡ v % 2 + 2 * (v / 2 % 2 ^ m)
mod_power v m = rw pow-suc (mod-mul v (pow_pos m) (pow_pos 1) ∙ omega arith)

-- a spelt number's lowest bit and the rest
lowest : (b s : ℕ) → b < 2 → (b + 2 * s) % 2 ≡ b
lowest b s h = omega arith

rest : (b s : ℕ) → b < 2 → (b + 2 * s) / 2 ≡ s
rest b s h = omega arith

pub spell_lt : (bs : List ℕ) → Below 2 bs → spell bs < 2 ^ length bs
unfolding spell
spell_lt [] B = omega arith
spell_lt (b ∷ bs) B = omega (arith, below_head B, spell_lt bs (below_tail B), pow-suc 2 (length bs))

pub below_take : {p : ℕ} (m : ℕ) (xs : List ℕ) → Below p xs → Below p (take m xs)
below_take {p} zero xs B = below_nil p
below_take (suc m) [] B = B
below_take (suc m) (x ∷ xs) B = below_cons (below_head B) (below_take m xs (below_tail B))

pub spell_take : (m : ℕ) (bs : List ℕ) → Below 2 bs → spell (take m bs) ≡ spell bs % 2 ^ m
unfolding spell
spell_take zero bs B = omega arith
spell_take (suc m) [] B = sym (zero-mod (2 ^ suc m))
spell_take (suc m) (b ∷ bs) B =
    let h = below_head B in rw (mod_power, spell_take m bs (below_tail B), lowest b (spell bs) h, rest b (spell bs) h)

pub length_bits : (w r : ℕ) → length (bits_of w r) ≡ w
unfolding bits_of
length_bits zero r = refl
length_bits (suc w) r = ap suc (length_bits w (r / 2))

pub below_bits : (w r : ℕ) → Below 2 (bits_of w r)
unfolding bits_of
below_bits zero r = below_nil 2
below_bits (suc w) r = below_cons (omega arith) (below_bits w (r / 2))

pub spell_bits : (w r : ℕ) → spell (bits_of w r) ≡ r % 2 ^ w
unfolding bits_of spell
spell_bits zero r = omega arith
spell_bits (suc w) r = rw (spell_bits w (r / 2), mod_power)

pub spell_small : (w r : ℕ) → r < 2 ^ w → spell (bits_of w r) ≡ r
spell_small w r h = spell_bits w r ∙ mod-eq_of_lt h

pub bits_spell : (bs : List ℕ) → Below 2 bs → bits_of (length bs) (spell bs) ≡ bs
unfolding bits_of spell
bits_spell [] B = refl
bits_spell (b ∷ bs) B =
    let h = below_head B in rw (lowest b (spell bs) h, rest b (spell bs) h, bits_spell bs (below_tail B))
