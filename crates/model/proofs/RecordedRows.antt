-- A sharing that was opened, found in the record: whoever was present, nothing refuses it, and its value is the one that the opening gave.
-- Assumes nothing.
use mathlib.Core.Path.{◌≡◌, refl, sym, ◌∙◌}
use mathlib.Core.Logic.{◌≢◌}
use mathlib.Core.Bool.{Bool, true, false, cond}
use mathlib.Core.List.{List, ◌++◌}
use Prim.Native.Nat.{ℕ, zero, suc, ◌≤◌, ◌<◌}
use native.Mathlib.Omega.{arith}
use lib.ListN.{length, length-append, get_or-append}
use lib.Seq.{drop_at}
use Rattle.algebra.proofs.Rows.{row_at_lem, get_or_tab}
use Rattle.model.specs.Fields.{modulus, InUse, Modulus, Parties}
use Rattle.model.specs.Sharing.{Sharing, eval, at}
use Rattle.model.specs.Presence.{is_present, PermittedSet, openers}
use Rattle.model.specs.Deal.{Setting, Row}
use Rattle.model.specs.Steps.{value, recorded}
use Rattle.model.specs.Sheet.{Header, setting_with, setting_of}
use Rattle.model.specs.Replay.{Read, own_share, opening, opened_value, opening_number, from_record}
use Rattle.model.specs.Replays.{OnOne, Openings}
use Rattle.model.proofs.Fields.{fields}
use Rattle.model.proofs.Presence.{presence, openers_group}
use Rattle.model.proofs.Sharings.{share_lt, secret_sharing}
use Rattle.model.proofs.Sharings as Sharings
use Rattle.model.proofs.Shared.{value_secret}
use Rattle.model.proofs.Written.{length_recorded}
use Rattle.model.proofs.RecordOpenings.{openings}
use Rattle.model.proofs.OneColumn.{Column, own_share_lem}

-- The run of a sheet with the header h, in which these parties are present.
module _ (h : Header) (present : ℕ) (field : InUse h.field) (people : Parties h.n h.t) (set : PermittedSet h.n h.t present) where
  abbrev S : Setting
  S = setting_with present h

  abbrev p : ℕ
  p = modulus h.field

  abbrev M : Modulus p
  M = (fields h.field field).modulus_is

  -- an opened sharing x, and what follows it in the record
  module _ {x : Row} (s : Sharing p h.n h.t x) (rest : List ℕ) where
    abbrev found : Row
    found = opening p h.n h.t (recorded S x ++ rest)

    -- "in the record p itself stands for an absent share"
    found_at : (z : ℕ) → 1 ≤ z → z ≤ h.n → at 0 found z ≡ cond (is_present present z) (at 0 x z) p
    unfolding opening recorded
    found_at zero a b = absurd (omega arith)
    found_at (suc k) a b =
        row_at_lem h.n _ k b ∙ get_or-append (recorded S x) rest 0 k (rw (length_recorded S x) b) ∙ get_or_tab h.n _ k b

    below : (z : ℕ) → 1 ≤ z → z ≤ h.n → at 0 x z < p
    below z a b = share_lt M people s z (record { least = a; most = b })

    present_at_lem : (z : ℕ) → 1 ≤ z → z ≤ h.n → is_present present z ≡ true → at 0 found z ≡ at 0 x z
    present_at_lem z a b e = found_at z a b ∙ rw e refl

    -- the shares that are present are on the sharing's own polynomial, and those that the opening was worked from are present
    on_one : OnOne p h.n h.t found
    on_one =
        let L = presence.opened_from h.n h.t present set in
        record {
          most = λ z a b. rw (found_at z a b) (most z (is_present present z) (below z a b));
          parties = openers h.n h.t present;
          group = openers_group h.n h.t present (omega arith);
          there = λ z m e. let q = L.parties z m in omega (arith, below z q.0 q.1, sym (present_at_lem z q.0 q.1 (L.present_all z m)) ∙ e);
          poly = s.poly;
          size = s.size;
          below = s.below;
          takes = λ z a b k. takes z a b (is_present present z) refl k;
        }
      where
        most : (z : ℕ) (c : Bool) → at 0 x z < p → cond c (at 0 x z) p ≤ p
        most z true l = omega arith
        most z false l = omega arith

        takes : (z : ℕ) → 1 ≤ z → z ≤ h.n → (c : Bool) → is_present present z ≡ c → at 0 found z ≢ p → eval p s.poly z ≡ at 0 found z
        takes z a b true e k =
            sym (Sharings.value M people s 0 z (record { least = a; most = b })) ∙ sym (present_at_lem z a b e)
        takes z a b false e k = absurd (k (found_at z a b ∙ rw e refl))

    -- party i + 1, which has column i of it
    module _ (i : ℕ) (l : i < h.n) where
      asks : (own : ℕ) → Openings p h.n h.t (suc i) own (recorded S x ++ rest)
      asks own = openings h.field h.n h.t (suc i) own (recorded S x ++ rest) field people (omega arith) l

      -- an own share that is absent is not compared, and one that is present is the same
      not_refused : {y : Row} → Column i x y → opening_number p h.n h.t (suc i) (own_share y) (recorded S x ++ rest) ≡ 0
      not_refused {y} c = go (is_present present (suc i)) refl
        where
          long : h.n ≤ length (recorded S x ++ rest)
          long = rw (length-append, length_recorded S x) (omega arith)

          go : (b : Bool) → is_present present (suc i) ≡ b → opening_number p h.n h.t (suc i) (own_share y) (recorded S x ++ rest) ≡ 0
          go true e = (asks (own_share y)).same long on_one (present_at_lem (suc i) (omega arith) l e ∙ own_share_lem i c)
          go false e = (asks (own_share y)).absent long on_one (found_at (suc i) (omega arith) l ∙ rw e refl)

      same_value : opened_value p h.n h.t found ≡ value S x
      unfolding on_one
      same_value =
          (asks 0).value_is on_one ∙ sym (secret_sharing M people s) ∙ sym (value_secret S M people s)

      -- an opening of the column is read as the run opened the row
      pub from_recorded : {A : Type 0} {y : Row} → Column i x y → (go : ℕ → List ℕ → Read A)
          → from_record (setting_of h) (suc i) y (recorded S x ++ rest) go ≡ go (value S x) rest
      unfolding from_record
      from_recorded c go = rw (not_refused c, same_value, drop_at (recorded S x) rest h.n (length_recorded S x)) refl
