-- No list outgrows the buffer.
-- Assumes nothing.
use mathlib.Core.Path.{◌≡◌, sym, ap, ◌∙◌}
use mathlib.Core.List.{List}
use Prim.Native.Nat.{ℕ, ◌+◌, ◌*◌, ◌<◌}
use lib.ListN.{length}
use Rattle.algebra.proofs.Lists.{length_onto}
use Rattle.model.specs.Calls as Calls
use Rattle.model.proofs.CallLists.{call_lists}
use Rattle.calls.specs.declared.Imported.{Imported}
use Rattle.calls.specs.Meaning.{import_of}
use Rattle.calls_main.specs.Reading.{Ample}
use Rattle.calls_main.proofs.import_ample.Goals as goal

ample : (list seconds left : List ℕ) (r : Imported) → length list + 2 < 7 * (length seconds + 1) → import_of r left ≡ Calls.imported list seconds → Ample list seconds r left
ample list seconds left r h e =
    let x = call_lists.imports list seconds in
    record {
      is = e;
      not_33 = λ q. call_lists.ample list seconds h (sym (ap (λ (y : Calls.Imported). y.number) e) ∙ q);
      calls = rw (ap (λ (y : Calls.Imported). y.calls) e, x.calls, ap (λ (y : Calls.Imported). y.out) e, x.out_is, length_onto x.seconds seconds x.fits) x.fits;
    }

pub returns : goal.returns
returns c = ample _ _ _ _ c.requires c.import.ensures
