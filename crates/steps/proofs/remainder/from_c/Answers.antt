use Rattle.std.proofs.Common.{rules}
use Rattle.steps.proofs.Leaving.{comparison_then}
use Rattle.steps.proofs.Remainders.{f_room, u1_leaves, c_leaves}
use Rattle.steps.proofs.Rooms.{room_past}
use Rattle.steps.proofs.remainder.from_c.Goals as goal

pub comparison-u0-requires : goal.comparison-u0-requires
comparison-u0-requires c =
    let R = room_past _ _ c.comparison-f.auto.log (f_room c.requires.0 c.requires.2) in
    rw (c.past-past_f.ensures, c.public_numbers-x.ensures) (search rules, search (rules, R))

pub comparison-u1-requires : goal.comparison-u1-requires
comparison-u1-requires c =
    let R = room_past _ _ c.comparison-u0.auto.log (room_past _ _ c.comparison-f.auto.log (f_room c.requires.0 c.requires.2)) in
    rw (c.past-past_u0.ensures, c.past-past_f.ensures, c.public_numbers-x.ensures) (search rules, search (rules, R))

pub product-g-requires : goal.product-g-requires
product-g-requires c =
    let R = room_past _ _ c.comparison-u0.auto.log (room_past _ _ c.comparison-f.auto.log (f_room c.requires.0 c.requires.2)) in
    rw (c.past-past_u1.ensures, c.past-past_u0.ensures, c.past-past_f.ensures, c.public_numbers-x.ensures) (room_past _ _ c.comparison-u1.auto.log R)

pub returns : goal.returns
returns c =
    let h = c.requires.0.fitting.parties in
    let x = c.public_numbers-x in
    c_leaves _ _ _ c.requires.0 x.ensures c.comparison-f.ensures
    (comparison_then h _ _ _ _ (rw c.past-past_f.ensures at c.comparison-u0.ensures)
    (comparison_then h _ _ _ _ (rw (c.past-past_u0.ensures, c.past-past_f.ensures) at c.comparison-u1.ensures)
    (u1_leaves x.result _ _ _ _ h c.sub_rows-difference.ensures (rw (c.past-past_u1.ensures, c.past-past_u0.ensures, c.past-past_f.ensures) at c.product-g.ensures)
    c.add_rows-u.ensures c.unmasked_row.ensures)))
