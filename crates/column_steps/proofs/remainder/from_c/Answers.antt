use Rattle.std.proofs.Common.{◌-◌, rules, Ok, Err}
use Rattle.std.proofs.lemmas.Result.{err_from_is_err_and}
use Rattle.model.specs.Bytes.{sevens}
use Rattle.column_steps.specs.Reads.{past}
use Rattle.column_steps.proofs.Remainders.{f_stops, f_comes, u0_stops, u0_comes, u1_stops, u1_comes, g_stops, g_comes}
use Rattle.column_steps.proofs.remainder.from_c.Goals as goal

pub returns-in_err-f : goal.returns-in_err-f
returns-in_err-f c = search (rules, f_stops)

pub returns-in_err-u0 : goal.returns-in_err-u0
returns-in_err-u0 c =
    let p = err_from_is_err_and c.from_residual-in_err-u0.result c.from_residual-in_err-u0.ensures.1 in
    let W = c.requires.0 in
    let x = c.public_numbers-x in
    let at1 = past c.args.at (c.args.c.setting.l - 1) in
    rw (p.1, p.2)
    (f_comes W _ _ c.args.at c.args.m c.args.opened c.args.bits.now c.requires.2 (Err _) x.ensures c.in_ok-f.ensures
    (u0_stops W _ _ at1 x.result c.args.bits.now _ (rw c.past-past_f.ensures at c.in_err-u0.ensures)))

pub returns-in_err-u1 : goal.returns-in_err-u1
returns-in_err-u1 c =
    let p = err_from_is_err_and c.from_residual-in_err-u1.result c.from_residual-in_err-u1.ensures.1 in
    let W = c.requires.0 in
    let x = c.public_numbers-x in
    let at1 = past c.args.at (c.args.c.setting.l - 1) in
    let at2 = past at1 (x.result.m - 1) in
    rw (p.1, p.2)
    (f_comes W _ _ c.args.at c.args.m c.args.opened c.args.bits.now c.requires.2 (Err _) x.ensures c.in_ok-f.ensures
    (u0_comes W _ _ at1 x.result c.args.bits.now _ (Err _) (rw c.past-past_f.ensures at c.in_ok-u0.ensures)
    (u1_stops W _ _ at2 x.result c.args.bits.now _ _ (rw (c.past-past_u0.ensures, c.past-past_f.ensures) at c.in_err-u1.ensures))))

pub returns-in_err-g : goal.returns-in_err-g
returns-in_err-g c =
    let p = err_from_is_err_and c.from_residual-in_err-g.result c.from_residual-in_err-g.ensures.1 in
    let W = c.requires.0 in
    let x = c.public_numbers-x in
    let at1 = past c.args.at (c.args.c.setting.l - 1) in
    let at2 = past at1 (x.result.m - 1) in
    let at3 = past at2 (x.result.m - 1) in
    rw (p.1, p.2)
    (f_comes W _ _ c.args.at c.args.m c.args.opened c.args.bits.now c.requires.2 (Err _) x.ensures c.in_ok-f.ensures
    (u0_comes W _ _ at1 x.result c.args.bits.now _ (Err _) (rw c.past-past_f.ensures at c.in_ok-u0.ensures)
    (u1_comes W _ _ at2 x.result c.args.bits.now _ _ (Err _) (rw (c.past-past_u0.ensures, c.past-past_f.ensures) at c.in_ok-u1.ensures)
    (g_stops W _ _ at3 x.result (sevens x.result.m c.args.bits.now) _ _ _ c.sub_rows-difference.ensures
    (rw (c.past-past_u1.ensures, c.past-past_u0.ensures, c.past-past_f.ensures) at c.in_err-g.ensures)))))

pub returns : goal.returns
returns c =
    let W = c.requires.0 in
    let x = c.public_numbers-x in
    let at1 = past c.args.at (c.args.c.setting.l - 1) in
    let at2 = past at1 (x.result.m - 1) in
    let at3 = past at2 (x.result.m - 1) in
    let r = Ok c.unmasked_row.result in
    f_comes W _ _ c.args.at c.args.m c.args.opened c.args.bits.now c.requires.2 r x.ensures c.in_ok-f.ensures
    (u0_comes W _ _ at1 x.result c.args.bits.now _ r (rw c.past-past_f.ensures at c.in_ok-u0.ensures)
    (u1_comes W _ _ at2 x.result c.args.bits.now _ _ r (rw (c.past-past_u0.ensures, c.past-past_f.ensures) at c.in_ok-u1.ensures)
    (g_comes W _ _ at3 x.result (sevens x.result.m c.args.bits.now) _ _ _ c.sub_rows-difference.ensures
    (rw (c.past-past_u1.ensures, c.past-past_u0.ensures, c.past-past_f.ensures) at c.in_ok-g.ensures) c.add_rows-u.ensures c.unmasked_row.ensures)))
