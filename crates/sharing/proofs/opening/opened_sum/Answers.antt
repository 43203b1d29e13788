use Rattle.std.proofs.Common.{arith}
use Rattle.sharing.proofs.Opened.{point_in, term_most, summed}
use Rattle.sharing.proofs.opening.opened_sum.Goals as goal

pub term-requires : goal.term-requires
term-requires c = point_in c.args.setting c.requires.0 0 (omega arith)

pub term-requires-2 : goal.term-requires-2
term-requires-2 c = point_in c.args.setting c.requires.0 1 (omega arith)

pub overflow_add-low : goal.overflow_add-low
overflow_add-low c =
    let most = term_most c.args.setting c.requires.0 c.args.row.shares c.requires.1 in
    omega (arith, most 0 (omega arith) _ c.term.ensures, most 1 (omega arith) _ c.term-2.ensures)

pub term-requires-3 : goal.term-requires-3
term-requires-3 c = point_in c.args.setting c.requires.0 2 (omega arith)

pub overflow_add-result : goal.overflow_add-result
overflow_add-result c =
    let most = term_most c.args.setting c.requires.0 c.args.row.shares c.requires.1 in
    omega (arith, most 0 (omega arith) _ c.term.ensures, most 1 (omega arith) _ c.term-2.ensures, most 2 (omega arith) _ c.term-3.ensures)

pub term-requires-4 : goal.term-requires-4
term-requires-4 c = point_in c.args.setting c.requires.0 3 (omega arith)

pub overflow_add-result-2 : goal.overflow_add-result-2
overflow_add-result-2 c =
    let most = term_most c.args.setting c.requires.0 c.args.row.shares c.requires.1 in
    omega (arith, most 0 (omega arith) _ c.term.ensures, most 1 (omega arith) _ c.term-2.ensures, most 2 (omega arith) _ c.term-3.ensures, most 3 (omega arith) _ c.term-4.ensures)

pub returns : goal.returns
returns c = summed c.args.setting c.requires.0 c.args.row.shares c.term.ensures c.term-2.ensures c.term-3.ensures c.term-4.ensures
