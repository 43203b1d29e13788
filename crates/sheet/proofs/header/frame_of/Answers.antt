use Rattle.std.proofs.Common.{rules}
use native.Mathlib.Omega.{arith}
use Rattle.sheet.specs.Reading.{numbers_of}
use Rattle.sheet.proofs.Headers.{places_most, frame_is}
use Rattle.sheet.proofs.header.frame_of.Goals as goal

pub overflow_add-input : goal.overflow_add-input
overflow_add-input c = omega (arith, places_most (numbers_of c.args.h) c.requires c.bits-l.ensures)

pub overflow_mul-mask-2 : goal.overflow_mul-mask-2
overflow_mul-mask-2 c = omega (arith, places_most (numbers_of c.args.h) c.requires c.bits-l.ensures)

pub overflow_add-mask : goal.overflow_add-mask
overflow_add-mask c = omega (arith, places_most (numbers_of c.args.h) c.requires c.bits-l.ensures)

pub overflow_mul-triple-3 : goal.overflow_mul-triple-3
overflow_mul-triple-3 c = omega (arith, places_most (numbers_of c.args.h) c.requires c.bits-l.ensures)

pub overflow_add-triple : goal.overflow_add-triple
overflow_add-triple c = omega (arith, places_most (numbers_of c.args.h) c.requires c.bits-l.ensures)

pub returns : goal.returns
returns c = search (rules, frame_is)
