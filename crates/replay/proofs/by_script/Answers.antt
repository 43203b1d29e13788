use Rattle.replay.proofs.Entry.{script_refused, byte_there, field_is, framing, prepared, lines_answer}
use Rattle.replay.proofs.by_script.Goals as goal

pub returns-in-Err : goal.returns-in-Err
returns-in-Err c = script_refused c.requires.0 c.requires.1 c.args.log.now c.in-Err.found c.in-Err.ensures.number c.in-Err.ensures.place c.nothing.ensures

pub bounds-head-0 : goal.bounds-head-0
bounds-head-0 c = byte_there c.requires.0

pub own_of-own-requires : goal.own_of-own-requires
own_of-own-requires c = framing c.requires.0 c.requires.1 (field_is c.args.head.now c.from-field.ensures)

pub replay_lines-requires : goal.replay_lines-requires
replay_lines-requires c = prepared c.requires.0 c.requires.1 c.own_of-own.ensures c.in_default.ensures.number

pub returns : goal.returns
returns c = lines_answer c.requires.0 c.requires.1 c.own_of-own.ensures c.in_default.ensures.number c.args.log.now c.replay_lines.result c.replay_lines.ensures c.answered.ensures
