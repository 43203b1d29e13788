use Rattle.std.proofs.Common.{◌≡◌, ◌≢◌, ◌+◌, length, arith, rules, ap, ◌∙◌}
use borrow.Author.Tests.{eq-eqb, ne_eqb}
use Rattle.script.specs.Meaning.{standing_of}
use Rattle.script.proofs.Decoding.{reads_missing, reads_unknown, reads_cut, reads_end, reads_out, reads_in}
use Rattle.script.proofs.decode.decode.Goals as goal

pub returns-then-s-at : goal.returns-then-s-at
returns-then-s-at c = ap (standing_of c.args.at) c.refused.ensures ∙ search reads_missing

pub returns-then-op-gt-LAST_BYTE : goal.returns-then-op-gt-LAST_BYTE
returns-then-op-gt-LAST_BYTE c = ap (standing_of c.args.at) c.refused-then-op-gt-LAST_BYTE.ensures ∙ search (rules, reads_unknown)

pub returns-then-s-at-2 : goal.returns-then-s-at-2
returns-then-s-at-2 c = ap (standing_of c.args.at) c.refused-then-s-at-2.ensures ∙ search (rules, reads_cut)

pub returns-then-next-s : goal.returns-then-next-s
returns-then-next-s c =
    let more : c.args.at + c.size_of-size.result ≢ length c.args.s.now = omega arith in
    ap (standing_of c.args.at) c.refused-then-next-s.ensures
    ∙ reads_end _ _ _ _ (search rules) (search rules) (search rules) c.size_of-size.ensures (omega arith) c.if-op-eq0.true (rw (ne_eqb _ _ more))

pub returns-then-op-eq0 : goal.returns-then-op-eq0
returns-then-op-eq0 c =
    let last : c.args.at + c.size_of-size.result ≡ length c.args.s.now = omega arith in
    reads_end _ _ _ _ (search rules) (search rules) (search rules) c.size_of-size.ensures (omega arith) c.if-op-eq0.true (rw (eq-eqb _ _ last))

pub returns-then-not-in_range : goal.returns-then-not-in_range
returns-then-not-in_range c =
    ap (standing_of c.args.at) c.refused-then-not-in_range.ensures
    ∙ reads_out _ _ _ _ (search rules) (search rules) (search rules) c.size_of-size.ensures (omega arith) c.command_at-command.ensures c.in_range.ensures (search rules)

pub returns : goal.returns
returns c = search (rules, reads_in)
