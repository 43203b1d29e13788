use Rattle.std.proofs.Common.{rules}
use Rattle.sheet.proofs.Headers.{row_count}
use Rattle.replay.proofs.Entry.{header_refused, party_out, seated, count_refused, head_wrong, part_wrong, shares_wrong, shares_right}
use Rattle.replay.proofs.head_frame.Goals as goal

pub returns-in_err-h : goal.returns-in_err-h
returns-in_err-h c = search (rules, header_refused)

pub returns-then-party-lt1 : goal.returns-then-party-lt1
returns-then-party-lt1 c = (party_out _ _ _ c.in_ok-h.ensures.0 c.in_ok-h.ensures.1 c.then-party-lt1.either, tt)

pub returns-in_err-f : goal.returns-in_err-f
returns-in_err-f c = search (rules, count_refused, seated)

pub returns-then-head-f : goal.returns-then-head-f
returns-then-head-f c = search (rules, head_wrong, seated)

pub rows-rows-requires : goal.rows-rows-requires
rows-rows-requires c = row_count c.in_ok-f.ensures.1

pub returns-then-part-rows : goal.returns-then-part-rows
returns-then-part-rows c =
    let S = seated c.args.party _ c.in_ok-h.ensures.0 c.in_ok-h.ensures.1 c.if-party-lt1.false c.if-h-party.false in
    (part_wrong _ _ _ S c.in_ok-f.ensures c.if-head-f.false c.rows-rows.ensures c.if-part-rows.true, tt)

pub returns-then-not-all_below : goal.returns-then-not-all_below
returns-then-not-all_below c =
    let S = seated c.args.party _ c.in_ok-h.ensures.0 c.in_ok-h.ensures.1 c.if-party-lt1.false c.if-h-party.false in
    (shares_wrong _ _ _ S c.in_ok-f.ensures c.if-head-f.false c.rows-rows.ensures c.if-part-rows.false c.if-not-all_below.ensures, tt)

pub returns : goal.returns
returns c =
    let S = seated c.args.party _ c.in_ok-h.ensures.0 c.in_ok-h.ensures.1 c.if-party-lt1.false c.if-h-party.false in
    (shares_right _ _ _ S c.in_ok-f.ensures c.if-head-f.false c.rows-rows.ensures c.if-part-rows.false c.if-not-all_below.ensures, c.in_ok-f.ensures.1)
