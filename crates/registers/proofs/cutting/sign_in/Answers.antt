use Rattle.std.proofs.Common.{◌≡◌, ◌^◌, ◌<◌, length, rules}
use Rattle.registers.proofs.Signing.{sign_reached, sign_asks, sign_done}
use Rattle.registers.proofs.cutting.sign_in.Goals as goal

pub places_of-at-requires : goal.places_of-at-requires
places_of-at-requires c =
    let hs : length c.args.s.now < 2 ^ 64 = search rules in
    let hl : length c.args.log.now < 2 ^ 64 = search rules in
    sign_reached c.requires hs hl

pub cut_from-row-requires : goal.cut_from-row-requires
cut_from-row-requires c = sign_asks c.requires c.setting-setting.ensures c.places_of-at.ensures

pub returns : goal.returns
returns c =
    let seven : length c.cut_from-row.result.shares ≡ 7 = search (rules, c.cut_from-row.type_inv) in
    sign_done c.requires c.setting-setting.ensures c.places_of-at.ensures seven c.cut_from-row.ensures c.put_shares.ensures
