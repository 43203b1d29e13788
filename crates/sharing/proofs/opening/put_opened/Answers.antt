use Rattle.std.proofs.Common.{◌≡◌, length, arith, rules}
use Rattle.sharing.specs.Settings.{setting_of}
use Rattle.sharing.proofs.Opened.{all_recorded}
use Rattle.sharing.proofs.opening.put_opened.Goals as goal

pub returns-then-all_present : goal.returns-then-all_present
returns-then-all_present c =
    let h : length c.args.row.shares ≡ 7 = search rules in
    all_recorded (setting_of c.args.setting) c.args.row.shares c.args.at _ (omega arith) c.all_present.ensures c.if-all_present.true c.put_shares.ensures
