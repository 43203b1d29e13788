use Rattle.std.proofs.Common.{◌≡◌, length, rules}
use Rattle.presence.proofs.weights_among.Goals as goal

pub returns : goal.returns
returns c =
    let four : length c.args.parties ≡ 4 = search rules in
    c.weights_by.ensures _ _ four (λ i v h k. search rules)
