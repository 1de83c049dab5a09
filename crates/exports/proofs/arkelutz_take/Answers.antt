use Rattle.exports.proofs.arkelutz_take.Goals as goal

pub returns : goal.returns
returns c = c.take-taken.ensures
