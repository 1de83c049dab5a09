use Rattle.exports.proofs.arkelutz_permit.Goals as goal

pub returns : goal.returns
returns c = c.permit.ensures
