-- `front::channel_sound` meets its contract: the tests of a channel's front, past those that have passed.
-- Assumes nothing.
use Prim.Native.Nat.{◌≤◌}
use Rattle.front_model.specs.Front.{kept_at, most_kept, Front, unfinished}
use native.Mathlib.Omega.{arith}
use mathlib.Core.Path.{sym, ap, ◌∙◌}
use Rattle.front.proofs.Sounds.{sound-many, sound-keeping, sound-marked, sound-dropping}
use Rattle.front.proofs.channel_sound.Goals as goal
use Rattle.front.proofs.channel_sound.Lts as lts
use Rattle.front.proofs.channel_sound.Reads as reads
use Rattle.front.proofs.channel_sound.Tie as tie

pub returns-then-kept : goal.returns-then-kept
returns-then-kept c = sym (sound-many _ _ (rw c.kept_of-kept.ensures at c.if-kept.true))

-- the front, and that few enough bytes are kept
abbrev front : (lts.Start tie.the-claims reads.Pre reads.Post) → Front
front c = record { words = c.args.words.now; bytes = c.args.bytes.now }

few : (c : (lts.Else1 tie.the-claims reads.Pre reads.Post)) → kept_at (front (search)) c.args.channel ≤ most_kept
few c = omega arith

pub returns-then-dropping-eq0 : goal.returns-then-dropping-eq0
returns-then-dropping-eq0 c =
    c.is_unfinished.ensures ∙ ap unfinished (c.part_of.ensures ∙ rw c.kept_of-kept.ensures) ∙ sym (sound-keeping (front (search)) _ (few (search)) (sym c.dropping_of-dropping.ensures ∙ c.if-dropping-eq0.true))

pub returns-then-dropping-gt1 : goal.returns-then-dropping-gt1
returns-then-dropping-gt1 c =
    sym (sound-marked (front (search)) _ (few (search)) (rw c.dropping_of-dropping.ensures at c.if-dropping-gt1.true))

pub returns : goal.returns
returns c =
    rw c.kept_of-kept.ensures (sym (sound-dropping (front (search)) _ (few (search)) (rw c.dropping_of-dropping.ensures at c.if-dropping-eq0.false) (rw c.dropping_of-dropping.ensures at c.if-dropping-gt1.false)))
