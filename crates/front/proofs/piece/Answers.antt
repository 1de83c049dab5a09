-- `front::piece` meets its contract: 8 for the front, the channel, and what the channel's front does with the bytes.
-- Assumes nothing.
use mathlib.Core.Path.{ap}
use mathlib.Core.Bool.{not}
use mathlib.Core.Path.{sym, ◌∙◌}
use Rattle.basics.proofs.Loops.{no, yes}
use Rattle.front.specs.Changes.{Fronts}
use Rattle.front.proofs.Pieces.{piece-outside, piece-unsound}
use Rattle.front.proofs.piece.Goals as goal
use Rattle.front.proofs.piece.Lts as lts
use Rattle.front.proofs.piece.Reads as reads
use Rattle.front.proofs.piece.Tie as tie

pub returns-then-not-front_sound : goal.returns-then-not-front_sound
returns-then-not-front_sound c =
    rw (c.refused.ensures, c.number.ensures)
    (piece-unsound _ _ _ _ _ _ (no _ c.front_sound.ensures (ap not c.if-not-front_sound.true)))

pub returns-then-channel-ge-CHANNEL_COUNT : goal.returns-then-channel-ge-CHANNEL_COUNT
returns-then-channel-ge-CHANNEL_COUNT c =
    rw c.refused-then-channel-ge-CHANNEL_COUNT.ensures
    (piece-outside _ _ _ _ _ _ _ (yes _ c.front_sound.ensures (ap not c.if-not-front_sound.false)) c.if-channel-ge-CHANNEL_COUNT.true (c.number_of.ensures ∙ c.check_lent.ensures))

fronts : (c : (lts.Else2 tie.the-claims reads.Pre reads.Post)) → Fronts (record { words = c.args.words.now; bytes = c.args.bytes.now }) c.args.channel
fronts c =
    record {
      words = c.told-words;
      bytes = c.told-bytes;
      sounds = yes _ c.front_sound.ensures (ap not c.if-not-front_sound.false);
      within = c.if-channel-ge-CHANNEL_COUNT.false;
    }

pub drop_piece-requires : goal.drop_piece-requires
drop_piece-requires c =
    (fronts (search), λ z. c.if-dropping_of-ne0.true (c.dropping_of.ensures ∙ z))

pub take_piece-requires : goal.take_piece-requires
take_piece-requires c =
    (fronts (search), sym c.dropping_of.ensures ∙ c.if-dropping_of-ne0.false)

pub dropping_of-requires : goal.dropping_of-requires
dropping_of-requires c = c.if-channel-ge-CHANNEL_COUNT.false

pub returns-then-dropping_of-ne0 : goal.returns-then-dropping_of-ne0
returns-then-dropping_of-ne0 c = c.drop_piece.ensures

pub returns : goal.returns
returns c = c.take_piece.ensures
