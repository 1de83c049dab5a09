-- `front::reopen` meets its contract: refused, or the channel's words are 0.
-- Assumes nothing.
use mathlib.Core.Path.{ap}
use mathlib.Core.Bool.{not}
use native.Mathlib.Omega.{arith}
use mathlib.Core.Path.{◌≡◌, refl, sym, ◌∙◌}
use Rattle.basics.proofs.Loops.{no, yes}
use Rattle.front.specs.Changes.{Fronts}
use Rattle.front.specs.Refusals.{opening_refusal}
use Rattle.front.proofs.Reopens.{reopen-unsound, reopen-refused, reopen-done, opening-within}
use Rattle.soundness.proofs.Refusals.{positive}
use Rattle.front.proofs.reopen.Goals as goal

pub returns-then-not-front_sound : goal.returns-then-not-front_sound
returns-then-not-front_sound c = rw c.number.ensures (reopen-unsound _ _ _ (no _ c.front_sound.ensures (ap not c.if-not-front_sound.true)))

pub returns-in-Err : goal.returns-in-Err
returns-in-Err c =
    rw c.number-in-Err.ensures (reopen-refused _ _ _ _ (yes _ c.front_sound.ensures (ap not c.if-not-front_sound.false)) c.in-Err.ensures (positive _))

pub set_words-requires : goal.set_words-requires
set_words-requires c = opening-within _ _ (sym c.in_default.ensures)

pub returns : goal.returns
returns c =
    let opened : Fronts (record { words = c.args.words.now; bytes = c.args.bytes.now }) c.args.channel = record {
      words = c.told-words;
      bytes = c.told-bytes;
      sounds = yes _ c.front_sound.ensures (ap not c.if-not-front_sound.false);
      within = opening-within _ _ (sym c.in_default.ensures);
    } in
    reopen-done _ _ _ _ opened (sym c.in_default.ensures) (record { words = c.set_words.ensures; bytes = refl; fits = omega arith })
