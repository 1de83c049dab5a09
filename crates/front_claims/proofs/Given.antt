-- Messages laid end to end are given as they are, however they are cut; and a front of words 0 is sound and empty.
-- Assumes nothing.
use Prim.Native.Nat.{ℕ, zero, suc, ◌+◌, ◌<◌}
use native.Mathlib.Omega.{arith}
use mathlib.Core.Path.{◌≡◌, refl, sym, ap, ◌∙◌}
use mathlib.Core.List.{List, [], ◌∷◌}
use lib.ListN.{length, length-append}
use lib.Seq.{drop-append_seam}
use Rattle.basics.specs.Choice.{pick, every, tabulate, ◌and◌, ◌or◌}
use Rattle.front_model.specs.Front.{Part, keeps, part_of, parts_of, unfinished, front_sound_at, front_sound, EmptySound}
use Rattle.front_model.specs.Calls.{taking}
use Rattle.front_claims.specs.Cutting.{AllWhole, joined, MessagesGiven, LongGiven}
use Rattle.front_claims.proofs.Taking.{PartSound, unfinished-short, whole-given, long-given}
use Rattle.front_claims.proofs.Streams.{Stream, before, stream_of, stream-none, stream-given}
use Rattle.front_claims.proofs.Cutting.{cut-stream, given-same}

empty-part : PartSound (keeps [])
unfolding PartSound
empty-part = unfinished-short [] (omega arith)

stream-whole : (n : ℕ) (ms : List (List ℕ)) → AllWhole ms → length (joined ms) < n → stream_of n (keeps []) (joined ms) ≡ record { messages = ms; last = keeps [] }
unfolding AllWhole joined
stream-whole zero ms w l = absurd (omega arith)
stream-whole (suc n) [] w l = stream-none n (keeps []) empty-part
stream-whole (suc n) (m ∷ ms) w l =
    stream-given n (keeps []) (keeps []) m (joined ms) m (length m) (unfold taking in (whole-given m w.0.long w.0.bounded))
    ∙ ap (λ (b : List ℕ). before m (stream_of n (keeps []) b)) (drop-append_seam m (joined ms))
    ∙ ap (before m) (stream-whole n ms w.1 (omega (arith, length-append m (joined ms), w.0.long)))

pub messages-given : MessagesGiven
messages-given c u ms ds h e w a k =
    let s : PartSound (part_of u.front c) = rw e empty-part in
    let n = length (joined ms) + 1 in
    let cut = cut-stream n c u (joined ms) ds h s a k (omega arith) in
    let whole = ap (λ (p : Part). stream_of n p (joined ms)) e ∙ stream-whole n ms w (omega arith) in
    given-same u ds ∙ ap (λ (x : Stream). x.messages) (sym cut ∙ whole)

pub long-one-given : LongGiven
unfolding taking
long-one-given m rest e l = long-given m rest e l

pub empty-sound : EmptySound
empty-sound b =
    record { sounds = unfold front_sound front_sound_at every unfinished ◌and◌ ◌or◌ in refl; parts = unfold parts_of part_of tabulate pick in refl }
