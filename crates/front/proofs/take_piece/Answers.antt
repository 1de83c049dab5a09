-- `front::take_piece` meets its contract: what the piece comes to decides which of the three takes it.
-- Assumes nothing.
use mathlib.Core.Path.{◌≡◌, sym, ap, ◌∙◌, subst}
use mathlib.Core.List.{List}
use Prim.Native.Nat.{ℕ, ◌*◌}
use native.Mathlib.Omega.{arith}
use lib.ListN.{take, drop}
use borrow.Author.Tests.{not-true, not-false}
use Rattle.front_model.specs.Front.{Front, bytes_at, most_message}
use Rattle.front.specs.Next.{Gives, Keeps}
use Rattle.front.proofs.Changes.{few-kept}
use Rattle.front.proofs.Pieces.{begins}
use Rattle.front.proofs.take_piece.Goals as goal
use Rattle.front.proofs.take_piece.Lts as lts
use Rattle.front.proofs.take_piece.Reads as reads
use Rattle.front.proofs.take_piece.Tie as tie

abbrev front : (lts.After-kept_of tie.the-claims reads.Pre reads.Post) → Front
front c = record { words = c.args.words.now; bytes = c.args.bytes.now }

pub part_of-requires : goal.part_of-requires
part_of-requires c =
    let o = c.requires.0 in
    (o.bytes, o.within, omega (arith, few-kept (front (search)) c.args.channel o.sounds o.within, c.kept_of-kept.ensures))

kept-part : (c : (lts.After-part_of tie.the-claims reads.Pre reads.Post)) → take c.kept_of-kept.result (drop (c.args.channel * most_message) c.args.bytes.now) ≡ bytes_at (front (search)) c.args.channel
kept-part c =
    ap (λ (n : ℕ). take n (drop (c.args.channel * most_message) c.args.bytes.now)) c.kept_of-kept.ensures

pub next_of-requires : goal.next_of-requires
next_of-requires c =
    rw (c.part_of.ensures ∙ kept-part (search)) (begins (front (search)) c.args.channel c.requires.0 c.requires.1)

pub keep_piece-requires : goal.keep_piece-requires
keep_piece-requires c =
    let p = c.requires in
    record { fronts = p.0; unmarked = p.1; comes = subst (λ (q : List ℕ). Keeps q c.args.piece.now) (c.part_of.ensures ∙ kept-part (search)) c.in_default.ensures }

pub give_whole-requires : goal.give_whole-requires
give_whole-requires c =
    let p = c.requires in (
      record { fronts = p.0; unmarked = p.1; comes = subst (λ (q : List ℕ). Gives q c.args.piece.now c.in-Some.next.end c.in-Some.next.dropping) (c.part_of.ensures ∙ kept-part (search)) c.in-Some.ensures },
      sym c.kept_of-kept.ensures ∙ c.if-kept-eq0.true,
    )

pub give_joined-requires : goal.give_joined-requires
give_joined-requires c =
    let p = c.requires in
    record { fronts = p.0; unmarked = p.1; comes = subst (λ (q : List ℕ). Gives q c.args.piece.now c.in-Some.next.end c.in-Some.next.dropping) (c.part_of.ensures ∙ kept-part (search)) c.in-Some.ensures }

pub kept_of-kept-requires : goal.kept_of-kept-requires
kept_of-kept-requires c = c.requires.0.within

pub returns-in_default : goal.returns-in_default
returns-in_default c = c.keep_piece.ensures

pub returns-then-kept-eq0 : goal.returns-then-kept-eq0
returns-then-kept-eq0 c = c.give_whole.ensures

pub returns : goal.returns
returns c = c.give_joined.ensures
