-- `front::give_joined` meets its contract: the message in the room is the kept part and the piece's bytes to its end.
-- Assumes nothing.
use mathlib.Core.Path.{refl, ◌≡◌, sym, ap, ◌∙◌}
use mathlib.Core.List.{List}
use Prim.Native.Nat.{ℕ, ◌+◌, ◌-◌, ◌*◌, ◌≤◌}
use native.Mathlib.Omega.{arith}
use lib.ListN.{length, take, drop}
use lib.Seq.{length-sets, length-take-le}
use borrow.Author.Tests.{eq-eqb}
use Rattle.basics.proofs.Choice.{pick_true}
use Rattle.front_model.specs.Front.{Front, kept_at, most_message}
use Rattle.front.proofs.Pieces.{answer-none, give-refused, gives-by, kept-length, message-joined}
use Rattle.soundness.proofs.Refusals.{positive}
use Rattle.front.proofs.give_joined.Goals as goal
use Rattle.front.proofs.give_joined.Lts as lts
use Rattle.front.proofs.give_joined.Reads as reads
use Rattle.front.proofs.give_joined.Tie as tie

pub returns-in-Err : goal.returns-in-Err
returns-in-Err c =
    rw (c.refused.ensures, c.number.ensures) (give-refused _ _ _ _ _ _ _ _ c.requires _ c.in-Err.ensures.0 (positive _))

pub kept_of-kept-requires : goal.kept_of-kept-requires
kept_of-kept-requires c = c.requires.fronts.within

abbrev front : (lts.After-kept_of tie.the-claims reads.Pre reads.Post) → Front
front c = record { words = c.args.words.now; bytes = c.args.bytes.now }

abbrev end_of : (lts.After-kept_of tie.the-claims reads.Pre reads.Post) → ℕ
end_of c = c.args.next.end

record Ends (kept end count : ℕ) : Type 0 where
  starts : kept ≤ end
  ends : end - kept ≤ count
  most : end ≤ most_message

ends : (c : (lts.After-kept_of tie.the-claims reads.Pre reads.Post)) → Ends c.kept_of-kept.result (end_of (search)) (length c.args.piece.now)
ends c =
    let g = c.requires in
    let l = kept-length (front (search)) c.args.channel g.fronts in
    let k = c.kept_of-kept.ensures in
    record {
      starts = omega (arith, g.comes.starts);
      ends = omega (arith, g.comes.ends);
      most = g.comes.most;
    }

stored : (c : (lts.After-kept_of tie.the-claims reads.Pre reads.Post)) → length (take (end_of (search) - c.kept_of-kept.result) c.args.piece.now) ≡ end_of (search) - c.kept_of-kept.result
stored c = length-take-le (end_of (search) - c.kept_of-kept.result) c.args.piece.now (ends (search)).ends

pub overflow_add-channel : goal.overflow_add-channel
overflow_add-channel c = omega (arith, c.requires.fronts.within, ends (search))

pub copy-requires : goal.copy-requires
copy-requires c =
    omega (arith, c.requires.fronts.within, ends (search), stored (search))

pub part_of-message-requires : goal.part_of-message-requires
part_of-message-requires c =
    let a = c.args in
    let g = c.requires in (
      ap length c.copy.ensures
          ∙ length-sets a.bytes.now (a.channel * most_message + c.kept_of-kept.result) (take (end_of (search) - c.kept_of-kept.result) a.piece.now)
          ∙ g.fronts.bytes,
      g.fronts.within,
      g.comes.most,
    )

pub give-answer-requires : goal.give-answer-requires
give-answer-requires c =
    c.requires.fronts.within

pub returns : goal.returns
returns c =
    let a = c.args in
    let g = c.requires in
    let q = c.kept_of-kept.ensures in
    let n = kept_at (front (search)) a.channel in
    let v = take (end_of (search) - n) a.piece.now in
    let b = rw q at c.copy.ensures in
    let e = c.part_of-message.ensures ∙ ap (λ (l : List ℕ). take (end_of (search)) (drop (a.channel * most_message) l)) b ∙ message-joined (front (search)) a.channel a.piece.now (end_of (search)) a.next.dropping g in
    let z = answer-none (front (search)) _ _ a.channel a.piece.now _ (end_of (search)) a.next.dropping g _ c.give-answer.result _ _ _ e c.give-answer.ensures.0 c.in_default.ensures.0 refl in
    rw c.given.ensures
    (gives-by (front (search)) _ _ a.channel a.piece.now _ (end_of (search)) a.next.dropping g _ c.give-answer.result _ _ _ _ _ v e c.give-answer.ensures.0
    (omega (arith, q))
    (λ _. record { words = c.give-answer.ensures.1 ∙ pick_true _ _ _ (eq-eqb _ _ z); bytes = b; fits = omega (arith, q, ends (search), length-take-le (end_of (search) - n) a.piece.now (omega (arith, q, ends (search)))) })
    (λ x. absurd (x z)))

pub overflow_sub-taken : goal.overflow_sub-taken
overflow_sub-taken c = (ends (search)).starts

pub overflow_mul-channel : goal.overflow_mul-channel
overflow_mul-channel c = omega (arith, c.requires.fronts.within)

pub slice_bounds-copy-end : goal.slice_bounds-copy-end
slice_bounds-copy-end c = sym (stored (search))
