-- The late reply is under the removal's own handle, and only while that is registered; the pages moved are in the entry.
-- Assumes nothing.
use Prim.Native.Nat.{ℕ, ◌%◌, ◌^◌, ◌<◌}
use native.Mathlib.Omega.{arith}
use mathlib.Core.Path.{◌≡◌, refl, ap, ◌∙◌}
use mathlib.Core.Bool.{true}
use mathlib.Core.List.{List, [], ◌++◌, append_assoc}
use lib.ListN.{length, drop}
use Rattle.wire.specs.BigEndian.{bytes_of, number_at, written}
use Rattle.wire.proofs.Laws.{length-bytes, number-of-bytes}
use Rattle.basics.specs.Choice.{pick, ◌or◌}
use Rattle.model.specs.Layout.{removal_of, is_set, memory_service, outstanding_of, state_words}
use Rattle.model.specs.Messages.{Effect, ds_data, ds_message, registered_as}
use Rattle.model.specs.Memory.{memory_reply}
use Rattle.model.specs.Work.{late_reply, WorkStep, collects, ending, moving, pages_moved, working}
use Rattle.model.specs.Calls.{Outcome, accepted, allowed, effect_of, in_range, pages_of, refusal_of, refused, work}
use Rattle.claims.specs.Demand3.{noted}
use Rattle.claims.specs.Kept.{WorkKept, pages_in}
use Rattle.basics.proofs.Choice.{on-pick}
use Rattle.model.proofs.Replies.{behind}
use Rattle.effects.proofs.WorkEffects.{on_step}
use Rattle.effects.proofs.Taken.{Taken, taken}
use Rattle.model.proofs.Calls.{passed, on-act}
use Rattle.claims.proofs.Kept.{noted-is}
use Rattle.model.specs.Journal.{collected_event, removal_end_event, settled_event}

-- the handle of a memory reply at the start of an output
handle-of : (handle type argument request : ℕ) (records rest : List ℕ) → handle < 2 ^ 64 → number_at (memory_reply handle type argument request records ++ rest) 8 8 ≡ handle
unfolding memory_reply ds_data ds_message
handle-of handle type argument request records rest small =
    simp append_assoc
    (behind (bytes_of 4 9) _ 4 4 8 (length-bytes 4 9)
    ∙ behind (bytes_of 4 _) _ 4 0 8 (length-bytes 4 _)
    ∙ number-of-bytes 8 handle _
    ∙ small-mod handle small)
  where
    small-mod : (x : ℕ) → x < 2 ^ 64 → x % 256 ^ 8 ≡ x
    small-mod x h = omega arith

-- a reply of a work step, if there is one, is the late reply, and the removal's handle is registered; its pages are those of its event
record Tells (s : List ℕ) (x : WorkStep) : Type 0 where
  late : 0 < length x.effects.reply → (x.effects.reply ≡ late_reply s (removal_of s)) × (registered_as s (removal_of s).channel (removal_of s).handle memory_service ≡ true)
  moved : x.pages ≡ pages_in x.effects.event

silent : (s : List ℕ) (x : WorkStep) → x.effects.reply ≡ [] → x.pages ≡ pages_in x.effects.event → Tells s x
silent s x q p = record { late = λ h. absurd (omega (arith, ap length q)); moved = p }

pages-collected : (c n : ℕ) → n ≡ pages_in (collected_event c n)
unfolding pages_in pick ◌or◌
pages-collected c n = refl

pages-settled : (c place code n block : ℕ) → n ≡ pages_in (settled_event c place code n block)
unfolding pages_in pick ◌or◌
pages-settled c place code n block = refl

pages-ended : (c code replied request : ℕ) → 0 ≡ pages_in (removal_end_event c code replied request)
unfolding pages_in pick ◌or◌
pages-ended c code replied request = refl

ending-tells : (s : List ℕ) → Tells s (moving 0 (ending s (removal_of s)))
unfolding ending
ending-tells s =
    on-pick (λ (e : Effect). Tells s (moving 0 e)) _ _ _
    (λ e. record { late = λ h. (refl, e); moved = pages-ended _ _ _ _ })
    (λ e. silent s _ refl (pages-ended _ _ _ _))

collecting-tells : (s : List ℕ) (i n : ℕ) → Tells s (moving n (collects s (removal_of s) i n))
unfolding collects
collecting-tells s i n =
    on-pick (λ (e : Effect). Tells s (moving n e)) _ _ _
    (λ e. silent s _ refl (pages-settled _ _ _ _ _))
    (λ e. silent s _ refl (pages-collected _ _))

working-tells : (s : List ℕ) (budget : ℕ) → Tells s (working s budget)
working-tells s budget =
    on_step (Tells s) s (removal_of s) budget
    (record {
      on_end = ending-tells s;
      on_nowork = λ i w z. silent s _ refl (pages-settled _ _ _ _ _);
      on_collect = λ i w n. collecting-tells s i (pages_moved s (removal_of s) i budget);
    })

-- an accepted step
module _ (s j out : List ℕ) (budget : ℕ) (t : Taken s j out (working s budget).effects) (o : is_set (outstanding_of s) ≡ true) where
  done : Outcome
  done = accepted s j out (working s budget).pages (working s budget).effects

  late-kept : 0 < done.count → (number_at done.buffer 8 8 ≡ (removal_of s).handle) × (registered_as s (removal_of s).channel (removal_of s).handle memory_service ≡ true)
  unfolding done accepted written late_reply
  late-kept h =
      let p = (working-tells s budget).late h in
      let m = (t.given.facts.removal o).facts in
      let small : (removal_of s).handle < 2 ^ 64 = omega (arith, m.handles.most, t.given.number) in
      let q : number_at ((working s budget).effects.reply ++ drop (length (working s budget).effects.reply) out) 8 8 ≡ (removal_of s).handle =
      rw p.0 (handle-of (removal_of s).handle _ _ _ _ _ small) in
      (q, p.1)

  pages-kept : done.pages ≡ pages_in (noted done)
  unfolding done
  pages-kept =
      rw (noted-is s j out (working s budget).pages (working s budget).effects t)
      (unfold accepted in (working-tells s budget).moved)

-- what is known of a step that is not refused
work-taken : (s j out : List ℕ) (budget : ℕ) → length s ≡ state_words → refusal_of s j out (work budget) ≡ 0 → Taken s j out (working s budget).effects
unfolding effect_of
work-taken s j out budget size z = taken s j out (work budget) size z

pub work-allowed : (s j out : List ℕ) (budget : ℕ) → refusal_of s j out (work budget) ≡ 0 → is_set (outstanding_of s) ≡ true
unfolding refusal_of allowed
work-allowed s j out budget z = (passed s (length j) (length out) (in_range (work budget)) (is_set (outstanding_of s)) z).is_allowed

pub work-kept : WorkKept
unfolding done pages_of effect_of
work-kept = record {
  under_own_handle =
      λ s j budget out size.
      on-act (λ r. r.refusal ≡ 0 → 0 < r.count → (number_at r.buffer 8 8 ≡ (removal_of s).handle) × (registered_as s (removal_of s).channel (removal_of s).handle memory_service ≡ true)) s j out (work budget)
      (λ z q h. late-kept s j out budget (work-taken s j out budget size z) (work-allowed s j out budget z) h)
      (λ n q h. absurd (n (unfold refused in q)));
  pages_noted =
      λ s j budget out size.
      on-act (λ r. r.refusal ≡ 0 → r.pages ≡ pages_in (noted r)) s j out (work budget)
      (λ z q. pages-kept s j out budget (work-taken s j out budget size z) (work-allowed s j out budget z))
      (λ n q. absurd (n (unfold refused in q)));
}
