-- What a work step does to the blocks and to the removal.
-- Assumes nothing.
use Prim.Native.Nat.{ℕ, ◌<◌}
use native.Mathlib.Omega.{arith}
use mathlib.Core.Path.{◌≡◌, refl, ◌∙◌}
use mathlib.Core.Bool.{true}
use mathlib.Core.List.{List, []}
use Rattle.model.specs.declared.Event.{Event}
use Rattle.model.specs.Layout.{block_at, blocks_of, outstanding_of, is_set, removal_of, with_configured, with_removal, without_removal}
use Rattle.model.specs.Journal.{kind_removal_end, collected_event, settled_event}
use Rattle.model.specs.Memory.{DR-MEM-RES-OK, DR-MEM-RES-NOWORK}
use Rattle.model.specs.Messages.{Effect, effect}
use Rattle.model.specs.Work.{WorkStep, addr_now, size_now, collects, collecting, ending, settled, working}
use Rattle.basics.proofs.Choice.{on-pick}
use Rattle.model.proofs.Words.{loaded-arrays, without-frame, without-outstanding}
use Rattle.model.proofs.View.{shape-moves, configured-moves}
use Rattle.model.proofs.Sounds.{count-flag, named-less}
use Rattle.model.proofs.Turns.{Turn, leaves, configures, begins, marks, steps, SameSizes, SameBlocks, NewRemoval, same_blocks, sizes-then, flag-sizes, flag-now, flag-else, removal-blocks, new-removal}
use Rattle.model.proofs.Rules.{Given}
use Rattle.effects.proofs.Effects.{shape}
use Rattle.effects.proofs.WorkEffects.{Working, on_step, settled-arrays}

-- A step on block i.
pub data Step (s : List ℕ) (e : Effect) : Type 0 where
  -- n pages more are collected, and not all yet
  adds :
      (i n : ℕ) →
      Working s (removal_of s) i →
      SameBlocks s e.state →
      NewRemoval e.state (collecting (removal_of s) n) →
      ((block_at s i).configured ≡ 0 → ⊥) →
      e.event ≡ collected_event (removal_of s).channel n →
      Step s e
  -- the record is settled NOWORK
  nowork :
      (i : ℕ) →
      Working s (removal_of s) i →
      SameBlocks s e.state →
      NewRemoval e.state (settled (removal_of s) DR-MEM-RES-NOWORK) →
      (block_at s i).configured ≡ 0 →
      e.event ≡ settled_event (removal_of s).channel (removal_of s).position DR-MEM-RES-NOWORK 0 i →
      Step s e
  -- n pages more are collected, its flag falls, and it is settled OK
  ok :
      (i n : ℕ) →
      Working s (removal_of s) i →
      SameSizes s e.state →
      ((k : ℕ) → (k ≡ i → ⊥) → k < blocks_of s → (block_at e.state k).configured ≡ (block_at s k).configured) →
      (block_at e.state i).configured ≡ 0 →
      NewRemoval e.state (settled (removal_of s) DR-MEM-RES-OK) →
      ((block_at s i).configured ≡ 0 → ⊥) →
      e.event ≡ settled_event (removal_of s).channel (removal_of s).position DR-MEM-RES-OK n i →
      Step s e
  ends : SameBlocks s e.state → outstanding_of e.state ≡ 0 → e.event.kind ≡ kind_removal_end → Step s e

module _ (s : List ℕ) (g : Given s) (o : is_set (outstanding_of s) ≡ true) where
  adds-step : (i n : ℕ) → Working s (removal_of s) i → ((block_at s i).configured ≡ 0 → ⊥) → Step s (effect (collected_event (removal_of s).channel n) (with_removal s (collecting (removal_of s) n)) [])
  adds-step i n w d =
      let a = loaded-arrays s in
      adds i n w (removal-blocks s (collecting (removal_of s) n) g.facts.base.few)
      (new-removal s (collecting (removal_of s) n) g.size (unfold collecting in record { addresses = a.addresses; sizes = a.sizes; results = a.results }))
      d refl

  ok_step : (i n : ℕ) → Working s (removal_of s) i → ((block_at s i).configured ≡ 0 → ⊥) → Step s (effect (settled_event (removal_of s).channel (removal_of s).position DR-MEM-RES-OK n i) (with_removal (with_configured s i 0) (settled (removal_of s) DR-MEM-RES-OK)) [])
  ok_step i n w d =
      let h = shape s g in
      let ib = named-less s (addr_now (removal_of s)) (size_now (removal_of s)) i w.named in
      let h' = shape-moves (configured-moves s h i 0 (omega (arith, h.few))) h in
      let b = removal-blocks (with_configured s i 0) (settled (removal_of s) DR-MEM-RES-OK) h'.few in
      let c = count-flag s i 0 g.size h.few ib in
      ok i n w
      (sizes-then s (with_configured s i 0) (with_removal (with_configured s i 0) (settled (removal_of s) DR-MEM-RES-OK)) (flag-sizes s i 0 g.size h.few ib) b.sizes)
      (λ k n kb. b.flags k (omega (arith, c)) ∙ flag-else s i 0 g.size h.few ib k n)
      (b.flags i (omega (arith, c)) ∙ flag-now s i 0 g.size h.few ib)
      (new-removal (with_configured s i 0) (settled (removal_of s) DR-MEM-RES-OK) h'.size (settled-arrays s g o DR-MEM-RES-OK))
      d refl

  end_step : Step s (ending s (removal_of s))
  unfolding ending
  end_step = on-pick (Step s) _ _ _ (λ e. ended _ _ refl) (λ e. ended _ _ refl)
    where
      ended : (event : Event) (reply : List ℕ) → event.kind ≡ kind_removal_end → Step s (effect event (without_removal s) reply)
      ended event reply k =
          ends (same_blocks s (without_removal s) g.facts.base.few (λ j lo hi. without-frame s j (omega arith))) (without-outstanding s g.size) k

  pub step_of : (budget : ℕ) → Step s (working s budget).effects
  step_of budget =
      on_step (λ (x : WorkStep). Step s x.effects) s (removal_of s) budget
      (record {
        on_end = end_step;
        on_nowork =
            λ i w z.
            nowork i w (removal-blocks s (settled (removal_of s) DR-MEM-RES-NOWORK) g.facts.base.few)
            (new-removal s (settled (removal_of s) DR-MEM-RES-NOWORK) g.size (settled-arrays s g o DR-MEM-RES-NOWORK))
            z refl;
        on_collect = λ i w d. unfold collects in (on-pick (Step s) _ _ _ (λ e. ok_step i _ w d) (λ e. adds-step i _ w d));
      })

-- every step leaves the blocks' sizes as they are
pub step-sizes : (s : List ℕ) (e : Effect) → Step s e → SameSizes s e.state
step-sizes s e (adds i n w b r d ev) = b.sizes
step-sizes s e (nowork i w b r z ev) = b.sizes
step-sizes s e (ok i n w b other now r d ev) = b
step-sizes s e (ends b o k) = b.sizes

-- and so does every effect
pub turn-sizes : (s : List ℕ) (e : Effect) → Turn s e → SameSizes s e.state
turn-sizes s e (leaves b r a) = b.sizes
turn-sizes s e (configures b o o' a) = b
turn-sizes s e (begins m b r p c o k) = b.sizes
turn-sizes s e (marks b r o k) = b.sizes
turn-sizes s e (steps t budget some h b r o same) =
    rw same (sizes-then s t (working t budget).effects.state b.sizes (step-sizes t (working t budget).effects (step_of t h (rw o) budget)))
