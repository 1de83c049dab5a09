-- While a removal is outstanding, the block of each settled record is unconfigured: every call keeps it.
-- Assumes nothing.
use Rattle.std.specs.Prelude.{Option, Some, None}
use Prim.Native.Nat.{ℕ, ◌+◌, ◌≤◌, ◌<◌}
use native.Mathlib.Omega.{arith}
use mathlib.Core.Path.{◌≡◌, refl, ◌∙◌, sym}
use mathlib.Core.Bool.{Bool, true, false}
use mathlib.Core.List.{List}
use lib.Dec.{eqb}
use borrow.Author.Tests.{eq-eqb, eqb-true, eqb-false}
use Rattle.basics.specs.Choice.{◌or◌}
use Rattle.model.specs.declared.Removal.{Removal}
use Rattle.model.specs.Layout.{block_at, blocks_of, last_of, held_of, outstanding_of, removal_of, with_counts, most_blocks}
use Rattle.model.specs.Blocks.{named_block}
use Rattle.model.specs.Memory.{marked, DR-MEM-RES-OK, DR-MEM-RES-NOWORK}
use Rattle.model.specs.Messages.{Effect}
use Rattle.model.specs.Work.{settled, collecting, working}
use Rattle.model.specs.Calls.{accepted}
use Rattle.claims.specs.Repeats.{is_unconfigured, settled_unconfigured, address_at, size_at, Repeat}
use lib.ListN.{length, get_or, set}
use lib.Seq.{get_or-set_same, get_or-set_other}
use Rattle.model.proofs.Rules.{Given}
use Rattle.basics.proofs.Choice.{every-at, every-make, or-true}
use Rattle.model.proofs.Words.{counts-frame, loaded-arrays}
use Rattle.model.proofs.Sounds.{named-less}
use Rattle.model.proofs.Turns.{SameBlocks, SameRemoval, same_blocks, same-removal, Turn, leaves, configures, begins, marks, steps}
use Rattle.claims.proofs.Steps.{Step, adds, nowork, ok, ends, step_of}

-- the block of record i of a removal
abbrev block_of : List ℕ → Removal → ℕ → Option ℕ
block_of s m i = named_block s (address_at m i) (size_at m i)

-- the records of a removal before its position name unconfigured blocks
abbrev pub Unconfigured : List ℕ → Removal → Type 0
Unconfigured s m = (i : ℕ) → i < m.position → is_unconfigured s (block_of s m i) ≡ true

module _ (s : List ℕ) where
  settled-live : settled_unconfigured s ≡ true → eqb (outstanding_of s) 0 ≡ false → Unconfigured s (removal_of s)
  unfolding settled_unconfigured ◌or◌
  settled-live e z i h = every-at _ (removal_of s).position i (rw z at e) h

  pub settled_at : settled_unconfigured s ≡ true → outstanding_of s ≡ 1 → Unconfigured s (removal_of s)
  settled_at e one = settled-live e (rw one)

  pub settled-make : Unconfigured s (removal_of s) → settled_unconfigured s ≡ true
  unfolding settled_unconfigured
  settled-make f = rw (every-make (λ i. is_unconfigured s (block_of s (removal_of s) i)) (removal_of s).position f) (or-true _)

  pub settled-none : outstanding_of s ≡ 0 → settled_unconfigured s ≡ true
  unfolding settled_unconfigured ◌or◌
  settled-none z = rw (eq-eqb _ 0 z)

-- a block that is unconfigured still is, where flags fall or stay
unconfigured-kept : (s t : List ℕ) (x : Option ℕ) → ((k : ℕ) → x ≡ Some k → (block_at s k).configured ≡ 0 → (block_at t k).configured ≡ 0) → is_unconfigured s x ≡ true → is_unconfigured t x ≡ true
unfolding is_unconfigured
unconfigured-kept s t (Some k) f e = eq-eqb _ 0 (f k refl (eqb-true _ 0 e))
unconfigured-kept s t None f e = e

module _ (s t : List ℕ) (b : SameBlocks s t) where
  -- the blocks as before, and a removal with the pairs and the position of m
  same_kept : (m m' : Removal) → m'.position ≡ m.position → m'.address ≡ m.address → m'.size ≡ m.size → Unconfigured s m → Unconfigured t m'
  same_kept m m' p a z f i h =
      rw (a, z, b.sizes.named (address_at m i) (size_at m i))
      (unconfigured-kept s t (block_of s m i) (λ k e q. b.flags k (named-less s _ _ k e) ∙ q) (f i (omega (arith, p))))

  pub settled_same : SameRemoval s t → settled_unconfigured s ≡ true → settled_unconfigured t ≡ true
  settled_same r e = go (eqb (outstanding_of s) 0) refl
    where
      go : (x : Bool) → eqb (outstanding_of s) 0 ≡ x → settled_unconfigured t ≡ true
      go true z = settled-none t (r.outstanding ∙ eqb-true _ 0 z)
      go false z =
          settled-make t
          (rw r.removal
          (same_kept (removal_of s) (removal_of s) refl refl refl (settled-live s e z)))

-- one record more is settled
more-settled : (t : List ℕ) (m m' : Removal) → m'.position ≡ m.position + 1 → m'.address ≡ m.address → m'.size ≡ m.size → ((i : ℕ) → i < m.position → is_unconfigured t (block_of t m i) ≡ true) → is_unconfigured t (block_of t m m.position) ≡ true → Unconfigured t m'
more-settled t m m' p a z f here i h = rw (a, z) (go (eqb i m.position) refl)
  where
    go : (x : Bool) → eqb i m.position ≡ x → is_unconfigured t (block_of t m i) ≡ true
    go true e = rw (eqb-true i m.position e) here
    go false e = f i (less i m.position (omega (arith, p)) (eqb-false i m.position e))
      where
        less : (a b : ℕ) → a < b + 1 → (a ≡ b → ⊥) → a < b
        less a b l n = omega arith

-- a work step keeps it
settled-step : (s : List ℕ) (e : Effect) → Step s e → outstanding_of s ≡ 1 → settled_unconfigured s ≡ true → settled_unconfigured e.state ≡ true
settled-step s e (adds i n w b r d ev) o q =
    settled-make e.state
    (rw r.removal
    (same_kept s e.state b (removal_of s) (collecting (removal_of s) n) (unfold collecting in refl) (unfold collecting in refl) (unfold collecting in refl) (settled_at s q o)))
settled-step s e (nowork i w b r z ev) o q =
    settled-make e.state
    (rw r.removal
    (more-settled e.state (removal_of s) (settled (removal_of s) _) (unfold settled in refl) (unfold settled in refl) (unfold settled in refl)
    (same_kept s e.state b (removal_of s) (removal_of s) refl refl refl (settled_at s q o))
    (rw (b.sizes.named (address_at (removal_of s) (removal_of s).position) (size_at (removal_of s) (removal_of s).position), w.named)
    (unfold is_unconfigured in (eq-eqb _ 0 (b.flags i (named-less s _ _ i w.named) ∙ z))))))
settled-step s e (ok i n w b other now r d ev) o q =
    settled-make e.state
    (rw r.removal
    (more-settled e.state (removal_of s) (settled (removal_of s) _) (unfold settled in refl) (unfold settled in refl) (unfold settled in refl)
    (λ k h.
    rw (b.named (address_at (removal_of s) k) (size_at (removal_of s) k))
    (unconfigured-kept s e.state (block_of s (removal_of s) k) (λ x f z. falls x (named-less s _ _ x f) z (eqb x i) refl) (settled_at s q o k h)))
    (rw (b.named (address_at (removal_of s) (removal_of s).position) (size_at (removal_of s) (removal_of s).position), w.named)
    (unfold is_unconfigured in (eq-eqb _ 0 now)))))
  where
    falls : (x : ℕ) → x < blocks_of s → (block_at s x).configured ≡ 0 → (y : Bool) → eqb x i ≡ y → (block_at e.state x).configured ≡ 0
    falls x l z true y = rw (eqb-true x i y) now
    falls x l z false y = other x (eqb-false x i y) l ∙ z
settled-step s e (ends b o k) one q = settled-none e.state o

-- every effect keeps it
pub settled-turn : (s : List ℕ) (e : Effect) → Turn s e → settled_unconfigured s ≡ true → settled_unconfigured e.state ≡ true
settled-turn s e (leaves b r a) q = settled_same s e.state b r q
settled-turn s e (configures b o o' a) q = settled-none e.state o'
settled-turn s e (begins m b r p c o k) q = settled-make e.state (rw r.removal (λ i h. absurd (omega (arith, p))))
settled-turn s e (marks b r o k) q =
    settled-make e.state
    (rw r.removal
    (same_kept s e.state b (removal_of s) (marked (removal_of s)) (unfold marked in refl) (unfold marked in refl) (unfold marked in refl) (settled_at s q o)))
settled-turn s e (steps t budget some h b r o same) q =
    rw same (settled-step t (working t budget).effects (step_of t h (rw o) budget) o (settled_same s t b r q))

-- and so does counting an entry
pub counted-blocks : (s : List ℕ) (last held : ℕ) → blocks_of s ≤ most_blocks → SameBlocks s (with_counts s last held)
counted-blocks s last held few = same_blocks s (with_counts s last held) few (λ j lo hi. counts-frame s last held j (λ p q. omega arith))

pub counted-removal : (s : List ℕ) (last held : ℕ) → SameRemoval s (with_counts s last held)
counted-removal s last held = same-removal s (with_counts s last held) (λ j lo hi. counts-frame s last held j (λ p q. omega arith))

pub settled-counted : (s : List ℕ) (last held : ℕ) → blocks_of s ≤ most_blocks → settled_unconfigured s ≡ true → settled_unconfigured (with_counts s last held) ≡ true
settled-counted s last held few e =
    settled_same s (with_counts s last held) (counted-blocks s last held few) (counted-removal s last held) e

-- the removal after an accepted call is the effect's
pub accepted-removal : (s j out : List ℕ) (pages : ℕ) (e : Effect) → SameRemoval e.state (accepted s j out pages e).state
unfolding accepted
accepted-removal s j out pages e = counted-removal e.state (last_of s + 1) (held_of s + 1)

-- Each settled record that is a repeat is settled NOWORK.
abbrev pub NoworkAt : Removal → Type 0
NoworkAt m = (i k : ℕ) → i < m.position → Repeat (address_at m) (size_at m) k i → get_or m.result i 0 ≡ DR-MEM-RES-NOWORK

abbrev pub NoworkKept : List ℕ → Type 0
NoworkKept s = outstanding_of s ≡ 1 → NoworkAt (removal_of s)

pub nowork-same : (s t : List ℕ) → SameRemoval s t → NoworkKept s → NoworkKept t
nowork-same s t r q o = rw r.removal (q (sym r.outstanding ∙ o))

-- one record more, settled NOWORK if it is a repeat
nowork-more : (m : Removal) (r : ℕ) → m.position < length m.result → NoworkAt m → ((k : ℕ) → Repeat (address_at m) (size_at m) k m.position → r ≡ DR-MEM-RES-NOWORK) → NoworkAt (settled m r)
unfolding settled
nowork-more m r within old here i k h again = go (eqb i m.position) refl
  where
    go : (x : Bool) → eqb i m.position ≡ x → get_or (set m.result m.position r) i 0 ≡ DR-MEM-RES-NOWORK
    go true e =
        let p = eqb-true i m.position e in
        rw (p, get_or-set_same m.result m.position r 0 within) (here k (rw p at again))
    go false e =
        let d = eqb-false i m.position e in
        rw (get_or-set_other m.result m.position i r 0 d) (old i k (less i m.position h d) again)
      where
        less : (a b : ℕ) → a < b + 1 → (a ≡ b → ⊥) → a < b
        less a b l n = omega arith

-- a repeat's block is that of the earlier record
pub repeat-unconfigured : (s : List ℕ) → settled_unconfigured s ≡ true → outstanding_of s ≡ 1 → (k : ℕ) → Repeat (address_at (removal_of s)) (size_at (removal_of s)) k (removal_of s).position → (i : ℕ) → block_of s (removal_of s) (removal_of s).position ≡ Some i → (block_at s i).configured ≡ 0
unfolding is_unconfigured
repeat-unconfigured s q one k again i named =
    eqb-true _ 0 (rw (again.same_address, again.same_size, named) at (settled_at s q one k again.earlier))

nowork-step : (s : List ℕ) → Given s → (e : Effect) → Step s e → outstanding_of s ≡ 1 → settled_unconfigured s ≡ true → NoworkKept s → NoworkKept e.state
nowork-step s g e (adds i n w b r d ev) o q f one = rw r.removal (unfold collecting in (f o))
nowork-step s g e (nowork i w b r z ev) o q f one =
    let few = (g.facts.removal (rw o)).facts.few in
    rw r.removal (nowork-more (removal_of s) DR-MEM-RES-NOWORK (omega (arith, (loaded-arrays s).results, w.more)) (f o) (λ k again. refl))
nowork-step s g e (ok i n w b other now r d ev) o q f one =
    let few = (g.facts.removal (rw o)).facts.few in
    rw r.removal (nowork-more (removal_of s) DR-MEM-RES-OK (omega (arith, (loaded-arrays s).results, w.more)) (f o) (λ k again. absurd (d (repeat-unconfigured s q o k again i w.named))))
nowork-step s g e (ends b z k) o q f one = absurd (omega (arith, z, one))

pub nowork-turn : (s : List ℕ) (e : Effect) → Turn s e → settled_unconfigured s ≡ true → NoworkKept s → NoworkKept e.state
nowork-turn s e (leaves b r a) q f = nowork-same s e.state r f
nowork-turn s e (configures b o o' a) q f = λ one. absurd (omega (arith, o', one))
nowork-turn s e (begins m b r p c o k) q f = λ one. rw r.removal (λ i k h again. absurd (omega (arith, p)))
nowork-turn s e (marks b r o k) q f = λ one. rw r.removal (unfold marked in (f o))
nowork-turn s e (steps t budget some h b r o same) q f =
    rw same (nowork-step t h (working t budget).effects (step_of t h (rw o) budget) o (settled_same s t b r q) (nowork-same s t r f))
