-- CONFIGURE record by record: the result of each, and the blocks that are configured by then.
-- Assumes nothing.
use Rattle.std.specs.Prelude.{Option, Some, None}
use Prim.Native.Nat.{ℕ, zero, suc, ◌≤◌, ◌<◌}
use native.Mathlib.Omega.{arith}
use native.Mathlib.Nat.{eq-or-lt_of_le, le_of_suc-le-suc, not-suc-le-zero}
use mathlib.Core.Path.{◌≡◌, refl, sym, ap, ◌∙◌}
use mathlib.Core.Bool.{Bool, true, false, not}
use mathlib.Core.List.{List, [], ◌∷◌, ◌++◌}
use mathlib.Core.Logic.{⊎_elim}
use lib.ListN.{length, get_or, length-append, get_or-append}
use lib.Seq.{get_or_at}
use lib.Dec.{eqb}
use borrow.Author.Tests.{eqb-true, eqb-false, ne_eqb, not-true}
use Rattle.basics.specs.Choice.{is_found}
use Rattle.model.specs.Layout.{block_at, blocks_of, with_configured, most_blocks, state_words}
use Rattle.model.specs.Blocks.{named_block}
use Rattle.model.specs.Memory.{DR-MEM-RES-OK, DR-MEM-RES-FAILURE, DR-MEM-RES-NOWORK, addr_in, size_in, Progress, one_failed, one_configured, one_unchanged, configure_at, configure_one, configured_by}
use Rattle.basics.proofs.Choice.{clash, on-pick}
use Rattle.model.proofs.View.{shape-moves}
use Rattle.model.proofs.Sounds.{named-less}
use Rattle.model.proofs.Turns.{flag-sizes, flag-now, flag-else}
use Rattle.model.proofs.Rules.{Given}
use Rattle.effects.proofs.Effects.{shape}
use Rattle.effects.proofs.MemoryEffects.{Configures, configured-all}

-- the block that a pair names is configured
unfoldable is_configured : List ℕ → Option ℕ → Bool
is_configured s (Some i) = not (eqb (block_at s i).configured 0)
is_configured s None = false

not-nowhere : (s : List ℕ) → is_configured s None ≡ true → ⊥
unfolding is_configured
not-nowhere s e = clash false refl e

not_at : (s : List ℕ) (i : ℕ) → (block_at s i).configured ≡ 0 → is_configured s (Some i) ≡ true → ⊥
unfolding is_configured
not_at s i z e = clash false refl (rw z at e)

-- What holds of each thing that a record does holds of the record.
record OnRecord (P : Progress → Type 0) (p : Progress) (addr size : ℕ) : Type 0 where
  after_failure : p.failed ≡ true → P (one_failed p)
  unknown : p.failed ≡ false → named_block p.state addr size ≡ None → P (one_failed p)
  raised : (i : ℕ) → p.failed ≡ false → named_block p.state addr size ≡ Some i → (block_at p.state i).configured ≡ 0 → P (one_configured p i)
  known : (i : ℕ) → p.failed ≡ false → named_block p.state addr size ≡ Some i → ((block_at p.state i).configured ≡ 0 → ⊥) → P (one_unchanged p)

on-record : (P : Progress → Type 0) (p : Progress) (addr size : ℕ) → OnRecord P p addr size → P (configure_one p addr size)
unfolding configure_one
on-record P p addr size o =
    on-pick P _ _ _ o.after_failure (λ f. go f (named_block p.state addr size) refl)
  where
    go : p.failed ≡ false → (x : Option ℕ) → named_block p.state addr size ≡ x → P (configure_at p x)
    go f (Some i) e =
        unfold configure_at in
        (on-pick P _ _ _ (λ z. o.raised i f e (eqb-true _ 0 z)) (λ z. o.known i f e (eqb-false _ 0 z)))
    go f None e = unfold configure_at in (o.unknown f e)

-- a record has one result, after those before it
record OneMore (l l' : List ℕ) : Type 0 where
  result : ℕ
  more : l' ≡ l ++ result ∷ []

one_more : (p : Progress) (addr size : ℕ) → OneMore p.results (configure_one p addr size).results
one_more p addr size =
    on-record (λ x. OneMore p.results x.results) p addr size
    (record {
      after_failure = λ f. unfold one_failed in record { result = DR-MEM-RES-FAILURE; more = refl };
      unknown = λ f e. unfold one_failed in record { result = DR-MEM-RES-FAILURE; more = refl };
      raised = λ i f e z. unfold one_configured in record { result = DR-MEM-RES-OK; more = refl };
      known = λ i f e z. unfold one_unchanged in record { result = DR-MEM-RES-NOWORK; more = refl };
    })

module _ (s b : List ℕ) where
  results-long : (n : ℕ) → length (configured_by s b n).results ≡ n
  unfolding configured_by
  results-long zero = refl
  results-long (suc n) =
      let o = one_more (configured_by s b n) (addr_in b n) (size_in b n) in
      rw o.more (length-append (configured_by s b n).results _ ∙ rw (results-long n) (omega arith))

  -- the results so far stay
  results-stay : (n i : ℕ) → i < n → get_or (configured_by s b (suc n)).results i 0 ≡ get_or (configured_by s b n).results i 0
  unfolding configured_by
  results-stay n i h =
      let o = one_more (configured_by s b n) (addr_in b n) (size_in b n) in
      rw o.more (get_or-append (configured_by s b n).results _ 0 i (omega (arith, results-long n)))

  pub result-then : (n i : ℕ) → i < n → get_or (configured_by s b n).results i 0 ≡ get_or (configured_by s b (suc i)).results i 0
  result-then zero i h = absurd (not-suc-le-zero h)
  result-then (suc n) i h =
      ⊎_elim
      (λ (q : i ≡ n). rw q)
      (λ (l : i < n). results-stay n i l ∙ result-then n i l)
      (eq-or-lt_of_le (le_of_suc-le-suc h))

  -- the result of one record more
  last-result : (n : ℕ) (p : Progress) (r : ℕ) → length p.results ≡ n → get_or (p.results ++ r ∷ []) n 0 ≡ r
  last-result n p r e = get_or_at p.results r [] 0 n e

-- a configured block still is, where flags rise or stay
configured-kept : (s t : List ℕ) (x : Option ℕ) → ((k : ℕ) → x ≡ Some k → ((block_at s k).configured ≡ 0 → ⊥) → (block_at t k).configured ≡ 0 → ⊥) → is_configured s x ≡ true → is_configured t x ≡ true
unfolding is_configured
configured-kept s t (Some k) f e = ap not (ne_eqb _ 0 (f k refl (eqb-false _ 0 (not-true _ e))))
configured-kept s t None f e = e

module _ (s : List ℕ) (g : Given s) (b : List ℕ) where
  -- the blocks of the records so far are configured
  AllConfigured : ℕ → Progress → Type 0
  AllConfigured n p = p.failed ≡ false → (k : ℕ) → k < n → is_configured p.state (named_block p.state (addr_in b k) (size_in b k)) ≡ true

  -- those before record n, and record n
  through : (P : ℕ → Type 0) (n : ℕ) → ((k : ℕ) → k < n → P k) → P n → (k : ℕ) → k < suc n → P k
  through P n f here k h = ⊎_elim (λ (q : k ≡ n). rw q here) (λ (l : k < n). f k l) (eq-or-lt_of_le (le_of_suc-le-suc h))

  module _ (n : ℕ) (p : Progress) (c : Configures s p) (old : AllConfigured n p) where
    raised_all : (i : ℕ) → p.failed ≡ false → named_block p.state (addr_in b n) (size_in b n) ≡ Some i → AllConfigured (suc n) (one_configured p i)
    unfolding AllConfigured one_configured
    raised_all i f e _ =
        let w = shape-moves c.moves (shape s g) in
        let l = named-less p.state (addr_in b n) (size_in b n) i e in
        let same = (flag-sizes p.state i 1 w.size w.few l).named in
        through (λ k. is_configured (with_configured p.state i 1) (named_block (with_configured p.state i 1) (addr_in b k) (size_in b k)) ≡ true) n
        (λ k h.
        rw (same (addr_in b k) (size_in b k))
        (configured-kept p.state (with_configured p.state i 1) _ (λ x q d. rises w.size w.few l x d (eqb x i) refl) (old f k h)))
        (rw (same (addr_in b n) (size_in b n), e) (unfold is_configured in rw (flag-now p.state i 1 w.size w.few l)))
      where
        rises : length p.state ≡ state_words → blocks_of p.state ≤ most_blocks → i < blocks_of p.state → (x : ℕ) → ((block_at p.state x).configured ≡ 0 → ⊥) → (y : Bool) → eqb x i ≡ y → (block_at (with_configured p.state i 1) x).configured ≡ 0 → ⊥
        rises size few l x d true y z = omega (arith, rw (eqb-true x i y) at z, flag-now p.state i 1 size few l)
        rises size few l x d false y z = d (sym (flag-else p.state i 1 size few l x (eqb-false x i y)) ∙ z)

    known-all : (i : ℕ) → p.failed ≡ false → named_block p.state (addr_in b n) (size_in b n) ≡ Some i → ((block_at p.state i).configured ≡ 0 → ⊥) → AllConfigured (suc n) (one_unchanged p)
    unfolding AllConfigured one_unchanged
    known-all i f e d _ =
        through (λ k. is_configured p.state (named_block p.state (addr_in b k) (size_in b k)) ≡ true) n
        (λ k h. old f k h)
        (rw e (unfold is_configured in (ap not (ne_eqb _ 0 d))))

  all-configured : (n : ℕ) → AllConfigured n (configured_by s b n)
  unfolding configured_by
  all-configured zero = unfold AllConfigured in (λ f k h. absurd (not-suc-le-zero h))
  all-configured (suc n) =
      on-record (AllConfigured (suc n)) (configured_by s b n) (addr_in b n) (size_in b n)
      (record {
        after_failure = λ f. failed;
        unknown = λ f e. failed;
        raised = λ i f e z. raised_all n (configured_by s b n) (configured-all s g b n) (all-configured n) i f e;
        known = λ i f e d. known-all n (configured_by s b n) (configured-all s g b n) (all-configured n) i f e d;
      })
    where
      failed : AllConfigured (suc n) (one_failed (configured_by s b n))
      failed = unfold AllConfigured one_failed in (λ f. absurd (clash true f refl))

  all-at : (n : ℕ) → AllConfigured n (configured_by s b n) → (configured_by s b n).failed ≡ false → (k : ℕ) → k < n → is_configured (configured_by s b n).state (named_block (configured_by s b n).state (addr_in b k) (size_in b k)) ≡ true
  unfolding AllConfigured
  all-at n f = f

  -- where each pair names a block, none has failed
  none-failed : (n : ℕ) → ((q : ℕ) → q < n → is_found (named_block s (addr_in b q) (size_in b q)) ≡ true) → (configured_by s b n).failed ≡ false
  unfolding configured_by
  none-failed zero f = refl
  none-failed (suc n) f =
      on-record (λ x. x.failed ≡ false) (configured_by s b n) (addr_in b n) (size_in b n)
      (record {
        after_failure = λ y. absurd (clash _ (none-failed n (λ q l. f q (omega arith))) y);
        unknown = λ y e. absurd (not_found (rw (sym ((configured-all s g b n).sizes.named (addr_in b n) (size_in b n)) ∙ e) at (f n (omega arith))));
        raised = λ i y e z. unfold one_configured in refl;
        known = λ i y e z. unfold one_unchanged in refl;
      })
    where
      none_found : is_found None ≡ false
      none_found = unfold is_found in refl

      not_found : is_found None ≡ true → ⊥
      not_found e = clash (is_found None) none_found e

  -- a record whose pair stands earlier, where each pair before it names a block
  pub repeat-result : (n k i : ℕ) → i < n → k < i → addr_in b k ≡ addr_in b i → size_in b k ≡ size_in b i → ((q : ℕ) → q < i → is_found (named_block s (addr_in b q) (size_in b q)) ≡ true) → get_or (configured_by s b n).results i 0 ≡ DR-MEM-RES-NOWORK
  repeat-result n k i h l a z f =
      result-then s b n i h ∙ here
    where
      fine : (configured_by s b i).failed ≡ false
      fine = none-failed i f

      configured : is_configured (configured_by s b i).state (named_block (configured_by s b i).state (addr_in b i) (size_in b i)) ≡ true
      configured = rw (a, z) at (all-at i (all-configured i) fine k l)

      here : get_or (configured_by s b (suc i)).results i 0 ≡ DR-MEM-RES-NOWORK
      here =
          unfold configured_by in
          (on-record (λ x. get_or x.results i 0 ≡ DR-MEM-RES-NOWORK) (configured_by s b i) (addr_in b i) (size_in b i)
          (record {
            after_failure = λ y. absurd (clash _ fine y);
            unknown = λ y e. absurd (not-nowhere (configured_by s b i).state (rw e at configured));
            raised = λ x y e d. absurd (not_at (configured_by s b i).state x d (rw e at configured));
            known = λ x y e d. unfold one_unchanged in (last-result s b i (configured_by s b i) DR-MEM-RES-NOWORK (results-long s b i));
          }))
