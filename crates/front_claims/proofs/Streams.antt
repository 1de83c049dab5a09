-- The messages of a stream, and what it leaves: they are the same however it is cut.
-- Assumes nothing.
use Prim.Native.Nat.{ℕ, zero, suc, ◌+◌, ◌≤◌}
use native.Mathlib.Omega.{arith}
use mathlib.Core.Path.{◌≡◌, refl, ap, ◌∙◌}
use mathlib.Core.List.{List, [], ◌∷◌, ◌++◌}
use lib.ListN.{length, drop}
use lib.Seq.{drop-append-add}
use Rattle.front_model.specs.Front.{Part, dropping, keeps}
use Rattle.front_model.specs.Calls.{Taking, all, gives, taking, taking_after}
use Rattle.front_claims.proofs.Taking.{PartSound, all-kept, gives_more, gives-count, gives_part, none-given, later, all_more}

unfoldable pub on_taking : {A : Type 0} → Taking → (Part → A) → (List ℕ → ℕ → Part → A) → A
on_taking (all q) f g = f q
on_taking (gives m i q) f g = g m i q

-- the messages of a stream after a part, and the part that it leaves
pub record Stream : Type 0 where
  pub messages : List (List ℕ)
  pub last : Part

abbrev pub before : List ℕ → Stream → Stream
before m r = record { messages = m ∷ r.messages; last = r.last }

abbrev pub ending : Part → Stream
ending q = record { messages = []; last = q }

-- n is above the bytes of the stream
unfoldable pub stream_of : ℕ → Part → List ℕ → Stream
stream_of zero p b = ending p
stream_of (suc n) p b = on_taking (taking p b) ending (λ m i q. before m (stream_of n q (drop i b)))

-- nothing is left
pub stream-none : (n : ℕ) (p : Part) → PartSound p → stream_of (suc n) p [] ≡ ending p
unfolding stream_of taking on_taking PartSound
stream-none n dropping s = refl
stream-none n (keeps p) s = rw (none-given p s)

-- bytes that give no message
on-later : (n k : ℕ) (t : Taking) (b d : List ℕ) → k ≡ length b → on_taking (later k t) ending (λ m i q. before m (stream_of n q (drop i (b ++ d)))) ≡ on_taking t ending (λ m i q. before m (stream_of n q (drop i d)))
unfolding on_taking later
on-later n k (all q) b d e = refl
on-later n k (gives m i q) b d e = ap (λ (l : List ℕ). before m (stream_of n q l)) (ap (λ (x : ℕ). drop (x + i) (b ++ d)) e ∙ drop-append-add b d i)

pub stream-kept : (n : ℕ) (p q : Part) (b d : List ℕ) → taking p b ≡ all q → stream_of (suc n) p (b ++ d) ≡ stream_of (suc n) q d
unfolding stream_of taking
stream-kept n dropping q b d e = let y : dropping ≡ q = cc in rw (← y) (unfold on_taking in refl)
stream-kept n (keeps p) q b d e =
    let y = all-kept p b q e in
    rw (y.0, all_more p b d q e) (on-later n (length b) (taking_after (p ++ b) d) b d refl)

-- bytes that give one
pub stream-given : (n : ℕ) (p q : Part) (b d m : List ℕ) (i : ℕ) → taking p b ≡ gives m i q → stream_of (suc n) p (b ++ d) ≡ before m (stream_of n q (drop i (b ++ d)))
unfolding stream_of taking on_taking
stream-given n dropping q b d m i e = absurd (let z : ◌≡◌ {A = ℕ} 0 1 = cc in omega arith)
stream-given n (keeps p) q b d m i e = rw (gives_more p b d m i q e)

-- what each leaves is sound, and a message takes a byte or more
pub kept-sound : (p q : Part) (b : List ℕ) → PartSound p → taking p b ≡ all q → PartSound q
unfolding taking PartSound
kept-sound dropping q b s e = let y : dropping ≡ q = cc in rw (← y) tt
kept-sound (keeps p) q b s e = let y = all-kept p b q e in rw y.0 y.1

pub given-sound : (p q : Part) (b m : List ℕ) (i : ℕ) → taking p b ≡ gives m i q → PartSound q
unfolding taking
given-sound dropping q b m i e = absurd (let z : ◌≡◌ {A = ℕ} 0 1 = cc in omega arith)
given-sound (keeps p) q b m i e = gives_part p b m i q e

pub given-count : (p q : Part) (b m : List ℕ) (i : ℕ) → PartSound p → taking p b ≡ gives m i q → (1 ≤ i) × (i ≤ length b)
unfolding taking PartSound
given-count dropping q b m i s e = absurd (let z : ◌≡◌ {A = ℕ} 0 1 = cc in omega arith)
given-count (keeps p) q b m i s e = gives-count p b m i q s e
