-- A piece's bytes are taken to the end of one message at most.
-- Assumes nothing.
use Prim.Native.Nat.{ℕ}
use native.Mathlib.Omega.{arith}
use mathlib.Core.Path.{◌≡◌, refl}
use mathlib.Core.Bool.{true, false}
use mathlib.Core.List.{List}
use Rattle.basics.proofs.Choice.{clash}
use Rattle.front_model.specs.Front.{Front, Part, keeps, part_of}
use Rattle.front_model.specs.Calls.{gives, taking, Pieced, piece_refused, piece_kept, piece_given, pieced}
use Rattle.front_claims.specs.Cutting.{message_in, ToItsEnd, PieceTakes, TakenToTheEnd}
use Rattle.front_claims.proofs.Taking.{PartSound, gives-end}
use Rattle.front_claims.proofs.Parts.{sound-part, part_at, set-elsewhere}
use Rattle.front_claims.proofs.Pieces.{Way, refuses, keeping, giving, refusing, way}
use Rattle.front_claims.proofs.Streams.{given-count}

given-to-end : (part q : Part) (p b m : List ℕ) (i : ℕ) → PartSound part → part ≡ keeps p → taking part b ≡ gives m i q → ToItsEnd p b i (message_in (taking part b))
unfolding taking PartSound message_in
given-to-end part q p b m i s e t =
    let s' = rw e at s in
    let t' = rw e at t in
    rw t (gives-end p b m i q s' t')

takes : (f : Front) (s j : List ℕ) (c : ℕ) (b out : List ℕ) (r : Pieced) → Way f s j c b out r → PieceTakes f c b r
unfolding piece_refused piece_kept piece_given
takes f s j c b out r (refuses n z e) =
    record { within = omega arith; none = λ y g. absurd (z y); message = λ g. absurd (clash false refl g); others = λ k h n. part_at f k h }
takes f s j c b out r (keeping p q e) =
    record { within = omega arith; none = λ y g. refl; message = λ g. absurd (clash false refl g); others = set-elsewhere f c p }
takes f s j c b out r (giving m i p q e z) =
    let s = sound-part f c q.sounds q.channel in
    record {
      within = (given-count (part_of f c) p b m i s e).1;
      none = λ y g. absurd (clash true g refl);
      message = λ g kept k. given-to-end (part_of f c) p kept b m i s k e;
      others = set-elsewhere f c p;
    }
takes f s j c b out r (refusing m i p n q e z y) =
    record { within = omega arith; none = λ x g. absurd (z x); message = λ g. absurd (clash false refl g); others = λ k h n. part_at f k h }

pub taken-to-the-end : TakenToTheEnd
taken-to-the-end f s j c b out = takes f s j c b out (pieced f s j c b out) (way f s j c b out)
