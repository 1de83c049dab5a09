-- What the front has for a channel.
-- Assumes nothing.
use Prim.Native.Nat.{ℕ, ◌<◌}
use native.Mathlib.Omega.{arith}
use mathlib.Core.Path.{◌≡◌, sym, ap, ◌∙◌}
use mathlib.Core.Bool.{true}
use mathlib.Core.List.{List}
use lib.ListN.{get_or, set}
use lib.Seq.{get_or-set_same, get_or-set_other, set-get_or}
use Rattle.basics.specs.Choice.{tabulate}
use Rattle.model.specs.Layout.{channel_count, is_set}
use Rattle.basics.proofs.Choice.{tabulate-at, tabulate-length, both, every-at, on-pick}
use Rattle.front_model.specs.Front.{Front, Part, dropping, keeps, bytes_at, dropping_at, part_of, parts_of, unfinished, front_sound_at, front_sound}
use Rattle.front_claims.proofs.Taking.{PartSound}

unfinished-at : (f : Front) (c : ℕ) → front_sound_at f c ≡ true → unfinished (bytes_at f c) ≡ true
unfolding front_sound_at
unfinished-at f c g = (both _ _ (both _ _ (both _ _ g).1).1).1

pub sound-part : (f : Front) (c : ℕ) → front_sound f ≡ true → c < channel_count → PartSound (part_of f c)
unfolding front_sound part_of PartSound
sound-part f c e h =
    on-pick PartSound (is_set (dropping_at f c)) dropping (keeps (bytes_at f c))
    (λ z. tt)
    (λ z. unfinished-at f c (every-at (λ k. front_sound_at f k) channel_count c e h))

pub part_at : (f : Front) (k : ℕ) → k < channel_count → get_or (parts_of f) k dropping ≡ part_of f k
unfolding parts_of
part_at f k h = tabulate-at (part_of f) channel_count k dropping h

pub part-of : (f' : Front) (ps : List Part) (k : ℕ) (q : Part) → k < channel_count → parts_of f' ≡ ps → get_or ps k dropping ≡ q → part_of f' k ≡ q
part-of f' ps k q h e g = sym (part_at f' k h) ∙ ap (λ (l : List Part). get_or l k dropping) e ∙ g

pub set_here : (f : Front) (c : ℕ) (q : Part) → c < channel_count → get_or (set (parts_of f) c q) c dropping ≡ q
unfolding parts_of
set_here f c q h = get_or-set_same (tabulate (part_of f) channel_count) c q dropping (omega (arith, tabulate-length (part_of f) channel_count))

pub set-elsewhere : (f : Front) (c : ℕ) (q : Part) (k : ℕ) → k < channel_count → (k ≡ c → ⊥) → get_or (set (parts_of f) c q) k dropping ≡ part_of f k
set-elsewhere f c q k h n = get_or-set_other (parts_of f) c k q dropping n ∙ part_at f k h

pub part-after : (f f' : Front) (c : ℕ) (q : Part) → c < channel_count → parts_of f' ≡ set (parts_of f) c q → part_of f' c ≡ q
part-after f f' c q h e = part-of f' _ c q h e (set_here f c q h)

-- what is set as it was
pub set_same : (f : Front) (c : ℕ) (q : Part) → c < channel_count → part_of f c ≡ q → set (parts_of f) c q ≡ parts_of f
set_same f c q h e = ap (set (parts_of f) c) (sym e ∙ sym (part_at f c h)) ∙ set-get_or (parts_of f) c dropping
