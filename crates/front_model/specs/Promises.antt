-- 02, ticket 9: the contracts of the front's functions, over the words and bytes that it is lent.
-- Assumes nothing.
use Rattle.std.specs.Prelude.{ℕ, ◌≡◌, true, List}
use Rattle.front_model.specs.declared.Piece.{Piece}
use Rattle.front_model.specs.Front.{Front, parts_of}
use Rattle.front_model.specs.Calls.{Pieced, pieced, Reopened, reopened}
use Rattle.front_model.specs.Front.{front_sound}

-- what a piece returned and left
abbrev pub pieced_back : Piece → Front → List ℕ → List ℕ → List ℕ → Pieced
pieced_back r f s j out = record {
  refusal = r.refusal;
  taken = r.taken;
  given = r.given;
  count = r.length;
  state = s;
  journal = j;
  buffer = out;
  parts = parts_of f;
}

-- what a front call leaves of the front: "has taken nothing" and, refused, changed no word or byte; accepted, it is sound
pub record FrontKept (f f' : Front) (refusal : ℕ) : Type 0 where
  pub unchanged : (refusal ≡ 0 → ⊥) → f' ≡ f
  pub sounds : refusal ≡ 0 → front_sound f' ≡ true

pub record PiecePost (f : Front) (s j : List ℕ) (c : ℕ) (b out : List ℕ) (r : Piece) (f' : Front) (s' j' out' : List ℕ) : Type 0 where
  pub same : pieced_back r f' s' j' out' ≡ pieced f s j c b out
  pub kept : FrontKept f f' r.refusal

pub record ReopenPost (f : Front) (s : List ℕ) (c refusal : ℕ) (f' : Front) : Type 0 where
  pub same : ◌≡◌ {A = Reopened} (record { refusal = refusal; parts = parts_of f' }) (reopened f s c)
  pub kept : FrontKept f f' refusal
