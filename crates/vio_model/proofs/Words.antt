-- The words of an end, with another session; and soundness as facts.
-- Assumes nothing.
use mathlib.Core.Path.{◌≡◌, refl, ◌∙◌}
use mathlib.Core.Bool.{true}
use mathlib.Core.List.{List, [], ◌∷◌}
use Prim.Native.Nat.{ℕ, ◌≤◌, ◌<◌}
use native.Mathlib.Omega.{arith}
use lib.ListN.{length}
use borrow.Author.Tests.{eqb-true, ltb-true, leb-true, eq-eqb, lt-ltb, le-leb}
use Rattle.basics.specs.Choice.{pick, ◌and◌}
use Rattle.basics.proofs.Choice.{each_of, all-of}
use Rattle.vio_model.specs.declared.Session.{Session}
use Rattle.vio_model.specs.declared.Session.TheVariants.{Nothing, Asked, Agreed, Ended}
use Rattle.vio_model.specs.Layout.{end_words, ended_stage, most_versions, class_of, accepts_of, stage_of, versions_held, session_in, session_of, versions_of, session_words, with_session}
use Rattle.vio_model.specs.Versions.{accepted_list}
use Rattle.vio_model.specs.Sound.{class_limit, session_keeps, sound}

-- a list with the words up to the first version
pub on-front : (P : List ℕ → Type 0) → ((a b c d e f g : ℕ) (t : List ℕ) → P (a ∷ b ∷ c ∷ d ∷ e ∷ f ∷ g ∷ t)) → (w : List ℕ) → length w ≡ end_words → P w
on-front P h [] e = absurd (omega arith)
on-front P h (a ∷ []) e = absurd (omega arith)
on-front P h (a ∷ b ∷ []) e = absurd (omega arith)
on-front P h (a ∷ b ∷ c ∷ []) e = absurd (omega arith)
on-front P h (a ∷ b ∷ c ∷ d ∷ []) e = absurd (omega arith)
on-front P h (a ∷ b ∷ c ∷ d ∷ x ∷ []) e = absurd (omega arith)
on-front P h (a ∷ b ∷ c ∷ d ∷ x ∷ f ∷ []) e = absurd (omega arith)
on-front P h (a ∷ b ∷ c ∷ d ∷ x ∷ f ∷ g ∷ t) e = h a b c d x f g t

-- an end's words with another session: only the session is another
pub record Framed (w : List ℕ) (s : Session) : Type 0 where
  pub size : length (with_session w s) ≡ length w
  pub class : class_of (with_session w s) ≡ class_of w
  pub accepts : accepts_of (with_session w s) ≡ accepts_of w
  pub held : versions_held (with_session w s) ≡ versions_held w
  pub versions : versions_of (with_session w s) ≡ versions_of w
  pub stage : stage_of (with_session w s) ≤ ended_stage
  pub session : session_of (with_session w s) ≡ s

pub framed : (w : List ℕ) (s : Session) → length w ≡ end_words → Framed w s
framed w s e = on-front (λ v. Framed v s) (λ a b c d x f g t. go a b c d x f g t s) w e
  where
    go : (a b c d x f g : ℕ) (t : List ℕ) (s : Session) → Framed (a ∷ b ∷ c ∷ d ∷ x ∷ f ∷ g ∷ t) s
    go a b c d x f g t Nothing = unfold with_session session_words versions_of session_of session_in pick in record { size = refl; class = refl; accepts = refl; held = refl; versions = refl; stage = omega arith; session = refl }
    go a b c d x f g t (Asked i j k) = unfold with_session session_words versions_of session_of session_in pick in record { size = refl; class = refl; accepts = refl; held = refl; versions = refl; stage = omega arith; session = refl }
    go a b c d x f g t (Agreed i j k) = unfold with_session session_words versions_of session_of session_in pick in record { size = refl; class = refl; accepts = refl; held = refl; versions = refl; stage = omega arith; session = refl }
    go a b c d x f g t Ended = unfold with_session session_words versions_of session_of session_in pick in record { size = refl; class = refl; accepts = refl; held = refl; versions = refl; stage = omega arith; session = refl }

-- A sound end, as facts.
pub record SoundFacts (w : List ℕ) : Type 0 where
  pub size : length w ≡ end_words
  pub class : class_of w < class_limit
  pub accepts : accepts_of w < class_limit
  pub stage : stage_of w ≤ ended_stage
  pub few : versions_held w ≤ most_versions
  pub list : accepted_list (versions_of w) ≡ true
  pub keeps : session_keeps (versions_of w) (session_of w) ≡ true

pub sound-facts : (w : List ℕ) → sound w ≡ true → SoundFacts w
unfolding sound
sound-facts w t = let h = each_of (_ ∷ _ ∷ _ ∷ _ ∷ _ ∷ _ ∷ _ ∷ []) t in search (arith, eqb-true, ltb-true, leb-true)

pub sound-made : (w : List ℕ) → SoundFacts w → sound w ≡ true
unfolding sound
sound-made w f = all-of (_ ∷ _ ∷ _ ∷ _ ∷ _ ∷ _ ∷ _ ∷ []) (search (eq-eqb, lt-ltb, le-leb))

-- past the other tests, the session decides
pub sound-last : (w : List ℕ) → length w ≡ end_words → class_of w < class_limit → accepts_of w < class_limit → stage_of w ≤ ended_stage → versions_held w ≤ most_versions → accepted_list (versions_of w) ≡ true → sound w ≡ session_keeps (versions_of w) (session_of w)
unfolding sound ◌and◌
sound-last w a b c d e f = rw (eq-eqb _ _ a, lt-ltb _ _ b, lt-ltb _ _ c, le-leb _ _ d, le-leb _ _ e, f)

-- with another session that its versions keep
pub facts-session : (w : List ℕ) (s : Session) → SoundFacts w → session_keeps (versions_of w) s ≡ true → SoundFacts (with_session w s)
facts-session w s f k =
    let r = framed w s f.size in
    record {
      size = r.size ∙ f.size;
      class = rw r.class f.class;
      accepts = rw r.accepts f.accepts;
      stage = r.stage;
      few = rw r.held f.few;
      list = rw r.versions f.list;
      keeps = rw (r.versions, r.session) k;
    }
