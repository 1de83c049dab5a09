-- An accepted setup gives a sound end; start and receive keep it.
-- Assumes nothing.
use mathlib.Core.Path.{◌≡◌, refl}
use mathlib.Core.Bool.{true, false}
use mathlib.Core.List.{List, ◌∷◌, ◌++◌}
use Prim.Native.Nat.{ℕ, ◌+◌, ◌*◌, ◌<◌}
use native.Mathlib.Omega.{arith}
use lib.ListN.{length, take, drop}
use lib.Seq.{paste, length-paste, take-length, take_at}
use Rattle.vio_model.specs.declared.Session.TheVariants.{Nothing}
use Rattle.vio_model.specs.Layout.{version_words, first_version_word, class_of, accepts_of, versions_of, session_of, session_in, end_of}
use Rattle.vio_model.specs.Versions.{count_of, accepted_list}
use Rattle.vio_model.specs.Sound.{class_limit, session_keeps, sound}
use Rattle.vio_model.specs.Calls.{blank_end, new_end, ready}
use Rattle.vio_model.specs.TwoEnds.{SoundKept}
use Rattle.vio_model.proofs.Versions.{list-rules}
use Rattle.vio_model.proofs.Words.{sound-made}
use Rattle.vio_model.proofs.Kept.{start-keeps, receive-keeps}
use Rattle.basics.specs.Choice.{pick, ◌and◌}

module _ (class accepts : ℕ) (l : List ℕ) (taken : accepted_list l ≡ true) where
  -- the words past the versions
  free : List ℕ
  free = drop (first_version_word + length l) (blank_end class accepts (count_of l))

  laid : new_end class accepts l ≡ class ∷ accepts ∷ 0 ∷ 0 ∷ 0 ∷ 0 ∷ count_of l ∷ (l ++ free)
  unfolding new_end blank_end free
  laid = rw (take-length l)

  versions-new : versions_of (new_end class accepts l) ≡ l
  unfolding versions_of
  versions-new = rw laid (take_at l free (count_of l * version_words) (omega (arith, (list-rules l taken).whole)))

  session-new : session_of (new_end class accepts l) ≡ Nothing
  unfolding session_of session_in pick
  session-new = rw laid

  new-end : end_of (new_end class accepts l) ≡ record { class = class; accepts = accepts; versions = l; session = Nothing }
  unfolding end_of
  new-end =
      λ i. record {
        class = class_of (laid i);
        accepts = accepts_of (laid i);
        versions = versions-new i;
        session = session-new i;
      }

  new-sound : class < class_limit → accepts < class_limit → sound (new_end class accepts l) ≡ true
  unfolding new_end blank_end
  new-sound c a =
      let r = list-rules l taken in
      sound-made (new_end class accepts l)
      (record {
        size = length-paste (blank_end class accepts (count_of l)) first_version_word l (length l) (omega (arith, r.whole, r.few)) (omega arith);
        class = c;
        accepts = a;
        stage = omega arith;
        few = r.few;
        list = rw versions-new taken;
        keeps = rw session-new nothing-keeps;
      })
    where
      nothing-keeps : session_keeps (versions_of (new_end class accepts l)) Nothing ≡ true
      nothing-keeps = unfold session_keeps in refl

refused-unsound : (class accepts : ℕ) (l : List ℕ) → accepted_list l ≡ false → sound (ready class accepts l).end ≡ false
unfolding ready pick sound versions_of accepted_list ◌and◌
refused-unsound class accepts l e = rw e

pub sound-kept : SoundKept
sound-kept = record {
  after_refusal = refused-unsound;
  after_setup = λ class accepts l c a t. (new-sound class accepts l t c a, new-end class accepts l t);
  after_start = start-keeps;
  after_receive = receive-keeps;
}
