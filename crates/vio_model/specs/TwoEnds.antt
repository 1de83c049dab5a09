-- "If two ends accept each other, one starts and no message is lost or repeated, both end with the highest major that both hold and the lower
-- of its minors, or, if there is none, the starter knows it and the other holds none."
-- The ends are any sound words: any classes and accepted lists, in any earlier session.
-- Assumes nothing.
use Rattle.std.specs.Prelude.{ℕ, ◌*◌, ◌^◌, ◌≤◌, ◌<◌, min, ◌≡◌, Bool, true, false, List, [], ◌∷◌, length, ltb, eqb}
use Rattle.basics.specs.Choice.{pick, ◌and◌}
use Rattle.vio_message.specs.declared.Words.{Words}
use Rattle.vio_model.specs.declared.Session.TheVariants.{Nothing, Agreed, Ended}
use Rattle.vio_model.specs.Layout.{class_of, accepts_of, session_of, versions_of, end_of}
use Rattle.vio_model.specs.Versions.{count_of, holds, minor_of, accepted_list}
use Rattle.vio_model.specs.Sound.{class_limit, id_limit, sound}
use Rattle.vio_model.specs.Calls.{Outcome, message_words, new_end, ready, started, received}

-- the one message that is sent and not received yet, if any
pub data Flight : Type 0 where
  none : Flight
  to_other : Words → Flight
  to_starter : Words → Flight

-- the two ends' words, the starter's and the other's, and the message between them
pub record Exchange : Type 0 where
  pub starter : List ℕ
  pub other : List ℕ
  pub flight : Flight

-- the message of an outcome, on its way
unfoldable pub sent : (Words → Flight) → Outcome → Flight
sent way o = pick (eqb o.count message_words) (way (record { first = o.first; second = o.second })) none

-- one starts, with a session id, while no message is on its way
unfoldable pub begun : List ℕ → List ℕ → ℕ → Exchange
begun a b id = record { starter = (started a id).end; other = b; flight = sent to_other (started a id) }

-- "no message is lost or repeated": the message on its way is received once, by the end that it is for, with a session id for the request that
-- may be sent next
unfoldable pub delivered : Exchange → ℕ → Flight → Exchange
delivered x id none = x
delivered x id (to_other w) = record {
  starter = x.starter;
  other = (received x.other id w).end;
  flight = sent to_starter (received x.other id w);
}
delivered x id (to_starter w) = record {
  starter = (received x.starter id w).end;
  other = x.other;
  flight = sent to_other (received x.starter id w);
}

unfoldable pub next : Exchange → ℕ → Exchange
next x id = delivered x id x.flight

-- one receive for each session id of a list, while a message is on its way
unfoldable pub exchanged : Exchange → List ℕ → Exchange
exchanged x [] = x
exchanged x (id ∷ ids) = exchanged (next x id) ids

-- session ids: numbers of 32 bits
unfoldable pub are_ids : List ℕ → Bool
are_ids [] = true
are_ids (id ∷ ids) = ltb id id_limit and are_ids ids

-- "the highest major that both hold"
pub record HighestCommon (a b : List ℕ) (major : ℕ) : Type 0 where
  pub by_starter : holds a major ≡ true
  pub by_other : holds b major ≡ true
  pub highest : (k : ℕ) → holds a k ≡ true → holds b k ≡ true → k ≤ major

abbrev pub NoCommon : List ℕ → List ℕ → Type 0
NoCommon a b = (k : ℕ) → holds a k ≡ true → holds b k ≡ true → ⊥

-- What came of an exchange that the end a started with the end b.
pub data Settled (a b : List ℕ) (x : Exchange) : Type 0 where
  -- "both end with the highest major that both hold and the lower of its minors", under one session id
  agreed :
      (id major : ℕ) →
      HighestCommon (versions_of a) (versions_of b) major →
      session_of x.starter ≡ Agreed id major (min (minor_of (versions_of a) major) (minor_of (versions_of b) major)) →
      session_of x.other ≡ Agreed id major (min (minor_of (versions_of a) major) (minor_of (versions_of b) major)) →
      Settled a b x
  -- "or, if there is none, the starter knows it and the other holds none"
  without :
      NoCommon (versions_of a) (versions_of b) →
      session_of x.starter ≡ Ended →
      session_of x.other ≡ Nothing →
      Settled a b x

-- the exchange has ended: no message is on its way
pub record EndsSettled (a b : List ℕ) (x : Exchange) : Type 0 where
  pub ended : x.flight ≡ none
  pub settled : Settled a b x

-- The claim. Each request is received, and so is its answer: two receives a request, so that the exchange has ended within as many requests
-- as the starter holds majors. The class of the end that did not start is never sent, and so nothing is asked of the class that the starter
-- accepts.
abbrev pub TwoEndsHolds : Type 0
TwoEndsHolds =
    (a b : List ℕ) (id : ℕ) (ids : List ℕ) →
    sound a ≡ true →
    sound b ≡ true →
    accepts_of b ≡ class_of a →
    are_ids (id ∷ ids) ≡ true →
    count_of (versions_of a) * 2 ≤ length ids →
    EndsSettled a b (exchanged (begun a b id) ids)

-- "a wrong class is refused with the parameters unchanged, which ends the try"
pub record EndsRefused (x : Exchange) : Type 0 where
  pub ended : x.flight ≡ none
  pub starter : session_of x.starter ≡ Ended
  pub other : session_of x.other ≡ Nothing

abbrev pub WrongClassHolds : Type 0
WrongClassHolds =
    (a b : List ℕ) (id : ℕ) (ids : List ℕ) →
    sound a ≡ true →
    sound b ≡ true →
    (accepts_of b ≡ class_of a → ⊥) →
    are_ids (id ∷ ids) ≡ true →
    2 ≤ length ids →
    EndsRefused (exchanged (begun a b id) ids)

-- An accepted setup gives a sound end of just these classes and versions, with no session, and a refused one words that are not sound; start
-- and receive keep an end sound, and keep its classes and versions.
pub record Keeps (w w' : List ℕ) : Type 0 where
  pub sounds : sound w' ≡ true
  pub class : class_of w' ≡ class_of w
  pub accepts : accepts_of w' ≡ accepts_of w
  pub versions : versions_of w' ≡ versions_of w

pub record SoundKept : Type 0 where
  pub after_setup :
      (class accepts : ℕ) (l : List ℕ) →
      class < class_limit →
      accepts < class_limit →
      accepted_list l ≡ true →
      (sound (new_end class accepts l) ≡ true)
      × (end_of (new_end class accepts l) ≡ record { class = class; accepts = accepts; versions = l; session = Nothing })
  pub after_refusal : (class accepts : ℕ) (l : List ℕ) → accepted_list l ≡ false → sound (ready class accepts l).end ≡ false
  pub after_start : (w : List ℕ) (id : ℕ) → sound w ≡ true → id < id_limit → Keeps w (started w id).end
  pub after_receive :
      (w : List ℕ) (id : ℕ) (s : Words) →
      sound w ≡ true →
      id < id_limit →
      s.first < 2 ^ 64 →
      Keeps w (received w id s).end
