-- What a sound end sends fits its words, and the session that it leaves is kept by its versions.
-- Assumes nothing.
use mathlib.Core.Path.{◌≡◌, refl}
use mathlib.Core.Bool.{true, false}
use mathlib.Core.List.{List}
use Prim.Native.Nat.{ℕ, ◌^◌, ◌≤◌, ◌<◌}
use native.Mathlib.Omega.{arith}
use lib.Dec.{eqb}
use borrow.Author.Tests.{eq-eqb, eqb-true, eqb-false, lt-ltb, ltb-true, le-leb, leb-true}
use Rattle.basics.specs.Choice.{pick, ◌and◌}
use Rattle.basics.proofs.Choice.{both, join, on-pick}
use Rattle.vio_message.specs.declared.Message.{Message}
use Rattle.vio_message.specs.declared.Words.{Words}
use Rattle.vio_message.specs.Words.{InRange, unpacked}
use Rattle.vio_message.proofs.RoundTrip.{unpacked-in-range}
use Rattle.vio_model.specs.declared.Session.{Session}
use Rattle.vio_model.specs.declared.Session.TheVariants.{Nothing, Asked, Agreed, Ended}
use Rattle.vio_model.specs.declared.Effect.{Effect}
use Rattle.vio_model.specs.declared.Effect.TheVariants.{Ignored, Becomes, Sends}
use Rattle.vio_model.specs.Layout.{versions_of, End, end_of, with_session}
use Rattle.vio_model.specs.Versions.{version_limit, holds, minor_of, highest_below, count_of}
use Rattle.vio_model.specs.Sound.{class_limit, id_limit, session_keeps, sound}
use Rattle.vio_model.specs.Rules.{INFO, ACK, NACK, message, asks, asking, acknowledges, tells_lower, refuses_class, requested, acknowledged, refused, answers_open, answered, heard, is_version}
use Rattle.vio_model.specs.Calls.{silent, sending, accepted, Fits, started, received}
use Rattle.vio_model.specs.TwoEnds.{Keeps}
use Rattle.vio_model.proofs.Versions.{by_cases, ListRules, list-rules, held-range, minor-range, highest-held}
use Rattle.vio_model.proofs.Words.{framed, SoundFacts, sound-facts, sound-made, facts-session}

-- an effect that leaves an end sound
abbrev pub Good : End → Effect → Type 0
Good e Ignored = Unit {0}
Good e (Becomes s) = session_keeps e.versions s ≡ true
Good e (Sends s m) = (session_keeps e.versions s ≡ true) × InRange m

pub good-fits : (e : End) (f : Effect) → Good e f → Fits f
good-fits e Ignored g = tt
good-fits e (Becomes s) g = tt
good-fits e (Sends s m) g = g.1

-- an end whose class fits and whose list is accepted
pub record Able (e : End) : Type 0 where
  pub class : e.class < class_limit
  pub rules : ListRules e.versions

message-in-range : (subtype id class major minor : ℕ) → subtype < 2 ^ 8 → id < id_limit → class < class_limit → major < version_limit → minor < version_limit → InRange (message subtype id class major minor)
unfolding message
message-in-range subtype id class major minor a b c d e = omega arith

module _ (l : List ℕ) (id major : ℕ) (fits : id < id_limit) (held : holds l major ≡ true) where
  pub asked-keeps : session_keeps l (Asked id major (minor_of l major)) ≡ true
  unfolding session_keeps
  asked-keeps = join _ _ (lt-ltb id id_limit fits) (join _ _ held (eq-eqb (minor_of l major) _ refl))

  pub agreed-keeps : (minor : ℕ) → minor ≤ minor_of l major → session_keeps l (Agreed id major minor) ≡ true
  unfolding session_keeps
  agreed-keeps minor h = join _ _ (lt-ltb id id_limit fits) (join _ _ held (le-leb minor (minor_of l major) h))

-- an open request that is kept: its session id, and the version held that it asks for
pub record OpenFacts (l : List ℕ) (id major minor : ℕ) : Type 0 where
  pub fits : id < id_limit
  pub held : holds l major ≡ true
  pub highest : minor ≡ minor_of l major

pub open-facts : (l : List ℕ) (id major minor : ℕ) → session_keeps l (Asked id major minor) ≡ true → OpenFacts l id major minor
unfolding session_keeps
open-facts l id major minor t =
    let a = both _ _ t in
    let b = both _ _ a.1 in
    record { fits = ltb-true _ _ a.0; held = b.0; highest = eqb-true _ _ b.1 }

module _ (e : End) (able : Able e) where
  highest-range : (bound : ℕ) → highest_below e.versions bound < version_limit
  highest-range bound =
      by_cases (eqb (highest_below e.versions bound) 0)
      (λ z. omega (arith, eqb-true (highest_below e.versions bound) 0 z))
      (λ z. (held-range e.versions able.rules _ (highest-held e.versions bound (count_of e.versions) (eqb-false _ _ z)).0).1)

  asks-good : (id major : ℕ) → id < id_limit → holds e.versions major ≡ true → Good e (asks e id major)
  unfolding asks
  asks-good id major i h =
      let r = held-range e.versions able.rules major h in
      let n = minor-range e.versions able.rules major in (
        asked-keeps e.versions id major i h,
        message-in-range _ _ _ _ _ (omega arith) i able.class r.1 n,
      )

  pub asking-good : (id bound : ℕ) → id < id_limit → Good e (asking e id bound)
  unfolding asking session_keeps
  asking-good id bound i =
      on-pick (Good e) (eqb (highest_below e.versions bound) 0) _ _ (λ _. refl)
      (λ z. asks-good id _ i (highest-held e.versions bound (count_of e.versions) (eqb-false _ _ z)).0)

  -- Any session that is kept, and any minor held, would do here, and so `search` and `omega` close it: which ones they are is TwoEnds' claim.
  requested-good : (m : Message) → InRange m → session_keeps e.versions e.session ≡ true → Good e (requested e m)
  unfolding requested acknowledges tells_lower refuses_class session_keeps
  requested-good m p k =
      on-pick (Good e) (eqb m.class e.accepts) _ _
      (λ _. on-pick (Good e) (holds e.versions m.major) _ _
      (λ h. (
        agreed-keeps e.versions m.session m.major p.sessions h _ (omega arith),
        message-in-range _ _ _ _ _ (omega arith) p.sessions p.classes p.majors (omega (arith, p.minors, minor-range e.versions able.rules m.major)),
      ))
      (λ _. (
        search,
        message-in-range _ _ _ _ _ (omega arith) p.sessions p.classes (highest-range m.major) (minor-range e.versions able.rules _),
      )))
      (λ _. (search, message-in-range _ _ _ _ _ (omega arith) p.sessions p.classes p.majors p.minors))

  answers-good : (next id major minor : ℕ) (m : Message) → next < id_limit → session_keeps e.versions (Asked id major minor) ≡ true → Good e (answers_open e next id major minor m)
  unfolding answers_open acknowledged refused session_keeps
  answers-good next id major minor m i k =
      let o = open-facts e.versions id major minor k in
      on-pick (Good e) _ _ _
      (λ _. on-pick (Good e) (is_version ACK m) _ _
      (λ _. on-pick (Good e) _ _ _
      (λ t. agreed-keeps e.versions id major o.fits o.held m.minor (omega (arith, o.highest, leb-true m.minor minor (both _ _ t).1)))
      (λ _. tt))
      (λ _. on-pick (Good e) (is_version NACK m) _ _
      (λ _. on-pick (Good e) _ _ _ (λ _. refl)
      (λ _. on-pick (Good e) _ _ _ (λ _. asking-good next _ i) (λ _. tt)))
      (λ _. tt)))
      (λ _. tt)

  pub heard-good : (next : ℕ) (m : Message) → next < id_limit → InRange m → session_keeps e.versions e.session ≡ true → Good e (heard e next m)
  unfolding heard
  heard-good next m i p k =
      on-pick (Good e) (is_version INFO m) _ _ (λ _. requested-good m p k) (λ _. go e.session k)
    where
      go : (s : Session) → session_keeps e.versions s ≡ true → Good e (answered e next s m)
      go Nothing k = unfold answered in tt
      go (Asked id major minor) k = unfold answered in (answers-good next id major minor m i k)
      go (Agreed id major minor) k = unfold answered in tt
      go Ended k = unfold answered in tt

-- The words of a sound end.
pub able-of : (w : List ℕ) → SoundFacts w → Able (end_of w)
unfolding end_of
able-of w f = record { class = f.class; rules = list-rules (versions_of w) f.list }

pub keeps-session : (w : List ℕ) (s : Session) → SoundFacts w → session_keeps (versions_of w) s ≡ true → Keeps w (with_session w s)
keeps-session w s f k =
    let r = framed w s f.size in
    record {
      sounds = sound-made _ (facts-session w s f k);
      class = r.class;
      accepts = r.accepts;
      versions = r.versions;
    }

accepted-keeps : (w : List ℕ) → sound w ≡ true → (f : Effect) → Good (end_of w) f → Keeps w (accepted w f).end
unfolding accepted silent sending end_of
accepted-keeps w e Ignored g = record { sounds = e; class = refl; accepts = refl; versions = refl }
accepted-keeps w e (Becomes s) g = keeps-session w s (sound-facts w e) g
accepted-keeps w e (Sends s m) g = keeps-session w s (sound-facts w e) g.0

pub start-keeps : (w : List ℕ) (id : ℕ) → sound w ≡ true → id < id_limit → Keeps w (started w id).end
unfolding started pick
start-keeps w id e i = rw e (accepted-keeps w e _ (asking-good (end_of w) (able-of w (sound-facts w e)) id _ i))

pub receive-keeps : (w : List ℕ) (id : ℕ) (s : Words) → sound w ≡ true → id < id_limit → s.first < 2 ^ 64 → Keeps w (received w id s).end
unfolding received pick end_of
receive-keeps w id s e i h =
    let f = sound-facts w e in
    rw e
    (accepted-keeps w e _ (heard-good (end_of w) (able-of w f) id (unpacked s) i (unpacked-in-range s h) f.keeps))

-- what start and receive send fits its words
pub start_fits : (w : List ℕ) (id : ℕ) → sound w ≡ true → id < id_limit → Fits (asking (end_of w) id version_limit)
start_fits w id e i = good-fits (end_of w) (asking (end_of w) id version_limit) (asking-good (end_of w) (able-of w (sound-facts w e)) id version_limit i)

pub receive-fits : (w : List ℕ) (id : ℕ) (s : Words) → sound w ≡ true → id < id_limit → s.first < 2 ^ 64 → Fits (heard (end_of w) id (unpacked s))
unfolding end_of
receive-fits w id s e i h =
    let f = sound-facts w e in
    good-fits (end_of w) (heard (end_of w) id (unpacked s)) (heard-good (end_of w) (able-of w f) id (unpacked s) i (unpacked-in-range s h) f.keeps)
