-- The theorem of two ends: each request of the starter is for a major below the one before it, and no major that both hold is above it.
-- Assumes nothing.
use mathlib.Core.Path.{◌≡◌, refl, sym, ap, ◌∙◌, subst}
use mathlib.Core.Bool.{true, false}
use mathlib.Core.List.{List, [], ◌∷◌}
use Prim.Native.Nat.{ℕ, zero, suc, ◌+◌, ◌*◌, ◌≤◌, ◌<◌, min}
use native.Mathlib.Omega.{arith}
use native.Mathlib.Nat.{min-le_left}
use lib.ListN.{length}
use lib.Dec.{eqb, ltb}
use borrow.Author.Tests.{eqb-true, eqb-false, ltb-true}
use Rattle.basics.specs.Choice.{pick, ◌and◌}
use Rattle.basics.proofs.Choice.{both, clash}
use Rattle.vio_message.specs.declared.Message.{Message}
use Rattle.vio_message.specs.declared.Words.{Words}
use Rattle.vio_message.specs.Words.{InRange, packed}
use Rattle.vio_message.proofs.RoundTrip.{unpack-pack}
use Rattle.vio_model.specs.declared.Session.{Session}
use Rattle.vio_model.specs.declared.Session.TheVariants.{Nothing, Asked, Ended}
use Rattle.vio_model.specs.declared.Effect.TheVariants.{Becomes, Sends}
use Rattle.vio_model.specs.Layout.{class_of, accepts_of, versions_of, session_of, end_of, with_session}
use Rattle.vio_model.specs.Versions.{version_limit, count_of, holds, minor_of, highest_below}
use Rattle.vio_model.specs.Sound.{id_limit, sound}
use Rattle.vio_model.specs.Rules.{INFO, NACK, message, asks, asking, heard}
use Rattle.vio_model.specs.Calls.{silent, sending, accepted, started, received}
use Rattle.vio_model.specs.TwoEnds.{none, to_other, to_starter, Exchange, sent, begun, delivered, next, exchanged, are_ids, agreed, without, EndsSettled, TwoEndsHolds, EndsRefused, WrongClassHolds, Keeps}
use Rattle.vio_model.proofs.Versions.{by_cases, ListRules, list-rules, held-range, zero-not-held, minor-none, highest-held, highest-top, highest-some, up_to, up-to-all, up-to-less}
use Rattle.vio_model.proofs.Words.{framed, sound-facts}
use Rattle.vio_model.proofs.Rules.{hears-held, hears-not-held, hears-class, hears-ack, hears-unchanged, hears-lower, asks_none, asks-some}
use Rattle.vio_model.proofs.Kept.{Good, able-of, asking-good, heard-good, keeps-session}

-- One receive of a message that fits its words, by what is heard.
module _ (w : List ℕ) (id : ℕ) (m : Message) (sounds : sound w ≡ true) (range : InRange m) where
  received-sends : (s : Session) (m' : Message) → heard (end_of w) id m ≡ Sends s m' → received w id (packed m) ≡ sending (packed m') (with_session w s)
  unfolding received pick accepted
  received-sends s m' h = rw (sounds, unpack-pack m range, h)

  received-becomes : (s : Session) → heard (end_of w) id m ≡ Becomes s → received w id (packed m) ≡ silent 0 (with_session w s)
  unfolding received pick accepted
  received-becomes s h = rw (sounds, unpack-pack m range, h)

-- what it does to an exchange
to-other : (x : Exchange) (id : ℕ) (s s' : Words) (w : List ℕ) → x.flight ≡ to_other s → received x.other id s ≡ sending s' w → next x id ≡ record { starter = x.starter; other = w; flight = to_starter s' }
unfolding next delivered sent sending pick
to-other x id s s' w f e = rw (f, e)

to-starter : (x : Exchange) (id : ℕ) (s s' : Words) (w : List ℕ) → x.flight ≡ to_starter s → received x.starter id s ≡ sending s' w → next x id ≡ record { starter = w; other = x.other; flight = to_other s' }
unfolding next delivered sent sending pick
to-starter x id s s' w f e = rw (f, e)

last-to-starter : (x : Exchange) (id : ℕ) (s : Words) (w : List ℕ) → x.flight ≡ to_starter s → received x.starter id s ≡ silent 0 w → next x id ≡ record { starter = w; other = x.other; flight = none }
unfolding next delivered sent silent pick
last-to-starter x id s w f e = rw (f, e)

-- the ends' words in an exchange of a and b: sound, with the classes and versions of a and b
pub record Between (a b : List ℕ) (x : Exchange) : Type 0 where
  pub starter : Keeps a x.starter
  pub other : Keeps b x.other

-- a request on its way: the starter's open request, for a version that it holds
pub record Asking (a b : List ℕ) (x : Exchange) (id major : ℕ) : Type 0 where
  pub between : Between a b x
  pub asked : session_of x.starter ≡ Asked id major (minor_of (versions_of a) major)
  pub flight : x.flight ≡ to_other (packed (message INFO id (class_of a) major (minor_of (versions_of a) major)))
  pub range : InRange (message INFO id (class_of a) major (minor_of (versions_of a) major))
  pub held : holds (versions_of a) major ≡ true

-- the answer on its way: the starter's request is still open, and the other end has this session
pub record Answering (a b : List ℕ) (x : Exchange) (id major : ℕ) (s : Session) (m : Message) : Type 0 where
  pub between : Between a b x
  pub asked : session_of x.starter ≡ Asked id major (minor_of (versions_of a) major)
  pub told : session_of x.other ≡ s
  pub flight : x.flight ≡ to_starter (packed m)
  pub range : InRange m

-- the list that an end keeps is accepted
kept-rules : {u v : List ℕ} → Keeps u v → ListRules (versions_of u)
kept-rules {v = v} k = list-rules _ (rw k.versions at (sound-facts v k.sounds).list)

keeps-again : {u v w : List ℕ} → Keeps u v → Keeps v w → Keeps u w
keeps-again p q = record {
  sounds = q.sounds;
  class = q.class ∙ p.class;
  accepts = q.accepts ∙ p.accepts;
  versions = q.versions ∙ p.versions;
}

-- the other end receives the request
module _ (a b : List ℕ) (x : Exchange) (id major next-id : ℕ) (fits : next-id < id_limit) (p : Asking a b x id major) where
  request : Message
  request = message INFO id (class_of a) major (minor_of (versions_of a) major)

  answers : (s : Session) (m : Message) → heard (end_of x.other) next-id request ≡ Sends s m → Answering a b (next x next-id) id major s m
  unfolding request end_of
  answers s m h =
      let w : List ℕ = x.other in
      let k = p.between.other in
      let f = sound-facts w k.sounds in
      let g : Good (end_of w) (Sends s m) = subst (Good (end_of w)) h (heard-good (end_of w) (able-of w f) next-id request fits p.range f.keeps) in
      let e = to-other x next-id _ (packed m) (with_session w s) p.flight (received-sends w next-id request k.sounds p.range s m h) in
      rw e
      (record {
        between = record { starter = p.between.starter; other = keeps-again k (keeps-session w s f g.0) };
        asked = p.asked;
        told = (framed w s f.size).session;
        flight = refl;
        range = g.1;
      })

-- the starter receives the answer
module _ (a b : List ℕ) (x : Exchange) (id major next-id : ℕ) (s : Session) (m : Message) (fits : next-id < id_limit) (p : Answering a b x id major s m) where
  good : Good (end_of x.starter) (heard (end_of x.starter) next-id m)
  unfolding end_of
  good =
      let f = sound-facts x.starter p.between.starter.sounds in
      heard-good (end_of x.starter) (able-of x.starter f) next-id m fits p.range f.keeps

  -- it sends no further request
  pub record Stops (y : Exchange) (r : Session) : Type 0 where
    pub between : Between a b y
    pub starter : session_of y.starter ≡ r
    pub other : session_of y.other ≡ s
    pub ended : y.flight ≡ none

  stops : (r : Session) → heard (end_of x.starter) next-id m ≡ Becomes r → Stops (next x next-id) r
  unfolding end_of
  stops r h =
      let w : List ℕ = x.starter in
      let k = p.between.starter in
      let f = sound-facts w k.sounds in
      let g : Good (end_of w) (Becomes r) = subst (Good (end_of w)) h good in
      let e = last-to-starter x next-id _ (with_session w r) p.flight (received-becomes w next-id m k.sounds p.range r h) in
      rw e
      (record {
        between = record { starter = keeps-again k (keeps-session w r f g); other = p.between.other };
        starter = (framed w r f.size).session;
        other = p.told;
        ended = refl;
      })

  -- it sends the next request
  asks-next : (k : ℕ) → holds (versions_of a) k ≡ true → heard (end_of x.starter) next-id m ≡ asks (end_of x.starter) next-id k → Asking a b (next x next-id) next-id k
  unfolding end_of asks
  asks-next k held h =
      let w : List ℕ = x.starter in
      let q = p.between.starter in
      let f = sound-facts w q.sounds in
      let g : Good (end_of w) (asks (end_of w) next-id k) = subst (Good (end_of w)) h good in
      let r : Session = Asked next-id k (minor_of (versions_of w) k) in
      let n : Message = message INFO next-id (class_of w) k (minor_of (versions_of w) k) in
      let e = to-starter x next-id _ (packed n) (with_session w r) p.flight (received-sends w next-id m q.sounds p.range r n h) in
      let same : n ≡ message INFO next-id (class_of a) k (minor_of (versions_of a) k) = λ i. message INFO next-id (q.class i) k (minor_of (q.versions i) k) in
      rw e
      (record {
        between = record { starter = keeps-again q (keeps-session w r f g.0); other = p.between.other };
        asked = (framed w r f.size).session ∙ ap (λ (l : List ℕ). Asked next-id k (minor_of l k)) q.versions;
        flight = ap (λ (o : Message). to_other (packed o)) same;
        range = subst InRange same g.1;
        held = held;
      })

-- no major that both hold is above this one
abbrev pub Tops : List ℕ → List ℕ → ℕ → Type 0
Tops a b major = (k : ℕ) → holds (versions_of a) k ≡ true → holds (versions_of b) k ≡ true → k ≤ major

-- after a request and its answer: the exchange is settled, or the next request is on its way, for a lower major
pub data Turn (a b : List ℕ) (major id : ℕ) (x : Exchange) : Type 0 where
  settles : EndsSettled a b x → Turn a b major id x
  goes_on_lem : (k : ℕ) → k < major → Tops a b k → Asking a b x id k → Turn a b major id x

module _ (a b : List ℕ) (x : Exchange) (id major i j : ℕ) (i-fits : i < id_limit) (j-fits : j < id_limit) (accepts : accepts_of b ≡ class_of a) (tops : Tops a b major) (p : Asking a b x id major) where
  minor : ℕ
  minor = minor_of (versions_of a) major

  lower : ℕ
  lower = min (minor_of (versions_of a) major) (minor_of (versions_of b) major)

  turn-held : holds (versions_of b) major ≡ true → EndsSettled a b (next (next x i) j)
  unfolding end_of minor lower request
  turn-held held =
      let o = p.between.other in
      let h = hears-held (end_of x.other) (versions_of b) o.versions i id (class_of a) major minor (sym accepts ∙ sym o.accepts) held in
      let q = answers a b x id major i i-fits p _ _ h in
      let y : Exchange = next x i in
      let s = q.between.starter in
      let g = hears-ack (end_of y.starter) j id (class_of a) major minor (sym s.class) q.asked lower (min-le_left minor _) in
      let z = stops a b y id major j _ _ j-fits q _ g in
      record {
        ended = z.ended;
        settled =
            agreed id major (record { by_starter = p.held; by_other = held; highest = tops }) z.starter z.other;
      }

  -- the major that the other end tells
  told : ℕ
  told = highest_below (versions_of b) major

  -- it is below the one asked, and no major that both hold is above it
  told-lower : told < major
  unfolding told
  told-lower =
      let r = held-range (versions_of a) (kept-rules p.between.starter) major p.held in
      by_cases (eqb told 0) (λ z. omega (arith, r.0, eqb-true told 0 z))
      (λ z. (highest-held (versions_of b) major (count_of (versions_of b)) (eqb-false told 0 z)).1)

  told-tops : holds (versions_of b) major ≡ false → (k : ℕ) → holds (versions_of a) k ≡ true → holds (versions_of b) k ≡ true → k ≤ told
  unfolding told
  told-tops no-held k h g =
      let other : k ≡ major → ⊥ = λ e. clash (holds (versions_of b) major) no-held (rw e at g) in
      highest-top (versions_of b) major (count_of (versions_of b)) k g (omega (arith, tops k h g))

  turn-not-held : holds (versions_of b) major ≡ false → Turn a b major j (next (next x i) j)
  unfolding end_of minor request told
  turn-not-held no-held =
      let o = p.between.other in
      let h = hears-not-held (end_of x.other) (versions_of b) o.versions i id (class_of a) major minor (sym accepts ∙ sym o.accepts) no-held in
      let q = answers a b x id major i i-fits p _ _ h in
      let y : Exchange = next x i in
      let s = q.between.starter in
      let g = hears-lower (end_of y.starter) j id (class_of a) major minor (sym s.class) q.asked told (minor_of (versions_of b) told) told-lower told-zero in
      by_cases (eqb (highest_below (versions_of a) (told + 1)) 0)
      (λ z. settles (ends q (g ∙ asks_none (end_of y.starter) j (told + 1) (rw s.versions (eqb-true _ 0 z))) (eqb-true _ 0 z)))
      (λ z. let n = eqb-false (highest_below (versions_of a) (told + 1)) 0 z in
      goes q n (g ∙ asks-some (end_of y.starter) j (told + 1) (rw s.versions n) ∙ ap (λ (l : List ℕ). asks (end_of y.starter) j (highest_below l (told + 1))) s.versions))
    where
      told-zero : told ≡ 0 → minor_of (versions_of b) told ≡ 0
      told-zero z = minor-none (versions_of b) told (count_of (versions_of b)) (rw z (zero-not-held (versions_of b) (kept-rules p.between.other)))

      answer : Message
      answer = message NACK id (class_of a) told (minor_of (versions_of b) told)

      ends : Answering a b (next x i) id major Nothing answer → heard (end_of (next x i).starter) j answer ≡ Becomes Ended → highest_below (versions_of a) (told + 1) ≡ 0 → EndsSettled a b (next (next x i) j)
      ends q h z =
          let r = stops a b (next x i) id major j _ _ j-fits q Ended h in
          record {
            ended = r.ended;
            settled = without (λ k u v. apart k u v z) r.starter r.other;
          }
        where
          apart : (k : ℕ) → holds (versions_of a) k ≡ true → holds (versions_of b) k ≡ true → highest_below (versions_of a) (told + 1) ≡ 0 → ⊥
          apart k u v z =
              let f = held-range (versions_of a) (kept-rules p.between.starter) k u in
              let l = told-tops no-held k u v in
              let m = highest-top (versions_of a) (told + 1) (count_of (versions_of a)) k u (omega arith) in
              omega (arith, f.0)

      goes : Answering a b (next x i) id major Nothing answer → (highest_below (versions_of a) (told + 1) ≡ 0 → ⊥) → heard (end_of (next x i).starter) j answer ≡ asks (end_of (next x i).starter) j (highest_below (versions_of a) (told + 1)) → Turn a b major j (next (next x i) j)
      goes q n h =
          let r = highest-held (versions_of a) (told + 1) (count_of (versions_of a)) n in
          goes_on_lem (highest_below (versions_of a) (told + 1)) (omega (arith, r.1, told-lower))
          (λ k u v. highest-top (versions_of a) (told + 1) (count_of (versions_of a)) k u (omega (arith, told-tops no-held k u v)))
          (asks-next a b (next x i) id major j _ _ j-fits q _ r.0 h)

  pub turn : Turn a b major j (next (next x i) j)
  turn = by_cases (holds (versions_of b) major) (λ h. settles (turn-held h)) turn-not-held

-- An exchange with no message on its way stays as it is.
pub stays : (x : Exchange) (ids : List ℕ) → x.flight ≡ none → exchanged x ids ≡ x
unfolding exchanged
stays x [] e = refl
stays x (id ∷ ids) e = ap (λ (y : Exchange). exchanged y ids) (still x id e) ∙ stays x ids e
  where
    still : (x : Exchange) (id : ℕ) → x.flight ≡ none → next x id ≡ x
    still x id e = unfold next delivered in rw e

first-id : (id : ℕ) (ids : List ℕ) → are_ids (id ∷ ids) ≡ true → (id < id_limit) × (are_ids ids ≡ true)
unfolding are_ids
first-id id ids t = let b = both _ _ t in (ltb-true id id_limit b.0, b.1)

-- from a request on: as many more requests as the starter holds majors at or below this one
module _ (a b : List ℕ) (accepts : accepts_of b ≡ class_of a) where
  settled-within : (n : ℕ) (x : Exchange) (id major : ℕ) (ids : List ℕ) → Asking a b x id major → Tops a b major → up_to (versions_of a) major (count_of (versions_of a)) ≤ n → n * 2 ≤ length ids → are_ids ids ≡ true → EndsSettled a b (exchanged x ids)
  unfolding exchanged
  settled-within zero x id major ids p tops h k t =
      let r = held-range (versions_of a) (kept-rules p.between.starter) major p.held in
      let l = up-to-less (versions_of a) 0 major r.0 (count_of (versions_of a)) p.held in
      absurd (omega arith)
  settled-within (suc n) x id major [] p tops h k t = absurd (omega arith)
  settled-within (suc n) x id major (i ∷ []) p tops h k t = absurd (omega arith)
  settled-within (suc n) x id major (i ∷ j ∷ ids) p tops h k t =
      let u = first-id i (j ∷ ids) t in
      let v = first-id j ids u.1 in
      go (turn a b x id major i j u.0 v.0 accepts tops p)
      (λ y m q o l. settled-within n y j m ids q o (omega (arith, l, up-to-less (versions_of a) m major l (count_of (versions_of a)) p.held)) (omega arith) v.1)
    where
      y : Exchange
      y = next (next x i) j

      go : Turn a b major j y → ((z : Exchange) (k : ℕ) → Asking a b z j k → Tops a b k → k < major → EndsSettled a b (exchanged z ids)) → EndsSettled a b (exchanged y ids)
      go (settles s) f = rw (stays y ids s.ended) s
      go (goes_on_lem k l o q) f = f y k q o l

-- the first request, for the highest major
module _ (a b : List ℕ) (id : ℕ) (sounds : sound a ≡ true) (fits : id < id_limit) where
  highest : ℕ
  highest = highest_below (versions_of a) version_limit

  starts : sound b ≡ true → Asking a b (begun a b id) id highest
  unfolding begun started accepted sending sent pick asks end_of highest
  starts s =
      let f = sound-facts a sounds in
      let n = highest-some (versions_of a) (list-rules _ f.list) in
      let h : asking (end_of a) id version_limit ≡ asks (end_of a) id highest = asks-some (end_of a) id version_limit n in
      let g : Good (end_of a) (asks (end_of a) id highest) = subst (Good (end_of a)) h (asking-good (end_of a) (able-of a f) id version_limit fits) in
      let r : Session = Asked id highest (minor_of (versions_of a) highest) in
      rw (sounds, h)
      (record {
        between = record { starter = keeps-session a r f g.0; other = record { sounds = s; class = refl; accepts = refl; versions = refl } };
        asked = (framed a r f.size).session;
        flight = refl;
        range = g.1;
        held = (highest-held (versions_of a) version_limit (count_of (versions_of a)) n).0;
      })

  tops-highest : Tops a b highest
  unfolding highest
  tops-highest k h g =
      let r = held-range (versions_of a) (list-rules _ (sound-facts a sounds).list) k h in
      highest-top (versions_of a) version_limit (count_of (versions_of a)) k h r.1

pub two_ends_lem : TwoEndsHolds
two_ends_lem a b id ids p q accepts t k =
    let u = first-id id ids t in
    settled-within a b accepts (count_of (versions_of a)) (begun a b id) id (highest a b id p u.0) ids
    (starts a b id p u.0 q) (tops-highest a b id p u.0) (up-to-all _ _ _) k u.1

-- A wrong class: the request comes back unchanged.
module _ (a b : List ℕ) (x : Exchange) (id major i j : ℕ) (i-fits : i < id_limit) (j-fits : j < id_limit) (apart : accepts_of b ≡ class_of a → ⊥) (p : Asking a b x id major) where
  turn-refused : EndsRefused (next (next x i) j)
  unfolding end_of request
  turn-refused =
      let o = p.between.other in
      let minor : ℕ = minor_of (versions_of a) major in
      let h = hears-class (end_of x.other) (versions_of b) o.versions i id (class_of a) major minor (λ e. apart (sym o.accepts ∙ sym e)) in
      let q = answers a b x id major i i-fits p _ _ h in
      let y : Exchange = next x i in
      let s = q.between.starter in
      let g = hears-unchanged (end_of y.starter) j id (class_of a) major minor (sym s.class) q.asked in
      let z = stops a b y id major j _ _ j-fits q _ g in
      record { ended = z.ended; starter = z.starter; other = z.other }

refused-within : (a b : List ℕ) (id : ℕ) (ids : List ℕ) → sound a ≡ true → sound b ≡ true → (accepts_of b ≡ class_of a → ⊥) → id < id_limit → are_ids ids ≡ true → 2 ≤ length ids → EndsRefused (exchanged (begun a b id) ids)
unfolding exchanged
refused-within a b id [] p q apart f t k = absurd (omega arith)
refused-within a b id (i ∷ []) p q apart f t k = absurd (omega arith)
refused-within a b id (i ∷ j ∷ ids) p q apart f t k =
    let u = first-id i (j ∷ ids) t in
    let v = first-id j ids u.1 in
    let r = turn-refused a b (begun a b id) id (highest a b id p f) i j u.0 v.0 apart (starts a b id p f q) in
    rw (stays (next (next (begun a b id) i) j) ids r.ended) r

pub wrong-class : WrongClassHolds
wrong-class a b id ids p q apart t k = let u = first-id id ids t in refused-within a b id ids p q apart u.0 u.1 k
