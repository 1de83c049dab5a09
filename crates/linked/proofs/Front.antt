-- What holds of every list of calls of the proved functions, front calls among them: each call is lent the front, the state and the journal that the call before it left, and
-- what its contract tells holds of what it returned and left. Where a contract in src/ is weakened, this file is refused.
-- Assumes nothing.
use contract.Lifetimes.{Lfts}
use borrow.Fn.Kinds.{Dens, ended_of}
use denote.Triple.Clauses.{AtExit}
use Prim.Native.Nat.{ℕ, ◌<◌}
use mathlib.Core.Path.{◌≡◌, refl, ap, ◌∙◌}
use mathlib.Core.Bool.{true}
use mathlib.Core.List.{List, [], ◌∷◌}
use Rattle.model.specs.declared.Started.{Started}
use Rattle.model.specs.Blocks.{Lists}
use Rattle.model.specs.Layout.{channel_count}
use Rattle.model.specs.Promises.{SetupPost}
use Rattle.claims.specs.Demand3.{Done}
use Rattle.front_model.specs.declared.Piece.{Piece}
use Rattle.front_model.specs.Front.{Front, dropping, keeps, part_of, parts_of, front_sound}
use Rattle.front_model.specs.Calls.{Pieced, Reopened}
use Rattle.front_claims.specs.Dropping.{Dropped, ReopenLeaves}
use Rattle.front_model.specs.Promises.{pieced_back}
use Rattle.front_claims.specs.Lists.{FrontDone, Standing, stands, stands_after, FrontMeets, AllFrontMeet, FrontListHolds}
use Rattle.front_claims.specs.Lists as lists
use Rattle.front_claims.specs.Cutting.{AllWhole, Cuts, drains_in, given_in, joined, SameOf, PieceTakes, NotReopened, given_on}
use Rattle.front_claims.proofs.Lists.{front-lists-hold}
use Rattle.front_claims.proofs.Cutting.{cutting-holds}
use Rattle.front_claims.proofs.Given as goal
use Rattle.front_claims.proofs.Taken as taken
use Rattle.front_claims.proofs.Dropping as drops
use Rattle.front_claims.proofs.Reopening as reopens
use Rattle.linked.proofs.Agent.{Called, meets}
use Rattle.front.proofs.piece.Kinds as piece-kinds
use Rattle.front.proofs.piece.Reads as piece-reads
use Rattle.front.proofs.reopen.Kinds as reopen-kinds
use Rattle.front.proofs.reopen.Reads as reopen-reads

abbrev front_of : List ℕ → List ℕ → Front
front_of words bytes = record { words = words; bytes = bytes }

-- one call of a proved function, lent this front, state and journal, with what it returned and left
pub data FrontCalled (u : Standing) : FrontDone → Type 1 where
  pieced :
      (κs : Lfts 6) (a : Dens κs piece-kinds.ps) (r : Piece) (e : AtExit (ended_of 6 piece-kinds.ps piece-kinds.r) κs) →
      piece-reads.Learnt κs a r e →
      front_of a.0.now a.1.0.now ≡ u.front →
      a.1.1.0.now ≡ u.state →
      a.1.1.1.1.1.0.now ≡ u.journal →
      FrontCalled u
      (lists.piecing a.1.1.1.0 a.1.1.1.1.0.now a.1.1.1.1.1.1.0.now
      (pieced_back r (front_of e.0.now e.1.0.now) e.1.1.0.now e.1.1.1.1.1.0.now e.1.1.1.1.1.1.0.now)
      (front_of e.0.now e.1.0.now))
  reopened :
      (κs : Lfts 3) (a : Dens κs reopen-kinds.ps) (r : ℕ) (e : AtExit (ended_of 3 reopen-kinds.ps reopen-kinds.r) κs) →
      reopen-reads.Learnt κs a r e →
      front_of a.0.now a.1.0.now ≡ u.front →
      a.1.1.0.now ≡ u.state →
      FrontCalled u
      (lists.reopening a.1.1.1.0 (record { refusal = r; parts = parts_of (front_of e.0.now a.1.0.now) }) (front_of e.0.now a.1.0.now))
  called : (d : Done) → Called u.state u.journal d.call d.gave → FrontCalled u (lists.calling d)

-- a list of them, one after the other
pub data AllFrontCalled : Standing → List FrontDone → Type 1 where
  none : {u : Standing} → AllFrontCalled u []
  next : {u : Standing} (d : FrontDone) {ds : List FrontDone} → FrontCalled u d → AllFrontCalled (stands u d) ds → AllFrontCalled u (d ∷ ds)

front-meets : {u : Standing} {d : FrontDone} → FrontCalled u d → FrontMeets u d
unfolding FrontMeets
front-meets (pieced κs a r e p f s j) = let q = rw (f, s, j) at p in (q.same, refl, q.kept)
front-meets (reopened κs a r e p f s) = let q = rw (f, s) at p in (q.same, refl, q.kept)
front-meets (called d c) = meets c

all-front-meet : {u : Standing} {ds : List FrontDone} → AllFrontCalled u ds → AllFrontMeet u ds
unfolding AllFrontMeet
all-front-meet none = tt
all-front-meet (next d c cs) = (front-meets c, all-front-meet cs)

-- from a setup that is not refused: all that holds of the list of the calls that they stand for, demand 3 first
pub lists-hold : (l : Lists) (r : Started) (j j' : List ℕ) (f : Front) (ds : List FrontDone) → SetupPost l j r j' → r.refusal ≡ 0 → AllFrontCalled (record { front = f; state = r.state; journal = j' }) ds → FrontListHolds l (record { front = f; state = r.state; journal = j' }) ds
lists-hold l r j j' f ds e z c = front-lists-hold l r j j' f ds e z (all-front-meet c)

-- two cuttings of one stream
pub cuttings-hold : (c : ℕ) (u : Standing) (stream : List ℕ) (ds es : List FrontDone) → c < channel_count → front_sound u.front ≡ true → AllFrontCalled u ds → AllFrontCalled u es → Cuts c stream ds → Cuts c stream es → drains_in 0 ds ≡ drains_in 0 es → SameOf c u ds es
cuttings-hold c u stream ds es h f a b k q d = cutting-holds c u stream ds es h f (all-front-meet a) (all-front-meet b) k q d

-- messages laid end to end are the ones given
pub messages-given : (c : ℕ) (u : Standing) (ms : List (List ℕ)) (ds : List FrontDone) → c < channel_count → part_of u.front c ≡ keeps [] → AllWhole ms → AllFrontCalled u ds → Cuts c (joined ms) ds → given_in u ds ≡ ms
messages-given c u ms ds h e w a k = goal.messages-given c u ms ds h e w (all-front-meet a) k

-- a piece takes all bytes, to the end of one message at most
pub taken-to-the-end : (u : Standing) (c : ℕ) (b out : List ℕ) (r : Pieced) (f : Front) → FrontCalled u (lists.piecing c b out r f) → PieceTakes u.front c b r
unfolding FrontMeets
taken-to-the-end u c b out r f p = rw (front-meets p).0 (taken.taken-to-the-end u.front u.state u.journal c b out)

-- further bytes are taken and dropped, by one call and by any until the host reopens that channel's front
pub dropping-stays : (u : Standing) (c : ℕ) (b out : List ℕ) (r : Pieced) (f : Front) → part_of u.front c ≡ dropping → FrontCalled u (lists.piecing c b out r f) → Dropped u.front u.state u.journal c b out r
unfolding FrontMeets
dropping-stays u c b out r f d p = rw (front-meets p).0 (drops.dropping-stays u.front u.state u.journal c b out d)

pub dropped-until-reopened : (c : ℕ) (u : Standing) (ds : List FrontDone) → c < channel_count → part_of u.front c ≡ dropping → AllFrontCalled u ds → NotReopened c ds → (given_on c u ds ≡ []) × (part_of (stands_after u ds).front c ≡ dropping)
dropped-until-reopened c u ds h d a n = drops.dropped-until-reopened c u ds h d (all-front-meet a) n

-- which leaves it empty
pub reopening-empties : (u : Standing) (c : ℕ) (r : Reopened) (f : Front) → FrontCalled u (lists.reopening c r f) → ReopenLeaves u.front f u.state c r.refusal
unfolding FrontMeets
reopening-empties u c r f p =
    let q = front-meets p in
    rw q.0 (reopens.reopening-empties u.front f u.state c (q.1 ∙ ap (λ (x : Reopened). x.parts) q.0))
