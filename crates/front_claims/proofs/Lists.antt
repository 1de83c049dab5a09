-- Lists with front calls: the calls that they stand for meet their contracts, and leave the same state and journal.
-- Assumes nothing.
use Prim.Native.Nat.{ℕ}
use mathlib.Core.Path.{◌≡◌, refl, sym, ◌∙◌}
use mathlib.Core.List.{List, [], ◌∷◌}
use borrow.Author.Tests.{eq-eqb, ne_eqb}
use Rattle.model.specs.Calls.{act, receive, outcome, accepted, refused, effect_of, pages_of, refusal_of}
use Rattle.claims.specs.Demand3.{Done, Run, after, runs, new_run}
use Rattle.claims.specs.EveryList.{Meets, answers, AllMeet}
use Rattle.basics.proofs.Choice.{pick_true, pick-false}
use Rattle.claims.proofs.ListsHold as model-proof
use Rattle.front_model.specs.Front.{Front}
use Rattle.front_model.specs.Calls.{Pieced, piece_refused, piece_kept, piece_given}
use Rattle.front_claims.specs.Lists.{FrontDone, piecing, reopening, calling, Standing, stands, stands_after, FrontMeets, AllFrontMeet, receive_of, stands_for, made_by, FrontListsHold}
use Rattle.front_claims.proofs.Pieces.{Way, refuses, keeping, giving, refusing, way}

-- what an action that is accepted gives, and one that is refused
took : (s j out : List ℕ) (c : ℕ) (m : List ℕ) → refusal_of s j out (receive c m) ≡ 0 → accepted s j out 0 (effect_of s (receive c m)) ≡ outcome s j (act (receive c m) out)
unfolding outcome pages_of
took s j out c m z = sym (pick_true _ _ _ (eq-eqb (refusal_of s j out (receive c m)) 0 z))

left : (s j out : List ℕ) (c : ℕ) (m : List ℕ) (n : ℕ) → (n ≡ 0 → ⊥) → refusal_of s j out (receive c m) ≡ n → refused s j out n ≡ outcome s j (act (receive c m) out)
unfolding outcome
left s j out c m n z e = rw e (sym (pick-false _ _ _ (ne_eqb n 0 z)))

-- a piece stands for no call, and leaves all as it was; or for one that meets its contract, and leaves what that left
data Made (u : Standing) (d : FrontDone) : Type 0 where
  nothing : stands_for u d ≡ [] → (stands u d).state ≡ u.state → (stands u d).journal ≡ u.journal → Made u d
  one :
      (x : Done) →
      stands_for u d ≡ x ∷ [] →
      Meets u.state u.journal x.call x.gave →
      x.gave.state ≡ (stands u d).state →
      x.gave.journal ≡ (stands u d).journal →
      Made u d

module _ (u : Standing) (c : ℕ) (b out : List ℕ) (f : Front) where
  made-way : (r : Pieced) → Way u.front u.state u.journal c b out r → Made u (piecing c b out r f)
  made-way r (refuses n z e) =
      nothing
      (unfold stands_for in (pick-false _ _ _ (ne_eqb _ 0 (λ x. z (sym e ∙ x)))))
      (unfold stands piece_refused in refl)
      (unfold stands piece_refused in refl)
  made-way r (keeping p q e) =
      nothing
      (unfold stands_for in (pick_true _ _ _ (eq-eqb _ 0 q.none) ∙ (rw e (unfold receive_of in refl))))
      (unfold stands piece_kept in refl)
      (unfold stands piece_kept in refl)
  made-way r (giving m i p q e z) =
      one
      (record { call = act (receive c m) out; gave = accepted u.state u.journal out 0 (effect_of u.state (receive c m)) })
      (unfold stands_for in (pick_true _ _ _ (eq-eqb _ 0 q.none) ∙ (rw e (unfold receive_of piece_given accepted in refl))))
      (unfold accepted in (answers {r = record { refusal = 0; length = _ }} (took u.state u.journal out c m z)))
      (unfold stands piece_given in refl)
      (unfold stands piece_given in refl)
  made-way r (refusing m i p n q e z y) =
      one
      (record { call = act (receive c m) out; gave = refused u.state u.journal out n })
      (unfold stands_for in (pick_true _ _ _ (eq-eqb _ 0 q.none) ∙ (rw e (unfold receive_of piece_refused refused in refl))))
      (unfold refused in (answers {r = record { refusal = n; length = 0 }} (left u.state u.journal out c m n z y)))
      (unfold stands piece_refused refused in refl)
      (unfold stands piece_refused refused in refl)

-- a call of any kind
made : (u : Standing) (d : FrontDone) → FrontMeets u d → Made u d
unfolding FrontMeets
made u (piecing c b out r f) e = made-way u c b out f r (rw e.0 (way u.front u.state u.journal c b out))
made u (reopening c r f) e = nothing (unfold stands_for in refl) (unfold stands in refl) (unfold stands in refl)
made u (calling d) e = one d (unfold stands_for in refl) e (unfold stands in refl) (unfold stands in refl)

record AllMade (u : Standing) (v : Run) (ds : List FrontDone) : Type 0 where
  meets : AllMeet v (made_by u ds)
  state : (runs v (made_by u ds)).state ≡ (stands_after u ds).state
  journal : (runs v (made_by u ds)).journal ≡ (stands_after u ds).journal

module _ (u : Standing) (v : Run) (d : FrontDone) (ds : List FrontDone) where
  made_nothing : stands_for u d ≡ [] → AllMade (stands u d) v ds → AllMade u v (d ∷ ds)
  unfolding made_by stands_after
  made_nothing e r = record { meets = rw e r.meets; state = rw e r.state; journal = rw e r.journal }

  made_one : (x : Done) → stands_for u d ≡ x ∷ [] → Meets v.state v.journal x.call x.gave → AllMade (stands u d) (after v x) ds → AllMade u v (d ∷ ds)
  unfolding made_by stands_after AllMeet runs
  made_one x e m r = record { meets = rw e (m, r.meets); state = rw e r.state; journal = rw e r.journal }

all_made : (u : Standing) (v : Run) (ds : List FrontDone) → v.state ≡ u.state → v.journal ≡ u.journal → AllFrontMeet u ds → AllMade u v ds
unfolding AllFrontMeet made_by AllMeet runs stands_after
all_made u v [] p q a = record { meets = tt; state = p; journal = q }
all_made u v (d ∷ ds) p q a = go (λ w x y. all_made (stands u d) w ds x y a.1) (made u d a.0)
  where
    go : ((w : Run) → w.state ≡ (stands u d).state → w.journal ≡ (stands u d).journal → AllMade (stands u d) w ds) → Made u d → AllMade u v (d ∷ ds)
    go later (nothing e s j) = made_nothing u v d ds e (later v (p ∙ sym s) (q ∙ sym j))
    go later (one x e m s j) = made_one u v d ds x e (rw (p, q) m) (later (after v x) (unfold after in s) (unfold after in j))

pub front-lists-hold : FrontListsHold
front-lists-hold l r j j' f ds e z a =
    let m = all_made (record { front = f; state = r.state; journal = j' }) (new_run r.state j') ds refl refl a in
    record { holds = model-proof.lists-hold l r j j' _ e z m.meets; state = m.state; journal = m.journal }
