-- The contract of a piece: refused, all bytes dropped or kept, and a message given.
-- Assumes nothing.
use mathlib.Core.Path.{◌≡◌, refl, sym, ap, ◌∙◌, subst}
use mathlib.Core.Bool.{Bool, true, false, not}
use mathlib.Core.List.{List, [], ◌++◌}
use Prim.Native.Nat.{ℕ, ◌+◌, ◌-◌, ◌*◌, ◌≤◌}
use native.Mathlib.Omega.{arith}
use lib.ListN.{length, drop, set, take, length-drop}
use lib.Seq.{length-take-le, take-append-add}
use lib.Dec.{eqb, ltb}
use borrow.Author.Tests.{eqb-true, eqb-false, le-ltb, lt-ltb, ne_eqb}
use Rattle.basics.specs.Choice.{pick, ◌and◌}
use Rattle.model.specs.declared.Answer.{Answer}
use Rattle.model.specs.Layout.{channel_count, is_set, journal_words, output_bytes}
use Rattle.model.specs.State.{sound}
use Rattle.model.specs.Refusals.{refusal_in, action_refusal}
use Rattle.model.specs.Calls.{Action, act, receive, in_range, allowed, refusal_of, Outcome, outcome, accepted, refused}
use Rattle.model.specs.Promises.{ReceivePost, answered}
use Rattle.model.proofs.Calls.{on-act, row-passed}
use Rattle.basics.proofs.Choice.{and-false-right, clash, every-at, pick_true, tabulate-set}
use Rattle.front_model.specs.Front.{Front, Part, dropping, keeps, bytes_at, dropping_at, front_sound, front_sound_at, kept_at, most_kept, most_message, part_of, parts_of, unfinished}
use Rattle.front_model.specs.Calls.{taking, piece_refusal, pieced, pieced_by, piece_given, piece_kept, piece_refused}
use Rattle.front_model.specs.Promises.{PiecePost}
use Rattle.front.specs.Answers.{given_piece, kept_piece, refused_piece}
use Rattle.front.specs.Changes.{Fronts, with_bytes}
use Rattle.front.specs.Next.{Keeping, Giving}
use Rattle.front.specs.Refusals.{lent_refusal}
use Rattle.front.proofs.Changes.{Changed, few-kept, part-empty, part-kept, parts-changed, room-here, sound_empty, sound-kept}
use Rattle.front.proofs.Sounds.{sound-keeping}
use Rattle.front.proofs.Reopens.{and-true, kept-refused, kept-sound}

-- Refusals.

-- rows that refuse hide what is behind them
abbrev rows : Bool → Bool → Bool → Bool → ℕ → ℕ
rows a b d e x = pick a 8 (pick b 1 (pick d 2 (pick e 3 x)))

firsts : (a b d e : Bool) (x : ℕ) → (rows a b d e 0 ≡ 0 → ⊥) → rows a b d e x ≡ rows a b d e 0
unfolding pick
firsts true b d e x n = refl
firsts false true d e x n = refl
firsts false false true e x n = refl
firsts false false false true x n = refl
firsts false false false false x n = absurd (n refl)

module _ (f : Front) (s : List ℕ) (words bytes c : ℕ) where
  refusal-unsound : front_sound f ≡ false → 8 ≡ piece_refusal f s words bytes c
  unfolding piece_refusal refusal_in pick
  refusal-unsound e = rw (and-false-right (sound s) (front_sound f) e)

  refusal-sound : (within : Bool) → front_sound f ≡ true → within ≡ ltb c channel_count → lent_refusal s words bytes within ≡ piece_refusal f s words bytes c
  unfolding piece_refusal lent_refusal
  refusal-sound within e w = rw (and-true (sound s) (front_sound f) e, w)

  -- the receive's refusals begin with the piece's
  refusal-first : front_sound f ≡ true → (piece_refusal f s words bytes c ≡ 0 → ⊥) → action_refusal s words bytes (ltb c channel_count) true ≡ piece_refusal f s words bytes c
  unfolding piece_refusal action_refusal refusal_in
  refusal-first e = rw (and-true (sound s) (front_sound f) e) (λ n. firsts (not (sound s)) (not (eqb words journal_words)) (ltb bytes output_bytes) (not (ltb c channel_count)) _ n)

  refusal-none : front_sound f ≡ true → action_refusal s words bytes (ltb c channel_count) true ≡ 0 → piece_refusal f s words bytes c ≡ 0
  refusal-none e z = go (eqb (piece_refusal f s words bytes c) 0) refl
    where
      go : (b : Bool) → eqb (piece_refusal f s words bytes c) 0 ≡ b → piece_refusal f s words bytes c ≡ 0
      go true q = eqb-true _ 0 q
      go false q = sym (refusal-first e (eqb-false _ 0 q)) ∙ z

-- a channel out of range is refused
outside : (s : List ℕ) (words bytes : ℕ) → lent_refusal s words bytes false ≡ 0 → ⊥
unfolding lent_refusal
outside s words bytes e =
    clash true (row-passed _ _ refl (row-passed _ _ refl (row-passed _ _ refl (row-passed _ _ refl e).1).1).1).0 refl

-- Pieces.
module _ (f : Front) (s j : List ℕ) (c : ℕ) (b out : List ℕ) where
  refuses : (n : ℕ) → n ≡ piece_refusal f s (length j) (length out) c → (n ≡ 0 → ⊥) → PiecePost f s j c b out (refused_piece n) f s j out
  unfolding pieced piece_refused pick
  refuses n e d = record { same = rw (← e, ne_eqb n 0 d); kept = kept-refused f n d }

  pub piece-unsound : front_sound f ≡ false → PiecePost f s j c b out (refused_piece 8) f s j out
  piece-unsound e = refuses 8 (refusal-unsound f s (length j) (length out) c e) (λ z. omega arith)

  pub piece-outside : (n : ℕ) → front_sound f ≡ true → channel_count ≤ c → n ≡ lent_refusal s (length j) (length out) false → PiecePost f s j c b out (refused_piece n) f s j out
  piece-outside n t h e =
      refuses n (e ∙ refusal-sound f s (length j) (length out) c false t (sym (le-ltb c channel_count h))) (λ z. outside s (length j) (length out) (sym e ∙ z))

  module _ (o : Fronts f c) where
    lent : lent_refusal s (length j) (length out) true ≡ piece_refusal f s (length j) (length out) c
    lent = refusal-sound f s (length j) (length out) c true o.sounds (sym (lt-ltb c channel_count o.within))

    pub piece-refused : (n : ℕ) → n ≡ lent_refusal s (length j) (length out) true → (n ≡ 0 → ⊥) → PiecePost f s j c b out (refused_piece n) f s j out
    piece-refused n e d = refuses n (e ∙ lent) d

    -- all bytes are dropped
    dropped-part : (dropping_at f c ≡ 0 → ⊥) → part_of f c ≡ dropping
    unfolding part_of
    dropped-part d = pick_true _ _ _ (ap not (ne_eqb _ 0 d))

    dropped-parts : part_of f c ≡ dropping → parts_of f ≡ set (parts_of f) c dropping
    unfolding parts_of
    dropped-parts p = tabulate-set (part_of f) (part_of f) channel_count dropping c dropping (λ _. p) (λ i l q. refl)

    pub piece-dropped : lent_refusal s (length j) (length out) true ≡ 0 → (dropping_at f c ≡ 0 → ⊥) → PiecePost f s j c b out (kept_piece (length b)) f s j out
    unfolding pieced pieced_by piece_kept taking pick
    piece-dropped e d = record {
      same =
          rw (← lent, e, dropped-part d)
          (ap (λ l. record { refusal = 0; taken = length b; given = false; count = 0; state = s; journal = j; buffer = out; parts = l })
          (dropped-parts (dropped-part d)));
      kept = kept-sound f f o.sounds;
    }

-- a channel that drops no bytes keeps a part, which is unfinished
module _ (f : Front) (c : ℕ) (o : Fronts f c) where
  pub kept-length : length (bytes_at f c) ≡ kept_at f c
  kept-length =
      length-take-le (kept_at f c) (drop (c * most_message) f.bytes)
      (omega (arith, length-drop (c * most_message) f.bytes, few-kept f c o.sounds o.within, o.bytes, o.within))

  module _ (k : dropping_at f c ≡ 0) where
    part-is : part_of f c ≡ keeps (bytes_at f c)
    unfolding part_of pick
    part-is = rw k

    pub begins : (length (bytes_at f c) ≤ most_kept) × (unfinished (bytes_at f c) ≡ true)
    unfolding front_sound
    begins =
        let few = few-kept f c o.sounds o.within in
        (omega (arith, kept-length), sym (sound-keeping f c few k) ∙ every-at (λ i. front_sound_at f i) channel_count c o.sounds o.within)

-- all bytes are kept
pub piece-kept : (f f' : Front) (s j : List ℕ) (c : ℕ) (b out : List ℕ) → Keeping f c b → lent_refusal s (length j) (length out) true ≡ 0 → Changed f f' c (kept_at f c + length b) 0 (kept_at f c) b → PiecePost f s j c b out (kept_piece (length b)) f' s j out
unfolding pieced pieced_by piece_kept taking pick
piece-kept f f' s j c b out g e h =
    let o = g.fronts in
    record {
      same =
          rw (← lent f s j c b out o, e, part-is f c o g.unmarked, g.comes.same)
          (ap (λ l. record { refusal = 0; taken = length b; given = false; count = 0; state = s; journal = j; buffer = out; parts = l })
          (parts-changed f f' c (kept_at f c + length b) 0 (kept_at f c) b o h ∙ ap (set (parts_of f) c) (part-kept f f' c (kept_at f c) b o h)));
      kept =
          kept-sound f f'
          (sound-kept f f' c (kept_at f c) b o h (omega (arith, g.comes.few, kept-length f c o)) g.comes.begins);
    }

-- A message is given.
outcome-refusal : (s j out : List ℕ) (a : Action) → (outcome s j (act a out)).refusal ≡ refusal_of s j out a
outcome-refusal s j out a =
    on-act (λ o. o.refusal ≡ refusal_of s j out a) s j out a (λ z. unfold accepted in sym z) (λ _. unfold refused in refl)

outcome-refused : (s j out : List ℕ) (a : Action) → (refusal_of s j out a ≡ 0 → ⊥) → outcome s j (act a out) ≡ refused s j out (refusal_of s j out a)
unfolding outcome pick
outcome-refused s j out a d = rw (ne_eqb _ 0 d)

refused-fields : (a : Answer) (s s' j j' out out' : List ℕ) (n : ℕ) → answered a s' j' out' ≡ refused s j out n → (s' ≡ s) × (j' ≡ j) × (out' ≡ out)
unfolding refused
refused-fields a s s' j j' out out' n e = (ap (λ (o : Outcome). o.state) e, ap (λ (o : Outcome). o.journal) e, ap (λ (o : Outcome). o.buffer) e)

abbrev message_of : Front → ℕ → List ℕ → ℕ → List ℕ
message_of f c b end = take end (bytes_at f c ++ b)

abbrev left_by : ℕ → Part
left_by drops = pick (is_set drops) dropping (keeps [])

-- The message: none are kept, and behind the kept part.
pub message-whole : (f : Front) (c : ℕ) (b : List ℕ) (end : ℕ) → kept_at f c ≡ 0 → take end b ≡ message_of f c b end
message-whole f c b end k = rw k

pub message-joined : (f : Front) (c : ℕ) (b : List ℕ) (end drops : ℕ) → Giving f c b end drops → take end (drop (c * most_message) (with_bytes f.bytes c (kept_at f c) (take (end - kept_at f c) b))) ≡ message_of f c b end
message-joined f c b end drops g =
    let n = kept_at f c in
    let v = take (end - n) b in
    let m = kept-length f c g.fronts in
    let w : length v ≡ end - n = length-take-le (end - n) b (omega (arith, g.comes.ends)) in
    let e : n + length v ≡ end = omega (arith, g.comes.starts) in
    let x : end ≡ length (bytes_at f c) + (end - n) = omega (arith, g.comes.starts) in
    sym
    (ap (λ (k : ℕ). take k (bytes_at f c ++ b)) x
    ∙ take-append-add (bytes_at f c) b (end - n)
    ∙ sym (ap (λ (k : ℕ). take k (drop (c * most_message) (with_bytes f.bytes c n v))) (sym e)
    ∙ room-here f.bytes v (c * most_message) n (omega (arith, g.comes.most, g.fronts.within, g.fronts.bytes))))

module _ (f : Front) (s j : List ℕ) (c : ℕ) (b out : List ℕ) (end drops : ℕ) (g : Giving f c b end drops) where
  refusal_is : refusal_of s j out (receive c (message_of f c b end)) ≡ action_refusal s (length j) (length out) (ltb c channel_count) true
  unfolding refusal_of in_range allowed
  refusal_is = refl

  refusal-given : {n : ℕ} → n ≡ action_refusal s (length j) (length out) true true → n ≡ refusal_of s j out (receive c (message_of f c b end))
  refusal-given e = e ∙ sym (refusal_is ∙ rw (lt-ltb c channel_count g.fronts.within))

  pieced-given : refusal_of s j out (receive c (message_of f c b end)) ≡ 0 → pieced f s j c b out ≡ piece_given f c (end - length (bytes_at f c)) (left_by drops) (outcome s j (act (receive c (message_of f c b end)) out))
  unfolding pieced pieced_by taking pick
  pieced-given z =
      rw (
        refusal-none f s (length j) (length out) c g.fronts.sounds (sym refusal_is ∙ z),
        part-is f c g.fronts g.unmarked,
        g.comes.same,
        outcome-refusal s j out (receive c (message_of f c b end)),
        z,
      )

  pieced-refused : (n : ℕ) → n ≡ refusal_of s j out (receive c (message_of f c b end)) → (n ≡ 0 → ⊥) → pieced f s j c b out ≡ piece_refused f s j out n
  unfolding pieced pieced_by taking pick
  pieced-refused n e d = go (eqb (piece_refusal f s (length j) (length out) c) 0) refl
    where
      go : (t : Bool) → eqb (piece_refusal f s (length j) (length out) c) 0 ≡ t → pieced f s j c b out ≡ piece_refused f s j out n
      go true q =
          rw (
            eqb-true (piece_refusal f s (length j) (length out) c) 0 q,
            part-is f c g.fronts g.unmarked,
            g.comes.same,
            outcome-refusal s j out (receive c (message_of f c b end)),
            ← e,
            ne_eqb n 0 d,
          )
      go false q =
          let first = refusal-first f s (length j) (length out) c g.fronts.sounds (eqb-false _ 0 q) in
          rw q (ap (piece_refused f s j out) (sym (e ∙ refusal_is ∙ first)))

  refused-by : (n : ℕ) → n ≡ refusal_of s j out (receive c (message_of f c b end)) → (n ≡ 0 → ⊥) → PiecePost f s j c b out (refused_piece n) f s j out
  unfolding piece_refused
  refused-by n e d = record { same = sym (pieced-refused n e d); kept = kept-refused f n d }

  pub give-refused : (n : ℕ) → n ≡ action_refusal s (length j) (length out) true true → (n ≡ 0 → ⊥) → PiecePost f s j c b out (refused_piece n) f s j out
  give-refused n e d = refused-by n (refusal-given e) d

  -- the agent's answer, where it does not refuse
  module _ {a : Answer} {s' j' out' : List ℕ} (r : ReceivePost s j c (message_of f c b end) out a s' j' out') where
    answer-refusal : a.refusal ≡ refusal_of s j out (receive c (message_of f c b end))
    answer-refusal = ap (λ o. o.refusal) r ∙ outcome-refusal s j out (receive c (message_of f c b end))

    given_by : (f' : Front) (n : ℕ) (v : List ℕ) → a.refusal ≡ 0 → Changed f f' c 0 drops n v → PiecePost f s j c b out (record { refusal = 0; taken = end - length (bytes_at f c); given = true; length = a.length }) f' s' j' out'
    unfolding piece_given
    given_by f' n v z h = record {
      same =
          sym
          (pieced-given (sym answer-refusal ∙ z)
          ∙ ap (piece_given f c (end - length (bytes_at f c)) (left_by drops)) (sym r)
          ∙ ap (λ l. record { refusal = 0; taken = end - length (bytes_at f c); given = true; count = a.length; state = s'; journal = j'; buffer = out'; parts = l })
          (sym (parts-changed f f' c 0 drops n v g.fronts h ∙ ap (set (parts_of f) c) (part-empty f f' c drops n v g.fronts h))));
      kept = kept-sound f f' (sound_empty f f' c drops n v g.fronts h g.comes.mark);
    }

    pub give-done : (f' : Front) (taken : ℕ) (v : List ℕ) → taken ≡ end - kept_at f c → (a.refusal ≡ 0 → Changed f f' c 0 drops (kept_at f c) v) → ((a.refusal ≡ 0 → ⊥) → f' ≡ f) → PiecePost f s j c b out (given_piece a taken) f' s' j' out'
    unfolding pick
    give-done f' taken v t h k = go (eqb a.refusal 0) refl
      where
        go : (x : Bool) → eqb a.refusal 0 ≡ x → PiecePost f s j c b out (given_piece a taken) f' s' j' out'
        go true q =
            let z = eqb-true a.refusal 0 q in
            rw (q, t, ← kept-length f c g.fronts) (given_by f' (kept_at f c) v z (h z))
        go false q =
            let d = eqb-false a.refusal 0 q in
            let l = r ∙ outcome-refused s j out (receive c (message_of f c b end)) (λ z. d (answer-refusal ∙ z)) in
            let e = refused-fields a s s' j j' out out' _ l in
            rw (q, k d, e.0, e.1, e.2) (refused-by a.refusal answer-refusal d)

  -- the message is lent as m
  pub gives-by : (m : List ℕ) (a : Answer) (s' j' out' : List ℕ) (f' : Front) (taken : ℕ) (v : List ℕ) → m ≡ message_of f c b end → ReceivePost s j c m out a s' j' out' → taken ≡ end - kept_at f c → (a.refusal ≡ 0 → Changed f f' c 0 drops (kept_at f c) v) → ((a.refusal ≡ 0 → ⊥) → f' ≡ f) → PiecePost f s j c b out (given_piece a taken) f' s' j' out'
  gives-by m a s' j' out' f' taken v e r t h k =
      give-done {a = a} {s' = s'} {j' = j'} {out' = out'} (subst (λ (x : List ℕ). ReceivePost s j c x out a s' j' out') e r) f' taken v t h k

  -- the answer of an agent that has no refusal
  pub answer-none : (m : List ℕ) (a : Answer) (s' j' out' : List ℕ) {n : ℕ} → m ≡ message_of f c b end → ReceivePost s j c m out a s' j' out' → n ≡ action_refusal s (length j) (length out) true true → n ≡ 0 → a.refusal ≡ 0
  answer-none m a s' j' out' e r q z =
      answer-refusal {a = a} {s' = s'} {j' = j'} {out' = out'} (subst (λ (x : List ℕ). ReceivePost s j c x out a s' j' out') e r) ∙ sym (refusal-given q) ∙ z
