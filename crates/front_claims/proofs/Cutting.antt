-- Two cuttings of one stream come to the same.
-- Assumes nothing.
use Prim.Native.Nat.{ℕ, suc, ◌+◌, ◌-◌, ◌/◌, ◌<◌, min}
use native.Mathlib.Omega.{arith}
use mathlib.Core.Path.{◌≡◌, refl, sym, ap, ◌∙◌, subst}
use mathlib.Core.Bool.{Bool, true, false}
use mathlib.Core.List.{List, [], ◌∷◌, ◌++◌}
use lib.ListN.{length, take, drop, set, take-append-drop, length-drop, length-append}
use lib.Seq.{take-append_seam}
use lib.Dec.{eqb}
use Rattle.wire.specs.BigEndian.{written}
use Rattle.basics.specs.Choice.{pick}
use Rattle.model.specs.Layout.{channel_count, entry_words, last_of, held_of, with_counts}
use Rattle.model.specs.Journal.{Entry, entries_at}
use Rattle.model.specs.Refusals.{drain_refusal}
use Rattle.model.specs.Calls.{Call, act, drain, receive, Outcome, outcome, accepted, drained, refused, effect_of}
use Rattle.claims.specs.Demand3.{Done, drained_by}
use Rattle.basics.proofs.Choice.{pick_true, pick-false}
use Rattle.claims.proofs.Lists.{meets-outcome}
use Rattle.model.proofs.Ring.{entries-in}
use Rattle.front_model.specs.Front.{Front, Part, part_of, parts_of}
use Rattle.front_model.specs.Calls.{all, gives, taking, Pieced, piece_refused, piece_kept, piece_given}
use Rattle.front_claims.specs.Lists.{FrontDone, piecing, reopening, calling, Standing, stands, stands_after, FrontMeets, AllFrontMeet}
use Rattle.front_model.specs.Promises.{FrontKept}
use Rattle.front_claims.specs.Cutting.{is_drain, Cuts, replies_in, drained_in, held_in, DrainAt, run_room, drains_in, message_in, given_in, CuttingHolds}
use Rattle.front_claims.proofs.Taking.{PartSound}
use Rattle.front_claims.proofs.Parts.{sound-part, part-after}
use Rattle.front_claims.proofs.Pieces.{Way, refuses, keeping, giving, refusing, way}
use Rattle.front_claims.proofs.Streams.{Stream, before, ending, stream_of, stream-none, stream-kept, stream-given, kept-sound, given-sound, given-count}

-- What was done: a message was given, or entries were drained.
pub data Turn : Type 0 where
  message : List ℕ → Turn
  room : ℕ → Turn

unfoldable pub turns : Standing → List FrontDone → List Turn
turns u [] = []
turns u (piecing c b out r f ∷ ds) =
    let rest = turns (stands u (piecing c b out r f)) ds in
    pick r.given (message (message_in (taking (part_of u.front c) b)) ∷ rest) rest
turns u (reopening c r f ∷ ds) = turns (stands u (reopening c r f)) ds
turns u (calling d ∷ ds) = room (run_room d.call) ∷ turns (stands u (calling d)) ds

unfoldable pub messages_in : List Turn → List (List ℕ)
messages_in [] = []
messages_in (message m ∷ ts) = m ∷ messages_in ts
messages_in (room n ∷ ts) = messages_in ts

unfoldable rooms_in : ℕ → List Turn → List DrainAt
rooms_in n [] = []
rooms_in n (message m ∷ ts) = rooms_in (n + 1) ts
rooms_in n (room k ∷ ts) = record { messages = n; room = k } ∷ rooms_in n ts

-- the drains of a list are those of its turns
rooms_same : (n : ℕ) (u : Standing) (ds : List FrontDone) → drains_in n ds ≡ rooms_in n (turns u ds)
unfolding drains_in turns rooms_in
rooms_same n u [] = refl
rooms_same n u (piecing c b out r f ∷ ds) = go (λ k. rooms_same k (stands u (piecing c b out r f)) ds) r.given
  where
    go : ((k : ℕ) → drains_in k ds ≡ rooms_in k (turns (stands u (piecing c b out r f)) ds)) → (g : Bool) → drains_in (pick g (n + 1) n) ds ≡ rooms_in n (pick g (message (message_in (taking (part_of u.front c) b)) ∷ turns (stands u (piecing c b out r f)) ds) (turns (stands u (piecing c b out r f)) ds))
    go later true = unfold pick rooms_in in (later (n + 1))
    go later false = unfold pick in (later n)
rooms_same n u (reopening c r f ∷ ds) = rooms_same n (stands u (reopening c r f)) ds
rooms_same n u (calling d ∷ ds) = ap (λ (l : List DrainAt). record { messages = n; room = run_room d.call } ∷ l) (rooms_same n (stands u (calling d)) ds)

-- and so are its messages
pub given-same : (u : Standing) (ds : List FrontDone) → given_in u ds ≡ messages_in (turns u ds)
unfolding given_in turns messages_in
given-same u [] = refl
given-same u (piecing c b out r f ∷ ds) = go (given-same (stands u (piecing c b out r f)) ds) r.given
  where
    go : given_in (stands u (piecing c b out r f)) ds ≡ messages_in (turns (stands u (piecing c b out r f)) ds) → (g : Bool) → pick g (message_in (taking (part_of u.front c) b) ∷ given_in (stands u (piecing c b out r f)) ds) (given_in (stands u (piecing c b out r f)) ds) ≡ messages_in (pick g (message (message_in (taking (part_of u.front c) b)) ∷ turns (stands u (piecing c b out r f)) ds) (turns (stands u (piecing c b out r f)) ds))
    go later true = unfold pick messages_in in (ap (λ (l : List (List ℕ)). message_in (taking (part_of u.front c) b) ∷ l) later)
    go later false = unfold pick in later
given-same u (reopening c r f ∷ ds) = given-same (stands u (reopening c r f)) ds
given-same u (calling d ∷ ds) = given-same (stands u (calling d)) ds

-- a drain after more messages is another one
rooms-later : (n k : ℕ) (d : DrainAt) (ts : List Turn) (l : List DrainAt) → rooms_in k ts ≡ d ∷ l → n < k → n < d.messages
unfolding rooms_in
rooms-later n k d [] l e h = absurd (let z : ◌≡◌ {A = ℕ} 0 1 = cc in omega arith)
rooms-later n k d (message m ∷ ts) l e h = rooms-later n (k + 1) d ts l e (omega arith)
rooms-later n k d (room x ∷ ts) l e h = let y : record { messages = k; room = x } ≡ d = cc in rw (← y) h

-- turns are known by their messages and their drains
turns-known : (n : ℕ) (ts vs : List Turn) → messages_in ts ≡ messages_in vs → rooms_in n ts ≡ rooms_in n vs → ts ≡ vs
unfolding messages_in rooms_in
turns-known n [] [] e f = refl
turns-known n [] (message m ∷ vs) e f = absurd (let z : ◌≡◌ {A = ℕ} 0 1 = cc in omega arith)
turns-known n [] (room k ∷ vs) e f = absurd (let z : ◌≡◌ {A = ℕ} 0 1 = cc in omega arith)
turns-known n (message m ∷ ts) [] e f = absurd (let z : ◌≡◌ {A = ℕ} 0 1 = cc in omega arith)
turns-known n (room k ∷ ts) [] e f = absurd (let z : ◌≡◌ {A = ℕ} 0 1 = cc in omega arith)
turns-known n (message m ∷ ts) (message x ∷ vs) e f =
    let y : m ≡ x = cc in
    let z : messages_in ts ≡ messages_in vs = cc in
    rw y (ap (λ (l : List Turn). message x ∷ l) (turns-known (n + 1) ts vs z f))
turns-known n (message m ∷ ts) (room k ∷ vs) e f = absurd (let h = rooms-later n (n + 1) (record { messages = n; room = k }) ts (rooms_in n vs) f (omega arith) in omega arith)
turns-known n (room k ∷ ts) (message m ∷ vs) e f = absurd (let h = rooms-later n (n + 1) (record { messages = n; room = k }) vs (rooms_in n ts) (sym f) (omega arith) in omega arith)
turns-known n (room k ∷ ts) (room x ∷ vs) e f =
    let y : ◌≡◌ {A = DrainAt} (record { messages = n; room = k }) (record { messages = n; room = x }) = cc in
    let z : rooms_in n ts ≡ rooms_in n vs = cc in
    rw (ap (λ (d : DrainAt). d.room) y) (ap (λ (l : List Turn). room x ∷ l) (turns-known n ts vs e z))

-- What a piece comes to, as the host sees it.
data Seen (f : Front) (s j : List ℕ) (c : ℕ) (b : List ℕ) (r : Pieced) : Type 0 where
  stay : r.given ≡ false → r.taken ≡ 0 → (r.refusal ≡ 0 → ⊥) → r.state ≡ s → r.journal ≡ j → Seen f s j c b r
  keep : (q : Part) → taking (part_of f c) b ≡ all q → r.given ≡ false → r.taken ≡ length b → r.parts ≡ set (parts_of f) c q → r.state ≡ s → r.journal ≡ j → Seen f s j c b r
  give :
      (m : List ℕ) (i : ℕ) (q : Part) (out : List ℕ) →
      taking (part_of f c) b ≡ gives m i q →
      r.given ≡ true →
      r.taken ≡ i →
      r.parts ≡ set (parts_of f) c q →
      r.state ≡ (accepted s j [] 0 (effect_of s (receive c m))).state →
      r.journal ≡ (accepted s j [] 0 (effect_of s (receive c m))).journal →
      take r.count r.buffer ≡ (effect_of s (receive c m)).reply →
      Seen f s j c b r

seen : (f : Front) (s j : List ℕ) (c : ℕ) (b out : List ℕ) (r : Pieced) → Way f s j c b out r → Seen f s j c b r
unfolding piece_refused piece_kept piece_given accepted written
seen f s j c b out r (refuses n z e) = stay refl refl z refl refl
seen f s j c b out r (keeping q p e) = keep q e refl refl refl refl refl
seen f s j c b out r (giving m i q p e z) = give m i q out e refl refl refl refl refl (take-append_seam (effect_of s (receive c m)).reply _)
seen f s j c b out r (refusing m i q n p e z y) = stay refl refl z refl refl

-- its turn, if it has one
module _ (u : Standing) (c : ℕ) (b out : List ℕ) (r : Pieced) (f : Front) (ds : List FrontDone) where
  turns-given : r.given ≡ true → turns u (piecing c b out r f ∷ ds) ≡ message (message_in (taking (part_of u.front c) b)) ∷ turns (stands u (piecing c b out r f)) ds
  unfolding turns
  turns-given e = pick_true _ _ _ e

  turns-none : r.given ≡ false → turns u (piecing c b out r f ∷ ds) ≡ turns (stands u (piecing c b out r f)) ds
  unfolding turns
  turns-none e = pick-false _ _ _ e

-- The turns of a cutting have the messages of the stream, and leave its part.
abbrev pub of_turns : ℕ → List Turn → Standing → Stream
of_turns c ts u = record { messages = messages_in ts; last = part_of u.front c }

before-turn : (c : ℕ) (m : List ℕ) (ts : List Turn) (u : Standing) → before m (of_turns c ts u) ≡ of_turns c (message m ∷ ts) u
unfolding messages_in
before-turn c m ts u = refl

no-turns : (c : ℕ) (u : Standing) → ending (part_of u.front c) ≡ of_turns c (turns u []) u
unfolding turns messages_in
no-turns c u = refl

room-turn : (c : ℕ) (u : Standing) (d : Done) (ds : List FrontDone) → of_turns c (turns (stands u (calling d)) ds) (stands_after (stands u (calling d)) ds) ≡ of_turns c (turns u (calling d ∷ ds)) (stands_after (stands u (calling d)) ds)
unfolding turns messages_in
room-turn c u d ds = refl

message-of : (m : List ℕ) (i : ℕ) (q : Part) → message_in (gives m i q) ≡ m
unfolding message_in
message-of m i q = refl

module _ (n c : ℕ) (u : Standing) (left b out : List ℕ) (r : Pieced) (f : Front) (ds : List FrontDone) (h : c < channel_count) (s : PartSound (part_of u.front c)) (shows : parts_of f ≡ r.parts) (k : FrontKept u.front f r.refusal) (e : b ≡ take (length b) left) (l : length left < n) where
  whole : left ≡ b ++ drop (length b) left
  whole = sym (take-append-drop (length b) left) ∙ ap (λ (x : List ℕ). x ++ drop (length b) left) (sym e)

  piece-stream : Seen u.front u.state u.journal c b r → ((n : ℕ) → PartSound (part_of f c) → length (drop r.taken left) < n → stream_of n (part_of f c) (drop r.taken left) ≡ of_turns c (turns (stands u (piecing c b out r f)) ds) (stands_after (stands u (piecing c b out r f)) ds)) → stream_of n (part_of u.front c) left ≡ of_turns c (turns u (piecing c b out r f ∷ ds)) (stands_after (stands u (piecing c b out r f)) ds)
  piece-stream (stay g t z y x) later =
      let same : part_of u.front c ≡ part_of f c = ap (λ (x : Front). part_of x c) (sym (k.unchanged z)) in
      let none : drop r.taken left ≡ left = ap (λ (i : ℕ). drop i left) t in
      ap (λ (p : Part). stream_of n p left) same
      ∙ ap (stream_of n (part_of f c)) (sym none)
      ∙ later n (rw (← same) s) (rw none l)
      ∙ ap (λ (ts : List Turn). of_turns c ts (stands_after (stands u (piecing c b out r f)) ds)) (sym (turns-none u c b out r f ds g))
  piece-stream (keep q w g t p y x) later =
      let now : part_of f c ≡ q = part-after u.front f c q h (shows ∙ p) in
      let rest : drop r.taken left ≡ drop (length b) left = ap (λ (i : ℕ). drop i left) t in
      let some : n ≡ suc (n - 1) = omega arith in
      ap (stream_of n (part_of u.front c)) whole
      ∙ ap (λ (i : ℕ). stream_of i (part_of u.front c) (b ++ drop (length b) left)) some
      ∙ stream-kept (n - 1) (part_of u.front c) q b (drop (length b) left) w
      ∙ ap (λ (i : ℕ). stream_of i q (drop (length b) left)) (sym some)
      ∙ ap (λ (p : Part). stream_of n p (drop (length b) left)) (sym now)
      ∙ ap (stream_of n (part_of f c)) (sym rest)
      ∙ later n (rw now (kept-sound (part_of u.front c) q b s w)) (omega (arith, length-drop r.taken left))
      ∙ ap (λ (ts : List Turn). of_turns c ts (stands_after (stands u (piecing c b out r f)) ds)) (sym (turns-none u c b out r f ds g))
  piece-stream (give m i q o w g t p y x v) later =
      let now : part_of f c ≡ q = part-after u.front f c q h (shows ∙ p) in
      let rest : drop r.taken left ≡ drop i left = ap (λ (i : ℕ). drop i left) t in
      let some : n ≡ suc (n - 1) = omega arith in
      let count = given-count (part_of u.front c) q b m i s w in
      let long : length left ≡ length b + length (drop (length b) left) = ap length whole ∙ length-append b (drop (length b) left) in
      let less : length (drop r.taken left) < n - 1 = omega (arith, length-drop r.taken left, t, long, count.0, count.1, l) in
      ap (stream_of n (part_of u.front c)) whole
      ∙ ap (λ (i : ℕ). stream_of i (part_of u.front c) (b ++ drop (length b) left)) some
      ∙ stream-given (n - 1) (part_of u.front c) q b (drop (length b) left) m i w
      ∙ ap (λ (l : List ℕ). before m (stream_of (n - 1) q (drop i l))) (sym whole)
      ∙ ap (λ (p : Part). before m (stream_of (n - 1) p (drop i left))) (sym now)
      ∙ ap (λ (l : List ℕ). before m (stream_of (n - 1) (part_of f c) l)) (sym rest)
      ∙ ap (before m) (later (n - 1) (rw now (given-sound (part_of u.front c) q b m i w)) less)
      ∙ before-turn c m (turns (stands u (piecing c b out r f)) ds) (stands_after (stands u (piecing c b out r f)) ds)
      ∙ ap (λ (x : List ℕ). of_turns c (message x ∷ turns (stands u (piecing c b out r f)) ds) (stands_after (stands u (piecing c b out r f)) ds)) (sym (ap message_in w ∙ message-of m i q))
      ∙ ap (λ (ts : List Turn). of_turns c ts (stands_after (stands u (piecing c b out r f)) ds)) (sym (turns-given u c b out r f ds g))

pub cut-stream : (n c : ℕ) (u : Standing) (left : List ℕ) (ds : List FrontDone) → c < channel_count → PartSound (part_of u.front c) → AllFrontMeet u ds → Cuts c left ds → length left < n → stream_of n (part_of u.front c) left ≡ of_turns c (turns u ds) (stands_after u ds)
unfolding AllFrontMeet FrontMeets Cuts stands_after stands
cut-stream n c u left [] h s a k l =
    let some : n ≡ suc (n - 1) = omega arith in
    ap (λ (b : List ℕ). stream_of n (part_of u.front c) b) k
    ∙ ap (λ (i : ℕ). stream_of i (part_of u.front c) []) some
    ∙ stream-none (n - 1) (part_of u.front c) s
    ∙ no-turns c u
cut-stream n c u left (piecing channel b out r f ∷ ds) h s a k l =
    let w : Way u.front u.state u.journal channel b out r = rw a.0.0 (way u.front u.state u.journal channel b out) in
    let w' = seen u.front u.state u.journal c b out r (subst (λ (x : ℕ). Way u.front u.state u.journal x b out r) k.0 w) in
    subst (λ (x : ℕ). stream_of n (part_of u.front c) left ≡ of_turns c (turns u (piecing x b out r f ∷ ds)) (stands_after (stands u (piecing x b out r f)) ds)) (sym k.0)
    (piece-stream n c u left b out r f ds h s a.0.1 a.0.2 k.1 l w'
    (λ i y x. cut-stream i c (stands u (piecing channel b out r f)) (drop r.taken left) ds h y a.1 k.2 x))
cut-stream n c u left (reopening channel r f ∷ ds) h s a k l = absurd k
cut-stream n c u left (calling d ∷ ds) h s a k l = cut-stream n c (stands u (calling d)) left ds h s a.1 k.1 l ∙ room-turn c u d ds

-- What turns leave, whatever the outputs and runs that the calls were lent.
record Played : Type 0 where
  state : List ℕ
  journal : List ℕ
  replies : List (List ℕ)
  drained : List Entry

unfoldable room_state : List ℕ → List ℕ → ℕ → List ℕ
room_state s j n = pick (eqb (drain_refusal s (length j)) 0) (with_counts s (last_of s) (held_of s - min (held_of s) n)) s

unfoldable room_entries : List ℕ → List ℕ → ℕ → List Entry
room_entries s j n = pick (eqb (drain_refusal s (length j)) 0) (entries_at j (last_of s - held_of s + 1) (min (held_of s) n)) []

unfoldable played : ℕ → List ℕ → List ℕ → List Turn → Played
played c s j [] = record { state = s; journal = j; replies = []; drained = [] }
played c s j (message m ∷ ts) =
    let e = accepted s j [] 0 (effect_of s (receive c m)) in
    let p = played c e.state e.journal ts in
    record { state = p.state; journal = p.journal; replies = (effect_of s (receive c m)).reply ∷ p.replies; drained = p.drained }
played c s j (room n ∷ ts) =
    let p = played c (room_state s j n) j ts in
    record { state = p.state; journal = p.journal; replies = p.replies; drained = room_entries s j n ++ p.drained }

-- a drain, by the room of its run
record Emptied (s j : List ℕ) (call : Call) (r : Outcome) : Type 0 where
  state : r.state ≡ room_state s j (run_room call)
  journal : r.journal ≡ j
  entries : drained_by call r ≡ room_entries s j (run_room call)

drain-room : (s j run : List ℕ) → Emptied s j (drain run) (outcome s j (drain run))
unfolding outcome room_state room_entries run_room pick drained refused drained_by
drain-room s j run = go (eqb (drain_refusal s (length j)) 0) refl
  where
    go : (b : Bool) → eqb (drain_refusal s (length j)) 0 ≡ b → Emptied s j (drain run) (outcome s j (drain run))
    go true e = record { state = rw e; journal = rw e; entries = rw e (entries-in j (last_of s - held_of s + 1) (min (held_of s) (length run / entry_words)) _) }
    go false e = record { state = rw e; journal = rw e; entries = rw (e, e) }

drain-played : (s j : List ℕ) (call : Call) (r : Outcome) → is_drain call ≡ true → r ≡ outcome s j call → Emptied s j call r
unfolding is_drain
drain-played s j (act a out) r z e = absurd (let y : ◌≡◌ {A = ℕ} 0 1 = cc in omega arith)
drain-played s j (drain run) r z e = rw e (drain-room s j run)

abbrev left_by : Standing → List (List ℕ) → List Entry → Played
left_by u replies drained = record { state = u.state; journal = u.journal; replies = replies; drained = drained }

-- a message more before what later turns leave
abbrev replying : List ℕ → Played → Played
replying m p = record { state = p.state; journal = p.journal; replies = m ∷ p.replies; drained = p.drained }

abbrev emptying : List Entry → Played → Played
emptying es p = record { state = p.state; journal = p.journal; replies = p.replies; drained = es ++ p.drained }

played-message : (c : ℕ) (s j m : List ℕ) (ts : List Turn) → played c s j (message m ∷ ts) ≡ replying (effect_of s (receive c m)).reply (played c (accepted s j [] 0 (effect_of s (receive c m))).state (accepted s j [] 0 (effect_of s (receive c m))).journal ts)
unfolding played
played-message c s j m ts = refl

played-room : (c : ℕ) (s j : List ℕ) (n : ℕ) (ts : List Turn) → played c s j (room n ∷ ts) ≡ emptying (room_entries s j n) (played c (room_state s j n) j ts)
unfolding played
played-room c s j n ts = refl

module _ (c : ℕ) (u : Standing) (b out : List ℕ) (r : Pieced) (f : Front) (ds : List FrontDone) where
  replies-given : r.given ≡ true → replies_in (piecing c b out r f ∷ ds) ≡ take r.count r.buffer ∷ replies_in ds
  unfolding replies_in
  replies-given e = pick_true _ _ _ e

  replies-none : r.given ≡ false → replies_in (piecing c b out r f ∷ ds) ≡ replies_in ds
  unfolding replies_in
  replies-none e = pick-false _ _ _ e

  none_left_lem : r.given ≡ false → r.state ≡ u.state → r.journal ≡ u.journal → (v : Standing) → played c r.state r.journal (turns (stands u (piecing c b out r f)) ds) ≡ left_by v (replies_in ds) (drained_in ds) → played c u.state u.journal (turns u (piecing c b out r f ∷ ds)) ≡ left_by v (replies_in (piecing c b out r f ∷ ds)) (drained_in ds)
  none_left_lem g y x v later =
      ap (played c u.state u.journal) (turns-none u c b out r f ds g)
      ∙ ap (λ (l : List ℕ). played c l u.journal (turns (stands u (piecing c b out r f)) ds)) (sym y)
      ∙ ap (λ (l : List ℕ). played c r.state l (turns (stands u (piecing c b out r f)) ds)) (sym x)
      ∙ later
      ∙ ap (λ (l : List (List ℕ)). left_by v l (drained_in ds)) (sym (replies-none g))

  piece-left : Seen u.front u.state u.journal c b r → (v : Standing) → played c r.state r.journal (turns (stands u (piecing c b out r f)) ds) ≡ left_by v (replies_in ds) (drained_in ds) → played c u.state u.journal (turns u (piecing c b out r f ∷ ds)) ≡ left_by v (replies_in (piecing c b out r f ∷ ds)) (drained_in ds)
  piece-left (stay g t z y x) v later = none_left_lem g y x v later
  piece-left (keep q w g t p y x) v later = none_left_lem g y x v later
  piece-left (give m i q o w g t p y x e) v later =
      ap (played c u.state u.journal) (turns-given u c b out r f ds g)
      ∙ ap (λ (l : List ℕ). played c u.state u.journal (message l ∷ turns (stands u (piecing c b out r f)) ds)) (ap message_in w ∙ message-of m i q)
      ∙ played-message c u.state u.journal m (turns (stands u (piecing c b out r f)) ds)
      ∙ ap (λ (l : List ℕ). replying (effect_of u.state (receive c m)).reply (played c l (accepted u.state u.journal [] 0 (effect_of u.state (receive c m))).journal (turns (stands u (piecing c b out r f)) ds))) (sym y)
      ∙ ap (λ (l : List ℕ). replying (effect_of u.state (receive c m)).reply (played c r.state l (turns (stands u (piecing c b out r f)) ds))) (sym x)
      ∙ ap (replying (effect_of u.state (receive c m)).reply) later
      ∙ ap (λ (l : List ℕ). left_by v (l ∷ replies_in ds) (drained_in ds)) (sym e)
      ∙ ap (λ (l : List (List ℕ)). left_by v l (drained_in ds)) (sym (replies-given g))

turns-room : (u : Standing) (d : Done) (ds : List FrontDone) → turns u (calling d ∷ ds) ≡ room (run_room d.call) ∷ turns (stands u (calling d)) ds
unfolding turns
turns-room u d ds = refl

calling-left : (c : ℕ) (u : Standing) (d : Done) (ds : List FrontDone) (v : Standing) → Emptied u.state u.journal d.call d.gave → played c d.gave.state d.gave.journal (turns (stands u (calling d)) ds) ≡ left_by v (replies_in ds) (drained_in ds) → played c u.state u.journal (turns u (calling d ∷ ds)) ≡ left_by v (replies_in (calling d ∷ ds)) (drained_by d.call d.gave ++ drained_in ds)
unfolding replies_in
calling-left c u d ds v e later =
    ap (played c u.state u.journal) (turns-room u d ds)
    ∙ played-room c u.state u.journal (run_room d.call) (turns (stands u (calling d)) ds)
    ∙ ap (λ (l : List ℕ). emptying (room_entries u.state u.journal (run_room d.call)) (played c l u.journal (turns (stands u (calling d)) ds))) (sym e.state)
    ∙ ap (λ (l : List ℕ). emptying (room_entries u.state u.journal (run_room d.call)) (played c d.gave.state l (turns (stands u (calling d)) ds))) (sym e.journal)
    ∙ ap (emptying (room_entries u.state u.journal (run_room d.call))) later
    ∙ ap (λ (es : List Entry). left_by v (replies_in ds) (es ++ drained_in ds)) (sym e.entries)

left_by_lem : (c : ℕ) (u : Standing) (left : List ℕ) (ds : List FrontDone) → AllFrontMeet u ds → Cuts c left ds → played c u.state u.journal (turns u ds) ≡ left_by (stands_after u ds) (replies_in ds) (drained_in ds)
unfolding AllFrontMeet FrontMeets Cuts stands_after stands drained_in
left_by_lem c u left [] a k = unfold played turns replies_in in refl
left_by_lem c u left (piecing channel b out r f ∷ ds) a k =
    let w : Way u.front u.state u.journal channel b out r = rw a.0.0 (way u.front u.state u.journal channel b out) in
    let w' = seen u.front u.state u.journal c b out r (subst (λ (x : ℕ). Way u.front u.state u.journal x b out r) k.0 w) in
    subst (λ (x : ℕ). played c u.state u.journal (turns u (piecing x b out r f ∷ ds)) ≡ left_by (stands_after (stands u (piecing x b out r f)) ds) (replies_in (piecing x b out r f ∷ ds)) (drained_in ds)) (sym k.0)
    (piece-left c u b out r f ds w' (stands_after (stands u (piecing c b out r f)) ds) (left_by_lem c (stands u (piecing channel b out r f)) (drop r.taken left) ds a.1 k.2))
left_by_lem c u left (reopening channel r f ∷ ds) a k = absurd k
left_by_lem c u left (calling d ∷ ds) a k =
    calling-left c u d ds (stands_after (stands u (calling d)) ds) (drain-played u.state u.journal d.call d.gave k.0 (meets-outcome a.0)) (left_by_lem c (stands u (calling d)) left ds a.1 k.1)

trail-same : (v w : Standing) (d e : List Entry) → d ≡ e → v.state ≡ w.state → v.journal ≡ w.journal → d ++ held_in v ≡ e ++ held_in w
unfolding held_in
trail-same v w d e x y z = rw (x, y, z)

-- both cuttings have the same turns
pub cutting-holds : CuttingHolds
cutting-holds c u stream ds es h f a b k q d =
    let s = sound-part u.front c f h in
    let n = suc (length stream) in
    let x = cut-stream n c u stream ds h s a k (omega arith) in
    let y = cut-stream n c u stream es h s b q (omega arith) in
    let both-streams = sym x ∙ y in
    let same : turns u ds ≡ turns u es =
    turns-known 0 (turns u ds) (turns u es) (ap (λ (z : Stream). z.messages) both-streams) (sym (rooms_same 0 u ds) ∙ d ∙ rooms_same 0 u es) in
    let left = sym (left_by_lem c u stream ds a k) ∙ ap (played c u.state u.journal) same ∙ left_by_lem c u stream es b q in
    let state = ap (λ (p : Played). p.state) left in
    let journal = ap (λ (p : Played). p.journal) left in
    record {
      replies = ap (λ (p : Played). p.replies) left;
      trail = trail-same (stands_after u ds) (stands_after u es) (drained_in ds) (drained_in es) (ap (λ (p : Played). p.drained) left) state journal;
      state = state;
      journal = journal;
      part = ap (λ (z : Stream). z.last) both-streams;
    }
